-- What a memory answers to the bursts of a request, and the reply that tells of its bytes. A memory is seen as the byte that it shows at each
-- address of the AXI4 side, none where it can't be read (this project's profile: of a word of eight bytes it shows all or none).
use Rattle.std.specs.Prelude.{◌≡◌, ℕ, ◌+◌, ◌-◌, ◌/◌, ◌%◌, ◌^◌, ◌<◌, ◌≤◌, ◌==◌, min, Bool, true, false, ◌||◌, not, List, [], ◌∷◌, map, Option, Some, None, is_none, unwrap_or, if◌then◌else◌, All}
use Rattle.std.specs.List.{range_with_len, list_any}
use Rattle.bus_words.specs.Lanes.{lane_byte, word_address}
use Rattle.tl_messages.specs.Lanes.{lane_of}
use Rattle.tl_messages.specs.Operations.{reply_has_data}
use Rattle.tl_messages.specs.Requests.{WholeRequest}
use Rattle.tl_messages.specs.declared.DBeat.{DBeat}
use Rattle.axi_beats.specs.Responses.{is_okay, is_slverr, is_decerr}
use Rattle.axi_beats.specs.declared.RBeat.{RBeat}
use Rattle.axi_beats.specs.declared.Resp.{Resp}
use Rattle.data_unit.specs.Words.{value}
use Rattle.responses.specs.Gathered.{GatherState, Gathering, after_b, after_r, gathering_of, holds_number, is_atomic, reads_of}
use Rattle.responses.specs.Shown.{Reply, shown}
use Rattle.responses.specs.declared.gather.Outline.{Outline}

-- the answers to a request: its reads, each with its place, in the order in which they came, and the responses to its writes after them
pub record Answers : Type 0 where
  pub reads : List (ℕ × RBeat)
  pub writes : List Resp

-- what is gathered after reads
abbrev pub after_reads : ℕ → Outline → List (ℕ × RBeat) → Gathering → Gathering
after_reads bus_bytes outline [] gathering = gathering
after_reads bus_bytes outline (read ∷ reads) gathering = after_reads bus_bytes outline reads (after_r bus_bytes outline read.1 read.0 gathering)

-- what is gathered after responses to writes
abbrev pub after_writes : List Resp → Gathering → Gathering
after_writes [] gathering = gathering
after_writes (resp ∷ writes) gathering = after_writes writes (after_b resp gathering)

-- what is gathered of all answers to a request that sent its bursts
abbrev pub gathering_after : ℕ → Outline → Answers → Gathering
gathering_after bus_bytes outline answers = after_writes answers.writes (after_reads bus_bytes outline answers.reads (gathering_of outline false))

-- whether one of the answers denies the request: DECERR on a read, or a response to a write other than OKAY
abbrev pub denies : Answers → Bool
denies answers = list_any (λ read. is_decerr read.1.resp) answers.reads || list_any (λ resp. not (is_okay resp)) answers.writes

-- a request's range begins at `start` on the AXI4 side, and its transfer at a place reads the byte at x: the transfers are as wide as range and
-- bus allow, and counted from 0 by rising address
pub record IsReadAt (bus_bytes : ℕ) (outline : Outline) (start place x : ℕ) : Type 0 where
  pub first : start ≤ x
  pub last : x < start + 2 ^ outline.size
  pub counted : (x - start) / min (2 ^ outline.size) bus_bytes ≡ place

-- a read at its place tells of the memory: with SLVERR, that it shows no byte of a word that the transfer reads; else each byte that the transfer
-- reads, in its lane of the bus
pub record TellsOf (bus_bytes : ℕ) (outline : Outline) (start : ℕ) (seen : ℕ → Option ℕ) (place : ℕ) (r : RBeat) : Type 0 where
  pub inside : place < reads_of bus_bytes outline
  pub failed : is_slverr r.resp ≡ true → (x y : ℕ) → IsReadAt bus_bytes outline start place x → word_address y ≡ word_address x → seen y ≡ None
  pub bytes : is_slverr r.resp ≡ false → (x : ℕ) → IsReadAt bus_bytes outline start place x → seen x ≡ Some (lane_byte r.payload (x % bus_bytes))

-- what was gathered are answers of the memory, of which none denies: all reads came, in whatever order, and each tells of the memory. The range
-- begins at a multiple of its size, in the same lane of a word on both sides
pub record HasAnswersOf (state : GatherState) (start : ℕ) (seen : ℕ → Option ℕ) (answers : Answers) : Type 0 where
  pub gathered : state.gathering ≡ gathering_after state.bus_bytes state.outline answers
  pub granted : denies answers ≡ false
  pub aligned : state.outline.address % 2 ^ state.outline.size ≡ 0
  pub lane : lane_of start ≡ lane_of state.outline.address
  pub tell : All (λ read. TellsOf state.bus_bytes state.outline start seen read.0 read.1) answers.reads
  pub came : (place : ℕ) → place < reads_of state.bus_bytes state.outline → list_any (λ read. read.0 == place) answers.reads ≡ true

-- the bytes that a memory shows in a range
abbrev pub bytes_seen : (ℕ → Option ℕ) → ℕ → ℕ → List (Option ℕ)
bytes_seen seen start n = map seen (range_with_len start n)

-- the reply that tells of a memory's bytes
abbrev pub reply_seen : (ℕ → Option ℕ) → ℕ → WholeRequest → Reply
reply_seen seen start q = record { denied = false; bytes = if reply_has_data q.operation then bytes_seen seen start (2 ^ q.size) else [] }

-- the number of bytes that are all given, none where one isn't
abbrev pub number_of : List (Option ℕ) → Option ℕ
number_of bytes = if list_any is_none bytes then None else Some (value (map (λ byte. unwrap_or byte 0) bytes))

-- beats that show what the memory answered: where an answer denies, a denied reply without bytes, and else the memory's bytes
pub record ShowsAnswers (state : GatherState) (q : WholeRequest) (beats : List DBeat) : Type 0 where
  pub denied :
      (answers : Answers) → state.gathering ≡ gathering_after state.bus_bytes state.outline answers → denies answers ≡ true
      → beats ≡ shown q (record { denied = true; bytes = [] })
  pub granted : (answers : Answers) (seen : ℕ → Option ℕ) (start : ℕ) → HasAnswersOf state start seen answers → beats ≡ shown q (reply_seen seen start q)

-- an atomic's old value is the number that the memory shows in its range
abbrev pub IsNumberSeen : GatherState → Option ℕ → Type 0
IsNumberSeen state old =
    (answers : Answers) (seen : ℕ → Option ℕ) (start : ℕ) → is_atomic state.outline.operation ≡ true → holds_number state.outline ≡ true
    → HasAnswersOf state start seen answers → old ≡ number_of (bytes_seen seen start (2 ^ state.outline.size))
