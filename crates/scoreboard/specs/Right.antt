-- When what was observed is right, said of whole lists: the requests on each channel A are spelled, the AXI4 beats break no rule, and the
-- replies are those of the accepted requests, carried out whole, one at a time, in order of acceptance, but for what they tell of bytes that nobody knew at
-- first, that no request gave so far, or that an atomic made of these. No state of a scoreboard plays a part.
use Rattle.std.specs.Prelude.{ℕ, ◌≡◌, ◌==◌, ◌<◌, ◌≤◌, Bool, ◌&&◌, List, [], ◌∷◌, ◌++◌, length, zip, drop, flat_map, None, ⊤, if◌then◌else◌}
use Rattle.std.specs.List.{AllByRecursion}
use Rattle.tl_messages.specs.Requests.{WholeRequest}
use Rattle.tl_messages.specs.declared.ABeat.{ABeat}
use Rattle.tl_messages.specs.declared.DBeat.{DBeat}
use Rattle.tl_checker.specs.RequestRules.{IsFront}
use Rattle.axi_checker.specs.OpenBursts.{nothing_open}
use Rattle.axi_checker.specs.Rules.{first_axi_fault}
use Rattle.config.specs.Configs.{axi_port_of, port_of}
use Rattle.responses.specs.Shown.{Reply, shown}
use Rattle.burst_plan.specs.PageMap.{address_of}
use Rattle.meaning.specs.InTurn.{IsSpelled}
use Rattle.meaning.specs.Meaning.{replies_in_order}
use Rattle.serial_memory.specs.SerialMemory.{on_good_page}
use Rattle.setups.specs.Setups.{SetupLists, faults_of}
use Rattle.scoreboard.specs.Boards.{Beginning}
use Rattle.scoreboard.specs.Flights.{Footprint}
use Rattle.scoreboard.specs.InTurn.{DueBeat, after_turn, as_known, dues_of}
use Rattle.scoreboard.specs.Races.{alone}
use Rattle.scoreboard.specs.Observed.{Observed, observed_in, requests_in}
use Rattle.scoreboard.specs.declared.ObservedBeat.{ObservedBeat}
use Rattle.scoreboard.specs.declared.ObservedBeat.TheVariants.{A, D}

-- an observed TileLink beat is of a client that is there
abbrev pub HasClient : ℕ → ObservedBeat → Type 0
HasClient clients (A client beat) = client < clients
HasClient clients (D client beat) = client < clients
HasClient clients _ = ⊤

-- ---- what isn't known

-- what a request reads and writes, where it takes effect in its turn, and these bytes aren't known
abbrev pub acts : SetupLists → (ℕ → Bool) → WholeRequest → Footprint
acts setup unknown q = alone unknown (on_good_page (faults_of setup) (address_of setup.regions q)) q

-- which bytes aren't known after it
abbrev pub unknown_after : SetupLists → (ℕ → Bool) → WholeRequest → ℕ → Bool
unknown_after setup unknown q = after_turn unknown (acts setup unknown q) q.bytes

-- and after all requests, one after another
abbrev pub unknown_after_all : SetupLists → (ℕ → Bool) → List WholeRequest → ℕ → Bool
unknown_after_all setup unknown [] = unknown
unknown_after_all setup unknown (q ∷ qs) = unknown_after_all setup (unknown_after setup unknown q) qs

-- what each of them reads and writes
abbrev pub acts_in_turn : SetupLists → (ℕ → Bool) → List WholeRequest → List Footprint
acts_in_turn setup unknown [] = []
acts_in_turn setup unknown (q ∷ qs) = acts setup unknown q ∷ acts_in_turn setup (unknown_after setup unknown q) qs

-- ---- the replies to a client's requests of one source

-- whether a request is one of these
abbrev pub is_of : ℕ → ℕ → WholeRequest → Bool
is_of client source q = q.client == client && q.source == source

-- the beats that show them, reply by reply, in order of acceptance
abbrev pub shown_to : ℕ → ℕ → List WholeRequest → List (Footprint × Reply) → List (List DueBeat)
shown_to client source [] replies = []
shown_to client source (q ∷ qs) [] = []
shown_to client source (q ∷ qs) ((footprint, reply) ∷ replies) =
    if is_of client source q then dues_of footprint (shown q reply) ∷ shown_to client source qs replies else shown_to client source qs replies

-- all replies, with what their requests do: those are carried out one at a time from what the memory began with
abbrev pub replies_from : Beginning → List WholeRequest → List (Footprint × Reply)
replies_from beginning qs =
    zip (acts_in_turn beginning.lists beginning.unknown qs) (replies_in_order (faults_of beginning.lists) beginning.lists.regions qs beginning.bytes)

-- of what was observed
abbrev pub replies_to : Beginning → Observed → ℕ → ℕ → List (List DueBeat)
replies_to beginning observed client source = shown_to client source (requests_in observed) (replies_from beginning (requests_in observed))

-- one after another
abbrev pub all_beats : List (List DueBeat) → List DueBeat
all_beats replies = flat_map (λ beats. beats) replies

-- the beats that are still to come of replies
abbrev pub left_of : List (List DueBeat) → List DBeat → List DueBeat
left_of replies told = drop (length told) (all_beats replies)

-- the beats of the last reply
abbrev pub last_of : List (List DueBeat) → List DueBeat
last_of [] = []
last_of (beats ∷ []) = beats
last_of (beats ∷ next ∷ more) = last_of (next ∷ more)

-- beats were told that are the first of those that are due, as far as these are known
abbrev pub ShowFirst : List DueBeat → List DBeat → Type 0
ShowFirst dues [] = ⊤
ShowFirst [] (beat ∷ told) = ⊥
ShowFirst (due ∷ dues) (beat ∷ told) = (as_known due beat ≡ due.beat) × ShowFirst dues told

-- the beats that were told of replies are theirs, one reply after another, and nothing is left but of the last
pub record IsTold (replies : List (List DueBeat)) (told : List DBeat) : Type 0 where
  pub in_order : ShowFirst (all_beats replies) told
  pub but_last : length (left_of replies told) ≤ length (last_of replies)

-- the last reply has begun, and isn't whole
pub record IsPartly (replies : List (List DueBeat)) (told : List DBeat) : Type 0 where
  pub some_left : 0 < length (left_of replies told)
  pub some_told : length (left_of replies told) < length (last_of replies)

-- of the source of a message that has begun nothing is left to tell
abbrev pub IsFree : Beginning → Observed → ℕ → List ABeat → Type 0
IsFree beginning observed client [] = ⊤
IsFree beginning observed client (first ∷ rest) =
    left_of (replies_to beginning observed client first.source) (observed.told client first.source) ≡ []

-- ---- a moment

-- what was observed up to a moment, by what the memory began with
pub record IsRightNow (beginning : Beginning) (observed : Observed) : Type 0 where
  -- the messages that came whole are spelled by clients of the set-up, and what else came on a channel A begins one
  pub spelled : AllByRecursion (IsSpelled beginning.lists) (zip observed.messages (requests_in observed))
  pub as_many : length (requests_in observed) ≡ length observed.messages
  pub begun : (client : ℕ) → IsFront (port_of beginning.lists.config client) (observed.begun client)
  -- each client was told, for each of its sources, the replies to its requests, of which at most the last isn't whole
  pub told : (client source : ℕ) → IsTold (replies_to beginning observed client source) (observed.told client source)
  pub free : (client : ℕ) → IsFree beginning observed client (observed.begun client)
  -- no beat of the AXI4 port broke a rule where it came
  pub axi : first_axi_fault (axi_port_of beginning.lists.config) nothing_open observed.axi ≡ None

-- while a reply has begun on a client's channel, the next beat there is of its source
abbrev pub IsContiguous : Beginning → Observed → ObservedBeat → Type 0
IsContiguous beginning observed (D client beat) =
    (source : ℕ) → IsPartly (replies_to beginning observed client source) (observed.told client source) → source ≡ beat.source
IsContiguous beginning observed _ = ⊤

-- ---- whole lists

-- what was observed is right
pub record IsRight (beginning : Beginning) (seen : List ObservedBeat) : Type 0 where
  -- each TileLink beat is of a client that is there
  pub clients : AllByRecursion (HasClient beginning.lists.config.clients) seen
  -- it was right at each moment
  pub always : (before after : List ObservedBeat) → seen ≡ before ++ after → IsRightNow beginning (observed_in before)
  -- the beats of a reply aren't interleaved with others on its channel
  pub contiguous : (before after : List ObservedBeat) (next : ObservedBeat) → seen ≡ before ++ next ∷ after → IsContiguous beginning (observed_in before) next
