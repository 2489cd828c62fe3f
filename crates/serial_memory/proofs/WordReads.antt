-- What is gathered word by word: the answers of a memory to the reads of a range.
use Rattle.std.proofs.Common.{◌≡◌, ℕ, suc, ◌+◌, ◌-◌, ◌*◌, ◌/◌, ◌%◌, ◌^◌, ◌<◌, ◌≤◌, min, max, true, false, [], Some, Option, refl, sym, subst, ◌∙◌, ap, arith, inl, inr, Bool, None, if◌then◌else◌}
use Rattle.std.specs.Prelude.{slice_get}
use Rattle.std.specs.List.{enumerate_from}
use Rattle.std.proofs.lemmas.List.Elements.{All-nil}
use Rattle.std.proofs.lemmas.List.FromFn.{get_or-map-range_with_len, length-map-range_with_len}
use Rattle.std.proofs.lemmas.Option.{get_or_from_slice_get, slice_get_within}
use Rattle.bus_words.specs.Lanes.{lane_byte, word_address}
use Rattle.tl_messages.specs.Operations.{beats_of, has_data, reply_has_data}
use Rattle.tl_messages.specs.Requests.{HeldMessage, WholeRequest, request_of}
use Rattle.tl_messages.specs.declared.AtomicOp.{AtomicOp}
use Rattle.tl_messages.specs.declared.Operation.{Operation}
use Rattle.tl_messages.specs.declared.Operation.TheVariants.{Atomic}
use Rattle.axi_beats.specs.Responses.{is_okay}
use Rattle.axi_beats.specs.declared.RBeat.{RBeat}
use Rattle.axi_beats.specs.declared.Resp.{Resp}
use Rattle.data_unit.specs.Words.{value}
use Rattle.data_unit.proofs.Operands.{single_beat}
use Rattle.responses.specs.Answers.{after_reads}
use Rattle.responses.specs.Gathered.{GatherState, Gathering, after_r, gathered, gathering_of, old_value, reads_of}
use Rattle.responses.specs.declared.gather.Outline.{Outline}
use Rattle.subordinate.specs.Faults.{Faults, IsAbsent, IsGood, IsSlaveError, Standing, is_bad, read_response, read_response_on, standing_at, write_response}
use Rattle.sparse_memory.specs.SparseMemory.{SparseState, bytes_in, faults_in}
use Rattle.sparse_memory.proofs.StateLaws.{lane-word_in}
use Rattle.meaning.specs.Meaning.{Bytes, bytes_at, effect}
use Rattle.meaning.proofs.SerialOldValues.{old_value_at}
use Rattle.meaning.proofs.SerialReplies.{IsAnsweredAs, is_put, outline_as, reply_at}
use Rattle.serial_memory.specs.InsideSerial.{IsFresh, IsWordAt, word_answered, words_read}
use Rattle.serial_memory.specs.SerialMemory.{IsCheckedRequest, IsMemoryRange}
use Rattle.serial_memory.proofs.PutWords.{sizes}
use Rattle.serial_memory.proofs.RequestWords.{range}
use Rattle.serial_memory.proofs.Words.{same_word, word_aligned}

-- a word is gathered, and those that are still to come lead to the same end
pub one_more : (outline : Outline) (state : SparseState) (address place count : ℕ) (old new : Gathering) → place < count → new ≡ after_r 8 outline (word_answered state (address + place * 8)) place old
    → after_reads 8 outline (enumerate_from (place + 1) (words_read state address (place + 1) (count - (place + 1)))) new
    ≡ after_reads 8 outline (enumerate_from place (words_read state address place (count - place))) old
one_more outline state address place count old new below is =
    let left : count - place ≡ suc (count - (place + 1)) = omega (arith, below) in
    rw (left, is) refl

-- ---- the answer to one word

-- the words that a range is read by
pub word_in_range : (outline : Outline) (address size place : ℕ) → IsMemoryRange address size → outline.size ≡ size → place < reads_of 8 outline → IsWordAt address size place
word_in_range outline address size place range wide below = record { range = range; inside = subst (λ s. place < max 1 (2 ^ s / 8)) wide (grind (arith, below)) }

-- an answer is that of the word at its place
word_there : (state : SparseState) (address n k : ℕ) (r : RBeat) → slice_get (words_read state address 0 n) k ≡ Some r → (k < n) × (word_answered state (address + k * 8) ≡ r)
word_there state address n k r there =
    let word : ℕ → RBeat = λ place. word_answered state (address + place * 8) in
    let within : k < n = omega (arith, slice_get_within (words_read state address 0 n) k r there, length-map-range_with_len word 0 n) in
    (within, sym (get_or-map-range_with_len word 0 n k k r within (omega arith)) ∙ get_or_from_slice_get (words_read state address 0 n) k r r there)

-- a byte lies in the word that counts it
word_of_byte : (address size k x : ℕ) → IsWordAt address size k → address ≤ x → x < address + 2 ^ size → (x - address) / min (2 ^ size) 8 ≡ k → x / 8 ≡ (address + k * 8) / 8
word_of_byte address size k x at low high counted = elim (sizes size) [
  | inl few ↦
      let first : k ≡ 0 = omega (arith, at.inside, few.2) in
      let small : size ≤ 3 = omega (arith, few.0) in
      rw first (same_word address size x small at.range.aligned low high ∙ ap (λ a. a / 8) (omega arith))
  | inr many ↦
      let eight : min (2 ^ size) 8 ≡ 8 = omega (arith, many.2) in
      let counts : (x - address) / 8 ≡ k = ap (λ d. (x - address) / d) (sym eight) ∙ counted in
      let whole : (address + k * 8) % 8 ≡ 0 = ap (λ p. (address + k * 8) % p) (sym many.1) ∙ word_aligned address size k at in
      omega (arith, counts, whole, low)
]

-- what is shown of it is its byte
byte_shown : (state : SparseState) (address size k x : ℕ) → IsWordAt address size k → address ≤ x → x < address + 2 ^ size → (x - address) / min (2 ^ size) 8 ≡ k
    → is_okay (word_answered state (address + k * 8)).resp ≡ true → lane_byte (word_answered state (address + k * 8)).payload (x % 8) ≡ bytes_in state x
byte_shown state address size k x at low high counted okay =
    let word = word_of_byte address size k x at low high counted in
    let place : word_address (address + k * 8) + x % 8 ≡ x = omega (arith, word) in
    rw okay (lane-word_in state (address + k * 8) (x % 8) (omega arith) ∙ ap (bytes_in state) place)

-- ---- all of them

place_of_word : (size k : ℕ) → k < max 1 (2 ^ size / 8) → k * 8 ≡ k * min (2 ^ size) 8
place_of_word size k inside = elim (sizes size) [
  | inl few ↦ let none : k ≡ 0 = omega (arith, inside, few.2) in rw none (omega arith)
  | inr many ↦ let eight : min (2 ^ size) 8 ≡ 8 = omega (arith, many.2) in rw eight refl
]

-- the answers to the words of a range are those of a memory with its bytes
answered_words : (state : SparseState) (q : WholeRequest) (operation : Operation) (address : ℕ) → reply_has_data operation ≡ true → IsMemoryRange address q.size
    → q.address % 2 ^ q.size ≡ 0 → address % 4096 ≡ q.address % 4096
    → IsAnsweredAs (faults_in state) 8 (outline_as q operation) address (bytes_in state) (words_read state address 0 (reads_of 8 (outline_as q operation))) []
answered_words state q operation address has range aligned same =
    record {
      width = inr refl;
      small = range.small;
      aligned = aligned;
      same_byte = same;
      few = omega (arith, length-map-range_with_len (λ place. word_answered state (address + place * 8)) 0 (reads_of 8 (outline_as q operation)));
      response = λ k r there.
          let (within, is) = word_there state address (reads_of 8 (outline_as q operation)) k r there in
          ap (λ (beat : RBeat). beat.resp) (sym is) ∙ ap (λ d. read_response (faults_in state) (address + d)) (place_of_word q.size k (inside k within));
      bytes = λ k r there x okay read.
          let (within, is) = word_there state address (reads_of 8 (outline_as q operation)) k r there in
          let at : IsWordAt address q.size k = record { range = range; inside = inside k within } in
          ap (λ (beat : RBeat). lane_byte beat.payload (x % 8)) (sym is)
          ∙ byte_shown state address q.size k x at read.first read.last read.counted (ap (λ (beat : RBeat). is_okay beat.resp) is ∙ okay);
      responded = All-nil (λ (resp : Resp). resp ≡ write_response (standing_at (faults_in state) address));
    }
  where
    inside : (k : ℕ) → k < reads_of 8 (outline_as q operation) → k < max 1 (2 ^ q.size / 8)
    inside k within = let words : reads_of 8 (outline_as q operation) ≡ max 1 (2 ^ q.size / 8) = rw has refl in omega (arith, within, words)

-- the reply to a Get or an atomic whose words were gathered
pub reply_of_words : (state : SparseState) (q : WholeRequest) (operation : Operation) (address : ℕ) → reply_has_data operation ≡ true → is_put operation ≡ false → ((op : AtomicOp) → operation ≡ Atomic op → q.size ≤ 3)
    → IsMemoryRange address q.size → q.address % 2 ^ q.size ≡ 0 → address % 4096 ≡ q.address % 4096
    → gathered (outline_as q operation)
    (after_reads 8 (outline_as q operation) (enumerate_from 0 (words_read state address 0 (reads_of 8 (outline_as q operation)))) (gathering_of (outline_as q operation) false))
    ≡ (effect (faults_in state) q (bytes_in state) address operation (standing_at (faults_in state) address) (is_bad (faults_in state) address)).reply
reply_of_words state q operation address has isnt number range aligned same =
    reply_at (faults_in state) 8 q operation address (bytes_in state) (words_read state address 0 (reads_of 8 (outline_as q operation))) []
    (answered_words state q operation address has range aligned same)
    (record {
      all_reads = λ any. length-map-range_with_len (λ place. word_answered state (address + place * 8)) 0 (reads_of 8 (outline_as q operation));
      one_response = λ put. absurd (cc (put, isnt));
      others = λ other bad. refl;
    })
    number

-- ---- an atomic

-- where none is found nothing changes
pub nothing_left : (faults : Faults) (q : WholeRequest) (m : Bytes) (op : AtomicOp) (address found : ℕ) (standing : Standing) (bad : Bool)
    → ◌≡◌ {A = Option ℕ} None (if is_okay (read_response_on standing bad) then Some found else None) → m ≡ (effect faults q m address (Atomic op) standing bad).after
nothing_left faults q m op address found standing bad none = grind (arith, none)

-- where one is found the page is good and the word isn't bad, and it is the number of the bytes
pub found_there : (found old : ℕ) (standing : Standing) (bad : Bool) → Some old ≡ (if is_okay (read_response_on standing bad) then Some found else None) → (standing ≡ IsGood) × (bad ≡ false) × (old ≡ found)
found_there found old IsGood true some = absurd (cc (some))
found_there found old IsGood false some = (refl, refl, cc)
found_there found old IsSlaveError bad some = absurd (cc (some))
found_there found old IsAbsent bad some = absurd (cc (some))

-- the old value that is found of a checked request, where nothing was gathered of it before
pub found_as : (state : SparseState) (held : HeldMessage) (op : AtomicOp) (address : ℕ) (gather new : GatherState) (result : Option ℕ) → IsCheckedRequest held → held.operation ≡ Atomic op
    → address % 4096 ≡ held.address % 4096 → IsFresh gather held
    → new ≡ record gather { gathering = after_reads 8 gather.outline (enumerate_from 0 (words_read state address 0 (reads_of 8 gather.outline))) gather.gathering }
    → result ≡ old_value new.outline new.gathering
    → result ≡ (if is_okay (read_response (faults_in state) address) then Some (value (bytes_at (bytes_in state) address (2 ^ held.size))) else None)
found_as state held op address gather new result checked operation same fresh becomes is =
    is
    ∙ ap (λ (s : GatherState). old_value s.outline s.gathering) becomes
    ∙ rw (fresh.outline, fresh.gathering, operation)
    (old_value_at (faults_in state) 8 (outline_as (request_of held) (Atomic op)) address (bytes_in state) (words_read state address 0 (reads_of 8 (outline_as (request_of held) (Atomic op))))
    (answered_words state (request_of held) (Atomic op) address refl (range held address checked same) checked.2.aligned same) refl (checked.2.atomic_size op operation)
    (length-map-range_with_len (λ place. word_answered state (address + place * 8)) 0 (reads_of 8 (outline_as (request_of held) (Atomic op)))))

-- an atomic has one beat
pub atomic_beats : (op : AtomicOp) (size : ℕ) → size ≤ 3 → beats_of size (has_data (Atomic op)) ≡ 1
atomic_beats op size small = grind (arith, single_beat size small)
