-- What is gathered of a memory's answers is the reply of serial execution. It knows lists of reads and responses, of one page, and the
-- bytes that they tell; which bridge or memory they passed is hidden.
use Rattle.std.proofs.Common.{◌≡◌, ℕ, zero, suc, ◌+◌, ◌-◌, ◌*◌, ◌/◌, ◌%◌, ◌^◌, ◌<◌, ◌≤◌, ◌==◌, min, max, Bool, true, false, not, ◌||◌, List, [], ◌∷◌, map, length, Option, Some, None, if◌then◌else◌, refl, sym, subst, ◌∙◌, ap, arith, replicate, slice_get, All}
use Rattle.std.specs.List.{enumerate_from, range_with_len, list_any, find}
use Rattle.std.proofs.lemmas.Bool.Decides.{nat_tests}
use Rattle.std.proofs.lemmas.List.Elements.{All-cons, All-head, All-nil, All-tail}
use Rattle.std.proofs.lemmas.Option.{slice_get_within}
use Rattle.bus_words.specs.Lanes.{lane_byte, word_address}
use Rattle.tl_messages.specs.Lanes.{lane_of}
use Rattle.tl_messages.specs.Operations.{reply_has_data}
use Rattle.tl_messages.specs.Requests.{WholeRequest}
use Rattle.tl_messages.specs.declared.AtomicOp.{AtomicOp}
use Rattle.tl_messages.specs.declared.Operation.{Operation}
use Rattle.tl_messages.specs.declared.Operation.TheVariants.{PutFull, PutPartial, Atomic, Get, Intent}
use Rattle.axi_beats.specs.Responses.{is_okay, is_slverr, is_decerr}
use Rattle.axi_beats.specs.Transfers.{IsBusWidth}
use Rattle.axi_beats.specs.declared.RBeat.{RBeat}
use Rattle.axi_beats.specs.declared.Resp.{Resp}
use Rattle.burst_plan.proofs.PieceLaws.{range_in_page}
use Rattle.burst_plan.proofs.TranslationLaws.{same_byte-mod}
use Rattle.responses.specs.Answers.{Answers, HasAnswersOf, IsReadAt, TellsOf, bytes_seen, denies, gathering_after}
use Rattle.responses.specs.Gathered.{Gathering, gathered, reads_of, word_of_read}
use Rattle.responses.specs.Shown.{Reply}
use Rattle.responses.specs.declared.gather.Outline.{Outline}
use Rattle.responses.proofs.AnswerLaws.{denied_by_answers, gathered_seen, no_bytes}
use Rattle.responses.proofs.OldValues.{map_same}
use Rattle.responses.proofs.ReadPlaces.{IsPlaced, first_byte, placed}
use Rattle.subordinate.specs.Faults.{Faults, IsAbsent, IsGood, IsSlaveError, Standing, is_bad, is_good, lists_page, read_response, read_response_on, standing_at, standing_of_listed, write_response}
use Rattle.meaning.specs.Meaning.{Bytes, effect, no_byte_given}

-- what answers a request at an AXI address: each read tells what is found there, and each write is answered as its page tells
pub record IsAnsweredAs (faults : Faults) (bus_bytes : ℕ) (outline : Outline) (address : ℕ) (m : Bytes) (reads : List RBeat) (responses : List Resp) : Type 0 where
  pub width : IsBusWidth bus_bytes
  pub small : outline.size ≤ 12
  pub aligned : outline.address % 2 ^ outline.size ≡ 0
  pub same_byte : address % 4096 ≡ outline.address % 4096
  pub few : length reads ≤ reads_of bus_bytes outline
  pub response : (k : ℕ) (r : RBeat) → slice_get reads k ≡ Some r → r.resp ≡ read_response faults (address + k * min (2 ^ outline.size) bus_bytes)
  pub bytes :
      (k : ℕ) (r : RBeat) → slice_get reads k ≡ Some r → (x : ℕ) → is_okay r.resp ≡ true → IsReadAt bus_bytes outline address k x
      → lane_byte r.payload (x % bus_bytes) ≡ m x
  pub responded : All (λ resp. resp ≡ write_response (standing_at faults address)) responses

-- ---- one page, and one word

-- a range lies in one page
pub in_page : (bus_bytes address size d : ℕ) → IsBusWidth bus_bytes → size ≤ 12 → address % 2 ^ size ≡ 0 → d < 2 ^ size → (address + d) / 4096 ≡ address / 4096
in_page bus_bytes address size d width small aligned below =
    let page = range_in_page (record { bus_bytes = bus_bytes; max_len = 1; address = address; size = size }) (record { bus = width; max_len = refl; size = small; aligned = aligned }) in
    omega (arith, page)

pub standing_of : (faults : Faults) (x y : ℕ) → x / 4096 ≡ y / 4096 → standing_at faults x ≡ standing_at faults y
standing_of faults x y same = ap (λ n. standing_of_listed (find (lists_page n) faults.pages)) same

bad_of : (faults : Faults) (x y : ℕ) → word_address x ≡ word_address y → is_bad faults x ≡ is_bad faults y
bad_of faults x y same = ap (λ n. list_any (λ word. word == n) faults.bad_words) same

-- all bytes of a transfer are in one word
one_word : (bus_bytes : ℕ) (outline : Outline) (address place x : ℕ) → IsBusWidth bus_bytes → outline.address % 2 ^ outline.size ≡ 0 → address % 4096 ≡ outline.address % 4096
    → place < max 1 (2 ^ outline.size / bus_bytes) → IsReadAt bus_bytes outline address place x → word_address (address + place * min (2 ^ outline.size) bus_bytes) ≡ word_address x
one_word bus_bytes outline address place x width aligned same_byte inside read =
    eighth address outline.address i (x - address) x lanes (omega (arith, read.first)) (sym i_word ∙ x_word)
  where
    i : ℕ
    i = place * min (2 ^ outline.size) bus_bytes

    first : (i < 2 ^ outline.size) × (i / min (2 ^ outline.size) bus_bytes ≡ place)
    first = first_byte bus_bytes place outline width inside

    i_placed : IsPlaced bus_bytes outline i
    i_placed = placed bus_bytes i outline width aligned first.0

    x_placed : IsPlaced bus_bytes outline (x - address)
    x_placed = placed bus_bytes (x - address) outline width aligned (let low = read.first in let high = read.last in omega (arith))

    i_word : word_of_read bus_bytes outline place ≡ (lane_of outline.address + i) / 8
    i_word = subst (λ p. word_of_read bus_bytes outline p ≡ (lane_of outline.address + i) / 8) first.1 i_placed.word

    x_word : word_of_read bus_bytes outline place ≡ (lane_of outline.address + (x - address)) / 8
    x_word = subst (λ p. word_of_read bus_bytes outline p ≡ (lane_of outline.address + (x - address)) / 8) read.counted x_placed.word

    lanes : lane_of address ≡ lane_of outline.address
    lanes = omega arith

    eighth : (a b i k x : ℕ) → lane_of a ≡ lane_of b → x ≡ a + k → (lane_of b + i) / 8 ≡ (lane_of b + k) / 8 → word_address (a + i) ≡ word_address x
    eighth a b i k x lanes is words = omega arith

-- a number's bytes are in one word
one_number : (address size x : ℕ) → size ≤ 3 → address % 2 ^ size ≡ 0 → address ≤ x → x < address + 2 ^ size → word_address x ≡ word_address address
one_number address zero x small aligned low high = omega arith
one_number address (suc zero) x small aligned low high = omega arith
one_number address (suc (suc zero)) x small aligned low high = omega arith
one_number address (suc (suc (suc zero))) x small aligned low high = omega arith
one_number address (suc (suc (suc (suc size)))) x small aligned low high = absurd (omega arith)

-- ---- what a memory shows

-- of a good page the bytes outside bad words
abbrev pub shown_good : Faults → Bytes → ℕ → Option ℕ
shown_good faults m x = if is_bad faults x then None else Some (m x)

abbrev pub shown_none : ℕ → Option ℕ
shown_none x = None

slverr_bad : (bad : Bool) → is_slverr (read_response_on IsGood bad) ≡ true → bad ≡ true
slverr_bad bad is = grind (arith, is)

okay_fine : (bad : Bool) → is_slverr (read_response_on IsGood bad) ≡ false → (bad ≡ false) × (is_okay (read_response_on IsGood bad) ≡ true)
okay_fine true is = absurd (cc (is))
okay_fine false is = (refl, refl)

-- where each read fails, a memory shows nothing
pub tells_none : (bus_bytes : ℕ) (outline : Outline) (address k : ℕ) (r : RBeat) → k < reads_of bus_bytes outline → is_slverr r.resp ≡ true → TellsOf bus_bytes outline address shown_none k r
tells_none bus_bytes outline address k r inside slverr =
    record { inside = inside; failed = λ failed x y read same. refl; bytes = λ granted x read. absurd (cc (granted, slverr)) }

-- ---- all answers

all_at : (P : ℕ → RBeat → Type 0) (reads : List RBeat) (from : ℕ) → ((k : ℕ) (r : RBeat) → slice_get reads k ≡ Some r → P (from + k) r) → All (λ read. P read.0 read.1) (enumerate_from from reads)
all_at P [] from each = All-nil (λ (read : ℕ × RBeat). P read.0 read.1)
all_at P (r ∷ reads) from each =
    let start : from + 0 ≡ from = omega arith in
    All-cons (λ (read : ℕ × RBeat). P read.0 read.1) (from, r) (enumerate_from (from + 1) reads) (subst (λ k. P k r) start (each 0 r refl))
    (all_at P reads (from + 1) (λ k other there.
    let next : from + suc k ≡ from + 1 + k = omega arith in
    subst (λ place. P place other) next (each (suc k) other there)))

each_at : (P : ℕ → RBeat → Type 0) (reads : List RBeat) → ((k : ℕ) (r : RBeat) → slice_get reads k ≡ Some r → P k r) → All (λ read. P read.0 read.1) (enumerate_from 0 reads)
each_at P reads each = all_at P reads 0 (λ k r there. let start : k ≡ 0 + k = omega arith in subst (λ place. P place r) start (each k r there))

all_came : (reads : List RBeat) (from place : ℕ) → from ≤ place → place < from + length reads → list_any (λ read. read.0 == place) (enumerate_from from reads) ≡ true
all_came [] from place low high = absurd (omega (arith, low, high))
all_came (r ∷ reads) from place low high = grind (arith, nat_tests, all_came reads (from + 1) place)

none_denies : (reads : List RBeat) (from : ℕ) → ((k : ℕ) (r : RBeat) → slice_get reads k ≡ Some r → is_decerr r.resp ≡ false) → list_any (λ read. is_decerr read.1.resp) (enumerate_from from reads) ≡ false
none_denies [] from each = refl
none_denies (r ∷ reads) from each = rw (each 0 r refl) (none_denies reads (from + 1) (λ k other there. each (suc k) other there))

one_denies : (reads : List RBeat) (from : ℕ) → 0 < length reads → ((r : RBeat) → slice_get reads 0 ≡ Some r → is_decerr r.resp ≡ true) → list_any (λ read. is_decerr read.1.resp) (enumerate_from from reads) ≡ true
one_denies [] from some first = absurd (omega (arith, some))
one_denies (r ∷ reads) from some first = rw (first r refl) refl

all_okay : (response : Resp) (responses : List Resp) → is_okay response ≡ true → All (λ resp. resp ≡ response) responses → list_any (λ resp. not (is_okay resp)) responses ≡ false
all_okay response [] okay all = refl
all_okay response (resp ∷ responses) okay all =
    let here : is_okay resp ≡ true = ap is_okay (All-head (λ (other : Resp). other ≡ response) resp responses all) ∙ okay in
    rw here (all_okay response responses okay (All-tail (λ (other : Resp). other ≡ response) resp responses all))

one_failed : (response : Resp) (responses : List Resp) → is_okay response ≡ false → 0 < length responses → All (λ resp. resp ≡ response) responses → list_any (λ resp. not (is_okay resp)) responses ≡ true
one_failed response [] failed some all = absurd (omega (arith, some))
one_failed response (resp ∷ responses) failed some all =
    let here : is_okay resp ≡ false = ap is_okay (All-head (λ (other : Resp). other ≡ response) resp responses all) ∙ failed in
    rw here refl

-- ---- the reply

-- the answers to a request, in the order in which they came
abbrev pub answers_in_order : List RBeat → List Resp → Answers
answers_in_order reads responses = record { reads = enumerate_from 0 reads; writes = responses }

abbrev pub gathering_told : ℕ → Outline → List RBeat → List Resp → Gathering
gathering_told bus_bytes outline reads responses = gathering_after bus_bytes outline (answers_in_order reads responses)

either_false : (a b : Bool) → a ≡ false → b ≡ false → (a || b) ≡ false
either_false a b is other = rw (is, other) refl

left_true : (a b : Bool) → a ≡ true → (a || b) ≡ true
left_true a b is = rw is refl

right_true : (a b : Bool) → b ≡ true → (a || b) ≡ true
right_true a b is = grind (arith, is)

-- a page that is there denies no read
never_decerr : (standing : Standing) (bad : Bool) → (standing ≡ IsAbsent → ⊥) → is_decerr (read_response_on standing bad) ≡ false
never_decerr IsGood true there = refl
never_decerr IsGood false there = refl
never_decerr IsSlaveError bad there = refl
never_decerr IsAbsent bad there = absurd (there refl)

pub good_there : IsGood ≡ IsAbsent → ⊥
good_there is = absurd (cc (is))

pub slave_there : IsSlaveError ≡ IsAbsent → ⊥
slave_there is = absurd (cc (is))

-- all reads came, and none of the answers denies
pub have_answers : (bus_bytes : ℕ) (outline : Outline) (address : ℕ) (reads : List RBeat) (responses : List Resp) (seen : ℕ → Option ℕ) → outline.address % 2 ^ outline.size ≡ 0
    → address % 4096 ≡ outline.address % 4096 → length reads ≡ reads_of bus_bytes outline → denies (answers_in_order reads responses) ≡ false
    → ((k : ℕ) (r : RBeat) → slice_get reads k ≡ Some r → TellsOf bus_bytes outline address seen k r)
    → HasAnswersOf (record { bus_bytes = bus_bytes; outline = outline; gathering = gathering_told bus_bytes outline reads responses }) address seen (answers_in_order reads responses)
have_answers bus_bytes outline address reads responses seen aligned same_byte whole fine tell =
    record {
      gathered = refl;
      granted = fine;
      aligned = aligned;
      lane = omega (arith, same_byte);
      tell = each_at (λ place r. TellsOf bus_bytes outline address seen place r) reads tell;
      came = λ place below. all_came reads 0 place (omega arith) (omega (arith, below, whole));
    }

pub none_shown : (a n : ℕ) → map shown_none (range_with_len a n) ≡ replicate n None
none_shown a zero = refl
none_shown a (suc n) = ap (λ (rest : List (Option ℕ)). None ∷ rest) (none_shown (a + 1) n)

pub all_shown : (m : Bytes) (xs : List ℕ) → map (λ x. Some (m x)) xs ≡ map Some (map m xs)
all_shown m [] = refl
all_shown m (x ∷ xs) = ap (λ (rest : List (Option ℕ)). Some (m x) ∷ rest) (all_shown m xs)

-- ---- by operation and page

abbrev pub outline_as : WholeRequest → Operation → Outline
outline_as q operation = record { operation = operation; size = q.size; source = q.source; address = q.address }

abbrev pub is_put : Operation → Bool
is_put PutFull = true
is_put PutPartial = true
is_put (Atomic op) = false
is_put Get = false
is_put (Intent write) = false

-- all answers came: all reads, and to a Put a response; a request that isn't one has none unless its page is good
pub record HasAllAnswers (faults : Faults) (bus_bytes : ℕ) (outline : Outline) (address : ℕ) (reads : List RBeat) (responses : List Resp) : Type 0 where
  pub all_reads : reply_has_data outline.operation ≡ true → length reads ≡ reads_of bus_bytes outline
  pub one_response : is_put outline.operation ≡ true → 0 < length responses
  pub others : is_put outline.operation ≡ false → is_good (standing_at faults address) ≡ false → responses ≡ []

-- a request without data in its reply has no reads
no_reads : (bus_bytes : ℕ) (outline : Outline) (reads : List RBeat) → reply_has_data outline.operation ≡ false → length reads ≤ reads_of bus_bytes outline → reads ≡ []
no_reads bus_bytes outline [] none few = refl
no_reads bus_bytes outline (r ∷ reads) none few = absurd (let past : suc (length reads) ≤ 0 = rw none at few in omega (arith, past))

-- ---- a request that is answered so

module _ (faults : Faults) (bus_bytes : ℕ) (outline : Outline) (address : ℕ) (m : Bytes) (reads : List RBeat) (responses : List Resp)
    (told : IsAnsweredAs faults bus_bytes outline address m reads responses) where
  -- where a read that came stands among those of its request
  pub inside_of : (k : ℕ) (r : RBeat) → slice_get reads k ≡ Some r → (k < reads_of bus_bytes outline) × (k < max 1 (2 ^ outline.size / bus_bytes))
  inside_of k r there =
      let below : k < reads_of bus_bytes outline = omega (arith, told.few, slice_get_within reads k r there) in
      (below, grind (arith, below))

  address_aligned : address % 2 ^ outline.size ≡ 0
  address_aligned = same_byte-mod outline.address address outline.size told.small told.same_byte ∙ told.aligned

  -- the page of the request decides its response, and its word
  pub page_response : (standing : Standing) → standing_at faults address ≡ standing → (k : ℕ) (r : RBeat) → slice_get reads k ≡ Some r
      → r.resp ≡ read_response_on standing (is_bad faults (address + k * min (2 ^ outline.size) bus_bytes))
  page_response standing is k r there =
      let inside = inside_of k r there in
      let first = first_byte bus_bytes k outline told.width inside.1 in
      let page = in_page bus_bytes address outline.size (k * min (2 ^ outline.size) bus_bytes) told.width told.small address_aligned first.0 in
      told.response k r there
      ∙ ap (λ s. read_response_on s (is_bad faults (address + k * min (2 ^ outline.size) bus_bytes))) (standing_of faults (address + k * min (2 ^ outline.size) bus_bytes) address page ∙ is)

  byte_response : (standing : Standing) → standing_at faults address ≡ standing → (k x : ℕ) (r : RBeat) → slice_get reads k ≡ Some r → IsReadAt bus_bytes outline address k x
      → r.resp ≡ read_response_on standing (is_bad faults x)
  byte_response standing is k x r there read =
      let inside = inside_of k r there in
      page_response standing is k r there
      ∙ ap (read_response_on standing) (bad_of faults (address + k * min (2 ^ outline.size) bus_bytes) x (one_word bus_bytes outline address k x told.width told.aligned told.same_byte inside.1 read))

  pub tells_good : standing_at faults address ≡ IsGood → (k : ℕ) (r : RBeat) → slice_get reads k ≡ Some r → TellsOf bus_bytes outline address (shown_good faults m) k r
  tells_good good k r there =
      record {
        inside = (inside_of k r there).0;
        failed = λ slverr x y read same.
            let response = byte_response IsGood good k x r there read in
            let bad : is_bad faults x ≡ true = slverr_bad (is_bad faults x) (ap is_slverr (sym response) ∙ slverr) in
            let bad_too : is_bad faults y ≡ true = bad_of faults y x same ∙ bad in
            rw bad_too refl;
        bytes = λ granted x read.
            let response = byte_response IsGood good k x r there read in
            let (fine, okay) = okay_fine (is_bad faults x) (ap is_slverr (sym response) ∙ granted) in
            rw fine (ap (λ (byte : ℕ). Some byte) (sym (told.bytes k r there x (ap is_okay response ∙ okay) read)));
      }

  -- no answer denies, where the page is there and no write failed
  pub granted : (standing : Standing) → standing_at faults address ≡ standing → (standing ≡ IsAbsent → ⊥) → (is_good standing ≡ false → responses ≡ []) → denies (answers_in_order reads responses) ≡ false
  granted standing is there unwritten =
      either_false (list_any (λ read. is_decerr read.1.resp) (enumerate_from 0 reads)) (list_any (λ resp. not (is_okay resp)) responses)
      (none_denies reads 0 (λ k r here.
      ap is_decerr (page_response standing is k r here)
      ∙ never_decerr standing (is_bad faults (address + k * min (2 ^ outline.size) bus_bytes)) there))
      (by_standing standing is unwritten)
    where
      by_standing : (s : Standing) → standing_at faults address ≡ s → (is_good s ≡ false → responses ≡ []) → list_any (λ resp. not (is_okay resp)) responses ≡ false
      by_standing IsGood at none = all_okay (write_response (standing_at faults address)) responses (ap (λ (s : Standing). is_okay (write_response s)) at) told.responded
      by_standing IsSlaveError at none = rw (none refl) refl
      by_standing IsAbsent at none = rw (none refl) refl

  -- the reply to a Get or an atomic whose page is there
  reply_shown : (seen : ℕ → Option ℕ) → reply_has_data outline.operation ≡ true → length reads ≡ reads_of bus_bytes outline → denies (answers_in_order reads responses) ≡ false
      → ((k : ℕ) (r : RBeat) → slice_get reads k ≡ Some r → TellsOf bus_bytes outline address seen k r)
      → ◌≡◌ {A = Reply} (gathered outline (gathering_told bus_bytes outline reads responses)) (record { denied = false; bytes = bytes_seen seen address (2 ^ outline.size) })
  reply_shown seen has whole fine tell =
      gathered_seen bus_bytes outline address seen (answers_in_order reads responses) told.width
      (have_answers bus_bytes outline address reads responses seen told.aligned told.same_byte whole fine tell)
      ∙ rw has refl

  -- it gives no byte, where each read fails
  reply_none : reply_has_data outline.operation ≡ true → length reads ≡ reads_of bus_bytes outline → denies (answers_in_order reads responses) ≡ false
      → ((k : ℕ) (r : RBeat) → slice_get reads k ≡ Some r → is_slverr r.resp ≡ true)
      → gathered outline (gathering_told bus_bytes outline reads responses) ≡ no_byte_given (2 ^ outline.size)
  reply_none has whole fine failed =
      reply_shown shown_none has whole fine
      (λ k r there. tells_none bus_bytes outline address k r (inside_of k r there).0 (failed k r there))
      ∙ ap {B = Reply} (λ bytes. record { denied = false; bytes = bytes }) (none_shown address (2 ^ outline.size))

  -- on an absent page the first read denies
  pub reads_denied : standing_at faults address ≡ IsAbsent → reply_has_data outline.operation ≡ true → length reads ≡ reads_of bus_bytes outline
      → (gathering_told bus_bytes outline reads responses).denied ≡ true
  reads_denied absent has whole =
      denied_by_answers bus_bytes outline (answers_in_order reads responses)
      ∙ left_true (list_any (λ read. is_decerr read.1.resp) (enumerate_from 0 reads)) (list_any (λ resp. not (is_okay resp)) responses)
      (one_denies reads 0 (rw (whole, has) (omega arith)) (λ r there. ap is_decerr (page_response IsAbsent absent 0 r there)))

  reply_absent : standing_at faults address ≡ IsAbsent → reply_has_data outline.operation ≡ true → length reads ≡ reads_of bus_bytes outline
      → ◌≡◌ {A = Reply} (gathered outline (gathering_told bus_bytes outline reads responses)) (record { denied = true; bytes = [] })
  reply_absent absent has whole = no_bytes outline (gathering_told bus_bytes outline reads responses) (reads_denied absent has whole)

  put_denied : is_okay (write_response (standing_at faults address)) ≡ false → 0 < length responses → (gathering_told bus_bytes outline reads responses).denied ≡ true
  put_denied failed some =
      denied_by_answers bus_bytes outline (answers_in_order reads responses)
      ∙ right_true (list_any (λ read. is_decerr read.1.resp) (enumerate_from 0 reads)) (list_any (λ resp. not (is_okay resp)) responses)
      (one_failed (write_response (standing_at faults address)) responses failed some told.responded)

  not_denied : reply_has_data outline.operation ≡ false → list_any (λ resp. not (is_okay resp)) responses ≡ false → (gathering_told bus_bytes outline reads responses).denied ≡ false
  not_denied none fine =
      denied_by_answers bus_bytes outline (answers_in_order reads responses)
      ∙ either_false (list_any (λ read. is_decerr read.1.resp) (enumerate_from 0 reads)) (list_any (λ resp. not (is_okay resp)) responses) no_read_denies fine
    where
      no_read_denies : list_any (λ read. is_decerr read.1.resp) (enumerate_from 0 reads) ≡ false
      no_read_denies = rw (no_reads bus_bytes outline reads none told.few) refl

  -- an atomic's word is bad as a whole, or not at all
  bad_word : outline.size ≤ 3 → (x : ℕ) → address ≤ x → x < address + 2 ^ outline.size → is_bad faults x ≡ is_bad faults address
  bad_word number x low high = bad_of faults x address (one_number address outline.size x number address_aligned low high)

  pub number_failed : outline.size ≤ 3 → standing_at faults address ≡ IsGood → is_bad faults address ≡ true → (k : ℕ) (r : RBeat) → slice_get reads k ≡ Some r → is_slverr r.resp ≡ true
  number_failed number at bad k r there =
      let inside = inside_of k r there in
      let first = first_byte bus_bytes k outline told.width inside.1 in
      let here : is_bad faults (address + k * min (2 ^ outline.size) bus_bytes) ≡ true =
      bad_word number (address + k * min (2 ^ outline.size) bus_bytes) (omega arith) (let within = first.0 in omega (arith)) ∙ bad in
      ap is_slverr (page_response IsGood at k r there ∙ ap (read_response_on IsGood) here)

  -- the bytes of a number that is shown
  pub number_bytes : outline.size ≤ 3 → is_bad faults address ≡ false → bytes_seen (shown_good faults m) address (2 ^ outline.size) ≡ map (λ x. Some (m x)) (range_with_len address (2 ^ outline.size))
  number_bytes number fine =
      map_same (shown_good faults m) (λ x. Some (m x)) address (2 ^ outline.size)
      (λ x low high.
      let here : is_bad faults x ≡ false = bad_word number x low high ∙ fine in
      rw here refl)

-- the responses to writes are all OKAY, on a good page
good_writes : (faults : Faults) (address : ℕ) (responses : List Resp) → standing_at faults address ≡ IsGood → All (λ resp. resp ≡ write_response (standing_at faults address)) responses
    → list_any (λ resp. not (is_okay resp)) responses ≡ false
good_writes faults address responses good all = all_okay (write_response (standing_at faults address)) responses (ap (λ (s : Standing). is_okay (write_response s)) good) all

-- a reply without data
bare : (denied other : Bool) → denied ≡ other → ◌≡◌ {A = Reply} (record { denied = denied; bytes = [] }) (record { denied = other; bytes = [] })
bare denied other same = rw same refl

abbrev IsSerialReply : Faults → ℕ → WholeRequest → Operation → ℕ → Bytes → List RBeat → List Resp → Standing → Bool → Type 0
IsSerialReply faults bus_bytes q operation address m reads responses standing bad =
    gathered (outline_as q operation) (gathering_told bus_bytes (outline_as q operation) reads responses) ≡ (effect faults q m address operation standing bad).reply

put_reply : (faults : Faults) (bus_bytes : ℕ) (q : WholeRequest) (operation : Operation) (address : ℕ) (m : Bytes) (reads : List RBeat) (responses : List Resp)
    → IsAnsweredAs faults bus_bytes (outline_as q operation) address m reads responses → HasAllAnswers faults bus_bytes (outline_as q operation) address reads responses → is_put operation ≡ true
    → (standing : Standing) → standing_at faults address ≡ standing → IsSerialReply faults bus_bytes q operation address m reads responses standing (is_bad faults address)
put_reply faults bus_bytes q PutFull address m reads responses told all put IsGood at =
    bare _ false (not_denied faults bus_bytes (outline_as q PutFull) address m reads responses told refl (good_writes faults address responses at told.responded))
put_reply faults bus_bytes q PutFull address m reads responses told all put IsSlaveError at =
    bare _ true (put_denied faults bus_bytes (outline_as q PutFull) address m reads responses told (ap (λ (s : Standing). is_okay (write_response s)) at) (all.one_response refl))
put_reply faults bus_bytes q PutFull address m reads responses told all put IsAbsent at =
    bare _ true (put_denied faults bus_bytes (outline_as q PutFull) address m reads responses told (ap (λ (s : Standing). is_okay (write_response s)) at) (all.one_response refl))
put_reply faults bus_bytes q PutPartial address m reads responses told all put IsGood at =
    bare _ false (not_denied faults bus_bytes (outline_as q PutPartial) address m reads responses told refl (good_writes faults address responses at told.responded))
put_reply faults bus_bytes q PutPartial address m reads responses told all put IsSlaveError at =
    bare _ true (put_denied faults bus_bytes (outline_as q PutPartial) address m reads responses told (ap (λ (s : Standing). is_okay (write_response s)) at) (all.one_response refl))
put_reply faults bus_bytes q PutPartial address m reads responses told all put IsAbsent at =
    bare _ true (put_denied faults bus_bytes (outline_as q PutPartial) address m reads responses told (ap (λ (s : Standing). is_okay (write_response s)) at) (all.one_response refl))
put_reply faults bus_bytes q _ address m reads responses told all put standing at = absurd (cc (put))

intent_reply : (faults : Faults) (bus_bytes : ℕ) (q : WholeRequest) (write : Bool) (address : ℕ) (m : Bytes) (reads : List RBeat) (responses : List Resp)
    → IsAnsweredAs faults bus_bytes (outline_as q (Intent write)) address m reads responses → HasAllAnswers faults bus_bytes (outline_as q (Intent write)) address reads responses
    → (standing : Standing) → standing_at faults address ≡ standing → IsSerialReply faults bus_bytes q (Intent write) address m reads responses standing (is_bad faults address)
intent_reply faults bus_bytes q write address m reads responses told all standing at =
    bare _ false (not_denied faults bus_bytes (outline_as q (Intent write)) address m reads responses told refl (by_standing standing at))
  where
    by_standing : (s : Standing) → standing_at faults address ≡ s → list_any (λ resp. not (is_okay resp)) responses ≡ false
    by_standing IsGood is = good_writes faults address responses is told.responded
    by_standing IsSlaveError is = rw (all.others refl (ap is_good is)) refl
    by_standing IsAbsent is = rw (all.others refl (ap is_good is)) refl

-- no write of such a request failed
fine_writes : (faults : Faults) (address : ℕ) (responses : List Resp) (standing : Standing) → standing_at faults address ≡ standing → (is_good (standing_at faults address) ≡ false → responses ≡ [])
    → is_good standing ≡ false → responses ≡ []
fine_writes faults address responses standing at others isnt = others (ap is_good at ∙ isnt)

get_reply : (faults : Faults) (bus_bytes : ℕ) (q : WholeRequest) (address : ℕ) (m : Bytes) (reads : List RBeat) (responses : List Resp)
    → IsAnsweredAs faults bus_bytes (outline_as q Get) address m reads responses → HasAllAnswers faults bus_bytes (outline_as q Get) address reads responses
    → (standing : Standing) → standing_at faults address ≡ standing → IsSerialReply faults bus_bytes q Get address m reads responses standing (is_bad faults address)
get_reply faults bus_bytes q address m reads responses told all IsAbsent at =
    reply_absent faults bus_bytes (outline_as q Get) address m reads responses told at refl (all.all_reads refl)
get_reply faults bus_bytes q address m reads responses told all IsSlaveError at =
    reply_none faults bus_bytes (outline_as q Get) address m reads responses told refl (all.all_reads refl)
    (granted faults bus_bytes (outline_as q Get) address m reads responses told IsSlaveError at slave_there (fine_writes faults address responses IsSlaveError at (all.others refl)))
    (λ k r there. ap is_slverr (page_response faults bus_bytes (outline_as q Get) address m reads responses told IsSlaveError at k r there))
get_reply faults bus_bytes q address m reads responses told all IsGood at =
    reply_shown faults bus_bytes (outline_as q Get) address m reads responses told (shown_good faults m) refl (all.all_reads refl)
    (granted faults bus_bytes (outline_as q Get) address m reads responses told IsGood at good_there (fine_writes faults address responses IsGood at (all.others refl)))
    (tells_good faults bus_bytes (outline_as q Get) address m reads responses told at)

atomic_reply : (faults : Faults) (bus_bytes : ℕ) (q : WholeRequest) (op : AtomicOp) (address : ℕ) (m : Bytes) (reads : List RBeat) (responses : List Resp)
    → IsAnsweredAs faults bus_bytes (outline_as q (Atomic op)) address m reads responses → HasAllAnswers faults bus_bytes (outline_as q (Atomic op)) address reads responses → q.size ≤ 3
    → (standing : Standing) → standing_at faults address ≡ standing → (bad : Bool) → is_bad faults address ≡ bad → IsSerialReply faults bus_bytes q (Atomic op) address m reads responses standing bad
atomic_reply faults bus_bytes q op address m reads responses told all number IsAbsent at bad is =
    reply_absent faults bus_bytes (outline_as q (Atomic op)) address m reads responses told at refl (all.all_reads refl)
atomic_reply faults bus_bytes q op address m reads responses told all number IsSlaveError at bad is =
    reply_none faults bus_bytes (outline_as q (Atomic op)) address m reads responses told refl (all.all_reads refl)
    (granted faults bus_bytes (outline_as q (Atomic op)) address m reads responses told IsSlaveError at slave_there (fine_writes faults address responses IsSlaveError at (all.others refl)))
    (λ k r there. ap is_slverr (page_response faults bus_bytes (outline_as q (Atomic op)) address m reads responses told IsSlaveError at k r there))
atomic_reply faults bus_bytes q op address m reads responses told all number IsGood at true is =
    reply_none faults bus_bytes (outline_as q (Atomic op)) address m reads responses told refl (all.all_reads refl)
    (granted faults bus_bytes (outline_as q (Atomic op)) address m reads responses told IsGood at good_there (fine_writes faults address responses IsGood at (all.others refl)))
    (number_failed faults bus_bytes (outline_as q (Atomic op)) address m reads responses told number at is)
atomic_reply faults bus_bytes q op address m reads responses told all number IsGood at false is =
    reply_shown faults bus_bytes (outline_as q (Atomic op)) address m reads responses told (shown_good faults m) refl (all.all_reads refl)
    (granted faults bus_bytes (outline_as q (Atomic op)) address m reads responses told IsGood at good_there (fine_writes faults address responses IsGood at (all.others refl)))
    (tells_good faults bus_bytes (outline_as q (Atomic op)) address m reads responses told at)
    ∙ ap {B = Reply} (λ bytes. record { denied = false; bytes = bytes })
    (number_bytes faults bus_bytes (outline_as q (Atomic op)) address m reads responses told number is ∙ all_shown m (range_with_len address (2 ^ q.size)))

-- the reply to a request at its AXI address
pub reply_at : (faults : Faults) (bus_bytes : ℕ) (q : WholeRequest) (operation : Operation) (address : ℕ) (m : Bytes) (reads : List RBeat) (responses : List Resp)
    → IsAnsweredAs faults bus_bytes (outline_as q operation) address m reads responses → HasAllAnswers faults bus_bytes (outline_as q operation) address reads responses
    → ((op : AtomicOp) → operation ≡ Atomic op → q.size ≤ 3)
    → gathered (outline_as q operation) (gathering_after bus_bytes (outline_as q operation) (answers_in_order reads responses))
    ≡ (effect faults q m address operation (standing_at faults address) (is_bad faults address)).reply
reply_at faults bus_bytes q PutFull address m reads responses told all number = put_reply faults bus_bytes q PutFull address m reads responses told all refl (standing_at faults address) refl
reply_at faults bus_bytes q PutPartial address m reads responses told all number = put_reply faults bus_bytes q PutPartial address m reads responses told all refl (standing_at faults address) refl
reply_at faults bus_bytes q (Atomic op) address m reads responses told all number =
    atomic_reply faults bus_bytes q op address m reads responses told all (number op refl) (standing_at faults address) refl (is_bad faults address) refl
reply_at faults bus_bytes q Get address m reads responses told all number = get_reply faults bus_bytes q address m reads responses told all (standing_at faults address) refl
reply_at faults bus_bytes q (Intent write) address m reads responses told all number = intent_reply faults bus_bytes q write address m reads responses told all (standing_at faults address) refl
