-- What is gathered of a memory's answers, in whatever order the reads come, is the reply that tells of the memory's bytes.
use Rattle.std.proofs.Common.{◌≡◌, ℕ, zero, suc, ◌+◌, ◌-◌, ◌*◌, ◌/◌, ◌%◌, ◌^◌, ◌<◌, ◌==◌, ◌≢◌, min, max, Bool, true, false, not, ◌&&◌, ◌||◌, List, [], ◌∷◌, map, length, Option, Some, None, true≢false, if◌then◌else◌, refl, sym, subst, ◌∙◌, ap, arith, inl, inr}
use Rattle.std.specs.Prelude.{option_map, replicate, slice_get, slice_set, slice_index_or, All}
use Rattle.std.specs.List.{range_with_len, list_any}
use Rattle.std.specs.Option.{option_flatten}
use Rattle.std.proofs.lemmas.Bool.Decides.{eqb_tells}
use Rattle.std.proofs.lemmas.List.{length-replicate, length-set}
use Rattle.std.proofs.lemmas.List.Elements.{All-head, All-tail}
use Rattle.std.proofs.lemmas.List.FromFn.{fill_by_all, get_or-map-range_with_len, length-map-range_with_len}
use Rattle.std.proofs.lemmas.Option.{none-some}
use Rattle.bus_words.specs.Lanes.{lane_byte, word_address}
use Rattle.tl_messages.specs.Lanes.{lane_of}
use Rattle.tl_messages.specs.Operations.{reply_has_data}
use Rattle.tl_messages.specs.Requests.{WholeRequest}
use Rattle.tl_messages.specs.declared.DBeat.{DBeat}
use Rattle.axi_beats.specs.Responses.{is_okay, is_slverr, is_decerr}
use Rattle.axi_beats.specs.Transfers.{IsBusWidth}
use Rattle.axi_beats.specs.declared.RBeat.{RBeat}
use Rattle.axi_beats.specs.declared.Resp.{Resp}
use Rattle.responses.specs.Answers.{Answers, HasAnswersOf, IsReadAt, TellsOf, after_reads, after_writes, bytes_seen, denies, gathering_after, IsNumberSeen, number_of, ShowsAnswers}
use Rattle.responses.specs.Gathered.{GatherState, Gathering, after_b, after_r, byte_gathered, gathered, gathering_of, old_value, outline_of, reads_of, with_payload, word_after, word_of_read, words_after, words_of}
use Rattle.responses.specs.Shown.{Reply, shown}
use Rattle.responses.specs.declared.gather.Outline.{Outline}
use Rattle.responses.proofs.OldValues.{atomic_has_data, old_number}
use Rattle.responses.proofs.ReadLaws.{word_of_read-lt}
use Rattle.responses.proofs.ReadPlaces.{IsPlaced, first_byte, own_lane, own_or_kept, placed}

-- ---- words of a list

-- the word at a place of a list, where it is given
abbrev word_at : List (Option ℕ) → ℕ → Option ℕ
word_at words j = option_flatten (slice_get words j)

or_none : (words : List (Option ℕ)) (j : ℕ) → slice_index_or words j None ≡ word_at words j
or_none [] j = refl
or_none (word ∷ words) zero = refl
or_none (word ∷ words) (suc j) = or_none words j

set_there : (words : List (Option ℕ)) (j : ℕ) (word : Option ℕ) → j < length words → word_at (slice_set words j word) j ≡ word
set_there [] j word below = absurd (omega (arith, below))
set_there (first ∷ words) zero word below = refl
set_there (first ∷ words) (suc j) word below = set_there words j word (omega arith)

set_elsewhere : (words : List (Option ℕ)) (j k : ℕ) (word : Option ℕ) → j ≢ k → word_at (slice_set words j word) k ≡ word_at words k
set_elsewhere [] j k word other = refl
set_elsewhere (first ∷ words) zero zero word other = absurd (other refl)
set_elsewhere (first ∷ words) zero (suc k) word other = refl
set_elsewhere (first ∷ words) (suc j) zero word other = refl
set_elsewhere (first ∷ words) (suc j) (suc k) word other = set_elsewhere words j k word (λ e. other (ap suc e))

-- ---- one byte, as the reads come

-- byte i of a request's range, which the memory shows at `start + i`
record OneByte (bus_bytes : ℕ) (outline : Outline) (start : ℕ) (seen : ℕ → Option ℕ) (i : ℕ) : Type 0 where
  width : IsBusWidth bus_bytes
  has : reply_has_data outline.operation ≡ true
  aligned : outline.address % 2 ^ outline.size ≡ 0
  lane : lane_of start ≡ lane_of outline.address
  below : i < 2 ^ outline.size

abbrev own_place : ℕ → Outline → ℕ → ℕ
own_place bus_bytes outline i = i / min (2 ^ outline.size) bus_bytes

abbrev own_word : Outline → ℕ → ℕ
own_word outline i = (lane_of outline.address + i) / 8

abbrev lane_in : Outline → ℕ → ℕ
lane_in outline i = lane_of (outline.address + i)

-- before its read, a byte whose word isn't given isn't shown
abbrev IsSpoiled : (ℕ → Option ℕ) → ℕ → Option ℕ → Type 0
IsSpoiled seen x word = word ≡ None → seen x ≡ None

-- after it, the word has the byte that is shown
abbrev HasSeen : (ℕ → Option ℕ) → ℕ → ℕ → Option ℕ → Type 0
HasSeen seen x lane word = option_map (λ w. lane_byte w lane) word ≡ seen x

spoiled_too : (seen : ℕ → Option ℕ) (x lane : ℕ) (word : Option ℕ) → HasSeen seen x lane word → IsSpoiled seen x word
spoiled_too seen x lane None has e = sym has
spoiled_too seen x lane (Some word) has e = absurd (none-some word (sym e))

-- byte i is read at its own place
read_at : (bus_bytes : ℕ) (outline : Outline) (start i : ℕ) → i < 2 ^ outline.size → IsReadAt bus_bytes outline start (own_place bus_bytes outline i) (start + i)
read_at bus_bytes outline start i below =
    let back : start + i - start ≡ i = omega arith in
    record { first = omega arith; last = omega arith; counted = rw back refl }

-- a read of the byte's word that fails tells that the byte isn't shown
failed_word : (bus_bytes : ℕ) (outline : Outline) (start : ℕ) (seen : ℕ → Option ℕ) (i place : ℕ) (r : RBeat) → OneByte bus_bytes outline start seen i
    → TellsOf bus_bytes outline start seen place r → place < max 1 (2 ^ outline.size / bus_bytes) → word_of_read bus_bytes outline place ≡ own_word outline i → is_slverr r.resp ≡ true
    → seen (start + i) ≡ None
failed_word bus_bytes outline start seen i place r byte tells inside same bad =
    tells.failed bad (start + k) (start + i) (subst (λ p. IsReadAt bus_bytes outline start p (start + k)) first.1 (read_at bus_bytes outline start k first.0)) address
  where
    k : ℕ
    k = place * min (2 ^ outline.size) bus_bytes

    first : (k < 2 ^ outline.size) × (k / min (2 ^ outline.size) bus_bytes ≡ place)
    first = first_byte bus_bytes place outline byte.width inside

    k_placed : IsPlaced bus_bytes outline k
    k_placed = placed bus_bytes k outline byte.width byte.aligned first.0

    k_word : word_of_read bus_bytes outline place ≡ (lane_of outline.address + k) / 8
    k_word = subst (λ p. word_of_read bus_bytes outline p ≡ (lane_of outline.address + k) / 8) first.1 k_placed.word

    address : word_address (start + i) ≡ word_address (start + k)
    address = eighth start outline.address i k byte.lane (sym same ∙ k_word)
      where
        eighth : (a b i k : ℕ) → lane_of a ≡ lane_of b → (lane_of b + i) / 8 ≡ (lane_of b + k) / 8 → word_address (a + i) ≡ word_address (a + k)
        eighth a b i k lanes words = omega arith

inside_range : (bus_bytes place : ℕ) (outline : Outline) → reply_has_data outline.operation ≡ true → place < reads_of bus_bytes outline → place < max 1 (2 ^ outline.size / bus_bytes)
inside_range bus_bytes place outline has inside = rw has at inside

-- what holds of the byte's word after one of its reads: of none, where that tells that the byte isn't shown, and of what the payload makes of it
by_read : (bus_bytes : ℕ) (outline : Outline) (start : ℕ) (seen : ℕ → Option ℕ) (i place : ℕ) (r : RBeat) (word : Option ℕ) → OneByte bus_bytes outline start seen i
    → TellsOf bus_bytes outline start seen place r → word_of_read bus_bytes outline place ≡ own_word outline i → IsSpoiled seen (start + i) word → (P : Option ℕ → Type 0)
    → (seen (start + i) ≡ None → P None) → ((w : ℕ) → is_slverr r.resp ≡ false → word ≡ Some w → P (Some (with_payload bus_bytes outline place r.payload w)))
    → P (word_after bus_bytes outline place r word)
by_read bus_bytes outline start seen i place r word byte tells same spoiled P gone given = by_resp (is_slverr r.resp) refl word refl
  where
    by_resp : (b : Bool) → is_slverr r.resp ≡ b → (o : Option ℕ) → word ≡ o → P (if b then None else option_map (with_payload bus_bytes outline place r.payload) o)
    by_resp true bad o is = gone (failed_word bus_bytes outline start seen i place r byte tells (inside_range bus_bytes place outline byte.has tells.inside) same bad)
    by_resp false good None is = gone (spoiled is)
    by_resp false good (Some w) is = given w good is

after_any : (bus_bytes : ℕ) (outline : Outline) (start : ℕ) (seen : ℕ → Option ℕ) (i place : ℕ) (r : RBeat) (word : Option ℕ) → OneByte bus_bytes outline start seen i
    → TellsOf bus_bytes outline start seen place r → word_of_read bus_bytes outline place ≡ own_word outline i → IsSpoiled seen (start + i) word
    → IsSpoiled seen (start + i) (word_after bus_bytes outline place r word)
after_any bus_bytes outline start seen i place r word byte tells same spoiled =
    by_read bus_bytes outline start seen i place r word byte tells same spoiled (IsSpoiled seen (start + i)) (λ none e. none) (λ w good is e. absurd (none-some _ (sym e)))

-- after the byte's own read
after_own : (bus_bytes : ℕ) (outline : Outline) (start : ℕ) (seen : ℕ → Option ℕ) (i place : ℕ) (r : RBeat) (word : Option ℕ) → OneByte bus_bytes outline start seen i
    → TellsOf bus_bytes outline start seen place r → word_of_read bus_bytes outline place ≡ own_word outline i → own_place bus_bytes outline i ≡ place
    → IsSpoiled seen (start + i) word → HasSeen seen (start + i) (lane_in outline i) (word_after bus_bytes outline place r word)
after_own bus_bytes outline start seen i place r word byte tells same own spoiled =
    let lane = byte.lane in
    let lanes : lane_of (start + i) ≡ lane_of (outline.address + i) = omega arith in
    by_read bus_bytes outline start seen i place r word byte tells same spoiled (HasSeen seen (start + i) (lane_in outline i)) (λ none. sym none)
    (λ w good is.
    ap (λ n. Some n)
    (subst (λ p. lane_byte (with_payload bus_bytes outline p r.payload w) (lane_in outline i) ≡ lane_byte r.payload ((start + i) % bus_bytes)) own
    (own_lane bus_bytes i (start + i) r.payload w outline byte.width byte.aligned byte.below lanes))
    ∙ sym (tells.bytes good (start + i) (subst (λ p. IsReadAt bus_bytes outline start p (start + i)) own (read_at bus_bytes outline start i byte.below))))

-- after another read of its word
after_other : (bus_bytes : ℕ) (outline : Outline) (start : ℕ) (seen : ℕ → Option ℕ) (i place : ℕ) (r : RBeat) (word : Option ℕ) → OneByte bus_bytes outline start seen i
    → TellsOf bus_bytes outline start seen place r → word_of_read bus_bytes outline place ≡ own_word outline i
    → ((payload word : ℕ) → lane_byte (with_payload bus_bytes outline place payload word) (lane_in outline i) ≡ lane_byte word (lane_in outline i))
    → HasSeen seen (start + i) (lane_in outline i) word → HasSeen seen (start + i) (lane_in outline i) (word_after bus_bytes outline place r word)
after_other bus_bytes outline start seen i place r word byte tells same keeps has =
    by_read bus_bytes outline start seen i place r word byte tells same (spoiled_too seen (start + i) (lane_in outline i) word has) (HasSeen seen (start + i) (lane_in outline i))
    (λ none. sym none) (λ w good is. ap (λ n. Some n) (keeps r.payload w) ∙ (rw is at has))

-- ---- all words, as the reads come

-- what becomes of the byte's word is what becomes of it at each read of its own word
word_kept : (bus_bytes : ℕ) (outline : Outline) (i place : ℕ) (r : RBeat) (words : List (Option ℕ)) (P : Option ℕ → Type 0) → own_word outline i < length words
    → (word_of_read bus_bytes outline place ≡ own_word outline i → P (word_after bus_bytes outline place r (word_at words (own_word outline i))))
    → P (word_at words (own_word outline i)) → P (word_at (words_after bus_bytes outline place r words) (own_word outline i))
word_kept bus_bytes outline i place r words P inside changed before =
    elim (eqb_tells (word_of_read bus_bytes outline place) (own_word outline i)) [
      | inl (test, same) ↦
          subst P
          (sym
          (rw (same, or_none words (own_word outline i))
          (set_there words (own_word outline i) (word_after bus_bytes outline place r (word_at words (own_word outline i))) inside)))
          (changed same)
      | inr (test, other) ↦
          subst P
          (sym
          (set_elsewhere words (word_of_read bus_bytes outline place) (own_word outline i)
          (word_after bus_bytes outline place r (slice_index_or words (word_of_read bus_bytes outline place) None)) other))
          before
    ]

words_many : (bus_bytes : ℕ) (outline : Outline) (place : ℕ) (r : RBeat) (words : List (Option ℕ)) → length (words_after bus_bytes outline place r words) ≡ length words
words_many bus_bytes outline place r words =
    length-set words (word_of_read bus_bytes outline place) (word_after bus_bytes outline place r (slice_index_or words (word_of_read bus_bytes outline place) None))

-- once the byte has been read it stays
stays : (bus_bytes : ℕ) (outline : Outline) (start : ℕ) (seen : ℕ → Option ℕ) (i : ℕ) (reads : List (ℕ × RBeat)) (g : Gathering) → OneByte bus_bytes outline start seen i
    → All (λ read. TellsOf bus_bytes outline start seen read.0 read.1) reads → own_word outline i < length g.words
    → HasSeen seen (start + i) (lane_in outline i) (word_at g.words (own_word outline i))
    → HasSeen seen (start + i) (lane_in outline i) (word_at (after_reads bus_bytes outline reads g).words (own_word outline i))
stays bus_bytes outline start seen i [] g byte tell inside has = has
stays bus_bytes outline start seen i ((place, r) ∷ reads) g byte tell inside has =
    let tells : TellsOf bus_bytes outline start seen place r = All-head (λ read. TellsOf bus_bytes outline start seen read.0 read.1) (place, r) reads tell in
    let word = word_at g.words (own_word outline i) in
    stays bus_bytes outline start seen i reads (after_r bus_bytes outline r place g) byte (All-tail (λ read. TellsOf bus_bytes outline start seen read.0 read.1) (place, r) reads tell)
    (rw (words_many bus_bytes outline place r g.words) inside)
    (word_kept bus_bytes outline i place r g.words (HasSeen seen (start + i) (lane_in outline i)) inside
    (λ same.
    elim (own_or_kept bus_bytes place i outline byte.width byte.aligned byte.below (inside_range bus_bytes place outline byte.has tells.inside) same) [
      | inl own ↦ after_own bus_bytes outline start seen i place r word byte tells same own (spoiled_too seen (start + i) (lane_in outline i) word has)
      | inr keeps ↦ after_other bus_bytes outline start seen i place r word byte tells same keeps has
    ])
    has)

-- when its read has come, the byte is what the memory shows
comes : (bus_bytes : ℕ) (outline : Outline) (start : ℕ) (seen : ℕ → Option ℕ) (i : ℕ) (reads : List (ℕ × RBeat)) (g : Gathering) → OneByte bus_bytes outline start seen i
    → All (λ read. TellsOf bus_bytes outline start seen read.0 read.1) reads → own_word outline i < length g.words
    → list_any (λ read. read.0 == own_place bus_bytes outline i) reads ≡ true → IsSpoiled seen (start + i) (word_at g.words (own_word outline i))
    → HasSeen seen (start + i) (lane_in outline i) (word_at (after_reads bus_bytes outline reads g).words (own_word outline i))
comes bus_bytes outline start seen i [] g byte tell inside came spoiled = absurd (true≢false (sym came))
comes bus_bytes outline start seen i ((place, r) ∷ reads) g byte tell inside came spoiled =
    let tells : TellsOf bus_bytes outline start seen place r = All-head (λ read. TellsOf bus_bytes outline start seen read.0 read.1) (place, r) reads tell in
    let others : All (λ read. TellsOf bus_bytes outline start seen read.0 read.1) reads =
    All-tail (λ read. TellsOf bus_bytes outline start seen read.0 read.1) (place, r) reads tell in
    let many : own_word outline i < length (after_r bus_bytes outline r place g).words = rw (words_many bus_bytes outline place r g.words) inside in
    let own_reads : own_place bus_bytes outline i ≡ place → word_of_read bus_bytes outline place ≡ own_word outline i = λ own.
    subst (λ p. word_of_read bus_bytes outline p ≡ own_word outline i) own (let p = placed bus_bytes i outline byte.width byte.aligned byte.below in p.word) in
    let now : own_place bus_bytes outline i ≡ place → HasSeen seen (start + i) (lane_in outline i) (word_at (words_after bus_bytes outline place r g.words) (own_word outline i)) = λ is.
    subst (HasSeen seen (start + i) (lane_in outline i))
    (sym
    (rw (own_reads is, or_none g.words (own_word outline i))
    (set_there g.words (own_word outline i) (word_after bus_bytes outline place r (word_at g.words (own_word outline i))) inside)))
    (after_own bus_bytes outline start seen i place r (word_at g.words (own_word outline i)) byte tells (own_reads is) is spoiled) in
    elim (eqb_tells place (own_place bus_bytes outline i)) [
      | inl (test, own) ↦ stays bus_bytes outline start seen i reads (after_r bus_bytes outline r place g) byte others many (now (sym own))
      | inr (test, other) ↦
          comes bus_bytes outline start seen i reads (after_r bus_bytes outline r place g) byte others many (rw test at came)
          (word_kept bus_bytes outline i place r g.words (IsSpoiled seen (start + i)) inside
          (λ same. after_any bus_bytes outline start seen i place r (word_at g.words (own_word outline i)) byte tells same spoiled) spoiled)
    ]

-- ---- what denies

denied_by_reads : (bus_bytes : ℕ) (outline : Outline) (reads : List (ℕ × RBeat)) (g : Gathering)
    → (after_reads bus_bytes outline reads g).denied ≡ (g.denied || list_any (λ read. is_decerr read.1.resp) reads)
denied_by_reads bus_bytes outline [] g = grind arith
denied_by_reads bus_bytes outline ((place, r) ∷ reads) g = grind (arith, denied_by_reads bus_bytes outline reads (after_r bus_bytes outline r place g))

denied_by_writes : (writes : List Resp) (g : Gathering) → (after_writes writes g).denied ≡ (g.denied || list_any (λ resp. not (is_okay resp)) writes)
denied_by_writes [] g = grind arith
denied_by_writes (resp ∷ writes) g = grind (arith, denied_by_writes writes (after_b resp g))

words_of_writes : (writes : List Resp) (g : Gathering) → (after_writes writes g).words ≡ g.words
words_of_writes [] g = refl
words_of_writes (resp ∷ writes) g = words_of_writes writes (after_b resp g)

-- a request is denied just where one of its answers denies it
pub denied_by_answers : (bus_bytes : ℕ) (outline : Outline) (answers : Answers) → (gathering_after bus_bytes outline answers).denied ≡ denies answers
denied_by_answers bus_bytes outline answers =
    denied_by_writes answers.writes (after_reads bus_bytes outline answers.reads (gathering_of outline false))
    ∙ ap (λ b. b || list_any (λ resp. not (is_okay resp)) answers.writes) (denied_by_reads bus_bytes outline answers.reads (gathering_of outline false))

-- ---- the whole reply

-- before any read each word is given
none_spoiled : (seen : ℕ → Option ℕ) (x j n : ℕ) → j < n → IsSpoiled seen x (word_at (replicate n (Some 0)) j)
none_spoiled seen x j zero below e = absurd (omega (arith, below))
none_spoiled seen x zero (suc n) below e = absurd (none-some 0 (sym e))
none_spoiled seen x (suc j) (suc n) below e = none_spoiled seen x j n (omega arith) e

-- where no answer denies, what was gathered of a memory's answers is the reply that tells of its bytes
pub gathered_seen : (bus_bytes : ℕ) (outline : Outline) (start : ℕ) (seen : ℕ → Option ℕ) (answers : Answers) → IsBusWidth bus_bytes
    → HasAnswersOf (record { bus_bytes = bus_bytes; outline = outline; gathering = gathering_after bus_bytes outline answers }) start seen answers
    → gathered outline (gathering_after bus_bytes outline answers)
    ≡ record { denied = false; bytes = if reply_has_data outline.operation then bytes_seen seen start (2 ^ outline.size) else [] }
gathered_seen bus_bytes outline start seen answers width are = by_data (reply_has_data outline.operation) refl
  where
    g : Gathering
    g = gathering_after bus_bytes outline answers

    granted : g.denied ≡ false
    granted = denied_by_answers bus_bytes outline answers ∙ are.granted

    each : reply_has_data outline.operation ≡ true → (i : ℕ) → i < 2 ^ outline.size → byte_gathered outline g.words i ≡ seen (start + i)
    each has i below =
        let byte : OneByte bus_bytes outline start seen i = record { width = width; has = has; aligned = are.aligned; lane = are.lane; below = below } in
        let p : IsPlaced bus_bytes outline i = placed bus_bytes i outline width are.aligned below in
        let inside : own_place bus_bytes outline i < reads_of bus_bytes outline = rw has p.inside in
        let word_inside : own_word outline i < words_of outline = subst (λ j. j < words_of outline) p.word (word_of_read-lt bus_bytes (own_place bus_bytes outline i) outline width inside) in
        let many : own_word outline i < length (gathering_of outline false).words = rw (length-replicate {A = Option ℕ} (words_of outline) (Some 0)) word_inside in
        let read : HasSeen seen (start + i) (lane_in outline i) (word_at (after_reads bus_bytes outline answers.reads (gathering_of outline false)).words (own_word outline i)) =
        comes bus_bytes outline start seen i answers.reads (gathering_of outline false) byte are.tell many (are.came (own_place bus_bytes outline i) inside)
        (none_spoiled seen (start + i) (own_word outline i) (words_of outline) word_inside) in
        rw (words_of_writes answers.writes (after_reads bus_bytes outline answers.reads (gathering_of outline false))) read

    listed : reply_has_data outline.operation ≡ true → map (byte_gathered outline g.words) (range_with_len 0 (2 ^ outline.size)) ≡ bytes_seen seen start (2 ^ outline.size)
    listed has =
        sym
        (fill_by_all (byte_gathered outline g.words) (bytes_seen seen start (2 ^ outline.size)) (2 ^ outline.size) None (length-map-range_with_len seen start (2 ^ outline.size))
        (λ k below. get_or-map-range_with_len seen start (2 ^ outline.size) k (start + k) None below refl ∙ sym (each has k below)))

    by_data : (b : Bool) → reply_has_data outline.operation ≡ b
        → ◌≡◌ {A = Reply} (record { denied = g.denied; bytes = if b && not g.denied then map (byte_gathered outline g.words) (range_with_len 0 (2 ^ outline.size)) else [] })
        (record { denied = false; bytes = if b then bytes_seen seen start (2 ^ outline.size) else [] })
    by_data true has =
        rw granted (ap {A = List (Option ℕ)} {B = Reply} (λ bytes. record { denied = false; bytes = bytes }) (listed has))
    by_data false has = rw granted refl

-- the same, of what was gathered
pub state_seen : (state : GatherState) (start : ℕ) (seen : ℕ → Option ℕ) (answers : Answers) → IsBusWidth state.bus_bytes
    → HasAnswersOf state start seen answers
    → ◌≡◌ {A = Reply} (gathered state.outline state.gathering)
    (record { denied = false; bytes = if reply_has_data state.outline.operation then bytes_seen seen start (2 ^ state.outline.size) else [] })
state_seen state start seen answers width are =
    ap (λ g. gathered state.outline g) are.gathered
    ∙ gathered_seen state.bus_bytes state.outline start seen answers width (record { gathered = refl; granted = are.granted; aligned = are.aligned; lane = are.lane; tell = are.tell; came = are.came })

-- a denied request gives no bytes
pub no_bytes : (outline : Outline) (g : Gathering) → g.denied ≡ true → ◌≡◌ {A = Reply} (gathered outline g) (record { denied = true; bytes = [] })
no_bytes outline g denied = elim (reply_has_data outline.operation) as (λ b. ◌≡◌ {A = Reply} (record { denied = g.denied; bytes = if b && not g.denied then map (byte_gathered outline g.words) (range_with_len 0 (2 ^ outline.size)) else [] }) (record { denied = true; bytes = [] })) [ true ↦ rw denied refl | false ↦ rw denied refl ]

-- the beats of what was gathered show what the memory answered
pub shows_answers : (state : GatherState) (q : WholeRequest) (beats : List DBeat) → IsBusWidth state.bus_bytes → outline_of q ≡ state.outline
    → beats ≡ shown q (gathered state.outline state.gathering) → ShowsAnswers state q beats
shows_answers state q beats width same are_shown =
    record {
      denied = λ answers came denied.
          are_shown ∙ ap (shown q) (no_bytes state.outline state.gathering (ap (λ (g : Gathering). g.denied) came ∙ denied_by_answers state.bus_bytes state.outline answers ∙ denied));
      granted = λ answers seen start are.
          subst (λ (o : Outline). beats ≡ shown q (record { denied = false; bytes = if reply_has_data o.operation then bytes_seen seen start (2 ^ o.size) else [] })) (sym same)
          (are_shown ∙ ap (shown q) (state_seen state start seen answers width are));
    }

-- an atomic's old value is the number that the memory shows
pub number_seen : (state : GatherState) (old : Option ℕ) → IsBusWidth state.bus_bytes → old ≡ old_value state.outline state.gathering → IsNumberSeen state old
number_seen state old width is answers seen start atomic holds are =
    let whole = state_seen state start seen answers width are in
    let bytes : (gathered state.outline state.gathering).bytes ≡ bytes_seen seen start (2 ^ state.outline.size) =
    ap (λ (r : Reply). r.bytes) whole ∙ rw (atomic_has_data state.outline.operation atomic) refl in
    is ∙ old_number state.outline state.gathering atomic (ap (λ (r : Reply). r.denied) whole) holds ∙ ap number_of bytes
