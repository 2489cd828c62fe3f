-- Requests of which a beat was corrupt, or whose access fails: what they may leave, where they act, and that they tell an error on any bytes alike.
use Rattle.std.proofs.Common.{◌≡◌, ℕ, Bool, true, false, ◌||◌, List, [], ◌∷◌, map, if◌then◌else◌, inl, inr, ◌⊎◌, refl, sym, ◌∙◌, ap, arith}
use Rattle.std.specs.Prelude.{is_none, is_some}
use Rattle.std.specs.List.{list_any, range_with_len}
use Rattle.std.proofs.Math.Bool.{or-true}
use Rattle.std.proofs.lemmas.Bool.{cases_Bool}
use Rattle.std.proofs.lemmas.Simd.{map-map}
use Rattle.bus_words.specs.Lanes.{given_at, payload_of}
use Rattle.bus_words.proofs.MappedPlaces.{map_same}
use Rattle.tl_messages.specs.Operations.{beats_of, reply_has_data, reply_opcode}
use Rattle.tl_messages.specs.Requests.{WholeRequest}
use Rattle.tl_messages.specs.declared.DBeat.{DBeat}
use Rattle.burst_plan.specs.PageMap.{address_of}
use Rattle.burst_plan.specs.declared.Region.{Region}
use Rattle.responses.specs.Shown.{Reply, address_in_word, beat_of_word, beat_without_data, lacks_a_byte, shown}
use Rattle.subordinate.specs.Faults.{Faults}
use Rattle.meaning.specs.Meaning.{Bytes, acknowledged, denied, meaning, zeros}
use Rattle.scoreboard.specs.Boards.{acting, fails, is_spoiled, tells_error}
use Rattle.scoreboard.specs.Flights.{Footprint}
use Rattle.scoreboard.specs.Orders.{Entry}
use Rattle.scoreboard.specs.Races.{alone, unless_failed}
use Rattle.scoreboard.specs.RealTime.{MayBecome}
use Rattle.serial_memory.specs.SerialMemory.{Memory, on_good_page}
use Rattle.scoreboard.specs.declared.Errors.{Errors}
use Rattle.scoreboard.specs.declared.Errors.TheVariants.{Any, Strict}
use Rattle.scoreboard.proofs.MappedLists.{any_map}
use Rattle.scoreboard.proofs.real_time.AlikeBeats.{lacks_same, reply_of}
use Rattle.scoreboard.proofs.real_time.ReplyBytes.{Fixed, Kind, Told, Tells, kind}
use Rattle.scoreboard.proofs.real_time.StepOrders.{first_of}
use Rattle.scoreboard.proofs.real_time.RequestActs.{IsWell, gives, own}

-- ---- what a whole request may become

-- one of a client, by its number, as one that may have been spoiled, be it later
abbrev pub FatedOf : Errors → ℕ → WholeRequest → ℕ → Bool → Entry
FatedOf errors client q number fated = record (first_of errors client q true number) { spoiled = is_spoiled errors q || fated }

-- it is well
pub well_as : (errors : Errors) (client : ℕ) (q r : WholeRequest) (number : ℕ) (fated : Bool) → MayBecome (FatedOf errors client q number fated) r → IsWell q → IsWell r
well_as errors client q r number fated may well = grind (arith, may, well)

-- it gives no byte that the request doesn't
pub gives_less : (errors : Errors) (client : ℕ) (q r : WholeRequest) (number : ℕ) (fated : Bool) → MayBecome (FatedOf errors client q number fated) r → (a x : ℕ)
    → is_some (given_at r.bytes a x) ≡ true → is_some (given_at q.bytes a x) ≡ true
gives_less errors client q r number fated may a x some = grind (arith, may, some)

-- it is what it is, where it isn't fated and wasn't spoiled
pub same_as : (errors : Errors) (client : ℕ) (q r : WholeRequest) (number : ℕ) (fated : Bool) → MayBecome (FatedOf errors client q number fated) r → fated ≡ false
    → is_spoiled errors q ≡ false → r ≡ q
same_as errors client q r number fated may none sound = may.same refl (rw (none, sound) refl)

-- and corrupt where it was, unless that may be told in any way
pub corrupt_as : (errors : Errors) (q r : WholeRequest) (fated : Bool) → (fated ≡ true → errors ≡ Any)
    → ((is_spoiled errors q || fated) ≡ false → q.corrupt ≡ true → r.corrupt ≡ true) → is_spoiled errors q ≡ false → q.corrupt ≡ true → r.corrupt ≡ true
corrupt_as errors q r fated any corrupt sound is = grind (arith, any, corrupt, sound, is)

-- ---- where it acts

module _ (faults : Faults) (regions : List Region) (errors : Errors) (q r : WholeRequest) (fields : r ≡ record q { bytes = r.bytes; corrupt = r.corrupt })
    (corrupt : is_spoiled errors q ≡ false → q.corrupt ≡ true → r.corrupt ≡ true) where
  -- one that acts isn't corrupt
  acts_sound : ((own faults regions r).reads || (own faults regions r).writes) ≡ true → r.corrupt ≡ false
  acts_sound does = grind (arith, does)

  -- where it isn't corrupt it acts where the request may act
  place_of_sound : r.corrupt ≡ false → address_of regions (acting errors q) ≡ address_of regions r
  place_of_sound is = grind (arith, is, corrupt, fields)

  pub same_place : ((own faults regions r).reads || (own faults regions r).writes) ≡ true
      → on_good_page faults (address_of regions (acting errors q)) ≡ on_good_page faults (address_of regions r)
  same_place does = ap (on_good_page faults) (place_of_sound (acts_sound does))

  -- and as it may
  pub same_acting : (failed : Bool) (determined : ℕ → Bool) → ((own faults regions r).reads || (own faults regions r).writes) ≡ true
      → record (alone (λ x. false) (on_good_page faults (address_of regions (acting errors q))) q) { failed = failed; determined = determined }
      ≡ record (own faults regions r) { failed = failed; determined = determined }
  same_acting failed determined does = grind (arith, does, fields)

  -- what it gives the request may give there
  pub gives_there : (footprint : Footprint)
      → footprint ≡ record (alone (λ x. false) (on_good_page faults (address_of regions (acting errors q))) q) { failed = footprint.failed; determined = footprint.determined }
      → ((a x : ℕ) → is_some (given_at r.bytes a x) ≡ true → is_some (given_at q.bytes a x) ≡ true)
      → (x : ℕ) → gives (own faults regions r) r.bytes x ≡ true → gives footprint q.bytes x ≡ true
  gives_there footprint is less x given = grind (arith, is, less, given)

-- one that isn't spoiled acts as it is
pub acting_same : (errors : Errors) (q : WholeRequest) → is_spoiled errors q ≡ false → acting errors q ≡ q
acting_same errors q sound = grind (arith, sound)

-- ---- where a footprint has failed

pub fails_keeps : (failed : Bool) (footprint : Footprint)
    → unless_failed failed footprint ≡ record footprint { failed = (unless_failed failed footprint).failed; determined = (unless_failed failed footprint).determined }
fails_keeps true footprint = refl
fails_keeps false footprint = refl

pub fails_flag : (failed : Bool) (footprint : Footprint) → footprint.failed ≡ false → (unless_failed failed footprint).failed ≡ failed
fails_flag true footprint is = refl
fails_flag false footprint is = is

pub fails_less : (failed : Bool) (footprint : Footprint) (x : ℕ) → (unless_failed failed footprint).determined x ≡ true
    → (footprint.determined x ≡ true) × (failed ≡ false)
fails_less true footprint x is = absurd (cc (is))
fails_less false footprint x is = (is, refl)

-- ---- whether it tells an error

abbrev tells : DBeat → Bool
tells beat = beat.denied || beat.corrupt

same_any : (one other : ℕ → Bool) (places : List ℕ) → ((j : ℕ) → one j ≡ other j) → list_any one places ≡ list_any other places
same_any one other [] same = refl
same_any one other (place ∷ places) same = rw (same place, same_any one other places same) refl

word_tells : (hidden : ℕ → Bool) (m n : Bytes) (a : ℕ) (q : WholeRequest) (j : ℕ)
    → tells (beat_of_word q (reply_of hidden m a q) j) ≡ tells (beat_of_word q (reply_of hidden n a q) j)
word_tells hidden m n a q j = ap (λ (lacks : Bool). tells (told lacks m)) (lacks_same hidden m n a q j) ∙ by_lacks (lacks_a_byte q (reply_of hidden n a q) j)
  where
    told : Bool → Bytes → DBeat
    told lacks k =
        if lacks
        then record (beat_without_data q (reply_of hidden k a q)) { corrupt = true }
        else record (beat_without_data q (reply_of hidden k a q)) { payload = payload_of (λ lane. given_at (reply_of hidden k a q).bytes q.address (address_in_word q j lane)) }

    by_lacks : (lacks : Bool) → tells (told lacks m) ≡ tells (told lacks n)
    by_lacks true = refl
    by_lacks false = refl

-- on any bytes alike
pub tells_same : (faults : Faults) (regions : List Region) (q : WholeRequest) (m n : Bytes)
    → tells_error (shown q (meaning faults regions q m).reply) ≡ tells_error (shown q (meaning faults regions q n).reply)
tells_same faults regions q m n = by_kind (kind faults regions q)
  where
    told : (t : Tells faults regions q) (k : Bytes)
        → tells_error (shown q (meaning faults regions q k).reply)
        ≡ list_any (λ j. tells (beat_of_word q (reply_of t.hidden k t.place q) j)) (range_with_len 0 (beats_of q.size true))
    told t k =
        ap (λ (reply : Reply). tells_error (shown q reply)) (t.reply k)
        ∙ rw (t.carries) (any_map tells (beat_of_word q (reply_of t.hidden k t.place q)) (range_with_len 0 (beats_of q.size true)))

    by_kind : Kind faults regions q → tells_error (shown q (meaning faults regions q m).reply) ≡ tells_error (shown q (meaning faults regions q n).reply)
    by_kind (Fixed reply same) = ap (λ (r : Reply). tells_error (shown q r)) (same m ∙ sym (same n))
    by_kind (Told t) =
        told t m
        ∙ same_any (λ j. tells (beat_of_word q (reply_of t.hidden m t.place q) j)) (λ j. tells (beat_of_word q (reply_of t.hidden n t.place q) j))
        (range_with_len 0 (beats_of q.size true)) (word_tells t.hidden m n t.place q)
        ∙ sym (told t n)

-- one that is denied does
tells_denied : (q : WholeRequest) → tells_error (shown q denied) ≡ true
tells_denied q = grind arith

-- one that is spoiled fails
pub sound_spoils : (errors : Errors) (memory : Memory) (q : WholeRequest) → fails errors memory q ≡ false → is_spoiled errors q ≡ false
sound_spoils Strict memory q sound = refl
sound_spoils Any memory q sound = by_corrupt (cases_Bool q.corrupt)
  where
    by_corrupt : (q.corrupt ≡ true) ⊎ (q.corrupt ≡ false) → q.corrupt ≡ false
    by_corrupt is = grind (arith, is)

-- whether a request would act on no good page, were it not corrupt
abbrev pub lacks_place : Faults → List Region → WholeRequest → Bool
lacks_place faults regions q = is_none (on_good_page faults (address_of regions (record q { corrupt = false })))

-- whether the access of a request fails, by the pages and where regions lead
abbrev pub fails_at : Faults → List Region → WholeRequest → Bool
fails_at faults regions q =
    lacks_place faults regions q || tells_error (shown (record q { corrupt = false }) (meaning faults regions (record q { corrupt = false }) zeros).reply)

-- whether an entry has failed
abbrev pub failed_at : Errors → Faults → List Region → Entry → Bool
failed_at Strict faults regions entry = false
failed_at Any faults regions entry = entry.spoiled || fails_at faults regions entry.request

-- as another with these fields does
fails_fields : (faults : Faults) (regions : List Region) (q r : WholeRequest) → r ≡ record q { bytes = r.bytes; corrupt = r.corrupt }
    → fails_at faults regions q ≡ fails_at faults regions r
fails_fields faults regions q r fields = grind (arith, fields)

-- a request fails as what it becomes
pub fails_as : (errors : Errors) (client : ℕ) (memory : Memory) (q r : WholeRequest) (whole : Bool) (number : ℕ) → r ≡ record q { bytes = r.bytes; corrupt = r.corrupt }
    → fails errors memory q ≡ failed_at errors memory.faults memory.regions (record (first_of errors client q whole number) { request = r })
fails_as Strict client memory q r whole number fields = refl
fails_as Any client memory q r whole number fields = by_corrupt (cases_Bool q.corrupt)
  where
    by_corrupt : (q.corrupt ≡ true) ⊎ (q.corrupt ≡ false)
        → (lacks_place memory.faults memory.regions q || tells_error (shown q (meaning memory.faults memory.regions q memory.bytes).reply))
        ≡ (q.corrupt || fails_at memory.faults memory.regions r)
    by_corrupt (inl is) = grind (arith, tells_denied q, or-true (lacks_place memory.faults memory.regions q))
    by_corrupt (inr is) =
        let sound : record q { corrupt = false } ≡ q = ap (λ (c : Bool). record q { corrupt = c }) (sym is) in
        ap (λ (b : Bool). lacks_place memory.faults memory.regions q || b)
        (tells_same memory.faults memory.regions q memory.bytes zeros
        ∙ sym (ap (λ (x : WholeRequest). tells_error (shown x (meaning memory.faults memory.regions x zeros).reply)) sound))
        ∙ fails_fields memory.faults memory.regions q r fields
        ∙ sym (ap (λ (c : Bool). c || fails_at memory.faults memory.regions r) is)

-- ---- the shape of a beat: what a failed request can't tell otherwise

abbrev pub shape_of : DBeat → DBeat
shape_of beat = record beat { denied = false; payload = 0; corrupt = false }

abbrev plain : WholeRequest → DBeat
plain q = record { opcode = reply_opcode q.operation; param = 0; size = q.size; source = q.source; denied = false; payload = 0; corrupt = false }

word_shape : (q : WholeRequest) (reply : Reply) (j : ℕ) → shape_of (beat_of_word q reply j) ≡ plain q
word_shape q reply j = by_lacks (reply.denied || lacks_a_byte q reply j) refl
  where
    by_lacks : (b : Bool) → (reply.denied || lacks_a_byte q reply j) ≡ b → shape_of (beat_of_word q reply j) ≡ plain q
    by_lacks true is = rw is refl
    by_lacks false is = rw is refl

shapes : (q : WholeRequest) (reply : Reply) → map shape_of (shown q reply) ≡ (if reply_has_data q.operation then map (λ j. plain q) (range_with_len 0 (beats_of q.size true)) else plain q ∷ [])
shapes q reply = by_data (reply_has_data q.operation) refl
  where
    by_data : (b : Bool) → reply_has_data q.operation ≡ b
        → map shape_of (shown q reply) ≡ (if reply_has_data q.operation then map (λ j. plain q) (range_with_len 0 (beats_of q.size true)) else plain q ∷ [])
    by_data false is = rw is refl
    by_data true is =
        rw is (map-map shape_of (beat_of_word q reply) (range_with_len 0 (beats_of q.size true))
        ∙ map_same (λ j. shape_of (beat_of_word q reply j)) (λ j. plain q) (range_with_len 0 (beats_of q.size true)) (word_shape q reply))

-- is the same of what it becomes, whatever it tells
pub same_shapes : (q r : WholeRequest) (reply other : Reply) → r ≡ record q { bytes = r.bytes; corrupt = r.corrupt } → map shape_of (shown q reply) ≡ map shape_of (shown r other)
same_shapes q r reply other fields =
    shapes q reply
    ∙ sym (ap (λ (x : WholeRequest). if reply_has_data x.operation then map (λ j. plain x) (range_with_len 0 (beats_of x.size true)) else plain x ∷ []) fields)
    ∙ sym (shapes r other)

-- entries that agree in what they ask and in what was corrupt have failed alike
pub failed_by : (errors : Errors) (faults : Faults) (regions : List Region) (one other : Entry) → one.spoiled ≡ other.spoiled → one.request ≡ other.request
    → failed_at errors faults regions one ≡ failed_at errors faults regions other
failed_by errors faults regions one other spoiled same = grind (arith, spoiled, same)

-- ---- a request whose reply has no data

-- its reply is one beat, which tells no more than whether it is denied
pub silent_shown : (q : WholeRequest) (reply : Reply) → reply_has_data q.operation ≡ false → shown q reply ≡ beat_without_data q reply ∷ []
silent_shown q reply silent = rw silent refl

-- where the access of such a request doesn't fail its reply is an acknowledgement, on any bytes
pub silent_known : (faults : Faults) (regions : List Region) (r : WholeRequest) (m : Bytes) → reply_has_data r.operation ≡ false → fails_at faults regions r ≡ false
    → shown r (meaning faults regions (record r { corrupt = false }) m).reply ≡ beat_without_data r acknowledged ∷ []
silent_known faults regions r m silent sound = grind (arith, silent, sound)

-- one that is spoiled has failed, where that may be told in any way
pub failed_any : (errors : Errors) (faults : Faults) (regions : List Region) (entry : Entry) → errors ≡ Any → entry.spoiled ≡ true → failed_at errors faults regions entry ≡ true
failed_any errors faults regions entry any spoiled = grind (arith, any, spoiled)
