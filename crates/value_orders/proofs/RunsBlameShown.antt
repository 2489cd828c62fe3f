-- What a beat of a reply tells of a byte, where it has data and isn't corrupt: the byte that its request found there.
use Rattle.std.proofs.Common.{◌≡◌, ℕ, zero, suc, ◌+◌, ◌-◌, ◌/◌, ◌%◌, ◌^◌, ◌<◌, ◌≤◌, Bool, true, false, ◌&&◌, List, [], ◌∷◌, map, drop, Option, Some, None, if◌then◌else◌, refl, sym, ◌∙◌, ap, subst, arith}
use Rattle.std.specs.Prelude.{is_none, nat_le, nat_lt, replicate, slice_get, unwrap_or}
use Rattle.std.specs.List.{range_with_len}
use Rattle.std.proofs.lemmas.Bool.{and_parts, both_ways, eqb-true, le-leb, leb-true, lt-ltb, ltb-true}
use Rattle.std.proofs.lemmas.List.FromFn.{get_or-map-range_with_len, length-map-range_with_len}
use Rattle.std.proofs.lemmas.Option.{get_or_from_slice_get, slice_get_within}
use Rattle.bus_words.specs.Lanes.{given_at, lane_byte, payload_of}
use Rattle.bus_words.proofs.LaneLaws.{lane_byte-payload_of}
use Rattle.burst_plan.specs.PageMap.{address_of}
use Rattle.meaning.specs.Meaning.{Bytes, Effect, bytes_at, effect}
use Rattle.responses.specs.Shown.{Reply, address_in_word, beat_of_word, beat_without_data, lacks_a_byte, shown}
use Rattle.serial_memory.specs.SerialMemory.{on_good_page}
use Rattle.setups.specs.Setups.{SetupLists, faults_of}
use Rattle.subordinate.specs.Faults.{Faults, Standing, IsAbsent, IsGood, IsSlaveError, is_bad, is_good, standing_at}
use Rattle.tl_messages.specs.Lanes.{in_range}
use Rattle.tl_messages.specs.Operations.{beats_of, reply_has_data, reply_opcode}
use Rattle.tl_messages.specs.Requests.{WholeRequest}
use Rattle.tl_messages.specs.declared.DBeat.{DBeat}
use Rattle.tl_messages.specs.declared.Operation.{Operation}
use Rattle.tl_messages.specs.declared.Operation.TheVariants.{Atomic, Get, Intent, PutFull, PutPartial}
use Rattle.scoreboard.specs.Orders.{meaning_on}
use Rattle.scoreboard.proofs.acceptance_order.Meanings.{meaning_some}
use Rattle.scoreboard.proofs.real_time.AlikeBeats.{reply_of}
use Rattle.scoreboard.proofs.real_time.ReplyBytes.{told_at, told_bytes}
use Rattle.scoreboard.proofs.real_time.RequestActs.{AreBytes}
use Rattle.value_orders.specs.Places.{covers_from, is_in_word}
use Rattle.value_orders.proofs.Ranges.{none_of_range}

-- ---- on a good page

record IsAtGood (faults : Faults) (at : Option ℕ) (a : ℕ) : Type 0 where
  there : at ≡ Some a
  good : standing_at faults a ≡ IsGood

is_good_page : (standing : Standing) → is_good standing ≡ true → standing ≡ IsGood
is_good_page IsGood is = refl
is_good_page IsSlaveError is = absurd (cc (is))
is_good_page IsAbsent is = absurd (cc (is))

at_good : (faults : Faults) (at : Option ℕ) (a : ℕ) → on_good_page faults at ≡ Some a → IsAtGood faults at a
at_good faults None a is = absurd (cc (is))
at_good faults (Some b) a is = by_good (is_good (standing_at faults b)) refl is
  where
    by_good : (g : Bool) → is_good (standing_at faults b) ≡ g → (if g then Some b else None) ≡ Some a → IsAtGood faults (Some b) a
    by_good false bad same = absurd (cc (same))
    by_good true good same = record { there = same; good = subst (λ k. standing_at faults k ≡ IsGood) (cc (same)) (is_good_page (standing_at faults b) good) }

-- a reply with data, made on a good page: the bytes as they are, but for the hidden ones
record Reads (setup : SetupLists) (q : WholeRequest) (a : ℕ) : Type 0 where
  hidden : ℕ → Bool
  lanes : a % 8 ≡ q.address % 8
  reply : (m : Bytes) → (meaning_on setup q m).reply ≡ reply_of hidden m a q

none_told : (m : Bytes) (a n : ℕ) → replicate n None ≡ told_bytes (λ x. true) m a n
none_told m a zero = refl
none_told m a (suc n) = ap (λ (rest : List (Option ℕ)). None ∷ rest) (none_told m (a + 1) n)

all_told : (m : Bytes) (a n : ℕ) → map (λ (b : ℕ). Some b) (bytes_at m a n) ≡ told_bytes (λ x. false) m a n
all_told m a zero = refl
all_told m a (suc n) = ap (λ (rest : List (Option ℕ)). Some (m a) ∷ rest) (all_told m (a + 1) n)

module _ (setup : SetupLists) (q : WholeRequest) (a : ℕ) (acts : on_good_page (faults_of setup) (address_of setup.regions q) ≡ Some a) where
  found : IsAtGood (faults_of setup) (address_of setup.regions q) a
  found = at_good (faults_of setup) (address_of setup.regions q) a acts

  same_lanes : a % 8 ≡ q.address % 8
  same_lanes = by_address found.there
    where
      by_address : address_of setup.regions q ≡ Some a → a % 8 ≡ q.address % 8
      by_address is = grind (arith, is)

  reads_by : (op : Operation) (bad : Bool) → ((m : Bytes) → meaning_on setup q m ≡ effect (faults_of setup) q m a op IsGood bad) → reply_has_data op ≡ true → Reads setup q a
  reads_by PutFull bad same carries = absurd (cc (carries))
  reads_by PutPartial bad same carries = absurd (cc (carries))
  reads_by (Intent write) bad same carries = absurd (cc (carries))
  reads_by Get bad same carries =
      record { hidden = is_bad (faults_of setup); lanes = same_lanes; reply = λ m. ap (λ (e : Effect). e.reply) (same m) }
  reads_by (Atomic op) true same carries =
      record {
        hidden = λ x. true;
        lanes = same_lanes;
        reply = λ m. ap (λ (e : Effect). e.reply) (same m)
            ∙ ap (λ (bytes : List (Option ℕ)). record { denied = false; bytes = bytes }) (none_told m a (2 ^ q.size));
      }
  reads_by (Atomic op) false same carries =
      record {
        hidden = λ x. false;
        lanes = same_lanes;
        reply = λ m. ap (λ (e : Effect). e.reply) (same m)
            ∙ ap (λ (bytes : List (Option ℕ)). record { denied = false; bytes = bytes }) (all_told m a (2 ^ q.size));
      }

  reads : reply_has_data q.operation ≡ true → Reads setup q a
  reads carries =
      reads_by q.operation (is_bad (faults_of setup) a)
      (λ m. meaning_some (faults_of setup) setup.regions q m a found.there
      ∙ ap (λ (standing : Standing). effect (faults_of setup) q m a q.operation standing (is_bad (faults_of setup) a)) found.good)
      carries

-- ---- a word of it

told_small : (hidden : ℕ → Bool) (m : Bytes) (a n start x : ℕ) → AreBytes m → unwrap_or (given_at (told_bytes hidden m a n) start x) 0 < 256
told_small hidden m a n start x bytes = rw (told_at hidden m a n start x) (grind (arith, bytes.at (a + (x - start))))

module _ (hidden : ℕ → Bool) (m : Bytes) (a : ℕ) (q : WholeRequest) (came x : ℕ) (lanes : a % 8 ≡ q.address % 8) (bytes : AreBytes m)
    (covered : covers_from (Some a) q.size x ≡ true) (in_word : is_in_word (Some a) came x ≡ true) where
  -- the address in the request of the byte
  abbrev place : ℕ
  place = address_in_word q came (x % 8)

  abbrev given : Option ℕ
  given = given_at (told_bytes hidden m a (2 ^ q.size)) q.address place

  from_start : a ≤ x
  from_start = leb-true a x (and_parts (nat_le a x) (nat_lt x (a + 2 ^ q.size)) covered).0

  within : x < a + 2 ^ q.size
  within = ltb-true x (a + 2 ^ q.size) (and_parts (nat_le a x) (nat_lt x (a + 2 ^ q.size)) covered).1

  same_word : x / 8 ≡ a / 8 + came
  same_word = eqb-true (x / 8) (a / 8 + came) in_word

  reaches : q.address ≤ place
  reaches = omega (arith, from_start, same_word, lanes)

  back : a + (place - q.address) ≡ x
  back = omega (arith, from_start, same_word, lanes)

  inside : place - q.address < 2 ^ q.size
  inside = omega (arith, from_start, within, back, reaches)

  is_inside : in_range q.address q.size place ≡ true
  is_inside = rw (le-leb q.address place reaches, lt-ltb place (q.address + 2 ^ q.size) (omega (arith, inside, reaches))) refl

  given_is : given ≡ (if hidden x then None else Some (m x))
  given_is =
      told_at hidden m a (2 ^ q.size) q.address place
      ∙ rw (le-leb q.address place reaches, lt-ltb (place - q.address) (2 ^ q.size) inside, back) refl

  shows : is_none given ≡ false → unwrap_or given 0 ≡ m x
  shows some = by_hidden (hidden x) given_is
    where
      by_hidden : (b : Bool) → given ≡ (if b then None else Some (m x)) → unwrap_or given 0 ≡ m x
      by_hidden true is = absurd (both_ways (is_none given) some (ap (λ (o : Option ℕ). is_none o) is))
      by_hidden false is = ap (λ (o : Option ℕ). unwrap_or o 0) is

  some_given : lacks_a_byte q (reply_of hidden m a q) came ≡ false → is_none given ≡ false
  some_given none =
      let same : 0 + x % 8 ≡ x % 8 = omega (arith) in
      by_range (in_range q.address q.size place) is_inside
      (subst (λ lane. lacks lane ≡ false) same (none_of_range lacks 0 8 (x % 8) none (omega (arith))))
    where
      lacks : ℕ → Bool
      lacks lane = in_range q.address q.size (address_in_word q came lane) && is_none (given_at (told_bytes hidden m a (2 ^ q.size)) q.address (address_in_word q came lane))

      by_range : (b : Bool) → b ≡ true → (b && is_none given) ≡ false → is_none given ≡ false
      by_range true is all = all
      by_range false is all = absurd (cc (is))

  pub word_tells : (beat_of_word q (reply_of hidden m a q) came).corrupt ≡ false → lane_byte (beat_of_word q (reply_of hidden m a q) came).payload (x % 8) ≡ m x
  word_tells sound = by_lacks (lacks_a_byte q (reply_of hidden m a q) came) refl sound
    where
      word : Bool → DBeat
      word lacks =
          if lacks
          then record (beat_without_data q (reply_of hidden m a q)) { corrupt = true }
          else record (beat_without_data q (reply_of hidden m a q)) {
            payload = payload_of (λ lane. given_at (told_bytes hidden m a (2 ^ q.size)) q.address (address_in_word q came lane));
          }

      by_lacks : (l : Bool) → lacks_a_byte q (reply_of hidden m a q) came ≡ l → (word l).corrupt ≡ false → lane_byte (word l).payload (x % 8) ≡ m x
      by_lacks true is not_corrupt = absurd (cc (not_corrupt))
      by_lacks false is not_corrupt =
          lane_byte-payload_of (λ lane. given_at (told_bytes hidden m a (2 ^ q.size)) q.address (address_in_word q came lane)) (x % 8)
          (record { at = λ lane below. told_small hidden m a (2 ^ q.size) q.address (address_in_word q came lane) bytes }) (omega (arith))
          ∙ shows (some_given is)

-- ---- the next beat that is left

first_left : (beats : List DBeat) (came : ℕ) (due : DBeat) (rest : List DBeat) → drop came beats ≡ due ∷ rest → slice_get beats came ≡ Some due
first_left [] zero due rest is = absurd (cc (is))
first_left [] (suc came) due rest is = absurd (cc (is))
first_left (beat ∷ beats) zero due rest is = ap (λ (b : DBeat). Some b) (cc (is))
first_left (beat ∷ beats) (suc came) due rest is = first_left beats came due rest is

one_of : (f : ℕ → DBeat) (n j : ℕ) (beat : DBeat) → slice_get (map f (range_with_len 0 n)) j ≡ Some beat → f j ≡ beat
one_of f n j beat there =
    let within : j < n = omega (arith, slice_get_within (map f (range_with_len 0 n)) j beat there, length-map-range_with_len f 0 n) in
    sym (get_or-map-range_with_len f 0 n j j beat within (omega arith)) ∙ get_or_from_slice_get (map f (range_with_len 0 n)) j beat beat there

-- one without data has another opcode
no_data : (q : WholeRequest) (reply : Reply) (came : ℕ) (due : DBeat) → slice_get (beat_without_data q reply ∷ []) came ≡ Some due → reply_has_data q.operation ≡ false
    → due.opcode ≡ 1 → ⊥
no_data q reply zero due there none opcode =
    by_operation q.operation none (ap (λ (b : DBeat). b.opcode) (the_beat there) ∙ opcode)
  where
    the_beat : Some (beat_without_data q reply) ≡ Some due → beat_without_data q reply ≡ due
    the_beat same = cc (same)

    by_operation : (op : Operation) → reply_has_data op ≡ false → reply_opcode op ≡ 1 → ⊥
    by_operation PutFull is one = absurd (omega (arith, one))
    by_operation PutPartial is one = absurd (omega (arith, one))
    by_operation (Atomic op) is one = absurd (cc (is))
    by_operation Get is one = absurd (cc (is))
    by_operation (Intent write) is one = absurd (omega (arith, one))
no_data q reply (suc came) due there none opcode = absurd (cc (there))

-- what the next beat tells that is left of the reply to a request carried out on some bytes
pub left_tells : (setup : SetupLists) (q : WholeRequest) (a : ℕ) (m : Bytes) (came x : ℕ) (due : DBeat) (rest : List DBeat)
    → on_good_page (faults_of setup) (address_of setup.regions q) ≡ Some a → AreBytes m → covers_from (Some a) q.size x ≡ true → is_in_word (Some a) came x ≡ true
    → drop came (shown q (meaning_on setup q m).reply) ≡ due ∷ rest → due.opcode ≡ 1 → due.corrupt ≡ false
    → lane_byte due.payload (x % 8) ≡ m x
left_tells setup q a m came x due rest acts bytes covered in_word left opcode sound = by_data (reply_has_data q.operation) refl
  where
    there : slice_get (shown q (meaning_on setup q m).reply) came ≡ Some due
    there = first_left (shown q (meaning_on setup q m).reply) came due rest left

    by_data : (b : Bool) → reply_has_data q.operation ≡ b → lane_byte due.payload (x % 8) ≡ m x
    by_data false none = absurd (no_data q (meaning_on setup q m).reply came due (sym (ap (λ (beats : List DBeat). slice_get beats came) alone) ∙ there) none opcode)
      where
        alone : shown q (meaning_on setup q m).reply ≡ beat_without_data q (meaning_on setup q m).reply ∷ []
        alone = rw none refl
    by_data true carries =
        let read = reads setup q a acts carries in
        let is : beat_of_word q (reply_of read.hidden m a q) came ≡ due =
        ap (λ (reply : Reply). beat_of_word q reply came) (sym (read.reply m))
        ∙ one_of (beat_of_word q (meaning_on setup q m).reply) (beats_of q.size true) came due (sym (ap (λ (beats : List DBeat). slice_get beats came) words) ∙ there) in
        ap (λ (b : DBeat). lane_byte b.payload (x % 8)) (sym is)
        ∙ word_tells read.hidden m a q came x read.lanes bytes covered in_word (ap (λ (b : DBeat). b.corrupt) is ∙ sound)
      where
        words : shown q (meaning_on setup q m).reply ≡ map (beat_of_word q (meaning_on setup q m).reply) (range_with_len 0 (beats_of q.size true))
        words = rw carries refl
