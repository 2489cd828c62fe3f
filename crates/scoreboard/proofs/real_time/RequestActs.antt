-- What a request does to bytes: it changes those that it gives, and what it gives there depends on no byte, but for an atomic, where it depends on
-- the bytes that it reads.
use Rattle.std.proofs.Common.{◌≡◌, ℕ, zero, suc, ◌+◌, ◌-◌, ◌^◌, ◌<◌, Bool, true, false, ◌&&◌, List, map, length, Option, Some, None, if◌then◌else◌, refl, sym, ◌∙◌, ap, subst, subst₂, arith}
use Rattle.std.specs.Option.{option_flatten}
use Rattle.std.specs.Prelude.{is_some, nat_le, nat_lt, slice_get, unwrap_or, option_map}
use Rattle.std.proofs.Math.Path.{fun_ext}
use Rattle.std.proofs.lemmas.Bool.{and_parts, both_ways}
use Rattle.std.proofs.lemmas.Bool.Decides.{nat_tests}
use Rattle.std.proofs.lemmas.List.{length-map}
use Rattle.std.proofs.lemmas.Option.{slice_get-map, slice_get-get_or, slice_get_within}
use Rattle.bus_words.specs.Lanes.{given_at}
use Rattle.tl_messages.specs.Operations.{has_data}
use Rattle.tl_messages.specs.Requests.{WholeRequest}
use Rattle.tl_messages.specs.declared.AtomicOp.{AtomicOp}
use Rattle.tl_messages.specs.declared.Operation.{Operation}
use Rattle.tl_messages.specs.declared.Operation.TheVariants.{PutFull, PutPartial, Atomic, Get, Intent}
use Rattle.data_unit.specs.Atomics.{atomic_result}
use Rattle.data_unit.specs.Words.{value, bytes_of}
use Rattle.data_unit.proofs.NumberLaws.{lane_byte-lt, length-bytes_of, get_or-bytes_of}
use Rattle.burst_plan.specs.declared.Region.{Region}
use Rattle.burst_plan.specs.PageMap.{address_of}
use Rattle.subordinate.specs.Faults.{Faults, Standing, IsGood, IsSlaveError, IsAbsent, is_bad, is_good, standing_at}
use Rattle.meaning.specs.Meaning.{Bytes, Effect, atomic_bytes, bytes_at, effect, meaning, with_bytes}
use Rattle.meaning.proofs.GivenBytes.{given_before, given_past}
use Rattle.serial_memory.specs.SerialMemory.{on_good_page}
use Rattle.scoreboard.proofs.acceptance_order.Meanings.{meaning_none, meaning_some}
use Rattle.scoreboard.specs.Flights.{Footprint}
use Rattle.scoreboard.specs.Races.{alone, covers}
use Rattle.scoreboard.specs.RealTime.{GivesBytes}

-- ---- requests as a checker lets them pass

-- each byte is one
pub record AreBytes (m : Bytes) : Type 0 where
  pub at : (x : ℕ) → m x < 256

-- as many bytes as the request has, each of them a byte where it is given, and of an atomic all are given
pub record IsWell (q : WholeRequest) : Type 0 where
  pub count : length q.bytes ≡ 2 ^ q.size
  pub small : (i b : ℕ) → slice_get q.bytes i ≡ Some (Some b) → b < 256
  pub full : (op : AtomicOp) → q.operation ≡ Atomic op → (i : ℕ) → i < 2 ^ q.size → is_some (option_flatten (slice_get q.bytes i)) ≡ true

pub well_bytes : (q : WholeRequest) → IsWell q → GivesBytes q
well_bytes q well = record { count = well.count; small = well.small }

-- one that is no atomic need not give all
pub well_put : (q : WholeRequest) → GivesBytes q → ((op : AtomicOp) → q.operation ≡ Atomic op → ⊥) → IsWell q
well_put q gives none = record { count = gives.count; small = gives.small; full = λ op is. absurd (none op is) }

-- where it acts
abbrev pub own : Faults → List Region → WholeRequest → Footprint
own faults regions q = alone (λ x. false) (on_good_page faults (address_of regions q)) q

-- ---- what a change of the memory is to a request

abbrev pub gives : Footprint → List (Option ℕ) → ℕ → Bool
gives footprint bytes x = footprint.writes && is_some (given_at bytes footprint.address x)

pub record Acts (carry : Bytes → Bytes) (footprint : Footprint) (bytes : List (Option ℕ)) : Type 0 where
  pub keeps : (m : Bytes) (x : ℕ) → gives footprint bytes x ≡ false → carry m x ≡ m x
  pub same : (m n : Bytes) (x : ℕ) → gives footprint bytes x ≡ true → (footprint.reads ≡ true → (y : ℕ) → covers footprint y ≡ true → m y ≡ n y) → carry m x ≡ carry n x
  pub within : (x : ℕ) → is_some (given_at bytes footprint.address x) ≡ true → covers footprint x ≡ true
  pub full : footprint.reads ≡ true → footprint.writes ≡ true → (x : ℕ) → covers footprint x ≡ true → is_some (given_at bytes footprint.address x) ≡ true
  pub small : (m : Bytes) → AreBytes m → AreBytes (carry m)

-- ---- bytes that are given

-- the 2^size bytes from an address on
abbrev pub range_has : ℕ → ℕ → ℕ → Bool
range_has address n x = nat_le address x && nat_lt x (address + n)

pub given_within : (bytes : List (Option ℕ)) (a n x : ℕ) → length bytes ≡ n → is_some (given_at bytes a x) ≡ true → range_has a n x ≡ true
given_within bytes a n x count some = grind (arith, nat_tests, given_before bytes a x, given_past bytes a x, count, some)

-- bytes put over others are bytes
put_small : (m : Bytes) (a : ℕ) (bytes : List (Option ℕ)) → ((i b : ℕ) → slice_get bytes i ≡ Some (Some b) → b < 256) → AreBytes m
    → AreBytes (with_bytes m a bytes)
put_small m a bytes small all = record { at = λ x. grind (arith, all.at x, small (x - a)) }

-- ---- the kinds of requests

-- nothing changes: it writes nothing, or is an atomic that leaves all as it is
idle : (carry : Bytes → Bytes) (footprint : Footprint) (bytes : List (Option ℕ)) → ((m : Bytes) → carry m ≡ m) → (footprint.writes ≡ true → footprint.reads ≡ true)
    → length bytes ≡ 2 ^ footprint.size
    → (footprint.writes ≡ true → (x : ℕ) → covers footprint x ≡ true → is_some (given_at bytes footprint.address x) ≡ true)
    → Acts carry footprint bytes
idle carry footprint bytes same reads count full =
    record {
      keeps = λ m x given. ap (λ (f : Bytes). f x) (same m);
      same = λ m n x given agree.
          let parts = and_parts footprint.writes (is_some (given_at bytes footprint.address x)) given in
          let here = agree (reads parts.0) x (given_within bytes footprint.address (2 ^ footprint.size) x count parts.1) in
          ap (λ (f : Bytes). f x) (same m) ∙ here ∙ sym (ap (λ (f : Bytes). f x) (same n));
      within = λ x some. given_within bytes footprint.address (2 ^ footprint.size) x count some;
      full = λ does. full;
      small = λ m all. subst AreBytes (sym (same m)) all;
    }

-- one that writes nothing
quiet : (q : WholeRequest) (place : Option ℕ) (op : Operation) → IsWell q → (is_some place && has_data op) ≡ false
    → Acts (λ m. m) (alone (λ x. false) place (record q { operation = op })) q.bytes
quiet q place op well none =
    idle (λ m. m) (alone (λ x. false) place (record q { operation = op })) q.bytes (λ m. refl) (λ writes. absurd (both_ways (is_some place && has_data op) none writes)) well.count
    (λ writes. absurd (both_ways (is_some place && has_data op) none writes))

-- a Put on a good page
put : (q : WholeRequest) (footprint : Footprint) → footprint.reads ≡ false → footprint.writes ≡ true → length q.bytes ≡ 2 ^ footprint.size → IsWell q
    → Acts (λ m. with_bytes m footprint.address q.bytes) footprint q.bytes
put q footprint reads writes count well =
    record {
      keeps = λ m x given. grind (arith, writes, given);
      same = λ m n x given agree. grind (arith, given);
      within = λ x some. given_within q.bytes footprint.address (2 ^ footprint.size) x count some;
      full = λ does. absurd (both_ways footprint.reads reads does);
      small = λ m all. put_small m footprint.address q.bytes well.small all;
    }

-- all bytes of an atomic are given
all_full : (q : WholeRequest) (a : ℕ) (op : AtomicOp) → IsWell q → q.operation ≡ Atomic op → (x : ℕ) → range_has a (2 ^ q.size) x ≡ true
    → is_some (given_at q.bytes a x) ≡ true
all_full q a op well is x has = grind (arith, nat_tests, has, well.full op is (x - a))

-- what an atomic puts
length-atomic_bytes : (op : AtomicOp) (m : Bytes) (a n : ℕ) (operand : List (Option ℕ)) → length (atomic_bytes op m a n operand) ≡ n
length-atomic_bytes op m a n operand =
    length-map (bytes_of n (atomic_result op n (value (bytes_at m a n)) (value (map (λ byte. unwrap_or byte 0) operand)))) (λ (b : ℕ). Some b)
    ∙ length-bytes_of n (atomic_result op n (value (bytes_at m a n)) (value (map (λ byte. unwrap_or byte 0) operand)))

number_small : (n number i b : ℕ) → slice_get (map (λ (c : ℕ). Some c) (bytes_of n number)) i ≡ Some (Some b) → b < 256
number_small n number i b is =
    let below : i < length (bytes_of n number) =
    omega (arith, slice_get_within (map (λ (c : ℕ). Some c) (bytes_of n number)) i (Some b) is, length-map (bytes_of n number) (λ (c : ℕ). Some c)) in
    let entry = slice_get-map (λ (c : ℕ). Some c) (bytes_of n number) i
    ∙ ap (option_map (λ (c : ℕ). Some c)) (slice_get-get_or (bytes_of n number) i 0 below) in
    let byte = get_or-bytes_of n number i (omega (arith, below, length-bytes_of n number)) in
    grind (arith, is, entry, byte, lane_byte-lt number i)

read_alike : (m n : Bytes) (a count : ℕ) → ((y : ℕ) → range_has a count y ≡ true → m y ≡ n y) → bytes_at m a count ≡ bytes_at n a count
read_alike m n a zero agree = refl
read_alike m n a (suc count) agree = grind (arith, agree, read_alike m n (a + 1) count)

-- an atomic on a good page whose word isn't bad
change : (q : WholeRequest) (footprint : Footprint) (op : AtomicOp) → footprint.reads ≡ true → footprint.writes ≡ true → footprint.size ≡ q.size → q.operation ≡ Atomic op
    → IsWell q
    → Acts (λ m. with_bytes m footprint.address (atomic_bytes op m footprint.address (2 ^ q.size) q.bytes)) footprint q.bytes
change q footprint op reads writes size is well =
    record {
      keeps = λ m x given.
          let small = given_within (put_by m) footprint.address (2 ^ q.size) x (length-atomic_bytes op m footprint.address (2 ^ q.size) q.bytes) in
          grind (arith, writes, given, small, all_full q footprint.address op well is x);
      same = λ m n x given agree.
          let there = within x (and_parts footprint.writes (is_some (given_at q.bytes footprint.address x)) given).1 in
          let read = read_alike m n footprint.address (2 ^ q.size) (λ y has. agree reads y (rw (sym size) at has)) in
          rw (read, agree reads x there) refl;
      within = within;
      full = λ does writes x covered. all_full q footprint.address op well is x (rw size at covered);
      small = λ m all.
          put_small m footprint.address (put_by m)
          (number_small (2 ^ q.size) (atomic_result op (2 ^ q.size) (value (bytes_at m footprint.address (2 ^ q.size)))
          (value (map (λ byte. unwrap_or byte 0) q.bytes)))) all;
    }
  where
    put_by : Bytes → List (Option ℕ)
    put_by m = atomic_bytes op m footprint.address (2 ^ q.size) q.bytes

    within : (x : ℕ) → is_some (given_at q.bytes footprint.address x) ≡ true → covers footprint x ≡ true
    within x some = given_within q.bytes footprint.address (2 ^ footprint.size) x (well.count ∙ ap (λ k. 2 ^ k) (sym size)) some

-- ---- each request

-- every atomic carries data
pub atomic_data : (op : AtomicOp) → has_data (Atomic op) ≡ true
atomic_data op = grind arith

by_kind : (faults : Faults) (q : WholeRequest) (a : ℕ) (op : Operation) (standing : Standing) (bad : Bool) → q.operation ≡ op → IsWell q
    → Acts (λ m. (effect faults q m a op standing bad).after)
    (alone (λ x. false) (if is_good standing then Some a else None) (record q { operation = op })) q.bytes
by_kind faults q a PutFull IsGood bad is well = put q (alone (λ x. false) (Some a) (record q { operation = PutFull })) refl refl well.count well
by_kind faults q a PutPartial IsGood bad is well = put q (alone (λ x. false) (Some a) (record q { operation = PutPartial })) refl refl well.count well
by_kind faults q a (Atomic op) IsGood true is well =
    idle (λ m. m) (alone (λ x. false) (Some a) (record q { operation = Atomic op })) q.bytes (λ m. refl) (λ writes. refl) well.count (λ writes. all_full q a op well is)
by_kind faults q a (Atomic op) IsGood false is well =
    change q (alone (λ x. false) (Some a) (record q { operation = Atomic op })) op refl (atomic_data op) refl is well
by_kind faults q a Get IsGood bad is well = quiet q (Some a) Get well refl
by_kind faults q a (Intent write) IsGood bad is well = quiet q (Some a) (Intent write) well refl
by_kind faults q a (Intent write) IsSlaveError bad is well = quiet q None (Intent write) well refl
by_kind faults q a (Intent write) IsAbsent bad is well = quiet q None (Intent write) well refl
by_kind faults q a PutFull IsSlaveError bad is well = quiet q None PutFull well refl
by_kind faults q a PutFull IsAbsent bad is well = quiet q None PutFull well refl
by_kind faults q a PutPartial IsSlaveError bad is well = quiet q None PutPartial well refl
by_kind faults q a PutPartial IsAbsent bad is well = quiet q None PutPartial well refl
by_kind faults q a Get IsSlaveError bad is well = quiet q None Get well refl
by_kind faults q a Get IsAbsent bad is well = quiet q None Get well refl
by_kind faults q a (Atomic op) IsSlaveError bad is well = quiet q None (Atomic op) well refl
by_kind faults q a (Atomic op) IsAbsent bad is well = quiet q None (Atomic op) well refl

pub acts : (faults : Faults) (regions : List Region) (q : WholeRequest) → IsWell q
    → Acts (λ m. (meaning faults regions q m).after) (own faults regions q) q.bytes
acts faults regions q well = by_address (address_of regions q) refl
  where
    by_address : (address : Option ℕ) → address_of regions q ≡ address → Acts (λ m. (meaning faults regions q m).after) (own faults regions q) q.bytes
    by_address None is =
        let nothing : (own faults regions q).writes ≡ false = rw is refl in
        idle (λ m. (meaning faults regions q m).after) (own faults regions q) q.bytes (λ m. ap (λ (e : Effect). e.after) (meaning_none faults regions q m is))
        (λ writes. absurd (both_ways (own faults regions q).writes nothing writes)) well.count
        (λ writes. absurd (both_ways (own faults regions q).writes nothing writes))
    by_address (Some a) is =
        let carries : (λ (m : Bytes). (effect faults q m a q.operation (standing_at faults a) (is_bad faults a)).after) ≡
        (λ (m : Bytes). (meaning faults regions q m).after) =
        fun_ext (λ m. ap (λ (e : Effect). e.after) (sym (meaning_some faults regions q m a is))) in
        subst₂ (λ (carry : Bytes → Bytes) (footprint : Footprint). Acts carry footprint q.bytes) carries
        (ap (λ (o : Option ℕ). alone (λ x. false) (on_good_page faults o) q) (sym is))
        (by_kind faults q a q.operation (standing_at faults a) (is_bad faults a) refl well)
