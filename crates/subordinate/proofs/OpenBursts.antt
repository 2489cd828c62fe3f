-- The open bursts of a device: found by serial, and by ID and side; and what sending, performing and answering keep.
use Rattle.std.proofs.Common.{◌≡◌, ℕ, zero, suc, ◌+◌, ◌<◌, ◌≤◌, ◌==◌, Bool, true, false, List, [], ◌∷◌, ◌++◌, length, get_or, refl, sym, ◌∙◌, ap, subst, arith}
use Rattle.std.specs.List.{AllByRecursion, position_or_len}
use Rattle.std.specs.List.Sorted.{IsBinarySearchResult, IsNonDecreasingBy, IsSearchInRange}
use Rattle.std.specs.Ordering.{nat_cmp, ordering_index}
use Rattle.std.specs.Prelude.{Option, Some, None, Result, Ok, Err, filter, filter_map, find, position, IfSome, is_some, option_map}
use Rattle.std.specs.Result.{result_ok}
use Rattle.std.proofs.lemmas.Bool.{lt-ltb, le-ltb, eq-eqb}
use Rattle.std.proofs.lemmas.Bool.Decides.{nat_tests}
use Rattle.std.proofs.lemmas.Cmp.{ranked}
use Rattle.std.proofs.lemmas.List.Sorted.{IsNonDecreasingBy-from_default}
use Rattle.bus_words.proofs.FirstPlaces.{find-first, find-none, position_is_first}
use Rattle.bus_words.specs.Places.{change_first, without_first}
use Rattle.bus_words.proofs.PlaceChanges.{all-at}
use Rattle.axi_beats.specs.Bursts.{Burst, ReadBurst, WriteBurst}
use Rattle.axi_checker.specs.OpenBursts.{OpenBursts, lacks_data, read_of_id, write_of_id, write_to_fill}
use Rattle.subordinate.specs.FreeMemory.{FreeMemory, Pending, gives_last, has_serial, is_read_of, is_write_of, newly_pending, open_bursts_of, open_read_in, open_write_in, pending_after_r}
use Rattle.subordinate.specs.Inside.{is_beside, no_burst, with_answer}
use Rattle.subordinate.specs.Laws.{RisesWithin, queue_of, queue_of_burst}
use Rattle.axi_checker.specs.Rules.{AxiPortLimits, burst_fault, id_of, outstanding_beside}
use Rattle.axi_checker.specs.declared.AxiRule.{AxiRule}

-- ---- serials rise

pub rises-weaken : (low lower top : ℕ) (pending : List Pending) → lower ≤ low → RisesWithin low top pending → RisesWithin lower top pending
rises-weaken low lower top [] less rises = omega (arith, less, rises)
rises-weaken low lower top (p ∷ ps) less rises = (omega (arith, less, rises.0), rises.1)

pub rises-append : (low top : ℕ) (pending : List Pending) (p : Pending) → RisesWithin low top pending → p.serial ≡ top → RisesWithin low (top + 1) (pending ++ p ∷ [])
rises-append low top [] p rises last = (omega (arith, rises, last), omega (arith, last))
rises-append low top (q ∷ qs) p rises last = (rises.0, rises-append (q.serial + 1) top qs p rises.1 last)

pub rises-without_first : (low top : ℕ) (test : Pending → Bool) (pending : List Pending) → RisesWithin low top pending → RisesWithin low top (without_first test pending)
rises-without_first low top test [] rises = rises
rises-without_first low top test (p ∷ ps) rises = grind (arith, rises-weaken (p.serial + 1) low top ps, rises-without_first (p.serial + 1) top test ps rises.1)

-- what is found in them has a serial that isn't below
pub rises-found : (low top : ℕ) (test : Pending → Bool) (pending : List Pending) (p : Pending) → RisesWithin low top pending → find test pending ≡ Some p → low ≤ p.serial
rises-found low top test [] p rises found = absurd (cc)
rises-found low top test (q ∷ qs) p rises found = grind (arith, rises-found (q.serial + 1) top test qs p rises.1)

pub rises-change_first : (low top : ℕ) (test : Pending → Bool) (change : Pending → Pending) (pending : List Pending) → ((p : Pending) → (change p).serial ≡ p.serial) → RisesWithin low top pending
    → RisesWithin low top (change_first test change pending)
rises-change_first low top test change [] same rises = rises
rises-change_first low top test change (p ∷ ps) same rises = grind (arith, same p, rises-change_first (p.serial + 1) top test change ps same rises.1)

-- the serial at a place
abbrev pub serial_at : List Pending → ℕ → ℕ
serial_at pending k = (get_or pending k (newly_pending 0 no_burst)).serial

pub rises-at : (low top : ℕ) (pending : List Pending) (k : ℕ) → RisesWithin low top pending → k < length pending → low ≤ serial_at pending k
rises-at low top [] k rises within = absurd (omega (arith, within))
rises-at low top (p ∷ ps) zero rises within = rises.0
rises-at low top (p ∷ ps) (suc k) rises within = omega (arith, rises.0, rises-at (p.serial + 1) top ps k rises.1 (omega (arith, within)))

serials_rise : (low top : ℕ) (pending : List Pending) (i j : ℕ) → RisesWithin low top pending → i < j → j < length pending → serial_at pending i < serial_at pending j
serials_rise low top [] i j rises later within = absurd (omega (arith, within))
serials_rise low top (p ∷ ps) i zero rises later within = absurd (omega (arith, later))
serials_rise low top (p ∷ ps) zero (suc j) rises later within = omega (arith, rises-at (p.serial + 1) top ps j rises.1 (omega (arith, within)))
serials_rise low top (p ∷ ps) (suc i) (suc j) rises later within = serials_rise (p.serial + 1) top ps i j rises.1 (omega (arith, later)) (omega (arith, within))

-- the place of a serial
pub position-serial : (low top : ℕ) (pending : List Pending) (k : ℕ) → RisesWithin low top pending → k < length pending → position_or_len (has_serial (serial_at pending k)) pending ≡ k
position-serial low top [] k rises within = absurd (omega (arith, within))
position-serial low top (p ∷ ps) zero rises within = rw (eq-eqb p.serial p.serial refl) refl
position-serial low top (p ∷ ps) (suc k) rises within =
    grind (arith, nat_tests, rises-at (p.serial + 1) top ps k rises.1 (omega (arith, within)), position-serial (p.serial + 1) top ps k rises.1 (omega (arith, within)))

-- a burst that has a serial is the first that does
pub place_here : (low top : ℕ) (pending : List Pending) (serial k : ℕ) → RisesWithin low top pending → k < length pending → serial_at pending k ≡ serial → position (has_serial serial) pending ≡ Some k
place_here low top pending serial k rises within same =
    let place : position_or_len (has_serial serial) pending ≡ k = subst (λ s. position_or_len (has_serial s) pending ≡ k) same (position-serial low top pending k rises within) in
    rw (place, lt-ltb k (length pending) within) refl

position-missing : (pending : List Pending) (serial : ℕ) → ((k : ℕ) → k < length pending → serial_at pending k ≡ serial → ⊥) → position_or_len (has_serial serial) pending ≡ length pending
position-missing [] serial missing = refl
position-missing (p ∷ ps) serial missing = grind (arith, nat_tests, missing 0 (omega arith), position-missing ps serial (λ k within. missing (suc k) (omega (arith, within))))

-- a binary search by serial finds the burst, if it is open
pub place_of_serial : (low top : ℕ) (pending : List Pending) (serial : ℕ) (r : Result ℕ ℕ) → RisesWithin low top pending → IsSearchInRange r (length pending)
    → IsBinarySearchResult (λ p. nat_cmp p.serial serial) pending r → result_ok r ≡ position (has_serial serial) pending
place_of_serial low top pending serial (Ok k) rises within here =
    let same : serial_at pending k ≡ serial = ranked _ serial _ (sym (here (newly_pending 0 no_burst))) in
    sym (place_here low top pending serial k rises within same)
place_of_serial low top pending serial (Err gap) rises within parted =
    let place : position_or_len (has_serial serial) pending ≡ length pending = position-missing pending serial missing in
    rw (place, le-ltb (length pending) (length pending) (omega arith)) refl
  where
    comparisons_rise : IsNonDecreasingBy (λ p. ordering_index (nat_cmp p.serial serial)) pending
    comparisons_rise = IsNonDecreasingBy-from_default (λ p. ordering_index (nat_cmp p.serial serial)) pending (newly_pending 0 no_burst) (λ i j le in_range.
        let rise : serial_at pending i ≤ serial_at pending j = grind (arith, serials_rise low top pending i j rises, λ (same : i ≡ j). ap (serial_at pending) same) in
        grind (arith, nat_tests))

    missing : (k : ℕ) → k < length pending → serial_at pending k ≡ serial → ⊥
    missing k in_range same =
        grind (
          arith,
          λ (before : k < gap). ranked _ serial _ (sym ((parted comparisons_rise).0 k (newly_pending 0 no_burst) (omega arith) before)),
          λ (after : gap ≤ k). ranked _ serial _ (sym ((parted comparisons_rise).1 k (newly_pending 0 no_burst) after in_range)),
        )

-- ---- as a monitor of the port knows them

-- all writes have their data
pub writes_have_data : (pending : List Pending) → find lacks_data (filter_map (λ p. open_write_in p.burst) pending) ≡ None
writes_have_data [] = refl
writes_have_data (p ∷ ps) = grind (arith, nat_tests, writes_have_data ps)

-- it knows as many writes, and reads, of an ID
pub writes_known : (id : ℕ) (pending : List Pending) → length (filter (write_of_id id) (filter_map (λ p. open_write_in p.burst) pending)) ≡ length (filter (is_write_of id) pending)
writes_known id [] = refl
writes_known id (p ∷ ps) = grind (arith, writes_known id ps)

pub reads_known : (id : ℕ) (pending : List Pending) → length (filter (read_of_id id) (filter_map (λ p. open_read_in p.answered p.burst) pending)) ≡ length (filter (is_read_of id) pending)
reads_known id [] = refl
reads_known id (p ∷ ps) = grind (arith, reads_known id ps)

pub in_queue : (burst : Burst) (p : Pending) → (queue_of p == queue_of_burst burst) ≡ is_beside burst p
in_queue burst p = grind (arith, nat_tests)

pub count_in_queue : (burst : Burst) (pending : List Pending) → length (filter (λ p. queue_of p == queue_of_burst burst) pending) ≡ length (filter (is_beside burst) pending)
count_in_queue burst [] = refl
count_in_queue burst (p ∷ ps) = grind (arith, in_queue burst p, count_in_queue burst ps)

-- how many a monitor knows beside a burst
pub known_beside : (memory : FreeMemory) (burst : Burst) → outstanding_beside (open_bursts_of memory) burst ≡ length (filter (is_beside burst) memory.pending)
known_beside memory (WriteBurst aw ws) = writes_known aw.id memory.pending
known_beside memory (ReadBurst ar) = reads_known ar.id memory.pending

-- what is judged of a box's burst, by how many a monitor knows beside it
pub sent_fault : (port : AxiPortLimits) (memory : FreeMemory) (held : Option Burst) (n : ℕ) (fault : Option AxiRule) → IfSome held (λ burst. n ≡ length (filter (is_beside burst) memory.pending))
    → ((open_bursts : OpenBursts) → write_to_fill open_bursts ≡ None → IfSome held (λ burst. outstanding_beside open_bursts burst ≡ n → fault ≡ burst_fault port open_bursts burst))
    → IfSome held (λ burst. fault ≡ burst_fault port (open_bursts_of memory) burst)
sent_fault port memory None n fault count judged = tt
sent_fault port memory (Some burst) n fault count judged = judged (open_bursts_of memory) (writes_have_data memory.pending) (known_beside memory burst ∙ sym count)

pub sent_room : (memory : FreeMemory) (held : Option Burst) (n : ℕ) → IfSome held (λ burst. n ≡ length (filter (is_beside burst) memory.pending)) → IfSome held (λ burst. (id_of burst < 16) × (n < 4))
    → IfSome held (λ burst. (id_of burst < 16) × (outstanding_beside (open_bursts_of memory) burst < 4))
sent_room memory None n count room = tt
sent_room memory (Some burst) n count room = (room.0, omega (arith, known_beside memory burst, count, room.1))

-- ---- the first open burst that passes a test

-- what a search by place finds
pub found_at : (test : Pending → Bool) (pending : List Pending) (k : ℕ) (p : Pending) → position test pending ≡ Some k → p ≡ get_or pending k p → find test pending ≡ Some p
found_at test pending k p place is = find-first test pending k p (position_is_first test pending k place) ∙ ap Some (sym is)

pub found_none : (test : Pending → Bool) (pending : List Pending) → position test pending ≡ None → find test pending ≡ None
found_none test pending none = find-none test pending none

-- ---- the B and R that an ID may give

pub is_some-option_map : {X Y : Type 0} (f : X → Y) (found : Option X) → is_some (option_map f found) ≡ is_some found
is_some-option_map f found = grind arith

-- ---- an answered R

pub pending_after_r-last : (id : ℕ) (pending : List Pending) (p : Pending) → find (is_read_of id) pending ≡ Some p → gives_last p ≡ true → pending_after_r id pending ≡ without_first (is_read_of id) pending
pending_after_r-last id [] p found last = refl
pending_after_r-last id (q ∷ qs) p found last = grind (arith, pending_after_r-last id qs p)

pub pending_after_r-more : (id : ℕ) (pending : List Pending) (p : Pending) → find (is_read_of id) pending ≡ Some p → gives_last p ≡ false → pending_after_r id pending ≡ change_first (is_read_of id) with_answer pending
pending_after_r-more id [] p found more = refl
pending_after_r-more id (q ∷ qs) p found more = grind (arith, pending_after_r-more id qs p)

-- what holds of all open bursts holds of the one at a place
pub all-placed : (P : Pending → Type 0) (pending : List Pending) (k : ℕ) (p : Pending) → AllByRecursion P pending → k < length pending → p ≡ get_or pending k p → P p
all-placed P pending k p all within is = subst P (sym is) (all-at P pending k p all within)
