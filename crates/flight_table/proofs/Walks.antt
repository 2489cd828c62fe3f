-- Walks over marked slots: how many of the requests there conflict with one, the sets that it joins, and the counts that fall by one.
use Rattle.std.proofs.Common.{sym, ◌∙◌, ◌≡◌, ℕ, zero, suc, ◌+◌, ◌-◌, ◌^◌, ◌<◌, ◌≤◌, Bool, true, false, ◌&&◌, List, [], ◌∷◌, length, get_or, set, None, Some, bit_or, refl, ap, ap₂, arith}
use Rattle.std.specs.Prelude.{if◌then◌else◌}
use Rattle.std.specs.List.{AllByRecursion, find, position}
use Rattle.std.proofs.lemmas.List.{set-get_or}
use Rattle.std.proofs.lemmas.Nat.{pow_pos}
use Rattle.bus_words.proofs.FirstPlaces.{find-none, first-passes, position_is_first}
use Rattle.flight_table.specs.Marks.{number_of}
use Rattle.flight_table.specs.Spans.{counted_in, joined_in, lowered_in, spans_conflict}
use Rattle.flight_table.specs.declared.spans.Span.{Span}
use Rattle.flight_table.proofs.MarkLaws.{is_set, put_is}

abbrev pub one : Bool → ℕ
one mark = if mark then 1 else 0

-- ---- the next marked slot

pub record IsMarked (row : List Bool) (slot : ℕ) : Type 0 where
  pub within : slot < length row
  pub marked : get_or row slot false ≡ true

pub next_marked : (row : List Bool) (slot : ℕ) → position is_set row ≡ Some slot → IsMarked row slot
next_marked row slot at =
    let first = position_is_first is_set row slot at in
    record { within = first.within; marked = first-passes is_set row slot false first }

-- the row without it is a smaller number
pub fewer_marks : (row : List Bool) (slot : ℕ) → IsMarked row slot → number_of (set row slot false) < number_of row
fewer_marks row slot at = omega (arith, rw at.marked at (put_is row slot false at.within), pow_pos slot)

abbrev pub AreUnmarked : List Bool → Type 0
AreUnmarked row = AllByRecursion (λ mark. mark ≡ false) row

unmarked : (row : List Bool) → find is_set row ≡ None → AreUnmarked row
unmarked [] none = tt
unmarked (true ∷ row) none = absurd (cc (none))
unmarked (false ∷ row) none = (refl, unmarked row none)

pub none_marked : (row : List Bool) → position is_set row ≡ None → AreUnmarked row
none_marked row none = unmarked row (find-none is_set row none)

-- those that are left are marked
pub still_marked : (row : List Bool) (slot other : ℕ) → get_or (set row slot false) other false ≡ true → get_or row other false ≡ true
still_marked [] slot other marked = marked
still_marked (m ∷ row) zero zero marked = absurd (cc (marked))
still_marked (m ∷ row) zero (suc other) marked = marked
still_marked (m ∷ row) (suc slot) zero marked = marked
still_marked (m ∷ row) (suc slot) (suc other) marked = still_marked row slot other marked

-- ---- how many conflict with a request

-- as many, and the new mark, as before, and the old one
pub counted_set : (row : List Bool) (slot : ℕ) (mark : Bool) (r : Span) (spans : List Span) (d : Span) → slot < length row → length row ≡ length spans
    → counted_in (set row slot mark) r spans + one (get_or row slot false && spans_conflict (get_or spans slot d) r) ≡ counted_in row r spans + one (mark && spans_conflict (get_or spans slot d) r)
counted_set [] slot mark r spans d within same = absurd (omega (arith, within))
counted_set (m ∷ row) slot mark r [] d within same = absurd (omega (arith, same))
counted_set (m ∷ row) zero mark r (x ∷ spans) d within same = omega arith
counted_set (m ∷ row) (suc slot) mark r (x ∷ spans) d within same = omega (arith, counted_set row slot mark r spans d (omega (arith, within)) (omega (arith, same)))

pub counted_next : (row : List Bool) (slot : ℕ) (r : Span) (spans : List Span) (d : Span) (holds : Bool) → IsMarked row slot → length row ≡ length spans → spans_conflict (get_or spans slot d) r ≡ holds
    → counted_in row r spans ≡ one holds + counted_in (set row slot false) r spans
counted_next row slot r spans d holds at same is = omega (arith, rw (at.marked, is) at (counted_set row slot false r spans d at.within same))

pub counted_none : (row : List Bool) (r : Span) (spans : List Span) → AreUnmarked row → counted_in row r spans ≡ 0
counted_none [] r spans none = refl
counted_none (mark ∷ row) r [] none = refl
counted_none (mark ∷ row) r (x ∷ spans) none = rw none.0 (omega (arith, counted_none row r spans none.1))

pub counted_most : (row : List Bool) (r : Span) (spans : List Span) → counted_in row r spans ≤ length spans
counted_most [] r spans = omega arith
counted_most (mark ∷ row) r [] = omega arith
counted_most (mark ∷ row) r (x ∷ spans) = grind (arith, counted_most row r spans)

-- ---- the sets that a request joins

abbrev pub joined : Bool → ℕ → ℕ → ℕ
joined holds slot set = if holds then bit_or set (2 ^ slot) else set

pub joined_next : (row : List Bool) (k : ℕ) (r : Span) (spans : List Span) (slot : ℕ) (sets : List ℕ) (d : Span) (e now : ℕ) → IsMarked row k → length row ≡ length spans → length sets ≡ length spans
    → now ≡ joined (spans_conflict (get_or spans k d) r) slot (get_or sets k e) → joined_in (set row k false) r spans slot (set sets k now) ≡ joined_in row r spans slot sets
joined_next [] k r spans slot sets d e now at same many is = absurd (omega (arith, at.within))
joined_next (mark ∷ row) k r [] slot sets d e now at same many is = absurd (omega (arith, same))
joined_next (mark ∷ row) k r (x ∷ spans) slot [] d e now at same many is = absurd (omega (arith, many))
joined_next (mark ∷ row) zero r (x ∷ spans) slot (s ∷ sets) d e now at same many is = rw (at.marked, is) refl
joined_next (mark ∷ row) (suc k) r (x ∷ spans) slot (s ∷ sets) d e now at same many is =
    ap (λ os. joined (mark && spans_conflict x r) slot s ∷ os) (joined_next row k r spans slot sets d e now (record { within = omega (arith, at.within); marked = at.marked }) (omega (arith, same)) (omega (arith, many)) is)

-- one that doesn't conflict
pub joined_same : (row : List Bool) (k : ℕ) (r : Span) (spans : List Span) (slot : ℕ) (sets : List ℕ) (d : Span) → IsMarked row k → length row ≡ length spans → length sets ≡ length spans
    → spans_conflict (get_or spans k d) r ≡ false → joined_in (set row k false) r spans slot sets ≡ joined_in row r spans slot sets
joined_same row k r spans slot sets d at same many apart =
    ap (joined_in (set row k false) r spans slot) (sym (set-get_or sets k 0)) ∙ joined_next row k r spans slot sets d 0 (get_or sets k 0) at same many (rw apart refl)

pub joined_none : (row : List Bool) (r : Span) (spans : List Span) (slot : ℕ) (sets : List ℕ) → AreUnmarked row → joined_in row r spans slot sets ≡ sets
joined_none [] r spans slot sets none = refl
joined_none (mark ∷ row) r [] slot sets none = refl
joined_none (mark ∷ row) r (x ∷ spans) slot [] none = refl
joined_none (mark ∷ row) r (x ∷ spans) slot (s ∷ sets) none = rw none.0 (ap (λ os. s ∷ os) (joined_none row r spans slot sets none.1))

pub joined_at : (row : List Bool) (k : ℕ) (r : Span) (spans : List Span) (slot : ℕ) (sets : List ℕ) (d : Span) → k < length row → length row ≡ length spans → length sets ≡ length spans
    → get_or (joined_in row r spans slot sets) k 0 ≡ joined (get_or row k false && spans_conflict (get_or spans k d) r) slot (get_or sets k 0)
joined_at [] k r spans slot sets d within same many = absurd (omega (arith, within))
joined_at (mark ∷ row) k r [] slot sets d within same many = absurd (omega (arith, same))
joined_at (mark ∷ row) k r (x ∷ spans) slot [] d within same many = absurd (omega (arith, many))
joined_at (mark ∷ row) zero r (x ∷ spans) slot (s ∷ sets) d within same many = refl
joined_at (mark ∷ row) (suc k) r (x ∷ spans) slot (s ∷ sets) d within same many = joined_at row k r spans slot sets d (omega (arith, within)) (omega (arith, same)) (omega (arith, many))

pub length_joined : (row : List Bool) (r : Span) (spans : List Span) (slot : ℕ) (sets : List ℕ) → length (joined_in row r spans slot sets) ≡ length sets
length_joined [] r spans slot sets = refl
length_joined (mark ∷ row) r [] slot sets = refl
length_joined (mark ∷ row) r (x ∷ spans) slot [] = refl
length_joined (mark ∷ row) r (x ∷ spans) slot (s ∷ sets) = ap suc (length_joined row r spans slot sets)

-- ---- the counts that fall by one

pub lowered_next : (row : List Bool) (k : ℕ) (counts : List ℕ) (e : ℕ) → IsMarked row k → length row ≡ length counts → lowered_in (set row k false) (set counts k (get_or counts k e - 1)) ≡ lowered_in row counts
lowered_next [] k counts e at same = absurd (omega (arith, at.within))
lowered_next (mark ∷ row) k [] e at same = absurd (omega (arith, same))
lowered_next (mark ∷ row) zero (count ∷ counts) e at same = rw at.marked (ap (λ c. c ∷ lowered_in row counts) (omega arith))
lowered_next (mark ∷ row) (suc k) (count ∷ counts) e at same =
    ap (λ cs. (count - one mark) ∷ cs) (lowered_next row k counts e (record { within = omega (arith, at.within); marked = at.marked }) (omega (arith, same)))

pub lowered_none : (row : List Bool) (counts : List ℕ) → AreUnmarked row → lowered_in row counts ≡ counts
lowered_none [] counts none = refl
lowered_none (mark ∷ row) [] none = refl
lowered_none (mark ∷ row) (count ∷ counts) none = rw none.0 (ap₂ (λ c cs. c ∷ cs) (omega arith) (lowered_none row counts none.1))

pub lowered_at : (row : List Bool) (k : ℕ) (counts : List ℕ) → length row ≡ length counts → get_or (lowered_in row counts) k 0 ≡ get_or counts k 0 - one (get_or row k false)
lowered_at [] k counts same = omega arith
lowered_at (mark ∷ row) k [] same = absurd (omega (arith, same))
lowered_at (mark ∷ row) zero (count ∷ counts) same = refl
lowered_at (mark ∷ row) (suc k) (count ∷ counts) same = lowered_at row k counts (omega (arith, same))

pub length_lowered : (row : List Bool) (counts : List ℕ) → length (lowered_in row counts) ≡ length counts
length_lowered [] counts = refl
length_lowered (mark ∷ row) [] = refl
length_lowered (mark ∷ row) (count ∷ counts) = ap suc (length_lowered row counts)
