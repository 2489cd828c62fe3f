-- The first place that is marked is that of the first request that may send.
use Rattle.std.proofs.Common.{◌≡◌, ◌==◌, Bool, true, false, not, ◌&&◌, is_some, List, [], ◌∷◌, map, length, refl, ap, ap₂, ◌∙◌, arith}
use Rattle.std.specs.List.{filter, list_any, position}
use Rattle.flight_table.specs.Inside.{IsKept, count_holders, is_named, is_open}
use Rattle.flight_table.specs.LiveRequests.{LiveRequest}
use Rattle.flight_table.specs.Marks.{both}
use Rattle.flight_table.specs.Order.{free_id, holds_back, may_send}
use Rattle.flight_table.specs.declared.TableLimits.{TableLimits}
use Rattle.bus_words.proofs.MappedPlaces.{position_map, position_same}

both_map : {X : Type 0} (f g : X → Bool) (xs : List X) → both (map f xs) (map g xs) ≡ map (λ x. f x && g x) xs
both_map f g [] = refl
both_map f g (x ∷ xs) = rw (both_map f g xs) refl

none_counted : {X : Type 0} (q : X → Bool) (xs : List X) → (length (filter q xs) == 0) ≡ not (list_any q xs)
none_counted q [] = refl
none_counted q (x ∷ xs) = grind (arith, none_counted q xs)

-- where an ID is free, and where none is
sends_with : (limits : TableLimits) (live : List LiveRequest) (x : LiveRequest) → is_some (free_id limits.ids live) ≡ true → (is_open limits.depth x && (count_holders live x == 0)) ≡ may_send limits live x
sends_with limits live x free = grind (arith, free, none_counted (holds_back x) live)

sends_without : (limits : TableLimits) (live : List LiveRequest) (x : LiveRequest) → is_some (free_id limits.ids live) ≡ false → (is_named limits.depth x && (count_holders live x == 0)) ≡ may_send limits live x
sends_without limits live x free = grind (arith, free, none_counted (holds_back x) live)

first_of : (test : LiveRequest → Bool) (live : List LiveRequest) (marks unheld : List Bool) → marks ≡ map test live → unheld ≡ map (λ x. count_holders live x == 0) live
    → position (λ mark. mark) (both marks unheld) ≡ position (λ x. test x && (count_holders live x == 0)) live
first_of test live marks unheld marked free =
    ap (position (λ mark. mark)) (ap₂ both marked free ∙ both_map test (λ x. count_holders live x == 0) live)
    ∙ position_map (λ x. test x && (count_holders live x == 0)) (λ mark. mark) live

pub first_with : (limits : TableLimits) (live : List LiveRequest) (able named unheld : List Bool) → IsKept limits.depth live able named unheld → is_some (free_id limits.ids live) ≡ true
    → position (λ mark. mark) (both able unheld) ≡ position (may_send limits live) live
first_with limits live able named unheld kept free =
    first_of (is_open limits.depth) live able unheld kept.open_bursts kept.free
    ∙ position_same (λ x. is_open limits.depth x && (count_holders live x == 0)) (may_send limits live) live (λ x. sends_with limits live x free)

pub first_without : (limits : TableLimits) (live : List LiveRequest) (able named unheld : List Bool) → IsKept limits.depth live able named unheld → is_some (free_id limits.ids live) ≡ false
    → position (λ mark. mark) (both named unheld) ≡ position (may_send limits live) live
first_without limits live able named unheld kept free =
    first_of (is_named limits.depth) live named unheld kept.named_bursts kept.free
    ∙ position_same (λ x. is_named limits.depth x && (count_holders live x == 0)) (may_send limits live) live (λ x. sends_without limits live x free)
