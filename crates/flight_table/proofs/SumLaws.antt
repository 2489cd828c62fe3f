-- The sums over the live requests, through each change of them.
use Rattle.std.proofs.Common.{◌≡◌, ℕ, ◌+◌, ◌*◌, ◌<◌, ◌≤◌, List, [], ◌∷◌, ◌++◌, length, get_or, set, true, refl, ap, sym, suc-mul, arith}
use Rattle.std.specs.List.{AllByRecursion, filter, remove, sum_by}
use Rattle.std.proofs.lemmas.List.Sums.{sum_by-cons, sum_by-remove, sum_by-set, sum_by_push}
use Rattle.bus_words.proofs.PlaceChanges.{all-map}
use Rattle.flight_table.specs.LiveRequests.{LiveRequest}
use Rattle.flight_table.specs.Progress.{IsWorth, stepped}
use Rattle.flight_table.specs.Sums.{ArePart, AreSmall, IsSmall, one_undone, plus_sums, sums_of, with_sums}
use Rattle.flight_table.specs.Tables.{is_undone}
use Rattle.flight_table.specs.Work.{unsent_work, work_of}
use Rattle.flight_table.specs.declared.live_request.Step.{Step}
use Rattle.flight_table.specs.declared.sums.Sums.{Sums}

pub same_sums : (a b : Sums) → a.undone ≡ b.undone → a.work ≡ b.work → a.unsent ≡ b.unsent → a ≡ b
same_sums a b one two three = λ i. record { undone = one i; work = two i; unsent = three i }

pub sums_pushed : (live : List LiveRequest) (r : LiveRequest) → with_sums r (sums_of live) ≡ sums_of (live ++ r ∷ [])
sums_pushed live r =
    same_sums (with_sums r (sums_of live)) (sums_of (live ++ r ∷ [])) (sym (sum_by_push one_undone live r)) (sym (sum_by_push work_of live r)) (sym (sum_by_push unsent_work live r))

-- one takes a step, by which the sums are less
pub sums_stepped : (live : List LiveRequest) (place : ℕ) (step : Step) (r : LiveRequest) (worth less : Sums) → place < length live → get_or live place r ≡ r → IsWorth step r worth → plus_sums worth less ≡ sums_of live
    → less ≡ sums_of (set live place (stepped step r))
sums_stepped live place step r worth less within there is sum =
    same_sums less (sums_of (set live place (stepped step r)))
    (moved one_undone less.undone worth.undone is.undone (ap (λ (s : Sums). s.undone) sum)) (moved work_of less.work worth.work is.work (ap (λ (s : Sums). s.work) sum))
    (moved unsent_work less.unsent worth.unsent is.unsent (ap (λ (s : Sums). s.unsent) sum))
  where
    moved : (f : LiveRequest → ℕ) (n w : ℕ) → f (stepped step r) + w ≡ f r → n + w ≡ sum_by f live → n ≡ sum_by f (set live place (stepped step r))
    moved f n w fewer was = omega (arith, fewer, was, rw there at (sum_by-set f live place (stepped step r) r within))

-- one that is done is taken out
pub sums_removed : (live : List LiveRequest) (place : ℕ) (r : LiveRequest) → place < length live → get_or live place r ≡ r → r.done ≡ true → sums_of live ≡ sums_of (remove live place)
sums_removed live place r within there done =
    same_sums (sums_of live) (sums_of (remove live place)) (left one_undone (rw done refl)) (left work_of (rw done refl)) (left unsent_work (rw done refl))
  where
    left : (f : LiveRequest → ℕ) → f r ≡ 0 → sum_by f live ≡ sum_by f (remove live place)
    left f none = omega (arith, none, rw there at (sum_by-remove f live place r within))

-- what a step of a request is worth is part of the sums
pub are_part : (live : List LiveRequest) (place : ℕ) (step : Step) (r : LiveRequest) (worth : Sums) → place < length live → get_or live place r ≡ r → IsWorth step r worth → ArePart worth (sums_of live)
are_part live place step r worth within there is =
    record { undone = part one_undone worth.undone is.undone; work = part work_of worth.work is.work; unsent = part unsent_work worth.unsent is.unsent }
  where
    part : (f : LiveRequest → ℕ) (w : ℕ) → f (stepped step r) + w ≡ f r → w ≤ sum_by f live
    part f w fewer = omega (arith, fewer, rw there at (sum_by-remove f live place r within))

-- ---- how large they are

few : (f : LiveRequest → ℕ) (most : ℕ) (live : List LiveRequest) → AllByRecursion (λ r. f r ≤ most) live → sum_by f live ≤ length live * most
few f most [] all = omega arith
few f most (x ∷ live) all = rw (sum_by-cons f x live) (omega (arith, all.0, few f most live all.1, suc-mul (length live) most))

at_most_one : (r : LiveRequest) → one_undone r ≤ 1
at_most_one r = grind arith

each_one : (live : List LiveRequest) → AllByRecursion (λ r. one_undone r ≤ 1) live
each_one [] = tt
each_one (x ∷ live) = (at_most_one x, each_one live)

pub are_small : (live : List LiveRequest) → length live ≤ 64 → AllByRecursion IsSmall live → AreSmall (sums_of live)
are_small live many all =
    record {
      undone = omega (arith, many, few one_undone 1 live (each_one live));
      work = omega (arith, many, few work_of 100000000 live (all-map IsSmall (λ r. work_of r ≤ 100000000) live (λ r s. s.work) all));
      unsent = omega (arith, many, few unsent_work 100000000 live (all-map IsSmall (λ r. unsent_work r ≤ 100000000) live (λ r s. s.unsent) all));
    }

-- a request that took a step
pub small_stepped : (step : Step) (r : LiveRequest) (worth : Sums) → IsWorth step r worth → IsSmall r → IsSmall (stepped step r)
small_stepped step r worth is small = grind (arith, is, small)

-- ---- what is read
pub count_undone : (live : List LiveRequest) → sum_by one_undone live ≡ length (filter is_undone live)
count_undone [] = refl
count_undone (x ∷ live) = grind (arith, sum_by-cons one_undone x live, count_undone live)
