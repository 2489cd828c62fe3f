-- Where a run leads: to which accesses, when so many have begun. Events of one request change its access alone.
use Rattle.std.proofs.Common.{◌≡◌, ℕ, ◌==◌, false, List, [], ◌∷◌, ◌++◌, map, refl, sym, ◌∙◌, ap}
use Rattle.std.specs.List.{AllByRecursion}
use Rattle.byte_orders.specs.Accesses.{Access}
use Rattle.byte_orders.specs.Runs.{AllMayCome, Event, Run, changed_of, run_after, run_next}
use Rattle.byte_orders.proofs.QuietEvents.{IsOf, accesses_next, change_by, may_next, now_next}

-- ---- one list of events after another

pub after_both : (run : Run) (xs ys : List Event) → run_after run (xs ++ ys) ≡ run_after (run_after run xs) ys
after_both run [] ys = refl
after_both run (x ∷ xs) ys = after_both (run_next run x) xs ys

pub both_may_come : (run : Run) (xs ys : List Event) → AllMayCome run xs → AllMayCome (run_after run xs) ys → AllMayCome run (xs ++ ys)
both_may_come run [] ys first next = next
both_may_come run (x ∷ xs) ys first next = (first.0, both_may_come (run_next run x) xs ys first.1 next)

-- a run goes on by events, all of which may come, to accesses, where so many have begun
pub record LeadsTo (run : Run) (events : List Event) (begun : ℕ) (reached : List Access) : Type 0 where
  pub may_come : AllMayCome run events
  pub now : (run_after run events).now ≡ begun
  pub accesses : (run_after run events).accesses ≡ reached

pub leads_nowhere : (run : Run) → LeadsTo run [] run.now run.accesses
leads_nowhere run = record { may_come = tt; now = refl; accesses = refl }

pub leads_then : (run : Run) (xs ys : List Event) (between now : ℕ) (some accesses : List Access) → LeadsTo run xs between some
    → LeadsTo (run_after run xs) ys now accesses → LeadsTo run (xs ++ ys) now accesses
leads_then run xs ys between now some accesses first next =
    record {
      may_come = both_may_come run xs ys first.may_come next.may_come;
      now = ap (λ (r : Run). r.now) (after_both run xs ys) ∙ next.now;
      accesses = ap (λ (r : Run). r.accesses) (after_both run xs ys) ∙ next.accesses;
    }

pub leads_as : (run : Run) (xs : List Event) (now : ℕ) (accesses others : List Access) → accesses ≡ others → LeadsTo run xs now accesses → LeadsTo run xs now others
leads_as run xs now accesses others same leads = record { may_come = leads.may_come; now = leads.now; accesses = leads.accesses ∙ same }

-- ---- events of one request

abbrev pub AllOf : ℕ → List Event → Type 0
AllOf number events = AllByRecursion (IsOf number) events

pub of_both : (number : ℕ) (xs ys : List Event) → AllOf number xs → AllOf number ys → AllOf number (xs ++ ys)
of_both number [] ys first next = next
of_both number (x ∷ xs) ys first next = (first.0, of_both number xs ys first.1 next)

-- an access after events of the request that began at a number
abbrev pub one_after : ℕ → ℕ → List Event → Access → Access
one_after number now [] a = a
one_after number now (event ∷ events) a = one_after number now events (changed_of number (change_by now event) a)

pub one_then : (number now : ℕ) (xs ys : List Event) (a : Access) → one_after number now (xs ++ ys) a ≡ one_after number now ys (one_after number now xs a)
one_then number now [] ys a = refl
one_then number now (x ∷ xs) ys a = one_then number now xs ys (changed_of number (change_by now x) a)

map_one : (number now : ℕ) (event : Event) (events : List Event) (accesses : List Access)
    → map (one_after number now events) (map (changed_of number (change_by now event)) accesses) ≡ map (one_after number now (event ∷ events)) accesses
map_one number now event events [] = refl
map_one number now event events (a ∷ accesses) =
    ap (λ (rest : List Access). one_after number now (event ∷ events) a ∷ rest) (map_one number now event events accesses)

map_none : (number now : ℕ) (accesses : List Access) → map (one_after number now []) accesses ≡ accesses
map_none number now [] = refl
map_none number now (a ∷ accesses) = ap (λ (rest : List Access). a ∷ rest) (map_none number now accesses)

-- each access after them
pub all_after : (number : ℕ) (run : Run) (events : List Event) → AllOf number events
    → LeadsTo run events run.now (map (one_after number run.now events) run.accesses)
all_after number run [] of = record { may_come = tt; now = refl; accesses = sym (map_none number run.now run.accesses) }
all_after number run (event ∷ events) of =
    let next = run_next run event in
    let rest = all_after number next events of.1 in
    let same = now_next number run event of.0 in
    record {
      may_come = (may_next number run event of.0, rest.may_come);
      now = rest.now ∙ same;
      accesses = rest.accesses ∙ ap (λ n. map (one_after number n events) next.accesses) same
          ∙ ap (map (one_after number run.now events)) (accesses_next number run event of.0) ∙ map_one number run.now event events run.accesses;
    }

-- ---- which changes that one alone

-- none began at a number
abbrev pub NoneAt : ℕ → List Access → Type 0
NoneAt number accesses = AllByRecursion (λ b. (b.begun == number) ≡ false) accesses

same_other : (number now : ℕ) (events : List Event) (a : Access) → (a.begun == number) ≡ false → one_after number now events a ≡ a
same_other number now [] a other = refl
same_other number now (event ∷ events) a other =
    let stays : changed_of number (change_by now event) a ≡ a = rw other refl in
    ap (one_after number now events) stays ∙ same_other number now events a other

same_others : (number now : ℕ) (events : List Event) (accesses : List Access) → NoneAt number accesses → map (one_after number now events) accesses ≡ accesses
same_others number now events [] none = refl
same_others number now events (a ∷ accesses) none = cc (same_other number now events a none.0, same_others number now events accesses none.1)

map_both : (f : Access → Access) (before after : List Access) → map f (before ++ after) ≡ map f before ++ map f after
map_both f [] after = refl
map_both f (a ∷ before) after = ap (λ (rest : List Access). f a ∷ rest) (map_both f before after)

pub one_changes : (number : ℕ) (run : Run) (events : List Event) (before after : List Access) (a : Access) → AllOf number events → run.accesses ≡ before ++ (a ∷ after)
    → NoneAt number before → NoneAt number after → LeadsTo run events run.now (before ++ (one_after number run.now events a ∷ after))
one_changes number run events before after a of is none later =
    leads_as run events run.now (map (one_after number run.now events) run.accesses) (before ++ (one_after number run.now events a ∷ after))
    (ap (map (one_after number run.now events)) is ∙ map_both (one_after number run.now events) before (a ∷ after)
    ∙ cc (same_others number run.now events before none, same_others number run.now events after later)) (all_after number run events of)
