-- How the requests since the last reset go on with a beat: each changes alone, and one more may have begun.
use Rattle.std.proofs.Common.{◌≡◌, ℕ, ◌+◌, Bool, true, false, ◌&&◌, List, [], ◌∷◌, ◌++◌, map, length, Option, Some, None, if◌then◌else◌, refl, ap, subst, arith}
use Rattle.std.specs.Prelude.{is_none}
use Rattle.std.specs.List.{AllByRecursion}
use Rattle.std.proofs.lemmas.Bool.{both_ways}
use Rattle.byte_orders.specs.Accesses.{Access}
use Rattle.byte_orders.specs.Runs.{Event, Run}
use Rattle.byte_orders.proofs.Leading.{LeadsTo}
use Rattle.setups.specs.Setups.{SetupLists}
use Rattle.scoreboard.specs.Orders.{Entry, has_ended}
use Rattle.scoreboard.specs.declared.Errors.{Errors}
use Rattle.value_orders.specs.Bytes.{accesses_from}
use Rattle.value_orders.specs.Events.{each_from}
use Rattle.value_orders.specs.Histories.{Past, entries_of, first_seen, with_entries, with_entry}
use Rattle.value_orders.proofs.EventEnds.{KnowsEnd}
use Rattle.value_orders.proofs.EventLists.{AllBelow, StepsTo, each_leads}

-- ---- lists

pub map_id : (pasts : List Past) → map (λ (past : Past). past) pasts ≡ pasts
map_id [] = refl
map_id (past ∷ pasts) = ap (λ (rest : List Past). past ∷ rest) (map_id pasts)

pub map_two : (f g : Past → Past) (pasts : List Past) → map f (map g pasts) ≡ map (λ past. f (g past)) pasts
map_two f g [] = refl
map_two f g (past ∷ pasts) = ap (λ (rest : List Past). f (g past) ∷ rest) (map_two f g pasts)

pub map_as : (f g : Past → Past) (pasts : List Past) → ((past : Past) → f past ≡ g past) → map f pasts ≡ map g pasts
map_as f g [] same = refl
map_as f g (past ∷ pasts) same = cc (same past, map_as f g pasts same)

pub length_mapped : (f : Past → Past) (pasts : List Past) → length (map f pasts) ≡ length pasts
length_mapped f [] = refl
length_mapped f (past ∷ pasts) = omega (arith, length_mapped f pasts)

pub all_mapped : (P Q : Past → Type 0) (f : Past → Past) (pasts : List Past) → ((past : Past) → P past → Q (f past)) → AllByRecursion P pasts → AllByRecursion Q (map f pasts)
all_mapped P Q f [] goes all = tt
all_mapped P Q f (past ∷ pasts) goes all = (goes past all.0, all_mapped P Q f pasts goes all.1)

pub all_last : (P : Past → Type 0) (pasts : List Past) (past : Past) → AllByRecursion P pasts → P past → AllByRecursion P (pasts ++ past ∷ [])
all_last P [] past all last = (last, tt)
all_last P (first ∷ pasts) past all last = (all.0, all_last P pasts past all.1 last)

pub each_none : (first : ℕ) (pasts : List Past) → each_from (λ number past. []) first pasts ≡ []
each_none first [] = refl
each_none first (past ∷ pasts) = each_none (first + 1) pasts

-- events of requests that have changed, by what they were before
pub each_mapped : (events before : ℕ → Past → List Event) (f : Past → Past) (first : ℕ) (pasts : List Past)
    → ((number : ℕ) (past : Past) → events number (f past) ≡ before number past) → each_from events first (map f pasts) ≡ each_from before first pasts
each_mapped events before f first [] same = refl
each_mapped events before f first (past ∷ pasts) same = cc (same first past, each_mapped events before f (first + 1) pasts same)

-- ---- their entries

pub with_mapped : (count given : ℕ) (f : Entry → Entry) (g : Past → Past) (pasts : List Past)
    → with_entries count given (map f (entries_of pasts)) (map g pasts) ≡ map (λ past. with_entry count (f past.entry) (g past)) pasts
with_mapped count given f g [] = refl
with_mapped count given f g (past ∷ pasts) =
    ap (λ (rest : List Past). with_entry count (f past.entry) (g past) ∷ rest) (with_mapped count given f g pasts)

pub with_same : (count given : ℕ) (pasts : List Past) → with_entries count given (entries_of pasts) pasts ≡ map (λ past. with_entry count past.entry past) pasts
with_same count given [] = refl
with_same count given (past ∷ pasts) = ap (λ (rest : List Past). with_entry count past.entry past ∷ rest) (with_same count given pasts)

pub with_last : (count given : ℕ) (entry : Entry) (pasts : List Past)
    → with_entries count given (entries_of pasts ++ entry ∷ []) pasts ≡ map (λ past. with_entry count past.entry past) pasts ++ first_seen given entry ∷ []
with_last count given entry [] = refl
with_last count given entry (past ∷ pasts) = ap (λ (rest : List Past). with_entry count past.entry past ∷ rest) (with_last count given entry pasts)

-- the entry of one that goes on twice
pub with_twice : (count : ℕ) (between entry : Entry) (past : Past) → (has_ended between ≡ true → has_ended entry ≡ true)
    → with_entry count entry (with_entry count between past) ≡ with_entry count entry past
with_twice count between entry past goes =
    ap (λ (o : Option ℕ). record past { entry = entry; ended = o }) (by_all past.ended (has_ended between) (has_ended entry) goes)
  where
    by_all : (o : Option ℕ) (b e : Bool) → (b ≡ true → e ≡ true)
        → (if is_none (if is_none o && b then Some count else o) && e then Some count else (if is_none o && b then Some count else o))
        ≡ (if is_none o && e then Some count else o)
    by_all (Some time) b e goes = refl
    by_all None true true goes = refl
    by_all None true false goes = absurd (both_ways false refl (goes refl))
    by_all None false true goes = refl
    by_all None false false goes = refl

-- ---- where they lead

-- what was seen since the last reset goes on by some events
pub record Moves (setup : SetupLists) (errors : Errors) (x : ℕ) (run : Run) (events : List Event) (begun : ℕ) (before : List Access) (first : ℕ) (next : List Past) : Type 0 where
  pub leads : LeadsTo run events begun (before ++ accesses_from setup errors x first next)
  pub knows : AllByRecursion KnowsEnd next

-- a run whose accesses are those of requests, of which something is known
pub record IsRunOf (setup : SetupLists) (errors : Errors) (x : ℕ) (P : Past → Type 0) (now : ℕ) (before : List Access) (first : ℕ) (pasts : List Past) (run : Run) : Type 0 where
  pub now_is : run.now ≡ now
  pub accesses : run.accesses ≡ before ++ accesses_from setup errors x first pasts
  pub below : AllBelow first before
  pub all : AllByRecursion P pasts

module _ (setup : SetupLists) (errors : Errors) (x now first : ℕ) (before : List Access) (run : Run) where
  pub moves_as : (events others : List Event) (begun : ℕ) (next last : List Past) → events ≡ others → next ≡ last → Moves setup errors x run events begun before first next
      → Moves setup errors x run others begun before first last
  moves_as events others begun next last same is moves =
      subst (λ (e : List Event). Moves setup errors x run e begun before first last) same
      (subst (λ (p : List Past). Moves setup errors x run events begun before first p) is moves)

  pub moves_each : (P : Past → Type 0) (events : ℕ → Past → List Event) (change : Past → Past) (pasts : List Past)
      → ((number : ℕ) (past : Past) → P past → StepsTo setup errors x now number (events number past) past (change past))
      → ((past : Past) → P past → KnowsEnd (change past)) → IsRunOf setup errors x P now before first pasts run
      → Moves setup errors x run (each_from events first pasts) now before first (map change pasts)
  moves_each P events change pasts steps keeps is =
      record {
        leads = each_leads setup errors x now events change P steps first pasts before run is.now_is is.below is.all is.accesses;
        knows = all_mapped P KnowsEnd change pasts keeps is.all;
      }
