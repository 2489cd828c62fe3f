-- Where the events of many requests lead, one request after another; and those of one that begins.
use Rattle.std.proofs.Common.{◌≡◌, ℕ, ◌+◌, ◌<◌, Bool, true, false, List, [], ◌∷◌, ◌++◌, map, length, Option, Some, None, if◌then◌else◌, append_assoc, refl, sym, ◌∙◌, ap, arith}
use Rattle.std.specs.Prelude.{is_some}
use Rattle.std.specs.List.{AllByRecursion}
use Rattle.std.proofs.lemmas.Bool.{and_right, both_ways, ne_eqb}
use Rattle.byte_orders.specs.Accesses.{Access}
use Rattle.byte_orders.specs.Runs.{Event, Run, reading, run_after, writing}
use Rattle.byte_orders.proofs.Leading.{AllOf, LeadsTo, NoneAt, leads_as, leads_then, one_after, one_changes}
use Rattle.byte_orders.proofs.QuietEvents.{IsOpenAt}
use Rattle.tl_messages.specs.Operations.{has_data}
use Rattle.setups.specs.Setups.{SetupLists}
use Rattle.scoreboard.specs.declared.Errors.{Errors}
use Rattle.value_orders.specs.Bytes.{access_of, accesses_from, gives_at, is_sure, may_write_at}
use Rattle.value_orders.specs.Events.{begins_as, begun_as, each_from, whole_as}
use Rattle.value_orders.specs.Histories.{Past}
use Rattle.value_orders.specs.Places.{acts_at}
use Rattle.value_orders.proofs.EventSteps.{of_whole, whole_live}

-- accesses that began before a number
abbrev pub AllBelow : ℕ → List Access → Type 0
AllBelow first accesses = AllByRecursion (λ b. b.begun < first) accesses

none_below : (first : ℕ) (accesses : List Access) → AllBelow first accesses → NoneAt first accesses
none_below first [] below = tt
none_below first (a ∷ accesses) below = (ne_eqb a.begun first (λ same. omega (arith, below.0, same)), none_below first accesses below.1)

below_last : (first : ℕ) (accesses : List Access) (a : Access) → AllBelow first accesses → a.begun ≡ first → AllBelow (first + 1) (accesses ++ a ∷ [])
below_last first [] a below own = (omega (arith, own), tt)
below_last first (b ∷ accesses) a below own = (omega (arith, below.0), below_last first accesses a below.1 own)

module _ (setup : SetupLists) (errors : Errors) (x : ℕ) where
  none_later : (number first : ℕ) (pasts : List Past) → number < first → NoneAt number (accesses_from setup errors x first pasts)
  none_later number first [] later = tt
  none_later number first (past ∷ pasts) later =
      (ne_eqb first number (λ same. omega (arith, later, same)), none_later number (first + 1) pasts (omega (arith, later)))

  pub all_below : (first later : ℕ) (pasts : List Past) → first + length pasts < later + 1 → AllBelow later (accesses_from setup errors x first pasts)
  all_below first later [] small = tt
  all_below first later (past ∷ pasts) small = (omega (arith, small), all_below (first + 1) later pasts (omega (arith, small)))

  pub accesses_append : (first : ℕ) (before after : List Past)
      → accesses_from setup errors x first (before ++ after) ≡ accesses_from setup errors x first before ++ accesses_from setup errors x (first + length before) after
  accesses_append first [] after = ap (λ k. accesses_from setup errors x k after) (omega arith)
  accesses_append first (past ∷ before) after =
      ap (λ (rest : List Access). access_of setup errors x first past ∷ rest)
      (accesses_append (first + 1) before after
      ∙ ap (λ k. accesses_from setup errors x (first + 1) before ++ accesses_from setup errors x k after) (omega arith))

  -- events of a request make of its access what it is after a change
  pub record StepsTo (now number : ℕ) (events : List Event) (old new : Past) : Type 0 where
    pub of : AllOf number events
    pub leads : one_after number now events (access_of setup errors x number old) ≡ access_of setup errors x number new

  module _ (now : ℕ) (events : ℕ → Past → List Event) (change : Past → Past) (P : Past → Type 0)
      (steps : (number : ℕ) (past : Past) → P past → StepsTo now number (events number past) past (change past)) where
    pub each_leads : (first : ℕ) (pasts : List Past) (before : List Access) (run : Run) → run.now ≡ now → AllBelow first before → AllByRecursion P pasts
        → run.accesses ≡ before ++ accesses_from setup errors x first pasts
        → LeadsTo run (each_from events first pasts) now (before ++ accesses_from setup errors x first (map change pasts))
    each_leads first [] before run same below all is = record { may_come = tt; now = same; accesses = is }
    each_leads first (past ∷ pasts) before run same below all is =
        leads_as run (each_from events first (past ∷ pasts)) now (longer ++ accesses_from setup errors x (first + 1) (map change pasts))
        (before ++ (own ∷ accesses_from setup errors x (first + 1) (map change pasts)))
        (append_assoc before (own ∷ []) (accesses_from setup errors x (first + 1) (map change pasts)))
        (leads_then run (events first past) (each_from events (first + 1) pasts) run.now now (before ++ (own ∷ later))
        (longer ++ accesses_from setup errors x (first + 1) (map change pasts)) one
        (each_leads (first + 1) pasts longer (run_after run (events first past)) (one.now ∙ same) (below_last first before own below refl) all.1
        (one.accesses ∙ sym (append_assoc before (own ∷ []) later))))
      where
        own : Access
        own = access_of setup errors x first (change past)

        longer : List Access
        longer = before ++ own ∷ []

        later : List Access
        later = accesses_from setup errors x (first + 1) pasts

        step : StepsTo now first (events first past) past (change past)
        step = steps first past all.0

        made : one_after first run.now (events first past) (access_of setup errors x first past) ≡ own
        made = ap (λ n. one_after first n (events first past) (access_of setup errors x first past)) same ∙ step.leads

        one : LeadsTo run (events first past) run.now (before ++ (own ∷ later))
        one =
            leads_as run (events first past) run.now
            (before ++ (one_after first run.now (events first past) (access_of setup errors x first past) ∷ later)) (before ++ (own ∷ later))
            (ap (λ (a : Access). before ++ (a ∷ later)) made)
            (one_changes first run (events first past) before later (access_of setup errors x first past) step.of is (none_below first before below)
            (none_later first (first + 1) pasts (omega arith)))

  -- ---- one that isn't whole

  -- nobody knows what it gives, where it may write
  pub unwhole_gives : (past : Past) → past.entry.whole ≡ false → gives_at setup errors past x ≡ (if may_write_at setup errors past x then Some None else None)
  unwhole_gives past unwhole = by_place (acts_at setup errors past.entry.request) refl
    where
      by_place : (place : Option ℕ) → acts_at setup errors past.entry.request ≡ place
          → gives_at setup errors past x ≡ (if may_write_at setup errors past x then Some None else None)
      by_place None none =
          let never : may_write_at setup errors past x ≡ false = rw none (and_right (has_data past.entry.request.operation) false refl) in rw never refl
      by_place (Some address) some = rw (some, unwhole) refl

  pub unwhole_unsure : (past : Past) → past.entry.whole ≡ false → is_sure setup errors past x ≡ false
  unwhole_unsure past unwhole = grind (arith, unwhole)

  -- ---- one begins

  -- its access then
  abbrev pub started : ℕ → Bool → Access
  started number true = writing number
  started number false = reading number

  pub begins_leads : (number : ℕ) (may : Bool) (run : Run) → run.now < number → LeadsTo run (begins_as number may) number (run.accesses ++ started number may ∷ [])
  begins_leads number true run later = record { may_come = (later, tt); now = refl; accesses = refl }
  begins_leads number false run later = record { may_come = (later, tt); now = refl; accesses = refl }

  -- one that may write nothing there gives nothing
  pub writes_given : (past : Past) → is_some (gives_at setup errors past x) ≡ true → may_write_at setup errors past x ≡ true
  writes_given past some = by_test (may_write_at setup errors past x) refl
    where
      by_test : (b : Bool) → may_write_at setup errors past x ≡ b → b ≡ true
      by_test true is = refl
      by_test false is =
          let none : gives_at setup errors past x ≡ None = rw is refl in
          absurd (both_ways (is_some (gives_at setup errors past x)) (ap is_some none) some)

  module _ (number : ℕ) (past : Past) (live : past.ended ≡ None) (untold : past.told x ≡ None) where
    open_start : (may : Bool) → IsOpenAt number (started number may)
    open_start true = record { begun = refl; live = refl }
    open_start false = record { begun = refl; live = refl }

    unsure_start : (may : Bool) → (started number may).sure ≡ false
    unsure_start true = refl
    unsure_start false = refl

    given_start : (may : Bool) → may_write_at setup errors past x ≡ may → is_some (gives_at setup errors past x) ≡ true → is_some (started number may).gives ≡ true
    given_start true is some = refl
    given_start false is some = absurd (both_ways (may_write_at setup errors past x) is (writes_given past some))

    -- its access, by what it gives then
    start_given : (may : Bool) (gives : Option (Option ℕ)) (sure : Bool) → gives_at setup errors past x ≡ gives → is_sure setup errors past x ≡ sure
        → record (started number may) { gives = gives; sure = sure } ≡ access_of setup errors x number past
    start_given true gives sure given certain = cc (live, untold, given, certain)
    start_given false gives sure given certain = cc (live, untold, given, certain)

    start_unwhole : (may : Bool) → may_write_at setup errors past x ≡ may → past.entry.whole ≡ false → started number may ≡ access_of setup errors x number past
    start_unwhole true is unwhole =
        start_given true (Some None) false (unwhole_gives past unwhole ∙ ap (λ (b : Bool). if b then Some None else None) is) (unwhole_unsure past unwhole)
    start_unwhole false is unwhole =
        start_given false None false (unwhole_gives past unwhole ∙ ap (λ (b : Bool). if b then Some None else None) is) (unwhole_unsure past unwhole)

    -- a request has begun with a beat
    pub first_leads : (whole : Bool) (run : Run) → run.now < number → AllBelow number run.accesses → past.entry.whole ≡ whole
        → LeadsTo run (begun_as setup errors x number past whole) number (run.accesses ++ access_of setup errors x number past ∷ [])
    first_leads false run later below unwhole =
        leads_as run (begins_as number may) number (run.accesses ++ started number may ∷ []) (run.accesses ++ access_of setup errors x number past ∷ [])
        (ap (λ (a : Access). run.accesses ++ a ∷ []) (start_unwhole may refl unwhole)) (begins_leads number may run later)
      where
        may : Bool
        may = may_write_at setup errors past x
    first_leads true run later below is_whole =
        leads_then run (begins_as number may) (whole_as setup errors x number past) number number (run.accesses ++ started number may ∷ [])
        (run.accesses ++ access_of setup errors x number past ∷ []) begins
        (record { may_come = made.may_come; now = made.now ∙ begins.now; accesses = made.accesses ∙ ap (λ (a : Access). run.accesses ++ a ∷ []) own })
      where
        may : Bool
        may = may_write_at setup errors past x

        begins : LeadsTo run (begins_as number may) number (run.accesses ++ started number may ∷ [])
        begins = begins_leads number may run later

        next : Run
        next = run_after run (begins_as number may)

        made : LeadsTo next (whole_as setup errors x number past) next.now
            (run.accesses ++ (one_after number next.now (whole_as setup errors x number past) (started number may) ∷ []))
        made =
            one_changes number next (whole_as setup errors x number past) run.accesses [] (started number may) (of_whole setup errors x number past) begins.accesses
            (none_below number run.accesses below) tt

        own : one_after number next.now (whole_as setup errors x number past) (started number may) ≡ access_of setup errors x number past
        own =
            whole_live number next.now setup errors x past (started number may) (open_start may) (unsure_start may) (given_start may refl)
            ∙ start_given may (gives_at setup errors past x) (is_sure setup errors past x) refl refl
