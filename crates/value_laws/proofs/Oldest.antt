-- Which requests are in flight while the events of one happening come: those that were, and haven't ended with one of them. So none is older than all of these.
use Rattle.std.proofs.Common.{◌≡◌, ℕ, ◌+◌, ◌<◌, ◌≤◌, ◌==◌, Bool, true, false, not, List, [], ◌∷◌, ◌++◌, map, length, Some, None, is_none, suc, inl, ⊎_elim, refl, sym, ◌∙◌, ap, subst, arith}
use Rattle.std.specs.List.{AllByRecursion}
use Rattle.std.proofs.lemmas.Bool.{both_ways, eq-eqb}
use Rattle.byte_orders.specs.Accesses.{Access, IsOneOf}
use Rattle.byte_orders.specs.Runs.{Ends, Event, IsInFlight, NoneBefore, changed_of, ending}
use Rattle.byte_orders.proofs.Members.{HasOne, from_append, from_map, in_append_left, in_append_right}
use Rattle.byte_orders.proofs.QuietEvents.{IsOf, accesses_next, change_by}
use Rattle.setups.specs.Setups.{SetupLists}
use Rattle.scoreboard.specs.Orders.{has_ended}
use Rattle.scoreboard.specs.RealTime.{numbered}
use Rattle.scoreboard.specs.declared.Errors.{Errors}
use Rattle.value_orders.specs.Bytes.{access_of, accesses_from, accesses_in}
use Rattle.value_orders.specs.Histories.{History, Past, begun_by, entries_of}
use Rattle.value_orders.proofs.EventEnds.{KnowsEnd}
use Rattle.value_orders.proofs.EventHistories.{EndsAreKnown}
use Rattle.value_orders.proofs.EventLists.{accesses_append}
use Rattle.value_laws.specs.Kept.{Work, run_of, work_after, work_next}
use Rattle.value_laws.proofs.Open.{OpensNone, opens_by, opens_of}

-- an event of some request
abbrev pub IsOfSome : Event → Type 0
IsOfSome event = (number : ℕ) × IsOf number event

-- ---- one that is in flight after an event was before, and didn't end with it

-- and is in flight still
record WasInFlight (number : ℕ) (work : Work) (event : Event) : Type 0 where
  flight : IsInFlight number work.accesses
  goes_on : Ends number ≡ event → ⊥

module _ (number : ℕ) (work : Work) where
  ended_then : (now : ℕ) (a : Access) → a.begun ≡ number → a.ended ≡ None → (changed_of number (ending now) a).ended ≡ None → ⊥
  ended_then now a own live still =
      let same : (a.begun == number) ≡ true = eq-eqb a.begun number own in
      let open_now : is_none a.ended ≡ true = ap is_none live in
      let ended : (changed_of number (ending now) a).ended ≡ Some now = rw (same, open_now) refl in
      let bad : Some now ≡ None = sym ended ∙ still in
      absurd (cc (bad))

  was_one : (event : Event) → IsOfSome event → IsInFlight number (work_next work event).accesses → WasInFlight number work event
  was_one event some flight =
      record {
        flight = record { one = from.one; there = from.there; begun = begun; live = live };
        goes_on = λ same. ended_then work.now from.one begun live
            (subst (λ (b : Access). b.ended ≡ None) (from.holds ∙ ended_as same) flight.live);
      }
    where
      opens : OpensNone (changed_of some.0 (change_by work.now event))
      opens = opens_of some.0 (change_by work.now event) (opens_by work.now event)

      there : IsOneOf flight.one (map (changed_of some.0 (change_by work.now event)) work.accesses)
      there = subst (λ (accesses : List Access). IsOneOf flight.one accesses) (accesses_next some.0 (run_of work) event some.1) flight.there

      from : HasOne (λ a. flight.one ≡ changed_of some.0 (change_by work.now event) a) work.accesses
      from = from_map (changed_of some.0 (change_by work.now event)) flight.one work.accesses there

      begun : from.one.begun ≡ number
      begun = sym (ap (λ (b : Access). b.begun) from.holds ∙ opens.begun from.one) ∙ flight.begun

      live : from.one.ended ≡ None
      live = opens.live from.one (sym (ap (λ (b : Access). b.ended) from.holds) ∙ flight.live)

      of_other : Ends number ≡ event → some.0 ≡ number
      of_other same = sym (subst (λ (e : Event). IsOf some.0 e) (sym same) some.1)

      ended_as : Ends number ≡ event → changed_of some.0 (change_by work.now event) from.one ≡ changed_of number (ending work.now) from.one
      ended_as same =
          ap (λ n. changed_of n (change_by work.now event) from.one) (of_other same)
          ∙ ap (λ (e : Event). changed_of number (change_by work.now e) from.one) (sym same)

-- after some events
pub record StaysInFlight (number : ℕ) (work : Work) (events : List Event) : Type 0 where
  pub flight : IsInFlight number work.accesses
  pub goes_on : IsOneOf (Ends number) events → ⊥

pub was_in_flight : (number : ℕ) (work : Work) (events : List Event) → AllByRecursion IsOfSome events → IsInFlight number (work_after work events).accesses
    → StaysInFlight number work events
was_in_flight number work [] some flight = record { flight = flight; goes_on = λ at. absurd at }
was_in_flight number work (event ∷ events) some flight =
    let later = was_in_flight number (work_next work event) events some.1 flight in
    let first = was_one number work event some.0 later.flight in
    record { flight = first.flight; goes_on = λ at. ⊎_elim (λ same. first.goes_on same) (λ rest. later.goes_on rest) at }

-- ---- those of a history

-- one in flight is at a place, since the last reset, and hasn't ended
pub record IsLiveAt (history : History) (number : ℕ) : Type 0 where
  pub place : ℕ
  pub small : place < length history.since
  pub number_is : number ≡ length history.over + 1 + place
  pub live : has_ended (numbered (entries_of history.since) place) ≡ false

record IsLiveFrom (first number : ℕ) (pasts : List Past) : Type 0 where
  place : ℕ
  small : place < length pasts
  number_is : number ≡ first + place
  live : has_ended (numbered (entries_of pasts) place) ≡ false

module _ (setup : SetupLists) (errors : Errors) (x : ℕ) where
  live_from : (first : ℕ) (pasts : List Past) (a : Access) → AllByRecursion KnowsEnd pasts → IsOneOf a (accesses_from setup errors x first pasts) → a.ended ≡ None
      → IsLiveFrom first a.begun pasts
  live_from first [] a knows at live = absurd at
  live_from first (past ∷ pasts) a knows at live =
      ⊎_elim here (λ later. further (live_from (first + 1) pasts a knows.1 later live)) at
    where
      by_ended : (b : Bool) → has_ended past.entry ≡ b → past.ended ≡ None → has_ended past.entry ≡ false
      by_ended false is none = is
      by_ended true is none = absurd (both_ways (is_none past.ended) (knows.0 ∙ ap not is) (ap is_none none))

      here : a ≡ access_of setup errors x first past → IsLiveFrom first a.begun (past ∷ pasts)
      here same =
          let begun = ap (λ (b : Access). b.begun) same in
          record {
            place = 0;
            small = omega arith;
            number_is = omega (arith, begun);
            live = by_ended (has_ended past.entry) refl (sym (ap (λ (b : Access). b.ended) same) ∙ live);
          }

      further : IsLiveFrom (first + 1) a.begun pasts → IsLiveFrom first a.begun (past ∷ pasts)
      further found =
          let small = found.small in
          let is = found.number_is in
          record { place = suc found.place; small = omega (arith, small); number_is = omega (arith, is); live = found.live }

  none_over : (first : ℕ) (pasts : List Past) (a : Access) → AllByRecursion (λ past. is_none past.ended ≡ false) pasts
      → IsOneOf a (accesses_from setup errors x first pasts) → a.ended ≡ None → ⊥
  none_over first [] a over at live = absurd at
  none_over first (past ∷ pasts) a over at live =
      ⊎_elim (λ same. both_ways (is_none past.ended) over.0 (ap is_none (sym (ap (λ (b : Access). b.ended) same) ∙ live)))
      (λ later. none_over (first + 1) pasts a over.1 later live) at

  pub live_at : (history : History) (number : ℕ) → EndsAreKnown history → IsInFlight number (accesses_in setup errors history x) → IsLiveAt history number
  live_at history number ends flight =
      ⊎_elim (λ first. absurd (none_over 1 history.over flight.one ends.over first flight.live)) (λ later. since (live_from (1 + length history.over) history.since flight.one ends.since later flight.live))
      (from_append flight.one (accesses_from setup errors x 1 history.over) (accesses_from setup errors x (1 + length history.over) history.since) parts)
    where
      parts : IsOneOf flight.one (accesses_from setup errors x 1 history.over ++ accesses_from setup errors x (1 + length history.over) history.since)
      parts = subst (λ (accesses : List Access). IsOneOf flight.one accesses) (accesses_append setup errors x 1 history.over history.since) flight.there

      since : IsLiveFrom (1 + length history.over) flight.one.begun history.since → IsLiveAt history number
      since found =
          let is = found.number_is in
          let begun = flight.begun in
          record { place = found.place; small = found.small; number_is = omega (arith, is, begun); live = found.live }

  -- after events, none is older than all that were in flight, and end with none of them
  pub none_then : (history : History) (oldest : ℕ) (events : List Event) → EndsAreKnown history → AllByRecursion IsOfSome events
      → ((k : ℕ) → k < length history.since → has_ended (numbered (entries_of history.since) k) ≡ false
      → (IsOneOf (Ends (length history.over + 1 + k)) events → ⊥) → oldest ≤ length history.over + 1 + k)
      → NoneBefore oldest (work_after (record { now = begun_by history; accesses = accesses_in setup errors history x }) events).accesses
  none_then history oldest events ends some least a at live =
      let was = was_in_flight a.begun (record { now = begun_by history; accesses = accesses_in setup errors history x }) events some
      (record { one = a; there = at; begun = refl; live = live }) in
      let place = live_at history a.begun ends was.flight in
      let older = least place.place place.small place.live (λ its. was.goes_on (subst (λ n. IsOneOf (Ends n) events) (sym place.number_is) its)) in
      subst (λ n. oldest ≤ n) (sym place.number_is) older

-- one that ends with none of some events and another's end isn't that other one
pub goes_on_both : (number other : ℕ) (some : List Event) → (IsOneOf (Ends number) (some ++ Ends other ∷ []) → ⊥)
    → (IsOneOf (Ends number) some → ⊥) × (number ≡ other → ⊥)
goes_on_both number other some goes = (
  λ at. goes (in_append_left (Ends number) some (Ends other ∷ []) at),
  λ same. goes (in_append_right (Ends number) some (Ends other ∷ []) (inl (ap (λ n. Ends n) same))),
)
