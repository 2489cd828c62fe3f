-- Which accesses haven't ended: those of the requests since the last reset whose entries haven't.
use Rattle.std.proofs.Common.{◌≡◌, ℕ, ◌+◌, ◌<◌, ◌≤◌, Bool, true, false, not, List, [], ◌∷◌, ◌++◌, length, None, zero, suc, inl, inr, ⊎_elim, refl, sym, ◌∙◌, ap, subst, arith}
use Rattle.std.specs.Prelude.{is_none}
use Rattle.std.specs.List.{AllByRecursion}
use Rattle.std.proofs.lemmas.Bool.{both_ways}
use Rattle.byte_orders.specs.Accesses.{Access, IsOneOf}
use Rattle.byte_orders.specs.Runs.{IsInFlight, NoneBefore}
use Rattle.byte_orders.proofs.Members.{in_append_right}
use Rattle.byte_orders.proofs.QuietEvents.{IsSilent}
use Rattle.setups.specs.Setups.{SetupLists}
use Rattle.scoreboard.specs.Orders.{has_ended}
use Rattle.scoreboard.specs.RealTime.{numbered}
use Rattle.scoreboard.specs.declared.Errors.{Errors}
use Rattle.value_orders.specs.Bytes.{access_of, accesses_from, accesses_in, gives_at, may_write_at}
use Rattle.value_orders.specs.Histories.{History, Past, entries_of}
use Rattle.value_orders.specs.RunOrders.{past_of}
use Rattle.value_orders.proofs.AccessOrders.{is_of}
use Rattle.value_orders.proofs.EventEnds.{KnowsEnd, live_of}
use Rattle.value_orders.proofs.EventHistories.{EndsAreKnown}
use Rattle.value_orders.proofs.EventLists.{accesses_append}

-- ---- none is older

-- no request that hasn't ended has a smaller number
abbrev LeastFrom : ℕ → ℕ → List Past → Type 0
LeastFrom oldest first [] = Unit {0}
LeastFrom oldest first (past ∷ pasts) = (past.ended ≡ None → oldest ≤ first) × LeastFrom oldest (first + 1) pasts

least_over : (oldest first : ℕ) (pasts : List Past) → AllByRecursion (λ past. is_none past.ended ≡ false) pasts → LeastFrom oldest first pasts
least_over oldest first [] over = tt
least_over oldest first (past ∷ pasts) over =
    (λ live. absurd (both_ways (is_none past.ended) over.0 (ap is_none live)), least_over oldest (first + 1) pasts over.1)

least_since : (oldest first : ℕ) (pasts : List Past) → AllByRecursion KnowsEnd pasts
    → ((k : ℕ) → k < length pasts → has_ended (numbered (entries_of pasts) k) ≡ false → oldest ≤ first + k) → LeastFrom oldest first pasts
least_since oldest first [] knows least = tt
least_since oldest first (past ∷ pasts) knows least = (
  λ live. by_ended live (has_ended past.entry) refl,
  least_since oldest (first + 1) pasts knows.1
      (λ k small its. let goes = least (suc k) (omega (arith, small)) its in omega (arith, goes)),
)
  where
    by_ended : past.ended ≡ None → (b : Bool) → has_ended past.entry ≡ b → oldest ≤ first
    by_ended live true is = absurd (both_ways (is_none past.ended) (knows.0 ∙ ap not is) (ap is_none live))
    by_ended live false is = let goes = least 0 (omega arith) is in omega (arith, goes)

least_append : (oldest first : ℕ) (before after : List Past) → LeastFrom oldest first before → LeastFrom oldest (first + length before) after
    → LeastFrom oldest first (before ++ after)
least_append oldest first [] after one other = subst (λ k. LeastFrom oldest k after) (omega arith) other
least_append oldest first (past ∷ before) after one other =
    (one.0, least_append oldest (first + 1) before after one.1 (subst (λ k. LeastFrom oldest k after) (omega arith) other))

module _ (setup : SetupLists) (errors : Errors) (x : ℕ) where
  none_from : (oldest first : ℕ) (pasts : List Past) → LeastFrom oldest first pasts → NoneBefore oldest (accesses_from setup errors x first pasts)
  none_from oldest first [] least a there live = absurd there
  none_from oldest first (past ∷ pasts) least a there live =
      ⊎_elim (λ same. subst (λ (b : Access). oldest ≤ b.begun) (sym same) (least.0 (sym (ap (λ (b : Access). b.ended) same) ∙ live)))
      (λ later. none_from oldest (first + 1) pasts least.1 a later live) there

  -- so no access is older than all requests since the last reset that haven't ended, by the number of each
  pub none_before : (history : History) (oldest : ℕ) → EndsAreKnown history
      → ((k : ℕ) → k < length history.since → has_ended (numbered (entries_of history.since) k) ≡ false → oldest ≤ length history.over + 1 + k)
      → NoneBefore oldest (accesses_in setup errors history x)
  none_before history oldest ends least =
      none_from oldest 1 (history.over ++ history.since)
      (least_append oldest 1 history.over history.since (least_over oldest 1 history.over ends.over)
      (least_since oldest (1 + length history.over) history.since ends.since (λ k small its. let goes = least k small its in omega (arith, goes))))

  -- ---- one that hasn't ended

  flight_from : (first k : ℕ) (pasts : List Past) → AllByRecursion KnowsEnd pasts → k < length pasts → has_ended (numbered (entries_of pasts) k) ≡ false
      → IsInFlight (first + k) (accesses_from setup errors x first pasts)
  flight_from first k [] knows small live = absurd (omega (arith, small))
  flight_from first zero (past ∷ pasts) knows small live =
      record { one = access_of setup errors x first past; there = inl refl; begun = omega arith; live = live_of past knows.0 live }
  flight_from first (suc k) (past ∷ pasts) knows small live =
      let rest = flight_from (first + 1) k pasts knows.1 (omega (arith, small)) live in
      let begun = rest.begun in
      record { one = rest.one; there = inr rest.there; begun = omega (arith, begun); live = rest.live }

  -- an access of it is in flight
  pub in_flight : (history : History) (k : ℕ) → EndsAreKnown history → k < length history.since → has_ended (numbered (entries_of history.since) k) ≡ false
      → IsInFlight (length history.over + 1 + k) (accesses_in setup errors history x)
  in_flight history k ends small live =
      let found = flight_from (1 + length history.over) k history.since ends.since small live in
      let begun = found.begun in
      let before = accesses_from setup errors x 1 history.over in
      let since = accesses_from setup errors x (1 + length history.over) history.since in
      record {
        one = found.one;
        there = subst (IsOneOf found.one) (sym (accesses_append setup errors x 1 history.over history.since)) (in_append_right found.one before since found.there);
        begun = omega (arith, begun);
        live = found.live;
      }

  -- ---- one that gives nothing there

  -- what becomes of one that may write nothing there, or gives nothing, changes no list
  pub silent_at : (history : History) (number : ℕ) → gives_at setup errors (past_of history number) x ≡ None → IsSilent number (accesses_in setup errors history x)
  silent_at history number none a at =
      let own = is_of setup errors history x a at.0 in
      let same : own.number ≡ number = ap (λ (b : Access). b.begun) (sym own.is) ∙ at.1.begun in
      ap (λ (b : Access). b.gives) own.is ∙ ap (λ n. gives_at setup errors (past_of history n) x) same ∙ none

  pub none_given : (past : Past) → may_write_at setup errors past x ≡ false → gives_at setup errors past x ≡ None
  none_given past none = rw none refl
