-- Which requests pass a test, and whether a reply has begun to a client, as its board has it.
use Rattle.std.proofs.Common.{◌≡◌, ℕ, ◌<◌, zero, suc, Bool, true, false, List, [], ◌∷◌, set, length, Option, Some, None, inl, inr, refl, sym, ◌∙◌, ap, arith}
use Rattle.std.specs.Prelude.{is_some}
use Rattle.std.specs.List.{list_any}
use Rattle.std.proofs.lemmas.Bool.{cases_Bool, false_from_ne_true, or_cases, or_right}
use Rattle.setups.specs.Setups.{SetupLists}
use Rattle.scoreboard.specs.Boards.{ClientBoard}
use Rattle.scoreboard.specs.Flights.{InFlight}
use Rattle.scoreboard.specs.Orders.{Entry, Order, begun_to}
use Rattle.scoreboard.specs.RealTime.{numbered}
use Rattle.scoreboard.specs.declared.Errors.{Errors}
use Rattle.scoreboard.specs.declared.Errors.TheVariants.{Any, Strict}
use Rattle.scoreboard.proofs.real_time.Places.{begun_at, flight_at}
use Rattle.scoreboard.proofs.real_time.ReplySteps.{due_place, place_due}
use Rattle.value_orders.proofs.Matches.{Fits, HasOne, IsThere, IsWholeAt, acting_as}

-- which beats came of its reply plays no part in how a request acts
pub acts_counted : (setup : SetupLists) (errors : Errors) (entry : Entry) (early replied : Bool) (came : ℕ) (determined : ℕ → Bool)
    → acting_as setup errors (record entry { early = early; replied = replied; came = came }) determined ≡ acting_as setup errors entry determined
acts_counted setup Strict entry early replied came determined = refl
acts_counted setup Any entry early replied came determined = refl

-- ---- whether one passes a test

pub any_one : (test : Entry → Bool) (now : Order) → HasOne (λ entry. test entry ≡ true) now → list_any test now ≡ true
any_one test now one = at now one.number one.small one.holds
  where
    at : (now : Order) (k : ℕ) → k < length now → test (numbered now k) ≡ true → list_any test now ≡ true
    at [] k small is = absurd (omega (arith, small))
    at (entry ∷ now) zero small is = rw is refl
    at (entry ∷ now) (suc k) small is = or_right (test entry) (list_any test now) (at now k (omega (arith, small)) is)

pub one_any : (test : Entry → Bool) (now : Order) → list_any test now ≡ true → HasOne (λ entry. test entry ≡ true) now
one_any test [] some = absurd (cc (some))
one_any test (entry ∷ now) some =
    elim (or_cases (test entry) (list_any test now) some) [
      | inl here ↦ record { number = 0; small = omega (arith); holds = here }
      | inr later ↦
          let rest = one_any test now later in record { number = suc rest.number; small = omega (arith, rest.small); holds = rest.holds }
    ]

pub same_tests : (a b : Bool) → (a ≡ true → b ≡ true) → (b ≡ true → a ≡ true) → a ≡ b
same_tests true b one other = sym (one refl)
same_tests false b one other = sym (false_from_ne_true b (λ is. absurd (cc (other is))))

module _ (setup : SetupLists) (errors : Errors) (clients : List ClientBoard) (now : Order) (fits : Fits setup errors clients now) (number : ℕ) where
  -- one whose reply has begun is whole
  pub begun_whole : (entry : Entry) → IsThere setup errors clients entry → begun_to number entry ≡ true → IsWholeAt (begun_at number) entry
  begun_whole entry there has =
      let at = due_place true number 0 entry has in
      elim (cases_Bool entry.whole) [
        | inl whole ↦ (whole, at)
        | inr unwhole ↦ let none = (there.begun unwhole).none_came in absurd (grind (arith, has, none))
      ]

  pub whole_begun : (entry : Entry) → IsWholeAt (begun_at number) entry → begun_to number entry ≡ true
  whole_begun entry at = place_due true number 0 entry at.0 at.1

  -- whether a reply has begun to a client, as the board has it
  pub begun_board : list_any (begun_to number) now ≡ is_some (flight_at clients (begun_at number))
  begun_board =
      same_tests (list_any (begun_to number) now) (is_some (flight_at clients (begun_at number)))
      (λ some.
      let one = one_any (begun_to number) now some in
      let at = begun_whole (numbered now one.number) (fits.each one.number one.small) one.holds in
      let flies = (fits.each one.number one.small).flies at.0 at.1.live in
      ap (λ (o : Option InFlight). is_some o) (sym (ap (flight_at clients) at.1.there) ∙ flies.there)) (by_flight (flight_at clients (begun_at number)) refl)
    where
      by_flight : (o : Option InFlight) → flight_at clients (begun_at number) ≡ o → is_some (flight_at clients (begun_at number)) ≡ true
          → list_any (begun_to number) now ≡ true
      by_flight None is some = absurd (cc (sym (ap (λ (o : Option InFlight). is_some o) is) ∙ some))
      by_flight (Some flight) is some =
          let one = fits.flights (begun_at number) flight is in
          any_one (begun_to number) now (record { number = one.number; small = one.small; holds = whole_begun (numbered now one.number) one.holds })
