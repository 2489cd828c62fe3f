-- What is left, in an order of numbers, of the reply to the one request that passes a test: it was made of the bytes before that request.
use Rattle.std.proofs.Common.{◌≡◌, ℕ, Bool, true, false, List, [], ◌∷◌, map, inl, inr, ⊎_elim, refl, sym, ◌∙◌, ap}
use Rattle.std.specs.Prelude.{◌⊎◌}
use Rattle.std.proofs.lemmas.Bool.{both_ways, eq-eqb, ne_eqb}
use Rattle.byte_orders.specs.Accesses.{IsOneOf}
use Rattle.meaning.specs.Meaning.{Bytes}
use Rattle.setups.specs.Setups.{SetupLists}
use Rattle.tl_messages.specs.Requests.{WholeRequest}
use Rattle.scoreboard.specs.Orders.{Asked, Entry, left_of, meaning_on, shown_to}
use Rattle.value_orders.specs.RunOrders.{bytes_before}

module _ (setup : SetupLists) (asked : Asked) (requests : ℕ → WholeRequest) (entry : ℕ → Entry) (own : (number : ℕ) → (entry number).request ≡ requests number) (test : Entry → Bool)
    (number : ℕ) (passes : test (entry number) ≡ true) where
  pub left_found : (numbers : List ℕ) (m : Bytes) → ((other : ℕ) → IsOneOf other numbers → test (entry other) ≡ true → other ≡ number) → IsOneOf number numbers
      → left_of setup asked test m (map entry numbers) ≡ shown_to setup asked (entry number) (bytes_before setup requests m numbers number)
  left_found [] m only there = absurd there
  left_found (first ∷ numbers) m only there =
      by_test (test (entry first)) refl (λ later. left_found numbers (meaning_on setup (requests first) m).after (λ one at. only one (inr at)) later)
    where
      next : Bytes
      next = (meaning_on setup (requests first) m).after

      by_test : (b : Bool) → test (entry first) ≡ b
          → (IsOneOf number numbers → left_of setup asked test next (map entry numbers) ≡ shown_to setup asked (entry number) (bytes_before setup requests next numbers number))
          → left_of setup asked test m (map entry (first ∷ numbers)) ≡ shown_to setup asked (entry number) (bytes_before setup requests m (first ∷ numbers) number)
      by_test true is rest =
          let same : first ≡ number = only first (inl refl) is in
          let here = eq-eqb first number same in
          rw (is, here) (ap (λ n. shown_to setup asked (entry n) m) same)
      by_test false is rest =
          let differ : first ≡ number → ⊥ = λ same. both_ways (test (entry first)) is (ap (λ n. test (entry n)) same ∙ passes) in
          let other = ne_eqb first number differ in
          let later : IsOneOf number numbers = ⊎_elim (λ same. absurd (differ (sym same))) (λ at. at) there in
          rw (is, other)
          (ap (λ (q : WholeRequest). left_of setup asked test (meaning_on setup q m).after (map entry numbers)) (own first)
          ∙ rest later)
