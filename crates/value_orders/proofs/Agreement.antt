-- Along an order of requests a byte is what the order of its accesses says, where that says something.
use Rattle.std.proofs.Common.{◌≡◌, ℕ, ◌==◌, Bool, true, false, List, [], ◌∷◌, map, Option, Some, None, refl, ◌∙◌}
use Rattle.std.specs.Prelude.{⊤}
use Rattle.std.specs.List.{AllByRecursion}
use Rattle.byte_orders.specs.Accesses.{Access, value_at, with_given}
use Rattle.meaning.specs.Meaning.{Bytes}
use Rattle.setups.specs.Setups.{SetupLists}
use Rattle.tl_messages.specs.Requests.{WholeRequest}
use Rattle.scoreboard.specs.Orders.{meaning_on}
use Rattle.scoreboard.specs.declared.Errors.{Errors}
use Rattle.value_orders.specs.Bytes.{access_of, gives_at}
use Rattle.value_orders.specs.Histories.{History}
use Rattle.value_orders.specs.RunOrders.{AtomicsFind, FindsAsTold, bytes_before, past_of}

-- a byte is what is said of it, where something is
abbrev pub Agrees : Option ℕ → ℕ → Type 0
Agrees None byte = ⊤
Agrees (Some said) byte = byte ≡ said

-- what an access does to a byte: nothing, anything, or this
abbrev pub Does : Option (Option ℕ) → ℕ → ℕ → Type 0
Does None old new = new ≡ old
Does (Some None) old new = ⊤
Does (Some (Some given)) old new = new ≡ given

pub given_agrees : (said : Option ℕ) (gives : Option (Option ℕ)) (old new : ℕ) → Agrees said old → Does gives old new → Agrees (with_given said gives) new
given_agrees None None old new agrees does = tt
given_agrees (Some said) None old new agrees does = does ∙ agrees
given_agrees said (Some None) old new agrees does = tt
given_agrees said (Some (Some given)) old new agrees does = does

-- the accesses of requests in an order
abbrev pub accesses_along : SetupLists → Errors → History → ℕ → List ℕ → List Access
accesses_along setup errors history x numbers = map (λ number. access_of setup errors x number (past_of history number)) numbers

module _ (setup : SetupLists) (errors : Errors) (history : History) (requests : ℕ → WholeRequest) (x : ℕ) where
  -- what a request does to the byte is what its access says
  abbrev pub DoesAsSaid : ℕ → Type 0
  DoesAsSaid number =
      (m : Bytes) → FindsAsTold (past_of history number) m
      → Does (gives_at setup errors (past_of history number) x) (m x) ((meaning_on setup (requests number) m).after x)

  pub value_agrees : (numbers : List ℕ) (said : Option ℕ) (m : Bytes) (number : ℕ) → AllByRecursion DoesAsSaid numbers → AtomicsFind setup history requests m numbers
      → Agrees said (m x)
      → Agrees (value_at said (accesses_along setup errors history x numbers) number) (bytes_before setup requests m numbers number x)
  value_agrees [] said m number all find agrees = agrees
  value_agrees (first ∷ numbers) said m number all find agrees =
      by_test (first == number) refl
      (value_agrees numbers (with_given said (gives_at setup errors (past_of history first) x)) (meaning_on setup (requests first) m).after number all.1 find.1
      (given_agrees said (gives_at setup errors (past_of history first) x) (m x) ((meaning_on setup (requests first) m).after x) agrees (all.0 m find.0)))
    where
      by_test : (b : Bool) → (first == number) ≡ b
          → Agrees (value_at (with_given said (gives_at setup errors (past_of history first) x)) (accesses_along setup errors history x numbers) number)
          (bytes_before setup requests (meaning_on setup (requests first) m).after numbers number x)
          → Agrees (value_at said (accesses_along setup errors history x (first ∷ numbers)) number) (bytes_before setup requests m (first ∷ numbers) number x)
      by_test true is later = rw is agrees
      by_test false is later = rw is later
