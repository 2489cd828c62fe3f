-- What no order of the accesses of a byte tells a request, no order of the requests does.
use Rattle.std.proofs.Common.{◌≡◌, ℕ, ◌==◌, ◌<◌, ◌≤◌, Bool, true, false, List, [], ◌∷◌, Option, Some, None, if◌then◌else◌, refl, sym, ◌∙◌, ap, subst, arith}
use Rattle.std.specs.List.{AllByRecursion}
use Rattle.std.proofs.lemmas.Bool.Decides.{nat_tests}
use Rattle.byte_orders.specs.Accesses.{Access, Explains, IsOneOf, may_show, value_at, with_given}
use Rattle.meaning.specs.Meaning.{Bytes}
use Rattle.setups.specs.Setups.{SetupLists}
use Rattle.tl_messages.specs.Requests.{WholeRequest}
use Rattle.scoreboard.specs.Boards.{Beginning, MayBegin}
use Rattle.scoreboard.specs.declared.Errors.{Errors}
use Rattle.value_orders.specs.Bytes.{NoneTells, byte_at_start, gives_at}
use Rattle.value_orders.specs.Histories.{History, begun_by}
use Rattle.value_orders.specs.RunOrders.{AtomicsFind, IsRunOrder, bytes_before, past_of}
use Rattle.value_orders.proofs.AccessOrders.{access_order, along, from_along, told_at}
use Rattle.value_orders.proofs.Agreement.{Agrees, DoesAsSaid, accesses_along, value_agrees}

-- a byte that is what is said of it may be shown
agrees_shows : (said : Option ℕ) (byte : ℕ) → Agrees said byte → may_show said byte ≡ true
agrees_shows None byte agrees = refl
agrees_shows (Some value) byte agrees = grind (arith, nat_tests, agrees)

-- what the memory begins with
start_agrees : (beginning : Beginning) (start : Bytes) (x : ℕ) → MayBegin beginning start → Agrees (byte_at_start beginning x) (start x)
start_agrees beginning start x begins = by_unknown (beginning.unknown x) refl
  where
    by_unknown : (b : Bool) → beginning.unknown x ≡ b → Agrees (if b then None else Some (beginning.bytes x)) (start x)
    by_unknown true is = tt
    by_unknown false is = begins.known x is

module _ (setup : SetupLists) (errors : Errors) (history : History) (x number byte : ℕ) where
  -- what was told plays no part in what an access finds
  value_untold : (start : Option ℕ) (numbers : List ℕ) (reader : ℕ)
      → value_at start (along setup errors history x number byte numbers) reader ≡ value_at start (accesses_along setup errors history x numbers) reader
  value_untold start [] reader = refl
  value_untold start (first ∷ numbers) reader = grind (arith, value_untold start numbers reader, value_untold (with_given start (gives_at setup errors (past_of history first) x)) numbers reader)

  -- one that was told something is this one, and that
  told_this : (other told : ℕ) → (told_at setup errors history x number byte other).told ≡ Some told → (other ≡ number) × (told ≡ byte)
  told_this other told is = by_test (other == number) refl
    where
      by_test : (b : Bool) → (other == number) ≡ b → (other ≡ number) × (told ≡ byte)
      by_test true same = grind (arith, nat_tests, same, is)
      by_test false differ = absurd (grind (arith, nat_tests, differ, is))

module _ (beginning : Beginning) (errors : Errors) (history : History) (requests : ℕ → WholeRequest) (x number byte : ℕ) (numbers : List ℕ) (start : Bytes)
    (each : (other : ℕ) → 0 < other → other ≤ begun_by history → DoesAsSaid beginning.lists errors history requests x other)
    (order : IsRunOrder history numbers) (there : IsOneOf number numbers) (begins : MayBegin beginning start)
    (find : AtomicsFind beginning.lists history requests start numbers) where
  all_do : (rest : List ℕ) → AllByRecursion (λ other. (0 < other) × (other ≤ begun_by history)) rest
      → AllByRecursion (DoesAsSaid beginning.lists errors history requests x) rest
  all_do [] bounds = tt
  all_do (other ∷ rest) bounds = (each other bounds.0.0 bounds.0.1, all_do rest bounds.1)

  -- what the request finds in the order of accesses
  finds : Agrees (value_at (byte_at_start beginning x) (accesses_along beginning.lists errors history x numbers) number)
      (bytes_before beginning.lists requests start numbers number x)
  finds =
      value_agrees beginning.lists errors history requests x numbers (byte_at_start beginning x) start number (all_do numbers order.some) find
      (start_agrees beginning start x begins)

  explains : bytes_before beginning.lists requests start numbers number x ≡ byte
      → Explains (byte_at_start beginning x) (along beginning.lists errors history x number byte numbers)
  explains is a told at told_it =
      let found = from_along beginning.lists errors history x number byte a numbers at in
      let this = told_this beginning.lists errors history x number byte found.one told (ap (λ (b : Access). b.told) (sym found.holds) ∙ told_it) in
      let begun : a.begun ≡ number = ap (λ (b : Access). b.begun) found.holds ∙ grind arith in
      rw (begun, this.1, value_untold beginning.lists errors history x number byte (byte_at_start beginning x) numbers number)
      (agrees_shows (value_at (byte_at_start beginning x) (accesses_along beginning.lists errors history x numbers) number) byte
      (subst (λ b. Agrees (value_at (byte_at_start beginning x) (accesses_along beginning.lists errors history x numbers) number) b) is finds))

  pub orders_tell : NoneTells beginning errors history x number byte → bytes_before beginning.lists requests start numbers number x ≡ byte → ⊥
  orders_tell none is =
      none
      (record {
        order = along beginning.lists errors history x number byte numbers;
        is_order = access_order beginning.lists errors history x number byte numbers order there;
        explains = explains is;
      })
