-- What the events of one request make of its access, where that hasn't ended.
use Rattle.std.proofs.Common.{◌≡◌, ℕ, ◌==◌, Bool, true, false, Option, Some, None, if◌then◌else◌, refl, ◌∙◌, ap}
use Rattle.std.specs.Prelude.{is_none, is_some, option_map}
use Rattle.std.proofs.lemmas.Bool.{both_ways, eq-eqb}
use Rattle.byte_orders.specs.Accesses.{Access}
use Rattle.byte_orders.specs.Runs.{changed_of, ending, failing, giving, giving_nothing, taking_effect, telling}
use Rattle.byte_orders.proofs.Leading.{AllOf, of_both, one_after, one_then}
use Rattle.byte_orders.proofs.QuietEvents.{IsOpenAt}
use Rattle.setups.specs.Setups.{SetupLists}
use Rattle.scoreboard.specs.declared.Errors.{Errors}
use Rattle.value_orders.specs.Bytes.{gives_at, is_sure}
use Rattle.value_orders.specs.Events.{effects_as, ends_as, fails_as, known_as, told_as, whole_as}
use Rattle.value_orders.specs.Histories.{Past}

-- ---- they are all of it

pub of_known : (number : ℕ) (gives : Option (Option ℕ)) → AllOf number (known_as number gives)
of_known number None = (refl, tt)
of_known number (Some value) = (refl, tt)

pub of_effects : (number : ℕ) (sure : Bool) → AllOf number (effects_as number sure)
of_effects number true = (refl, tt)
of_effects number false = tt

pub of_ends : (number : ℕ) (ends : Bool) → AllOf number (ends_as number ends)
of_ends number true = (refl, tt)
of_ends number false = tt

pub of_fails : (number : ℕ) (fails : Bool) → AllOf number (fails_as number fails)
of_fails number true = (refl, tt)
of_fails number false = tt

pub of_told : (number : ℕ) (told : Bool) (byte : ℕ) → AllOf number (told_as number told byte)
of_told number true byte = (refl, tt)
of_told number false byte = tt

pub of_whole : (setup : SetupLists) (errors : Errors) (x number : ℕ) (past : Past) → AllOf number (whole_as setup errors x number past)
of_whole setup errors x number past =
    of_both number (known_as number (gives_at setup errors past x)) (effects_as number (is_sure setup errors past x)) (of_known number (gives_at setup errors past x))
    (of_effects number (is_sure setup errors past x))

-- ---- an access that hasn't ended

module _ (number now : ℕ) where
  pub change_live : (f : Access → Access) (a : Access) → IsOpenAt number a → changed_of number f a ≡ f a
  change_live f a is =
      let own : (a.begun == number) ≡ true = eq-eqb a.begun number is.begun in
      let live : is_none a.ended ≡ true = ap is_none is.live in
      rw (own, live) refl

  pub known_live : (a : Access) (gives : Option (Option ℕ)) → IsOpenAt number a → (is_some gives ≡ true → is_some a.gives ≡ true)
      → one_after number now (known_as number gives) a ≡ record a { gives = gives }
  known_live a None is may = change_live giving_nothing a is
  known_live a (Some value) is may = change_live (giving value) a is ∙ ap (λ (g : Option (Option ℕ)). record a { gives = g }) (by_gives a.gives refl)
    where
      by_gives : (gives : Option (Option ℕ)) → a.gives ≡ gives → option_map (λ (old : Option ℕ). value) gives ≡ Some value
      by_gives None none = absurd (both_ways (is_some a.gives) (ap is_some none) (may refl))
      by_gives (Some old) some = refl

  pub effects_live : (a : Access) (sure : Bool) → IsOpenAt number a → a.sure ≡ false → one_after number now (effects_as number sure) a ≡ record a { sure = sure }
  effects_live a true is unsure = change_live taking_effect a is
  effects_live a false is unsure = ap (λ (s : Bool). record a { sure = s }) unsure

  pub ends_live : (a : Access) (ends : Bool) → IsOpenAt number a → one_after number now (ends_as number ends) a ≡ record a { ended = if ends then Some now else None }
  ends_live a true is = change_live (ending now) a is
  ends_live a false is = ap (λ (e : Option ℕ). record a { ended = e }) is.live

  pub told_live : (a : Access) (told : Bool) (byte : ℕ) → IsOpenAt number a
      → one_after number now (told_as number told byte) a ≡ record a { told = if told then Some byte else a.told }
  told_live a true byte is = change_live (telling byte) a is
  told_live a false byte is = refl

  pub fails_live : (a : Access) → IsOpenAt number a → one_after number now (fails_as number true) a ≡ failing a
  fails_live a is = change_live failing a is

  -- one that is whole
  pub whole_live : (setup : SetupLists) (errors : Errors) (x : ℕ) (past : Past) (a : Access) → IsOpenAt number a → a.sure ≡ false
      → (is_some (gives_at setup errors past x) ≡ true → is_some a.gives ≡ true)
      → one_after number now (whole_as setup errors x number past) a ≡ record a { gives = gives_at setup errors past x; sure = is_sure setup errors past x }
  whole_live setup errors x past a is unsure may =
      one_then number now (known_as number (gives_at setup errors past x)) (effects_as number (is_sure setup errors past x)) a
      ∙ ap (one_after number now (effects_as number (is_sure setup errors past x))) (known_live a (gives_at setup errors past x) is may)
      ∙ effects_live (record a { gives = gives_at setup errors past x }) (is_sure setup errors past x) (record { begun = is.begun; live = is.live }) unsure
