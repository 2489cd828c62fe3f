-- What a request gives to a byte, and whether it takes effect, depends on no more than what it is, whether it is whole and spoiled, whether its reply came early,
-- and what was seen of its bytes.
use Rattle.std.proofs.Common.{◌≡◌, ℕ, Bool, true, false, ◌&&◌, not, List, Option, Some, None, if◌then◌else◌, refl, sym, ◌∙◌, ap}
use Rattle.std.specs.Prelude.{option_map}
use Rattle.setups.specs.Setups.{SetupLists}
use Rattle.tl_messages.specs.Requests.{WholeRequest}
use Rattle.tl_messages.specs.declared.Operation.{Operation}
use Rattle.tl_messages.specs.declared.Operation.TheVariants.{Atomic, Get, Intent, PutFull, PutPartial}
use Rattle.scoreboard.specs.declared.Errors.{Errors}
use Rattle.scoreboard.specs.declared.Errors.TheVariants.{Any, Strict}
use Rattle.value_orders.specs.Bytes.{gives_as, gives_at, gives_from, is_failed, is_sure, left_by, may_write_at}
use Rattle.value_orders.specs.Histories.{Past}
use Rattle.value_orders.specs.Places.{acts_at}

-- a request of which just that is known
abbrev pub by_parts : WholeRequest → Bool → Bool → Bool → List ℕ → (ℕ → Option ℕ) → Past
by_parts q whole spoiled replied hidden told =
    record {
      entry = record { number = 0; client = 0; request = q; whole = whole; spoiled = spoiled; early = false; replied = replied; came = 0 };
      ended = None;
      cut = false;
      hidden = hidden;
      told = told;
    }

abbrev pub bare : Past → Past
bare past = by_parts past.entry.request past.entry.whole past.entry.spoiled past.entry.replied past.hidden past.told

-- two that are alike
pub record IsAlike (old new : Past) : Type 0 where
  pub request : new.entry.request ≡ old.entry.request
  pub whole : new.entry.whole ≡ old.entry.whole
  pub spoiled : new.entry.spoiled ≡ old.entry.spoiled
  pub replied : new.entry.replied ≡ old.entry.replied
  pub hidden : new.hidden ≡ old.hidden
  pub told : new.told ≡ old.told
  pub cut : new.cut ≡ old.cut

module _ (setup : SetupLists) (errors : Errors) (x : ℕ) where
  pub failed_bare : (past : Past) → is_failed setup errors past ≡ is_failed setup errors (bare past)
  failed_bare past = by_errors errors
    where
      by_errors : (e : Errors) → is_failed setup e past ≡ is_failed setup e (bare past)
      by_errors Strict = refl
      by_errors Any = refl

  pub left_bare : (past : Past) (address : ℕ) (operation : Operation) → left_by setup operation past address x ≡ left_by setup operation (bare past) address x
  left_bare past address (Atomic op) = refl
  left_bare past address PutFull = refl
  left_bare past address PutPartial = refl
  left_bare past address Get = refl
  left_bare past address (Intent write) = refl

  pub gives_bare : (past : Past) → gives_at setup errors past x ≡ gives_at setup errors (bare past) x
  gives_bare past = ap (λ (o : Option (Option ℕ)). if may_write_at setup errors past x then o else None) (by_place (acts_at setup errors past.entry.request))
    where
      by_both : (address : ℕ) (whole failed : Bool) → gives_as setup whole failed past address x ≡ gives_as setup whole failed (bare past) address x
      by_both address false failed = refl
      by_both address true true = ap (option_map (λ (byte : Option ℕ). None)) (left_bare past address past.entry.request.operation)
      by_both address true false = left_bare past address past.entry.request.operation

      by_place : (place : Option ℕ) → gives_from setup errors past place x ≡ gives_from setup errors (bare past) place x
      by_place None = refl
      by_place (Some address) =
          by_both address past.entry.whole (is_failed setup errors past)
          ∙ ap (λ (b : Bool). gives_as setup past.entry.whole b (bare past) address x) (failed_bare past)

  -- whether it takes effect, but for a reset
  pub sure_bare : (past : Past) → is_sure setup errors past x ≡ (is_sure setup errors (bare past) x && not past.cut)
  sure_bare past =
      ap (λ (b : Bool). may_write_at setup errors past x && past.entry.whole && not b && not past.cut) (failed_bare past)
      ∙ by_all (may_write_at setup errors past x) past.entry.whole (not (is_failed setup errors (bare past))) (not past.cut)
    where
      by_all : (a b c d : Bool) → (a && b && c && d) ≡ ((a && b && c && true) && d)
      by_all true true true true = refl
      by_all true true true false = refl
      by_all true true false d = refl
      by_all true false c d = refl
      by_all false b c d = refl

  bare_same : {q p : WholeRequest} {w v s r b a : Bool} {h k : List ℕ} {t u : ℕ → Option ℕ} → q ≡ p → w ≡ v → s ≡ r → b ≡ a → h ≡ k → t ≡ u
      → by_parts q w s b h t ≡ by_parts p v r a k u
  bare_same request whole spoiled replied hidden told = cc (request, whole, spoiled, replied, hidden, told)

  alike_bare : (old new : Past) → IsAlike old new → bare new ≡ bare old
  alike_bare old new is = bare_same is.request is.whole is.spoiled is.replied is.hidden is.told

  pub alike_gives : (old new : Past) → IsAlike old new → gives_at setup errors new x ≡ gives_at setup errors old x
  alike_gives old new is = gives_bare new ∙ ap (λ (p : Past). gives_at setup errors p x) (alike_bare old new is) ∙ sym (gives_bare old)

  pub alike_sure : (old new : Past) → IsAlike old new → is_sure setup errors new x ≡ is_sure setup errors old x
  alike_sure old new is =
      sure_bare new ∙ ap (λ (p : Past). is_sure setup errors p x && not new.cut) (alike_bare old new is)
      ∙ ap (λ (b : Bool). is_sure setup errors (bare old) x && not b) is.cut ∙ sym (sure_bare old)
