-- What a port holds after beats that it takes, one beat on; and that a port with no source busy never finds one busy.
use Rattle.std.proofs.Common.{◌≡◌, ◌+◌, ◌<◌, ℕ, Bool, true, false, List, [], ◌∷◌, ◌++◌, length, get_or, take, Option, Some, None, refl, sym, subst, ap, ◌∙◌}
use Rattle.std.specs.Prelude.{⊤, ◌≢◌, IfSome}
use Rattle.std.specs.Result.{result_err}
use Rattle.std.proofs.lemmas.List.{take_more}
use Rattle.std.proofs.lemmas.Option.{none-some, same_Some, slice_get-get_or}
use Rattle.std.proofs.lemmas.Bool.{false≢true}
use Rattle.bus_words.specs.Tables.{first_broken}
use Rattle.tl_messages.specs.Requests.{HeldMessage}
use Rattle.tl_messages.specs.declared.ABeat.{ABeat}
use Rattle.tl_checker.specs.Ports.{judged_by}
use Rattle.tl_checker.specs.RequestRules.{TlPortLimits, first_beat_rules, first_fault, later_beat_rules}
use Rattle.tl_checker.specs.declared.Progress.{Progress}
use Rattle.tl_checker.specs.declared.TlRule.{TlRule}
use Rattle.tl_checker.specs.declared.TlRule.TheVariants.{SourceBusy}
use Rattle.bridge_threads.specs.RefusedBeats.{BreaksRule, front_after, front_with}

-- ---- one beat on

-- where no rule is broken a test for one goes on
by_fault : (rule : Option TlRule) (rest more : Option (Option HeldMessage)) (last next : Option HeldMessage) → elim rule as (λ _. Option (Option HeldMessage)) [ Some broken ↦ None | None ↦ rest ] ≡ Some last
    → (rest ≡ Some last → more ≡ Some next) → elim rule as (λ _. Option (Option HeldMessage)) [ Some broken ↦ None | None ↦ more ] ≡ Some next
by_fault None rest more last next is goes = goes is
by_fault (Some rule) rest more last next is goes = absurd (none-some last is)

pub front_after-more : (limits : TlPortLimits) (front last : Option HeldMessage) (beats : List ABeat) (beat : ABeat) → front_after limits front beats ≡ Some last → first_fault limits last beat false ≡ None
    → front_after limits front (beats ++ beat ∷ []) ≡ Some (front_with limits last beat)
front_after-more limits front last [] beat is free =
    let same : front ≡ last = same_Some front last is in
    subst (λ before. front_after limits before (beat ∷ []) ≡ Some (front_with limits last beat)) (sym same) (rw (front_after, free) refl)
front_after-more limits front last (first ∷ beats) beat is free =
    by_fault (first_fault limits front first false) (front_after limits (front_with limits front first) beats) (front_after limits (front_with limits front first) (beats ++ beat ∷ [])) last (front_with limits last beat) is
    (λ rest. front_after-more limits (front_with limits front first) last beats beat rest free)

-- the beat after those of a script that were taken
pub front_taken : (limits : TlPortLimits) (script : List ABeat) (place : ℕ) (front : Option HeldMessage) (beat other : ABeat) → place < length script → beat ≡ get_or script place other
    → front_after limits None (take place script) ≡ Some front → first_fault limits front beat false ≡ None → front_after limits None (take (place + 1) script) ≡ Some (front_with limits front beat)
front_taken limits script place front beat other below is before free =
    ap (front_after limits None) (take_more script place other below ∙ ap (λ b. take place script ++ b ∷ []) (sym is)) ∙ front_after-more limits None front (take place script) beat before free

-- the rule that the beat breaks which comes after those, if it breaks one
pub breaks_by : (limits : TlPortLimits) (script : List ABeat) (place : ℕ) (front : Option HeldMessage) (beat other : ABeat) (rule : Option TlRule) → place < length script → beat ≡ get_or script place other
    → front_after limits None (take place script) ≡ Some front → first_fault limits front beat false ≡ rule → IfSome rule (BreaksRule limits script place)
breaks_by limits script place front beat other None below is before broken = tt
breaks_by limits script place front beat other (Some rule) below is before broken =
    record { beat = beat; front = front; beat_is = slice_get-get_or script place other below ∙ ap (λ b. Some b) (sym is); front_is = before; broken = broken }

-- an answer's fault
pub err_is : (rule : Option TlRule) (progress : Progress) → result_err (judged_by rule progress) ≡ rule
err_is None progress = refl
err_is (Some rule) progress = refl

-- ---- no source is busy

-- whether a rule is that a source is busy
abbrev is_busy : TlRule → Bool
is_busy SourceBusy = true
is_busy _ = false

-- no broken row of a table tells it
abbrev NoneBusy : List (Bool × TlRule) → Type 0
NoneBusy [] = ⊤
NoneBusy ((broken, rule) ∷ table) = (broken ≡ true → is_busy rule ≡ false) × NoneBusy table

none_busy : (table : List (Bool × TlRule)) → NoneBusy table → (rule : TlRule) → first_broken table ≡ Some rule → is_busy rule ≡ false
none_busy [] none rule is = absurd (none-some rule is)
none_busy ((true, first) ∷ table) none rule is = subst (λ r. is_busy r ≡ false) (same_Some first rule is) (none.0 refl)
none_busy ((false, first) ∷ table) none rule is = none_busy table none.1 rule is

first_beat_none : (limits : TlPortLimits) (beat : ABeat) → NoneBusy (first_beat_rules limits beat false)
first_beat_none limits beat =
    (λ is. refl, (λ is. refl, (λ is. refl, (λ is. refl, (λ is. refl, (λ is. refl, (λ is. refl, (λ is. refl, (λ is. absurd (false≢true is), tt)))))))))

later_beat_none : (held : HeldMessage) (beat : ABeat) → NoneBusy (later_beat_rules held beat)
later_beat_none held beat = (λ is. refl, (λ is. refl, tt))

pub never_busy : (limits : TlPortLimits) (front : Option HeldMessage) (beat : ABeat) (rule : TlRule) → first_fault limits front beat false ≡ Some rule → rule ≢ SourceBusy
never_busy limits None beat rule is same = false≢true (sym (none_busy (first_beat_rules limits beat false) (first_beat_none limits beat) rule is) ∙ ap is_busy same)
never_busy limits (Some held) beat rule is same = false≢true (sym (none_busy (later_beat_rules held beat) (later_beat_none held beat) rule is) ∙ ap is_busy same)
