-- Whether a request has ended is known of it, since the last reset: its end is told as its entry has ended. So it ends once, and its access with it.
use Rattle.std.proofs.Common.{◌≡◌, ℕ, Bool, true, false, ◌&&◌, not, [], Option, Some, None, if◌then◌else◌, refl, sym, ◌∙◌, ap}
use Rattle.std.specs.Prelude.{is_none}
use Rattle.std.proofs.lemmas.Bool.{both_ways}
use Rattle.byte_orders.specs.Accesses.{Access}
use Rattle.byte_orders.proofs.Leading.{one_after}
use Rattle.byte_orders.proofs.QuietEvents.{IsOpenAt}
use Rattle.setups.specs.Setups.{SetupLists}
use Rattle.scoreboard.specs.Orders.{Entry, has_ended}
use Rattle.scoreboard.specs.declared.Errors.{Errors}
use Rattle.value_orders.specs.Bytes.{access_of, gives_at, is_sure}
use Rattle.value_orders.specs.Events.{ends_as, ends_with}
use Rattle.value_orders.specs.Histories.{Past, with_entry}
use Rattle.value_orders.proofs.EventLists.{StepsTo}
use Rattle.value_orders.proofs.EventParts.{IsAlike, alike_gives, alike_sure}
use Rattle.value_orders.proofs.EventSteps.{ends_live, of_ends}

-- it has ended where its entry has
abbrev pub KnowsEnd : Past → Type 0
KnowsEnd past = is_none past.ended ≡ not (has_ended past.entry)

none_is : (o : Option ℕ) → is_none o ≡ true → o ≡ None
none_is None is = refl
none_is (Some time) is = absurd (cc (is))

pub live_of : (past : Past) → KnowsEnd past → has_ended past.entry ≡ false → past.ended ≡ None
live_of past knows live = none_is past.ended (knows ∙ ap not live)

-- the access of one that hasn't ended
pub open_of : (setup : SetupLists) (errors : Errors) (x number : ℕ) (past : Past) → past.ended ≡ None → IsOpenAt number (access_of setup errors x number past)
open_of setup errors x number past live = record { begun = refl; live = live }

-- ---- with another entry

-- where that has ended, if the one before had
pub knows_with : (count : ℕ) (entry : Entry) (past : Past) → (ended : Bool) → is_none past.ended ≡ not ended → (ended ≡ true → has_ended entry ≡ true)
    → KnowsEnd (with_entry count entry past)
knows_with count entry past ended knows stays = by_both ended refl (has_ended entry) refl
  where
    by_both : (was : Bool) → ended ≡ was → (is : Bool) → has_ended entry ≡ is
        → is_none (if is_none past.ended && has_ended entry then Some count else past.ended) ≡ not (has_ended entry)
    by_both true was true is = let over : is_none past.ended ≡ false = knows ∙ ap not was in rw (over, is) over
    by_both true was false is = absurd (both_ways (has_ended entry) is (stays was))
    by_both false was true is = let live : is_none past.ended ≡ true = knows ∙ ap not was in rw (live, is) refl
    by_both false was false is = let live : is_none past.ended ≡ true = knows ∙ ap not was in rw (live, is) live

-- its end, where it hadn't ended, or had
pub end_with : (count : ℕ) (entry : Entry) (past : Past) → past.ended ≡ None → (with_entry count entry past).ended ≡ (if has_ended entry then Some count else None)
end_with count entry past live = let first : is_none past.ended ≡ true = ap is_none live in rw first (ap (λ (o : Option ℕ). if has_ended entry then Some count else o) live)

end_kept : (count : ℕ) (entry : Entry) (past : Past) → is_none past.ended ≡ false → (with_entry count entry past).ended ≡ past.ended
end_kept count entry past over = rw over refl

-- one whose entry doesn't end with it
pub end_still : (count : ℕ) (entry : Entry) (past : Past) → is_none past.ended ≡ not (has_ended entry) → (with_entry count entry past).ended ≡ past.ended
end_still count entry past knows = by_ended (has_ended entry) refl
  where
    by_ended : (is : Bool) → has_ended entry ≡ is → (if is_none past.ended && has_ended entry then Some count else past.ended) ≡ past.ended
    by_ended true is = let over : is_none past.ended ≡ false = knows ∙ ap not is in rw over refl
    by_ended false is = let live : is_none past.ended ≡ true = knows ∙ ap not is in rw (live, is) refl

-- ---- an access by its parts

abbrev pub by_parts : ℕ → Option ℕ → Option ℕ → Option (Option ℕ) → Bool → Access
by_parts number ended told gives sure = record { begun = number; ended = ended; told = told; gives = gives; sure = sure }

pub parts_same : (number : ℕ) {e f t u : Option ℕ} {g h : Option (Option ℕ)} {s r : Bool} → e ≡ f → t ≡ u → g ≡ h → s ≡ r
    → by_parts number e t g s ≡ by_parts number f u h r
parts_same number ended told gives sure = cc (ended, told, gives, sure)

module _ (setup : SetupLists) (errors : Errors) (x : ℕ) where
  pub access_parts : (number : ℕ) (old new : Past) → new.ended ≡ old.ended → new.told x ≡ old.told x → gives_at setup errors new x ≡ gives_at setup errors old x
      → is_sure setup errors new x ≡ is_sure setup errors old x → access_of setup errors x number new ≡ access_of setup errors x number old
  access_parts number old new ended told gives sure = parts_same number ended told gives sure

  -- nothing becomes of it
  pub stays : (now number : ℕ) (old new : Past) → new.ended ≡ old.ended → new.told x ≡ old.told x → gives_at setup errors new x ≡ gives_at setup errors old x
      → is_sure setup errors new x ≡ is_sure setup errors old x → StepsTo setup errors x now number [] old new
  stays now number old new ended told gives sure = record { of = tt; leads = sym (access_parts number old new ended told gives sure) }

  -- it ends, or doesn't, where else nothing becomes of its access
  pub ends_steps : (now number : ℕ) (entry : Entry) (past : Past) → KnowsEnd past → (has_ended past.entry ≡ true → has_ended entry ≡ true)
      → gives_at setup errors (with_entry now entry past) x ≡ gives_at setup errors past x
      → is_sure setup errors (with_entry now entry past) x ≡ is_sure setup errors past x
      → StepsTo setup errors x now number (ends_as number (ends_with past.entry entry)) past (with_entry now entry past)
  ends_steps now number entry past knows goes gives sure =
      record { of = of_ends number (ends_with past.entry entry); leads = by_was (has_ended past.entry) refl }
    where
      next : Past
      next = with_entry now entry past

      by_was : (was : Bool) → has_ended past.entry ≡ was
          → one_after number now (ends_as number (ends_with past.entry entry)) (access_of setup errors x number past) ≡ access_of setup errors x number next
      by_was true was =
          let none : ends_with past.entry entry ≡ false = rw was refl in
          ap (λ (b : Bool). one_after number now (ends_as number b) (access_of setup errors x number past)) none
          ∙ sym (access_parts number past next (end_kept now entry past (knows ∙ ap not was)) refl gives sure)
      by_was false was =
          let live : past.ended ≡ None = live_of past knows was in
          let ends : ends_with past.entry entry ≡ has_ended entry = rw was refl in
          ap (λ (b : Bool). one_after number now (ends_as number b) (access_of setup errors x number past)) ends
          ∙ ends_live number now (access_of setup errors x number past) (has_ended entry) (open_of setup errors x number past live)
          ∙ parts_same number (sym (end_with now entry past live)) refl (sym gives) (sym sure)

  -- nothing becomes of it with an entry that says the same of its access
  pub stays_alike : (now number count : ℕ) (entry : Entry) (past next : Past) → KnowsEnd past → has_ended entry ≡ has_ended past.entry → IsAlike past next
      → next.ended ≡ (with_entry count entry past).ended → StepsTo setup errors x now number [] past next
  stays_alike now number count entry past next knows ended alike same =
      stays now number past next (same ∙ end_still count entry past (knows ∙ ap not (sym ended))) (ap (λ (t : ℕ → Option ℕ). t x) alike.told)
      (alike_gives setup errors x past next alike) (alike_sure setup errors x past next alike)

  -- its entry stays
  pub same_entry : (now number count : ℕ) (past : Past) → KnowsEnd past → StepsTo setup errors x now number [] past (with_entry count past.entry past)
  same_entry now number count past knows =
      stays_alike now number count past.entry past (with_entry count past.entry past) knows refl
      (record { request = refl; whole = refl; spoiled = refl; replied = refl; hidden = refl; told = refl; cut = refl }) refl
