-- The events of requests with an error response: those that it strikes have failed. And a reset cuts off all that haven't ended.
use Rattle.std.proofs.Common.{◌≡◌, ℕ, ◌+◌, Bool, true, false, ◌&&◌, not, List, [], ◌∷◌, map, Option, Some, None, if◌then◌else◌, refl, sym, ◌∙◌, ap}
use Rattle.std.specs.Prelude.{is_none, option_map}
use Rattle.std.specs.List.{AllByRecursion}
use Rattle.std.proofs.lemmas.Bool.{and_parts, and_right, not-true}
use Rattle.byte_orders.specs.Runs.{cut_short}
use Rattle.serial_memory.specs.SerialMemory.{Memory}
use Rattle.setups.specs.Setups.{SetupLists}
use Rattle.tl_messages.specs.declared.Operation.{Operation}
use Rattle.tl_messages.specs.declared.Operation.TheVariants.{Atomic, Get, Intent, PutFull, PutPartial}
use Rattle.scoreboard.specs.FailedBursts.{Span, shares}
use Rattle.scoreboard.specs.Orders.{Entry, has_ended}
use Rattle.scoreboard.specs.RealTime.{acting_footprint, struck}
use Rattle.scoreboard.specs.declared.Errors.{Errors}
use Rattle.scoreboard.specs.declared.Errors.TheVariants.{Any}
use Rattle.value_orders.specs.Bytes.{access_of, accesses_from, gives_as, gives_at, gives_from, is_failed, is_sure, left_by, may_write_at}
use Rattle.value_orders.specs.Events.{fails_as, is_struck}
use Rattle.value_orders.specs.Histories.{Past, cut_off, with_entry}
use Rattle.value_orders.specs.Places.{acts_at}
use Rattle.value_orders.proofs.EventEnds.{KnowsEnd, end_still, live_of, open_of, parts_same, same_entry}
use Rattle.value_orders.proofs.EventLists.{StepsTo}
use Rattle.value_orders.proofs.EventParts.{bare, gives_bare, sure_bare}
use Rattle.value_orders.proofs.EventSteps.{fails_live, of_fails}

-- what nobody knows any more
abbrev forgotten : Option ℕ → Option ℕ
forgotten byte = None

twice : (o : Option (Option ℕ)) → option_map forgotten o ≡ option_map forgotten (option_map forgotten o)
twice None = refl
twice (Some byte) = refl

-- ---- one that is struck

abbrev spoiled : Entry → Entry
spoiled entry = record entry { spoiled = true }

pub struck_stays : (memory : Memory) (span : Span) (entry : Entry) → has_ended (struck memory span entry) ≡ has_ended entry
struck_stays memory span entry = by_test (is_struck memory span entry)
  where
    by_test : (b : Bool) → has_ended (if b then spoiled entry else entry) ≡ has_ended entry
    by_test true = refl
    by_test false = refl

module _ (setup : SetupLists) (x now : ℕ) (past : Past) where
  abbrev struck_past : Past
  struck_past = with_entry now (spoiled past.entry) past

  left_struck : (address : ℕ) (operation : Operation) → left_by setup operation struck_past address x ≡ left_by setup operation past address x
  left_struck address (Atomic op) = refl
  left_struck address PutFull = refl
  left_struck address PutPartial = refl
  left_struck address Get = refl
  left_struck address (Intent write) = refl

  gives_struck : gives_at setup Any struck_past x ≡ option_map forgotten (gives_at setup Any past x)
  gives_struck = by_may (may_write_at setup Any past x)
    where
      by_both : (address : ℕ) (whole failed : Bool) → gives_as setup whole true struck_past address x ≡ option_map forgotten (gives_as setup whole failed past address x)
      by_both address false failed = refl
      by_both address true true =
          ap (option_map forgotten) (left_struck address past.entry.request.operation) ∙ twice (left_by setup past.entry.request.operation past address x)
      by_both address true false = ap (option_map forgotten) (left_struck address past.entry.request.operation)

      by_place : (place : Option ℕ) → gives_from setup Any struck_past place x ≡ option_map forgotten (gives_from setup Any past place x)
      by_place None = refl
      by_place (Some address) = by_both address past.entry.whole (is_failed setup Any past)

      by_may : (b : Bool) → (if b then gives_from setup Any struck_past (acts_at setup Any past.entry.request) x else None)
          ≡ option_map forgotten (if b then gives_from setup Any past (acts_at setup Any past.entry.request) x else None)
      by_may true = by_place (acts_at setup Any past.entry.request)
      by_may false = refl

  sure_struck : is_sure setup Any struck_past x ≡ false
  sure_struck = by_bools (may_write_at setup Any past x) past.entry.whole past.cut
    where
      by_bools : (a b c : Bool) → (a && b && false && not c) ≡ false
      by_bools true true c = refl
      by_bools true false c = refl
      by_bools false b c = refl

  pub struck_steps : (number : ℕ) (memory : Memory) (span : Span) → KnowsEnd past
      → StepsTo setup Any x now number (fails_as number (is_struck memory span past.entry)) past (with_entry now (struck memory span past.entry) past)
  struck_steps number memory span knows = by_test (is_struck memory span past.entry) refl
    where
      by_test : (b : Bool) → is_struck memory span past.entry ≡ b
          → StepsTo setup Any x now number (fails_as number b) past (with_entry now (if b then spoiled past.entry else past.entry) past)
      by_test true is =
          let live : has_ended past.entry ≡ false = not-true (has_ended past.entry)
          (and_parts (not (has_ended past.entry)) (shares span (acting_footprint memory past.entry.request)) is).0 in
          record {
            of = of_fails number true;
            leads = fails_live number now (access_of setup Any x number past) (open_of setup Any x number past (live_of past knows live))
                ∙ parts_same number (sym (end_still now (spoiled past.entry) past knows)) refl (sym gives_struck) (sym sure_struck);
          }
      by_test false is = same_entry setup Any x now number now past knows

-- ---- a reset

module _ (setup : SetupLists) (errors : Errors) (x now : ℕ) where
  abbrev cut_now : Past → Past
  cut_now past = record past { ended = Some now; cut = true }

  cut_access : (number : ℕ) (past : Past) → cut_short now (access_of setup errors x number past) ≡ access_of setup errors x number (cut_off now past)
  cut_access number past = by_test (is_none past.ended)
    where
      by_test : (b : Bool) → (if b then record (access_of setup errors x number past) { ended = Some now; sure = false } else access_of setup errors x number past)
          ≡ access_of setup errors x number (if b then cut_now past else past)
      by_test true =
          parts_same number refl refl (gives_bare setup errors x past ∙ sym (gives_bare setup errors x (cut_now past)))
          (sym (sure_bare setup errors x (cut_now past) ∙ and_right (is_sure setup errors (bare past) x) false refl))
      by_test false = refl

  pub cut_accesses : (first : ℕ) (pasts : List Past)
      → map (cut_short now) (accesses_from setup errors x first pasts) ≡ accesses_from setup errors x first (map (cut_off now) pasts)
  cut_accesses first [] = refl
  cut_accesses first (past ∷ pasts) = cc (cut_access first past, cut_accesses (first + 1) pasts)

  -- it leaves those that have ended
  pub cut_over : (pasts : List Past) → AllByRecursion (λ past. is_none past.ended ≡ false) pasts → map (cut_off now) pasts ≡ pasts
  cut_over [] over = refl
  cut_over (past ∷ pasts) over =
      let stays : cut_off now past ≡ past = let ended = over.0 in rw ended refl in
      cc (stays, cut_over pasts over.1)
