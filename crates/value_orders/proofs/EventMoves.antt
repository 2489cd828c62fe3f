-- What was seen since the last reset goes on by the events of each beat, as the history does.
use Rattle.std.proofs.Common.{◌≡◌, ℕ, ◌+◌, ◌≤◌, Bool, true, false, not, List, [], ◌∷◌, ◌++◌, map, length, if◌then◌else◌, append_assoc, refl, sym, ◌∙◌, ap, subst, arith}
use Rattle.std.specs.Prelude.{is_none}
use Rattle.std.specs.List.{AllByRecursion}
use Rattle.std.proofs.lemmas.Bool.{lt-leb}
use Rattle.byte_orders.specs.Accesses.{Access}
use Rattle.byte_orders.specs.Runs.{Event, Run}
use Rattle.byte_orders.proofs.Leading.{leads_as}
use Rattle.setups.specs.Setups.{SetupLists}
use Rattle.tl_messages.specs.Requests.{WholeRequest}
use Rattle.scoreboard.specs.Orders.{Entry, has_ended, reply_beats}
use Rattle.scoreboard.specs.RealTime.{completed, entry_of, heard, is_open}
use Rattle.scoreboard.specs.Unknown.{with_lanes}
use Rattle.scoreboard.specs.declared.Errors.{Errors}
use Rattle.scoreboard.proofs.real_time.Lengths.{some_beats}
use Rattle.value_orders.specs.Bytes.{access_of, accesses_from}
use Rattle.value_orders.specs.Events.{begun_as, completed_as, each_from}
use Rattle.value_orders.specs.Histories.{Past, entries_of, first_seen, heard_of, with_entries, with_entry}
use Rattle.value_orders.proofs.EventEnds.{KnowsEnd, access_parts, knows_with, same_entry}
use Rattle.value_orders.proofs.EventLists.{AllBelow, accesses_append, all_below, first_leads}
use Rattle.value_orders.proofs.EventParts.{IsAlike, alike_gives, alike_sure}
use Rattle.value_orders.proofs.EventRequests.{IsGrown, StartsNone, completed_stays, completed_steps, heard_stays, heard_steps}
use Rattle.value_orders.proofs.EventShapes.{IsRunOf, Moves, all_last, all_mapped, each_none, length_mapped, moves_as, moves_each, with_last, with_mapped, with_same}

-- what goes on with the same entry, or one that has ended just where it had, still knows its end
pub still_knows : (count : ℕ) (entry : Entry) (old past : Past) → past.ended ≡ old.ended → KnowsEnd old → (has_ended old.entry ≡ true → has_ended entry ≡ true)
    → KnowsEnd (with_entry count entry past)
still_knows count entry old past same knows goes = knows_with count entry past (has_ended old.entry) (ap is_none same ∙ knows) goes

heard_end : (client given : ℕ) (past : Past) → (heard_of client given past).ended ≡ past.ended
heard_end client given past = by_test (is_open client past.entry)
  where
    by_test : (b : Bool) → (if b then record past { hidden = with_lanes past.hidden given } else past).ended ≡ past.ended
    by_test true = refl
    by_test false = refl

-- one of which no beat of a reply came before it is whole, and that goes on with a message as the same request
pub record IsReady (client : ℕ) (q : WholeRequest) (past : Past) : Type 0 where
  pub knows : KnowsEnd past
  pub starts : StartsNone past
  pub grown : is_open client past.entry ≡ true → IsGrown past.entry.request q

below_later : (first later : ℕ) (accesses : List Access) → first ≤ later → AllBelow first accesses → AllBelow later accesses
below_later first later [] less below = tt
below_later first later (a ∷ accesses) less below = (omega (arith, less, below.0), below_later first later accesses less below.1)

below_both : (later : ℕ) (some others : List Access) → AllBelow later some → AllBelow later others → AllBelow later (some ++ others)
below_both later [] others one other = other
below_both later (a ∷ some) others one other = (one.0, below_both later some others one.1 other)

module _ (setup : SetupLists) (errors : Errors) (x now first : ℕ) (before : List Access) (pasts : List Past) where
  abbrev pub Runs : (Past → Type 0) → Run → Type 0
  Runs P run = IsRunOf setup errors x P now before first pasts run

  abbrev pub MovesTo : Run → List Event → ℕ → List Past → Type 0
  MovesTo run events begun next = Moves setup errors x run events begun before first next

  -- ---- nothing changes

  pub same_moves : (count given : ℕ) (run : Run) → Runs KnowsEnd run → MovesTo run [] now (with_entries count given (entries_of pasts) pasts)
  same_moves count given run is =
      moves_as setup errors x now first before run (each_from (λ number past. []) first pasts) [] now (map (λ past. with_entry count past.entry past) pasts)
      (with_entries count given (entries_of pasts) pasts) (each_none first pasts) (sym (with_same count given pasts))
      (moves_each setup errors x now first before run KnowsEnd (λ number past. []) (λ past. with_entry count past.entry past) pasts
      (λ number past knows. same_entry setup errors x now number count past knows) (λ past knows. still_knows count past.entry past past refl knows (λ over. over)) is)

  -- ---- beats on channel A

  pub heard_moves : (client given : ℕ) (q : WholeRequest) (run : Run) → Runs KnowsEnd run
      → MovesTo run [] now (with_entries now given (map (heard errors client q) (entries_of pasts)) (map (heard_of client given) pasts))
  heard_moves client given q run is =
      moves_as setup errors x now first before run (each_from (λ number past. []) first pasts) [] now
      (map (λ past. with_entry now (heard errors client q past.entry) (heard_of client given past)) pasts)
      (with_entries now given (map (heard errors client q) (entries_of pasts)) (map (heard_of client given) pasts)) (each_none first pasts)
      (sym (with_mapped now given (heard errors client q) (heard_of client given) pasts))
      (moves_each setup errors x now first before run KnowsEnd (λ number past. [])
      (λ past. with_entry now (heard errors client q past.entry) (heard_of client given past)) pasts
      (λ number past knows. heard_steps setup errors x now number client given q past knows)
      (λ past knows. still_knows now (heard errors client q past.entry) past (heard_of client given past) (heard_end client given past) knows
      (λ over. heard_stays errors client q past.entry ∙ over)) is)

  pub completed_moves : (client given : ℕ) (q : WholeRequest) (run : Run) → Runs (IsReady client q) run
      → MovesTo run (each_from (completed_as setup errors x client given q) first pasts) now
      (with_entries now given (map (completed errors client q) (entries_of pasts)) (map (heard_of client given) pasts))
  completed_moves client given q run is =
      moves_as setup errors x now first before run (each_from (completed_as setup errors x client given q) first pasts)
      (each_from (completed_as setup errors x client given q) first pasts) now
      (map (λ past. with_entry now (completed errors client q past.entry) (heard_of client given past)) pasts)
      (with_entries now given (map (completed errors client q) (entries_of pasts)) (map (heard_of client given) pasts)) refl
      (sym (with_mapped now given (completed errors client q) (heard_of client given) pasts))
      (moves_each setup errors x now first before run (IsReady client q) (completed_as setup errors x client given q)
      (λ past. with_entry now (completed errors client q past.entry) (heard_of client given past)) pasts
      (λ number past ready. completed_steps setup errors x now number client given q past ready.knows ready.starts ready.grown)
      (λ past ready. still_knows now (completed errors client q past.entry) past (heard_of client given past) (heard_end client given past) ready.knows
      (completed_stays errors client q past ready.starts)) is)

  -- one more begins
  module _ (count given client order : ℕ) (q : WholeRequest) (whole : Bool) where
    abbrev new_entry : Entry
    new_entry = record (entry_of errors client q whole) { number = order }

    -- its number in the order of entries plays no part
    abbrev new_past : Past
    new_past = first_seen given (entry_of errors client q whole)

    alike_new : IsAlike new_past (first_seen given new_entry)
    alike_new = record { request = refl; whole = refl; spoiled = refl; replied = refl; hidden = refl; told = refl; cut = refl }

    knows_new : KnowsEnd (first_seen given new_entry)
    knows_new = ap not (sym (lt-leb (reply_beats q) 0 (some_beats q)))

    same_accesses : (k : ℕ) (some : List Past) → AllByRecursion KnowsEnd some
        → accesses_from setup errors x k (map (λ past. with_entry count past.entry past) some) ≡ accesses_from setup errors x k some
    same_accesses k [] knows = refl
    same_accesses k (past ∷ some) knows =
        let own = sym (same_entry setup errors x now k count past knows.0).leads in cc (own, same_accesses (k + 1) some knows.1)

    pub first_moves : (run : Run) → first + length pasts ≡ now + 1 → Runs KnowsEnd run
        → MovesTo run (begun_as setup errors x (now + 1) new_past whole) (now + 1) (with_entries count given (entries_of pasts ++ new_entry ∷ []) pasts)
    first_moves run reaches is =
        record {
          leads = leads_as run (begun_as setup errors x (now + 1) new_past whole) (now + 1) (run.accesses ++ access_of setup errors x (now + 1) new_past ∷ [])
              (before ++ accesses_from setup errors x first (with_entries count given (entries_of pasts ++ new_entry ∷ []) pasts)) as_seen
              (first_leads setup errors x (now + 1) new_past refl refl whole run (omega (arith, is.now_is)) below refl);
          knows = subst (AllByRecursion KnowsEnd) (sym (with_last count given new_entry pasts))
              (all_last KnowsEnd kept (first_seen given new_entry)
              (all_mapped KnowsEnd KnowsEnd (λ past. with_entry count past.entry past) pasts
              (λ past knows. still_knows count past.entry past past refl knows (λ over. over)) is.all) knows_new);
        }
      where
        kept : List Past
        kept = map (λ past. with_entry count past.entry past) pasts

        own : Access
        own = access_of setup errors x (now + 1) (first_seen given new_entry)

        below : AllBelow (now + 1) run.accesses
        below = subst (AllBelow (now + 1)) (sym is.accesses)
            (below_both (now + 1) before (accesses_from setup errors x first pasts) (below_later first (now + 1) before (omega (arith, reaches)) is.below)
            (all_below setup errors x first (now + 1) pasts (omega (arith, reaches))))

        last_one : (k : ℕ) → k ≡ now + 1 → accesses_from setup errors x k (first_seen given new_entry ∷ []) ≡ own ∷ []
        last_one k same = ap (λ n. accesses_from setup errors x n (first_seen given new_entry ∷ [])) same

        after_kept : accesses_from setup errors x first (kept ++ first_seen given new_entry ∷ []) ≡ accesses_from setup errors x first pasts ++ own ∷ []
        after_kept =
            accesses_append setup errors x first kept (first_seen given new_entry ∷ [])
            ∙ ap (λ (rest : List Access). rest ++ accesses_from setup errors x (first + length kept) (first_seen given new_entry ∷ [])) (same_accesses first pasts is.all)
            ∙ ap (λ (rest : List Access). accesses_from setup errors x first pasts ++ rest)
            (last_one (first + length kept) (omega (arith, reaches, length_mapped (λ past. with_entry count past.entry past) pasts)))

        same_new : access_of setup errors x (now + 1) new_past ≡ own
        same_new =
            sym (access_parts setup errors x (now + 1) new_past (first_seen given new_entry) refl refl
            (alike_gives setup errors x new_past (first_seen given new_entry) alike_new) (alike_sure setup errors x new_past (first_seen given new_entry) alike_new))

        as_seen : run.accesses ++ access_of setup errors x (now + 1) new_past ∷ []
            ≡ before ++ accesses_from setup errors x first (with_entries count given (entries_of pasts ++ new_entry ∷ []) pasts)
        as_seen =
            ap (λ (some : List Access). some ++ access_of setup errors x (now + 1) new_past ∷ []) is.accesses
            ∙ append_assoc before (accesses_from setup errors x first pasts) (access_of setup errors x (now + 1) new_past ∷ [])
            ∙ ap (λ (a : Access). before ++ (accesses_from setup errors x first pasts ++ a ∷ [])) same_new
            ∙ ap (λ (rest : List Access). before ++ rest) (sym after_kept)
            ∙ ap (λ (next : List Past). before ++ accesses_from setup errors x first next) (sym (with_last count given new_entry pasts))
