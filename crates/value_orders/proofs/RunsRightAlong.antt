-- Along beats that are right in order of acceptance, the requests took effect in the order in which they came whole.
use Rattle.std.proofs.Common.{◌≡◌, ℕ, suc, ◌<◌, ◌≤◌, ◌+◌, ◌-◌, true, false, List, [], ◌∷◌, ◌++◌, map, length, Option, Some, None, ◌⊎◌, inl, inr, ⊎_elim, refl, sym, ◌∙◌, ap, subst, arith}
use Rattle.std.specs.Prelude.{is_some, slice_get}
use Rattle.std.proofs.lemmas.Bool.{both_ways, cases_lt}
use Rattle.byte_orders.specs.Accesses.{IsOneOf}
use Rattle.byte_orders.proofs.Members.{all_of, from_append, in_append_right}
use Rattle.meaning.specs.Meaning.{Bytes, zeros}
use Rattle.setups.specs.Setups.{SetupLists}
use Rattle.tl_messages.specs.Requests.{HeldMessage, WholeRequest}
use Rattle.tl_messages.specs.declared.DBeat.{DBeat}
use Rattle.scoreboard.specs.Boards.{Board, ClientBoard, after_all, after_d, after_seen, from_zeros, has_replied, opening_board, wrong_at}
use Rattle.scoreboard.specs.Observed.{nothing_observed, observed_in, requests_in, with_seen}
use Rattle.scoreboard.specs.Orders.{Entry, Order, has_ended}
use Rattle.scoreboard.specs.RealTime.{begun_next, numbered}
use Rattle.scoreboard.specs.Right.{IsRight}
use Rattle.scoreboard.specs.Unknown.{UnknownBoard, after_seen_unknown, as_far_as_known, known_of}
use Rattle.scoreboard.specs.Wider.{board_alone, tells_apart}
use Rattle.scoreboard.specs.declared.Errors.{Errors}
use Rattle.scoreboard.specs.declared.Errors.TheVariants.{Any, Strict}
use Rattle.scoreboard.specs.declared.ObservedBeat.{ObservedBeat}
use Rattle.scoreboard.specs.declared.ObservedBeat.TheVariants.{A, D, Axi as OnAxi, Drained}
use Rattle.scoreboard.specs.declared.Policy.TheVariants.{AcceptanceOrder, RealTime}
use Rattle.scoreboard.proofs.acceptance_order.BoardOf.{IsBoardOf}
use Rattle.scoreboard.proofs.acceptance_order.Reached.{held_when_reached, right_exactly, right_front, right_reached}
use Rattle.scoreboard.proofs.acceptance_order.SeenLists.{observed-append}
use Rattle.scoreboard.proofs.real_time.Becoming.{EachIn}
use Rattle.scoreboard.proofs.real_time.Comings.{early_at, early_in}
use Rattle.scoreboard.proofs.real_time.Fates.{GrowsTo, IsCounted, goes_next}
use Rattle.scoreboard.proofs.real_time.Fronts.{front_of}
use Rattle.scoreboard.proofs.real_time.InTurnAlone.{quiet_all, quiet_opens}
use Rattle.scoreboard.proofs.real_time.RequestActs.{IsWell}
use Rattle.scoreboard.proofs.real_time.WiderRuns.{IsOn, IsWaiting, next_on, said_alone}
use Rattle.value_orders.specs.Histories.{Seen, History, Past, begun_by, board_next, entries_of, first_seen, hidden_in, since_next, tells, with_looked}
use Rattle.value_orders.specs.RunOrders.{FindsAsTold, bytes_along, past_of}
use Rattle.value_orders.proofs.Effects.{IsWellPast}
use Rattle.value_orders.proofs.Matches.{Fits, Matches, has_come}
use Rattle.value_orders.proofs.MatchesDue.{HasBegunThere, InFlightAt, IsHad}
use Rattle.value_orders.proofs.MatchesHistories.{matches_next}
use Rattle.value_orders.proofs.RunsBlameLive.{AreLive, length_entries, live_next, looked_entries}
use Rattle.value_orders.proofs.RunsBlameOrders.{live_number}
use Rattle.value_orders.proofs.RunsRightBoards.{IsRightNext, right_is_next}
use Rattle.value_orders.proofs.RunsRightEntries.{Accepts, NoMore, OneMore, NoneWhole, OneWhole}
use Rattle.value_orders.proofs.RunsRightOrder.{IsInTurn, as_came}
use Rattle.value_orders.proofs.RunsRightReplied.{AllGoes, IsUnreplied, any_goes}
use Rattle.value_orders.proofs.RunsRightRequests.{open_live}
use Rattle.value_orders.proofs.RunsRightSeen.{EntryGoes, ToldNow, entries_are as later_entries, entry_next, entry_now, from_start, goes_next as past_goes, later_long, longer, new_past, told_next}
use Rattle.value_orders.proofs.RunsRightSteps.{AreAtOne, AreLast, GoesOn, one_last, one_more, still_came, still_in_turn, still_last}
use Rattle.value_orders.proofs.RunsRightTold.{had, tells_found}
use Rattle.value_orders.proofs.WellHistories.{IsBeside, IsKept, all_well, beside_seen, kept_next}

-- a board of acceptance order that got some beats
abbrev pub compared_of : SetupLists → List ObservedBeat → Board
compared_of setup done = after_all AcceptanceOrder (opening_board setup) done

-- a board and a history, where some beats came that are right
pub record IsGoing (setup : SetupLists) (errors : Errors) (done : List ObservedBeat) (old : UnknownBoard) (pasts : List Past) : Type 0 where
  pub accepted : List ℕ
  pub on : IsOn (compared_of setup done) old.board
  pub kept : IsKept errors old.board (from_start pasts)
  pub match : Matches setup errors old.board (entries_of pasts)
  pub live : AreLive pasts
  pub in_turn : IsInTurn setup (from_start pasts) accepted
  pub requests : requests_in (observed_in done) ≡ map (as_came (from_start pasts)) accepted
  pub last : AreLast (from_start pasts) accepted
  pub owners : (number : ℕ) → IsOneOf number accepted → (as_came (from_start pasts) number).client ≡ (past_of (from_start pasts) number).entry.client
  pub unreplied : EachIn IsUnreplied (entries_of pasts)

-- ---- the board

after_one : (policy_board : Board) (done : List ObservedBeat) (seen : ObservedBeat)
    → after_all AcceptanceOrder policy_board (done ++ seen ∷ []) ≡ after_seen AcceptanceOrder (after_all AcceptanceOrder policy_board done) seen
after_one board [] seen = refl
after_one board (first ∷ done) seen = after_one (after_seen AcceptanceOrder board first) done seen

-- what a payload is plays no part in what a board holds
known_same : (board : Board) (seen : ObservedBeat) → after_seen RealTime board (known_of RealTime board seen 0) ≡ after_seen RealTime board seen
known_same board (A client beat) = refl
known_same board (D client beat) = by_client (slice_get board.clients client)
  where
    by_client : (o : Option ClientBoard) → after_d board client o (as_far_as_known RealTime board client beat 0) ≡ after_d board client o beat
    by_client None = refl
    by_client (Some found) = refl
known_same board (OnAxi beat) = refl
known_same board Drained = refl

on_beside : (compared known next : Board) → IsBeside known next → IsOn compared known → IsOn compared next
on_beside compared known next beside on =
    subst (IsOn compared) (sym beside.is) (record { holds = on.holds; early = on.early })

-- no reply came to a request that isn't whole
waits : (setup : SetupLists) (errors : Errors) (board : Board) (now : Order) → board.errors ≡ errors → Fits setup errors board.clients now → EachIn IsUnreplied now
    → (number : ℕ) (found : ClientBoard) → slice_get board.clients number ≡ Some found → IsWaiting board.errors found
waits setup errors board now errors_are fits unreplied number found there in_front = by_front found.front refl in_front
  where
    by_early : (e : Errors) (o : Option DBeat) → found.early ≡ o → has_come e o ≡ false → has_replied e found ≡ false
    by_early Strict o is none = refl
    by_early Any None is none = absurd (cc (none))
    by_early Any (Some due) is none = rw is refl

    by_front : (front : Option HeldMessage) → found.front ≡ front → is_some front ≡ true → has_replied board.errors found ≡ false
    by_front None is some = absurd (cc (some))
    by_front (Some held) is some =
        let one = fits.fronts number held (ap front_of there ∙ is) in
        let begun = (fits.each one.number one.small).begun one.holds.0 in
        let early : early_at board.clients (numbered now one.number).client ≡ found.early = ap (early_at board.clients) one.holds.1 ∙ ap early_in there in
        ap (λ e. has_replied e found) errors_are
        ∙ by_early errors found.early refl (sym (ap (has_come errors) early) ∙ sym begun.replied ∙ unreplied one.number one.small)

-- ---- one beat more

module _ (setup : SetupLists) (errors : Errors) (done : List ObservedBeat) (seen : ObservedBeat) (old : UnknownBoard) (pasts : List Past)
    (right : IsRight (from_zeros setup) (done ++ seen ∷ [])) (going : IsGoing setup errors done old pasts) where
  abbrev compared : Board
  compared = compared_of setup done

  abbrev history : History
  history = from_start pasts

  abbrev now : Order
  now = entries_of pasts

  abbrev next : Order
  next = begun_next old.board seen now

  abbrev next_pasts : List Past
  next_pasts = since_next setup old.board 0 seen 0 None pasts

  abbrev new : History
  new = from_start next_pasts

  right_done : IsRight (from_zeros setup) done
  right_done = right_front (from_zeros setup) done (seen ∷ []) right

  of : IsBoardOf (from_zeros setup) (observed_in done) compared
  of = held_when_reached Strict (from_zeros setup) done compared (right_reached Strict (from_zeros setup) done right_done)

  none_alone : wrong_at AcceptanceOrder (board_alone old.board) seen ≡ None
  none_alone =
      said_alone compared old.board seen (quiet_all (opening_board setup) done (quiet_opens setup)) going.on
      ∙ (right_exactly Strict (from_zeros setup) done compared seen (right_reached Strict (from_zeros setup) done right_done)).1 right

  all : AllGoes now next (observed_in done) (with_seen (observed_in done) seen)
  all =
      any_goes setup errors old.board compared (observed_in done) now going.on of going.match.fits going.kept.followed going.kept.fine going.unreplied seen none_alone

  grows : GrowsTo errors now next
  grows =
      subst (λ e. GrowsTo e now next) going.kept.errors_are
      (goes_next old.board seen now (subst (λ e. IsCounted e now) (sym going.kept.errors_are) going.kept.counted))

  keeps : (k : ℕ) → k < length now → EntryGoes (numbered now k) (numbered next k)
  keeps = all.goes.each

  looked_long : length (with_looked setup old.board seen 0 None pasts) ≡ length pasts
  looked_long =
      sym (length_entries (with_looked setup old.board seen 0 None pasts))
      ∙ ap (λ (order : Order). length order) (looked_entries setup old.board seen 0 None pasts) ∙ length_entries pasts

  entries_before : (number : ℕ) → 0 < number → (past_of history number).entry ≡ numbered now (number - (0 + 1))
  entries_before = entry_now setup errors old.board seen pasts grows keeps looked_long

  entries_after : (number : ℕ) → 0 < number → (past_of new number).entry ≡ numbered next (number - (0 + 1))
  entries_after = entry_next setup errors old.board seen pasts grows keeps looked_long

  goes_on : (number : ℕ) → 0 < number → number ≤ begun_by history → GoesOn (begun_by new) (past_of history number) (past_of new number)
  goes_on = past_goes setup errors old.board seen pasts grows keeps looked_long

  long : begun_by history ≤ begun_by new
  long = longer setup errors old.board seen pasts grows keeps looked_long

  next_long : length next_pasts ≡ length next
  next_long = later_long setup errors old.board seen pasts grows keeps looked_long

  well : (number : ℕ) → 0 < number → number ≤ begun_by history → IsWell (as_came history number)
  well number from_one some =
      subst (λ (entry : Entry). IsWell entry.request) (sym (entries_before number from_one))
      (going.kept.followed.held (number - (0 + 1)) (omega (arith, from_one, some, length_entries pasts))).1

  fine : (number : ℕ) → 0 < number → number ≤ begun_by history → IsWellPast errors (past_of history number)
  fine = all_well errors old.board history going.kept

  -- what is told now is what was found
  told_now : (number : ℕ) (front back : List ℕ) → going.accepted ≡ front ++ number ∷ back → (0 < number) × (number ≤ begun_by history) → IsOneOf number going.accepted
      → (x byte : ℕ) → ToldNow setup old.board.errors seen pasts (past_of history number) x byte → bytes_along setup (as_came history) zeros front x ≡ byte
  told_now number front back split bounds at x byte = by_seen seen refl
    where
      by_seen : (s : ObservedBeat) → seen ≡ s → ToldNow setup old.board.errors s pasts (past_of history number) x byte → bytes_along setup (as_came history) zeros front x ≡ byte
      by_seen (A client beat) is told = absurd told
      by_seen (OnAxi beat) is told = absurd told
      by_seen Drained is told = absurd told
      by_seen (D client beat) is told = by_had (had setup errors old.board compared (observed_in done) pasts going.accepted going.on of going.match.fits going.in_turn going.requests going.last going.owners well fine
          client beat next_right number bounds.0 bounds.1 told.0)
        where
          next_right : IsRightNext old.board client beat
          next_right = right_is_next old.board client beat (sym (ap (wrong_at AcceptanceOrder (board_alone old.board)) is) ∙ none_alone)

          by_had : IsHad setup errors old.board.clients (past_of history number).entry next_right.flight → bytes_along setup (as_came history) zeros front x ≡ byte
          by_had (InFlightAt whole flies same) =
              tells_found setup errors old.board compared (observed_in done) pasts going.accepted going.on of going.match.fits going.in_turn going.requests going.last going.owners well fine
              client beat next_right number bounds.0 bounds.1 told.0 front back split flies same whole x
              (ap (λ e. tells setup e (past_of history number).entry beat 0 x) (sym going.kept.errors_are) ∙ told.1)
              ∙ told.2
          by_had (HasBegunThere unwhole is_begun early beats_are footprint_is) =
              absurd (both_ways (past_of history number).entry.whole unwhole (going.in_turn.whole number at))

  finds : (number : ℕ) (front back : List ℕ) → going.accepted ≡ front ++ number ∷ back → FindsAsTold (past_of history number) (bytes_along setup (as_came history) zeros front)
      → FindsAsTold (past_of new number) (bytes_along setup (as_came history) zeros front)
  finds number front back split found op x byte atomic told =
      ⊎_elim (λ was. found op x byte (sym (ap (λ (q : WholeRequest). q.operation) same) ∙ atomic) was)
      (λ now_told. told_now number front back split bounds at x byte now_told)
      (told_next setup errors old.board seen pasts grows keeps looked_long number bounds.0 bounds.1 x byte told)
    where
      at : IsOneOf number going.accepted
      at = subst (λ numbers. IsOneOf number numbers) (sym split) (in_append_right number front (number ∷ back) (inl refl))

      bounds : (0 < number) × (number ≤ begun_by history)
      bounds = all_of (λ k. (0 < k) × (k ≤ begun_by history)) number going.accepted going.in_turn.some at

      same : as_came new number ≡ as_came history number
      same = ((goes_on number bounds.0 bounds.1).whole (going.in_turn.whole number at)).1

  -- ---- what holds again

  on_next : IsOn (compared_of setup (done ++ seen ∷ [])) (board_next old (Seen seen 0 None)).board
  on_next =
      subst (λ (b : Board). IsOn b (board_next old (Seen seen 0 None)).board) (sym (after_one (opening_board setup) done seen))
      (on_beside (after_seen AcceptanceOrder compared seen) (after_seen RealTime old.board (known_of RealTime old.board seen 0)) (after_seen_unknown RealTime old seen 0).board
      (beside_seen old seen 0)
      (subst (IsOn (after_seen AcceptanceOrder compared seen)) (sym (known_same old.board seen))
      (next_on compared old.board seen going.on (waits setup errors old.board now going.kept.errors_are going.match.fits going.unreplied) (ap tells_apart none_alone))))

  kept_again : IsKept errors (board_next old (Seen seen 0 None)).board new
  kept_again = kept_next setup errors old history (Seen seen 0 None) going.kept

  match_again : Matches setup errors (board_next old (Seen seen 0 None)).board (entries_of next_pasts)
  match_again = matches_next setup errors old history (Seen seen 0 None) going.kept going.match

  live_again : AreLive next_pasts
  live_again = live_next setup errors old history (Seen seen 0 None) going.kept going.live

  entries_are : entries_of next_pasts ≡ next
  entries_are = later_entries setup errors old.board seen pasts grows keeps looked_long

  unreplied_again : EachIn IsUnreplied (entries_of next_pasts)
  unreplied_again = subst (EachIn IsUnreplied) (sym entries_are) all.unreplied

  owners_still : (number : ℕ) → IsOneOf number going.accepted → (as_came new number).client ≡ (past_of new number).entry.client
  owners_still number at =
      let bounds = all_of (λ k. (0 < k) × (k ≤ begun_by history)) number going.accepted going.in_turn.some at in
      ap (λ (q : WholeRequest). q.client) ((goes_on number bounds.0 bounds.1).whole (going.in_turn.whole number at)).1
      ∙ going.owners number at ∙ sym (goes_on number bounds.0 bounds.1).client

  observed_is : requests_in (observed_in (done ++ seen ∷ [])) ≡ requests_in (with_seen (observed_in done) seen)
  observed_is = ap requests_in (observed-append nothing_observed done seen)

  abbrev Next : Type 0
  Next = IsGoing setup errors (done ++ seen ∷ []) (board_next old (Seen seen 0 None)) next_pasts

  -- a place among all that have begun
  small_next : (number : ℕ) → 0 < number → number ≤ begun_by new → number - (0 + 1) < length next
  small_next number from_one some = omega (arith, from_one, some, next_long)

  no_more : NoneWhole now next → requests_in (with_seen (observed_in done) seen) ≡ requests_in (observed_in done) → Next
  no_more none same =
      record {
        accepted = going.accepted;
        on = on_next;
        kept = kept_again;
        match = match_again;
        live = live_again;
        in_turn = still_in_turn setup history new going.accepted going.in_turn long goes_on finds none_more;
        requests = observed_is ∙ same ∙ going.requests ∙ sym (still_came setup history new going.accepted going.in_turn long goes_on finds);
        last = still_last setup history new going.accepted going.in_turn long goes_on finds going.last;
        owners = owners_still;
        unreplied = unreplied_again;
      }
    where
      none_more : (number : ℕ) → 0 < number → number ≤ begun_by new → (past_of new number).entry.whole ≡ true
          → (number ≤ begun_by history) × ((past_of history number).entry.whole ≡ true)
      none_more number from_one some whole =
          let was = none (number - (0 + 1)) (small_next number from_one some) (sym (ap (λ (entry : Entry). entry.whole) (entries_after number from_one)) ∙ whole) in
          (omega (arith, was.0, from_one, length_entries pasts), ap (λ (entry : Entry). entry.whole) (entries_before number from_one) ∙ was.1)

  module _ (one : OneWhole now next (observed_in done) (with_seen (observed_in done) seen)) where
    abbrev number : ℕ
    number = suc one.place

    at_place : suc one.place - (0 + 1) ≡ one.place
    at_place = omega (arith)

    its_entry : (past_of new number).entry ≡ numbered next one.place
    its_entry = entries_after number (omega (arith)) ∙ ap (numbered next) at_place

    some : number ≤ begun_by new
    some = omega (arith, one.small, next_long)

    is_whole : (past_of new number).entry.whole ≡ true
    is_whole = ap (λ (entry : Entry). entry.whole) its_entry ∙ one.whole

    unwhole_before : number ≤ begun_by history → (past_of history number).entry.whole ≡ false
    unwhole_before below =
        ap (λ (entry : Entry). entry.whole) (entries_before number (omega (arith))) ∙ ap (λ n. (numbered now n).whole) at_place
        ∙ one.was_not (omega (arith, below, length_entries pasts))

    was_not : IsOneOf number going.accepted → ⊥
    was_not at =
        both_ways (past_of history number).entry.whole
        (unwhole_before (all_of (λ k. (0 < k) × (k ≤ begun_by history)) number going.accepted going.in_turn.some at).1) (going.in_turn.whole number at)

    -- it hadn't ended
    live_before : number ≤ begun_by history → (past_of history number).ended ≡ None
    live_before below = by_end (past_of history number).ended refl
      where
        live : has_ended (past_of history number).entry ≡ false
        live =
            open_live (past_of history number).entry
            (ap (λ (entry : Entry). entry.came) (entries_before number (omega (arith)))
            ∙ (going.kept.counted.each (number - (0 + 1)) (omega (arith, below, length_entries pasts))).starts
            (sym (ap (λ (entry : Entry). entry.whole) (entries_before number (omega (arith)))) ∙ unwhole_before below))

        by_end : (ended : Option ℕ) → (past_of history number).ended ≡ ended → ended ≡ None
        by_end None is = refl
        by_end (Some time) is =
            absurd (both_ways (has_ended (past_of history number).entry) live ((live_number history going.live number (omega (arith)) below).ends time is))

    abbrev just_begun : Type 0
    just_begun = past_of new number ≡ first_seen (hidden_in seen 0) (numbered next (number - 1))

    new_one : begun_by history < number → just_begun
    new_one beyond = new_past setup errors old.board seen pasts grows keeps looked_long number beyond some

    ends_now : (time : ℕ) → (past_of new number).ended ≡ Some time → time ≡ begun_by new
    ends_now time is =
        elim (cases_lt (begun_by history) number) [
          | inl beyond ↦ absurd (cc (sym (ap (λ (past : Past). past.ended) (new_one beyond)) ∙ is))
          | inr below ↦
              ⊎_elim (λ was. absurd (cc (sym (live_before below) ∙ was))) (λ now_it. now_it)
              ((goes_on number (omega (arith)) below).ended time is)
        ]

    only : (other : ℕ) → 0 < other → other ≤ begun_by new → (past_of new other).entry.whole ≡ true
        → (other ≡ number) ⊎ ((other ≤ begun_by history) × ((past_of history other).entry.whole ≡ true))
    only other from_one below whole =
        ⊎_elim (λ same. inl (omega (arith, same, from_one)))
        (λ was. inr (omega (arith, was.0, from_one, length_entries pasts), ap (λ (entry : Entry). entry.whole) (entries_before other from_one) ∙ was.1))
        (one.only (other - (0 + 1)) (small_next other from_one below) (sym (ap (λ (entry : Entry). entry.whole) (entries_after other from_one)) ∙ whole))

    told_none : (m : Bytes) → FindsAsTold (past_of new number) m
    told_none m op x byte atomic told =
        elim (cases_lt (begun_by history) number) [
          | inl beyond ↦ absurd (cc (sym (ap (λ (past : Past). past.told x) (new_one beyond)) ∙ told))
          | inr below ↦
              absurd (one.no_atomic (omega (arith, below, length_entries pasts)) op (sym (ap (λ (entry : Entry). entry.request.operation) its_entry) ∙ atomic))
        ]

    apart : (first : ℕ) → IsOneOf first going.accepted → has_ended (past_of new first).entry ≡ false → AreAtOne new first number → ⊥
    apart first at live same =
        one.free (first - (0 + 1)) (omega (arith, bounds, length_entries pasts)) (sym (ap (λ (entry : Entry). entry.whole) (entries_before first bounds.0)) ∙ going.in_turn.whole first at)
        (sym (ap has_ended (entries_before first bounds.0)) ∙ goes.live live)
        (sym (ap (λ (entry : Entry). entry.client) (entries_before first bounds.0)) ∙ sym goes.client ∙ sym same.0 ∙ ap (λ (entry : Entry). entry.client) its_entry)
        (sym (ap (λ (entry : Entry). entry.request.source) (entries_before first bounds.0))
        ∙ sym (ap (λ (q : WholeRequest). q.source) (goes.whole (going.in_turn.whole first at)).1) ∙ sym same.1 ∙ ap (λ (entry : Entry). entry.request.source) its_entry)
      where
        bounds : (0 < first) × (first ≤ begun_by history)
        bounds = all_of (λ k. (0 < k) × (k ≤ begun_by history)) first going.accepted going.in_turn.some at

        goes : GoesOn (begun_by new) (past_of history first) (past_of new first)
        goes = goes_on first bounds.0 bounds.1

    map_last : (numbers : List ℕ) → map (as_came new) (numbers ++ number ∷ []) ≡ map (as_came new) numbers ++ as_came new number ∷ []
    map_last [] = refl
    map_last (first ∷ numbers) = ap (λ (rest : List WholeRequest). as_came new first ∷ rest) (map_last numbers)

    comes_whole : Next
    comes_whole =
        record {
          accepted = going.accepted ++ number ∷ [];
          on = on_next;
          kept = kept_again;
          match = match_again;
          live = live_again;
          in_turn = one_more setup history new going.accepted going.in_turn long goes_on finds number (omega (arith)) some is_whole was_not ends_now only told_none;
          requests = observed_is ∙ one.requests
              ∙ ap (λ (qs : List WholeRequest). qs ++ (numbered next one.place).request ∷ []) (going.requests ∙ sym (still_came setup history new going.accepted going.in_turn long goes_on finds))
              ∙ ap (λ (q : WholeRequest). map (as_came new) going.accepted ++ q ∷ []) (sym (ap (λ (entry : Entry). entry.request) its_entry))
              ∙ sym (map_last going.accepted);
          last = one_last setup history new going.accepted going.in_turn long goes_on finds number (omega (arith)) some is_whole was_not ends_now only told_none apart going.last;
          owners = λ k at. ⊎_elim (λ old_one. owners_still k old_one)
              (λ last. ⊎_elim (λ same. subst (λ n. (as_came new n).client ≡ (past_of new n).entry.client) (sym same) own) (λ none. absurd none) last)
              (from_append k going.accepted (number ∷ []) at);
          unreplied = unreplied_again;
        }
      where
        own : (as_came new number).client ≡ (past_of new number).entry.client
        own = ap (λ (entry : Entry). entry.request.client) its_entry ∙ one.own ∙ sym (ap (λ (entry : Entry). entry.client) its_entry)

  pub step : Next
  step = by_accepts all.accepts
    where
      by_accepts : Accepts now next (observed_in done) (with_seen (observed_in done) seen) → Next
      by_accepts (NoMore none same) = no_more none same
      by_accepts (OneMore one) = comes_whole one
