-- Of beats that are right in order of acceptance no byte is blamed that the next right one tells: in that order its request finds it.
use Rattle.std.proofs.Common.{◌≡◌, ℕ, ◌<◌, ◌≤◌, ◌+◌, ◌-◌, ◌%◌, true, false, List, [], ◌∷◌, ◌++◌, Option, Some, None, ⊎_elim, refl, sym, ◌∙◌, ap, subst, arith}
use Rattle.std.proofs.lemmas.Bool.{both_ways}
use Rattle.std.proofs.lemmas.Bool.Decides.{nat_tests}
use Rattle.std.proofs.lemmas.List.{append-nil, append_assoc}
use Rattle.bus_words.specs.Lanes.{lane_byte}
use Rattle.byte_orders.specs.Accesses.{IsOneOf}
use Rattle.byte_orders.proofs.Members.{in_append_left}
use Rattle.meaning.specs.Meaning.{Bytes, acknowledged, zeros}
use Rattle.responses.specs.Shown.{beat_without_data}
use Rattle.setups.specs.Setups.{SetupLists}
use Rattle.tl_messages.specs.Operations.{reply_has_data}
use Rattle.tl_messages.specs.Requests.{WholeRequest}
use Rattle.tl_messages.specs.declared.DBeat.{DBeat}
use Rattle.scoreboard.specs.Boards.{Board, from_zeros, opening_board}
use Rattle.scoreboard.specs.Observed.{observed_in}
use Rattle.scoreboard.specs.Orders.{Entry, has_ended}
use Rattle.scoreboard.specs.Right.{IsRight}
use Rattle.scoreboard.specs.Unknown.{UnknownBoard}
use Rattle.scoreboard.specs.declared.Errors.{Errors}
use Rattle.scoreboard.specs.declared.Errors.TheVariants.{Strict}
use Rattle.scoreboard.specs.declared.ObservedBeat.{ObservedBeat}
use Rattle.scoreboard.specs.declared.ObservedBeat.TheVariants.{D}
use Rattle.scoreboard.proofs.acceptance_order.BoardOf.{IsBoardOf}
use Rattle.scoreboard.proofs.acceptance_order.Reached.{held_when_reached, right_exactly, right_front, right_reached}
use Rattle.scoreboard.proofs.real_time.Fronts.{front_at, front_of}
use Rattle.scoreboard.proofs.real_time.InTurnAlone.{quiet_all, quiet_opens}
use Rattle.scoreboard.proofs.real_time.RequestActs.{IsWell}
use Rattle.scoreboard.proofs.real_time.WiderRuns.{said_alone}
use Rattle.value_orders.specs.Blames.{IsDueTo, LetsTell, NeverBlames, all_seen}
use Rattle.value_orders.specs.Bytes.{NoneTells}
use Rattle.value_orders.specs.Histories.{Seen, History, Past, begun_by, board_from, board_in, board_next, history_from, history_in, opening, since_next, tells}
use Rattle.value_orders.specs.RunOrders.{AtomicsFind, IsRunOrder, MayBeAll, bytes_before, past_of}
use Rattle.value_orders.proofs.Effects.{IsWellPast}
use Rattle.value_orders.proofs.Matches.{IsBegun, IsFlying, matches_opening}
use Rattle.value_orders.proofs.MatchesDue.{HasBegunThere, InFlightAt, IsHad}
use Rattle.value_orders.proofs.RunsBlame.{is_telling, none_tells}
use Rattle.value_orders.proofs.RunsBlameLive.{length_entries}
use Rattle.value_orders.proofs.RunsBlameOrders.{entry_at, live_number}
use Rattle.value_orders.proofs.RunsBlamePayload.{no_data}
use Rattle.value_orders.proofs.RunsBlameSilent.{held_silent}
use Rattle.value_orders.proofs.RunsRightAlong.{IsGoing, compared_of, step}
use Rattle.value_orders.proofs.RunsRightBoards.{IsRightNext, right_is_next}
use Rattle.value_orders.proofs.RunsRightOrder.{all_find, as_came, found_before, may_be_all, numbers, opened, run_order, zeros_begin}
use Rattle.value_orders.proofs.RunsRightRequests.{open_live}
use Rattle.value_orders.proofs.RunsRightSeen.{from_start}
use Rattle.value_orders.proofs.RunsRightTold.{had, tells_found}
use Rattle.value_orders.proofs.RunsTell.{runs_tell}
use Rattle.value_orders.proofs.WellHistories.{all_well, kept_in}

-- ---- from the start

opens : (setup : SetupLists) (errors : Errors) → IsGoing setup errors [] (opening errors (from_zeros setup)) []
opens setup errors =
    record {
      accepted = [];
      on = record { holds = refl; early = refl };
      kept = kept_in errors (from_zeros setup) [];
      match = matches_opening errors (from_zeros setup);
      live = tt;
      in_turn = record {
        some = tt;
        once = tt;
        whole = λ number at. absurd at;
        all = λ number from_one some whole. absurd (omega (arith, from_one, some));
        keeps = tt;
        find = tt;
      };
      requests = refl;
      last = tt;
      owners = λ number at. absurd at;
      unreplied = λ k small. absurd (omega (arith, small));
    }

-- what was seen of the requests after some beats
abbrev pasts_from : SetupLists → UnknownBoard → List Past → List ObservedBeat → List Past
pasts_from setup board pasts [] = pasts
pasts_from setup board pasts (seen ∷ rest) = pasts_from setup (board_next board (Seen seen 0 None)) (since_next setup board.board 0 seen 0 None pasts) rest

history_is : (setup : SetupLists) (board : UnknownBoard) (pasts : List Past) (beats : List ObservedBeat)
    → history_from setup board (from_start pasts) (all_seen beats) ≡ from_start (pasts_from setup board pasts beats)
history_is setup board pasts [] = refl
history_is setup board pasts (seen ∷ rest) = history_is setup (board_next board (Seen seen 0 None)) (since_next setup board.board 0 seen 0 None pasts) rest

goes_along : (setup : SetupLists) (errors : Errors) (done rest : List ObservedBeat) (board : UnknownBoard) (pasts : List Past) → IsRight (from_zeros setup) (done ++ rest)
    → IsGoing setup errors done board pasts → IsGoing setup errors (done ++ rest) (board_from board (all_seen rest)) (pasts_from setup board pasts rest)
goes_along setup errors done [] board pasts right going =
    subst (λ all. IsGoing setup errors all board pasts) (sym (append-nil done)) going
goes_along setup errors done (seen ∷ rest) board pasts right going =
    subst (λ all. IsGoing setup errors all (board_from (board_next board (Seen seen 0 None)) (all_seen rest))
    (pasts_from setup (board_next board (Seen seen 0 None)) (since_next setup board.board 0 seen 0 None pasts) rest)) (append_assoc done (seen ∷ []) rest)
    (goes_along setup errors (done ++ seen ∷ []) rest (board_next board (Seen seen 0 None)) (since_next setup board.board 0 seen 0 None pasts)
    (subst (IsRight (from_zeros setup)) (sym (append_assoc done (seen ∷ []) rest)) right)
    (step setup errors done seen board pasts
    (right_front (from_zeros setup) (done ++ seen ∷ []) rest (subst (IsRight (from_zeros setup)) (sym (append_assoc done (seen ∷ []) rest)) right)) going))

-- ---- the next beat

record Split (number : ℕ) (all : List ℕ) : Type 0 where
  front : List ℕ
  back : List ℕ
  is : all ≡ front ++ number ∷ back

split_at : (number : ℕ) (all : List ℕ) → IsOneOf number all → Split number all
split_at number [] at = absurd at
split_at number (first ∷ rest) at =
    ⊎_elim (λ same. record { front = []; back = rest; is = ap (λ n. n ∷ rest) (sym same) }) (λ later. further (split_at number rest later)) at
  where
    further : Split number rest → Split number (first ∷ rest)
    further found = record { front = first ∷ found.front; back = found.back; is = ap (λ (all : List ℕ). first ∷ all) found.is }

module _ (setup : SetupLists) (errors : Errors) (before : List ObservedBeat) (client : ℕ) (beat : DBeat) (board : UnknownBoard) (pasts : List Past)
    (going : IsGoing setup errors before board pasts) (right : IsRight (from_zeros setup) (before ++ D client beat ∷ [])) (number x : ℕ)
    (is : IsDueTo (from_start pasts) client beat number) (tells_it : tells setup errors (past_of (from_start pasts) number).entry beat 0 x ≡ true) where
  abbrev history : History
  history = from_start pasts

  abbrev entry : Entry
  entry = (past_of history number).entry

  abbrev compared : Board
  compared = compared_of setup before

  right_before : IsRight (from_zeros setup) before
  right_before = right_front (from_zeros setup) before (D client beat ∷ []) right

  of : IsBoardOf (from_zeros setup) (observed_in before) compared
  of = held_when_reached Strict (from_zeros setup) before compared (right_reached Strict (from_zeros setup) before right_before)

  next : IsRightNext board.board client beat
  next =
      right_is_next board.board client beat
      (said_alone compared board.board (D client beat) (quiet_all (opening_board setup) before (quiet_opens setup)) going.on
      ∙ (right_exactly Strict (from_zeros setup) before compared (D client beat) (right_reached Strict (from_zeros setup) before right_before)).1 right)

  pub wells : (other : ℕ) → 0 < other → other ≤ begun_by history → IsWell (as_came history other)
  wells other from_one some =
      subst (λ (e : Entry). IsWell e.request) (entry_at history other (omega (arith, from_one)))
      (going.kept.followed.held (other - (0 + 1)) (omega (arith, from_one, some, length_entries pasts))).1

  pub fines : (other : ℕ) → 0 < other → other ≤ begun_by history → IsWellPast errors (past_of history other)
  fines = all_well errors board.board history going.kept

  pub open_ones : (other : ℕ) → 0 < other → other ≤ begun_by history → (past_of history other).entry.whole ≡ false → (past_of history other).ended ≡ None
  open_ones other from_one some unwhole = by_end (past_of history other).ended refl
    where
      live : has_ended (past_of history other).entry ≡ false
      live =
          open_live (past_of history other).entry
          (ap (λ (e : Entry). e.came) (sym (entry_at history other (omega (arith, from_one))))
          ∙ (going.kept.counted.each (other - (0 + 1)) (omega (arith, from_one, some, length_entries pasts))).starts
          (ap (λ (e : Entry). e.whole) (entry_at history other (omega (arith, from_one))) ∙ unwhole))

      by_end : (ended : Option ℕ) → (past_of history other).ended ≡ ended → ended ≡ None
      by_end None at = refl
      by_end (Some time) at =
          absurd (both_ways (has_ended (past_of history other).entry) live ((live_number history going.live other (omega (arith, from_one)) some).ends time at))

  is_had : IsHad setup errors board.board.clients entry next.flight
  is_had =
      had setup errors board.board compared (observed_in before) pasts going.accepted going.on of going.match.fits going.in_turn going.requests going.last going.owners wells fines
      client beat next number is.since is.begun is.due

  own_client : entry.client ≡ client
  own_client = grind (arith, nat_tests, is.due)

  -- the bytes that it finds
  abbrev order_numbers : List ℕ
  order_numbers = numbers setup errors history going.accepted going.in_turn wells fines open_ones

  by_split : entry.whole ≡ true → (flies : IsFlying setup errors board.board.clients entry) → flies.flight ≡ next.flight → Split number going.accepted
      → bytes_before setup (as_came history) zeros order_numbers number x ≡ lane_byte beat.payload (x % 8)
  by_split whole flies same split =
      ap (λ (m : Bytes). m x) (found_before setup errors history going.accepted going.in_turn wells fines open_ones split.front split.back number split.is)
      ∙ tells_found setup errors board.board compared (observed_in before) pasts going.accepted going.on of going.match.fits going.in_turn going.requests going.last going.owners wells fines
      client beat next number is.since is.begun is.due split.front split.back split.is flies same whole x tells_it

  -- it is whole
  record IsWholeOne : Type 0 where
    whole : entry.whole ≡ true
    flies : IsFlying setup errors board.board.clients entry
    same : flies.flight ≡ next.flight

  whole_one : IsWholeOne
  whole_one = by_had is_had
    where
      by_had : IsHad setup errors board.board.clients entry next.flight → IsWholeOne
      by_had (InFlightAt whole flies same) = record { whole = whole; flies = flies; same = same }
      by_had (HasBegunThere unwhole begun early beats_are footprint_is) =
          let first : beat_without_data entry.request acknowledged ∷ [] ≡ beat ∷ next.rest = sym beats_are ∙ next.beats in
          let due_is : beat_without_data entry.request acknowledged ≡ beat = cc (first) in
          absurd (no_data entry.request.operation (silent begun) (ap (λ (d : DBeat). d.opcode) due_is ∙ (is_telling setup errors entry beat 0 x tells_it).opcode))
        where
          silent : IsBegun setup errors board.board.clients entry → reply_has_data entry.request.operation ≡ false
          silent begun_one =
              ap (λ (q : WholeRequest). reply_has_data q.operation) (sym begun_one.fields)
              ∙ held_silent next.found begun_one.held (going.kept.followed.fronts client next.found next.there)
              (sym (ap front_of next.there) ∙ ap (front_at board.board.clients) (sym own_client) ∙ begun_one.front)

  accepted_one : IsOneOf number going.accepted
  accepted_one = going.in_turn.all number is.since is.begun whole_one.whole

  pub finds_it : bytes_before setup (as_came history) zeros order_numbers number x ≡ lane_byte beat.payload (x % 8)
  finds_it = by_split whole_one.whole whole_one.flies whole_one.same (split_at number going.accepted accepted_one)

  pub none_blamed : history_in errors (from_zeros setup) (all_seen before) ≡ history
      → NoneTells (from_zeros setup) errors (history_in errors (from_zeros setup) (all_seen before)) x number (lane_byte beat.payload (x % 8)) → ⊥
  none_blamed same none =
      runs_tell errors (from_zeros setup) (all_seen before) (as_came history) order_numbers zeros x number (lane_byte beat.payload (x % 8))
      (subst (λ (h : History). IsRunOrder h order_numbers) (sym same) (run_order setup errors history going.accepted going.in_turn wells fines open_ones))
      (in_append_left number going.accepted (opened setup errors history going.accepted going.in_turn wells fines open_ones) accepted_one)
      (subst (λ (h : History). MayBeAll h (as_came history)) (sym same) (may_be_all setup errors history going.accepted going.in_turn wells fines open_ones))
      (zeros_begin setup)
      (subst (λ (h : History). AtomicsFind setup h (as_came history) zeros order_numbers) (sym same) (all_find setup errors history going.accepted going.in_turn wells fines open_ones))
      none finds_it

pub lets_tell : (errors : Errors) (setup : SetupLists) (before : List ObservedBeat) (client : ℕ) (beat : DBeat) → LetsTell errors setup before client beat
lets_tell errors setup before client beat number x right is tells_it none =
    none_blamed setup errors before client beat (board_in errors (from_zeros setup) (all_seen before)) pasts
    (goes_along setup errors [] before (opening errors (from_zeros setup)) [] right_before (opens setup errors)) right number x
    (subst (λ (h : History). IsDueTo h client beat number) same is) (subst (λ (h : History). tells setup errors (past_of h number).entry beat 0 x ≡ true) same tells_it) same none
  where
    right_before : IsRight (from_zeros setup) before
    right_before = right_front (from_zeros setup) before (D client beat ∷ []) right

    pasts : List Past
    pasts = pasts_from setup (opening errors (from_zeros setup)) [] before

    same : history_in errors (from_zeros setup) (all_seen before) ≡ from_start pasts
    same = history_is setup (opening errors (from_zeros setup)) [] before

pub never_blames : (errors : Errors) (setup : SetupLists) (before : List ObservedBeat) (client : ℕ) (beat : DBeat) → NeverBlames errors setup before client beat
never_blames errors setup before client beat right blamed =
    lets_tell errors setup before client beat blamed.number blamed.x right blamed.is_due blamed.tells_it
    (none_tells errors (from_zeros setup) (all_seen before) client beat blamed.x blamed.number (lane_byte beat.payload (blamed.x % 8)) blamed.is_due blamed.blames_it)
