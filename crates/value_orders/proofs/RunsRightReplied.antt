-- Any beat that is right in order of acceptance: how the requests that have begun go on; and no reply comes before its request is whole.
use Rattle.std.proofs.Common.{◌≡◌, ℕ, ◌==◌, ◌&&◌, ◌||◌, not, Bool, true, false, ◌∷◌, ◌++◌, map, length, Option, Some, None, Result, Ok, Err, if◌then◌else◌, refl, sym, ◌∙◌, ap, subst, arith}
use Rattle.std.specs.Prelude.{is_some, slice_get}
use Rattle.std.specs.List.{find, list_any}
use Rattle.std.specs.Option.{option_map, option_or, option_to_list}
use Rattle.std.proofs.lemmas.Bool.{and_parts, both_ways, eq-eqb, eqb-true, or_left, or_right}
use Rattle.std.proofs.lemmas.Bool.Decides.{nat_tests}
use Rattle.setups.specs.Setups.{SetupLists}
use Rattle.serial_memory.specs.SerialMemory.{Memory}
use Rattle.tl_checker.specs.Ports.{joined}
use Rattle.tl_checker.specs.declared.Progress.{Progress}
use Rattle.tl_checker.specs.declared.Progress.TheVariants.{More, Whole}
use Rattle.tl_checker.specs.declared.TlRule.{TlRule}
use Rattle.tl_messages.specs.Requests.{HeldMessage, WholeRequest, request_of}
use Rattle.tl_messages.specs.declared.ABeat.{ABeat}
use Rattle.tl_messages.specs.declared.DBeat.{DBeat}
use Rattle.scoreboard.specs.Boards.{Board, ClientBoard, answer_to, from_zeros, is_spoiled, wrong_at}
use Rattle.scoreboard.specs.FailedBursts.{Span, failed_span, shares}
use Rattle.scoreboard.specs.Flights.{InFlight, begun_is_of, due_to, is_busy, is_of_source, next_reply}
use Rattle.scoreboard.specs.Observed.{Observed, requests_in, with_seen}
use Rattle.scoreboard.specs.Orders.{Entry, Order, begun_to, counted, cut_short, ended_early, has_ended, is_due, is_over, reply_beats, with_beat}
use Rattle.scoreboard.specs.RealTime.{acting_footprint, begun_next, completed, entry_of, heard, is_open, numbered, struck, with_answered, with_failed, with_progress, with_request}
use Rattle.scoreboard.specs.Wider.{board_alone, flight_alone}
use Rattle.scoreboard.specs.declared.Errors.{Errors}
use Rattle.scoreboard.specs.declared.ObservedBeat.{ObservedBeat}
use Rattle.scoreboard.specs.declared.ObservedBeat.TheVariants.{A, D, Axi as OnAxi, Drained}
use Rattle.scoreboard.specs.declared.Policy.TheVariants.{AcceptanceOrder, RealTime}
use Rattle.scoreboard.proofs.acceptance_order.BoardOf.{IsBoardOf, IsClientOf}
use Rattle.scoreboard.proofs.acceptance_order.DueLists.{AreDues, AreOf, any_found}
use Rattle.scoreboard.proofs.real_time.Becoming.{EachIn, IsFollowed, each_last, each_map}
use Rattle.scoreboard.proofs.real_time.FlightsAlone.{next_alone}
use Rattle.scoreboard.proofs.real_time.Fronts.{front_at, front_of}
use Rattle.scoreboard.proofs.real_time.WiderRuns.{IsOn}
use Rattle.value_orders.proofs.FineEntries.{IsFine}
use Rattle.value_orders.proofs.Matches.{Fits, IsBegun, IsThere}
use Rattle.value_orders.proofs.RunsRightBoards.{IsPair, IsRightNext, front_free, is_pair, right_is_next}
use Rattle.value_orders.proofs.RunsRightEntries.{Accepts, NoMore, NoneWhole, OrderGoes, goes_beat, goes_early, goes_same, goes_struck, goes_trans, none_map, order_map}
use Rattle.value_orders.proofs.RunsRightRequests.{request_goes}

order_same : (now : Order) → OrderGoes now now
order_same now = record { longer = omega (arith); each = λ k small. goes_same (numbered now k) }

order_trans : (one two three : Order) → OrderGoes one two → OrderGoes two three → OrderGoes one three
order_trans one two three first second =
    record {
      longer = omega (arith, first.longer, second.longer);
      each = λ k small. goes_trans (numbered one k) (numbered two k) (numbered three k) (first.each k small) (second.each k (omega (arith, small, first.longer)));
    }

none_trans : (one two three : Order) → NoneWhole one two → NoneWhole two three → NoneWhole one three
none_trans one two three first second k small whole = let was = second k small whole in first k was.0 was.1

-- ---- no reply has come before its request is whole

abbrev pub IsUnreplied : Entry → Type 0
IsUnreplied entry = entry.replied ≡ false

pub record AllGoes (now next : Order) (old new : Observed) : Type 0 where
  pub goes : OrderGoes now next
  pub accepts : Accepts now next old new
  pub unreplied : EachIn IsUnreplied next

module _ (setup : SetupLists) (errors : Errors) (board compared : Board) (observed : Observed) (now : Order) (on : IsOn compared board)
    (of : IsBoardOf (from_zeros setup) observed compared) (fits : Fits setup errors board.clients now) (followed : IsFollowed board now) (fine : EachIn (IsFine errors) now)
    (unreplied : EachIn IsUnreplied now) where
  -- ---- channel A

  progress_unreplied : (e : Errors) (number : ℕ) (front : Option HeldMessage) (q : WholeRequest) (told : Progress) → EachIn IsUnreplied (with_progress e number front q told now)
  progress_unreplied e number None q More = each_last IsUnreplied now (record (entry_of e number q false) { number = length now }) unreplied refl
  progress_unreplied e number None q Whole = each_last IsUnreplied now (record (entry_of e number q true) { number = length now }) unreplied refl
  progress_unreplied e number (Some held) q More = each_map IsUnreplied IsUnreplied (heard e number q) now (λ entry was. by_test entry was (is_open number entry)) unreplied
    where
      by_test : (entry : Entry) → IsUnreplied entry → (b : Bool) → IsUnreplied (if b then record entry { spoiled = entry.spoiled || is_spoiled e q } else entry)
      by_test entry was true = was
      by_test entry was false = was
  progress_unreplied e number (Some held) q Whole = each_map IsUnreplied IsUnreplied (completed e number q) now (λ entry was. by_test entry was (is_open number entry)) unreplied
    where
      by_test : (entry : Entry) → IsUnreplied entry → (b : Bool)
          → IsUnreplied (if b then record entry {
            request = q;
            whole = true;
            spoiled = entry.spoiled || is_spoiled e q;
            early = false;
            came = if entry.replied then reply_beats q else entry.came;
          } else entry)
      by_test entry was true = was
      by_test entry was false = was

  request_unreplied : (number : ℕ) (beat : ABeat) (o : Option ClientBoard) → EachIn IsUnreplied (with_request board.errors number o beat now)
  request_unreplied number beat None = unreplied
  request_unreplied number beat (Some found) = by_answer (answer_to RealTime found beat)
    where
      by_answer : (a : Result Progress TlRule) → EachIn IsUnreplied (with_answered board.errors number found.front (joined found.limits found.front beat) a now)
      by_answer (Err broken) = unreplied
      by_answer (Ok told) = progress_unreplied board.errors number found.front (request_of (joined found.limits found.front beat)) told

  -- ---- channel D

  module _ (client : ℕ) (beat : DBeat) (right : IsRightNext board client beat) where
    pair : IsPair board compared client right.found
    pair = is_pair board compared client right.found on right.there

    its_client : IsClientOf (from_zeros setup) observed client pair.other
    its_client = of.clients client pair.other pair.there

    next_there : option_map flight_alone (next_reply pair.other.flights beat.source) ≡ Some (flight_alone right.flight)
    next_there =
        sym (next_alone pair.other.flights beat.source) ∙ ap (λ (c : ClientBoard). next_reply c.flights beat.source) (sym pair.alone)
        ∙ next_alone right.found.flights beat.source ∙ ap (option_map flight_alone) right.next

    busy : is_busy AcceptanceOrder pair.other.flights beat.source ≡ true
    busy = by_begun pair.other.flights.begun next_there its_client.dues
      where
        by_due : (o : Option InFlight) → find (is_of_source beat.source) pair.other.flights.due ≡ o → option_map flight_alone o ≡ Some (flight_alone right.flight)
            → list_any (is_of_source beat.source) pair.other.flights.due ≡ true
        by_due None is none = absurd (cc (none))
        by_due (Some flight) is some = any_found (is_of_source beat.source) pair.other.flights.due ∙ ap (λ (o : Option InFlight). is_some o) is

        by_begun : (begun : Option InFlight) → option_map flight_alone (option_or begun (due_to pair.other.flights beat.source)) ≡ Some (flight_alone right.flight)
            → AreDues (option_to_list begun ++ pair.other.flights.due)
            → (list_any (is_of_source beat.source) pair.other.flights.due || begun_is_of beat.source begun) ≡ true
        by_begun None is dues = or_left (list_any (is_of_source beat.source) pair.other.flights.due) false (by_due (due_to pair.other.flights beat.source) refl is)
        by_begun (Some flight) is dues =
            let same : flight_alone flight ≡ flight_alone right.flight = cc (is) in
            let beats : flight.beats ≡ beat ∷ right.rest = ap (λ (f : InFlight). f.beats) same ∙ right.beats in
            or_right (list_any (is_of_source beat.source) pair.other.flights.due) (is_of_source beat.source flight)
            (eq-eqb flight.source beat.source (sym (subst (AreOf flight.source) beats dues.0.own).0))

    -- one that isn't whole isn't due
    never : (entry : Entry) → IsBegun setup errors board.clients entry → entry.client ≡ client → entry.request.source ≡ beat.source → ⊥
    never entry is own_client own_source =
        let front : pair.other.front ≡ Some is.held =
        sym (ap (λ (c : ClientBoard). c.front) pair.alone) ∙ sym (ap front_of right.there) ∙ sym (ap (front_at board.clients) own_client) ∙ is.front in
        let source : is.held.source ≡ beat.source = ap (λ (r : WholeRequest). r.source) is.fields ∙ own_source in
        both_ways (is_busy AcceptanceOrder pair.other.flights beat.source)
        (subst (λ n. is_busy AcceptanceOrder pair.other.flights n ≡ false) source (front_free setup observed compared client pair.other is.held of pair.there front)) busy

    -- it stays as it was where a reply that is over has ended
    uncut : (over : Bool) (entry : Entry) → entry.came ≡ 0 → ended_early over client entry ≡ entry
    uncut over entry none = by_test (over && begun_to client entry) refl
      where
        by_test : (b : Bool) → (over && begun_to client entry) ≡ b → (if b then record entry { came = reply_beats entry.request } else entry) ≡ entry
        by_test true has = absurd (grind (arith, nat_tests, has, none))
        by_test false other = refl

    with_cut : (over begun : Bool) (entry : Entry) → IsThere setup errors board.clients entry → IsUnreplied entry
        → IsUnreplied (with_beat begun client beat.source (ended_early over client entry))
    with_cut over begun entry is was = by_whole entry.whole refl
      where
        cut : Entry
        cut = ended_early over client entry

        kept : (b : Bool) → IsUnreplied (if b then record entry { came = reply_beats entry.request } else entry)
        kept true = was
        kept false = was

        same_whole : (b : Bool) → (if b then record entry { came = reply_beats entry.request } else entry).whole ≡ entry.whole
        same_whole true = refl
        same_whole false = refl

        counts : (e : Entry) → e.whole ≡ true → IsUnreplied e → (b : Bool) → IsUnreplied (if b then counted e.whole e else e)
        counts e whole was_so true = subst (λ (w : Bool). IsUnreplied (counted w e)) (sym whole) was_so
        counts e whole was_so false = was_so

        by_due : entry.whole ≡ false → (b : Bool) → (is_due begun client beat.source entry && entry.request.source == beat.source) ≡ b
            → IsUnreplied (if b then counted entry.whole entry else entry)
        by_due unwhole true due =
            let parts = and_parts (is_due begun client beat.source entry) (entry.request.source == beat.source) due in
            absurd (never entry (is.begun unwhole) (grind (arith, nat_tests, parts.0)) (eqb-true entry.request.source beat.source parts.1))
        by_due unwhole false other = was

        by_whole : (w : Bool) → entry.whole ≡ w → IsUnreplied (with_beat begun client beat.source (ended_early over client entry))
        by_whole true whole =
            counts (ended_early over client entry) (same_whole (over && begun_to client entry) ∙ whole) (kept (over && begun_to client entry))
            (is_due begun client beat.source (ended_early over client entry) && (ended_early over client entry).request.source == beat.source)
        by_whole false unwhole =
            subst (λ (e : Entry). IsUnreplied (with_beat begun client beat.source e)) (sym (uncut over entry (is.begun unwhole).none_came))
            (by_due unwhole (is_due begun client beat.source entry && entry.request.source == beat.source) refl)

    reply_unreplied : EachIn IsUnreplied (begun_next board (D client beat) now)
    reply_unreplied =
        each_map Both IsUnreplied (with_beat begun client beat.source) (cut_short now client beat.source) (λ entry both. both)
        (each_map Kept Both (ended_early over client) now (λ entry both. with_cut over begun entry both.0 both.1) (λ k small. (fits.each k small, unreplied k small)))
      where
        over : Bool
        over = is_over now client beat.source

        begun : Bool
        begun = list_any (begun_to client) (cut_short now client beat.source)

        Kept : Entry → Type 0
        Kept entry = IsThere setup errors board.clients entry × IsUnreplied entry

        Both : Entry → Type 0
        Both entry = IsUnreplied (with_beat begun client beat.source entry)

    reply_goes : AllGoes now (begun_next board (D client beat) now) observed (with_seen observed (D client beat))
    reply_goes =
        record {
          goes = order_trans now cut (map (with_beat begun client beat.source) cut) (order_map (ended_early over client) now (goes_early over client))
              (order_map (with_beat begun client beat.source) cut (goes_beat begun client beat.source));
          accepts = NoMore
              (none_trans now cut (map (with_beat begun client beat.source) cut) (none_map (ended_early over client) now (λ entry. early_same entry (over && begun_to client entry)))
              (none_map (with_beat begun client beat.source) cut (λ entry. beat_same entry (is_due begun client beat.source entry && entry.request.source == beat.source) entry.whole refl)))
              refl;
          unreplied = reply_unreplied;
        }
      where
        over : Bool
        over = is_over now client beat.source

        cut : Order
        cut = cut_short now client beat.source

        begun : Bool
        begun = list_any (begun_to client) (cut_short now client beat.source)

        early_same : (entry : Entry) (b : Bool) → (if b then record entry { came = reply_beats entry.request } else entry).whole ≡ entry.whole
        early_same entry true = refl
        early_same entry false = refl

        beat_same : (entry : Entry) (b w : Bool) → entry.whole ≡ w → (if b then counted entry.whole entry else entry).whole ≡ entry.whole
        beat_same entry true true is = ap (λ (v : Bool). (counted v entry).whole) is
        beat_same entry true false is = ap (λ (v : Bool). (counted v entry).whole) is
        beat_same entry false w is = refl

  -- ---- the AXI4 port

  failed_goes : (new : Observed) (memory : Memory) (span : Option Span) → requests_in new ≡ requests_in observed → AllGoes now (with_failed memory span now) observed new
  failed_goes new memory None same = record { goes = order_same now; accepts = NoMore (λ k small whole. (small, whole)) same; unreplied = unreplied }
  failed_goes new memory (Some span) same =
      record {
        goes = order_map (struck memory span) now (goes_struck memory span);
        accepts = NoMore (none_map (struck memory span) now (λ entry. by_whole entry (not (has_ended entry) && shares span (acting_footprint memory entry.request)))) same;
        unreplied = each_map IsUnreplied IsUnreplied (struck memory span) now
            (λ entry was. by_replied entry was (not (has_ended entry) && shares span (acting_footprint memory entry.request))) unreplied;
      }
    where
      by_whole : (entry : Entry) (b : Bool) → (if b then record entry { spoiled = true } else entry).whole ≡ entry.whole
      by_whole entry true = refl
      by_whole entry false = refl

      by_replied : (entry : Entry) → IsUnreplied entry → (b : Bool) → IsUnreplied (if b then record entry { spoiled = true } else entry)
      by_replied entry was true = was
      by_replied entry was false = was

  pub any_goes : (seen : ObservedBeat) → wrong_at AcceptanceOrder (board_alone board) seen ≡ None → AllGoes now (begun_next board seen now) observed (with_seen observed seen)
  any_goes (A number beat) none =
      let both = request_goes setup errors board compared observed now on of fits followed fine number beat none in
      record { goes = both.0; accepts = both.1; unreplied = request_unreplied number beat (slice_get board.clients number) }
  any_goes (D client beat) none = reply_goes client beat (right_is_next board client beat none)
  any_goes (OnAxi beat) none = failed_goes (with_seen observed (OnAxi beat)) board.memory (failed_span board.errors board.axi beat) refl
  any_goes Drained none =
      record { goes = order_same now; accepts = NoMore (λ k small whole. (small, whole)) refl; unreplied = unreplied }
