-- The calls of a handle judge exactly. A beat's call leaves the board that judged it, and its answer is 0 just where that found nothing wrong; so after
-- any number of such calls the board is the one that the beats lead to, of which it is known what it finds. It knows no reply and no request.
use Rattle.std.proofs.Common.{◌≡◌, ◌⊎◌, inl, inr, ◌<◌, ◌^◌, ◌/◌, ◌≤◌, ℕ, zero, suc, Bool, true, false, List, [], ◌∷◌, ◌++◌, Option, Some, None, Result, Ok, Err, refl, sym, ap, ◌∙◌, subst, arith, nat_lt, eqb-true}
use Rattle.std.specs.Prelude.{◌↔◌, ⊤, if◌then◌else◌, get_or, length, map}
use Rattle.std.specs.Option.{option_or}
use Rattle.std.proofs.lemmas.Bool.Decides.{nat_tests}
use Rattle.std.specs.Prelude.{slice_get}
use Rattle.std.specs.List.{range_with_len}
use Rattle.tl_messages.specs.declared.ABeat.{ABeat}
use Rattle.tl_messages.specs.declared.DBeat.{DBeat}
use Rattle.tl_checker.specs.declared.Progress.{Progress}
use Rattle.tl_checker.specs.declared.TlRule.{TlRule}
use Rattle.axi_checker.specs.Rules.{axi_fault}
use Rattle.axi_checker.specs.declared.AxiRule.{AxiRule}
use Rattle.bus_words.specs.Tables.{first_broken}
use Rattle.burst_plan.specs.declared.Region.{Region}
use Rattle.call_words.specs.Answers.{fault_answer}
use Rattle.call_words.specs.CallWords.{byte_in, bytes_of, low_in}
use Rattle.call_words.specs.Handles.{BeginDone, Begun, BegunLeft, CalledBy, Done, OwnMade}
use Rattle.call_words.specs.PendingCalls.{CallState, call_begun, is_whole, taken, with_word}
use Rattle.call_words.specs.WordLists.{AreWords, TakesWords, words_in}
use Rattle.call_words.specs.declared.session.HandleCall.{HandleCall}
use Rattle.call_words.specs.declared.handle.Stage.{Stage}
use Rattle.call_words.specs.declared.handle.Stage.TheVariants.{Closed, Running, SettingUp}
use Rattle.scoreboard.specs.AxiPorts.{wrong_axi}
use Rattle.scoreboard.specs.Boards.{Board, ClientBoard, IsReached, a_wrong, after_seen, answer_to, d_wrong, next_to, opening_from, reply_rules, told_to, wrong_at, wrong_by, wrong_in_turn, wrong_reply, wrong_request}
use Rattle.scoreboard.specs.Filling.{filled_beginning, filled_on}
use Rattle.scoreboard.specs.Flights.{InFlight}
use Rattle.scoreboard.specs.InTurn.{DueBeat, as_known, dues_of}
use Rattle.scoreboard.specs.Right.{IsRight}
use Rattle.scoreboard.specs.Unknown.{UnknownBoard, after_seen_unknown, some_begun, unknown_wrong}
use Rattle.scoreboard.specs.declared.Errors.{Errors}
use Rattle.scoreboard.specs.declared.ObservedBeat.{ObservedBeat}
use Rattle.scoreboard.specs.declared.ObservedBeat.TheVariants.{A, D, Axi as OnAxi, Drained}
use Rattle.scoreboard.specs.declared.Policy.{Policy}
use Rattle.scoreboard.specs.declared.Policy.TheVariants.{AcceptanceOrder}
use Rattle.scoreboard.specs.declared.ReplyRule.{ReplyRule}
use Rattle.scoreboard.specs.declared.Wrong.{Wrong}
use Rattle.scoreboard.specs.declared.Wrong.TheVariants.{NoClient, UnknownAxi, UnknownRequest}
use Rattle.scoreboard.proofs.acceptance_order.Reached.{right_exactly}
use Rattle.scoreboard.proofs.held.AllKnown.{FitsBeat, known-after, known-wrong}
use Rattle.score_script.specs.Observations.{CallTold, Observing, ObservationState, SetUpState, after_call, finding_code, first_code, observing_code, observing_of, next_number, stage_in, wrong_code}
use Rattle.score_script.specs.ScoreStates.{score_of}
use Rattle.score_script.specs.Profiles.{errors_of, policy_of, wrong_in}
use Rattle.score_script.specs.Scores.{Finds, Score, called_score, finds_at_once, found, judged_behind, line_at, misplaced_in, opening_score, score_after, score_kind, settling, settling_held, verdict_on, without_data, wrong_command}
use Rattle.score_script.specs.declared.findings.Finding.{Finding}
use Rattle.score_script.specs.declared.findings.Line.{Line}
use Rattle.score_script.specs.declared.lines.SeenBeat.{SeenBeat}
use Rattle.score_script.specs.declared.profiles.Asked.{Asked}
use Rattle.score_script.specs.declared.score.Command.{Command}
use Rattle.score_script.specs.declared.score.Command.TheVariants as command
use Rattle.score_setup.specs.ScoreSetups.{RangeLists, one_by_one, score_setup_fault}
use Rattle.setups.specs.declared.SetupFault.{SetupFault}
use Rattle.script_text.specs.Stages.{GivesWorld, SettingUp as SaidSetUp, Stage as Stages, set_up_as, unless_refused, world_at}
use Rattle.script_text.specs.declared.faults.ScriptFault.{ScriptFault}
use Rattle.script_text.specs.declared.faults.ScriptFault.TheVariants.{Script}
use Rattle.score_calls.specs.Answers.{answer_of}
use Rattle.score_calls.specs.CallCommands.{command_by, command_in}
use Rattle.score_calls.specs.CallWords.{call_by, call_of, kind_of, wanted_by, words_wanted}
use Rattle.score_calls.specs.HandleRuns.{AllWentWell, Begins, HasHeard, Heard, Hears, IsExact, TakesBeat, WentWell, heard_nothing, heard_after, heard_at, heard_by, heard_with, is_plain, is_asking}
use Rattle.score_calls.specs.Handles.{Called, Commanded, DoneBy, OtherDone, ScoreHandle, score_session}
use Rattle.score_calls.specs.declared.words.CallKind.{CallKind}
use Rattle.score_calls.specs.declared.words.CallKind.TheVariants as kind

-- ---- answers

-- what is wrong has a number above 0
wrong_above : (wrong : Wrong) → 0 < wrong_code wrong
wrong_above NoClient = omega arith
wrong_above wrong = omega arith

-- and a fault one of 33 bits and more
fault_above : (fault : ScriptFault) → 4294967296 ≤ fault_answer fault
fault_above (Script line word) = omega arith
fault_above fault = omega arith

-- the number of what was found of a beat, by the verdict
abbrev code_of_verdict : Line → ObservedBeat → Option Wrong → ℕ
code_of_verdict line beat verdict = first_code 0 (first_code (finding_code (found line beat verdict)) 0)

code_none : (line : Line) (beat : ObservedBeat) (verdict : Option Wrong) → verdict ≡ None → code_of_verdict line beat verdict ≡ 0
code_none line beat verdict none = rw none refl

none_wrong : (line : Line) (beat : ObservedBeat) (verdict : Option Wrong) → code_of_verdict line beat verdict ≡ 0 → verdict ≡ None
none_wrong line beat None zero_is = refl
none_wrong line beat (Some wrong) zero_is = absurd (above_zero (wrong_code wrong) (wrong_above wrong) zero_is)
  where
    above_zero : (code : ℕ) → 0 < code → first_code 0 (first_code code 0) ≡ 0 → ⊥
    above_zero code above is = grind (arith, nat_tests, above, is)

-- ---- what the board says of a beat of which all is known

abbrev IsOfBoard : Option Wrong → Type 0
IsOfBoard (Some UnknownRequest) = ⊥
IsOfBoard (Some UnknownAxi) = ⊥
IsOfBoard verdict = ⊤

of_answer : (answer : Result Progress TlRule) → IsOfBoard (wrong_request answer)
of_answer (Ok progress) = tt
of_answer (Err rule) = tt

of_rule : (due : DBeat) (rule : Option ReplyRule) → IsOfBoard (wrong_by due rule)
of_rule due None = tt
of_rule due (Some rule) = tt

of_due : (dues : List DueBeat) (beat : DBeat) → IsOfBoard (wrong_in_turn dues beat)
of_due [] beat = tt
of_due (due ∷ dues) beat = of_rule due.beat (first_broken (reply_rules due.beat (as_known due beat)))

of_next : (told : Option Bool) (flight : Option InFlight) (beat : DBeat) → IsOfBoard (wrong_reply AcceptanceOrder told flight beat)
of_next told None beat = tt
of_next told (Some flight) beat = of_due (dues_of flight.footprint flight.beats) beat

of_axi : (rule : Option AxiRule) → IsOfBoard (wrong_axi rule)
of_axi None = tt
of_axi (Some rule) = tt

of_client : (client : Option ClientBoard) (beat : ABeat) → IsOfBoard (a_wrong AcceptanceOrder client beat)
of_client None beat = tt
of_client (Some client) beat = of_answer (answer_to AcceptanceOrder client beat)

of_reply : (client : Option ClientBoard) (beat : DBeat) → IsOfBoard (d_wrong AcceptanceOrder client beat)
of_reply None beat = tt
of_reply (Some client) beat = of_next (told_to client) (next_to AcceptanceOrder client beat.source) beat

of_board : (board : Board) (seen : ObservedBeat) → IsOfBoard (wrong_at AcceptanceOrder board seen)
of_board board (A client beat) = of_client (slice_get board.clients client) beat
of_board board (D client beat) = of_reply (slice_get board.clients client) beat
of_board board (OnAxi beat) = of_axi (axi_fault board.axi.limits board.axi.open_bursts beat)
of_board board Drained = tt

reached-next : (start board : Board) (beats : List ObservedBeat) (seen : ObservedBeat) → IsReached AcceptanceOrder start beats board → wrong_at AcceptanceOrder board seen ≡ None
    → IsReached AcceptanceOrder start (beats ++ seen ∷ []) (after_seen AcceptanceOrder board seen)
reached-next start board [] seen is none =
    subst (λ (b : Board). (wrong_at AcceptanceOrder b seen ≡ None) × (after_seen AcceptanceOrder board seen ≡ after_seen AcceptanceOrder b seen)) is (none, refl)
reached-next start board (first ∷ beats) seen (right, more) none = (right, reached-next (after_seen AcceptanceOrder start first) board beats seen more none)

-- a filling may stand only before all that was observed
fill_begins : (score : Score) (address : ℕ) (bytes : List ℕ) → wrong_command score (command.Fill address bytes) ≡ None → score.begins ≡ true
fill_begins score address bytes may = grind (arith, may)

option_or-None : {X : Type 0} (o : Option X) → option_or o None ≡ o
option_or-None None = refl
option_or-None (Some x) = refl

-- ---- a beat that is judged

-- what the board says of one of which all is known
known_verdict : (x_data : Bool) (verdict : Option Wrong) → IsOfBoard verdict → without_data x_data verdict ≡ verdict
known_verdict false verdict of = refl
known_verdict true (Some UnknownRequest) of = absurd of
known_verdict true (Some UnknownAxi) of = absurd of
known_verdict true verdict of = refl

module _ (errors : Errors) (heard : Heard) (score : Score) (has : HasHeard errors heard score) where
  settles : settling score ≡ (None, score)
  settles = ap (settling_held score) has.held

  -- a beat of which all is known
  module _ (seen : SeenBeat) (fits : FitsBeat seen.beat) (known : seen.unknown ≡ 0) where
    -- what is found wrong with it
    verdict_is : verdict_on score seen ≡ wrong_at AcceptanceOrder score.board.board seen.beat
    verdict_is =
        let by_board : wrong_in score.board seen ≡ wrong_at AcceptanceOrder score.board.board seen.beat =
        ap (λ (lanes : ℕ). unknown_wrong score.board.policy score.board.board seen.beat lanes) known
        ∙ known-wrong score.board.policy score.board.board seen.beat fits
        ∙ ap (λ (policy : Policy). wrong_at policy score.board.board seen.beat) has.policy in
        ap (λ (places : Option (List Region)). option_or (without_data score.x_data (wrong_in score.board seen)) (misplaced_in places seen.beat)) has.places
        ∙ option_or-None (without_data score.x_data (wrong_in score.board seen))
        ∙ ap (without_data score.x_data) by_board
        ∙ known_verdict score.x_data (wrong_at AcceptanceOrder score.board.board seen.beat) (of_board score.board.board seen.beat)

    finds_it : (number : ℕ) → finds_at_once score number (command.Observed seen) ≡ judged_behind (None, score) (line_at score number) seen
    finds_it number = ap (λ (settled : Option Finding × Score). judged_behind settled (line_at score number) seen) settles

    -- the score after it
    abbrev next_score : Score
    next_score = record (score_after score seen (verdict_on score seen)) { begins = false }

    called_is : (number : ℕ) → called_score score number (command.Observed seen) ≡ next_score
    called_is number = ap (λ (given : Finds). record given.after { begins = false }) (finds_it number)

    -- and the board there
    board_is : (next_score.board.board ≡ after_seen AcceptanceOrder score.board.board seen.beat) × (some_begun next_score.board.unknown ≡ false)
    board_is =
        let old : UnknownBoard = record { board = score.board.board; lanes = score.board.unknown } in
        let after = known-after score.board.policy old has.known seen.beat fits in
        let same : after_seen_unknown score.board.policy old seen.beat seen.unknown ≡ after_seen_unknown score.board.policy old seen.beat 0 =
        ap (λ (lanes : ℕ). after_seen_unknown score.board.policy old seen.beat lanes) known in (
          ap (λ (unknown : UnknownBoard). unknown.board) same ∙ after.0 ∙ ap (λ (policy : Policy). after_seen policy score.board.board seen.beat) has.policy,
          ap (λ (unknown : UnknownBoard). some_begun unknown.lanes) same ∙ after.1,
        )

    hears_beat : verdict_on score seen ≡ None → HasHeard errors (record heard { seen = heard.seen ++ seen.beat ∷ [] }) next_score
    hears_beat none =
        record {
          policy = has.policy;
          reached =
              subst (λ (board : Board). IsReached AcceptanceOrder (opening_from errors heard.beginning) (heard.seen ++ seen.beat ∷ []) board) (sym board_is.0)
              (reached-next (opening_from errors heard.beginning) score.board.board heard.seen seen.beat has.reached (sym verdict_is ∙ none));
          known = board_is.1;
          places = has.places;
          held = has.held;
          begins = λ never. absurd (cc (never));
        }

  -- bytes with which the memory began
  hears_filling : (number address : ℕ) (bytes : List ℕ) → wrong_command score (command.Fill address bytes) ≡ None
      → HasHeard errors (record heard { beginning = filled_beginning heard.beginning address bytes }) (called_score score number (command.Fill address bytes))
  hears_filling number address bytes may =
      let none : heard.seen ≡ [] = has.begins (fill_begins score address bytes may) in
      let at_first : score.board.board ≡ opening_from errors heard.beginning =
      subst (λ (beats : List ObservedBeat). IsReached AcceptanceOrder (opening_from errors heard.beginning) beats score.board.board) none has.reached in
      record {
        policy = has.policy;
        reached =
            subst
            (λ (beats : List ObservedBeat). IsReached AcceptanceOrder (opening_from errors (filled_beginning heard.beginning address bytes)) beats (filled_on score.board.board address bytes))
            (sym none) (ap (λ (board : Board). filled_on board address bytes) at_first);
        known = has.known;
        places = has.places;
        held = has.held;
        begins = has.begins;
      }

  -- a time
  hears_time : (number time : ℕ) → HasHeard errors heard (called_score score number (command.Time time))
  hears_time number time =
      subst (HasHeard errors heard)
      (sym (ap (λ (settled : Option Finding × Score). record (record settled.1 { time = Some time }) { begins = false }) settles))
      (record { policy = has.policy; reached = has.reached; known = has.known; places = has.places; held = has.held; begins = λ never. absurd (cc (never)) })

-- ---- a call that says a command

-- the payload of a reply's beat is a word
abbrev FitsSaid : Command → Type 0
FitsSaid (command.Observed seen) = FitsBeat seen.beat
FitsSaid said = ⊤

module _ (errors : Errors) (heard : Heard) (old : ObservationState) (has : HasHeard errors heard (score_of old.score)) where
  abbrev score : Score
  score = score_of old.score

  abbrev number : ℕ
  number = next_number old.number

  -- the answer to a beat, by the verdict
  code_is : (seen : SeenBeat) → FitsBeat seen.beat → seen.unknown ≡ 0
      → observing_code (after_call (observing_of old) (command.Observed seen)) ≡ code_of_verdict (line_at score number) seen.beat (verdict_on score seen)
  code_is seen fits known = ap (λ (given : Finds). first_code (finding_code given.held) (first_code (finding_code given.own) 0)) (finds_it errors heard score has seen fits known number)

  hears_done : (said : Command) (code : ℕ) (after : ObservationState) → FitsSaid said → is_plain said ≡ true → code ≡ 0 → CallTold (observing_of old) said (observing_of after) (Ok code)
      → HasHeard errors (heard_with heard said) (score_of after.score)
  hears_done said code after fits plain zero_is (may, is, code_said) =
      subst (HasHeard errors (heard_with heard said)) (sym (ap (λ (seen : Observing). seen.score) is)) (by_command said fits plain may (sym (code_said ∙ ap observing_code is) ∙ zero_is))
    where
      by_command : (given : Command) → FitsSaid given → is_plain given ≡ true → wrong_command score given ≡ None → observing_code (after_call (observing_of old) given) ≡ 0
          → HasHeard errors (heard_with heard given) (called_score score number given)
      by_command (command.Observed seen) fits plain may none =
          let known = eqb-true seen.unknown 0 plain in
          subst (HasHeard errors (heard_with heard (command.Observed seen))) (sym (called_is errors heard score has seen fits known number))
          (hears_beat errors heard score has seen fits known (none_wrong (line_at score number) seen.beat (verdict_on score seen) (sym (code_is seen fits known) ∙ none)))
      by_command (command.Fill address bytes) fits plain may none = hears_filling errors heard score has number address bytes may
      by_command (command.Time time) fits plain may none = hears_time errors heard score has number time
      by_command given fits plain may none = absurd (cc (plain))

  hears_said : (said : Command) (after : ObservationState) (answer : ℕ) → FitsSaid said → is_plain said ≡ true → answer ≡ 0 → Commanded old said after answer
      → HasHeard errors (heard_with heard said) (score_of after.score)
  hears_said said after answer fits plain zero_is did = by_told did.told did.done did.answer_is
    where
      by_told : (told : Result ℕ ScriptFault) → CallTold (observing_of old) said (observing_of after) told → answer ≡ answer_of told
          → HasHeard errors (heard_with heard said) (score_of after.score)
      by_told (Ok code) done is = hears_done said code after fits plain (sym is ∙ zero_is) done
      by_told (Err fault) done is = absurd (omega (arith, zero_is, is, fault_above fault))

  -- the answer to a beat is exact
  exact_said : (seen : SeenBeat) (after : ObservationState) (answer : ℕ) → FitsBeat seen.beat → seen.unknown ≡ 0 → Commanded old (command.Observed seen) after answer
      → IsExact heard seen.beat answer
  exact_said seen after answer fits known did below = by_told did.told did.done did.answer_is
    where
      exact : (wrong_at AcceptanceOrder score.board.board seen.beat ≡ None) ↔ IsRight heard.beginning (heard.seen ++ seen.beat ∷ [])
      exact = right_exactly errors heard.beginning heard.seen score.board.board seen.beat has.reached

      by_told : (told : Result ℕ ScriptFault) → CallTold (observing_of old) (command.Observed seen) (observing_of after) told → answer ≡ answer_of told
          → (answer ≡ 0) ↔ IsRight heard.beginning (heard.seen ++ seen.beat ∷ [])
      by_told (Err fault) done is = absurd (omega (arith, below, is, fault_above fault))
      by_told (Ok code) (may, after_is, code_said) is =
          let same : answer ≡ code_of_verdict (line_at score number) seen.beat (verdict_on score seen) = is ∙ code_said ∙ ap observing_code after_is ∙ code_is seen fits known in
          let verdict = verdict_is errors heard score has seen fits known in (
            (λ zero_is. exact.0 (sym verdict ∙ none_wrong (line_at score number) seen.beat (verdict_on score seen) (sym same ∙ zero_is))),
            (λ right. same ∙ code_none (line_at score number) seen.beat (verdict_on score seen) (verdict ∙ exact.1 right)),
          )

-- ---- a call

-- a word of a list of words is one
word_at_fits : (words : List ℕ) (k : ℕ) → AreWords words → get_or words k 0 < 2 ^ 64
word_at_fits [] k fit = omega arith
word_at_fits (word ∷ words) zero fit = fit.0
word_at_fits (word ∷ words) (suc k) fit = word_at_fits words k fit.1

abbrev FitsIfSaid : Option Command → Type 0
FitsIfSaid None = ⊤
FitsIfSaid (Some said) = FitsSaid said

fits_filling : (none : Bool) (address : ℕ) (bytes : List ℕ) → FitsIfSaid (if none then None else Some (command.Fill address bytes))
fits_filling true address bytes = tt
fits_filling false address bytes = tt

fits_by : (called : CallKind) (head : ℕ) (words : List ℕ) → AreWords words → FitsIfSaid (command_by called head words)
fits_by kind.D head words fit = word_at_fits words 0 fit
fits_by kind.Fill head words fit = fits_filling _ (low_in (head / 4294967296)) (bytes_of words (byte_in (head / 256)))
fits_by called head words fit = tt

-- the words of a call that has begun
taken_fit : (call : CallState) (word wants : ℕ) → AreWords call.words → word < 2 ^ 64 → AreWords (taken call word wants).words
taken_fit call word wants fit fits = by_whole (is_whole call)
  where
    append_fit : (words : List ℕ) → AreWords words → AreWords (words ++ word ∷ [])
    append_fit [] fit = (fits, tt)
    append_fit (first ∷ words) fit = (fit.0, append_fit words fit.1)

    kept_fit : (has_room : Bool) → AreWords (if has_room then call.words ++ word ∷ [] else call.words)
    kept_fit true = append_fit call.words fit
    kept_fit false = fit

    by_whole : (whole : Bool) → AreWords (let next : CallState = if whole then call_begun word wants else with_word call word in next.words)
    by_whole true = tt
    by_whole false = kept_fit (nat_lt (length call.words) 16)

-- an asking changes nothing
hears_asking : (errors : Errors) (heard : Heard) (old after : ObservationState) (called : CallKind) (head answer : ℕ) (words : List ℕ)
    → HasHeard errors heard (score_of old.score) → is_asking called ≡ true → OtherDone called head words old after answer → HasHeard errors heard (score_of after.score)
hears_asking errors heard old after kind.Line head answer words has asks did = absurd (cc (asks))
hears_asking errors heard old after called head answer words has asks did = subst (λ (seen : ObservationState). HasHeard errors heard (score_of seen.score)) (sym did.0) has

hears_own : (errors : Errors) (heard : Heard) (old after : ObservationState) (said : Option Command) (head answer : ℕ) (words : List ℕ) → HasHeard errors heard (score_of old.score)
    → FitsIfSaid said → WentWell said (kind_of head) answer → DoneBy said head words old after answer → HasHeard errors (heard_by heard said) (score_of after.score)
hears_own errors heard old after None head answer words has fits well did = hears_asking errors heard old after (kind_of head) head answer words has well did
hears_own errors heard old after (Some said) head answer words has fits well did = hears_said errors heard old has said after answer fits well.0 well.1 did

-- a call behind the set-up is the observation's own; or it says no command, and leaves the observation as it is or closes all
module _ (old : ObservationState) (new : Stage SetUpState ObservationState) (call : CallState) (text next : List ℕ) (answer : ℕ) where
  abbrev IsOwnOrQuiet : Type 0
  IsOwnOrQuiet =
      OwnMade score_session call old new answer
      ⊎ ((command_in call.head call.words ≡ None) × ((new ≡ Running old) ⊎ (kind_of call.head ≡ kind.Close)))

  own_or_quiet : Done score_session (call_of call.head) call (Running old) text new next answer → IsOwnOrQuiet
  own_or_quiet did = by_kind (kind_of call.head) refl did
    where
      none : (called : CallKind) → kind_of call.head ≡ called → command_by called call.head call.words ≡ None → command_in call.head call.words ≡ None
      none called is nothing = ap (λ (c : CallKind). command_by c call.head call.words) is ∙ nothing

      by_kind : (called : CallKind) → kind_of call.head ≡ called → Done score_session (call_by called) call (Running old) text new next answer → IsOwnOrQuiet
      by_kind kind.Begin is did = inr (none kind.Begin is refl, inl did.0.0)
      by_kind kind.TextLength is did = inr (none kind.TextLength is refl, inl did.0)
      by_kind kind.FaultLength is did = inr (none kind.FaultLength is refl, inl did.0)
      by_kind kind.TextByte is did = inr (none kind.TextByte is refl, inl did.0)
      by_kind kind.Close is did = inr (none kind.Close is refl, inr is)
      by_kind called is did = inl did.0

hears_call : (errors : Errors) (heard : Heard) (stage new : Stage SetUpState ObservationState) (call : CallState) (text next : List ℕ) (answer : ℕ) → Hears errors heard stage
    → FitsIfSaid (command_in call.head call.words) → WentWell (command_in call.head call.words) (kind_of call.head) answer
    → Done score_session (call_of call.head) call stage text new next answer → Hears errors (heard_by heard (command_in call.head call.words)) new
hears_call errors heard (SettingUp set_up) new call text next answer has fits well did = absurd has
hears_call errors heard Closed new call text next answer has fits well did = absurd has
hears_call errors heard (Running old) new call text next answer has fits well did = by_own (own_or_quiet old new call text next answer did)
  where
    by_own : IsOwnOrQuiet old new call text next answer → Hears errors (heard_by heard (command_in call.head call.words)) new
    by_own (inl made) =
        subst (Hears errors (heard_by heard (command_in call.head call.words))) (sym made.stage_is)
        (hears_own errors heard old made.after (command_in call.head call.words) call.head answer call.words has fits well made.done)
    by_own (inr (none, inl same)) =
        subst (λ (said : Option Command). Hears errors (heard_by heard said) new) (sym none) (subst (Hears errors heard) (sym same) has)
    by_own (inr (none, inr closes)) =
        let asks : is_asking (kind_of call.head) ≡ true = subst (λ (said : Option Command). WentWell said (kind_of call.head) answer) none well in
        let never : is_asking kind.Close ≡ true = subst (λ (called : CallKind). is_asking called ≡ true) closes asks in absurd (cc (never))

-- ---- a word

hears_word : (errors : Errors) (heard : Heard) (old new : ScoreHandle) (word answer : ℕ) → Hears errors heard old.stage → AreWords new.call.words → Called old word new answer
    → (is_whole new.call ≡ true → WentWell (command_in new.call.head new.call.words) (kind_of new.call.head) answer) → Hears errors (heard_at heard new.call) new.stage
hears_word errors heard old new word answer hears fit did well = by_whole (is_whole new.call) refl did.told
  where
    by_whole : (whole : Bool) → is_whole new.call ≡ whole → CalledBy score_session whole old new answer
        → Hears errors (if whole then heard_by heard (command_in new.call.head new.call.words) else heard) new.stage
    by_whole true is done =
        hears_call errors heard old.stage new.stage new.call old.text new.text answer hears (fits_by (kind_of new.call.head) new.call.head new.call.words fit) (well is) done
    by_whole false is done = subst (Hears errors heard) (sym done.0) hears

hears_words : (calls : List (ℕ × ℕ)) (errors : Errors) (heard : Heard) (handle new : ScoreHandle) → Hears errors heard handle.stage → AreWords handle.call.words → AreWords (words_in calls)
    → TakesWords Called handle calls new → AllWentWell handle.call calls → Hears errors (heard_after heard handle.call (words_in calls)) new.stage × AreWords new.call.words
hears_words [] errors heard handle new hears fit all takes well =
    (subst (λ (h : ScoreHandle). Hears errors heard h.stage) (sym takes) hears, subst (λ (h : ScoreHandle). AreWords h.call.words) (sym takes) fit)
hears_words (call ∷ calls) errors heard handle new hears fit all takes well =
    let next = takes.next in
    let now = taken handle.call call.0 (words_wanted call.0) in
    let is : next.call ≡ now = takes.called.call in
    let fits : AreWords now.words = taken_fit handle.call call.0 (words_wanted call.0) fit all.0 in
    let fits_next : AreWords next.call.words = subst (λ (c : CallState). AreWords c.words) (sym is) fits in
    let went = subst (λ (c : CallState). is_whole c ≡ true → WentWell (command_in c.head c.words) (kind_of c.head) call.1) (sym is) well.0 in
    let heard_next = hears_word errors heard handle next call.0 call.1 hears fits_next takes.called went in
    let later = hears_words calls errors (heard_at heard next.call) next new heard_next fits_next all.1 takes.behind
    (subst (λ (c : CallState). AllWentWell c calls) (sym is) well.1) in
    (subst (λ (c : CallState). Hears errors (heard_after (heard_at heard c) c (words_in calls)) new.stage) is later.0, later.1)

-- a beat's last word
exact_word : (errors : Errors) (heard : Heard) (stage : Stage SetUpState ObservationState) (old new : ScoreHandle) (word answer : ℕ) (beat : ObservedBeat) → old.stage ≡ stage
    → Hears errors heard stage → AreWords new.call.words → Called old word new answer → is_whole new.call ≡ true
    → command_in new.call.head new.call.words ≡ Some (command.Observed (record { beat = beat; unknown = 0 })) → IsExact heard beat answer
exact_word errors heard Closed old new word answer beat there hears fit did whole said = absurd hears
exact_word errors heard (SettingUp set_up) old new word answer beat there hears fit did whole said = absurd hears
exact_word errors heard (Running seen) old new word answer beat there hears fit did whole said =
    let done : Done score_session (call_of new.call.head) new.call old.stage old.text new.stage new.text answer = subst (λ (b : Bool). CalledBy score_session b old new answer) whole did.told in
    by_own (own_or_quiet seen new.stage new.call old.text new.text answer
    (subst (λ (s : Stage SetUpState ObservationState). Done score_session (call_of new.call.head) new.call s old.text new.stage new.text answer) there done))
  where
    by_own : IsOwnOrQuiet seen new.stage new.call old.text new.text answer → IsExact heard beat answer
    by_own (inl made) =
        let as_said = subst (λ (c : Option Command). DoneBy c new.call.head new.call.words seen made.after answer) said made.done in
        let fits = subst FitsIfSaid said (fits_by (kind_of new.call.head) new.call.head new.call.words fit) in
        exact_said errors heard seen hears (record { beat = beat; unknown = 0 }) made.after answer fits refl as_said
    by_own (inr (none, other)) = let both : None ≡ Some (command.Observed (record { beat = beat; unknown = 0 })) = sym none ∙ said in absurd (cc (both))

-- ---- the beginning

none_begun : (clients : List ℕ) → some_begun (map (λ k. []) clients) ≡ false
none_begun [] = refl
none_begun (client ∷ clients) = none_begun clients

-- the score of a set-up
hears_opening : (setup : RangeLists) (asked : Asked) → policy_of asked.policy ≡ AcceptanceOrder → asked.strict ≡ false
    → HasHeard (errors_of asked.errors) (heard_nothing setup) (opening_score asked setup)
hears_opening setup asked policy strict =
    record {
      policy = policy;
      reached = refl;
      known = none_begun (range_with_len 0 setup.config.clients);
      places = ap (λ (b : Bool). if b then Some setup.regions else None) strict;
      held = refl;
      begins = λ begins. refl;
    }

opened_score : (opening : Score) (fault : Option SetupFault) (score : Score) → set_up_as (unless_refused opening fault) ≡ Ok score → opening ≡ score
opened_score opening None score is = ap (score_or opening) is
  where
    score_or : Score → Result Score ScriptFault → Score
    score_or other (Ok given) = given
    score_or other (Err fault) = other
opened_score opening (Some fault) score is = absurd (cc (is))

hears_begun : (setup : RangeLists) (asked : Asked) (set_up : SetUpState) (new : Stage SetUpState ObservationState) (number : ℕ) (given : Result ObservationState ScriptFault) → stage_in set_up ≡ SaidSetUp setup asked
    → policy_of asked.policy ≡ AcceptanceOrder → asked.strict ≡ false
    → GivesWorld (λ (seen : ObservationState). score_of seen.score) (world_at score_kind (stage_in set_up) number) given → BegunLeft given new 0
    → Hears (errors_of asked.errors) (heard_nothing setup) new
hears_begun setup asked set_up new number (Err fault) said policy strict made left = absurd (omega (arith, left.1, fault_above fault))
hears_begun setup asked set_up new number (Ok seen) said policy strict made left =
    subst (Hears (errors_of asked.errors) (heard_nothing setup)) (sym left.0)
    (subst (HasHeard (errors_of asked.errors) (heard_nothing setup))
    (opened_score (opening_score asked setup) (score_setup_fault (one_by_one setup)) (score_of seen.score)
    (ap (λ (stage : Stages RangeLists Asked Score). world_at score_kind stage number) (sym said) ∙ made))
    (hears_opening setup asked policy strict))

begun_hears : (setup : RangeLists) (asked : Asked) (begun : ScoreHandle) → Begins setup asked begun → Hears (errors_of asked.errors) (heard_nothing setup) begun.stage × AreWords begun.call.words
begun_hears setup asked begun begins = (hears_begun setup asked begins.set_up begun.stage _ did.given begins.said begins.policy begins.strict did.made did.left, subst (λ (c : CallState). AreWords c.words) (sym call_is) tt)
  where
    -- its word is a whole call
    call_is : begun.call ≡ call_begun begins.word 0
    call_is =
        begins.called.call
        ∙ ap (λ (whole : Bool). if whole then call_begun begins.word (words_wanted begins.word) else with_word begins.before.call begins.word) begins.no_pending
        ∙ ap (λ (called : CallKind). call_begun begins.word (wanted_by called begins.word)) begins.begin

    did : Begun score_session begins.set_up begun.stage 0
    did =
        let done : CalledBy score_session true begins.before begun 0 = subst (λ (c : CallState). CalledBy score_session (is_whole c) begins.before begun 0) call_is begins.called.told in
        let by_call = subst (λ (c : CallState). Done score_session (call_of c.head) c begins.before.stage begins.before.text begun.stage begun.text 0) call_is done in
        let by_kind = subst (λ (called : HandleCall). Done score_session called (call_begun begins.word 0) begins.before.stage begins.before.text begun.stage begun.text 0) (ap call_by begins.begin) by_call in
        subst (λ (s : Stage SetUpState ObservationState). BeginDone score_session s begun.stage 0) begins.stage by_kind.0

-- whatever calls a handle took since its set-up was begun that went well: the next answer to a beat is 0 exactly where what was observed with that beat
-- is right
pub judges_exactly : (setup : RangeLists) (asked : Asked) (begun : ScoreHandle) (calls : List (ℕ × ℕ)) (beat : ObservedBeat) (answer : ℕ) → Begins setup asked begun → TakesBeat begun calls beat answer
    → IsExact (heard_after (heard_nothing setup) begun.call (words_in calls)) beat answer
judges_exactly setup asked begun calls beat answer begins takes =
    let at_first = begun_hears setup asked begun begins in
    let later = hears_words calls (errors_of asked.errors) (heard_nothing setup) begun takes.old at_first.0 at_first.1 takes.words takes.taken takes.went_well in
    let fit = subst (λ (c : CallState). AreWords c.words) (sym takes.called.call) (taken_fit takes.old.call takes.word (words_wanted takes.word) later.1 takes.word_fits) in
    exact_word (errors_of asked.errors) (heard_after (heard_nothing setup) begun.call (words_in calls)) takes.old.stage takes.old takes.new takes.word answer beat refl later.0 fit takes.called takes.whole takes.said
