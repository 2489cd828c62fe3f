-- How a call ends that reads a script.
use Rattle.std.proofs.Common.{◌≡◌, ◌≢◌, ◌<◌, ◌≤◌, ◌⊎◌, inl, inr, ℕ, ◌+◌, ◌*◌, List, [], ◌∷◌, ◌++◌, length, length-append, Bool, true, false, ◌||◌, Option, None, Some, Result, Ok, Err, IsOk, refl, sym, ap, subst, ◌∙◌, append_assoc, append-nil, arith}
use Rattle.std.proofs.KnownBytes.{Appends-nil, Appends-trans, Appends-kept, Consumes-trans, Keeps-trans}
use Rattle.std.proofs.lemmas.Bool.{and_from, and_parts}
use Rattle.std.specs.Prelude.{◌&&◌}
use Rattle.std.specs.Io.KnownBytes.{Appends, Consumes, Keeps, IsAtEnd, prepend_known}
use Rattle.std.specs.Str.Lines.{strip_carriage_return}
use Rattle.line_text.proofs.Parts.{Lacks, Lacks-push}
use Rattle.script_text.proofs.Progress.{LastText, Progress, failed_within, grown_after, line_step-not_plain, line_step-late, lines_result-went, lines_result-fault}
use Rattle.script_text.proofs.ScriptLines.{ended_lines_of-line, lines_of-line, lines_of-last, begins, begins-not_plain, lines_of-some}
use Rattle.line_text.proofs.TraceTexts.{some_after, some_before}
use Rattle.script_text.specs.Reads.{BlockState, IsSmall, Stops, Takes, TakesByte, left}
use Rattle.script_text.specs.Scripts.{EndsAfter, Reading, TextResult, asks_at_end, asks_last, end_wants, last_wants, line_wants, rest_wants, where_it_stands, AreCarriedOut, EndsAs, HasText, IsAllJudged, IsFront, IsSettled, LineStep, StopsForMemory, Tells, after_text, ended, line_step, lines_result, text_failing_from, text_from, text_of, text_before_failure}
use Rattle.script_text.specs.Stops.{EndsHolding, HoldsFaultLine, StopsAt, StopsWithin, held_of}
use Rattle.script_text.proofs.Stopping.{StopsAt-behind, StopsAt-line, StopsWithin-end, long-held}
use Rattle.script_text.specs.Steps.{GivesText, Goes, Speaks, Stands, TakesStep, TakesRest}
use Rattle.line_text.specs.Words.{is_plain_line, lines_of}
use Rattle.script_text.specs.declared.faults.ScriptFault.{ScriptFault}
use Rattle.script_text.specs.declared.faults.ScriptFault.TheVariants.{Script, Setup, Read, Write, NoMemory}

Keeps-none : (a b : Option (List ℕ)) → Appends a b [] → Keeps a b
Keeps-none None b same = tt
Keeps-none (Some xs) None same = absurd same
Keeps-none (Some xs) (Some ys) same = same ∙ append-nil xs

Appends-none : (a b : Option (List ℕ)) → Keeps a b → Appends a b []
Appends-none a b kept = Appends-kept a a b [] (Appends-nil a) kept

-- ---- what stands after a text

ok_after : {A : Type 0} (whole rest : TextResult A) (text : List ℕ) → whole ≡ after_text text rest → IsOk rest.result → IsOk whole.result
ok_after whole rest text told ok = rw told ok

text_after : {A : Type 0} (whole rest : TextResult A) (text : List ℕ) → whole ≡ after_text text rest → HasText rest → HasText whole
text_after whole rest text told some = rw told (some_after text rest.output some)

-- a script that ends after a line with text, and one that ends after a line that gives some
speaks_well : {S A : Type 0} (reading : Reading S A) (step : LineStep S) (line : Speaks reading step) (number : ℕ) (whole : TextResult A) → whole ≡ after_text line.0.text (reading.ending line.0.next number)
    → IsOk whole.result × HasText whole
speaks_well reading step (line, some) number whole told = rw told (line.may_end number, some_before line.text (reading.ending line.next number).output some)

stands_well : {S A : Type 0} (reading : Reading S A) (step : LineStep S) (line : Stands reading step) (number : ℕ) (whole : TextResult A) → whole ≡ after_text line.text (reading.ending line.next number)
    → IsOk whole.result
stands_well reading step line number whole told = rw told (line.may_end number)

gives_well : {S A : Type 0} (reading : Reading S A) (step : LineStep S) (line : GivesText reading step) (number : ℕ) (whole : TextResult A) → whole ≡ after_text line.0.text (reading.ending line.0.next number)
    → IsOk whole.result × HasText whole
gives_well reading step (line, some) number whole told = rw told (line.may_end number, some number)

-- ---- the last line

-- what a line gave stands before how the script ended
told_with_line : {S A : Type 0} (reading : Reading S A) (state next : S) (number : ℕ) (line text : List ℕ) → Lacks 10 line → 0 < length line
    → line_step reading state number (strip_carriage_return line) ≡ Ok (text, next) → text_from reading state number line ≡ after_text text (reading.ending next (number + 1))
told_with_line reading state next number line text lacks some went =
    ap (lines_result reading reading.ending state number) (lines_of-last line lacks some) ∙ lines_result-went reading reading.ending state next number (strip_carriage_return line) text [] went

told_with_fault : {S A : Type 0} (reading : Reading S A) (state : S) (number : ℕ) (line : List ℕ) (fault : ScriptFault) → Lacks 10 line → 0 < length line
    → line_step reading state number (strip_carriage_return line) ≡ Err fault → text_from reading state number line ≡ ended (Err fault)
told_with_fault reading state number line fault lacks some stops =
    ap (lines_result reading reading.ending state number) (lines_of-last line lacks some) ∙ lines_result-fault reading reading.ending state number (strip_carriage_return line) [] fault stops

-- what is told after a text
tells_after : {A : Type 0} (whole rest : TextResult A) (text : List ℕ) (old new newer : Option (List ℕ)) (result : Result A ScriptFault) → whole ≡ after_text text rest → Appends old new text → Tells rest new newer result → Tells whole old newer result
tells_after whole rest text old new newer result told before (written, same) = rw told ((Appends-trans old new newer text rest.output before written, same))

-- the text of the last line, once it has a line feed
failing_line : {S A : Type 0} (reading : Reading S A) (state next : S) (number : ℕ) (line text : List ℕ) → Lacks 10 line → line_step reading state number (strip_carriage_return line) ≡ Ok (text, next)
    → (text_failing_from reading state number (line ++ 10 ∷ [])).output ≡ text
failing_line {A = A} reading state next number line text lacks went =
    ap (λ (told : TextResult A). told.output)
    (ap (lines_result reading (λ s n. ended (Err Read)) state number) (ended_lines_of-line line [] lacks)
    ∙ lines_result-went reading (λ s n. ended (Err Read)) state next number (strip_carriage_return line) text [] went)
    ∙ append-nil text

-- how a script that asks for memory in mid-run ends at its last line
abbrev LastRest : {S A : Type 0} → Reading S A → Bool → (S → Bool) → S → ℕ → List ℕ → Option (List ℕ) → Option (List ℕ) → Result A ScriptFault → Type 0
LastRest reading grows is_silent state number line w z result =
    TakesRest (text_from reading state number line) (text_failing_from reading state number (line ++ 10 ∷ [])).output (grows && rest_wants reading state number line) (is_silent state) w z
    result

or_left : (a b : Bool) → a ≡ true → (a || b) ≡ true
or_left a b is = rw is refl

or_right : (a b : Bool) → b ≡ true → (a || b) ≡ true
or_right true b is = refl
or_right false b is = is

-- it may be asked for at the last line, or at the end behind it
rest_at_end : {S A : Type 0} (reading : Reading S A) (grows : Bool) (state next : S) (number : ℕ) (line text : List ℕ) → Lacks 10 line → 0 < length line
    → line_step reading state number (strip_carriage_return line) ≡ Ok (text, next) → (grows && reading.wants_at_end next) ≡ true → (grows && rest_wants reading state number line) ≡ true
rest_at_end reading grows state next number line text lacks some went may =
    let parts = and_parts grows (reading.wants_at_end next) may in
    let ends : end_wants reading state number (lines_of line) ≡ true =
    ap (end_wants reading state number) (lines_of-last line lacks some) ∙ ap (where_it_stands (λ after. reading.wants_at_end after)) went ∙ parts.1 in
    and_from grows _ parts.0 (or_right (last_wants reading false state number (lines_of line)) (end_wants reading state number (lines_of line)) ends)

rest_at_line : {S A : Type 0} (reading : Reading S A) (grows : Bool) (state next : S) (number : ℕ) (line text : List ℕ) → Lacks 10 line → 0 < length line
    → line_step reading state number (strip_carriage_return line) ≡ Ok (text, next) → (grows && line_wants reading state (strip_carriage_return line)) ≡ true
    → (grows && rest_wants reading state number line) ≡ true
rest_at_line reading grows state next number line text lacks some went may =
    let parts = and_parts grows (line_wants reading state (strip_carriage_return line)) may in
    let last : last_wants reading false state number (lines_of line) ≡ true =
    ap (last_wants reading false state number) (lines_of-last line lacks some) ∙ ap (where_it_stands (λ after. line_wants reading state (strip_carriage_return line))) went ∙ parts.1 in
    and_from grows _ parts.0 (or_left (last_wants reading false state number (lines_of line)) (end_wants reading state number (lines_of line)) last)

pub TakesRest-line : {S A : Type 0} (reading : Reading S A) (grows : Bool) (is_silent : S → Bool) (state next : S) (number : ℕ) (line : List ℕ) (w v z : Option (List ℕ)) (wrote : Bool) (result : Result A ScriptFault) → Lacks 10 line → 0 < length line
    → Goes reading (line_step reading state number (strip_carriage_return line)) is_silent state next w v wrote → TakesRest (reading.ending next (number + 1)) [] (grows && reading.wants_at_end next) (is_silent next) v z result
    → LastRest reading grows is_silent state number line w z result
TakesRest-line {A = A} reading grows is_silent state next number line w v z wrote result lacks some goes ends = by_result result ends
  where
    told : text_from reading state number line ≡ after_text goes.text (reading.ending next (number + 1))
    told = told_with_line reading state next number line goes.text lacks some goes.step_is

    -- the line's text stands, and nothing behind it
    written : Keeps v z ⊎ Appends v z [] → Appends w z (text_failing_from reading state number (line ++ 10 ∷ [])).output
    written (inl kept) = rw (failing_line reading state next number line goes.text lacks goes.step_is) (Appends-kept w v z goes.text goes.written kept)
    written (inr none) = rw (failing_line reading state next number line goes.text lacks goes.step_is) (Appends-kept w v z goes.text goes.written (Keeps-none v z none))

    by_result : (r : Result A ScriptFault) → TakesRest (reading.ending next (number + 1)) [] (grows && reading.wants_at_end next) (is_silent next) v z r → LastRest reading grows is_silent state number line w z r
    by_result (Ok answer) tells = tells_after _ _ goes.text w v z (Ok answer) told goes.written tells
    by_result (Err (Script l word)) tells = tells_after _ _ goes.text w v z (Err (Script l word)) told goes.written tells
    by_result (Err (Setup fault)) tells = tells_after _ _ goes.text w v z (Err (Setup fault)) told goes.written tells
    by_result (Err Read) wrong = wrong
    by_result (Err Write) (ok, has) = (ok_after _ _ goes.text told ok, text_after _ _ goes.text told has)
    by_result (Err NoMemory) (ok, inl (still, kept)) =
        let quiet = goes.silent still in
        (ok_after _ _ goes.text told ok, inl (quiet.0, Keeps-trans w v z (Keeps-none w v (rw quiet.1 at goes.written)) kept))
    by_result (Err NoMemory) (ok, inr (may, none)) =
        (ok_after _ _ goes.text told ok, inr (rest_at_end reading grows state next number line goes.text lacks some goes.step_is may, inr (written none)))

tells_fault : {A : Type 0} (whole : TextResult A) (fault : ScriptFault) (before after : Option (List ℕ)) → whole ≡ ended (Err fault) → Keeps before after → Tells whole before after (Err fault)
tells_fault whole fault before after told kept = rw told ((Appends-none before after kept, refl))

pub TakesRest-fault : {S A : Type 0} (reading : Reading S A) (grows : Bool) (is_silent : S → Bool) (state next : S) (number : ℕ) (line : List ℕ) (w v : Option (List ℕ)) (fault : ScriptFault) → Lacks 10 line → 0 < length line
    → TakesStep reading (grows && line_wants reading state (strip_carriage_return line)) (line_step reading state number (strip_carriage_return line)) is_silent state next w v (Err fault)
    → LastRest reading grows is_silent state number line w v (Err fault)
TakesRest-fault reading grows is_silent state next number line w v (Script l word) lacks some (stops, kept) = tells_fault _ _ w v (told_with_fault reading state number line _ lacks some stops) kept
TakesRest-fault reading grows is_silent state next number line w v (Setup fault) lacks some (stops, kept) = tells_fault _ _ w v (told_with_fault reading state number line _ lacks some stops) kept
TakesRest-fault reading grows is_silent state next number line w v Read lacks some stops = stops
TakesRest-fault reading grows is_silent state next number line w v Write lacks some speaks =
    speaks_well reading _ speaks (number + 1) _ (told_with_line reading state speaks.0.next number line speaks.0.text lacks some speaks.0.step_is)
TakesRest-fault reading grows is_silent state next number line w v NoMemory lacks some (inl (quiet, gives), kept) =
    ((gives_well reading _ gives (number + 1) _ (told_with_line reading state gives.0.next number line gives.0.text lacks some gives.0.step_is)).0, inl (quiet, kept))
TakesRest-fault reading grows is_silent state next number line w v NoMemory lacks some (inr (may, stands), kept) = (
  stands_well reading _ stands (number + 1) _ (told_with_line reading state stands.next number line stands.text lacks some stands.step_is),
  inr (rest_at_line reading grows state stands.next number line stands.text lacks some stands.step_is may, inl kept),
)

-- where it may have been asked for at a line among some, it may whatever came before them
last_whatever : {S A : Type 0} (reading : Reading S A) (before : Bool) (state : S) (number : ℕ) (lines : List (List ℕ)) → last_wants reading false state number lines ≡ true
    → last_wants reading before state number lines ≡ true
last_whatever reading before state number [] may = absurd (cc (may))
last_whatever reading before state number (line ∷ lines) may = may

or_true : (a b : Bool) → (a || b) ≡ true → (a ≡ true) ⊎ (b ≡ true)
or_true true b is = inl refl
or_true false b is = inr is

-- ---- the whole call

abbrev pub Ends : {S A : Type 0} → Reading S A → S → List ℕ → Option (List ℕ) → Option (List ℕ) → Option (List ℕ) → Option (List ℕ) → Result A ScriptFault → Type 0
Ends reading start held input rest old new result =
    (ends : EndsAs reading.most_lines (text_of reading start) (text_before_failure reading start) input rest old new result) × HoldsFaultLine reading start ends.judged held result

-- or in mid-run, where the script grows
abbrev pub EndsOr : {S A : Type 0} → Reading S A → Bool → S → List ℕ → Option (List ℕ) → Option (List ℕ) → Option (List ℕ) → Option (List ℕ) → Result A ScriptFault → Type 0
EndsOr reading grows start held input rest old new result = EndsHolding grows reading start held input rest old new result

-- at which line a script stops, behind the lines so far
stopped_behind : {S A : Type 0} (reading : Reading S A) (is_silent : S → Bool) (start state : S) (number : ℕ) (block : BlockState) (input rest old new : Option (List ℕ)) (more held : List ℕ) (fault : ScriptFault)
    → (so_far : Progress reading is_silent start state number block input rest old new) → StopsAt reading state number (lines_of more) held fault → StopsAt reading start 1 (lines_of (so_far.read ++ more)) held fault
stopped_behind reading is_silent start state number block input rest old new more held fault so_far stops =
    StopsAt-behind reading start state number 1 so_far.before (lines_of more) (lines_of (so_far.read ++ more)) held fault so_far.went so_far.counted (so_far.lines more) stops

-- which is nothing while the script is silent
silent_within : {S A : Type 0} (reading : Reading S A) (is_silent : S → Bool) (start state : S) (number : ℕ) (block : BlockState) (input rest old new : Option (List ℕ)) (line : List ℕ)
    → (so_far : Progress reading is_silent start state number block input rest old new) → Lacks 10 line → is_silent state ≡ true → (text_before_failure reading start (so_far.read ++ line)).output ≡ []
silent_within reading is_silent start state number block input rest old new line so_far lacks quiet =
    rw (failed_within reading is_silent start state number block input rest old new line so_far lacks, so_far.silent quiet) refl

-- what was taken, and what was read ahead, left the reader
read_ahead : (input rest : Option (List ℕ)) (ahead taken : List ℕ) → Consumes input (prepend_known ahead rest) taken → Consumes input rest (taken ++ ahead)
read_ahead None rest ahead taken consumed = tt
read_ahead (Some xs) None ahead taken consumed = absurd consumed
read_ahead (Some xs) (Some ys) ahead taken consumed = consumed ∙ sym (append_assoc taken ahead ys)

-- what was taken so far, and then
took : {S A : Type 0} (reading : Reading S A) (is_silent : S → Bool) (start state : S) (number : ℕ) (block later : BlockState) (input rest after old new : Option (List ℕ)) (bytes : List ℕ)
    → (so_far : Progress reading is_silent start state number block input rest old new) → Takes block later rest after bytes → Consumes input after ((so_far.read ++ bytes) ++ later.ahead)
took reading is_silent start state number block later input rest after old new bytes so_far takes =
    read_ahead input after later.ahead (so_far.read ++ bytes) (Consumes-trans input (left block rest) (left later after) so_far.read bytes so_far.consumed takes.consumed)

small : (block : BlockState) → IsSmall block → length block.ahead ≤ 65536
small block few = omega (arith, few)

-- what was written so far, and then nothing but a flush
written_till : {S A : Type 0} (reading : Reading S A) (is_silent : S → Bool) (start state : S) (number : ℕ) (block : BlockState) (input rest old new flushed : Option (List ℕ))
    → (so_far : Progress reading is_silent start state number block input rest old new) → Keeps new flushed → Appends old flushed so_far.text
written_till reading is_silent start state number block input rest old new flushed so_far kept = Appends-kept old new flushed so_far.text so_far.written kept

-- to the input's end
pub Ends-rest : {S A : Type 0} (reading : Reading S A) (grows : Bool) (is_silent : S → Bool) (start state : S) (number : ℕ) (block later : BlockState) (input rest after old new flushed newer : Option (List ℕ)) (line held : List ℕ) (result : Result A ScriptFault)
    → Progress reading is_silent start state number block input rest old new → 130 * number + length line ≤ 130 * reading.most_lines + 131 → Lacks 10 line → Takes block later rest after line → later.ahead ≡ [] → IsAtEnd after
    → Keeps new flushed → LastRest reading grows is_silent state number line flushed newer result → StopsWithin reading state number (lines_of line) held result → EndsOr reading grows start held input after old newer result
Ends-rest {A = A} reading grows is_silent start state number block later input rest after old new flushed newer line held result so_far within lacks taken none at_end flushes takes held_at = by_result result takes held_at
  where
    read : List ℕ
    read = so_far.read ++ line

    all : Consumes input after (read ++ [])
    all = rw none at (took reading is_silent start state number block later input rest after old new line so_far taken)

    written : Appends old flushed so_far.text
    written = written_till reading is_silent start state number block input rest old new flushed so_far flushes

    bound : length read ≤ 130 * reading.most_lines + 1
    bound = omega (arith, length-append so_far.read line, so_far.bound, within)

    tells : (r : Result A ScriptFault) → Tells (text_from reading state number line) flushed newer r → Tells (text_of reading start read) old newer r
    tells r told = tells_after _ _ so_far.text old flushed newer r (so_far.whole line) written told

    whole_input : IsAllJudged [] after
    whole_input = (refl, at_end)

    -- memory may have been asked for at the last line, or behind it
    cause : rest_wants reading state number line ≡ true → (asks_last reading start read ≡ true) ⊎ (IsAllJudged [] after × (asks_at_end reading start read ≡ true))
    cause may = by_parts (or_true (last_wants reading false state number (lines_of line)) (end_wants reading state number (lines_of line)) may)
      where
        by_parts : (last_wants reading false state number (lines_of line) ≡ true) ⊎ (end_wants reading state number (lines_of line) ≡ true)
            → (asks_last reading start read ≡ true) ⊎ (IsAllJudged [] after × (asks_at_end reading start read ≡ true))
        by_parts (inl last) = inl (so_far.asks line ∙ last_whatever reading so_far.wanted state number (lines_of line) last)
        by_parts (inr ends) = inr (whole_input, so_far.asks_then line ∙ ends)

    -- memory was refused in mid-run: these lines were carried out
    stops : (lines text : List ℕ) → rest_wants reading state number line ≡ true → AreCarriedOut lines read [] after → IsOk (text_from reading state number line).result → (text_before_failure reading start lines).output ≡ so_far.text ++ text → Appends flushed newer text
        → StopsForMemory reading start input after old newer
    stops lines text wants carried ok is appended =
        record {
          judged = read;
          ahead = [];
          lines = lines;
          consumed = all;
          bound = bound;
          block = omega arith;
          sound = ok_after _ _ so_far.text (so_far.whole line) ok;
          carried_out = carried;
          written = rw is (Appends-trans old flushed newer so_far.text text written appended);
          cause = cause wants;
        }

    ended_so : (r : Result A ScriptFault) → EndsAfter (text_of reading start) (text_before_failure reading start) read [] after old newer r → HoldsFaultLine reading start read held r → EndsOr reading grows start held input after old newer r
    ended_so r ends holds = inl (record { judged = read; ahead = []; consumed = all; bound = bound; block = omega arith; ends = ends }, holds)

    by_result : (r : Result A ScriptFault) → LastRest reading grows is_silent state number line flushed newer r → StopsWithin reading state number (lines_of line) held r → EndsOr reading grows start held input after old newer r
    by_result (Ok answer) told at = ended_so (Ok answer) (whole_input, tells (Ok answer) told) tt
    by_result (Err (Script l word)) told at =
        ended_so (Err (Script l word)) (inl whole_input, tells (Err (Script l word)) told) (λ few. stopped_behind reading is_silent start state number block input rest old new line held (Script l word) so_far at)
    by_result (Err (Setup fault)) told at = ended_so (Err (Setup fault)) (inl whole_input, tells (Err (Setup fault)) told) tt
    by_result (Err Read) told at = absurd told
    by_result (Err Write) (ok, some) at =
        ended_so (Err Write) (
          ok_after _ _ so_far.text (so_far.whole line) ok,
          (read, inr (refl, whole_input), grown_after _ _ _ so_far.text Read (failed_within reading is_silent start state number block input rest old new line so_far lacks) (so_far.whole line) some),
        ) tt
    by_result (Err NoMemory) (ok, inl (quiet, kept)) at =
        ended_so (Err NoMemory) (
          Keeps-trans old flushed newer (Keeps-none old flushed (rw (so_far.silent quiet) at written)) kept,
          inr (
            ok_after _ _ so_far.text (so_far.whole line) ok,
            (read, inr (refl, whole_input), silent_within reading is_silent start state number block input rest old new line so_far lacks quiet, inr whole_input),
          ),
        ) tt
    by_result (Err NoMemory) (ok, inr (may, inl kept)) at =
        inr (
          (and_parts grows (rest_wants reading state number line) may).0,
          refl,
          stops read [] (and_parts grows (rest_wants reading state number line) may).1 (inl (inr (refl, whole_input))) ok
              (ap (λ (told : TextResult A). told.output) (failed_within reading is_silent start state number block input rest old new line so_far lacks))
              (Appends-none flushed newer kept),
        )
    by_result (Err NoMemory) (ok, inr (may, inr appended)) at =
        inr (
          (and_parts grows (rest_wants reading state number line) may).0,
          refl,
          stops (read ++ 10 ∷ []) _ (and_parts grows (rest_wants reading state number line) may).1 (inr (refl, whole_input)) ok
              (ap (λ (told : TextResult A). told.output) (ap (text_before_failure reading start) (append_assoc so_far.read line (10 ∷ [])) ∙ so_far.failed (line ++ 10 ∷ [])))
              appended,
        )

-- at a fault that stands whatever follows
settled : {S A : Type 0} (reading : Reading S A) (start state : S) (number : ℕ) (ahead : List ℕ) (rest old new newer : Option (List ℕ)) (read text tail : List ℕ) (fault : ScriptFault)
    → ((more : List ℕ) → text_of reading start (read ++ more) ≡ after_text text (text_from reading state number more))
    → ((more : List ℕ) → text_from reading state number (tail ++ more) ≡ ended (Err fault)) → Appends old new text → Keeps new newer
    → (IsAllJudged ahead rest ⊎ IsSettled (text_of reading start) (read ++ tail)) × Tells (text_of reading start (read ++ tail)) old newer (Err fault)
settled reading start state number ahead rest old new newer read text tail fault whole told written kept =
    let all : (more : List ℕ) → text_of reading start ((read ++ tail) ++ more) ≡ after_text text (ended (Err fault)) = λ more. ap (text_of reading start) (append_assoc read tail more) ∙ whole (tail ++ more) ∙ ap (after_text text) (told more) in
    let here : text_of reading start (read ++ tail) ≡ after_text text (ended (Err fault)) = ap (text_of reading start) (sym (append-nil (read ++ tail))) ∙ all [] in (
      inr (λ more. all more ∙ sym here),
      rw here (rw (append-nil text) (Appends-kept old new newer text written kept), refl),
    )

-- at a fault of a line
pub Ends-fault : {S A : Type 0} (reading : Reading S A) (grows : Bool) (is_silent : S → Bool) (start state next : S) (number : ℕ) (block later : BlockState) (input rest after old new flushed newer : Option (List ℕ)) (line held : List ℕ) (fault : ScriptFault)
    → Progress reading is_silent start state number block input rest old new → number ≤ reading.most_lines → Lacks 10 line → length line ≤ 129 → Takes block later rest after (line ++ 10 ∷ []) → IsSmall later → Keeps new flushed
    → TakesStep reading (grows && line_wants reading state (strip_carriage_return line)) (line_step reading state number (strip_carriage_return line)) is_silent state next flushed newer (Err fault) → held ≡ held_of (strip_carriage_return line)
    → EndsOr reading grows start held input after old newer (Err fault)
Ends-fault {S} {A} reading grows is_silent start state next number block later input rest after old new flushed newer line held fault so_far within lacks short taken few flushes takes is_held = by_fault fault takes
  where
    tail : List ℕ
    tail = line ++ 10 ∷ []

    all : Consumes input after ((so_far.read ++ tail) ++ later.ahead)
    all = took reading is_silent start state number block later input rest after old new tail so_far taken

    written : Appends old flushed so_far.text
    written = written_till reading is_silent start state number block input rest old new flushed so_far flushes

    bound : length (so_far.read ++ tail) ≤ 130 * reading.most_lines + 1
    bound = omega (arith, length-append so_far.read tail, length-append line (10 ∷ []), so_far.bound, within, short)

    told : (f : ScriptFault) → line_step reading state number (strip_carriage_return line) ≡ Err f → (more : List ℕ) → text_from reading state number (tail ++ more) ≡ ended (Err f)
    told f stops more =
        ap (text_from reading state number) (append_assoc line (10 ∷ []) more) ∙ ap (lines_result reading reading.ending state number) (lines_of-line line more lacks)
        ∙ lines_result-fault reading reading.ending state number (strip_carriage_return line) (lines_of more) f stops

    after_line : (text : List ℕ) (after_state : S) → line_step reading state number (strip_carriage_return line) ≡ Ok (text, after_state) → text_from reading state number tail ≡ after_text text (reading.ending after_state (number + 1))
    after_line text after_state went =
        ap (lines_result reading reading.ending state number) (lines_of-line line [] lacks) ∙ lines_result-went reading reading.ending state after_state number (strip_carriage_return line) text [] went

    front : IsFront (so_far.read ++ line) (so_far.read ++ tail) later.ahead after
    front = inl (sym (append_assoc so_far.read line (10 ∷ [])))

    -- memory may have been asked for at the line
    cause : (text : List ℕ) (after_state : S) → line_step reading state number (strip_carriage_return line) ≡ Ok (text, after_state) → line_wants reading state (strip_carriage_return line) ≡ true
        → asks_last reading start (so_far.read ++ tail) ≡ true
    cause text after_state went may =
        so_far.asks tail ∙ ap (last_wants reading so_far.wanted state number) (lines_of-line line [] lacks)
        ∙ ap (where_it_stands (λ later_state. line_wants reading state (strip_carriage_return line))) went ∙ may

    -- it is the only line behind those before it
    at_line : (f : ScriptFault) → line_step reading state number (strip_carriage_return line) ≡ Err f → StopsAt reading state number (lines_of tail) held f
    at_line f stops = subst (λ lines. StopsAt reading state number lines held f) (sym (lines_of-line line [] lacks)) (StopsAt-line reading state number (strip_carriage_return line) held f is_held stops)

    ended_so : (f : ScriptFault) → EndsAfter {A = A} (text_of reading start) (text_before_failure reading start) (so_far.read ++ tail) later.ahead after old newer (Err f) → HoldsFaultLine {A = A} reading start (so_far.read ++ tail) held (Err f)
        → EndsOr reading grows start held input after old newer (Err f)
    ended_so f ends holds = inl (record { judged = so_far.read ++ tail; ahead = later.ahead; consumed = all; bound = bound; block = small later few; ends = ends }, holds)

    settled_so : (f : ScriptFault) → line_step reading state number (strip_carriage_return line) ≡ Err f → Keeps flushed newer
        → (IsAllJudged later.ahead after ⊎ IsSettled (text_of reading start) (so_far.read ++ tail)) × Tells (text_of reading start (so_far.read ++ tail)) old newer (Err f)
    settled_so f stops kept = settled reading start state number later.ahead after old flushed newer so_far.read so_far.text tail f so_far.whole (told f stops) written kept

    by_fault : (f : ScriptFault) → TakesStep reading (grows && line_wants reading state (strip_carriage_return line)) (line_step reading state number (strip_carriage_return line)) is_silent state next flushed newer (Err f) → EndsOr reading grows start held input after old newer (Err f)
    by_fault (Script l word) (stops, kept) =
        ended_so (Script l word) (settled_so (Script l word) stops kept)
        (λ within_most. stopped_behind reading is_silent start state number block input rest old new tail held (Script l word) so_far (at_line (Script l word) stops))
    by_fault (Setup f) (stops, kept) = ended_so (Setup f) (settled_so (Setup f) stops kept) tt
    by_fault Read stops = absurd stops
    by_fault Write speaks =
        let well = speaks_well reading _ speaks (number + 1) _ (after_line speaks.0.text speaks.0.next speaks.0.step_is) in
        ended_so Write (
          ok_after _ _ so_far.text (so_far.whole tail) well.0,
          (
            so_far.read ++ line,
            front,
            grown_after _ _ _ so_far.text Read (failed_within reading is_silent start state number block input rest old new line so_far lacks) (so_far.whole tail) well.1,
          ),
        ) tt
    by_fault NoMemory (inr (may, stands), kept) =
        let parts = and_parts grows (line_wants reading state (strip_carriage_return line)) may in inr (
          parts.0,
          refl,
          record {
            judged = so_far.read ++ tail;
            ahead = later.ahead;
            lines = so_far.read ++ line;
            consumed = all;
            bound = bound;
            block = small later few;
            sound = ok_after _ _ so_far.text (so_far.whole tail) (stands_well reading _ stands (number + 1) _ (after_line stands.text stands.next stands.step_is));
            carried_out = inl front;
            written = rw (failed_within reading is_silent start state number block input rest old new line so_far lacks) (rw (append-nil so_far.text) (Appends-kept old flushed newer so_far.text written kept));
            cause = inl (cause stands.text stands.next stands.step_is parts.1);
          },
        )
    by_fault NoMemory (inl (quiet, gives), kept) =
        let well = gives_well reading _ gives (number + 1) _ (after_line gives.0.text gives.0.next gives.0.step_is) in
        ended_so NoMemory (
          Keeps-trans old flushed newer (Keeps-none old flushed (rw (so_far.silent quiet) at written)) kept,
          inr (
            ok_after _ _ so_far.text (so_far.whole tail) well.0,
            (
              so_far.read ++ line,
              front,
              silent_within reading is_silent start state number block input rest old new line so_far lacks quiet,
              inl (text_after _ _ so_far.text (so_far.whole tail) well.1),
            ),
          ),
        ) tt

-- at a line that is too long
pub Ends-long : {S A : Type 0} (reading : Reading S A) (is_silent : S → Bool) (start state : S) (number : ℕ) (block later : BlockState) (input rest after old new flushed : Option (List ℕ)) (line held : List ℕ) (byte : ℕ)
    → Progress reading is_silent start state number block input rest old new → number ≤ reading.most_lines → Lacks 10 line → byte ≢ 10 → length line ≡ 129 → Takes block later rest after (line ++ byte ∷ []) → IsSmall later → Keeps new flushed → held ≡ held_of line
    → Ends reading start held input after old flushed (Err (Script number 0))
Ends-long reading is_silent start state number block later input rest after old new flushed line held byte so_far within lacks other full taken few flushes is_held = (
  record {
    judged = so_far.read ++ tail;
    ahead = later.ahead;
    consumed = took reading is_silent start state number block later input rest after old new tail so_far taken;
    bound = omega (arith, length-append so_far.read tail, size, so_far.bound, within);
    block = small later few;
    ends = settled reading start state number later.ahead after old new flushed so_far.read so_far.text tail _ so_far.whole told so_far.written flushes;
  },
  λ within_most. stopped_behind reading is_silent start state number block input rest old new tail held (Script number 0) so_far at_line,
)
  where
    tail : List ℕ
    tail = line ++ byte ∷ []

    size : length tail ≡ 130
    size = omega (arith, length-append line (byte ∷ []), full)

    told : (more : List ℕ) → text_from reading state number (tail ++ more) ≡ ended (Err (Script number 0))
    told more =
        let first = begins tail more (Lacks-push 10 line byte lacks other) (omega (arith, size)) in
        ap (lines_result reading reading.ending state number) first.is
        ∙ lines_result-fault reading reading.ending state number (strip_carriage_return (tail ++ first.more)) first.lines _
        (line_step-not_plain reading state number (strip_carriage_return (tail ++ first.more)) (begins-not_plain tail first.more (omega (arith, size))))

    -- it is the only line behind those before it
    at_line : StopsAt reading state number (lines_of tail) held (Script number 0)
    at_line =
        subst (λ lines. StopsAt reading state number lines held (Script number 0)) (sym (lines_of-last tail (Lacks-push 10 line byte lacks other) (omega (arith, size))))
        (StopsAt-line reading state number (strip_carriage_return tail) held (Script number 0) (is_held ∙ long-held line byte full)
        (line_step-not_plain reading state number (strip_carriage_return tail) (ap (λ xs. is_plain_line (strip_carriage_return xs)) (sym (append-nil tail)) ∙ begins-not_plain tail [] (omega (arith, size)))))

-- at a line more than a script may have
pub Ends-late : {S A : Type 0} (reading : Reading S A) (is_silent : S → Bool) (start state : S) (number : ℕ) (block later : BlockState) (input rest after old new flushed : Option (List ℕ)) (held : List ℕ) (byte : ℕ)
    → Progress reading is_silent start state number block input rest old new → number ≡ reading.most_lines + 1 → Takes block later rest after (byte ∷ []) → IsSmall later → Keeps new flushed
    → Ends reading start held input after old flushed (Err (Script number 0))
Ends-late reading is_silent start state number block later input rest after old new flushed held byte so_far late taken few flushes = (
  record {
    judged = so_far.read ++ byte ∷ [];
    ahead = later.ahead;
    consumed = took reading is_silent start state number block later input rest after old new (byte ∷ []) so_far taken;
    bound = omega (arith, length-append so_far.read (byte ∷ []), so_far.bound, late);
    block = small later few;
    ends = settled reading start state number later.ahead after old new flushed so_far.read so_far.text (byte ∷ []) _ so_far.whole told so_far.written flushes;
  },
  λ within_most. absurd (omega (arith, within_most, late)),
)
  where
    told : (more : List ℕ) → text_from reading state number (byte ∷ more) ≡ ended (Err (Script number 0))
    told more =
        let first = lines_of-some byte more in
        ap (lines_result reading reading.ending state number) first.is
        ∙ lines_result-fault reading reading.ending state number (strip_carriage_return first.line) first.lines _ (rw late (line_step-late reading state (strip_carriage_return first.line)))

-- where the reader failed
pub Ends-read : {S A : Type 0} (reading : Reading S A) (is_silent : S → Bool) (start state : S) (number : ℕ) (block later : BlockState) (input rest after old new flushed : Option (List ℕ)) (line held : List ℕ)
    → Progress reading is_silent start state number block input rest old new → 130 * number + length line ≤ 130 * reading.most_lines + 131 → Lacks 10 line → Takes block later rest after line → later.ahead ≡ [] → Keeps new flushed
    → Ends reading start held input after old flushed (Err Read)
Ends-read reading is_silent start state number block later input rest after old new flushed line held so_far within lacks taken none flushes = (
  record {
    judged = so_far.read ++ line;
    ahead = [];
    consumed = rw none at (took reading is_silent start state number block later input rest after old new line so_far taken);
    bound = omega (arith, length-append so_far.read line, so_far.bound, within);
    block = omega arith;
    ends = (
      refl,
      rw (failed_within reading is_silent start state number block input rest old new line so_far lacks)
          ((rw (append-nil so_far.text) (written_till reading is_silent start state number block input rest old new flushed so_far flushes), refl)),
    );
  },
  tt,
)

-- where a flush failed: before the last line with text stands a front of what was taken
pub Ends-flush : {S A : Type 0} (reading : Reading S A) (is_silent : S → Bool) (start state : S) (number : ℕ) (block later : BlockState) (input rest after old new flushed : Option (List ℕ)) (line held : List ℕ)
    → Progress reading is_silent start state number block input rest old new → number ≤ reading.most_lines + 1 → Takes block later rest after line → later.ahead ≡ [] → later.has_text ≡ true → IsSmall later
    → Ends reading start held input after old flushed (Err Write)
Ends-flush reading is_silent start state number block later input rest after old new flushed line held so_far within taken none text few = (
  record {
    judged = judged;
    ahead = last.tail ++ line;
    consumed = rw joined at (rw (append-nil (so_far.read ++ line)) at (rw none at (took reading is_silent start state number block later input rest after old new line so_far taken)));
    bound = omega (arith, so_far.bound, within, ap length last.is, length-append judged last.tail);
    block = omega (arith, length-append last.tail line, last.near, same.1, few);
    ends = (last.ok, (last.front, inl refl, last.some));
  },
  tt,
)
  where
    same : (block.has_text ≡ true) × (later.taken ≡ block.taken + length line)
    same = taken.same_block text

    last : LastText reading start so_far.read block.taken
    last = so_far.last same.0

    judged : List ℕ
    judged = last.front ++ 10 ∷ []

    joined : so_far.read ++ line ≡ judged ++ (last.tail ++ line)
    joined = ap (λ xs. xs ++ line) last.is ∙ append_assoc judged last.tail line

-- where a line wasn't read to its end
pub Ends-stopped : {S A : Type 0} (reading : Reading S A) (is_silent : S → Bool) (start state : S) (number : ℕ) (block later : BlockState) (input rest after old new flushed : Option (List ℕ)) (line held : List ℕ) (fault : ScriptFault)
    → Progress reading is_silent start state number block input rest old new → number ≤ reading.most_lines → Lacks 10 line × (length line ≤ 129) × Stops block later rest after line fault → IsSmall later → Keeps new flushed
    → Ends reading start held input after old flushed (Err fault)
Ends-stopped reading is_silent start state number block later input rest after old new flushed line held Read so_far within (lacks, short, (taken, none)) few flushes =
    Ends-read reading is_silent start state number block later input rest after old new flushed line held so_far (omega (arith, within, short)) lacks taken none flushes
Ends-stopped reading is_silent start state number block later input rest after old new flushed line held Write so_far within (lacks, short, (taken, none, text)) few flushes =
    Ends-flush reading is_silent start state number block later input rest after old new flushed line held so_far (omega (arith, within)) taken none text few
Ends-stopped reading is_silent start state number block later input rest after old new flushed line held fault so_far within part few flushes = absurd part.2

nothing : Lacks 10 []
nothing i within = absurd (omega (arith, within))

-- where what follows the last line that may stand wasn't read
pub Ends-unread : {S A : Type 0} (reading : Reading S A) (is_silent : S → Bool) (start state : S) (number : ℕ) (block later : BlockState) (input rest after old new flushed : Option (List ℕ)) (held : List ℕ) (fault : ScriptFault)
    → Progress reading is_silent start state number block input rest old new → number ≡ reading.most_lines + 1 → TakesByte block later rest after (Err fault) → IsSmall later → Keeps new flushed
    → Ends reading start held input after old flushed (Err fault)
Ends-unread reading is_silent start state number block later input rest after old new flushed held Read so_far late (taken, none) few flushes =
    Ends-read reading is_silent start state number block later input rest after old new flushed [] held so_far (omega (arith, late)) nothing taken none flushes
Ends-unread reading is_silent start state number block later input rest after old new flushed held Write so_far late (taken, none, text) few flushes =
    Ends-flush reading is_silent start state number block later input rest after old new flushed [] held so_far (omega (arith, late)) taken none text few
Ends-unread reading is_silent start state number block later input rest after old new flushed held fault so_far late part few flushes = absurd part

-- a line more than a script may have writes nothing
unread : {S A : Type 0} (reading : Reading S A) (grows : Bool) (is_silent : S → Bool) (state : S) (number : ℕ) (w z : Option (List ℕ)) (result : Result A ScriptFault) → number ≡ reading.most_lines + 1
    → TakesRest (reading.ending state number) [] (grows && reading.wants_at_end state) (is_silent state) w z result → LastRest reading grows is_silent state number [] w z result
unread {A = A} reading grows is_silent state number w z result late takes =
    let none : (text_failing_from reading state number (10 ∷ [])).output ≡ [] =
    ap (λ (told : TextResult A). told.output) (lines_result-fault reading (λ s n. ended (Err Read)) state number [] [] (Script number 0) (rw late (line_step-late reading state []))) in
    rw none takes

-- at the input's end, after as many lines as may stand
pub Ends-full : {S A : Type 0} (reading : Reading S A) (grows : Bool) (is_silent : S → Bool) (start state : S) (number : ℕ) (block later : BlockState) (input rest after old new flushed newer : Option (List ℕ)) (held : List ℕ) (result : Result A ScriptFault)
    → Progress reading is_silent start state number block input rest old new → number ≡ reading.most_lines + 1 → TakesByte block later rest after (Ok None) → Keeps new flushed
    → TakesRest (reading.ending state number) [] (grows && reading.wants_at_end state) (is_silent state) flushed newer result → held ≡ []
    → EndsOr reading grows start held input after old newer result
Ends-full reading grows is_silent start state number block later input rest after old new flushed newer held result so_far late (taken, none, at_end) flushes takes cleared =
    Ends-rest reading grows is_silent start state number block later input rest after old new flushed newer [] held result so_far (omega (arith, late)) nothing taken none at_end flushes
    (unread reading grows is_silent state number flushed newer result late takes)
    (subst (λ line. StopsWithin reading state number [] line result) (sym cleared) (StopsWithin-end reading state number [] (grows && reading.wants_at_end state) (is_silent state) flushed newer result takes))
