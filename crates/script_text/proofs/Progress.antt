-- How far a script was read, and what was written of it.
use Rattle.std.proofs.Common.{◌≡◌, ◌≢◌, ◌≤◌, ℕ, ◌+◌, ◌*◌, List, [], ◌∷◌, ◌++◌, length, length-append, Bool, true, false, ◌||◌, not, nat_lt, Option, None, Some, Ok, Err, IsOk, refl, sym, ap, ◌∙◌, append_assoc, append-nil, arith, if◌then◌else◌, rules}
use Rattle.std.proofs.KnownBytes.{Appends-nil, Appends-trans, Appends-kept, Consumes-trans}
use Rattle.std.proofs.lemmas.Bool.Decides.{nat_tests}
use Rattle.std.specs.Io.KnownBytes.{Appends, Consumes, Keeps, prepend_known}
use Rattle.std.specs.Str.Lines.{strip_carriage_return}
use Rattle.line_text.proofs.Parts.{Lacks}
use Rattle.script_text.proofs.ScriptLines.{lines_of-line, ended_lines_of-line, ended_lines_of-last}
use Rattle.line_text.proofs.TraceTexts.{grows, some_before}
use Rattle.script_text.specs.Reads.{BlockState, Takes, left}
use Rattle.script_text.specs.Scripts.{Reading, TextResult, after_step, after_text, asks_at_end, asks_last, end_wants, ended, last_wants, line_step, line_wants, lines_result, text_from, text_of, text_before_failure, where_it_stands}
use Rattle.script_text.specs.Steps.{Goes}
use Rattle.script_text.specs.Stops.{state_after}
use Rattle.script_text.proofs.Stopping.{state_after-push}
use Rattle.line_text.specs.Words.{lines_of, ended_lines_of, is_plain_line, is_skipped, words_of}
use Rattle.script_text.specs.declared.faults.ScriptFault.{ScriptFault}
use Rattle.script_text.specs.declared.faults.ScriptFault.TheVariants.{Script, Read}

-- ---- one line

pub line_step-not_plain : {S A : Type 0} (reading : Reading S A) (state : S) (number : ℕ) (line : List ℕ) → is_plain_line line ≡ false → line_step reading state number line ≡ Err (Script number 0)
line_step-not_plain reading state number line bad = rw bad refl

pub line_step-late : {S A : Type 0} (reading : Reading S A) (state : S) (line : List ℕ) → line_step reading state (reading.most_lines + 1) line ≡ Err (Script (reading.most_lines + 1) 0)
line_step-late reading state line =
    let late : nat_lt reading.most_lines (reading.most_lines + 1) ≡ true = grind (arith, nat_tests) in
    by_test (is_plain_line line) (nat_lt reading.most_lines (reading.most_lines + 1)) late
  where
    by_test : (test over : Bool) → over ≡ true
        → (if not test || over then Err (Script (reading.most_lines + 1) 0) else (if is_skipped (words_of line) then Ok ([], state) else reading.step state (reading.most_lines + 1) (words_of line))) ≡ Err (Script (reading.most_lines + 1) 0)
    by_test true over is = rw is refl
    by_test false over is = refl

-- what stands after a line that went well, and after one at fault
pub lines_result-went : {S A : Type 0} (reading : Reading S A) (ending : S → ℕ → TextResult A) (state next : S) (number : ℕ) (line text : List ℕ) (lines : List (List ℕ))
    → line_step reading state number line ≡ Ok (text, next) → lines_result reading ending state number (line ∷ lines) ≡ after_text text (lines_result reading ending next (number + 1) lines)
lines_result-went reading ending state next number line text lines went = ap (after_step (λ after. lines_result reading ending after (number + 1) lines)) went

pub lines_result-fault : {S A : Type 0} (reading : Reading S A) (ending : S → ℕ → TextResult A) (state : S) (number : ℕ) (line : List ℕ) (lines : List (List ℕ)) (fault : ScriptFault)
    → line_step reading state number line ≡ Err fault → lines_result reading ending state number (line ∷ lines) ≡ ended (Err fault)
lines_result-fault reading ending state number line lines fault stops = ap (after_step (λ after. lines_result reading ending after (number + 1) lines)) stops

after_text-twice : {A : Type 0} (first second : List ℕ) (rest : TextResult A) → after_text first (after_text second rest) ≡ after_text (first ++ second) rest
after_text-twice first second rest = ap (λ output. record { output = output; result = rest.result }) (sym (append_assoc first second rest.output))

-- ---- the lines read so far

-- the last line that has text among bytes that were read, so that the script may end after it, and what was taken since
pub record LastText {S A : Type 0} (reading : Reading S A) (start : S) (read : List ℕ) (taken : ℕ) : Type 0 where
  pub front : List ℕ
  pub tail : List ℕ
  pub is : read ≡ (front ++ 10 ∷ []) ++ tail
  pub near : length tail ≤ taken
  pub ok : IsOk (text_of reading start (front ++ 10 ∷ [])).result
  pub some : (text_before_failure reading start front).output ≢ (text_of reading start (front ++ 10 ∷ [])).output

-- bytes that are whole lines before a number, the text that they gave, and the state after them; what follows goes on from there. Text that isn't
-- flushed was given by a line of the block that was read last
pub record Progress {S A : Type 0} (reading : Reading S A) (is_silent : S → Bool) (start state : S) (number : ℕ) (block : BlockState) (input rest old new : Option (List ℕ)) : Type 0 where
  pub read : List ℕ
  pub text : List ℕ
  pub consumed : Consumes input (left block rest) read
  pub written : Appends old new text
  pub bound : length read + 130 ≤ 130 * number
  pub whole : (more : List ℕ) → text_of reading start (read ++ more) ≡ after_text text (text_from reading state number more)
  pub failed : (more : List ℕ) → text_before_failure reading start (read ++ more)
      ≡ after_text text (lines_result reading (λ s n. ended (Err Read)) state number (ended_lines_of more))
  pub silent : is_silent state ≡ true → text ≡ []
  pub last : block.has_text ≡ true → LastText reading start read block.taken
  -- whether memory may have been asked for at the last of them
  pub wanted : Bool
  pub asks : (more : List ℕ) → asks_last reading start (read ++ more) ≡ last_wants reading wanted state number (lines_of more)
  pub asks_then : (more : List ℕ) → asks_at_end reading start (read ++ more) ≡ end_wants reading state number (lines_of more)
  -- they are these lines, none of which has a fault
  pub before : List (List ℕ)
  pub counted : number ≡ 1 + length before
  pub went : state_after reading start 1 before ≡ Ok state
  pub lines : (more : List ℕ) → lines_of (read ++ more) ≡ before ++ lines_of more

pub Progress-start : {S A : Type 0} (reading : Reading S A) (is_silent : S → Bool) (start : S) (block : BlockState) (input old : Option (List ℕ)) → block ≡ record { ahead = []; taken = 0; has_text = false; line = [] }
    → Progress reading is_silent start start 1 block input input old old
Progress-start reading is_silent start block input old none =
    record {
      read = [];
      text = [];
      consumed = rw none (by_known input);
      written = Appends-nil old;
      bound = omega arith;
      whole = λ more. refl;
      failed = λ more. refl;
      silent = λ quiet. refl;
      last = λ text. absurd (never (rw none at text));
      wanted = false;
      asks = λ more. refl;
      asks_then = λ more. refl;
      before = [];
      counted = refl;
      went = refl;
      lines = λ more. refl;
    }
  where
    by_known : (a : Option (List ℕ)) → Consumes a (prepend_known [] a) []
    by_known None = tt
    by_known (Some x) = refl

    never : false ≡ true → ⊥
    never wrong = search rules

-- what the reader's failure leaves of bytes that end within a line
pub failed_within : {S A : Type 0} (reading : Reading S A) (is_silent : S → Bool) (start state : S) (number : ℕ) (block : BlockState) (input rest old new : Option (List ℕ)) (line : List ℕ)
    → (so_far : Progress reading is_silent start state number block input rest old new) → Lacks 10 line → text_before_failure reading start (so_far.read ++ line) ≡ after_text so_far.text (ended (Err Read))
failed_within reading is_silent start state number block input rest old new line so_far lacks =
    so_far.failed line ∙ ap (after_text so_far.text) (ap (lines_result reading (λ s n. ended (Err Read)) state number) (ended_lines_of-last line lacks))

-- a text that goes on after a failure's
pub grown_after : {A : Type 0} (before whole rest : TextResult A) (text : List ℕ) (fault : ScriptFault) → before ≡ after_text text (ended (Err fault)) → whole ≡ after_text text rest → rest.output ≢ [] → before.output ≢ whole.output
grown_after before whole rest text fault is told some = rw (is, told, append-nil text) (grows text rest.output some)

-- what has text after a line was taken that wrote none, and after one that did
last_before : {S A : Type 0} (reading : Reading S A) (start : S) (read bytes : List ℕ) (taken after : ℕ) → LastText reading start read taken → after ≡ taken + length bytes → LastText reading start (read ++ bytes) after
last_before reading start read bytes taken after last same =
    record {
      front = last.front;
      tail = last.tail ++ bytes;
      is = ap (λ xs. xs ++ bytes) last.is ∙ append_assoc (last.front ++ 10 ∷ []) last.tail bytes;
      near = omega (arith, length-append last.tail bytes, last.near, same);
      ok = last.ok;
      some = last.some;
    }

last_here : {S A : Type 0} (reading : Reading S A) (is_silent : S → Bool) (start state next : S) (number : ℕ) (block : BlockState) (input rest old new : Option (List ℕ)) (line text : List ℕ) (taken : ℕ)
    → (so_far : Progress reading is_silent start state number block input rest old new) → Lacks 10 line → line_step reading state number (strip_carriage_return line) ≡ Ok (text, next)
    → text ≢ [] → IsOk (reading.ending next (number + 1)).result → LastText reading start (so_far.read ++ (line ++ 10 ∷ [])) taken
last_here reading is_silent start state next number block input rest old new line text taken so_far lacks went some ok =
    record {
      front = so_far.read ++ line;
      tail = [];
      is = sym (append_assoc so_far.read line (10 ∷ [])) ∙ sym (append-nil ((so_far.read ++ line) ++ 10 ∷ []));
      near = omega arith;
      ok = rw (append_assoc so_far.read line (10 ∷ []), told) ok;
      some = rw (append_assoc so_far.read line (10 ∷ []))
          (grown_after _ _ _ so_far.text Read (failed_within reading is_silent start state number block input rest old new line so_far lacks) (so_far.whole (line ++ 10 ∷ []))
          (rw here (some_before text (reading.ending next (number + 1)).output some)));
    }
  where
    here : text_from reading state number (line ++ 10 ∷ []) ≡ after_text text (reading.ending next (number + 1))
    here = ap (lines_result reading reading.ending state number) (lines_of-line line [] lacks) ∙ lines_result-went reading reading.ending state next number (strip_carriage_return line) text [] went

    told : text_of reading start (so_far.read ++ (line ++ 10 ∷ [])) ≡ after_text so_far.text (after_text text (reading.ending next (number + 1)))
    told = so_far.whole (line ++ 10 ∷ []) ∙ ap (after_text so_far.text) here

-- one line more
progress_by : {S A : Type 0} (reading : Reading S A) (is_silent : S → Bool) (start state next : S) (number : ℕ) (block later noted : BlockState) (input rest after old new flushed newer : Option (List ℕ)) (line : List ℕ) (wrote : Bool)
    → (so_far : Progress reading is_silent start state number block input rest old new) → Lacks 10 line → length line ≤ 129 → Takes block later rest after (line ++ 10 ∷ []) → Keeps new flushed
    → Goes reading (line_step reading state number (strip_carriage_return line)) is_silent state next flushed newer wrote
    → noted.ahead ≡ later.ahead → (noted.has_text ≡ true → LastText reading start (so_far.read ++ (line ++ 10 ∷ [])) noted.taken)
    → Progress reading is_silent start next (number + 1) noted input after old newer
progress_by reading is_silent start state next number block later noted input rest after old new flushed newer line wrote so_far lacks short takes kept goes same last =
    record {
      read = so_far.read ++ (line ++ 10 ∷ []);
      text = so_far.text ++ goes.text;
      consumed = rw same (Consumes-trans input (left block rest) (left later after) so_far.read (line ++ 10 ∷ []) so_far.consumed takes.consumed);
      written = Appends-trans old flushed newer so_far.text goes.text (Appends-kept old new flushed so_far.text so_far.written kept) goes.written;
      bound = omega (arith, so_far.bound, length-append so_far.read (line ++ 10 ∷ []), length-append line (10 ∷ []), short);
      whole = λ more.
          ap (text_of reading start) (joined more) ∙ so_far.whole (line ++ 10 ∷ more)
          ∙ ap (after_text so_far.text) (ap (lines_result reading reading.ending state number) (lines_of-line line more lacks) ∙ lines_result-went reading reading.ending state next number (strip_carriage_return line) goes.text (lines_of more) goes.step_is)
          ∙ after_text-twice so_far.text goes.text _;
      failed = λ more.
          ap (text_before_failure reading start) (joined more) ∙ so_far.failed (line ++ 10 ∷ more)
          ∙ ap (after_text so_far.text)
          (ap (lines_result reading (λ s n. ended (Err Read)) state number) (ended_lines_of-line line more lacks) ∙ lines_result-went reading (λ s n. ended (Err Read)) state next number (strip_carriage_return line) goes.text (ended_lines_of more) goes.step_is)
          ∙ after_text-twice so_far.text goes.text _;
      silent = λ quiet.
          let both = goes.silent quiet in
          rw (so_far.silent both.0, both.1) refl;
      last = last;
      wanted = line_wants reading state (strip_carriage_return line);
      asks = λ more.
          ap (asks_last reading start) (joined more) ∙ so_far.asks (line ++ 10 ∷ more) ∙ ap (last_wants reading so_far.wanted state number) (lines_of-line line more lacks)
          ∙ ap (where_it_stands (λ after. last_wants reading (line_wants reading state (strip_carriage_return line)) after (number + 1) (lines_of more))) goes.step_is;
      asks_then = λ more.
          ap (asks_at_end reading start) (joined more) ∙ so_far.asks_then (line ++ 10 ∷ more) ∙ ap (end_wants reading state number) (lines_of-line line more lacks)
          ∙ ap (where_it_stands (λ after. end_wants reading after (number + 1) (lines_of more))) goes.step_is;
      before = so_far.before ++ strip_carriage_return line ∷ [];
      counted = omega (arith, so_far.counted, length-append so_far.before (strip_carriage_return line ∷ []));
      went = state_after-push reading start state next number 1 so_far.before (strip_carriage_return line) goes.text so_far.went so_far.counted goes.step_is;
      lines = λ more.
          ap lines_of (joined more) ∙ so_far.lines (line ++ 10 ∷ more) ∙ ap (λ found. so_far.before ++ found) (lines_of-line line more lacks)
          ∙ sym (append_assoc so_far.before (strip_carriage_return line ∷ []) (lines_of more));
    }
  where
    joined : (more : List ℕ) → (so_far.read ++ (line ++ 10 ∷ [])) ++ more ≡ so_far.read ++ (line ++ 10 ∷ more)
    joined more = append_assoc so_far.read (line ++ 10 ∷ []) more ∙ ap (λ xs. so_far.read ++ xs) (append_assoc line (10 ∷ []) more)

-- one that wrote nothing
pub Progress-quiet : {S A : Type 0} (reading : Reading S A) (is_silent : S → Bool) (start state next : S) (number : ℕ) (block later : BlockState) (input rest after old new flushed newer : Option (List ℕ)) (line : List ℕ)
    → Progress reading is_silent start state number block input rest old new → Lacks 10 line → length line ≤ 129 → Takes block later rest after (line ++ 10 ∷ []) → Keeps new flushed
    → Goes reading (line_step reading state number (strip_carriage_return line)) is_silent state next flushed newer false
    → Progress reading is_silent start next (number + 1) later input after old newer
Progress-quiet reading is_silent start state next number block later input rest after old new flushed newer line so_far lacks short takes kept goes =
    progress_by reading is_silent start state next number block later later input rest after old new flushed newer line false so_far lacks short takes kept goes refl
    (λ text. let same = takes.same_block text in last_before reading start so_far.read (line ++ 10 ∷ []) block.taken later.taken (so_far.last same.0) same.1)

-- one that wrote something, which was noted
pub Progress-wrote : {S A : Type 0} (reading : Reading S A) (is_silent : S → Bool) (start state next : S) (number : ℕ) (block later noted : BlockState) (input rest after old new flushed newer : Option (List ℕ)) (line : List ℕ)
    → Progress reading is_silent start state number block input rest old new → Lacks 10 line → length line ≤ 129 → Takes block later rest after (line ++ 10 ∷ []) → Keeps new flushed
    → Goes reading (line_step reading state number (strip_carriage_return line)) is_silent state next flushed newer true → noted ≡ record later { has_text = true }
    → Progress reading is_silent start next (number + 1) noted input after old newer
Progress-wrote reading is_silent start state next number block later noted input rest after old new flushed newer line so_far lacks short takes kept goes is =
    let speaks = goes.speaks refl in
    progress_by reading is_silent start state next number block later noted input rest after old new flushed newer line true so_far lacks short takes kept goes (ap (λ b. b.ahead) is)
    (λ text. last_here reading is_silent start state next number block input rest old new line goes.text noted.taken so_far lacks goes.step_is speaks.0 (speaks.1 (number + 1)))
