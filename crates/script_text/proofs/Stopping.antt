-- At which line a script stops.
use Rattle.std.proofs.Common.{◌≡◌, ◌<◌, inl, inr, ℕ, ◌+◌, ◌-◌, ◌==◌, Bool, true, false, if◌then◌else◌, List, [], ◌∷◌, ◌++◌, length, length-append, take, Option, Result, Ok, Err, refl, sym, ap, subst, ◌∙◌, append_assoc, arith}
use Rattle.std.proofs.lemmas.List.{take-append-le, take-take}
use Rattle.std.specs.List.{slice_index}
use Rattle.std.specs.Str.Lines.{strip_carriage_return}
use Rattle.line_text.proofs.Parts.{Lacks}
use Rattle.line_text.specs.Words.{lines_of}
use Rattle.script_text.proofs.ScriptLines.{lines_of-last}
use Rattle.script_text.specs.Scripts.{EndsOrStops, LineStep, Reading, line_step}
use Rattle.script_text.specs.Steps.{Goes, TakesRest, TakesStep}
use Rattle.script_text.specs.Stops.{EndsHolding, StopsAt, StopsWithin, after_line, held_of, state_after}
use Rattle.script_text.specs.declared.faults.ScriptFault.{ScriptFault}
use Rattle.script_text.specs.declared.faults.ScriptFault.TheVariants.{Script}

-- ---- the state after lines

same_state : {S : Type 0} (a b : S) (step : Result S ScriptFault) → step ≡ Ok a → step ≡ Ok b → a ≡ b
same_state a b step is same = cc

-- after lines without fault come those behind them
pub state_after-then : {S A : Type 0} (reading : Reading S A) (state next : S) (number : ℕ) (lines more : List (List ℕ)) → state_after reading state number lines ≡ Ok next
    → state_after reading state number (lines ++ more) ≡ state_after reading next (number + length lines) more
state_after-then reading state next number [] more went =
    let same : number ≡ number + 0 = omega arith in
    ap (λ s. state_after reading s number more) (same_state state next (Ok state) refl went) ∙ ap (λ n. state_after reading next n more) same
state_after-then {S = S} reading state next number (line ∷ lines) more went =
    by_step (line_step reading state number line) (λ s. state_after-then reading s next (number + 1) lines more) went
  where
    by_step : (step : LineStep S)
        → ((s : S) → state_after reading s (number + 1) lines ≡ Ok next → state_after reading s (number + 1) (lines ++ more) ≡ state_after reading next (number + 1 + length lines) more)
        → after_line (λ s. state_after reading s (number + 1) lines) step ≡ Ok next
        → after_line (λ s. state_after reading s (number + 1) (lines ++ more)) step ≡ state_after reading next (number + length (line ∷ lines)) more
    by_step (Ok gone) behind well =
        let same : number + 1 + length lines ≡ number + length (line ∷ lines) = omega arith in
        behind gone.1 well ∙ ap (λ n. state_after reading next n more) same
    by_step (Err fault) behind well = absurd (cc (well))

-- one line more
pub state_after-push : {S A : Type 0} (reading : Reading S A) (start state next : S) (number first : ℕ) (before : List (List ℕ)) (line text : List ℕ) → state_after reading start first before ≡ Ok state → number ≡ first + length before
    → line_step reading state number line ≡ Ok (text, next) → state_after reading start first (before ++ line ∷ []) ≡ Ok next
state_after-push reading start state next number first before line text went counted step =
    state_after-then reading start state first before (line ∷ []) went ∙ ap (λ n. state_after reading state n (line ∷ [])) (sym counted)
    ∙ ap (after_line (λ s. state_after reading s (number + 1) [])) step

-- ---- behind lines without fault

-- what stops behind lines without fault stops with them
pub StopsAt-behind : {S A : Type 0} (reading : Reading S A) (start state : S) (number first : ℕ) (before more all : List (List ℕ)) (held : List ℕ) (fault : ScriptFault)
    → state_after reading start first before ≡ Ok state → number ≡ first + length before → all ≡ before ++ more → StopsAt reading state number more held fault → StopsAt reading start first all held fault
StopsAt-behind reading start state number first before more all held fault went counted is stops =
    record {
      before = before ++ stops.before;
      rest = stops.rest;
      parts = is ∙ ap (λ lines. before ++ lines) stops.parts ∙ sym (append_assoc before stops.before stops.rest);
      state = stops.state;
      went = state_after-then reading start state first before stops.before went ∙ ap (λ n. state_after reading state n stops.before) (sym counted) ∙ stops.went;
      number = stops.number;
      counted = omega (arith, counted, stops.counted, length-append before stops.before);
      at_fault = stops.at_fault;
    }

-- ---- the first of lines

-- no line is left, and the script's end has a fault
pub StopsAt-end : {S A : Type 0} (reading : Reading S A) (state : S) (number : ℕ) (fault : ScriptFault) → (reading.ending state number).result ≡ Err fault → StopsAt reading state number [] [] fault
StopsAt-end reading state number fault ends = record { before = []; rest = []; parts = refl; state = state; went = refl; number = number; counted = omega arith; at_fault = (refl, ends) }

-- the only line that is left has it
pub StopsAt-line : {S A : Type 0} (reading : Reading S A) (state : S) (number : ℕ) (line held : List ℕ) (fault : ScriptFault) → held ≡ held_of line → line_step reading state number line ≡ Err fault
    → StopsAt reading state number (line ∷ []) held fault
StopsAt-line reading state number line held fault is stops = record { before = []; rest = line ∷ []; parts = refl; state = state; went = refl; number = number; counted = omega arith; at_fault = (is, stops) }

-- ---- the last line, and the end

pub StopsWithin-end : {S A : Type 0} (reading : Reading S A) (state : S) (number : ℕ) (line : List ℕ) (grows silent : Bool) (w z : Option (List ℕ)) (result : Result A ScriptFault)
    → TakesRest (reading.ending state number) line grows silent w z result → StopsWithin reading state number [] [] result
StopsWithin-end reading state number line grows silent w z (Err (Script l word)) ends = StopsAt-end reading state number (Script l word) ends.1
StopsWithin-end reading state number line grows silent w z result ends = tt

pub StopsWithin-line : {S A : Type 0} (reading : Reading S A) (is_silent : S → Bool) (state next : S) (number : ℕ) (line : List ℕ) (grows silent : Bool) (w v y z : Option (List ℕ)) (wrote : Bool) (result : Result A ScriptFault) → Lacks 10 line → 0 < length line
    → Goes reading (line_step reading state number (strip_carriage_return line)) is_silent state next w v wrote → TakesRest (reading.ending next (number + 1)) [] grows silent y z result
    → StopsWithin reading state number (lines_of line) [] result
StopsWithin-line {A = A} reading is_silent state next number line grows silent w v y z wrote result lacks some goes ends = by_result result ends
  where
    by_result : (r : Result A ScriptFault) → TakesRest (reading.ending next (number + 1)) [] grows silent y z r → StopsWithin reading state number (lines_of line) [] r
    by_result (Err (Script l word)) told =
        StopsAt-behind reading state next (number + 1) number (strip_carriage_return line ∷ []) [] (lines_of line) [] (Script l word)
        (ap (after_line (λ s. state_after reading s (number + 1) [])) goes.step_is) refl (lines_of-last line lacks some)
        (StopsAt-end reading next (number + 1) (Script l word) told.1)
    by_result r told = tt

pub StopsWithin-fault : {S A : Type 0} (reading : Reading S A) (is_silent : S → Bool) (state next : S) (number : ℕ) (line held : List ℕ) (grows : Bool) (w v : Option (List ℕ)) (fault : ScriptFault) → Lacks 10 line → 0 < length line
    → held ≡ held_of (strip_carriage_return line) → TakesStep reading grows (line_step reading state number (strip_carriage_return line)) is_silent state next w v (Err fault)
    → StopsWithin {A = A} reading state number (lines_of line) held (Err fault)
StopsWithin-fault reading is_silent state next number line held grows w v (Script l word) lacks some is takes =
    subst (λ lines. StopsAt reading state number lines held (Script l word)) (sym (lines_of-last line lacks some)) (StopsAt-line reading state number (strip_carriage_return line) held (Script l word) is takes.0)
StopsWithin-fault reading is_silent state next number line held grows w v fault lacks some is takes = tt

-- of a line that is too long its first bytes, whatever ends them
pub long-held : (line : List ℕ) (byte : ℕ) → length line ≡ 129 → held_of line ≡ held_of (strip_carriage_return (line ++ byte ∷ []))
long-held line byte full = by_test (slice_index (line ++ byte ∷ []) (length (line ++ byte ∷ []) - 1) == 13)
  where
    whole : take 129 (line ++ byte ∷ []) ≡ take 129 line
    whole = take-append-le 129 line (byte ∷ []) (omega (arith, full))

    size : length (line ++ byte ∷ []) - 1 ≡ 129
    size = omega (arith, length-append line (byte ∷ []), full)

    by_test : (test : Bool) → take 129 line ≡ take 129 (if test then take (length (line ++ byte ∷ []) - 1) (line ++ byte ∷ []) else line ++ byte ∷ [])
    by_test true = sym (ap (λ n. take 129 (take n (line ++ byte ∷ []))) size ∙ take-take 129 129 (line ++ byte ∷ []) (omega arith) ∙ whole)
    by_test false = sym whole

-- a line of no bytes
pub no_line : (line : List ℕ) → length line ≡ 0 → line ≡ []
no_line [] none = refl
no_line (byte ∷ line) none = absurd (omega (arith, none))

-- ---- a call

-- without the line at which it stopped
pub ends_or_stops : {S A : Type 0} (grows : Bool) (reading : Reading S A) (start : S) (held : List ℕ) (input rest old new : Option (List ℕ)) (result : Result A ScriptFault) → EndsHolding grows reading start held input rest old new result
    → EndsOrStops grows reading start input rest old new result
ends_or_stops grows reading start held input rest old new result (inl (ends, stops)) = inl ends
ends_or_stops grows reading start held input rest old new result (inr stops) = inr stops
