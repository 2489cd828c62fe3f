-- The flush changes nothing of what is known of the output.
use Rattle.std.proofs.Common.{◌≡◌, ◌≢◌, ◌⊎◌, inl, inr, refl, Bool, Err, List, [], Ok, Option, Some, Result, ℕ}
use Rattle.std.proofs.KnownBytes.{Appends-kept, Keeps-trans}
use Rattle.std.specs.Io.KnownBytes.{Keeps}
use Rattle.script_text.specs.Scripts.{EndsAfter, Reading, TextResult, text_before_failure, text_of}
use Rattle.script_text.specs.Stops.{EndsHolding}
use Rattle.script_text.specs.declared.faults.ScriptFault.{ScriptFault}
use Rattle.script_text.specs.declared.faults.ScriptFault.TheVariants.{Script, Setup, Read, Write, NoMemory}
use Rattle.tlscore.specs.Endings.{Flushes}
use Rattle.tlscore.proofs.endings.scored.Goals as goal

after_kept : (whole before : List ℕ → TextResult Bool) (judged ahead : List ℕ) (rest start old new : Option (List ℕ)) (ending : Result Bool ScriptFault) → Keeps old new
    → EndsAfter whole before judged ahead rest start old ending → EndsAfter whole before judged ahead rest start new ending
after_kept whole before judged ahead rest start old new (Ok answer) kept (all, tells) = (all, (Appends-kept start old new (whole judged).output tells.0 kept, tells.1))
after_kept whole before judged ahead rest start old new (Err (Script line word)) kept (settled, tells) = (settled, (Appends-kept start old new (whole judged).output tells.0 kept, tells.1))
after_kept whole before judged ahead rest start old new (Err (Setup fault)) kept (settled, tells) = (settled, (Appends-kept start old new (whole judged).output tells.0 kept, tells.1))
after_kept whole before judged ahead rest start old new (Err Read) kept (none, tells) = (none, (Appends-kept start old new (before judged).output tells.0 kept, tells.1))
after_kept whole before judged ahead rest start old new (Err Write) kept ends = ends
after_kept whole before judged ahead rest start old new (Err NoMemory) kept (same, asks) = (Keeps-trans start old new same kept, asks)

ends_kept : {S : Type 0} (grows : Bool) (reading : Reading S Bool) (first : S) (line : List ℕ) (input rest start old new : Option (List ℕ)) (ending : Result Bool ScriptFault) → Keeps old new
    → EndsHolding grows reading first line input rest start old ending → EndsHolding grows reading first line input rest start new ending
ends_kept grows reading first line input rest start old new ending kept (inl (ends, holds)) =
    inl (
      record {
        judged = ends.judged;
        ahead = ends.ahead;
        consumed = ends.consumed;
        bound = ends.bound;
        block = ends.block;
        ends = after_kept (text_of reading first) (text_before_failure reading first) ends.judged ends.ahead rest start old new ending kept ends.ends;
      },
      holds,
    )
ends_kept grows reading first line input rest start old new ending kept (inr (may, refused, stops)) =
    inr (
      may,
      refused,
      record {
        judged = stops.judged;
        ahead = stops.ahead;
        lines = stops.lines;
        consumed = stops.consumed;
        bound = stops.bound;
        block = stops.block;
        sound = stops.sound;
        carried_out = stops.carried_out;
        written = Appends-kept start old new (text_before_failure reading first stops.lines).output stops.written kept;
        cause = stops.cause;
      },
    )

as_read : {S : Type 0} (grows : Bool) (reading : Reading S Bool) (first : S) (line : List ℕ) (input rest start old new : Option (List ℕ)) (ending : Result Bool ScriptFault) → Keeps old new
    → EndsHolding grows reading first line input rest start old ending → Flushes (λ held. EndsHolding grows reading first line input rest start held) new ending
as_read grows reading first line input rest start old new (Err Write) kept ends = (Err Write, old, ends, kept, inl refl)
as_read grows reading first line input rest start old new (Ok wrong) kept ends = ends_kept grows reading first line input rest start old new (Ok wrong) kept ends
as_read grows reading first line input rest start old new (Err (Script at word)) kept ends = ends_kept grows reading first line input rest start old new (Err (Script at word)) kept ends
as_read grows reading first line input rest start old new (Err (Setup fault)) kept ends = ends_kept grows reading first line input rest start old new (Err (Setup fault)) kept ends
as_read grows reading first line input rest start old new (Err Read) kept ends = ends_kept grows reading first line input rest start old new (Err Read) kept ends
as_read grows reading first line input rest start old new (Err NoMemory) kept ends = ends_kept grows reading first line input rest start old new (Err NoMemory) kept ends

flushes : {S : Type 0} (grows : Bool) (reading : Reading S Bool) (first : S) (line : List ℕ) (input rest start old new : Option (List ℕ)) (ending result : Result Bool ScriptFault)
    → EndsHolding grows reading first line input rest start old ending → Keeps old new → (result ≡ ending) ⊎ ((result ≡ Err Write) × (old ≢ Some []))
    → Flushes (λ held. EndsHolding grows reading first line input rest start held) new result
flushes grows reading first line input rest start old new ending result ends kept (inl same) = rw same (as_read grows reading first line input rest start old new ending kept ends)
flushes grows reading first line input rest start old new ending result ends kept (inr (fault, some)) = rw fault (ending, old, ends, kept, inr some)

pub returns-clause-ends : goal.returns-clause-ends
returns-clause-ends g c =
    flushes _ _ _ _ _ _ _ _ _ c.score_text_with-ending.result c.flushed.result c.score_text_with-ending.ensures c.flushed.ensures.kept c.flushed.ensures.told
