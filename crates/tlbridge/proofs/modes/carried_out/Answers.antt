-- The flush changes nothing of what is known of the output.
use Rattle.std.proofs.Common.{◌≡◌, ◌≢◌, ◌⊎◌, inl, inr, refl, Bool, Err, List, [], Ok, Option, Some, Result, ℕ}
use Rattle.std.proofs.KnownBytes.{Appends-kept, Keeps-trans}
use Rattle.std.specs.Io.KnownBytes.{Keeps}
use Rattle.script_text.specs.Scripts.{EndsAfter, TextResult}
use Rattle.script_text.specs.declared.faults.ScriptFault.{ScriptFault}
use Rattle.script_text.specs.declared.faults.ScriptFault.TheVariants as script_fault
use Rattle.tlbridge.specs.Endings.{EndsAs}
use Rattle.tlbridge.specs.Modes.{Flushes}
use Rattle.tlbridge.specs.declared.faults.TextFault.{TextFault}
use Rattle.tlbridge.specs.declared.faults.TextFault.TheVariants.{Script, Setup, Read, Write, NoMemory, Thread}
use Rattle.tlbridge.proofs.modes.carried_out.Goals as goal

after_kept : (whole before : List ℕ → TextResult Bool) (judged ahead : List ℕ) (rest start old new : Option (List ℕ)) (ending : Result Bool ScriptFault) → Keeps old new
    → EndsAfter whole before judged ahead rest start old ending → EndsAfter whole before judged ahead rest start new ending
after_kept whole before judged ahead rest start old new (Ok answer) kept (all, tells) =
    (all, (Appends-kept start old new (whole judged).output tells.0 kept, tells.1))
after_kept whole before judged ahead rest start old new (Err (script_fault.Script line word)) kept (settled, tells) =
    (settled, (Appends-kept start old new (whole judged).output tells.0 kept, tells.1))
after_kept whole before judged ahead rest start old new (Err (script_fault.Setup fault)) kept (settled, tells) =
    (settled, (Appends-kept start old new (whole judged).output tells.0 kept, tells.1))
after_kept whole before judged ahead rest start old new (Err script_fault.Read) kept (none, tells) =
    (none, (Appends-kept start old new (before judged).output tells.0 kept, tells.1))
after_kept whole before judged ahead rest start old new (Err script_fault.Write) kept ends = ends
after_kept whole before judged ahead rest start old new (Err script_fault.NoMemory) kept (same, asks) =
    (Keeps-trans start old new same kept, asks)

ends_kept : (whole before : List ℕ → TextResult Bool) (input rest start old new : Option (List ℕ)) (ending : Result Bool TextFault) → Keeps old new
    → EndsAs whole before input rest start old ending → EndsAs whole before input rest start new ending
ends_kept whole before input rest start old new ending kept (read, same, ends) = (
  read,
  same,
  record {
    judged = ends.judged;
    ahead = ends.ahead;
    consumed = ends.consumed;
    bound = ends.bound;
    block = ends.block;
    ends = after_kept whole before ends.judged ends.ahead rest start old new read kept ends.ends;
  },
)

as_read : (whole before : List ℕ → TextResult Bool) (input rest start old new : Option (List ℕ)) (ending : Result Bool TextFault) → Keeps old new
    → EndsAs whole before input rest start old ending → Flushes (λ held. EndsAs whole before input rest start held) new ending
as_read whole before input rest start old new (Err Write) kept ends = (Err Write, old, ends, kept, inl refl)
as_read whole before input rest start old new (Ok refused) kept ends = ends_kept whole before input rest start old new (Ok refused) kept ends
as_read whole before input rest start old new (Err (Script line word)) kept ends = ends_kept whole before input rest start old new (Err (Script line word)) kept ends
as_read whole before input rest start old new (Err (Setup fault)) kept ends = ends_kept whole before input rest start old new (Err (Setup fault)) kept ends
as_read whole before input rest start old new (Err Read) kept ends = ends_kept whole before input rest start old new (Err Read) kept ends
as_read whole before input rest start old new (Err NoMemory) kept ends = ends_kept whole before input rest start old new (Err NoMemory) kept ends
as_read whole before input rest start old new (Err (Thread fault)) kept ends = ends_kept whole before input rest start old new (Err (Thread fault)) kept ends

flushes : (whole before : List ℕ → TextResult Bool) (input rest start old new : Option (List ℕ)) (ending result : Result Bool TextFault) → EndsAs whole before input rest start old ending → Keeps old new
    → (result ≡ ending) ⊎ ((result ≡ Err Write) × (old ≢ Some [])) → Flushes (λ held. EndsAs whole before input rest start held) new result
flushes whole before input rest start old new ending result ends kept (inl same) = rw same (as_read whole before input rest start old new ending kept ends)
flushes whole before input rest start old new ending result ends kept (inr (fault, some)) = rw fault (ending, old, ends, kept, inr some)

pub returns-clause-run : goal.returns-clause-run
returns-clause-run g c same =
    flushes _ _ _ _ _ _ _ c.ending_in-ending.result c.flushed.result (c.ending_in-ending.ensures.run same) c.flushed.ensures.kept c.flushed.ensures.told

pub returns-clause-check : goal.returns-clause-check
returns-clause-check g c same =
    flushes _ _ _ _ _ _ _ c.ending_in-ending.result c.flushed.result (c.ending_in-ending.ensures.check same) c.flushed.ensures.kept c.flushed.ensures.told
