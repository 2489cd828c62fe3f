-- The flush changes nothing of what is known of the output.
use Rattle.std.proofs.Common.{◌≡◌, ◌≢◌, ◌⊎◌, inl, inr, refl, Bool, Err, List, [], Ok, Option, Some, Result, ℕ}
use Rattle.std.proofs.KnownBytes.{Appends-kept, Keeps-trans}
use Rattle.std.specs.Io.KnownBytes.{Keeps}
use Rattle.script_text.specs.declared.faults.ScriptFault.{ScriptFault}
use Rattle.threads_script.specs.Asked.{AskedLists}
use Rattle.tlbridge.specs.Modes.{Flushes}
use Rattle.tlbridge.specs.Threads.{EndsAsRead, RunsAs, RunsOn}
use Rattle.tlbridge.specs.declared.faults.TextFault.{TextFault}
use Rattle.tlbridge.specs.declared.faults.TextFault.TheVariants.{Script, Setup, Read, Write, NoMemory, Thread}
use Rattle.tlbridge.proofs.modes.carried_out_in_threads.Goals as goal

runs_kept : (asked : AskedLists) (held old new : Option (List ℕ)) (result : Result Bool TextFault) → Keeps old new → RunsAs asked held old result → RunsAs asked held new result
runs_kept asked held old new (Ok refused) kept (none, text) = (none, (text.0, (text.1.0, Appends-kept held old new text.0 text.1.1 kept)))
runs_kept asked held old new (Err Write) kept text = text
runs_kept asked held old new (Err (Thread fault)) kept (fails, same) = (fails, Keeps-trans held old new same kept)
runs_kept asked held old new (Err NoMemory) kept (fails, same) = (fails, Keeps-trans held old new same kept)
runs_kept asked held old new (Err (Script line word)) kept (fails, same) = (fails, Keeps-trans held old new same kept)
runs_kept asked held old new (Err (Setup fault)) kept (fails, same) = (fails, Keeps-trans held old new same kept)
runs_kept asked held old new (Err Read) kept (fails, same) = (fails, Keeps-trans held old new same kept)

ran_kept : (reading : Result AskedLists ScriptFault) (held old new : Option (List ℕ)) (result : Result Bool TextFault) → Keeps old new → RunsOn reading held old result → RunsOn reading held new result
ran_kept (Ok asked) held old new result kept ran = runs_kept asked held old new result kept ran
ran_kept (Err fault) held old new result kept (is, same) = (is, Keeps-trans held old new same kept)

ends_kept : (input rest before old new : Option (List ℕ)) (result : Result Bool TextFault) → Keeps old new → EndsAsRead input rest before old result → EndsAsRead input rest before new result
ends_kept input rest before old new result kept ends =
    record { reading = ends.reading; held = ends.held; read = ends.read; ran = ran_kept ends.reading ends.held old new result kept ends.ran }

as_read : (input rest before old new : Option (List ℕ)) (ending : Result Bool TextFault) → Keeps old new → EndsAsRead input rest before old ending → Flushes (λ held. EndsAsRead input rest before held) new ending
as_read input rest before old new (Err Write) kept ends = (Err Write, old, ends, kept, inl refl)
as_read input rest before old new (Ok refused) kept ends = ends_kept input rest before old new (Ok refused) kept ends
as_read input rest before old new (Err (Script line word)) kept ends = ends_kept input rest before old new (Err (Script line word)) kept ends
as_read input rest before old new (Err (Setup fault)) kept ends = ends_kept input rest before old new (Err (Setup fault)) kept ends
as_read input rest before old new (Err Read) kept ends = ends_kept input rest before old new (Err Read) kept ends
as_read input rest before old new (Err NoMemory) kept ends = ends_kept input rest before old new (Err NoMemory) kept ends
as_read input rest before old new (Err (Thread fault)) kept ends = ends_kept input rest before old new (Err (Thread fault)) kept ends

flushes : (input rest before old new : Option (List ℕ)) (ending result : Result Bool TextFault) → EndsAsRead input rest before old ending → Keeps old new
    → (result ≡ ending) ⊎ ((result ≡ Err Write) × (old ≢ Some [])) → Flushes (λ held. EndsAsRead input rest before held) new result
flushes input rest before old new ending result ends kept (inl same) = rw same (as_read input rest before old new ending kept ends)
flushes input rest before old new ending result ends kept (inr (fault, some)) = rw fault (ending, old, ends, kept, inr some)

pub returns-clause-ending : goal.returns-clause-ending
returns-clause-ending g c =
    flushes _ _ _ _ _ c.threads_text-ending.result c.flushed.result c.threads_text-ending.ensures c.flushed.ensures.kept c.flushed.ensures.told
