-- What was written is the line, or a front of it; the flush changes nothing of what is known of the output.
use Rattle.std.proofs.Common.{◌≡◌, ◌≢◌, ◌⊎◌, inl, inr, refl, sym, append-nil, Bool, false, Err, List, [], Ok, Option, Some, Result, ℕ}
use Rattle.std.proofs.KnownBytes.{Appends-kept}
use Rattle.std.specs.Io.KnownBytes.{Appends, Keeps}
use Rattle.std.specs.Prelude.{IsErrAnd}
use Rattle.line_text.specs.Writing.{StopsShort}
use Rattle.script_text.specs.declared.faults.ScriptFault.{ScriptFault}
use Rattle.script_text.specs.declared.faults.ScriptFault.TheVariants.{Write}
use Rattle.tlscore.specs.Version.{TellsVersion, version_text}
use Rattle.tlscore.proofs.version.version_told.Goals as goal

-- the line wasn't written to its end
stopped : (old new : Option (List ℕ)) (result : Result Bool ScriptFault) → IsErrAnd result (λ fault. fault ≡ Write) → StopsShort version_text old new → TellsVersion old new result
stopped old new (Ok is_wrong) fault short = absurd fault
stopped old new (Err other) fault (front, rest, some, is, wrote) = (fault, (rest, (front, is, wrote)))

-- the line was written, and then flushed, if it could be
written : (old held new : Option (List ℕ)) (result : Result Bool ScriptFault) → Appends old held version_text → Keeps held new
    → (result ≡ Ok false) ⊎ ((result ≡ Err Write) × (held ≢ Some [])) → TellsVersion old new result
written old held new result wrote kept (inl same) = rw same (refl, Appends-kept old held new version_text wrote kept)
written old held new result wrote kept (inr (fault, some)) =
    rw fault (refl, ([], (version_text, sym (append-nil version_text), Appends-kept old held new version_text wrote kept)))

pub returns-in_err-write_text-clause-told : goal.returns-in_err-write_text-clause-told
returns-in_err-write_text-clause-told g c =
    stopped _ _ c.from_residual.result c.from_residual.ensures.1 c.in_err-write_text.ensures.front

pub returns-clause-told : goal.returns-clause-told
returns-clause-told g c =
    written _ _ _ c.flushed.result c.in_ok-write_text.ensures.all c.flushed.ensures.kept c.flushed.ensures.told
