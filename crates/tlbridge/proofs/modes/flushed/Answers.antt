use Rattle.std.proofs.Common.{rules}
use Rattle.tlbridge.proofs.modes.flushed.Goals as goal

pub returns-in-Err-clause-flushed : goal.returns-in-Err-clause-flushed
returns-in-Err-clause-flushed g c = search rules

pub returns-then-is_empty-clause-told : goal.returns-then-is_empty-clause-told
returns-then-is_empty-clause-told g c = search rules
