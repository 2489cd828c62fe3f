use Rattle.std.proofs.Common.{◌≡◌, codes, arith, rules, refl}
use Rattle.std.proofs.lemmas.Grind.{common_steps}
use Rattle.std.proofs.lemmas.Slice.Eq.{text_from_reads}
use Rattle.tlbridge.proofs.modes.task_named.Goals as goal

pub returns-in-threads : goal.returns-in-threads
returns-in-threads c = let is : c.args.word.now ≡ codes "threads" = text_from_reads c.args.word.now (codes "threads") (omega arith) (search rules) in rw is refl

pub returns-in-check : goal.returns-in-check
returns-in-check c = grind (arith, common_steps)
