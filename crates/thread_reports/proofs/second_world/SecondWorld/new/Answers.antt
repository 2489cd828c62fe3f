use Rattle.std.proofs.Common.{rules}
use Rattle.std.proofs.lemmas.Option.{IfSome_then}
use Rattle.setups.specs.Setups.{lists_of, setup_fault}
use Rattle.thread_reports.proofs.second_world.SecondWorld.new.Goals as goal

pub returns-in-Err-clause-refused : goal.returns-in-Err-clause-refused
returns-in-Err-clause-refused c = search rules

pub returns-in-Err-clause-want : goal.returns-in-Err-clause-want
returns-in-Err-clause-want c = c.in-Err.ensures.want

pub returns-in-Ok-new-clause-refused : goal.returns-in-Ok-new-clause-refused
returns-in-Ok-new-clause-refused c = IfSome_then (setup_fault (lists_of c.args.setup.now)) c.in-Ok.ensures.refused (λ fault same. cc)

pub returns-in-Err-new-clause-refused : goal.returns-in-Err-new-clause-refused
returns-in-Err-new-clause-refused c = IfSome_then (setup_fault (lists_of c.args.setup.now)) c.in-Ok.ensures.refused (λ fault same. cc)
