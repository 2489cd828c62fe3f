use Rattle.std.proofs.Common.{arith, rules}
use Rattle.std.proofs.lemmas.Grind.{common_steps}
use Rattle.std.proofs.lemmas.Option.{IfSome_then}
use Rattle.setups.specs.Setups.{lists_of, setup_fault}
use Rattle.bridge_threads.proofs.shared.Shared.new.Goals as goal

pub returns-in-Err-clause-refused : goal.returns-in-Err-clause-refused
returns-in-Err-clause-refused c = IfSome_then (setup_fault (lists_of c.args.setup.now)) c.in-Err.ensures.refused (λ fault same. cc)

pub returns-in-Err-clause-want : goal.returns-in-Err-clause-want
returns-in-Err-clause-want c = c.in-Err.ensures.want

pub returns-in_default-clause-refused : goal.returns-in_default-clause-refused
returns-in_default-clause-refused c = IfSome_then (setup_fault (lists_of c.args.setup.now)) c.in-Ok.ensures.refused (λ fault same. cc)

pub returns-clause-refused : goal.returns-clause-refused
returns-clause-refused c = IfSome_then (setup_fault (lists_of c.args.setup.now)) c.in-Ok.ensures.refused (λ fault same. cc)

pub returns-clause-opens : goal.returns-clause-opens
returns-clause-opens c = search rules

pub invariant_of-result : goal.invariant_of-result
invariant_of-result c = grind (arith, common_steps)
