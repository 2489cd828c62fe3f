-- What is joined bit by bit has no more bits than the two numbers.
use Rattle.std.proofs.Common.{rules}
use Rattle.tl_messages.specs.declared.AtomicOp.TheVariants.{Xor, Or}
use Rattle.data_unit.proofs.AtomicLaws.{atomic_result-lt}
use Rattle.data_unit.proofs.atomics.apply.Goals as goal

pub returns-in-Xor-clause-fits : goal.returns-in-Xor-clause-fits
returns-in-Xor-clause-fits c = atomic_result-lt Xor c.args.operand_bytes c.args.old c.args.operand c.requires.old_fits c.requires.operand_fits

pub returns-in-Or-clause-fits : goal.returns-in-Or-clause-fits
returns-in-Or-clause-fits c = atomic_result-lt Or c.args.operand_bytes c.args.old c.args.operand c.requires.old_fits c.requires.operand_fits

pub returns-in-Max-clause-value : goal.returns-in-Max-clause-value
returns-in-Max-clause-value c = search rules
