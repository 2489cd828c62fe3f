-- A page is what the range says that it is in.
use Rattle.std.proofs.Common.{None, Some, ap, sym, ◌∙◌}
use Rattle.std.specs.Option.{option_copied}
use Rattle.subordinate.specs.Faults.{write_response}
use Rattle.sparse_memory.proofs.RangeLaws.{standing-found}
use Rattle.sparse_memory.proofs.memory.SparseMemory.write_response.Goals as goal

pub returns-in-Some-clause-value : goal.returns-in-Some-clause-value
returns-in-Some-clause-value c =
    c.response_of.ensures
    ∙ ap write_response (standing-found c.args.self.now.ranges c.args.self.now.bad_words c.args.address (Some c.in-Some.range.now) (ap option_copied (sym c.in-Some.is) ∙ c.range_of.ensures.range))

pub returns-in-None-clause-value : goal.returns-in-None-clause-value
returns-in-None-clause-value c =
    ap write_response (standing-found c.args.self.now.ranges c.args.self.now.bad_words c.args.address None (ap option_copied (sym c.in-None.is) ∙ c.range_of.ensures.range))
