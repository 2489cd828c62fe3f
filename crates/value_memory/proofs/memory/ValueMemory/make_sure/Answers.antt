-- It is one event to each byte of the words.
use Rattle.value_memory.proofs.MemoryGoes.{sure_go}
use Rattle.value_memory.specs.States.{contents_of}
use Rattle.value_memory.proofs.StateSteps.{sure-is}
use Rattle.value_memory.proofs.memory.ValueMemory.make_sure.Goals as goal

pub returns-clause-goes : goal.returns-clause-goes
returns-clause-goes c = sure_go c.args.self.now c.change_each.new.self c.args.range c.args.number c.change_each.ensures.rest.counts c.change_each.ensures.held

pub returns-clause-state : goal.returns-clause-state
returns-clause-state c = sure-is c.args.number c.args.range (contents_of c.args.self.now) (contents_of c.change_each.new.self) c.change_each.ensures.state
