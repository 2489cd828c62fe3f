-- Each byte of the word has the event of its lane.
use Rattle.value_memory.proofs.MemoryGoes.{gives_go}
use Rattle.value_memory.specs.States.{contents_of}
use Rattle.value_memory.proofs.StateSteps.{given-is}
use Rattle.value_memory.proofs.memory.ValueMemory.give.Goals as goal

pub returns-clause-goes : goal.returns-clause-goes
returns-clause-goes c =
    gives_go c.args.self.now c.change_at.new.self c.args.number c.args.address c.args.lanes c.args.known c.change_at.ensures.rest.counts c.change_at.ensures.held

pub returns-clause-state : goal.returns-clause-state
returns-clause-state c =
    given-is c.args.number c.args.address c.args.lanes c.args.known (contents_of c.args.self.now) (contents_of c.change_at.new.self) c.change_at.ensures.state
