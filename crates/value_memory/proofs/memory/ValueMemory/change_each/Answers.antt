-- The list of one word more changes.
use Rattle.std.proofs.Common.{◌/◌, arith, refl}
use Rattle.value_memory.specs.States.{changed, contents_of}
use Rattle.value_memory.proofs.MemoryGoes.{changed_more, changed_none, keeps_none, keeps_then}
use Rattle.value_memory.proofs.StateSteps.{word-more, words-all}
use Rattle.value_memory.proofs.memory.ValueMemory.change_each.Goals as goal

pub loop-place-init : goal.loop-place-init
loop-place-init c = (keeps_none c.args.self.now, changed_none c.args.range c.args.change c.args.self.now, refl)

pub loop-place-preserved : goal.loop-place-preserved
loop-place-preserved c = (
  keeps_then c.loop-place.invariant.0 c.change_at.ensures.rest,
  changed_more c.args.range c.loop-place.place (c.word_at.result / 8) c.args.change c.args.self.now c.loop-place.self c.change_at.new.self c.word_at.ensures.word c.loop-place.invariant.1 c.change_at.ensures.held,
  word-more (changed c.args.change) c.args.range c.loop-place.place (c.word_at.result / 8) (contents_of c.args.self.now) (contents_of c.loop-place.self) (contents_of c.change_at.new.self) c.word_at.ensures.word
      c.change_at.ensures.state c.loop-place.invariant.2,
)

pub returns-clause-state : goal.returns-clause-state
returns-clause-state c =
    words-all (changed c.args.change) c.args.range c.loop-place.place (contents_of c.args.self.now) (contents_of c.loop-place.self)
    (omega (arith, c.loop-place-test.false, c.loop-place.auto.place-end, c.word_count-place-end.ensures)) c.loop-place.invariant.2
