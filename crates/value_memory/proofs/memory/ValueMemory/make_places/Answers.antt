-- One list more is kept short.
use Rattle.std.proofs.Common.{◌/◌, false, arith, refl}
use Rattle.value_memory.proofs.MemoryGoes.{all_nowhere, keeps_none, tidied_more}
use Rattle.value_memory.specs.States.{contents_of, with_place}
use Rattle.value_memory.proofs.StateSteps.{word-more, words-all}
use Rattle.value_memory.proofs.memory.ValueMemory.make_places.Goals as goal

pub loop-place-init : goal.loop-place-init
loop-place-init c = (all_nowhere c.args.self.now.oldest false c.args.self.now, keeps_none c.args.self.now, refl)

pub loop-place-preserved : goal.loop-place-preserved
loop-place-preserved c =
    let more =
    tidied_more c.args.self.now c.loop-place.self c.make_place.new.self (c.loop-place.invariant.0, c.loop-place.invariant.1) c.make_place.ensures.goes c.make_place.ensures.rest
    in
    (more.0, more.1, word-more with_place c.args.range c.loop-place.place (c.word_at.result / 8) (contents_of c.args.self.now) (contents_of c.loop-place.self) (contents_of c.make_place.new.self) c.word_at.ensures.word c.make_place.ensures.state c.loop-place.invariant.2)

pub returns-clause-state : goal.returns-clause-state
returns-clause-state c =
    words-all with_place c.args.range c.loop-place.place (contents_of c.args.self.now) (contents_of c.loop-place.self)
    (omega (arith, c.loop-place-test.false, c.loop-place.auto.place-end, c.word_count-place-end.ensures)) c.loop-place.invariant.2
