-- Each round leads on, and where one makes no step all is done.
use Rattle.std.proofs.Common.{◌+◌, ℕ, refl, ap, arith, sym}
use Rattle.world.specs.Laws.{IsDrained}
use Rattle.world.specs.World.{WorldState}
use Rattle.world.proofs.Drained.{drained_is, led_done, led_few, led_last, led_less, led_on}
use Rattle.world.proofs.world.World.drain.Goals as goal

pub loop-made-init : goal.loop-made-init
loop-made-init c = refl

pub overflow_add-made : goal.overflow_add-made
overflow_add-made c =
    let led = led_on c.loop-made.made c.make_round-more.result c.args.self.now c.loop-made.self c.make_round-more.new.self c.loop-made.invariant c.make_round-more.ensures.leads in
    omega (arith, led_few (c.loop-made.made + c.make_round-more.result) c.args.self.now c.make_round-more.new.self led)

pub loop-made-smaller : goal.loop-made-smaller
loop-made-smaller c = led_less c.make_round-more.result c.loop-made.self c.make_round-more.new.self c.make_round-more.ensures.leads (grind (arith, c.if-more-eq0.false))

pub loop-made-preserved : goal.loop-made-preserved
loop-made-preserved c = led_on c.loop-made.made c.make_round-more.result c.args.self.now c.loop-made.self c.make_round-more.new.self c.loop-made.invariant c.make_round-more.ensures.leads

done : (c : goal.Then-more-eq0) → IsDrained c.args.self.now c.loop-made.made c.make_round-more.new.self
done c =
    led_done c.loop-made.made c.make_round-more.result c.args.self.now c.loop-made.self c.make_round-more.new.self c.loop-made.invariant c.make_round-more.ensures.leads c.if-more-eq0.true c.make_round-more.ensures.laws
    (c.make_round-more.ensures.ends c.if-more-eq0.true)

pub returns-then-more-eq0-clause-drains : goal.returns-then-more-eq0-clause-drains
returns-then-more-eq0-clause-drains c = done c

pub returns-then-more-eq0-clause-answer : goal.returns-then-more-eq0-clause-answer
returns-then-more-eq0-clause-answer c = ap (λ (drained : ℕ × WorldState). drained.0) (sym (drained_is c.args.self.now c.make_round-more.new.self c.loop-made.made (done c)))

pub returns-then-more-eq0-clause-state : goal.returns-then-more-eq0-clause-state
returns-then-more-eq0-clause-state c = ap (λ (drained : ℕ × WorldState). drained.1) (sym (drained_is c.args.self.now c.make_round-more.new.self c.loop-made.made (done c)))

pub returns-then-more-eq0-clause-leads : goal.returns-then-more-eq0-clause-leads
returns-then-more-eq0-clause-leads c =
    led_last c.loop-made.made c.make_round-more.result c.args.self.now c.loop-made.self c.make_round-more.new.self c.loop-made.invariant c.make_round-more.ensures.leads c.if-more-eq0.true

pub returns-then-more-eq0-clause-laws : goal.returns-then-more-eq0-clause-laws
returns-then-more-eq0-clause-laws c = c.make_round-more.ensures.laws
