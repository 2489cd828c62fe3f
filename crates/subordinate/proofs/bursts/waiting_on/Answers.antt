-- It is a beat of this open burst, or of a later one.
use Rattle.std.proofs.Common.{◌≡◌, ◌≤◌, ◌<◌, ℕ, arith, sym, ap, ◌∙◌}
use Rattle.std.specs.Prelude.{Some}
use Rattle.subordinate.specs.Inside.{count_waiting}
use Rattle.subordinate.proofs.BeatStates.{waiting-after, waiting-here, waiting-none}
use Rattle.subordinate.proofs.bursts.waiting_on.Goals as goal

pub returns-then-left-waiting : goal.returns-then-left-waiting
returns-then-left-waiting c =
    let items = c.args.bursts.now in
    let inside : c.loop-burst.left < count_waiting c.burst-item.result.beats = omega (arith, c.if-left-waiting.true, c.from-waiting.ensures, c.waiting.ensures.count) in
    sym c.loop-burst.invariant ∙ waiting-here items c.loop-burst.burst-index c.loop-burst.left c.burst-item.result c.nth_waiting.result c.loop-burst-test.true c.burst-item.is inside c.nth_waiting.ensures
    ∙ ap (λ (n : ℕ). Some (n, c.nth_waiting.result)) (sym c.serial.ensures)

pub loop-burst-preserved : goal.loop-burst-preserved
loop-burst-preserved c =
    let items = c.args.bursts.now in
    let n : c.from-waiting.result ≡ count_waiting c.burst-item.result.beats = c.from-waiting.ensures ∙ c.waiting.ensures.count in
    let past : count_waiting c.burst-item.result.beats ≤ c.loop-burst.left = omega (arith, n, c.if-left-waiting.false) in
    rw n (sym (waiting-after items c.loop-burst.burst-index c.loop-burst.left c.burst-item.result c.loop-burst-test.true c.burst-item.is past) ∙ c.loop-burst.invariant)

pub unreachable-requires : goal.unreachable-requires
unreachable-requires c =
    waiting-none c.args.bursts.now c.loop-burst.burst-index c.loop-burst.left c.args.k c.loop-burst-test.false c.loop-burst.invariant c.requires
