-- A step that changed the world goes to the end of the history.
use Rattle.std.proofs.Common.{◌≡◌, false, arith}
use Rattle.std.proofs.lemmas.Grind.{common_steps}
use Rattle.setups.specs.Setups.{lists_of}
use Rattle.world.specs.World.{leaves_all, next, opening_world}
use Rattle.thread_reports.proofs.HistoryLemmas.{history_goes_on}
use Rattle.bridge_threads.proofs.shared.Shared.turn.Goals as goal

pub invariant_of-self : goal.invariant_of-self
invariant_of-self c =
    let changed : leaves_all (next c.self.inside.world c.args.step.now).answer ≡ false = cc (c.if-not-leaves_all.true, c.leaves_all.ensures, c.step-answer.ensures.answer) in (
      rw (c.push_reserved.ensures.items, c.step-answer.ensures.state)
          (history_goes_on (opening_world (lists_of c.self.inside.setup)) c.self.inside.steps.items c.self.inside.world c.args.step.now c.self.invariant.0 changed),
      grind (arith, common_steps, c.push_reserved.ensures.len, c.if-len-self.false, c.len.ensures),
      omega (arith, c.push_reserved.ensures.capacity, c.self.invariant.2),
    )

pub returns-else-not-leaves_all-clause-state : goal.returns-else-not-leaves_all-clause-state
returns-else-not-leaves_all-clause-state c = grind (arith, common_steps)

pub returns-else-not-leaves_all-clause-answer : goal.returns-else-not-leaves_all-clause-answer
returns-else-not-leaves_all-clause-answer c = grind (arith, common_steps)
