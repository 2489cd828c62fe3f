-- The burst of the serial, if it is open, and the effect of its beat by addresses.
use Rattle.std.proofs.Common.{sym, ap, ◌∙◌, refl, rules}
use Rattle.std.specs.Prelude.{Some}
use Rattle.subordinate.specs.FreeMemory.{has_serial}
use Rattle.subordinate.specs.declared.BeatState.{BeatState}
use Rattle.subordinate.proofs.OpenBursts.{found_none}
use Rattle.subordinate.proofs.WaitingBeats.{PerformsWaiting, performs_waiting}
use Rattle.subordinate.proofs.device.Device.perform.Goals as goal
use Rattle.subordinate.proofs.device.Device.perform.Goals.{After-perform_at}

pub returns-in_default-clause-answer : goal.returns-in_default-clause-answer
returns-in_default-clause-answer c = rw (found_none (has_serial c.args.serial) c.args.self.now.memory.pending (sym c.place_of.ensures.place ∙ c.in_default.is)) refl

pub returns-in_default-clause-state : goal.returns-in_default-clause-state
returns-in_default-clause-state c = rw (found_none (has_serial c.args.serial) c.args.self.now.memory.pending (sym c.place_of.ensures.place ∙ c.in_default.is)) refl

-- what it does where the beat waits
performs : (c : After-perform_at) → PerformsWaiting c.args.self.now c.perform_at.new.self c.args.serial c.args.beat
performs c =
    let place = sym c.place_of.ensures.place ∙ c.in-Some.is in
    performs_waiting c.args.self.now c.perform_at.new.self c.args.serial c.args.beat c.open_at.result.now c.place_of.ensures.laws (c.open_at.ensures.found (has_serial c.args.serial) place) c.open_at.ensures.sound
    (sym c.beat_at.ensures ∙ c.in-Some-Waiting.is ∙ ap (λ (state : BeatState). Some state) c.in-Some-Waiting.field-0-is) (c.perform_at.ensures.state (has_serial c.args.serial) place)

pub returns-in-Some-Waiting-clause-state : goal.returns-in-Some-Waiting-clause-state
returns-in-Some-Waiting-clause-state c = (performs (goal.at.returns-in-Some-Waiting-clause-state c).After-perform_at).state

pub returns-in-Some-Waiting-clause-effect : goal.returns-in-Some-Waiting-clause-effect
returns-in-Some-Waiting-clause-effect c = λ is_done. (performs (goal.at.returns-in-Some-Waiting-clause-effect c).After-perform_at).effect

pub returns-in-Some-Waiting-clause-order : goal.returns-in-Some-Waiting-clause-order
returns-in-Some-Waiting-clause-order c = (performs (goal.at.returns-in-Some-Waiting-clause-order c).After-perform_at).order

pub returns-in-Some-Waiting-clause-monitor : goal.returns-in-Some-Waiting-clause-monitor
returns-in-Some-Waiting-clause-monitor c = (performs (goal.at.returns-in-Some-Waiting-clause-monitor c).After-perform_at).monitor

pub returns-in-Some-beat_at : goal.returns-in-Some-beat_at
returns-in-Some-beat_at c = search rules
