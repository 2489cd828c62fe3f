-- The address decides, or the data, or their end.
use Rattle.std.proofs.Common.{◌≡◌, ◌<◌, ◌≤◌, Bool, true, false, length, nat_le, sym, ◌∙◌, subst, arith}
use Rattle.std.specs.Prelude.{None, Option, Some, IfSome, if◌then◌else◌}
use Rattle.std.proofs.lemmas.Bool.{le-leb, lt-leb}
use Rattle.axi_beats.specs.Boxes.{w_beats_of}
use Rattle.axi_beats.specs.Bursts.{Burst}
use Rattle.axi_beats.specs.declared.AwBeat.{AwBeat}
use Rattle.axi_checker.specs.OpenBursts.{OpenBursts}
use Rattle.axi_checker.specs.Rules.{AxiPortLimits, burst_fault}
use Rattle.axi_checker.specs.declared.AxiRule.TheVariants.{WLast}
use Rattle.axi_checker.proofs.Judging.{address_fault_of, held_beside, judged_address, judged_data, judged_end, write_room}
use Rattle.axi_checker.proofs.rules.PortLimits.write_fault.Goals as goal

-- the end of the data
end_answer : (test : Bool) (port : AxiPortLimits) (open_bursts : OpenBursts) (held : Option Burst) (aw : AwBeat) → nat_le (length (w_beats_of held)) aw.len ≡ test
    → IfSome held (λ burst. (if nat_le (length (w_beats_of held)) aw.len then Some WLast else None) ≡ burst_fault port open_bursts burst)
    → IfSome held (λ burst. (if test then Some WLast else None) ≡ burst_fault port open_bursts burst)
end_answer test port open_bursts held aw is answer = subst (λ b. IfSome held (λ burst. (if b then Some WLast else None) ≡ burst_fault port open_bursts burst)) is answer

pub returns-in-Some-clause-rule : goal.returns-in-Some-clause-rule
returns-in-Some-clause-rule c =
    λ open_bursts ready.
    let held = c.args.burst.now in
    let aw = c.aw-aw.result in
    held_beside c.args.self open_bursts held aw c.args.outstanding (Some c.in-Some.rule) c.aw-aw.ensures (λ few. judged_address c.args.self open_bursts held aw c.in-Some.rule c.aw-aw.ensures (address_fault_of c.args.self open_bursts aw c.args.outstanding c.address_fault.result (rw c.of_write.ensures at c.address_fault.ensures.rule) few ∙ c.in-Some.is))

pub returns-in-Some-first_data_fault-clause-rule : goal.returns-in-Some-first_data_fault-clause-rule
returns-in-Some-first_data_fault-clause-rule c =
    λ open_bursts ready.
    let held = c.args.burst.now in
    let aw = c.aw-aw.result in
    held_beside c.args.self open_bursts held aw c.args.outstanding (Some c.in-Some-first_data_fault.rule) c.aw-aw.ensures (λ few.
    judged_data c.args.self open_bursts held aw c.in-Some-first_data_fault.rule c.aw-aw.ensures ready
    (address_fault_of c.args.self open_bursts aw c.args.outstanding c.address_fault.result (rw c.of_write.ensures at c.address_fault.ensures.rule) few ∙ c.in_default.is)
    (sym c.first_data_fault.ensures ∙ c.in-Some-first_data_fault.is))

pub returns-then-w_beats-from-clause-rule : goal.returns-then-w_beats-from-clause-rule
returns-then-w_beats-from-clause-rule c =
    λ open_bursts ready.
    let held = c.args.burst.now in
    let aw = c.aw-aw.result in
    let short : length (w_beats_of held) ≤ aw.len = omega (arith, c.w_beats.ensures, c.from.ensures, c.if-w_beats-from.true) in
    held_beside c.args.self open_bursts held aw c.args.outstanding (Some WLast) c.aw-aw.ensures (λ few.
    end_answer true c.args.self open_bursts held aw (le-leb (length (w_beats_of held)) aw.len short)
    (judged_end c.args.self open_bursts held aw c.aw-aw.ensures ready
    (address_fault_of c.args.self open_bursts aw c.args.outstanding c.address_fault.result (rw c.of_write.ensures at c.address_fault.ensures.rule) few ∙ c.in_default.is)
    (sym c.first_data_fault.ensures ∙ c.in_default-first_data_fault.is)))

pub returns-clause-rule : goal.returns-clause-rule
returns-clause-rule c =
    λ open_bursts ready.
    let held = c.args.burst.now in
    let aw = c.aw-aw.result in
    let enough : aw.len < length (w_beats_of held) = omega (arith, c.w_beats.ensures, c.from.ensures, c.if-w_beats-from.false) in
    held_beside c.args.self open_bursts held aw c.args.outstanding None c.aw-aw.ensures (λ few.
    end_answer false c.args.self open_bursts held aw (lt-leb (length (w_beats_of held)) aw.len enough)
    (judged_end c.args.self open_bursts held aw c.aw-aw.ensures ready
    (address_fault_of c.args.self open_bursts aw c.args.outstanding c.address_fault.result (rw c.of_write.ensures at c.address_fault.ensures.rule) few ∙ c.in_default.is)
    (sym c.first_data_fault.ensures ∙ c.in_default-first_data_fault.is)))

pub returns-clause-room : goal.returns-clause-room
returns-clause-room c = λ none.
    let room = rw c.of_write.ensures at c.address_fault.ensures.room c.in_default.is in
    write_room c.args.burst.now c.aw-aw.result c.args.self.ids c.args.outstanding c.args.self.depth c.aw-aw.ensures room.0 room.1
