-- A reply has 512 beats at most.
use Rattle.std.proofs.Common.{◌≡◌, ◌≤◌, ◌∙◌, ap, arith, length, rules}
use Rattle.tl_messages.specs.Operations.{reply_has_data}
use Rattle.tl_messages.specs.Requests.{request_of}
use Rattle.tl_messages.proofs.BeatCounts.{beats_of-le}
use Rattle.serial_memory.specs.SerialMemory.{meaning_in, memory_of}
use Rattle.scoreboard.specs.Orders.{reply_beats}
use Rattle.scoreboard.proofs.real_time.Lengths.{length-shown}
use Rattle.scoreboard.proofs.in_flight.InFlight.carry_out.Goals as goal

pub invariant_of-self : goal.invariant_of-self
invariant_of-self c =
    let q = request_of c.args.request.now in
    let small : q.size ≤ 12 = omega (arith, c.requires.checked.1, c.requires.checked.2.size) in
    let many : length c.carry_out.new.reply ≡ reply_beats q = ap length c.carry_out.ensures.reply ∙ length-shown q (meaning_in (memory_of c.args.serial.now) q).reply in
    (omega arith, omega (arith, many, beats_of-le q.size (reply_has_data q.operation) small), omega arith)

pub returns-clause-memory : goal.returns-clause-memory
returns-clause-memory c = search rules
