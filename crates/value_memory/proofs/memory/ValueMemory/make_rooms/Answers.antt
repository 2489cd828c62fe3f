-- Each turn makes room for the page of one byte.
use Rattle.std.proofs.Common.{◌≡◌, ◌+◌, ◌/◌, Err, arith, ap, rules, ◌∙◌}
use Rattle.subordinate.specs.Faults.{Faults, is_good, standing_at}
use Rattle.serial_memory.proofs.FilledBytes.{good-byte}
use Rattle.value_memory.specs.ValueMemory.{pages_of}
use Rattle.value_memory.proofs.FilledMemory.{alike_none, alike_pages, alike_room, alike_then, rooms-more, rooms-refused}
use Rattle.value_memory.proofs.memory.ValueMemory.make_rooms.Goals as goal

pub loop-k-init : goal.loop-k-init
loop-k-init c = (alike_none c.args.self.now, λ j below. absurd (omega (arith, below)))

pub address_behind-requires : goal.address_behind-requires
address_behind-requires c = (good-byte (pages_of c.args.self.now) c.args.address c.args.count c.loop-k.k c.requires c.loop-k-test.true).0

pub make_room-requires : goal.make_room-requires
make_room-requires c =
    let good =
    ap (λ x. is_good (standing_at (pages_of c.loop-k.self) x)) c.address_behind.ensures
    ∙ ap (λ (faults : Faults). is_good (standing_at faults (c.args.address + c.loop-k.k))) (alike_pages c.args.self.now c.loop-k.self c.loop-k.invariant.0)
    ∙ (good-byte (pages_of c.args.self.now) c.args.address c.args.count c.loop-k.k c.requires c.loop-k-test.true).1
    in
    record { good = good }

pub loop-k-preserved : goal.loop-k-preserved
loop-k-preserved c = (
  alike_then c.loop-k.invariant.0 (alike_room c.loop-k.self c.make_room.new.self (c.address_behind.result / 4096) c.make_room.ensures.state c.in_ok-make_room.ensures.rooms),
  rooms-more c.loop-k.self c.make_room.new.self c.args.address c.loop-k.k (c.address_behind.result / 4096) (ap (λ a. a / 4096) c.address_behind.ensures) c.in_ok-make_room.ensures.rooms c.loop-k.invariant.1,
)

pub returns-in_err-make_room-clause-cause : goal.returns-in_err-make_room-clause-cause
returns-in_err-make_room-clause-cause c =
    let same : c.from_residual.result ≡ Err c.in_err-make_room.field-0.0 = search rules in
    rw same
    (rooms-refused c.args.self.now c.loop-k.self c.args.address c.args.count c.loop-k.k (c.address_behind.result / 4096) c.loop-k.invariant.0 (ap (λ a. a / 4096) c.address_behind.ensures) c.loop-k-test.true
    c.in_err-make_room.ensures.cause)
