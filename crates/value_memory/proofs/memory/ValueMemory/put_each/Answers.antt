-- Each turn puts one byte.
use Rattle.std.proofs.Common.{◌+◌, ◌/◌, length, arith, ap, refl, ◌∙◌}
use Rattle.std.specs.Prelude.{slice_index}
use Rattle.serial_memory.proofs.FilledBytes.{good-byte}
use Rattle.value_memory.specs.States.{contents_of}
use Rattle.value_memory.specs.ValueMemory.{pages_of, rooms_in}
use Rattle.value_memory.proofs.FilledMemory.{first-all, first-more, first-none}
use Rattle.value_memory.proofs.MemoryGoes.{keeps_none, keeps_then}
use Rattle.value_memory.proofs.memory.ValueMemory.put_each.Goals as goal

pub loop-k-init : goal.loop-k-init
loop-k-init c = (keeps_none c.args.self.now, first-none c.args.address c.args.bytes.now (contents_of c.args.self.now))

pub address_behind-requires : goal.address_behind-requires
address_behind-requires c = (good-byte (pages_of c.args.self.now) c.args.address (length c.args.bytes.now) c.loop-k.k c.requires.good c.loop-k-test.true).0

pub put_byte-requires : goal.put_byte-requires
put_byte-requires c =
    let room =
    ap (λ a. rooms_in c.loop-k.self (a / 4096)) c.address_behind.ensures
    ∙ c.loop-k.invariant.0.pages.rooms ((c.args.address + c.loop-k.k) / 4096)
    ∙ c.requires.room c.loop-k.k c.loop-k-test.true
    in
    record { room = room }

pub loop-k-preserved : goal.loop-k-preserved
loop-k-preserved c = (
  keeps_then c.loop-k.invariant.0 c.put_byte.ensures.rest,
  first-more c.args.address c.address_behind.result c.loop-k.k (slice_index c.args.bytes.now c.loop-k.k) c.args.bytes.now (contents_of c.args.self.now) (contents_of c.loop-k.self) (contents_of c.put_byte.new.self) c.address_behind.ensures refl c.put_byte.ensures.state
      c.loop-k.invariant.1,
)

pub returns-clause-state : goal.returns-clause-state
returns-clause-state c =
    first-all c.args.address c.loop-k.k c.args.bytes.now (contents_of c.args.self.now) (contents_of c.loop-k.self) (omega (arith, c.loop-k-test.false, c.loop-k.auto.k-end)) c.loop-k.invariant.1
