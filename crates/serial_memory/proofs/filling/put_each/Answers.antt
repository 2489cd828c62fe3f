-- Each turn puts one byte.
use Rattle.std.proofs.Common.{◌+◌, ◌/◌, length, refl, ◌∙◌}
use Rattle.sparse_memory.specs.SparseMemory.{bytes_in, doubts_in, faults_in}
use Rattle.serial_memory.proofs.FilledBytes.{filled-more, filled-none, good-byte, known-more, known-none}
use Rattle.serial_memory.proofs.filling.put_each.Goals as goal

pub loop-k-init : goal.loop-k-init
loop-k-init c = (refl, filled-none (bytes_in c.args.pages.now) c.args.address c.args.bytes.now, known-none (doubts_in c.args.pages.now) c.args.address, λ page. refl)

pub address_behind-requires : goal.address_behind-requires
address_behind-requires c = (good-byte (faults_in c.args.pages.now) c.args.address (length c.args.bytes.now) c.loop-k.k c.requires.good c.loop-k-test.true).0

pub put_byte-requires : goal.put_byte-requires
put_byte-requires c = record { room = rw c.address_behind.ensures (c.loop-k.invariant.3 ((c.args.address + c.loop-k.k) / 4096) ∙ c.requires.room c.loop-k.k c.loop-k-test.true) }

pub loop-k-preserved : goal.loop-k-preserved
loop-k-preserved c = (
  c.put_byte.ensures.faults ∙ c.loop-k.invariant.0,
  c.put_byte.ensures.bytes ∙ rw (c.address_behind.ensures, c.loop-k.invariant.1) (filled-more (bytes_in c.args.pages.now) c.args.address c.args.bytes.now c.loop-k.k),
  c.put_byte.ensures.doubts ∙ rw (c.address_behind.ensures, c.loop-k.invariant.2) (known-more (doubts_in c.args.pages.now) c.args.address c.loop-k.k),
  λ page. c.put_byte.ensures.rooms page ∙ c.loop-k.invariant.3 page,
)
