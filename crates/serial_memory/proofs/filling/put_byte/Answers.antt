-- One byte of its word is strobed.
use Rattle.std.proofs.Common.{◌∙◌}
use Rattle.sparse_memory.specs.SparseMemory.{bytes_in, doubts_in}
use Rattle.serial_memory.proofs.FilledBytes.{byte-known, byte-put}
use Rattle.serial_memory.proofs.filling.put_byte.Goals as goal

pub returns-clause-bytes : goal.returns-clause-bytes
returns-clause-bytes c = c.put_doubts.ensures.bytes ∙ c.put_word.ensures.bytes ∙ rw (c.place.ensures.value, c.full_mask-strobes.ensures.value, c.from.ensures) (byte-put (bytes_in c.args.pages.now) c.args.address c.args.byte c.ranges.byte.fits)

pub returns-clause-doubts : goal.returns-clause-doubts
returns-clause-doubts c = c.put_doubts.ensures.doubts ∙ rw (c.full_mask-strobes.ensures.value, c.put_word.ensures.doubts) (byte-known (doubts_in c.args.pages.now) c.args.address)
