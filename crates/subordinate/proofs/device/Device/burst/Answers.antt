-- No open burst has the serial.
use Rattle.std.proofs.Common.{sym, ◌∙◌, refl, rules}
use Rattle.subordinate.specs.FreeMemory.{has_serial}
use Rattle.subordinate.proofs.OpenBursts.{found_none}
use Rattle.subordinate.proofs.device.Device.burst.Goals as goal

pub returns-in-None : goal.returns-in-None
returns-in-None c = rw (found_none (has_serial c.args.serial) c.args.self.now.memory.pending (sym c.place_of.ensures.place ∙ c.in-None.is)) refl

pub returns-in-Some : goal.returns-in-Some
returns-in-Some c = search rules
