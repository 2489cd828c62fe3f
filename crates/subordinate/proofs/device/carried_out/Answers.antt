-- The strobes of a legal write fit its transfers.
use Rattle.subordinate.proofs.TransferWords.{write_in_box}
use Rattle.subordinate.proofs.device.carried_out.Goals as goal

pub write-requires-clause-strobes : goal.write-requires-clause-strobes
write-requires-clause-strobes c = (write_in_box c.args.bus_bytes c.args.burst.now c.aw.result c.args.beat c.w.result c.requires.bus c.requires.legal c.aw.ensures c.w.ensures).1
