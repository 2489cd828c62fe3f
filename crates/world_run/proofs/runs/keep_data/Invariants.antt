-- The W beats so far are appended.
use Rattle.std.proofs.Common.{◌≡◌, ◌++◌, map, take}
use Rattle.axi_beats.specs.Boxes.{w_beats_of}
use Rattle.world_run.specs.declared.SentBeat.TheVariants.{W}
use Rattle.world_run.proofs.runs.keep_data.Given as goal

abbrev pub invariant-loop-k : goal.invariant-loop-k
invariant-loop-k l = l.sent.items ≡ l.fn.sent.items ++ map W (take l.k (w_beats_of l.burst))
