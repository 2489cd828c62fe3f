-- The W beats so far are appended.
use Rattle.std.proofs.Common.{◌≡◌, ◌++◌, map, take}
use Rattle.axi_beats.specs.Boxes.{w_beats_of}
use Rattle.axi_checker.specs.declared.AxiBeat.TheVariants.{W as OnW}
use Rattle.scoreboard.specs.declared.ObservedBeat.TheVariants.{Axi}
use Rattle.observed_run.proofs.runs.see_data.Given as goal

abbrev pub invariant-loop-k : goal.invariant-loop-k
invariant-loop-k l = l.seen.items ≡ l.fn.seen.items ++ map (λ beat. Axi (OnW beat)) (take l.k (w_beats_of l.burst))
