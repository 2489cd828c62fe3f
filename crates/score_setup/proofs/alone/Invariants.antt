use Rattle.std.proofs.Common.{◌≡◌, map, take}
use Rattle.score_setup.specs.ScoreSetups.{page_alone}
use Rattle.score_setup.proofs.alone.Given as goal

abbrev pub invariant-loop-page : goal.invariant-loop-page
invariant-loop-page l = l.ranges.items ≡ map page_alone (take l.page-index l.pages)
