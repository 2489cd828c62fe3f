use Rattle.std.proofs.Common.{◌≡◌, ◌/◌, drop, find}
use Rattle.burst_plan.specs.PageMap.{holds_page}
use Rattle.burst_plan.proofs.page_map.translated.Given as goal

-- the regions gone by don't hold the page
abbrev pub invariant-loop-region : goal.invariant-loop-region
invariant-loop-region l = find (holds_page (l.address / 4096)) l.regions ≡ find (holds_page (l.address / 4096)) (drop l.region-index l.regions)
