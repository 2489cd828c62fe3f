-- Where bursts go (this project's profile): a bridge sends each to an AXI page to which one of its regions leads. No other rule plays a part, and no
-- beat before.
use Rattle.std.specs.Prelude.{ℕ, ◌+◌, ◌/◌, Bool, ◌&&◌, List, Option, Some, None, if◌then◌else◌, nat_le, nat_lt}
use Rattle.std.specs.List.{list_any}
use Rattle.axi_checker.specs.declared.AxiBeat.TheVariants.{Ar as OnAr, Aw as OnAw}
use Rattle.burst_plan.specs.declared.Region.{Region}
use Rattle.scoreboard.specs.declared.ObservedBeat.{ObservedBeat}
use Rattle.scoreboard.specs.declared.ObservedBeat.TheVariants.{Axi as OnAxi}
use Rattle.scoreboard.specs.declared.Wrong.{Wrong}
use Rattle.scoreboard.specs.declared.Wrong.TheVariants.{Place}

-- whether a region leads to an AXI page
abbrev pub leads_to : ℕ → Region → Bool
leads_to page region = nat_le region.axi_page page && nat_lt page (region.axi_page + region.pages)

-- what is wrong with a burst to an address: no region leads to its page
abbrev pub misplaced : List Region → ℕ → Option Wrong
misplaced regions address = if list_any (leads_to (address / 4096)) regions then None else Some Place

-- what is wrong with the place of a beat, if anything is: only an AW and an AR beat have one
abbrev pub wrong_place : List Region → ObservedBeat → Option Wrong
wrong_place regions (OnAxi (OnAw aw)) = misplaced regions aw.address
wrong_place regions (OnAxi (OnAr ar)) = misplaced regions ar.address
wrong_place regions seen = None
