use Rattle.burst_plan.proofs.FaultLaws.{region_fault-none}
use Rattle.burst_plan.proofs.TranslationLaws.{translated-LeadsTo}
use Rattle.burst_plan.proofs.page_map.PageMap.translate.Goals as goal

pub translated-requires : goal.translated-requires
translated-requires c = rw c.as_slice.ensures.value ((region_fault-none c.self.inside.regions.items).0 c.self.invariant).in_range

pub returns-clause-place : goal.returns-clause-place
returns-clause-place c =
    rw (c.translated.ensures, c.as_slice.ensures.value, ← c.self.view_is)
    (translated-LeadsTo c.self.inside.regions.items c.args.operation c.args.address ((region_fault-none c.self.inside.regions.items).0 c.self.invariant).in_range)

pub returns-clause-map : goal.returns-clause-map
returns-clause-map c = rw (← c.self.view_is) ((region_fault-none c.self.inside.regions.items).0 c.self.invariant)
