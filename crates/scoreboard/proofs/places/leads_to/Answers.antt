use Rattle.std.proofs.Common.{rules}
use Rattle.scoreboard.proofs.places.leads_to.Goals as goal

pub returns-then-region-page : goal.returns-then-region-page
returns-then-region-page c = search rules
