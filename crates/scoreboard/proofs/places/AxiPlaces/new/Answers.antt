use Rattle.std.proofs.Common.{rules}
use Rattle.scoreboard.proofs.places.AxiPlaces.new.Goals as goal

pub returns : goal.returns
returns c = search rules
