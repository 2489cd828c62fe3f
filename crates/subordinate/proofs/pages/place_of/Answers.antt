-- A page that stands at the guess stands nowhere else.
use Rattle.std.proofs.Common.{sym}
use Rattle.bus_words.proofs.DistinctPlaces.{position_here}
use Rattle.subordinate.proofs.pages.place_of.Goals as goal

pub returns-then-numbers-guess : goal.returns-then-numbers-guess
returns-then-numbers-guess c = sym (position_here c.args.numbers.now c.guess-guess.result 0 c.args.number c.requires c.if-guess-numbers.true c.if-numbers-guess.true)
