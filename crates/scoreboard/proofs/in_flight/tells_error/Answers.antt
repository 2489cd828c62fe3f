-- Each beat is looked at.
use Rattle.std.proofs.Common.{◌||◌, rules, tests}
use Rattle.std.proofs.lemmas.Iterator.{YieldsList-from_slice}
use Rattle.std.proofs.lemmas.Iterator.Search.{any_from_yields_List}
use Rattle.tl_messages.specs.declared.DBeat.{DBeat}
use Rattle.scoreboard.proofs.in_flight.tells_error.Goals as goal

pub returns : goal.returns
returns c =
    any_from_yields_List (λ (beat : DBeat). beat.denied || beat.corrupt) _ _ _ c.any.ensures.ran (YieldsList-from_slice c.args.beats.now c.iter.ensures.rest)
    (λ x b q called. search (rules, tests))
