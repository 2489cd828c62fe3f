use Rattle.std.proofs.Common.{◌<◌, length, ◌∙◌, arith}
use Rattle.line_text.proofs.WordPlaces.{words_of-space}
use Rattle.line_text.proofs.words.word_after.Goals as goal

pub returns-clause-same : goal.returns-clause-same
returns-clause-same c =
    let within : c.args.end < length c.args.line.now = omega (arith, c.requires.within) in
    words_of-space c.args.line.now c.args.end within (c.requires.found within) ∙ c.word_from.ensures.same
