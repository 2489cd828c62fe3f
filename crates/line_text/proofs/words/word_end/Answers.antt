use Rattle.line_text.proofs.WordPlaces.{from_next}
use Rattle.line_text.proofs.words.word_end.Goals as goal

pub returns-clause-before : goal.returns-clause-before
returns-clause-before c = from_next c.args.line.now c.args.start c.space_from.result c.requires.found c.space_from.ensures.before
