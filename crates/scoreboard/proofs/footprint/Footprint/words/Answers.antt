-- It is one, or as many as its bytes are eights.
use Rattle.std.proofs.Common.{ap, arith, ◌∙◌}
use Rattle.scoreboard.specs.InsideBoards.{FootprintState, words_of}
use Rattle.scoreboard.proofs.held.FootprintBytes.{many_words, one_word}
use Rattle.scoreboard.proofs.footprint.Footprint.words.Goals as goal

pub returns-then-self-lt3-clause-value : goal.returns-then-self-lt3-clause-value
returns-then-self-lt3-clause-value c = one_word c.self.inside.size c.if-self-lt3.true ∙ ap (λ (r : FootprintState). words_of r.size) c.self.view_is

pub returns-clause-value : goal.returns-clause-value
returns-clause-value c = (many_words c.self.inside.size (omega arith) c.self.invariant.1.small).0 ∙ ap (λ (r : FootprintState). words_of r.size) c.self.view_is

pub returns-clause-most : goal.returns-clause-most
returns-clause-most c = (many_words c.self.inside.size (omega arith) c.self.invariant.1.small).1
