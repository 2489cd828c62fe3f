-- What the list of each lane becomes is a law of what the word's does.
use Rattle.std.proofs.Common.{◌≡◌, ◌∙◌, ap, sym, rules}
use Rattle.byte_values.specs.Words.{begun_word, lane_list}
use Rattle.byte_values.proofs.WordLaws.{lane_begun}
use Rattle.byte_values.proofs.word_values.WordValues.begin.Goals as goal

pub returns-then-len-lt-MOST-clause-lanes : goal.returns-then-len-lt-MOST-clause-lanes
returns-then-len-lt-MOST-clause-lanes c =
    let word : begun_word c.args.number c.args.lanes c.args.self.now
    ≡ record { settled = c.self.inside.settled; held = c.push.new.self.items } = search rules in
    λ lane below. ap (λ ws. lane_list lane ws) (sym word) ∙ lane_begun lane below c.args.number c.args.lanes c.args.self.now

pub returns-else-len-lt-MOST-clause-lanes : goal.returns-else-len-lt-MOST-clause-lanes
returns-else-len-lt-MOST-clause-lanes c =
    let word : begun_word c.args.number c.args.lanes c.args.self.now
    ≡ record { settled = record { value = 0; known = 0; lanes = 0 }; held = c.push-else-len-lt-MOST.new.self.items } = search rules in
    λ lane below. ap (λ ws. lane_list lane ws) (sym word) ∙ lane_begun lane below c.args.number c.args.lanes c.args.self.now
