-- What the list of each lane becomes is a law of what the word's does.
use Rattle.std.proofs.Common.{◌≡◌, ◌∙◌, ap, arith, rules}
use Rattle.std.proofs.lemmas.Grind.{common_steps}
use Rattle.byte_values.specs.Words.{lane_list, pruned_word}
use Rattle.byte_values.proofs.WordLaws.{lane_pruned}
use Rattle.byte_values.proofs.word_values.WordValues.prune.Goals as goal

pub returns-clause-lanes : goal.returns-clause-lanes
returns-clause-lanes c =
    let word : c.settle.new.self ≡ pruned_word c.args.oldest c.args.now c.args.self.now = first_of (search rules, grind (arith, common_steps)) in
    λ lane below. ap (λ ws. lane_list lane ws) word ∙ lane_pruned lane below c.args.oldest c.args.now c.args.self.now
