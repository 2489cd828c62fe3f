-- What the list of each lane becomes is a law of what the word's does.
use Rattle.std.proofs.Common.{◌≡◌, ◌∙◌, ap, arith, rules}
use Rattle.std.proofs.lemmas.Grind.{common_steps}
use Rattle.byte_values.specs.Words.{changed_word, lane_list}
use Rattle.byte_values.specs.contracts.word_values.WordValues.{the_view}
use Rattle.byte_values.proofs.WordLaws.{lane_changed}
use Rattle.byte_values.proofs.word_values.WordValues.apply.Goals as goal

pub returns-clause-lanes : goal.returns-clause-lanes
returns-clause-lanes c =
    let word : the_view (record { settled = c.self.inside.settled; held = c.keep_given.new.held }) ≡ changed_word c.args.change c.args.self.now =
    first_of (search rules, grind (arith, common_steps)) in
    λ lane below. ap (λ ws. lane_list lane ws) word ∙ lane_changed lane below c.args.change c.args.self.now
