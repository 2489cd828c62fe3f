-- Serials rise in the order sent.
use Rattle.std.proofs.Common.{rules, ◌∙◌}
use Rattle.std.proofs.lemmas.List.Sorted.{answers_always}
use Rattle.subordinate.proofs.OpenBursts.{place_of_serial}
use Rattle.subordinate.proofs.bursts.searched.Goals as goal

pub returns : goal.returns
returns c =
    let facts = c.binary_search_by_key.ensures in
    let by_serial = facts.position (λ p. p.serial) (answers_always _ _ _ (λ f a r g called. search rules)) in
    c.ok.ensures.value ∙ place_of_serial 0 c.requires.0 c.args.bursts.now c.args.serial _ c.requires.1 facts.bound by_serial
