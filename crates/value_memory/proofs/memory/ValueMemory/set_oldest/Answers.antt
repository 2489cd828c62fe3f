-- No request in flight is older, and then lists are kept short.
use Rattle.std.proofs.Common.{ℕ, [], false, subst}
use Rattle.value_memory.specs.ValueMemory.{AllGo, to_all}
use Rattle.value_memory.proofs.MemoryGoes.{all_after}
use Rattle.value_memory.proofs.memory.ValueMemory.set_oldest.Goals as goal

pub returns-clause-goes : goal.returns-clause-goes
returns-clause-goes c =
    let between = c.raise_oldest.new.self in
    let goes : ℕ → Type 0 = λ oldest. AllGo oldest false between c.tidy_each.new.self (to_all []) in
    all_after c.args.oldest false c.args.self.now between c.tidy_each.new.self (to_all []) c.raise_oldest.ensures.goes
    (subst goes c.raise_oldest.ensures.oldest c.tidy_each.ensures.goes)
