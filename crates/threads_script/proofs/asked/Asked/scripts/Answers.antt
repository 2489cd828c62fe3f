-- The first lists are the lists of the first.
use Rattle.std.proofs.Common.{◌∙◌, sym, rules}
use Rattle.std.proofs.lemmas.List.{take-map}
use Rattle.threads_script.proofs.asked.Asked.scripts.Goals as goal

pub returns-clause-items : goal.returns-clause-items
returns-clause-items c = sym (take-map (λ list. list.items) c.from.result c.deref.result.now) ∙ search rules
