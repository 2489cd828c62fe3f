-- One more page is all zero.
use Rattle.std.proofs.Common.{List, [], ◌∷◌, ◌++◌, ℕ, ◌∙◌, ap}
use Rattle.std.proofs.lemmas.List.{replicate_more}
use Rattle.subordinate.specs.Pages.{zero_words}
use Rattle.subordinate.proofs.pages.zero_pages.Goals as goal

pub loop-preserved : goal.loop-preserved
unfolding zero_words
loop-preserved c = c.in_ok-push.ensures.items ∙ ap (λ (pages : List (List ℕ)). pages ++ zero_words ∷ []) c.loop.invariant ∙ replicate_more c.loop.counter zero_words
