-- One client more.
use Rattle.std.proofs.Common.{◌++◌, [], ◌∷◌, ℕ, List, ap₂, arith, sym, ◌∙◌}
use Rattle.std.proofs.lemmas.List.FromFn.{map-range_with_len_more}
use Rattle.scoreboard.proofs.unknown.unknown_of.Goals as goal

pub loop-client-preserved : goal.loop-client-preserved
loop-client-preserved c =
    c.in_ok-push.ensures.items
    ∙ ap₂ (λ (made : List (List ℕ)) (one : List ℕ). made ++ one ∷ []) c.loop-client.invariant c.in_ok-new.ensures
    ∙ sym (map-range_with_len_more (λ k. []) 0 c.loop-client.client c.loop-client.client (omega arith))
