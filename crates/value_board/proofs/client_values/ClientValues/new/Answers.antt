-- There is room, and of no source was anything asked.
use Rattle.std.proofs.Common.{◌∙◌, List, ap, arith, length, subst, sym}
use Rattle.std.specs.List.{AllByRecursion}
use Rattle.std.proofs.lemmas.List.{length-replicate}
use Rattle.value_board.specs.ClientValues.{HasRange, IsAsked, never_asked}
use Rattle.value_board.specs.declared.client_values.Asked.{Asked}
use Rattle.value_board.specs.declared.client_values.Begun.{Begun}
use Rattle.value_board.proofs.NumberLists.{never_all}
use Rattle.value_board.proofs.client_values.ClientValues.new.Goals as goal

pub invariant_of-result : goal.invariant_of-result
invariant_of-result c = (
  ap (λ (sources : List Asked). length sources) c.in_ok-sources.ensures ∙ length-replicate 256 never_asked,
  omega (arith, c.in_ok-with_capacity-2.ensures.exact),
  omega (arith, c.in_ok-with_capacity.ensures.exact),
  record {
    by_source = subst (λ (sources : List Asked). AllByRecursion IsAsked sources) (sym c.in_ok-sources.ensures) (never_all 256);
    answering = tt;
    coming = tt;
    live = subst (λ (live : List Begun). AllByRecursion HasRange live) (sym c.in_ok-with_capacity-2.ensures.items) tt;
  },
)
