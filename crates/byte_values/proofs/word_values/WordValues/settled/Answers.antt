-- No writer is left, and all lanes have settled.
use Rattle.std.proofs.Common.{◌≡◌, ◌∙◌, List, [], ◌∷◌, ap, sym, refl, arith, length}
use Rattle.byte_values.specs.Words.{WordHolding, lane_list}
use Rattle.byte_values.proofs.WordLaws.{lane_alone}
use Rattle.byte_values.proofs.word_values.WordValues.settled.Goals as goal

none_held : (hs : List WordHolding) → length hs ≡ 0 → hs ≡ []
none_held [] none = refl
none_held (h ∷ hs) none = absurd (omega (arith, none))

pub returns-clause-lanes : goal.returns-clause-lanes
returns-clause-lanes c =
    let none : length c.self.inside.held.items ≡ 0 = omega arith in
    λ lane below.
    ap (λ ws. lane_list lane ws) (sym c.self.view_is)
    ∙ ap (λ hs. lane_list lane (record { settled = c.self.inside.settled; held = hs })) (none_held c.self.inside.held.items none)
    ∙ lane_alone lane below c.self.inside.settled c.if-self.false
