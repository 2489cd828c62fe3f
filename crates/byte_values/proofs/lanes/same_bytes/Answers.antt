-- Each lane is that of the two bytes there.
use Rattle.std.proofs.Common.{◌≡◌, ◌∙◌, ◌==◌, ap, ap₂, sym, lit<, get_or}
use Rattle.std.proofs.lemmas.Bool.{eq-eqb}
use Rattle.bus_words.specs.Lanes.{has_lane, lane_byte}
use Rattle.bus_words.proofs.BelowEight.{below_eight}
use Rattle.byte_values.proofs.LaneSets.{has_lane-every}
use Rattle.byte_values.proofs.lanes.same_bytes.Goals as goal

pub returns-then-a-b : goal.returns-then-a-b
returns-then-a-b c =
    λ lane below.
    has_lane-every lane below
    ∙ sym (eq-eqb (lane_byte c.args.a lane) (lane_byte c.args.b lane) (ap (λ word. lane_byte word lane) c.if-a-b.true))

pub returns : goal.returns
returns c =
    let of = c.mask_of.ensures.lanes in
    let a = c.to_le_bytes.ensures in
    let b = c.to_le_bytes-2.ensures in
    below_eight (λ lane. has_lane c.mask_of.result lane ≡ (lane_byte c.args.a lane == lane_byte c.args.b lane))
    (of 0 (lit< tt) ∙ ap₂ (λ xs ys. get_or xs 0 0 == get_or ys 0 0) a b)
    (of 1 (lit< tt) ∙ ap₂ (λ xs ys. get_or xs 1 0 == get_or ys 1 0) a b)
    (of 2 (lit< tt) ∙ ap₂ (λ xs ys. get_or xs 2 0 == get_or ys 2 0) a b)
    (of 3 (lit< tt) ∙ ap₂ (λ xs ys. get_or xs 3 0 == get_or ys 3 0) a b)
    (of 4 (lit< tt) ∙ ap₂ (λ xs ys. get_or xs 4 0 == get_or ys 4 0) a b)
    (of 5 (lit< tt) ∙ ap₂ (λ xs ys. get_or xs 5 0 == get_or ys 5 0) a b)
    (of 6 (lit< tt) ∙ ap₂ (λ xs ys. get_or xs 6 0 == get_or ys 6 0) a b)
    (of 7 (lit< tt) ∙ ap₂ (λ xs ys. get_or xs 7 0 == get_or ys 7 0) a b)
