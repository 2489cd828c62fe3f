-- A lane is in both masks where the one loses it to the other.
use Rattle.std.proofs.Common.{◌≡◌, ℕ, ◌-◌, Bool, true, false, not, ◌&&◌, ◌||◌, List, [], ◌∷◌, refl, ◌∙◌, ap, arith}
use Rattle.std.specs.List.{list_all, list_any, range_with_len}
use Rattle.bus_words.specs.Lanes.{has_lane}
use Rattle.bus_words.proofs.Inclusion.{bit_and-list_all}
use Rattle.scoreboard.proofs.held.FootprintBytes.{has_lane-not}
use Rattle.value_board.proofs.unknown.some_unknown.Goals as goal

turned : (a b c : Bool) → not ((not a || not b) && c) ≡ (a && b || not c)
turned true true c = refl
turned true false true = refl
turned true false false = refl
turned false b true = refl
turned false b false = refl

not_all : (p q : ℕ → Bool) (xs : List ℕ) → not (list_all (λ x. not (p x) || not (q x)) xs) ≡ list_any (λ x. p x && q x) xs
not_all p q [] = refl
not_all p q (x ∷ xs) = turned (p x) (q x) (list_all (λ x. not (p x) || not (q x)) xs) ∙ ap (λ b. p x && q x || b) (not_all p q xs)

pub returns : goal.returns
returns c =
    let looked = c.args.looked in
    ap not (bit_and-list_all c.args.lanes (255 - looked) (λ lane. not (has_lane looked lane)) (omega arith) (λ lane below. has_lane-not looked lane (omega arith) below))
    ∙ not_all (has_lane c.args.lanes) (has_lane looked) (range_with_len 0 8)
