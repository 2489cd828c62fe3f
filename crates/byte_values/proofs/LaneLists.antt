-- The list of a lane, where a list of a word changes.
use Rattle.std.proofs.Common.{◌≡◌, ℕ, Bool, true, false, ◌&&◌, ◌||◌, List, [], ◌∷◌, ◌++◌, map, cond, if◌then◌else◌, Option, None, Some, refl, ◌∙◌, ap}
use Rattle.std.specs.Prelude.{filter, option_map}
use Rattle.std.specs.List.{cons_option, list_any}
use Rattle.std.proofs.lemmas.List.Elements.{filter_map-append}
use Rattle.bus_words.specs.Lanes.{has_lane}
use Rattle.byte_orders.specs.Holdings.{Holding}
use Rattle.byte_values.specs.Words.{WordHolding, gives_lanes, holding_in, lane_holding, lane_holdings}
use Rattle.byte_values.proofs.LaneSets.{gives_none}

-- a holding, if it passes a test
abbrev pub kept_if : (Holding → Bool) → Option Holding → Option Holding
kept_if test None = None
kept_if test (Some h) = if test h then Some h else None

module _ (lane : ℕ) where
  pub given_first : (w : WordHolding) (ws : List WordHolding) → lane_holdings lane (w ∷ ws) ≡ cons_option (lane_holding lane w) (lane_holdings lane ws)
  unfolding lane_holdings
  given_first w ws = refl

  pub given_nothing : lane_holdings lane [] ≡ []
  unfolding lane_holdings
  given_nothing = refl

  pub given_appended : (xs ys : List WordHolding) → lane_holdings lane (xs ++ ys) ≡ lane_holdings lane xs ++ lane_holdings lane ys
  unfolding lane_holdings
  given_appended xs ys = filter_map-append (lane_holding lane) xs ys

  -- each that gives the lane changes as it does there
  pub given_mapped : (change : WordHolding → WordHolding) (there : Holding → Holding)
      → ((w : WordHolding) → lane_holding lane (change w) ≡ option_map there (lane_holding lane w)) → (ws : List WordHolding)
      → lane_holdings lane (map change ws) ≡ map there (lane_holdings lane ws)
  unfolding lane_holdings
  given_mapped change there same [] = refl
  given_mapped change there same (w ∷ ws) =
      ap (λ o. cons_option o (lane_holdings lane (map change ws))) (same w) ∙ by_option (lane_holding lane w) (given_mapped change there same ws)
    where
      by_option : (o : Option Holding) → lane_holdings lane (map change ws) ≡ map there (lane_holdings lane ws)
          → cons_option (option_map there o) (lane_holdings lane (map change ws)) ≡ map there (cons_option o (lane_holdings lane ws))
      by_option None rest = rest
      by_option (Some h) rest = ap (λ hs. there h ∷ hs) rest

  -- each that gives the lane gives it still where it passes a test there
  pub given_filtered : (change : WordHolding → WordHolding) (test : Holding → Bool)
      → ((w : WordHolding) → lane_holding lane (change w) ≡ kept_if test (lane_holding lane w)) → (ws : List WordHolding)
      → lane_holdings lane (map change ws) ≡ filter test (lane_holdings lane ws)
  unfolding lane_holdings
  given_filtered change test same [] = refl
  given_filtered change test same (w ∷ ws) =
      ap (λ o. cons_option o (lane_holdings lane (map change ws))) (same w) ∙ by_option (lane_holding lane w) (given_filtered change test same ws)
    where
      by_test : (b : Bool) (h : Holding) → lane_holdings lane (map change ws) ≡ filter test (lane_holdings lane ws)
          → cons_option (if b then Some h else None) (lane_holdings lane (map change ws))
          ≡ cond b (h ∷ filter test (lane_holdings lane ws)) (filter test (lane_holdings lane ws))
      by_test true h rest = ap (λ hs. h ∷ hs) rest
      by_test false h rest = rest

      by_option : (o : Option Holding) → lane_holdings lane (map change ws) ≡ filter test (lane_holdings lane ws)
          → cons_option (kept_if test o) (lane_holdings lane (map change ws)) ≡ filter test (cons_option o (lane_holdings lane ws))
      by_option None rest = rest
      by_option (Some h) rest = by_test (test h) h rest

  -- those that give no lane don't give this one
  pub given_kept : (ws : List WordHolding) → lane_holdings lane (filter gives_lanes ws) ≡ lane_holdings lane ws
  unfolding lane_holdings
  given_kept [] = refl
  given_kept (w ∷ ws) = by_test (gives_lanes w) refl (given_kept ws)
    where
      by_test : (b : Bool) → gives_lanes w ≡ b → lane_holdings lane (filter gives_lanes ws) ≡ lane_holdings lane ws
          → lane_holdings lane (cond b (w ∷ filter gives_lanes ws) (filter gives_lanes ws)) ≡ lane_holdings lane (w ∷ ws)
      by_test true is rest = ap (λ hs. cons_option (lane_holding lane w) hs) rest
      by_test false is rest =
          let none : has_lane w.lanes lane ≡ false = gives_none w lane is in
          rw none rest

  -- whether one of them passes a test there
  pub given_any : (test : Holding → Bool) (ws : List WordHolding)
      → list_any test (lane_holdings lane ws) ≡ list_any (λ w. has_lane w.lanes lane && test (holding_in lane w)) ws
  unfolding lane_holdings
  given_any test [] = refl
  given_any test (w ∷ ws) = by_test (has_lane w.lanes lane) (given_any test ws)
    where
      by_test : (b : Bool) → list_any test (lane_holdings lane ws) ≡ list_any (λ x. has_lane x.lanes lane && test (holding_in lane x)) ws
          → list_any test (cons_option (if b then Some (holding_in lane w) else None) (lane_holdings lane ws))
          ≡ ((b && test (holding_in lane w)) || list_any (λ x. has_lane x.lanes lane && test (holding_in lane x)) ws)
      by_test true rest = ap (λ found. test (holding_in lane w) || found) rest
      by_test false rest = rest

  -- the same behind one
  pub given_behind : (w : WordHolding) (xs ys : List WordHolding) → lane_holdings lane xs ≡ lane_holdings lane ys
      → lane_holdings lane (w ∷ xs) ≡ lane_holdings lane (w ∷ ys)
  unfolding lane_holdings
  given_behind w xs ys same = ap (λ hs. cons_option (lane_holding lane w) hs) same

-- two tests that answer alike find alike
pub any_same : (p q : WordHolding → Bool) → ((w : WordHolding) → p w ≡ q w) → (ws : List WordHolding) → list_any p ws ≡ list_any q ws
any_same p q same [] = refl
any_same p q same (w ∷ ws) = ap (λ b. b || list_any p ws) (same w) ∙ ap (λ b. q w || b) (any_same p q same ws)
