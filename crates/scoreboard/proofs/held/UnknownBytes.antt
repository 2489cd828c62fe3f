-- Where nobody gave a byte that nobody knows, none is in doubt for it.
use Rattle.std.proofs.Common.{◌≡◌, ℕ, zero, suc, ◌-◌, ◌/◌, ◌%◌, ◌^◌, ◌==◌, rules, Bool, true, false, not, ◌&&◌, ◌||◌, List, [], ◌∷◌, map, Option, Some, None, refl, ◌∙◌, ap, arith}
use Rattle.std.specs.Prelude.{is_some, nat_le, slice_get, slice_index_or}
use Rattle.std.specs.List.{range_with_len}
use Rattle.std.specs.Option.{option_flatten, option_map}
use Rattle.std.proofs.Math.Path.{fun_ext}
use Rattle.std.proofs.lemmas.Option.{slice_get-map}
use Rattle.bus_words.specs.Lanes.{given_at, has_lane}
use Rattle.tl_messages.specs.Operations.{has_data}
use Rattle.tl_messages.specs.Requests.{HeldMessage, WholeRequest, bytes_given, request_of}
use Rattle.scoreboard.specs.Unknown.{after_unknown, has_unknown}
use Rattle.scoreboard.proofs.held.FootprintBytes.{no_lane}

-- ---- lanes

zero_is : (lane : ℕ) (rest : Bool) → (not (lane == 0) || rest) ≡ false → lane ≡ 0
zero_is zero rest none = refl
zero_is (suc lane) rest none = search rules

rest_is : (lane : ℕ) (rest : Bool) → (not (lane == 0) || rest) ≡ false → rest ≡ false
rest_is zero rest none = none
rest_is (suc lane) rest none = search rules

lanes_zero : (lanes : List ℕ) (k : ℕ) → has_unknown lanes ≡ false → slice_index_or lanes k 0 ≡ 0
lanes_zero [] k none = refl
lanes_zero (lane ∷ lanes) zero none = zero_is lane (has_unknown lanes) none
lanes_zero (lane ∷ lanes) (suc k) none = lanes_zero lanes k (rest_is lane (has_unknown lanes) none)

nothing_more : (d b c : Bool) → b ≡ false → d ≡ (d || c && b)
nothing_more true b c none = refl
nothing_more false false true none = refl
nothing_more false false false none = refl
nothing_more false true c none = search rules

pub unknown_none : (d : ℕ → Bool) (lanes : List ℕ) (place : Option ℕ) (q : WholeRequest) → has_unknown lanes ≡ false → d ≡ after_unknown d lanes place q
unknown_none d lanes None q none = refl
unknown_none d lanes (Some address) q none = fun_ext (λ x.
    nothing_more (d x) (has_lane (slice_index_or lanes (x / 8 - address / 8) 0) (x % 8)) (is_some (given_at q.bytes address x))
    (ap (λ mask. has_lane mask (x % 8)) (lanes_zero lanes (x / 8 - address / 8) none) ∙ no_lane (x % 8) (omega arith)))

-- ---- a request without data

abbrev nothing : ℕ → Option ℕ
nothing i = None

flat_none : (o : Option ℕ) → option_flatten (option_map nothing o) ≡ None
flat_none o = grind arith

given_none : (n start x : ℕ) → is_some (given_at (map nothing (range_with_len 0 n)) start x) ≡ false
given_none n start x = by_test (nat_le start x) refl
  where
    by_test : (b : Bool) → nat_le start x ≡ b → is_some (given_at (map nothing (range_with_len 0 n)) start x) ≡ false
    by_test true is = rw is (ap is_some (ap option_flatten (slice_get-map nothing (range_with_len 0 n) (x - start)) ∙ flat_none (slice_get (range_with_len 0 n) (x - start))))
    by_test false is = rw is refl

nothing_given : (d a b : Bool) → a ≡ false → d ≡ (d || a && b)
nothing_given true a b none = refl
nothing_given false false b none = refl
nothing_given false true b none = search rules

pub unknown_silent : (d : ℕ → Bool) (lanes : List ℕ) (place : Option ℕ) (held : HeldMessage) → has_data held.operation ≡ false → d ≡ after_unknown d lanes place (request_of held)
unknown_silent d lanes None held silent = refl
unknown_silent d lanes (Some address) held silent = fun_ext (λ x.
    nothing_given (d x) (is_some (given_at (bytes_given held) address x)) (has_lane (slice_index_or lanes (x / 8 - address / 8) 0) (x % 8))
    (rw silent (given_none (2 ^ held.size) address x)))
