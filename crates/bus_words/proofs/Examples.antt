-- Worked values of the definitions.
use Rattle.std.proofs.Common.{◌≡◌, ℕ, ◌++◌, ◌∷◌, [], true, false, refl, codes, None, Some}
use Rattle.std.specs.Fmt.{digits}
use Rattle.bus_words.specs.Lanes.{lane_byte, has_lane, is_between, mask_of, payload_of, word_address, given_at}
use Rattle.bus_words.specs.Tables.{first_broken}
use Rattle.bus_words.specs.Text.{hex, flag, line}

lowest_lane_is_least_significant : lane_byte 0x1122334455667788 0 ≡ 0x88
lowest_lane_is_least_significant = refl

highest_lane_is_most_significant : lane_byte 0x1122334455667788 7 ≡ 0x11
highest_lane_is_most_significant = refl

mask_of_upper_half : mask_of (is_between 4 7) ≡ 0xf0
mask_of_upper_half = refl

lane_of_mask : has_lane 0x08 3 ≡ true
lane_of_mask = refl

byte_in_lane_three : payload_of (λ lane. given_at (Some 0xaa ∷ []) 3 lane) ≡ 0xaa000000
byte_in_lane_three = refl

byte_that_is_not_given : given_at (Some 1 ∷ None ∷ []) 8 9 ≡ None
byte_that_is_not_given = refl

word_of_address : word_address 0x1000b ≡ 0x10008
word_of_address = refl

first_of_two_broken : first_broken {Rule = ℕ} ((false, 1) ∷ (true, 2) ∷ (true, 3) ∷ []) ≡ Some 2
first_of_two_broken = refl

no_rule_broken : first_broken {Rule = ℕ} ((false, 1) ∷ []) ≡ None
no_rule_broken = refl

zeros_in_front : hex 8 0x10008 ≡ codes "00010008"
unfolding hex digits
zeros_in_front = refl

no_zeros_needed : hex 2 0xff ≡ codes "ff"
unfolding hex digits
no_zeros_needed = refl

words_of_a_line : line (codes "B" ∷ codes "0" ∷ flag true ∷ []) ≡ codes "B 0 1" ++ 10 ∷ []
words_of_a_line = refl
