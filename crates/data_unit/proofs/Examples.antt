-- Worked values of the definitions.
use Rattle.std.proofs.Common.{◌≡◌, refl}
use Rattle.data_unit.specs.Atomics.{atomic_result}
use Rattle.data_unit.specs.Words.{full_mask, merged, operand_in, placed_at, value, bytes_of}
use Rattle.std.specs.Prelude.{[], ◌∷◌}
use Rattle.tl_messages.specs.declared.AtomicOp.TheVariants.{Min, Max, MinU, MaxU, Add, Xor, Or, And, Swap}

mask_of_one_byte : full_mask 0x0b 0 ≡ 0x08
mask_of_one_byte = refl

mask_of_upper_half : full_mask 0x14 2 ≡ 0xf0
mask_of_upper_half = refl

mask_of_a_page : full_mask 0x1000 12 ≡ 0xff
mask_of_a_page = refl

mask_that_wraps : full_mask 7 1 ≡ 0x81
mask_that_wraps = refl

cut_from_lane_three : operand_in 0x00000000aa000000 0x0b 0 ≡ 0xaa
cut_from_lane_three = refl

placed_in_lane_three : placed_at 0xaa 0x0b 0 ≡ 0x00000000aa000000
placed_in_lane_three = refl

merged_in_the_low_lanes : merged 0x1111111111111111 0x2222222222222222 0x0f ≡ 0x1111111122222222
merged_in_the_low_lanes = refl

bytes_of_a_number : bytes_of 2 0x1122 ≡ 0x22 ∷ 0x11 ∷ []
bytes_of_a_number = refl

number_of_bytes : value (0x22 ∷ 0x11 ∷ []) ≡ 0x1122
number_of_bytes = refl

sum_without_carry : atomic_result Add 4 0xffffffff 1 ≡ 0
sum_without_carry = refl

sum_of_two_bytes : atomic_result Add 2 0xffff 2 ≡ 1
sum_of_two_bytes = refl

least_of_eight_bytes : atomic_result Min 8 0x8000000000000000 1 ≡ 0x8000000000000000
least_of_eight_bytes = refl

least_unsigned_of_eight_bytes : atomic_result MinU 8 0x8000000000000000 1 ≡ 1
least_unsigned_of_eight_bytes = refl

least_of_four_bytes : atomic_result Min 4 0x80000000 1 ≡ 0x80000000
least_of_four_bytes = refl

least_unsigned_of_four_bytes : atomic_result MinU 4 0x80000000 1 ≡ 1
least_unsigned_of_four_bytes = refl

greatest_of_one_byte : atomic_result Max 1 0x80 0x7f ≡ 0x7f
greatest_of_one_byte = refl

greatest_unsigned_of_one_byte : atomic_result MaxU 1 0x80 0x7f ≡ 0x80
greatest_unsigned_of_one_byte = refl

bits_of_just_one : atomic_result Xor 1 0x0c 0x0a ≡ 0x06
bits_of_just_one = refl

bits_of_one_or_both : atomic_result Or 1 0x0c 0x0a ≡ 0x0e
bits_of_one_or_both = refl

bits_of_both : atomic_result And 1 0x0c 0x0a ≡ 0x08
bits_of_both = refl

swapped : atomic_result Swap 1 0x0c 0x0a ≡ 0x0a
swapped = refl
