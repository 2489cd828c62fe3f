-- What an atomic leaves fits the operand's bytes.
use Rattle.std.proofs.Common.{ℕ, ◌+◌, ◌*◌, ◌<◌, Bool, true, false, if◌then◌else◌, arith}
use Rattle.std.specs.Prelude.{nat_lt, int_lt}
use Rattle.std.proofs.lemmas.Nat.{and_le_l, or_lt, xor_lt}
use Rattle.std.proofs.Math.Pow.{pow_mono}
use Rattle.tl_messages.specs.declared.AtomicOp.{AtomicOp}
use Rattle.tl_messages.specs.declared.AtomicOp.TheVariants.{Min, Max, MinU, MaxU, Add, Xor, Or, And, Swap}
use Rattle.data_unit.specs.Atomics.{modulus, signed, atomic_result}
use Rattle.data_unit.proofs.NumberLaws.{mod-modulus-lt}

pub modulus-some : (bytes : ℕ) → 0 < modulus bytes
modulus-some bytes = omega (arith, pow_mono {i = 0} {j = 8 * bytes} (omega arith))

either-lt : (b : Bool) (old operand top : ℕ) → old < top → operand < top → (if b then operand else old) < top
either-lt true old operand top old_fits operand_fits = operand_fits
either-lt false old operand top old_fits operand_fits = old_fits

pub atomic_result-lt : (op : AtomicOp) (operand_bytes old operand : ℕ) → old < modulus operand_bytes → operand < modulus operand_bytes → atomic_result op operand_bytes old operand < modulus operand_bytes
atomic_result-lt Min operand_bytes old operand old_fits operand_fits = either-lt (int_lt (signed operand_bytes operand) (signed operand_bytes old)) old operand (modulus operand_bytes) old_fits operand_fits
atomic_result-lt Max operand_bytes old operand old_fits operand_fits = either-lt (int_lt (signed operand_bytes old) (signed operand_bytes operand)) old operand (modulus operand_bytes) old_fits operand_fits
atomic_result-lt MinU operand_bytes old operand old_fits operand_fits = either-lt (nat_lt operand old) old operand (modulus operand_bytes) old_fits operand_fits
atomic_result-lt MaxU operand_bytes old operand old_fits operand_fits = either-lt (nat_lt old operand) old operand (modulus operand_bytes) old_fits operand_fits
atomic_result-lt Add operand_bytes old operand old_fits operand_fits = mod-modulus-lt (old + operand) operand_bytes
atomic_result-lt Xor operand_bytes old operand old_fits operand_fits = xor_lt (8 * operand_bytes) old operand old_fits operand_fits
atomic_result-lt Or operand_bytes old operand old_fits operand_fits = or_lt (8 * operand_bytes) old operand old_fits operand_fits
atomic_result-lt And operand_bytes old operand old_fits operand_fits = omega (arith, and_le_l old operand)
atomic_result-lt Swap operand_bytes old operand old_fits operand_fits = operand_fits
