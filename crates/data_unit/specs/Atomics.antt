-- The results of atomics (TileLink 1.8, ArithmeticData and LogicalData) on operands of 1, 2, 4 or 8 bytes (this project's profile).
use Rattle.std.specs.Prelude.{ℕ, ◌+◌, ◌-◌, ◌*◌, ◌/◌, ◌%◌, ◌^◌, suc, if◌then◌else◌, map, nat_lt, unwrap_or, ℤ, pos, negsuc, int_lt, bit_and, bit_or, bit_xor}
use Rattle.tl_messages.specs.Requests.{WholeRequest}
use Rattle.tl_messages.specs.declared.AtomicOp.{AtomicOp}
use Rattle.tl_messages.specs.declared.AtomicOp.TheVariants.{Min, Max, MinU, MaxU, Add, Xor, Or, And, Swap}
use Rattle.data_unit.specs.Words.{value}

-- how many numbers `operand_bytes` bytes can hold
abbrev pub modulus : ℕ → ℕ
modulus operand_bytes = 2 ^ (8 * operand_bytes)

-- a number read as signed: from half the modulus on, the modulus is taken away
abbrev pub signed : ℕ → ℕ → ℤ
signed operand_bytes number = if nat_lt number (modulus operand_bytes / 2) then pos number else negsuc (modulus operand_bytes - suc number)

-- what an atomic leaves, from the old value and the operand
abbrev pub atomic_result : AtomicOp → ℕ → ℕ → ℕ → ℕ
atomic_result Min operand_bytes old operand = if int_lt (signed operand_bytes operand) (signed operand_bytes old) then operand else old
atomic_result Max operand_bytes old operand = if int_lt (signed operand_bytes old) (signed operand_bytes operand) then operand else old
atomic_result MinU operand_bytes old operand = if nat_lt operand old then operand else old
atomic_result MaxU operand_bytes old operand = if nat_lt old operand then operand else old
atomic_result Add operand_bytes old operand = (old + operand) % modulus operand_bytes
atomic_result Xor operand_bytes old operand = bit_xor old operand
atomic_result Or operand_bytes old operand = bit_or old operand
atomic_result And operand_bytes old operand = bit_and old operand
atomic_result Swap operand_bytes old operand = operand

-- the operand of a request: the number of its bytes, where those that aren't given count as zero
abbrev pub operand_of : WholeRequest → ℕ
operand_of q = value (map (λ byte. unwrap_or byte 0) q.bytes)
