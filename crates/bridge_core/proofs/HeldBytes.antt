-- The bytes that are kept to be written, by operation, and how small an atomic's old value is.
use Rattle.std.proofs.Common.{◌≡◌, ◌≢◌, ℕ, true, arith}
use Rattle.tl_messages.specs.Operations.{has_data}
use Rattle.tl_messages.specs.Requests.{WholeRequest}
use Rattle.tl_messages.specs.declared.AtomicOp.{AtomicOp}
use Rattle.tl_messages.specs.declared.Operation.{Operation}
use Rattle.tl_messages.specs.declared.Operation.TheVariants.{Atomic}
use Rattle.bridge_core.specs.Sending.{bytes_written}

-- what isn't an atomic and has data writes the bytes that it gives
pub put_bytes : (q : WholeRequest) (operation : Operation) (old : ℕ) → has_data operation ≡ true → ((op : AtomicOp) → operation ≢ Atomic op) → bytes_written q operation old ≡ q.bytes
put_bytes q operation old carries other = grind (arith, other)
