-- Opcodes and operations (TileLink 1.8, the messages of TL-UL and TL-UH on channels A and D).
use Rattle.std.specs.Prelude.{ℕ, ◌/◌, ◌^◌, ◌==◌, max, Bool, true, false, ◌&&◌, if◌then◌else◌, nat_le, List, [], ◌∷◌, Option, find, unwrap_or}
use Rattle.tl_messages.specs.declared.AtomicOp.{AtomicOp}
use Rattle.tl_messages.specs.declared.AtomicOp.TheVariants.{Min, Max, MinU, MaxU, Add, Xor, Or, And, Swap}
use Rattle.tl_messages.specs.declared.Operation.{Operation}
use Rattle.tl_messages.specs.declared.Operation.TheVariants.{PutFull, PutPartial, Atomic, Get, Intent}

-- ArithmeticData has opcode 2, LogicalData 3
abbrev pub atomic_opcode : AtomicOp → ℕ
atomic_opcode Min = 2
atomic_opcode Max = 2
atomic_opcode MinU = 2
atomic_opcode MaxU = 2
atomic_opcode Add = 2
atomic_opcode Xor = 3
atomic_opcode Or = 3
atomic_opcode And = 3
atomic_opcode Swap = 3

-- the param of each atomic, among those of its opcode
abbrev pub atomic_param : AtomicOp → ℕ
atomic_param Min = 0
atomic_param Max = 1
atomic_param MinU = 2
atomic_param MaxU = 3
atomic_param Add = 4
atomic_param Xor = 0
atomic_param Or = 1
atomic_param And = 2
atomic_param Swap = 3

-- the opcode of an operation on channel A
abbrev pub opcode_of : Operation → ℕ
opcode_of PutFull = 0
opcode_of PutPartial = 1
opcode_of (Atomic op) = atomic_opcode op
opcode_of Get = 4
opcode_of (Intent write) = 5

-- the param of an operation on channel A
abbrev pub param_of : Operation → ℕ
param_of PutFull = 0
param_of PutPartial = 0
param_of (Atomic op) = atomic_param op
param_of Get = 0
param_of (Intent write) = if write then 1 else 0

-- all operations
abbrev pub operations : List Operation
operations =
    PutFull ∷ PutPartial ∷ Atomic Min ∷ Atomic Max ∷ Atomic MinU ∷ Atomic MaxU ∷ Atomic Add
    ∷ Atomic Xor ∷ Atomic Or ∷ Atomic And ∷ Atomic Swap ∷ Get ∷ Intent false ∷ Intent true ∷ []

-- the operation that an opcode and a param name, if they name one
abbrev pub named_operation : ℕ → ℕ → Option Operation
named_operation opcode param = find (λ op. opcode_of op == opcode && param_of op == param) operations

-- the operation that a beat's opcode and param name; Get stands in where they name none, which no checker lets become a request
abbrev pub operation_of : ℕ → ℕ → Operation
operation_of opcode param = unwrap_or (named_operation opcode param) Get

-- whether an A message of this opcode carries data
abbrev pub opcode_has_data : ℕ → Bool
opcode_has_data opcode = nat_le opcode 3

-- whether an A message of this operation carries data
abbrev pub has_data : Operation → Bool
has_data operation = opcode_has_data (opcode_of operation)

-- whether the reply to an operation carries data
abbrev pub reply_has_data : Operation → Bool
reply_has_data PutFull = false
reply_has_data PutPartial = false
reply_has_data (Atomic op) = true
reply_has_data Get = true
reply_has_data (Intent write) = false

-- the opcode of the reply: AccessAck 0, AccessAckData 1, HintAck 2
abbrev pub reply_opcode : Operation → ℕ
reply_opcode PutFull = 0
reply_opcode PutPartial = 0
reply_opcode (Atomic op) = 1
reply_opcode Get = 1
reply_opcode (Intent write) = 2

-- how many beats a message of 2^size bytes has on a bus of eight bytes, by whether it carries data
abbrev pub beats_of : ℕ → Bool → ℕ
beats_of size true = max 1 (2 ^ size / 8)
beats_of size false = 1
