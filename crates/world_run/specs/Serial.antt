-- The accepted requests one at a time, by number: which bytes each writes, and the bytes that it finds. It knows what one request means; no
-- state of a bridge or a memory plays a part.
use Rattle.std.specs.Prelude.{ℕ, zero, suc, Bool, true, false, ◌&&◌, not, List, Option, Some, None, is_some, slice_get}
use Rattle.bus_words.specs.Lanes.{given_at}
use Rattle.tl_messages.specs.Lanes.{in_range}
use Rattle.tl_messages.specs.Requests.{WholeRequest}
use Rattle.tl_messages.specs.declared.Operation.{Operation}
use Rattle.tl_messages.specs.declared.Operation.TheVariants.{PutFull, PutPartial, Atomic, Get, Intent}
use Rattle.burst_plan.specs.declared.Region.{Region}
use Rattle.burst_plan.specs.PageMap.{address_of}
use Rattle.subordinate.specs.Faults.{Faults, standing_at, is_bad, is_good}
use Rattle.meaning.specs.Meaning.{Bytes, meaning, zeros}

-- all requests in the order of acceptance, over a page map and the faults of a memory
pub record Order : Type 0 where
  pub faults : Faults
  pub regions : List Region
  pub requests : List WholeRequest

-- the request of a number
abbrev pub asked : Order → ℕ → Option WholeRequest
asked order number = slice_get order.requests number

-- the bytes after one request, if there is one
abbrev pub after_one : Order → Option WholeRequest → Bytes → Bytes
after_one order None m = m
after_one order (Some q) m = (meaning order.faults order.regions q m).after

-- the bytes that request n finds: those that the first n leave
abbrev pub bytes_before : Order → ℕ → Bytes
bytes_before order zero = zeros
bytes_before order (suc n) = after_one order (asked order n) (bytes_before order n)

-- whether an operation at an address gives a byte to be put at x
abbrev pub gives_byte : Faults → WholeRequest → ℕ → Operation → ℕ → Bool
gives_byte faults q address PutFull x = is_some (given_at q.bytes address x)
gives_byte faults q address PutPartial x = is_some (given_at q.bytes address x)
gives_byte faults q address (Atomic op) x = not (is_bad faults address) && in_range address q.size x
gives_byte faults q address Get x = false
gives_byte faults q address (Intent write) x = false

-- a write changes bytes of good pages alone
abbrev pub writes_from : Faults → WholeRequest → Option ℕ → ℕ → Bool
writes_from faults q None x = false
writes_from faults q (Some address) x = is_good (standing_at faults address) && gives_byte faults q address q.operation x

-- of a request that may be there, at its AXI address
abbrev pub writes_byte : Order → Option WholeRequest → ℕ → Bool
writes_byte order None x = false
writes_byte order (Some q) x = writes_from order.faults q (address_of order.regions q) x

-- whether the request of a number writes the byte at x
abbrev pub writes : Order → ℕ → ℕ → Bool
writes order number x = writes_byte order (asked order number) x

-- what it leaves there
abbrev pub byte_left : Order → ℕ → ℕ → ℕ
byte_left order number x = bytes_before order (suc number) x

-- whether an operation is a hint, which neither reads nor writes
abbrev pub is_intent : Operation → Bool
is_intent PutFull = false
is_intent PutPartial = false
is_intent (Atomic op) = false
is_intent Get = false
is_intent (Intent write) = true

-- whether a request at an AXI address reads or writes a range with the byte at x
abbrev pub touches_from : WholeRequest → Option ℕ → ℕ → Bool
touches_from q None x = false
touches_from q (Some address) x = not (is_intent q.operation) && in_range address q.size x

-- of a request that may be there
abbrev pub touches_byte : Order → Option WholeRequest → ℕ → Bool
touches_byte order None x = false
touches_byte order (Some q) x = touches_from q (address_of order.regions q) x

-- whether the request of a number does
abbrev pub touches : Order → ℕ → ℕ → Bool
touches order number x = touches_byte order (asked order number) x
