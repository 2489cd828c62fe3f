-- The requests one at a time: which bytes each writes and leaves alone, what it leaves there, and their replies by number. It knows what
-- requests mean, a message, its plan and an atomic's old value; bridge, memory and bursts are hidden.
use Rattle.std.specs.Option.{option_flatten}
use Rattle.std.proofs.Common.{◌≡◌, ℕ, ◌+◌, ◌-◌, ◌^◌, ◌<◌, ◌≤◌, zero, suc, Bool, true, false, ◌&&◌, not, List, [], ◌∷◌, length, map, Option, Some, None, refl, sym, ◌∙◌, ap, arith, nat_lt, is_some, nat_le, option_map, slice_get, unwrap_or, if◌then◌else◌, IsSome}
use Rattle.std.proofs.lemmas.Bool.Decides.{nat_tests}
use Rattle.std.proofs.lemmas.Bool.{and_parts, cases_lt, cases_Bool, leb-true}
use Rattle.std.proofs.lemmas.List.{length-map}
use Rattle.std.proofs.lemmas.List.FromFn.{length-map-range_with_len}
use Rattle.bus_words.specs.Lanes.{given_at}
use Rattle.tl_messages.specs.Lanes.{in_range}
use Rattle.tl_messages.specs.Requests.{HeldMessage, WholeRequest, byte_given, request_of}
use Rattle.tl_messages.specs.Operations.{has_data}
use Rattle.tl_messages.specs.declared.AtomicOp.{AtomicOp}
use Rattle.tl_messages.specs.declared.Operation.{Operation}
use Rattle.tl_messages.specs.declared.Operation.TheVariants.{Atomic}
use Rattle.data_unit.specs.Words.{value}
use Rattle.data_unit.proofs.NumberLaws.{length-bytes_of}
use Rattle.burst_plan.specs.PageMap.{translated_address, address_of}
use Rattle.burst_plan.specs.declared.Region.{Region}
use Rattle.burst_plan.specs.Pieces.{IsPlannable, PlannedRange}
use Rattle.burst_plan.specs.PlannedTransfers.{HasAddress}
use Rattle.burst_plan.proofs.PieceLaws.{range_in_page}
use Rattle.bridge_core.specs.HeldRequests.{BridgedRequest, value_found}
use Rattle.bridge_core.specs.Sending.{bytes_written}
use Rattle.subordinate.specs.Faults.{Faults, Standing, standing_at, is_bad, is_good}
use Rattle.meaning.specs.Meaning.{Bytes, bytes_after_all, bytes_at, denied, effect, effect_at, meaning, replies_in_order, zeros}
use Rattle.meaning.proofs.GivenBytes.{given_before, given_past}
use Rattle.world_run.specs.Serial.{Order, after_one, asked, bytes_before, gives_byte, is_intent, touches, touches_byte, touches_from, writes, writes_byte, writes_from, byte_left}

-- ---- bytes of a list

not_given : (o : Option ℕ) (d : ℕ) → is_some o ≡ false → unwrap_or o d ≡ d
not_given o d none = grind (arith, none)

-- a byte outside the range
outside : (bytes : List (Option ℕ)) (address size x : ℕ) → length bytes ≤ 2 ^ size → in_range address size x ≡ false → given_at bytes address x ≡ None
outside bytes address size x within out = grind (arith, nat_tests, cases_lt, given_before, given_past, within, out)

-- ---- what a request doesn't write

effect_alone : (faults : Faults) (q : WholeRequest) (m : Bytes) (address : ℕ) (operation : Operation) (standing : Standing) (bad : Bool) (x : ℕ) → bad ≡ is_bad faults address
    → (is_good standing && gives_byte faults q address operation x) ≡ false → (effect faults q m address operation standing bad).after x ≡ m x
effect_alone faults q m address operation standing bad x is none = grind (arith, nat_tests, not_given, outside, length-map, length-bytes_of, is, none)

effect_at_alone : (faults : Faults) (q : WholeRequest) (m : Bytes) (place : Option ℕ) (x : ℕ) → writes_from faults q place x ≡ false → (effect_at faults q m place).after x ≡ m x
effect_at_alone faults q m place x none = grind (arith, nat_tests, effect_alone, none)

request_alone : (faults : Faults) (regions : List Region) (q : WholeRequest) (m : Bytes) (corrupt : Bool) (x : ℕ)
    → writes_from faults q (if corrupt then None else translated_address regions q) x ≡ false
    → (if corrupt then record { reply = denied; after = m } else effect_at faults q m (translated_address regions q)).after x ≡ m x
request_alone faults regions q m corrupt x none = grind (arith, nat_tests, effect_at_alone, none)

one_alone : (order : Order) (o : Option WholeRequest) (m : Bytes) (x : ℕ) → writes_byte order o x ≡ false → after_one order o m x ≡ m x
one_alone order None m x none = refl
one_alone order (Some q) m x none = request_alone order.faults order.regions q m q.corrupt x none

-- a request leaves alone what it doesn't write
pub left_alone : (order : Order) (n x : ℕ) → writes order n x ≡ false → bytes_before order (suc n) x ≡ bytes_before order n x
left_alone order n x none = one_alone order (asked order n) (bytes_before order n) x none

-- ---- who writes a byte touches it

given_within : (bytes : List (Option ℕ)) (address size x : ℕ) → length bytes ≤ 2 ^ size → is_some (given_at bytes address x) ≡ true → in_range address size x ≡ true
given_within bytes address size x within given = grind (arith, nat_tests, cases_Bool, outside, within, given)

touches_there : (faults : Faults) (q : WholeRequest) (address : ℕ) (operation : Operation) (x : ℕ) → length q.bytes ≤ 2 ^ q.size
    → gives_byte faults q address operation x ≡ true → (not (is_intent operation) && in_range address q.size x) ≡ true
touches_there faults q address operation x within gives = grind (arith, nat_tests, given_within, and_parts, within, gives)

touches_where : (faults : Faults) (q : WholeRequest) (place : Option ℕ) (x : ℕ) → length q.bytes ≤ 2 ^ q.size → writes_from faults q place x ≡ true → touches_from q place x ≡ true
touches_where faults q place x within writes_it = grind (arith, nat_tests, touches_there, and_parts, within, writes_it)

touches_asked : (order : Order) (o : Option WholeRequest) (x : ℕ) → ((q : WholeRequest) → o ≡ Some q → length q.bytes ≤ 2 ^ q.size) → writes_byte order o x ≡ true → touches_byte order o x ≡ true
touches_asked order o x within writes_it = grind (arith, nat_tests, touches_where, within, writes_it)

-- a request that gives no more bytes than it has touches what it writes
pub writer_touches : (order : Order) (n x : ℕ) → ((q : WholeRequest) → asked order n ≡ Some q → length q.bytes ≤ 2 ^ q.size) → writes order n x ≡ true → touches order n x ≡ true
writer_touches order n x within writes_it = touches_asked order (asked order n) x within writes_it

-- as the request of a message does
pub message_within : (message : HeldMessage) → length (request_of message).bytes ≤ 2 ^ (request_of message).size
message_within message = omega (arith, length-map-range_with_len (λ i. if has_data message.operation then byte_given message.address message.beats i else None) 0 (2 ^ message.size))

pub message_touches : (order : Order) (n x : ℕ) (message : HeldMessage) → asked order n ≡ Some (request_of message) → writes order n x ≡ true → touches order n x ≡ true
message_touches order n x message is writes_it = grind (arith, nat_tests, writer_touches, message_within, is, writes_it)

-- ---- replies by number

abbrev order_of : Faults → List Region → List WholeRequest → Order
order_of faults regions qs = record { faults = faults; regions = regions; requests = qs }

-- the bytes after the first n of a list of requests
abbrev carried : Faults → List Region → List WholeRequest → Bytes → ℕ → Bytes
carried faults regions qs m zero = m
carried faults regions qs m (suc n) = after_one (order_of faults regions qs) (slice_get qs n) (carried faults regions qs m n)

-- the first comes first
carried-first : (faults : Faults) (regions : List Region) (q : WholeRequest) (qs : List WholeRequest) (m : Bytes) (n : ℕ)
    → carried faults regions (q ∷ qs) m (suc n) ≡ carried faults regions qs (meaning faults regions q m).after n
carried-first faults regions q qs m zero = refl
carried-first faults regions q qs m (suc n) = carried_one faults regions q qs (slice_get qs n) _ _ (carried-first faults regions q qs m n)
  where
    carried_one : (faults : Faults) (regions : List Region) (q : WholeRequest) (qs : List WholeRequest) (o : Option WholeRequest) (m k : Bytes) → m ≡ k
        → after_one (order_of faults regions (q ∷ qs)) o m ≡ after_one (order_of faults regions qs) o k
    carried_one faults regions q qs o m k same = grind (arith, same)

replies_carried : (faults : Faults) (regions : List Region) (qs : List WholeRequest) (m : Bytes) (n : ℕ)
    → slice_get (replies_in_order faults regions qs m) n ≡ option_map (λ q. (meaning faults regions q (carried faults regions qs m n)).reply) (slice_get qs n)
replies_carried faults regions [] m n = refl
replies_carried faults regions (q ∷ qs) m zero = refl
replies_carried faults regions (q ∷ qs) m (suc n) =
    replies_carried faults regions qs (meaning faults regions q m).after n
    ∙ ap (λ (bytes : Bytes). option_map (λ p. (meaning faults regions p bytes).reply) (slice_get qs n)) (sym (carried-first faults regions q qs m n))

all_carried : (faults : Faults) (regions : List Region) (qs : List WholeRequest) (m : Bytes) → bytes_after_all faults regions qs m ≡ carried faults regions qs m (length qs)
all_carried faults regions [] m = refl
all_carried faults regions (q ∷ qs) m = all_carried faults regions qs (meaning faults regions q m).after ∙ sym (carried-first faults regions q qs m (length qs))

carried_before : (order : Order) (n : ℕ) → carried order.faults order.regions order.requests zeros n ≡ bytes_before order n
carried_before order zero = refl
carried_before order (suc n) = ap (λ (bytes : Bytes). after_one order (asked order n) bytes) (carried_before order n)

-- the reply of a number is what its request means on the bytes that it finds
pub replies_at : (order : Order) (n : ℕ) → slice_get (replies_in_order order.faults order.regions order.requests zeros) n
    ≡ option_map (λ q. (meaning order.faults order.regions q (bytes_before order n)).reply) (asked order n)
replies_at order n = grind (arith, nat_tests, replies_carried, carried_before)

pub all_carried_out : (order : Order) → bytes_after_all order.faults order.regions order.requests zeros ≡ bytes_before order (length order.requests)
all_carried_out order = all_carried order.faults order.regions order.requests zeros ∙ carried_before order (length order.requests)

-- ---- a request of a number, at its AXI address

pub byte_left_is : (order : Order) (number : ℕ) (q : WholeRequest) (address x : ℕ) → asked order number ≡ Some q → address_of order.regions q ≡ Some address
    → byte_left order number x ≡ (effect order.faults q (bytes_before order number) address q.operation (standing_at order.faults address) (is_bad order.faults address)).after x
byte_left_is order number q address x is at = grind (arith, is, at)

pub writes_is : (order : Order) (number : ℕ) (q : WholeRequest) (address x : ℕ) → asked order number ≡ Some q → address_of order.regions q ≡ Some address
    → writes order number x ≡ (is_good (standing_at order.faults address) && gives_byte order.faults q address q.operation x)
writes_is order number q address x is at = grind (arith, is, at)

-- ---- the bytes that it gives

given_there : (bytes : List ℕ) (i : ℕ) → is_some (option_flatten (slice_get (map (λ (b : ℕ). Some b) bytes) i)) ≡ nat_lt i (length bytes)
given_there [] i = grind arith
given_there (b ∷ bytes) zero = grind arith
given_there (b ∷ bytes) (suc i) = let rest = given_there bytes i in grind (arith, rest)

-- a list of bytes gives one just at each address that it covers
given_of_bytes : (bytes : List ℕ) (address x : ℕ) → is_some (given_at (map (λ (b : ℕ). Some b) bytes) address x) ≡ (nat_le address x && nat_lt x (address + length bytes))
given_of_bytes bytes address x = grind (arith, nat_tests, leb-true, given_there)

none_given : (address x : ℕ) → is_some (given_at [] address x) ≡ false
none_given address x = grind arith

-- a request's bursts write just where it writes; an atomic does so where its word isn't bad
pub gives_where_written : (faults : Faults) (q : WholeRequest) (operation : Operation) (address x old : ℕ) → ((op : AtomicOp) → operation ≡ Atomic op → is_bad faults address ≡ false)
    → is_some (given_at (bytes_written q operation old) address x) ≡ gives_byte faults q address operation x
gives_where_written faults q operation address x old fine = grind (arith, nat_tests, given_of_bytes, length-bytes_of, none_given, fine)

some_given : (o : Option ℕ) (d : ℕ) → is_some o ≡ true → o ≡ Some (unwrap_or o d)
some_given o d there = grind (arith, there)

-- on a good page they write what it leaves, where an atomic's old value is the number at its address
pub gives_what_is_left : (faults : Faults) (q : WholeRequest) (m : Bytes) (operation : Operation) (standing : Standing) (bad : Bool) (address x old : ℕ) → is_good standing ≡ true
    → ((op : AtomicOp) → operation ≡ Atomic op → (bad ≡ false) × (old ≡ value (bytes_at m address (2 ^ q.size)))) → is_some (given_at (bytes_written q operation old) address x) ≡ true
    → given_at (bytes_written q operation old) address x ≡ Some ((effect faults q m address operation standing bad).after x)
gives_what_is_left faults q m operation standing bad address x old good found there = grind (arith, good, found, there)

-- ---- where it writes

given_inside : (bytes : List (Option ℕ)) (address x : ℕ) → is_some (given_at bytes address x) ≡ true → (address ≤ x) × (x < address + length bytes)
given_inside bytes address x there = from (nat_le address x) refl there
  where
    listed : (parts : List (Option ℕ)) (i : ℕ) → is_some (option_flatten (slice_get parts i)) ≡ true → i < length parts
    listed [] i there = absurd (cc (there))
    listed (part ∷ parts) zero there = omega arith
    listed (part ∷ parts) (suc i) there = omega (arith, listed parts i there)

    from : (b : Bool) → nat_le address x ≡ b → is_some (if b then option_flatten (slice_get bytes (x - address)) else None) ≡ true → (address ≤ x) × (x < address + length bytes)
    from true low there =
        let under = leb-true address x low in
        let short = listed bytes (x - address) there in
        (under, omega arith)
    from false low there = absurd (cc (there))

covered_within : (address size x : ℕ) → in_range address size x ≡ true → (address ≤ x) × (x < address + 2 ^ size)
covered_within address size x is = grind (arith, is)

-- a message gives bytes of its range alone
pub gives_within : (faults : Faults) (message : HeldMessage) (operation : Operation) (address x : ℕ) → gives_byte faults (request_of message) address operation x ≡ true → (address ≤ x) × (x < address + 2 ^ message.size)
gives_within faults message operation address x is = grind (arith, nat_tests, length-map-range_with_len, given_inside, covered_within, and_parts, is)

-- all bytes of a range are in the page of its first
pub same_standing : (faults : Faults) (range : PlannedRange) (x : ℕ) → IsPlannable range → HasAddress range x → standing_at faults x ≡ standing_at faults range.address
same_standing faults range x plannable inside = grind (arith, nat_tests, range_in_page, plannable, inside)

-- ---- an atomic

-- its read finds what one request at a time finds: the number at its address, where the page is good and the word isn't bad, and nothing else
pub record FindsSerially (order : Order) (request : BridgedRequest) (address : ℕ) : Type 0 where
  pub found :
      is_good (standing_at order.faults address) ≡ true → is_bad order.faults address ≡ false
      → value_found request ≡ Some (value (bytes_at (bytes_before order request.flight.number) address (2 ^ request.message.size)))
  pub page : IsSome (value_found request) → is_good (standing_at order.faults address) ≡ true
  pub word : IsSome (value_found request) → is_bad order.faults address ≡ false
