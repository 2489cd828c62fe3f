-- Worked values of what requests mean: each case of one request, and requests one at a time. Cases that the statements on runs refuse: a
-- message of a client that isn't there, and bytes that count as written before they are.
use Rattle.std.specs.List.{range_with_len}
use Rattle.std.proofs.Common.{◌≡◌, ℕ, ◌+◌, ◌/◌, ◌%◌, true, false, List, [], ◌∷◌, ◌++◌, map, Option, Some, None, refl, arith, replicate}
use Rattle.tl_messages.specs.Requests.{WholeRequest, message_of, request_of}
use Rattle.tl_messages.specs.declared.AtomicOp.{AtomicOp}
use Rattle.tl_messages.specs.declared.AtomicOp.TheVariants.{Min, Max, MinU, MaxU, Add, Xor, Or, And, Swap}
use Rattle.tl_messages.specs.declared.Operation.{Operation}
use Rattle.tl_messages.specs.declared.Operation.TheVariants.{PutFull, PutPartial, Atomic, Get, Intent}
use Rattle.tl_messages.specs.declared.ABeat.{ABeat}
use Rattle.tl_checker.specs.RequestRules.{Spells}
use Rattle.burst_plan.specs.declared.Region.{Region}
use Rattle.burst_plan.specs.declared.Piece.{Piece}
use Rattle.responses.specs.Shown.{Reply}
use Rattle.config.specs.Configs.{port_of}
use Rattle.bridge_core.specs.HeldRequests.{BridgedRequest, newly_live}
use Rattle.subordinate.specs.Faults.{Faults}
use Rattle.subordinate.specs.declared.PageKind.TheVariants.{Good, SlaveError}
use Rattle.subordinate.specs.FreeMemory.{Pending, newly_pending}
use Rattle.setups.specs.Setups.{faults_of}
use Rattle.world.proofs.Examples.{a, plain, start, write_of_one}
use Rattle.meaning.specs.Meaning.{Bytes, Effect, bytes_after_all, meaning, replies_in_order, zeros}
use Rattle.world_run.specs.Serial.{Order, byte_left, bytes_before, touches, writes}
use Rattle.meaning.specs.InTurn.{IsSpelled}
use Rattle.world_run.specs.InOrder.{IsInItsTurn, IsWriteOf}

-- four pages, of which the second is a slave-error page, the third absent, and a word of the first is bad
abbrev faults : Faults
faults = record { pages = (0x10, Good) ∷ (0x11, SlaveError) ∷ (0x13, Good) ∷ []; bad_words = 0x10008 ∷ [] }

-- a region that permits all
abbrev region : ℕ → ℕ → ℕ → Region
region tl_page pages axi_page = record { tl_page = tl_page; pages = pages; axi_page = axi_page; get = true; put = true; atomic = true; hint = true }

-- one leads to all four, and two further ones to the last of them, of which the second permits Gets alone
abbrev regions : List Region
regions = region 0 4 0x10 ∷ region 8 1 0x13 ∷ record (region 9 1 0x13) { put = false; atomic = false; hint = false } ∷ []

-- a request that gives no bytes, and one that gives all of these
abbrev asking : Operation → ℕ → ℕ → WholeRequest
asking operation size address = record { client = 0; source = 0; operation = operation; size = size; address = address; bytes = []; corrupt = false }

abbrev giving : Operation → ℕ → ℕ → List ℕ → WholeRequest
giving operation size address bytes = record (asking operation size address) { bytes = map Some bytes }

-- each address has its lowest byte
abbrev counting : Bytes
counting x = x % 256

abbrev means : WholeRequest → Effect
means q = meaning faults regions q counting

abbrev reply_to : WholeRequest → Reply
reply_to q = (means q).reply

-- so many bytes from an address on, after a request
abbrev bytes_after : WholeRequest → ℕ → ℕ → List ℕ
bytes_after q address count = map (means q).after (range_with_len address count)

abbrev is_denied : Reply
is_denied = record { denied = true; bytes = [] }

abbrev is_acknowledged : Reply
is_acknowledged = record { denied = false; bytes = [] }

abbrev tells : List (Option ℕ) → Reply
tells bytes = record { denied = false; bytes = bytes }

-- denied, or told nothing, and no byte changed
abbrev only_denied : Effect
only_denied = record { reply = is_denied; after = counting }

abbrev only_nothing_told : ℕ → Effect
only_nothing_told count = record { reply = tells (replicate count None); after = counting }

-- ---- corrupt, or of no region that permits it

corrupt_put : means (record (giving PutFull 0 0x3000 (0xaa ∷ [])) { corrupt = true }) ≡ only_denied
corrupt_put = refl

corrupt_atomic : means (record (giving (Atomic Add) 0 0x3000 (0xaa ∷ [])) { corrupt = true }) ≡ only_denied
corrupt_atomic = refl

of_no_region : map means (asking Get 3 0x5000 ∷ giving PutFull 0 0x5000 (0xaa ∷ []) ∷ asking (Intent false) 3 0x5000 ∷ []) ≡ replicate 3 only_denied
of_no_region = refl

not_permitted : map means (giving PutFull 0 0x9000 (0xaa ∷ []) ∷ giving (Atomic Add) 0 0x9000 (0xaa ∷ []) ∷ asking (Intent true) 3 0x9000 ∷ [])
    ≡ replicate 3 only_denied
not_permitted = refl

permitted_by_the_same_region : reply_to (asking Get 0 0x9007) ≡ tells (Some 0x07 ∷ [])
permitted_by_the_same_region = refl

-- ---- hints: acknowledged, whatever the page

hints : map means (asking (Intent false) 12 0x0000 ∷ asking (Intent true) 3 0x1000 ∷ asking (Intent true) 3 0x2000 ∷ [])
    ≡ replicate 3 (record { reply = is_acknowledged; after = counting })
hints = refl

-- ---- pages that aren't good

on_an_absent_page : map means
    (giving PutFull 0 0x2000 (0xaa ∷ []) ∷ giving PutPartial 0 0x2000 (0xaa ∷ []) ∷ asking Get 3 0x2000 ∷ giving (Atomic Swap) 0 0x2000 (0xaa ∷ []) ∷ [])
    ≡ replicate 4 only_denied
on_an_absent_page = refl

put_on_a_slave_error_page : map means (giving PutFull 0 0x1000 (0xaa ∷ []) ∷ giving PutPartial 0 0x1000 (0xaa ∷ []) ∷ []) ≡ replicate 2 only_denied
put_on_a_slave_error_page = refl

get_on_a_slave_error_page : means (asking Get 3 0x1000) ∷ means (asking Get 5 0x1000) ∷ [] ≡ only_nothing_told 8 ∷ only_nothing_told 32 ∷ []
get_on_a_slave_error_page = refl

atomic_on_a_slave_error_page : means (giving (Atomic Add) 2 0x1000 (1 ∷ 0 ∷ 0 ∷ 0 ∷ [])) ≡ only_nothing_told 4
atomic_on_a_slave_error_page = refl

-- ---- Puts on good pages

put_of_eight : bytes_after (giving PutFull 3 0x3008 (0xa0 ∷ 0xa1 ∷ 0xa2 ∷ 0xa3 ∷ 0xa4 ∷ 0xa5 ∷ 0xa6 ∷ 0xa7 ∷ [])) 0x13007 10
    ≡ 0x07 ∷ 0xa0 ∷ 0xa1 ∷ 0xa2 ∷ 0xa3 ∷ 0xa4 ∷ 0xa5 ∷ 0xa6 ∷ 0xa7 ∷ 0x10 ∷ []
put_of_eight = refl

put_of_four : bytes_after (giving PutFull 2 0x300c (0xa0 ∷ 0xa1 ∷ 0xa2 ∷ 0xa3 ∷ [])) 0x1300b 6 ≡ 0x0b ∷ 0xa0 ∷ 0xa1 ∷ 0xa2 ∷ 0xa3 ∷ 0x10 ∷ []
put_of_four = refl

put_of_two : bytes_after (giving PutFull 1 0x300a (0xa0 ∷ 0xa1 ∷ [])) 0x13009 4 ≡ 0x09 ∷ 0xa0 ∷ 0xa1 ∷ 0x0c ∷ []
put_of_two = refl

put_of_one : bytes_after (giving PutFull 0 0x300b (0xaa ∷ [])) 0x1300a 3 ≡ 0x0a ∷ 0xaa ∷ 0x0c ∷ []
put_of_one = refl

-- bytes that aren't given stay
abbrev partial_put : WholeRequest
partial_put = record (asking PutPartial 3 0x3008) { bytes = None ∷ None ∷ Some 0xa2 ∷ Some 0xa3 ∷ None ∷ Some 0xa5 ∷ None ∷ None ∷ [] }

put_of_some : bytes_after partial_put 0x13008 8 ≡ 0x08 ∷ 0x09 ∷ 0xa2 ∷ 0xa3 ∷ 0x0c ∷ 0xa5 ∷ 0x0e ∷ 0x0f ∷ []
put_of_some = refl

put_of_none : bytes_after (record (asking PutPartial 1 0x3008) { bytes = None ∷ None ∷ [] }) 0x13008 2 ≡ 0x08 ∷ 0x09 ∷ []
put_of_none = refl

replies_to_puts : map reply_to (giving PutFull 0 0x300b (0xaa ∷ []) ∷ partial_put ∷ []) ≡ replicate 2 is_acknowledged
replies_to_puts = refl

-- a bad word is written as any other
put_on_a_bad_word : reply_to (giving PutFull 1 0x0008 (0xa0 ∷ 0xa1 ∷ [])) ≡ is_acknowledged
put_on_a_bad_word = refl

bytes_of_a_bad_word : bytes_after (giving PutFull 1 0x0008 (0xa0 ∷ 0xa1 ∷ [])) 0x10007 4 ≡ 0x07 ∷ 0xa0 ∷ 0xa1 ∷ 0x0a ∷ []
bytes_of_a_bad_word = refl

-- ---- Gets on good pages

gets_of_one_two_and_four : map reply_to (asking Get 0 0x300b ∷ asking Get 1 0x300e ∷ asking Get 2 0x3014 ∷ [])
    ≡ tells (Some 0x0b ∷ []) ∷ tells (Some 0x0e ∷ Some 0x0f ∷ []) ∷ tells (Some 0x14 ∷ Some 0x15 ∷ Some 0x16 ∷ Some 0x17 ∷ []) ∷ []
gets_of_one_two_and_four = refl

get_of_eight : means (asking Get 3 0x3020) ≡ record { reply = tells (map Some (0x20 ∷ 0x21 ∷ 0x22 ∷ 0x23 ∷ 0x24 ∷ 0x25 ∷ 0x26 ∷ 0x27 ∷ [])); after = counting }
get_of_eight = refl

get_by_another_way : reply_to (asking Get 3 0x8020) ≡ reply_to (asking Get 3 0x3020)
get_by_another_way = refl

-- no byte of a bad word is told, and all others are
get_over_a_bad_word : reply_to (asking Get 5 0x0000)
    ≡ tells (map Some (range_with_len 0 8) ++ replicate 8 None ++ map Some (range_with_len 0x10 16))
get_over_a_bad_word = refl

get_within_a_bad_word : map reply_to (asking Get 2 0x000c ∷ asking Get 0 0x000f ∷ asking Get 0 0x0010 ∷ [])
    ≡ tells (replicate 4 None) ∷ tells (None ∷ []) ∷ tells (Some 0x10 ∷ []) ∷ []
get_within_a_bad_word = refl

-- ---- atomics on good pages: the reply has the old bytes

add_of_four : reply_to (giving (Atomic Add) 2 0x3014 (1 ∷ 0 ∷ 0 ∷ 0 ∷ [])) ≡ tells (Some 0x14 ∷ Some 0x15 ∷ Some 0x16 ∷ Some 0x17 ∷ [])
add_of_four = refl

bytes_after_add_of_four : bytes_after (giving (Atomic Add) 2 0x3014 (1 ∷ 0 ∷ 0 ∷ 0 ∷ [])) 0x13013 6 ≡ 0x13 ∷ 0x15 ∷ 0x15 ∷ 0x16 ∷ 0x17 ∷ 0x18 ∷ []
bytes_after_add_of_four = refl

-- fffefdfc and 00010204 are 2^32: no carry leaves the four bytes
add_that_wraps : bytes_after (giving (Atomic Add) 2 0x30fc (0x04 ∷ 0x02 ∷ 0x01 ∷ 0x00 ∷ [])) 0x130fb 7 ≡ 0xfb ∷ 0 ∷ 0 ∷ 0 ∷ 0 ∷ 0x00 ∷ 0x01 ∷ []
add_that_wraps = refl

-- fffe and 3 are 10001
add_of_two : bytes_after (giving (Atomic Add) 1 0x30fe (0x03 ∷ 0x00 ∷ [])) 0x130fd 4 ≡ 0xfd ∷ 0x01 ∷ 0x00 ∷ 0x00 ∷ []
add_of_two = refl

-- the byte 80 is less than 1 as a signed number, and more as an unsigned
abbrev with_one : AtomicOp → List ℕ
with_one op = bytes_after (giving (Atomic op) 0 0x3080 (0x01 ∷ [])) 0x13080 2

order_of_one_byte : map with_one (Min ∷ Max ∷ MinU ∷ MaxU ∷ [])
    ≡ (0x80 ∷ 0x81 ∷ []) ∷ (0x01 ∷ 0x81 ∷ []) ∷ (0x01 ∷ 0x81 ∷ []) ∷ (0x80 ∷ 0x81 ∷ []) ∷ []
order_of_one_byte = refl

-- so are the eight bytes from 80 on
abbrev eight_with_one : AtomicOp → List ℕ
eight_with_one op = bytes_after (giving (Atomic op) 3 0x3080 (1 ∷ 0 ∷ 0 ∷ 0 ∷ 0 ∷ 0 ∷ 0 ∷ 0 ∷ [])) 0x13080 8

abbrev one_in_eight : List ℕ
one_in_eight = 1 ∷ replicate 7 0

order_of_eight_bytes : map eight_with_one (Min ∷ Max ∷ MinU ∷ MaxU ∷ [])
    ≡ range_with_len 0x80 8 ∷ one_in_eight ∷ one_in_eight ∷ range_with_len 0x80 8 ∷ []
order_of_eight_bytes = refl

-- bit by bit, from the bytes 10 to 17
abbrev bit_by_bit : AtomicOp → ℕ → List ℕ
bit_by_bit op byte = bytes_after (giving (Atomic op) 3 0x3010 (replicate 8 byte)) 0x13010 8

bits_of_eight_bytes : bit_by_bit Xor 0xff ∷ bit_by_bit Or 0x0f ∷ bit_by_bit And 0x0f ∷ bit_by_bit Swap 0x99 ∷ []
    ≡ (0xef ∷ 0xee ∷ 0xed ∷ 0xec ∷ 0xeb ∷ 0xea ∷ 0xe9 ∷ 0xe8 ∷ []) ∷ replicate 8 0x1f ∷ range_with_len 0 8 ∷ replicate 8 0x99 ∷ []
bits_of_eight_bytes = refl

-- on a bad word it tells nothing and changes nothing
atomic_on_a_bad_word : means (giving (Atomic Add) 2 0x000c (1 ∷ 0 ∷ 0 ∷ 0 ∷ [])) ∷ means (giving (Atomic Swap) 3 0x0008 (replicate 8 0x99)) ∷ []
    ≡ only_nothing_told 4 ∷ only_nothing_told 8 ∷ []
atomic_on_a_bad_word = refl

-- ---- one at a time, from zero

abbrev replies : List WholeRequest → List Reply
replies requests = replies_in_order faults regions requests zeros

abbrev left : List WholeRequest → ℕ → ℕ → List ℕ
left requests address count = map (bytes_after_all faults regions requests zeros) (range_with_len address count)

no_request : replies [] ≡ []
no_request = refl

-- 64 bytes at an address, of which each eight are their number, from 1 on
abbrev put_of_64 : WholeRequest
put_of_64 = giving PutFull 6 0x3000 (map (λ i. i / 8 + 1) (range_with_len 0 64))

put_then_get : replies (put_of_64 ∷ asking Get 3 0x3020 ∷ []) ≡ is_acknowledged ∷ tells (replicate 8 (Some 0x05)) ∷ []
put_then_get = refl

get_then_put : replies (asking Get 3 0x3020 ∷ put_of_64 ∷ []) ≡ tells (replicate 8 (Some 0)) ∷ is_acknowledged ∷ []
get_then_put = refl

get_beside_the_put : replies (put_of_64 ∷ asking Get 3 0x3040 ∷ []) ≡ is_acknowledged ∷ tells (replicate 8 (Some 0)) ∷ []
get_beside_the_put = refl

-- the later Put of a byte counts
two_puts_then_get : replies (giving PutFull 3 0x3000 (replicate 8 0x99) ∷ put_of_64 ∷ asking Get 3 0x3038 ∷ [])
    ≡ is_acknowledged ∷ is_acknowledged ∷ tells (replicate 8 (Some 0x08)) ∷ []
two_puts_then_get = refl

the_byte_later : left (put_of_64 ∷ giving PutFull 0 0x3008 (0x99 ∷ []) ∷ []) 0x13006 4 ≡ 1 ∷ 1 ∷ 0x99 ∷ 2 ∷ []
the_byte_later = refl

the_byte_earlier : left (giving PutFull 0 0x3008 (0x99 ∷ []) ∷ put_of_64 ∷ []) 0x13006 4 ≡ 1 ∷ 1 ∷ 2 ∷ 2 ∷ []
the_byte_earlier = refl

-- two regions lead to one page
by_two_ways : replies (giving PutFull 0 0x3000 (0x42 ∷ []) ∷ asking Get 0 0x8000 ∷ []) ≡ is_acknowledged ∷ tells (Some 0x42 ∷ []) ∷ []
by_two_ways = refl

abbrev add_and_swap : List WholeRequest
add_and_swap = giving (Atomic Add) 3 0x3000 (5 ∷ replicate 7 0) ∷ giving (Atomic Swap) 3 0x8000 (9 ∷ replicate 7 0) ∷ []

add_and_swap_by_two_ways : replies add_and_swap ≡ tells (replicate 8 (Some 0)) ∷ tells (Some 5 ∷ replicate 7 (Some 0)) ∷ []
add_and_swap_by_two_ways = refl

byte_after_add_and_swap : left add_and_swap 0x13000 2 ≡ 9 ∷ 0 ∷ []
byte_after_add_and_swap = refl

put_then_add : replies (giving PutFull 2 0x3014 (replicate 4 0xff) ∷ giving (Atomic Add) 2 0x3014 (1 ∷ 0 ∷ 0 ∷ 0 ∷ []) ∷ asking Get 3 0x3010 ∷ [])
    ≡ is_acknowledged ∷ tells (replicate 4 (Some 0xff)) ∷ tells (replicate 8 (Some 0)) ∷ []
put_then_add = refl

-- a request that is denied, or that fails, leaves no trace for those after it
denied_in_between : replies (giving PutFull 0 0x3000 (0x42 ∷ []) ∷ record (giving PutFull 0 0x3000 (0x43 ∷ [])) { corrupt = true } ∷ asking Get 0 0x3000 ∷ [])
    ≡ is_acknowledged ∷ is_denied ∷ tells (Some 0x42 ∷ []) ∷ []
denied_in_between = refl

failed_in_between : replies (giving PutFull 0 0x0008 (0x42 ∷ []) ∷ giving (Atomic Add) 0 0x0008 (1 ∷ []) ∷ asking Get 0 0x0008 ∷ [])
    ≡ is_acknowledged ∷ tells (None ∷ []) ∷ tells (None ∷ []) ∷ []
failed_in_between = refl

byte_of_the_failed : left (giving PutFull 0 0x0008 (0x42 ∷ []) ∷ giving (Atomic Add) 0 0x0008 (1 ∷ []) ∷ []) 0x10008 1 ≡ 0x42 ∷ []
byte_of_the_failed = refl

-- ---- the same by number, byte by byte

abbrev order : Order
order =
    record {
      faults = faults;
      regions = regions;
      requests = put_of_64 ∷ giving (Atomic Add) 0 0x8008 (7 ∷ []) ∷ asking Get 3 0x3008 ∷ giving PutFull 0 0x1000 (1 ∷ []) ∷ [];
    }

bytes_found : map (λ number. bytes_before order number 0x13008) (range_with_len 0 4) ≡ 0 ∷ 2 ∷ 9 ∷ 9 ∷ []
bytes_found = refl

byte_that_each_leaves : map (λ number. byte_left order number 0x13008) (range_with_len 0 4) ≡ 2 ∷ 9 ∷ 9 ∷ 9 ∷ []
byte_that_each_leaves = refl

who_writes : map (λ number. writes order number 0x13008) (range_with_len 0 5) ≡ true ∷ true ∷ false ∷ false ∷ false ∷ []
who_writes = refl

who_touches : map (λ number. touches order number 0x13008) (range_with_len 0 5) ≡ true ∷ true ∷ true ∷ false ∷ false ∷ []
who_touches = refl

-- the byte beside the atomic's
beside_it : map (λ number. writes order number 0x13009) (range_with_len 0 3) ∷ map (λ number. touches order number 0x13009) (range_with_len 0 3) ∷ []
    ≡ (true ∷ false ∷ false ∷ []) ∷ (true ∷ false ∷ true ∷ []) ∷ []
beside_it = refl

-- on a slave-error page
touched_and_not_written : writes order 3 0x11000 ∷ touches order 3 0x11000 ∷ [] ≡ false ∷ true ∷ []
touched_and_not_written = refl

-- ---- who may send a message

-- a Get of eight bytes
abbrev get : ABeat
get = a 4 0 3 5 8 0xff 0

-- the second of two clients may
second_client : IsSpelled plain (record { client = 1; beats = get ∷ [] }, request_of (message_of 1 get []))
second_client = record { client = omega arith; spells = (refl, refl, refl, refl) }

-- a third has no port, though its beats would spell a request on one
third_client_spells : Spells (port_of plain.config 2) (get ∷ []) (request_of (message_of 2 get []))
third_client_spells = (refl, refl, refl, refl)

no_third_client : IsSpelled plain (record { client = 2; beats = get ∷ [] }, request_of (message_of 2 get [])) → ⊥
no_third_client is = omega (arith, is.client)

-- ---- what counts as written

-- a Put of eight bytes, and its burst
abbrev put : ABeat
put = a 0 0 3 5 8 0xff 0x1122334455667788

abbrev order_of_put : Order
order_of_put = record { faults = faults_of plain; regions = plain.regions; requests = request_of (message_of 0 put []) ∷ [] }

abbrev piece : Piece
piece = record { address = 0x10008; len = 0; size = 3 }

abbrev just_sent : Pending
just_sent = newly_pending 0 (write_of_one 0 0x10008 3 0x1122334455667788 0xff)

-- nothing of a burst whose beat waits
not_while_it_waits : IsWriteOf order_of_put 8 (λ number x. true) 0 just_sent piece → ⊥
not_while_it_waits of = let none = of.unwritten 0 0x10008 refl (omega arith) refl in absurd (cc (none))

-- nor of a request whose burst isn't sent
abbrev just_accepted : BridgedRequest
just_accepted = newly_live (start plain).bridge.requests (message_of 0 put [])

not_before_it_is_sent : IsInItsTurn order_of_put 8 (λ number x. true) just_accepted → ⊥
not_before_it_is_sent of = let none = of.unsent refl 0 0 0x10008 piece (omega arith) refl (omega arith) refl in absurd (cc (none))
