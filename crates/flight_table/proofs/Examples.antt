-- Worked values of the definitions.
use Rattle.std.proofs.Common.{◌≡◌, ℕ, true, false, List, [], ◌∷◌, map, length, filter, drop, Option, Some, None, true≢false, refl, sym, arith}
use Rattle.std.specs.Prelude.{option_map, replicate, take}
use Rattle.std.specs.List.{range_with_len}
use Rattle.tl_messages.specs.Requests.{HeldMessage}
use Rattle.tl_messages.specs.declared.AtomicOp.TheVariants.{Add, Swap}
use Rattle.tl_messages.specs.declared.Operation.{Operation}
use Rattle.tl_messages.specs.declared.Operation.TheVariants.{PutFull, PutPartial, Atomic, Get, Intent}
use Rattle.burst_plan.specs.PageMap.{translated}
use Rattle.burst_plan.specs.Pieces.{PlannedRange}
use Rattle.burst_plan.specs.declared.Region.{Region}
use Rattle.flight_table.specs.LiveRequests.{LiveRequest, awaits_write, finished, flight_for, next_piece, with_answered, with_sent, with_write}
use Rattle.flight_table.specs.Order.{IsSmallestDone, IsSmallestReady, conflict, free_id, holder_of, holders, id_for, is_ready, next_ready}
use Rattle.flight_table.specs.Tables.{FlightTable, KeyedTable, change_key, change_number, flight_of, has_room, in_flight, is_busy, key_where, oldest_done, request_at, table_of, with_entry, without_number}
use Rattle.flight_table.specs.Work.{spared_work, unsent, work, work_of}
use Rattle.flight_table.specs.declared.TableLimits.{TableLimits}

-- two clients
abbrev limits : TableLimits
limits = record { clients = 2; quota = 4; ids = 16; depth = 2 }

-- 2^size bytes on a bus of eight bytes, in bursts of at most sixteen transfers
abbrev range : ℕ → ℕ → PlannedRange
range address size = record { bus_bytes = 8; max_len = 16; address = address; size = size }

-- the same on a bus of four bytes, in bursts of at most 256 transfers
abbrev narrow_range : ℕ → ℕ → PlannedRange
narrow_range address size = record { bus_bytes = 4; max_len = 256; address = address; size = size }

-- what a request needs of its message: its source and what it asks
abbrev message : ℕ → Operation → HeldMessage
message source operation = record { client = 0; source = source; operation = operation; size = 0; address = 0; corrupt = false; beats = [] }

-- just accepted, with its number for a source
abbrev planned_as : ℕ → ℕ → Operation → PlannedRange → LiveRequest
planned_as number client operation plan = flight_for number client (message number operation) (Some plan)

abbrev request : ℕ → ℕ → Operation → ℕ → ℕ → LiveRequest
request number client operation address size = planned_as number client operation (range address size)

-- denied when it was accepted
abbrev unplanned : ℕ → Operation → LiveRequest
unplanned number operation = flight_for number 0 (message number operation) None

-- a table of these requests
abbrev table : List LiveRequest → FlightTable
table live = record { limits = limits; accepted = length live; live = live }

-- the next burst of a number is sent under an ID; a burst of it is answered; all of it is done
abbrev send : ℕ → ℕ → FlightTable → FlightTable
send number id live = change_number number (with_sent id) live

abbrev answer : ℕ → FlightTable → FlightTable
answer number live = change_number number with_answered live

abbrev finish : ℕ → FlightTable → FlightTable
finish number live = change_number number finished live

abbrev number_of : Option LiveRequest → Option ℕ
number_of found = option_map (λ r. r.number) found

abbrev ready_number : FlightTable → Option ℕ
ready_number live = number_of (next_ready live)

-- ---- conflicts: the ranges of the AXI4 side share a byte, and at least one is no Get

abbrev put_of_64 : LiveRequest
put_of_64 = request 0 0 PutFull 0x10000 6

two_gets : conflict (request 0 0 Get 0x10000 6) (request 1 1 Get 0x10000 6) ≡ false
two_gets = refl

a_put_and_a_get : conflict put_of_64 (request 1 1 Get 0x10020 3) ∷ conflict (request 0 1 Get 0x10020 3) (request 1 0 PutFull 0x10000 6) ∷ [] ≡ true ∷ true ∷ []
a_put_and_a_get = refl

two_puts : conflict put_of_64 (request 1 1 PutPartial 0x1003f 0) ≡ true
two_puts = refl

an_atomic_and_a_get : conflict (request 0 0 (Atomic Add) 0x10014 2) (request 1 1 Get 0x10010 3) ∷ conflict (request 0 0 Get 0x10010 3) (request 1 1 (Atomic Add) 0x10014 2) ∷ []
    ≡ true ∷ true ∷ []
an_atomic_and_a_get = refl

two_atomics : conflict (request 0 0 (Atomic Add) 0x10000 3) (request 1 1 (Atomic Swap) 0x10000 3) ≡ true
two_atomics = refl

-- one ends where the other begins
ranges_that_touch : conflict put_of_64 (request 1 1 Get 0x10040 3) ∷ conflict (request 0 1 Get 0x10040 3) (request 1 0 PutFull 0x10000 6) ∷ [] ≡ false ∷ false ∷ []
ranges_that_touch = refl

the_last_byte : conflict put_of_64 (request 1 1 Get 0x1003f 0) ≡ true
the_last_byte = refl

-- bytes count, and not words
two_bytes_of_a_word : conflict (request 0 0 PutFull 0x1000b 0) (request 1 1 Get 0x1000a 0) ≡ false
two_bytes_of_a_word = refl

-- a denied request has no range, and nor has an Intent
a_denied_put : conflict (unplanned 0 PutFull) (request 1 1 Get 0x10000 3) ∷ conflict (request 0 1 Get 0x10000 3) (unplanned 1 PutFull) ∷ [] ≡ false ∷ false ∷ []
a_denied_put = refl

an_intent : conflict (request 0 0 (Intent true) 0x10000 12) (request 1 1 PutFull 0x10000 3) ≡ false
an_intent = refl

-- both are done at once
done_at_once : (unplanned 0 PutFull).done ∷ (request 0 0 (Intent true) 0x10000 12).done ∷ put_of_64.done ∷ [] ≡ true ∷ true ∷ false ∷ []
done_at_once = refl

-- ---- which is ready

-- a Put of 64 bytes and a Get of eight of them: the Get waits for the Put's answer
abbrev put_then_get : FlightTable
put_then_get = table (put_of_64 ∷ request 1 1 Get 0x10020 3 ∷ [])

a_get_behind_a_put : ready_number put_then_get ∷ ready_number (send 0 0 put_then_get) ∷ ready_number (finish 0 (answer 0 (send 0 0 put_then_get))) ∷ [] ≡ Some 0 ∷ None ∷ Some 1 ∷ []
a_get_behind_a_put = refl

a_get_beside_a_put : ready_number (send 0 0 (table (put_of_64 ∷ request 1 1 Get 0x10040 3 ∷ []))) ≡ Some 1
a_get_beside_a_put = refl

-- the Get doesn't touch the first Put, but it waits for the second, which waits for the first
abbrev put_put_get : FlightTable
put_put_get = table (request 0 0 PutFull 0x10000 3 ∷ request 1 0 PutFull 0x10000 6 ∷ request 2 1 Get 0x10038 3 ∷ [])

abbrev first_put_done : FlightTable
first_put_done = finish 0 (answer 0 (send 0 0 put_put_get))

abbrev both_puts_done : FlightTable
both_puts_done = finish 1 (answer 1 (send 1 0 first_put_done))

held_by_a_put_that_is_held : ready_number put_put_get ∷ ready_number (send 0 0 put_put_get) ∷ ready_number first_put_done
    ∷ ready_number (send 1 0 first_put_done) ∷ ready_number both_puts_done ∷ [] ≡ Some 0 ∷ None ∷ Some 1 ∷ None ∷ Some 2 ∷ []
held_by_a_put_that_is_held = refl

-- two regions lead to one page
abbrev region : ℕ → ℕ → ℕ → Region
region tl_page pages axi_page = record { tl_page = tl_page; pages = pages; axi_page = axi_page; get = true; put = true; atomic = true; hint = true }

abbrev at_address : ℕ → Operation → ℕ → LiveRequest
at_address number operation address =
    flight_for number 0 (message number operation) (option_map (λ x. range x 3) (translated (region 0 4 0x10 ∷ region 8 1 0x10 ∷ []) operation address))

by_the_second_way : ready_number (send 0 0 (table (at_address 0 PutFull 0x0000 ∷ at_address 1 Get 0x8000 ∷ [])))
    ∷ ready_number (send 0 0 (table (at_address 0 PutFull 0x0000 ∷ at_address 1 Get 0x1000 ∷ []))) ∷ [] ≡ None ∷ Some 1 ∷ []
by_the_second_way = refl

-- a Put waits for both Gets before it
abbrev gets_then_put : FlightTable
gets_then_put = table (request 0 0 Get 0x10000 4 ∷ request 1 1 Get 0x10008 3 ∷ request 2 1 PutFull 0x10008 3 ∷ [])

abbrev both_gets_sent : FlightTable
both_gets_sent = send 1 1 (send 0 0 gets_then_put)

a_put_behind_two_gets : ready_number gets_then_put ∷ ready_number (send 0 0 gets_then_put) ∷ ready_number both_gets_sent ∷ ready_number (finish 1 (answer 1 both_gets_sent))
    ∷ ready_number (finish 0 (answer 0 (finish 1 (answer 1 both_gets_sent)))) ∷ [] ≡ Some 0 ∷ Some 1 ∷ None ∷ None ∷ Some 2 ∷ []
a_put_behind_two_gets = refl

-- the first Get is the smallest that is ready; the second is ready too, and the Put isn't
first_is_the_smallest : IsSmallestReady gets_then_put (request 0 0 Get 0x10000 4)
first_is_the_smallest = record { ready = refl; smallest = (λ is. omega arith, (λ is. omega arith, (λ is. omega arith, tt))) }

second_is_not_the_smallest : IsSmallestReady gets_then_put (request 1 1 Get 0x10008 3) → ⊥
second_is_not_the_smallest it = absurd (omega (arith, it.smallest.0 refl))

a_held_put_is_none : IsSmallestReady gets_then_put (request 2 1 PutFull 0x10008 3) → ⊥
a_held_put_is_none it = absurd (true≢false (sym it.ready))

-- 512 bytes are four bursts, of which at most two are unanswered
abbrev four_bursts : FlightTable
four_bursts = table (request 0 0 Get 0x10000 9 ∷ [])

at_most_two_unanswered : map ready_number (send 0 0 four_bursts ∷ send 0 0 (send 0 0 four_bursts) ∷ answer 0 (send 0 0 (send 0 0 four_bursts)) ∷ []) ≡ Some 0 ∷ None ∷ Some 0 ∷ []
at_most_two_unanswered = refl

-- with one ID, two Gets that don't conflict go one after the other
abbrev one_id : FlightTable
one_id = record (table (request 0 0 Get 0x10000 3 ∷ request 1 1 Get 0x10008 3 ∷ [])) { limits = record limits { ids = 1 } }

no_id_is_free : map ready_number (one_id ∷ send 0 0 one_id ∷ finish 0 (answer 0 (send 0 0 one_id)) ∷ []) ≡ Some 0 ∷ None ∷ Some 1 ∷ []
no_id_is_free = refl

-- ---- an atomic

abbrev add : LiveRequest
add = request 0 0 (Atomic Add) 0x10014 2

-- its read is sent; is answered; its write is planned; and is sent
abbrev read_sent : LiveRequest
read_sent = with_sent 0 add

abbrev read_answered : LiveRequest
read_answered = with_answered read_sent

abbrev write_planned : LiveRequest
write_planned = with_write read_answered

abbrev write_sent : LiveRequest
write_sent = with_sent 0 write_planned

it_reads_and_then_writes : map (λ r. r.writing) (add ∷ read_sent ∷ read_answered ∷ write_planned ∷ write_sent ∷ []) ≡ false ∷ false ∷ false ∷ true ∷ true ∷ []
it_reads_and_then_writes = refl

its_pieces : map next_piece (add ∷ read_sent ∷ read_answered ∷ write_planned ∷ write_sent ∷ [])
    ≡ Some (record { address = 0x10014; len = 0; size = 2 }) ∷ None ∷ None ∷ Some (record { address = 0x10014; len = 0; size = 2 }) ∷ None ∷ []
its_pieces = refl

its_write_waits_for_its_read : map awaits_write (add ∷ read_sent ∷ read_answered ∷ write_planned ∷ []) ≡ false ∷ false ∷ true ∷ false ∷ []
its_write_waits_for_its_read = refl

-- a SWAP of the same bytes waits until all of it is done
abbrev add_and_swap : LiveRequest → FlightTable
add_and_swap first = table (first ∷ request 1 1 (Atomic Swap) 0x10014 2 ∷ [])

its_range_is_kept : map (λ first. ready_number (add_and_swap first)) (add ∷ read_sent ∷ read_answered ∷ write_planned ∷ write_sent ∷ finished (with_answered write_sent) ∷ [])
    ≡ Some 0 ∷ None ∷ None ∷ Some 0 ∷ None ∷ Some 1 ∷ []
its_range_is_kept = refl

its_id_is_kept : map (λ first. free_id 16 (first ∷ [])) (add ∷ read_sent ∷ write_sent ∷ finished (with_answered write_sent) ∷ []) ≡ Some 0 ∷ Some 1 ∷ Some 1 ∷ Some 0 ∷ []
its_id_is_kept = refl

-- ---- how many hold a request back

-- 64 requests of the same eight bytes
abbrev all_of : Operation → List LiveRequest
all_of operation = map (λ number. request number 0 operation 0x10000 3) (range_with_len 0 64)

abbrev counts : List LiveRequest → List ℕ
counts live = map (λ r. length (holders live r)) live

each_put_is_held_by_all_before_it : counts (all_of PutFull) ≡ range_with_len 0 64
each_put_is_held_by_all_before_it = refl

abbrev first_done : FlightTable
first_done = finish 0 (answer 0 (send 0 0 (table (all_of PutFull))))

once_the_first_is_done : counts first_done.live ≡ 0 ∷ range_with_len 0 63
once_the_first_is_done = refl

only_one_is_ready : map (λ r. r.number) (filter (is_ready first_done) first_done.live) ≡ 1 ∷ []
only_one_is_ready = refl

no_get_is_held : counts (all_of Get) ≡ replicate 64 0
no_get_is_held = refl

-- ---- IDs

abbrev holding : ℕ → ℕ → LiveRequest
holding number id = with_sent id (request number 0 Get 0x10000 3)

smallest_free_id : map (free_id 16) ([] ∷ (holding 0 0 ∷ []) ∷ (holding 0 0 ∷ holding 1 2 ∷ []) ∷ (holding 0 1 ∷ []) ∷ []) ≡ Some 0 ∷ Some 1 ∷ Some 1 ∷ Some 0 ∷ []
smallest_free_id = refl

all_ids_held : free_id 2 (holding 0 1 ∷ holding 1 0 ∷ []) ≡ None
all_ids_held = refl

-- a request keeps the ID of its first burst
its_own_id : id_for limits (holding 0 3 ∷ []) (holding 0 3) ∷ id_for limits (holding 0 0 ∷ []) (request 1 0 Get 0x10000 3) ∷ [] ≡ Some 3 ∷ Some 1 ∷ []
its_own_id = refl

abbrev two_holders : FlightTable
two_holders = table (holding 0 3 ∷ holding 1 0 ∷ [])

who_holds_an_id : map number_of (holder_of two_holders 0 ∷ holder_of two_holders 3 ∷ holder_of two_holders 1 ∷ []) ≡ Some 1 ∷ Some 0 ∷ None ∷ []
who_holds_an_id = refl

-- ---- work

of_a_put_of_eight : work_of (request 0 0 PutFull 0x10008 3) ≡ 3
of_a_put_of_eight = refl

of_a_put_of_64 : work_of put_of_64 ≡ 10
of_a_put_of_64 = refl

of_both : work put_then_get ≡ 13
of_both = refl

as_requests_come : map (λ live. work (table live)) (take 1 gets_then_put.live ∷ take 2 gets_then_put.live ∷ gets_then_put.live ∷ []) ≡ 5 ∷ 8 ∷ 11 ∷ []
as_requests_come = refl

-- the write of an atomic counts from the start
of_an_atomic : map work_of (add ∷ read_sent ∷ read_answered ∷ write_planned ∷ write_sent ∷ finished (with_answered write_sent) ∷ []) ≡ 6 ∷ 5 ∷ 3 ∷ 3 ∷ 2 ∷ 0 ∷ []
of_an_atomic = refl

-- three of the six go when its read fails
spared_by_a_failed_read : map spared_work (add ∷ read_answered ∷ finished read_answered ∷ finished (with_answered write_sent) ∷ []) ≡ 0 ∷ 0 ∷ 3 ∷ 0 ∷ []
spared_by_a_failed_read = refl

-- eight bytes over a bus of four: two transfers each way
of_an_atomic_in_halves : work_of (planned_as 0 0 (Atomic Add) (narrow_range 0x10000 3)) ∷ spared_work (finished (planned_as 0 0 (Atomic Add) (narrow_range 0x10000 3))) ∷ [] ≡ 9 ∷ 4 ∷ []
of_an_atomic_in_halves = refl

-- a page in bursts of 256 transfers
abbrev get_of_a_page : FlightTable
get_of_a_page = table (planned_as 0 0 Get (record (range 0x11000 12) { max_len = 256 }) ∷ [])

of_a_page : work get_of_a_page ∷ work (send 0 0 (send 0 0 get_of_a_page)) ∷ work (answer 0 (send 0 0 (send 0 0 get_of_a_page))) ∷ [] ≡ 1026 ∷ 1024 ∷ 512 ∷ []
of_a_page = refl

of_a_page_on_a_bus_of_four : work (table (planned_as 0 0 Get (narrow_range 0x11000 12) ∷ [])) ≡ 2052
of_a_page_on_a_bus_of_four = refl

-- what was sent is left out
still_to_send : unsent put_then_get ∷ unsent (send 0 0 put_then_get) ∷ unsent (table (read_sent ∷ [])) ∷ [] ≡ 13 ∷ 3 ∷ 3 ∷ []
still_to_send = refl

of_what_is_done : work (table (unplanned 0 PutFull ∷ request 1 0 (Intent false) 0x10000 12 ∷ [])) ≡ 0
of_what_is_done = refl

-- ---- what clients see

-- four Gets of client 0
abbrev four_gets : FlightTable
four_gets = table (map (λ number. request number 0 Get 0x10000 3) (range_with_len 0 4))

room_by_client : has_room four_gets 0 ∷ has_room four_gets 1 ∷ has_room (table (drop 1 four_gets.live)) 0 ∷ [] ≡ false ∷ true ∷ true ∷ []
room_by_client = refl

busy_sources : is_busy four_gets 0 0 ∷ is_busy four_gets 0 3 ∷ is_busy four_gets 0 4 ∷ is_busy four_gets 1 0 ∷ [] ≡ true ∷ true ∷ false ∷ false ∷ []
busy_sources = refl

-- a done request has its room and its source until its reply is taken
done_and_not_taken : has_room (finish 0 four_gets) 0 ∷ is_busy (finish 0 four_gets) 0 0 ∷ [] ≡ false ∷ true ∷ []
done_and_not_taken = refl

done_and_taken : has_room (without_number 0 (finish 0 four_gets)) 0 ∷ is_busy (without_number 0 (finish 0 four_gets)) 0 0 ∷ [] ≡ true ∷ false ∷ []
done_and_taken = refl

-- a later one may be done before an earlier one
oldest_of_the_done : map number_of (oldest_done four_gets 0 ∷ oldest_done (finish 2 four_gets) 0 ∷ oldest_done (finish 1 (finish 2 four_gets)) 0
    ∷ oldest_done (finish 2 four_gets) 1 ∷ []) ≡ None ∷ Some 2 ∷ Some 1 ∷ None ∷ []
oldest_of_the_done = refl

-- so the second is the smallest that is done, whatever another client's are
second_is_the_oldest : IsSmallestDone (finish 1 (finish 2 four_gets)) 0 (finished (request 1 0 Get 0x10000 3))
second_is_the_oldest =
    record { done = refl; whose = refl; smallest = (λ whose is. absurd (true≢false (sym is)), (λ whose is. omega arith, (λ whose is. omega arith, (λ whose is. omega arith, tt)))) }

third_is_not : IsSmallestDone (finish 1 (finish 2 four_gets)) 0 (finished (request 2 0 Get 0x10000 3)) → ⊥
third_is_not it = absurd (omega (arith, it.smallest.1.0 refl refl))

those_in_flight : in_flight four_gets ∷ in_flight (finish 2 four_gets) ∷ in_flight (table (unplanned 0 Get ∷ [])) ∷ [] ≡ 4 ∷ 3 ∷ 0 ∷ []
those_in_flight = refl

of_a_number : number_of (flight_of four_gets 2) ∷ number_of (flight_of (without_number 2 four_gets) 2) ∷ [] ≡ Some 2 ∷ None ∷ []
of_a_number = refl

-- ---- keys: they stand in any order

abbrev two_keys : KeyedTable
two_keys =
    with_entry (record { key = 3; request = request 1 1 Get 0x10020 3 })
    (with_entry (record { key = 7; request = put_of_64 }) (record { limits = limits; accepted = 0; entries = [] }))

by_key : number_of (request_at 3 two_keys) ∷ number_of (request_at 7 two_keys) ∷ number_of (request_at 0 two_keys) ∷ [] ≡ Some 1 ∷ Some 0 ∷ None ∷ []
by_key = refl

key_of_the_ready : key_where (is_ready (table_of two_keys)) two_keys ≡ Some 7
key_of_the_ready = refl

key_of_the_next : key_where (is_ready (table_of (change_key 7 finished two_keys))) (change_key 7 finished two_keys) ≡ Some 3
key_of_the_next = refl
