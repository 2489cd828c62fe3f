-- Worked values of the definitions: what bridges are refused, what they answer to clients, what they send, and what they make of answers.
use Rattle.std.proofs.Common.{◌≡◌, ℕ, ◌+◌, ◌-◌, ◌*◌, ◌^◌, Bool, true, false, List, [], ◌∷◌, ◌++◌, map, Option, Some, None, refl}
use Rattle.std.specs.Prelude.{fold, option_map, replicate}
use Rattle.std.specs.List.{range_with_len}
use Rattle.tl_messages.specs.declared.ABeat.{ABeat}
use Rattle.tl_messages.specs.declared.DBeat.{DBeat}
use Rattle.tl_checker.specs.declared.Level.TheVariants.{Ul, Uh}
use Rattle.tl_checker.specs.declared.TlRule.TheVariants as rule
use Rattle.axi_beats.specs.Bursts.{Burst, WriteBurst, ReadBurst}
use Rattle.axi_beats.specs.declared.Resp.{Resp}
use Rattle.axi_beats.specs.declared.Resp.TheVariants.{Okay, SlvErr, DecErr}
use Rattle.axi_beats.specs.declared.Resp.TheVariants as resp
use Rattle.axi_beats.specs.declared.WBeat.{WBeat}
use Rattle.axi_checker.specs.declared.AxiRule.{AxiRule}
use Rattle.axi_checker.specs.declared.AxiRule.TheVariants.{IdRange, BWithoutWrite, RWithoutRead, RLast, ExOkay}
use Rattle.burst_plan.specs.declared.Region.{Region}
use Rattle.bridge_core.specs.Bridge.{BridgeState, after_b_beat, after_pump, after_r_beat, after_take, b_fault, boxes_of, burst_to_send, in_flight, offered, opening_bridge, opening_state, r_fault, reply_taken, taken, work_left}
use Rattle.config.specs.Configs.{is_valid, port_of}
use Rattle.bridge_core.specs.HeldRequests.{reply_beats}
use Rattle.config.specs.declared.Config.{Config}
use Rattle.bridge_core.specs.declared.Offered.{Offered}
use Rattle.bridge_core.specs.declared.Offered.TheVariants as offer
use Rattle.bridge_core.specs.declared.Taken.TheVariants as take

-- ---- limits

-- two clients, bursts of at most sixteen transfers, on a bus of eight bytes
abbrev config : Config
config = record { clients = 2; quota = 4; ids = 16; depth = 2; max_len = 16; max_size = 12; levels = replicate 8 Uh; axi_bytes = 8 }

these_are_valid : is_valid config ≡ true
these_are_valid = refl

ranges_of_limits : map (λ n. is_valid (record config { clients = n })) (0 ∷ 1 ∷ 8 ∷ 9 ∷ []) ∷ map (λ n. is_valid (record config { quota = n })) (0 ∷ 1 ∷ 8 ∷ 9 ∷ [])
    ∷ map (λ n. is_valid (record config { ids = n })) (0 ∷ 1 ∷ 16 ∷ 17 ∷ []) ∷ map (λ n. is_valid (record config { depth = n })) (0 ∷ 1 ∷ 4 ∷ 5 ∷ [])
    ∷ map (λ n. is_valid (record config { max_size = n })) (2 ∷ 3 ∷ 12 ∷ 13 ∷ []) ∷ []
    ≡ replicate 5 (false ∷ true ∷ true ∷ false ∷ [])
ranges_of_limits = refl

lengths_of_bursts : map (λ n. is_valid (record config { max_len = n })) (0 ∷ 1 ∷ 2 ∷ 3 ∷ 128 ∷ 255 ∷ 256 ∷ 512 ∷ [])
    ≡ false ∷ true ∷ true ∷ false ∷ true ∷ false ∷ true ∷ false ∷ []
lengths_of_bursts = refl

widths_of_the_bus : map (λ n. is_valid (record config { axi_bytes = n })) (1 ∷ 2 ∷ 4 ∷ 8 ∷ 16 ∷ []) ≡ false ∷ false ∷ true ∷ true ∷ false ∷ []
widths_of_the_bus = refl

-- eight bytes have to fit a burst
lengths_on_a_bus_of_four : map (λ n. is_valid (record config { axi_bytes = 4; max_len = n })) (1 ∷ 2 ∷ []) ≡ false ∷ true ∷ []
lengths_on_a_bus_of_four = refl

level_of_each_client : map (λ client. (port_of (record config { levels = Uh ∷ Ul ∷ replicate 6 Uh }) client).level) (0 ∷ 1 ∷ []) ≡ Uh ∷ Ul ∷ []
level_of_each_client = refl

boxes_for_all_bursts : boxes_of config ∷ (opening_bridge config []).stock ∷ [] ≡ 32 ∷ 32 ∷ []
boxes_for_all_bursts = refl

-- ---- a bridge, and calls on it

-- a region that permits all
abbrev region : ℕ → ℕ → ℕ → Region
region tl_page pages axi_page = record { tl_page = tl_page; pages = pages; axi_page = axi_page; get = true; put = true; atomic = true; hint = true }

abbrev start : BridgeState
start = opening_state config (region 0 4 0x10 ∷ [])

-- the same with other limits
abbrev start_with : Config → BridgeState
start_with limits = opening_state limits (region 0 4 0x10 ∷ [])

abbrev narrow : Config
narrow = record config { axi_bytes = 4 }

-- opcode, param, size, source, address, mask and payload
abbrev a : ℕ → ℕ → ℕ → ℕ → ℕ → ℕ → ℕ → ABeat
a opcode param size source address mask payload =
    record { opcode = opcode; param = param; size = size; source = source; address = address; mask = mask; payload = payload; corrupt = false }

-- what a call makes of a bridge
abbrev Call : Type 0
Call = BridgeState → BridgeState

-- a client offers a beat; the next burst goes; an answer comes; a client takes a reply
abbrev by : ℕ → ABeat → Call
by client beat state = (offered state client beat).0

abbrev pump : Call
pump = after_pump

abbrev on_b : ℕ → Resp → Call
on_b id r state = after_b_beat state (record { id = id; resp = r })

abbrev on_r : ℕ → ℕ → Resp → Bool → Call
on_r id payload r last state = after_r_beat state (record { id = id; payload = payload; resp = r; last = last })

abbrev take_for : ℕ → Call
take_for client state = after_take state client

-- a bridge after calls
abbrev after : BridgeState → List Call → BridgeState
after state calls = fold (λ now call. call now) state calls

abbrev answer_to : BridgeState → ℕ → ABeat → Offered
answer_to state client beat = (offered state client beat).1

-- the answers to a client's beats, each after those before it
abbrev answers_to : BridgeState → ℕ → List ABeat → List Offered
answers_to state client [] = []
answers_to state client (beat ∷ beats) = answer_to state client beat ∷ answers_to (by client beat state) client beats

-- the beats of the reply that a client may take
abbrev reply_to : BridgeState → ℕ → Option (List DBeat)
reply_to state client = option_map reply_beats (reply_taken state client)

-- opcode, size, source, denied, payload and corrupt
abbrev d : ℕ → ℕ → ℕ → Bool → ℕ → Bool → DBeat
d opcode size source denied payload corrupt =
    record { opcode = opcode; param = 0; size = size; source = source; denied = denied; payload = payload; corrupt = corrupt }

-- a write of one transfer, with its data, and a read
abbrev write : ℕ → ℕ → ℕ → List WBeat → Burst
write id address size beats = WriteBurst (record { id = id; address = address; len = 0; size = size; burst = 1 }) beats

abbrev only : ℕ → ℕ → List WBeat
only payload strobes = record { payload = payload; strobes = strobes; last = true } ∷ []

abbrev read : ℕ → ℕ → ℕ → ℕ → Burst
read id address len size = ReadBurst (record { id = id; address = address; len = len; size = size; burst = 1 })

-- ---- one Put of eight bytes

abbrev put_of_eight : ABeat
put_of_eight = a 0 0 3 5 0x08 0xff 0x1122334455667788

abbrev put_offered : BridgeState
put_offered = by 0 put_of_eight start

it_is_accepted : answer_to start 0 put_of_eight ≡ offer.Accepted 0
it_is_accepted = refl

it_goes_as_one_burst : burst_to_send put_offered ∷ burst_to_send (pump put_offered) ∷ [] ≡ Some (write 0 0x10008 3 (only 0x1122334455667788 0xff)) ∷ None ∷ []
it_goes_as_one_burst = refl

its_work : map work_left (start ∷ put_offered ∷ pump put_offered ∷ on_b 0 Okay (pump put_offered) ∷ []) ≡ 0 ∷ 3 ∷ 2 ∷ 0 ∷ []
its_work = refl

while_in_flight : map in_flight (start ∷ put_offered ∷ pump put_offered ∷ on_b 0 Okay (pump put_offered) ∷ []) ≡ 0 ∷ 1 ∷ 1 ∷ 0 ∷ []
while_in_flight = refl

its_reply : reply_to (on_b 0 Okay (pump put_offered)) 0 ≡ Some (d 0 3 5 false 0 false ∷ [])
its_reply = refl

once_it_is_done : map (λ state. taken state 0) (put_offered ∷ pump put_offered ∷ on_b 0 Okay (pump put_offered) ∷ take_for 0 (on_b 0 Okay (pump put_offered)) ∷ [])
    ≡ take.Nothing ∷ take.Nothing ∷ take.Reply 0 ∷ take.Nothing ∷ []
once_it_is_done = refl

for_its_own_client : taken (on_b 0 Okay (pump put_offered)) 1 ∷ taken (on_b 0 Okay (pump put_offered)) 2 ∷ [] ≡ take.Nothing ∷ take.NoClient ∷ []
for_its_own_client = refl

-- ---- offers

wrong_mask : offered start 0 (a 0 0 0 0 0x0b 0x01 0x00000000aa000000) ≡ (start, offer.Refused rule.Mask)
wrong_mask = refl

changed_address : answers_to start 0 (a 0 0 4 0 0 0xff 1 ∷ a 0 0 4 0 8 0xff 2 ∷ a 0 0 4 0 0 0xff 2 ∷ [])
    ≡ offer.More ∷ offer.Refused rule.BurstControl ∷ offer.Accepted 0 ∷ []
changed_address = refl

-- Gets of eight bytes at 0, by source
abbrev get_from : ℕ → ABeat
get_from source = a 4 0 3 source 0 0xff 0

abbrev four_gets : BridgeState
four_gets = after start (map (λ source. by 0 (get_from source)) (range_with_len 0 4))

answers_to_four_gets : answers_to start 0 (map get_from (range_with_len 0 4)) ≡ map offer.Accepted (range_with_len 0 4)
answers_to_four_gets = refl

then_no_more : answer_to four_gets 0 (get_from 0) ∷ answer_to four_gets 0 (get_from 4) ∷ answer_to four_gets 1 (get_from 4) ∷ answer_to four_gets 2 (get_from 0) ∷ []
    ≡ offer.Refused rule.SourceBusy ∷ offer.NotReady ∷ offer.Accepted 4 ∷ offer.NoClient ∷ []
then_no_more = refl

work_of_five_gets : work_left (by 1 (get_from 4) four_gets) ≡ 15
work_of_five_gets = refl

-- each refusal comes before those after it: no client, a rule, no room, no number
before_others : answer_to start 2 (a 7 0 3 0 0 0xff 0) ∷ answer_to four_gets 0 (a 4 0 3 4 0x04 0xff 0) ∷ [] ≡ offer.NoClient ∷ offer.Refused rule.Align ∷ []
before_others = refl

-- a beat that doesn't complete its request needs no room
no_room_for_a_whole_request : answers_to four_gets 0 (a 0 0 4 4 0 0xff 1 ∷ a 0 0 4 4 0 0xff 2 ∷ []) ≡ offer.More ∷ offer.NotReady ∷ []
no_room_for_a_whole_request = refl

-- after 2^48 requests
abbrev all_numbers_given : BridgeState → BridgeState
all_numbers_given state = record state { requests = record state.requests { accepted = 2 ^ 48 } }

no_number : answers_to (all_numbers_given start) 0 (a 0 0 4 4 0 0xff 1 ∷ a 0 0 4 4 0 0xff 2 ∷ []) ∷ answers_to (all_numbers_given four_gets) 0 (get_from 4 ∷ []) ∷ []
    ≡ (offer.More ∷ offer.Exhausted ∷ []) ∷ (offer.NotReady ∷ []) ∷ []
no_number = refl

the_last_number : answer_to (record start { requests = record start.requests { accepted = 2 ^ 48 - 1 } }) 0 (get_from 0) ≡ offer.Accepted 0xffffffffffff
the_last_number = refl

-- a source is free again when its reply was taken
abbrev first_reply_taken : BridgeState
first_reply_taken = after four_gets (pump ∷ on_r 0 0 Okay true ∷ take_for 0 ∷ [])

room_again : answer_to (after four_gets (pump ∷ on_r 0 0 Okay true ∷ [])) 0 (get_from 0) ∷ map (answer_to first_reply_taken 0) (get_from 0 ∷ get_from 4 ∷ [])
    ≡ offer.Refused rule.SourceBusy ∷ offer.Accepted 4 ∷ offer.Accepted 4 ∷ []
room_again = refl

-- ---- what goes, and when

-- a Put of one byte, and two of a part of eight: of no byte and of some
small_puts : map (λ beat. burst_to_send (by 0 beat start))
    (a 0 0 0 0 0x0b 0x08 0x00000000aa000000 ∷ a 1 0 3 0 0x08 0x00 0xffffffffffffffff ∷ a 1 0 3 0 0x08 0x3c 0x1122334455667788 ∷ [])
    ≡ Some (write 0 0x1000b 0 (only 0x00000000aa000000 0x08)) ∷ Some (write 0 0x10008 3 (only 0 0x00)) ∷ Some (write 0 0x10008 3 (only 0x0000334455660000 0x3c)) ∷ []
small_puts = refl

-- a page in two bursts
abbrev get_of_a_page : BridgeState
get_of_a_page = by 0 (a 4 0 12 0 0x1000 0xff 0) (start_with (record config { max_len = 256 }))

a_page_in_two : map burst_to_send (get_of_a_page ∷ pump get_of_a_page ∷ pump (pump get_of_a_page) ∷ [])
    ≡ Some (read 0 0x11000 255 3) ∷ Some (read 0 0x11800 255 3) ∷ None ∷ []
a_page_in_two = refl

work_of_a_page : map work_left (get_of_a_page ∷ pump (pump get_of_a_page) ∷ on_r 0 0 Okay false (pump (pump get_of_a_page)) ∷ []) ≡ 1026 ∷ 1024 ∷ 1022 ∷ []
work_of_a_page = refl

-- beat k of 64 bytes at 0, each of its bytes k + 1
abbrev eight_of : ℕ → ℕ
eight_of byte = byte * 0x0101010101010101

abbrev put_of_64 : ℕ → List ABeat
put_of_64 source = map (λ k. a 0 0 6 source 0 0xff (eight_of (k + 1))) (range_with_len 0 8)

put_of_64_answers : answers_to start 0 (put_of_64 0) ≡ replicate 7 offer.More ++ offer.Accepted 0 ∷ []
put_of_64_answers = refl

abbrev put_of_64_offered : BridgeState
put_of_64_offered = after start (map (by 0) (put_of_64 0))

put_of_64_goes_whole : burst_to_send put_of_64_offered
    ≡ Some
    (WriteBurst (record { id = 0; address = 0x10000; len = 7; size = 3; burst = 1 })
    (map (λ k. record { payload = eight_of (k + 1); strobes = 0xff; last = false }) (range_with_len 0 7) ++ only (eight_of 8) 0xff))
put_of_64_goes_whole = refl

-- a Get of eight of its bytes waits for its answer, one of others doesn't
abbrev get_within : BridgeState
get_within = by 1 (a 4 0 3 0 0x20 0xff 0) put_of_64_offered

work_of_both : work_left put_of_64_offered ∷ work_left get_within ∷ [] ≡ 10 ∷ 13 ∷ []
work_of_both = refl

get_within_waits : burst_to_send (pump get_within) ∷ burst_to_send (on_b 0 Okay (pump get_within)) ∷ [] ≡ None ∷ Some (read 0 0x10020 0 3) ∷ []
get_within_waits = refl

get_within_is_answered : reply_to (after get_within (pump ∷ on_b 0 Okay ∷ pump ∷ on_r 0 0x0505050505050505 Okay true ∷ [])) 1
    ≡ Some (d 1 3 0 false 0x0505050505050505 false ∷ [])
get_within_is_answered = refl

abbrev get_beside : BridgeState
get_beside = pump (by 1 (a 4 0 3 0 0x40 0xff 0) put_of_64_offered)

get_beside_goes : burst_to_send get_beside ≡ Some (read 1 0x10040 0 3)
get_beside_goes = refl

get_beside_is_answered_first : map (taken (after get_beside (pump ∷ on_r 1 0 Okay true ∷ []))) (1 ∷ 0 ∷ []) ≡ take.Reply 1 ∷ take.Nothing ∷ []
get_beside_is_answered_first = refl

-- a Get waits behind a Put that itself waits
abbrev two_puts : BridgeState
two_puts = after start (by 0 (a 0 0 3 0 0 0xff 0) ∷ map (by 0) (put_of_64 1) ++ by 1 (a 4 0 3 0 0x38 0xff 0) ∷ pump ∷ [])

behind_a_put_that_waits : map burst_to_send (two_puts ∷ after two_puts (on_b 0 Okay ∷ pump ∷ []) ∷ after two_puts (on_b 0 Okay ∷ pump ∷ on_b 0 Okay ∷ []) ∷ [])
    ≡ None ∷ None ∷ Some (read 0 0x10038 0 3) ∷ []
behind_a_put_that_waits = refl

-- two regions lead to one AXI4 page
abbrev two_ways : BridgeState
two_ways = opening_state config (region 0 4 0x10 ∷ region 8 1 0x10 ∷ [])

abbrev by_both_ways : BridgeState
by_both_ways = after two_ways (by 0 (a 0 0 3 0 0x0000 0xff 0x42) ∷ by 1 (a 4 0 3 0 0x8000 0xff 0) ∷ pump ∷ [])

the_same_byte_by_both_ways : burst_to_send by_both_ways ∷ burst_to_send (on_b 0 Okay by_both_ways) ∷ [] ≡ None ∷ Some (read 0 0x10000 0 3) ∷ []
the_same_byte_by_both_ways = refl

-- a Put waits for the Gets before it; a reply may leave before an earlier one
abbrev gets_then_put : BridgeState
gets_then_put = after start (by 0 (a 4 0 4 0 0 0xff 0) ∷ by 1 (a 4 0 3 0 8 0xff 0) ∷ by 1 (a 0 0 3 1 8 0xff 7) ∷ [])

bursts_in_turn : map burst_to_send
    (gets_then_put ∷ pump gets_then_put ∷ pump (pump gets_then_put) ∷ after gets_then_put (pump ∷ pump ∷ on_r 1 0 Okay true ∷ [])
    ∷ after gets_then_put (pump ∷ pump ∷ on_r 1 0 Okay true ∷ on_r 0 0 Okay false ∷ on_r 0 0 Okay true ∷ []) ∷ [])
    ≡ Some (read 0 0x10000 1 3) ∷ Some (read 1 0x10008 0 3) ∷ None ∷ None ∷ Some (write 0 0x10008 3 (only 7 0xff)) ∷ []
bursts_in_turn = refl

abbrev later_first : BridgeState
later_first = after start (by 0 (a 4 0 3 0 0 0xff 0) ∷ by 0 (a 4 0 3 1 8 0xff 0) ∷ pump ∷ pump ∷ on_r 1 0x99 Okay true ∷ [])

later_reply_leaves_first : taken later_first 0 ∷ taken (take_for 0 later_first) 0 ∷ taken (after later_first (take_for 0 ∷ on_r 0 0 Okay true ∷ [])) 0 ∷ []
    ≡ take.Reply 1 ∷ take.Nothing ∷ take.Reply 0 ∷ []
later_reply_leaves_first = refl

-- ---- answers

-- the rule that an answer breaks
abbrev fault_of_b : BridgeState → ℕ → Resp → Option AxiRule
fault_of_b state id r = b_fault state (record { id = id; resp = r })

abbrev fault_of_r : BridgeState → Resp → Bool → Option AxiRule
fault_of_r state r last = r_fault state (record { id = 0; payload = 0; resp = r; last = last })

nothing_was_sent : fault_of_b start 16 Okay ∷ fault_of_b start 0 Okay ∷ fault_of_r start Okay true ∷ [] ≡ Some IdRange ∷ Some BWithoutWrite ∷ Some RWithoutRead ∷ []
nothing_was_sent = refl

-- a Get of sixteen bytes was sent
abbrev reading : BridgeState
reading = after start (by 0 (a 4 0 4 0 0 0xff 0) ∷ pump ∷ [])

reads_refused : fault_of_r reading Okay true ∷ fault_of_r reading resp.ExOkay true ∷ fault_of_r reading resp.ExOkay false ∷ fault_of_r reading Okay false ∷ []
    ≡ Some RLast ∷ Some RLast ∷ Some ExOkay ∷ None ∷ []
reads_refused = refl

the_second_read : fault_of_r (on_r 0 1 Okay false reading) Okay false ∷ fault_of_r (on_r 0 1 Okay false reading) Okay true ∷ [] ≡ Some RLast ∷ None ∷ []
the_second_read = refl

both_words : reply_to (after reading (on_r 0 1 Okay false ∷ on_r 0 2 Okay true ∷ [])) 0 ≡ Some (d 1 4 0 false 1 false ∷ d 1 4 0 false 2 false ∷ [])
both_words = refl

writes_refused : fault_of_b (pump put_offered) 0 resp.ExOkay ∷ fault_of_b (pump put_offered) 0 Okay ∷ fault_of_b (on_b 0 Okay (pump put_offered)) 0 Okay ∷ []
    ≡ Some ExOkay ∷ None ∷ Some BWithoutWrite ∷ []
writes_refused = refl

-- a failed read gives a corrupt beat, a read that nobody answers denies all of them; a failed write denies
failed_words : map (λ r. reply_to (after reading (on_r 0 1 Okay false ∷ on_r 0 0 r true ∷ [])) 0) (SlvErr ∷ DecErr ∷ [])
    ≡ Some (d 1 4 0 false 1 false ∷ d 1 4 0 false 0 true ∷ []) ∷ Some (d 1 4 0 true 0 true ∷ d 1 4 0 true 0 true ∷ []) ∷ []
failed_words = refl

failed_writes : map (λ r. reply_to (on_b 0 r (pump put_offered)) 0) (SlvErr ∷ DecErr ∷ []) ≡ replicate 2 (Some (d 0 3 5 true 0 false ∷ []))
failed_writes = refl

-- in no region, or corrupt: denied at once, with nothing sent
abbrev get_of_no_region : BridgeState
get_of_no_region = by 0 (a 4 0 3 0 0x5000 0xff 0) start

abbrev corrupt_put : BridgeState
corrupt_put = by 0 (record (a 0 0 3 0 0x08 0xff 1) { corrupt = true }) start

-- a prefetch sends nothing
abbrev prefetch : BridgeState
prefetch = by 0 (a 5 1 12 1 0 0xff 0) start

these_send_nothing : map burst_to_send (get_of_no_region ∷ corrupt_put ∷ prefetch ∷ []) ≡ replicate 3 None
these_send_nothing = refl

replies_to_these : map (λ state. reply_to state 0) (get_of_no_region ∷ corrupt_put ∷ prefetch ∷ [])
    ≡ Some (d 1 3 0 true 0 true ∷ []) ∷ Some (d 0 3 0 true 0 false ∷ []) ∷ Some (d 2 12 1 false 0 false ∷ []) ∷ []
replies_to_these = refl

work_of_these : map work_left (get_of_no_region ∷ corrupt_put ∷ prefetch ∷ []) ≡ 0 ∷ 0 ∷ 0 ∷ []
work_of_these = refl

-- ---- atomics

-- of four bytes in the upper half of a word, with operand 1
abbrev atomic_of_four : ℕ → BridgeState
atomic_of_four param = by 0 (a 2 param 2 0 0x14 0xf0 0x0000000100000000) start

-- its read told the four bytes
abbrev value_told : ℕ → ℕ → BridgeState
value_told param old = after (atomic_of_four param) (pump ∷ on_r 0 old Okay true ∷ [])

add_reads_first : burst_to_send (atomic_of_four 4) ∷ burst_to_send (pump (atomic_of_four 4)) ∷ [] ≡ Some (read 0 0x10014 0 2) ∷ None ∷ []
add_reads_first = refl

-- the sum wraps, and stays in its four bytes
add_then_writes : burst_to_send (value_told 4 0xffffffff00000000) ≡ Some (write 0 0x10014 2 (only 0 0xf0))
add_then_writes = refl

reply_to_an_add : reply_to (value_told 4 0xffffffff00000000) 0 ∷ reply_to (after (value_told 4 0xffffffff00000000) (pump ∷ on_b 0 Okay ∷ [])) 0 ∷ []
    ≡ None ∷ Some (d 1 2 0 false 0xffffffff00000000 false ∷ []) ∷ []
reply_to_an_add = refl

work_of_an_add : map work_left (atomic_of_four 4 ∷ pump (atomic_of_four 4) ∷ value_told 4 0 ∷ pump (value_told 4 0) ∷ on_b 0 Okay (pump (value_told 4 0)) ∷ [])
    ≡ 6 ∷ 5 ∷ 3 ∷ 2 ∷ 0 ∷ []
work_of_an_add = refl

-- MIN is signed, MINU isn't
signed_and_unsigned : map (λ param. burst_to_send (value_told param 0x8000000000000000)) (0 ∷ 2 ∷ [])
    ≡ Some (write 0 0x10014 2 (only 0x8000000000000000 0xf0)) ∷ Some (write 0 0x10014 2 (only 0x0000000100000000 0xf0)) ∷ []
signed_and_unsigned = refl

-- a failed read writes nothing
abbrev read_failed : Resp → BridgeState
read_failed r = after start (by 0 (a 2 4 3 0 0x08 0xff 1) ∷ pump ∷ on_r 0 0 r true ∷ [])

no_write_after_it : burst_to_send (read_failed SlvErr) ∷ burst_to_send (read_failed DecErr) ∷ [] ≡ None ∷ None ∷ []
no_write_after_it = refl

replies_after_it : reply_to (read_failed SlvErr) 0 ∷ reply_to (read_failed DecErr) 0 ∷ [] ≡ Some (d 1 3 0 false 0 true ∷ []) ∷ Some (d 1 3 0 true 0 true ∷ []) ∷ []
replies_after_it = refl

work_after_it : work_left (read_failed SlvErr) ≡ 0
work_after_it = refl

-- an ADD and a SWAP of the same bytes by two ways: the second reads what the first wrote
abbrev add_and_swap : BridgeState
add_and_swap = after two_ways (by 0 (a 2 4 3 0 0x0000 0xff 5) ∷ by 1 (a 3 3 3 0 0x8000 0xff 9) ∷ [])

add_before_swap : map burst_to_send
    (add_and_swap ∷ pump add_and_swap ∷ after add_and_swap (pump ∷ on_r 0 0 Okay true ∷ []) ∷ after add_and_swap (pump ∷ on_r 0 0 Okay true ∷ pump ∷ [])
    ∷ after add_and_swap (pump ∷ on_r 0 0 Okay true ∷ pump ∷ on_b 0 Okay ∷ [])
    ∷ after add_and_swap (pump ∷ on_r 0 0 Okay true ∷ pump ∷ on_b 0 Okay ∷ pump ∷ on_r 0 5 Okay true ∷ []) ∷ [])
    ≡ Some (read 0 0x10000 0 3) ∷ None ∷ Some (write 0 0x10000 3 (only 5 0xff)) ∷ None ∷ Some (read 0 0x10000 0 3) ∷ Some (write 0 0x10000 3 (only 9 0xff)) ∷ []
add_before_swap = refl

-- an ADD of one byte, and a MIN and a MINU of two
add_of_a_byte : burst_to_send (after start (by 0 (a 2 4 0 0 0x13 0x08 0x0000000001000000) ∷ pump ∷ on_r 0 0x00000000ff000000 Okay true ∷ []))
    ≡ Some (write 0 0x10013 0 (only 0 0x08))
add_of_a_byte = refl

abbrev value_of_two_told : ℕ → BridgeState
value_of_two_told param = after start (by 0 (a 2 param 1 0 0x16 0xc0 0x0001000000000000) ∷ pump ∷ on_r 0 0x8000000000000000 Okay true ∷ [])

min_of_two_bytes : map (λ param. burst_to_send (value_of_two_told param)) (0 ∷ 2 ∷ [])
    ≡ Some (write 0 0x10016 1 (only 0x8000000000000000 0xc0)) ∷ Some (write 0 0x10016 1 (only 0x0001000000000000 0xc0)) ∷ []
min_of_two_bytes = refl

-- ---- a bus of four bytes

abbrev narrow_start : BridgeState
narrow_start = start_with narrow

in_two_halves : burst_to_send (by 0 put_of_eight narrow_start)
    ≡ Some (WriteBurst (record { id = 0; address = 0x10008; len = 1; size = 2; burst = 1 }) (record { payload = 0x55667788; strobes = 0x0f; last = false } ∷ only 0x11223344 0x0f))
in_two_halves = refl

work_in_halves : work_left (by 0 put_of_eight narrow_start) ∷ work_left (by 0 (a 2 4 3 0 0 0xff 5) narrow_start) ∷ [] ≡ 4 ∷ 9 ∷ []
work_in_halves = refl

-- a page in four bursts, two of which may be unanswered
abbrev narrow_page : BridgeState
narrow_page = by 0 (a 4 0 12 0 0x1000 0xff 0) (start_with (record narrow { max_len = 256 }))

work_of_a_narrow_page : work_left narrow_page ≡ 2052
work_of_a_narrow_page = refl

bursts_of_a_narrow_page : map burst_to_send (narrow_page ∷ pump narrow_page ∷ pump (pump narrow_page) ∷ [])
    ≡ Some (read 0 0x11000 255 2) ∷ Some (read 0 0x11400 255 2) ∷ None ∷ []
bursts_of_a_narrow_page = refl

a_byte_in_the_upper_half : burst_to_send (by 0 (a 0 0 0 0 0x0d 0x20 0x0000bb0000000000) narrow_start) ≡ Some (write 0 0x1000d 0 (only 0xbb00 0x02))
a_byte_in_the_upper_half = refl

abbrev add_in_the_upper_half : BridgeState
add_in_the_upper_half = after narrow_start (by 0 (a 2 4 2 0 0x14 0xf0 0x0000000100000000) ∷ pump ∷ on_r 0 0x00000000ffffffff Okay true ∷ [])

its_burst : burst_to_send add_in_the_upper_half ≡ Some (write 0 0x10014 2 (only 0 0x0f))
its_burst = refl

its_old_value : reply_to (after add_in_the_upper_half (pump ∷ on_b 0 Okay ∷ [])) 0 ≡ Some (d 1 2 0 false 0xffffffff00000000 false ∷ [])
its_old_value = refl

-- the second of 32 bytes' four words fails in one half
abbrev get_of_32 : BridgeState
get_of_32 = by 0 (a 4 0 5 0 0 0xff 0) narrow_start

as_eight_halves : burst_to_send get_of_32 ≡ Some (read 0 0x10000 7 2)
as_eight_halves = refl

abbrev with_all_halves : BridgeState
with_all_halves =
    after get_of_32
    (pump ∷ on_r 0 0x11 Okay false ∷ on_r 0 0x22 Okay false ∷ on_r 0 0 SlvErr false ∷ on_r 0 0x44 Okay false ∷ on_r 0 0x55 Okay false
    ∷ on_r 0 0x66 Okay false ∷ on_r 0 0x77 Okay false ∷ on_r 0 0x88 Okay true ∷ [])

a_half_that_fails : reply_to with_all_halves 0
    ≡ Some (d 1 5 0 false 0x0000002200000011 false ∷ d 1 5 0 false 0 true ∷ d 1 5 0 false 0x0000006600000055 false ∷ d 1 5 0 false 0x0000008800000077 false ∷ [])
a_half_that_fails = refl
