-- Worked values of the world's definitions: set-ups, single events, what is enabled, the work that is left, and drains.
use Rattle.std.proofs.Common.{◌≡◌, ℕ, true, false, List, [], ◌∷◌, ◌++◌, map, Some, None, refl}
use Rattle.std.specs.Prelude.{replicate}
use Rattle.std.specs.List.{range_with_len}
use Rattle.tl_messages.specs.declared.ABeat.{ABeat}
use Rattle.tl_checker.specs.declared.Level.TheVariants.{Uh}
use Rattle.tl_checker.specs.declared.TlRule.TheVariants.{Mask, SourceBusy}
use Rattle.axi_beats.specs.Bursts.{Burst, WriteBurst, ReadBurst}
use Rattle.axi_beats.specs.declared.Resp.TheVariants.{Okay}
use Rattle.burst_plan.specs.declared.MapFault.TheVariants.{RegionOverlap}
use Rattle.burst_plan.specs.declared.Region.{Region}
use Rattle.config.specs.declared.Config.{Config}
use Rattle.subordinate.specs.FreeMemory.{bytes_written}
use Rattle.subordinate.specs.Pages.{zero_words}
use Rattle.subordinate.specs.declared.DeviceFault.TheVariants.{BadWord}
use Rattle.subordinate.specs.declared.PageKind.TheVariants.{Good}
use Rattle.setups.specs.Setups.{SetupLists, setup_fault}
use Rattle.world.specs.World.{WorldState, Drains, after, byte_of, drained, enabled, in_flight, next, opening_world, work_left}
use Rattle.world.specs.declared.Answer.{Answer}
use Rattle.world.specs.declared.Answer.TheVariants.{Accepted, NotReady, Refused, NoClient, Sent, Idle, Done, NoSuch, Already, B, Nothing, Reply}
use Rattle.setups.specs.declared.SetupFault.TheVariants.{BadConfig, Map, Device}
use Rattle.world.specs.declared.Step.{Step}
use Rattle.world.specs.declared.Step.TheVariants.{Offer, Pump, Perform, AnswerB, AnswerR, Take}

-- ---- set-ups

-- two clients; bursts of so many transfers at most, on a bus of so many bytes
abbrev pub config : ℕ → ℕ → Config
config max_len axi_bytes =
    record { clients = 2; quota = 4; ids = 16; depth = 2; max_len = max_len; max_size = 12; levels = replicate 8 Uh; axi_bytes = axi_bytes }

-- a region that permits all
abbrev pub region : ℕ → ℕ → ℕ → Region
region tl_page pages axi_page = record { tl_page = tl_page; pages = pages; axi_page = axi_page; get = true; put = true; atomic = true; hint = true }

-- four good pages
abbrev pub plain : SetupLists
plain = record { config = config 16 8; regions = region 0 4 0x10 ∷ []; pages = map (λ page. (page, Good)) (range_with_len 0x10 4); bad_words = [] }

nothing_refused : setup_fault plain ≡ None
nothing_refused = refl

-- limits come before regions, and regions before pages and words
bad_limits : setup_fault (record plain { config = config 3 8; regions = region 0 4 0x10 ∷ region 3 1 0x20 ∷ []; bad_words = 0x20000 ∷ [] }) ≡ Some BadConfig
bad_limits = refl

bad_regions : setup_fault (record plain { regions = region 0 4 0x10 ∷ region 3 1 0x20 ∷ []; bad_words = 0x20000 ∷ [] }) ≡ Some (Map (RegionOverlap 1))
bad_regions = refl

bad_words : setup_fault (record plain { bad_words = 0x10008 ∷ 0x20000 ∷ [] }) ≡ Some (Device (BadWord 1))
bad_words = refl

-- ---- events

-- opcode, param, size, source, address, mask and payload
abbrev pub a : ℕ → ℕ → ℕ → ℕ → ℕ → ℕ → ℕ → ABeat
a opcode param size source address mask payload =
    record { opcode = opcode; param = param; size = size; source = source; address = address; mask = mask; payload = payload; corrupt = false }

abbrev pub start : SetupLists → WorldState
start setup = opening_world setup

abbrev pub end : SetupLists → List Step → WorldState
end setup steps = after (start setup) steps

abbrev pub read : ℕ → ℕ → ℕ → ℕ → Burst
read id address len size = ReadBurst (record { id = id; address = address; len = len; size = size; burst = 1 })

abbrev pub write_of_one : ℕ → ℕ → ℕ → ℕ → ℕ → Burst
write_of_one id address size payload strobes =
    WriteBurst (record { id = id; address = address; len = 0; size = size; burst = 1 }) (record { payload = payload; strobes = strobes; last = true } ∷ [])

-- ---- before any event

nothing_to_do : enabled (start plain) ≡ []
nothing_to_do = refl

no_work : work_left (start plain) ∷ in_flight (start plain) ∷ [] ≡ 0 ∷ 0 ∷ []
no_work = refl

bytes_of_good_pages : map (byte_of (start plain)) (0xffff ∷ 0x10000 ∷ 0x13fff ∷ 0x14000 ∷ []) ≡ None ∷ Some 0 ∷ Some 0 ∷ None ∷ []
unfolding zero_words
bytes_of_good_pages = refl

nothing_drains : drained (start plain) ≡ (0, start plain)
nothing_drains = refl

-- ---- one Put of eight bytes, event by event

abbrev put : Step
put = Offer 0 (a 0 0 3 5 8 0xff 0x1122334455667788)

abbrev offered : WorldState
offered = end plain (put ∷ [])

abbrev sent : WorldState
sent = end plain (put ∷ Pump ∷ [])

abbrev performed : WorldState
performed = end plain (put ∷ Pump ∷ Perform 0 0 ∷ [])

abbrev answered : WorldState
answered = end plain (put ∷ Pump ∷ Perform 0 0 ∷ AnswerB 0 ∷ [])

abbrev taken : WorldState
taken = end plain (put ∷ Pump ∷ Perform 0 0 ∷ AnswerB 0 ∷ Take 0 ∷ [])

it_is_accepted : (next (start plain) put).answer ≡ Accepted 0
it_is_accepted = refl

it_is_sent : (next offered Pump).answer ≡ Sent 0
it_is_sent = refl

as_one_burst : (next offered Pump).burst ≡ Some (write_of_one 0 0x10008 3 0x1122334455667788 0xff)
as_one_burst = refl

it_is_performed : (next sent (Perform 0 0)).answer ≡ Done
it_is_performed = refl

it_is_answered : (next performed (AnswerB 0)).answer ≡ B (record { id = 0; resp = Okay })
unfolding bytes_written zero_words
it_is_answered = refl

its_reply_is_taken : (next answered (Take 0)).answer ≡ Reply 0
unfolding bytes_written zero_words
its_reply_is_taken = refl

its_reply : (next answered (Take 0)).reply ≡ record { opcode = 0; param = 0; size = 3; source = 5; denied = false; payload = 0; corrupt = false } ∷ []
unfolding bytes_written zero_words
its_reply = refl

no_second_reply : next taken (Take 0) ≡ record { state = taken; answer = Nothing; burst = None; reply = [] }
no_second_reply = refl

bytes_while_it_runs : map (λ state. byte_of state 0x10008) (offered ∷ sent ∷ performed ∷ answered ∷ taken ∷ [])
    ≡ Some 0 ∷ Some 0 ∷ Some 0x88 ∷ Some 0x88 ∷ Some 0x88 ∷ []
unfolding bytes_written zero_words
bytes_while_it_runs = refl

bytes_at_the_end : map (byte_of taken) (range_with_len 0x10007 10) ≡ map Some (0 ∷ 0x88 ∷ 0x77 ∷ 0x66 ∷ 0x55 ∷ 0x44 ∷ 0x33 ∷ 0x22 ∷ 0x11 ∷ 0 ∷ [])
unfolding bytes_written zero_words
bytes_at_the_end = refl

work_while_it_runs : map work_left (offered ∷ sent ∷ performed ∷ answered ∷ taken ∷ []) ≡ 3 ∷ 2 ∷ 1 ∷ 0 ∷ 0 ∷ []
unfolding bytes_written zero_words
work_while_it_runs = refl

in_flight_while_it_runs : map in_flight (offered ∷ sent ∷ performed ∷ answered ∷ taken ∷ []) ≡ 1 ∷ 1 ∷ 1 ∷ 0 ∷ 0 ∷ []
unfolding bytes_written zero_words
in_flight_while_it_runs = refl

enabled_while_it_runs : map enabled (offered ∷ sent ∷ performed ∷ answered ∷ taken ∷ []) ≡ (Pump ∷ []) ∷ (Perform 0 0 ∷ []) ∷ (AnswerB 0 ∷ []) ∷ [] ∷ [] ∷ []
unfolding bytes_written zero_words
enabled_while_it_runs = refl

it_drains : Drains offered 3 answered
unfolding bytes_written zero_words
it_drains = (Pump, [], refl, (Perform 0 0, [], refl, (AnswerB 0, [], refl, (refl, refl))))

what_drains_it : drained offered ≡ (3, answered)
unfolding bytes_written zero_words
what_drains_it = refl

-- only right after its Pump
the_burst_sent_last : map (λ state. state.last_sent) (offered ∷ sent ∷ performed ∷ []) ≡ None ∷ Some (write_of_one 0 0x10008 3 0x1122334455667788 0xff) ∷ None ∷ []
the_burst_sent_last = refl

-- ---- events that change nothing

-- by the answers to them
abbrev answers_alone : WorldState → Step → Answer → Type 0
answers_alone state step answer = next state step ≡ record { state = state; answer = answer; burst = None; reply = [] }

no_such_client : answers_alone sent (Offer 2 (a 0 0 3 5 8 0xff 0)) NoClient
no_such_client = refl

wrong_mask : answers_alone sent (Offer 1 (a 0 0 3 5 8 0x7f 0)) (Refused Mask)
wrong_mask = refl

busy_source : answers_alone sent put (Refused SourceBusy)
busy_source = refl

nothing_ready : answers_alone sent Pump Idle
nothing_ready = refl

no_such_beat : answers_alone sent (Perform 0 1) NoSuch
no_such_beat = refl

no_such_burst : answers_alone sent (Perform 99 0) NoSuch
no_such_burst = refl

performed_before : answers_alone performed (Perform 0 0) Already
performed_before = refl

not_performed : answers_alone sent (AnswerB 0) Nothing
not_performed = refl

no_read : answers_alone performed (AnswerR 0) Nothing
no_read = refl

no_such_id : answers_alone performed (AnswerB 16) Nothing
no_such_id = refl

not_done : answers_alone sent (Take 0) Nothing
not_done = refl

takes_of_no_client : answers_alone answered (Take 2) NoClient
takes_of_no_client = refl

-- ---- Gets of eight bytes, by their sources

abbrev get_from : ℕ → Step
get_from source = Offer 0 (a 4 0 3 source 0 0xff 0)

abbrev five_gets : List Step
five_gets = map get_from (range_with_len 0 4) ++ Offer 1 (a 4 0 3 4 0 0xff 0) ∷ []

too_many_of_a_client : answers_alone (end plain five_gets) (get_from 4) NotReady
too_many_of_a_client = refl

work_of_five_gets : work_left (end plain five_gets) ∷ in_flight (end plain five_gets) ∷ [] ≡ 15 ∷ 5 ∷ []
work_of_five_gets = refl

abbrev five_gets_drained : ℕ × WorldState
five_gets_drained = drained (end plain five_gets)

as_many_steps_as_work : five_gets_drained.0 ∷ work_left five_gets_drained.1 ∷ in_flight five_gets_drained.1 ∷ [] ≡ 15 ∷ 0 ∷ 0 ∷ []
unfolding zero_words
as_many_steps_as_work = refl

replies_in_turn : (next five_gets_drained.1 (Take 0)).answer ∷ (next (after five_gets_drained.1 (Take 0 ∷ [])) (Take 0)).answer ∷ (next five_gets_drained.1 (Take 1)).answer ∷ []
    ≡ Reply 0 ∷ Reply 1 ∷ Reply 4 ∷ []
unfolding zero_words
replies_in_turn = refl

room_once_a_reply_is_taken : (next (after five_gets_drained.1 (Take 0 ∷ [])) (get_from 4)).answer ≡ Accepted 5
unfolding zero_words
room_once_a_reply_is_taken = refl

-- ---- what is enabled, and in which order

-- a Put of sixteen bytes and a Get of others
abbrev put_and_get : List Step
put_and_get = Offer 0 (a 0 0 4 0 0 0xff 1) ∷ Offer 0 (a 0 0 4 0 0 0xff 2) ∷ Offer 1 (a 4 0 4 0 0x10 0xff 0) ∷ []

enabled_at_first : enabled (end plain put_and_get) ≡ Pump ∷ []
enabled_at_first = refl

enabled_with_one_sent : enabled (end plain (put_and_get ++ Pump ∷ [])) ≡ Pump ∷ Perform 0 0 ∷ Perform 0 1 ∷ []
enabled_with_one_sent = refl

enabled_with_both_sent : enabled (end plain (put_and_get ++ Pump ∷ Pump ∷ [])) ≡ Perform 0 0 ∷ Perform 0 1 ∷ Perform 1 0 ∷ Perform 1 1 ∷ []
enabled_with_both_sent = refl

-- the second beat of the read has to wait for the first
enabled_with_some_performed : enabled (end plain (put_and_get ++ Pump ∷ Pump ∷ Perform 1 1 ∷ Perform 0 0 ∷ [])) ≡ Perform 0 1 ∷ Perform 1 0 ∷ []
unfolding bytes_written zero_words
enabled_with_some_performed = refl

enabled_with_all_performed : enabled (end plain (put_and_get ++ Pump ∷ Pump ∷ Perform 1 1 ∷ Perform 0 0 ∷ Perform 0 1 ∷ Perform 1 0 ∷ [])) ≡ AnswerB 0 ∷ AnswerR 1 ∷ []
unfolding bytes_written zero_words
enabled_with_all_performed = refl

-- ---- an atomic on a bad word: its failed read spares the work of its write

abbrev bad_word : SetupLists
bad_word = record plain { bad_words = 0x10008 ∷ [] }

abbrev add_on_a_bad_word : WorldState
add_on_a_bad_word = end bad_word (Offer 0 (a 2 4 3 0 8 0xff 1) ∷ [])

six_units_of_work : work_left add_on_a_bad_word ≡ 6
six_units_of_work = refl

abbrev add_drained : ℕ × WorldState
add_drained = drained add_on_a_bad_word

three_steps : add_drained.0 ∷ work_left add_drained.1 ∷ in_flight add_drained.1 ∷ [] ≡ 3 ∷ 0 ∷ 0 ∷ []
unfolding zero_words
three_steps = refl

only_its_read_was_sent : add_drained.1.memory.sent ≡ 1
unfolding zero_words
only_its_read_was_sent = refl

its_reply_is_corrupt : (next add_drained.1 (Take 0)).reply ≡ record { opcode = 1; param = 0; size = 3; source = 0; denied = false; payload = 0; corrupt = true } ∷ []
unfolding zero_words
its_reply_is_corrupt = refl

-- on a good word all six units are steps, and its write was sent too
abbrev good_add_drained : ℕ × WorldState
good_add_drained = drained (end plain (Offer 0 (a 2 4 3 0 8 0xff 1) ∷ []))

six_steps : good_add_drained.0 ∷ good_add_drained.1.memory.sent ∷ [] ≡ 6 ∷ 2 ∷ []
unfolding bytes_written zero_words
six_steps = refl
