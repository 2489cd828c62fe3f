-- Worked runs of events: answers, the bursts sent, the replies handed out, and the bytes left. The main statement holds of what one of them
-- shows, and not of records that tell something else of it.
use Rattle.std.specs.List.{range_with_len, IsDistinct}
use Rattle.std.proofs.Common.{◌≡◌, ℕ, ◌+◌, ◌*◌, Bool, true, false, List, [], ◌∷◌, ◌++◌, map, Option, Some, refl, suc, ◌/◌, ◌-◌, ◌==◌, length, filter, None, if◌then◌else◌, true≢false, sym, subst, ap, ◌∙◌, get_or, inl, inr, ◌≤◌, arith, replicate, ◌≢◌, drop, flat_map, unwrap_or}
use Rattle.std.proofs.lemmas.Bool.Decides.{eqb_tells, leb_tells}
use Rattle.bus_words.specs.Lanes.{given_at}
use Rattle.tl_messages.specs.Requests.{WholeRequest}
use Rattle.tl_messages.specs.declared.ABeat.{ABeat}
use Rattle.tl_messages.specs.declared.DBeat.{DBeat}
use Rattle.tl_messages.specs.declared.Operation.TheVariants.{PutFull, Get}
use Rattle.axi_beats.specs.Bursts.{Burst, WriteBurst, ReadBurst}
use Rattle.axi_beats.specs.declared.Resp.{Resp}
use Rattle.axi_beats.specs.declared.Resp.TheVariants.{Okay, SlvErr, DecErr}
use Rattle.tl_checker.specs.declared.TlRule.TheVariants.{Mask, BurstControl}
use Rattle.axi_checker.specs.OpenBursts.{nothing_open, write_of_id}
use Rattle.axi_checker.specs.declared.AxiBeat.{AxiBeat}
use Rattle.axi_checker.specs.Order.{closes_write, opens_write, read_given, reads_asked, reads_owe}
use Rattle.axi_checker.specs.Rules.{open_after_all}
use Rattle.responses.specs.Shown.{Reply as RightReply, shown}
use Rattle.subordinate.specs.FreeMemory.{bytes_written}
use Rattle.subordinate.specs.Pages.{zero_words}
use Rattle.subordinate.specs.declared.PageKind.TheVariants.{Good, SlaveError}
use Rattle.subordinate.specs.Faults.{is_good, standing_of_listed}
use Rattle.setups.specs.Setups.{SetupLists}
use Rattle.world.specs.World.{byte_of, in_flight, outcomes, work_left}
use Rattle.world.specs.declared.Answer.{Answer}
use Rattle.world.specs.declared.Answer.TheVariants.{More, Accepted, Refused, Sent, Idle, Done, NoSuch, Already, B, R, Nothing, Reply}
use Rattle.world.specs.declared.Step.{Step}
use Rattle.world.specs.declared.Step.TheVariants.{Offer, Pump, Perform, AnswerB, AnswerR, Take}
use Rattle.world.proofs.Examples.{a, config, end, plain, read, region, start, write_of_one}
use Rattle.world_run.specs.Runs.{accepted_in, answers_of, bursts_in, handed_in, messages_in, sent_in, HandedReply, axi_history, recorded_beats}
use Rattle.world_run.specs.declared.SentBeat.TheVariants.{Aw, W, Ar}
use Rattle.world_run.specs.Headline.{IsLegalTraffic, IsOneAtATime, IsReplyTo, byte_shown}
use Rattle.meaning.specs.InTurn.{bytes_of_all, replies_of}
use Rattle.world_run.specs.declared.SentBeat.{SentBeat}

abbrev answers : SetupLists → List Step → List Answer
answers setup steps = answers_of (start setup) steps

abbrev bursts : SetupLists → List Step → List Burst
bursts setup steps = bursts_in (outcomes (start setup) steps)

abbrev bytes : SetupLists → List Step → ℕ → ℕ → List (Option ℕ)
bytes setup steps address count = map (byte_of (end setup steps)) (range_with_len address count)

-- what is told of each beat of a reply: its opcode, denied, corrupt and payload
abbrev told : DBeat → ℕ × Bool × Bool × ℕ
told beat = (beat.opcode, beat.denied, beat.corrupt, beat.payload)

-- and of each reply, in the order handed out: its client, its number and its beats
abbrev replies : SetupLists → List Step → List (ℕ × ℕ × List (ℕ × Bool × Bool × ℕ))
replies setup steps = map (λ handed. (handed.client, handed.number, map told handed.beats)) (handed_in (start setup) steps)

abbrev good_b : Answer
good_b = B (record { id = 0; resp = Okay })

-- the last data of a read
abbrev last_r : ℕ → ℕ → Resp → Answer
last_r id payload resp = R (record { id = id; payload = payload; resp = resp; last = true })

-- the only burst is sent, performed and answered
abbrev write_whole : ℕ → List Step
write_whole serial = Pump ∷ Perform serial 0 ∷ AnswerB 0 ∷ []

abbrev read_whole : ℕ → List Step
read_whole serial = Pump ∷ Perform serial 0 ∷ AnswerR 0 ∷ []

-- ---- no event

no_event : answers plain [] ≡ []
no_event = refl

nothing_sent : sent_in (start plain) [] ≡ []
nothing_sent = refl

-- ---- a Put of eight bytes, and a Get of them

abbrev put_then_get : List Step
put_then_get = Offer 0 (a 0 0 3 5 8 0xff 0x1122334455667788) ∷ write_whole 0 ++ Take 0 ∷ Take 0 ∷ Offer 0 (a 4 0 3 5 8 0xff 0) ∷ read_whole 1 ++ Take 0 ∷ []

its_answers : answers plain put_then_get
    ≡ Accepted 0 ∷ Sent 0 ∷ Done ∷ good_b ∷ Reply 0 ∷ Nothing ∷ Accepted 1 ∷ Sent 1 ∷ Done ∷ last_r 0 0x1122334455667788 Okay ∷ Reply 1 ∷ []
unfolding bytes_written zero_words
its_answers = refl

its_beats : sent_in (start plain) put_then_get
    ≡ Aw (record { id = 0; address = 0x10008; len = 0; size = 3; burst = 1 }) ∷ W (record { payload = 0x1122334455667788; strobes = 0xff; last = true })
    ∷ Ar (record { id = 0; address = 0x10008; len = 0; size = 3; burst = 1 }) ∷ []
unfolding bytes_written zero_words
its_beats = refl

its_replies : replies plain put_then_get ≡ (0, 0, (0, false, false, 0) ∷ []) ∷ (0, 1, (1, false, false, 0x1122334455667788) ∷ []) ∷ []
unfolding bytes_written zero_words
its_replies = refl

-- ---- Puts of one byte, and of none

abbrev put_of_one : List Step
put_of_one = Offer 0 (a 0 0 0 0 0x0b 0x01 0xaa000000) ∷ Offer 0 (a 0 0 0 0 0x0b 0x08 0xaa000000) ∷ write_whole 0

answers_to_put_of_one : answers plain put_of_one ≡ Refused Mask ∷ Accepted 0 ∷ Sent 0 ∷ Done ∷ good_b ∷ []
unfolding bytes_written zero_words
answers_to_put_of_one = refl

burst_of_put_of_one : bursts plain put_of_one ≡ write_of_one 0 0x1000b 0 0xaa000000 0x08 ∷ []
unfolding bytes_written zero_words
burst_of_put_of_one = refl

bytes_of_put_of_one : bytes plain put_of_one 0x1000a 3 ≡ Some 0 ∷ Some 0xaa ∷ Some 0 ∷ []
unfolding bytes_written zero_words
bytes_of_put_of_one = refl

abbrev put_of_none : List Step
put_of_none = Offer 0 (a 1 0 3 0 8 0 0xffffffffffffffff) ∷ write_whole 0 ++ Take 0 ∷ []

burst_of_put_of_none : bursts plain put_of_none ≡ write_of_one 0 0x10008 3 0 0 ∷ []
unfolding bytes_written zero_words
burst_of_put_of_none = refl

reply_to_put_of_none : replies plain put_of_none ≡ (0, 0, (0, false, false, 0) ∷ []) ∷ []
unfolding bytes_written zero_words
reply_to_put_of_none = refl

bytes_of_put_of_none : bytes plain put_of_none 0x10008 8 ≡ replicate 8 (Some 0)
unfolding bytes_written zero_words
bytes_of_put_of_none = refl

-- ---- a page is read in two bursts

abbrev get_of_page : List Step
get_of_page = Offer 0 (a 4 0 12 0 0x1000 0xff 0) ∷ Pump ∷ Pump ∷ Pump ∷ []

bursts_of_a_page : bursts (record plain { config = config 256 8 }) get_of_page ≡ read 0 0x11000 255 3 ∷ read 0 0x11800 255 3 ∷ []
bursts_of_a_page = refl

work_of_a_page : work_left (end (record plain { config = config 256 8 }) get_of_page) ≡ 1024
work_of_a_page = refl

-- ---- a Put of 64 bytes, beat k with each byte k + 1, and Gets of eight of them and of others

abbrev put_of_64 : ℕ → List Step
put_of_64 source = map (λ k. Offer 0 (a 0 0 6 source 0 0xff ((k + 1) * 0x0101010101010101))) (range_with_len 0 8)

abbrev performs : ℕ → ℕ → List Step
performs serial count = map (λ beat. Perform serial beat) (range_with_len 0 count)

abbrev get_within : List Step
get_within = put_of_64 0 ++ Offer 1 (a 4 0 3 0 0x20 0xff 0) ∷ Pump ∷ Pump ∷ performs 0 8 ++ Pump ∷ AnswerB 0 ∷ read_whole 1 ++ Take 1 ∷ []

get_within_waits : answers plain get_within
    ≡ replicate 7 More ++ Accepted 0 ∷ Accepted 1 ∷ Sent 0 ∷ Idle ∷ replicate 8 Done ++ Idle ∷ good_b ∷ Sent 1 ∷ Done
    ∷ last_r 0 0x0505050505050505 Okay ∷ Reply 1 ∷ []
unfolding bytes_written zero_words
get_within_waits = refl

reply_to_get_within : replies plain get_within ≡ (1, 1, (1, false, false, 0x0505050505050505) ∷ []) ∷ []
unfolding bytes_written zero_words
reply_to_get_within = refl

abbrev get_beside : List Step
get_beside = put_of_64 0 ++ Offer 1 (a 4 0 3 0 0x40 0xff 0) ∷ Pump ∷ Pump ∷ Perform 1 0 ∷ AnswerR 1 ∷ Take 1 ∷ []

get_beside_overtakes : answers plain get_beside ≡ replicate 7 More ++ Accepted 0 ∷ Accepted 1 ∷ Sent 0 ∷ Sent 1 ∷ Done ∷ last_r 1 0 Okay ∷ Reply 1 ∷ []
unfolding zero_words
get_beside_overtakes = refl

-- a Get waits behind a Put that itself waits
abbrev two_puts : List Step
two_puts =
    Offer 0 (a 0 0 3 0 0 0xff 0) ∷ put_of_64 1 ++ Offer 1 (a 4 0 3 0 0x38 0xff 0) ∷ Pump ∷ Pump ∷ Perform 0 0 ∷ AnswerB 0 ∷ Pump ∷ Pump ∷ performs 1 8
    ++ AnswerB 0 ∷ read_whole 2 ++ Take 1 ∷ []

get_behind_two_puts : answers plain two_puts
    ≡ Accepted 0 ∷ replicate 7 More ++ Accepted 1 ∷ Accepted 2 ∷ Sent 0 ∷ Idle ∷ Done ∷ good_b ∷ Sent 1 ∷ Idle ∷ replicate 8 Done ++ good_b ∷ Sent 2 ∷ Done
    ∷ last_r 0 0x0808080808080808 Okay ∷ Reply 2 ∷ []
unfolding bytes_written zero_words
get_behind_two_puts = refl

-- two regions lead to one AXI4 page
abbrev two_ways : SetupLists
two_ways = record plain { regions = region 0 4 0x10 ∷ region 8 1 0x10 ∷ [] }

abbrev by_both_ways : List Step
by_both_ways = Offer 0 (a 0 0 3 0 0x0000 0xff 0x42) ∷ Offer 1 (a 4 0 3 0 0x8000 0xff 0) ∷ Pump ∷ Pump ∷ Perform 0 0 ∷ AnswerB 0 ∷ read_whole 1 ++ Take 1 ∷ []

get_by_the_other_way : answers two_ways by_both_ways ≡ Accepted 0 ∷ Accepted 1 ∷ Sent 0 ∷ Idle ∷ Done ∷ good_b ∷ Sent 1 ∷ Done ∷ last_r 0 0x42 Okay ∷ Reply 1 ∷ []
unfolding bytes_written zero_words
get_by_the_other_way = refl

-- a Put waits for the Gets before it
abbrev gets_then_put : List Step
gets_then_put =
    Offer 0 (a 4 0 4 0 0 0xff 0) ∷ Offer 1 (a 4 0 3 0 8 0xff 0) ∷ Offer 1 (a 0 0 3 1 8 0xff 7) ∷ Pump ∷ Pump ∷ Pump ∷ Perform 1 0 ∷ AnswerR 1 ∷ Pump
    ∷ Perform 0 0 ∷ Perform 0 1 ∷ AnswerR 0 ∷ AnswerR 0 ∷ Pump ∷ []

bursts_of_gets_then_put : bursts plain gets_then_put ≡ read 0 0x10000 1 3 ∷ read 1 0x10008 0 3 ∷ write_of_one 0 0x10008 3 7 0xff ∷ []
unfolding zero_words
bursts_of_gets_then_put = refl

-- replies leave as they are done
abbrev later_first : List Step
later_first =
    Offer 0 (a 4 0 3 0 0 0xff 0) ∷ Offer 0 (a 4 0 3 1 8 0xff 0) ∷ Pump ∷ Pump ∷ Perform 1 0 ∷ AnswerR 1 ∷ Take 0 ∷ Take 0
    ∷ Perform 0 0 ∷ AnswerR 0 ∷ Take 0 ∷ []

later_leaves_first : answers plain later_first
    ≡ Accepted 0 ∷ Accepted 1 ∷ Sent 0 ∷ Sent 1 ∷ Done ∷ last_r 1 0 Okay ∷ Reply 1 ∷ Nothing ∷ Done ∷ last_r 0 0 Okay ∷ Reply 0 ∷ []
unfolding zero_words
later_leaves_first = refl

-- two reads of one ID are answered by their addresses, in whatever order they are performed
abbrev get_of_256 : List Step
get_of_256 = Offer 0 (a 4 0 8 0 0 0xff 0) ∷ Pump ∷ Pump ∷ Perform 99 0 ∷ Perform 1 15 ∷ Perform 1 15 ∷ AnswerR 0 ∷ Perform 0 0 ∷ AnswerR 0 ∷ AnswerB 0 ∷ []

answers_to_get_of_256 : answers plain get_of_256
    ≡ Accepted 0 ∷ Sent 0 ∷ Sent 1 ∷ NoSuch ∷ Done ∷ Already ∷ Nothing ∷ Done ∷ R (record { id = 0; payload = 0; resp = Okay; last = false }) ∷ Nothing ∷ []
unfolding zero_words
answers_to_get_of_256 = refl

bursts_of_get_of_256 : bursts plain get_of_256 ≡ read 0 0x10000 15 3 ∷ read 0 0x10080 15 3 ∷ []
unfolding zero_words
bursts_of_get_of_256 = refl

-- ---- atomics

-- four bytes are put, and then the atomic of this param, whose operand is 1
abbrev atomic_of_four : ℕ → ℕ → List Step
atomic_of_four old param =
    Offer 0 (a 0 0 2 1 0x14 0xf0 old) ∷ write_whole 0 ++ Take 0 ∷ Offer 0 (a 2 param 2 0 0x14 0xf0 0x0000000100000000) ∷ read_whole 1 ++ write_whole 2 ++ Take 0 ∷ []

add_that_wraps : answers plain (atomic_of_four 0xffffffff00000000 4)
    ≡ Accepted 0 ∷ Sent 0 ∷ Done ∷ good_b ∷ Reply 0 ∷ Accepted 1 ∷ Sent 1 ∷ Done ∷ last_r 0 0xffffffff00000000 Okay ∷ Sent 2 ∷ Done ∷ good_b ∷ Reply 1 ∷ []
unfolding bytes_written zero_words
add_that_wraps = refl

bursts_of_an_add : bursts plain (atomic_of_four 0xffffffff00000000 4)
    ≡ write_of_one 0 0x10014 2 0xffffffff00000000 0xf0 ∷ read 0 0x10014 0 2 ∷ write_of_one 0 0x10014 2 0 0xf0 ∷ []
unfolding bytes_written zero_words
bursts_of_an_add = refl

replies_to_an_add : replies plain (atomic_of_four 0xffffffff00000000 4) ≡ (0, 0, (0, false, false, 0) ∷ []) ∷ (0, 1, (1, false, false, 0xffffffff00000000) ∷ []) ∷ []
unfolding bytes_written zero_words
replies_to_an_add = refl

bytes_of_an_add : bytes plain (atomic_of_four 0xffffffff00000000 4) 0x10013 6 ≡ replicate 6 (Some 0)
unfolding bytes_written zero_words
bytes_of_an_add = refl

-- MIN keeps the negative number, MINU takes the operand
bytes_of_min : bytes plain (atomic_of_four 0x8000000000000000 0) 0x10014 4 ≡ Some 0 ∷ Some 0 ∷ Some 0 ∷ Some 0x80 ∷ []
unfolding bytes_written zero_words
bytes_of_min = refl

bytes_of_minu : bytes plain (atomic_of_four 0x8000000000000000 2) 0x10014 4 ≡ Some 1 ∷ Some 0 ∷ Some 0 ∷ Some 0 ∷ []
unfolding bytes_written zero_words
bytes_of_minu = refl

-- an ADD of one byte
abbrev add_of_a_byte : List Step
add_of_a_byte = Offer 0 (a 0 0 0 1 0x13 0x08 0xff000000) ∷ write_whole 0 ++ Take 0 ∷ Offer 0 (a 2 4 0 0 0x13 0x08 0x01000000) ∷ read_whole 1 ++ write_whole 2 ++ Take 0 ∷ []

reply_to_add_of_a_byte : replies plain add_of_a_byte ≡ (0, 0, (0, false, false, 0) ∷ []) ∷ (0, 1, (1, false, false, 0xff000000) ∷ []) ∷ []
unfolding bytes_written zero_words
reply_to_add_of_a_byte = refl

bytes_of_add_of_a_byte : bytes plain add_of_a_byte 0x10012 3 ≡ Some 0 ∷ Some 0 ∷ Some 0 ∷ []
unfolding bytes_written zero_words
bytes_of_add_of_a_byte = refl

-- an ADD and a SWAP of the same bytes by two ways
abbrev add_and_swap : List Step
add_and_swap =
    Offer 0 (a 2 4 3 0 0x0000 0xff 5) ∷ Offer 1 (a 3 3 3 0 0x8000 0xff 9) ∷ Pump ∷ Pump ∷ Perform 0 0 ∷ AnswerR 0 ∷ Pump ∷ Pump ∷ Perform 1 0 ∷ AnswerB 0
    ∷ read_whole 2 ++ write_whole 3 ++ Take 0 ∷ Take 1 ∷ []

swap_waits_for_add : answers two_ways add_and_swap
    ≡ Accepted 0 ∷ Accepted 1 ∷ Sent 0 ∷ Idle ∷ Done ∷ last_r 0 0 Okay ∷ Sent 1 ∷ Idle ∷ Done ∷ good_b ∷ Sent 2 ∷ Done ∷ last_r 0 5 Okay
    ∷ Sent 3 ∷ Done ∷ good_b ∷ Reply 0 ∷ Reply 1 ∷ []
unfolding bytes_written zero_words
swap_waits_for_add = refl

old_values_of_both : replies two_ways add_and_swap ≡ (0, 0, (1, false, false, 0) ∷ []) ∷ (1, 1, (1, false, false, 5) ∷ []) ∷ []
unfolding bytes_written zero_words
old_values_of_both = refl

byte_of_both : bytes two_ways add_and_swap 0x10000 1 ≡ Some 9 ∷ []
unfolding bytes_written zero_words
byte_of_both = refl

work_of_both : work_left (end two_ways (Offer 0 (a 2 4 3 0 0x0000 0xff 5) ∷ Offer 1 (a 3 3 3 0 0x8000 0xff 9) ∷ [])) ≡ 12
work_of_both = refl

-- ---- errors

-- the second page is a slave-error page, the third is absent
abbrev bad_pages : SetupLists
bad_pages = record plain { pages = (0x10, Good) ∷ (0x11, SlaveError) ∷ (0x13, Good) ∷ [] }

-- a Get and a Put of each, and a Get of no region
abbrev on_bad_pages : List Step
on_bad_pages =
    Offer 0 (a 4 0 3 0 0x1000 0xff 0) ∷ read_whole 0 ++ Take 0 ∷ Offer 0 (a 0 0 3 0 0x1000 0xff 1) ∷ write_whole 1 ++ Take 0
    ∷ Offer 0 (a 4 0 3 0 0x2000 0xff 0) ∷ read_whole 2 ++ Take 0 ∷ Offer 0 (a 0 0 3 0 0x2000 0xff 1) ∷ write_whole 3 ++ Take 0
    ∷ Offer 0 (a 4 0 3 0 0x5000 0xff 0) ∷ Pump ∷ Take 0 ∷ []

answers_of_bad_pages : answers bad_pages on_bad_pages
    ≡ Accepted 0 ∷ Sent 0 ∷ Done ∷ last_r 0 0 SlvErr ∷ Reply 0 ∷ Accepted 1 ∷ Sent 1 ∷ Done ∷ B (record { id = 0; resp = SlvErr }) ∷ Reply 1
    ∷ Accepted 2 ∷ Sent 2 ∷ Done ∷ last_r 0 0 DecErr ∷ Reply 2 ∷ Accepted 3 ∷ Sent 3 ∷ Done ∷ B (record { id = 0; resp = DecErr }) ∷ Reply 3
    ∷ Accepted 4 ∷ Idle ∷ Reply 4 ∷ []
unfolding bytes_written zero_words
answers_of_bad_pages = refl

replies_of_bad_pages : replies bad_pages on_bad_pages
    ≡ (0, 0, (1, false, true, 0) ∷ []) ∷ (0, 1, (0, true, false, 0) ∷ []) ∷ (0, 2, (1, true, true, 0) ∷ []) ∷ (0, 3, (0, true, false, 0) ∷ [])
    ∷ (0, 4, (1, true, true, 0) ∷ []) ∷ []
unfolding bytes_written zero_words
replies_of_bad_pages = refl

abbrev bad_word : SetupLists
bad_word = record plain { bad_words = 0x10008 ∷ [] }

-- a Get of 32 bytes of which eight are bad, and an ADD of these
abbrev on_a_bad_word : List Step
on_a_bad_word = Offer 0 (a 4 0 5 0 0 0xff 0) ∷ Pump ∷ performs 0 4 ++ replicate 4 (AnswerR 0) ++ Take 0 ∷ Offer 0 (a 2 4 3 0 8 0xff 1) ∷ read_whole 1 ++ Pump ∷ Take 0 ∷ []

bursts_on_a_bad_word : bursts bad_word on_a_bad_word ≡ read 0 0x10000 3 3 ∷ read 0 0x10008 0 3 ∷ []
unfolding zero_words
bursts_on_a_bad_word = refl

replies_of_a_bad_word : replies bad_word on_a_bad_word
    ≡ (0, 0, (1, false, false, 0) ∷ (1, false, true, 0) ∷ (1, false, false, 0) ∷ (1, false, false, 0) ∷ []) ∷ (0, 1, (1, false, true, 0) ∷ []) ∷ []
unfolding zero_words
replies_of_a_bad_word = refl

-- a Put changes the byte, and the word stays bad
abbrev put_on_a_bad_word : List Step
put_on_a_bad_word = Offer 0 (a 0 0 3 0 8 0xff 0x99) ∷ write_whole 0 ++ Take 0 ∷ Offer 0 (a 4 0 3 0 8 0xff 0) ∷ read_whole 1 ++ Take 0 ∷ []

replies_of_put_and_get : replies bad_word put_on_a_bad_word ≡ (0, 0, (0, false, false, 0) ∷ []) ∷ (0, 1, (1, false, true, 0) ∷ []) ∷ []
unfolding bytes_written zero_words
replies_of_put_and_get = refl

byte_of_a_bad_word : bytes bad_word put_on_a_bad_word 0x10008 1 ≡ Some 0x99 ∷ []
unfolding bytes_written zero_words
byte_of_a_bad_word = refl

-- a corrupt Put, and a prefetch of a page
abbrev nothing_to_send : List Step
nothing_to_send = Offer 0 (record (a 0 0 3 0 8 0xff 1) { corrupt = true }) ∷ Pump ∷ Take 0 ∷ Offer 0 (a 5 1 12 1 0 0xff 0) ∷ Pump ∷ Take 0 ∷ []

answers_with_nothing_to_send : answers plain nothing_to_send ≡ Accepted 0 ∷ Idle ∷ Reply 0 ∷ Accepted 1 ∷ Idle ∷ Reply 1 ∷ []
answers_with_nothing_to_send = refl

replies_with_nothing_to_send : replies plain nothing_to_send ≡ (0, 0, (0, true, false, 0) ∷ []) ∷ (0, 1, (2, false, false, 0) ∷ []) ∷ []
replies_with_nothing_to_send = refl

-- ---- messages of several beats

-- beats of two clients take turns, and one is refused
abbrev put_of_16 : ℕ → ℕ → ℕ → ABeat
put_of_16 source address payload = a 0 0 4 source address 0xff payload

abbrev taking_turns : List Step
taking_turns = Offer 0 (put_of_16 0 0 1) ∷ Offer 1 (put_of_16 0 0x10 2) ∷ Offer 0 (put_of_16 0 8 3) ∷ Offer 1 (put_of_16 0 0x10 4) ∷ Offer 0 (put_of_16 0 0 5) ∷ []

answers_to_turns : answers plain taking_turns ≡ More ∷ More ∷ Refused BurstControl ∷ Accepted 0 ∷ Accepted 1 ∷ []
answers_to_turns = refl

messages_of_turns : messages_in taking_turns (answers plain taking_turns)
    ≡ record { client = 1; beats = put_of_16 0 0x10 2 ∷ put_of_16 0 0x10 4 ∷ [] } ∷ record { client = 0; beats = put_of_16 0 0 1 ∷ put_of_16 0 0 5 ∷ [] } ∷ []
messages_of_turns = refl

abbrev request_of_16 : ℕ → ℕ → ℕ → ℕ → WholeRequest
request_of_16 client address first second =
    record {
      client = client;
      source = 0;
      operation = PutFull;
      size = 4;
      address = address;
      bytes = Some first ∷ replicate 7 (Some 0) ++ Some second ∷ replicate 7 (Some 0);
      corrupt = false;
    }

requests_of_turns : accepted_in taking_turns (answers plain taking_turns) ≡ request_of_16 1 0x10 2 4 ∷ request_of_16 0 0 1 5 ∷ []
requests_of_turns = refl

-- a message that isn't whole is no request
begun_alone : accepted_in (Offer 0 (put_of_16 0 0 1) ∷ []) (answers plain (Offer 0 (put_of_16 0 0 1) ∷ [])) ≡ []
begun_alone = refl

work_of_a_beginning : work_left (end plain (Offer 0 (put_of_16 0 0 1) ∷ [])) ∷ in_flight (end plain (Offer 0 (put_of_16 0 0 1) ∷ [])) ∷ [] ≡ 0 ∷ 0 ∷ []
work_of_a_beginning = refl

-- ---- a bus of four bytes

abbrev narrow_bus : SetupLists
narrow_bus = record plain { config = record (config 2 4) { clients = 1; quota = 1; ids = 1; depth = 1 } }

-- the upper half is performed first
abbrev put_in_halves : List Step
put_in_halves = Offer 0 (a 0 0 3 5 8 0xff 0x1122334455667788) ∷ Pump ∷ Perform 0 1 ∷ AnswerB 0 ∷ Perform 0 0 ∷ AnswerB 0 ∷ Take 0 ∷ []

answers_to_put_in_halves : answers narrow_bus put_in_halves ≡ Accepted 0 ∷ Sent 0 ∷ Done ∷ Nothing ∷ Done ∷ good_b ∷ Reply 0 ∷ []
unfolding bytes_written zero_words
answers_to_put_in_halves = refl

beats_of_put_in_halves : sent_in (start narrow_bus) put_in_halves
    ≡ Aw (record { id = 0; address = 0x10008; len = 1; size = 2; burst = 1 }) ∷ W (record { payload = 0x55667788; strobes = 0x0f; last = false })
    ∷ W (record { payload = 0x11223344; strobes = 0x0f; last = true }) ∷ []
unfolding bytes_written zero_words
beats_of_put_in_halves = refl

byte_after_the_upper_half : bytes narrow_bus (Offer 0 (a 0 0 3 5 8 0xff 0x1122334455667788) ∷ Pump ∷ Perform 0 1 ∷ []) 0x1000b 2 ≡ Some 0 ∷ Some 0x44 ∷ []
unfolding bytes_written zero_words
byte_after_the_upper_half = refl

work_in_halves : work_left (end narrow_bus (Offer 0 (a 0 0 3 5 8 0xff 1) ∷ [])) ∷ work_left (end narrow_bus (Offer 0 (a 2 4 3 0 0 0xff 5) ∷ [])) ∷ [] ≡ 4 ∷ 9 ∷ []
work_in_halves = refl

-- the ADD of four bytes, whose lanes are now the lower ones
bursts_of_an_add_on_it : bursts narrow_bus (atomic_of_four 0xffffffff00000000 4)
    ≡ write_of_one 0 0x10014 2 0xffffffff 0x0f ∷ read 0 0x10014 0 2 ∷ write_of_one 0 0x10014 2 0 0x0f ∷ []
unfolding bytes_written zero_words
bursts_of_an_add_on_it = refl

replies_to_an_add_on_it : replies narrow_bus (atomic_of_four 0xffffffff00000000 4)
    ≡ (0, 0, (0, false, false, 0) ∷ []) ∷ (0, 1, (1, false, false, 0xffffffff00000000) ∷ []) ∷ []
unfolding bytes_written zero_words
replies_to_an_add_on_it = refl

-- the Get of 32 bytes of which eight are bad, in eight transfers
abbrev narrow_bad_word : SetupLists
narrow_bad_word = record bad_word { config = config 256 4 }

abbrev get_of_32 : List Step
get_of_32 = Offer 0 (a 4 0 5 0 0 0xff 0) ∷ Pump ∷ performs 0 8 ++ replicate 8 (AnswerR 0) ++ Take 0 ∷ []

burst_of_eight_transfers : bursts narrow_bad_word get_of_32 ≡ read 0 0x10000 7 2 ∷ []
unfolding zero_words
burst_of_eight_transfers = refl

the_same_four_beats : replies narrow_bad_word get_of_32 ≡ (0, 0, (1, false, false, 0) ∷ (1, false, true, 0) ∷ (1, false, false, 0) ∷ (1, false, false, 0) ∷ []) ∷ []
unfolding zero_words
the_same_four_beats = refl

-- a page in four bursts
bursts_of_a_page_on_it : bursts (record plain { config = config 256 4 }) get_of_page ≡ read 0 0x11000 255 2 ∷ read 0 0x11400 255 2 ∷ []
bursts_of_a_page_on_it = refl

work_of_a_page_on_it : work_left (end (record plain { config = config 256 4 }) (Offer 0 (a 4 0 12 0 0x1000 0xff 0) ∷ [])) ≡ 2052
work_of_a_page_on_it = refl

-- ---- what the run shows

-- one good page
abbrev setup : SetupLists
setup = record plain { pages = (0x10, Good) ∷ [] }

-- client 0 puts a byte, client 1 gets its word, and the later reply is taken first
abbrev steps : List Step
steps =
    Offer 0 (a 0 0 0 5 0x0b 0x08 0xaa000000) ∷ Offer 1 (a 4 0 3 2 0x08 0xff 0) ∷ Pump ∷ Perform 0 0 ∷ AnswerB 0 ∷ Pump ∷ Perform 1 0 ∷ AnswerR 0
    ∷ Take 1 ∷ Take 0 ∷ []

abbrev given : List Answer
given =
    Accepted 0 ∷ Accepted 1 ∷ Sent 0 ∷ Done ∷ B (record { id = 0; resp = Okay }) ∷ Sent 1 ∷ Done
    ∷ R (record { id = 0; payload = 0xaa000000; resp = Okay; last = true }) ∷ Reply 1 ∷ Reply 0 ∷ []

abbrev to_put : HandedReply
to_put = record { client = 0; number = 0; beats = record { opcode = 0; param = 0; size = 0; source = 5; denied = false; payload = 0; corrupt = false } ∷ [] }

-- the word, with a payload
abbrev to_get : ℕ → HandedReply
to_get payload = record { client = 1; number = 1; beats = record { opcode = 1; param = 0; size = 3; source = 2; denied = false; payload = payload; corrupt = false } ∷ [] }

abbrev handed : List HandedReply
handed = to_get 0xaa000000 ∷ to_put ∷ []

abbrev sent : List SentBeat
sent =
    Aw (record { id = 0; address = 0x1000b; len = 0; size = 0; burst = 1 }) ∷ W (record { payload = 0xaa000000; strobes = 0x08; last = true })
    ∷ Ar (record { id = 0; address = 0x10008; len = 0; size = 3; burst = 1 }) ∷ []

-- all bytes of the page are zero, but for the one that was put
abbrev byte : ℕ → Option ℕ
byte x = if 0x10 == x / 4096 then Some (if x == 0x1000b then 0xaa else 0) else None

answers_shown : answers_of (start setup) steps ≡ given
unfolding bytes_written zero_words
answers_shown = refl

replies_shown : handed_in (start setup) steps ≡ handed
unfolding bytes_written zero_words
replies_shown = refl

beats_shown : sent_in (start setup) steps ≡ sent
unfolding bytes_written zero_words
beats_shown = refl

quiet_at_the_end : in_flight (end setup steps) ≡ 0
unfolding bytes_written zero_words
quiet_at_the_end = refl

bytes_shown : map (byte_of (end setup steps)) (0xffff ∷ 0x10000 ∷ 0x1000a ∷ 0x1000b ∷ 0x1000c ∷ 0x10fff ∷ 0x11000 ∷ [])
    ≡ map byte (0xffff ∷ 0x10000 ∷ 0x1000a ∷ 0x1000b ∷ 0x1000c ∷ 0x10fff ∷ 0x11000 ∷ [])
unfolding bytes_written zero_words
bytes_shown = refl

-- ---- the bytes

-- nothing is given at an address that isn't the one that was put
beside_it : (x : ℕ) → x ≢ 0x1000b → unwrap_or (given_at (Some 0xaa ∷ []) 0x1000b x) 0 ≡ 0
beside_it x apart = elim (leb_tells 0x1000b x) [ inl above ↦ rw (above.0, rest above.1) refl | inr below ↦ rw below.0 refl ]
  where
    rest : 0x1000b ≤ x → x - 0x1000b ≡ suc (x - 0x1000c)
    rest above = omega (arith, apart)

-- the bytes are those of the two requests one at a time
byte_left : (x : ℕ) → (if x == 0x1000b then 0xaa else 0) ≡ bytes_of_all setup (accepted_in steps given) x
byte_left x =
    elim (eqb_tells x 0x1000b) [
      | inl here ↦ subst (λ y. (if y == 0x1000b then 0xaa else 0) ≡ bytes_of_all setup (accepted_in steps given) y) (sym here.1) refl
      | inr other ↦ rw other.0 (sym (beside_it x other.1))
    ]

on_the_page : (x : ℕ) → byte x ≡ byte_shown setup (bytes_of_all setup (accepted_in steps given)) x
on_the_page x = by_page (0x10 == x / 4096) (byte_left x)
  where
    by_page : (here : Bool) {one other : ℕ} → one ≡ other
        → (if here then Some one else None) ≡ (if is_good (standing_of_listed (if here then Some (0x10, Good) else None)) then Some other else None)
    by_page true same = ap Some same
    by_page false same = refl

-- ---- the bursts, and AXI4's order

abbrev history : List AxiBeat
history = axi_history given (write_of_one 0 0x1000b 0 0xaa000000 0x08 ∷ read 0 0x10008 0 3 ∷ [])

reads_in_order : (id : ℕ) → flat_map (read_given id) history ++ reads_owe id (open_after_all nothing_open history).reads ≡ flat_map (reads_asked id) history
reads_in_order id = elim (eqb_tells 0 id) [ inl same ↦ rw same.0 refl | inr other ↦ rw other.0 refl ]

responses_in_order : (id : ℕ) → length (filter (closes_write id) history) + length (filter (write_of_id id) (open_after_all nothing_open history).writes)
    ≡ length (filter (opens_write id) history)
responses_in_order id = elim (eqb_tells 0 id) [ inl same ↦ rw same.0 refl | inr other ↦ rw other.0 refl ]

legal_traffic : IsLegalTraffic setup given sent
legal_traffic =
    record {
      bursts = write_of_one 0 0x1000b 0 0xaa000000 0x08 ∷ read 0 0x10008 0 3 ∷ [];
      whole = refl;
      paired = refl;
      legal = refl;
      in_place = refl;
      in_order = record { reads = reads_in_order; write_data = refl; responses = responses_in_order };
    }

-- ---- the statement

it_holds : IsOneAtATime setup steps given handed sent 0 byte
unfolding IsDistinct
it_holds =
    record {
      answered = refl;
      numbered = refl;
      spelled = (record { client = omega arith; spells = (refl, refl, refl, refl) }, (record { client = omega arith; spells = (refl, refl, refl, refl) }, tt));
      as_many = refl;
      told = refl;
      replies = (
        record { request = _; reply = _; accepted = refl; carried_out = refl; client = refl; beats = refl },
        (record { request = _; reply = _; accepted = refl; carried_out = refl; client = refl; beats = refl }, tt),
      );
      once = ((refl, tt), (tt, tt));
      memory = λ quiet x. on_the_page x;
      traffic = legal_traffic;
    }

-- ---- what it doesn't hold of

-- numbers in another order
other_numbers : IsOneAtATime setup steps (Accepted 1 ∷ Accepted 0 ∷ drop 2 given) handed sent 0 byte → ⊥
other_numbers it = let first : 1 ≡ 0 = ap (λ numbers. get_or numbers 0 0) it.numbered in absurd (omega (arith, first))

-- a reply that the answers don't tell of
untold_reply : IsOneAtATime setup steps given (to_put ∷ handed) sent 0 byte → ⊥
untold_reply it = let count : 3 ≡ 2 = ap length it.told in absurd (omega (arith, count))

-- a reply handed out once more
once_more : IsOneAtATime setup (steps ++ Take 0 ∷ []) (given ++ Reply 0 ∷ []) (handed ++ to_put ∷ []) sent 0 byte → ⊥
unfolding IsDistinct
once_more it = absurd (true≢false it.once.1.0.0)

-- a byte that wasn't put
lost_byte : IsOneAtATime setup steps given handed sent 0 (byte_of (start setup)) → ⊥
unfolding zero_words
lost_byte it = let put : 0 ≡ 0xaa = ap (λ found. unwrap_or found 0) (it.memory refl 0x1000b) in absurd (omega (arith, put))

-- the Get carried out before the Put: what is asked and told under its number decides its payload
abbrev get_asked : WholeRequest
get_asked = record { client = 1; source = 2; operation = Get; size = 3; address = 8; bytes = replicate 8 None; corrupt = false }

abbrev get_told : RightReply
get_told = record { denied = false; bytes = map Some (0 ∷ 0 ∷ 0 ∷ 0xaa ∷ 0 ∷ 0 ∷ 0 ∷ 0 ∷ []) }

abbrev first_payload : List DBeat → ℕ
first_payload [] = 0
first_payload (beat ∷ beats) = beat.payload

get_before_put : IsOneAtATime setup steps given (to_get 0 ∷ to_put ∷ []) sent 0 byte → ⊥
get_before_put it = payloads it.replies.0
  where
    payloads : IsReplyTo (accepted_in steps given) (replies_of setup (accepted_in steps given)) (to_get 0) → ⊥
    payloads is =
        let asked : get_asked ≡ is.request = ap (λ found. unwrap_or found get_asked) is.accepted in
        let told : get_told ≡ is.reply = ap (λ found. unwrap_or found get_told) is.carried_out in
        let payload : 0 ≡ 0xaa000000 =
        ap first_payload is.beats
        ∙ sym (ap (λ q. first_payload (shown q is.reply)) asked)
        ∙ sym (ap (λ reply. first_payload (shown get_asked reply)) told) in
        absurd (omega (arith, payload))

-- no burst
some_beat : (bursts : List Burst) → [] ≡ flat_map recorded_beats bursts → length bursts ≡ 2 → ⊥
some_beat [] whole paired = absurd (omega (arith, paired))
some_beat (WriteBurst aw beats ∷ bursts) whole paired = absurd (cc (whole))
some_beat (ReadBurst ar ∷ bursts) whole paired = absurd (cc (whole))

no_burst : IsOneAtATime setup steps given handed [] 0 byte → ⊥
no_burst it = some_beat it.traffic.bursts it.traffic.whole it.traffic.paired
