-- The contents that each step of a call leaves.
use Rattle.std.proofs.Common.{◌≡◌, ℕ, suc, ◌+◌, ◌*◌, ◌/◌, Bool, true, false, ◌||◌, List, Option, Some, None, Result, Ok, Err, if◌then◌else◌, refl, sym, ◌∙◌, ap, arith}
use Rattle.std.specs.Prelude.{IsOk, OnErr}
use Rattle.byte_values.specs.Words.{WordList}
use Rattle.byte_values.specs.declared.change.Change.{Change}
use Rattle.byte_values.specs.declared.change.Change.TheVariants as change
use Rattle.byte_values.specs.declared.known.KnownBytes.{KnownBytes}
use Rattle.data_unit.specs.Words.{full_mask}
use Rattle.subordinate.specs.Faults.{Faults}
use Rattle.sparse_memory.specs.Ranges.{faults_of, is_unknown}
use Rattle.sparse_memory.specs.SparseMemory.{SparseState, bytes_in, doubts_in, faults_in, has_room, put_flags}
use Rattle.sparse_memory.specs.declared.PageRange.{PageRange}
use Rattle.value_tables.specs.Tables.{TableState, changed_at, empty_table, has_room as has_room_at, list_at, pruned_at, reset_at, settled_at, word_beside}
use Rattle.value_memory.specs.InsideValues.{begun_table, finds_place, is_full_list, settled_in, with_table}
use Rattle.value_memory.specs.States.{Contents, after_each, at_each_word, begun_over, begun_place, begun_word, changed, contents_of, counted, cut_off, ended, failed, given, held_of, held_with, is_crowded_until, is_crowded_word, left, made_sure, may_leave, new_contents, settled_as, settled_word, swept, tidied, tidied_beside, tidied_if, with_oldest, with_place, with_request}
use Rattle.value_memory.specs.ValueMemory.{ValueState, held_by, held_in, pages_of, rooms_in, word_count}
use Rattle.value_memory.specs.declared.ByteRange.{ByteRange}
use Rattle.value_memory.proofs.MemoryGoes.{state_of}

-- contents of their parts
abbrev contents : TableState → (ℕ → ℕ) → (ℕ → Bool) → Faults → ℕ → ℕ → ℕ → Contents
contents table bytes doubts faults begun oldest crowds =
    record { table = table; bytes = bytes; doubts = doubts; faults = faults; begun = begun; oldest = oldest; crowds = crowds }

-- ---- what they say

-- what is held of a byte, and the pages
pub held-contents : (m : ValueState) (x : ℕ) → held_in m x ≡ held_of (contents_of m) x
unfolding held_in held_of
held-contents m x = by_list (list_at m.table (x / 8))
  where
    by_list : (o : Option WordList) → held_by m x o ≡ held_with (contents_of m) x o
    by_list None = refl
    by_list (Some list) = refl

pub pages-contents : (m : ValueState) → pages_of m ≡ (contents_of m).faults
unfolding pages_of
pages-contents m = refl

-- ---- another table, or other bytes

-- bytes have changed
pub contents-put : (m : ValueState) (table : TableState) (settled : SparseState) (bytes : ℕ → ℕ) (doubts : ℕ → Bool) → faults_in settled ≡ faults_in m.settled
    → bytes_in settled ≡ bytes → doubts_in settled ≡ doubts
    → contents_of (state_of table settled m.begun m.oldest m.crowds) ≡ record (contents_of m) { table = table; bytes = bytes; doubts = doubts }
contents-put m table settled bytes doubts faults is_bytes is_doubts =
    ap (λ f. contents table (bytes_in settled) (doubts_in settled) f m.begun m.oldest m.crowds) faults
    ∙ ap (λ b. contents table b (doubts_in settled) (faults_in m.settled) m.begun m.oldest m.crowds) is_bytes
    ∙ ap (λ d. contents table bytes d (faults_in m.settled) m.begun m.oldest m.crowds) is_doubts

pub contents-new : (table : TableState) (settled : SparseState) (ranges : List PageRange) (bad_words : List ℕ) → table ≡ empty_table → faults_in settled ≡ faults_of ranges bad_words
    → bytes_in settled ≡ (λ address. 0) → doubts_in settled ≡ (λ address. is_unknown ranges (address / 4096))
    → contents_of (state_of table settled 0 0 0) ≡ new_contents ranges bad_words
contents-new table settled ranges bad_words is_table faults bytes doubts =
    ap (λ t. contents t (bytes_in settled) (doubts_in settled) (faults_in settled) 0 0 0) is_table
    ∙ ap (λ f. contents empty_table (bytes_in settled) (doubts_in settled) f 0 0 0) faults
    ∙ ap (λ b. contents empty_table b (doubts_in settled) (faults_of ranges bad_words) 0 0 0) bytes
    ∙ ap (λ d. contents empty_table (λ address. 0) d (faults_of ranges bad_words) 0 0 0) doubts

-- a page gets room
pub room-made : (m : ValueState) (settled : SparseState) → faults_in settled ≡ faults_in m.settled → bytes_in settled ≡ bytes_in m.settled → doubts_in settled ≡ doubts_in m.settled
    → contents_of (state_of m.table settled m.begun m.oldest m.crowds) ≡ contents_of m
room-made m settled faults bytes doubts = contents-put m m.table settled (bytes_in m.settled) (doubts_in m.settled) faults bytes doubts

-- it is refused only where the page had none
pub room-refused : {T E : Type 0} (r : Result T E) (m : ValueState) (number : ℕ) → (has_room m.settled number ≡ true → IsOk r) → OnErr r (rooms_in m number ≡ false)
unfolding rooms_in
room-refused (Ok value) m number has = tt
room-refused (Err fault) m number has = by_room (has_room m.settled number) refl
  where
    by_room : (b : Bool) → has_room m.settled number ≡ b → b ≡ false
    by_room true there = let never : false ≡ true = has there in absurd (cc)
    by_room false there = refl

-- ---- one step after another

pub after-next : (step : ℕ → Contents → Contents) (place : ℕ) (c : Contents) → step place (after_each step place c) ≡ after_each step (place + 1) c
after-next step place c =
    let next : suc place ≡ place + 1 = omega arith in
    ap (λ n. after_each step n c) next

-- a step more
pub each-more : (step : ℕ → Contents → Contents) (place : ℕ) (c before after : Contents) → after ≡ step place before → before ≡ after_each step place c → after ≡ after_each step (place + 1) c
each-more step place c before after is so_far = is ∙ ap (step place) so_far ∙ after-next step place c

-- at a word more of a range
pub word-more : (step : ℕ → Contents → Contents) (range : ByteRange) (place word : ℕ) (c before after : Contents) → word ≡ range.address / 8 + place → after ≡ step word before
    → before ≡ after_each (λ k. step (range.address / 8 + k)) place c → after ≡ after_each (λ k. step (range.address / 8 + k)) (place + 1) c
word-more step range place word c before after at is so_far =
    each-more (λ k. step (range.address / 8 + k)) place c before after (is ∙ ap (λ w. step w before) at) so_far

pub words-all : (step : ℕ → Contents → Contents) (range : ByteRange) (place : ℕ) (c after : Contents) → place ≡ word_count range
    → after ≡ after_each (λ k. step (range.address / 8 + k)) place c → after ≡ at_each_word step range c
unfolding at_each_word
words-all step range place c after all is = is ∙ ap (λ n. after_each (λ k. step (range.address / 8 + k)) n c) all

-- ---- lists are kept short

pub settled-leaves : (word : ℕ) (known : KnownBytes) (c : Contents) → may_leave c known ≡ true → left word known c ≡ settled_as word (Some known) c
settled-leaves word known c may = ap (λ b. if b then left word known c else c) (sym may)

pub settled-waits : (word : ℕ) (known : KnownBytes) (c : Contents) → may_leave c known ≡ false → c ≡ settled_as word (Some known) c
settled-waits word known c may = ap (λ b. if b then left word known c else c) (sym may)

pub tidied-after : (m : ValueState) (table : TableState) (word : ℕ) (o : Option KnownBytes) → table ≡ pruned_at word m.oldest m.begun m.table → o ≡ settled_at table word
    → settled_as word o (contents_of (with_table m table)) ≡ tidied word (contents_of m)
unfolding tidied
tidied-after m table word o is settled =
    ap (λ p. settled_as word p (contents_of (with_table m table))) settled
    ∙ ap (λ t. settled_as word (settled_at t word) (contents_of (with_table m t))) is

pub beside-none : (word place : ℕ) (c : Contents) → None ≡ word_beside c.table word place → c ≡ tidied_beside word place c
unfolding tidied_beside
beside-none word place c is = ap (λ o. tidied_if o c) is

pub beside-some : (word place other : ℕ) (c : Contents) → Some other ≡ word_beside c.table word place → tidied other c ≡ tidied_beside word place c
unfolding tidied_beside
beside-some word place other c is = ap (λ o. tidied_if o c) is

pub swept-all : (word place : ℕ) (c after : Contents) → place ≡ 8 → after ≡ after_each (tidied_beside word) place c → after ≡ swept word c
unfolding swept
swept-all word place c after all is = is ∙ ap (λ n. after_each (tidied_beside word) n c) all

pub place-there : (word : ℕ) (c : Contents) → has_room_at c.table word ≡ true → c ≡ with_place word c
unfolding with_place
place-there word c there = ap (λ b. if b then c else swept word c) (sym there)

pub place-made : (word : ℕ) (c : Contents) → has_room_at c.table word ≡ false → swept word c ≡ with_place word c
unfolding with_place
place-made word c there = ap (λ b. if b then c else swept word c) (sym there)

-- ---- a request begins

pub begun-found : (m new : ValueState) (address lanes : ℕ) → new ≡ with_table m (begun_table m (address / 8) lanes (settled_in m address)) → finds_place m (address / 8) ≡ true
    → contents_of new ≡ begun_word address lanes (contents_of m)
unfolding begun_word settled_word settled_in
begun-found m new address lanes is found =
    ap contents_of is
    ∙ ap (λ b. record (contents_of m) { table = begun_table m (address / 8) lanes (settled_in m address); doubts = if b then doubts_in m.settled else put_flags address lanes lanes (doubts_in m.settled) })
    (sym found)

pub begun-missed : (m between new : ValueState) (address lanes : ℕ) → between ≡ with_table m (begun_table m (address / 8) lanes (settled_in m address)) → finds_place m (address / 8) ≡ false
    → contents_of new ≡ record (contents_of between) { doubts = put_flags address lanes lanes (doubts_in between.settled) } → contents_of new ≡ begun_word address lanes (contents_of m)
unfolding begun_word settled_word settled_in
begun-missed m between new address lanes is missed doubted =
    doubted
    ∙ ap (λ (s : ValueState). record (contents_of s) { doubts = put_flags address lanes lanes (doubts_in s.settled) }) is
    ∙ ap (λ b. record (contents_of m) { table = begun_table m (address / 8) lanes (settled_in m address); doubts = if b then doubts_in m.settled else put_flags address lanes lanes (doubts_in m.settled) })
    (sym missed)

pub crowded-found : (m : ValueState) (address : ℕ) (full : Bool) → finds_place m (address / 8) ≡ true → full ≡ is_full_list (list_at m.table (address / 8))
    → full ≡ is_crowded_word address (contents_of m)
unfolding is_crowded_word
crowded-found m address full found is = is ∙ ap (λ b. if b then is_full_list (list_at m.table (address / 8)) else true) (sym found)

pub crowded-missed : (m : ValueState) (address : ℕ) → finds_place m (address / 8) ≡ false → true ≡ is_crowded_word address (contents_of m)
unfolding is_crowded_word
crowded-missed m address missed = ap (λ b. if b then is_full_list (list_at m.table (address / 8)) else true) (sym missed)

-- at one word more
pub begun-more : (range : ByteRange) (place address lanes : ℕ) (c before after : Contents) → address ≡ range.address + place * 8 → lanes ≡ full_mask range.address range.size
    → after ≡ begun_word address lanes before → before ≡ after_each (begun_place range) place c → after ≡ after_each (begun_place range) (place + 1) c
unfolding begun_place
begun-more range place address lanes c before after at mask is so_far =
    each-more (begun_place range) place c before after
    (is ∙ ap (λ a. begun_word a lanes before) at ∙ ap (λ l. begun_word (range.address + place * 8) l before) mask) so_far

pub crowded-more : (range : ByteRange) (place address : ℕ) (c before : Contents) (crowded here : Bool) → address ≡ range.address + place * 8 → here ≡ is_crowded_word address before
    → before ≡ after_each (begun_place range) place c → crowded ≡ is_crowded_until range place c → (crowded || here) ≡ is_crowded_until range (place + 1) c
crowded-more range place address c before crowded here at is so_far crowded_is =
    let next : suc place ≡ place + 1 = omega arith in
    ap (λ b. b || here) crowded_is
    ∙ ap (λ b. is_crowded_until range place c || b)
    (is ∙ ap (λ a. is_crowded_word a before) at ∙ ap (is_crowded_word (range.address + place * 8)) so_far)
    ∙ ap (λ n. is_crowded_until range n c) next

-- that there was no room is counted by a number
abbrev with_more : ℕ → Contents → Contents
with_more count c = record c { crowds = c.crowds + count }

pub writing-contents : (now placed m listed n : ValueState) (range : ByteRange) (crowded : Bool) (found : ℕ) → contents_of placed ≡ at_each_word with_place range (contents_of now) → m ≡ placed
    → contents_of listed ≡ after_each (begun_place range) (word_count range) (contents_of (record m { begun = m.begun + 1 }))
    → crowded ≡ is_crowded_until range (word_count range) (contents_of (record m { begun = m.begun + 1 })) → n ≡ listed → found ≡ (if crowded then 1 else 0)
    → contents_of (record n { crowds = n.crowds + found }) ≡ with_request (Some range) (contents_of now)
unfolding begun_over
writing-contents now placed m listed n range crowded found placed_is m_is listed_is crowded_is n_is found_is =
    ap (λ s. with_more found (contents_of s)) n_is
    ∙ ap (λ k. with_more k (contents_of listed)) found_is
    ∙ ap (with_more (if crowded then 1 else 0)) listed_is
    ∙ ap (λ b. with_more (if b then 1 else 0) (after_each (begun_place range) (word_count range) (counted (contents_of m)))) crowded_is
    ∙ ap (λ c. begun_over range (counted c)) (ap contents_of m_is ∙ placed_is)

-- ---- what becomes of a request

pub list-changed : (m : ValueState) (table : TableState) (change : Change) (word : ℕ) → table ≡ changed_at word change m.table → contents_of (with_table m table) ≡ changed change word (contents_of m)
unfolding changed
list-changed m table change word is = ap (λ t. contents_of (with_table m t)) is

pub given-is : (number address lanes : ℕ) (known : KnownBytes) (c after : Contents) → after ≡ changed (change.Gives number lanes known) (address / 8) c → after ≡ given number address lanes known c
unfolding given
given-is number address lanes known c after is = is

pub sure-is : (number : ℕ) (range : ByteRange) (c after : Contents) → after ≡ at_each_word (changed (change.Sure number)) range c → after ≡ made_sure number range c
unfolding made_sure
sure-is number range c after is = is

pub failed-is : (number : ℕ) (range : ByteRange) (c after : Contents) → after ≡ at_each_word (changed (change.Fails number)) range c → after ≡ failed number range c
unfolding failed
failed-is number range c after is = is

pub ended-is : (number : ℕ) (range : ByteRange) (c after : Contents) → after ≡ at_each_word (changed (change.Ends number c.begun)) range c → after ≡ ended number range c
unfolding ended
ended-is number range c after is = is

pub oldest-is : (m : ValueState) (oldest : ℕ) → contents_of (record m { oldest = oldest }) ≡ with_oldest oldest (contents_of m)
unfolding with_oldest
oldest-is m oldest = refl

pub reset-is : (m : ValueState) (table : TableState) → table ≡ reset_at m.begun m.table → contents_of (record m { table = table; oldest = m.begun + 1 }) ≡ cut_off (contents_of m)
unfolding cut_off
reset-is m table is = ap (λ t. contents_of (record m { table = t; oldest = m.begun + 1 })) is
