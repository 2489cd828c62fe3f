-- A tester says which bytes a memory begins with.
use Rattle.std.proofs.Common.{◌≡◌, ℕ, ◌+◌, ◌-◌, ◌/◌, ◌<◌, ◌==◌, Bool, true, false, not, ◌&&◌, ◌||◌, List, [], ◌∷◌, length, Option, Some, None, if◌then◌else◌, is_some, refl, sym, ◌∙◌, ap, arith}
use Rattle.std.specs.Prelude.{slice_index}
use Rattle.byte_orders.specs.Holdings.{beginning}
use Rattle.byte_values.specs.Words.{WordList}
use Rattle.data_unit.specs.Words.{full_mask, placed_at}
use Rattle.sparse_memory.specs.SparseMemory.{SparseState, bytes_in, doubts_in, faults_in, put_flags, put_word}
use Rattle.serial_memory.specs.InsideSerial.{IsReservedAlone, filled_until}
use Rattle.serial_memory.specs.SerialMemory.{is_filled, known_from, some_lacks_room}
use Rattle.serial_memory.proofs.FilledBytes.{byte-known, byte-put, filled-more, filled-none, known-more, known-none, refused-one, room-more}
use Rattle.value_tables.specs.Tables.{list_at, lost_since}
use Rattle.value_memory.specs.InsideValues.{IsSoundMemory}
use Rattle.value_memory.specs.States.{Contents, KeepsContents, contents_of, filled_first, filled_with, held_of, held_with, with_byte}
use Rattle.value_memory.specs.ValueMemory.{KeepsCounts, ValueState, held_in, pages_of, rooms_in, settled_holding}
use Rattle.value_memory.proofs.MemoryGoes.{state_of}
use Rattle.value_memory.proofs.StateSteps.{contents-put, held-contents, pages-contents}

-- ---- only pages have got room

pub alike_none : (m : ValueState) → KeepsContents m m
alike_none m = record { contents = refl; rooms = λ page there. there }

pub alike_then : {old between new : ValueState} → KeepsContents old between → KeepsContents between new → KeepsContents old new
alike_then first next = record { contents = next.contents ∙ first.contents; rooms = λ page there. next.rooms page (first.rooms page there) }

pub alike_pages : (old new : ValueState) → KeepsContents old new → pages_of new ≡ pages_of old
alike_pages old new alike = pages-contents new ∙ ap (λ (c : Contents). c.faults) alike.contents ∙ sym (pages-contents old)

pub alike_held : (old new : ValueState) → KeepsContents old new → (x : ℕ) → held_in new x ≡ held_in old x
alike_held old new alike x = held-contents new x ∙ ap (λ c. held_of c x) alike.contents ∙ sym (held-contents old x)

pub alike_counts : (old new : ValueState) → KeepsContents old new → KeepsCounts old new
alike_counts old new alike =
    record { begun = ap (λ (c : Contents). c.begun) alike.contents; oldest = ap (λ (c : Contents). c.oldest) alike.contents; crowds = ap (λ (c : Contents). c.crowds) alike.contents }

as_reserved : (old new : ValueState) → KeepsContents old new → IsReservedAlone old.settled new.settled
unfolding rooms_in
as_reserved old new alike =
    record {
      faults = ap (λ (c : Contents). c.faults) alike.contents;
      bytes = ap (λ (c : Contents). c.bytes) alike.contents;
      doubts = ap (λ (c : Contents). c.doubts) alike.contents;
      rooms = alike.rooms;
    }

or-stays : (a b : Bool) → a ≡ true → (a || b) ≡ true
or-stays true b is = refl
or-stays false b is = let never : false ≡ true = is in absurd (cc)

-- one page more has room
pub alike_room : (old new : ValueState) (number : ℕ) → contents_of new ≡ contents_of old → ((page : ℕ) → rooms_in new page ≡ (rooms_in old page || page == number)) → KeepsContents old new
alike_room old new number same rooms = record { contents = same; rooms = λ page there. rooms page ∙ or-stays (rooms_in old page) (page == number) there }

pub rooms-more : (old new : ValueState) (address k number : ℕ) → number ≡ (address + k) / 4096 → ((page : ℕ) → rooms_in new page ≡ (rooms_in old page || page == number))
    → ((j : ℕ) → j < k → rooms_in old ((address + j) / 4096) ≡ true) → (j : ℕ) → j < k + 1 → rooms_in new ((address + j) / 4096) ≡ true
unfolding rooms_in
rooms-more old new address k number is each before = room-more old.settled new.settled address k number is each before

pub rooms-refused : (old new : ValueState) (address count k number : ℕ) → KeepsContents old new → number ≡ (address + k) / 4096 → k < count → rooms_in new number ≡ false
    → some_lacks_room (rooms_in old) address count ≡ true
unfolding rooms_in
rooms-refused old new address count k number alike is below lacks = refused-one address count k number (as_reserved old new alike) is below lacks

-- ---- bytes are put

pub byte-contents : (m : ValueState) (settled : SparseState) (address byte word strobes : ℕ) → byte < 256 → word ≡ placed_at byte address 0 → strobes ≡ full_mask address 0
    → faults_in settled ≡ faults_in m.settled → bytes_in settled ≡ put_word address word strobes (bytes_in m.settled) → doubts_in settled ≡ put_flags address 0 strobes (doubts_in m.settled)
    → contents_of (state_of m.table settled m.begun m.oldest m.crowds) ≡ with_byte address byte (contents_of m)
unfolding with_byte
byte-contents m settled address byte word strobes fits word_is strobes_is faults bytes doubts =
    contents-put m m.table settled (λ x. if x == address then byte else bytes_in m.settled x) (λ x. not (x == address) && doubts_in m.settled x) faults
    (bytes ∙ ap (λ w. put_word address w strobes (bytes_in m.settled)) word_is ∙ ap (λ s. put_word address (placed_at byte address 0) s (bytes_in m.settled)) strobes_is
    ∙ byte-put (bytes_in m.settled) address byte fits)
    (doubts ∙ ap (λ s. put_flags address 0 s (doubts_in m.settled)) strobes_is ∙ byte-known (doubts_in m.settled) address)

pub first-none : (address : ℕ) (bytes : List ℕ) (c : Contents) → c ≡ filled_first address bytes 0 c
unfolding filled_first
first-none address bytes c =
    ap (λ b. record c { bytes = b }) (filled-none c.bytes address bytes) ∙ ap (λ d. record c { bytes = filled_until c.bytes address bytes 0; doubts = d }) (known-none c.doubts address)

pub first-more : (address at k byte : ℕ) (bytes : List ℕ) (c before after : Contents) → at ≡ address + k → byte ≡ slice_index bytes k → after ≡ with_byte at byte before
    → before ≡ filled_first address bytes k c → after ≡ filled_first address bytes (k + 1) c
unfolding filled_first with_byte
first-more address at k byte bytes c before after at_is byte_is is so_far =
    is
    ∙ ap (λ a. with_byte a byte before) at_is
    ∙ ap (λ b. with_byte (address + k) b before) byte_is
    ∙ ap (with_byte (address + k) (slice_index bytes k)) so_far
    ∙ ap (λ b. record c { bytes = b; doubts = λ x. not (x == address + k) && known_from c.doubts address k x }) (filled-more c.bytes address bytes k)
    ∙ ap (λ d. record c { bytes = filled_until c.bytes address bytes (k + 1); doubts = d }) (known-more c.doubts address k)

pub first-all : (address k : ℕ) (bytes : List ℕ) (c after : Contents) → k ≡ length bytes → after ≡ filled_first address bytes k c → after ≡ filled_with address bytes c
unfolding filled_first filled_with
first-all address k bytes c after all is = is ∙ ap (λ n. filled_first address bytes n c) all

-- ---- what is held then

-- where no request has begun no word has a list
pub no-list : (m : ValueState) → IsSoundMemory m → m.begun ≡ 0 → (word : ℕ) → list_at m.table word ≡ None
no-list m sound none word = by_list (list_at m.table word) refl
  where
    by_list : (o : Option WordList) → list_at m.table word ≡ o → o ≡ None
    by_list None there = refl
    by_list (Some list) there =
        let placed = sound.placed word (ap (λ (o : Option WordList). is_some o) there) in
        absurd (omega (arith, placed.some, none))

pub filled-held : (old new : ValueState) (address : ℕ) (bytes : List ℕ) → contents_of new ≡ filled_with address bytes (contents_of old) → ((word : ℕ) → list_at old.table word ≡ None) → (x : ℕ)
    → held_in new x ≡ (if is_filled address (length bytes) x then beginning (Some (slice_index bytes (x - address))) ∷ [] else held_in old x)
unfolding filled_with held_of
filled-held old new address bytes is none x =
    held-contents new x
    ∙ ap (λ c. held_of c x) is
    ∙ ap (held_with (filled_with address bytes (contents_of old)) x) (none (x / 8))
    ∙ by_filled (is_filled address (length bytes) x)
    ∙ ap (λ hs. if is_filled address (length bytes) x then beginning (Some (slice_index bytes (x - address))) ∷ [] else hs)
    (sym (held-contents old x ∙ ap (held_with (contents_of old) x) (none (x / 8))))
  where
    by_filled : (b : Bool)
        → settled_holding (lost_since old.table old.oldest) (not b && doubts_in old.settled x) (if b then slice_index bytes (x - address) else bytes_in old.settled x) ∷ []
        ≡ (if b then beginning (Some (slice_index bytes (x - address))) ∷ [] else settled_holding (lost_since old.table old.oldest) (doubts_in old.settled x) (bytes_in old.settled x) ∷ [])
    by_filled true = refl
    by_filled false = refl
