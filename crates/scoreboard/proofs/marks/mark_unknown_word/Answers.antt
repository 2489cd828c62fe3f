-- A lane of the word is given and unknown where the beat's mask and the message's lanes have it.
use Rattle.std.proofs.Common.{◌≡◌, ℕ, ◌+◌, ◌-◌, ◌*◌, ◌/◌, ◌%◌, ◌&&◌, Bool, true, ap, ap₂, arith, refl, ◌∙◌}
use Rattle.std.specs.Prelude.{bit_and}
use Rattle.bus_words.specs.Lanes.{has_lane, word_address}
use Rattle.bus_words.proofs.MaskLaws.{has_lane-and}
use Rattle.sparse_memory.specs.SparseMemory.{put_flags}
use Rattle.tl_messages.specs.Requests.{bytes_given}
use Rattle.serial_memory.proofs.RequestWords.{range}
use Rattle.serial_memory.specs.SerialMemory.{doubts_of, rooms_of}
use Rattle.scoreboard.specs.Unknown.{is_unknown_given}
use Rattle.scoreboard.proofs.held.FootprintBytes.{every_lane, room_word, word_fits}
use Rattle.scoreboard.proofs.held.Marks.{enough_beats, gives, mask_gives, word_marked}
use Rattle.scoreboard.proofs.marks.mark_unknown_word.Goals as goal

-- it is in its page
pub overflow_add-word : goal.overflow_add-word
overflow_add-word c =
    let own = range c.args.request.now c.args.address c.requires.checked c.requires.same_byte in
    omega (arith, word_fits c.args.address c.args.request.now.size c.args.k (omega arith) own c.requires.inside)

pub mask-requires : goal.mask-requires
mask-requires c = enough_beats c.args.request.now c.args.k c.requires.checked c.requires.data c.requires.inside

pub put_doubts-requires : goal.put_doubts-requires
put_doubts-requires c =
    let own = range c.args.request.now c.args.address c.requires.checked c.requires.same_byte in
    record {
      room = ap (λ (k : ℕ). rooms_of c.args.marks.now ((word_address c.args.address + 8 * k) / 4096)) c.from.ensures
          ∙ room_word (rooms_of c.args.marks.now) c.args.address c.args.request.now.size c.args.k own c.requires.inside c.requires.room;
    }

pub returns-clause-bytes : goal.returns-clause-bytes
returns-clause-bytes c =
    let held = c.args.request.now in
    let address = c.args.address in
    let word = word_address address + 8 * c.args.k in
    let now = doubts_of c.args.marks.now in
    word_marked (λ y. gives (bytes_given held) address y && is_unknown_given c.args.lanes.now address y) (λ y. true) now (doubts_of c.put_doubts.new.self) word
    255 (bit_and c.mask.result c.at.result) (c.put_doubts.ensures.doubts ∙ ap (λ (k : ℕ). put_flags (word_address address + 8 * k) 255 (bit_and c.mask.result c.at.result) now) c.from.ensures) (omega arith)
    (λ lane less.
    let place : (word + lane) / 8 - address / 8 ≡ c.args.k = omega (arith, less) in
    let own : (word + lane) % 8 ≡ lane = omega (arith, less) in
    has_lane-and c.mask.result c.at.result lane
    ∙ ap₂ (λ (a b : Bool). a && b) (ap (λ mask. has_lane mask lane) c.mask.ensures ∙ mask_gives held address c.args.k lane c.requires.checked c.requires.data c.requires.same_byte c.requires.inside less)
    (ap (λ mask. has_lane mask lane) c.at.ensures ∙ rw (place, own) refl))
    every_lane
