-- A lane of the word is given where the beat's mask has it.
use Rattle.std.proofs.Common.{◌+◌, ◌*◌, ◌-◌, ◌/◌, ◌<◌, ◌&&◌, not, ap, arith, ◌∙◌}
use Rattle.bus_words.specs.Lanes.{has_lane, word_address}
use Rattle.sparse_memory.specs.SparseMemory.{put_flags}
use Rattle.tl_messages.specs.Requests.{bytes_given}
use Rattle.serial_memory.proofs.RequestWords.{range}
use Rattle.serial_memory.specs.SerialMemory.{doubts_of, rooms_of}
use Rattle.scoreboard.specs.InsideBoards.{determined_in, words_of}
use Rattle.scoreboard.proofs.held.FootprintBytes.{has_lane-not, room_word}
use Rattle.scoreboard.proofs.held.Marks.{gives, mask_gives, word_marked}
use Rattle.scoreboard.proofs.marks.mark_word.Goals as goal

pub put_doubts-requires : goal.put_doubts-requires
put_doubts-requires c =
    let r = c.args.footprint.now in
    let own = range c.args.request.now r.address c.requires.checked c.requires.same_byte in
    record {
      room = ap (λ a. rooms_of c.args.marks.now (a / 4096)) c.word_at-word.ensures
          ∙ room_word (rooms_of c.args.marks.now) r.address c.args.request.now.size c.args.k own (rw (← c.requires.size) c.requires.inside) c.requires.room;
    }

pub returns-clause-bytes : goal.returns-clause-bytes
returns-clause-bytes c =
    let r = c.args.footprint.now in
    let held = c.args.request.now in
    let now = doubts_of c.args.marks.now in
    let below : c.args.k < words_of held.size = rw (← c.requires.size) c.requires.inside in
    word_marked (gives (bytes_given held) r.address) (λ y. not (determined_in r y && c.args.fixed)) now (doubts_of c.put_doubts.new.self) (word_address r.address + 8 * c.args.k)
    (255 - c.sure_in-sure.result) c.mask.result (c.put_doubts.ensures.doubts ∙ ap (λ w. put_flags w (255 - c.sure_in-sure.result) c.mask.result now) c.word_at-word.ensures) (omega arith)
    (λ lane less. ap (λ mask. has_lane mask lane) c.mask.ensures ∙ mask_gives held r.address c.args.k lane c.requires.checked c.requires.data c.requires.same_byte below less)
    (λ lane less. has_lane-not c.sure_in-sure.result lane (omega arith) less ∙ ap not (c.sure_in-sure.ensures lane less) ∙ ap (λ a. not (determined_in r (a + lane) && c.args.fixed)) c.word_at-word.ensures)
