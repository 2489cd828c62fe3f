-- One word more.
use Rattle.std.proofs.Common.{◌≡◌, ℕ, Bool, ◌+◌, ◌*◌, ◌/◌, ◌<◌, ◌≤◌, ◌^◌, true, ap, arith, ◌∙◌}
use Rattle.bus_words.specs.Lanes.{word_address}
use Rattle.sparse_memory.specs.SparseMemory.{put_flags}
use Rattle.serial_memory.specs.SerialMemory.{doubts_of, rooms_of}
use Rattle.scoreboard.specs.InsideBoards.{FootprintState, footprint_of}
use Rattle.scoreboard.specs.Races.{covers}
use Rattle.scoreboard.proofs.held.Marks.{all_marked, marked_none, marked_then, none_marked, one_more_marked, word_marked}
use Rattle.scoreboard.proofs.held.FootprintBytes.{every_lane, room_word, within}
use Rattle.scoreboard.proofs.marks.mark_all.Goals as goal

inside : (r : FootprintState) (x : ℕ) → covers (footprint_of r) x ≡ true → (r.address ≤ x) × (x < r.address + 2 ^ r.size)
inside r x is = within r.address (2 ^ r.size) x is

pub loop-k-init : goal.loop-k-init
loop-k-init c =
    let r = c.args.footprint.now in
    (marked_none c.args.marks.now, none_marked (covers (footprint_of r)) (λ y. true) (doubts_of c.args.marks.now) r.address r.size (inside r))

pub put_doubts-requires : goal.put_doubts-requires
put_doubts-requires c =
    let r = c.args.footprint.now in
    record {
      room = ap (λ (rooms : ℕ → Bool). rooms (c.word_at-word.result / 4096)) c.loop-k.invariant.0.rooms
          ∙ ap (λ a. rooms_of c.args.marks.now (a / 4096)) c.word_at-word.ensures
          ∙ room_word (rooms_of c.args.marks.now) r.address r.size c.loop-k.k c.words-k-end.ensures.range (omega arith) c.requires.room;
    }

pub loop-k-preserved : goal.loop-k-preserved
loop-k-preserved c =
    let r = c.args.footprint.now in
    let own = covers (footprint_of r) in
    let now = doubts_of c.loop-k.marks in
    let new = doubts_of c.put_doubts.new.self in (
      marked_then c.loop-k.invariant.0 (record { memory = c.put_doubts.ensures.memory; rooms = c.put_doubts.ensures.rooms }),
      one_more_marked own (λ y. true) (doubts_of c.args.marks.now) r.address r.size (inside r) now new c.loop-k.k c.loop-k.invariant.1
          (word_marked own (λ y. true) now new (word_address r.address + 8 * c.loop-k.k) 255 c.lanes_in.result
          (c.put_doubts.ensures.doubts ∙ ap (λ w. put_flags w 255 c.lanes_in.result now) c.word_at-word.ensures) (omega arith)
          (λ lane less. c.lanes_in.ensures lane less ∙ ap (λ a. own (a + lane)) c.word_at-word.ensures) every_lane),
    )

pub returns-clause-bytes : goal.returns-clause-bytes
returns-clause-bytes c x =
    let r = c.args.footprint.now in
    c.loop-k.invariant.1 x
    ∙ all_marked (covers (footprint_of r)) (λ y. true) (doubts_of c.args.marks.now) r.address r.size (inside r) c.words-k-end.ensures.range c.loop-k.k x (omega arith)
    ∙ grind arith
