-- One word more.
use Rattle.std.proofs.Common.{ℕ, Bool, ◌≡◌, ◌+◌, ◌/◌, ◌^◌, ◌<◌, ◌≤◌, ◌&&◌, not, true, ap, refl, arith, ◌∙◌}
use Rattle.std.proofs.Math.Path.{fun_ext}
use Rattle.tl_messages.specs.Requests.{HeldMessage, bytes_given}
use Rattle.serial_memory.specs.SerialMemory.{doubts_of}
use Rattle.scoreboard.specs.InsideBoards.{determined_in}
use Rattle.scoreboard.proofs.held.Marks.{all_marked, given_inside, gives, marked_none, marked_then, none_marked, one_more_marked}
use Rattle.scoreboard.proofs.marks.mark_given.Goals as goal

inside : (held : HeldMessage) (address size : ℕ) → size ≡ held.size → (x : ℕ) → gives (bytes_given held) address x ≡ true → (address ≤ x) × (x < address + 2 ^ size)
inside held address size same x is = let at = given_inside held address x is in (at.0, rw same at.1)

pub loop-k-init : goal.loop-k-init
loop-k-init c =
    let r = c.args.footprint.now in
    let held = c.args.request.now in (
      marked_none c.args.marks.now,
      none_marked (gives (bytes_given held) r.address) (λ y. not (determined_in r y && c.is_fixed-fixed.result)) (doubts_of c.args.marks.now) r.address r.size (inside held r.address r.size c.requires.size),
    )

pub mark_word-requires-clause-room : goal.mark_word-requires-clause-room
mark_word-requires-clause-room c = ap (λ (rooms : ℕ → Bool). rooms (c.args.footprint.now.address / 4096)) c.loop-k.invariant.0.rooms ∙ c.requires.room

pub loop-k-preserved : goal.loop-k-preserved
loop-k-preserved c =
    let r = c.args.footprint.now in
    let held = c.args.request.now in (
      marked_then c.loop-k.invariant.0 c.mark_word.ensures.rest,
      one_more_marked (gives (bytes_given held) r.address) (λ y. not (determined_in r y && c.is_fixed-fixed.result)) (doubts_of c.args.marks.now) r.address r.size
          (inside held r.address r.size c.requires.size) (doubts_of c.loop-k.marks) (doubts_of c.mark_word.new.marks) c.loop-k.k c.loop-k.invariant.1 c.mark_word.ensures.bytes,
    )

pub returns-clause-bytes : goal.returns-clause-bytes
returns-clause-bytes c =
    let r = c.args.footprint.now in
    let held = c.args.request.now in
    fun_ext (λ x.
    c.loop-k.invariant.1 x
    ∙ all_marked (gives (bytes_given held) r.address) (λ y. not (determined_in r y && c.is_fixed-fixed.result)) (doubts_of c.args.marks.now) r.address r.size
    (inside held r.address r.size c.requires.size) c.words-k-end.ensures.range c.loop-k.k x (omega arith)
    ∙ rw (c.requires.writes, c.is_fixed-fixed.ensures) refl)
