-- One word more.
use Rattle.std.proofs.Common.{◌≡◌, ℕ, Bool, List, true, false, ◌+◌, ◌/◌, ◌^◌, ◌<◌, ◌≤◌, ◌&&◌, ◌||◌, if◌then◌else◌, refl, arith, ap, ◌∙◌}
use Rattle.std.proofs.Math.Path.{fun_ext}
use Rattle.std.proofs.lemmas.Bool.{and_parts}
use Rattle.tl_messages.specs.Requests.{HeldMessage, bytes_given}
use Rattle.serial_memory.proofs.RequestWords.{range}
use Rattle.serial_memory.specs.SerialMemory.{doubts_of}
use Rattle.scoreboard.specs.Unknown.{is_unknown_given}
use Rattle.scoreboard.proofs.held.Marks.{all_marked, beats_words, given_inside, gives, marked_none, marked_then, none_marked, one_more_marked}
use Rattle.scoreboard.proofs.marks.mark_unknown.Goals as goal

abbrev passes : HeldMessage → List ℕ → ℕ → ℕ → Bool
passes held lanes address x = gives (bytes_given held) address x && is_unknown_given lanes address x

inside : (held : HeldMessage) (lanes : List ℕ) (address x : ℕ) → passes held lanes address x ≡ true → (address ≤ x) × (x < address + 2 ^ held.size)
inside held lanes address x is = given_inside held address x (and_parts (gives (bytes_given held) address x) (is_unknown_given lanes address x) is).0

or_told : (p d : Bool) → (if p then true else d) ≡ (d || p)
or_told true true = refl
or_told true false = refl
or_told false true = refl
or_told false false = refl

pub loop-k-init : goal.loop-k-init
loop-k-init c =
    let held = c.args.request.now in
    let lanes = c.args.lanes.now in
    let address = c.args.address in
    (marked_none c.args.marks.now, none_marked (passes held lanes address) (λ y. true) (doubts_of c.args.marks.now) address held.size (inside held lanes address))

pub mark_unknown_word-requires-clause-room : goal.mark_unknown_word-requires-clause-room
mark_unknown_word-requires-clause-room c = ap (λ (rooms : ℕ → Bool). rooms (c.args.address / 4096)) c.loop-k.invariant.0.rooms ∙ c.requires.room

pub mark_unknown_word-requires-clause-inside : goal.mark_unknown_word-requires-clause-inside
mark_unknown_word-requires-clause-inside c = omega (arith, beats_words c.args.request.now c.requires.checked c.requires.data)

pub loop-k-preserved : goal.loop-k-preserved
loop-k-preserved c =
    let held = c.args.request.now in
    let lanes = c.args.lanes.now in
    let address = c.args.address in (
      marked_then c.loop-k.invariant.0 c.mark_unknown_word.ensures.rest,
      one_more_marked (passes held lanes address) (λ y. true) (doubts_of c.args.marks.now) address held.size (inside held lanes address)
          (doubts_of c.loop-k.marks) (doubts_of c.mark_unknown_word.new.marks) c.loop-k.k c.loop-k.invariant.1 c.mark_unknown_word.ensures.bytes,
    )

pub returns-clause-bytes : goal.returns-clause-bytes
returns-clause-bytes c =
    let held = c.args.request.now in
    let lanes = c.args.lanes.now in
    let address = c.args.address in
    let own = range held address c.requires.checked c.requires.same_byte in
    fun_ext (λ x.
    c.loop-k.invariant.1 x
    ∙ all_marked (passes held lanes address) (λ y. true) (doubts_of c.args.marks.now) address held.size (inside held lanes address) own c.loop-k.k x (omega (arith, beats_words held c.requires.checked c.requires.data))
    ∙ or_told (passes held lanes address x) (doubts_of c.args.marks.now x))
