-- Those of its word; a request that doesn't read has none, nor has its reply past its last word.
use Rattle.std.proofs.Common.{◌+◌, ◌*◌, ◌/◌, ◌∙◌, ℕ, ap, arith, sym}
use Rattle.bus_words.specs.Lanes.{has_lane}
use Rattle.scoreboard.specs.InsideBoards.{determined_in, footprint_of}
use Rattle.scoreboard.specs.Telling.{is_sure}
use Rattle.scoreboard.proofs.held.ToldLanes.{lanes_same, none_sure, none_sure_past}
use Rattle.scoreboard.proofs.tellings.sure_lanes.Goals.{then-not-reads-via-then-not-reads, then-not-reads-via-else-not-reads+then-from-words}
use Rattle.scoreboard.proofs.tellings.sure_lanes.Goals as goal

pub returns-then-not-reads-clause-value : goal.returns-then-not-reads-clause-value
returns-then-not-reads-clause-value c = elim c.then-not-reads.branch [
  | then-not-reads-via-then-not-reads w ↦ none_sure c.args.footprint.now c.args.k (sym c.reads.ensures ∙ w.if-not-reads.true)
  | then-not-reads-via-else-not-reads+then-from-words w ↦ none_sure_past c.args.footprint.now c.args.k w.words.ensures.range (omega (arith, w.if-from-words.true, w.from.ensures, w.words.ensures.value))
]

pub returns-clause-value : goal.returns-clause-value
returns-clause-value c =
    let r = c.args.footprint.now in
    let word = c.word_at.ensures in
    c.lanes_in.ensures.value
    ∙ lanes_same (has_lane c.determined_in.result) (is_sure (footprint_of r) c.args.k)
    (λ lane below. c.determined_in.ensures lane below ∙ rw (sym c.reads.ensures ∙ c.if-not-reads.false) (ap (λ (at : ℕ). determined_in r (at + lane)) (word ∙ ap (λ (k : ℕ). r.address / 8 * 8 + 8 * k) c.from-2.ensures)))
