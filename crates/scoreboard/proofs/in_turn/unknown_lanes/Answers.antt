-- Those that are its own and aren't determined; behind the last word none is its own.
use Rattle.std.proofs.Common.{◌≡◌, ◌&&◌, Bool, true, not, ap, ap₂, arith, eq-eqb, refl, sym, ◌∙◌}
use Rattle.bus_words.proofs.MaskLaws.{has_lane-and}
use Rattle.scoreboard.proofs.held.FootprintBytes.{has_lane-not, no_lane, past_own}
use Rattle.scoreboard.proofs.in_turn.unknown_lanes.Goals as goal

pub returns-then-number-words : goal.returns-then-number-words
returns-then-number-words c lane below =
    no_lane lane below ∙ sym (grind (arith, past_own c.args.footprint.now c.args.k lane c.words.ensures.range below (omega arith)))

pub returns : goal.returns
returns c lane below =
    let reads : c.args.footprint.now.reads ≡ true = sym c.reads.ensures ∙ c.if-not-reads.false in
    has_lane-and c.lanes_in.result _ lane
    ∙ ap₂ (λ (a b : Bool). a && b) (c.lanes_in.ensures lane below) (has_lane-not c.determined_in.result lane (omega arith) below ∙ ap not (c.determined_in.ensures lane below))
    ∙ rw (reads, eq-eqb c.args.due.now.opcode 1 c.if-due-ne1.false, c.if-due.false, c.word_at-word.ensures, c.from-number.ensures) refl
