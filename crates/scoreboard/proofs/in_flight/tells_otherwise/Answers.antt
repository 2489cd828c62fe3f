-- A lane that tells otherwise is one of the eight.
use Rattle.std.proofs.Common.{◌≡◌, true, ap, arith, eq-eqb, refl, sym, ◌∙◌}
use Rattle.scoreboard.specs.Boards.{differs_in}
use Rattle.scoreboard.specs.InsideBoards.{footprint_of}
use Rattle.bus_words.proofs.Ranges.{none_passes, one_passes}
use Rattle.scoreboard.proofs.in_flight.tells_otherwise.Goals as goal

pub returns-then-differs_in : goal.returns-then-differs_in
returns-then-differs_in c =
    let reads : c.args.footprint.now.reads ≡ true = sym c.reads.ensures ∙ c.if-not-reads.false in
    let test = differs_in (footprint_of c.args.footprint.now) c.args.k c.args.due.now.payload c.args.beat.now.payload in
    let some = one_passes test 0 8 c.loop-lane.lane c.loop-lane-test.true (ap test (omega arith) ∙ sym c.differs_in.ensures ∙ c.if-differs_in.true) in
    rw (reads, eq-eqb c.args.due.now.opcode 1 c.if-due-ne1.false, c.if-due.false, some) refl

pub returns : goal.returns
returns c =
    let reads : c.args.footprint.now.reads ≡ true = sym c.reads.ensures ∙ c.if-not-reads.false in
    let test = differs_in (footprint_of c.args.footprint.now) c.args.k c.args.due.now.payload c.args.beat.now.payload in
    let none = none_passes test 0 8 (λ k below. ap test (omega arith) ∙ c.loop-lane.invariant k (omega (arith, below))) in
    rw (reads, eq-eqb c.args.due.now.opcode 1 c.if-due-ne1.false, c.if-due.false, none) refl
