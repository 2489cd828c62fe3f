use Rattle.std.proofs.Common.{◌≡◌, ◌+◌, [], Err, ap, inl, refl, arith, rules, ◌∙◌}
use Rattle.script_text.specs.Stops.{held_of}
use Rattle.std.proofs.KnownBytes.{Consumes-nil, Keeps-refl}
use Rattle.script_text.proofs.Endings.{Ends-fault, Ends-full, Ends-late, Ends-long, Ends-rest, Ends-stopped, Ends-unread}
use Rattle.script_text.proofs.Progress.{Progress-start, Progress-quiet, Progress-wrote}
use Rattle.script_text.proofs.driver.read_script_with.Goals.{then-branch, else-branch}
use Rattle.script_text.proofs.driver.read_script_with.Goals as goal

-- no room for a block: nothing was read yet
pub returns-in_default : goal.returns-in_default
returns-in_default g c =
    inl (
      record {
        judged = [];
        ahead = [];
        consumed = Consumes-nil (g.R.Read.remaining c.args.reader.now);
        bound = omega arith;
        block = omega arith;
        ends = (Keeps-refl (g.W.Write.contents c.args.writer.now), inl refl);
      },
      tt,
    )

pub loop-number-init : goal.loop-number-init
loop-number-init g c =
    Progress-start g.S.Script.reading g.S.Script.is_silent (g.S.Script.state c.args.script) c.in-Ok.block (g.R.Read.remaining c.args.reader.now) (g.W.Write.contents c.args.writer.now) c.in-Ok.ensures

pub returns-in_err-read_line : goal.returns-in_err-read_line
returns-in_err-read_line g c =
    let same : c.from_residual.result ≡ Err c.in_err-read_line.field-0.0 = search rules in
    rw same
    (inl
    (Ends-stopped g.S.Script.reading g.S.Script.is_silent (g.S.Script.state c.args.script) (g.S.Script.state c.loop-number.script) c.loop-number.number _ _ _ _ _ _ _ _ c.read_line.new.self.line _ c.in_err-read_line.field-0.0 c.loop-number.invariant
    (omega (arith, c.loop-number-test.true)) c.in_err-read_line.ensures.input c.read_line.ensures.small c.read_line.ensures.output))

pub returns-in-Input : goal.returns-in-Input
returns-in-Input g c =
    let part = rw c.in-Input.is at c.in_ok-read_line.ensures.input in
    Ends-rest g.S.Script.reading g.S.Script.grows g.S.Script.is_silent (g.S.Script.state c.args.script) (g.S.Script.state c.loop-number.script) c.loop-number.number _ _ _ _ _ _ _ _ _ c.read_line.new.self.line c.take_rest.new.stopped c.take_rest.result c.loop-number.invariant
    (omega (arith, c.loop-number-test.true, part.1)) part.0 part.2.0 part.2.1 part.2.2 c.read_line.ensures.output (rw c.line.ensures at c.take_rest.ensures.rest) (rw c.line.ensures at c.take_rest.ensures.held)

pub returns-in-Room : goal.returns-in-Room
returns-in-Room g c =
    let part = rw c.in-Room.is at c.in_ok-read_line.ensures.input in
    rw c.at.ensures
    (inl
    (Ends-long g.S.Script.reading g.S.Script.is_silent (g.S.Script.state c.args.script) (g.S.Script.state c.loop-number.script) c.loop-number.number _ _ _ _ _ _ _ _ c.read_line.new.self.line c.hold.new.self part.2.0 c.loop-number.invariant
    (omega (arith, c.loop-number-test.true)) part.0 part.2.1 part.2.2 part.2.3 c.read_line.ensures.small c.read_line.ensures.output (c.hold.ensures ∙ ap held_of c.line-in-Room.ensures)))

pub returns-in_err-take_held : goal.returns-in_err-take_held
returns-in_err-take_held g c =
    let part = rw c.in-LineFeed.is at c.in_ok-read_line.ensures.input in
    let same : c.from_residual-in_err-take_held.result ≡ Err c.in_err-take_held.field-0.0 = search rules in
    rw same
    (Ends-fault g.S.Script.reading g.S.Script.grows g.S.Script.is_silent (g.S.Script.state c.args.script) (g.S.Script.state c.loop-number.script) (g.S.Script.state c.take_held.new.script) c.loop-number.number _ _ _ _ _ _ _ _ _ c.read_line.new.self.line c.take_held.new.stopped c.in_err-take_held.field-0.0 c.loop-number.invariant
    (omega (arith, c.loop-number-test.true)) part.0 part.1 part.2 c.read_line.ensures.small c.read_line.ensures.output
    c.in_err-take_held.ensures.step c.in_err-take_held.ensures.held)

pub loop-number-preserved : goal.loop-number-preserved
loop-number-preserved g c =
    let part = rw c.in-LineFeed.is at c.in_ok-read_line.ensures.input in
    elim c.if-branch.branch [
      | then-branch w ↦
          Progress-wrote g.S.Script.reading g.S.Script.is_silent (g.S.Script.state c.args.script) (g.S.Script.state c.loop-number.script) (g.S.Script.state c.take_held.new.script) c.loop-number.number _ c.read_line.new.self c.if-branch.block _ _ _ _ _ _ _ c.read_line.new.self.line c.loop-number.invariant
          part.0 part.1 part.2 c.read_line.ensures.output (rw w.if-branch.true at c.in_ok-take_held.ensures.step) (w.block-is ∙ w.note_text.ensures)
      | else-branch w ↦
          rw w.block-is
          (Progress-quiet g.S.Script.reading g.S.Script.is_silent (g.S.Script.state c.args.script) (g.S.Script.state c.loop-number.script) (g.S.Script.state c.take_held.new.script) c.loop-number.number _ c.read_line.new.self _ _ _ _ _ _ _ c.read_line.new.self.line c.loop-number.invariant
          part.0 part.1 part.2 c.read_line.ensures.output (rw w.if-branch.false at c.in_ok-take_held.ensures.step))
    ]

pub returns-in_err-next_byte : goal.returns-in_err-next_byte
returns-in_err-next_byte g c =
    let same : c.from_residual-in_err-next_byte.result ≡ Err c.in_err-next_byte.field-0.0 = search rules in
    rw same
    (inl
    (Ends-unread g.S.Script.reading g.S.Script.is_silent (g.S.Script.state c.args.script) (g.S.Script.state c.loop-number.script) c.loop-number.number _ _ _ _ _ _ _ _ _ c.in_err-next_byte.field-0.0 c.loop-number.invariant
    (omega (arith, c.loop-number-test.false, c.loop-number.auto.number-end (omega arith), c.most_lines-late.ensures.most)) c.in_err-next_byte.ensures.input c.next_byte.ensures.small c.next_byte.ensures.output))

pub returns-in-Some : goal.returns-in-Some
returns-in-Some g c =
    let next = rw c.in-Some.is at c.in_ok-next_byte.ensures.input in
    let last : c.loop-number.number ≡ g.S.Script.reading.most_lines + 1 = omega (arith, c.loop-number-test.false, c.loop-number.auto.number-end (omega arith), c.most_lines-late.ensures.most) in
    rw (c.at-in-Some.ensures, c.most_lines-late.ensures.most, ← last)
    (inl
    (Ends-late g.S.Script.reading g.S.Script.is_silent (g.S.Script.state c.args.script) (g.S.Script.state c.loop-number.script) c.loop-number.number _ _ _ _ _ _ _ _ _ c.in-Some.field-0 c.loop-number.invariant last next c.next_byte.ensures.small c.next_byte.ensures.output))

pub returns : goal.returns
returns g c =
    let next = rw c.in_default-2.is at c.in_ok-next_byte.ensures.input in
    let last : c.loop-number.number ≡ g.S.Script.reading.most_lines + 1 = omega (arith, c.loop-number-test.false, c.loop-number.auto.number-end (omega arith), c.most_lines-late.ensures.most) in
    Ends-full g.S.Script.reading g.S.Script.grows g.S.Script.is_silent (g.S.Script.state c.args.script) (g.S.Script.state c.loop-number.script) c.loop-number.number _ _ _ _ _ _ _ _ _ _ c.end.result c.loop-number.invariant
    last next c.next_byte.ensures.output (rw (c.most_lines-late.ensures.most, ← last) at c.end.ensures) c.clear.ensures
