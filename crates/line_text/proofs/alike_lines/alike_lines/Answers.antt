use Rattle.std.proofs.Common.{◌≡◌, ◌<◌, ◌++◌, ◌∙◌, Err, append_assoc, flat_map, length, take, take_all, sym, ap, arith, rules}
use Rattle.std.proofs.KnownBytes.{Appends-trans}
use Rattle.tl_messages.specs.Lines.{d_text}
use Rattle.line_text.proofs.AlikeLaws.{one_more, short_of_lines}
use Rattle.line_text.proofs.Writings.{on_behind, read_at}
use Rattle.line_text.proofs.alike_lines.alike_lines.Goals as goal

pub returns-in_err-make_room-clause-front : goal.returns-in_err-make_room-clause-front
returns-in_err-make_room-clause-front g c =
    let l = c.loop-beat in
    let within : l.beat-index < length c.args.beats.now = omega (arith, c.loop-beat-test.true) in
    let same : c.from_residual.result ≡ Err c.in_err-make_room.field-0.0 = search rules in
    rw same
    (short_of_lines (d_text c.args.client) c.args.beats.now l.beat-index _ l.invariant.0 l.lines (g.W.Write.contents c.args.writer.now) (g.W.Write.contents l.writer) (g.W.Write.contents c.make_room.new.writer)
    (read_at c.args.beats.now l.beat-index c.args.first.now within)
    l.invariant.1 l.invariant.2 c.in_err-make_room.ensures.front)

pub loop-beat-preserved : goal.loop-beat-preserved
loop-beat-preserved g c =
    let l = c.loop-beat in
    let done = l.invariant.0 in
    let more = c.in_ok-make_room.ensures.some in
    let before : flat_map (d_text c.args.client) (take l.beat-index c.args.beats.now) ≡ done ++ l.lines = l.invariant.1 in
    let far = before ∙ ap (λ t. done ++ t) more.1 ∙ sym (append_assoc done more.0 c.make_room.new.self) in (
      done ++ more.0,
      one_more c.args.client c.args.first.now c.args.beats.now l.beat-index _ c.new-front.result (done ++ more.0) c.make_room.new.self c.push.new.self c.requires (omega (arith, c.loop-beat-test.true)) c.new-front.ensures
          c.push.ensures far,
      Appends-trans (g.W.Write.contents c.args.writer.now) (g.W.Write.contents l.writer) (g.W.Write.contents c.make_room.new.writer) done more.0 l.invariant.2 more.2,
    )

pub returns-clause-front : goal.returns-clause-front
returns-clause-front g c =
    let l = c.loop-beat in
    let all : take l.beat-index c.args.beats.now ≡ c.args.beats.now = take_all l.beat-index c.args.beats.now (omega (arith, c.loop-beat-test.false)) in
    let far : flat_map (d_text c.args.client) (take l.beat-index c.args.beats.now) ≡ l.invariant.0 ++ l.lines = l.invariant.1 in
    let whole : flat_map (d_text c.args.client) c.args.beats.now ≡ l.invariant.0 ++ c.as_slice.result.now =
    ap (flat_map (d_text c.args.client)) (sym all) ∙ far ∙ ap (λ t. l.invariant.0 ++ t) (sym c.as_slice.ensures) in
    rw whole
    (on_behind l.invariant.0 c.as_slice.result.now (g.W.Write.contents c.args.writer.now) (g.W.Write.contents l.writer) (g.W.Write.contents c.write_text.new.writer) c.write_text.result l.invariant.2 c.write_text.ensures.front)
