use Rattle.std.proofs.Common.{◌≡◌, ◌+◌, ◌++◌, ◌∙◌, Err, append_assoc, flat_map, take, take_all, sym, ap, arith, rules}
use Rattle.std.proofs.KnownBytes.{Appends-trans}
use Rattle.bus_words.proofs.MappedPlaces.{flat_map-take}
use Rattle.bus_words.proofs.StoredPlaces.{there_is}
use Rattle.axi_beats.specs.Boxes.{w_beats_of}
use Rattle.axi_beats.specs.Lines.{w_text}
use Rattle.line_text.proofs.AlikeLaws.{short_of_lines}
use Rattle.line_text.proofs.Writings.{on_behind}
use Rattle.line_text.proofs.alike_lines.w_lines.Goals as goal

pub loop-k-preserved : goal.loop-k-preserved
loop-k-preserved g c =
    let l = c.loop-k in
    let done = l.invariant.0 in
    let more = c.in_ok-make_room.ensures.some in
    let beats = w_beats_of c.args.burst.now in
    let before : flat_map w_text (take l.k beats) ≡ done ++ l.lines = l.invariant.1 in
    let far : flat_map w_text (take l.k beats) ≡ (done ++ more.0) ++ c.make_room.new.self = before ∙ ap (λ t. done ++ t) more.1 ∙ sym (append_assoc done more.0 c.make_room.new.self) in
    let next : flat_map w_text (take (l.k + 1) beats) ≡ (done ++ more.0) ++ c.push_w.new.self =
    flat_map-take w_text beats l.k c.w.result c.w.ensures ∙ ap (λ t. t ++ w_text c.w.result) far ∙ append_assoc (done ++ more.0) c.make_room.new.self (w_text c.w.result) ∙ ap (λ t. (done ++ more.0) ++ t) (sym c.push_w.ensures) in (
      done ++ more.0,
      next,
      Appends-trans (g.W.Write.contents c.args.writer.now) (g.W.Write.contents l.writer) (g.W.Write.contents c.make_room.new.writer) done more.0 l.invariant.2 more.2,
    )

pub returns-clause-front : goal.returns-clause-front
returns-clause-front g c =
    let l = c.loop-k in
    let beats = w_beats_of c.args.burst.now in
    let all : take l.k beats ≡ beats = take_all l.k beats (omega (arith, c.loop-k-test.false, c.w_beats-k-end.ensures)) in
    let far : flat_map w_text (take l.k beats) ≡ l.invariant.0 ++ l.lines = l.invariant.1 in
    let whole : flat_map w_text beats ≡ l.invariant.0 ++ c.as_slice.result.now = ap (flat_map w_text) (sym all) ∙ far ∙ ap (λ t. l.invariant.0 ++ t) (sym c.as_slice.ensures) in
    rw whole
    (on_behind l.invariant.0 c.as_slice.result.now (g.W.Write.contents c.args.writer.now) (g.W.Write.contents l.writer) (g.W.Write.contents c.write_text.new.writer) c.write_text.result l.invariant.2 c.write_text.ensures.front)

pub returns-in_err-make_room-clause-front : goal.returns-in_err-make_room-clause-front
returns-in_err-make_room-clause-front g c =
    let l = c.loop-k in
    let beats = w_beats_of c.args.burst.now in
    let beat = there_is beats l.k (omega (arith, c.loop-k-test.true, c.w_beats-k-end.ensures)) in
    let same : c.from_residual.result ≡ Err c.in_err-make_room.field-0.0 = search rules in
    rw same
    (short_of_lines w_text beats l.k beat.0 l.invariant.0 l.lines (g.W.Write.contents c.args.writer.now) (g.W.Write.contents l.writer) (g.W.Write.contents c.make_room.new.writer) beat.1 l.invariant.1 l.invariant.2
    c.in_err-make_room.ensures.front)
