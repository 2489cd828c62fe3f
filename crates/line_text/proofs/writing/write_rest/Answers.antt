use Rattle.std.proofs.Common.{◌++◌, take, drop, take-append-drop, append_assoc, sym, ap, ◌∙◌}
use Rattle.std.proofs.KnownBytes.{Appends-trans}
use Rattle.std.proofs.lemmas.List.{take_rest}
use Rattle.line_text.proofs.writing.write_rest.Goals as goal

pub loop-preserved : goal.loop-preserved
loop-preserved g c =
    let front = c.loop.invariant.0 in
    let rest = c.loop.rest.now in
    let part = take c.in-Ok.count rest in (
      front ++ part,
      c.loop.invariant.1 ∙ ap (λ xs. front ++ xs) (sym (take-append-drop c.in-Ok.count rest)) ∙ sym (append_assoc front part (drop c.in-Ok.count rest))
          ∙ ap (λ xs. (front ++ part) ++ xs) (sym (take_rest rest c.in-Ok.count)),
      Appends-trans (g.W.Write.contents c.args.writer.now) (g.W.Write.contents c.loop.writer) (g.W.Write.contents c.write_some.new.writer) front part c.loop.invariant.2 c.in-Ok.ensures.ok,
    )
