use Rattle.std.proofs.Common.{◌≡◌, ◌<◌, ◌∙◌, [], ap, length, rules}
use Rattle.script_text.specs.Stops.{held_of}
use Rattle.script_text.proofs.Endings.{TakesRest-line, TakesRest-fault}
use Rattle.script_text.proofs.Stopping.{StopsWithin-end, StopsWithin-fault, StopsWithin-line, no_line}
use Rattle.script_text.proofs.driver.take_rest.Goals as goal

pub returns-clause-rest : goal.returns-clause-rest
returns-clause-rest g c =
    let some : 0 < length c.args.line.now = search rules in
    TakesRest-line g.S.Script.reading g.S.Script.grows g.S.Script.is_silent (g.S.Script.state c.args.script) (g.S.Script.state c.take_line.new.script) c.args.number c.args.line.now _ _ _ _ c.end-2.result c.requires.line some c.in_default.ensures c.end-2.ensures

pub returns-in-Err-clause-rest : goal.returns-in-Err-clause-rest
returns-in-Err-clause-rest g c =
    let some : 0 < length c.args.line.now = search rules in
    TakesRest-fault g.S.Script.reading g.S.Script.grows g.S.Script.is_silent (g.S.Script.state c.args.script) (g.S.Script.state c.take_line.new.script) c.args.number c.args.line.now _ _ c.in-Err.fault c.requires.line some c.in-Err.ensures

pub returns-then-is_empty-clause-held : goal.returns-then-is_empty-clause-held
returns-then-is_empty-clause-held g c =
    let none : c.args.line.now ≡ [] = no_line c.args.line.now (search rules) in
    rw (none, c.clear.ensures) (StopsWithin-end g.S.Script.reading (g.S.Script.state c.args.script) c.args.number _ _ _ _ _ c.end.result c.end.ensures)

pub returns-in-Err-clause-held : goal.returns-in-Err-clause-held
returns-in-Err-clause-held g c =
    let some : 0 < length c.args.line.now = search rules in
    StopsWithin-fault g.S.Script.reading g.S.Script.is_silent (g.S.Script.state c.args.script) (g.S.Script.state c.take_line.new.script) c.args.number c.args.line.now c.hold.new.self _ _ _ c.in-Err.fault c.requires.line some
    (c.hold.ensures ∙ ap held_of c.without_return.ensures) c.in-Err.ensures

pub returns-clause-held : goal.returns-clause-held
returns-clause-held g c =
    let some : 0 < length c.args.line.now = search rules in
    rw c.clear-2.ensures
    (StopsWithin-line g.S.Script.reading g.S.Script.is_silent (g.S.Script.state c.args.script) (g.S.Script.state c.take_line.new.script) c.args.number c.args.line.now _ _ _ _ _ _ _ c.end-2.result c.requires.line some c.in_default.ensures c.end-2.ensures)
