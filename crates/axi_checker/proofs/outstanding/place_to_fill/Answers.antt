-- The first that is found to lack data is the oldest that does.
use Rattle.std.proofs.Common.{◌<◌, ◌≤◌, length, sym, ap, ◌∙◌, arith}
use Rattle.axi_checker.specs.OpenBursts.{lacks_data}
use Rattle.axi_checker.proofs.CompleteWrites.{place_here, place_nowhere}
use Rattle.axi_checker.proofs.outstanding.place_to_fill.Goals as goal

pub returns-then-lacks_data : goal.returns-then-lacks_data
returns-then-lacks_data g c =
    let writes = (g.E.Entries.side c.args.writes.now).items in
    let place = c.loop-place.place in
    let within : place < length writes = omega (arith, c.loop-place-test.true, c.len-place-end.ensures, c.loop-place.auto.place-end) in
    sym (place_here writes place c.get.result c.loop-place.invariant within (ap lacks_data (sym c.get.ensures.value) ∙ sym c.lacks_data.ensures ∙ c.if-lacks_data.true))

pub returns : goal.returns
returns g c =
    let writes = (g.E.Entries.side c.args.writes.now).items in
    let past : length writes ≤ c.loop-place.place = omega (arith, c.loop-place-test.false, c.len-place-end.ensures, c.loop-place.auto.place-end) in
    sym (place_nowhere writes c.loop-place.place c.loop-place.invariant past)
