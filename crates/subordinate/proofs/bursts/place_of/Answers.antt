-- A burst that has the serial is the first that does.
use Rattle.std.proofs.Common.{◌≡◌, sym, ap, ◌∙◌}
use Rattle.std.proofs.lemmas.List.{get_or_default}
use Rattle.subordinate.specs.FreeMemory.{Pending, newly_pending}
use Rattle.subordinate.specs.Inside.{no_burst}
use Rattle.subordinate.proofs.OpenBursts.{place_here, serial_at}
use Rattle.subordinate.proofs.bursts.place_of.Goals as goal

pub returns-then-serial : goal.returns-then-serial
returns-then-serial c =
    let bursts = c.args.bursts.now in
    let k = c.guess-guess.result in
    let here = c.index-bursts-guess.is ∙ get_or_default bursts k c.index-bursts-guess.result (newly_pending 0 no_burst) c.if-guess-bursts.true in
    let same : serial_at bursts k ≡ c.args.serial = sym (ap (λ (p : Pending). p.serial) here) ∙ sym c.serial.ensures ∙ c.if-serial.true in
    sym (place_here 0 c.requires.0 bursts c.args.serial k c.requires.1 c.if-guess-bursts.true same)
