-- There are as many places as beats that wait, and none of them is before the first.
use Rattle.std.proofs.Common.{◌≡◌, ◌<◌, length, sym, ◌∙◌, ap, arith, rules, List, ℕ, ◌+◌, drop}
use Rattle.std.proofs.Math.ListN.{drop_of_length-le}
use Rattle.std.specs.Prelude.{None, slice_get}
use Rattle.std.proofs.lemmas.Option.{slice_get-get_or}
use Rattle.subordinate.specs.Inside.{waiting_places}
use Rattle.subordinate.specs.declared.BeatState.{BeatState}
use Rattle.subordinate.proofs.BeatStates.{length-waiting_places, places-after}
use Rattle.subordinate.proofs.beats.Beats.nth_waiting.Goals as goal

pub loop-beat-init : goal.loop-beat-init
loop-beat-init c =
    let items = c.self.inside.states.items in
    let first = c.self.inside.first in
    let same : 0 + first ≡ first = omega arith in
    sym (ap (λ (places : List ℕ). slice_get places c.args.k) (places-after first 0 items c.self.invariant.4 c.self.invariant.3 ∙ ap (λ (n : ℕ). waiting_places n (drop first items)) same))

pub unreachable-requires : goal.unreachable-requires
unreachable-requires c =
    let items = c.self.inside.states.items in
    let same = c.self.view_is in
    let within : c.args.k < length (waiting_places 0 items) = rw same (omega (arith, length-waiting_places 0 c.args.self.now, c.requires)) in
    let none : slice_get (waiting_places 0 items) c.args.k ≡ None =
    sym c.loop-beat.invariant ∙ ap (λ (beats : List BeatState). slice_get (waiting_places c.loop-beat.beat beats) c.loop-beat.left) (drop_of_length-le items (search rules))
    in
    absurd (cc (none, slice_get-get_or (waiting_places 0 items) c.args.k 0 within))
