-- One beat fewer waits.
use Rattle.std.proofs.Common.{◌≡◌, ◌<◌, arith, ap, length, ◌∙◌}
use Rattle.std.specs.Prelude.{Some, slice_get}
use Rattle.std.proofs.Common.{List}
use Rattle.subordinate.specs.declared.BeatState.{BeatState}
use Rattle.subordinate.specs.declared.BeatState.TheVariants.{Waiting}
use Rattle.std.proofs.lemmas.Option.{slice_get_within}
use Rattle.subordinate.proofs.BeatStates.{count_waiting-put, past-within, put_performed}
use Rattle.subordinate.proofs.beats.Beats.put.Goals as goal

pub overflow_sub-self : goal.overflow_sub-self
overflow_sub-self c =
    let waits : slice_get c.self.inside.states.items c.args.beat ≡ Some Waiting = ap (λ (beats : List BeatState). slice_get beats c.args.beat) c.self.view_is ∙ c.requires.waits in
    omega (arith, count_waiting-put c.self.inside.states.items c.args.beat c.args.state waits c.requires.performed, c.self.invariant.2)

pub invariant_of-self : goal.invariant_of-self
invariant_of-self c =
    let waits : slice_get c.self.inside.states.items c.args.beat ≡ Some Waiting = ap (λ (beats : List BeatState). slice_get beats c.args.beat) c.self.view_is ∙ c.requires.waits in
    let fewer = count_waiting-put c.self.inside.states.items c.args.beat c.args.state waits c.requires.performed in
    let within : c.args.beat < length c.self.inside.states.items = slice_get_within c.self.inside.states.items c.args.beat Waiting waits in (
      c.self.invariant.0,
      c.self.invariant.1,
      rw c.from.ensures (omega (arith, fewer, c.self.invariant.2)),
      rw (c.past-self-inside.ensures, c.from.ensures) (past-within c.self.inside.first c.self.inside.states.items c.args.beat c.args.state within c.self.invariant.3),
      rw (c.past-self-inside.ensures, c.from.ensures) (put_performed c.self.inside.first c.self.inside.states.items c.args.beat c.args.state within c.self.invariant.4 c.requires.performed),
    )
