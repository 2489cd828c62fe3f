-- All of them wait.
use Rattle.std.proofs.Common.{◌≡◌, arith, sym, rules, replicate}
use Rattle.subordinate.specs.declared.BeatState.TheVariants.{Waiting}
use Rattle.std.specs.Vec.{vec_len}
use Rattle.subordinate.proofs.BeatStates.{count_waiting-replicate}
use Rattle.subordinate.proofs.beats.Beats.restart.Goals as goal

pub invariant_of-self : goal.invariant_of-self
invariant_of-self c =
    let items : c.resize.new.self.items ≡ replicate c.args.transfers Waiting = search rules in
    let len : vec_len c.resize.new.self ≡ c.args.transfers = search rules in
    (search rules, omega (arith, len, c.requires), rw items (sym (count_waiting-replicate c.args.transfers)), omega arith, tt)
