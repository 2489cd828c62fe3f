-- There are as many IDs as are asked for.
use Rattle.std.proofs.Common.{◌≡◌, ◌∙◌, refl, sym, arith}
use Rattle.std.specs.Prelude.{is_some, slice_get, None}
use Rattle.std.proofs.lemmas.Option.{slice_get-get_or}
use Rattle.subordinate.specs.FreeMemory.{r_of, ids_with_r}
use Rattle.world.proofs.EnabledSteps.{found_after, found_here, found_later, found_past}
use Rattle.world.proofs.choices.id_with_r.Goals as goal
use Rattle.world.proofs.choices.id_with_r.Goals.{then-can_r+else-left-eq0, else-can_r}

pub loop-id-init : goal.loop-id-init
loop-id-init c = refl

pub returns-then-left-eq0 : goal.returns-then-left-eq0
returns-then-left-eq0 c =
    let m = c.args.device.now.memory in
    found_here (λ id. is_some (r_of m id)) c.loop-id.id 16 c.loop-id.left (slice_get (ids_with_r m) c.args.k) c.loop-id-test.true (sym c.can_r.ensures ∙ c.if-can_r.true) c.if-left-eq0.true c.loop-id.invariant

pub loop-id-preserved : goal.loop-id-preserved
loop-id-preserved c =
    let m = c.args.device.now.memory in
    let sought = slice_get (ids_with_r m) c.args.k in
    elim c.if-can_r.branch [
      | then-can_r+else-left-eq0 w ↦
          found_later (λ id. is_some (r_of m id)) c.loop-id.id 16 c.loop-id.left c.if-can_r.left sought c.loop-id-test.true (sym c.can_r.ensures ∙ w.if-can_r.true)
          (grind (arith, w.left-is, w.if-left-eq0.false)) c.loop-id.invariant
      | else-can_r w ↦
          rw w.left-is (found_after (λ id. is_some (r_of m id)) c.loop-id.id 16 c.loop-id.left sought c.loop-id-test.true (sym c.can_r.ensures ∙ w.if-can_r.false) c.loop-id.invariant)
    ]

pub unreachable-requires : goal.unreachable-requires
unreachable-requires c =
    let m = c.args.device.now.memory in
    let none : slice_get (ids_with_r m) c.args.k ≡ None = found_past (λ id. is_some (r_of m id)) c.loop-id.id 16 c.loop-id.left (slice_get (ids_with_r m) c.args.k) c.loop-id-test.false c.loop-id.invariant in
    absurd (cc (none, slice_get-get_or (ids_with_r m) c.args.k 0 c.requires))
