-- One more of them each turn.
use Rattle.std.proofs.Common.{◌≡◌, sym, arith, subst, List}
use Rattle.std.specs.List.{AllByRecursion}
use Rattle.bus_words.proofs.PlaceChanges.{all-append}
use Rattle.bridge_core.specs.Inside.{HeldRequest}
use Rattle.bridge_core.proofs.request_table.room_for_all.Goals as goal

pub loop-preserved : goal.loop-preserved
loop-preserved c = (
  omega (arith, c.push_reserved.ensures.len, c.loop.invariant.0),
  omega (arith, c.push_reserved.ensures.capacity, c.loop.invariant.1),
  subst (λ (l : List HeldRequest). AllByRecursion (λ (held : HeldRequest). held.bus_bytes ≡ c.args.bus_bytes) l) (sym c.push_reserved.ensures.items)
      (all-append (λ (held : HeldRequest). held.bus_bytes ≡ c.args.bus_bytes) c.loop.held.items c.in_ok-new.field-0 c.loop.invariant.2 c.in_ok-new.ensures),
)
