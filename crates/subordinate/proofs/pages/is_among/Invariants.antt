use Rattle.std.proofs.Common.{◌≡◌, ◌==◌, take}
use Rattle.std.specs.List.{list_any}
use Rattle.subordinate.proofs.pages.is_among.Given as goal

abbrev pub invariant-loop-address : goal.invariant-loop-address
invariant-loop-address l = l.found ≡ list_any (λ address. address == l.wanted) (take l.address-index l.addresses)
