-- The mask so far has the lanes that were passed.
use Rattle.std.proofs.Common.{◌≡◌, false, slice_index_or}
use Rattle.bus_words.proofs.MaskLaws.{mask_below}
use Rattle.bus_words.proofs.mask_of.Given as goal

abbrev pub invariant-loop-lane : goal.invariant-loop-lane
invariant-loop-lane l = l.mask ≡ mask_below (λ lane. slice_index_or l.fn.lanes lane false) l.lane
