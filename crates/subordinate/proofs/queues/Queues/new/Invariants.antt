-- The queues so far are empty.
use Rattle.std.proofs.Common.{◌≡◌, ℕ, [], map, replicate}
use Rattle.arrayvec.specs.ArrayVec.{ArrayVec}
use Rattle.subordinate.proofs.queues.Queues.new.Given as goal

abbrev pub invariant-loop : goal.invariant-loop
invariant-loop l = map (λ (row : ArrayVec ℕ). row.items) l.rows.items ≡ replicate l.counter []
