-- A board of which nothing was observed.
use Rattle.std.proofs.Common.{◌≡◌, ℕ, ◌/◌, Bool, false, ap}
use Rattle.std.specs.List.{list_any}
use Rattle.std.proofs.Math.Path.{fun_ext}
use Rattle.score_setup.specs.ScoreSetups.{RangeLists, one_by_one}
use Rattle.sparse_memory.specs.Ranges.{is_unknown_kind}
use Rattle.sparse_memory.proofs.KnownLaws.{known-ranges}
use Rattle.scoreboard.specs.Boards.{beginning_of, opening_from, opening_with}
use Rattle.scoreboard.specs.declared.Errors.{Errors}

-- where nobody fails to know what a page begins with, it is the one of the set-up page by page
pub known_opening : (errors : Errors) (setup : RangeLists) → list_any (λ range. is_unknown_kind range.kind) setup.ranges ≡ false
    → opening_from errors (beginning_of setup) ≡ opening_with errors (one_by_one setup)
known_opening errors setup known =
    ap (λ (unknown : ℕ → Bool). opening_from errors (record (beginning_of setup) { unknown = unknown })) (fun_ext (λ x. known-ranges setup.ranges (x / 4096) known))
