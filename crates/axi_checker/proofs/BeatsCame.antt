-- How many R beats came of the outstanding reads, after one more came of a read, or it was closed.
use Rattle.std.proofs.Common.{◌≡◌, ◌+◌, ◌-◌, ◌*◌, ◌<◌, ◌≤◌, ℕ, zero, suc, List, [], ◌∷◌, length, get_or, set, ap, arith}
use Rattle.std.proofs.lemmas.List.Sums.{sum_by-cons, sum_by-remove, sum_by-set}
use Rattle.std.specs.List.{AllByRecursion, remove, sum_by}
use Rattle.axi_checker.specs.Monitors.{HaveCame}
use Rattle.axi_checker.specs.OpenBursts.{OpenRead}
use Rattle.axi_checker.proofs.ReadsAfter.{one_more}

abbrev came_of : OpenRead → ℕ
came_of read = read.came

abbrev FewEach : List OpenRead → Type 0
FewEach reads = AllByRecursion (λ read. read.came < 65536) reads

most_came : (reads : List OpenRead) → FewEach reads → sum_by came_of reads ≤ 65536 * length reads
most_came [] each = omega arith
most_came (r ∷ rs) each = omega (arith, sum_by-cons came_of r rs, each.0, most_came rs each.1)

pub few_came : (reads : List OpenRead) (beats : ℕ) → HaveCame reads beats → beats ≤ 65536 * length reads
few_came reads beats have = omega (arith, have.sum, most_came reads have.each)

each_set : (reads : List OpenRead) (k : ℕ) (new : OpenRead) → new.came < 65536 → FewEach reads → FewEach (set reads k new)
each_set [] k new small each = tt
each_set (r ∷ rs) zero new small each = (small, each.1)
each_set (r ∷ rs) (suc k) new small each = (each.0, each_set rs k new small each.1)

each_remove : (reads : List OpenRead) (k : ℕ) → k < length reads → FewEach reads → FewEach (remove reads k)
each_remove [] k within each = absurd (omega (arith, within))
each_remove (r ∷ rs) zero within each = each.1
each_remove (r ∷ rs) (suc k) within each = (each.0, each_remove rs k (omega (arith, within)) each.1)

-- ---- a read at its place
module _ (reads : List OpenRead) (beats k : ℕ) (read : OpenRead) (have : HaveCame reads beats) (within : k < length reads) (is : read ≡ get_or reads k read) where
  pub came_counted : read.came + 1 < 65536 → HaveCame (set reads k (one_more read)) (beats + 1)
  came_counted small =
      record {
        sum = omega (arith, sum_by-set came_of reads k (one_more read) read within, ap came_of is, have.sum);
        each = each_set reads k (one_more read) small have.each;
      }

  pub came_closed : HaveCame (remove reads k) (beats - read.came)
  came_closed =
      record {
        sum = omega (arith, sum_by-remove came_of reads k read within, ap came_of is, have.sum);
        each = each_remove reads k within have.each;
      }

  -- no more came of it than of all
  pub came_within : read.came ≤ beats
  came_within = omega (arith, sum_by-remove came_of reads k read within, ap came_of is, have.sum)
