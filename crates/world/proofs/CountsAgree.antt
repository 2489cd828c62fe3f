-- Bridge and memory count the same work: what is left in the world, with the performed beats that wait for their answer, is what the bridge counts,
-- which sees no beat performed before its answer came. It knows the outstanding bursts by their lengths and by how many beats came.
use Rattle.std.proofs.Common.{◌≡◌, ℕ, ◌+◌, ◌-◌, ◌*◌, List, [], ◌∷◌, length, refl, ap, ◌∙◌, subst, arith}
use Rattle.std.specs.Prelude.{sum_by}
use Rattle.std.specs.List.{AllByRecursion, cons_option}
use Rattle.std.proofs.lemmas.List.Sums.{sum_by-cons}
use Rattle.axi_beats.specs.Bursts.{Burst, ReadBurst, WriteBurst}
use Rattle.axi_checker.specs.OpenBursts.{OpenRead}
use Rattle.bridge_core.specs.Bridge as bridges
use Rattle.bridge_core.specs.Bridge.{answered_reads}
use Rattle.bridge_core.proofs.WorkLeft.{whole_open, whole_read, whole_write, work_apart}
use Rattle.subordinate.specs.Inside.{count_waiting}
use Rattle.subordinate.specs.FreeMemory.{Pending, answers_left, open_read_in, open_write_in, performed_waiting, performed_waiting_in, transfers_in, work_in}
use Rattle.subordinate.specs.Laws.{HasAnswered, IsSoundPending}
use Rattle.subordinate.proofs.BeatStates.{length-waiting_in, performed_waiting-count}
use Rattle.world.specs.Laws.{IsSoundWorld}
use Rattle.world.specs.World.{WorldState, work_left}
use Rattle.subordinate.proofs.Monitors.{reads_in, writes_in}

-- all beats and answers of a list of open bursts, and the read beats that came
abbrev whole_of : List Pending → ℕ
whole_of pending = sum_by whole_write (writes_in pending) + sum_by whole_read (reads_in pending)

abbrev came_of : List Pending → ℕ
came_of pending = sum_by (λ read. read.came) (reads_in pending)

-- what is left of one open burst, and what is performed of it and waits; of a read the beats that came count as performed and as answered
counted_with : (bus_bytes : ℕ) (p : Pending) (ps : List Pending) → IsSoundPending bus_bytes p → sum_by work_in ps + sum_by performed_waiting_in ps + 2 * came_of ps ≡ whole_of ps
    → sum_by work_in (p ∷ ps) + sum_by performed_waiting_in (p ∷ ps) + 2 * came_of (p ∷ ps) ≡ whole_of (p ∷ ps)
counted_with bus_bytes p ps sound rest = by_burst p.burst refl
  where
    works : sum_by work_in (p ∷ ps) ≡ work_in p + sum_by work_in ps
    works = sum_by-cons work_in p ps

    waits : sum_by performed_waiting_in (p ∷ ps) ≡ performed_waiting_in p + sum_by performed_waiting_in ps
    waits = sum_by-cons performed_waiting_in p ps

    own : performed_waiting_in p + count_waiting p.beats + p.answered ≡ length p.beats
    own = performed_waiting-count p sound.answered sound.most

    by_burst : (burst : Burst) → p.burst ≡ burst → sum_by work_in (p ∷ ps) + sum_by performed_waiting_in (p ∷ ps) + 2 * came_of (p ∷ ps) ≡ whole_of (p ∷ ps)
    by_burst (WriteBurst aw ws) is =
        let none : p.answered ≡ 0 = subst (λ (burst : Burst). HasAnswered burst p.answered) is sound.one_by_one in
        let left : answers_left p.answered p.burst ≡ 1 = ap (answers_left p.answered) is in
        let all : transfers_in p.burst ≡ aw.len + 1 = ap transfers_in is in
        let writes : sum_by whole_write (writes_in (p ∷ ps)) ≡ aw.len + 2 + sum_by whole_write (writes_in ps) =
        ap (λ (burst : Burst). sum_by whole_write (cons_option (open_write_in burst) (writes_in ps))) is ∙ sum_by-cons whole_write (record { aw = aw; came = aw.len + 1 }) (writes_in ps) in
        let reads : reads_in (p ∷ ps) ≡ reads_in ps = ap (λ (burst : Burst). cons_option (open_read_in p.answered burst) (reads_in ps)) is in
        omega (arith, rest, none, left, all, writes, ap (sum_by whole_read) reads, ap (sum_by (λ read. read.came)) reads, own, sound.whole, length-waiting_in p, works, waits)
    by_burst (ReadBurst ar) is =
        let left : answers_left p.answered p.burst ≡ ar.len + 1 - p.answered = ap (answers_left p.answered) is in
        let all : transfers_in p.burst ≡ ar.len + 1 = ap transfers_in is in
        let writes : writes_in (p ∷ ps) ≡ writes_in ps = ap (λ (burst : Burst). cons_option (open_write_in burst) (writes_in ps)) is in
        let reads : reads_in (p ∷ ps) ≡ record { ar = ar; came = p.answered } ∷ reads_in ps = ap (λ (burst : Burst). cons_option (open_read_in p.answered burst) (reads_in ps)) is in
        let first : OpenRead = record { ar = ar; came = p.answered } in
        omega (
          arith,
          rest,
          left,
          all,
          ap (sum_by whole_write) writes,
          ap (sum_by whole_read) reads,
          ap (sum_by (λ read. read.came)) reads,
          sum_by-cons whole_read first (reads_in ps),
          sum_by-cons (λ read. read.came) first (reads_in ps),
          own,
          sound.whole,
          sound.most,
          length-waiting_in p,
          works,
          waits,
        )

counted : (bus_bytes : ℕ) (pending : List Pending) → AllByRecursion (IsSoundPending bus_bytes) pending
    → sum_by work_in pending + sum_by performed_waiting_in pending + 2 * came_of pending ≡ whole_of pending
counted bus_bytes [] all = refl
counted bus_bytes (p ∷ ps) all = counted_with bus_bytes p ps all.0 (counted bus_bytes ps all.1)

-- of a sound world
pub counts_agree : (state : WorldState) → IsSoundWorld state → work_left state + performed_waiting state.memory ≡ bridges.work_left state.bridge
counts_agree state sound =
    omega (
      arith,
      work_apart state.bridge sound.bridge_laws,
      counted state.memory.bus_bytes state.memory.pending sound.memory_laws.each,
      ap answered_reads sound.outstanding,
      ap whole_open sound.outstanding,
    )
