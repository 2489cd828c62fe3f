-- A monitor's parts after an accepted beat.
use Rattle.std.proofs.Common.{◌≡◌, ℕ, ◌<◌, ◌≤◌, List, length, sym, subst, arith}
use Rattle.std.specs.Prelude.{None}
use Rattle.axi_beats.specs.Bursts.{Burst}
use Rattle.axi_beats.specs.declared.AwBeat.{AwBeat}
use Rattle.axi_beats.specs.declared.ArBeat.{ArBeat}
use Rattle.axi_checker.specs.Monitors.{IsSoundMonitor, IsWithinLimits, MonitorState, monitor_state}
use Rattle.axi_checker.specs.OpenBursts.{OpenBursts, OpenRead, OpenWrite, open_after, write_to_fill}
use Rattle.axi_checker.specs.declared.AxiBeat.{AxiBeat}
use Rattle.axi_checker.specs.declared.AxiBeat.TheVariants.{Ar as OnAr, Aw as OnAw}
use Rattle.axi_checker.specs.Rules.{axi_fault, burst_fault, open_with_burst}
use Rattle.axi_checker.proofs.Taking.{within-open_with_burst}
use Rattle.axi_checker.proofs.WithinLimits.{room_for_read, room_for_write, within-open_after}

-- a state with the same port is sound whose lists are within its limits, and whose room isn't less
pub kept_sound : (old : MonitorState) (after : OpenBursts) (writes : List OpenWrite) (reads : List OpenRead) (old_writes old_reads new_writes new_reads : ℕ) → IsSoundMonitor old old_writes old_reads → IsWithinLimits old.port after
    → writes ≡ after.writes → reads ≡ after.reads → old_writes ≤ new_writes → old_reads ≤ new_reads → IsSoundMonitor (monitor_state old.port writes reads) new_writes new_reads
kept_sound old after writes reads old_writes old_reads new_writes new_reads sound within is_writes is_reads more_writes more_reads =
    record {
      bus = sound.bus;
      most_ids = sound.most_ids;
      most_depth = sound.most_depth;
      most = sound.most;
      within = rw (is_writes, is_reads) within;
      write_room = omega (arith, sound.write_room);
      read_room = omega (arith, sound.read_room);
    }

-- so it stays sound after a beat: its lists are those after the beat, and its room isn't less
pub sound-open_after : (old now : MonitorState) (beat : AxiBeat) (writes : List OpenWrite) (reads : List OpenRead) (old_writes old_reads new_writes new_reads : ℕ) → IsSoundMonitor old old_writes old_reads → old ≡ now
    → axi_fault now.port now.open_bursts beat ≡ None → writes ≡ (open_after old.open_bursts beat).writes → reads ≡ (open_after old.open_bursts beat).reads → old_writes ≤ new_writes → old_reads ≤ new_reads
    → IsSoundMonitor (monitor_state old.port writes reads) new_writes new_reads
sound-open_after old now beat writes reads old_writes old_reads new_writes new_reads sound same none =
    let accepted = subst (λ (m : MonitorState). axi_fault m.port m.open_bursts beat ≡ None) (sym same) none in
    kept_sound old (open_after old.open_bursts beat) writes reads old_writes old_reads new_writes new_reads sound (within-open_after old.port old.open_bursts beat accepted sound.within)

-- and it has room for a burst whose address is accepted
pub sound_write_room : (old now : MonitorState) (aw : AwBeat) (room_of_writes room_of_reads : ℕ) → IsSoundMonitor old room_of_writes room_of_reads → old ≡ now → axi_fault now.port now.open_bursts (OnAw aw) ≡ None
    → length old.open_bursts.writes < room_of_writes
sound_write_room old now aw room_of_writes room_of_reads sound same none =
    omega (arith, room_for_write old.port old.open_bursts aw (subst (λ (m : MonitorState). axi_fault m.port m.open_bursts (OnAw aw) ≡ None) (sym same) none) sound.within, sound.write_room)

pub sound_read_room : (old now : MonitorState) (ar : ArBeat) (room_of_writes room_of_reads : ℕ) → IsSoundMonitor old room_of_writes room_of_reads → old ≡ now → axi_fault now.port now.open_bursts (OnAr ar) ≡ None
    → length old.open_bursts.reads < room_of_reads
sound_read_room old now ar room_of_writes room_of_reads sound same none =
    omega (arith, room_for_read old.port old.open_bursts ar (subst (λ (m : MonitorState). axi_fault m.port m.open_bursts (OnAr ar) ≡ None) (sym same) none) sound.within, sound.read_room)

-- the same of a whole burst
pub sound-open_with_burst : (old now : MonitorState) (burst : Burst) (writes : List OpenWrite) (reads : List OpenRead) (old_writes old_reads new_writes new_reads : ℕ) → IsSoundMonitor old old_writes old_reads → old ≡ now
    → write_to_fill now.open_bursts ≡ None → burst_fault now.port now.open_bursts burst ≡ None → writes ≡ (open_with_burst old.open_bursts burst).writes → reads ≡ (open_with_burst old.open_bursts burst).reads
    → old_writes ≤ new_writes → old_reads ≤ new_reads → IsSoundMonitor (monitor_state old.port writes reads) new_writes new_reads
sound-open_with_burst old now burst writes reads old_writes old_reads new_writes new_reads sound same ready none =
    let filled = subst (λ (m : MonitorState). write_to_fill m.open_bursts ≡ None) (sym same) ready in
    let accepted = subst (λ (m : MonitorState). burst_fault m.port m.open_bursts burst ≡ None) (sym same) none in
    let within = within-open_with_burst old.port old.open_bursts burst filled accepted sound.within in
    kept_sound old (open_with_burst old.open_bursts burst) writes reads old_writes old_reads new_writes new_reads sound within
