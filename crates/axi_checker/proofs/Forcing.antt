-- An address that may open its burst finds room, and what is open stays within the limits.
use Rattle.std.proofs.Common.{◌≡◌, ℕ, ◌<◌, true, length, arith}
use Rattle.std.specs.Prelude.{◌&&◌, nat_lt}
use Rattle.std.proofs.lemmas.Bool.{and_parts, ltb-true}
use Rattle.axi_beats.specs.Transfers.{fits_bus}
use Rattle.axi_beats.specs.declared.ArBeat.{ArBeat}
use Rattle.axi_beats.specs.declared.AwBeat.{AwBeat}
use Rattle.axi_checker.specs.Forced.{may_open}
use Rattle.axi_checker.specs.Monitors.{IsSoundMonitor, IsWithinLimits, MonitorState, id_of_read, id_of_write}
use Rattle.axi_checker.specs.OpenBursts.{open_after}
use Rattle.axi_checker.specs.declared.AxiBeat.TheVariants.{Ar as OnAr, Aw as OnAw}
use Rattle.axi_checker.specs.Rules.{AxiPortLimits, BurstAddress, address_of_read, address_of_write}
use Rattle.axi_checker.proofs.Few.{of_id, room_for_one}
use Rattle.axi_checker.proofs.WithinLimits.{within-read, within-write}

-- what such an address keeps to
record Opens (port : AxiPortLimits) (address : BurstAddress) (open_of_id : ℕ) : Type 0 where
  fits : fits_bus port.bus_bytes address.size ≡ true
  known : address.id < port.ids
  few : open_of_id < port.depth

opens : (port : AxiPortLimits) (address : BurstAddress) (open_of_id : ℕ) → may_open port address open_of_id ≡ true → Opens port address open_of_id
opens port address open_of_id may =
    let all = and_parts (fits_bus port.bus_bytes address.size && nat_lt address.id port.ids) (nat_lt open_of_id port.depth) may in
    let both = and_parts (fits_bus port.bus_bytes address.size) (nat_lt address.id port.ids) all.0 in
    record { fits = both.0; known = ltb-true address.id port.ids both.1; few = ltb-true open_of_id port.depth all.1 }

module _ (state : MonitorState) (room_of_writes room_of_reads : ℕ) (sound : IsSoundMonitor state room_of_writes room_of_reads) where
  pub write_room : (aw : AwBeat) → may_open state.port (address_of_write aw) (of_id id_of_write aw.id state.open_bursts.writes) ≡ true → length state.open_bursts.writes < room_of_writes
  write_room aw may =
      let its = opens state.port (address_of_write aw) (of_id id_of_write aw.id state.open_bursts.writes) may in
      omega (arith, room_for_one id_of_write state.port.ids state.port.depth state.open_bursts.writes (record { aw = aw; came = 0 }) sound.within.writes its.known its.few, sound.write_room)

  pub read_room : (ar : ArBeat) → may_open state.port (address_of_read ar) (of_id id_of_read ar.id state.open_bursts.reads) ≡ true → length state.open_bursts.reads < room_of_reads
  read_room ar may =
      let its = opens state.port (address_of_read ar) (of_id id_of_read ar.id state.open_bursts.reads) may in
      omega (arith, room_for_one id_of_read state.port.ids state.port.depth state.open_bursts.reads (record { ar = ar; came = 0 }) sound.within.reads its.known its.few, sound.read_room)

  pub write_within : (aw : AwBeat) → may_open state.port (address_of_write aw) (of_id id_of_write aw.id state.open_bursts.writes) ≡ true → IsWithinLimits state.port (open_after state.open_bursts (OnAw aw))
  write_within aw may =
      let its = opens state.port (address_of_write aw) (of_id id_of_write aw.id state.open_bursts.writes) may in
      within-write state.port state.open_bursts aw its.fits its.known its.few sound.within

  pub read_within : (ar : ArBeat) → may_open state.port (address_of_read ar) (of_id id_of_read ar.id state.open_bursts.reads) ≡ true → IsWithinLimits state.port (open_after state.open_bursts (OnAr ar))
  read_within ar may =
      let its = opens state.port (address_of_read ar) (of_id id_of_read ar.id state.open_bursts.reads) may in
      within-read state.port state.open_bursts ar its.fits its.known its.few sound.within
