-- What an observer goes on with behind a beat that breaks a rule (this project's profile).
use Rattle.std.specs.Prelude.{ℕ, Bool, ◌&&◌, length, filter, if◌then◌else◌, is_some, nat_lt}
use Rattle.axi_beats.specs.Transfers.{fits_bus}
use Rattle.axi_checker.specs.OpenBursts.{OpenBursts, open_after, read_of_id, write_of_id, write_to_fill}
use Rattle.axi_checker.specs.Rules.{AxiPortLimits, BurstAddress, address_of_read, address_of_write}
use Rattle.axi_checker.specs.declared.AxiBeat.{AxiBeat}
use Rattle.axi_checker.specs.declared.AxiBeat.TheVariants.{Aw as OnAw, W as OnW, B as OnB, Ar as OnAr, R as OnR}

-- whether an address opens its burst whatever rule it breaks of those on burst types and pages: its transfers fit the bus, its ID is the port's, and of
-- this fewer bursts are open than may be
abbrev pub may_open : AxiPortLimits → BurstAddress → ℕ → Bool
may_open port address open_of_id = fits_bus port.bus_bytes address.size && nat_lt address.id port.ids && nat_lt open_of_id port.depth

-- the open bursts behind a beat that broke a rule: such an address opens its burst, and data of the oldest write that lacks some count as come; nothing
-- else changes
abbrev pub forced : AxiPortLimits → OpenBursts → AxiBeat → OpenBursts
forced port open_bursts (OnAw aw) =
    if may_open port (address_of_write aw) (length (filter (write_of_id aw.id) open_bursts.writes)) then open_after open_bursts (OnAw aw) else open_bursts
forced port open_bursts (OnW w) = if is_some (write_to_fill open_bursts) then open_after open_bursts (OnW w) else open_bursts
forced port open_bursts (OnB b) = open_bursts
forced port open_bursts (OnAr ar) =
    if may_open port (address_of_read ar) (length (filter (read_of_id ar.id) open_bursts.reads)) then open_after open_bursts (OnAr ar) else open_bursts
forced port open_bursts (OnR r) = open_bursts
