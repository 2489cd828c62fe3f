-- The rules on the beats of an AXI4 port (AXI4; this project's profile: INCR alone, limits on IDs and outstanding bursts, no data ahead of
-- its address, and the order of the tests).
use Rattle.std.specs.Prelude.{ℕ, ◌+◌, ◌==◌, Bool, true, false, not, List, [], ◌∷◌, ◌++◌, map, length, Option, Some, None, is_some, filter, if◌then◌else◌, nat_le}
use Rattle.std.specs.Bool.{beq}
use Rattle.axi_beats.specs.Bursts.{Burst, WriteBurst, ReadBurst, strobes_fit}
use Rattle.bus_words.specs.Tables.{first_broken}
use Rattle.axi_beats.specs.Responses.{is_exokay}
use Rattle.axi_beats.specs.Transfers.{fits_bus, in_one_page}
use Rattle.axi_beats.specs.declared.ArBeat.{ArBeat}
use Rattle.axi_beats.specs.declared.AwBeat.{AwBeat}
use Rattle.axi_beats.specs.declared.WBeat.{WBeat}
use Rattle.axi_checker.specs.OpenBursts.{OpenBursts, OpenWrite, OpenRead, lacks_data, write_of_id, read_of_id, write_to_fill, oldest_write, oldest_read, open_after}
use Rattle.axi_checker.specs.declared.AxiBeat.{AxiBeat}
use Rattle.axi_checker.specs.declared.AxiBeat.TheVariants.{Aw as OnAw, W as OnW, B as OnB, Ar as OnAr, R as OnR}
use Rattle.axi_checker.specs.declared.AxiRule.{AxiRule}
use Rattle.axi_checker.specs.declared.AxiRule.TheVariants.{Size, BurstKind, Cross4K, IdRange, Depth, WWithoutAw, Strobe, WLast, BWithoutWrite, RWithoutRead, RLast, ExOkay}

-- what an AXI4 port allows: the bytes of its bus, how many IDs, and how many outstanding bursts of an ID on each side
pub record AxiPortLimits : Type 0 where
  pub bus_bytes : ℕ
  pub ids : ℕ
  pub depth : ℕ

-- the address beat of a burst, of a write or of a read alike
pub record BurstAddress : Type 0 where
  pub id : ℕ
  pub start : ℕ
  pub len : ℕ
  pub size : ℕ
  pub burst : ℕ

-- what an AW beat says of its burst
abbrev pub address_of_write : AwBeat → BurstAddress
address_of_write aw = record { id = aw.id; start = aw.address; len = aw.len; size = aw.size; burst = aw.burst }

-- what an AR beat says of its burst
abbrev pub address_of_read : ArBeat → BurstAddress
address_of_read ar = record { id = ar.id; start = ar.address; len = ar.len; size = ar.size; burst = ar.burst }

-- the rules on a burst's address; `open_of_id` is how many bursts its ID has open on that side
abbrev pub address_rules : AxiPortLimits → BurstAddress → ℕ → List (Bool × AxiRule)
address_rules port address open_of_id =
    (not (fits_bus port.bus_bytes address.size), Size)
    ∷ (not (address.burst == 1), BurstKind)
    ∷ (not (in_one_page address.start address.len address.size), Cross4K)
    ∷ (nat_le port.ids address.id, IdRange)
    ∷ (nat_le port.depth open_of_id, Depth)
    ∷ []

-- the rules on a W beat, whose write is the oldest that lacks data
abbrev pub data_rules : AxiPortLimits → Option OpenWrite → WBeat → List (Bool × AxiRule)
data_rules port None w = (true, WWithoutAw) ∷ []
data_rules port (Some write) w =
    (not (strobes_fit port.bus_bytes write.aw (write.came + 1) w.strobes), Strobe)
    ∷ (not (beq w.last (write.came == write.aw.len)), WLast)
    ∷ []

-- whether a write waits for its B alone
abbrev pub awaits_response : Option OpenWrite → Bool
awaits_response None = false
awaits_response (Some write) = not (lacks_data write)

-- whether `last` is as a read has it at its next beat; where there is no read another rule is broken
abbrev pub right_last : Option OpenRead → Bool → Bool
right_last None last = true
right_last (Some read) last = beq last (read.came == read.ar.len)

-- the rules on a beat after the open bursts
abbrev pub axi_rules : AxiPortLimits → OpenBursts → AxiBeat → List (Bool × AxiRule)
axi_rules port open_bursts (OnAw aw) =
    address_rules port (address_of_write aw) (length (filter (write_of_id aw.id) open_bursts.writes))
axi_rules port open_bursts (OnW w) = data_rules port (write_to_fill open_bursts) w
axi_rules port open_bursts (OnB b) =
    (nat_le port.ids b.id, IdRange)
    ∷ (not (awaits_response (oldest_write b.id open_bursts)), BWithoutWrite)
    ∷ (is_exokay b.resp, ExOkay)
    ∷ []
axi_rules port open_bursts (OnAr ar) =
    address_rules port (address_of_read ar) (length (filter (read_of_id ar.id) open_bursts.reads))
axi_rules port open_bursts (OnR r) =
    (nat_le port.ids r.id, IdRange)
    ∷ (not (is_some (oldest_read r.id open_bursts)), RWithoutRead)
    ∷ (not (right_last (oldest_read r.id open_bursts) r.last), RLast)
    ∷ (is_exokay r.resp, ExOkay)
    ∷ []

-- the first rule that a beat breaks after the open bursts, or none
abbrev pub axi_fault : AxiPortLimits → OpenBursts → AxiBeat → Option AxiRule
axi_fault port open_bursts beat = first_broken (axi_rules port open_bursts beat)

-- the first rule that one of these beats breaks, each after those before it
abbrev pub first_axi_fault : AxiPortLimits → OpenBursts → List AxiBeat → Option AxiRule
first_axi_fault port open_bursts [] = None
first_axi_fault port open_bursts (beat ∷ beats) = or_later (axi_fault port open_bursts beat) (first_axi_fault port (open_after open_bursts beat) beats)
  where
    or_later : Option AxiRule → Option AxiRule → Option AxiRule
    or_later (Some rule) later = Some rule
    or_later None later = later

-- the open bursts after a list of legal beats
abbrev pub open_after_all : OpenBursts → List AxiBeat → OpenBursts
open_after_all open_bursts [] = open_bursts
open_after_all open_bursts (beat ∷ beats) = open_after_all (open_after open_bursts beat) beats

-- the beats with which a burst is sent
abbrev pub beats_sent : Burst → List AxiBeat
beats_sent (WriteBurst aw data_beats) = OnAw aw ∷ map OnW data_beats
beats_sent (ReadBurst ar) = OnAr ar ∷ []

-- whether a burst's W beats end before its last transfer
abbrev pub ends_early : Burst → Bool
ends_early (WriteBurst aw data_beats) = nat_le (length data_beats) aw.len
ends_early (ReadBurst ar) = false

-- the first rule that a whole burst breaks, where the data of all writes before it have come
abbrev pub burst_fault : AxiPortLimits → OpenBursts → Burst → Option AxiRule
burst_fault port open_bursts burst = or_short (first_axi_fault port open_bursts (beats_sent burst))
  where
    or_short : Option AxiRule → Option AxiRule
    or_short (Some rule) = Some rule
    or_short None = if ends_early burst then Some WLast else None

-- the open bursts with a whole burst at the end that was just sent, all its data with it
abbrev pub open_with_burst : OpenBursts → Burst → OpenBursts
open_with_burst open_bursts (WriteBurst aw data_beats) = record open_bursts { writes = open_bursts.writes ++ record { aw = aw; came = aw.len + 1 } ∷ [] }
open_with_burst open_bursts (ReadBurst ar) = record open_bursts { reads = open_bursts.reads ++ record { ar = ar; came = 0 } ∷ [] }

-- how many transfers a burst has beside the first
abbrev pub len_of : Burst → ℕ
len_of (WriteBurst aw data_beats) = aw.len
len_of (ReadBurst ar) = ar.len

-- the ID of a burst
abbrev pub id_of : Burst → ℕ
id_of (WriteBurst aw data_beats) = aw.id
id_of (ReadBurst ar) = ar.id

-- how many open bursts have the ID and the side of a burst
abbrev pub outstanding_beside : OpenBursts → Burst → ℕ
outstanding_beside open_bursts (WriteBurst aw data_beats) = length (filter (write_of_id aw.id) open_bursts.writes)
outstanding_beside open_bursts (ReadBurst ar) = length (filter (read_of_id ar.id) open_bursts.reads)
