-- A whole burst taken at once: what is legal and within a port's limits breaks no rule, and every write has its data afterwards.
use Rattle.std.proofs.Common.{◌≡◌, ℕ, ◌+◌, ◌<◌, ◌≤◌, ◌==◌, true, false, List, [], ◌∷◌, length, refl, ap, sym, subst, ◌∙◌, arith}
use Rattle.std.specs.Prelude.{Option, None, Some, IfSome, filter, find, map, nat_le, nat_lt, ◌&&◌}
use Rattle.std.specs.Bool.{beq}
use Rattle.std.specs.List.{enumerate_from, list_all}
use Rattle.std.proofs.lemmas.Bool.{and_parts, eqb-true, le-leb, lt-leb}
use Rattle.bus_words.specs.Places.{without_first}
use Rattle.bus_words.specs.Tables.{first_broken}
use Rattle.bus_words.proofs.PlaceChanges.{find-without_first-none}
use Rattle.axi_beats.specs.Boxes.{aw_of, ar_of, w_beats_of}
use Rattle.axi_beats.specs.Bursts.{Burst, ReadBurst, WriteBurst, IsLegal, is_legal_address, is_legal_data, strobes_fit}
use Rattle.axi_beats.specs.Transfers.{fits_bus, in_one_page}
use Rattle.axi_beats.specs.declared.AwBeat.{AwBeat}
use Rattle.axi_beats.specs.declared.ArBeat.{ArBeat}
use Rattle.axi_beats.specs.declared.WBeat.{WBeat}
use Rattle.axi_checker.specs.Monitors.{IsWithinLimits, first_data_fault}
use Rattle.axi_checker.specs.OpenBursts.{OpenBursts, OpenWrite, lacks_data, write_of_id, write_to_fill}
use Rattle.axi_checker.specs.declared.AxiBeat.TheVariants.{Ar as OnAr, Aw as OnAw, W as OnW}
use Rattle.axi_checker.specs.Rules.{AxiPortLimits, BurstAddress, address_of_read, address_of_write, address_rules, axi_fault, beats_sent, burst_fault, first_axi_fault, id_of, open_after_all, open_with_burst, outstanding_beside}
use Rattle.axi_checker.specs.declared.AxiRule.{AxiRule}
use Rattle.axi_checker.proofs.InOrder.{within-open_after_all}
use Rattle.axi_checker.proofs.Judging.{first_axi_fault-write, one_beat_more, write_to_fill-with_write, writes_alike, writes_alike-count, writes_alike-ready}
use Rattle.axi_checker.proofs.LegalBursts.{head_unbroken, last_place, open_after_all-burst, unbroken_burst}

-- an address breaks no rule that is legal, of an ID of the port's, with fewer outstanding than it may have
pub address_unbroken : (port : AxiPortLimits) (address : BurstAddress) (open_of_id : ℕ) → is_legal_address port.bus_bytes address.start address.len address.size address.burst ≡ true
    → address.id < port.ids → open_of_id < port.depth → first_broken (address_rules port address open_of_id) ≡ None
address_unbroken port address open_of_id legal known fewer =
    let fit = fits_bus port.bus_bytes address.size in
    let page = and_parts (fit && address.burst == 1 && nat_lt address.len 256) (in_one_page address.start address.len address.size) legal in
    let short = and_parts (fit && address.burst == 1) (nat_lt address.len 256) page.0 in
    let fits = and_parts fit (address.burst == 1) short.0 in
    rw (fits.0, fits.1, page.1, lt-leb port.ids address.id known, lt-leb port.depth open_of_id fewer) refl

-- nor do W beats that are right at their places, and not more than the transfers
data_unbroken : (port : AxiPortLimits) (write : OpenWrite) (ws : List WBeat) → write.came + length ws ≤ write.aw.len + 1
    → list_all (λ transfer. is_legal_data port.bus_bytes write.aw transfer.0 transfer.1) (enumerate_from (write.came + 1) ws) ≡ true → first_data_fault port write ws ≡ None
data_unbroken port write [] few legal = refl
data_unbroken port write (w ∷ ws) few legal =
    let legal_at = λ (transfer : ℕ × WBeat). is_legal_data port.bus_bytes write.aw transfer.0 transfer.1 in
    let each = and_parts (is_legal_data port.bus_bytes write.aw (write.came + 1) w) (list_all legal_at (enumerate_from (write.came + 1 + 1) ws)) legal in
    let here = and_parts (strobes_fit port.bus_bytes write.aw (write.came + 1) w.strobes) (beq w.last (write.came + 1 == write.aw.len + 1)) each.0 in
    let lacks : lacks_data write ≡ true = le-leb write.came write.aw.len (omega (arith, few)) in
    let last : beq w.last (write.came == write.aw.len) ≡ true = ap (beq w.last) (sym (last_place write.came write.aw.len)) ∙ here.1 in
    rw (lacks, here.0, last) (data_unbroken port (one_beat_more write) ws (omega (arith, few)) each.1)

-- so a burst breaks no rule that is legal and within the limits, where every write before it has its data
pub legal_is_unbroken : (port : AxiPortLimits) (open_bursts : OpenBursts) (burst : Burst) → write_to_fill open_bursts ≡ None → IsLegal port.bus_bytes burst → id_of burst < port.ids
    → outstanding_beside open_bursts burst < port.depth → burst_fault port open_bursts burst ≡ None
legal_is_unbroken port open_bursts (WriteBurst aw ws) ready legal known fewer =
    let legal_at = λ (transfer : ℕ × WBeat). is_legal_data port.bus_bytes aw transfer.0 transfer.1 in
    let legal_address = is_legal_address port.bus_bytes aw.address aw.len aw.size aw.burst in
    let each = and_parts (legal_address && length ws == aw.len + 1) (list_all legal_at (enumerate_from 1 ws)) legal in
    let counted = and_parts legal_address (length ws == aw.len + 1) each.0 in
    let count : length ws ≡ aw.len + 1 = eqb-true (length ws) (aw.len + 1) counted.1 in
    let address : axi_fault port open_bursts (OnAw aw) ≡ None =
    address_unbroken port (address_of_write aw) (outstanding_beside open_bursts (WriteBurst aw ws)) counted.0 known fewer in
    let beats : first_axi_fault port open_bursts (beats_sent (WriteBurst aw ws)) ≡ None =
    first_axi_fault-write port open_bursts aw ws ready address ∙ data_unbroken port (record { aw = aw; came = 0 }) ws (omega (arith, count)) each.1 in
    let whole : nat_le (length ws) aw.len ≡ false = lt-leb (length ws) aw.len (omega (arith, count)) in
    rw (beats, whole) refl
legal_is_unbroken port open_bursts (ReadBurst ar) ready legal known fewer =
    let address : axi_fault port open_bursts (OnAr ar) ≡ None =
    address_unbroken port (address_of_read ar) (outstanding_beside open_bursts (ReadBurst ar)) legal known fewer in
    rw address refl

-- the same of what a box holds, by the answer of a judge
pub judged_taken : (port : AxiPortLimits) (held : Option Burst) (aw : AwBeat) (outstanding : ℕ) (answer : Option AxiRule) → aw_of held ≡ Some aw
    → IfSome held (λ burst. answer ≡ burst_fault port (writes_alike aw outstanding) burst)
    → IfSome held (λ burst. IsLegal port.bus_bytes burst → id_of burst < port.ids → outstanding < port.depth → answer ≡ None)
judged_taken port None aw outstanding answer is judged = tt
judged_taken port (Some (WriteBurst aw2 ws)) aw outstanding answer is judged = λ legal known fewer.
    let same : aw ≡ aw2 = cc in
    let beside : outstanding_beside (writes_alike aw outstanding) (WriteBurst aw2 ws) ≡ outstanding =
    subst (λ (beat : AwBeat). length (filter (write_of_id beat.id) (writes_alike aw outstanding).writes) ≡ outstanding) same (writes_alike-count aw outstanding) in
    judged ∙ legal_is_unbroken port (writes_alike aw outstanding) (WriteBurst aw2 ws) (writes_alike-ready aw outstanding) legal known (omega (arith, beside, fewer))
judged_taken port (Some (ReadBurst ar)) aw outstanding answer is judged = absurd (cc)

-- after a whole burst, and after an answer, no write lacks data where none did before
pub filled_with_burst : (open_bursts : OpenBursts) (burst : Burst) → write_to_fill open_bursts ≡ None → write_to_fill (open_with_burst open_bursts burst) ≡ None
filled_with_burst open_bursts (WriteBurst aw ws) ready =
    let write : OpenWrite = record { aw = aw; came = aw.len + 1 } in
    let full : lacks_data write ≡ false = lt-leb (aw.len + 1) aw.len (omega arith) in
    write_to_fill-with_write open_bursts write ready ∙ rw full refl
filled_with_burst open_bursts (ReadBurst ar) ready = ready

pub filled_after_b : (id : ℕ) (writes : List OpenWrite) → find lacks_data writes ≡ None → find lacks_data (without_first (write_of_id id) writes) ≡ None
filled_after_b id writes ready = find-without_first-none lacks_data (write_of_id id) writes ready

-- a whole burst that breaks no rule leaves the outstanding bursts within the limits
pub within-open_with_burst : (port : AxiPortLimits) (open_bursts : OpenBursts) (burst : Burst) → write_to_fill open_bursts ≡ None → burst_fault port open_bursts burst ≡ None → IsWithinLimits port open_bursts
    → IsWithinLimits port (open_with_burst open_bursts burst)
within-open_with_burst port open_bursts burst ready none within =
    subst (IsWithinLimits port) (open_after_all-burst port open_bursts burst ready none)
    (within-open_after_all port open_bursts (beats_sent burst) (unbroken_burst port open_bursts burst none).0 within)

-- what a box holds that has the address of a write, or of a read, breaks no rule where its burst doesn't
pub write_unbroken : (port : AxiPortLimits) (open_bursts : OpenBursts) (held : Option Burst) (aw : AwBeat) → aw_of held ≡ Some aw → IfSome held (λ burst. burst_fault port open_bursts burst ≡ None)
    → burst_fault port open_bursts (WriteBurst aw (w_beats_of held)) ≡ None
write_unbroken port open_bursts None aw is unbroken = absurd (cc)
write_unbroken port open_bursts (Some (WriteBurst aw2 ws)) aw is unbroken =
    let same : aw2 ≡ aw = cc in
    subst (λ (x : AwBeat). burst_fault port open_bursts (WriteBurst x ws) ≡ None) same unbroken
write_unbroken port open_bursts (Some (ReadBurst ar)) aw is unbroken = absurd (cc)

pub read_unbroken : (port : AxiPortLimits) (open_bursts : OpenBursts) (held : Option Burst) (ar : ArBeat) → ar_of held ≡ Some ar → IfSome held (λ burst. burst_fault port open_bursts burst ≡ None)
    → burst_fault port open_bursts (ReadBurst ar) ≡ None
read_unbroken port open_bursts None ar is unbroken = absurd (cc)
read_unbroken port open_bursts (Some (WriteBurst aw ws)) ar is unbroken = absurd (cc)
read_unbroken port open_bursts (Some (ReadBurst ar2)) ar is unbroken =
    let same : ar2 ≡ ar = cc in
    subst (λ (x : ArBeat). burst_fault port open_bursts (ReadBurst x) ≡ None) same unbroken

-- the address of a burst that breaks no rule
pub write_address : (port : AxiPortLimits) (open_bursts : OpenBursts) (aw : AwBeat) (ws : List WBeat) → burst_fault port open_bursts (WriteBurst aw ws) ≡ None → axi_fault port open_bursts (OnAw aw) ≡ None
write_address port open_bursts aw ws none = head_unbroken port open_bursts (OnAw aw) (map OnW ws) (unbroken_burst port open_bursts (WriteBurst aw ws) none).0

pub read_address : (port : AxiPortLimits) (open_bursts : OpenBursts) (ar : ArBeat) → burst_fault port open_bursts (ReadBurst ar) ≡ None → axi_fault port open_bursts (OnAr ar) ≡ None
read_address port open_bursts ar none = head_unbroken port open_bursts (OnAr ar) [] (unbroken_burst port open_bursts (ReadBurst ar) none).0

-- a write that was taken whole is open as it is after its beats one by one
pub write_taken : (port : AxiPortLimits) (open_bursts after : OpenBursts) (held : Option Burst) (aw : AwBeat) → aw_of held ≡ Some aw → write_to_fill open_bursts ≡ None
    → IfSome held (λ burst. burst_fault port open_bursts burst ≡ None) → after ≡ open_with_burst open_bursts (WriteBurst aw (w_beats_of held))
    → IfSome held (λ burst. after ≡ open_after_all open_bursts (beats_sent burst))
write_taken port open_bursts after None aw is ready unbroken taken = tt
write_taken port open_bursts after (Some (WriteBurst aw2 ws)) aw is ready unbroken taken =
    let same : aw ≡ aw2 = cc in
    taken ∙ ap (λ (x : AwBeat). open_with_burst open_bursts (WriteBurst x ws)) same ∙ sym (open_after_all-burst port open_bursts (WriteBurst aw2 ws) ready unbroken)
write_taken port open_bursts after (Some (ReadBurst ar)) aw is ready unbroken taken = absurd (cc)
