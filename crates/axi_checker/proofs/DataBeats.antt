-- The W beats of a write from some place on.
use Rattle.std.proofs.Common.{◌≡◌, ℕ, zero, suc, ◌+◌, ◌<◌, true, false, List, [], ◌∷◌, length, drop, refl, ap, ◌∙◌, arith}
use Rattle.std.specs.Prelude.{None, Some, slice_get}
use Rattle.std.specs.Option.{option_or}
use Rattle.bus_words.specs.Tables.{first_broken}
use Rattle.axi_beats.specs.declared.WBeat.{WBeat}
use Rattle.axi_checker.specs.Monitors.{first_data_fault}
use Rattle.axi_checker.specs.OpenBursts.{OpenWrite, lacks_data}
use Rattle.axi_checker.specs.Rules.{AxiPortLimits, data_rules}
use Rattle.axi_checker.specs.declared.AxiRule.{AxiRule}
use Rattle.axi_checker.specs.declared.AxiRule.TheVariants.{WWithoutAw}
use Rattle.axi_checker.proofs.Judging.{one_beat_more}

drop-slice_get : (ws : List WBeat) (k : ℕ) (w : WBeat) → slice_get ws k ≡ Some w → drop k ws ≡ w ∷ drop (k + 1) ws
drop-slice_get [] k w at = absurd (cc)
drop-slice_get (x ∷ xs) zero w at = cc
drop-slice_get (x ∷ xs) (suc k) w at =
    let next : suc k + 1 ≡ suc (k + 1) = omega arith in
    rw next (drop-slice_get xs k w at)

-- past the last transfer there is no write for a W beat
pub data_fault-past : (port : AxiPortLimits) (write : OpenWrite) (ws : List WBeat) (k : ℕ) → k < length ws → lacks_data write ≡ false → first_data_fault port write (drop k ws) ≡ Some WWithoutAw
data_fault-past port write [] k within full = absurd (omega arith)
data_fault-past port write (w ∷ ws) zero within full = rw full refl
data_fault-past port write (w ∷ ws) (suc k) within full = data_fault-past port write ws k (omega arith) full

-- the next beat decides, or those after it
next_fault : (port : AxiPortLimits) (write : OpenWrite) (ws : List WBeat) (k : ℕ) (w : WBeat) → slice_get ws k ≡ Some w → lacks_data write ≡ true
    → first_data_fault port write (drop k ws) ≡ option_or (first_broken (data_rules port (Some write) w)) (first_data_fault port (one_beat_more write) (drop (k + 1) ws))
next_fault port write ws k w at lacks = rw (drop-slice_get ws k w at) (rw lacks refl)

pub data_fault-broken : (port : AxiPortLimits) (write : OpenWrite) (ws : List WBeat) (k : ℕ) (w : WBeat) (rule : AxiRule) → slice_get ws k ≡ Some w → lacks_data write ≡ true
    → first_broken (data_rules port (Some write) w) ≡ Some rule → first_data_fault port write (drop k ws) ≡ Some rule
data_fault-broken port write ws k w rule at lacks broken =
    next_fault port write ws k w at lacks ∙ ap (λ fault. option_or fault (first_data_fault port (one_beat_more write) (drop (k + 1) ws))) broken

pub data_fault-next : (port : AxiPortLimits) (write : OpenWrite) (ws : List WBeat) (k : ℕ) (w : WBeat) → slice_get ws k ≡ Some w → lacks_data write ≡ true
    → first_broken (data_rules port (Some write) w) ≡ None → first_data_fault port write (drop k ws) ≡ first_data_fault port (one_beat_more write) (drop (k + 1) ws)
data_fault-next port write ws k w at lacks fine =
    next_fault port write ws k w at lacks ∙ ap (λ fault. option_or fault (first_data_fault port (one_beat_more write) (drop (k + 1) ws))) fine
