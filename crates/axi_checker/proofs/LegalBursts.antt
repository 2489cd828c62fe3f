-- A burst that breaks no rule is legal, and is open with all its data once it was sent.
use Rattle.std.proofs.Common.{◌≡◌, ℕ, ◌+◌, ◌<◌, ◌≤◌, ◌==◌, Bool, true, false, not, List, [], ◌∷◌, length, map, refl, ap, sym, ◌∙◌, arith}
use Rattle.std.specs.Prelude.{None, Option, Some, IfSome, if◌then◌else◌}
use Rattle.std.specs.Bool.{beq}
use Rattle.std.specs.List.{enumerate_from, list_all}
use Rattle.std.specs.Option.{option_or}
use Rattle.std.proofs.lemmas.Bool.Decides.{nat_tests}
use Rattle.std.proofs.lemmas.Bool.{and_from, eq-eqb, leb-false, leb-true, lt-ltb, not-false}
use Rattle.bus_words.specs.Tables.{first_broken}
use Rattle.bus_words.proofs.TableLaws.{unbroken}
use Rattle.axi_beats.specs.Bursts.{Burst, ReadBurst, WriteBurst, IsLegal, is_legal_data, strobes_fit}
use Rattle.axi_beats.specs.declared.AwBeat.{AwBeat}
use Rattle.axi_beats.specs.declared.WBeat.{WBeat}
use Rattle.axi_checker.specs.Monitors.{first_data_fault, if_lacking}
use Rattle.axi_checker.specs.OpenBursts.{OpenBursts, OpenWrite, lacks_data, write_to_fill}
use Rattle.axi_checker.specs.declared.AxiBeat.{AxiBeat}
use Rattle.axi_checker.specs.declared.AxiBeat.TheVariants.{Ar as OnAr, Aw as OnAw, W as OnW}
use Rattle.axi_checker.specs.Rules.{AxiPortLimits, axi_fault, beats_sent, burst_fault, data_rules, ends_early, first_axi_fault, len_of, open_after_all, open_with_burst}
use Rattle.axi_checker.specs.declared.AxiRule.{AxiRule}
use Rattle.axi_checker.specs.declared.AxiRule.TheVariants.{Strobe, WLast}
use Rattle.axi_checker.proofs.Judging.{first_axi_fault-some, first_axi_fault-write, one_beat_more, open_after-with_write, with_write}
use Rattle.axi_checker.proofs.WithinLimits.{ar_allowed, aw_allowed}

-- W beats of a write that break no rule: it lacks data at each of them, their strobes fit, and `last` is right
pub record IsRightNext (port : AxiPortLimits) (write : OpenWrite) (w : WBeat) (ws : List WBeat) : Type 0 where
  pub lacks : lacks_data write ≡ true
  pub strobes : strobes_fit port.bus_bytes write.aw (write.came + 1) w.strobes ≡ true
  pub last : beq w.last (write.came == write.aw.len) ≡ true
  pub rest : first_data_fault port (one_beat_more write) ws ≡ None

both_none : (a b : Option AxiRule) → option_or a b ≡ None → (a ≡ None) × (b ≡ None)
both_none None b none = (refl, none)
both_none (Some rule) b none = absurd (cc)

right_next : (port : AxiPortLimits) (write : OpenWrite) (w : WBeat) (ws : List WBeat) → first_data_fault port write (w ∷ ws) ≡ None → IsRightNext port write w ws
right_next port write w ws none = by_test (lacks_data write) refl (both_none (first_broken (data_rules port (if_lacking write) w)) (first_data_fault port (one_beat_more write) ws) none)
  where
    by_test : (b : Bool) → lacks_data write ≡ b → (first_broken (data_rules port (if b then Some write else None) w) ≡ None) × (first_data_fault port (one_beat_more write) ws ≡ None)
        → IsRightNext port write w ws
    by_test true is nones =
        let strobes = unbroken (not (strobes_fit port.bus_bytes write.aw (write.came + 1) w.strobes)) Strobe ((not (beq w.last (write.came == write.aw.len)), WLast) ∷ []) nones.0 in
        let last : beq w.last (write.came == write.aw.len) ≡ true = grind (arith, strobes.1) in
        record { lacks = is; strobes = not-false _ strobes.0; last = last; rest = nones.1 }
    by_test false is nones = absurd (cc (nones.0))

-- they aren't more than the transfers
data_fits : (port : AxiPortLimits) (write : OpenWrite) (ws : List WBeat) → write.came ≤ write.aw.len + 1 → first_data_fault port write ws ≡ None → write.came + length ws ≤ write.aw.len + 1
data_fits port write [] few none = omega (arith, few)
data_fits port write (w ∷ ws) few none =
    let next = right_next port write w ws none in
    let more : write.came + 1 ≤ write.aw.len + 1 = omega (arith, leb-true write.came write.aw.len next.lacks) in
    omega (arith, data_fits port (one_beat_more write) ws more next.rest)

pub last_place : (came len : ℕ) → (came + 1 == len + 1) ≡ (came == len)
last_place came len = grind (arith, nat_tests)

-- each is right at its place
data_legal : (port : AxiPortLimits) (write : OpenWrite) (ws : List WBeat) → first_data_fault port write ws ≡ None
    → list_all (λ transfer. is_legal_data port.bus_bytes write.aw transfer.0 transfer.1) (enumerate_from (write.came + 1) ws) ≡ true
data_legal port write [] none = refl
data_legal port write (w ∷ ws) none =
    let next = right_next port write w ws none in
    let last : beq w.last (write.came + 1 == write.aw.len + 1) ≡ true = ap (beq w.last) (last_place write.came write.aw.len) ∙ next.last in
    and_from _ _ (and_from _ _ next.strobes last) (data_legal port (one_beat_more write) ws next.rest)

-- after them the write has as many more
open_after_all-data : (port : AxiPortLimits) (open_bursts : OpenBursts) (write : OpenWrite) (ws : List WBeat) → write_to_fill open_bursts ≡ None → first_data_fault port write ws ≡ None
    → open_after_all (with_write open_bursts write) (map OnW ws) ≡ with_write open_bursts (record write { came = write.came + length ws })
open_after_all-data port open_bursts write [] ready none =
    let same : write.came ≡ write.came + 0 = omega arith in
    ap (λ (k : ℕ). with_write open_bursts (record write { came = k })) same
open_after_all-data port open_bursts write (w ∷ ws) ready none =
    let next = right_next port write w ws none in
    let more : write.came + 1 + length ws ≡ write.came + length (w ∷ ws) = omega arith in
    ap (λ later. open_after_all later (map OnW ws)) (open_after-with_write open_bursts write w ready next.lacks)
    ∙ open_after_all-data port open_bursts (one_beat_more write) ws ready next.rest
    ∙ ap (λ (k : ℕ). with_write open_bursts (record write { came = k })) more

-- what is told of a whole burst that breaks no rule
pub unbroken_burst : (port : AxiPortLimits) (open_bursts : OpenBursts) (burst : Burst) → burst_fault port open_bursts burst ≡ None
    → (first_axi_fault port open_bursts (beats_sent burst) ≡ None) × (ends_early burst ≡ false)
unbroken_burst port open_bursts burst none = by_fault (first_axi_fault port open_bursts (beats_sent burst)) refl (ends_early burst) refl
  where
    by_fault : (fault : Option AxiRule) → first_axi_fault port open_bursts (beats_sent burst) ≡ fault → (short : Bool) → ends_early burst ≡ short
        → (first_axi_fault port open_bursts (beats_sent burst) ≡ None) × (ends_early burst ≡ false)
    by_fault None fine false enough = (fine, enough)
    by_fault None fine true short = absurd (cc (rw (fine, short) at none))
    by_fault (Some rule) broken short is = absurd (cc (rw broken at none))

-- of its address, and of a write's data
pub head_unbroken : (port : AxiPortLimits) (open_bursts : OpenBursts) (beat : AxiBeat) (beats : List AxiBeat) → first_axi_fault port open_bursts (beat ∷ beats) ≡ None → axi_fault port open_bursts beat ≡ None
head_unbroken port open_bursts beat beats none = by_fault (axi_fault port open_bursts beat) refl
  where
    by_fault : (fault : Option AxiRule) → axi_fault port open_bursts beat ≡ fault → axi_fault port open_bursts beat ≡ None
    by_fault None fine = fine
    by_fault (Some rule) broken = absurd (cc (sym (first_axi_fault-some port open_bursts beat beats rule broken) ∙ none))

pub record IsWholeWrite (port : AxiPortLimits) (open_bursts : OpenBursts) (aw : AwBeat) (ws : List WBeat) : Type 0 where
  pub address : axi_fault port open_bursts (OnAw aw) ≡ None
  pub data_beats : first_data_fault port (record { aw = aw; came = 0 }) ws ≡ None
  pub count : length ws ≡ aw.len + 1

pub whole_write : (port : AxiPortLimits) (open_bursts : OpenBursts) (aw : AwBeat) (ws : List WBeat) → write_to_fill open_bursts ≡ None → burst_fault port open_bursts (WriteBurst aw ws) ≡ None
    → IsWholeWrite port open_bursts aw ws
whole_write port open_bursts aw ws ready none =
    let parts = unbroken_burst port open_bursts (WriteBurst aw ws) none in
    let address = head_unbroken port open_bursts (OnAw aw) (map OnW ws) parts.0 in
    let data_beats : first_data_fault port (record { aw = aw; came = 0 }) ws ≡ None = sym (first_axi_fault-write port open_bursts aw ws ready address) ∙ parts.0 in
    let enough = leb-false (length ws) aw.len parts.1 in
    record { address = address; data_beats = data_beats; count = omega (arith, enough, data_fits port (record { aw = aw; came = 0 }) ws (omega arith) data_beats) }

-- a burst that breaks no rule is legal (its length has eight bits)
pub unbroken_is_legal : (port : AxiPortLimits) (open_bursts : OpenBursts) (burst : Burst) → write_to_fill open_bursts ≡ None → len_of burst < 256 → burst_fault port open_bursts burst ≡ None
    → IsLegal port.bus_bytes burst
unbroken_is_legal port open_bursts (WriteBurst aw ws) ready fits none =
    let whole = whole_write port open_bursts aw ws ready none in
    let allowed = aw_allowed port open_bursts aw whole.address in
    let address = and_from _ _ (and_from _ _ (and_from _ _ allowed.fits allowed.incr) (lt-ltb aw.len 256 fits)) allowed.page in
    and_from _ _ (and_from _ _ address (eq-eqb (length ws) (aw.len + 1) whole.count)) (data_legal port (record { aw = aw; came = 0 }) ws whole.data_beats)
unbroken_is_legal port open_bursts (ReadBurst ar) ready fits none =
    let parts = unbroken_burst port open_bursts (ReadBurst ar) none in
    let allowed = ar_allowed port open_bursts ar (head_unbroken port open_bursts (OnAr ar) [] parts.0) in
    and_from _ _ (and_from _ _ (and_from _ _ allowed.fits allowed.incr) (lt-ltb ar.len 256 fits)) allowed.page

-- once it was sent it is the last of the outstanding bursts, with all its data
pub open_after_all-burst : (port : AxiPortLimits) (open_bursts : OpenBursts) (burst : Burst) → write_to_fill open_bursts ≡ None → burst_fault port open_bursts burst ≡ None
    → open_after_all open_bursts (beats_sent burst) ≡ open_with_burst open_bursts burst
open_after_all-burst port open_bursts (WriteBurst aw ws) ready none =
    let whole = whole_write port open_bursts aw ws ready none in
    let count : 0 + length ws ≡ aw.len + 1 = omega (arith, whole.count) in
    open_after_all-data port open_bursts (record { aw = aw; came = 0 }) ws ready whole.data_beats
    ∙ ap (λ (k : ℕ). with_write open_bursts (record { aw = aw; came = k })) count
open_after_all-burst port open_bursts (ReadBurst ar) ready none = refl

-- the same of what a box holds, by the answer of a judge
pub judged_legal : (port : AxiPortLimits) (open_bursts : OpenBursts) (held : Option Burst) (answer : Option AxiRule) → write_to_fill open_bursts ≡ None
    → IfSome held (λ burst. answer ≡ burst_fault port open_bursts burst) → IfSome held (λ burst. len_of burst < 256) → answer ≡ None → IfSome held (IsLegal port.bus_bytes)
judged_legal port open_bursts None answer ready judged fits none = tt
judged_legal port open_bursts (Some burst) answer ready judged fits none = unbroken_is_legal port open_bursts burst ready fits (sym judged ∙ none)

pub judged_sent : (port : AxiPortLimits) (open_bursts : OpenBursts) (held : Option Burst) (answer : Option AxiRule) → write_to_fill open_bursts ≡ None
    → IfSome held (λ burst. answer ≡ burst_fault port open_bursts burst) → answer ≡ None
    → IfSome held (λ burst. open_after_all open_bursts (beats_sent burst) ≡ open_with_burst open_bursts burst)
judged_sent port open_bursts None answer ready judged none = tt
judged_sent port open_bursts (Some burst) answer ready judged none = open_after_all-burst port open_bursts burst ready (sym judged ∙ none)
