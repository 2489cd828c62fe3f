-- A burst judged as a whole: the rules on its address, then those on its data, whose write is the only one that lacks any.
use Rattle.std.proofs.Common.{◌≡◌, ℕ, zero, suc, ◌+◌, ◌<◌, ◌==◌, Bool, true, false, List, [], ◌∷◌, ◌++◌, length, map, refl, ap, sym, ◌∙◌, nat_le, subst, replicate, arith}
use Rattle.std.specs.Prelude.{Option, Some, None, IfSome, filter, find, is_some, if◌then◌else◌}
use Rattle.std.specs.Option.{option_or}
use Rattle.std.proofs.lemmas.List.Folds.{find-append}
use Rattle.std.proofs.lemmas.Bool.{lt-leb}
use Rattle.std.proofs.lemmas.Bool.Decides.{nat_tests}
use Rattle.bus_words.specs.Tables.{first_broken}
use Rattle.bus_words.proofs.PlaceChanges.{change_first-append-none}
use Rattle.axi_beats.specs.Boxes.{aw_of, w_beats_of}
use Rattle.axi_beats.specs.Bursts.{Burst, ReadBurst, WriteBurst}
use Rattle.axi_beats.specs.declared.AwBeat.{AwBeat}
use Rattle.axi_beats.specs.declared.WBeat.{WBeat}
use Rattle.axi_checker.specs.Monitors.{first_data_fault, if_lacking}
use Rattle.axi_checker.specs.OpenBursts.{OpenBursts, OpenWrite, lacks_data, open_after, write_of_id, write_to_fill}
use Rattle.axi_checker.specs.declared.AxiBeat.{AxiBeat}
use Rattle.axi_checker.specs.declared.AxiBeat.TheVariants.{Aw as OnAw, W as OnW}
use Rattle.axi_checker.specs.Rules.{AxiPortLimits, address_of_write, address_rules, axi_fault, beats_sent, burst_fault, data_rules, first_axi_fault, id_of, outstanding_beside}
use Rattle.axi_checker.specs.declared.AxiRule.{AxiRule}
use Rattle.axi_checker.specs.declared.AxiRule.TheVariants.{WLast, WWithoutAw}

-- the outstanding bursts with one write more
abbrev pub with_write : OpenBursts → OpenWrite → OpenBursts
with_write open_bursts write = record open_bursts { writes = open_bursts.writes ++ write ∷ [] }

abbrev pub one_beat_more : OpenWrite → OpenWrite
one_beat_more write = record write { came = write.came + 1 }

-- the first of some beats decides, or those after it
pub first_axi_fault-some : (port : AxiPortLimits) (open_bursts : OpenBursts) (beat : AxiBeat) (beats : List AxiBeat) (rule : AxiRule) → axi_fault port open_bursts beat ≡ Some rule
    → first_axi_fault port open_bursts (beat ∷ beats) ≡ Some rule
first_axi_fault-some port open_bursts beat beats rule broken = rw broken refl

pub first_axi_fault-none : (port : AxiPortLimits) (open_bursts : OpenBursts) (beat : AxiBeat) (beats : List AxiBeat) → axi_fault port open_bursts beat ≡ None
    → first_axi_fault port open_bursts (beat ∷ beats) ≡ first_axi_fault port (open_after open_bursts beat) beats
first_axi_fault-none port open_bursts beat beats none = rw none refl

-- a W beat goes to the write that came last, if that lacks data and no other does
pub write_to_fill-with_write : (open_bursts : OpenBursts) (write : OpenWrite) → write_to_fill open_bursts ≡ None → write_to_fill (with_write open_bursts write) ≡ if_lacking write
write_to_fill-with_write open_bursts write none =
    find-append lacks_data open_bursts.writes (write ∷ []) ∙ ap (λ found. option_or found (find lacks_data (write ∷ []))) none

pub open_after-with_write : (open_bursts : OpenBursts) (write : OpenWrite) (w : WBeat) → write_to_fill open_bursts ≡ None → lacks_data write ≡ true
    → open_after (with_write open_bursts write) (OnW w) ≡ with_write open_bursts (one_beat_more write)
open_after-with_write open_bursts write w none lacks =
    ap (λ (writes : List OpenWrite). record open_bursts { writes = writes })
    (change_first-append-none lacks_data one_beat_more open_bursts.writes (write ∷ []) none ∙ rw lacks refl)

-- so its W beats are judged by themselves
pub first_axi_fault-data : (port : AxiPortLimits) (open_bursts : OpenBursts) (write : OpenWrite) (ws : List WBeat) → write_to_fill open_bursts ≡ None
    → first_axi_fault port (with_write open_bursts write) (map OnW ws) ≡ first_data_fault port write ws
first_axi_fault-data port open_bursts write [] none = refl
first_axi_fault-data port open_bursts write (w ∷ ws) none = by_fault (axi_fault port (with_write open_bursts write) (OnW w)) refl (lacks_data write) refl (first_axi_fault-data port open_bursts (one_beat_more write) ws none)
  where
    here : axi_fault port (with_write open_bursts write) (OnW w) ≡ first_broken (data_rules port (if_lacking write) w)
    here = ap (λ filled. first_broken (data_rules port filled w)) (write_to_fill-with_write open_bursts write none)

    by_fault : (fault : Option AxiRule) → axi_fault port (with_write open_bursts write) (OnW w) ≡ fault → (lacks : Bool) → lacks_data write ≡ lacks
        → first_axi_fault port (with_write open_bursts (one_beat_more write)) (map OnW ws) ≡ first_data_fault port (one_beat_more write) ws
        → first_axi_fault port (with_write open_bursts write) (OnW w ∷ map OnW ws) ≡ first_data_fault port write (w ∷ ws)
    by_fault (Some rule) broken lacks state rest =
        first_axi_fault-some port (with_write open_bursts write) (OnW w) (map OnW ws) rule broken
        ∙ sym (ap (λ fault. option_or fault (first_data_fault port (one_beat_more write) ws)) (sym here ∙ broken))
    by_fault None fine true state rest =
        first_axi_fault-none port (with_write open_bursts write) (OnW w) (map OnW ws) fine
        ∙ ap (λ later. first_axi_fault port later (map OnW ws)) (open_after-with_write open_bursts write w none state)
        ∙ rest
        ∙ sym (ap (λ fault. option_or fault (first_data_fault port (one_beat_more write) ws)) (sym here ∙ fine))
    by_fault None fine false state rest =
        let broken : first_broken (data_rules port (if_lacking write) w) ≡ Some WWithoutAw = rw state refl in
        absurd (cc (fine, here, broken))

-- a write whose address breaks no rule is judged by its data
pub first_axi_fault-write : (port : AxiPortLimits) (open_bursts : OpenBursts) (aw : AwBeat) (ws : List WBeat) → write_to_fill open_bursts ≡ None → axi_fault port open_bursts (OnAw aw) ≡ None
    → first_axi_fault port open_bursts (beats_sent (WriteBurst aw ws)) ≡ first_data_fault port (record { aw = aw; came = 0 }) ws
first_axi_fault-write port open_bursts aw ws ready fine =
    first_axi_fault-none port open_bursts (OnAw aw) (map OnW ws) fine ∙ first_axi_fault-data port open_bursts (record { aw = aw; came = 0 }) ws ready

-- what a box holds that has the address of a write
held_write : (held : Option Burst) (aw : AwBeat) → aw_of held ≡ Some aw → held ≡ Some (WriteBurst aw (w_beats_of held))
held_write None aw is = absurd (cc)
held_write (Some (WriteBurst aw2 ws)) aw is = cc
held_write (Some (ReadBurst ar)) aw is = absurd (cc)

-- what a box's write is judged to be, by what its data break
pub judged_data : (port : AxiPortLimits) (open_bursts : OpenBursts) (held : Option Burst) (aw : AwBeat) (rule : AxiRule) → aw_of held ≡ Some aw → write_to_fill open_bursts ≡ None
    → axi_fault port open_bursts (OnAw aw) ≡ None → first_data_fault port (record { aw = aw; came = 0 }) (w_beats_of held) ≡ Some rule
    → IfSome held (λ burst. Some rule ≡ burst_fault port open_bursts burst)
judged_data port open_bursts held aw rule is ready fine broken =
    rw (held_write held aw is) (rw (first_axi_fault-write port open_bursts aw (w_beats_of held) ready fine, broken) refl)

pub judged_end : (port : AxiPortLimits) (open_bursts : OpenBursts) (held : Option Burst) (aw : AwBeat) → aw_of held ≡ Some aw → write_to_fill open_bursts ≡ None
    → axi_fault port open_bursts (OnAw aw) ≡ None → first_data_fault port (record { aw = aw; came = 0 }) (w_beats_of held) ≡ None
    → IfSome held (λ burst. (if nat_le (length (w_beats_of held)) aw.len then Some WLast else None) ≡ burst_fault port open_bursts burst)
judged_end port open_bursts held aw is ready fine unbroken =
    subst (λ box. IfSome box (λ burst. (if nat_le (length (w_beats_of held)) aw.len then Some WLast else None) ≡ burst_fault port open_bursts burst)) (sym (held_write held aw is))
    (rw (first_axi_fault-write port open_bursts aw (w_beats_of held) ready fine, unbroken) refl)

-- what is said of a box's burst whose ID has so many outstanding, where it holds a write
pub held_beside : (port : AxiPortLimits) (open_bursts : OpenBursts) (held : Option Burst) (aw : AwBeat) (outstanding : ℕ) (answer : Option AxiRule) → aw_of held ≡ Some aw
    → (length (filter (write_of_id aw.id) open_bursts.writes) ≡ outstanding → IfSome held (λ burst. answer ≡ burst_fault port open_bursts burst))
    → IfSome held (λ burst. outstanding_beside open_bursts burst ≡ outstanding → answer ≡ burst_fault port open_bursts burst)
held_beside port open_bursts None aw outstanding answer is judged = tt
held_beside port open_bursts (Some (WriteBurst aw2 ws)) aw outstanding answer is judged = λ few. judged (cc (few, is))
held_beside port open_bursts (Some (ReadBurst ar)) aw outstanding answer is judged = absurd (cc)

-- the rules on the address of a write whose ID has so many outstanding
pub address_fault_of : (port : AxiPortLimits) (open_bursts : OpenBursts) (aw : AwBeat) (outstanding : ℕ) (fault : Option AxiRule)
    → fault ≡ first_broken (address_rules port (address_of_write aw) outstanding)
    → length (filter (write_of_id aw.id) open_bursts.writes) ≡ outstanding → axi_fault port open_bursts (OnAw aw) ≡ fault
address_fault_of port open_bursts aw outstanding fault is few = ap (λ n. first_broken (address_rules port (address_of_write aw) n)) few ∙ sym is

-- a write whose address breaks a rule
pub judged_address : (port : AxiPortLimits) (open_bursts : OpenBursts) (held : Option Burst) (aw : AwBeat) (rule : AxiRule) → aw_of held ≡ Some aw
    → axi_fault port open_bursts (OnAw aw) ≡ Some rule → IfSome held (λ burst. Some rule ≡ burst_fault port open_bursts burst)
judged_address port open_bursts held aw rule is broken =
    subst (λ box. IfSome box (λ burst. Some rule ≡ burst_fault port open_bursts burst)) (sym (held_write held aw is))
    (rw (first_axi_fault-some port open_bursts (OnAw aw) (map OnW (w_beats_of held)) rule broken) refl)

-- a write's ID is that of the burst in the box
pub write_room : (held : Option Burst) (aw : AwBeat) (ids outstanding depth : ℕ) → aw_of held ≡ Some aw → aw.id < ids → outstanding < depth → IfSome held (λ burst. (id_of burst < ids) × (outstanding < depth))
write_room None aw ids outstanding depth is known fewer = tt
write_room (Some (WriteBurst aw2 ws)) aw ids outstanding depth is known fewer =
    let same : aw ≡ aw2 = cc in
    (rw same at known, fewer)
write_room (Some (ReadBurst ar)) aw ids outstanding depth is known fewer = absurd (cc)

-- so many open writes of one ID, with all their data
abbrev pub writes_alike : AwBeat → ℕ → OpenBursts
writes_alike aw n = record { writes = replicate n (record { aw = aw; came = aw.len + 1 }); reads = [] }

pub writes_alike-ready : (aw : AwBeat) (n : ℕ) → write_to_fill (writes_alike aw n) ≡ None
writes_alike-ready aw zero = refl
writes_alike-ready aw (suc n) = rw (lt-leb (aw.len + 1) aw.len (omega arith)) (writes_alike-ready aw n)

pub writes_alike-count : (aw : AwBeat) (n : ℕ) → length (filter (write_of_id aw.id) (writes_alike aw n).writes) ≡ n
writes_alike-count aw zero = refl
writes_alike-count aw (suc n) =
    let same : (aw.id == aw.id) ≡ true = grind (arith, nat_tests) in
    rw same (ap suc (writes_alike-count aw n))

-- what holds of each list of open bursts with so many of the ID of a box's write holds of one
pub judged_beside : (port : AxiPortLimits) (held : Option Burst) (aw : AwBeat) (outstanding : ℕ) (answer : Option AxiRule) → aw_of held ≡ Some aw
    → IfSome held (λ burst. outstanding_beside (writes_alike aw outstanding) burst ≡ outstanding → answer ≡ burst_fault port (writes_alike aw outstanding) burst)
    → IfSome held (λ burst. answer ≡ burst_fault port (writes_alike aw outstanding) burst)
judged_beside port None aw outstanding answer is judged = tt
judged_beside port (Some (WriteBurst aw2 ws)) aw outstanding answer is judged =
    let same : aw ≡ aw2 = cc in
    judged (subst (λ (beat : AwBeat). length (filter (write_of_id beat.id) (writes_alike aw outstanding).writes) ≡ outstanding) same (writes_alike-count aw outstanding))
judged_beside port (Some (ReadBurst ar)) aw outstanding answer is judged = absurd (cc)

-- a box that holds a write has its address
pub held_aw : (held : Option Burst) → is_some (aw_of held) ≡ true → (aw : AwBeat) × (aw_of held ≡ Some aw)
held_aw None is = absurd (cc)
held_aw (Some (WriteBurst aw ws)) is = (aw, refl)
held_aw (Some (ReadBurst ar)) is = absurd (cc)
