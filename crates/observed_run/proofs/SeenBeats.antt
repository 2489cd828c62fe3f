-- Beats that are seen one after another: those of a burst, and those of a reply. What was right before them is right with each of them. It knows
-- what was observed; where the beats come from is hidden.
use Rattle.std.proofs.Common.{◌≡◌, ℕ, ◌<◌, List, [], ◌∷◌, ◌++◌, map, Some, None, ◌⊎◌, inl, inr, refl, sym, ◌∙◌, ap, subst, ◌==◌, ◌&&◌, if◌then◌else◌, arith}
use Rattle.std.specs.Prelude.{◌≢◌}
use Rattle.std.proofs.Math.Path.{fun_ext}
use Rattle.std.proofs.lemmas.Bool.{cases_eq}
use Rattle.std.proofs.lemmas.List.{append-nil, append_assoc}
use Rattle.std.proofs.lemmas.Simd.{map-map}
use Rattle.tl_messages.specs.declared.ABeat.{ABeat}
use Rattle.tl_messages.specs.declared.DBeat.{DBeat}
use Rattle.axi_beats.specs.Bursts.{Burst, ReadBurst, WriteBurst}
use Rattle.axi_beats.specs.declared.WBeat.{WBeat}
use Rattle.axi_checker.specs.OpenBursts.{OpenBursts, nothing_open, open_after}
use Rattle.axi_checker.specs.declared.AxiBeat.{AxiBeat}
use Rattle.axi_checker.specs.declared.AxiBeat.TheVariants.{Aw as OnAw, W as OnW}
use Rattle.axi_checker.specs.Rules.{AxiPortLimits, beats_sent, first_axi_fault, open_after_all}
use Rattle.config.specs.Configs.{axi_port_of}
use Rattle.setups.specs.Setups.{SetupLists}
use Rattle.scoreboard.specs.Observed.{Observed, nothing_observed, observed_in, with_all, with_axi_beat, with_reply_beat, with_seen}
use Rattle.scoreboard.specs.Boards.{from_zeros}
use Rattle.scoreboard.specs.Flights.{no_footprint}
use Rattle.scoreboard.specs.InTurn.{DueBeat, dues_of}
use Rattle.scoreboard.specs.Right.{IsFree, IsPartly, IsRight, IsRightNow, IsTold, left_of, replies_to}
use Rattle.observed_run.specs.SeenRuns.{seen_of_burst, seen_of_reply}
use Rattle.scoreboard.specs.declared.ObservedBeat.{ObservedBeat}
use Rattle.scoreboard.specs.declared.ObservedBeat.TheVariants.{Axi, D}
use Rattle.scoreboard.proofs.acceptance_order.DueLists.{AreOf}
use Rattle.scoreboard.proofs.acceptance_order.Owed.{eqb_same}
use Rattle.scoreboard.proofs.acceptance_order.Reached.{right_with}
use Rattle.scoreboard.proofs.acceptance_order.SeenLists.{observed-append}
use Rattle.scoreboard.proofs.acceptance_order.Told.{TellsOn, told-beat}

-- what was observed with some beats more
pub observed-more : (observed : Observed) (before more : List ObservedBeat) → with_all observed (before ++ more) ≡ with_all (with_all observed before) more
observed-more observed [] more = refl
observed-more observed (first ∷ before) more = observed-more (with_seen observed first) before more

-- what is right now, of what is right
pub now_of : (setup : SetupLists) (before : List ObservedBeat) → IsRight (from_zeros setup) before → IsRightNow (from_zeros setup) (observed_in before)
now_of setup before right = right.always before [] (sym (append-nil before))

-- ---- beats of the AXI4 port

-- a burst is seen as the beats with which it is sent
pub burst_on_axi : (burst : Burst) → seen_of_burst (Some burst) ≡ map Axi (beats_sent burst)
burst_on_axi (WriteBurst aw data_beats) = ap (λ (rest : List ObservedBeat). Axi (OnAw aw) ∷ rest) (sym (map-map Axi (λ (w : WBeat). OnW w) data_beats))
burst_on_axi (ReadBurst ar) = refl

-- what was observed, with beats of the AXI4 port more
pub observed_on_axi : (observed : Observed) (beats : List AxiBeat) → with_all observed (map Axi beats) ≡ record observed { axi = observed.axi ++ beats }
observed_on_axi observed [] = ap (λ (axi : List AxiBeat). record observed { axi = axi }) (sym (append-nil observed.axi))
observed_on_axi observed (beat ∷ beats) =
    observed_on_axi (with_axi_beat beat observed) beats
    ∙ ap (λ (axi : List AxiBeat). record observed { axi = axi }) (append_assoc observed.axi (beat ∷ []) beats)

-- the outstanding bursts after beats and others
pub open_after_more : (open_bursts : OpenBursts) (beats more : List AxiBeat) → open_after_all open_bursts (beats ++ more) ≡ open_after_all (open_after_all open_bursts beats) more
open_after_more open_bursts [] more = refl
open_after_more open_bursts (beat ∷ beats) more = open_after_more (open_after open_bursts beat) beats more

-- beats without a fault begin with beats without one
fault_before : (port : AxiPortLimits) (open_bursts : OpenBursts) (beats more : List AxiBeat) → first_axi_fault port open_bursts (beats ++ more) ≡ None → first_axi_fault port open_bursts beats ≡ None
fault_before port open_bursts [] more none = refl
fault_before port open_bursts (beat ∷ beats) more none = grind (arith, none, fault_before port (open_after open_bursts beat) beats more)

-- beats of the AXI4 port of which none breaks a rule are right, one after another
pub right_on_axi : (setup : SetupLists) (before : List ObservedBeat) (beats : List AxiBeat) → IsRight (from_zeros setup) before → first_axi_fault (axi_port_of setup.config) nothing_open ((observed_in before).axi ++ beats) ≡ None
    → IsRight (from_zeros setup) (before ++ map Axi beats)
right_on_axi setup before [] right none = subst (IsRight (from_zeros setup)) (sym (append-nil before)) right
right_on_axi setup before (beat ∷ beats) right none =
    let axi = (observed_in before).axi ++ beat ∷ [] in
    let now = now_of setup before right in
    let all : first_axi_fault (axi_port_of setup.config) nothing_open (axi ++ beats) ≡ None = rw (append_assoc (observed_in before).axi (beat ∷ []) beats) none in
    let fine = fault_before (axi_port_of setup.config) nothing_open axi beats all in
    subst (IsRight (from_zeros setup)) (append_assoc before (Axi beat ∷ []) (map Axi beats))
    (right_on_axi setup (before ++ Axi beat ∷ []) beats
    (right_with (from_zeros setup) before (Axi beat) right tt tt (record { spelled = now.spelled; as_many = now.as_many; begun = now.begun; told = now.told; free = now.free; axi = fine }))
    (rw (observed-append nothing_observed before (Axi beat)) all))

-- ---- beats of a reply

-- what holds of a client's source, and of each other, holds of all
pub at_source : (P : ℕ → ℕ → Type 0) (client source : ℕ) → P client source → ((number other : ℕ) → (number ≢ client) ⊎ (other ≢ source) → P number other) → (number other : ℕ) → P number other
at_source P client source own others number other = elim (cases_eq number client) [
  | inl its ↦ elim (cases_eq other source) [ inl too ↦ rw (its, too) own | inr differs ↦ others number other (inr differs) ]
  | inr differs ↦ others number other (inl differs)
]

-- what was observed after some beats of a source on a client's channel D
abbrev pub with_told : ℕ → ℕ → List DBeat → Observed → Observed
with_told client source beats observed =
    record observed { told = λ number other. if number == client && other == source then observed.told number other ++ beats else observed.told number other }

pub told_more : (old : Observed) (client source : ℕ) (beats : List DBeat) → AreOf source beats → with_all old (seen_of_reply client beats) ≡ with_told client source beats old
told_more old client source [] are =
    ap (λ (told : ℕ → ℕ → List DBeat). record old { told = told }) (fun_ext (λ number. fun_ext (λ other. grind (arith, append-nil (old.told number other)))))
told_more old client source (beat ∷ beats) are =
    told_more (with_reply_beat client beat old) client source beats are.1
    ∙ ap (λ (told : ℕ → ℕ → List DBeat). record old { told = told }) (fun_ext (λ number. fun_ext (λ other. grind (arith, are.0, append_assoc (old.told number other) (beat ∷ []) beats))))

pub more_own : (old : Observed) (client source : ℕ) (beats : List DBeat) (own : ℕ) → own ≡ source → (with_told client source beats old).told client own ≡ old.told client own ++ beats
more_own old client source beats own same = rw (same, eqb_same client, eqb_same source) refl

pub more_others : (old : Observed) (client source : ℕ) (beats : List DBeat) (number other : ℕ) → (number ≢ client) ⊎ (other ≢ source)
    → (with_told client source beats old).told number other ≡ old.told number other
more_others old client source beats number other differs = grind (arith, differs)

-- all of the beats that were left
pub told_beats : (replies : List (List DueBeat)) (told beats : List DBeat) → TellsOn replies told (dues_of no_footprint beats) → TellsOn replies (told ++ beats) []
told_beats replies told [] on = rw (append-nil told) on
told_beats replies told (beat ∷ beats) on =
    rw (← append_assoc told (beat ∷ []) beats) (told_beats replies (told ++ beat ∷ []) beats (told-beat replies told _ beat (dues_of no_footprint beats) on.is_told on.left_is refl))

-- a beat of those that were left is right
right_beat : (setup : SetupLists) (observed : Observed) (client : ℕ) (beat : DBeat) (rest : List DBeat) → IsRightNow (from_zeros setup) observed
    → TellsOn (replies_to (from_zeros setup) observed client beat.source) (observed.told client beat.source) (dues_of no_footprint (beat ∷ rest))
    → IsRightNow (from_zeros setup) (with_reply_beat client beat observed)
right_beat setup observed client beat rest right on =
    record {
      spelled = right.spelled;
      as_many = right.as_many;
      begun = right.begun;
      told =
          at_source (λ number source. IsTold (replies_to (from_zeros setup) observed number source) (new.told number source)) client beat.source own
          (λ number source differs. rw (more_others observed client beat.source (beat ∷ []) number source differs) (right.told number source));
      free = λ number. free_at number (observed.begun number) (right.free number);
      axi = right.axi;
    }
  where
    new : Observed
    new = with_reply_beat client beat observed

    own : IsTold (replies_to (from_zeros setup) observed client beat.source) (new.told client beat.source)
    own =
        rw (more_own observed client beat.source (beat ∷ []) beat.source refl)
        (told-beat (replies_to (from_zeros setup) observed client beat.source) (observed.told client beat.source) _ beat (dues_of no_footprint rest) on.is_told on.left_is refl).is_told

    -- nothing was left of the source of a message that has begun, so the beat isn't of it
    free_at : (number : ℕ) (begun : List ABeat) → IsFree (from_zeros setup) observed number begun → IsFree (from_zeros setup) new number begun
    free_at number [] free = tt
    free_at number (first ∷ more) free =
        at_source (λ n s. left_of (replies_to (from_zeros setup) observed n s) (observed.told n s) ≡ [] → left_of (replies_to (from_zeros setup) observed n s) (new.told n s) ≡ []) client beat.source
        (λ none. absurd (cc (on.left_is, none))) (λ n s differs none. rw (more_others observed client beat.source (beat ∷ []) n s differs) none) number first.source free

-- where no other reply to the client has begun, the beats that are left of one of its sources are right, one after another
pub right_told : (setup : SetupLists) (before : List ObservedBeat) (client source : ℕ) (beats : List DBeat) → client < setup.config.clients → AreOf source beats → IsRight (from_zeros setup) before
    → TellsOn (replies_to (from_zeros setup) (observed_in before) client source) ((observed_in before).told client source) (dues_of no_footprint beats)
    → ((other : ℕ) → other ≢ source → IsPartly (replies_to (from_zeros setup) (observed_in before) client other) ((observed_in before).told client other) → ⊥)
    → IsRight (from_zeros setup) (before ++ seen_of_reply client beats)
right_told setup before client source [] below are right on alone = subst (IsRight (from_zeros setup)) (sym (append-nil before)) right
right_told setup before client source (beat ∷ beats) below are right on alone =
    let old = observed_in before in
    let here = subst (λ n. TellsOn (replies_to (from_zeros setup) old client n) (old.told client n) (dues_of no_footprint (beat ∷ beats))) (sym are.0) on in
    let more = observed-append nothing_observed before (D client beat) in
    subst (IsRight (from_zeros setup)) (append_assoc before (D client beat ∷ []) (seen_of_reply client beats))
    (right_told setup (before ++ D client beat ∷ []) client source beats below are.1
    (right_with (from_zeros setup) before (D client beat) right below
    (λ other partly. elim (cases_eq other source) [ inl same ↦ same ∙ sym are.0 | inr differs ↦ absurd (alone other differs partly) ])
    (right_beat setup old client beat beats (now_of setup before right) here))
    (rw (more, more_own old client beat.source (beat ∷ []) source (sym are.0)) (told-beat (replies_to (from_zeros setup) old client source) (old.told client source) _ beat (dues_of no_footprint beats) on.is_told on.left_is refl))
    (λ other differs. rw (more, more_others old client beat.source (beat ∷ []) client other (inr (λ same. differs (same ∙ are.0)))) (alone other differs)))
