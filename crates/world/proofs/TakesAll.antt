-- In a sound world neither part refuses what the other hands it. It knows the laws of both parts and their outstanding bursts; how a state
-- was reached, and all bytes, are hidden.
use Rattle.std.proofs.Common.{◌≡◌, ◌≢◌, ℕ, ◌+◌, ◌==◌, ◌<◌, Bool, false, Option, Some, None, refl, ap, sym, ◌∙◌, subst, arith}
use Rattle.std.specs.Prelude.{IfSome, find, nat_le, not}
use Rattle.std.specs.Bool.{beq}
use Rattle.std.proofs.lemmas.Bool.{lt-leb}
use Rattle.bus_words.proofs.PlaceChanges.{all-find}
use Rattle.bus_words.proofs.FoundChanges.{filter-found}
use Rattle.bus_words.proofs.MappedPlaces.{map_some}
use Rattle.axi_beats.specs.Bursts.{Burst, IsLegal}
use Rattle.axi_beats.specs.declared.BBeat.{BBeat}
use Rattle.axi_beats.specs.declared.RBeat.{RBeat}
use Rattle.axi_checker.specs.OpenBursts.{OpenBursts, read_of_id, write_of_id}
use Rattle.axi_checker.specs.Rules.{burst_fault}
use Rattle.axi_checker.proofs.LegalBursts.{last_place}
use Rattle.axi_checker.proofs.Taking.{legal_is_unbroken}
use Rattle.bridge_core.specs.Bridge.{BridgeState, b_fault, burst_to_send, r_fault}
use Rattle.bridge_core.specs.Laws.{IsSoundBridge}
use Rattle.bridge_core.specs.HeldRequests.{BridgedRequest, holder}
use Rattle.bridge_core.specs.Sending.{Sending, next_sending}
use Rattle.bridge_core.proofs.AnswerLinks.{holder_known}
use Rattle.bridge_core.proofs.JoinedRequests.{limits_made}
use Rattle.bridge_core.proofs.SentBursts.{sent_unbroken, sent_within}
use Rattle.subordinate.specs.Faults.{standing_at}
use Rattle.subordinate.specs.FreeMemory.{b_of, r_of, device_port, gives_last, is_read_of, start_of, transfers_in}
use Rattle.subordinate.specs.Laws.{IsSoundPending}
use Rattle.world.specs.Laws.{GoesWell, IsSoundWorld, TakeAll}
use Rattle.world.specs.World.{WorldState}
use Rattle.world.proofs.OpenWork.{b_found, r_found}
use Rattle.subordinate.proofs.Monitors.{captured_plain, oldest_read_seen, oldest_write_seen}
use Rattle.subordinate.proofs.FaultLaws.{write_plain}

-- ---- a burst that goes

goes_well : (state : WorldState) (sending : Sending) → IsSoundWorld state → next_sending state.bridge.requests ≡ Some sending → GoesWell state sending.burst
goes_well state sending sound is =
    let sent = sent_unbroken state.bridge sending sound.bridge_laws is in
    let within = sent_within state.bridge sending sound.bridge_laws is in
    let limits = limits_made state.bridge.requests.config sound.bridge_laws.requests.config in
    let legal : IsLegal state.memory.bus_bytes sending.burst = subst (λ (bytes : ℕ). IsLegal bytes sending.burst) (sym sound.bus) sent.0 in
    let taken : burst_fault (device_port state.memory) state.bridge.open_bursts sending.burst ≡ None =
    legal_is_unbroken (device_port state.memory) state.bridge.open_bursts sending.burst sound.bridge_laws.filled legal (omega (arith, within.id, limits.most_ids)) (omega (arith, within.depth, limits.most_depth)) in
    record {
      legal = sent.0;
      unbroken = sent.1;
      taken = subst (λ (outstanding : OpenBursts). burst_fault (device_port state.memory) outstanding sending.burst ≡ None) sound.outstanding taken;
    }

-- ---- the IDs of answers

pub holder_below : (bridge : BridgeState) (id : ℕ) (request : BridgedRequest) → IsSoundBridge bridge → holder id bridge.requests.live ≡ Some request → id < bridge.requests.config.ids
holder_below bridge id request sound held =
    let known = holder_known bridge.requests id request sound.requests held in
    subst (λ (own : Option ℕ). IfSome own (λ (n : ℕ). n < bridge.requests.config.ids)) known.has_id known.sound.id

-- an ID that somebody holds is one of the port's
pub id_known : (bridge : BridgeState) (id : ℕ) → IsSoundBridge bridge → holder id bridge.requests.live ≢ None → id < bridge.requests.config.ids
id_known bridge id sound some = by_holder (holder id bridge.requests.live) refl
  where
    by_holder : (held : Option BridgedRequest) → holder id bridge.requests.live ≡ held → id < bridge.requests.config.ids
    by_holder None is = absurd (some is)
    by_holder (Some request) is = holder_below bridge id request sound is

-- ---- a B

full_write : (len : ℕ) → nat_le (len + 1) len ≡ false
full_write len = lt-leb (len + 1) len (omega arith)

pub b_unbroken : (state : WorldState) (id : ℕ) (b : BBeat) → IsSoundWorld state → b_of state.memory id ≡ Some b → b_fault state.bridge b ≡ None
b_unbroken state id b sound is =
    let finds = b_found state.memory id b is in
    let oldest = oldest_write_seen id state.memory.pending finds.write finds.found in
    let there : find (write_of_id id) state.bridge.open_bursts.writes ≡ Some (record { aw = oldest.aw; came = oldest.aw.len + 1 }) =
    ap (λ (outstanding : OpenBursts). find (write_of_id id) outstanding.writes) sound.outstanding ∙ oldest.seen in
    let listed = filter-found (write_of_id id) state.bridge.open_bursts.writes _ there in
    let below = id_known state.bridge id sound.bridge_laws (λ none. absurd (cc (listed, rw none at (sound.bridge_laws.linked id).writes))) in
    rw (finds.answer, lt-leb state.bridge.requests.config.ids id below, there, full_write oldest.aw.len, write_plain (standing_at state.memory.faults (start_of finds.write.burst))) refl

-- ---- an R

same_flag : (b : Bool) → not (beq b b) ≡ false
same_flag b = grind arith

pub r_unbroken : (state : WorldState) (id : ℕ) (r : RBeat) → IsSoundWorld state → r_of state.memory id ≡ Some r → r_fault state.bridge r ≡ None
r_unbroken state id r sound is =
    let finds = r_found state.memory id r is in
    let p = finds.read in
    let oldest = oldest_read_seen id state.memory.pending p finds.found in
    let there : find (read_of_id id) state.bridge.open_bursts.reads ≡ Some (record { ar = oldest.ar; came = p.answered }) =
    ap (λ (outstanding : OpenBursts). find (read_of_id id) outstanding.reads) sound.outstanding ∙ oldest.seen in
    let listed = filter-found (read_of_id id) state.bridge.open_bursts.reads _ there in
    let below = id_known state.bridge id sound.bridge_laws (λ none. absurd (cc (listed, rw none at (sound.bridge_laws.linked id).reads))) in
    let last : gives_last p ≡ (p.answered == oldest.ar.len) =
    ap (λ (burst : Burst). p.answered + 1 == transfers_in burst) oldest.burst ∙ last_place p.answered oldest.ar.len in
    let each = all-find (IsSoundPending state.memory.bus_bytes) (is_read_of id) state.memory.pending p sound.memory_laws.each finds.found in
    let plain = captured_plain p.burst p.beats p.answered finds.payload finds.resp each.beats finds.captured in
    rw (finds.answer, lt-leb state.bridge.requests.config.ids id below, there, last, same_flag (p.answered == oldest.ar.len), plain) refl

-- ---- all

if_some : {X : Type 0} (P : X → Type 0) (o : Option X) → ((x : X) → o ≡ Some x → P x) → IfSome o P
if_some P None each = tt
if_some P (Some x) each = each x refl

pub takes_all : (state : WorldState) → IsSoundWorld state → TakeAll state
takes_all state sound =
    record {
      pump =
          if_some (GoesWell state) (burst_to_send state.bridge)
          (λ burst is. map_some (λ (s : Sending). s.burst) (next_sending state.bridge.requests) burst is (λ sending going same. subst (GoesWell state) same (goes_well state sending sound going)));
      b = λ id. if_some (λ b. b_fault state.bridge b ≡ None) (b_of state.memory id) (λ b is. b_unbroken state id b sound is);
      r = λ id. if_some (λ r. r_fault state.bridge r ≡ None) (r_of state.memory id) (λ r is. r_unbroken state id r sound is);
    }
