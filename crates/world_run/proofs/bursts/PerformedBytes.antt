-- What performing a beat of an open burst does to single bytes: a write stores what its request leaves, and a read captures what its request
-- finds. The open bursts of an ID are the outstanding ones of its holder, where one is sent, performed or answered. It knows these bursts and
-- the memory; that the memory has what the request finds is a premise, and other requests are hidden.
use Rattle.std.specs.Prelude.{unwrap_or, IfSome, slice_set, if◌then◌else◌}
use Rattle.std.specs.List.{enumerate_from, list_all, list_any, slice_get, AllByRecursion, find, filter}
use Rattle.std.proofs.Common.{◌≡◌, ◌≢◌, ℕ, zero, suc, ◌+◌, ◌-◌, ◌%◌, ◌<◌, ◌≤◌, ◌==◌, Bool, true, false, ◌&&◌, List, [], ◌∷◌, length, Option, Some, None, is_some, inl, inr, ◌⊎◌, refl, ap, sym, ◌∙◌, subst, arith, not, ◌||◌, ◌++◌}
use Rattle.std.proofs.lemmas.Bool.{and_parts, and_from, eqb-true, or_parts}
use Rattle.std.proofs.lemmas.Option.{same_Some, slice_get_within}
use Rattle.bus_words.specs.Lanes.{has_lane, lane_byte}
use Rattle.bus_words.specs.Places.{change_first}
use Rattle.bus_words.proofs.FoundChanges.{find-changed, find-changed-gone, part-empty}
use Rattle.axi_beats.specs.Bursts.{IsLegal, WriteBurst, is_legal_address, is_legal_data, Burst}
use Rattle.axi_beats.specs.Transfers.{transfer_address, transfer_has}
use Rattle.axi_beats.specs.declared.AwBeat.{AwBeat}
use Rattle.axi_beats.specs.declared.Resp.{Resp}
use Rattle.axi_beats.specs.declared.WBeat.{WBeat}
use Rattle.burst_plan.specs.declared.Piece.{Piece}
use Rattle.flight_table.specs.LiveRequests.{planned}
use Rattle.bridge_core.specs.Laws.{outstanding}
use Rattle.bridge_core.specs.HeldRequests.{BridgedRequest, holder, holds, settled}
use Rattle.bridge_core.proofs.ResponseLinks.{finished_one, holds_it, nothing_left, settled_as, with_its_write}
use Rattle.subordinate.specs.Effects.{HasEffect, IsCaptured, IsWritten}
use Rattle.subordinate.specs.Faults.{is_good, read_response, standing_at}
use Rattle.subordinate.specs.FreeMemory.{FreeMemory, Pending, beat_after, is_waiting, memory_after, transfers_in, with_beat, with_performed, is_read_of, is_write_of, reads_as, writes_as}
use Rattle.subordinate.specs.Laws.{IsSoundPending, IsSoundMemory}
use Rattle.subordinate.specs.Pages.{Memory, byte_at_address}
use Rattle.subordinate.specs.declared.BeatState.{BeatState}
use Rattle.subordinate.specs.declared.BeatState.TheVariants.{Captured, Waiting}
use Rattle.subordinate.proofs.EffectLaws.{has_effect}
use Rattle.subordinate.proofs.SoundDevices.{beat_after-performed}
use Rattle.world_run.specs.InOrder.{AreBurstsOf, AreOfHolder, IsBurstOf, IsInItsTurn, IsReadOf, IsWriteOf, PutsSerially, TellsSerially, is_of_id}
use Rattle.world_run.specs.Serial.{Order, byte_left, bytes_before, writes}

-- ---- one more beat performed

-- the beats after one was set: that one, or as before
beat_set : (beats : List BeatState) (k n : ℕ) (new beat : BeatState) → slice_get (slice_set beats k new) n ≡ Some beat → ((n ≡ k) × (beat ≡ new)) ⊎ ((n ≢ k) × (slice_get beats n ≡ Some beat))
beat_set [] k n new beat there = absurd (cc (there))
beat_set (b ∷ beats) zero zero new beat there = inl (refl, sym (same_Some new beat there))
beat_set (b ∷ beats) zero (suc n) new beat there = inr (λ same. omega (arith, same), there)
beat_set (b ∷ beats) (suc k) zero new beat there = inr (λ same. omega (arith, same), there)
beat_set (b ∷ beats) (suc k) (suc n) new beat there =
    elim (beat_set beats k n new beat there) [
      | inl here ↦ inl (ap suc here.0, here.1)
      | inr before ↦ inr (λ same. before.0 (omega (arith, same)), before.1)
    ]

-- ---- what isn't written yet

-- more is written, and nothing of a piece's transfers that wasn't before
abbrev pub LeavesBurst : (ℕ → ℕ → Bool) → (ℕ → ℕ → Bool) → ℕ → Piece → Type 0
LeavesBurst wrote more number piece = (n x : ℕ) → n ≤ piece.len → transfer_has piece.address piece.size (n + 1) x ≡ true → wrote number x ≡ false → more number x ≡ false

-- but for the transfer of beat n, from 0
abbrev pub LeavesOthers : (ℕ → ℕ → Bool) → (ℕ → ℕ → Bool) → ℕ → ℕ → Piece → Type 0
LeavesOthers wrote more number n piece =
    (k x : ℕ) → k ≢ n → k ≤ piece.len → transfer_has piece.address piece.size (k + 1) x ≡ true → wrote number x ≡ false → more number x ≡ false

-- ---- a write

-- whether a request writes the byte at x by this transfer
abbrev pub writes_by : Order → ℕ → Piece → ℕ → ℕ → Bool
writes_by order number piece n x = transfer_has piece.address piece.size n x && writes order number x

-- the bytes that a transfer's request writes there are what it leaves, and no other byte changes
pub record StoresSerially (order : Order) (number : ℕ) (piece : Piece) (n : ℕ) (old new : Memory) : Type 0 where
  pub set : (x : ℕ) → writes_by order number piece n x ≡ true → byte_at_address new x ≡ Some (byte_left order number x)
  pub kept : (x : ℕ) → writes_by order number piece n x ≡ false → byte_at_address new x ≡ byte_at_address old x

-- a transfer of a write that puts what its request leaves
stored : (order : Order) (bus_bytes number : ℕ) (piece : Piece) (old new : FreeMemory) (aw : AwBeat) (n : ℕ) (w : WBeat) → old.bus_bytes ≡ bus_bytes → old.faults ≡ order.faults → aw.address ≡ piece.address
    → aw.size ≡ piece.size → ((x : ℕ) → writes order number x ≡ true → is_good (standing_at order.faults x) ≡ true) → PutsSerially order number bus_bytes piece n w → IsWritten old new aw n w
    → StoresSerially order number piece n old.memory new.memory
stored order bus_bytes number piece old new aw n w bus faults address size good puts written =
    record {
      set = λ x here.
          let both = and_parts (transfer_has piece.address piece.size n x) (writes order number x) here in
          let page = good x both.1 in
          written.set x (strobed x true both.0 (puts.strobes x both.0 page ∙ both.1)) (on_page x true page)
          ∙ ap (λ b. Some (lane_byte w.payload (x % b))) bus ∙ ap (λ (b : ℕ). Some b) (puts.bytes x both.0 both.1);
      kept = λ x isnt. by_page x isnt (is_good (standing_at order.faults x)) refl (transfer_has piece.address piece.size n x) refl;
    }
  where
    has_is : (x : ℕ) → transfer_has aw.address aw.size n x ≡ transfer_has piece.address piece.size n x
    has_is x = ap (λ a. transfer_has a aw.size n x) address ∙ ap (λ s. transfer_has piece.address s n x) size

    strobed : (x : ℕ) (b : Bool) → transfer_has piece.address piece.size n x ≡ true → has_lane w.strobes (x % bus_bytes) ≡ b → (transfer_has aw.address aw.size n x && has_lane w.strobes (x % old.bus_bytes)) ≡ b
    strobed x b has strobe = ap (λ h. h && has_lane w.strobes (x % old.bus_bytes)) (has_is x ∙ has) ∙ ap (λ bytes. has_lane w.strobes (x % bytes)) bus ∙ strobe

    on_page : (x : ℕ) (b : Bool) → is_good (standing_at order.faults x) ≡ b → is_good (standing_at old.faults x) ≡ b
    on_page x b page = ap (λ f. is_good (standing_at f x)) faults ∙ page

    by_page : (x : ℕ) → writes_by order number piece n x ≡ false → (page : Bool) → is_good (standing_at order.faults x) ≡ page → (has : Bool) → transfer_has piece.address piece.size n x ≡ has
        → byte_at_address new.memory x ≡ byte_at_address old.memory x
    by_page x isnt false page has within = written.refused x (on_page x false page)
    by_page x isnt true page false outside = written.kept x (ap (λ h. h && has_lane w.strobes (x % old.bus_bytes)) (has_is x ∙ outside))
    by_page x isnt true page true within =
        let none : writes order number x ≡ false = ap (λ h. h && writes order number x) (sym within) ∙ isnt in
        written.kept x (strobed x false within (puts.strobes x within page ∙ none))

-- a legal write has the data of each of its beats
has_data_beat : (bus_bytes : ℕ) (pending : Pending) (aw : AwBeat) (w_beats : List WBeat) (n : ℕ) (beat : BeatState) → IsSoundPending bus_bytes pending → pending.burst ≡ WriteBurst aw w_beats
    → slice_get pending.beats n ≡ Some beat → (w : WBeat) × (slice_get w_beats n ≡ Some w)
has_data_beat bus_bytes pending aw w_beats n beat sound is there = some_at w_beats n (omega (arith, within, whole, counted))
  where
    within : n < length pending.beats
    within = slice_get_within pending.beats n beat there

    whole : length pending.beats ≡ aw.len + 1
    whole = sound.whole ∙ ap transfers_in is

    counted : length w_beats ≡ aw.len + 1
    counted =
        let legal : IsLegal bus_bytes (WriteBurst aw w_beats) = subst (IsLegal bus_bytes) is sound.legal in
        let address = and_parts (is_legal_address bus_bytes aw.address aw.len aw.size aw.burst && length w_beats == aw.len + 1) (list_all (λ (transfer : ℕ × WBeat). is_legal_data bus_bytes aw transfer.0 transfer.1) (enumerate_from 1 w_beats)) legal in
        eqb-true (length w_beats) (aw.len + 1) (and_parts (is_legal_address bus_bytes aw.address aw.len aw.size aw.burst) (length w_beats == aw.len + 1) address.0).1

    some_at : (ws : List WBeat) (k : ℕ) → k < length ws → (w : WBeat) × (slice_get ws k ≡ Some w)
    some_at [] k below = absurd (omega (arith, below))
    some_at (w ∷ ws) zero below = (w, refl)
    some_at (w ∷ ws) (suc k) below = some_at ws k (omega (arith, below))

-- the memory after beat n of an open write
pub stores_serially : (order : Order) (memory : FreeMemory) (wrote : ℕ → ℕ → Bool) (number : ℕ) (pending : Pending) (piece : Piece) (n : ℕ) (beat : BeatState) → IsSoundMemory memory → IsSoundPending memory.bus_bytes pending
    → memory.faults ≡ order.faults → IsWriteOf order memory.bus_bytes wrote number pending piece → slice_get pending.beats n ≡ Some beat
    → ((x : ℕ) → writes order number x ≡ true → is_good (standing_at order.faults x) ≡ true)
    → StoresSerially order number piece (n + 1) memory.memory (memory_after memory pending.burst n)
stores_serially order memory wrote number pending piece n beat sound sound_pending faults of there good =
    let (w, given) = has_data_beat memory.bus_bytes pending of.aw of.w_beats n beat sound_pending of.burst there in
    let does = subst (λ burst. HasEffect memory (with_performed memory pending n) burst n) of.burst (has_effect memory pending n sound.bus sound_pending.legal sound.pages) in
    let written : IsWritten memory (with_performed memory pending n) of.aw (n + 1) w = subst (λ (o : Option WBeat). IfSome o (IsWritten memory (with_performed memory pending n) of.aw (n + 1))) given does in
    stored order memory.bus_bytes number piece memory (with_performed memory pending n) of.aw (n + 1) w refl faults of.address of.size good (of.puts n w given) written

-- that beat is written from then on, where the bytes that its request writes by it are
pub write_performed : (order : Order) (memory : FreeMemory) (bus_bytes : ℕ) (wrote more : ℕ → ℕ → Bool) (number : ℕ) (pending : Pending) (piece : Piece) (n : ℕ)
    → ((x : ℕ) → wrote number x ≡ true → more number x ≡ true) → ((x : ℕ) → writes_by order number piece (n + 1) x ≡ true → more number x ≡ true) → LeavesOthers wrote more number n piece
    → IsWriteOf order bus_bytes wrote number pending piece → IsWriteOf order bus_bytes more number (with_beat n (beat_after memory pending.burst n) pending) piece
write_performed order memory bus_bytes wrote more number pending piece n kept adds others of =
    record {
      aw = of.aw;
      w_beats = of.w_beats;
      burst = of.burst;
      address = of.address;
      size = of.size;
      len = of.len;
      puts = of.puts;
      written = λ k x beat there performed has written.
          elim (beat_set pending.beats n k (beat_after memory pending.burst n) beat there) [
            | inl here ↦ adds x (and_from _ _ (ap (λ i. transfer_has piece.address piece.size (i + 1) x) (sym here.0) ∙ has) written)
            | inr before ↦ kept x (of.written k x beat before.1 performed has written)
          ];
      unwritten = λ k x waits within has.
          elim (beat_set pending.beats n k (beat_after memory pending.burst n) Waiting waits) [
            | inl here ↦
                let performed = ap is_waiting here.1 ∙ beat_after-performed memory pending.burst n in
                absurd (cc (performed))
            | inr before ↦ others k x before.0 within has (of.unwritten k x before.1 within has)
          ];
    }

-- ---- a read

-- what beat n of an open read captures tells what its request finds, where the memory has that
pub record CapturesSerially (order : Order) (bus_bytes number : ℕ) (piece : Piece) (n : ℕ) (becomes : BeatState) : Type 0 where
  pub payload : ℕ
  pub resp : Resp
  pub is : becomes ≡ Captured payload resp
  pub tells : TellsSerially order number bus_bytes piece n payload resp

pub captures_serially : (order : Order) (memory : FreeMemory) (number : ℕ) (pending : Pending) (piece : Piece) (n : ℕ) → IsSoundMemory memory → IsSoundPending memory.bus_bytes pending
    → memory.faults ≡ order.faults → IsReadOf order memory.bus_bytes number pending piece
    → ((x : ℕ) → transfer_has piece.address piece.size (n + 1) x ≡ true → is_good (standing_at order.faults x) ≡ true → unwrap_or (byte_at_address memory.memory x) 0 ≡ bytes_before order number x)
    → CapturesSerially order memory.bus_bytes number piece (n + 1) (beat_after memory pending.burst n)
captures_serially order memory number pending piece n sound sound_pending faults of finds =
    let (payload, resp, becomes, captures) = subst (λ burst. HasEffect memory (with_performed memory pending n) burst n) of.burst (has_effect memory pending n sound.bus sound_pending.legal sound.pages) in
    record { payload = payload; resp = resp; is = ap (λ burst. beat_after memory burst n) of.burst ∙ becomes; tells = tells payload resp captures }
  where
    has_is : (x : ℕ) → transfer_has of.ar.address of.ar.size (n + 1) x ≡ transfer_has piece.address piece.size (n + 1) x
    has_is x = ap (λ a. transfer_has a of.ar.size (n + 1) x) of.address ∙ ap (λ s. transfer_has piece.address s (n + 1) x) of.size

    tells : (payload : ℕ) (resp : Resp) → IsCaptured memory of.ar (n + 1) payload resp → TellsSerially order number memory.bus_bytes piece (n + 1) payload resp
    tells payload resp captures =
        record {
          response =
              captures.response ∙ ap (λ f. read_response f (transfer_address of.ar.address of.ar.size (n + 1))) faults
              ∙ ap (λ a. read_response order.faults (transfer_address a of.ar.size (n + 1))) of.address ∙ ap (λ s. read_response order.faults (transfer_address piece.address s (n + 1))) of.size;
          bytes = λ x okay has.
              let byte = captures.bytes x okay (has_is x ∙ has) in
              let good : is_good (standing_at order.faults x) ≡ true = ap (λ f. is_good (standing_at f x)) (sym faults) ∙ sym (sound.pages.exactly x) ∙ ap (λ (o : Option ℕ). is_some o) byte in
              ap (λ (o : Option ℕ). unwrap_or o 0) (sym byte) ∙ finds x has good;
        }

-- it is captured from then on
pub read_performed : (order : Order) (bus_bytes number : ℕ) (pending : Pending) (piece : Piece) (n : ℕ) (becomes : BeatState) → CapturesSerially order bus_bytes number piece (n + 1) becomes
    → IsReadOf order bus_bytes number pending piece → IsReadOf order bus_bytes number (with_beat n becomes pending) piece
read_performed order bus_bytes number pending piece n becomes captures of =
    record {
      ar = of.ar;
      burst = of.burst;
      address = of.address;
      size = of.size;
      len = of.len;
      tells = λ k payload resp there.
          elim (beat_set pending.beats n k becomes (Captured payload resp) there) [
            | inl here ↦ told k payload resp here.0 (captured_parts payload captures.payload resp captures.resp (here.1 ∙ captures.is))
            | inr before ↦ of.tells k payload resp before.1
          ];
    }
  where
    payload_in : BeatState → ℕ
    payload_in (Captured payload resp) = payload
    payload_in _ = 0

    resp_in : Resp → BeatState → Resp
    resp_in other (Captured payload resp) = resp
    resp_in other _ = other

    captured_parts : (payload payload' : ℕ) (resp resp' : Resp) → Captured payload resp ≡ Captured payload' resp' → (payload ≡ payload') × (resp ≡ resp')
    captured_parts payload payload' resp resp' same = (ap payload_in same, ap (resp_in resp) same)

    told : (k payload : ℕ) (resp : Resp) → k ≡ n → (payload ≡ captures.payload) × (resp ≡ captures.resp) → TellsSerially order number bus_bytes piece (k + 1) payload resp
    told k payload resp at same =
        subst (λ (i : ℕ). TellsSerially order number bus_bytes piece (i + 1) payload resp) (sym at)
        (subst (λ (word : ℕ). TellsSerially order number bus_bytes piece (n + 1) word resp) (sym same.0)
        (subst (λ (response : Resp). TellsSerially order number bus_bytes piece (n + 1) captures.payload response) (sym same.1) captures.tells))

-- ---- either

-- whether a request writes the byte at x by this transfer of a burst; true is a write
abbrev pub stores_by : Order → ℕ → Bool → Piece → ℕ → ℕ → Bool
stores_by order number write piece n x = write && writes_by order number piece n x

-- what performing beat n of an open burst does: the bytes of the memory that its request writes there are what it leaves, no other byte changes, and
-- the burst is still its request's, where these bytes are added to those that are written
pub record PerformsSerially (order : Order) (memory : FreeMemory) (wrote : ℕ → ℕ → Bool) (number : ℕ) (write : Bool) (pending : Pending) (piece : Piece) (n : ℕ) : Type 0 where
  pub set : (x : ℕ) → stores_by order number write piece (n + 1) x ≡ true → byte_at_address (memory_after memory pending.burst n) x ≡ Some (byte_left order number x)
  pub kept : (x : ℕ) → stores_by order number write piece (n + 1) x ≡ false → byte_at_address (memory_after memory pending.burst n) x ≡ byte_at_address memory.memory x
  pub still :
      (more : ℕ → ℕ → Bool) → ((x : ℕ) → wrote number x ≡ true → more number x ≡ true) → ((x : ℕ) → stores_by order number write piece (n + 1) x ≡ true → more number x ≡ true)
      → LeavesOthers wrote more number n piece → IsBurstOf order memory.bus_bytes more number write (with_beat n (beat_after memory pending.burst n) pending) piece

pub performs_serially : (order : Order) (memory : FreeMemory) (wrote : ℕ → ℕ → Bool) (number : ℕ) (write : Bool) (pending : Pending) (piece : Piece) (n : ℕ) (beat : BeatState) → IsSoundMemory memory
    → IsSoundPending memory.bus_bytes pending → memory.faults ≡ order.faults → IsBurstOf order memory.bus_bytes wrote number write pending piece → slice_get pending.beats n ≡ Some beat
    → ((x : ℕ) → writes order number x ≡ true → is_good (standing_at order.faults x) ≡ true)
    → ((x : ℕ) → transfer_has piece.address piece.size (n + 1) x ≡ true → is_good (standing_at order.faults x) ≡ true → write ≡ false → unwrap_or (byte_at_address memory.memory x) 0 ≡ bytes_before order number x)
    → PerformsSerially order memory wrote number write pending piece n
performs_serially order memory wrote number true pending piece n beat sound sound_pending faults of there good finds =
    let stores = stores_serially order memory wrote number pending piece n beat sound sound_pending faults of there good in
    record {
      set = stores.set;
      kept = stores.kept;
      still = λ more kept adds others. write_performed order memory memory.bus_bytes wrote more number pending piece n kept adds others of;
    }
performs_serially order memory wrote number false pending piece n beat sound sound_pending faults of there good finds =
    let captures = captures_serially order memory number pending piece n sound sound_pending faults of (λ x has page. finds x has page refl) in
    record {
      set = λ x never. absurd (cc (never));
      kept = λ x same. ap (λ burst. byte_at_address (memory_after memory burst n) x) of.burst;
      still = λ more kept adds others. read_performed order memory.bus_bytes number pending piece n (beat_after memory pending.burst n) captures of;
    }

-- an open burst has as many beats as its piece has transfers
beats_counted : (order : Order) (bus_bytes : ℕ) (wrote : ℕ → ℕ → Bool) (number : ℕ) (write : Bool) (pending : Pending) (piece : Piece) → IsSoundPending bus_bytes pending
    → IsBurstOf order bus_bytes wrote number write pending piece → length pending.beats ≡ piece.len + 1
beats_counted order bus_bytes wrote number write pending piece sound of = grind (arith, sound, of)

-- a beat of an open burst is a transfer of its piece
pub beat_within : (order : Order) (bus_bytes : ℕ) (wrote : ℕ → ℕ → Bool) (number : ℕ) (write : Bool) (pending : Pending) (piece : Piece) (n : ℕ) (beat : BeatState) → IsSoundPending bus_bytes pending
    → IsBurstOf order bus_bytes wrote number write pending piece → slice_get pending.beats n ≡ Some beat → n + 1 ≤ piece.len + 1
beat_within order bus_bytes wrote number write pending piece n beat sound of there = grind (arith, slice_get_within, beats_counted, sound, of, there)

-- ---- a write that is answered

not_waiting : (beats : List BeatState) (n : ℕ) → list_any is_waiting beats ≡ false → n < length beats → (beat : BeatState) × (slice_get beats n ≡ Some beat) × (is_waiting beat ≡ false)
not_waiting [] n none below = absurd (omega (arith, below))
not_waiting (b ∷ beats) zero none below = (b, refl, (or_parts (is_waiting b) (list_any is_waiting beats) none).0)
not_waiting (b ∷ beats) (suc n) none below = not_waiting beats n (or_parts (is_waiting b) (list_any is_waiting beats) none).1 (omega (arith, below))

-- once all its beats are performed, all that its request writes by it is written
pub answered_written : (order : Order) (bus_bytes : ℕ) (wrote : ℕ → ℕ → Bool) (number : ℕ) (pending : Pending) (piece : Piece) (n x : ℕ) → IsSoundPending bus_bytes pending
    → IsWriteOf order bus_bytes wrote number pending piece → list_any is_waiting pending.beats ≡ false → 1 ≤ n → n ≤ piece.len + 1 → transfer_has piece.address piece.size n x ≡ true → writes order number x ≡ true
    → wrote number x ≡ true
answered_written order bus_bytes wrote number pending piece n x sound of none one last has written =
    let (beat, there, performed) = not_waiting pending.beats (n - 1) none (omega (arith, beats_counted order bus_bytes wrote number true pending piece sound of)) in
    let place : n - 1 + 1 ≡ n = omega arith in
    of.written (n - 1) x beat there performed (ap (λ i. transfer_has piece.address piece.size i x) place ∙ has) written

-- ---- where more is written

-- what holds of an open burst holds on
pub writes_more : (order : Order) (bus_bytes : ℕ) (wrote more : ℕ → ℕ → Bool) (number : ℕ) (pending : Pending) (piece : Piece) → ((x : ℕ) → wrote number x ≡ true → more number x ≡ true)
    → LeavesBurst wrote more number piece → IsWriteOf order bus_bytes wrote number pending piece → IsWriteOf order bus_bytes more number pending piece
writes_more order bus_bytes wrote more number pending piece kept leaves of =
    record {
      aw = of.aw;
      w_beats = of.w_beats;
      burst = of.burst;
      address = of.address;
      size = of.size;
      len = of.len;
      puts = of.puts;
      written = λ n x beat there performed has written. kept x (of.written n x beat there performed has written);
      unwritten = λ n x waits within has. leaves n x within has (of.unwritten n x waits within has);
    }

pub burst_more : (order : Order) (bus_bytes : ℕ) (wrote more : ℕ → ℕ → Bool) (number : ℕ) (write : Bool) (pending : Pending) (piece : Piece) → ((x : ℕ) → wrote number x ≡ true → more number x ≡ true)
    → LeavesBurst wrote more number piece → IsBurstOf order bus_bytes wrote number write pending piece → IsBurstOf order bus_bytes more number write pending piece
burst_more order bus_bytes wrote more number true pending piece kept leaves of = writes_more order bus_bytes wrote more number pending piece kept leaves of
burst_more order bus_bytes wrote more number false pending piece kept leaves of = of

pub bursts_more : (order : Order) (bus_bytes : ℕ) (wrote more : ℕ → ℕ → Bool) (number : ℕ) (write : Bool) (mine : List Pending) (pieces : List Piece) → ((x : ℕ) → wrote number x ≡ true → more number x ≡ true)
    → ((i : ℕ) (piece : Piece) → slice_get pieces i ≡ Some piece → LeavesBurst wrote more number piece) → AreBurstsOf order bus_bytes wrote number write mine pieces
    → AreBurstsOf order bus_bytes more number write mine pieces
bursts_more order bus_bytes wrote more number write [] [] kept leaves of = tt
bursts_more order bus_bytes wrote more number write [] (piece ∷ pieces) kept leaves of = absurd of
bursts_more order bus_bytes wrote more number write (pending ∷ mine) [] kept leaves of = absurd of
bursts_more order bus_bytes wrote more number write (pending ∷ mine) (piece ∷ pieces) kept leaves of =
    (burst_more order bus_bytes wrote more number write pending piece kept (leaves 0 piece refl) of.0, bursts_more order bus_bytes wrote more number write mine pieces kept (λ i other there. leaves (suc i) other there) of.1)

-- those of a request that has written no more
pub of_holder_same : (order : Order) (bus_bytes : ℕ) (wrote more : ℕ → ℕ → Bool) (mine : List Pending) (holds : Option BridgedRequest) → IfSome holds (λ r. (x : ℕ) → more r.flight.number x ≡ wrote r.flight.number x)
    → AreOfHolder order bus_bytes wrote mine holds → AreOfHolder order bus_bytes more mine holds
of_holder_same order bus_bytes wrote more mine None same of = of
of_holder_same order bus_bytes wrote more mine (Some request) same of =
    bursts_more order bus_bytes wrote more request.flight.number request.flight.writing mine (outstanding request.flight) (λ x there. same x ∙ there) (λ i piece there n x within has none. same x ∙ none) of

-- and a live request stays in order, where one that reads still wrote nothing, and nothing more is written of what isn't sent
pub in_order_more : (order : Order) (bus_bytes : ℕ) (wrote more : ℕ → ℕ → Bool) (request : BridgedRequest) → ((x : ℕ) → wrote request.flight.number x ≡ true → more request.flight.number x ≡ true)
    → (request.flight.writing ≡ false → (x : ℕ) → more request.flight.number x ≡ wrote request.flight.number x)
    → ((k : ℕ) (piece : Piece) → request.flight.sent ≤ k → slice_get (planned request.flight) k ≡ Some piece → LeavesBurst wrote more request.flight.number piece)
    → IsInItsTurn order bus_bytes wrote request → IsInItsTurn order bus_bytes more request
in_order_more order bus_bytes wrote more request kept same leaves of =
    record {
      asked = of.asked;
      unwritten = λ isnt x. same isnt x ∙ of.unwritten isnt x;
      unsent = λ writing k n x piece past there within has. leaves k piece past there n x within has (of.unsent writing k n x piece past there within has);
      written = λ writing k n x piece answered there first last has writes_there. kept x (of.written writing k n x piece answered there first last has writes_there);
      gathered = of.gathered;
    }

module _ (order : Order) (bus_bytes : ℕ) (wrote : ℕ → ℕ → Bool) (number : ℕ) (write : Bool) where
  -- ---- one is sent

  pub bursts_append : (mine : List Pending) (pieces : List Piece) (pending : Pending) (piece : Piece) → AreBurstsOf order bus_bytes wrote number write mine pieces
      → IsBurstOf order bus_bytes wrote number write pending piece → AreBurstsOf order bus_bytes wrote number write (mine ++ pending ∷ []) (pieces ++ piece ∷ [])
  bursts_append [] [] pending piece are is = (is, tt)
  bursts_append [] (other ∷ pieces) pending piece are is = absurd are
  bursts_append (other ∷ mine) [] pending piece are is = absurd are
  bursts_append (first ∷ mine) (other ∷ pieces) pending piece are is = (are.0, bursts_append mine pieces pending piece are.1 is)

  -- where nothing is outstanding nothing is open
  pub none_open : (mine : List Pending) (pieces : List Piece) → pieces ≡ [] → AreBurstsOf order bus_bytes wrote number write mine pieces → mine ≡ []
  none_open [] pieces none are = refl
  none_open (pending ∷ mine) [] none are = absurd are
  none_open (pending ∷ mine) (piece ∷ pieces) none are = absurd (cc (none))

  -- ---- one changes

  -- an open burst is that of an outstanding piece; where it changes, and more is written, the others stay as they are
  pub record IsOneOf (mine : List Pending) (pieces : List Piece) (test : Pending → Bool) (pending : Pending) : Type 0 where
    pub place : ℕ
    pub piece : Piece
    pub there : slice_get pieces place ≡ Some piece
    pub is : IsBurstOf order bus_bytes wrote number write pending piece
    pub changed :
        (more : ℕ → ℕ → Bool) (change : Pending → Pending) → ((x : ℕ) → wrote number x ≡ true → more number x ≡ true)
        → ((i : ℕ) (other : Piece) → slice_get pieces i ≡ Some other → i ≢ place → LeavesBurst wrote more number other) → IsBurstOf order bus_bytes more number write (change pending) piece
        → AreBurstsOf order bus_bytes more number write (change_first test change mine) pieces

  pub open_one : (mine : List Pending) (pieces : List Piece) (test : Pending → Bool) (pending : Pending) → AreBurstsOf order bus_bytes wrote number write mine pieces → find test mine ≡ Some pending
      → IsOneOf mine pieces test pending
  open_one [] pieces test pending are found = absurd (cc (found))
  open_one (first ∷ mine) [] test pending are found = absurd are
  open_one (first ∷ mine) (piece ∷ pieces) test pending are found = by_test (test first) refl found (λ later. open_one mine pieces test pending are.1 later)
    where
      by_test : (b : Bool) → test first ≡ b → (if b then Some first else find test mine) ≡ Some pending → (find test mine ≡ Some pending → IsOneOf mine pieces test pending)
          → IsOneOf (first ∷ mine) (piece ∷ pieces) test pending
      by_test true passes here rest =
          let same : first ≡ pending = same_Some first pending here in
          record {
            place = 0;
            piece = piece;
            there = refl;
            is = subst (λ (p : Pending). IsBurstOf order bus_bytes wrote number write p piece) same are.0;
            changed = λ more change kept leaves new.
                rw passes (
                  subst (λ (p : Pending). IsBurstOf order bus_bytes more number write (change p) piece) (sym same) new,
                  bursts_more order bus_bytes wrote more number write mine pieces kept (λ i other there. leaves (suc i) other there (λ same. omega (arith, same))) are.1,
                );
          }
      by_test false fails later rest =
          let one = rest later in
          record {
            place = suc one.place;
            piece = one.piece;
            there = one.there;
            is = one.is;
            changed = λ more change kept leaves new.
                rw fails (
                  burst_more order bus_bytes wrote more number write first piece kept (leaves 0 piece refl (λ same. omega (arith, same))) are.0,
                  one.changed more change kept (λ i other there apart. leaves (suc i) other there (λ same. apart (omega (arith, same)))) new,
                );
          }

-- ---- IDs

-- a write, and a read, are of one ID alone
pub burst_of_one : (id other : ℕ) (burst : Burst) → id ≢ other → (writes_as id burst || reads_as id burst) ≡ true → (writes_as other burst || reads_as other burst) ≡ false
burst_of_one id other burst apart is = grind (arith, apart, is)

pub of_one : (id other : ℕ) (pending : Pending) → id ≢ other → is_of_id id pending ≡ true → is_of_id other pending ≡ false
of_one id other pending apart is = burst_of_one id other pending.burst apart is

pub write_is_of : (id : ℕ) (pending : Pending) → is_write_of id pending ≡ true → is_of_id id pending ≡ true
write_is_of id pending is = rw is refl

pub read_is_of : (id : ℕ) (pending : Pending) → is_read_of id pending ≡ true → is_of_id id pending ≡ true
read_is_of id pending is = grind (arith, is)

-- ---- the first of an ID is answered

-- the test for the open bursts of an ID on one side; true is a write
abbrev pub is_on : Bool → ℕ → Pending → Bool
is_on true = is_write_of
is_on false = is_read_of

abbrev IsOne : ℕ → Pending → Type 0
IsOne id pending = is_of_id id pending ≡ true

module _ (order : Order) (bus_bytes : ℕ) (wrote : ℕ → ℕ → Bool) (number id : ℕ) where
  -- on the other side than that of its request no burst of it is open
  not_across : (write : Bool) (pending : Pending) (piece : Piece) → IsBurstOf order bus_bytes wrote number write pending piece → is_on (not write) id pending ≡ false
  not_across write pending piece of = grind (arith, of)

  none_across : (write : Bool) (mine : List Pending) (pieces : List Piece) → AreBurstsOf order bus_bytes wrote number write mine pieces → find (is_on (not write) id) mine ≡ None
  none_across write [] pieces are = refl
  none_across write (first ∷ mine) [] are = absurd are
  none_across write (first ∷ mine) (piece ∷ pieces) are = rw (not_across write first piece are.0) (none_across write mine pieces are.1)

  -- and the first of its ID is the first on its own
  on_side : (write : Bool) (pending : Pending) → IsOne id pending → is_on (not write) id pending ≡ false → is_on write id pending ≡ true
  on_side write pending one across = grind (arith, one, across)

  side_of : (write side : Bool) (mine : List Pending) (pending : Pending) → find (is_on side id) mine ≡ Some pending → find (is_on (not write) id) mine ≡ None → write ≡ side
  side_of write side mine pending found none = grind (arith, found, none)

  -- an open burst is the first of its ID, and that of the first outstanding piece
  pub record IsFirstOf (write side : Bool) (mine : List Pending) (pieces : List Piece) (pending : Pending) : Type 0 where
    pub on : write ≡ side
    pub piece : Piece
    pub later : List Pending
    pub rest : List Piece
    pub listed : mine ≡ pending ∷ later
    pub outstanding : pieces ≡ piece ∷ rest
    pub is : IsBurstOf order bus_bytes wrote number side pending piece
    pub others : AreBurstsOf order bus_bytes wrote number write later rest

  pub first_on : (side write : Bool) (mine : List Pending) (pieces : List Piece) (pending : Pending) → AllByRecursion (IsOne id) mine → AreBurstsOf order bus_bytes wrote number write mine pieces
      → find (is_on side id) mine ≡ Some pending → IsFirstOf write side mine pieces pending
  first_on side write [] pieces pending ones are found = absurd (cc (found))
  first_on side write (first ∷ mine) [] pending ones are found = absurd are
  first_on side write (first ∷ mine) (piece ∷ pieces) pending ones are found =
      let on : write ≡ side = side_of write side (first ∷ mine) pending found (none_across write (first ∷ mine) (piece ∷ pieces) are) in
      let its : is_on side id first ≡ true = subst (λ s. is_on s id first ≡ true) on (on_side write first ones.0 (not_across write first piece are.0)) in
      let here : find (is_on side id) (first ∷ mine) ≡ Some first = rw its refl in
      let same : first ≡ pending = same_Some first pending (sym here ∙ found) in
      record {
        on = on;
        piece = piece;
        later = mine;
        rest = pieces;
        listed = ap (λ (p : Pending). p ∷ mine) same;
        outstanding = refl;
        is = subst (λ s. IsBurstOf order bus_bytes wrote number s pending piece) on (subst (λ (p : Pending). IsBurstOf order bus_bytes wrote number write p piece) same are.0);
        others = are.1;
      }

-- ---- who holds the ID

-- the holder may be told in another way
pub of_same_holder : (order : Order) (bus_bytes : ℕ) (wrote : ℕ → ℕ → Bool) (mine : List Pending) (held other : Option BridgedRequest) → held ≡ other → AreOfHolder order bus_bytes wrote mine held
    → AreOfHolder order bus_bytes wrote mine other
of_same_holder order bus_bytes wrote mine held other same are = subst (AreOfHolder order bus_bytes wrote mine) same are

-- ---- after an answer

nothing_planned : (request : BridgedRequest) → request.flight.sent ≤ request.flight.answered → outstanding request.flight ≡ []
nothing_planned request past = part-empty (planned request.flight) request.flight.answered request.flight.sent past

-- the request that holds the ID was answered and is settled: it goes on, plans its write, or is finished and gives the ID free
pub of_answered : (order : Order) (bus_bytes : ℕ) (wrote : ℕ → ℕ → Bool) (mine : List Pending) (id : ℕ) (live : List BridgedRequest) (change : BridgedRequest → BridgedRequest) (old answered : BridgedRequest)
    → holder id live ≡ Some old → change old ≡ settled answered → answered.flight.id ≡ Some id → answered.flight.sent ≤ length (planned answered.flight) → length (filter (holds id) live) ≤ 1
    → AreBurstsOf order bus_bytes wrote answered.flight.number answered.flight.writing mine (outstanding answered.flight) → AreOfHolder order bus_bytes wrote mine (holder id (change_first (holds id) change live))
of_answered order bus_bytes wrote mine id live change old answered held changed has sent one are =
    elim (settled_as answered) [
      | inl going ↦ still answered (changed ∙ going.1) has are
      | inr at_end ↦ ending (nothing_left answered at_end.answered sent) at_end.becomes
    ]
  where
    still : (new : BridgedRequest) → change old ≡ new → new.flight.id ≡ Some id → AreBurstsOf order bus_bytes wrote new.flight.number new.flight.writing mine (outstanding new.flight)
        → AreOfHolder order bus_bytes wrote mine (holder id (change_first (holds id) change live))
    still new is holds_still these =
        let passes : holds id (change old) ≡ true = ap (holds id) is ∙ holds_it id new.flight.id holds_still in
        of_same_holder order bus_bytes wrote mine (Some new) (holder id (change_first (holds id) change live)) (sym (find-changed (holds id) change live old held passes ∙ ap Some is)) these

    none : answered.flight.sent ≤ answered.flight.answered → mine ≡ []
    none past = none_open order bus_bytes wrote answered.flight.number answered.flight.writing mine (outstanding answered.flight) (nothing_planned answered past) are

    gone : change old ≡ finished_one answered → mine ≡ [] → AreOfHolder order bus_bytes wrote mine (holder id (change_first (holds id) change live))
    gone is nothing =
        let fails : holds id (change old) ≡ false = ap (holds id) is in
        of_same_holder order bus_bytes wrote mine None (holder id (change_first (holds id) change live)) (sym (find-changed-gone (holds id) change live old held fails one)) nothing

    ending : answered.flight.sent ≤ answered.flight.answered → ((answered.flight.writing ≡ false) × (settled answered ≡ with_its_write answered)) ⊎ (settled answered ≡ finished_one answered)
        → AreOfHolder order bus_bytes wrote mine (holder id (change_first (holds id) change live))
    ending past (inl writes) = still (with_its_write answered) (changed ∙ writes.1) has (rw (none past) tt)
    ending past (inr ends) = gone (changed ∙ ends) (none past)
