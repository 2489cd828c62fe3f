-- Requests that a checker lets pass: their bytes are as many as they have, and an atomic gives them all. And what a port holds goes with it.
use Rattle.std.proofs.Common.{◌≡◌, ℕ, ◌^◌, ◌<◌, Bool, true, false, List, [], ◌∷◌, ◌++◌, Option, Some, None, Ok, IfSome, if◌then◌else◌, sym, ◌∙◌, ap, subst, arith}
use Rattle.std.specs.Prelude.{is_some, slice_get}
use Rattle.std.specs.List.{list_any}
use Rattle.std.specs.Option.{option_flatten}
use Rattle.std.proofs.lemmas.List.FromFn.{get_or-map-range_with_len}
use Rattle.std.proofs.lemmas.Option.{slice_get-get_or, slice_get_within}
use Rattle.tl_messages.specs.Operations.{has_data}
use Rattle.tl_messages.specs.Requests.{HeldMessage, begun, byte_given, bytes_given, held_of, request_of}
use Rattle.tl_messages.specs.declared.ABeat.{ABeat}
use Rattle.tl_messages.specs.declared.AtomicOp.{AtomicOp}
use Rattle.tl_messages.specs.declared.Operation.TheVariants.{Atomic}
use Rattle.tl_checker.specs.Ports.{IsFrontOf, joined, judged}
use Rattle.tl_checker.specs.RequestRules.{TlPortLimits}
use Rattle.tl_checker.specs.Sound.{IsSound}
use Rattle.tl_checker.specs.declared.Progress.{Progress}
use Rattle.tl_checker.specs.declared.Progress.TheVariants.{More, Whole}
use Rattle.tl_checker.proofs.BeatRules.{first_none}
use Rattle.tl_checker.proofs.Fronts.{none_front}
use Rattle.tl_checker.proofs.RequestLaws.{spelled_sound}
use Rattle.tl_checker.proofs.SpellingLaws.{all_given}
use Rattle.tl_checker.proofs.Taking.{answered_parts, held-append}
use Rattle.data_unit.proofs.NumberLaws.{lane_byte-lt}
use Rattle.scoreboard.specs.Boards.{ClientBoard, answer_to}
use Rattle.scoreboard.specs.Flights.{is_busy, is_of_source}
use Rattle.scoreboard.specs.declared.Policy.TheVariants.{RealTime}
use Rattle.serial_memory.proofs.PutWords.{length-bytes_given}
use Rattle.scoreboard.proofs.acceptance_order.RequestBeats.{ends_here, goes_on}
use Rattle.scoreboard.proofs.real_time.FirstBeats.{more_put}
use Rattle.scoreboard.proofs.real_time.RequestActs.{IsWell, atomic_data}

-- ---- its bytes

-- byte i of a message, where it is among the bytes that it has
byte_of : (held : HeldMessage) (i : ℕ) → i < 2 ^ held.size
    → slice_get (bytes_given held) i ≡ Some (if has_data held.operation then byte_given held.address held.beats i else None)
byte_of held i below =
    let byte : ℕ → Option ℕ = λ k. if has_data held.operation then byte_given held.address held.beats k else None in
    slice_get-get_or (bytes_given held) i None (omega (arith, below, length-bytes_given held))
    ∙ ap (λ (o : Option ℕ). Some o) (get_or-map-range_with_len byte 0 (2 ^ held.size) i i None below (omega arith))

given_small : (held : HeldMessage) (i b : ℕ) → byte_given held.address held.beats i ≡ Some b → b < 256
given_small held i b is = grind (arith, is, lane_byte-lt)

bytes_small : (held : HeldMessage) (i b : ℕ) → slice_get (bytes_given held) i ≡ Some (Some b) → b < 256
bytes_small held i b is =
    let below = slice_get_within (bytes_given held) i (Some b) is in
    let whole = sym (byte_of held i (omega (arith, below, length-bytes_given held))) ∙ is in
    grind (arith, whole, given_small held i b)

pub sound_well : (limits : TlPortLimits) (held : HeldMessage) → IsSound limits held → IsWell (request_of held)
sound_well limits held sound = record { count = length-bytes_given held; small = bytes_small held; full = full }
  where
    full : (op : AtomicOp) → held.operation ≡ Atomic op → (i : ℕ) → i < 2 ^ held.size → is_some (option_flatten (slice_get (bytes_given held) i)) ≡ true
    full op is i below =
        let carries : has_data held.operation ≡ true = ap has_data is ∙ atomic_data op in
        rw (byte_of held i below, carries) (all_given limits held i sound carries (λ partial. absurd (cc (sym partial ∙ is))) below)

-- the same of a message of several beats, where nothing more comes than its first
pub first_well : (limits : TlPortLimits) (beat : ABeat) (busy : Bool) → judged limits None beat busy ≡ Ok More → IsWell (request_of (begun limits.client beat))
first_well limits beat busy more =
    record {
      count = length-bytes_given (begun limits.client beat);
      small = bytes_small (begun limits.client beat);
      full = λ op is. absurd (more_put limits beat busy more op is);
    }

-- ---- what a port holds

-- what a client has begun came of beats, and no reply that waits is to its source
pub record IsFrontRight (client : ClientBoard) : Type 0 where
  pub heard : (beats : List ABeat) × IsFrontOf client.limits beats client.front
  pub free : IfSome client.front (λ held. list_any (is_of_source held.source) client.flights.due ≡ false)

-- the message with a beat that a port takes is of a source to which nothing is due
pub joined_free : (client : ClientBoard) (beat : ABeat) (told : Progress) → IsFrontRight client → answer_to RealTime client beat ≡ Ok told
    → list_any (is_of_source (joined client.limits client.front beat).source) client.flights.due ≡ false
joined_free client beat told right is = by_front client.front right.free is
  where
    by_front : (front : Option HeldMessage) → IfSome front (λ held. list_any (is_of_source held.source) client.flights.due ≡ false)
        → judged client.limits front beat (is_busy RealTime client.flights beat.source) ≡ Ok told
        → list_any (is_of_source (joined client.limits front beat).source) client.flights.due ≡ false
    by_front None free answer =
        let fine = (answered_parts _ _ told answer).0 in
        (first_none client.limits beat (is_busy RealTime client.flights beat.source) fine).1
    by_front (Some held) free answer = free

held_answer : (client : ClientBoard) (beat : ABeat) (beats : List ABeat) (told : Progress) → held_of client.limits.client beats ≡ client.front
    → answer_to RealTime client beat ≡ Ok told
    → judged client.limits (held_of client.limits.client beats) beat (is_busy RealTime client.flights beat.source) ≡ Ok told
held_answer client beat beats told held is = grind (arith, held, is)

-- with one more beat
pub front_next : (client : ClientBoard) (beat : ABeat) → IsFrontRight client → answer_to RealTime client beat ≡ Ok More
    → IsFrontRight (record client { front = Some (joined client.limits client.front beat) })
front_next client beat right is =
    let beats = right.heard.0 in
    let fits = right.heard.1 in
    let goes = goes_on client.limits beats beat (is_busy RealTime client.flights beat.source) fits.begins
    (held_answer client beat beats More fits.held is) in
    record {
      heard = (
        beats ++ beat ∷ [],
        record {
          begins = goes.front;
          held =
              held-append client.limits beats beat ∙ ap (λ (front : Option HeldMessage). Some (joined client.limits front beat)) fits.held;
        },
      );
      free = joined_free client beat More right is;
    }

-- a message that is whole is sound
pub whole_sound : (client : ClientBoard) (beat : ABeat) → IsFrontRight client → answer_to RealTime client beat ≡ Ok Whole
    → IsSound client.limits (joined client.limits client.front beat)
whole_sound client beat right is =
    let beats = right.heard.0 in
    let fits = right.heard.1 in
    let ends = ends_here client.limits beats beat (is_busy RealTime client.flights beat.source) fits.begins
    (held_answer client beat beats Whole fits.held is) in
    subst (λ (front : Option HeldMessage). IsSound client.limits (joined client.limits front beat)) fits.held
    (spelled_sound client.limits (joined client.limits (held_of client.limits.client beats) beat)
    (beats ++ beat ∷ [], record { spells = ends.spells; held = held-append client.limits beats beat }))

-- nothing has begun
pub front_none : (client : ClientBoard) → client.front ≡ None → IsFrontRight client
front_none client none =
    record {
      heard = ([], record { begins = none_front client.limits; held = sym none });
      free = subst (λ (front : Option HeldMessage). IfSome front (λ held. list_any (is_of_source held.source) client.flights.due ≡ false)) (sym none) tt;
    }
