-- What a port holds came of beats, and goes on to.
use Rattle.std.proofs.Common.{◌≡◌, ℕ, ◌+◌, ◌<◌, ◌≤◌, nat_le, if◌then◌else◌, Bool, true, false, List, [], ◌∷◌, ◌++◌, length, Option, Some, None, Result, Ok, Err, refl, sym, ◌∙◌, ap, subst, arith}
use Rattle.std.specs.Prelude.{IsSome, option_map}
use Rattle.std.proofs.lemmas.List.{length-append, length-map}
use Rattle.tl_messages.specs.Operations.{named_operation, has_data, opcode_has_data, beats_of}
use Rattle.tl_messages.specs.Requests.{HeldMessage, begun, with_beat, held_of, message_of, request_of, masked_word}
use Rattle.tl_messages.specs.declared.ABeat.{ABeat}
use Rattle.tl_checker.specs.Inside.{CanJoin, front_at, whole_at, limits_of, port_state, stage_after}
use Rattle.tl_checker.specs.Ports.{PortState, joined, progress_of, judged_by, judged, port_after, opening_port, is_free, ReadsAs, IsFrontOf, CameOfBeats}
use Rattle.tl_checker.specs.RequestRules.{TlPortLimits, first_fault}
use Rattle.tl_checker.specs.declared.Level.{Level}
use Rattle.tl_checker.specs.declared.Progress.{Progress}
use Rattle.tl_checker.specs.declared.Progress.TheVariants.{More, Whole}
use Rattle.tl_checker.specs.declared.TlRule.{TlRule}
use Rattle.tl_checker.specs.declared.port.Stage.{Stage}
use Rattle.tl_checker.specs.declared.port.Stage.TheVariants as stages
use Rattle.tl_checker.proofs.BeatRules.{first_none, right_named}
use Rattle.tl_checker.proofs.Fronts.{front_part, none_front}
use Rattle.tl_checker.proofs.Taking.{answered_parts, held-append, whole_by, reads}

-- nothing begun, nothing whole
pub opening_came : (limits : TlPortLimits) → CameOfBeats (opening_port limits)
opening_came limits = record { front = ([], record { begins = none_front limits; held = refl }); whole = tt }

-- ---- the answer to a beat, by the fault that it has

pub judged-some : (limits : TlPortLimits) (front : Option HeldMessage) (beat : ABeat) (busy : Bool) (rule : TlRule) → first_fault limits front beat busy ≡ Some rule → judged limits front beat busy ≡ Err rule
judged-some limits front beat busy rule is = ap (λ fault. judged_by fault (progress_of (joined limits front beat))) is

pub judged-none : (limits : TlPortLimits) (front : Option HeldMessage) (beat : ABeat) (busy : Bool) → first_fault limits front beat busy ≡ None → judged limits front beat busy ≡ Ok (progress_of (joined limits front beat))
judged-none limits front beat busy none = ap (λ fault. judged_by fault (progress_of (joined limits front beat))) none

-- how far a message is, by its beats and those that it wants
abbrev pub progress_at : ℕ → ℕ → Progress
progress_at wanted came = if nat_le wanted came then Whole else More

pub first_progress : (limits : TlPortLimits) (beat : ABeat) (busy : Bool) → first_fault limits None beat busy ≡ None → progress_of (begun limits.client beat) ≡ progress_at (beats_of beat.size (opcode_has_data beat.opcode)) 1
first_progress limits beat busy none = rw (right_named limits beat (first_none limits beat busy none).0).same_opcode refl

pub later_progress : (held : HeldMessage) (beat : ABeat) → progress_of (with_beat held beat) ≡ progress_at (beats_of held.size (has_data held.operation)) (length held.beats + 1)
later_progress held beat = rw (length-append held.beats (masked_word beat ∷ [])) refl

-- ---- what stands in a message that has begun

-- a message that has begun carries data, has room for a beat, and isn't larger than the port allows
pub record IsOpenMessage (limits : TlPortLimits) (held : HeldMessage) : Type 0 where
  pub carries : has_data held.operation ≡ true
  pub room : length held.beats < beats_of held.size true
  pub size : held.size ≤ limits.max_size

more_than_one : (n size : ℕ) (data_carried : Bool) → 0 < n → n < beats_of size data_carried → (data_carried ≡ true) × (n < beats_of size true)
more_than_one n size true some fewer = (refl, fewer)
more_than_one n size false some fewer = absurd (omega arith)

pub front_open : (limits : TlPortLimits) (beats : List ABeat) (held : HeldMessage) → IsFrontOf limits beats (Some held) → IsOpenMessage limits held
front_open limits [] held front = absurd (cc (front.held))
front_open limits (first ∷ rest) held front =
    let same : message_of limits.client first rest ≡ held = cc (front.held) in
    let open_message : IsOpenMessage limits (message_of limits.client first rest) =
    let part = front_part limits first rest front.begins in
    let right = (first_none limits first false part.begins.right).0 in
    let named = right_named limits first right in
    let some : 0 < length (first ∷ rest) = omega arith in
    let more = more_than_one (length (first ∷ rest)) first.size (opcode_has_data first.opcode) some part.fewer in
    record {
      carries = rw named.same_opcode more.0;
      room = rw (length-map rest masked_word) more.1;
      size = right.size;
    } in
    subst (IsOpenMessage limits) same open_message

-- ---- a beat

whole_after : (port : PortState) (beat : ABeat) (answer : Result Progress TlRule) → port.whole ≡ None → whole_by answer (joined port.limits port.front beat) ≡ (port_after port beat answer).whole
whole_after port beat (Err rule) none = sym none
whole_after port beat (Ok More) none = sym none
whole_after port beat (Ok Whole) none = refl

-- the answer to a beat reads as it must, of all beats that the front may have come of
pub port_reads : (port : PortState) (beat : ABeat) (busy : Bool) → port.whole ≡ None → (beats : List ABeat) → IsFrontOf port.limits beats port.front
    → ReadsAs port.limits (beats ++ beat ∷ []) (is_free port.front busy) (judged port.limits port.front beat busy) (port_after port beat (judged port.limits port.front beat busy)).whole
port_reads port beat busy none beats front =
    subst (ReadsAs port.limits (beats ++ beat ∷ []) (is_free port.front busy) (judged port.limits port.front beat busy))
    (whole_after port beat (judged port.limits port.front beat busy) none)
    (subst
    (λ held. ReadsAs port.limits (beats ++ beat ∷ []) (is_free held busy) (judged port.limits held beat busy) (whole_by (judged port.limits held beat busy) (joined port.limits held beat)))
    front.held (reads port.limits beats beat busy front.begins))

held_after : (port : PortState) (beat : ABeat) (beats : List ABeat) → IsFrontOf port.limits beats port.front → held_of port.limits.client (beats ++ beat ∷ []) ≡ Some (joined port.limits port.front beat)
held_after port beat beats front = held-append port.limits beats beat ∙ ap (λ held. Some (joined port.limits held beat)) front.held

-- what a port holds after a beat came of beats, too
pub came_by : (port : PortState) (beat : ABeat) (busy : Bool) (answer : Result Progress TlRule) → judged port.limits port.front beat busy ≡ answer → port.whole ≡ None → CameOfBeats port
    → CameOfBeats (port_after port beat answer)
came_by port beat busy (Err rule) is none came = came
came_by port beat busy (Ok More) is none came =
    let beats = came.front.0 in
    let reading = port_reads port beat busy none beats came.front.1 in
    record { front = (beats ++ beat ∷ [], record { begins = (reading.more.0 is).1; held = held_after port beat beats came.front.1 }); whole = came.whole }
came_by port beat busy (Ok Whole) is none came =
    let beats = came.front.0 in
    let reading = port_reads port beat busy none beats came.front.1 in
    let stands = ap (λ answer. option_map request_of (port_after port beat answer).whole) is in
    record {
      front = ([], record { begins = none_front port.limits; held = refl });
      whole = (beats ++ beat ∷ [], record { spells = ((reading.spelled (request_of (joined port.limits port.front beat))).0 (is, stands)).1; held = held_after port beat beats came.front.1 });
    }

first_joins : (limits : TlPortLimits) (beat : ABeat) (busy : Bool) (progress : Progress) → limits.max_size ≤ 12 → judged limits None beat busy ≡ Ok progress
    → IsSome (named_operation beat.opcode beat.param) × (beat.size ≤ 12)
first_joins limits beat busy progress most is =
    let right = (first_none limits beat busy (answered_parts (first_fault limits None beat busy) (progress_of (begun limits.client beat)) progress is).0).0 in
    ((right_named limits beat right).some, omega (arith, most, right.size))

-- an answer that is as it must be, and what it leaves, read as they must
pub reads_after : (old new : PortState) (beat : ABeat) (busy : Bool) (answer : Result Progress TlRule) → old.whole ≡ None → answer ≡ judged old.limits old.front beat busy → new ≡ port_after old beat answer
    → (beats : List ABeat) → IsFrontOf old.limits beats old.front → ReadsAs old.limits (beats ++ beat ∷ []) (is_free old.front busy) answer new.whole
reads_after old new beat busy answer none is after beats front =
    subst (λ (port : PortState). ReadsAs old.limits (beats ++ beat ∷ []) (is_free old.front busy) answer port.whole) (sym after)
    (subst (λ told. ReadsAs old.limits (beats ++ beat ∷ []) (is_free old.front busy) told (port_after old beat told).whole) (sym is) (port_reads old beat busy none beats front))

-- ---- the fields of a port

-- a beat that breaks no rule can be joined
pub can_join : (limits : TlPortLimits) (stage : Stage) (held : HeldMessage) (beat : ABeat) (busy : Bool) (progress : Progress) → limits.max_size ≤ 12
    → (beats : List ABeat) → IsFrontOf limits beats (front_at stage held) → judged limits (front_at stage held) beat busy ≡ Ok progress → CanJoin stage held beat
can_join limits stages.Free held beat busy progress most beats front is = first_joins limits beat busy progress most is
can_join limits stages.Begun held beat busy progress most beats front is = let message = front_open limits beats held front in (message.carries, message.room)
can_join limits stages.Whole held beat busy progress most beats front is = first_joins limits beat busy progress most is

-- the fields after a beat are those of the port after it
pub state_after : (client : ℕ) (level : Level) (max_size : ℕ) (stage after : Stage) (held request : HeldMessage) (beat : ABeat) (progress : Progress) → whole_at stage held ≡ None
    → after ≡ stage_after progress → request ≡ joined (limits_of client level max_size) (front_at stage held) beat
    → port_state client level max_size after request ≡ port_after (port_state client level max_size stage held) beat (Ok progress)
state_after client level max_size stage after held request beat More none stands same = rw (stands, same, none) refl
state_after client level max_size stage after held request beat Whole none stands same = rw (stands, same) refl
