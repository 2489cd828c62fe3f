-- What a TileLink port holds, what it answers to a beat, and what the answer says of the beats that came (TileLink 1.8, TL-UL and TL-UH).
use Rattle.std.specs.Prelude.{◌≡◌, ◌↔◌, Bool, ◌&&◌, not, List, Option, Some, None, is_none, option_map, Result, Ok, Err, IfSome, IsTrue, if◌then◌else◌}
use Rattle.tl_messages.specs.Requests.{HeldMessage, WholeRequest, begun, with_beat, held_of, is_whole, request_of}
use Rattle.tl_messages.specs.declared.ABeat.{ABeat}
use Rattle.tl_checker.specs.RequestRules.{TlPortLimits, first_fault, Spells, IsFront}
use Rattle.tl_checker.specs.declared.Progress.{Progress}
use Rattle.tl_checker.specs.declared.Progress.TheVariants.{More, Whole}
use Rattle.tl_checker.specs.declared.TlRule.{TlRule}

-- what a port holds: its limits, the message that has begun, and the request that stands whole
pub record PortState : Type 0 where
  pub limits : TlPortLimits
  pub front : Option HeldMessage
  pub whole : Option HeldMessage

-- a port on which no beat has come
abbrev pub opening_port : TlPortLimits → PortState
opening_port limits = record { limits = limits; front = None; whole = None }

-- the message with one more beat, be it the first
abbrev pub joined : TlPortLimits → Option HeldMessage → ABeat → HeldMessage
joined limits None beat = begun limits.client beat
joined limits (Some held) beat = with_beat held beat

-- how far a message is
abbrev pub progress_of : HeldMessage → Progress
progress_of held = if is_whole held then Whole else More

-- the answer to a beat, by the first rule that it breaks and by how far the message is with it
abbrev pub judged_by : Option TlRule → Progress → Result Progress TlRule
judged_by (Some rule) progress = Err rule
judged_by None progress = Ok progress

-- what a port answers to a beat
abbrev pub judged : TlPortLimits → Option HeldMessage → ABeat → Bool → Result Progress TlRule
judged limits front beat busy = judged_by (first_fault limits front beat busy) (progress_of (joined limits front beat))

-- what a port holds after its answer to a beat: the same where it refused, else the message with the beat
abbrev pub port_after : PortState → ABeat → Result Progress TlRule → PortState
port_after port beat (Err rule) = port
port_after port beat (Ok More) = record port { front = Some (joined port.limits port.front beat) }
port_after port beat (Ok Whole) = record port { front = None; whole = Some (joined port.limits port.front beat) }

-- ---- what it says of whole lists of beats

-- whether a beat isn't held up by a busy source: that is asked of a first beat alone
abbrev pub is_free : Option HeldMessage → Bool → Bool
is_free front busy = not (is_none front && busy)

-- what an answer says of the beats since the last request, the answered one with them, and of the request that stands then: where
-- the source is free, it is More exactly where the beats begin a spelling and at least one is still to come, and Whole exactly
-- where they spell a request, and the one that stands is that
pub record ReadsAs (limits : TlPortLimits) (beats : List ABeat) (free : Bool) (answer : Result Progress TlRule) (whole : Option HeldMessage) : Type 0 where
  pub more : (answer ≡ Ok More) ↔ (IsTrue free × IsFront limits beats)
  pub spelled : (q : WholeRequest) → ((answer ≡ Ok Whole) × (option_map request_of whole ≡ Some q)) ↔ (IsTrue free × Spells limits beats q)

-- beats that begin a spelling, and are what a front holds
pub record IsFrontOf (limits : TlPortLimits) (beats : List ABeat) (front : Option HeldMessage) : Type 0 where
  pub begins : IsFront limits beats
  pub held : held_of limits.client beats ≡ front

-- beats that spell the request that a message is
pub record IsSpellingOf (limits : TlPortLimits) (beats : List ABeat) (message : HeldMessage) : Type 0 where
  pub spells : Spells limits beats (request_of message)
  pub held : held_of limits.client beats ≡ Some message

-- some beats spell the request that a message is
abbrev pub HasSpelling : TlPortLimits → HeldMessage → Type 0
HasSpelling limits message = (beats : List ABeat) × IsSpellingOf limits beats message

-- what a port holds came of beats: what has begun, of beats that begin a spelling, and what stands whole, of beats that spell it
pub record CameOfBeats (port : PortState) : Type 0 where
  pub front : (beats : List ABeat) × IsFrontOf port.limits beats port.front
  pub whole : IfSome port.whole (HasSpelling port.limits)
