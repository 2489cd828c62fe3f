-- How the fields of a port make its state.
use Rattle.std.specs.Prelude.{ℕ, ◌<◌, ◌≤◌, true, length, Option, Some, None, IsSome, IsTrue}
use Rattle.tl_messages.specs.Operations.{named_operation, has_data, beats_of}
use Rattle.tl_messages.specs.Requests.{HeldMessage}
use Rattle.tl_messages.specs.declared.ABeat.{ABeat}
use Rattle.tl_checker.specs.Ports.{PortState}
use Rattle.tl_checker.specs.RequestRules.{TlPortLimits}
use Rattle.tl_checker.specs.declared.Level.{Level}
use Rattle.tl_checker.specs.declared.Progress.{Progress}
use Rattle.tl_checker.specs.declared.Progress.TheVariants as progress
use Rattle.tl_checker.specs.declared.port.Stage.{Stage}
use Rattle.tl_checker.specs.declared.port.Stage.TheVariants.{Free, Begun, Whole}

abbrev pub limits_of : ℕ → Level → ℕ → TlPortLimits
limits_of client level max_size = record { client = client; level = level; max_size = max_size }

-- the message that has begun, if one has
abbrev pub front_at : Stage → HeldMessage → Option HeldMessage
front_at Free held = None
front_at Begun held = Some held
front_at Whole held = None

-- the request that stands whole, if one does
abbrev pub whole_at : Stage → HeldMessage → Option HeldMessage
whole_at Free held = None
whole_at Begun held = None
whole_at Whole held = Some held

abbrev pub port_state : ℕ → Level → ℕ → Stage → HeldMessage → PortState
port_state client level max_size stage held =
    record { limits = limits_of client level max_size; front = front_at stage held; whole = whole_at stage held }

-- where a port stands after a beat
abbrev pub stage_after : Progress → Stage
stage_after progress.More = Begun
stage_after progress.Whole = Whole

-- whether a beat can be joined to what a port holds: to a message that carries data and of which a beat is still to come, or as the first
-- beat of one
abbrev pub CanJoin : Stage → HeldMessage → ABeat → Type 0
CanJoin Free held beat = IsSome (named_operation beat.opcode beat.param) × (beat.size ≤ 12)
CanJoin Begun held beat = IsTrue (has_data held.operation) × (length held.beats < beats_of held.size true)
CanJoin Whole held beat = IsSome (named_operation beat.opcode beat.param) × (beat.size ≤ 12)
