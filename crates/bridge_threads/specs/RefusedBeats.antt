-- A beat of a script that breaks a rule, on a port with no source busy. It knows beats and ports; the threads are hidden.
use Rattle.std.specs.Prelude.{ℕ, ◌≡◌, false, List, [], ◌∷◌, map, take, Option, Some, None, slice_get, if◌then◌else◌}
use Rattle.std.specs.List.{range_with_len}
use Rattle.tl_messages.specs.Requests.{HeldMessage, is_whole}
use Rattle.tl_messages.specs.declared.ABeat.{ABeat}
use Rattle.tl_checker.specs.Ports.{PortState, joined}
use Rattle.tl_checker.specs.RequestRules.{TlPortLimits, first_fault}
use Rattle.tl_checker.specs.declared.TlRule.{TlRule}
use Rattle.config.specs.Configs.{port_of}
use Rattle.config.specs.declared.Config.{Config}
use Rattle.setups.specs.Setups.{SetupLists}

-- what a port holds of a message that has begun, after one beat more
abbrev pub front_with : TlPortLimits → Option HeldMessage → ABeat → Option HeldMessage
front_with limits front beat = if is_whole (joined limits front beat) then None else Some (joined limits front beat)

-- what a port with no source busy holds after beats that it takes, or none where it refuses one
abbrev pub front_after : TlPortLimits → Option HeldMessage → List ABeat → Option (Option HeldMessage)
front_after limits front [] = Some front
front_after limits front (beat ∷ beats) =
    elim (first_fault limits front beat false) as (λ _. Option (Option HeldMessage))
    [ Some rule ↦ None | None ↦ front_after limits (front_with limits front beat) beats ]

-- a beat of a script breaks this rule first, where a port with no source busy took those before it
pub record BreaksRule (limits : TlPortLimits) (script : List ABeat) (index : ℕ) (rule : TlRule) : Type 0 where
  pub beat : ABeat
  pub front : Option HeldMessage
  pub beat_is : slice_get script index ≡ Some beat
  pub front_is : front_after limits None (take index script) ≡ Some front
  pub broken : first_fault limits front beat false ≡ Some rule

-- a beat of a client's script breaks this rule first, on the client's port
pub record IsRefusedBeat (setup : SetupLists) (scripts : List (List ABeat)) (client index : ℕ) (rule : TlRule) : Type 0 where
  pub script : List ABeat
  pub script_is : slice_get scripts client ≡ Some script
  pub breaks : BreaksRule (port_of setup.config client) script index rule

-- the limits of some ports, in order
abbrev pub limits_of_ports : List PortState → List TlPortLimits
limits_of_ports ports = map (λ port. port.limits) ports

-- the limits of the ports of so many clients
abbrev pub client_limits : Config → ℕ → List TlPortLimits
client_limits config clients = map (port_of config) (range_with_len 0 clients)
