-- A bridge on which no beat has come.
use Rattle.std.proofs.Common.{◌≡◌, ℕ, ◌+◌, List, ◌∷◌, Option, None, true, map, refl, ap, subst, zero, suc, arith}
use Rattle.std.proofs.lemmas.List.{length-replicate}
use Rattle.std.proofs.lemmas.List.FromFn.{length-map-range_with_len}
use Rattle.std.specs.Prelude.{replicate, slice_get}
use Rattle.std.specs.Option.{option_flatten}
use Rattle.tl_messages.specs.Requests.{HeldMessage}
use Rattle.tl_checker.specs.Ports.{PortState, opening_port}
use Rattle.burst_plan.specs.declared.Region.{Region}
use Rattle.axi_checker.specs.OpenBursts.{OpenBursts, nothing_open}
use Rattle.bridge_core.specs.Bridge.{boxes_of, opening_bridge, opening_requests, opening_state}
use Rattle.config.specs.Configs.{is_valid, port_of}
use Rattle.bridge_core.specs.Inside.{ArePorts, ArePortsFrom, bridge_kept, ports_from}
use Rattle.bridge_core.specs.Laws.{IsSoundBridge}
use Rattle.bridge_core.specs.HeldRequests.{RequestTable}
use Rattle.config.specs.declared.Config.{Config}

pub are_ports_from : (config : Config) (first count : ℕ) → ArePortsFrom config first (ports_from config first count)
are_ports_from config first zero = tt
are_ports_from config first (suc count) =
    (refl, refl, subst (λ next. ArePortsFrom config next (ports_from config (first + 1) count)) (omega arith) (are_ports_from config (first + 1) count))

-- they are there, and nothing has come on them
pub are_opening_ports : (config : Config) → ArePorts config (ports_from config 0 config.clients)
are_opening_ports config =
    record { count = length-map-range_with_len (λ client. opening_port (port_of config client)) 0 config.clients; each = are_ports_from config 0 config.clients }

pub opening_fronts : (config : Config) (first count : ℕ) → map (λ (port : PortState). port.front) (ports_from config first count) ≡ replicate count None
opening_fronts config first zero = refl
opening_fronts config first (suc count) = ap (λ (fronts : List (Option HeldMessage)). None ∷ fronts) (opening_fronts config (first + 1) count)

-- no message has begun
abbrev no_front : Option HeldMessage
no_front = None

pub nothing_begun : (count client : ℕ) → option_flatten (slice_get (replicate count no_front) client) ≡ None
nothing_begun zero client = refl
nothing_begun (suc count) zero = refl
nothing_begun (suc count) (suc client) = nothing_begun count client

pub sound_opening : (config : Config) (regions : List Region) → is_valid config ≡ true → IsSoundBridge (opening_state config regions)
sound_opening config regions valid =
    record {
      requests =
          record {
            config = valid;
            flights = record { requests = tt; rising = tt; one_holder = λ id. omega arith; in_order = tt; few = λ client. omega arith; own_sources = λ client source. omega arith };
            served = tt;
          };
      fronts = length-replicate config.clients None;
      free = λ client. rw (nothing_begun config.clients client) tt;
      linked = λ id. record { writes = refl; reads = refl };
      filled = refl;
    }

pub opening_kept : (config : Config) (regions : List Region) (ports : List PortState) (requests : RequestTable) (open_bursts : OpenBursts) (stock : ℕ) → ports ≡ ports_from config 0 config.clients
    → requests ≡ opening_requests config regions → open_bursts ≡ nothing_open → stock ≡ boxes_of config → bridge_kept ports requests open_bursts stock ≡ opening_bridge config regions
opening_kept config regions ports requests open_bursts stock p r o s = rw (p, r, o, s, opening_fronts config 0 config.clients) refl
