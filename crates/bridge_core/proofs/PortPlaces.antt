-- A client's port by its place among the ports.
use Rattle.std.proofs.Common.{◌≡◌, ℕ, ◌+◌, ◌<◌, List, [], ◌∷◌, None, Some, length, zero, suc, refl, ◌∙◌, subst, arith}
use Rattle.std.proofs.lemmas.List.{length-set}
use Rattle.std.specs.Prelude.{slice_get, slice_set}
use Rattle.tl_checker.specs.Ports.{PortState}
use Rattle.config.specs.Configs.{port_of}
use Rattle.bridge_core.specs.Inside.{ArePorts, ArePortsFrom}
use Rattle.config.specs.declared.Config.{Config}

-- the port of a client
pub record IsPort (config : Config) (ports : List PortState) (client k : ℕ) : Type 0 where
  pub port : PortState
  pub there : slice_get ports k ≡ Some port
  pub limits : port.limits ≡ port_of config client
  pub empty : port.whole ≡ None

port_from : (config : Config) (first : ℕ) (ports : List PortState) (k : ℕ) → ArePortsFrom config first ports → k < length ports → IsPort config ports (first + k) k
port_from config first [] k each below = absurd (omega (arith, below))
port_from config first (port ∷ ports) zero each below = record { port = port; there = refl; limits = subst (λ n. port.limits ≡ port_of config n) (omega arith) each.0; empty = each.1 }
port_from config first (port ∷ ports) (suc k) each below =
    let later = port_from config (suc first) ports k each.2 (omega (arith, below)) in
    record { port = later.port; there = later.there; limits = subst (λ n. later.port.limits ≡ port_of config n) (omega arith) later.limits; empty = later.empty }

pub port_at : (config : Config) (ports : List PortState) (client : ℕ) → ArePorts config ports → client < config.clients → IsPort config ports client client
port_at config ports client all below = subst (λ n. IsPort config ports n client) (omega arith) (port_from config 0 ports client all.each (omega (arith, all.count, below)))

set_from : (config : Config) (first : ℕ) (ports : List PortState) (k : ℕ) (port : PortState) → ArePortsFrom config first ports → port.limits ≡ port_of config (first + k) → port.whole ≡ None
    → ArePortsFrom config first (slice_set ports k port)
set_from config first [] k port each limits empty = tt
set_from config first (old ∷ ports) zero port each limits empty = (subst (λ n. port.limits ≡ port_of config n) (omega arith) limits, empty, each.2)
set_from config first (old ∷ ports) (suc k) port each limits empty =
    (each.0, each.1, set_from config (suc first) ports k port each.2 (subst (λ n. port.limits ≡ port_of config n) (omega arith) limits) empty)

pub are_ports_set : (config : Config) (ports : List PortState) (client : ℕ) (port : PortState) → ArePorts config ports → port.limits ≡ port_of config client → port.whole ≡ None
    → ArePorts config (slice_set ports client port)
are_ports_set config ports client port all limits empty = record { count = length-set ports client port ∙ all.count; each = set_from config 0 ports client port all.each (subst (λ n. port.limits ≡ port_of config n) (omega arith) limits) empty }
