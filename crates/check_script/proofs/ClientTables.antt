-- The ports of one client more.
use Rattle.std.proofs.Common.{◌≡◌, ℕ, suc, ◌+◌, [], ◌∷◌, ◌++◌, arith}
use Rattle.config.specs.Configs.{port_of}
use Rattle.config.specs.declared.Config.{Config}
use Rattle.script_text.proofs.PageLists.{map_range-suc}
use Rattle.check_script.specs.ClientPorts.{opening_clients, opening_sources}

pub opening_clients-more : (config : Config) (count : ℕ) → opening_clients config (count + 1) ≡ opening_clients config count ++ opening_sources (port_of config count) ∷ []
opening_clients-more config count =
    let next : count + 1 ≡ suc count = omega arith in
    rw next (map_range-suc (λ client. opening_sources (port_of config client)) 0 count count (omega arith))
