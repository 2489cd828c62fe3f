-- The limits of a bridge, and what they mean for its ports (this project's profile).
use Rattle.std.specs.Prelude.{ℕ, ◌==◌, Bool, ◌&&◌, ◌||◌, nat_le, slice_get, unwrap_or}
use Rattle.bus_words.specs.Lanes.{is_between}
use Rattle.tl_checker.specs.RequestRules.{TlPortLimits}
use Rattle.tl_checker.specs.declared.Level.TheVariants.{Ul}
use Rattle.axi_checker.specs.Rules.{AxiPortLimits}
use Rattle.burst_plan.specs.Pieces.{is_max_len}
use Rattle.config.specs.declared.Config.{Config}

-- whether the limits are in their ranges
abbrev pub is_valid : Config → Bool
is_valid config =
    is_between 1 8 config.clients && is_between 1 8 config.quota && is_between 1 16 config.ids && is_between 1 4 config.depth
    && is_max_len config.max_len && is_between 3 12 config.max_size
    && (config.axi_bytes == 8 || config.axi_bytes == 4 && nat_le 2 config.max_len)

-- what a client's port allows
abbrev pub port_of : Config → ℕ → TlPortLimits
port_of config client =
    record { client = client; level = unwrap_or (slice_get config.levels client) Ul; max_size = config.max_size }

-- what the AXI4 port allows
abbrev pub axi_port_of : Config → AxiPortLimits
axi_port_of config = record { bus_bytes = config.axi_bytes; ids = config.ids; depth = config.depth }
