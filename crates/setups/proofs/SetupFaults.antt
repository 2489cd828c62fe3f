-- What a set-up that isn't refused says of its limits, and that none is refused for want of memory.
use Rattle.std.proofs.Common.{◌≡◌, ◌≢◌, Bool, true, false, if◌then◌else◌, Option, None, Some, option_map, refl, rules}
use Rattle.std.specs.Option.{option_or}
use Rattle.burst_plan.specs.declared.MapFault.{MapFault}
use Rattle.subordinate.specs.declared.DeviceFault.{DeviceFault}
use Rattle.setups.specs.declared.SetupFault.{SetupFault}
use Rattle.setups.specs.declared.SetupFault.TheVariants.{BadConfig, Map, Device, NoMemory}

-- a set-up that isn't refused has valid limits
pub valid_of : (valid : Bool) (rest : Option SetupFault) → option_or (if valid then None else Some BadConfig) rest ≡ None → valid ≡ true
valid_of true rest none = refl
valid_of false rest none = absurd (cc (none))

-- its faults are those of limits, regions and device alone
pub memory_never : (valid : Bool) (regions : Option MapFault) (device : Option DeviceFault)
    → option_or (if valid then None else Some BadConfig) (option_or (option_map Map regions) (option_map Device device)) ≢ Some NoMemory
memory_never false regions device wrong = search rules
memory_never true (Some fault) device wrong = search rules
memory_never true None (Some fault) wrong = search rules
memory_never true None None wrong = search rules
