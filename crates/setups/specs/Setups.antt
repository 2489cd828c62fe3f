-- A set-up as lists: the bridge's limits, its regions, and the memory's pages and bad words. It knows why each part refuses its own, and which
-- of several faults is told.
use Rattle.std.specs.Prelude.{ℕ, List, Option, Some, None, if◌then◌else◌, option_map}
use Rattle.std.specs.Option.{option_or}
use Rattle.burst_plan.specs.PageMap.{region_fault}
use Rattle.burst_plan.specs.declared.Region.{Region}
use Rattle.config.specs.Configs.{is_valid}
use Rattle.config.specs.declared.Config.{Config}
use Rattle.subordinate.specs.Faults.{Faults, device_fault}
use Rattle.subordinate.specs.declared.PageKind.{PageKind}
use Rattle.setups.specs.declared.Setup.{Setup}
use Rattle.setups.specs.declared.SetupFault.{SetupFault}
use Rattle.setups.specs.declared.SetupFault.TheVariants.{BadConfig, Map, Device}

-- a set-up: the limits of the bridge, the page map, the pages of the memory and its bad words
pub record SetupLists : Type 0 where
  pub config : Config
  pub regions : List Region
  pub pages : List (ℕ × PageKind)
  pub bad_words : List ℕ

-- the lists of a set-up
abbrev pub lists_of : Setup → SetupLists
lists_of setup =
    record { config = setup.config; regions = setup.regions.items; pages = setup.pages.items; bad_words = setup.bad_words.items }

-- the faults of its memory
abbrev pub faults_of : SetupLists → Faults
faults_of setup = record { pages = setup.pages; bad_words = setup.bad_words }

-- why a set-up is refused, if it is: its limits, then its regions, then its pages and words
abbrev pub setup_fault : SetupLists → Option SetupFault
setup_fault setup =
    option_or (if is_valid setup.config then None else Some BadConfig)
    (option_or (option_map Map (region_fault setup.regions)) (option_map Device (device_fault setup.pages setup.bad_words)))
