-- The set-up lines of a script (this project's profile).
use Rattle.std.specs.Prelude.{ℕ, ◌+◌, ◌^◌, ◌==◌, Bool, ◌&&◌, ◌||◌, not, List, [], ◌∷◌, ◌++◌, map, length, if◌then◌else◌, nat_lt, nat_le, codes, Result, slice_get, unwrap_or}
use Rattle.std.specs.List.{range_with_len}
use Rattle.std.specs.Str.{bytes_eq}
use Rattle.tl_checker.specs.declared.Level.{Level}
use Rattle.tl_checker.specs.declared.Level.TheVariants.{Ul, Uh}
use Rattle.burst_plan.specs.declared.Region.{Region as MapRegion}
use Rattle.config.specs.declared.Config.{Config as Limits}
use Rattle.subordinate.specs.declared.PageKind.{PageKind}
use Rattle.subordinate.specs.declared.PageKind.TheVariants.{Good, SlaveError}
use Rattle.setups.specs.Setups.{SetupLists}
use Rattle.line_text.specs.Fields.{Field, byte_field, short_field, long_field, address_field, read_as}
use Rattle.script_text.specs.Forms.{levels_field, permissions_field, count_field, kind_field}
use Rattle.line_text.specs.Words.{word_at, dec_at, hex_at}
use Rattle.script_text.specs.declared.setup_parser.SetupLine.{SetupLine}
use Rattle.script_text.specs.declared.setup_parser.SetupLine.TheVariants.{Region, Pages, BadWord}

-- ---- config CLIENTS QUOTA IDS DEPTH MAXLEN MAXSIZE LEVELS, and the bytes of the bus where they aren't 8

-- whether there is a ninth word
abbrev pub names_bus : List (List ℕ) → Bool
names_bus words = nat_le 9 (length words)

abbrev pub bus_fields : List (List ℕ) → List Field
bus_fields words = if names_bus words then byte_field ∷ [] else []

-- the bytes of the bus
abbrev pub bus_in : List (List ℕ) → ℕ
bus_in words = if names_bus words then dec_at words 9 else 8

-- the fields, where IDS and DEPTH are such words
abbrev pub config_fields : Field → List (List ℕ) → List Field
config_fields port_field words =
    byte_field ∷ byte_field ∷ port_field ∷ port_field ∷ short_field ∷ byte_field ∷ levels_field (dec_at words 2) ∷ bus_fields words

abbrev pub level_of : ℕ → Level
level_of letter = if letter == 104 then Uh else Ul

-- the level of the letter at a place, and TL-UL past the last
abbrev pub level_at : List ℕ → ℕ → Level
level_at letters place = level_of (unwrap_or (slice_get letters place) 108)

abbrev pub levels_in : List ℕ → List Level
levels_in letters = map (level_at letters) (range_with_len 0 8)

-- the limits that a `config` line gives
abbrev pub config_in : List (List ℕ) → Limits
config_in words =
    record {
      clients = dec_at words 2;
      quota = dec_at words 3;
      ids = dec_at words 4;
      depth = dec_at words 5;
      max_len = dec_at words 6;
      max_size = dec_at words 7;
      levels = levels_in (word_at words 8);
      axi_bytes = bus_in words;
    }

abbrev pub config_line : Field → List (List ℕ) → Result Limits ℕ
config_line port_field words = read_as (config_fields port_field words) words (config_in words)

-- ---- region TLPAGE PAGES AXIPAGE PERMS

abbrev pub region_fields : List Field
region_fields = address_field ∷ long_field ∷ address_field ∷ permissions_field ∷ []

-- whether a letter of the permissions isn't `-`
abbrev pub permits : List ℕ → ℕ → Bool
permits letters place = not (unwrap_or (slice_get letters place) 45 == 45)

abbrev pub permissions_in : List ℕ → List Bool
permissions_in letters = map (permits letters) (range_with_len 0 4)

abbrev pub region_in : List (List ℕ) → MapRegion
region_in words =
    record {
      tl_page = hex_at words 2;
      pages = dec_at words 3;
      axi_page = hex_at words 4;
      get = permits (word_at words 5) 0;
      put = permits (word_at words 5) 1;
      atomic = permits (word_at words 5) 2;
      hint = permits (word_at words 5) 3;
    }

abbrev pub region_line : List (List ℕ) → Result SetupLine ℕ
region_line words = read_as region_fields words (Region (region_in words))

-- ---- page AXIPAGE COUNT KIND

abbrev pub page_fields : List Field
page_fields = address_field ∷ count_field ∷ kind_field ∷ []

abbrev pub kind_in : List ℕ → PageKind
kind_in word = if bytes_eq word (codes "good") then Good else SlaveError

abbrev pub page_line : List (List ℕ) → Result SetupLine ℕ
page_line words = read_as page_fields words (Pages (hex_at words 2) (dec_at words 3) (kind_in (word_at words 4)))

-- ---- bad ADDRESS

abbrev pub bad_line : List (List ℕ) → Result SetupLine ℕ
bad_line words = read_as (address_field ∷ []) words (BadWord (hex_at words 2))

-- ---- a set-up

-- pages that follow each other
abbrev pub pages_from : ℕ → ℕ → PageKind → List (ℕ × PageKind)
pages_from first count kind = map (λ page. (page, kind)) (range_with_len first count)

-- whether a `page` line has more pages than there is room for beside those held, or one whose number is over 2^32 - 1
abbrev pub too_many_pages : ℕ → List (List ℕ) → Bool
too_many_pages held words =
    nat_le 64 held
    || count_field (word_at words 3)
    && (nat_lt 64 (held + dec_at words 3) || address_field (word_at words 2) && nat_lt (2 ^ 32) (hex_at words 2 + dec_at words 3))

-- a set-up of a `config` line alone
abbrev pub with_config : Limits → SetupLists
with_config config = record { config = config; regions = []; pages = []; bad_words = [] }

-- what another line adds to it
abbrev pub with_line : SetupLists → SetupLine → SetupLists
with_line setup (Region region) = record setup { regions = setup.regions ++ region ∷ [] }
with_line setup (Pages first count kind) = record setup { pages = setup.pages ++ pages_from first count kind }
with_line setup (BadWord address) = record setup { bad_words = setup.bad_words ++ address ∷ [] }
