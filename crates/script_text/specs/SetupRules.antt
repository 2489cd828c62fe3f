-- What the set-up lines of a kind of script may be, and what they add up to (this project's profile).
use Rattle.std.specs.Prelude.{ℕ, ◌<◌, ◌≤◌, ◌+◌, ◌^◌, Bool, true, false, ◌&&◌, ◌||◌, List, [], ◌∷◌, ◌++◌, length, Result, Err, codes, if◌then◌else◌, nat_le, nat_lt}
use Rattle.std.specs.Str.{bytes_eq}
use Rattle.config.specs.declared.Config.{Config as Limits}
use Rattle.setups.specs.Setups.{SetupLists}
use Rattle.score_setup.specs.ScoreSetups.{RangeLists}
use Rattle.sparse_memory.specs.declared.PageRange.{PageRange}
use Rattle.sparse_memory.specs.declared.RangeKind.{RangeKind}
use Rattle.sparse_memory.specs.declared.RangeKind.TheVariants.{SlaveError, Unknown, Zeros}
use Rattle.line_text.specs.Fields.{Field, address_field, byte_field, read_as, short_field}
use Rattle.line_text.specs.Words.{dec_at, hex_at, word_at}
use Rattle.script_text.specs.Forms.{range_count_field, range_kind_field, told_as}
use Rattle.script_text.specs.SetupLines.{bad_line, config_line, page_line, region_fields, region_in, region_line, too_many_pages, with_config, with_line}
use Rattle.script_text.specs.declared.keywords.Form.{Form}
use Rattle.script_text.specs.declared.keywords.Form.TheVariants as form
use Rattle.script_text.specs.declared.setup_parser.SetupLine.{SetupLine}
use Rattle.script_text.specs.declared.setup_parser.SetupLine.TheVariants.{BadWord, Pages, Region}

-- the set-up lines of a kind of script: what a `config` line gives, or its first wrong word; whether there is no room for a line of a form; and the
-- set-up with a line of a form that isn't `config`, or that line's first wrong word
pub record SetupRules (Z : Type 0) : Type 0 where
  pub of_config : List (List ℕ) → Result Z ℕ
  pub has_no_room : Z → Form → List (List ℕ) → Bool
  pub with_line : Z → Form → List (List ℕ) → Result Z ℕ

-- ---- the set-up of this project's bridge

-- whether a set-up has no room for one line more of this form; it takes one `config` line, 16 regions, 64 pages and 64 bad words
abbrev pub has_no_room : SetupLists → Form → List (List ℕ) → Bool
has_no_room setup form.Config words = true
has_no_room setup form.Region words = nat_le 16 (length setup.regions)
has_no_room setup form.Page words = too_many_pages (length setup.pages) words
has_no_room setup form.BadWord words = nat_le 64 (length setup.bad_words)
has_no_room setup _ words = false

-- what a set-up line of each form but `config` says, or its first wrong word
abbrev pub setup_line : Form → List (List ℕ) → Result SetupLine ℕ
setup_line form.Region words = region_line words
setup_line form.Page words = page_line words
setup_line form.BadWord words = bad_line words
setup_line _ words = Err 1

-- a line that a set-up has room for
abbrev pub HasRoomFor : SetupLists → SetupLine → Type 0
HasRoomFor setup (Region region) = length setup.regions < 16
HasRoomFor setup (Pages first count kind) = (length setup.pages + count ≤ 64) × (first + count ≤ 2 ^ 32)
HasRoomFor setup (BadWord address) = length setup.bad_words < 64

abbrev pub bridge_rules : SetupRules SetupLists
bridge_rules =
    record {
      of_config = λ words. told_as with_config (config_line byte_field words);
      has_no_room = has_no_room;
      with_line = λ setup form words. told_as (with_line setup) (setup_line form words);
    }

-- ---- the set-up of a bridge that is only observed

-- a set-up of a `config` line alone
abbrev pub with_limits : Limits → RangeLists
with_limits config = record { config = config; regions = []; ranges = []; bad_words = [] }

-- what the pages of a kind are: good ones begin as zeros, and what those of any begin with nobody knows
abbrev pub range_kind_in : List ℕ → RangeKind
range_kind_in word = if bytes_eq word (codes "good") then Zeros else (if bytes_eq word (codes "any") then Unknown else SlaveError)

-- page AXIPAGE COUNT KIND
abbrev pub range_fields : List Field
range_fields = address_field ∷ range_count_field ∷ range_kind_field ∷ []

abbrev pub range_in : List (List ℕ) → PageRange
range_in words = record { first = hex_at words 2; count = dec_at words 3; kind = range_kind_in (word_at words 4) }

-- whether there is no room for a `page` line beside those held, or a page of it has a number over 2^32 - 1
abbrev pub too_many_ranges : ℕ → List (List ℕ) → Bool
too_many_ranges held words =
    nat_le 1024 held
    || range_count_field (word_at words 3) && address_field (word_at words 2) && nat_lt (2 ^ 32) (hex_at words 2 + dec_at words 3)

-- whether a set-up has no room for one line more of this form; it takes one `config` line, 64 regions, 1,024 `page` lines and 64 bad words
abbrev pub has_no_room_to_score : RangeLists → Form → List (List ℕ) → Bool
has_no_room_to_score setup form.Config words = true
has_no_room_to_score setup form.Region words = nat_le 64 (length setup.regions)
has_no_room_to_score setup form.Page words = too_many_ranges (length setup.ranges) words
has_no_room_to_score setup form.BadWord words = nat_le 64 (length setup.bad_words)
has_no_room_to_score setup _ words = false

-- what a line of each form but `config` adds, or its first wrong word
abbrev pub with_line_to_score : RangeLists → Form → List (List ℕ) → Result RangeLists ℕ
with_line_to_score setup form.Region words = read_as region_fields words (record setup { regions = setup.regions ++ region_in words ∷ [] })
with_line_to_score setup form.Page words = read_as range_fields words (record setup { ranges = setup.ranges ++ range_in words ∷ [] })
with_line_to_score setup form.BadWord words =
    read_as (address_field ∷ []) words (record setup { bad_words = setup.bad_words ++ hex_at words 2 ∷ [] })
with_line_to_score setup _ words = Err 1

-- IDS and DEPTH may be larger
abbrev pub score_rules : SetupRules RangeLists
score_rules =
    record {
      of_config = λ words. told_as with_limits (config_line short_field words);
      has_no_room = has_no_room_to_score;
      with_line = with_line_to_score;
    }
