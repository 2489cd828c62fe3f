-- What a `config` line says whose fields were read one after another.
use Rattle.std.proofs.Common.{◌≡◌, ℕ, List, Option, None, Some, Ok, Err, refl}
use Rattle.config.specs.declared.Config.{Config as Limits}
use Rattle.line_text.specs.Fields.{Field, Reads, byte_field, first_wrong, short_field, unless_wrong}
use Rattle.line_text.specs.Words.{dec_at, word_at}
use Rattle.script_text.specs.Forms.{levels_field}
use Rattle.script_text.specs.SetupLines.{bus_fields, bus_in, config_fields, config_line, levels_in}

right_of : {X : Type 0} (value read : X) (wrong : Option ℕ) → Ok read ≡ unless_wrong value wrong → (wrong ≡ None) × (read ≡ value)
right_of value read None is = (refl, cc)
right_of value read (Some word) is = cc

wrong_of : {X : Type 0} (value : X) (word : ℕ) (wrong : Option ℕ) → Err word ≡ unless_wrong value wrong → wrong ≡ Some word
wrong_of value word None is = cc
wrong_of value word (Some other) is = cc

-- the fields before the bytes of the bus, where IDS and DEPTH are such words
pub record ReadsLimits (port_field : Field) (words : List (List ℕ)) (limits : Limits) : Type 0 where
  pub clients : Reads (byte_field (word_at words 2)) (dec_at words 2) 2 (Ok limits.clients)
  pub quota : Reads (byte_field (word_at words 3)) (dec_at words 3) 3 (Ok limits.quota)
  pub ids : Reads (port_field (word_at words 4)) (dec_at words 4) 4 (Ok limits.ids)
  pub depth : Reads (port_field (word_at words 5)) (dec_at words 5) 5 (Ok limits.depth)
  pub max_len : Reads (short_field (word_at words 6)) (dec_at words 6) 6 (Ok limits.max_len)
  pub max_size : Reads (byte_field (word_at words 7)) (dec_at words 7) 7 (Ok limits.max_size)
  pub levels : Reads (levels_field limits.clients (word_at words 8)) (levels_in (word_at words 8)) 8 (Ok limits.levels)

-- what is left to be right is the bytes of the bus
up_to_bus : (port_field : Field) (words : List (List ℕ)) (limits : Limits) → ReadsLimits port_field words limits → first_wrong (config_fields port_field words) words 2 ≡ first_wrong (bus_fields words) words 9
up_to_bus port_field words limits reads =
    let levels = rw reads.clients.1 at reads.levels.0 in
    rw (reads.clients.0, reads.quota.0, reads.ids.0, reads.depth.0, reads.max_len.0, reads.max_size.0, levels) refl

pub config_read : (port_field : Field) (words : List (List ℕ)) (limits : Limits) → ReadsLimits port_field words limits → Ok limits.axi_bytes ≡ unless_wrong (bus_in words) (first_wrong (bus_fields words) words 9) → Ok limits ≡ config_line port_field words
config_read port_field words limits reads bus =
    let right = right_of (bus_in words) limits.axi_bytes (first_wrong (bus_fields words) words 9) bus in
    rw (up_to_bus port_field words limits reads, right.0)
    (rw (← reads.clients.1, ← reads.quota.1, ← reads.ids.1, ← reads.depth.1, ← reads.max_len.1, ← reads.max_size.1, ← reads.levels.1, ← right.1) refl)

pub bus_wrong : (port_field : Field) (words : List (List ℕ)) (limits : Limits) (word : ℕ) → ReadsLimits port_field words limits → Err word ≡ unless_wrong (bus_in words) (first_wrong (bus_fields words) words 9) → Err word ≡ config_line port_field words
bus_wrong port_field words limits word reads bus = rw (up_to_bus port_field words limits reads, wrong_of (bus_in words) word (first_wrong (bus_fields words) words 9) bus) refl
