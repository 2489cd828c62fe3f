-- `tlbridge check`: what each line of its script does (this project's profile).
use Rattle.std.specs.Prelude.{ℕ, Bool, true, false, List, [], ◌∷◌, None, Result, Ok, Err}
use Rattle.config.specs.Configs.{is_valid}
use Rattle.config.specs.declared.Config.{Config as Limits}
use Rattle.setups.specs.Setups.{SetupLists}
use Rattle.setups.specs.declared.SetupFault.{SetupFault}
use Rattle.setups.specs.declared.SetupFault.TheVariants.{BadConfig}
use Rattle.line_text.specs.Fields.{read_as, byte_field}
use Rattle.script_text.specs.Forms.{form_of, told_as}
use Rattle.line_text.specs.OfferLines.{offer_line}
use Rattle.script_text.specs.Scripts.{Reading}
use Rattle.script_text.specs.SetupRules.{bridge_rules}
use Rattle.script_text.specs.Stages.{Kind, Stage, command_by_form, is_config_form, reading_of}
use Rattle.line_text.specs.Words.{dec_at, word_at}
use Rattle.script_text.specs.declared.keywords.Form.{Form}
use Rattle.script_text.specs.declared.keywords.Form.TheVariants as form
use Rattle.check_script.specs.ClientPorts.{PortTable, opening_table, table_after, check_text}
use Rattle.check_script.specs.declared.lines.CheckCommand.{CheckCommand}
use Rattle.check_script.specs.declared.lines.CheckCommand.TheVariants.{Offer, Free}

-- ---- reading a line

-- free CLIENT SOURCE
abbrev pub free_line : List (List ℕ) → Result CheckCommand ℕ
free_line words = read_as (byte_field ∷ byte_field ∷ []) words (Free (dec_at words 2) (dec_at words 3))

-- what a command's line of each form says, or its first wrong word; there are no other commands
abbrev pub check_command : Form → List (List ℕ) → Result CheckCommand ℕ
check_command form.Offer words = told_as (λ offer. Offer offer.0 offer.1) (offer_line words)
check_command form.Free words = free_line words
check_command _ words = Err 1

-- ---- `tlbridge check`

-- the ports of a `config` line whose limits are in their ranges
abbrev pub opened : Limits → Bool → Result PortTable SetupFault
opened config true = Ok (opening_table config)
opened config false = Err BadConfig

-- of the set-up lines it has `config` alone; at the input's end it tells whether something was refused, and writes nothing
abbrev pub check_kind : Kind SetupLists (Unit {0}) PortTable CheckCommand
check_kind =
    record {
      most_lines = 65536;
      takes = is_config_form;
      set_up = bridge_rules;
      own_opening = tt;
      own_line = λ own words. None;
      passes = λ words. false;
      command_of = λ words. command_by_form check_command words (form_of (word_at words 1));
      opened = λ own setup. opened setup.config (is_valid setup.config);
      commanded = λ table number command. Ok (check_text table command, table_after table command);
      ending = λ table. ([], table.refused);
      wants = λ table command. false;
      wants_at_end = λ table. false;
    }

abbrev pub check_reading : Reading (Stage SetupLists (Unit {0}) PortTable) Bool
check_reading = reading_of check_kind
