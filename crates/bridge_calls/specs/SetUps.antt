-- The set-up: lines as they stand in a script of `tlbridge run` before its first command (this project's profile).
use Rattle.std.specs.Prelude.{ℕ, ◌≡◌, ◌+◌, Bool, true, false, List, [], None, Result, Ok, Err, ⊤}
use Rattle.std.specs.Str.Lines.{strip_carriage_return}
use Rattle.setups.specs.Setups.{SetupLists, faults_of, lists_of, setup_fault}
use Rattle.setups.specs.declared.Setup.{Setup}
use Rattle.script_text.specs.Scripts.{LineStep, Reading, line_step}
use Rattle.script_text.specs.SetupRules.{bridge_rules}
use Rattle.script_text.specs.Stages.{Kind, Opening, SettingUp, Stage, reading_of, stage_as, unless_refused}
use Rattle.script_text.specs.declared.faults.ScriptFault.{ScriptFault}
use Rattle.world_run.specs.InOrder.{KeepsOrder}
use Rattle.world_run.specs.Serial.{Order}
use Rattle.bridge_calls.specs.Bridges.{BridgeState, opening_bridge}

-- it has every set-up line and none of its own; any other line is at fault at word 1, since it has no commands
abbrev pub set_up_kind : Kind SetupLists (Unit {0}) BridgeState (Unit {0})
set_up_kind =
    record {
      most_lines = 65536;
      takes = λ form. true;
      set_up = bridge_rules;
      own_opening = tt;
      own_line = λ own words. None;
      passes = λ words. false;
      command_of = λ words. Err 1;
      opened = λ own setup. unless_refused (opening_bridge setup) (setup_fault setup);
      commanded = λ bridge number command. Err 1;
      ending = λ bridge. ([], false);
      wants = λ bridge command. false;
      wants_at_end = λ bridge. false;
    }

abbrev pub set_up_reading : Reading (Stage SetupLists (Unit {0}) BridgeState) Bool
set_up_reading = reading_of set_up_kind

-- what a contract sees of a set-up: how far it has come, and how many lines it has
pub record SetUpState : Type 0 where
  pub stage : Stage Setup (Unit {0}) BridgeState
  pub number : ℕ

-- how far it has come, as it is said
abbrev pub stage_in : SetUpState → Stage SetupLists (Unit {0}) BridgeState
stage_in held = stage_as lists_of (λ (bridge : BridgeState). bridge) held.stage

-- a set-up of no line
abbrev pub no_line : SetUpState
no_line = record { stage = Opening; number = 0 }

-- what a line does, as it does where a whole text is read
abbrev pub line_done : SetUpState → List ℕ → LineStep (Stage SetupLists (Unit {0}) BridgeState)
line_done held line = line_step set_up_reading (stage_in held) (held.number + 1) (strip_carriage_return line)

-- it went well, and has no text; or it has a fault
abbrev pub SetUpTold : SetUpState → List ℕ → SetUpState → Result (Unit {0}) ScriptFault → Type 0
SetUpTold old line new (Ok done) = (line_done old line ≡ Ok ([], stage_in new)) × (new.number ≡ old.number + 1)
SetUpTold old line new (Err fault) = line_done old line ≡ Err fault

-- the opening world is in order, whatever requests are to come
abbrev pub OpensInOrder : Stage SetupLists (Unit {0}) BridgeState → Result BridgeState ScriptFault → Type 0
OpensInOrder (SettingUp setup own) (Ok bridge) =
    (order : Order) → order.faults ≡ faults_of setup → order.regions ≡ setup.regions → KeepsOrder order bridge.world
OpensInOrder stage given = ⊤
