-- `tlbridge threads`: how its call ends (this project's profile).
use Rattle.std.specs.Prelude.{ℕ, ◌≡◌, ◌≢◌, ⊤, Bool, false, List, take, Option, Some, Result, Ok, Err}
use Rattle.std.specs.Io.KnownBytes.{Appends, Keeps}
use Rattle.tl_messages.specs.declared.ABeat.{ABeat}
use Rattle.tl_checker.specs.declared.TlRule.TheVariants.{SourceBusy}
use Rattle.setups.specs.Setups.{SetupLists}
use Rattle.world.specs.declared.Step.{Step}
use Rattle.thread_reports.specs.FullHistories.{IsFullHistory}
use Rattle.thread_reports.specs.Refusals.{is_refused}
use Rattle.bridge_threads.specs.RefusedBeats.{IsRefusedBeat}
use Rattle.bridge_threads.specs.declared.threads.Fault.{Fault}
use Rattle.bridge_threads.specs.declared.threads.Fault.TheVariants as fault
use Rattle.script_text.specs.Scripts.{text_before_failure, text_of}
use Rattle.script_text.specs.Scripts as script
use Rattle.script_text.specs.declared.faults.ScriptFault.{ScriptFault}
use Rattle.threads_script.specs.Asked.{AskedLists, nothing_asked, threads_reading}
use Rattle.threads_script.specs.ReportTexts.{IsReportText}
use Rattle.tlbridge.specs.Endings.{text_fault}
use Rattle.tlbridge.specs.declared.faults.TextFault.{TextFault}
use Rattle.tlbridge.specs.declared.faults.TextFault.TheVariants.{Script, Setup, Read, Write, NoMemory, Thread}

-- a fault of a run; want of memory is told as such
abbrev pub run_fault : Fault → TextFault
run_fault fault.NoMemory = NoMemory
run_fault other = Thread other

-- how a run may fail that isn't refused: HistoryFull only where there is a full history, of 200,000 steps, and BeatRefused only where that beat of
-- that client's script breaks that rule first, which isn't a busy source; want of memory is told as such
abbrev pub MayFail : SetupLists → List (List ABeat) → Fault → Type 0
MayFail setup scripts fault.BadConfig = ⊥
MayFail setup scripts fault.NoMemory = ⊥
MayFail setup scripts fault.HistoryFull = (steps : List Step) × IsFullHistory setup scripts 200000 steps
MayFail setup scripts (fault.BeatRefused client index rule) = IsRefusedBeat setup scripts client index rule × (rule ≢ SourceBusy)
MayFail setup scripts _ = ⊤

-- as which fault of the program that is told: as itself, or as want of memory, of which nothing more is known
abbrev pub MayTell : SetupLists → List (List ABeat) → TextFault → Type 0
MayTell setup scripts (Thread fault) = MayFail setup scripts fault
MayTell setup scripts NoMemory = ⊤
MayTell setup scripts (Script line word) = ⊥
MayTell setup scripts (Setup fault) = ⊥
MayTell setup scripts Read = ⊥
MayTell setup scripts Write = ⊥

-- how a run of what is asked may fail before its text is written: it isn't refused, with room for 200,000 steps and 100,000,000 idle turns
pub record FailsToRun (asked : AskedLists) (fault : TextFault) : Type 0 where
  pub setup : SetupLists
  pub set_up : asked.setup ≡ Some setup
  pub runs : is_refused setup (take setup.config.clients asked.scripts) (take asked.threads asked.words) 200000 100000000 ≡ false
  pub fails : MayTell setup (take setup.config.clients asked.scripts) fault

-- what is asked was run, and the text of a report was written; or the run failed, and nothing was written; or the writer did, when there was such a
-- text
abbrev pub RunsAs : AskedLists → Option (List ℕ) → Option (List ℕ) → Result Bool TextFault → Type 0
RunsAs asked before after (Ok refused) = (refused ≡ false) × ((text : List ℕ) × (IsReportText asked text × Appends before after text))
RunsAs asked before after (Err Write) = (text : List ℕ) × IsReportText asked text
RunsAs asked before after (Err fault) = FailsToRun asked fault × Keeps before after

-- the run of a script that was read without fault, or the fault of its reading
abbrev pub RunsOn : Result AskedLists ScriptFault → Option (List ℕ) → Option (List ℕ) → Result Bool TextFault → Type 0
RunsOn (Ok asked) before after result = RunsAs asked before after result
RunsOn (Err fault) before after result = (result ≡ Err (text_fault fault)) × Keeps before after

-- the script is read to its end or its first fault, and nothing is written meanwhile; then what it asks for is run
pub record EndsAsRead (input rest old new : Option (List ℕ)) (result : Result Bool TextFault) : Type 0 where
  pub reading : Result AskedLists ScriptFault
  pub held : Option (List ℕ)
  pub read : script.EndsAs 65536 (text_of threads_reading nothing_asked) (text_before_failure threads_reading nothing_asked) input rest old held reading
  pub ran : RunsOn reading held new result
