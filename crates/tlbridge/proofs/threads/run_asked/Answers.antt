-- What is asked is fit to be run, so that its run isn't refused.
use Rattle.std.proofs.Common.{◌≡◌, ◌≢◌, ◌∙◌, ◌≤◌, ℕ, List, false, true, Ok, Err, None, Some, Result, take, refl, sym, rules}
use Rattle.std.proofs.lemmas.Bool.{false≢true}
use Rattle.std.specs.Prelude.{IfErr}
use Rattle.std.specs.Result.{result_map_both}
use Rattle.tl_messages.specs.declared.ABeat.{ABeat}
use Rattle.tl_checker.specs.declared.TlRule.{TlRule}
use Rattle.tl_checker.specs.declared.TlRule.TheVariants.{SourceBusy}
use Rattle.setups.specs.Setups.{SetupLists, lists_of, setup_fault}
use Rattle.world.specs.declared.Step.{Step}
use Rattle.thread_reports.specs.FullHistories.{IsFullHistory}
use Rattle.thread_reports.specs.Refusals.{is_refused}
use Rattle.thread_reports.specs.Reports.{items_of}
use Rattle.bridge_threads.specs.RefusedBeats.{IsRefusedBeat}
use Rattle.bridge_threads.specs.declared.threads.Fault.{Fault}
use Rattle.bridge_threads.specs.declared.threads.Fault.TheVariants as fault
use Rattle.threads_script.specs.Asked.{AskedLists}
use Rattle.threads_script.proofs.AskedRuns.{fit_runs}
use Rattle.tlbridge.specs.Threads.{FailsToRun, run_fault}
use Rattle.tlbridge.proofs.threads.run_asked.Goals as goal

-- what is known of a full history, and of a refused beat, where a run of these scripts answers that
abbrev KnowsFull : {A : Type 0} → SetupLists → List (List ABeat) → Result A Fault → Type 0
KnowsFull setup scripts answer = answer ≡ Err fault.HistoryFull → (steps : List Step) × IsFullHistory setup scripts 200000 steps

abbrev KnowsBeat : {A : Type 0} → SetupLists → List (List ABeat) → Result A Fault → Type 0
KnowsBeat setup scripts answer =
    (client index : ℕ) (rule : TlRule) → answer ≡ Err (fault.BeatRefused client index rule) → IsRefusedBeat setup scripts client index rule × (rule ≢ SourceBusy)

fails : {A : Type 0} (asked : AskedLists) (setup : SetupLists) (answer : Result A Fault) → asked.setup ≡ Some setup
    → is_refused setup (take setup.config.clients asked.scripts) (take asked.threads asked.words) 200000 100000000 ≡ false
    → (answer ≡ Err fault.BadConfig → is_refused setup (take setup.config.clients asked.scripts) (take asked.threads asked.words) 200000 100000000 ≡ true)
    → KnowsFull setup (take setup.config.clients asked.scripts) answer → KnowsBeat setup (take setup.config.clients asked.scripts) answer
    → IfErr (result_map_both (λ report. report) run_fault answer) (FailsToRun asked)
fails asked setup (Ok report) set_up runs bad full beat = tt
fails asked setup (Err fault.BadConfig) set_up runs bad full beat = absurd (false≢true (sym runs ∙ bad refl))
fails asked setup (Err fault.NoMemory) set_up runs bad full beat = record { setup = setup; set_up = set_up; runs = runs; fails = tt }
fails asked setup (Err fault.Spawn) set_up runs bad full beat = record { setup = setup; set_up = set_up; runs = runs; fails = tt }
fails asked setup (Err fault.GateShut) set_up runs bad full beat = record { setup = setup; set_up = set_up; runs = runs; fails = tt }
fails asked setup (Err fault.IdleLimit) set_up runs bad full beat = record { setup = setup; set_up = set_up; runs = runs; fails = tt }
fails asked setup (Err fault.HistoryFull) set_up runs bad full beat =
    record { setup = setup; set_up = set_up; runs = runs; fails = full refl }
fails asked setup (Err (fault.BeatRefused client index rule)) set_up runs bad full beat =
    record { setup = setup; set_up = set_up; runs = runs; fails = beat client index rule refl }
fails asked setup (Err (fault.ReceiptMismatch client index)) set_up runs bad full beat =
    record { setup = setup; set_up = set_up; runs = runs; fails = tt }

-- with the scripts and the words as they are handed to the run
fails_by : {A : Type 0} (asked : AskedLists) (setup : SetupLists) (scripts : List (List ABeat)) (words : List (List ℕ)) (answer : Result A Fault) → asked.setup ≡ Some setup
    → scripts ≡ take setup.config.clients asked.scripts → words ≡ take asked.threads asked.words
    → is_refused setup (take setup.config.clients asked.scripts) (take asked.threads asked.words) 200000 100000000 ≡ false
    → (answer ≡ Err fault.BadConfig → is_refused setup scripts words 200000 100000000 ≡ true) → KnowsFull setup scripts answer → KnowsBeat setup scripts answer
    → IfErr (result_map_both (λ report. report) run_fault answer) (FailsToRun asked)
fails_by asked setup scripts words answer set_up same_scripts same_words runs bad full beat =
    fails asked setup answer set_up runs (rw (same_scripts, same_words) at bad) (rw same_scripts at full) (rw same_scripts at beat)

pub returns-clause-fault : goal.returns-clause-fault
returns-clause-fault g c =
    let asked = c.args.asked.now in
    let setup = lists_of c.in-Some.setup.now in
    let set_up : asked.setup ≡ Some setup = search rules in
    let sound : setup_fault setup ≡ None = search rules in
    let few : setup.config.clients ≤ 8 = search rules in
    let runs = fit_runs asked setup c.scripts-scripts.ensures.fit sound few in
    let told = c.run_threads.ensures in
    rw c.asked_of.ensures
    (fails_by asked setup (items_of c.scripts-scripts.result.now) (items_of c.words.result.now) c.run_threads.result set_up c.scripts-scripts.ensures.items c.words.ensures runs told.refused.0 told.full told.beat)
