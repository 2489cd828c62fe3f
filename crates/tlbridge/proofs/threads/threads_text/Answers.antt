-- The script was read, and then what it asks for was run.
use Rattle.std.proofs.Common.{◌≡◌, ℕ, List, [], Option, Err, Ok, inl, refl, ap, subst, take, arith}
use Rattle.std.proofs.KnownBytes.{Consumes-nil, Keeps-refl}
use Rattle.script_text.specs.Scripts.{text_before_failure, text_of}
use Rattle.script_text.specs.Scripts as script
use Rattle.script_text.proofs.FixedEndings.{EndsAs-fixed}
use Rattle.line_text.specs.Words.{lines_of}
use Rattle.script_text.specs.declared.faults.ScriptFault.TheVariants.{NoMemory}
use Rattle.world_run.specs.Headline.{IsOneAtATime}
use Rattle.world_run.specs.Runs.{answers_of, handed_in, sent_in}
use Rattle.world.specs.World.{WorldState, byte_of, in_flight, opening_world}
use Rattle.world.specs.declared.Step.{Step}
use Rattle.thread_reports.specs.Reports.{IsReport}
use Rattle.thread_reports.specs.declared.receipts.Receipts.{Receipts}
use Rattle.threads_script.specs.ReportTexts.{IsReportText, report_text}
use Rattle.threads_script.specs.Asked.{AskedLists, IsSoundAsked, threads_reading}
use Rattle.threads_script.proofs.AskedScripts.{sound_asked}
use Rattle.tlbridge.specs.Threads.{FailsToRun, RunsAs}
use Rattle.tlbridge.specs.declared.faults.TextFault.{TextFault}
use Rattle.tlbridge.specs.declared.faults.TextFault.TheVariants as fault
use Rattle.tlbridge.proofs.threads.threads_text.Goals as goal

-- the text that is written is that of the report
is_text : (asked : AskedLists) (steps : List Step) (receipts : List Receipts) (world : WorldState) (addresses : List ℕ) → addresses ≡ asked.addresses → (sound : IsSoundAsked asked)
    → IsReport sound.setup (take sound.setup.config.clients asked.scripts) steps receipts world
    → IsOneAtATime sound.setup steps (answers_of (opening_world sound.setup) steps) (handed_in (opening_world sound.setup) steps) (sent_in (opening_world sound.setup) steps) (in_flight world) (byte_of world)
    → IsReportText asked (report_text (opening_world sound.setup) steps world sound.setup.config.clients addresses)
is_text asked steps receipts world addresses same sound is one_at_a_time =
    record {
      setup = sound.setup;
      set_up = sound.set_up;
      steps = steps;
      receipts = receipts;
      world = world;
      report = is;
      one_at_a_time = one_at_a_time;
      written = ap (report_text (opening_world sound.setup) steps world sound.setup.config.clients) same;
    }

-- the run failed, and nothing was written
run_failed : (asked : AskedLists) (held : Option (List ℕ)) (fault : TextFault) → FailsToRun asked fault → RunsAs asked held held (Err fault)
run_failed asked held (fault.Script line word) fails = (fails, Keeps-refl held)
run_failed asked held (fault.Setup refused) fails = (fails, Keeps-refl held)
run_failed asked held fault.Read fails = (fails, Keeps-refl held)
run_failed asked held fault.Write fails = absurd fails.fails
run_failed asked held fault.NoMemory fails = (fails, Keeps-refl held)
run_failed asked held (fault.Thread why) fails = (fails, Keeps-refl held)

-- nothing was read yet
pub returns-in_default : goal.returns-in_default
returns-in_default g c =
    record {
      reading = Err NoMemory;
      held = g.W.Write.contents c.args.writer.now;
      read =
          record {
            judged = [];
            ahead = [];
            consumed = Consumes-nil (g.R.Read.remaining c.args.reader.now);
            bound = omega arith;
            block = omega arith;
            ends = (Keeps-refl (g.W.Write.contents c.args.writer.now), inl refl);
          };
      ran = (refl, Keeps-refl (g.W.Write.contents c.args.writer.now));
    }

pub run_asked-requires-after_bounds : goal.run_asked-requires-after_bounds
run_asked-requires-after_bounds g c lifetimes outlives =
    let read = EndsAs-fixed _ _ _ _ _ _ _ c.in-Ok-read_script.ensures in
    sound_asked c.in-Ok.nothing c.in-Ok-read_script.asked 1 (lines_of read.judged) read.ends.1.1

pub report_lines-requires : goal.report_lines-requires
report_lines-requires g c =
    let read = EndsAs-fixed _ _ _ _ _ _ _ c.in-Ok-read_script.ensures in
    let sound = sound_asked c.in-Ok.nothing c.in-Ok-read_script.asked 1 (lines_of read.judged) read.ends.1.1 in
    (sound.setup, (take sound.setup.config.clients c.in-Ok-read_script.asked.scripts, c.in-Ok-run_asked.ensures.report sound.setup sound.set_up))

pub returns-in-Err-run_asked : goal.returns-in-Err-run_asked
returns-in-Err-run_asked g c =
    let asked = c.in-Ok-read_script.asked in
    let held = g.W.Write.contents c.read_script.new.writer in
    record {
      reading = Ok asked;
      held = held;
      read = EndsAs-fixed _ _ _ _ _ _ _ (rw c.in-Ok.ensures at c.in-Ok-read_script.ensures);
      ran = run_failed asked held c.in-Err-run_asked.fault c.in-Err-run_asked.ensures.fault;
    }

pub returns-in-Ok-report_lines : goal.returns-in-Ok-report_lines
returns-in-Ok-report_lines g c =
    let asked = c.in-Ok-read_script.asked in
    let read = EndsAs-fixed _ _ _ _ _ _ _ c.in-Ok-read_script.ensures in
    let sound = sound_asked c.in-Ok.nothing asked 1 (lines_of read.judged) read.ends.1.1 in
    let report = c.in-Ok-run_asked.report in
    let is = c.in-Ok-run_asked.ensures.report sound.setup sound.set_up in
    let text = report_text (opening_world sound.setup) report.steps.items report.world sound.setup.config.clients c.addresses.result.now in
    record {
      reading = Ok asked;
      held = g.W.Write.contents c.read_script.new.writer;
      read =
          subst
          (λ start. script.EndsAs 65536 (text_of threads_reading start) (text_before_failure threads_reading start) (g.R.Read.remaining c.args.reader.now) (g.R.Read.remaining c.read_script.new.reader) (g.W.Write.contents c.args.writer.now) (g.W.Write.contents c.read_script.new.writer) (Ok asked))
          c.in-Ok.ensures read;
      ran = (
        refl,
        (
          text,
          (
            is_text asked report.steps.items report.receipts.items report.world c.addresses.result.now c.addresses.ensures sound is (c.in-Ok-run_asked.ensures.one_at_a_time sound.setup sound.set_up),
            c.in-Ok-report_lines.ensures sound.setup (take sound.setup.config.clients asked.scripts) is,
          ),
        ),
      );
    }

pub returns : goal.returns
returns g c =
    let asked = c.in-Ok-read_script.asked in
    let read = EndsAs-fixed _ _ _ _ _ _ _ c.in-Ok-read_script.ensures in
    let sound = sound_asked c.in-Ok.nothing asked 1 (lines_of read.judged) read.ends.1.1 in
    let report = c.in-Ok-run_asked.report in
    let is = c.in-Ok-run_asked.ensures.report sound.setup sound.set_up in
    let text = report_text (opening_world sound.setup) report.steps.items report.world sound.setup.config.clients c.addresses.result.now in
    record {
      reading = Ok asked;
      held = g.W.Write.contents c.read_script.new.writer;
      read =
          subst
          (λ start. script.EndsAs 65536 (text_of threads_reading start) (text_before_failure threads_reading start) (g.R.Read.remaining c.args.reader.now) (g.R.Read.remaining c.read_script.new.reader) (g.W.Write.contents c.args.writer.now) (g.W.Write.contents c.read_script.new.writer) (Ok asked))
          c.in-Ok.ensures read;
      ran = (
        text,
        is_text asked report.steps.items report.receipts.items report.world c.addresses.result.now c.addresses.ensures sound is (c.in-Ok-run_asked.ensures.one_at_a_time sound.setup sound.set_up),
      );
    }
