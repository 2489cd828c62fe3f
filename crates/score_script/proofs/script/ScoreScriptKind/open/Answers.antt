use Rattle.score_script.specs.ScoreStates.{score_of}
use Rattle.score_script.specs.Scores.{opening_score}
use Rattle.score_setup.proofs.ScoreSetupFaults.{score_memory_never}
use Rattle.score_setup.specs.ScoreSetups.{lists_of, ranges_of, score_setup_fault}
use Rattle.script_text.proofs.StageSteps.{opens_unless}
use Rattle.score_script.proofs.script.ScoreScriptKind.open.Goals as goal

pub returns : goal.returns
returns c =
    let setup = lists_of c.args.setup.now in
    opens_unless score_of (opening_score c.args.asked.now (ranges_of c.args.setup.now)) (score_setup_fault setup) c.new.result (score_memory_never setup) c.new.ensures.refused c.new.ensures.want c.new.ensures.opens
