-- What a score that is held is, as it is said in a clause.
use Rattle.score_script.specs.Profiles.{PolicyBoard}
use Rattle.score_script.specs.Scores.{Score}
use Rattle.score_script.specs.declared.score.Score.{Score as HeldScore}
use Rattle.scoreboard.specs.InsideBoards as held
use Rattle.scoreboard.specs.InsideBoards.{BoardState}

-- a board, said by its bytes
abbrev pub board_of : BoardState → PolicyBoard
board_of board = record { policy = board.policy; board = held.board_of board; unknown = board.unknown }

-- a score, with its board said so
abbrev pub score_of : HeldScore → Score
score_of score =
    record {
      board = board_of score.board;
      places = score.places;
      x_data = score.x_data;
      begins = score.begins;
      time = score.time;
      ended = score.ended;
      held = score.held;
      judged = score.judged;
      wrong = score.wrong;
      told = score.told;
      compared = score.compared;
    }
