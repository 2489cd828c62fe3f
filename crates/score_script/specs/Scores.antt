-- What each line of an observation does (this project's profile).
use Rattle.std.specs.Prelude.{ℕ, ◌≡◌, ◌⊎◌, ◌+◌, ◌^◌, ◌-◌, length, Bool, true, false, not, List, [], ◌++◌, min, Option, Some, None, Result, if◌then◌else◌, is_some, nat_lt}
use Rattle.std.specs.Option.{option_or}
use Rattle.score_script.specs.FindingTexts.{last_text, optional_text}
use Rattle.score_script.specs.UnansweredTexts.{unanswered_text}
use Rattle.score_script.specs.ObservedLines.{command_of, only_settles}
use Rattle.score_script.specs.Profiles.{PolicyBoard, after_seen, bursts_open, byte_in, can_fill_in, errors_of, filled_in, nothing_asked, opening_board, own_line, policy_of, replies_open, reset_in, telling_in, wrong_in}
use Rattle.score_script.specs.declared.findings.Finding.{Finding}
use Rattle.score_script.specs.declared.findings.Finding.TheVariants as finding
use Rattle.score_script.specs.declared.findings.Findings.{Findings}
use Rattle.score_script.specs.declared.findings.Line.{Line}
use Rattle.score_script.specs.declared.lines.Channel.{Channel}
use Rattle.score_script.specs.declared.lines.Channel.TheVariants as channel
use Rattle.score_script.specs.declared.lines.SeenBeat.{SeenBeat}
use Rattle.score_script.specs.declared.score.Command.{Command}
use Rattle.score_script.specs.declared.score.Command.TheVariants as command
use Rattle.score_script.specs.declared.profiles.Asked.{Asked}
use Rattle.score_script.specs.declared.score.Counts.{Counts}
use Rattle.score_script.specs.declared.score.HeldBeat.{HeldBeat}
use Rattle.burst_plan.specs.declared.Region.{Region}
use Rattle.scoreboard.specs.Places.{wrong_place}
use Rattle.scoreboard.specs.Room.{asks_for_room}
use Rattle.scoreboard.specs.Unanswered.{messages_begun, writes_without_address}
use Rattle.scoreboard.specs.declared.ObservedBeat.{ObservedBeat}
use Rattle.scoreboard.specs.declared.ObservedBeat.TheVariants.{A, D, Axi, Drained}
use Rattle.scoreboard.specs.declared.ReplyRule.TheVariants.{Unknown}
use Rattle.scoreboard.specs.declared.Wrong.{Wrong}
use Rattle.scoreboard.specs.declared.Wrong.TheVariants.{NoClient, Reply, UnknownAxi, UnknownRequest}
use Rattle.line_text.specs.Fields.{unless_wrong}
use Rattle.script_text.specs.Scripts.{Reading}
use Rattle.script_text.specs.declared.faults.ScriptFault.{ScriptFault}
use Rattle.script_text.specs.declared.faults.ScriptFault.TheVariants.{NoMemory, Script}
use Rattle.script_text.specs.Stages.{Kind, Opening, Stage, reading_of, unless_refused}
use Rattle.score_setup.specs.ScoreSetups.{RangeLists, one_by_one, score_setup_fault}
use Rattle.script_text.specs.SetupRules.{score_rules}

-- the board; the regions to which bursts have to go, where that is asked for; whether nobody need know the bytes that requests give, and that
-- the AXI4 port has; whether nothing was observed or asked yet; the beat that is
-- held, which is that of the last line, where that is an A line; the time of what is observed, if one was given; whether the observation
-- was said to be over; how many beats were judged, and how much was found wrong; and how many bytes replies told, and how many of them were
-- compared
pub record Score : Type 0 where
  pub board : PolicyBoard
  pub places : Option (List Region)
  pub x_data : Bool
  pub begins : Bool
  pub time : Option ℕ
  pub ended : Bool
  pub held : Option HeldBeat
  pub judged : ℕ
  pub wrong : ℕ
  pub told : ℕ
  pub compared : ℕ

-- a score of which nothing was observed
abbrev pub opening_score : Asked → RangeLists → Score
opening_score asked setup =
    record {
      board = opening_board (policy_of asked.policy) (errors_of asked.errors) setup;
      places = if asked.strict then Some setup.regions else None;
      x_data = asked.x_data;
      begins = true;
      time = None;
      ended = false;
      held = None;
      judged = 0;
      wrong = 0;
      told = 0;
      compared = 0;
    }

-- ---- judging

-- a count and so many more; it stays at 2^64 - 1
abbrev pub with_more : ℕ → ℕ → ℕ
with_more count more = min (count + more) (2 ^ 64 - 1)

-- a count and one more
abbrev pub counted : ℕ → ℕ
counted count = with_more count 1

-- how many beats were judged, with what was observed last: that beats went unobserved is no beat
abbrev pub beats_judged : ℕ → ObservedBeat → ℕ
beats_judged count (A client beat) = counted count
beats_judged count (D client beat) = counted count
beats_judged count (Axi beat) = counted count
beats_judged count Drained = count

-- the client of a beat; 0 for what is of the AXI4 port
abbrev pub client_of : ObservedBeat → ℕ
client_of (A client beat) = client
client_of (D client beat) = client
client_of (Axi beat) = 0
client_of Drained = 0

-- the line of a number: it is of the time that was given last, if one was
abbrev pub line_at : Score → ℕ → Line
line_at score number = record { number = number; time = score.time }

-- a wrong beat, by its line
abbrev pub found : Line → ObservedBeat → Option Wrong → Option Finding
found line seen None = None
found line seen (Some wrong) = Some (finding.Beat line (client_of seen) wrong)

-- the score after what was observed, which was judged so
abbrev pub score_after : Score → SeenBeat → Option Wrong → Score
score_after score seen verdict =
    record score {
      board = after_seen score.board seen;
      judged = beats_judged score.judged seen.beat;
      wrong = if is_some verdict then counted score.wrong else score.wrong;
      told = with_more score.told (telling_in score.board seen.beat).told;
      compared = with_more score.compared (telling_in score.board seen.beat).compared;
    }

-- what is wrong with the place of a beat, where places are judged
abbrev pub misplaced_in : Option (List Region) → ObservedBeat → Option Wrong
misplaced_in None seen = None
misplaced_in (Some regions) seen = wrong_place regions seen

-- what the board finds, where nobody need know the bytes that requests give, and that the AXI4 port has
abbrev pub without_data : Bool → Option Wrong → Option Wrong
without_data true (Some UnknownRequest) = None
without_data true (Some UnknownAxi) = None
without_data x_data verdict = verdict

-- what is wrong with a beat, if anything is: by the board, and else by its place
abbrev pub verdict_on : Score → SeenBeat → Option Wrong
verdict_on score seen = option_or (without_data score.x_data (wrong_in score.board seen)) (misplaced_in score.places seen.beat)

-- what was observed is judged: what is found, and the score after it
abbrev pub judging : Score → Line → SeenBeat → Option Finding × Score
judging score line seen = (found line seen.beat (verdict_on score seen), score_after score seen (verdict_on score seen))

-- the held beat is judged, if there is one
abbrev pub settling_held : Score → Option HeldBeat → Option Finding × Score
settling_held score None = (None, score)
settling_held score (Some held) = judging (record score { held = None }) held.line (record { beat = A held.client held.beat; unknown = held.unknown })

-- what is found of the held beat, and the score after it
abbrev pub settling : Score → Option Finding × Score
settling score = settling_held score score.held

-- what a beat that is judged at once leaves where memory was refused, beside what was told before: nothing has changed, or the held beat was
-- judged, and what was found of it is told
abbrev pub Leaves : Score → Option Finding → Score → Option Finding → Type 0
Leaves old before new told = ((new ≡ old) × (told ≡ before)) ⊎ ((new ≡ (settling old).1) × (told ≡ (settling old).0))

-- the same of a command, by its wrong word, if it has one: then nothing has changed
abbrev pub LeavesBy : Option ℕ → Score → Option Finding → Score → Option Finding → Type 0
LeavesBy (Some word) old before new told = (new ≡ old) × (told ≡ before)
LeavesBy None old before new told = Leaves old before new told

-- ---- commands

-- what a line finds: of the beat that was held, and of its own; and whether it says that the observation is over, so that what has no answer is wrong
pub record Finds : Type 0 where
  pub held : Option Finding
  pub own : Option Finding
  pub over : Bool
  pub after : Score

-- the held beat was judged, and the line finds nothing else
abbrev pub settled_alone : Option Finding × Score → Finds
settled_alone settled = record { held = settled.0; own = None; over = false; after = settled.1 }

-- nothing is found
abbrev pub finds_nothing : Score → Finds
finds_nothing after = settled_alone (None, after)

-- the held beat was judged, and so is this one
abbrev pub judged_behind : Option Finding × Score → Line → SeenBeat → Finds
judged_behind settled line seen =
    let judged = judging settled.1 line seen in
    record (settled_alone settled) { own = judged.0; after = judged.1 }

-- a beat on channel A is held, all else is judged
abbrev pub observed_as : Option Finding × Score → Line → ObservedBeat → ℕ → Finds
observed_as settled line (A client beat) unknown =
    record (settled_alone settled) { after = record settled.1 { held = Some (record { line = line; client = client; beat = beat; unknown = unknown }) } }
observed_as settled line beat unknown = judged_behind settled line (record { beat = beat; unknown = unknown })

-- what a line of an observed beat finds
abbrev pub observing : Option Finding × Score → Line → SeenBeat → Finds
observing settled line seen = observed_as settled line seen.beat seen.unknown

-- ---- beats of which nobody knows a field but the payload

-- what is wrong with one, by its channel, where there are so many clients
abbrev pub unknown_on : ℕ → Channel → ℕ → Wrong
unknown_on clients channel.A client = if nat_lt client clients then UnknownRequest else NoClient
unknown_on clients channel.D client = if nat_lt client clients then Reply Unknown None else NoClient
unknown_on clients _ client = UnknownAxi

-- it is judged, and nothing changes but the counts
abbrev pub unclear : Option Finding × Score → Line → Channel → ℕ → Finds
unclear settled line port client =
    record (settled_alone settled) {
      own = Some (finding.Beat line client (unknown_on (length settled.1.board.board.clients) port client));
      after = record settled.1 { judged = counted settled.1.judged; wrong = counted settled.1.wrong };
    }

-- how much was found wrong where the observation is over: each reply that is due, each open burst, each write of which there are data alone, and each
-- message that isn't whole, too
abbrev pub wrong_at_end : Score → ℕ
wrong_at_end score =
    with_more (with_more (with_more (with_more score.wrong (replies_open score.board)) (bursts_open score.board)) (writes_without_address score.board.board.axi))
    (messages_begun score.board.board.clients)

-- the score where it is over
abbrev pub ended_score : Score → Score
ended_score score = record score { ended = true; wrong = wrong_at_end score }

-- the score where the bridge is reset
abbrev pub reset_score : Score → Score
reset_score score = record score { board = reset_in score.board }

-- the held beat was judged, and then the bridge is reset
abbrev pub reset_behind : Option Finding × Score → Finds
reset_behind settled = record (settled_alone settled) { after = reset_score settled.1 }

-- the held beat was judged, and the observation is over
abbrev pub ended_behind : Option Finding × Score → Finds
ended_behind settled = record (settled_alone settled) { over = true; after = ended_score settled.1 }

-- what a line of this number finds. The held beat is judged first, but where the line withdraws it; another answer and a wait find nothing of
-- their own
abbrev pub finds : Score → ℕ → Command → Finds
finds score number (command.Observed seen) = observing (settling score) (line_at score number) seen
finds score number (command.Unknown port client) = unclear (settling score) (line_at score number) port client
finds score number (command.Byte address) =
    record (settled_alone (settling score)) { own = Some (finding.Byte (byte_in (settling score).1.board address)) }
finds score number command.Withdrawal = finds_nothing (record score { held = None })
finds score number command.Answer = settled_alone (settling score)
finds score number (command.Fill address bytes) = finds_nothing (record score { board = filled_in score.board address bytes })
finds score number (command.Time time) = record (settled_alone (settling score)) { after = record (settling score).1 { time = Some time } }
finds score number command.Waited = settled_alone (settling score)
finds score number command.Reset = reset_behind (settling score)
finds score number command.End = ended_behind (settling score)

-- the same of a command that is called, and not read: a beat is judged at once, since nobody withdraws it
abbrev pub finds_at_once : Score → ℕ → Command → Finds
finds_at_once score number (command.Observed seen) = judged_behind (settling score) (line_at score number) seen
finds_at_once score number said = finds score number said

-- ---- where a command may stand

-- whether nothing but fillings was said yet, after a command; answers play no part
abbrev pub begins_after : Bool → Command → Bool
begins_after begins command.Withdrawal = begins
begins_after begins command.Answer = begins
begins_after begins (command.Fill address bytes) = begins
begins_after begins _ = false

-- the wrong word of a filling: it stands before all that was observed or asked, and fills good pages
abbrev pub wrong_fill : Score → ℕ → List ℕ → Option ℕ
wrong_fill score address bytes = if not score.begins then Some 1 else (if can_fill_in score.board address bytes then None else Some 2)

-- the wrong word of what may not stand where the observation is over
abbrev pub wrong_behind : Score → Option ℕ
wrong_behind score = if score.ended then Some 1 else None

-- the wrong word of a command, if it may not stand: behind the end nothing is observed, nor is anything reset, and all others may stand
abbrev pub wrong_command : Score → Command → Option ℕ
wrong_command score (command.Fill address bytes) = wrong_fill score address bytes
wrong_command score (command.Observed seen) = wrong_behind score
wrong_command score (command.Unknown port client) = wrong_behind score
wrong_command score command.Reset = wrong_behind score
wrong_command score command.End = wrong_behind score
wrong_command score _ = None

-- why a command wasn't carried out: its line has this wrong word, or else memory was refused
abbrev pub FailsBy : ℕ → Option ℕ → ScriptFault → Type 0
FailsBy number (Some word) fault = fault ≡ Script number word
FailsBy number None fault = fault ≡ NoMemory

-- the score after a command
abbrev pub commanded_score : Score → ℕ → Command → Score
commanded_score score number said = record (finds score number said).after { begins = begins_after score.begins said }

-- the score after a command that is called
abbrev pub called_score : Score → ℕ → Command → Score
called_score score number said = record (finds_at_once score number said).after { begins = begins_after score.begins said }

-- how much was judged and found so far, and what has no answer yet
abbrev pub counts_of : Score → Counts
counts_of score =
    record {
      judged = score.judged;
      wrong = score.wrong;
      told = score.told;
      compared = score.compared;
      outstanding = replies_open score.board;
      open_bursts = bursts_open score.board;
    }

-- the lines of what has no answer, where it was said that the observation is over
abbrev pub over_text : Score → ℕ → Bool → List ℕ
over_text score number false = []
over_text score number true = unanswered_text (line_at score number) score.board.board

-- what is told of a line, and its lines, by the score after it
abbrev pub told_of : Finds → Findings
told_of given = record { held = given.held; own = given.own; over = given.over }

abbrev pub told_text : Score → ℕ → Findings → List ℕ
told_text score number told = (optional_text told.held ++ optional_text told.own) ++ over_text score number told.over

-- what a command writes, and the score after it
abbrev pub carried_out : Score → ℕ → Command → List ℕ × Score
carried_out score number said =
    (told_text (commanded_score score number said) number (told_of (finds score number said)), commanded_score score number said)

-- or its wrong word
abbrev pub commanded : Score → ℕ → Command → Result (List ℕ × Score) ℕ
commanded score number said = unless_wrong (carried_out score number said) (wrong_command score said)

-- ---- where memory may be asked for

-- whether a beat that is held gives bytes to a good page, which may have no room for them
abbrev pub held_wants : PolicyBoard → Option HeldBeat → Bool
held_wants judge None = false
held_wants judge (Some held) = asks_for_room judge.policy judge.board (λ page. false) (A held.client held.beat)

-- at a command: where it fills the memory, or the held beat is judged, and that beat does
abbrev pub command_wants : Score → Command → Bool
command_wants score (command.Fill address bytes) = true
command_wants score command.Withdrawal = false
command_wants score said = held_wants score.board score.held

-- ---- a whole observation

-- the held beat is judged, and the last line tells how many beats were, and how many bytes were compared, with whether a beat is wrong
abbrev pub closing : Option Finding × Score → List ℕ × Bool
closing settled = (
  optional_text settled.0
      ++ last_text settled.1.judged settled.1.wrong (replies_open settled.1.board) (bursts_open settled.1.board) settled.1.compared settled.1.told,
  nat_lt 0 settled.1.wrong,
)

-- it has every set-up line, and a `profile`, an `axi` and an `errors` line of its own; without the first the profile is `bridge`, without the second no
-- place is judged, and without the third errors are told as this project's bridge tells them. An answer that only settles a beat is passed over before
-- the first command
abbrev pub score_kind : Kind RangeLists Asked Score Command
score_kind =
    record {
      most_lines = 4294967294;
      takes = λ form. true;
      set_up = score_rules;
      own_opening = nothing_asked;
      own_line = own_line;
      passes = only_settles;
      command_of = command_of;
      opened = λ asked setup. unless_refused (opening_score asked setup) (score_setup_fault (one_by_one setup));
      commanded = commanded;
      ending = λ score. closing (settling score);
      wants = command_wants;
      wants_at_end = λ score. held_wants score.board score.held;
    }

-- an observation as it is read: a board is made at the end where none was
abbrev pub score_reading : Reading (Stage RangeLists Asked Score) Bool
score_reading = reading_of score_kind

-- no line was read
abbrev pub opening_state : Stage RangeLists Asked Score
opening_state = Opening
