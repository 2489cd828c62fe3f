-- What lies behind a handle, and what a call does there, whatever it is a handle of (this project's profile).
use Rattle.std.specs.Prelude.{ℕ, ◌≡◌, ◌/◌, Bool, true, false, List, [], get_or, Result, Ok, Err}
use Rattle.call_words.specs.Answers.{FaultTold, fault_answer}
use Rattle.call_words.specs.CallWords.{byte_in, bytes_of, low_in}
use Rattle.call_words.specs.PendingCalls.{CallState, is_whole, no_call, taken}
use Rattle.call_words.specs.declared.session.HandleCall.{HandleCall}
use Rattle.call_words.specs.declared.session.HandleCall.TheVariants as which
use Rattle.call_words.specs.declared.handle.Stage.{Stage}
use Rattle.call_words.specs.declared.handle.Stage.TheVariants.{Closed, Running, SettingUp}
use Rattle.script_text.specs.declared.faults.ScriptFault.{ScriptFault}

-- what a kind of handle has, over what its set-up is and what runs once that was begun
pub record Session (S R : Type 0) : Type 1 where
  -- which call a head says, and how many words come behind it
  pub call_of : ℕ → HandleCall
  pub wanted : ℕ → ℕ
  -- a set-up of no line, what a line makes of one, and what one gives that is begun
  pub no_line : S
  pub line : S → List ℕ → S → Result (Unit {0}) ScriptFault → Type 0
  pub begun : S → Result R ScriptFault → Type 0
  -- what a call of its own, by head and words, does to what runs; its answer
  pub own : ℕ → List ℕ → R → R → ℕ → Type 0
  -- the text of what was found last, and the answer
  pub text : R → List ℕ → ℕ → Type 0

-- what a contract sees of a handle: how far it has come, the call that has begun, and the text that was asked for last
pub record HandleState (S R : Type 0) : Type 0 where
  pub stage : Stage S R
  pub call : CallState
  pub text : List ℕ

-- one as it is made
pub record IsNewOf {S R : Type 0} (no_line : S) (handle : HandleState S R) : Type 0 where
  pub stage : handle.stage ≡ SettingUp no_line
  pub call : handle.call ≡ no_call
  pub text : handle.text ≡ []

-- there is no such call, or not here
abbrev pub Refused : {S R : Type 0} → Stage S R → Stage S R → ℕ → Type 0
Refused old new answer = (new ≡ old) × (answer ≡ 8589934595)

-- ---- a call of the session's own

pub record OwnMade {S R : Type 0} (session : Session S R) (call : CallState) (old : R) (new : Stage S R) (answer : ℕ) : Type 0 where
  pub after : R
  pub stage_is : new ≡ Running after
  pub done : session.own call.head call.words old after answer

abbrev pub OwnDone : {S R : Type 0} → Session S R → CallState → Stage S R → Stage S R → ℕ → Type 0
OwnDone session call (Running old) new answer = OwnMade session call old new answer
OwnDone session call stage new answer = Refused stage new answer

-- ---- the set-up

-- one with a fault is closed
abbrev pub SetUpLeft : {S R : Type 0} → S → Result (Unit {0}) ScriptFault → Stage S R → ℕ → Type 0
SetUpLeft after (Ok done) new answer = (new ≡ SettingUp after) × (answer ≡ 0)
SetUpLeft after (Err fault) new answer = (new ≡ Closed) × (answer ≡ fault_answer fault)

pub record SetUpLine {S R : Type 0} (session : Session S R) (old : S) (line : List ℕ) (new : Stage S R) (answer : ℕ) : Type 0 where
  pub after : S
  pub told : Result (Unit {0}) ScriptFault
  pub done : session.line old line after told
  pub left : SetUpLeft after told new answer

-- a line behind the set-up is a call of the session's own
abbrev pub LineDone : {S R : Type 0} → Session S R → CallState → Stage S R → Stage S R → ℕ → Type 0
LineDone session call (SettingUp old) new answer = SetUpLine session old (bytes_of call.words (byte_in (call.head / 256))) new answer
LineDone session call stage new answer = OwnDone session call stage new answer

abbrev pub BegunLeft : {S R : Type 0} → Result R ScriptFault → Stage S R → ℕ → Type 0
BegunLeft (Ok run) new answer = (new ≡ Running run) × (answer ≡ 0)
BegunLeft (Err fault) new answer = (new ≡ Closed) × (answer ≡ fault_answer fault)

pub record Begun {S R : Type 0} (session : Session S R) (old : S) (new : Stage S R) (answer : ℕ) : Type 0 where
  pub given : Result R ScriptFault
  pub made : session.begun old given
  pub left : BegunLeft given new answer

abbrev pub BeginDone : {S R : Type 0} → Session S R → Stage S R → Stage S R → ℕ → Type 0
BeginDone session (SettingUp old) new answer = Begun session old new answer
BeginDone session stage new answer = Refused stage new answer

-- ---- the text of what was found last

abbrev pub TextTold : {S R : Type 0} → Session S R → Stage S R → List ℕ → ℕ → Type 0
TextTold session (Running run) text answer = session.text run text answer
TextTold session stage text answer = (text ≡ []) × (answer ≡ 8589934595)

-- ---- a call

-- what one that has all its words does to what lies behind the handle and to the text; its answer
abbrev pub Done : {S R : Type 0} → Session S R → HandleCall → CallState → Stage S R → List ℕ → Stage S R → List ℕ → ℕ → Type 0
Done session which.Own call old text new next answer = OwnDone session call old new answer × (next ≡ text)
Done session which.Line call old text new next answer = LineDone session call old new answer × (next ≡ text)
Done session which.Begin call old text new next answer = BeginDone session old new answer × (next ≡ text)
Done session which.Close call old text new next answer = (new ≡ Closed) × (next ≡ []) × (answer ≡ 0)
Done session which.TextLength call old text new next answer = (new ≡ old) × TextTold session old next answer
Done session which.FaultLength call old text new next answer = (new ≡ old) × FaultTold next answer
Done session which.TextByte call old text new next answer = (new ≡ old) × (next ≡ text) × (answer ≡ get_or text (low_in (call.head / 256)) 0)

-- where words are wanted yet, nothing else changes; else the call is carried out
abbrev pub CalledBy : {S R : Type 0} → Session S R → Bool → HandleState S R → HandleState S R → ℕ → Type 0
CalledBy session false old new answer = (new.stage ≡ old.stage) × (new.text ≡ old.text) × (answer ≡ 17179869184)
CalledBy session true old new answer = Done session (session.call_of new.call.head) new.call old.stage old.text new.stage new.text answer

-- a word is taken by the call that has begun, or as the head of the next; with its last word a call is carried out
pub record CalledOf {S R : Type 0} (session : Session S R) (old : HandleState S R) (word : ℕ) (new : HandleState S R) (answer : ℕ) : Type 0 where
  pub call : new.call ≡ taken old.call word (session.wanted word)
  pub told : CalledBy session (is_whole new.call) old new answer
