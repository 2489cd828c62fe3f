-- What the words of a call say (this project's profile).
use Rattle.std.specs.Prelude.{ℕ, ◌/◌, ◌%◌, List, [], ◌∷◌, get_or}
use Rattle.call_words.specs.CallWords.{byte_in, line_words}
use Rattle.call_words.specs.declared.session.HandleCall.{HandleCall}
use Rattle.call_words.specs.declared.session.HandleCall.TheVariants as which
use Rattle.score_calls.specs.declared.words.CallKind.{CallKind}
use Rattle.score_calls.specs.declared.words.CallKind.TheVariants as kind

-- what is called, by the number that it has
abbrev pub kinds : List CallKind
kinds =
    kind.A ∷ kind.D ∷ kind.Aw ∷ kind.W ∷ kind.B ∷ kind.Ar ∷ kind.R ∷ kind.Unknown ∷ kind.Fill ∷ kind.Time ∷ kind.Drained
    ∷ kind.Reset ∷ kind.End ∷ kind.Line ∷ kind.Begin ∷ kind.Close ∷ kind.TextLength ∷ kind.FaultLength ∷ kind.TextByte
    ∷ kind.Outstanding ∷ kind.OpenBursts ∷ kind.Judged ∷ kind.Wrong ∷ kind.Told ∷ kind.Compared ∷ kind.Byte ∷ []

-- by the lowest byte of the head
abbrev pub kind_of : ℕ → CallKind
kind_of head = get_or kinds (head % 256) kind.None

-- those that every handle has
abbrev pub call_by : CallKind → HandleCall
call_by kind.Line = which.Line
call_by kind.Begin = which.Begin
call_by kind.Close = which.Close
call_by kind.TextLength = which.TextLength
call_by kind.FaultLength = which.FaultLength
call_by kind.TextByte = which.TextByte
call_by _ = which.Own

abbrev pub call_of : ℕ → HandleCall
call_of head = call_by (kind_of head)

-- how many words come behind a head, by what is called
abbrev pub wanted_by : CallKind → ℕ → ℕ
wanted_by kind.A head = 2
wanted_by kind.D head = 1
wanted_by kind.Aw head = 1
wanted_by kind.W head = 1
wanted_by kind.Ar head = 1
wanted_by kind.R head = 1
wanted_by kind.Time head = 1
wanted_by kind.Fill head = line_words (byte_in (head / 256))
wanted_by kind.Line head = line_words (byte_in (head / 256))
wanted_by _ head = 0

abbrev pub words_wanted : ℕ → ℕ
words_wanted head = wanted_by (kind_of head) head
