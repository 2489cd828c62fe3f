-- How the input is read: by blocks, and of these by lines.
use Rattle.std.specs.Prelude.{◌≡◌, ◌≢◌, ◌<◌, ◌≤◌, ◌+◌, ℕ, Bool, true, false, List, [], ◌∷◌, ◌++◌, length, take, slice_index_or, Option, Some, None, Result, Ok, Err}
use Rattle.std.specs.Io.KnownBytes.{Consumes, IsAtEnd, prepend_known}
use Rattle.line_text.specs.Words.{is_plain_line}
use Rattle.script_text.specs.declared.faults.ScriptFault.{ScriptFault}
use Rattle.script_text.specs.declared.faults.ScriptFault.TheVariants.{Read, Write}
use Rattle.script_text.specs.declared.reader.Ending.{Ending}
use Rattle.script_text.specs.declared.reader.Ending.TheVariants.{LineFeed, Input, Room}

-- ---- blocks

-- the block that was read last: what is left of it, how many bytes were taken off its front, and whether text was written since it was read; and
-- the line that was read last
pub record BlockState : Type 0 where
  pub ahead : List ℕ
  pub taken : ℕ
  pub has_text : Bool
  pub line : List ℕ

-- what is left of an input: of its block, and by its reader
abbrev pub left : BlockState → Option (List ℕ) → Option (List ℕ)
left block rest = prepend_known block.ahead rest

-- a block has at most 65,536 bytes
abbrev pub IsSmall : BlockState → Type 0
IsSmall block = block.taken + length block.ahead ≤ 65536

-- these bytes were taken; where text that was written isn't flushed, it stood before them, and no block was read meanwhile
pub record Takes (old new : BlockState) (input rest : Option (List ℕ)) (bytes : List ℕ) : Type 0 where
  pub consumed : Consumes (left old input) (left new rest) bytes
  pub same_block : new.has_text ≡ true → (old.has_text ≡ true) × (new.taken ≡ old.taken + length bytes)

-- why no more was read behind these bytes: the read failed, or the flush before it
abbrev pub Stops : BlockState → BlockState → Option (List ℕ) → Option (List ℕ) → List ℕ → ScriptFault → Type 0
Stops old new input rest bytes Read = Takes old new input rest bytes × (new.ahead ≡ [])
Stops old new input rest bytes Write = Takes old new input rest bytes × (new.ahead ≡ []) × (new.has_text ≡ true)
Stops old new input rest bytes _ = ⊥

-- the next block was read after text was flushed; it has no bytes only at the input's end
abbrev pub Fills : BlockState → BlockState → Option (List ℕ) → Option (List ℕ) → Result (Unit {0}) ScriptFault → Type 0
Fills old new input rest (Ok done) = Takes old new input rest [] × (new.has_text ≡ false) × (new.taken ≡ 0) × (new.ahead ≡ [] → IsAtEnd rest)
Fills old new input rest (Err fault) = Stops old new input rest [] fault

-- a byte was taken, or none at the input's end
abbrev pub TakesByte : BlockState → BlockState → Option (List ℕ) → Option (List ℕ) → Result (Option ℕ) ScriptFault → Type 0
TakesByte old new input rest (Ok (Some byte)) = Takes old new input rest (byte ∷ [])
TakesByte old new input rest (Ok None) = Takes old new input rest [] × (new.ahead ≡ []) × IsAtEnd rest
TakesByte old new input rest (Err fault) = Stops old new input rest [] fault

-- whether anything is left, once the next block was read where nothing was: nothing is at the input's end
abbrev pub Refills : BlockState → BlockState → Option (List ℕ) → Option (List ℕ) → Result Bool ScriptFault → Type 0
Refills old new input rest (Ok some) = Takes old new input rest [] × (some ≡ true → new.ahead ≢ []) × (some ≡ false → (new.ahead ≡ []) × IsAtEnd rest)
Refills old new input rest (Err fault) = Stops old new input rest [] fault

-- ---- lines

-- no byte is a line feed
abbrev pub IsOneLine : List ℕ → Type 0
IsOneLine bytes = (i : ℕ) → i < length bytes → slice_index_or bytes i 0 ≢ 10

-- a front of the bytes ahead that a line has room for, and what ends it behind them
abbrev pub IsPart : List ℕ → ℕ → ℕ → Option Ending → Type 0
IsPart ahead room count None = (count ≡ length ahead) × (count ≤ room) × IsOneLine ahead
IsPart ahead room count (Some LineFeed) = (count < length ahead) × (count ≤ room) × IsOneLine (take count ahead) × (slice_index_or ahead count 0 ≡ 10)
IsPart ahead room count (Some Room) = (count < length ahead) × (count ≡ room) × IsOneLine (take (count + 1) ahead)
IsPart ahead room count (Some Input) = ⊥

-- bytes of the block were taken
pub record Passes (old new : BlockState) (bytes : List ℕ) : Type 0 where
  pub front : old.ahead ≡ bytes ++ new.ahead
  pub counted : new.taken ≡ old.taken + length bytes
  pub same_text : new.has_text ≡ old.has_text

-- a part of a line was taken, and what ended it, or all that was left of the block
abbrev pub TakesPart : BlockState → BlockState → List ℕ → List ℕ → Option Ending → Type 0
TakesPart old new before after None = (after ≡ before ++ old.ahead) × (length after ≤ 129) × IsOneLine old.ahead × (new.ahead ≡ []) × Passes old new old.ahead
TakesPart old new before after (Some LineFeed) = (part : List ℕ) × (after ≡ before ++ part) × (length after ≤ 129) × IsOneLine part × Passes old new (part ++ 10 ∷ [])
TakesPart old new before after (Some Room) =
    (part : List ℕ) × (byte : ℕ) × (after ≡ before ++ part) × (length after ≡ 129) × IsOneLine part × (byte ≢ 10) × Passes old new (part ++ byte ∷ [])
TakesPart old new before after (Some Input) = ⊥

-- the next line, which may stand as it is, was taken with its line feed, or nothing was
abbrev pub TakesWhole : BlockState → BlockState → Bool → Type 0
TakesWhole old new true = (is_plain_line new.line ≡ true) × Passes old new (new.line ++ 10 ∷ [])
TakesWhole old new false = new ≡ old

-- what was taken where a line ended so
abbrev pub Ends : BlockState → BlockState → Option (List ℕ) → Option (List ℕ) → List ℕ → Ending → Type 0
Ends old new input rest line LineFeed = Takes old new input rest (line ++ 10 ∷ [])
Ends old new input rest line Input = Takes old new input rest line × (new.ahead ≡ []) × IsAtEnd rest
Ends old new input rest line Room = (byte : ℕ) × (byte ≢ 10) × (length line ≡ 129) × Takes old new input rest (line ++ byte ∷ [])

-- what was taken and how: a line of at most 129 bytes and what ended it, or a part of one where the read or a flush failed
abbrev pub ReadsLine : BlockState → BlockState → Option (List ℕ) → Option (List ℕ) → List ℕ → Result Ending ScriptFault → Type 0
ReadsLine old new input rest line (Ok ending) = IsOneLine line × (length line ≤ 129) × Ends old new input rest line ending
ReadsLine old new input rest line (Err fault) = IsOneLine line × (length line ≤ 129) × Stops old new input rest line fault
