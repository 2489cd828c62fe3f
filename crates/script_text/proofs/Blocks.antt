-- What is left of a block, and what was taken of it.
use Rattle.std.proofs.Common.{◌≡◌, ◌≢◌, ◌≤◌, ◌<◌, ℕ, ◌+◌, ◌-◌, List, [], ◌∷◌, ◌++◌, length, take, drop, true, Option, None, Some, Result, Ok, Err, get_or, is_some, refl, sym, ap, subst, ◌∙◌, append_assoc, append-nil, length-append, length-drop, length-take, length-take-le, take_all, take-append-drop, arith}
use mir.Val.{bool_byte}
use Rattle.std.proofs.KnownBytes.{Consumes-nil, Consumes-trans}
use Rattle.std.proofs.lemmas.List.{drop_all, drop_more, get_or-take, take-take}
use Rattle.std.proofs.lemmas.Slice.{between_is}
use Rattle.std.specs.List.{between}
use Rattle.std.specs.Io.KnownBytes.{Consumes}
use Rattle.line_text.proofs.Parts.{Lacks-append}
use Rattle.script_text.proofs.PlainLines.{plain-one_line, plain-short}
use Rattle.script_text.specs.Reads.{BlockState, IsOneLine, IsPart, IsSmall, Passes, ReadsLine, Takes, TakesPart, TakesWhole, left}
use Rattle.line_text.specs.Words.{is_plain_line}
use Rattle.script_text.specs.declared.faults.ScriptFault.{ScriptFault}
use Rattle.script_text.specs.declared.faults.ScriptFault.TheVariants.{Script, Setup, Read, Write, NoMemory}
use Rattle.script_text.specs.declared.reader.Ending.{Ending}
use Rattle.script_text.specs.declared.reader.Ending.TheVariants.{LineFeed, Input, Room}

pub Takes-refl : (block : BlockState) (input : Option (List ℕ)) → Takes block block input input []
Takes-refl block input = record { consumed = Consumes-nil (left block input); same_block = λ text. (text, omega arith) }

-- a block of which some was not taken yet
pub ahead-some : (bytes : List ℕ) (taken filled : ℕ) → taken < filled → filled ≤ length bytes → drop taken (take filled bytes) ≢ []
ahead-some bytes taken filled some within none =
    let long : length (drop taken (take filled bytes)) ≡ filled - taken = simp (length-drop, length-take) (omega arith) in
    omega (arith, long, ap length none)

Passes-Consumes : (old new : BlockState) (bytes : List ℕ) (rest : Option (List ℕ)) → Passes old new bytes → Consumes (left old rest) (left new rest) bytes
Passes-Consumes old new bytes None passes = tt
Passes-Consumes old new bytes (Some rest) passes = ap (λ ahead. ahead ++ rest) passes.front ∙ append_assoc bytes new.ahead rest

-- bytes of the next block after those taken before it was read
pub Takes-passed : (first old read new : BlockState) (input between rest : Option (List ℕ)) (before bytes : List ℕ) → Takes first old input between before → Takes old read between rest [] → Passes read new bytes
    → Takes first new input rest (before ++ bytes)
Takes-passed first old read new input between rest before bytes so_far next passes =
    record {
      consumed =
          Consumes-trans (left first input) (left old between) (left new rest) before bytes so_far.consumed
          (Consumes-trans (left old between) (left read rest) (left new rest) [] bytes next.consumed (Passes-Consumes read new bytes rest passes));
      same_block = λ text.
          let here = next.same_block (sym passes.same_text ∙ text) in
          let there = so_far.same_block here.0 in
          (there.0, omega (arith, passes.counted, here.1, there.1, length-append before bytes));
    }

-- ---- a line that lies whole in a block

pub ReadsLine-whole : (old new : BlockState) (input : Option (List ℕ)) → TakesWhole old new true → ReadsLine old new input input new.line (Ok LineFeed)
ReadsLine-whole old new input (plain, passes) = (
  plain-one_line new.line plain,
  omega (arith, plain-short new.line plain),
  record {
    consumed = Passes-Consumes old new (new.line ++ 10 ∷ []) input passes;
    same_block = λ text. (sym passes.same_text ∙ text, passes.counted);
  },
)

-- ---- a line that is held apart

Takes-held : (old new : BlockState) (held : List ℕ) (input rest : Option (List ℕ)) (bytes : List ℕ) → Takes old new input rest bytes → Takes old (record new { line = held }) input rest bytes
Takes-held old new held input rest bytes takes = record { consumed = takes.consumed; same_block = takes.same_block }

pub ReadsLine-held : (old new : BlockState) (held line : List ℕ) (input rest : Option (List ℕ)) (result : Result Ending ScriptFault) → ReadsLine old new input rest line result → ReadsLine old (record new { line = held }) input rest line result
ReadsLine-held old new held line input rest (Ok LineFeed) (bare, short, takes) = (bare, short, Takes-held old new held input rest (line ++ 10 ∷ []) takes)
ReadsLine-held old new held line input rest (Ok Input) (bare, short, ends) = (bare, short, (Takes-held old new held input rest line ends.0, ends.1, ends.2))
ReadsLine-held old new held line input rest (Ok Room) (bare, short, ends) = (bare, short, (ends.0, ends.1, ends.2, Takes-held old new held input rest (line ++ ends.0 ∷ []) ends.3))
ReadsLine-held old new held line input rest (Err Read) (bare, short, stops) = (bare, short, (Takes-held old new held input rest line stops.0, stops.1))
ReadsLine-held old new held line input rest (Err Write) (bare, short, stops) = (bare, short, (Takes-held old new held input rest line stops.0, stops.1, stops.2))
ReadsLine-held old new held line input rest (Err (Script number word)) (bare, short, none) = (bare, short, none)
ReadsLine-held old new held line input rest (Err (Setup fault)) (bare, short, none) = (bare, short, none)
ReadsLine-held old new held line input rest (Err NoMemory) (bare, short, none) = (bare, short, none)

-- ---- a part of a line

-- bytes that were taken, of what was ahead
abbrev pub ended : Option Ending → ℕ
ended None = 0
ended (Some ending) = 1

pub ended-is : (ending : Option Ending) → bool_byte (is_some ending) ≡ ended ending
ended-is None = refl
ended-is (Some ending) = refl

-- a block of which so many bytes more were taken
abbrev pub IsPast : BlockState → BlockState → ℕ → Type 0
IsPast old new count = (new.ahead ≡ drop count old.ahead) × (new.taken ≡ old.taken + count) × (new.has_text ≡ old.has_text)

Passes-past : (old new : BlockState) (count byte : ℕ) → count < length old.ahead → get_or old.ahead count 0 ≡ byte → IsPast old new (count + 1) → Passes old new (take count old.ahead ++ byte ∷ [])
Passes-past old new count byte within is (ahead, taken, text) =
    record {
      front =
          sym (take-append-drop count old.ahead) ∙ ap (λ rest. take count old.ahead ++ rest) (drop_more old.ahead count 0 within ∙ ap (λ b. b ∷ drop (count + 1) old.ahead) is)
          ∙ sym (append_assoc (take count old.ahead) (byte ∷ []) (drop (count + 1) old.ahead)) ∙ ap (λ rest. (take count old.ahead ++ byte ∷ []) ++ rest) (sym ahead);
      counted = omega (arith, taken, length-append (take count old.ahead) (byte ∷ []), length-take-le count old.ahead (omega arith));
      same_text = text;
    }

pub TakesWhole-part : (old new : BlockState) (count : ℕ) → count < length old.ahead → is_plain_line (take count old.ahead) ≡ true → get_or old.ahead count 0 ≡ 10 → new.line ≡ take count old.ahead → IsPast old new (count + 1)
    → TakesWhole old new true
TakesWhole-part old new count within plain byte is past = (
  subst (λ line. is_plain_line line ≡ true) (sym is) plain,
  subst (λ line. Passes old new (line ++ 10 ∷ [])) (sym is) (Passes-past old new count 10 within byte past),
)

-- bytes of a block's front, by where they stand in it
pub between-front : (bytes ahead : List ℕ) (taken filled count : ℕ) → ahead ≡ drop taken (take filled bytes) → filled ≤ length bytes → count < length ahead → between taken (taken + count) bytes ≡ take count ahead
between-front bytes ahead taken filled count is within few =
    let long : length (drop taken (take filled bytes)) ≡ filled - taken = simp (length-drop, length-take) (omega arith) in
    let room : count ≤ filled - taken = omega (arith, few, ap length is, long) in
    let same : taken + count - taken ≡ count = omega arith in
    ap (λ n. take n (drop taken bytes)) same ∙ sym (take-take count (filled - taken) (drop taken bytes) room) ∙ ap (take count) (between_is bytes taken filled ∙ sym is)

pub TakesPart-part : (old new : BlockState) (before after : List ℕ) (room count : ℕ) (ending : Option Ending) → room + length before ≡ 129 → IsPart old.ahead room count ending
    → after ≡ before ++ take count old.ahead → IsPast old new (count + ended ending) → TakesPart old new before after ending
TakesPart-part old new before after room count None short (all, few, bare) is (ahead, taken, text) =
    let whole = take_all count old.ahead (omega (arith, all)) in
    let told : after ≡ before ++ old.ahead = is ∙ ap (λ part. before ++ part) whole in (
      told,
      omega (arith, ap length told, length-append before old.ahead, few, all, short),
      bare,
      ahead ∙ drop_all (count + 0) old.ahead (omega (arith, all)),
      record {
        front = sym (ap (λ rest. old.ahead ++ rest) (ahead ∙ drop_all (count + 0) old.ahead (omega (arith, all))) ∙ append-nil old.ahead);
        counted = omega (arith, taken, all);
        same_text = text;
      },
    )
TakesPart-part old new before after room count (Some LineFeed) short (within, few, bare, byte) is past =
    (take count old.ahead, is, omega (arith, ap length is, length-append before (take count old.ahead), length-take-le count old.ahead (omega arith), few, short), bare, Passes-past old new count 10 within byte past)
TakesPart-part old new before after room count (Some Room) short (within, full, bare) is past = (
  take count old.ahead,
  get_or old.ahead count 0,
  is,
  omega (arith, ap length is, length-append before (take count old.ahead), length-take-le count old.ahead (omega arith), full, short),
  λ i below. let inside : i < count = omega (arith, below, length-take-le count old.ahead (omega arith)) in rw (get_or-take count old.ahead i 0 inside, ← get_or-take (count + 1) old.ahead i 0 (omega arith)) (bare i (omega (arith, length-take-le (count + 1) old.ahead (omega arith)))),
  rw (← get_or-take (count + 1) old.ahead count 0 (omega arith)) (bare count (omega (arith, length-take-le (count + 1) old.ahead (omega arith)))),
  Passes-past old new count (get_or old.ahead count 0) within refl past,
)
TakesPart-part old new before after room count (Some Input) short part is past = part

-- what a line takes and what holds of it then, where the block has no line feed for it
pub Takes-on : (first old read new : BlockState) (input between rest : Option (List ℕ)) (before after : List ℕ) → IsOneLine before → Takes first old input between before → Takes old read between rest [] → read.ahead ≢ []
    → TakesPart read new before after None → IsSmall read → IsOneLine after × (length before < length after) × (length after ≤ 129) × IsSmall new × Takes first new input rest after
Takes-on first old read new input between rest before after bare so_far next some (is, short, plain, none, passes) small = (
  rw is (Lacks-append 10 before read.ahead bare plain),
  omega (arith, ap length is, length-append before read.ahead, longer read.ahead some),
  short,
  omega (arith, small, passes.counted, ap length none),
  rw is (Takes-passed first old read new input between rest before read.ahead so_far next passes),
)
  where
    longer : (xs : List ℕ) → xs ≢ [] → 0 < length xs
    longer [] not = absurd (not refl)
    longer (x ∷ xs) not = omega arith
