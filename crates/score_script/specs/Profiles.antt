-- What the lines of a set-up ask of a bridge, and the board that judges beats by it (this project's profile).
use Rattle.std.specs.Prelude.{ℕ, Bool, true, false, ◌&&◌, ◌||◌, List, [], ◌∷◌, Option, Some, None, Result, Err, if◌then◌else◌, is_some, length, unwrap_or, codes}
use Rattle.std.specs.Str.{bytes_eq}
use Rattle.line_text.specs.Fields.{Field, read_as}
use Rattle.line_text.specs.Words.{word_at}
use Rattle.axi_checker.specs.OpenBursts.{open_count}
use Rattle.score_script.specs.declared.profiles.Asked.{Asked}
use Rattle.scoreboard.specs.Boards as boards
use Rattle.scoreboard.specs.Boards.{Board}
use Rattle.serial_memory.specs.SerialMemory.{byte_at, can_fill}
use Rattle.scoreboard.specs.declared.Errors.{Errors}
use Rattle.scoreboard.specs.declared.Errors.TheVariants.{Any, Strict}
use Rattle.scoreboard.specs.declared.Policy.{Policy}
use Rattle.scoreboard.specs.declared.Policy.TheVariants.{AcceptanceOrder, RealTime}
use Rattle.scoreboard.specs.Filling.{filled_on}
use Rattle.scoreboard.specs.Resets.{reset_on}
use Rattle.scoreboard.specs.Telling.{telling_of}
use Rattle.scoreboard.specs.Unknown.{UnknownBoard, after_seen_unknown, all_over, nothing_unknown, unknown_wrong}
use Rattle.score_script.specs.declared.lines.SeenBeat.{SeenBeat}
use Rattle.scoreboard.specs.declared.ObservedBeat.{ObservedBeat}
use Rattle.scoreboard.specs.declared.tellings.Telling.{Telling}
use Rattle.scoreboard.specs.declared.Wrong.{Wrong}
use Rattle.script_text.specs.Forms.{told_as}
use Rattle.score_setup.specs.ScoreSetups.{RangeLists}

-- ---- profile PROFILE

-- a profile's name
abbrev pub profile_field : Field
profile_field word = bytes_eq word (codes "bridge") || bytes_eq word (codes "tilelink")

-- the policy of the profile of a name: by `bridge` requests take effect in order of acceptance, by `tilelink` in real time
abbrev pub policy_in : List ℕ → Policy
policy_in word = if bytes_eq word (codes "tilelink") then RealTime else AcceptanceOrder

-- the policy that a line asks for, or the first wrong word
abbrev pub profile_line : List (List ℕ) → Result Policy ℕ
profile_line words = read_as (profile_field ∷ []) words (policy_in (word_at words 2))

-- ---- axi strict

-- how strict AXI4 bursts are judged
abbrev pub strict_field : Field
strict_field word = bytes_eq word (codes "strict")

-- that bursts go to the pages of regions alone, or the first wrong word
abbrev pub axi_line : List (List ℕ) → Result Bool ℕ
axi_line words = read_as (strict_field ∷ []) words true

-- ---- errors ERRORS

-- whether errors may be told in any way where this policy was asked for, if any was: in real time alone
abbrev pub takes_any : Option Policy → Bool
takes_any None = false
takes_any (Some AcceptanceOrder) = false
takes_any (Some RealTime) = true

-- the name of a way in which errors may be told, where this policy was asked for, if any was
abbrev pub errors_field : Option Policy → Field
errors_field policy word = bytes_eq word (codes "strict") || (bytes_eq word (codes "any") && takes_any policy)

-- the way in which errors are told, by its name
abbrev pub errors_in : List ℕ → Errors
errors_in word = if bytes_eq word (codes "any") then Any else Strict

-- how errors are told, or the first wrong word
abbrev pub errors_line : Option Policy → List (List ℕ) → Result Errors ℕ
errors_line policy words = read_as (errors_field policy ∷ []) words (errors_in (word_at words 2))

-- ---- x data

-- that data may be unknown
abbrev pub data_field : Field
data_field word = bytes_eq word (codes "data")

-- that nobody need know the bytes that requests give, and that the AXI4 port has; or the first wrong word
abbrev pub x_line : List (List ℕ) → Result Bool ℕ
x_line words = read_as (data_field ∷ []) words true

-- ---- all of them

-- no line has asked for anything
abbrev pub nothing_asked : Asked
nothing_asked = record { policy = None; strict = false; errors = None; x_data = false }

-- what a `profile` line says beside those before it: a set-up has at most one
abbrev pub with_profile : Asked → List (List ℕ) → Result Asked ℕ
with_profile asked words =
    if is_some asked.policy then Err 1 else told_as (λ policy. record asked { policy = Some policy }) (profile_line words)

-- the same of an `axi` line
abbrev pub with_axi : Asked → List (List ℕ) → Result Asked ℕ
with_axi asked words = if asked.strict then Err 1 else told_as (λ strict. record asked { strict = strict }) (axi_line words)

-- the same of an `errors` line, behind the profile for which it is
abbrev pub with_errors : Asked → List (List ℕ) → Result Asked ℕ
with_errors asked words =
    if is_some asked.errors then Err 1 else told_as (λ errors. record asked { errors = Some errors }) (errors_line asked.policy words)

-- the same of an `x` line
abbrev pub with_x : Asked → List (List ℕ) → Result Asked ℕ
with_x asked words = if asked.x_data then Err 1 else told_as (λ x_data. record asked { x_data = x_data }) (x_line words)

-- what the lines so far ask for, if the words are of such a line
abbrev pub own_line : Asked → List (List ℕ) → Option (Result Asked ℕ)
own_line asked words =
    if bytes_eq (word_at words 1) (codes "profile")
    then Some (with_profile asked words)
    else
    (if bytes_eq (word_at words 1) (codes "axi")
    then Some (with_axi asked words)
    else
    (if bytes_eq (word_at words 1) (codes "errors")
    then Some (with_errors asked words)
    else (if bytes_eq (word_at words 1) (codes "x") then Some (with_x asked words) else None)))

-- the policy of a set-up, by the one that a line of it asks for, if any does
abbrev pub policy_of : Option Policy → Policy
policy_of named = unwrap_or named AcceptanceOrder

-- how errors are told in a set-up, by what a line of it asks for, if any does
abbrev pub errors_of : Option Errors → Errors
errors_of named = unwrap_or named Strict

-- ---- boards

-- the board that judges beats, by its policy; and what nobody knows of the message that each client has begun
pub record PolicyBoard : Type 0 where
  pub policy : Policy
  pub board : Board
  pub unknown : List (List ℕ)

-- nothing was observed, and errors are told so
abbrev pub opening_board : Policy → Errors → RangeLists → PolicyBoard
opening_board policy errors setup =
    record { policy = policy; board = boards.opening_from errors (boards.beginning_of setup); unknown = nothing_unknown setup.config.clients }

-- what is wrong with a beat, if anything is
abbrev pub wrong_in : PolicyBoard → SeenBeat → Option Wrong
wrong_in judge seen = unknown_wrong judge.policy judge.board seen.beat seen.unknown

-- the board whose memory began with these bytes from an address on
abbrev pub filled_in : PolicyBoard → ℕ → List ℕ → PolicyBoard
filled_in judge address bytes = record judge { board = filled_on judge.board address bytes }

-- the board where the bridge is reset
abbrev pub reset_in : PolicyBoard → PolicyBoard
reset_in judge = record judge { board = reset_on judge.board; unknown = all_over judge.unknown }

-- whether it may have: whether they are all on good pages
abbrev pub can_fill_in : PolicyBoard → ℕ → List ℕ → Bool
can_fill_in judge address bytes = can_fill judge.board.memory.faults address (length bytes)

-- how much a beat tells, and how much of that is compared
abbrev pub telling_in : PolicyBoard → ObservedBeat → Telling
telling_in judge seen = telling_of judge.policy judge.board seen

-- with another board, and what nobody knows of the messages that have begun there
abbrev pub with_unknown : PolicyBoard → UnknownBoard → PolicyBoard
with_unknown judge after = record judge { board = after.board; unknown = after.lanes }

-- the board after a beat, as far as it is known
abbrev pub after_seen : PolicyBoard → SeenBeat → PolicyBoard
after_seen judge seen =
    with_unknown judge (after_seen_unknown judge.policy (record { board = judge.board; lanes = judge.unknown }) seen.beat seen.unknown)

-- the byte at an address of a good page, as the requests accepted so far leave it in order of acceptance; none outside these pages
abbrev pub byte_in : PolicyBoard → ℕ → Option ℕ
byte_in judge address = byte_at judge.board.memory address

-- how many accepted requests have a reply that isn't whole
abbrev pub replies_open : PolicyBoard → ℕ
replies_open judge = boards.replies_open judge.board.clients

-- how many bursts are outstanding on the AXI4 port
abbrev pub bursts_open : PolicyBoard → ℕ
bursts_open judge = open_count judge.board.axi.open_bursts
