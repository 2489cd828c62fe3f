-- The rules on a reply's beats (TileLink 1.8, channel D; this project's profile).
use Rattle.std.specs.Prelude.{ℕ, ◌<◌, ◌≡◌, ◌≢◌, ◌==◌, Bool, true, false, ◌&&◌, ◌||◌, not, List, [], ◌∷◌, length, slice_index_or, Option, if◌then◌else◌}
use Rattle.std.specs.List.{All, list_any}
use Rattle.bus_words.specs.Tables.{first_broken}
use Rattle.tl_messages.specs.Operations.{reply_opcode, reply_has_data, beats_of}
use Rattle.tl_messages.specs.Requests.{WholeRequest}
use Rattle.tl_messages.specs.declared.DBeat.{DBeat}
use Rattle.tl_checker.specs.declared.TlRule.{TlRule}
use Rattle.tl_checker.specs.declared.TlRule.TheVariants.{DOpcode, DSize, DSource, DBeats, DDenied, DCorrupt}

-- whether a beat's corrupt flag can't be right: AccessAckData that is denied is corrupt, and the others never are
abbrev pub wrong_corrupt : DBeat → Bool
wrong_corrupt beat = if beat.opcode == 1 then beat.denied && not beat.corrupt else beat.corrupt

-- the rules on the beats of a reply to a request
abbrev pub reply_rules : WholeRequest → List DBeat → List (Bool × TlRule)
reply_rules q beats =
    (list_any (λ beat. not (beat.opcode == reply_opcode q.operation) || not (beat.param == 0)) beats, DOpcode)
    ∷ (list_any (λ beat. not (beat.size == q.size)) beats, DSize)
    ∷ (list_any (λ beat. not (beat.source == q.source)) beats, DSource)
    ∷ (not (length beats == beats_of q.size (reply_has_data q.operation)), DBeats)
    ∷ (list_any (λ beat. beat.denied) beats && list_any (λ beat. not beat.denied) beats, DDenied)
    ∷ (list_any wrong_corrupt beats, DCorrupt)
    ∷ []

-- the first rule that a reply breaks, or none
abbrev pub reply_fault : WholeRequest → List DBeat → Option TlRule
reply_fault q beats = first_broken (reply_rules q beats)

-- ---- what makes beats a reply, beat by beat

-- a beat has the fields of the reply to a request; AccessAckData that is denied is corrupt, and the other replies never are
pub record IsReplyBeat (q : WholeRequest) (beat : DBeat) : Type 0 where
  pub opcode : beat.opcode ≡ reply_opcode q.operation
  pub param : beat.param ≡ 0
  pub size : beat.size ≡ q.size
  pub source : beat.source ≡ q.source
  pub denied_data : beat.opcode ≡ 1 → beat.denied ≡ true → beat.corrupt ≡ true
  pub sound : beat.opcode ≢ 1 → beat.corrupt ≡ false

-- beats are the whole reply to a request: each is one of its beats, there are as many as it has, and all agree in denied
pub record IsReplyTo (q : WholeRequest) (beats : List DBeat) : Type 0 where
  pub each : All (IsReplyBeat q) beats
  pub many : length beats ≡ beats_of q.size (reply_has_data q.operation)
  pub agree : (j k : ℕ) (d : DBeat) → j < length beats → k < length beats
      → (slice_index_or beats j d).denied ≡ (slice_index_or beats k d).denied
