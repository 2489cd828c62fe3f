-- A beat that is blamed by a rule breaks the same rule against a beat that is alike.
use Rattle.std.proofs.Common.{◌≡◌, ℕ, ◌+◌, ◌-◌, ◌==◌, Bool, true, false, not, List, [], ◌∷◌, ◌++◌, length, map, take, Option, Some, None, refl, sym, ◌∙◌, ap, subst, arith}
use Rattle.tl_messages.specs.Operations.{beats_of}
use Rattle.std.proofs.lemmas.Bool.Decides.{nat_tests}
use Rattle.bus_words.specs.Tables.{first_broken}
use Rattle.bus_words.proofs.Ranges.{none_passes}
use Rattle.tl_messages.specs.declared.DBeat.{DBeat}
use Rattle.scoreboard.specs.declared.ReplyRule.{ReplyRule}
use Rattle.scoreboard.specs.declared.ReplyRule.TheVariants as rule
use Rattle.scoreboard.specs.declared.Wrong.{Wrong}
use Rattle.scoreboard.specs.declared.Wrong.TheVariants as wrong
use Rattle.scoreboard.specs.Boards.{differs_in, due_beat, failed_beat, reply_rules, tells_otherwise, unless_indeterminate, wrong_beat, wrong_by, wrong_told}
use Rattle.scoreboard.specs.Flights.{Footprint}
use Rattle.scoreboard.proofs.acceptance_order.KnownLanes.{any_same}
use Rattle.scoreboard.proofs.real_time.AlikeBeats.{Alike, LeftAlike, Same, Words}
use Rattle.scoreboard.proofs.real_time.Failures.{shape_of}

-- what is wrong with a beat of the reply to a request that hasn't failed
abbrev pub wrong_sure : Footprint → List DBeat → DBeat → Option Wrong
wrong_sure footprint [] beat = Some (wrong.Reply rule.Unasked None)
wrong_sure footprint (due ∷ rest) beat =
    wrong_by due (unless_indeterminate (tells_otherwise footprint (beats_of footprint.size true - length (due ∷ rest)) due beat) (first_broken (reply_rules due beat)))

pub sure_told : (footprint : Footprint) (told : Option Bool) (beats : List DBeat) (beat : DBeat) → footprint.failed ≡ false
    → wrong_told footprint told beats beat ≡ wrong_sure footprint beats beat
sure_told footprint told beats beat sound = grind (arith, sound)

-- where a payload differs it tells of nothing that is determined
tells_nothing : (footprint : Footprint) (k : ℕ) (due other beat : DBeat) → Alike footprint k due other → beat.payload ≡ other.payload
    → tells_otherwise footprint k due beat ≡ false
tells_nothing footprint k due other beat alike is =
    rw (none_passes (differs_in footprint k due.payload beat.payload) 0 8
    (λ lane below. grind (arith, nat_tests, is, alike.payload (0 + lane) (omega (arith, below))))) (grind arith)

-- what is blamed by a rule breaks this rule, and a payload tells otherwise
is_blamed : (due : DBeat) (otherwise : Bool) (first : Option ReplyRule) (broken : ReplyRule) (told : Option DBeat)
    → wrong_by due (unless_indeterminate otherwise first) ≡ Some (wrong.Reply broken told)
    → (first ≡ Some broken) × (broken ≡ rule.Payload → otherwise ≡ true)
is_blamed due otherwise first broken told is = grind (arith, is)

-- the first rule that is broken stays, where the last is broken too if it is that
kept_rule : (rows : List (Bool × ReplyRule)) (last broken : ReplyRule) (f g : Bool) → first_broken (rows ++ (f, last) ∷ []) ≡ Some broken
    → (broken ≡ last → g ≡ true) → first_broken (rows ++ (g, last) ∷ []) ≡ Some broken
kept_rule [] last broken f g is as_last = grind (arith, is, as_last)
kept_rule ((true, first) ∷ rows) last broken f g is as_last = is
kept_rule ((false, first) ∷ rows) last broken f g is as_last = kept_rule rows last broken f g is as_last

same_rule : (footprint : Footprint) (k : ℕ) (due other beat : DBeat) (broken : ReplyRule) (told : Option DBeat) → Alike footprint k due other
    → wrong_by due (unless_indeterminate (tells_otherwise footprint k due beat) (first_broken (reply_rules due beat))) ≡ Some (wrong.Reply broken told)
    → first_broken (reply_rules other beat) ≡ Some broken
same_rule footprint k due other beat broken told alike is =
    let blamed = is_blamed due (tells_otherwise footprint k due beat) (first_broken (reply_rules due beat)) broken told is in
    let differs : broken ≡ rule.Payload → not (beat.payload == other.payload) ≡ true =
    λ payload. grind (arith, nat_tests, tells_nothing footprint k due other beat alike, blamed.1 payload) in
    subst (λ (o : DBeat). first_broken (reply_rules o beat) ≡ Some broken) (sym alike.rest)
    (kept_rule (take 5 (reply_rules due beat)) rule.Payload broken (not (beat.payload == due.payload)) (not (beat.payload == other.payload)) blamed.0 differs)

-- ---- the same rule, blamed of the other beat too

otherwise_same : (footprint : Footprint) (k : ℕ) (due other beat : DBeat) → Alike footprint k due other
    → tells_otherwise footprint k other beat ≡ tells_otherwise footprint k due beat
otherwise_same footprint k due other beat alike =
    let opcode : other.opcode ≡ due.opcode = ap (λ (o : DBeat). o.opcode) alike.rest in
    let corrupt : other.corrupt ≡ due.corrupt = ap (λ (o : DBeat). o.corrupt) alike.rest in
    let lanes = any_same (differs_in footprint k other.payload beat.payload) (differs_in footprint k due.payload beat.payload) 0 8
    (λ lane below. grind (arith, nat_tests, alike.payload (0 + lane) (omega (arith, below)))) in
    rw (opcode, corrupt, lanes) refl

still_blamed : (due : DBeat) (otherwise : Bool) (first : Option ReplyRule) (broken : ReplyRule) → first ≡ Some broken → (broken ≡ rule.Payload → otherwise ≡ true)
    → wrong_by due (unless_indeterminate otherwise first) ≡ Some (wrong.Reply broken (Some due))
still_blamed due otherwise first broken is tells = grind (arith, is, tells)

-- beats that are blamed by a rule are blamed by it too, where they are beside others that are alike, as many are left
pub left_told : (footprint : Footprint) (mine theirs : List DBeat) (beat : DBeat) (broken : ReplyRule) (told : Option DBeat) → LeftAlike footprint mine theirs
    → length mine ≡ length theirs → wrong_sure footprint mine beat ≡ Some (wrong.Reply broken told)
    → (other : Option DBeat) × (wrong_sure footprint theirs beat ≡ Some (wrong.Reply broken other))
left_told footprint mine theirs beat broken told (Same same) long is = (told, sym (ap (λ (beats : List DBeat). wrong_sure footprint beats beat) same) ∙ is)
left_told footprint mine theirs beat broken told (Words k due other rest others is_mine is_theirs alike place) long is =
    let blamed =
    sym (ap (λ (n : ℕ). wrong_by due (unless_indeterminate (tells_otherwise footprint n due beat) (first_broken (reply_rules due beat)))) place)
    ∙ sym (ap (λ (beats : List DBeat). wrong_sure footprint beats beat) is_mine) ∙ is in
    let its = is_blamed due (tells_otherwise footprint k due beat) (first_broken (reply_rules due beat)) broken told blamed in
    let first = same_rule footprint k due other beat broken told alike blamed in
    let as_many : length (other ∷ others) ≡ length (due ∷ rest) = sym (ap length is_theirs) ∙ sym long ∙ ap length is_mine in
    let number : beats_of footprint.size true - length (other ∷ others) ≡ k = ap (λ (n : ℕ). beats_of footprint.size true - n) as_many ∙ place in (
      Some other,
      ap (λ (beats : List DBeat). wrong_sure footprint beats beat) is_theirs
          ∙ ap (λ (n : ℕ). wrong_by other (unless_indeterminate (tells_otherwise footprint n other beat) (first_broken (reply_rules other beat)))) number
          ∙ still_blamed other (tells_otherwise footprint k other beat) (first_broken (reply_rules other beat)) broken first
          (λ payload. otherwise_same footprint k due other beat alike ∙ its.1 payload),
    )

-- the beats that are blamed by a rule break it
abbrev pub IsBroken : List DBeat → DBeat → ReplyRule → Type 0
IsBroken beats beat broken = (other : Option DBeat) × (wrong_beat beats beat ≡ Some (wrong.Reply broken other))

same_broken : (footprint : Footprint) (beats : List DBeat) (beat : DBeat) (broken : ReplyRule) (told : Option DBeat)
    → wrong_sure footprint beats beat ≡ Some (wrong.Reply broken told) → IsBroken beats beat broken
same_broken footprint [] beat broken told is = (None, cc (is))
same_broken footprint (due ∷ rest) beat broken told is = (Some due, ap (wrong_by due) (is_blamed due _ (first_broken (reply_rules due beat)) broken told is).0)

-- beats that are blamed break the rule against those that are left of the same reply, made of other bytes
pub left_broken : (footprint : Footprint) (mine theirs : List DBeat) (beat : DBeat) (broken : ReplyRule) (told : Option DBeat) → LeftAlike footprint mine theirs
    → wrong_sure footprint mine beat ≡ Some (wrong.Reply broken told) → IsBroken theirs beat broken
left_broken footprint mine theirs beat broken told (Same same) is = grind (arith, is, same_broken footprint theirs beat broken told)
left_broken footprint mine theirs beat broken told (Words k due other rest others is_mine is_theirs alike place) is =
    let blamed =
    sym (ap (λ (n : ℕ). wrong_by due (unless_indeterminate (tells_otherwise footprint n due beat) (first_broken (reply_rules due beat)))) place)
    ∙ sym (ap (λ (beats : List DBeat). wrong_sure footprint beats beat) is_mine) ∙ is in
    (Some other, rw is_theirs (ap (wrong_by other) (same_rule footprint k due other beat broken told alike blamed)))

-- what is due of a request that hasn't failed is as it is
pub sure_shown : (failed : Bool) (told : Option Bool) (beats : List DBeat) (beat : DBeat) → failed ≡ false
    → wrong_beat (map (λ due. due_beat failed told due beat) beats) beat ≡ wrong_beat beats beat
sure_shown failed told beats beat sound = grind (arith, sound)

-- beats of a request that has failed are blamed as any others of the same shape are
pub failed_broken : (footprint : Footprint) (failed : Bool) (told : Option Bool) (mine theirs : List DBeat) (beat : DBeat) (broken : ReplyRule) (x : Option DBeat)
    → footprint.failed ≡ true → failed ≡ true → map shape_of mine ≡ map shape_of theirs → wrong_told footprint told mine beat ≡ Some (wrong.Reply broken x)
    → IsBroken (map (λ due. due_beat failed told due beat) theirs) beat broken
failed_broken footprint failed told [] [] beat broken x has has_too shapes is = (None, cc (is))
failed_broken footprint failed told [] (other ∷ others) beat broken x has has_too shapes is = absurd (cc (shapes))
failed_broken footprint failed told (due ∷ rest) [] beat broken x has has_too shapes is = absurd (cc (shapes))
failed_broken footprint failed told (due ∷ rest) (other ∷ others) beat broken x has has_too shapes is =
    let same : shape_of due ≡ shape_of other = cc (shapes) in
    let otherwise = tells_otherwise footprint (beats_of footprint.size true - length (due ∷ rest)) due beat in
    let blamed : wrong_by (failed_beat told due beat) (unless_indeterminate otherwise (first_broken (reply_rules (failed_beat told due beat) beat))) ≡ Some (wrong.Reply broken x) =
    sym (ap (λ (b : Bool). wrong_by (due_beat b told due beat) (unless_indeterminate otherwise (first_broken (reply_rules (due_beat b told due beat) beat)))) has) ∙ is in
    let first = (is_blamed (failed_beat told due beat) otherwise (first_broken (reply_rules (failed_beat told due beat) beat)) broken x blamed).0 in
    let here : first_broken (reply_rules (failed_beat told other beat) beat) ≡ Some broken =
    sym (ap (λ (d : DBeat). first_broken (reply_rules (failed_beat told d beat) beat)) same) ∙ first in (
      Some (due_beat failed told other beat),
      ap (wrong_by (due_beat failed told other beat))
          (ap (λ (b : Bool). first_broken (reply_rules (due_beat b told other beat) beat)) has_too ∙ here),
    )

-- what is blamed against a beat that is due breaks the rule against it, as it may be shown
pub first_blamed : (footprint : Footprint) (told : Option Bool) (due : DBeat) (rest : List DBeat) (beat : DBeat) (broken : ReplyRule) (x : Option DBeat)
    → wrong_told footprint told (due ∷ rest) beat ≡ Some (wrong.Reply broken x) → IsBroken (due_beat footprint.failed told due beat ∷ rest) beat broken
first_blamed footprint told due rest beat broken x is = (
  Some (due_beat footprint.failed told due beat),
  ap (wrong_by (due_beat footprint.failed told due beat)) (is_blamed (due_beat footprint.failed told due beat)
      (tells_otherwise footprint (beats_of footprint.size true - length (due ∷ rest)) due beat)
      (first_broken (reply_rules (due_beat footprint.failed told due beat) beat)) broken x is).0,
)
