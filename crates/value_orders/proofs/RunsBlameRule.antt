-- By which rule a beat is wrong that tells a blamed byte: where the board of requests finds nothing wrong with it but its payload at most, it is the payload that
-- is wrong, in every such order.
use Rattle.std.proofs.Common.{◌≡◌, ℕ, ◌==◌, Bool, true, false, not, List, [], ◌∷◌, ◌++◌, map, drop, take, Option, Some, None, ◌⊎◌, inl, inr, ⊎_elim, refl, sym, ◌∙◌, ap, subst, zero, suc, arith}
use Rattle.std.specs.List.{range_with_len}
use Rattle.bus_words.specs.Tables.{first_broken}
use Rattle.burst_plan.specs.declared.Region.{Region}
use Rattle.meaning.specs.Meaning.{Bytes, meaning}
use Rattle.responses.specs.Shown.{Reply, beat_of_word, beat_without_data, lacks_a_byte, shown}
use Rattle.subordinate.specs.Faults.{Faults}
use Rattle.tl_messages.specs.Operations.{beats_of, reply_has_data}
use Rattle.tl_messages.specs.Requests.{WholeRequest}
use Rattle.tl_messages.specs.declared.DBeat.{DBeat}
use Rattle.scoreboard.specs.Boards.{reply_rules, unless_indeterminate, wrong_beat, wrong_by}
use Rattle.scoreboard.specs.declared.ReplyRule.{ReplyRule}
use Rattle.scoreboard.specs.declared.ReplyRule.TheVariants as rule
use Rattle.scoreboard.specs.declared.Wrong.TheVariants as wrong
use Rattle.scoreboard.proofs.real_time.AlikeBeats.{lacks_same, reply_of}
use Rattle.scoreboard.proofs.real_time.ReplyBytes.{Fixed, Kind, Told, kind}

-- ---- a beat but for its payload

abbrev pub without_payload : DBeat → DBeat
without_payload beat = record beat { payload = 0 }

-- two replies to a request tell an error alike
record TellAlike (q : WholeRequest) (one other : Reply) : Type 0 where
  denied : one.denied ≡ other.denied
  lacks : (j : ℕ) → lacks_a_byte q one j ≡ lacks_a_byte q other j

word_alike : (q : WholeRequest) (one other : Reply) (j : ℕ) → TellAlike q one other
    → without_payload (beat_of_word q one j) ≡ without_payload (beat_of_word q other j)
word_alike q one other j alike = by_tests one.denied (lacks_a_byte q one j) refl refl (sym alike.denied) (sym (alike.lacks j))
  where
    by_tests : (d l : Bool) → one.denied ≡ d → lacks_a_byte q one j ≡ l → other.denied ≡ one.denied → lacks_a_byte q other j ≡ lacks_a_byte q one j
        → without_payload (beat_of_word q one j) ≡ without_payload (beat_of_word q other j)
    by_tests true l denied lacks same same_lacks = rw (same, denied) refl
    by_tests false true denied lacks same same_lacks = rw (same, denied, same_lacks, lacks) refl
    by_tests false false denied lacks same same_lacks = rw (same, denied, same_lacks, lacks) refl

words_alike : (q : WholeRequest) (one other : Reply) (numbers : List ℕ) → TellAlike q one other
    → map without_payload (map (beat_of_word q one) numbers) ≡ map without_payload (map (beat_of_word q other) numbers)
words_alike q one other [] alike = refl
words_alike q one other (j ∷ numbers) alike =
    ap (λ (b : DBeat). b ∷ map without_payload (map (beat_of_word q one) numbers)) (word_alike q one other j alike)
    ∙ ap (λ (rest : List DBeat). without_payload (beat_of_word q other j) ∷ rest) (words_alike q one other numbers alike)

shown_alike : (q : WholeRequest) (one other : Reply) → TellAlike q one other → map without_payload (shown q one) ≡ map without_payload (shown q other)
shown_alike q one other alike = by_data (reply_has_data q.operation) refl
  where
    by_data : (b : Bool) → reply_has_data q.operation ≡ b → map without_payload (shown q one) ≡ map without_payload (shown q other)
    by_data true is = rw is (words_alike q one other (range_with_len 0 (beats_of q.size true)) alike)
    by_data false is = rw is (ap (λ (d : Bool). record (without_payload (beat_without_data q one)) { denied = d } ∷ []) alike.denied)

-- on whatever bytes it is carried out
pub tell_alike : (faults : Faults) (regions : List Region) (q : WholeRequest) (m n : Bytes)
    → map without_payload (shown q (meaning faults regions q m).reply) ≡ map without_payload (shown q (meaning faults regions q n).reply)
tell_alike faults regions q m n = by_kind (kind faults regions q)
  where
    by_kind : Kind faults regions q → map without_payload (shown q (meaning faults regions q m).reply) ≡ map without_payload (shown q (meaning faults regions q n).reply)
    by_kind (Fixed reply same) = ap (λ (r : Reply). map without_payload (shown q r)) (same m ∙ sym (same n))
    by_kind (Told tells) =
        ap (λ (r : Reply). map without_payload (shown q r)) (tells.reply m)
        ∙ shown_alike q (reply_of tells.hidden m tells.place q) (reply_of tells.hidden n tells.place q)
        (record { denied = refl; lacks = λ j. lacks_same tells.hidden m n tells.place q j })
        ∙ ap (λ (r : Reply). map without_payload (shown q r)) (sym (tells.reply n))

pub map_drop : (f : DBeat → DBeat) (beats : List DBeat) (n : ℕ) → map f (drop n beats) ≡ drop n (map f beats)
map_drop f [] zero = refl
map_drop f [] (suc n) = refl
map_drop f (beat ∷ beats) zero = refl
map_drop f (beat ∷ beats) (suc n) = map_drop f beats n

-- ---- a rule

-- nothing is broken, or it is that on payloads
abbrev pub AtMostPayload : Option ReplyRule → Type 0
AtMostPayload found = (found ≡ None) ⊎ (found ≡ Some rule.Payload)

kept_payload : (rows : List (Bool × ReplyRule)) (f g : Bool) → AtMostPayload (first_broken (rows ++ (f, rule.Payload) ∷ []))
    → AtMostPayload (first_broken (rows ++ (g, rule.Payload) ∷ []))
kept_payload [] f true at_most = inr refl
kept_payload [] f false at_most = inl refl
kept_payload ((true, first) ∷ rows) f g at_most = at_most
kept_payload ((false, first) ∷ rows) f g at_most = kept_payload rows f g at_most

-- other payloads leave it so
other_payloads : (due beat : DBeat) (due_payload payload : ℕ) → AtMostPayload (first_broken (reply_rules due beat))
    → AtMostPayload (first_broken (reply_rules (record due { payload = due_payload }) (record beat { payload = payload })))
other_payloads due beat due_payload payload at_most =
    kept_payload (take 5 (reply_rules due beat)) (not (beat.payload == due.payload)) (not (payload == due_payload)) at_most

-- beats that are due are those, but for their payloads
pub still_payload : (mine theirs : List DBeat) (beat : DBeat) (payload : ℕ) (due : DBeat) (rest : List DBeat) → map without_payload mine ≡ map without_payload theirs
    → mine ≡ due ∷ rest → AtMostPayload (first_broken (reply_rules due beat)) → (wrong_beat theirs (record beat { payload = payload }) ≡ None → ⊥)
    → (other : Option DBeat) × (wrong_beat theirs (record beat { payload = payload }) ≡ Some (wrong.Reply rule.Payload other))
still_payload mine [] beat payload due rest alike is at_most not_right = absurd (cc (sym (ap (map without_payload) is) ∙ alike))
still_payload mine (other ∷ others) beat payload due rest alike is at_most not_right = (
  Some other,
  ⊎_elim (λ none. absurd (not_right (ap (wrong_by other) none))) (λ some. ap (wrong_by other) some)
      (subst (λ (o : DBeat). AtMostPayload (first_broken (reply_rules o (record beat { payload = payload })))) (sym other_is)
      (other_payloads due beat other.payload payload at_most)),
)
  where
    heads : without_payload due ≡ without_payload other
    heads = let both : without_payload due ∷ map without_payload rest ≡ without_payload other ∷ map without_payload others = sym (ap (map without_payload) is) ∙ alike in cc (both)

    other_is : other ≡ record due { payload = other.payload }
    other_is = ap (λ (o : DBeat). record o { payload = other.payload }) (sym heads)

-- what a board finds
pub at_most_payload : (due : DBeat) (otherwise : Bool) (found : Option ReplyRule)
    → (wrong_by due (unless_indeterminate otherwise found) ≡ None) ⊎ ((told : Option DBeat) × (wrong_by due (unless_indeterminate otherwise found) ≡ Some (wrong.Reply rule.Payload told)))
    → AtMostPayload found
at_most_payload due otherwise None is = inl refl
at_most_payload due otherwise (Some broken) is = ⊎_elim (λ none. inr (by_rule broken none)) (λ some. inr (by_payload broken some.1)) is
  where
    by_rule : (b : ReplyRule) → wrong_by due (unless_indeterminate otherwise (Some b)) ≡ None → Some b ≡ Some rule.Payload
    by_rule b none = grind (arith, none)

    by_payload : (b : ReplyRule) {told : Option DBeat} → wrong_by due (unless_indeterminate otherwise (Some b)) ≡ Some (wrong.Reply rule.Payload told) → Some b ≡ Some rule.Payload
    by_payload b some = grind (arith, some)
