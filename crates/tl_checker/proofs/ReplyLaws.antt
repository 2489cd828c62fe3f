-- Beats break no rule on replies exactly where they are a reply.
use Rattle.std.proofs.Common.{◌≡◌, ℕ, zero, suc, ◌<◌, ◌==◌, Bool, true, false, not, List, [], ◌∷◌, length, get_or, None, refl, sym, ◌∙◌, ap, arith, inl, inr}
use Rattle.std.proofs.lemmas.Bool.Decides.{nat_tests}
use Rattle.std.proofs.lemmas.Bool.{and_cases, and_left, and_right, or_parts, or_from, cases_Bool, eqb-true, eq-eqb, ne_eqb, not-false}
use Rattle.std.proofs.lemmas.List.Folds.{list_any_none}
use Rattle.std.specs.List.{list_any}
use Rattle.std.specs.Prelude.{◌&&◌, ◌||◌, ◌↔◌}
use Rattle.tl_messages.specs.Operations.{reply_opcode, reply_has_data, beats_of}
use Rattle.tl_messages.specs.Requests.{WholeRequest}
use Rattle.tl_messages.specs.declared.DBeat.{DBeat}
use Rattle.tl_checker.specs.ReplyRules.{wrong_corrupt, reply_rules, reply_fault, IsReplyBeat, IsReplyTo}
use Rattle.tl_checker.proofs.BeatRules.{NoneBroken, none_broken}

-- ---- tests on a list

none_passes : {X : Type 0} (p : X → Bool) (xs : List X) → list_any p xs ≡ false → (k : ℕ) (d : X) → k < length xs → p (get_or xs k d) ≡ false
none_passes p [] none k d below = absurd (omega arith)
none_passes p (x ∷ xs) none zero d below = (or_parts (p x) (list_any p xs) none).0
none_passes p (x ∷ xs) none (suc k) d below = none_passes p xs (or_parts (p x) (list_any p xs) none).1 k d (omega arith)

-- ---- beats that break no rule

-- a beat whose corrupt flag isn't wrong
data_corrupt : (beat : DBeat) → wrong_corrupt beat ≡ false → beat.opcode ≡ 1 → beat.denied ≡ true → beat.corrupt ≡ true
data_corrupt beat right is denied = grind (arith, nat_tests, right)

not_corrupt : (beat : DBeat) → wrong_corrupt beat ≡ false → (beat.opcode ≡ 1 → ⊥) → beat.corrupt ≡ false
not_corrupt beat right other = rw (ne_eqb beat.opcode 1 other) at right

reply_right : (q : WholeRequest) (beats : List DBeat) → reply_fault q beats ≡ None → IsReplyTo q beats
reply_right q beats none =
    let kept : NoneBroken (reply_rules q beats) = none_broken (reply_rules q beats) none in
    record {
      each = λ k d below.
          let beat = get_or beats k d in
          let fields = or_parts (not (beat.opcode == reply_opcode q.operation)) (not (beat.param == 0)) (none_passes (λ b. not (b.opcode == reply_opcode q.operation) || not (b.param == 0)) beats kept.0 k d below) in
          let wrong = none_passes wrong_corrupt beats kept.1.1.1.1.1.0 k d below in
          record {
            opcode = eqb-true beat.opcode (reply_opcode q.operation) (not-false (beat.opcode == reply_opcode q.operation) fields.0);
            param = eqb-true beat.param 0 (not-false (beat.param == 0) fields.1);
            size = eqb-true beat.size q.size (not-false (beat.size == q.size) (none_passes (λ b. not (b.size == q.size)) beats kept.1.0 k d below));
            source = eqb-true beat.source q.source (not-false (beat.source == q.source) (none_passes (λ b. not (b.source == q.source)) beats kept.1.1.0 k d below));
            denied_data = data_corrupt beat wrong;
            sound = not_corrupt beat wrong;
          };
      many = eqb-true (length beats) (beats_of q.size (reply_has_data q.operation)) (not-false (length beats == beats_of q.size (reply_has_data q.operation)) kept.1.1.1.0);
      agree = λ j k d first second.
          elim (and_cases (list_any (λ b. b.denied) beats) (list_any (λ b. not b.denied) beats) kept.1.1.1.1.0) [
            | inl never ↦ none_passes (λ b. b.denied) beats never j d first ∙ sym (none_passes (λ b. b.denied) beats never k d second)
            | inr always ↦
                not-false (get_or beats j d).denied (none_passes (λ b. not b.denied) beats always j d first)
                ∙ sym (not-false (get_or beats k d).denied (none_passes (λ b. not b.denied) beats always k d second))
          ];
    }

-- ---- beats that are a reply

agree_in_denied : (beats : List DBeat) → ((j k : ℕ) (d : DBeat) → j < length beats → k < length beats → (get_or beats j d).denied ≡ (get_or beats k d).denied)
    → (list_any (λ b. b.denied) beats && list_any (λ b. not b.denied) beats) ≡ false
agree_in_denied [] agree = refl
agree_in_denied (first ∷ rest) agree =
    let some : 0 < length (first ∷ rest) = omega arith in
    elim (cases_Bool first.denied) [
      | inl denied ↦ and_right (list_any (λ b. b.denied) (first ∷ rest)) (list_any (λ b. not b.denied) (first ∷ rest)) (list_any_none (λ b. not b.denied) (first ∷ rest) (λ k d below. ap not (agree k 0 d below some ∙ denied)))
      | inr granted ↦ and_left (list_any (λ b. b.denied) (first ∷ rest)) (list_any (λ b. not b.denied) (first ∷ rest)) (list_any_none (λ b. b.denied) (first ∷ rest) (λ k d below. agree k 0 d below some ∙ granted))
    ]

right_corrupt : (q : WholeRequest) (beat : DBeat) → IsReplyBeat q beat → wrong_corrupt beat ≡ false
right_corrupt q beat is = grind (arith, nat_tests, is.denied_data, is.sound)

right_reply : (q : WholeRequest) (beats : List DBeat) → IsReplyTo q beats → reply_fault q beats ≡ None
right_reply q beats is =
    rw (
      list_any_none (λ b. not (b.opcode == reply_opcode q.operation) || not (b.param == 0)) beats
          (λ k d below.
          or_from (not ((get_or beats k d).opcode == reply_opcode q.operation)) (not ((get_or beats k d).param == 0))
          (ap not (eq-eqb (get_or beats k d).opcode (reply_opcode q.operation) (is.each k d below).opcode)) (ap not (eq-eqb (get_or beats k d).param 0 (is.each k d below).param))),
      list_any_none (λ b. not (b.size == q.size)) beats (λ k d below. ap not (eq-eqb (get_or beats k d).size q.size (is.each k d below).size)),
      list_any_none (λ b. not (b.source == q.source)) beats (λ k d below. ap not (eq-eqb (get_or beats k d).source q.source (is.each k d below).source)),
      eq-eqb (length beats) (beats_of q.size (reply_has_data q.operation)) is.many,
      agree_in_denied beats is.agree,
      list_any_none wrong_corrupt beats (λ k d below. right_corrupt q (get_or beats k d) (is.each k d below)),
    )
    refl

pub reply_exact : (q : WholeRequest) (beats : List DBeat) → (reply_fault q beats ≡ None) ↔ IsReplyTo q beats
reply_exact q beats = (reply_right q beats, right_reply q beats)
