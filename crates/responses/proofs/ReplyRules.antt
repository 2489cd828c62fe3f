-- The beats that show a reply break no rule on replies.
use Rattle.std.proofs.Common.{◌≡◌, ℕ, zero, suc, ◌+◌, ◌==◌, Bool, true, false, not, ◌&&◌, ◌||◌, List, [], ◌∷◌, map, Option, None, true≢false, if◌then◌else◌, refl, sym, arith}
use Rattle.std.specs.List.{range_with_len, list_any}
use Rattle.std.proofs.lemmas.Bool.{and_right, eq-eqb}
use Rattle.std.proofs.lemmas.List.FromFn.{length-map-range_with_len}
use Rattle.tl_messages.specs.Operations.{reply_has_data, reply_opcode, beats_of}
use Rattle.tl_messages.specs.Requests.{WholeRequest}
use Rattle.tl_messages.specs.declared.DBeat.{DBeat}
use Rattle.tl_messages.specs.declared.Operation.{Operation}
use Rattle.tl_messages.specs.declared.Operation.TheVariants.{Atomic, Get}
use Rattle.tl_checker.specs.ReplyRules.{reply_fault, wrong_corrupt}
use Rattle.responses.specs.Shown.{Reply, beat_of_word, beat_without_data, lacks_a_byte, shown}

same_number : (n : ℕ) → (n == n) ≡ true
same_number n = eq-eqb n n refl

opcode_with_data : (op : Operation) → reply_has_data op ≡ true → reply_opcode op ≡ 1
opcode_with_data (Atomic op) e = refl
opcode_with_data Get e = refl
opcode_with_data _ e = absurd (true≢false (sym e))

opcode_without : (op : Operation) → reply_has_data op ≡ false → (reply_opcode op == 1) ≡ false
opcode_without (Atomic op) e = absurd (true≢false e)
opcode_without Get e = absurd (true≢false e)
opcode_without _ e = refl

-- what no beat passes, none of a list of them passes
none_of : (p : DBeat → Bool) (f : ℕ → DBeat) (a n : ℕ) → ((j : ℕ) → p (f j) ≡ false) → list_any p (map f (range_with_len a n)) ≡ false
none_of p f a zero none = refl
none_of p f a (suc n) none = rw (none a, none_of p f (a + 1) n none) refl

-- a test that neither beat passes
neither : (p : DBeat → Bool) (b : Bool) (x y : DBeat) → p x ≡ false → p y ≡ false → p (if b then x else y) ≡ false
neither p true x y e f = e
neither p false x y e f = f

-- ---- with data

names_reply : (q : WholeRequest) (reply : Reply) (j : ℕ) → (not ((beat_of_word q reply j).opcode == reply_opcode q.operation) || not ((beat_of_word q reply j).param == 0)) ≡ false
names_reply q reply j =
    neither (λ beat. not (beat.opcode == reply_opcode q.operation) || not (beat.param == 0)) (reply.denied || lacks_a_byte q reply j) _ _ (rw (same_number (reply_opcode q.operation)) refl) (rw (same_number (reply_opcode q.operation)) refl)

keeps_size : (q : WholeRequest) (reply : Reply) (j : ℕ) → not ((beat_of_word q reply j).size == q.size) ≡ false
keeps_size q reply j = neither (λ beat. not (beat.size == q.size)) (reply.denied || lacks_a_byte q reply j) _ _ (rw (same_number q.size) refl) (rw (same_number q.size) refl)

keeps_source : (q : WholeRequest) (reply : Reply) (j : ℕ) → not ((beat_of_word q reply j).source == q.source) ≡ false
keeps_source q reply j = neither (λ beat. not (beat.source == q.source)) (reply.denied || lacks_a_byte q reply j) _ _ (rw (same_number q.source) refl) (rw (same_number q.source) refl)

corrupt_where_denied : (q : WholeRequest) (denied : Bool) (bytes : List (Option ℕ)) (j : ℕ) → reply_opcode q.operation ≡ 1 → wrong_corrupt (beat_of_word q (record { denied = denied; bytes = bytes }) j) ≡ false
corrupt_where_denied q true bytes j one = rw one refl
corrupt_where_denied q false bytes j one =
    neither wrong_corrupt (lacks_a_byte q (record { denied = false; bytes = bytes }) j) _ _ (rw one refl) (rw one refl)

denied_alike : (q : WholeRequest) (denied : Bool) (bytes : List (Option ℕ)) (n : ℕ)
    → (list_any (λ beat. beat.denied) (map (beat_of_word q (record { denied = denied; bytes = bytes })) (range_with_len 0 n))
    && list_any (λ beat. not beat.denied) (map (beat_of_word q (record { denied = denied; bytes = bytes })) (range_with_len 0 n)))
    ≡ false
denied_alike q true bytes n = rw (none_of (λ beat. not beat.denied) (beat_of_word q (record { denied = true; bytes = bytes })) 0 n (λ j. refl)) (and_right _ false refl)
denied_alike q false bytes n =
    rw
    (none_of (λ beat. beat.denied) (beat_of_word q (record { denied = false; bytes = bytes })) 0 n
    (λ j. neither (λ beat. beat.denied) (lacks_a_byte q (record { denied = false; bytes = bytes }) j) _ _ refl refl))
    refl

legal_with_data : (q : WholeRequest) (reply : Reply) → reply_has_data q.operation ≡ true → reply_fault q (map (beat_of_word q reply) (range_with_len 0 (beats_of q.size true))) ≡ None
legal_with_data q reply has =
    rw (
      none_of (λ beat. not (beat.opcode == reply_opcode q.operation) || not (beat.param == 0)) (beat_of_word q reply) 0 (beats_of q.size true) (names_reply q reply),
      none_of (λ beat. not (beat.size == q.size)) (beat_of_word q reply) 0 (beats_of q.size true) (keeps_size q reply),
      none_of (λ beat. not (beat.source == q.source)) (beat_of_word q reply) 0 (beats_of q.size true) (keeps_source q reply),
      has,
      length-map-range_with_len (beat_of_word q reply) 0 (beats_of q.size true),
      same_number (beats_of q.size true),
      denied_alike q reply.denied reply.bytes (beats_of q.size true),
      none_of wrong_corrupt (beat_of_word q reply) 0 (beats_of q.size true) (λ j. corrupt_where_denied q reply.denied reply.bytes j (opcode_with_data q.operation has)),
    )
    refl

-- ---- without data

one_denied : (b : Bool) → ((b || false) && (not b || false)) ≡ false
one_denied b = grind arith

legal_without : (q : WholeRequest) (reply : Reply) → reply_has_data q.operation ≡ false → reply_fault q (beat_without_data q reply ∷ []) ≡ None
legal_without q reply has = rw (same_number (reply_opcode q.operation), same_number q.size, same_number q.source, has, one_denied reply.denied, opcode_without q.operation has) refl

pub legal : (q : WholeRequest) (reply : Reply) → reply_fault q (shown q reply) ≡ None
legal q reply = by_data (reply_has_data q.operation) refl
  where
    by_data : (b : Bool) → reply_has_data q.operation ≡ b
        → reply_fault q (if b then map (beat_of_word q reply) (range_with_len 0 (beats_of q.size true)) else (beat_without_data q reply ∷ [])) ≡ None
    by_data true has = legal_with_data q reply has
    by_data false has = legal_without q reply has
