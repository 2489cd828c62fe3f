-- The answers to one beat after another, against whole lists of beats.
use Rattle.std.proofs.Common.{◌≡◌, ℕ, ◌≤◌, nat_le, Bool, true, false, not, List, [], ◌∷◌, ◌++◌, length, Option, Some, None, Result, Ok, Err, if◌then◌else◌, refl, sym, ◌∙◌, ap, arith}
use Rattle.std.proofs.Math.Bool.{or_assoc, or-false}
use Rattle.std.proofs.lemmas.Bool.{and_parts, and_from, not-true, le-leb, lt-leb, leb-true, leb-false}
use Rattle.std.proofs.lemmas.List.{length-append, map-append}
use Rattle.std.proofs.lemmas.List.Folds.{list_all-append, list_any-append}
use Rattle.std.specs.List.{list_all, list_any}
use Rattle.std.specs.Prelude.{◌&&◌, option_map}
use Rattle.tl_messages.specs.Requests.{HeldMessage, WholeRequest, begun, with_beat, message_of, held_of, request_of, is_whole, masked_word}
use Rattle.tl_messages.specs.declared.ABeat.{ABeat}
use Rattle.tl_checker.specs.Ports.{joined, progress_of, judged_by, judged, is_free, ReadsAs}
use Rattle.tl_checker.specs.RequestRules.{TlPortLimits, first_fault, Spells, IsFront}
use Rattle.tl_checker.specs.declared.Progress.{Progress}
use Rattle.tl_checker.specs.declared.Progress.TheVariants.{More, Whole}
use Rattle.tl_checker.specs.declared.TlRule.{TlRule}
use Rattle.tl_checker.proofs.BeatRules.{first_none, first_free, is_right_later, later_none, later_right}
use Rattle.tl_checker.proofs.Fronts.{HasBegun, IsPart, beats_wanted, beats_wanted-pos, spells_begun, front_part, part_front, whole-begun}

-- ---- what is held with one more beat

-- a message with one more beat is that of the longer list
message-append : (client : ℕ) (first : ABeat) (rest : List ABeat) (beat : ABeat) → with_beat (message_of client first rest) beat ≡ message_of client first (rest ++ beat ∷ [])
message-append client first rest beat =
    rw (map-append masked_word rest (beat ∷ []), list_any-append (λ b. b.corrupt) rest (beat ∷ []), or-false beat.corrupt, or_assoc first.corrupt (list_any (λ b. b.corrupt) rest) beat.corrupt) refl

one_beat : (client : ℕ) (beat : ABeat) → begun client beat ≡ message_of client beat []
one_beat client beat = rw (or-false beat.corrupt) refl

pub held-append : (limits : TlPortLimits) (beats : List ABeat) (beat : ABeat) → held_of limits.client (beats ++ beat ∷ []) ≡ Some (joined limits (held_of limits.client beats) beat)
held-append limits [] beat = ap Some (sym (one_beat limits.client beat))
held-append limits (first ∷ rest) beat = ap Some (sym (message-append limits.client first rest beat))

-- ---- one beat

-- what an answer leaves as the whole request, where there was none
abbrev pub whole_by : Result Progress TlRule → HeldMessage → Option HeldMessage
whole_by (Ok Whole) message = Some message
whole_by (Ok More) message = None
whole_by (Err rule) message = None

-- what is asked of a fault, of whether the source is free, and of a message, that they be those of a list of beats
record IsTakenAs (limits : TlPortLimits) (first : ABeat) (rest : List ABeat) (fault : Option TlRule) (free : Bool) (message : HeldMessage) : Type 0 where
  taken : fault ≡ None → (free ≡ true) × HasBegun limits first rest
  kept : free ≡ true → HasBegun limits first rest → fault ≡ None
  enough : length (first ∷ rest) ≤ beats_wanted first
  held : message ≡ message_of limits.client first rest

answered : (fault : Option TlRule) (progress told : Progress) → fault ≡ None → progress ≡ told → judged_by fault progress ≡ Ok told
answered None progress told none same = ap Ok same
answered (Some rule) progress told none same = absurd (cc)

pub answered_parts : (fault : Option TlRule) (progress told : Progress) → judged_by fault progress ≡ Ok told → (fault ≡ None) × (progress ≡ told)
answered_parts None progress told same = (refl, cc)
answered_parts (Some rule) progress told same = absurd (cc)

by_more : (whole : Bool) → (if whole then Whole else More) ≡ More → whole ≡ false
by_more whole same = grind arith

by_whole : (whole : Bool) → (if whole then Whole else More) ≡ Whole → whole ≡ true
by_whole whole same = grind arith

reads_by : (limits : TlPortLimits) (first : ABeat) (rest : List ABeat) (fault : Option TlRule) (free : Bool) (message : HeldMessage) → IsTakenAs limits first rest fault free message
    → ReadsAs limits (first ∷ rest) free (judged_by fault (progress_of message)) (whole_by (judged_by fault (progress_of message)) message)
reads_by limits first rest fault free message by = record { more = (to_front, from_front); spelled = λ q. (to_spelling q, from_spelling q) }
  where
    answer : Result Progress TlRule
    answer = judged_by fault (progress_of message)

    whole : HasBegun limits first rest → is_whole message ≡ nat_le (beats_wanted first) (length (first ∷ rest))
    whole begins = ap is_whole by.held ∙ whole-begun limits first rest begins

    to_front : answer ≡ Ok More → (free ≡ true) × IsFront limits (first ∷ rest)
    to_front is =
        let parts = answered_parts fault (progress_of message) More is in
        let taken = by.taken parts.0 in
        let missing = leb-false (beats_wanted first) (length (first ∷ rest)) (sym (whole taken.1) ∙ by_more (is_whole message) parts.1) in
        (taken.0, part_front limits first rest (record { begins = taken.1; fewer = missing }))

    from_front : (free ≡ true) × IsFront limits (first ∷ rest) → answer ≡ Ok More
    from_front (is_free, front) =
        let part = front_part limits first rest front in
        let missing = whole part.begins ∙ lt-leb (beats_wanted first) (length (first ∷ rest)) part.fewer in
        answered fault (progress_of message) More (by.kept is_free part.begins) (ap (λ b. if b then Whole else More) missing)

    stands : answer ≡ Ok Whole → option_map request_of (whole_by answer message) ≡ Some (request_of message)
    stands is = ap (λ told. option_map request_of (whole_by told message)) is

    to_spelling : (q : WholeRequest) → (answer ≡ Ok Whole) × (option_map request_of (whole_by answer message) ≡ Some q) → (free ≡ true) × Spells limits (first ∷ rest) q
    to_spelling q (is, told) =
        let parts = answered_parts fault (progress_of message) Whole is in
        let taken = by.taken parts.0 in
        let all = leb-true (beats_wanted first) (length (first ∷ rest)) (sym (whole taken.1) ∙ by_whole (is_whole message) parts.1) in
        let same : q ≡ request_of message = cc (told, stands is) in
        (taken.0, (taken.1.right, taken.1.later, omega (arith, all, by.enough), same ∙ ap request_of by.held))

    from_spelling : (q : WholeRequest) → (free ≡ true) × Spells limits (first ∷ rest) q → (answer ≡ Ok Whole) × (option_map request_of (whole_by answer message) ≡ Some q)
    from_spelling q (is_free, spells) =
        let begins = spells_begun limits first rest q spells in
        let all = whole begins ∙ le-leb (beats_wanted first) (length (first ∷ rest)) (omega (arith, spells.2)) in
        let is = answered fault (progress_of message) Whole (by.kept is_free begins) (ap (λ b. if b then Whole else More) all) in
        (is, stands is ∙ ap Some (ap request_of by.held ∙ sym spells.3))

taken_first : (limits : TlPortLimits) (beat : ABeat) (busy : Bool) → IsTakenAs limits beat [] (first_fault limits None beat busy) (not busy) (begun limits.client beat)
taken_first limits beat busy =
    record {
      taken = λ none. let free = (first_none limits beat busy none).1 in (ap not free, record { right = rw free at none; later = refl });
      kept = λ free begins. first_free limits beat busy begins.right (not-true busy free);
      enough = beats_wanted-pos beat;
      held = one_beat limits.client beat;
    }

taken_later : (limits : TlPortLimits) (first : ABeat) (rest : List ABeat) (beat : ABeat) (busy : Bool) → IsFront limits (first ∷ rest)
    → IsTakenAs limits first (rest ++ beat ∷ []) (first_fault limits (Some (message_of limits.client first rest)) beat busy) true (with_beat (message_of limits.client first rest) beat)
taken_later limits first rest beat busy front =
    let part : IsPart limits first rest = front_part limits first rest front in
    let message : HeldMessage = message_of limits.client first rest in
    let right : ABeat → Bool = is_right_later (begun limits.client first) in
    record {
      taken = λ none. (
        refl,
        record {
          right = part.begins.right;
          later = list_all-append right rest (beat ∷ []) ∙ and_from (list_all right rest) (right beat && true) part.begins.later (and_from (right beat) true (later_none limits message beat busy none) refl);
        },
      );
      kept = λ free begins.
          later_right limits message beat busy
          (and_parts (right beat) true (and_parts (list_all right rest) (right beat && true) (sym (list_all-append right rest (beat ∷ [])) ∙ begins.later)).1).0;
      enough = omega (arith, part.fewer, length-append rest (beat ∷ []));
      held = message-append limits.client first rest beat;
    }

-- the answer to a beat after a front reads as it must
pub reads : (limits : TlPortLimits) (beats : List ABeat) (beat : ABeat) (busy : Bool) → IsFront limits beats
    → ReadsAs limits (beats ++ beat ∷ []) (is_free (held_of limits.client beats) busy) (judged limits (held_of limits.client beats) beat busy)
    (whole_by (judged limits (held_of limits.client beats) beat busy) (joined limits (held_of limits.client beats) beat))
reads limits [] beat busy front = reads_by limits beat [] (first_fault limits None beat busy) (not busy) (begun limits.client beat) (taken_first limits beat busy)
reads limits (first ∷ rest) beat busy front =
    reads_by limits first (rest ++ beat ∷ []) (first_fault limits (Some (message_of limits.client first rest)) beat busy) true (with_beat (message_of limits.client first rest) beat)
    (taken_later limits first rest beat busy front)
