-- What was found of a client, one step on: by a step that isn't its own, by an Offer of it, and by a reply that it took. It knows what the steps
-- showed; what they do to the world is hidden.
use Rattle.std.proofs.Common.{◌≡◌, ℕ, ◌+◌, ◌<◌, ◌≤◌, ◌==◌, Bool, true, false, List, [], ◌∷◌, ◌++◌, map, length, take, drop, suc, zero, Some, None, refl, sym, subst, ap, ◌∙◌, arith}
use Rattle.std.specs.Prelude.{filter, option_map, ◌&&◌, slice_get, if◌then◌else◌}
use Rattle.std.specs.List.{cons_option, list_all}
use Rattle.std.proofs.lemmas.Bool.{eq-eqb, false≢true}
use Rattle.std.proofs.lemmas.List.{append_assoc, append-nil, drop_at, length-append, length-take-le, length_push, map_push, take_at, take_more}
use Rattle.std.proofs.lemmas.List.Elements.{filter-append}
use Rattle.std.proofs.lemmas.Option.{get_or_from_slice_get, slice_get_within, slice_get-map}
use Rattle.tl_messages.specs.declared.ABeat.{ABeat}
use Rattle.tl_messages.specs.declared.DBeat.{DBeat}
use Rattle.world_run.specs.Runs.{HandedReply, handed_at}
use Rattle.world.specs.World.{WorldState, after, next}
use Rattle.world.specs.declared.Answer.{Answer}
use Rattle.world.specs.declared.Answer.TheVariants.{Reply}
use Rattle.world.specs.declared.Step.{Step}
use Rattle.world.specs.declared.Step.TheVariants.{Offer, Pump, Perform, AnswerB, AnswerR, Take}
use Rattle.thread_reports.specs.Replays.{DiffersAt, FoundOffers, FoundReplies, HasReceipt, IsCount, IsFound, KeepsScript}
use Rattle.thread_reports.specs.Reports.{AreReceiptsOf, accepted_of, accepts, beats_of_all, handed_to, head_of, is_accepted, is_taken, offered_by, offers_of, takes_beat}
use Rattle.thread_reports.specs.declared.receipts.Receipts.{Receipts}
use Rattle.thread_reports.specs.declared.replay.Found.{Found}
use Rattle.thread_reports.proofs.ReplayLemmas.{answered, answered-append, handed_to-append, list_all-append, offers_of-append}

-- ---- lists

-- what stands after a front
pub at_seam : {A : Type 0} (xs : List A) (y : A) (ys : List A) → slice_get (xs ++ y ∷ ys) (length xs) ≡ Some y
at_seam [] y ys = refl
at_seam (x ∷ xs) y ys = at_seam xs y ys

take_next : {A : Type 0} (xs : List A) (k : ℕ) (x : A) → slice_get xs k ≡ Some x → take (k + 1) xs ≡ take k xs ++ x ∷ []
take_next xs k x there = take_more xs k x (slice_get_within xs k x there) ∙ ap (λ y. take k xs ++ y ∷ []) (get_or_from_slice_get xs k x x there)

take-nil : {A : Type 0} (n : ℕ) → take {A = A} n [] ≡ []
take-nil zero = refl
take-nil (suc n) = refl

take_add : {A : Type 0} (n m : ℕ) (xs : List A) → take (n + m) xs ≡ take n xs ++ take m (drop n xs)
take_add zero m xs = let none : 0 + m ≡ m = omega arith in ap (λ k. take k xs) none
take_add (suc n) m [] = take-nil (suc n + m) ∙ sym (take-nil m)
take_add (suc n) m (x ∷ xs) = let one : suc n + m ≡ suc (n + m) = omega arith in ap (λ k. take k (x ∷ xs)) one ∙ ap (λ rest. x ∷ rest) (take_add n m xs)

beats_of_all-append : (xs ys : List HandedReply) → beats_of_all (xs ++ ys) ≡ beats_of_all xs ++ beats_of_all ys
beats_of_all-append [] ys = refl
beats_of_all-append (x ∷ xs) ys = ap (λ rest. x.beats ++ rest) (beats_of_all-append xs ys) ∙ sym (append_assoc x.beats _ _)

-- ---- one step of some client

-- whether a step is an Offer or a Take of a client
abbrev pub is_of : ℕ → Step → Bool
is_of client (Offer who beat) = who == client
is_of client Pump = false
is_of client (Perform serial beat) = false
is_of client (AnswerB id) = false
is_of client (AnswerR id) = false
is_of client (Take who) = who == client

-- what one step shows of a client to which it doesn't belong
record ShowsNothing (client : ℕ) (state : WorldState) (step : Step) : Type 0 where
  offers : offered_by client step ≡ None
  taken : is_taken client (step, (next state step).answer) ≡ true
  accepts : accepts client (step, (next state step).answer) ≡ false
  handed : handed_to client state (step ∷ []) ≡ []

shows_nothing : (client : ℕ) (state : WorldState) (step : Step) → is_of client step ≡ false → ShowsNothing client state step
shows_nothing client state (Offer who beat) other =
    record { offers = rw other refl; taken = rw other refl; accepts = rw other refl; handed = refl }
shows_nothing client state Pump other = record { offers = refl; taken = refl; accepts = refl; handed = refl }
shows_nothing client state (Perform serial beat) other = record { offers = refl; taken = refl; accepts = refl; handed = refl }
shows_nothing client state (AnswerB id) other = record { offers = refl; taken = refl; accepts = refl; handed = refl }
shows_nothing client state (AnswerR id) other = record { offers = refl; taken = refl; accepts = refl; handed = refl }
shows_nothing client state (Take who) other =
    record { offers = refl; taken = refl; accepts = refl; handed = by_answer (next state (Take who)).answer (next state (Take who)).reply }
  where
    by_answer : (answer : Answer) (beats : List DBeat) → filter (λ (handed : HandedReply). handed.client == client) (cons_option (handed_at (Take who) answer beats) []) ≡ []
    by_answer (Reply number) beats = rw other refl
    by_answer _ beats = refl

-- ---- offers

module _ (start : WorldState) (past : List Step) (client : ℕ) (script : List ABeat) where
  -- who strayed, strays whatever follows
  strays_on : (offered : ℕ) (step : Step) → FoundOffers start past client script offered true → FoundOffers start (past ++ step ∷ []) client script offered true
  strays_on offered step strays more keeps = strays (step ∷ more) (subst (λ steps. KeepsScript start steps client script) (append_assoc past (step ∷ []) more) keeps)

  -- the offers so far, and one that isn't taken or isn't the next beat
  strays_here : (offered : ℕ) (beat : ABeat) → FoundOffers start past client script offered false
      → (takes_beat (next (after start past) (Offer client beat)).answer ≡ true → slice_get script offered ≡ Some beat → ⊥)
      → FoundOffers start (past ++ Offer client beat ∷ []) client script offered true
  strays_here offered beat found wrong more keeps =
      let step = Offer client beat in
      let state = after start past in
      let steps : (past ++ step ∷ []) ++ more ≡ past ++ step ∷ more = append_assoc past (step ∷ []) more in
      let kept : KeepsScript start (past ++ step ∷ more) client script = subst (λ all. KeepsScript start all client script) steps keeps in
      let mine : (client == client) ≡ true = eq-eqb client client refl in
      let offers : offers_of client (past ++ step ∷ more) ≡ take offered script ++ beat ∷ offers_of client more =
      offers_of-append client past (step ∷ more) ∙ rw (mine, found.0) refl in
      let whole : script ≡ take offered script ++ beat ∷ offers_of client more = sym kept.0 ∙ offers in
      let count : length (take offered script) ≡ offered = length-take-le offered script found.1 in
      let there : slice_get script offered ≡ Some beat =
      subst (λ k. slice_get script k ≡ Some beat) count (subst (λ xs. slice_get xs (length (take offered script)) ≡ Some beat) (sym whole) (at_seam (take offered script) beat (offers_of client more))) in
      let all_taken : list_all (is_taken client) (answered start past) && list_all (is_taken client) (answered state (step ∷ more)) ≡ true =
      sym (list_all-append (is_taken client) (answered start past) (answered state (step ∷ more))) ∙ ap (list_all (is_taken client)) (sym (answered-append start past (step ∷ more))) ∙ kept.1 in
      let taken : takes_beat (next state step).answer ≡ true = first_of (takes_beat (next state step).answer) _ (second_of (list_all (is_taken client) (answered start past)) _ (rw mine at all_taken)) in
      wrong taken there
    where
      first_of : (a b : Bool) → (a && b) ≡ true → a ≡ true
      first_of true b both = refl
      first_of false b both = both

      second_of : (a b : Bool) → (a && b) ≡ true → b ≡ true
      second_of true b both = both
      second_of false b both = absurd (false≢true both)

  -- the offers so far, and the next beat, which is taken
  offers_next : (offered : ℕ) (beat : ABeat) → FoundOffers start past client script offered false → takes_beat (next (after start past) (Offer client beat)).answer ≡ true
      → slice_get script offered ≡ Some beat → FoundOffers start (past ++ Offer client beat ∷ []) client script (offered + 1) false
  offers_next offered beat found taken there =
      let step = Offer client beat in
      let mine : (client == client) ≡ true = eq-eqb client client refl in
      let offers : offers_of client (past ++ step ∷ []) ≡ take (offered + 1) script =
      offers_of-append client past (step ∷ []) ∙ rw (mine, found.0) (sym (take_next script offered beat there)) in
      let within : offered < length script = slice_get_within script offered beat there in
      let all_taken : list_all (is_taken client) (answered start (past ++ step ∷ [])) ≡ true =
      ap (list_all (is_taken client)) (answered-append start past (step ∷ []))
      ∙ list_all-append (is_taken client) (answered start past) (answered (after start past) (step ∷ []))
      ∙ rw (found.2, mine, taken) refl in
      (offers, omega arith, all_taken)

  -- a step that offers nothing for the client leaves what was found
  offers_without : (offered : ℕ) (strayed : Bool) (step : Step) → FoundOffers start past client script offered strayed
      → offered_by client step ≡ None → is_taken client (step, (next (after start past) step).answer) ≡ true
      → FoundOffers start (past ++ step ∷ []) client script offered strayed
  offers_without offered true step found none taken = strays_on offered step found
  offers_without offered false step found none taken =
      let offers : offers_of client (past ++ step ∷ []) ≡ take offered script =
      offers_of-append client past (step ∷ []) ∙ rw (none, found.0) (append-nil (take offered script)) in
      let all_taken : list_all (is_taken client) (answered start (past ++ step ∷ [])) ≡ true =
      ap (list_all (is_taken client)) (answered-append start past (step ∷ []))
      ∙ list_all-append (is_taken client) (answered start past) (answered (after start past) (step ∷ []))
      ∙ rw (found.2, taken) refl in
      (offers, found.1, all_taken)

-- ---- replies

module _ (start : WorldState) (past : List Step) (client : ℕ) (received : Receipts) where
  -- whose receipts differ, differ whatever follows
  differs_on : (right beats : ℕ) (step : Step) → FoundReplies start past client received right beats true → FoundReplies start (past ++ step ∷ []) client received right beats true
  differs_on right beats step found =
      record {
        before = found.before;
        reply = found.reply;
        rest = found.rest ++ handed_to client (after start past) (step ∷ []);
        replies_are =
            handed_to-append client start past (step ∷ []) ∙ ap (λ front. front ++ handed_to client (after start past) (step ∷ [])) found.replies_are
            ∙ append_assoc found.before (found.reply ∷ found.rest) (handed_to client (after start past) (step ∷ []));
        same = found.same;
        differs = found.differs;
      }

  -- a step that hands nothing to the client leaves what was found
  replies_beside : (right beats : ℕ) (different : Bool) (step : Step) → FoundReplies start past client received right beats different → handed_to client (after start past) (step ∷ []) ≡ []
      → FoundReplies start (past ++ step ∷ []) client received right beats different
  replies_beside right beats true step found nothing = differs_on right beats step found
  replies_beside right beats false step found nothing =
      let same : handed_to client start (past ++ step ∷ []) ≡ handed_to client start past =
      handed_to-append client start past (step ∷ []) ∙ rw nothing (append-nil (handed_to client start past)) in
      rw same found

-- a reply as it was handed out
abbrev reply_of : ℕ → ℕ → List DBeat → HandedReply
reply_of client number beats = record { client = client; number = number; beats = beats }

-- a Take that was answered by a reply hands out just that
take_hands : (client : ℕ) (state : WorldState) (number : ℕ) (reply : List DBeat) → (next state (Take client)).answer ≡ Reply number → reply ≡ (next state (Take client)).reply
    → handed_to client state (Take client ∷ []) ≡ reply_of client number reply ∷ []
take_hands client state number reply replied gives =
    ap (λ answer. filter (λ (handed : HandedReply). handed.client == client) (cons_option (handed_at (Take client) answer (next state (Take client)).reply) [])) replied
    ∙ by_test (client == client) (eq-eqb client client refl)
  where
    by_test : (mine : Bool) → mine ≡ true → (if mine then reply_of client number (next state (Take client)).reply ∷ [] else []) ≡ reply_of client number reply ∷ []
    by_test true is = rw gives refl
    by_test false is = absurd (cc)

module _ (start : WorldState) (past : List Step) (client : ℕ) (received : Receipts) (number : ℕ) (reply : List DBeat)
    (replied : (next (after start past) (Take client)).answer ≡ Reply number) (gives : reply ≡ (next (after start past) (Take client)).reply) where
  -- the receipts so far, and the next one
  replies_next : (right beats : ℕ) → FoundReplies start past client received right beats false → HasReceipt received right beats number reply
      → right < length received.heads.items → beats + length reply ≤ length received.beats.items
      → FoundReplies start (past ++ Take client ∷ []) client received (right + 1) (beats + length reply) false
  replies_next right beats found has within enough =
      let handed : handed_to client start (past ++ Take client ∷ []) ≡ handed_to client start past ++ reply_of client number reply ∷ [] =
      handed_to-append client start past (Take client ∷ []) ∙ rw (take_hands client (after start past) number reply replied gives) refl in
      let count : right + 1 ≡ length (handed_to client start (past ++ Take client ∷ [])) =
      rw handed (rw (length_push (handed_to client start past) (reply_of client number reply)) (ap (λ n. n + 1) found.0)) in
      let heads : take (right + 1) received.heads.items ≡ map head_of (handed_to client start (past ++ Take client ∷ [])) =
      rw (handed, map_push head_of (handed_to client start past) (reply_of client number reply)) (take_next received.heads.items right (number, length reply) has.head ∙ ap (λ front. front ++ (number, length reply) ∷ []) found.1) in
      let bytes : take (beats + length reply) received.beats.items ≡ beats_of_all (handed_to client start (past ++ Take client ∷ [])) =
      rw (handed, beats_of_all-append (handed_to client start past) (reply_of client number reply ∷ []))
      (take_add beats (length reply) received.beats.items ∙ rw (found.3, has.beats) (ap (λ rest. beats_of_all (handed_to client start past) ++ rest) (sym (append-nil reply)))) in
      (count, heads, omega arith, bytes, enough)

  -- the receipts so far, and a reply that isn't the next one
  differs_here : (right beats : ℕ) → FoundReplies start past client received right beats false → (HasReceipt received right beats number reply → ⊥)
      → FoundReplies start (past ++ Take client ∷ []) client received right beats true
  differs_here right beats found wrong =
      record {
        before = handed_to client start past;
        reply = reply_of client number reply;
        rest = [];
        replies_are = handed_to-append client start past (Take client ∷ []) ∙ rw (take_hands client (after start past) number reply replied gives) refl;
        same = found;
        differs = wrong;
      }

-- receipts that differ at a place aren't the replies
pub differs_wrong : (received : Receipts) (replies : List HandedReply) (right beats : ℕ) → DiffersAt received replies right beats → AreReceiptsOf received replies → ⊥
differs_wrong received replies right beats differs kept =
    let before = differs.before in
    let reply = differs.reply in
    let rest = differs.rest in
    let found = differs.same in
    let these : AreReceiptsOf received (before ++ reply ∷ rest) = subst (AreReceiptsOf received) differs.replies_are kept in
    let count : length before ≡ right = sym found.0 in
    let head : slice_get received.heads.items right ≡ Some (head_of reply) =
    ap (λ heads. slice_get heads right) these.heads ∙ slice_get-map head_of (before ++ reply ∷ rest) right
    ∙ subst (λ k. option_map head_of (slice_get (before ++ reply ∷ rest) k) ≡ Some (head_of reply)) count (ap (option_map head_of) (at_seam before reply rest)) in
    let size : length (beats_of_all before) ≡ beats = sym (ap length found.3) ∙ length-take-le beats received.beats.items found.4 in
    let cut : drop beats received.beats.items ≡ reply.beats ++ beats_of_all rest =
    ap (drop beats) (these.beats ∙ beats_of_all-append before (reply ∷ rest)) ∙ drop_at (beats_of_all before) (reply.beats ++ beats_of_all rest) beats size in
    differs.differs (record { head = head; beats = ap (take (length reply.beats)) cut ∙ take_at reply.beats (beats_of_all rest) (length reply.beats) refl })

-- ---- requests accepted

module _ (start : WorldState) (past : List Step) (client : ℕ) where
  accepted_more : (step : Step) → accepted_of client start (past ++ step ∷ [])
      ≡ (if accepts client (step, (next (after start past) step).answer) then accepted_of client start past + 1 else accepted_of client start past)
  accepted_more step =
      ap (λ pairs. length {A = Step × Answer} (filter (accepts client) pairs)) (answered-append start past (step ∷ []))
      ∙ ap length (filter-append (accepts client) (answered start past) (answered (after start past) (step ∷ [])))
      ∙ length-append (filter (accepts client) (answered start past)) _
      ∙ by_test (accepts client (step, (next (after start past) step).answer)) (length (filter (accepts client) (answered start past)))
    where
      by_test : (counts : Bool) (n : ℕ) → n + length {A = Step × Answer} (if counts then (step, (next (after start past) step).answer) ∷ [] else []) ≡ (if counts then n + 1 else n)
      by_test true n = refl
      by_test false n = omega arith

  -- with an Offer of its own
  accepted_with : (beat : ABeat) (answer : Answer) (count : ℕ) → answer ≡ (next (after start past) (Offer client beat)).answer
      → IsCount count (if is_accepted answer then accepted_of client start past + 1 else accepted_of client start past)
      → IsCount count (accepted_of client start (past ++ Offer client beat ∷ []))
  accepted_with beat answer count gives counted =
      let mine : (client == client) ≡ true = eq-eqb client client refl in
      rw (accepted_more (Offer client beat), mine, ← gives) counted

-- ---- all of a client

module _ {start : WorldState} {past : List Step} {client : ℕ} {script : List ABeat} {received : Receipts} (found : Found) where
  -- a step that isn't the client's leaves what was found
  pub found_beside : (step : Step) → IsFound start past client script received found → is_of client step ≡ false → IsFound start (past ++ step ∷ []) client script received found
  found_beside step is other =
      let nothing = shows_nothing client (after start past) step other in
      record {
        offers = offers_without start past client script found.offered found.strayed step is.offers nothing.offers nothing.taken;
        accepted = rw (accepted_more start past client step, nothing.accepts) is.accepted;
        replies = replies_beside start past client received found.right found.beats found.differs step is.replies nothing.handed;
      }

  -- a Take that was answered by no reply
  pub found_without_reply : (who : ℕ) → IsFound start past client script received found → ((number : ℕ) → (next (after start past) (Take who)).answer ≡ Reply number → ⊥)
      → IsFound start (past ++ Take who ∷ []) client script received found
  found_without_reply who is none =
      record {
        offers = offers_without start past client script found.offered found.strayed (Take who) is.offers refl refl;
        accepted = rw (accepted_more start past client (Take who)) is.accepted;
        replies =
            replies_beside start past client received found.right found.beats found.differs (Take who) is.replies
            (by_answer (next (after start past) (Take who)).answer (next (after start past) (Take who)).reply none);
      }
    where
      by_answer : (answer : Answer) (beats : List DBeat) → ((number : ℕ) → answer ≡ Reply number → ⊥)
          → filter (λ (handed : HandedReply). handed.client == client) (cons_option (handed_at (Take who) answer beats) []) ≡ []
      by_answer (Reply number) beats none = absurd (none number refl)
      by_answer _ beats none = refl

  -- an Offer that isn't taken, or isn't of the script's next beat
  pub found_strays : (beat : ABeat) (answer : Answer) (count : ℕ) → IsFound start past client script received found → answer ≡ (next (after start past) (Offer client beat)).answer
      → IsCount count (if is_accepted answer then accepted_of client start past + 1 else accepted_of client start past)
      → (found.strayed ≡ false → takes_beat answer ≡ true → slice_get script found.offered ≡ Some beat → ⊥)
      → IsFound start (past ++ Offer client beat ∷ []) client script received (record found { strayed = true; accepted = count })
  found_strays beat answer count is gives counted wrong =
      record {
        offers = by_strayed found.strayed is.offers wrong;
        accepted = accepted_with start past client beat answer count gives counted;
        replies = replies_beside start past client received found.right found.beats found.differs (Offer client beat) is.replies refl;
      }
    where
      by_strayed : (strayed : Bool) → FoundOffers start past client script found.offered strayed
          → (strayed ≡ false → takes_beat answer ≡ true → slice_get script found.offered ≡ Some beat → ⊥)
          → FoundOffers start (past ++ Offer client beat ∷ []) client script found.offered true
      by_strayed true offers wrong = strays_on start past client script found.offered (Offer client beat) offers
      by_strayed false offers wrong = strays_here start past client script found.offered beat offers (λ taken there. wrong refl (rw gives taken) there)

  -- an Offer of the script's next beat that is taken
  pub found_next : (beat : ABeat) (answer : Answer) (count : ℕ) → IsFound start past client script received found → answer ≡ (next (after start past) (Offer client beat)).answer
      → IsCount count (if is_accepted answer then accepted_of client start past + 1 else accepted_of client start past)
      → found.strayed ≡ false → takes_beat answer ≡ true → slice_get script found.offered ≡ Some beat
      → IsFound start (past ++ Offer client beat ∷ []) client script received (record found { offered = found.offered + 1; accepted = count })
  found_next beat answer count is gives counted straight taken there =
      let offers : FoundOffers start past client script found.offered false = subst (FoundOffers start past client script found.offered) straight is.offers in
      record {
        offers = subst (FoundOffers start (past ++ Offer client beat ∷ []) client script (found.offered + 1)) (sym straight)
            (offers_next start past client script found.offered beat offers (subst (λ given. takes_beat given ≡ true) gives taken) there);
        accepted = accepted_with start past client beat answer count gives counted;
        replies = replies_beside start past client received found.right found.beats found.differs (Offer client beat) is.replies refl;
      }

  module _ (number : ℕ) (reply : List DBeat) (is : IsFound start past client script received found)
      (replied : (next (after start past) (Take client)).answer ≡ Reply number) (gives : reply ≡ (next (after start past) (Take client)).reply) where
    -- a Take offers nothing
    take_offers : FoundOffers start (past ++ Take client ∷ []) client script found.offered found.strayed
    take_offers =
        offers_without start past client script found.offered found.strayed (Take client) is.offers refl refl

    -- a reply that its receipts don't have there
    pub found_differs : (found.differs ≡ false → HasReceipt received found.right found.beats number reply → ⊥)
        → IsFound start (past ++ Take client ∷ []) client script received (record found { differs = true })
    found_differs wrong =
        record {
          offers = take_offers;
          accepted = rw (accepted_more start past client (Take client)) is.accepted;
          replies = by_differs found.differs is.replies wrong;
        }
      where
        by_differs : (differs : Bool) → FoundReplies start past client received found.right found.beats differs
            → (differs ≡ false → HasReceipt received found.right found.beats number reply → ⊥)
            → FoundReplies start (past ++ Take client ∷ []) client received found.right found.beats true
        by_differs true replies wrong = differs_on start past client received found.right found.beats (Take client) replies
        by_differs false replies wrong = differs_here start past client received number reply replied gives found.right found.beats replies (wrong refl)

    -- a reply that its receipts have there
    pub found_received : found.differs ≡ false → HasReceipt received found.right found.beats number reply
        → found.right < length received.heads.items → found.beats + length reply ≤ length received.beats.items
        → IsFound start (past ++ Take client ∷ []) client script received (record found { right = found.right + 1; beats = found.beats + length reply })
    found_received right has within enough =
        record {
          offers = take_offers;
          accepted = rw (accepted_more start past client (Take client)) is.accepted;
          replies = subst (FoundReplies start (past ++ Take client ∷ []) client received (found.right + 1) (found.beats + length reply)) (sym right)
              (replies_next start past client received number reply replied gives found.right found.beats
              (subst (FoundReplies start past client received found.right found.beats) right is.replies) has within enough);
        }

  -- where its receipts are right so far, their beats are within its list
  pub beats_within : IsFound start past client script received found → found.differs ≡ false → found.beats ≤ length received.beats.items
  beats_within is right = (subst (FoundReplies start past client received found.right found.beats) right is.replies).4
