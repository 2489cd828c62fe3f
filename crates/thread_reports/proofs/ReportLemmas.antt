-- A replay in which all was found right is a report's, and each accepted number was handed out. It knows counts and lists; what a step does is
-- hidden.
use Rattle.std.proofs.Common.{◌≡◌, ℕ, ◌+◌, ◌<◌, ◌≤◌, ◌^◌, ◌-◌, Bool, true, false, List, [], ◌∷◌, map, length, None, refl, sym, ap, ◌∙◌, arith, suc, zero}
use Rattle.std.specs.Prelude.{nat_eq, ◌||◌, IsTrue}
use Rattle.std.specs.List.{AllByRecursion, IsDistinct, list_any, range_with_len}
use Rattle.std.proofs.lemmas.Bool.{eqb-true, false≢true}
use Rattle.std.proofs.lemmas.List.{length-map}
use Rattle.std.proofs.lemmas.Map.Steps.{le-length_from_below, length-le_from_distinct_below}
use Rattle.std.proofs.lemmas.Option.{slice_get_within}
use Rattle.tl_messages.specs.Requests.{WholeRequest}
use Rattle.tl_messages.specs.declared.ABeat.{ABeat}
use Rattle.responses.specs.Shown.{Reply}
use Rattle.world_run.specs.Headline.{IsOneAtATime, IsReplyTo}
use Rattle.meaning.specs.InTurn.{replies_of}
use Rattle.world.specs.Laws.{AreSoundAlong}
use Rattle.world_run.specs.Runs.{HandedReply, accepted_in, accepted_numbers, answers_of, handed_in, sent_in}
use Rattle.setups.specs.Setups.{SetupLists, setup_fault}
use Rattle.world.specs.World.{after, byte_of, in_flight, opening_world}
use Rattle.world.specs.declared.Answer.{Answer}
use Rattle.world.specs.declared.Answer.TheVariants.{Accepted}
use Rattle.world.specs.declared.Step.{Step}
use Rattle.world_run.proofs.CarriedOut.{is_carried_out}
use Rattle.world_run.proofs.MainTheorem.{one_at_a_time}
use Rattle.thread_reports.specs.Replays.{IsReplay}
use Rattle.thread_reports.specs.Reports.{AreClientReports, IsReport}
use Rattle.thread_reports.specs.declared.receipts.Receipts.{Receipts}
use Rattle.thread_reports.specs.declared.replay.Replay.{Replay}

-- ---- as many different numbers as there are below a bound are all of them

none_of : (k : ℕ) (xs : List ℕ) → list_any (nat_eq k) xs ≡ false → AllByRecursion (λ x. nat_eq k x ≡ false) xs
none_of k [] none = tt
none_of k (x ∷ xs) none = by_first (nat_eq k x) refl none (none_of k xs)
  where
    by_first : (b : Bool) → nat_eq k x ≡ b → (b || list_any (nat_eq k) xs) ≡ false → (list_any (nat_eq k) xs ≡ false → AllByRecursion (λ y. nat_eq k y ≡ false) xs)
        → AllByRecursion (λ y. nat_eq k y ≡ false) (x ∷ xs)
    by_first true is none rest = absurd (false≢true (sym none))
    by_first false is none rest = (is, rest none)

one_more_distinct : (k : ℕ) (xs : List ℕ) → AllByRecursion (λ x. nat_eq k x ≡ false) xs → IsDistinct nat_eq xs → IsDistinct nat_eq (k ∷ xs)
unfolding IsDistinct
one_more_distinct k xs none distinct = (none, distinct)

each_is_there : (xs : List ℕ) (n : ℕ) → IsDistinct nat_eq xs → ((q : ℕ) → list_any (nat_eq q) xs ≡ true → q < n) → length xs ≡ n → (k : ℕ) → k < n → list_any (nat_eq k) xs ≡ true
each_is_there xs n distinct below count k small = by_test (list_any (nat_eq k) xs) refl
  where
    below_too : (q : ℕ) → (nat_eq q k || list_any (nat_eq q) xs) ≡ true → q < n
    below_too q there = by_first (nat_eq q k) refl there
      where
        by_first : (b : Bool) → nat_eq q k ≡ b → (b || list_any (nat_eq q) xs) ≡ true → q < n
        by_first true is there = let same : q ≡ k = eqb-true q k is in omega arith
        by_first false is there = below q there

    by_test : (there : Bool) → list_any (nat_eq k) xs ≡ there → list_any (nat_eq k) xs ≡ true
    by_test true is = is
    by_test false is =
        let most : length (k ∷ xs) ≤ n = length-le_from_distinct_below (k ∷ xs) n (one_more_distinct k xs (none_of k xs is) distinct) below_too in
        absurd (omega (arith, most, count))

-- ---- each accepted number was handed out

-- the number of a reply to one of some requests is below their count
number_below : (requests : List WholeRequest) (replies : List Reply) (handed : List HandedReply) (q : ℕ) → AllByRecursion (IsReplyTo requests replies) handed
    → list_any (nat_eq q) (map (λ reply. reply.number) handed) ≡ true → q < length requests
number_below requests replies [] q all there = absurd (false≢true there)
number_below requests replies (first ∷ rest) q all there = by_first (nat_eq q first.number) refl there (number_below requests replies rest q all.1)
  where
    by_first : (b : Bool) → nat_eq q first.number ≡ b → (b || list_any (nat_eq q) (map (λ (reply : HandedReply). reply.number) rest)) ≡ true
        → (list_any (nat_eq q) (map (λ (reply : HandedReply). reply.number) rest) ≡ true → q < length requests) → q < length requests
    by_first true is there rest =
        let same : q ≡ first.number = eqb-true q first.number is in
        let within = slice_get_within requests first.number all.0.request all.0.accepted in omega (arith, within, same)
    by_first false is there rest = rest there

module _ (setup : SetupLists) (steps : List Step) (along : AreSoundAlong (opening_world setup) steps) where
  -- the main theorem, of any steps along which the laws hold
  pub carried_out : IsOneAtATime setup steps (answers_of (opening_world setup) steps) (handed_in (opening_world setup) steps) (sent_in (opening_world setup) steps) (in_flight (after (opening_world setup) steps))
      (byte_of (after (opening_world setup) steps))
  carried_out = one_at_a_time setup steps along (is_carried_out setup steps along)

  length-range : (from n : ℕ) → length (range_with_len from n) ≡ n
  length-range from zero = refl
  length-range from (suc n) = ap suc (length-range (from + 1) n)

  pub each_handed : length (handed_in (opening_world setup) steps) ≡ length (accepted_numbers (answers_of (opening_world setup) steps))
      → (number : ℕ) → number < length (accepted_in steps (answers_of (opening_world setup) steps)) → IsTrue (list_any (nat_eq number) (map (λ handed. handed.number) (handed_in (opening_world setup) steps)))
  each_handed as_many number below =
      let handed = handed_in (opening_world setup) steps in
      let requests = accepted_in steps (answers_of (opening_world setup) steps) in
      let count : length (map (λ (reply : HandedReply). reply.number) handed) ≡ length requests =
      length-map handed (λ reply. reply.number) ∙ as_many ∙ ap length carried_out.numbered ∙ length-range 0 (length requests) in
      each_is_there (map (λ reply. reply.number) handed) (length requests) carried_out.once (λ q. number_below requests (replies_of setup requests) handed q carried_out.replies) count number below

  -- where each accepted number was handed out, there are as many
  pub as_many_handed : ((number : ℕ) → number < length (accepted_in steps (answers_of (opening_world setup) steps)) → IsTrue (list_any (nat_eq number) (map (λ handed. handed.number) (handed_in (opening_world setup) steps))))
      → length (accepted_numbers (answers_of (opening_world setup) steps)) ≡ length (handed_in (opening_world setup) steps)
  as_many_handed all =
      let handed = handed_in (opening_world setup) steps in
      let requests = accepted_in steps (answers_of (opening_world setup) steps) in
      let numbers = map (λ (reply : HandedReply). reply.number) handed in
      let least : length requests ≤ length numbers = le-length_from_below numbers (length requests) all in
      let most : length numbers ≤ length requests =
      length-le_from_distinct_below numbers (length requests) carried_out.once (λ q. number_below requests (replies_of setup requests) handed q carried_out.replies) in
      let accepted : length (accepted_numbers (answers_of (opening_world setup) steps)) ≡ length requests = ap length carried_out.numbered ∙ length-range 0 (length requests) in
      omega (arith, least, most, accepted, length-map handed (λ reply. reply.number))

  -- there are no more than steps
  pub few_accepted : length (accepted_numbers (answers_of (opening_world setup) steps)) ≤ length steps
  few_accepted =
      omega (arith, no_more (answers_of (opening_world setup) steps), carried_out.answered)
    where
      no_more : (answers : List Answer) → length (accepted_numbers answers) ≤ length answers
      no_more [] = omega arith
      no_more (Accepted number ∷ answers) = omega (arith, no_more answers)
      no_more (_ ∷ answers) = omega (arith, no_more answers)

-- ---- one client

-- ---- the report

module _ (setup : SetupLists) (scripts : List (List ABeat)) (steps : List Step) (receipts : List Receipts) (replay : Replay) (sound : setup_fault setup ≡ None)
    (along : AreSoundAlong (opening_world setup) steps) (is : IsReplay (opening_world setup) steps scripts receipts replay) where
  pub right_report : length scripts ≡ setup.config.clients → length receipts ≡ length scripts → AreClientReports (opening_world setup) steps scripts receipts
      → replay.changes ≡ true → in_flight replay.world ≡ 0 → replay.accepted ≡ replay.handed → replay.accepted < 2 ^ 64 - 1
      → IsReport setup scripts steps receipts replay.world
  right_report as_many each clients changes quiet counted small =
      let accepted : replay.accepted ≡ length (accepted_numbers (answers_of (opening_world setup) steps)) = omega (arith, is.accepted, small) in
      let handed : replay.handed ≡ length (handed_in (opening_world setup) steps) = omega (arith, is.handed, small, counted) in
      record {
        sound = sound;
        history = record { replays = is.world; changes = sym is.changes ∙ changes };
        as_many_scripts = as_many;
        as_many_receipts = each ∙ as_many;
        clients = clients;
        all_handed = each_handed setup steps along (sym handed ∙ sym counted ∙ accepted);
        quiet = quiet;
      }
