-- What was found of each client, one step on. It knows which client a step belongs to; what was found of one client is hidden.
use Rattle.std.proofs.Common.{◌≡◌, ℕ, ◌==◌, Bool, true, false, List, [], ◌∷◌, ◌++◌, length, set, suc, zero, ◌+◌, Option, Some, None, option_to_list, refl, sym, subst, ap, ap₂, ◌∙◌}
use Rattle.std.specs.Prelude.{◌&&◌, not, is_some, slice_get, if◌then◌else◌}
use Rattle.std.proofs.lemmas.Bool.{eqb-true, ne_eqb, eqb-false}
use Rattle.std.proofs.lemmas.List.{append-nil, length_push}
use Rattle.std.proofs.lemmas.Option.{same_Some}
use Rattle.tl_messages.specs.declared.ABeat.{ABeat}
use Rattle.tl_messages.specs.declared.DBeat.{DBeat}
use Rattle.world_run.specs.Runs.{HandedReply, accepted_numbers, answers_of, handed_at, handed_in}
use Rattle.world.specs.World.{WorldState, after, leaves_all, next}
use Rattle.world.specs.declared.Answer.{Answer}
use Rattle.world.specs.declared.Step.{Step}
use Rattle.world.specs.declared.Step.TheVariants.{Offer, Pump, Perform, AnswerB, AnswerR, Take}
use Rattle.world_run.proofs.RunLemmas.{after-append, answers_of-append, handed_in-append}
use Rattle.thread_reports.specs.Replays.{AreFound, IsCount, IsFound, IsReplay}
use Rattle.thread_reports.specs.Reports.{is_accepted}
use Rattle.thread_reports.specs.declared.receipts.Receipts.{Receipts}
use Rattle.thread_reports.specs.declared.replay.Found.{Found}
use Rattle.thread_reports.specs.declared.replay.Replay.{Replay}
use Rattle.thread_reports.proofs.HistoryLemmas.{all_change-append}
use Rattle.thread_reports.proofs.ReplayLemmas.{accepted_numbers-append}
use Rattle.thread_reports.proofs.FoundLemmas.{found_beside, is_of}

-- ---- a list with one entry changed

set_same : {A : Type 0} (xs : List A) (i : ℕ) (y x : A) → slice_get (set xs i y) i ≡ Some x → (x ≡ y) × (old : A) × (slice_get xs i ≡ Some old)
set_same [] i y x there = absurd (cc)
set_same (z ∷ zs) zero y x there = (same_Some x y (sym there), z, refl)
set_same (z ∷ zs) (suc i) y x there = set_same zs i y x there

set_other : {A : Type 0} (xs : List A) (i k : ℕ) (y : A) → (i ≡ k → ⊥) → slice_get (set xs i y) k ≡ slice_get xs k
set_other [] i k y apart = refl
set_other (z ∷ zs) zero zero y apart = absurd (apart refl)
set_other (z ∷ zs) zero (suc k) y apart = refl
set_other (z ∷ zs) (suc i) zero y apart = refl
set_other (z ∷ zs) (suc i) (suc k) y apart = set_other zs i k y (λ same. apart (ap suc same))

-- ---- a step

-- of no client but one
abbrev pub IsOfAlone : ℕ → Step → Type 0
IsOfAlone client step = (other : ℕ) → (client ≡ other → ⊥) → is_of other step ≡ false

-- of none
abbrev pub IsOfNone : Step → Type 0
IsOfNone step = (other : ℕ) → is_of other step ≡ false

module _ {start : WorldState} {past : List Step} (scripts : List (List ABeat)) (receipts : List Receipts) (found : List Found) (step : Step) (are : AreFound start past scripts receipts found) where
  pub found_of_none : IsOfNone step → AreFound start (past ++ step ∷ []) scripts receipts found
  found_of_none none client script received of script_is received_is of_is = found_beside of step (are client script received of script_is received_is of_is) (none client)

  -- the step of a client that has no script or receipts, or of whom nothing is kept
  pub found_of_absent : (client : ℕ) → IsOfAlone client step
      → ((script : List ABeat) (received : Receipts) (of : Found) → slice_get scripts client ≡ Some script → slice_get receipts client ≡ Some received → slice_get found client ≡ Some of → ⊥)
      → AreFound start (past ++ step ∷ []) scripts receipts found
  found_of_absent client alone absent k script received of script_is received_is of_is = by_place (client == k) refl
    where
      by_place : (same : Bool) → (client == k) ≡ same → IsFound start (past ++ step ∷ []) k script received of
      by_place true is =
          let here : client ≡ k = eqb-true client k is in
          absurd (absent script received of (rw here script_is) (rw here received_is) (rw here of_is))
      by_place false is = found_beside of step (are k script received of script_is received_is of_is) (alone k (eqb-false client k is))

  -- the step of a client of whom something is found
  pub found_of_client : (client : ℕ) (changed : Found) → IsOfAlone client step
      → ((script : List ABeat) (received : Receipts) (of : Found) → slice_get scripts client ≡ Some script → slice_get receipts client ≡ Some received → slice_get found client ≡ Some of
      → IsFound start past client script received of → IsFound start (past ++ step ∷ []) client script received changed)
      → AreFound start (past ++ step ∷ []) scripts receipts (set found client changed)
  found_of_client client changed alone own k script received of script_is received_is of_is = by_place (client == k) refl
    where
      by_place : (same : Bool) → (client == k) ≡ same → IsFound start (past ++ step ∷ []) k script received of
      by_place true is =
          let here : client ≡ k = eqb-true client k is in
          let there = set_same found client changed of (subst (λ j. slice_get (set found client changed) j ≡ Some of) (sym here) of_is) in
          let before = are client script received there.1 (rw here script_is) (rw here received_is) there.2 in
          rw (← here, there.0) (own script received there.1 (rw here script_is) (rw here received_is) there.2 before)
      by_place false is =
          let there = sym (set_other found client k changed (eqb-false client k is)) ∙ of_is in
          found_beside of step (are k script received of script_is received_is there) (alone k (eqb-false client k is))

-- ---- which client a step belongs to

pub offer_of_alone : (client : ℕ) (beat : ABeat) → IsOfAlone client (Offer client beat)
offer_of_alone client beat other apart = ne_eqb client other apart

pub take_of_alone : (client : ℕ) → IsOfAlone client (Take client)
take_of_alone client other apart = ne_eqb client other apart

pub own_of_none : (step : Step) → ((client : ℕ) (beat : ABeat) → step ≡ Offer client beat → ⊥) → ((client : ℕ) → step ≡ Take client → ⊥) → IsOfNone step
own_of_none (Offer client beat) offers takes other = absurd (offers client beat refl)
own_of_none Pump offers takes other = refl
own_of_none (Perform serial beat) offers takes other = refl
own_of_none (AnswerB id) offers takes other = refl
own_of_none (AnswerR id) offers takes other = refl
own_of_none (Take client) offers takes other = absurd (takes client refl)

-- ---- the replay

module _ {start : WorldState} {past : List Step} {scripts : List (List ABeat)} {receipts : List Receipts} (replay : Replay) (step : Step) (is : IsReplay start past scripts receipts replay) where
  -- a step's answer in the replay is the one after the steps so far
  pub told_after : {answer : Answer} → answer ≡ (next replay.world step).answer → answer ≡ (next (after start past) step).answer
  told_after gives = gives ∙ ap (λ state. (next state step).answer) is.world

  pub replay_grows : {world : WorldState} {reply : List DBeat} {found : List Found} {changes : Bool} {accepted handed : ℕ} (answer : Answer)
      → answer ≡ (next replay.world step).answer → world ≡ (next replay.world step).state → changes ≡ (replay.changes && not (leaves_all answer))
      → ((of : ℕ) → IsCount replay.accepted of → IsCount accepted (if is_accepted answer then of + 1 else of))
      → ((of : ℕ) (beats : List DBeat) → IsCount replay.handed of → IsCount handed (if is_some (handed_at step answer beats) then of + 1 else of))
      → AreFound start (past ++ step ∷ []) scripts receipts found
      → IsReplay start (past ++ step ∷ []) scripts receipts (record { world = world; reply = reply; found = found; changes = changes; accepted = accepted; handed = handed })
  replay_grows {world = world} {changes = changes} {accepted = accepted} {handed = handed} answer gives becomes changed counts hands clients =
      let state = after start past in
      let told = told_after gives in
      let before = answers_of start past in
      let numbers : length (accepted_numbers (answers_of start (past ++ step ∷ []))) ≡ (if is_accepted answer then length (accepted_numbers before) + 1 else length (accepted_numbers before)) =
      ap (λ answers. length (accepted_numbers answers)) (answers_of-append start past step) ∙ accepted_numbers-append before (next state step).answer
      ∙ ap (λ given. if is_accepted given then length (accepted_numbers before) + 1 else length (accepted_numbers before)) (sym told) in
      let replies : length (handed_in start (past ++ step ∷ [])) ≡ (if is_some (handed_at step answer (next state step).reply) then length (handed_in start past) + 1 else length (handed_in start past)) =
      ap length (handed_in-append start past step) ∙ one_counted (handed_at step (next state step).answer (next state step).reply) (handed_in start past)
      ∙ ap (λ given. if is_some (handed_at step given (next state step).reply) then length (handed_in start past) + 1 else length (handed_in start past)) (sym told) in
      record {
        world = becomes ∙ ap (λ was. (next was step).state) is.world ∙ sym (after-append start past step);
        changes =
            changed ∙ ap₂ (λ b a. b && not (leaves_all a)) is.changes told ∙ sym (all_change-append start past step);
        accepted = rw numbers (counts (length (accepted_numbers before)) is.accepted);
        handed = rw replies (hands (length (handed_in start past)) (next state step).reply is.handed);
        clients = clients;
      }
    where
      one_counted : (o : Option HandedReply) (xs : List HandedReply) → length (xs ++ option_to_list o) ≡ (if is_some o then length xs + 1 else length xs)
      one_counted None xs = ap length (append-nil xs)
      one_counted (Some x) xs = length_push xs x
