-- What a list of steps shows is what its front shows, and what the rest shows after it. It knows lists; what a step does is hidden.
use Rattle.std.proofs.Common.{◌≡◌, ℕ, ◌+◌, ◌==◌, Bool, true, false, List, [], ◌∷◌, ◌++◌, length, refl, ap, suc, ◌∙◌, arith}
use Rattle.std.specs.Prelude.{filter, zip, ◌&&◌, if◌then◌else◌}
use Rattle.std.specs.List.{cons_option, list_all}
use Rattle.std.proofs.lemmas.List.Elements.{filter-append}
use Rattle.world_run.specs.Runs.{HandedReply, accepted_numbers, answers_of, handed_at, handed_in}
use Rattle.world_run.proofs.RunLemmas.{cons_option-append}
use Rattle.world.specs.World.{WorldState, after, next}
use Rattle.world.specs.declared.Answer.{Answer}
use Rattle.world.specs.declared.Answer.TheVariants.{More, Accepted, NotReady, Exhausted, Refused, NoClient, Sent, Idle, Done, NoSuch, Already, B, R, Nothing, Reply}
use Rattle.world.specs.declared.Step.{Step}
use Rattle.thread_reports.specs.Reports.{handed_to, is_accepted, offered_by, offers_of}

-- steps with their answers
abbrev pub answered : WorldState → List Step → List (Step × Answer)
answered start steps = zip steps (answers_of start steps)

pub answered-append : (start : WorldState) (xs ys : List Step) → answered start (xs ++ ys) ≡ answered start xs ++ answered (after start xs) ys
answered-append start [] ys = refl
answered-append start (x ∷ xs) ys = ap (λ rest. (x, (next start x).answer) ∷ rest) (answered-append (next start x).state xs ys)

pub offers_of-append : (client : ℕ) (xs ys : List Step) → offers_of client (xs ++ ys) ≡ offers_of client xs ++ offers_of client ys
offers_of-append client [] ys = refl
offers_of-append client (x ∷ xs) ys = ap (cons_option (offered_by client x)) (offers_of-append client xs ys) ∙ cons_option-append (offered_by client x) _ _

handed_in-append : (start : WorldState) (xs ys : List Step) → handed_in start (xs ++ ys) ≡ handed_in start xs ++ handed_in (after start xs) ys
handed_in-append start [] ys = refl
handed_in-append start (x ∷ xs) ys =
    ap (cons_option (handed_at x (next start x).answer (next start x).reply)) (handed_in-append (next start x).state xs ys)
    ∙ cons_option-append (handed_at x (next start x).answer (next start x).reply) _ _

pub handed_to-append : (client : ℕ) (start : WorldState) (xs ys : List Step) → handed_to client start (xs ++ ys) ≡ handed_to client start xs ++ handed_to client (after start xs) ys
handed_to-append client start xs ys =
    ap (filter (λ (handed : HandedReply). handed.client == client)) (handed_in-append start xs ys)
    ∙ filter-append (λ (handed : HandedReply). handed.client == client) (handed_in start xs) (handed_in (after start xs) ys)

pub list_all-append : {A : Type 0} (test : A → Bool) (xs ys : List A) → list_all test (xs ++ ys) ≡ (list_all test xs && list_all test ys)
list_all-append test [] ys = refl
list_all-append test (x ∷ xs) ys = by_first (test x) (list_all test xs) (list_all test (xs ++ ys)) (list_all-append test xs ys)
  where
    by_first : (b all longer : Bool) → longer ≡ (all && list_all test ys) → (b && longer) ≡ ((b && all) && list_all test ys)
    by_first true all longer same = same
    by_first false all longer same = refl

pub accepted_numbers-append : (xs : List Answer) (y : Answer) → length (accepted_numbers (xs ++ y ∷ [])) ≡ (if is_accepted y then length (accepted_numbers xs) + 1 else length (accepted_numbers xs))
accepted_numbers-append [] (Accepted number) = refl
accepted_numbers-append [] More = refl
accepted_numbers-append [] NotReady = refl
accepted_numbers-append [] Exhausted = refl
accepted_numbers-append [] (Refused rule) = refl
accepted_numbers-append [] NoClient = refl
accepted_numbers-append [] (Sent serial) = refl
accepted_numbers-append [] Idle = refl
accepted_numbers-append [] Done = refl
accepted_numbers-append [] NoSuch = refl
accepted_numbers-append [] Already = refl
accepted_numbers-append [] (B b) = refl
accepted_numbers-append [] (R r) = refl
accepted_numbers-append [] Nothing = refl
accepted_numbers-append [] (Reply number) = refl
accepted_numbers-append (x ∷ xs) y = by_first x (accepted_numbers-append xs y)
  where
    more : (b : Bool) (k n : ℕ) → k ≡ (if b then n + 1 else n) → suc k ≡ (if b then suc n + 1 else suc n)
    more true k n same = omega (arith, same)
    more false k n same = omega (arith, same)

    by_first : (a : Answer) → length (accepted_numbers (xs ++ y ∷ [])) ≡ (if is_accepted y then length (accepted_numbers xs) + 1 else length (accepted_numbers xs))
        → length (accepted_numbers (a ∷ (xs ++ y ∷ []))) ≡ (if is_accepted y then length (accepted_numbers (a ∷ xs)) + 1 else length (accepted_numbers (a ∷ xs)))
    by_first (Accepted number) counted = more (is_accepted y) _ _ counted
    by_first _ counted = counted
