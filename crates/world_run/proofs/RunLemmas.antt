-- A run with one event more: what it shows is what was shown before, and what the event shows. It knows lists of outcomes; what an event
-- does is hidden.
use Rattle.std.proofs.Common.{◌≡◌, ℕ, ◌+◌, ◌-◌, ◌≤◌, List, [], ◌∷◌, ◌++◌, length, Option, option_to_list, refl, sym, ap, ◌∙◌, arith, flat_map, slice_range}
use Rattle.std.specs.List.{cons_option}
use Rattle.std.proofs.lemmas.List.{append_assoc, length-drop, take-append-le, drop-append-le}
use Rattle.std.proofs.Math.Seq.{drop-append_seam, take-length}
use Rattle.tl_messages.specs.declared.DBeat.{DBeat}
use Rattle.axi_beats.specs.Bursts.{Burst}
use Rattle.world_run.specs.Runs.{HandedReply, handed_at, handed_in, piece_of, handed_of, AreCutFrom, bursts_in, recorded_beats, sent_in, answers_of}
use Rattle.world.specs.World.{WorldState, Outcome, next, after, outcomes}
use Rattle.world_run.specs.declared.Handed.{Handed}
use Rattle.world.specs.declared.Step.{Step}
use Rattle.world.specs.Laws.{AreSoundAlong, IsSoundWorld}

pub after-append : (state : WorldState) (steps : List Step) (step : Step) → after state (steps ++ step ∷ []) ≡ (next (after state steps) step).state
after-append state [] step = refl
after-append state (first ∷ steps) step = after-append (next state first).state steps step

pub outcomes-append : (state : WorldState) (steps : List Step) (step : Step) → outcomes state (steps ++ step ∷ []) ≡ outcomes state steps ++ next (after state steps) step ∷ []
outcomes-append state [] step = refl
outcomes-append state (first ∷ steps) step = ap (λ rest. next state first ∷ rest) (outcomes-append (next state first).state steps step)

-- one answer more
pub answers_of-append : (state : WorldState) (steps : List Step) (step : Step) → answers_of state (steps ++ step ∷ []) ≡ answers_of state steps ++ (next (after state steps) step).answer ∷ []
answers_of-append state [] step = refl
answers_of-append state (first ∷ steps) step = ap (λ rest. (next state first).answer ∷ rest) (answers_of-append (next state first).state steps step)

pub cons_option-append : {A : Type 0} (o : Option A) (xs ys : List A) → cons_option o (xs ++ ys) ≡ cons_option o xs ++ ys
cons_option-append o xs ys = grind arith

cons_option-nil : {A : Type 0} (o : Option A) → cons_option o [] ≡ option_to_list o
cons_option-nil o = grind arith

-- the reply that one event more handed out
pub handed_in-append : (state : WorldState) (steps : List Step) (step : Step)
    → handed_in state (steps ++ step ∷ [])
    ≡ handed_in state steps ++ option_to_list (handed_at step (next (after state steps) step).answer (next (after state steps) step).reply)
handed_in-append state [] step = cons_option-nil (handed_at step (next state step).answer (next state step).reply)
handed_in-append state (first ∷ steps) step =
    ap (λ rest. cons_option (handed_at first (next state first).answer (next state first).reply) rest) (handed_in-append (next state first).state steps step)
    ∙ cons_option-append (handed_at first (next state first).answer (next state first).reply) _ _

bursts_in-append : (earlier : List Outcome) (outcome : Outcome) → bursts_in (earlier ++ outcome ∷ []) ≡ bursts_in earlier ++ option_to_list outcome.burst
bursts_in-append [] outcome = cons_option-nil outcome.burst
bursts_in-append (first ∷ earlier) outcome = ap (cons_option first.burst) (bursts_in-append earlier outcome) ∙ cons_option-append first.burst _ _

flat_map-append : (xs ys : List Burst) → flat_map recorded_beats (xs ++ ys) ≡ flat_map recorded_beats xs ++ flat_map recorded_beats ys
flat_map-append [] ys = refl
flat_map-append (x ∷ xs) ys = ap (λ rest. recorded_beats x ++ rest) (flat_map-append xs ys) ∙ sym (append_assoc (recorded_beats x) _ _)

-- the beats that one event more sent
pub sent_in-append : (state : WorldState) (steps : List Step) (step : Step)
    → sent_in state (steps ++ step ∷ []) ≡ sent_in state steps ++ flat_map recorded_beats (option_to_list (next (after state steps) step).burst)
sent_in-append state steps step = grind (arith, outcomes-append, bursts_in-append, flat_map-append)

-- one piece more at the end
pub AreCutFrom-append : (place : ℕ) (replies : List Handed) (end : ℕ) (handed : Handed) → AreCutFrom place replies end → handed.first ≡ end
    → AreCutFrom place (replies ++ handed ∷ []) (end + handed.beats)
AreCutFrom-append place [] end handed cut here = (here ∙ sym cut, ap (λ n. n + handed.beats) cut)
AreCutFrom-append place (first ∷ replies) end handed cut here = (cut.0, AreCutFrom-append (place + first.beats) replies end handed cut.1 here)

-- pieces end where their list ends
cut-within : (place : ℕ) (replies : List Handed) (end : ℕ) → AreCutFrom place replies end → place ≤ end
cut-within place [] end cut = omega arith
cut-within place (first ∷ replies) end cut = let rest = cut-within (place + first.beats) replies end cut.1 in omega arith

-- a piece that ends within its list stays as it is when the list grows
slice_range-append : (beats more : List DBeat) (first count : ℕ) → first + count ≤ length beats → slice_range (beats ++ more) first (first + count) ≡ slice_range beats first (first + count)
slice_range-append beats more first count within = grind (arith, length-drop, drop-append-le, take-append-le, within)

-- beats that are appended change no piece before them
pub handed_of-append : (place : ℕ) (replies : List Handed) (beats more : List DBeat) → AreCutFrom place replies (length beats) → handed_of replies (beats ++ more) ≡ handed_of replies beats
handed_of-append place [] beats more cut = refl
handed_of-append place (first ∷ replies) beats more cut =
    let within : first.first + first.beats ≤ length beats = omega (arith, cut.0, cut-within (place + first.beats) replies (length beats) cut.1) in
    let same : piece_of (beats ++ more) first ≡ piece_of beats first =
    ap (λ piece. let handed : HandedReply = record { client = first.client; number = first.number; beats = piece } in handed)
    (slice_range-append beats more first.first first.beats within) in
    cc (same, handed_of-append (place + first.beats) replies beats more cut.1)

-- the last piece is what was appended
pub piece_of-last : (handed : Handed) (beats more : List DBeat) → handed.first ≡ length beats → handed.beats ≡ length more
    → piece_of (beats ++ more) handed ≡ record { client = handed.client; number = handed.number; beats = more }
piece_of-last handed beats more here count =
    ap (λ piece. let last : HandedReply = record { client = handed.client; number = handed.number; beats = piece } in last)
    (rw (here, count, size) (rw (drop-append_seam beats more, take-length more) refl))
  where
    size : length beats + length more - length beats ≡ length more
    size = omega arith

-- where the laws hold along the steps they hold before them
pub first_sound : (state : WorldState) (steps : List Step) → AreSoundAlong state steps → IsSoundWorld state
first_sound state [] along = along
first_sound state (step ∷ steps) along = along.0
