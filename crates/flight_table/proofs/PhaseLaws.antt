-- The bursts of a request's phase, by their places, and the work that they are.
use Rattle.std.proofs.Common.{◌≡◌, ℕ, zero, suc, ◌+◌, ◌-◌, ◌*◌, Bool, true, false, List, [], ◌∷◌, map, length, drop, Some, refl, ap, ◌∙◌, suc-mul, arith, length-drop}
use Rattle.std.specs.Prelude.{if◌then◌else◌}
use Rattle.std.specs.List.{AllByRecursion, range_with_len, slice_get, sum_by}
use Rattle.std.proofs.lemmas.List.Sums.{sum_by-cons}
use Rattle.burst_plan.specs.Pieces.{IsPlannable, PlannedRange, pieces}
use Rattle.burst_plan.specs.PlannedTransfers.{burst_beats}
use Rattle.burst_plan.specs.declared.Piece.{Piece}
use Rattle.burst_plan.proofs.PieceLaws.{burst_count, divides_evenly, piece_at, piece_listed, pieces_are}
use Rattle.flight_table.specs.LiveRequests.{LiveRequest, pieces_planned, planned, read_pieces, write_pieces}
use Rattle.flight_table.specs.Work.{AreWorth, answers_of_burst, beats_of_burst, later_work, unsent_work, work_of}
use Rattle.tl_messages.specs.Operations.{has_data, reply_has_data}

-- ---- the phase of a request

pub length_reading : (request : LiveRequest) → request.writing ≡ false → length (planned request) ≡ length (read_pieces request)
length_reading request reads = rw reads refl

pub length_writing : (request : LiveRequest) → request.writing ≡ true → length (planned request) ≡ length (write_pieces request)
length_writing request writes = rw writes refl

-- its pieces are those of the plan
pub piece_planned : (request : LiveRequest) (k : ℕ) (piece : Piece) → slice_get (planned request) k ≡ Some piece → slice_get (pieces_planned request.plan) k ≡ Some piece
piece_planned request k piece there = grind (arith, there)

-- ---- work

abbrev AreAlike : ℕ → List Piece → Type 0
AreAlike beats parts = AllByRecursion (λ piece. piece.len + 1 ≡ beats) parts

all_of : {X : Type 0} (P : X → Type 0) (f : ℕ → X) (a n : ℕ) → ((k : ℕ) → P (f k)) → AllByRecursion P (map f (range_with_len a n))
all_of P f a zero each = tt
all_of P f a (suc n) each = (each a, all_of P f (a + 1) n each)

-- each piece of a plan has as many transfers
pub alike : (range : PlannedRange) (k : ℕ) (piece : Piece) → IsPlannable range → slice_get (pieces range) k ≡ Some piece → AreAlike (piece.len + 1) (pieces range)
alike range k piece plannable found =
    let even = divides_evenly range plannable in
    let is : piece ≡ piece_at range k = (piece_listed range even k piece found).1 in
    rw (pieces_are range even, is) (all_of (λ p. p.len + 1 ≡ burst_beats range - 1 + 1) (piece_at range) 0 (burst_count range) (λ i. refl))

pub alike-none : (beats : ℕ) (parts : List Piece) → length parts ≡ 0 → AreAlike beats parts
alike-none beats [] none = tt
alike-none beats (p ∷ parts) none = absurd (omega (arith, none))

alike-if : (beats : ℕ) (b : Bool) (parts : List Piece) → AreAlike beats parts → AreAlike beats (if b then parts else [])
alike-if beats b parts same = grind (arith, same)

alike-either : (beats : ℕ) (b : Bool) (parts others : List Piece) → AreAlike beats parts → AreAlike beats others → AreAlike beats (if b then parts else others)
alike-either beats b parts others one other = grind (arith, one, other)

minus_zero : (n : ℕ) → n - 0 ≡ n
minus_zero n = omega arith

-- the bursts of one side, each of which has as many transfers
worth_bursts : (beats : ℕ) (write : Bool) (parts : List Piece) → AreAlike beats parts → AreWorth (beats + (if write then 1 else beats)) write parts
worth_bursts beats write [] same = tt
worth_bursts beats true (p ∷ parts) same = (ap (λ n. n + 1) same.0, worth_bursts beats true parts same.1)
worth_bursts beats false (p ∷ parts) same = (ap (λ n. n + n) same.0, worth_bursts beats false parts same.1)

-- the bursts of a phase
pub worth_is : (request : LiveRequest) (beats answers : ℕ) → AreAlike beats (pieces_planned request.plan) → answers ≡ (if request.writing then 1 else beats)
    → AreWorth (beats + answers) request.writing (planned request)
worth_is request beats answers same is =
    rw is
    (worth_bursts beats request.writing (planned request)
    (alike-either beats request.writing (write_pieces request) (read_pieces request) (alike-if beats (has_data request.operation) (pieces_planned request.plan) same)
    (alike-if beats (reply_has_data request.operation) (pieces_planned request.plan) same)))

-- what bursts are worth, from one on
pub sums_worth : (each : ℕ) (write : Bool) (parts : List Piece) (a : ℕ) → AreWorth each write parts
    → sum_by beats_of_burst (drop a parts) + sum_by (answers_of_burst write) (drop a parts) ≡ (length parts - a) * each
sums_worth each write [] zero worth = omega arith
sums_worth each write [] (suc a) worth = let none : 0 - suc a ≡ 0 = omega arith in rw none (omega arith)
sums_worth each write (p ∷ parts) zero worth =
    let rest : sum_by beats_of_burst parts + sum_by (answers_of_burst write) parts ≡ length parts * each = sums_worth each write parts 0 worth.1 ∙ ap (λ n. n * each) (minus_zero (length parts)) in
    rw (sum_by-cons beats_of_burst p parts, sum_by-cons (answers_of_burst write) p parts, minus_zero (suc (length parts))) (omega (arith, rest, worth.0, suc-mul (length parts) each))
sums_worth each write (p ∷ parts) (suc a) worth = let less : suc (length parts) - suc a ≡ length parts - a = omega arith in rw less (sums_worth each write parts a worth.1)

-- the work of a request that isn't done, and that of its unsent bursts
pub undone_work : (request : LiveRequest) (each : ℕ) → request.done ≡ false → AreWorth each request.writing (planned request)
    → work_of request ≡ length (planned request) - request.sent + (length (planned request) - request.answered) * each + later_work request
undone_work request each undone worth =
    rw (undone, length-drop request.sent (planned request)) (both _ _ _ _ (later_work request) (sums_worth each request.writing (planned request) request.answered worth))
  where
    both : (n a b m more : ℕ) → a + b ≡ m → n + a + b + more ≡ n + m + more
    both n a b m more sum = omega (arith, sum)

pub undone_unsent : (request : LiveRequest) (each : ℕ) → request.done ≡ false → AreWorth each request.writing (planned request)
    → unsent_work request ≡ length (planned request) - request.sent + (length (planned request) - request.sent) * each + later_work request
undone_unsent request each undone worth =
    rw (undone, length-drop request.sent (planned request)) (both _ _ _ _ (later_work request) (sums_worth each request.writing (planned request) request.sent worth))
  where
    both : (n a b m more : ℕ) → a + b ≡ m → n + a + b + more ≡ n + m + more
    both n a b m more sum = omega (arith, sum)

-- the work that is to be planned later, as the code counts it
pub later_is : (request : LiveRequest) (writes beats : ℕ) → request.writing ≡ false → writes ≡ length (write_pieces request) → AreAlike beats (pieces_planned request.plan) → writes * (beats + 2) ≡ later_work request
later_is request writes beats reads is same =
    let parts = write_pieces request in
    let worth = worth_bursts beats true parts (alike-if beats (has_data request.operation) (pieces_planned request.plan) same) in
    let sums : sum_by beats_of_burst parts + sum_by (answers_of_burst true) parts ≡ length parts * (beats + 1) =
    sums_worth (beats + 1) true parts 0 worth ∙ ap (λ n. n * (beats + 1)) (minus_zero (length parts)) in
    rw (reads, is) (all _ _ (length parts) sums)
  where
    all : (a b n : ℕ) → a + b ≡ n * (beats + 1) → n * (beats + 2) ≡ n + a + b
    all a b n sum = omega (arith, sum)
