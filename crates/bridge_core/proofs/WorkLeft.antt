-- The work that is left is that of the bursts that aren't sent, and that of the outstanding ones, of which some read beats came. It knows how
-- the outstanding bursts of an ID are those of its holder; what they carry is hidden.
use Rattle.std.proofs.Common.{◌≡◌, ℕ, zero, suc, ◌+◌, ◌*◌, ◌==◌, ◌≤◌, Bool, true, false, not, List, [], ◌∷◌, length, drop, take, Option, Some, None, refl, ap, sym, ◌∙◌, arith, inl, inr}
use Rattle.std.specs.List.{AllByRecursion, filter, sum_by}
use Rattle.std.proofs.Math.Seq.{drop-nil, take-nil}
use Rattle.std.proofs.lemmas.Bool.{eq-eqb}
use Rattle.std.proofs.lemmas.Bool.Decides.{eqb_tells, nat_tests}
use Rattle.std.proofs.lemmas.List.Sums.{sum_by-cons, sum_by-take-drop}
use Rattle.bus_words.proofs.FoundChanges.{find-none-kept}
use Rattle.bus_words.proofs.PlaceChanges.{pass_fewer}
use Rattle.burst_plan.specs.declared.Piece.{Piece}
use Rattle.flight_table.specs.Laws.{IsSoundRequest}
use Rattle.flight_table.specs.LiveRequests.{LiveRequest, planned}
use Rattle.flight_table.specs.Order.{holds_id}
use Rattle.flight_table.specs.Work.{answers_of_burst, beats_of_burst, unsent, unsent_work, work, work_of}
use Rattle.flight_table.specs.declared.TableLimits.{TableLimits}
use Rattle.axi_checker.specs.OpenBursts.{OpenBursts, OpenRead, OpenWrite, read_of_id, write_of_id}
use Rattle.bridge_core.specs.Bridge.{BridgeState, answered_reads}
use Rattle.bridge_core.specs.HeldRequests.{table_limits_of, BridgedRequest, flight_table_of, flights_of, holder, holds}
use Rattle.bridge_core.specs.Laws.{AreLinked, IsPartWay, IsServed, IsSoundBridge, came_of_next, open_read, open_reads, open_write, open_writes, outstanding, reads_held, writes_held}
use Rattle.config.specs.declared.Config.{Config}
use Rattle.burst_plan.specs.declared.Region.{Region}
use Rattle.bridge_core.proofs.ResponseLinks.{part_way-zero}
use Rattle.bridge_core.proofs.SendingLinks.{sound_requests}
use Rattle.bridge_core.proofs.SentLinks.{holders_counted, none_sent}

-- ---- the items of an ID, and the others

module _ {X : Type 0} (key : X → ℕ) where
  abbrev is_of : ℕ → X → Bool
  is_of id x = key x == id

  abbrev is_other : ℕ → X → Bool
  is_other id x = not (key x == id)

  sum_apart : (measure : X → ℕ) (id : ℕ) (xs : List X) → sum_by measure xs ≡ sum_by measure (filter (is_of id) xs) + sum_by measure (filter (is_other id) xs)
  sum_apart measure id [] = omega arith
  sum_apart measure id (x ∷ xs) =
      grind (arith, sum_apart measure id xs, sum_by-cons measure x xs, sum_by-cons measure x (filter (is_of id) xs), sum_by-cons measure x (filter (is_other id) xs))

  own_of_others : (id : ℕ) (xs : List X) → filter (is_of id) (filter (is_other id) xs) ≡ []
  own_of_others id [] = refl
  own_of_others id (x ∷ xs) = grind (arith, own_of_others id xs)

  others_of_others : (id j : ℕ) (xs : List X) → (j == id) ≡ false → filter (is_of id) (filter (is_other j) xs) ≡ filter (is_of id) xs
  others_of_others id j [] other = refl
  others_of_others id j (x ∷ xs) other = grind (arith, nat_tests, others_of_others id j xs)

  none_left : (xs : List X) → ((id : ℕ) → filter (is_of id) xs ≡ []) → xs ≡ []
  none_left [] none = refl
  none_left (x ∷ xs) none = absurd (cc (rw (eq-eqb (key x) (key x) refl) at (none (key x))))

abbrev key_of_read : OpenRead → ℕ
key_of_read read = read.ar.id

abbrev key_of_write : OpenWrite → ℕ
key_of_write write = write.aw.id

-- ---- the work of outstanding bursts

-- all beats and answers of an open write, and of an open read
abbrev pub whole_write : OpenWrite → ℕ
whole_write write = write.aw.len + 2

abbrev pub whole_read : OpenRead → ℕ
whole_read read = 2 * (read.ar.len + 1)

abbrev came_in : OpenRead → ℕ
came_in read = read.came

-- of all of them
abbrev pub whole_open : OpenBursts → ℕ
whole_open open_bursts = sum_by whole_write open_bursts.writes + sum_by whole_read open_bursts.reads

-- of a side's pieces
abbrev whole_planned : Bool → List Piece → ℕ
whole_planned write pieces = sum_by beats_of_burst pieces + sum_by (answers_of_burst write) pieces

whole_of_open : (id : ℕ) (write : Bool) (came : ℕ) (pieces : List Piece)
    → sum_by whole_write (open_writes id write pieces) + sum_by whole_read (open_reads id write came pieces) ≡ whole_planned write pieces
whole_of_open id write came [] = grind arith
whole_of_open id write came (piece ∷ pieces) =
    grind (
      arith,
      whole_of_open id write 0 pieces,
      sum_by-cons whole_write (open_write id piece) (open_writes id true pieces),
      sum_by-cons whole_read (open_read id came piece) (open_reads id false 0 pieces),
      sum_by-cons beats_of_burst piece pieces,
      sum_by-cons (answers_of_burst write) piece pieces,
    )

-- no more beats came of a request's reads than they have
came_few : (id : ℕ) (write : Bool) (came : ℕ) (pieces : List Piece) → IsPartWay write came pieces → 2 * sum_by came_in (open_reads id write came pieces) ≤ sum_by whole_read (open_reads id write came pieces)
came_few id true came pieces way = omega arith
came_few id false came [] way = omega arith
came_few id false came (piece ∷ pieces) way =
    let first = open_read id came piece in
    let others = open_reads id false 0 pieces in
    omega (arith, way, came_few id false 0 pieces (part_way-zero false pieces), sum_by-cons came_in first others, sum_by-cons whole_read first others)

-- ---- the work of one request

sum_from : {X : Type 0} (measure : X → ℕ) (a s : ℕ) (xs : List X) → a ≤ s → sum_by measure (drop a xs) ≡ sum_by measure (drop a (take s xs)) + sum_by measure (drop s xs)
sum_from {X = X} measure a s [] within = rw (take-nil, drop-nil {A = X} a, drop-nil {A = X} s) refl
sum_from measure zero s (x ∷ xs) within = sym (sum_by-take-drop measure (x ∷ xs) s)
sum_from measure (suc a) zero (x ∷ xs) within = absurd (omega (arith, within))
sum_from measure (suc a) (suc s) (x ∷ xs) within = sum_from measure a s xs (omega (arith, within))

-- a request that isn't done: the bursts that it has still to send, and those that are outstanding
work_of_undone : (limits : TableLimits) (accepted : ℕ) (flight : LiveRequest) → IsSoundRequest limits accepted flight → flight.done ≡ false
    → work_of flight ≡ unsent_work flight + whole_planned flight.writing (outstanding flight)
work_of_undone limits accepted flight sound undone =
    let beats = sum_from beats_of_burst flight.answered flight.sent (planned flight) sound.answered in
    let answers = sum_from (answers_of_burst flight.writing) flight.answered flight.sent (planned flight) sound.answered in
    rw undone (omega (arith, beats, answers))

-- one without an ID has nothing outstanding
work_without_id : (limits : TableLimits) (accepted : ℕ) (flight : LiveRequest) → IsSoundRequest limits accepted flight → flight.id ≡ None → work_of flight ≡ unsent_work flight
work_without_id limits accepted flight sound none = grind (arith, none_sent limits accepted flight sound, work_of_undone limits accepted flight sound, sound.answered)

-- ---- all of them

alone_here : {X : Type 0} (q : X → Bool) (x : X) (xs : List X) → q x ≡ true → length (filter q (x ∷ xs)) ≤ 1 → length (filter q xs) ≡ 0
alone_here q x xs passes few = grind arith

-- open bursts beside live requests: the work of these is what they have still to send, and all of the open bursts, of whose reads no more beats
-- came than they have
record IsWorkOf (live : List BridgedRequest) (open_bursts : OpenBursts) : Type 0 where
  pub whole : sum_by work_of (flights_of live) ≡ sum_by unsent_work (flights_of live) + whole_open open_bursts
  pub came : 2 * answered_reads open_bursts ≤ sum_by whole_read open_bursts.reads

-- the open bursts without those of an ID
abbrev without_id : ℕ → OpenBursts → OpenBursts
without_id id open_bursts =
    record { writes = filter (is_other key_of_write id) open_bursts.writes; reads = filter (is_other key_of_read id) open_bursts.reads }

work_of_all : (limits : TableLimits) (accepted : ℕ) (config : Config) (regions : List Region) (live : List BridgedRequest) (open_bursts : OpenBursts)
    → AllByRecursion (λ (r : BridgedRequest). IsSoundRequest limits accepted r.flight) live → AllByRecursion (IsServed config regions) live → ((id : ℕ) → length (filter (holds id) live) ≤ 1)
    → AreLinked live open_bursts → IsWorkOf live open_bursts
work_of_all limits accepted config regions [] open_bursts all served one linked =
    let no_writes : open_bursts.writes ≡ [] = none_left key_of_write open_bursts.writes (λ id. (linked id).writes) in
    let no_reads : open_bursts.reads ≡ [] = none_left key_of_read open_bursts.reads (λ id. (linked id).reads) in
    record { whole = rw (no_writes, no_reads) refl; came = rw no_reads (omega arith) }
work_of_all limits accepted config regions (r ∷ live) open_bursts all served one linked =
    by_id r.flight.id refl (λ some linked_to. work_of_all limits accepted config regions live some all.1 served.1 (λ id. omega (arith, one id, pass_fewer (holds id) r live)) linked_to)
  where
    -- where another holds the ID, or nobody does
    later : (id : ℕ) → holds id r ≡ false → holder id (r ∷ live) ≡ holder id live
    later id fails = rw fails refl

    others_linked : (j : ℕ) → r.flight.id ≡ Some j → AreLinked live (without_id j open_bursts)
    others_linked j some id =
        elim (eqb_tells j id) [
          | inl is ↦
              let none : holder id live ≡ None = find-none-kept (holds id) live (alone_here (holds id) r live (rw some is.0) (one id)) in
              record { writes = cc (is.1, own_of_others key_of_write id open_bursts.writes, none); reads = cc (is.1, own_of_others key_of_read id open_bursts.reads, none) }
          | inr is ↦
              let same = later id (rw some is.0) in
              record {
                writes = cc (others_of_others key_of_write id j open_bursts.writes is.0, (linked id).writes, same);
                reads = cc (others_of_others key_of_read id j open_bursts.reads is.0, (linked id).reads, same);
              }
        ]

    by_id : (own_id : Option ℕ) → r.flight.id ≡ own_id → ((some : OpenBursts) → AreLinked live some → IsWorkOf live some) → IsWorkOf (r ∷ live) open_bursts
    by_id None none rest =
        let others = rest open_bursts (λ id. let same = later id (rw none refl) in record { writes = cc (same, (linked id).writes); reads = cc (same, (linked id).reads) }) in
        record {
          whole = omega (arith, others.whole, work_without_id limits accepted r.flight all.0 none, sum_by-cons work_of r.flight (flights_of live), sum_by-cons unsent_work r.flight (flights_of live));
          came = others.came;
        }
    by_id (Some j) some rest =
        let mine : holder j (r ∷ live) ≡ Some r = rw (some, eq-eqb j j refl) refl in
        let writes : filter (write_of_id j) open_bursts.writes ≡ writes_held j (Some r) = (linked j).writes ∙ ap (writes_held j) mine in
        let reads : filter (read_of_id j) open_bursts.reads ≡ reads_held j (Some r) = (linked j).reads ∙ ap (reads_held j) mine in
        let others = rest (without_id j open_bursts) (others_linked j some) in
        record {
          whole =
              omega (
                arith,
                others.whole,
                work_of_undone limits accepted r.flight all.0 (grind (arith, all.0.freed, some)),
                whole_of_open j r.flight.writing (came_of_next r) (outstanding r.flight),
                sum_apart key_of_write whole_write j open_bursts.writes,
                sum_apart key_of_read whole_read j open_bursts.reads,
                ap (sum_by whole_write) writes,
                ap (sum_by whole_read) reads,
                sum_by-cons work_of r.flight (flights_of live),
                sum_by-cons unsent_work r.flight (flights_of live),
              );
          came =
              omega (
                arith,
                others.came,
                came_few j r.flight.writing (came_of_next r) (outstanding r.flight) served.0.next,
                sum_apart key_of_read whole_read j open_bursts.reads,
                sum_apart key_of_read came_in j open_bursts.reads,
                ap (sum_by whole_read) reads,
                ap (sum_by came_in) reads,
              );
        }

work_of_bridge : (state : BridgeState) → IsSoundBridge state → IsWorkOf state.requests.live state.open_bursts
work_of_bridge state sound =
    work_of_all (table_limits_of state.requests.config) state.requests.accepted state.requests.config state.requests.regions state.requests.live state.open_bursts
    (sound_requests state.requests sound.requests) sound.requests.served
    (λ id. omega (arith, sound.requests.flights.one_holder id, holders_counted (holds_id id) state.requests.live)) sound.linked

-- the work that the table counts is that of the bursts to send, and all of the outstanding ones
pub work_apart : (state : BridgeState) → IsSoundBridge state → work (flight_table_of state.requests) ≡ unsent (flight_table_of state.requests) + whole_open state.open_bursts
work_apart state sound = (work_of_bridge state sound).whole

-- the read beats that came of outstanding bursts are among it
pub work_covers_reads : (state : BridgeState) → IsSoundBridge state → 2 * answered_reads state.open_bursts ≤ work (flight_table_of state.requests)
work_covers_reads state sound = let apart = work_of_bridge state sound in omega (arith, apart.whole, apart.came)
