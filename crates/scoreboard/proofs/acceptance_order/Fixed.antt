-- Requests of which all that they read is known: of their replies all is compared, and of a memory of which all is known they leave all known.
use Rattle.std.proofs.Common.{◌≡◌, ℕ, ◌+◌, ◌-◌, ◌*◌, ◌^◌, Bool, true, false, ◌&&◌, not, List, [], ◌∷◌, length, Option, refl, sym, ◌∙◌, ap, ap₂, subst, arith}
use Rattle.std.specs.Prelude.{is_some}
use Rattle.std.proofs.Math.Path.{fun_ext}
use Rattle.std.proofs.lemmas.Bool.{and_parts}
use Rattle.bus_words.specs.Lanes.{given_at, word_address}
use Rattle.burst_plan.specs.PageMap.{address_of}
use Rattle.setups.specs.Setups.{SetupLists, faults_of}
use Rattle.tl_messages.specs.Operations.{beats_of}
use Rattle.tl_messages.specs.Requests.{WholeRequest}
use Rattle.tl_messages.specs.declared.DBeat.{DBeat}
use Rattle.scoreboard.specs.Boards.{Board, ClientBoard, in_turn_on, with_taken, wrong_beat, wrong_in_turn}
use Rattle.scoreboard.specs.Flights.{Footprint, no_footprint}
use Rattle.scoreboard.specs.InsideBoards.{HasRoomToWrite}
use Rattle.scoreboard.specs.InTurn.{DueBeat, after_turn, dues_of, is_unknown_in, unless_fixed}
use Rattle.scoreboard.specs.Races.{after_given, alone, covers, is_fixed}
use Rattle.scoreboard.specs.Right.{acts, unknown_after_all}
use Rattle.serial_memory.specs.SerialMemory.{on_good_page}
use Rattle.scoreboard.proofs.real_time.Apart.{determined_fixed, fixed_determined}
use Rattle.scoreboard.proofs.real_time.RequestActs.{given_within}

-- no lane of such a reply tells what isn't known
none_unknown : (footprint : Footprint) (k : ℕ) (beat : DBeat) (lane : ℕ) → is_fixed footprint ≡ true → is_unknown_in footprint k beat lane ≡ false
none_unknown footprint k beat lane fixed = by_reads footprint.reads refl (covers footprint x) refl
  where
    x : ℕ
    x = word_address footprint.address + 8 * k + lane

    by_reads : (reads : Bool) → footprint.reads ≡ reads → (own : Bool) → covers footprint x ≡ own → is_unknown_in footprint k beat lane ≡ false
    by_reads false is own covered = rw is refl
    by_reads true is false covered = grind (arith, covered)
    by_reads true is true covered = grind (arith, fixed_determined footprint x fixed is covered)

-- so that it is compared whole, as where no footprint is kept
pub dues_fixed : (footprint : Footprint) (beats : List DBeat) → is_fixed footprint ≡ true → dues_of no_footprint beats ≡ dues_of footprint beats
dues_fixed footprint [] fixed = refl
dues_fixed footprint (beat ∷ rest) fixed =
    ap₂ (λ (unknown : ℕ → Bool) (dues : List DueBeat). record { beat = beat; unknown = unknown } ∷ dues)
    (fun_ext (λ lane. sym (none_unknown footprint (beats_of footprint.size true - length (beat ∷ rest)) beat lane fixed))) (dues_fixed footprint rest fixed)

-- and so is it where the footprint is kept
same_unknown : (footprint : Footprint) (k : ℕ) (beat : DBeat) (lane : ℕ) → is_unknown_in (unless_fixed footprint) k beat lane ≡ is_unknown_in footprint k beat lane
same_unknown footprint k beat lane = by_test (is_fixed footprint) refl
  where
    by_test : (b : Bool) → is_fixed footprint ≡ b → is_unknown_in (unless_fixed footprint) k beat lane ≡ is_unknown_in footprint k beat lane
    by_test true is = rw (is, none_unknown footprint k beat lane is) (grind arith)
    by_test false is = rw is (grind arith)

pub dues_unless_fixed : (footprint : Footprint) (beats : List DBeat) → dues_of (unless_fixed footprint) beats ≡ dues_of footprint beats
dues_unless_fixed footprint [] = refl
dues_unless_fixed footprint (beat ∷ rest) =
    grind (arith, same_unknown footprint (beats_of footprint.size true - length (beat ∷ rest)) beat, dues_unless_fixed footprint rest)

-- one that reads nothing tells nothing that isn't known
pub dues_silent : (footprint : Footprint) (beats : List DBeat) → footprint.reads ≡ false → dues_of footprint beats ≡ dues_of no_footprint beats
dues_silent footprint beats silent = sym (dues_fixed footprint beats (grind (arith, silent)))

-- ---- where all is known

-- a request that reads only what is known
pub fixed_alone : (place : Option ℕ) (q : WholeRequest) → is_fixed (alone (λ x. false) place q) ≡ true
fixed_alone place q = determined_fixed (alone (λ x. false) place q) (λ x covered. grind (arith, covered))

-- what is kept of a request of which all that it reads is known
abbrev pub known_alone : Option ℕ → WholeRequest → Footprint
known_alone place q = record (alone (λ x. false) place q) { reads = false }

pub kept_known : (place : Option ℕ) (q : WholeRequest) → unless_fixed (alone (λ x. false) place q) ≡ known_alone place q
kept_known place q = grind (arith, fixed_alone place q)

-- and leaves all known
pub known_after : (place : Option ℕ) (q : WholeRequest) → after_turn (λ x. false) (alone (λ x. false) place q) q.bytes ≡ (λ x. false)
known_after place q = fun_ext (λ x. grind (arith, fixed_alone place q))

-- a request that takes effect in its turn on a board of which all is known
pub in_turn_known : (board : Board) (number : ℕ) (client : ClientBoard) (q : WholeRequest) (place : Option ℕ)
    → in_turn_on (record board { indeterminate = λ x. false }) number client q (alone (λ x. false) place q)
    ≡ with_taken (record board { indeterminate = λ x. false }) number client q (known_alone place q)
in_turn_known board number client q place = grind (arith, kept_known place q, known_after place q)

-- and a beat of a reply without a footprint is compared whole
pub in_turn_alone : (beats : List DBeat) (beat : DBeat) → wrong_in_turn (dues_of no_footprint beats) beat ≡ wrong_beat beats beat
in_turn_alone beats beat = grind arith

-- ---- from zeros

-- no request leaves what isn't known
nothing_unknown : (setup : SetupLists) (qs : List WholeRequest) → unknown_after_all setup (λ x. false) qs ≡ (λ x. false)
nothing_unknown setup [] = refl
nothing_unknown setup (q ∷ qs) = grind (arith, known_after (on_good_page (faults_of setup) (address_of setup.regions q)) q, nothing_unknown setup qs)

-- so that each reply is compared whole
pub dues_from_zeros : (setup : SetupLists) (qs : List WholeRequest) (q : WholeRequest) (beats : List DBeat)
    → dues_of (acts setup (unknown_after_all setup (λ x. false) qs) q) beats ≡ dues_of no_footprint beats
dues_from_zeros setup qs q beats =
    ap (λ (unknown : ℕ → Bool). dues_of (acts setup unknown q) beats) (nothing_unknown setup qs)
    ∙ sym (dues_fixed (acts setup (λ x. false) q) beats (fixed_alone (on_good_page (faults_of setup) (address_of setup.regions q)) q))

-- ---- where nothing is in doubt

all_known : (doubts : ℕ → Bool) → ((x : ℕ) → doubts x ≡ false) → (λ x. false) ≡ doubts
all_known doubts none = fun_ext (λ x. sym (none x))

pub kept_known_of : (doubts : ℕ → Bool) → ((x : ℕ) → doubts x ≡ false) → (place : Option ℕ) (q : WholeRequest) → known_alone place q ≡ unless_fixed (alone doubts place q)
kept_known_of doubts none place q = sym (subst (λ (d : ℕ → Bool). unless_fixed (alone d place q) ≡ known_alone place q) (all_known doubts none) (kept_known place q))

pub known_after_of : (doubts : ℕ → Bool) → ((x : ℕ) → doubts x ≡ false) → (place : Option ℕ) (q : WholeRequest) → doubts ≡ after_turn doubts (alone doubts place q) q.bytes
known_after_of doubts none place q = sym (subst (λ (d : ℕ → Bool). after_turn d (alone d place q) q.bytes ≡ d) (all_known doubts none) (known_after place q))

-- ---- what is given

-- of a request whose bytes are as many as it has, what it gives is known where it is fixed
pub given_in_turn : (doubts : ℕ → Bool) (place : Option ℕ) (q : WholeRequest) → length q.bytes ≡ 2 ^ q.size
    → after_given doubts (alone doubts place q) q.bytes ≡ after_turn doubts (alone doubts place q) q.bytes
given_in_turn doubts place q count = fun_ext (λ x. by_given x (footprint.writes && is_some (given_at q.bytes footprint.address x)) refl)
  where
    footprint : Footprint
    footprint = alone doubts place q

    its_own : (x : ℕ) → covers footprint x ≡ true → is_fixed footprint ≡ true → footprint.determined x ≡ true
    its_own x covered fixed = by_reads footprint.reads refl
      where
        by_reads : (reads : Bool) → footprint.reads ≡ reads → footprint.determined x ≡ true
        by_reads true is = fixed_determined footprint x fixed is covered
        by_reads false is = grind (arith, is, covered)

    known : (x : ℕ) → covers footprint x ≡ true → not (footprint.determined x && is_fixed footprint) ≡ not (is_fixed footprint)
    known x covered = by_fixed (is_fixed footprint) refl
      where
        by_fixed : (fixed : Bool) → is_fixed footprint ≡ fixed → not (footprint.determined x && is_fixed footprint) ≡ not (is_fixed footprint)
        by_fixed true is = rw (is, its_own x covered is) refl
        by_fixed false is = grind (arith, is)

    by_given : (x : ℕ) (given : Bool) → (footprint.writes && is_some (given_at q.bytes footprint.address x)) ≡ given
        → after_given doubts footprint q.bytes x ≡ after_turn doubts footprint q.bytes x
    by_given x false is = rw is refl
    by_given x true is =
        let parts = and_parts footprint.writes (is_some (given_at q.bytes footprint.address x)) is in
        rw is (known x (given_within q.bytes footprint.address (2 ^ q.size) x count parts.1))

-- a footprint that is kept writes as it did
pub room_unless_fixed : (rooms : ℕ → Bool) (footprint : Footprint) → HasRoomToWrite rooms footprint → HasRoomToWrite rooms (unless_fixed footprint)
room_unless_fixed rooms footprint room = room
