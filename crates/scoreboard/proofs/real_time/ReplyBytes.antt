-- What a reply tells of bytes: either it is the same whatever they are, or it tells each byte of a range as it is, but for some of which it tells
-- nothing.
use Rattle.std.proofs.Common.{◌≡◌, ℕ, zero, suc, ◌+◌, ◌-◌, ◌%◌, ◌^◌, Bool, true, false, ◌&&◌, List, ◌∷◌, map, Option, Some, None, if◌then◌else◌, inl, inr, refl, ◌∙◌, ap, arith}
use Rattle.std.specs.Prelude.{nat_le, nat_lt}
use Rattle.std.specs.List.{range_with_len}
use Rattle.std.proofs.lemmas.Bool.{cases_lt}
use Rattle.std.proofs.lemmas.Bool.Decides.{nat_tests}
use Rattle.std.proofs.lemmas.List.FromFn.{get_or-map-range_with_len, length-map-range_with_len}
use Rattle.std.proofs.lemmas.Option.{slice_get-get_or, slice_get_past}
use Rattle.bus_words.specs.Lanes.{given_at}
use Rattle.tl_messages.specs.Operations.{reply_has_data}
use Rattle.tl_messages.specs.Requests.{WholeRequest}
use Rattle.tl_messages.specs.declared.Operation.{Operation}
use Rattle.tl_messages.specs.declared.Operation.TheVariants.{PutFull, PutPartial, Atomic, Get, Intent}
use Rattle.burst_plan.specs.PageMap.{address_of}
use Rattle.burst_plan.specs.declared.Region.{Region}
use Rattle.responses.specs.Shown.{Reply}
use Rattle.subordinate.specs.Faults.{Faults, Standing, IsGood, IsSlaveError, IsAbsent, is_bad, standing_at}
use Rattle.meaning.specs.Meaning.{Bytes, Effect, acknowledged, bytes_at, denied, effect, meaning, no_byte_given, zeros}
use Rattle.serial_memory.specs.SerialMemory.{on_good_page}
use Rattle.scoreboard.proofs.acceptance_order.Meanings.{meaning_none, meaning_some}

-- the bytes of a range as they are, but for the hidden ones
abbrev pub told_bytes : (ℕ → Bool) → Bytes → ℕ → ℕ → List (Option ℕ)
told_bytes hidden m a n = map (λ x. if hidden x then None else Some (m x)) (range_with_len a n)

pub record Tells (faults : Faults) (regions : List Region) (q : WholeRequest) : Type 0 where
  pub place : ℕ
  pub hidden : ℕ → Bool
  pub acts : on_good_page faults (address_of regions q) ≡ Some place
  pub lanes : place % 8 ≡ q.address % 8
  pub carries : reply_has_data q.operation ≡ true
  pub reply : (m : Bytes) → (meaning faults regions q m).reply ≡ record { denied = false; bytes = told_bytes hidden m place (2 ^ q.size) }

pub data Kind (faults : Faults) (regions : List Region) (q : WholeRequest) : Type 0 where
  Fixed : (reply : Reply) → ((m : Bytes) → (meaning faults regions q m).reply ≡ reply) → Kind faults regions q
  Told : Tells faults regions q → Kind faults regions q

-- ---- where a request acts

same_lanes : (regions : List Region) (q : WholeRequest) (a : ℕ) → address_of regions q ≡ Some a → a % 8 ≡ q.address % 8
same_lanes regions q a is = grind (arith, is)

all_told : (m : Bytes) (a n : ℕ) → map (λ (b : ℕ). Some b) (bytes_at m a n) ≡ told_bytes (λ x. false) m a n
all_told m a zero = refl
all_told m a (suc n) = ap (λ (rest : List (Option ℕ)). Some (m a) ∷ rest) (all_told m (a + 1) n)

-- ---- each kind of request

by_kind : (faults : Faults) (regions : List Region) (q : WholeRequest) (a : ℕ) (op : Operation) (standing : Standing) (bad : Bool)
    → address_of regions q ≡ Some a → q.operation ≡ op → standing_at faults a ≡ standing
    → ((m : Bytes) → meaning faults regions q m ≡ effect faults q m a op standing bad) → Kind faults regions q
by_kind faults regions q a (Intent write) standing bad at is there same = Fixed acknowledged (λ m. ap (λ (e : Effect). e.reply) (same m))
by_kind faults regions q a op IsAbsent bad at is there same = Fixed (effect faults q zeros a op IsAbsent bad).reply (λ m. grind (arith, same m))
by_kind faults regions q a op IsSlaveError bad at is there same = Fixed (effect faults q zeros a op IsSlaveError bad).reply (λ m. grind (arith, same m))
by_kind faults regions q a PutFull IsGood bad at is there same = Fixed acknowledged (λ m. ap (λ (e : Effect). e.reply) (same m))
by_kind faults regions q a PutPartial IsGood bad at is there same = Fixed acknowledged (λ m. ap (λ (e : Effect). e.reply) (same m))
by_kind faults regions q a (Atomic op) IsGood true at is there same = Fixed (no_byte_given (2 ^ q.size)) (λ m. ap (λ (e : Effect). e.reply) (same m))
by_kind faults regions q a Get IsGood bad at is there same =
    Told (record {
      place = a;
      hidden = is_bad faults;
      acts = rw (at, there) refl;
      lanes = same_lanes regions q a at;
      carries = ap reply_has_data is;
      reply = λ m. ap (λ (e : Effect). e.reply) (same m);
    })
by_kind faults regions q a (Atomic op) IsGood false at is there same =
    Told (record {
      place = a;
      hidden = λ x. false;
      acts = rw (at, there) refl;
      lanes = same_lanes regions q a at;
      carries = ap reply_has_data is;
      reply = λ m. ap (λ (e : Effect). e.reply) (same m)
          ∙ ap (λ (bytes : List (Option ℕ)). record { denied = false; bytes = bytes }) (all_told m a (2 ^ q.size));
    })

pub kind : (faults : Faults) (regions : List Region) (q : WholeRequest) → Kind faults regions q
kind faults regions q = by_address (address_of regions q) refl
  where
    by_address : (address : Option ℕ) → address_of regions q ≡ address → Kind faults regions q
    by_address None is = Fixed denied (λ m. ap (λ (e : Effect). e.reply) (meaning_none faults regions q m is))
    by_address (Some a) is =
        by_kind faults regions q a q.operation (standing_at faults a) (is_bad faults a) is refl refl (λ m. meaning_some faults regions q m a is)

-- ---- a byte that is told

-- the byte at an address of the request
pub told_at : (hidden : ℕ → Bool) (m : Bytes) (a n start x : ℕ)
    → given_at (told_bytes hidden m a n) start
    x ≡ (if nat_le start x && nat_lt (x - start) n then (if hidden (a + (x - start)) then None else Some (m (a + (x - start)))) else None)
told_at hidden m a n start x =
    let byte : ℕ → Option ℕ = λ y. if hidden y then None else Some (m y) in
    elim (cases_lt (x - start) n) [
      | inl within ↦
          let there = slice_get-get_or (told_bytes hidden m a n) (x - start) None (omega (arith, within, length-map-range_with_len byte a n))
          ∙ ap Some (get_or-map-range_with_len byte a n (x - start) (a + (x - start)) None within refl) in
          grind (arith, nat_tests, there, within)
      | inr past ↦
          let none = slice_get_past (told_bytes hidden m a n) (x - start) (omega (arith, past, length-map-range_with_len byte a n)) in
          grind (arith, nat_tests, none, past)
    ]
