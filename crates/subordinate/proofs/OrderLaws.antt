-- Answers come in AXI4's order: each is the first that its ID owes, and what is sent is owed after all before it.
use Rattle.std.proofs.Common.{◌≡◌, ◌≢◌, ℕ, ◌+◌, ◌-◌, ◌<◌, Bool, true, false, List, [], ◌∷◌, ◌++◌, map, refl, ap, arith}
use Rattle.std.proofs.lemmas.List.{append-nil, map-append}
use Rattle.std.proofs.lemmas.List.Elements.{filter-append}
use Rattle.std.proofs.lemmas.Grind.{flat_map-append}
use Rattle.std.specs.Prelude.{Option, Some, None, IfSome, filter, find, flat_map, slice_get}
use Rattle.axi_beats.specs.Bursts.{Burst}
use Rattle.bus_words.specs.Places.{change_first, without_first}
use Rattle.std.proofs.lemmas.Option.{slice_get_within}
use Rattle.axi_beats.specs.declared.RBeat.{RBeat}
use Rattle.axi_beats.specs.declared.Resp.{Resp}
use Rattle.subordinate.specs.declared.BeatState.{BeatState}
use Rattle.subordinate.specs.declared.BeatState.TheVariants.{Captured}
use Rattle.subordinate.proofs.OpenBursts.{pending_after_r-last, pending_after_r-more, rises-found}
use Rattle.subordinate.specs.FreeMemory.{FreeMemory, Pending, beat_after, gives_last, has_serial, performed, with_beat, is_read_of, is_write_of, newly_pending, pending_after_r, reads_as, transfers_in, writes_as}
use Rattle.subordinate.specs.Inside.{burst_in, captured_at, with_answer}
use Rattle.subordinate.specs.Laws.{IsSoundPending, RisesWithin}
use Rattle.subordinate.specs.Order.{AnswersNextBeat, AnswersOldestWrite, OwesAfterOthers, OwesTheSame, beats_owed, reads_owed, reads_owed_by, writes_owed, writes_owed_by}
use Rattle.std.proofs.lemmas.Bool.Decides.{nat_tests}

-- ---- a burst is sent

owed_by_new : (id serial : ℕ) (burst : Burst) → flat_map beats_owed (filter (is_read_of id) (newly_pending serial burst ∷ [])) ≡ reads_owed_by id serial burst
owed_by_new id serial burst = grind (arith, append-nil (beats_owed (newly_pending serial burst)))

written_by_new : (id serial : ℕ) (burst : Burst) → map (λ (write : Pending). write.serial) (filter (is_write_of id) (newly_pending serial burst ∷ [])) ≡ writes_owed_by id serial burst
written_by_new id serial burst = grind arith

pub owes_after_others : (serial : ℕ) (burst : Burst) (pending : List Pending) → OwesAfterOthers serial burst pending (pending ++ newly_pending serial burst ∷ [])
owes_after_others serial burst pending =
    record {
      reads = λ id. rw (filter-append, flat_map-append, owed_by_new id serial burst) refl;
      writes = λ id. rw (filter-append, map-append, written_by_new id serial burst) refl;
    }

-- ---- an open burst changes, and keeps what it is and what was answered

pub record KeepsPlace (change : Pending → Pending) : Type 0 where
  pub serial : (p : Pending) → (change p).serial ≡ p.serial
  pub burst : (p : Pending) → (change p).burst ≡ p.burst
  pub answered : (p : Pending) → (change p).answered ≡ p.answered

same_owed : (change : Pending → Pending) → KeepsPlace change → (p : Pending) → beats_owed (change p) ≡ beats_owed p
same_owed change keeps p = rw (keeps.serial p, keeps.burst p, keeps.answered p) refl

reads_owed-change_first : (test : Pending → Bool) (change : Pending → Pending) → KeepsPlace change → (id : ℕ) (pending : List Pending) → reads_owed id (change_first test change pending) ≡ reads_owed id pending
reads_owed-change_first test change keeps id [] = refl
reads_owed-change_first test change keeps id (p ∷ ps) = grind (arith, same_owed change keeps p, keeps.burst p, reads_owed-change_first test change keeps id ps)

writes_owed-change_first : (test : Pending → Bool) (change : Pending → Pending) → ((p : Pending) → (change p).serial ≡ p.serial) → ((p : Pending) → (change p).burst ≡ p.burst) → (id : ℕ) (pending : List Pending)
    → writes_owed id (change_first test change pending) ≡ writes_owed id pending
writes_owed-change_first test change serials bursts id [] = refl
writes_owed-change_first test change serials bursts id (p ∷ ps) = grind (arith, serials p, bursts p, writes_owed-change_first test change serials bursts id ps)

pub owes_the_same : (test : Pending → Bool) (change : Pending → Pending) (pending : List Pending) → KeepsPlace change → OwesTheSame pending (change_first test change pending)
owes_the_same test change pending keeps =
    record { reads = λ id. reads_owed-change_first test change keeps id pending; writes = λ id. writes_owed-change_first test change keeps.serial keeps.burst id pending }

-- the same of a box's burst
pub sent_owed : (held : Option Burst) (serial : ℕ) (pending : List Pending) → IfSome held (λ burst. OwesAfterOthers serial burst pending (pending ++ newly_pending serial (burst_in held) ∷ []))
sent_owed None serial pending = tt
sent_owed (Some burst) serial pending = owes_after_others serial burst pending

-- a beat was performed
pub owes_performed : (memory : FreeMemory) (serial beat : ℕ) → OwesTheSame memory.pending (performed memory serial beat).0.pending
owes_performed memory serial beat =
    let same = λ (p : Pending).
    owes_the_same (has_serial p.serial) (with_beat beat (beat_after memory p.burst beat)) memory.pending (record { serial = λ q. refl; burst = λ q. refl; answered = λ q. refl }) in
    record { reads = λ id. grind (arith, λ (p : Pending). (same p).reads id); writes = λ id. grind (arith, λ (p : Pending). (same p).writes id) }

-- ---- entries that a test passes over

filter-without_first : (test keep : Pending → Bool) (pending : List Pending) → ((p : Pending) → test p ≡ true → keep p ≡ false) → filter keep (without_first test pending) ≡ filter keep pending
filter-without_first test keep [] apart = refl
filter-without_first test keep (p ∷ ps) apart = grind (arith, apart p, filter-without_first test keep ps apart)

filter-change_first : (test keep : Pending → Bool) (change : Pending → Pending) (pending : List Pending) → ((p : Pending) → test p ≡ true → keep p ≡ false) → ((p : Pending) → keep (change p) ≡ keep p)
    → filter keep (change_first test change pending) ≡ filter keep pending
filter-change_first test keep change [] apart same = refl
filter-change_first test keep change (p ∷ ps) apart same = grind (arith, apart p, same p, filter-change_first test keep change ps apart same)

-- a burst is of one ID and one side
write_not_read : (id other : ℕ) (burst : Burst) → writes_as id burst ≡ true → reads_as other burst ≡ false
write_not_read id other burst is = grind arith

pub read_not_write : (id other : ℕ) (burst : Burst) → reads_as id burst ≡ true → writes_as other burst ≡ false
read_not_write id other burst is = grind arith

write_of_one : (id other : ℕ) (burst : Burst) → other ≢ id → writes_as id burst ≡ true → writes_as other burst ≡ false
write_of_one id other burst apart is = grind (arith, nat_tests)

read_of_one : (id other : ℕ) (burst : Burst) → other ≢ id → reads_as id burst ≡ true → reads_as other burst ≡ false
read_of_one id other burst apart is = grind (arith, nat_tests)

-- ---- a B

oldest_write_next : (id : ℕ) (pending : List Pending) (p : Pending) → find (is_write_of id) pending ≡ Some p → writes_owed id pending ≡ p.serial ∷ writes_owed id (without_first (is_write_of id) pending)
oldest_write_next id [] p found = absurd (cc)
oldest_write_next id (q ∷ qs) p found = grind (arith, oldest_write_next id qs p)

pub answers_oldest_write : (id : ℕ) (pending : List Pending) (p : Pending) → find (is_write_of id) pending ≡ Some p → AnswersOldestWrite id pending (without_first (is_write_of id) pending)
answers_oldest_write id pending p found =
    record {
      serial = p.serial;
      next = oldest_write_next id pending p found;
      others = λ other apart. ap (λ (ps : List Pending). map (λ write. write.serial) ps) (filter-without_first (is_write_of id) (is_write_of other) pending (λ q is. write_of_one id other q.burst apart is));
      reads = λ other. ap (λ (ps : List Pending). flat_map beats_owed ps) (filter-without_first (is_write_of id) (is_read_of other) pending (λ q is. write_not_read id other q.burst is));
    }

-- ---- an R

-- the next beat that a read owes, and those after it
beats_owed-next : (p : Pending) → p.answered < transfers_in p.burst → beats_owed p ≡ (p.serial, p.answered) ∷ beats_owed (with_answer p)
beats_owed-next p more = grind (arith, more)

beats_owed-last : (p : Pending) → gives_last p ≡ true → beats_owed (with_answer p) ≡ []
beats_owed-last p last = grind (arith, last)

oldest_read_next : (id : ℕ) (pending : List Pending) (p : Pending) → find (is_read_of id) pending ≡ Some p → p.answered < transfers_in p.burst
    → reads_owed id pending ≡ (p.serial, p.answered) ∷ reads_owed id (pending_after_r id pending)
oldest_read_next id [] p found more = absurd (cc)
oldest_read_next id (q ∷ qs) p found more = grind (arith, beats_owed-next q, beats_owed-last q, λ (later : find (is_read_of id) qs ≡ Some p). oldest_read_next id qs p later more)

filter-after_r : (id : ℕ) (keep : Pending → Bool) (pending : List Pending) (p : Pending) → find (is_read_of id) pending ≡ Some p → ((q : Pending) → is_read_of id q ≡ true → keep q ≡ false)
    → ((q : Pending) → keep (with_answer q) ≡ keep q) → filter keep (pending_after_r id pending) ≡ filter keep pending
filter-after_r id keep pending p found apart same =
    grind (
      arith,
      pending_after_r-last id pending p found,
      pending_after_r-more id pending p found,
      filter-without_first (is_read_of id) keep pending apart,
      filter-change_first (is_read_of id) keep with_answer pending apart same,
    )

found_by_serial : (low top : ℕ) (test : Pending → Bool) (pending : List Pending) (p : Pending) → RisesWithin low top pending → find test pending ≡ Some p → find (has_serial p.serial) pending ≡ Some p
found_by_serial low top test [] p rises found = absurd (cc)
found_by_serial low top test (q ∷ qs) p rises found = grind (arith, nat_tests, rises-found (q.serial + 1) top test qs p rises.1, found_by_serial (q.serial + 1) top test qs p rises.1)

pub captured_is : (state : Option BeatState) (payload : ℕ) (resp : Resp) → captured_at state ≡ Some (payload, resp) → state ≡ Some (Captured payload resp)
captured_is state payload resp is = grind arith

pub answers_next_beat : (id bus_bytes sent : ℕ) (pending : List Pending) (p : Pending) (r : RBeat) → find (is_read_of id) pending ≡ Some p → IsSoundPending bus_bytes p → RisesWithin 0 sent pending
    → slice_get p.beats p.answered ≡ Some (Captured r.payload r.resp) → AnswersNextBeat id r pending (pending_after_r id pending)
answers_next_beat id bus_bytes sent pending p r found sound rises captured =
    let more : p.answered < transfers_in p.burst = omega (arith, slice_get_within p.beats p.answered _ captured, sound.whole) in
    record {
      serial = p.serial;
      beat = p.answered;
      next = oldest_read_next id pending p found more;
      captured = rw (found_by_serial 0 sent (is_read_of id) pending p rises found) captured;
      others = λ other apart. ap (λ (ps : List Pending). flat_map beats_owed ps) (filter-after_r id (is_read_of other) pending p found (λ q is. read_of_one id other q.burst apart is) (λ q. refl));
      writes = λ other. ap (λ (ps : List Pending). map (λ write. write.serial) ps) (filter-after_r id (is_write_of other) pending p found (λ q is. read_not_write id other q.burst is) (λ q. refl));
    }
