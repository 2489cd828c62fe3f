-- With a beat that is right in order of acceptance: how the requests that have begun go on, and which one comes whole.
use Rattle.std.proofs.Common.{◌≡◌, ℕ, ◌<◌, ◌≤◌, ◌==◌, ◌&&◌, ◌||◌, not, Bool, true, false, [], ◌∷◌, ◌++◌, map, length, if◌then◌else◌, ◌⊎◌, refl, sym, ◌∙◌, ap, subst, arith}
use Rattle.std.proofs.lemmas.Bool.{and_parts, both_ways, not-true}
use Rattle.std.proofs.lemmas.List.{length-append, length-map}
use Rattle.serial_memory.specs.SerialMemory.{Memory}
use Rattle.tl_messages.specs.Requests.{WholeRequest}
use Rattle.tl_messages.specs.declared.AtomicOp.{AtomicOp}
use Rattle.tl_messages.specs.declared.Operation.TheVariants.{Atomic}
use Rattle.scoreboard.specs.Boards.{is_spoiled}
use Rattle.scoreboard.specs.FailedBursts.{Span, shares}
use Rattle.scoreboard.specs.Observed.{Observed, requests_in}
use Rattle.scoreboard.specs.Orders.{Entry, Order, begun_to, counted, ended_early, has_ended, is_due, reply_beats, with_beat}
use Rattle.scoreboard.specs.RealTime.{acting_footprint, completed, heard, is_open, numbered, struck}
use Rattle.scoreboard.specs.declared.Errors.{Errors}
use Rattle.scoreboard.proofs.real_time.Becoming.{numbered_first, numbered_map}
use Rattle.value_orders.proofs.RunsRightSeen.{EntryGoes}

-- ---- one entry

pub goes_same : (entry : Entry) → EntryGoes entry entry
goes_same entry = record { whole = λ is. (is, refl); client = refl }

pub goes_trans : (one two three : Entry) → EntryGoes one two → EntryGoes two three → EntryGoes one three
goes_trans one two three first second =
    record {
      whole = λ is. let now = first.whole is in let later = second.whole now.0 in (later.0, later.1 ∙ now.1);
      client = second.client ∙ first.client;
    }

pub goes_heard : (errors : Errors) (client : ℕ) (q : WholeRequest) (entry : Entry) → EntryGoes entry (heard errors client q entry)
goes_heard errors client q entry = by_test (is_open client entry)
  where
    by_test : (b : Bool) → EntryGoes entry (if b then record entry { spoiled = entry.spoiled || is_spoiled errors q } else entry)
    by_test true = record { whole = λ is. (is, refl); client = refl }
    by_test false = goes_same entry

pub goes_completed : (errors : Errors) (client : ℕ) (q : WholeRequest) (entry : Entry) → EntryGoes entry (completed errors client q entry)
goes_completed errors client q entry = by_test (is_open client entry) refl
  where
    by_test : (b : Bool) → is_open client entry ≡ b → EntryGoes entry (completed errors client q entry)
    by_test true open_one =
        rw open_one
        (record { whole = λ is. absurd (both_ways entry.whole (not-true entry.whole (and_parts (entry.client == client) (not entry.whole) open_one).1) is); client = refl })
    by_test false other = rw other (goes_same entry)

pub goes_struck : (memory : Memory) (span : Span) (entry : Entry) → EntryGoes entry (struck memory span entry)
goes_struck memory span entry = by_test (not (has_ended entry) && shares span (acting_footprint memory entry.request))
  where
    by_test : (b : Bool) → EntryGoes entry (if b then record entry { spoiled = true } else entry)
    by_test true = record { whole = λ is. (is, refl); client = refl }
    by_test false = goes_same entry

pub goes_early : (over : Bool) (client : ℕ) (entry : Entry) → EntryGoes entry (ended_early over client entry)
goes_early over client entry = by_test (over && begun_to client entry)
  where
    by_test : (b : Bool) → EntryGoes entry (if b then record entry { came = reply_beats entry.request } else entry)
    by_test true = record { whole = λ is. (is, refl); client = refl }
    by_test false = goes_same entry

pub goes_beat : (begun : Bool) (client source : ℕ) (entry : Entry) → EntryGoes entry (with_beat begun client source entry)
goes_beat begun client source entry = by_test (is_due begun client source entry && entry.request.source == source)
  where
    by_whole : (whole : Bool) → EntryGoes entry (counted whole entry)
    by_whole true = record { whole = λ is. (is, refl); client = refl }
    by_whole false = record { whole = λ is. (is, refl); client = refl }

    by_test : (b : Bool) → EntryGoes entry (if b then counted entry.whole entry else entry)
    by_test true = by_whole entry.whole
    by_test false = goes_same entry

-- ---- changes of all

-- what becomes of those that have begun
pub record OrderGoes (now next : Order) : Type 0 where
  pub longer : length now ≤ length next
  pub each : (k : ℕ) → k < length now → EntryGoes (numbered now k) (numbered next k)

-- none comes whole
abbrev pub NoneWhole : Order → Order → Type 0
NoneWhole now next = (k : ℕ) → k < length next → (numbered next k).whole ≡ true → (k < length now) × ((numbered now k).whole ≡ true)

-- one comes whole, which is the client's own, and is of a source to which nothing is in flight
pub record OneWhole (now next : Order) (old new : Observed) : Type 0 where
  pub place : ℕ
  pub small : place < length next
  pub whole : (numbered next place).whole ≡ true
  pub was_not : place < length now → (numbered now place).whole ≡ false
  pub only : (k : ℕ) → k < length next → (numbered next k).whole ≡ true → (k ≡ place) ⊎ ((k < length now) × ((numbered now k).whole ≡ true))
  pub requests : requests_in new ≡ requests_in old ++ (numbered next place).request ∷ []
  pub own : (numbered next place).request.client ≡ (numbered next place).client
  pub free : (k : ℕ) → k < length now → (numbered now k).whole ≡ true → has_ended (numbered now k) ≡ false → (numbered now k).client ≡ (numbered next place).client
      → (numbered now k).request.source ≡ (numbered next place).request.source → ⊥
  pub no_atomic : place < length now → (op : AtomicOp) → (numbered next place).request.operation ≡ Atomic op → ⊥

pub data Accepts (now next : Order) (old new : Observed) : Type 0 where
  NoMore : NoneWhole now next → requests_in new ≡ requests_in old → Accepts now next old new
  OneMore : OneWhole now next old new → Accepts now next old new

pub order_map : (change : Entry → Entry) (now : Order) → ((entry : Entry) → EntryGoes entry (change entry)) → OrderGoes now (map change now)
order_map change now goes =
    record {
      longer = omega (arith, length-map now change);
      each = λ k small. subst (EntryGoes (numbered now k)) (sym (numbered_map change now k small)) (goes (numbered now k));
    }

pub order_last : (now : Order) (entry : Entry) → OrderGoes now (now ++ entry ∷ [])
order_last now entry =
    record {
      longer = omega (arith, length-append now (entry ∷ []));
      each = λ k small. subst (EntryGoes (numbered now k)) (sym (numbered_first now entry k small)) (goes_same (numbered now k));
    }

pub none_map : (change : Entry → Entry) (now : Order) → ((entry : Entry) → (change entry).whole ≡ entry.whole) → NoneWhole now (map change now)
none_map change now same k small whole =
    let within : k < length now = omega (arith, small, length-map now change) in
    (within, sym (same (numbered now k)) ∙ ap (λ (e : Entry). e.whole) (sym (numbered_map change now k within)) ∙ whole)
