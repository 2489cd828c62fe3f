-- Which request surely has an unanswered burst: one that holds an ID, isn't settled and may not send.
use Rattle.std.proofs.Common.{◌≡◌, ℕ, zero, suc, ◌<◌, ◌≤◌, Bool, true, false, is_some, List, [], ◌∷◌, length, Option, Some, None, refl, sym, ◌∙◌, arith}
use Rattle.std.specs.Prelude.{IfSome, IsSomeAnd, IsTrue, option_map, slice_get, nat_le}
use Rattle.std.specs.List.{AllByRecursion}
use Rattle.std.proofs.lemmas.Bool.{leb-false, leb-true, lt-ltb}
use Rattle.flight_table.specs.LiveRequests.{LiveRequest, is_settled, planned, unanswered}
use Rattle.flight_table.specs.Laws.{IsSound, IsSoundRequest}
use Rattle.flight_table.specs.Order.{IsSmallestReady, holds_id, is_held, is_ready, may_send}
use Rattle.flight_table.specs.Tables.{KeyedTable, request_at, table_of}
use Rattle.flight_table.specs.declared.TableLimits.{TableLimits}
use Rattle.flight_table.proofs.KeyLaws.{request_listed}

-- nothing may send
pub none_ready : (keyed : KeyedTable) (key : ℕ) → AllByRecursion (λ r. is_ready (table_of keyed) r ≡ false) (table_of keyed).live
    → IfSome (request_at key keyed) (λ r. is_ready (table_of keyed) r ≡ false)
none_ready keyed key none = by_request (request_at key keyed) refl
  where
    by_request : (o : Option LiveRequest) → request_at key keyed ≡ o → IfSome o (λ r. is_ready (table_of keyed) r ≡ false)
    by_request None is = tt
    by_request (Some r) is = request_listed (λ r. is_ready (table_of keyed) r ≡ false) key keyed.entries r none is

-- a smaller number than the smallest that may send
pub before_ready : (keyed : KeyedTable) (key first n m : ℕ) → IfSome (request_at first keyed) (IsSmallestReady (table_of keyed)) → option_map (λ (r : LiveRequest). r.number) (request_at key keyed) ≡ Some n
    → option_map (λ (r : LiveRequest). r.number) (request_at first keyed) ≡ Some m → n < m → IfSome (request_at key keyed) (λ r. is_ready (table_of keyed) r ≡ false)
before_ready keyed key first n m smallest own other less = by_requests (request_at key keyed) (request_at first keyed) refl own other smallest
  where
    by_requests : (o f : Option LiveRequest) → request_at key keyed ≡ o → option_map (λ (r : LiveRequest). r.number) o ≡ Some n → option_map (λ (r : LiveRequest). r.number) f ≡ Some m
        → IfSome f (IsSmallestReady (table_of keyed)) → IfSome o (λ r. is_ready (table_of keyed) r ≡ false)
    by_requests None f is n_is m_is smallest = tt
    by_requests (Some r) None is n_is m_is smallest = absurd (cc)
    by_requests (Some r) (Some f) is n_is m_is smallest =
        by_test (is_ready (table_of keyed) r) (request_listed (λ o. is_ready (table_of keyed) o ≡ true → f.number ≤ o.number) key keyed.entries r smallest.smallest is)
      where
        numbers : r.number < f.number
        numbers = grind (arith, n_is, m_is, less)

        by_test : (b : Bool) → (b ≡ true → f.number ≤ r.number) → b ≡ false
        by_test true least = absurd (omega (arith, numbers, least refl))
        by_test false least = refl

present_at : {X : Type 0} (xs : List X) (k : ℕ) → k < length xs → is_some (slice_get xs k) ≡ true
present_at [] k within = absurd (omega (arith, within))
present_at (x ∷ xs) zero within = refl
present_at (x ∷ xs) (suc k) within = present_at xs k (omega (arith, within))

-- a request that holds an ID may send where nobody holds it back, something is unsent, and nothing is unanswered
sends : (limits : TableLimits) (own : ℕ) (live : List LiveRequest) (r : LiveRequest) → 1 ≤ limits.depth → r.id ≡ Some own → r.done ≡ false → is_held live r ≡ false
    → r.sent < length (planned r) → r.sent ≤ r.answered → may_send limits live r ≡ true
sends limits own live r some has_id undone free unsent answered =
    rw (undone, present_at (planned r) r.sent unsent, lt-ltb (unanswered r) limits.depth (omega (arith, answered, some)), has_id, free) refl

-- so one that may not send, and isn't settled, has an unanswered burst
open_request : (limits : TableLimits) (accepted own : ℕ) (live : List LiveRequest) (r : LiveRequest) → 1 ≤ limits.depth → IsSoundRequest limits accepted r
    → (r.done ≡ false → is_held live r ≡ true → r.id ≡ None) → r.id ≡ Some own → is_settled r ≡ false → may_send limits live r ≡ false → r.answered < r.sent
open_request limits accepted own live r some sound in_order has_id unsettled unready = by_answered (nat_le r.sent r.answered) refl
  where
    undone : (b : Bool) → r.done ≡ b → r.done ≡ false
    undone true is = absurd (cc (sound.freed is, has_id))
    undone false is = is

    is_live : r.done ≡ false
    is_live = undone r.done refl

    free : (b : Bool) → is_held live r ≡ b → is_held live r ≡ false
    free true is = absurd (cc (in_order is_live is, has_id))
    free false is = is

    by_answered : (b : Bool) → nat_le r.sent r.answered ≡ b → r.answered < r.sent
    by_answered true is =
        let answered = leb-true r.sent r.answered is in
        let unsent : r.sent < length (planned r) = omega (arith, sound.answered, leb-false (length (planned r)) r.answered unsettled) in
        absurd (cc (sends limits own live r some has_id is_live (free (is_held live r) refl) unsent answered, unready))
    by_answered false is = leb-false r.sent r.answered is

-- the same of the request that a key names
pub open_at : (keyed : KeyedTable) (key id : ℕ) (settled : Bool) → IsSound keyed → IsSomeAnd (request_at key keyed) (λ r. IsTrue (holds_id id r)) → settled ≡ false
    → IfSome (request_at key keyed) (λ r. settled ≡ is_settled r) → IfSome (request_at key keyed) (λ r. is_ready (table_of keyed) r ≡ false) → IsSomeAnd (request_at key keyed) (λ r. r.answered < r.sent)
open_at keyed key id settled sound holds unsettled is_it unready = by_request (request_at key keyed) refl holds is_it unready
  where
    by_request : (o : Option LiveRequest) → request_at key keyed ≡ o → IsSomeAnd o (λ r. IsTrue (holds_id id r)) → IfSome o (λ r. settled ≡ is_settled r)
        → IfSome o (λ r. is_ready (table_of keyed) r ≡ false) → IsSomeAnd o (λ r. r.answered < r.sent)
    by_request None is holds is_it unready = holds
    by_request (Some r) is holds is_it unready = by_id r.id refl
      where
        by_id : (i : Option ℕ) → r.id ≡ i → r.answered < r.sent
        by_id None none = absurd (grind (arith, none, holds))
        by_id (Some own) has_id =
            open_request keyed.limits keyed.accepted own (table_of keyed).live r sound.limits.some_depth
            (request_listed (IsSoundRequest keyed.limits keyed.accepted) key keyed.entries r sound.table.requests is)
            (request_listed (λ q. q.done ≡ false → is_held (table_of keyed).live q ≡ true → q.id ≡ None) key keyed.entries r sound.table.in_order is)
            has_id (sym is_it ∙ unsettled) unready
