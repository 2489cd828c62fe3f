-- What a step makes of a request, and by how much it lowers the sums.
use Rattle.std.proofs.Common.{◌≡◌, ℕ, suc, ◌+◌, ◌-◌, ◌*◌, ◌<◌, false, length, arith, suc-mul}
use Rattle.flight_table.specs.Inside.{IsProgress}
use Rattle.flight_table.specs.LiveRequests.{LiveRequest, planned, with_answered, with_sent}
use Rattle.flight_table.specs.Progress.{IsWorth, ends, stepped}
use Rattle.flight_table.specs.Sums.{one_undone}
use Rattle.flight_table.specs.Work.{AreWorth, later_work, unsent_work}
use Rattle.flight_table.specs.declared.live_request.Step.{Step}
use Rattle.flight_table.specs.declared.live_request.Step.TheVariants.{Sent, Answered}
use Rattle.flight_table.proofs.PhaseLaws.{undone_unsent, undone_work}

-- a step by which it isn't done
pub goes_on : (step : Step) (r : LiveRequest) → ends step ≡ false → IsProgress r (stepped step r)
goes_on step r goes = grind (arith, goes)

-- ---- what it is worth

plus_zero : (n : ℕ) → n + 0 ≡ n
plus_zero n = omega arith

-- one burst less
one_less : (each n k : ℕ) → k < n → (n - (k + 1)) * each + each ≡ (n - k) * each
one_less each n k below = let more : n - k ≡ suc (n - (k + 1)) = omega arith in rw more (omega (arith, suc-mul (n - (k + 1)) each))

-- one more burst is sent
pub worth_sent : (r : LiveRequest) (id each : ℕ) → r.done ≡ false → r.sent < length (planned r) → AreWorth each r.writing (planned r) → IsWorth (Sent id) r (record { undone = 0; work = 1; unsent = 1 + each })
worth_sent r id each undone more worth =
    record {
      undone = plus_zero (one_undone r);
      work = rw (undone_work (with_sent id r) each undone worth, undone_work r each undone worth) (fewer (length (planned r)) r.sent ((length (planned r) - r.answered) * each) (later_work r) more);
      unsent = rw (undone_unsent (with_sent id r) each undone worth, undone_unsent r each undone worth)
          (both (length (planned r)) r.sent (later_work r) more (one_less each (length (planned r)) r.sent more));
    }
  where
    fewer : (n k m l : ℕ) → k < n → n - (k + 1) + m + l + 1 ≡ n - k + m + l
    fewer n k m l below = omega arith

    both : (n k l : ℕ) → k < n → (n - (k + 1)) * each + each ≡ (n - k) * each → n - (k + 1) + (n - (k + 1)) * each + l + (1 + each) ≡ n - k + (n - k) * each + l
    both n k l below less = omega (arith, less)

-- one more is answered
pub worth_answered : (r : LiveRequest) (each : ℕ) → r.done ≡ false → r.answered < length (planned r) → AreWorth each r.writing (planned r) → IsWorth Answered r (record { undone = 0; work = each; unsent = 0 })
worth_answered r each undone more worth =
    record {
      undone = plus_zero (one_undone r);
      work = rw (undone_work (with_answered r) each undone worth, undone_work r each undone worth) (fewer _ _ (length (planned r) - r.sent) (later_work r) (one_less each (length (planned r)) r.answered more));
      unsent = plus_zero (unsent_work r);
    }
  where
    fewer : (a b n l : ℕ) → a + each ≡ b → n + a + l + each ≡ n + b + l
    fewer a b n l less = omega (arith, less)
