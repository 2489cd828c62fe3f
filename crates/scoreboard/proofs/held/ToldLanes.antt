-- The lanes of a beat that tell determined bytes, counted.
use Rattle.std.proofs.Common.{◌≡◌, ℕ, ◌<◌, ◌≤◌, ◌∙◌, Bool, false, ◌&&◌, ap, arith, refl, sym}
use Rattle.serial_memory.specs.SerialMemory.{IsMemoryRange}
use Rattle.scoreboard.specs.InsideBoards.{FootprintState, footprint_of, words_of}
use Rattle.scoreboard.specs.Telling.{is_sure, lanes_with}
use Rattle.scoreboard.proofs.held.FootprintBytes.{past_words}

-- as many pass one test as pass another that says the same of each
pub lanes_same : (p q : ℕ → Bool) → ((lane : ℕ) → lane < 8 → p lane ≡ q lane) → lanes_with p ≡ lanes_with q
lanes_same p q same = grind (arith, same)

-- where none passes
pub no_lanes : (test : ℕ → Bool) → ((lane : ℕ) → lane < 8 → test lane ≡ false) → 0 ≡ lanes_with test
no_lanes test none = sym (lanes_same test (λ lane. false) none)

-- a request that doesn't read tells nothing
pub none_sure : (r : FootprintState) (k : ℕ) → r.reads ≡ false → 0 ≡ lanes_with (is_sure (footprint_of r) k)
none_sure r k reads = no_lanes (is_sure (footprint_of r) k) (λ lane below. rw reads refl)

-- and none does past its last word
pub and_false : (a : Bool) → (a && false) ≡ false
and_false a = search arith

pub none_sure_past : (r : FootprintState) (k : ℕ) → IsMemoryRange r.address r.size → words_of r.size ≤ k → 0 ≡ lanes_with (is_sure (footprint_of r) k)
none_sure_past r k range past =
    no_lanes (is_sure (footprint_of r) k) (λ lane below. ap (λ (b : Bool). r.reads && b) (past_words r k lane range below past) ∙ and_false r.reads)
