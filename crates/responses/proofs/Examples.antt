-- Worked values: a Get of eight bytes on a bus of four, of a memory whose byte at each address is the address's lowest.
use Rattle.std.proofs.Common.{◌≡◌, ℕ, Bool, zero, suc, ◌+◌, ◌-◌, ◌*◌, ◌%◌, ◌<◌, ◌≤◌, ◌==◌, true, false, [], ◌∷◌, Option, Some, true≢false, refl, sym, subst, arith}
use Rattle.std.specs.List.{list_any}
use Rattle.std.proofs.lemmas.List.Elements.{All-cons, All-nil}
use Rattle.bus_words.specs.Lanes.{lane_byte}
use Rattle.tl_messages.specs.declared.Operation.TheVariants.{Get}
use Rattle.axi_beats.specs.declared.RBeat.{RBeat}
use Rattle.axi_beats.specs.declared.Resp.TheVariants.{Okay}
use Rattle.responses.specs.Answers.{Answers, HasAnswersOf, TellsOf, gathering_after}
use Rattle.responses.specs.Gathered.{GatherState, gathered}
use Rattle.responses.specs.declared.gather.Outline.{Outline}

-- eight bytes at 1010, which are at 20010 on the AXI4 side
abbrev eight : Outline
eight = record { operation = Get; size = 3; source = 0; address = 0x1010 }

abbrev start : ℕ
start = 0x20010

-- the upper half comes first
abbrev upper : RBeat
upper = record { id = 0; payload = 0x17161514; resp = Okay; last = true }

abbrev lower : RBeat
lower = record { id = 0; payload = 0x13121110; resp = Okay; last = false }

abbrev crosswise : Answers
crosswise = record { reads = (1, upper) ∷ (0, lower) ∷ []; writes = [] }

abbrev counting : ℕ → Option ℕ
counting x = Some (x % 256)

abbrev after : Answers → GatherState
after answers = record { bus_bytes = 4; outline = eight; gathering = gathering_after 4 eight answers }

four_from : (P : ℕ → Type 0) (a : ℕ) → P a → P (a + 1) → P (a + 2) → P (a + 3) → (x : ℕ) → a ≤ x → x < a + 4 → P x
four_from P a p q r s x low high = by_offset (x - a) (omega arith) (omega arith)
  where
    by_offset : (k : ℕ) → x ≡ a + k → k < 4 → P x
    by_offset zero e below = let is : a ≡ x = omega arith in subst P is p
    by_offset (suc zero) e below = subst P (sym e) q
    by_offset (suc (suc zero)) e below = subst P (sym e) r
    by_offset (suc (suc (suc zero))) e below = subst P (sym e) s
    by_offset (suc (suc (suc (suc k)))) e below = absurd (omega arith)

-- a read with OKAY tells of a memory whose bytes it has
tells_okay : (place payload : ℕ) (last : Bool) → place < 2 → ((x : ℕ) → start + 4 * place ≤ x → x < start + 4 * place + 4 → counting x ≡ Some (lane_byte payload (x % 4)))
    → TellsOf 4 eight start counting place (record { id = 0; payload = payload; resp = Okay; last = last })
tells_okay place payload last inside each =
    record {
      inside = inside;
      failed = λ bad. absurd (true≢false (sym bad));
      bytes = λ good x read. each x (omega (arith, read.first, read.last, read.counted)) (omega (arith, read.first, read.last, read.counted));
    }

tells_upper : TellsOf 4 eight start counting 1 upper
tells_upper = tells_okay 1 upper.payload true (omega arith) (λ x low high. four_from (λ y. counting y ≡ Some (lane_byte upper.payload (y % 4))) (start + 4) refl refl refl refl x low high)

tells_lower : TellsOf 4 eight start counting 0 lower
tells_lower = tells_okay 0 lower.payload false (omega arith) (λ x low high. four_from (λ y. counting y ≡ Some (lane_byte lower.payload (y % 4))) start refl refl refl refl x low high)

-- answers are a memory's
answers_of_counting : HasAnswersOf (after crosswise) start counting crosswise
answers_of_counting =
    record {
      gathered = refl;
      granted = refl;
      aligned = refl;
      lane = refl;
      tell = All-cons (λ read. TellsOf 4 eight start counting read.0 read.1) (1, upper) ((0, lower) ∷ []) tells_upper
          (All-cons (λ read. TellsOf 4 eight start counting read.0 read.1) (0, lower) [] tells_lower (All-nil (λ read. TellsOf 4 eight start counting read.0 read.1)));
      came = came;
    }
  where
    came : (place : ℕ) → place < 2 → list_any (λ read. read.0 == place) crosswise.reads ≡ true
    came zero below = refl
    came (suc zero) below = refl
    came (suc (suc place)) below = absurd (omega arith)

reply_of_counting : gathered eight (gathering_after 4 eight crosswise)
    ≡ record { denied = false; bytes = Some 0x10 ∷ Some 0x11 ∷ Some 0x12 ∷ Some 0x13 ∷ Some 0x14 ∷ Some 0x15 ∷ Some 0x16 ∷ Some 0x17 ∷ [] }
reply_of_counting = refl
