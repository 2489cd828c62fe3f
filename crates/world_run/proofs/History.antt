-- Why a history of requests stays in order: what one of them reads or writes, and where all are finished. This is the argument itself, over
-- numbers, addresses and tests alone: bridge, memory, beats and what a request means are all hidden.
use Rattle.std.proofs.Common.{◌≡◌, ℕ, ◌+◌, ◌-◌, ◌==◌, ◌<◌, ◌≤◌, zero, suc, Bool, true, false, ◌&&◌, ◌||◌, ◌⊎◌, inl, inr, sym, ◌∙◌, ap, arith}
use Rattle.std.proofs.lemmas.Bool.Decides.{nat_tests}
use Rattle.std.proofs.lemmas.Bool.{cases_lt, cases_Bool}
use Rattle.world_run.specs.InOrder.{IsCut, IsHistory, HoldsBack}
use Rattle.meaning.specs.Meaning.{Bytes}

-- ---- where a request stands

-- before one that has started writes a byte, the writers of the byte are just those of smaller number
pub cut_here : (writing touching : ℕ → ℕ → Bool) (before : ℕ → Bytes) (started finished : ℕ → Bool) (wrote : ℕ → ℕ → Bool) (bytes : Bytes) (j x : ℕ)
    → IsHistory writing before started finished wrote bytes → HoldsBack writing touching started finished
    → started j ≡ true → finished j ≡ false → touching j x ≡ true → wrote j x ≡ false → IsCut writing wrote j x
cut_here writing touching before started finished wrote bytes j x history held begun unfinished touches unwritten = record {
  below = λ i below writes. history.all_written i x (held.earlier i j x below begun writes touches) writes;
  above = λ i above wrote_it. elim (cases_lt j i) [
    | inl later ↦ (let over = held.later j i x later (history.began i x wrote_it) touches (history.writer i x wrote_it) in cc)
    | inr other ↦ (let same : i ≡ j = omega (arith, above, other) in let mine : wrote j x ≡ true = rw same at wrote_it in cc)
  ];
}

-- so it finds there what the requests of smaller number leave
pub found_here : (writing touching : ℕ → ℕ → Bool) (before : ℕ → Bytes) (started finished : ℕ → Bool) (wrote : ℕ → ℕ → Bool) (bytes : Bytes) (j x : ℕ)
    → IsHistory writing before started finished wrote bytes → HoldsBack writing touching started finished
    → started j ≡ true → finished j ≡ false → touching j x ≡ true → wrote j x ≡ false → bytes x ≡ before j x
found_here writing touching before started finished wrote bytes j x history held begun unfinished touches unwritten =
    history.memory j x (cut_here writing touching before started finished wrote bytes j x history held begun unfinished touches unwritten)

-- before one writes a byte, each writer of it with a smaller number has written it
pub written_in_turn : (writing touching : ℕ → ℕ → Bool) (before : ℕ → Bytes) (started finished : ℕ → Bool) (wrote : ℕ → ℕ → Bool) (bytes : Bytes)
    → IsHistory writing before started finished wrote bytes → HoldsBack writing touching started finished
    → ((j x : ℕ) → writing j x ≡ true → touching j x ≡ true) → (i j x : ℕ) → i < j → wrote j x ≡ true → writing i x ≡ true → wrote i x ≡ true
written_in_turn writing touching before started finished wrote bytes history held touches i j x below wrote_it writes_it =
    history.all_written i x (held.earlier i j x below (history.began j x wrote_it) writes_it (touches j x (history.writer j x wrote_it))) writes_it

-- ---- where nobody writes, nothing changes

abbrev pub StaysUnwritten : (ℕ → ℕ → Bool) → (ℕ → Bytes) → Type 0
StaysUnwritten writing before = (i x : ℕ) → writing i x ≡ false → before (suc i) x ≡ before i x

unwritten_between : (writing : ℕ → ℕ → Bool) (before : ℕ → Bytes) (first count x : ℕ) → StaysUnwritten writing before
    → ((i : ℕ) → first ≤ i → i < first + count → writing i x ≡ false) → before (first + count) x ≡ before first x
unwritten_between writing before first zero x stays none = ap (λ (n : ℕ). before n x) (omega arith)
unwritten_between writing before first (suc count) x stays none =
    ap (λ (n : ℕ). before n x) (omega arith)
    ∙ stays (first + count) x (none (first + count) (omega arith) (omega arith))
    ∙ unwritten_between writing before first count x stays (λ i from below. none i from (omega (arith, below)))

-- ---- what changes keep

-- request j wrote the bytes of P too
abbrev pub with_written : ℕ → (ℕ → Bool) → (ℕ → ℕ → Bool) → ℕ → ℕ → Bool
with_written j P wrote i x = wrote i x || ((i == j) && P x)

-- a byte that it wrote was written before, or is one of P
pub store_cases : (j : ℕ) (P : ℕ → Bool) (wrote : ℕ → ℕ → Bool) (i x : ℕ) → with_written j P wrote i x ≡ true → (wrote i x ≡ true) ⊎ ((i ≡ j) × (P x ≡ true))
store_cases j P wrote i x there = grind (arith, nat_tests)

pub store_keeps : (j : ℕ) (P : ℕ → Bool) (wrote : ℕ → ℕ → Bool) (i x : ℕ) → wrote i x ≡ true → with_written j P wrote i x ≡ true
store_keeps j P wrote i x there = grind (arith, nat_tests)

pub store_adds : (j : ℕ) (P : ℕ → Bool) (wrote : ℕ → ℕ → Bool) (x : ℕ) → P x ≡ true → with_written j P wrote j x ≡ true
store_adds j P wrote x there = grind (arith, nat_tests)

-- where nothing was written the history shows what it showed
unstored : (writing : ℕ → ℕ → Bool) (wrote : ℕ → ℕ → Bool) (j : ℕ) (P : ℕ → Bool) (n x : ℕ) → P x ≡ false → IsCut writing (with_written j P wrote) n x → IsCut writing wrote n x
unstored writing wrote j P n x out cut = record {
  below = λ i below writes. elim (store_cases j P wrote i x (cut.below i below writes)) [ inl old ↦ old | inr new ↦ (let hit = new.1 in cc) ];
  above = λ i above old. cut.above i above (store_keeps j P wrote i x old);
}

-- after a request in its turn wrote some bytes, whoever cuts there counts it, and nobody after it has begun
stored_here : (writing touching : ℕ → ℕ → Bool) (before : ℕ → Bytes) (started finished : ℕ → Bool) (wrote : ℕ → ℕ → Bool) (bytes : Bytes) (j : ℕ) (P : ℕ → Bool) (n x : ℕ)
    → IsHistory writing before started finished wrote bytes → HoldsBack writing touching started finished
    → StaysUnwritten writing before → finished j ≡ false → P x ≡ true → writing j x ≡ true → touching j x ≡ true
    → IsCut writing (with_written j P wrote) n x → before (suc j) x ≡ before n x
stored_here writing touching before started finished wrote bytes j P n x history held stays unfinished hit writes touches cut =
    sym (sym (ap (λ (k : ℕ). before k x) count) ∙ unwritten_between writing before (suc j) (n - suc j) x stays none)
  where
    counted : suc j ≤ n
    counted = elim (cases_lt j n) [ inl below ↦ omega (arith, below) | inr above ↦ absurd (cut.above j (omega (arith, above)) (store_adds j P wrote x hit)) ]

    count : suc j + (n - suc j) ≡ n
    count = omega (arith, counted)

    none : (i : ℕ) → suc j ≤ i → i < suc j + (n - suc j) → writing i x ≡ false
    none i from below = elim (cases_Bool (writing i x)) [
      | inl writes_it ↦ absurd (elim (store_cases j P wrote i x (cut.below i (omega (arith, below, counted)) writes_it)) [
        | inl old ↦ (let over = held.later j i x (omega (arith, from)) (history.began i x old) touches writes_it in cc)
        | inr new ↦ (let same = new.0 in omega (arith, same, from))
      ])
      | inr quiet ↦ quiet
    ]

-- a request that has started and isn't finished writes the bytes of P, as it leaves them
pub history_stores : (writing touching : ℕ → ℕ → Bool) (before : ℕ → Bytes) (started finished : ℕ → Bool) (wrote : ℕ → ℕ → Bool) (bytes bytes' : Bytes) (j : ℕ) (P : ℕ → Bool) (v : Bytes)
    → IsHistory writing before started finished wrote bytes → HoldsBack writing touching started finished
    → StaysUnwritten writing before → started j ≡ true → finished j ≡ false
    → ((x : ℕ) → P x ≡ true → writing j x ≡ true) → ((x : ℕ) → P x ≡ true → touching j x ≡ true) → ((x : ℕ) → P x ≡ true → v x ≡ before (suc j) x)
    → ((x : ℕ) → P x ≡ true → bytes' x ≡ v x) → ((x : ℕ) → P x ≡ false → bytes' x ≡ bytes x)
    → IsHistory writing before started finished (with_written j P wrote) bytes'
history_stores writing touching before started finished wrote bytes bytes' j P v history held stays begun unfinished writes touches value stored kept = record {
  memory = λ n x cut. elim (cases_Bool (P x)) [
    | inl hit ↦ stored x hit ∙ value x hit ∙ stored_here writing touching before started finished wrote bytes j P n x history held stays unfinished hit (writes x hit) (touches x hit) cut
    | inr out ↦ kept x out ∙ history.memory n x (unstored writing wrote j P n x out cut)
  ];
  began = λ i x there. elim (store_cases j P wrote i x there) [ inl old ↦ history.began i x old | inr new ↦ rw new.0 begun ];
  writer = λ i x there. elim (store_cases j P wrote i x there) [ inl old ↦ history.writer i x old | inr new ↦ rw new.0 (writes x new.1) ];
  all_written = λ i x over writes_it. store_keeps j P wrote i x (history.all_written i x over writes_it);
}

-- requests start, and are finished where they have written all that they write
pub history_moves : (writing : ℕ → ℕ → Bool) (before : ℕ → Bytes) (started finished started' finished' : ℕ → Bool) (wrote : ℕ → ℕ → Bool) (bytes : Bytes)
    → IsHistory writing before started finished wrote bytes
    → ((j : ℕ) → started j ≡ true → started' j ≡ true)
    → ((j : ℕ) → finished' j ≡ true → (finished j ≡ true) ⊎ ((x : ℕ) → writing j x ≡ true → wrote j x ≡ true))
    → IsHistory writing before started' finished' wrote bytes
history_moves writing before started finished started' finished' wrote bytes history start finish = record {
  memory = history.memory;
  began = λ j x there. start j (history.began j x there);
  writer = history.writer;
  all_written = λ j x over writes. elim (finish j over) [ inl old ↦ history.all_written j x old writes | inr all ↦ all x writes ];
}

-- ---- the ends

-- before anything was written
pub history_opens : (writing : ℕ → ℕ → Bool) (before : ℕ → Bytes) (started finished : ℕ → Bool) (bytes : Bytes)
    → StaysUnwritten writing before → ((j : ℕ) → finished j ≡ false) → ((x : ℕ) → bytes x ≡ before 0 x)
    → IsHistory writing before started finished (λ i x. false) bytes
history_opens writing before started finished bytes stays unfinished first = record {
  memory = λ n x cut. first x ∙ sym (unwritten_between writing before 0 n x stays (none n x cut)) ∙ ap (λ (k : ℕ). before k x) (omega arith);
  began = λ j x there. absurd (cc);
  writer = λ j x there. absurd (cc);
  all_written = λ j x over writes. (let never = unfinished j in absurd (cc));
}
  where
    none : (n x : ℕ) → IsCut writing (λ i x. false) n x → (i : ℕ) → 0 ≤ i → i < 0 + n → writing i x ≡ false
    none n x cut i from below = elim (cases_Bool (writing i x)) [
      | inl writes ↦ (let there = cut.below i (omega (arith, below)) writes in cc)
      | inr quiet ↦ quiet
    ]

-- where the first so many are finished, and no other has started, the bytes are as these leave them
pub quiet_memory : (writing : ℕ → ℕ → Bool) (before : ℕ → Bytes) (started finished : ℕ → Bool) (wrote : ℕ → ℕ → Bool) (bytes : Bytes) (count : ℕ)
    → IsHistory writing before started finished wrote bytes
    → ((j : ℕ) → j < count → finished j ≡ true) → ((j : ℕ) → count ≤ j → started j ≡ false)
    → (x : ℕ) → bytes x ≡ before count x
quiet_memory writing before started finished wrote bytes count history over unstarted x = history.memory count x (record {
  below = λ i below writes. history.all_written i x (over i below) writes;
  above = λ i above there. (let began = history.began i x there in let never = unstarted i above in cc);
})
