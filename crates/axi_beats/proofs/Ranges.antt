-- Lists of neighbouring numbers, `range_with_len a n`: one after another, moved, and cut by `is_between`.
use Rattle.std.proofs.Common.{◌≡◌, ℕ, zero, suc, ◌+◌, ◌-◌, ◌<◌, ◌≤◌, Bool, true, false, List, [], ◌∷◌, ◌++◌, map, refl, ap, arith}
use Rattle.std.specs.List.{range_with_len, filter, flat_map}
use Rattle.std.proofs.lemmas.Bool.Decides.{nat_tests}
use Rattle.std.proofs.lemmas.List.{append-nil}
use Rattle.std.proofs.lemmas.List.Elements.{filter-append}
use Rattle.bus_words.specs.Lanes.{is_between}

-- a range and the range that begins where it stops are one range
pub range_with_len-append-range_with_len : (a m k : ℕ) → range_with_len a m ++ range_with_len (a + m) k ≡ range_with_len a (m + k)
range_with_len-append-range_with_len a zero k = grind arith
range_with_len-append-range_with_len a (suc m) k =
    let later : a + suc m ≡ a + 1 + m = omega arith in
    let longer : suc m + k ≡ suc (m + k) = omega arith in
    rw (later, longer) (ap (λ (xs : List ℕ). a ∷ xs) (range_with_len-append-range_with_len (a + 1) m k))

-- a range moved up
map-add-range_with_len : (base a n : ℕ) → map (λ x. base + x) (range_with_len a n) ≡ range_with_len (base + a) n
map-add-range_with_len base a zero = refl
map-add-range_with_len base a (suc n) =
    let regrouped : base + (a + 1) ≡ base + a + 1 = omega arith in
    ap (λ (xs : List ℕ). (base + a) ∷ xs) (rw regrouped at (map-add-range_with_len base (a + 1) n))

-- a test that each number of a range passes keeps the range
filter_inside : (p : ℕ → Bool) (a n : ℕ) → ((x : ℕ) → a ≤ x → x < a + n → p x ≡ true) → filter p (range_with_len a n) ≡ range_with_len a n
filter_inside p a zero h = refl
filter_inside p a (suc n) h = rw (h a (omega arith) (omega arith)) (ap (λ (xs : List ℕ). a ∷ xs) (filter_inside p (a + 1) n (λ x low high. h x (omega arith) (omega arith))))

-- a test that no number of a range passes leaves nothing of it
filter_outside : (p : ℕ → Bool) (a n : ℕ) → ((x : ℕ) → a ≤ x → x < a + n → p x ≡ false) → filter p (range_with_len a n) ≡ []
filter_outside p a zero h = refl
filter_outside p a (suc n) h = rw (h a (omega arith) (omega arith)) (filter_outside p (a + 1) n (λ x low high. h x (omega arith) (omega arith)))

-- a range from a to b and a range from b to c are the range from a to c
ranges_join : (a b c : ℕ) → a ≤ b → b ≤ c → range_with_len a (b - a) ++ range_with_len b (c - b) ≡ range_with_len a (c - a)
ranges_join a b c first second =
    let middle : a + (b - a) ≡ b = omega arith in
    let whole : b - a + (c - b) ≡ c - a = omega arith in
    rw (middle, whole) at (range_with_len-append-range_with_len a (b - a) (c - b))

-- a test that just the numbers from low to below high pass keeps the range of these
filter_middle : (p : ℕ → Bool) (low high n : ℕ) → low ≤ high → high ≤ n → ((x : ℕ) → x < low → p x ≡ false) → ((x : ℕ) → low ≤ x → x < high → p x ≡ true) → ((x : ℕ) → high ≤ x → p x ≡ false)
    → filter p (range_with_len 0 n) ≡ range_with_len low (high - low)
filter_middle p low high n order within before inside past =
    let front = filter_outside p 0 low (λ x a b. before x (omega arith)) in
    let middle = filter_inside p low (high - low) (λ x a b. inside x a (omega arith)) in
    let back = filter_outside p high (n - high) (λ x a b. past x a) in
    let parted = ranges_join low high n order within in
    let start : 0 + low ≡ low = omega arith in
    let whole : low + (n - low) ≡ n = omega arith in
    let joined = rw (start, whole) at (range_with_len-append-range_with_len 0 low (n - low)) in
    rw (← joined, ← parted, filter-append, filter-append, front, middle, back, append-nil) refl

-- a test of lanes keeps the range from the lowest to the highest
filter-is_between-range_with_len : (low high n : ℕ) → low ≤ high → high < n → filter (is_between low high) (range_with_len 0 n) ≡ range_with_len low (high + 1 - low)
filter-is_between-range_with_len low high n order below =
    filter_middle (is_between low high) low (high + 1) n (omega arith) (omega arith) (λ x a. grind (arith, nat_tests)) (λ x a b. grind (arith, nat_tests)) (λ x a. grind (arith, nat_tests))

-- the numbers that a test of lanes keeps, moved up, are a range too
pub map-add-filter-is_between : (base low high n first last : ℕ) → base + low ≡ first → base + high ≡ last → low ≤ high → high < n
    → map (λ x. base + x) (filter (is_between low high) (range_with_len 0 n)) ≡ range_with_len first (last + 1 - first)
map-add-filter-is_between base low high n first last begins ends order below =
    let count : high + 1 - low ≡ last + 1 - first = omega arith in
    rw (filter-is_between-range_with_len low high n order below, map-add-range_with_len base low (high + 1 - low), count, begins) refl

-- marks that rise at each step have risen after some steps
marks_rise : (mark : ℕ → ℕ) → ((n : ℕ) → 1 ≤ n → mark n ≤ mark (n + 1)) → (n k : ℕ) → 1 ≤ n → mark n ≤ mark (n + k)
marks_rise mark rises n zero one =
    let same : n + 0 ≡ n = omega arith in
    rw same (omega arith)
marks_rise mark rises n (suc k) one =
    let same : n + suc k ≡ n + 1 + k = omega arith in
    let here = rises n one in
    let rest = marks_rise mark rises (n + 1) k (omega arith) in
    rw same (omega arith)

-- what the numbers of a range give, where each gives the numbers from its own mark to the next
pub flat_map-range_with_len : (f : ℕ → List ℕ) (mark : ℕ → ℕ) → ((n : ℕ) → 1 ≤ n → mark n ≤ mark (n + 1)) → ((n : ℕ) → 1 ≤ n → f n ≡ range_with_len (mark n) (mark (n + 1) - mark n)) → (n k : ℕ) → 1 ≤ n
    → flat_map f (range_with_len n k) ≡ range_with_len (mark n) (mark (n + k) - mark n)
flat_map-range_with_len f mark rises gives n zero one =
    let same : n + 0 ≡ n = omega arith in
    let none : mark n - mark n ≡ 0 = omega arith in
    rw (same, none) refl
flat_map-range_with_len f mark rises gives n (suc k) one =
    let same : n + suc k ≡ n + 1 + k = omega arith in
    let here = gives n one in
    let rest = flat_map-range_with_len f mark rises gives (n + 1) k (omega arith) in
    let joined = ranges_join (mark n) (mark (n + 1)) (mark (n + 1 + k)) (rises n one) (marks_rise mark rises (n + 1) k (omega arith)) in
    rw same (cc)
