-- What changes of a list keep: what holds of each entry, how many there are, and how many pass a test.
use Rattle.std.proofs.Common.{◌≡◌, ℕ, zero, suc, ◌+◌, ◌<◌, ◌≤◌, Bool, true, false, List, [], ◌∷◌, ◌++◌, length, take, get_or, set, slice_get, refl, ap, subst, arith}
use Rattle.std.specs.Prelude.{None, Some, if◌then◌else◌}
use Rattle.std.specs.List.{AllByRecursion, filter, find, remove}
use Rattle.bus_words.specs.Places.{change_first, without_first}

-- what holds of each entry holds of each where it follows from that
pub all-map : {X : Type 0} (P Q : X → Type 0) (xs : List X) → ((x : X) → P x → Q x) → AllByRecursion P xs → AllByRecursion Q xs
all-map P Q [] follows all = tt
all-map P Q (x ∷ xs) follows all = (follows x all.0, all-map P Q xs follows all.1)

-- and of the one at a place
pub all-at : {X : Type 0} (P : X → Type 0) (xs : List X) (k : ℕ) (d : X) → AllByRecursion P xs → k < length xs → P (get_or xs k d)
all-at P [] k d all within = absurd (omega (arith, within))
all-at P (x ∷ xs) zero d all within = all.0
all-at P (x ∷ xs) (suc k) d all within = all-at P xs k d all.1 (omega (arith, within))

pub all-got : {X : Type 0} (P : X → Type 0) (xs : List X) (k : ℕ) (x : X) → AllByRecursion P xs → slice_get xs k ≡ Some x → P x
all-got P [] k x all at = absurd (cc)
all-got P (y ∷ ys) zero x all at = let same : y ≡ x = cc in subst P same all.0
all-got P (y ∷ ys) (suc k) x all at = all-got P ys k x all.1 at

-- and of each entry of a list that was changed at a place
pub all-set : {X : Type 0} (P : X → Type 0) (xs : List X) (k : ℕ) (x : X) → AllByRecursion P xs → P x → AllByRecursion P (set xs k x)
all-set P [] k x all holds = tt
all-set P (y ∷ ys) zero x all holds = (holds, all.1)
all-set P (y ∷ ys) (suc k) x all holds = (all.0, all-set P ys k x all.1 holds)

pub all-remove : {X : Type 0} (P : X → Type 0) (xs : List X) (k : ℕ) → AllByRecursion P xs → AllByRecursion P (remove xs k)
all-remove P [] zero all = tt
all-remove P [] (suc k) all = tt
all-remove P (x ∷ xs) zero all = all.1
all-remove P (x ∷ xs) (suc k) all = (all.0, all-remove P xs k all.1)

pub all-take : {X : Type 0} (P : X → Type 0) (k : ℕ) (xs : List X) → AllByRecursion P xs → AllByRecursion P (take k xs)
all-take P zero xs all = tt
all-take P (suc k) [] all = tt
all-take P (suc k) (x ∷ xs) all = (all.0, all-take P k xs all.1)

-- and of the one that a search finds
pub all-find : {X : Type 0} (P : X → Type 0) (p : X → Bool) (xs : List X) (x : X) → AllByRecursion P xs → find p xs ≡ Some x → P x
all-find P p [] x all found = absurd (cc)
all-find {X = X} P p (y ∷ ys) x all found = by_test (p y) found (λ later. all-find P p ys x all.1 later)
  where
    by_test : (b : Bool) → (if b then Some y else find p ys) ≡ Some x → (find p ys ≡ Some x → P x) → P x
    by_test true here rest =
        let same : y ≡ x = cc in
        rw same at all.0
    by_test false later rest = rest later

pub all-append : {X : Type 0} (P : X → Type 0) (xs : List X) (x : X) → AllByRecursion P xs → P x → AllByRecursion P (xs ++ x ∷ [])
all-append P [] x all last = (last, tt)
all-append P (y ∷ ys) x all last = (all.0, all-append P ys x all.1 last)

pub all-change_first : {X : Type 0} (P : X → Type 0) (p : X → Bool) (f : X → X) (xs : List X) → ((x : X) → p x ≡ true → P x → P (f x)) → AllByRecursion P xs → AllByRecursion P (change_first p f xs)
all-change_first P p f [] keeps all = tt
all-change_first {X = X} P p f (x ∷ xs) keeps all = by_test (p x) (keeps x) (all-change_first P p f xs keeps all.1)
  where
    by_test : (b : Bool) → (b ≡ true → P x → P (f x)) → AllByRecursion P (change_first p f xs) → AllByRecursion P (if b then f x ∷ xs else x ∷ change_first p f xs)
    by_test true here rest = (here refl all.0, all.1)
    by_test false here rest = (all.0, rest)

pub all-without_first : {X : Type 0} (P : X → Type 0) (p : X → Bool) (xs : List X) → AllByRecursion P xs → AllByRecursion P (without_first p xs)
all-without_first P p [] all = tt
all-without_first {X = X} P p (x ∷ xs) all = by_test (p x) (all-without_first P p xs all.1)
  where
    by_test : (b : Bool) → AllByRecursion P (without_first p xs) → AllByRecursion P (if b then xs else x ∷ without_first p xs)
    by_test true rest = all.1
    by_test false rest = (all.0, rest)

-- one more entry that may pass
pass_more : {X : Type 0} (q : X → Bool) (x : X) (xs ys : List X) → length (filter q xs) ≤ length (filter q ys) → length (filter q (x ∷ xs)) ≤ length (filter q (x ∷ ys))
pass_more q x xs ys fewer = by_test (q x)
  where
    by_test : (b : Bool) → length (if b then x ∷ filter q xs else filter q xs) ≤ length (if b then x ∷ filter q ys else filter q ys)
    by_test true = omega (arith, fewer)
    by_test false = fewer

pub pass_fewer : {X : Type 0} (q : X → Bool) (x : X) (xs : List X) → length (filter q xs) ≤ length (filter q (x ∷ xs))
pass_fewer q x xs = by_test (q x)
  where
    by_test : (b : Bool) → length (filter q xs) ≤ length (if b then x ∷ filter q xs else filter q xs)
    by_test true = omega arith
    by_test false = omega arith

-- a change that leaves a test as it was lets as many entries pass it
pub length-filter-change_first : {X : Type 0} (q p : X → Bool) (f : X → X) (xs : List X) → ((x : X) → q (f x) ≡ q x) → length (filter q (change_first p f xs)) ≡ length (filter q xs)
length-filter-change_first q p f [] same = refl
length-filter-change_first {X = X} q p f (x ∷ xs) same = by_test (p x) (length-filter-change_first q p f xs same)
  where
    head : (b : Bool) → length (filter q (change_first p f xs)) ≡ length (filter q xs)
        → length (if b then x ∷ filter q (change_first p f xs) else filter q (change_first p f xs)) ≡ length (if b then x ∷ filter q xs else filter q xs)
    head true rest = ap suc rest
    head false rest = rest

    by_test : (b : Bool) → length (filter q (change_first p f xs)) ≡ length (filter q xs) → length (filter q (if b then f x ∷ xs else x ∷ change_first p f xs)) ≡ length (filter q (x ∷ xs))
    by_test true rest = rw (same x) (each (q x))
      where
        each : (b : Bool) → length (if b then f x ∷ filter q xs else filter q xs) ≡ length (if b then x ∷ filter q xs else filter q xs)
        each true = refl
        each false = refl
    by_test false rest = head (q x) rest

-- taking an entry out lets no more pass
pub length-filter-without_first : {X : Type 0} (q p : X → Bool) (xs : List X) → length (filter q (without_first p xs)) ≤ length (filter q xs)
length-filter-without_first q p [] = omega arith
length-filter-without_first {X = X} q p (x ∷ xs) = by_test (p x) (length-filter-without_first q p xs)
  where
    by_test : (b : Bool) → length (filter q (without_first p xs)) ≤ length (filter q xs) → length (filter q (if b then xs else x ∷ without_first p xs)) ≤ length (filter q (x ∷ xs))
    by_test true rest = pass_fewer q x xs
    by_test false rest = pass_more q x (without_first p xs) xs rest

-- the entry that a search finds passes its test
pub find-passes : {X : Type 0} (p : X → Bool) (xs : List X) (x : X) → find p xs ≡ Some x → p x ≡ true
find-passes p [] x found = absurd (cc)
find-passes {X = X} p (y ∷ ys) x found = by_test (p y) refl found (λ later. find-passes p ys x later)
  where
    by_test : (b : Bool) → p y ≡ b → (if b then Some y else find p ys) ≡ Some x → (find p ys ≡ Some x → p x ≡ true) → p x ≡ true
    by_test true passes here rest =
        let same : y ≡ x = cc in
        rw same at passes
    by_test false fails later rest = rest later

-- a change passes over the entries that fail the test
pub change_first-append-none : {X : Type 0} (p : X → Bool) (f : X → X) (xs ys : List X) → find p xs ≡ None → change_first p f (xs ++ ys) ≡ xs ++ change_first p f ys
change_first-append-none p f [] ys none = refl
change_first-append-none {X = X} p f (x ∷ xs) ys none = by_test (p x) none (λ later. change_first-append-none p f xs ys later)
  where
    by_test : (b : Bool) → (if b then Some x else find p xs) ≡ None → (find p xs ≡ None → change_first p f (xs ++ ys) ≡ xs ++ change_first p f ys)
        → (if b then f x ∷ (xs ++ ys) else x ∷ change_first p f (xs ++ ys)) ≡ x ∷ (xs ++ change_first p f ys)
    by_test true here rest = absurd (cc)
    by_test false later rest = ap (λ (zs : List X). x ∷ zs) (rest later)

-- where nothing is found, nothing is found after an entry was taken out
pub find-without_first-none : {X : Type 0} (p q : X → Bool) (xs : List X) → find p xs ≡ None → find p (without_first q xs) ≡ None
find-without_first-none p q [] none = refl
find-without_first-none {X = X} p q (x ∷ xs) none = by_tests (p x) refl (q x) none (λ later. find-without_first-none p q xs later)
  where
    by_tests : (b : Bool) → p x ≡ b → (c : Bool) → (if b then Some x else find p xs) ≡ None → (find p xs ≡ None → find p (without_first q xs) ≡ None)
        → find p (if c then xs else x ∷ without_first q xs) ≡ None
    by_tests true is c found rest = absurd (cc (found))
    by_tests false is true later rest = later
    by_tests false is false later rest = rw is (rest later)

-- how many entries there are after a change, and after one was taken out
pub length-change_first : {X : Type 0} (p : X → Bool) (f : X → X) (xs : List X) → length (change_first p f xs) ≡ length xs
length-change_first p f [] = refl
length-change_first {X = X} p f (x ∷ xs) = by_test (p x) (length-change_first p f xs)
  where
    by_test : (b : Bool) → length (change_first p f xs) ≡ length xs → length (if b then f x ∷ xs else x ∷ change_first p f xs) ≡ length (x ∷ xs)
    by_test true rest = refl
    by_test false rest = ap suc rest

pub length-without_found : {X : Type 0} (p : X → Bool) (xs : List X) (x : X) → find p xs ≡ Some x → length (without_first p xs) + 1 ≡ length xs
length-without_found p [] x found = absurd (cc)
length-without_found {X = X} p (y ∷ ys) x found = by_test (p y) found (λ later. length-without_found p ys x later)
  where
    by_test : (b : Bool) → (if b then Some y else find p ys) ≡ Some x → (find p ys ≡ Some x → length (without_first p ys) + 1 ≡ length ys) → length (if b then ys else y ∷ without_first p ys) + 1 ≡ length (y ∷ ys)
    by_test true here rest = omega arith
    by_test false later rest = omega (arith, rest later)
