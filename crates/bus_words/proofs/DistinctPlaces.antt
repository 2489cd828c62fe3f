-- Where no two numbers of a list are the same, a number that stands at a place stands nowhere else; and changes that keep it so.
use Rattle.std.proofs.Common.{◌≡◌, ◌≢◌, ◌<◌, ◌==◌, ℕ, zero, suc, Bool, List, [], ◌∷◌, ◌++◌, length, take, get_or, position, refl, sym, subst, arith}
use Rattle.std.proofs.lemmas.Bool.{eq-eqb, lt-ltb, ne_eqb}
use Rattle.std.specs.List.{AllByRecursion, position_or_len, remove}
use Rattle.std.specs.Prelude.{Some}
use Rattle.bus_words.specs.Places.{AreDistinct, without_first}
use Rattle.bus_words.proofs.PlaceChanges.{all-append, all-at, all-remove, all-take, all-without_first}

first_at : (numbers : List ℕ) (k d : ℕ) → AreDistinct numbers → k < length numbers → position_or_len (λ m. m == get_or numbers k d) numbers ≡ k
first_at [] k d distinct within = absurd (omega (arith, within))
first_at (n ∷ numbers) zero d distinct within = rw (eq-eqb n n refl) refl
first_at (n ∷ numbers) (suc k) d distinct within =
    let inside : k < length numbers = omega (arith, within) in
    let rest = first_at numbers k d distinct.1 inside in
    rw (ne_eqb n (get_or numbers k d) (λ same. all-at (λ m. m ≢ n) numbers k d distinct.0 inside (sym same))) (omega (arith, rest))

pub position_here : (numbers : List ℕ) (k d number : ℕ) → AreDistinct numbers → k < length numbers → get_or numbers k d ≡ number → position (λ m. m == number) numbers ≡ Some k
position_here numbers k d number distinct within at =
    let first : position_or_len (λ m. m == number) numbers ≡ k = subst (λ x. position_or_len (λ m. m == x) numbers ≡ k) at (first_at numbers k d distinct within) in
    rw (first, lt-ltb k (length numbers) within) refl

turned : (m n : ℕ) → m ≢ n → n ≢ m
turned m n other = λ same. other (sym same)

-- ---- parts of such a list, and one number more

pub distinct-take : (k : ℕ) (numbers : List ℕ) → AreDistinct numbers → AreDistinct (take k numbers)
distinct-take zero numbers distinct = tt
distinct-take (suc k) [] distinct = tt
distinct-take (suc k) (n ∷ numbers) distinct = (all-take (λ m. m ≢ n) k numbers distinct.0, distinct-take k numbers distinct.1)

pub distinct-append : (number : ℕ) (numbers : List ℕ) → AreDistinct numbers → AllByRecursion (λ m. m ≢ number) numbers → AreDistinct (numbers ++ number ∷ [])
distinct-append number [] distinct others = (tt, tt)
distinct-append number (n ∷ numbers) distinct others =
    (all-append (λ m. m ≢ n) numbers number distinct.0 (turned n number others.0), distinct-append number numbers distinct.1 others.1)

pub distinct-remove : (numbers : List ℕ) (k : ℕ) → AreDistinct numbers → AreDistinct (remove numbers k)
distinct-remove [] zero distinct = tt
distinct-remove [] (suc k) distinct = tt
distinct-remove (n ∷ numbers) zero distinct = distinct.1
distinct-remove (n ∷ numbers) (suc k) distinct = (all-remove (λ m. m ≢ n) numbers k distinct.0, distinct-remove numbers k distinct.1)

pub distinct-without_first : (p : ℕ → Bool) (numbers : List ℕ) → AreDistinct numbers → AreDistinct (without_first p numbers)
distinct-without_first p [] distinct = tt
distinct-without_first p (n ∷ numbers) distinct =
    grind (arith, distinct.1, all-without_first (λ m. m ≢ n) p numbers distinct.0, distinct-without_first p numbers distinct.1)

-- ---- what stands beside a number is another

pub others-before : (numbers : List ℕ) (k d : ℕ) → AreDistinct numbers → k < length numbers → AllByRecursion (λ m. m ≢ get_or numbers k d) (take k numbers)
others-before [] k d distinct within = absurd (omega (arith, within))
others-before (n ∷ numbers) zero d distinct within = tt
others-before (n ∷ numbers) (suc k) d distinct within =
    let inside : k < length numbers = omega (arith, within) in
    (turned (get_or numbers k d) n (all-at (λ m. m ≢ n) numbers k d distinct.0 inside), others-before numbers k d distinct.1 inside)

pub others-beside : (numbers : List ℕ) (k d : ℕ) → AreDistinct numbers → k < length numbers → AllByRecursion (λ m. m ≢ get_or numbers k d) (remove numbers k)
others-beside [] k d distinct within = absurd (omega (arith, within))
others-beside (n ∷ numbers) zero d distinct within = distinct.0
others-beside (n ∷ numbers) (suc k) d distinct within =
    let inside : k < length numbers = omega (arith, within) in
    (turned (get_or numbers k d) n (all-at (λ m. m ≢ n) numbers k d distinct.0 inside), others-beside numbers k d distinct.1 inside)
