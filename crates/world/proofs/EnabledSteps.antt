-- The steps that bridge and memory can make by themselves, counted and by their places. It knows the lists that they are joined of; what
-- they do is hidden.
use Rattle.std.proofs.Common.{◌≡◌, ℕ, zero, suc, ◌+◌, ◌-◌, ◌<◌, ◌≤◌, Bool, true, false, List, [], ◌∷◌, ◌++◌, length, map, refl, ap, sym, ◌∙◌, arith}
use mir.Val.{bool_byte}
use Rattle.std.specs.Prelude.{Option, Some, None, filter, find, if◌then◌else◌, is_some, option_map, slice_get}
use Rattle.std.specs.List.{range_with_len}
use Rattle.std.proofs.lemmas.List.{length-append, length-map}
use Rattle.std.proofs.lemmas.Option.{slice_get-map}
use Rattle.subordinate.specs.FreeMemory.{FreeMemory, b_of, first_with_b, first_with_r, ids_with_b, ids_with_r, r_of}
use Rattle.world.specs.Choices.{answers_enabled}
use Rattle.world.specs.World.{perform_at}
use Rattle.world.specs.declared.Step.{Step}
use Rattle.world.specs.declared.Step.TheVariants.{AnswerB, AnswerR, Pump}

-- ---- the numbers below a bound that pass a test

-- those from n on
abbrev pub passing_from : (ℕ → Bool) → ℕ → ℕ → List ℕ
passing_from p n top = filter p (range_with_len n (top - n))

from_next : (n top : ℕ) → n < top → range_with_len n (top - n) ≡ n ∷ range_with_len (n + 1) (top - (n + 1))
from_next n top below = let more : top - n ≡ suc (top - (n + 1)) = omega (arith, below) in rw more refl

-- the one that is looked for is here
pub found_here : (p : ℕ → Bool) (n top left : ℕ) (sought : Option ℕ) → n < top → p n ≡ true → left ≡ 0 → slice_get (passing_from p n top) left ≡ sought → sought ≡ Some n
found_here p n top left sought below passes first at = sym at ∙ rw (first, from_next n top below, passes) refl

-- or after it
pub found_later : (p : ℕ → Bool) (n top left less : ℕ) (sought : Option ℕ) → n < top → p n ≡ true → less + 1 ≡ left → slice_get (passing_from p n top) left ≡ sought
    → slice_get (passing_from p (n + 1) top) less ≡ sought
found_later p n top left less sought below passes fewer at =
    let next : left ≡ suc less = omega (arith, fewer) in
    rw (next, from_next n top below, passes) at at

pub found_after : (p : ℕ → Bool) (n top left : ℕ) (sought : Option ℕ) → n < top → p n ≡ false → slice_get (passing_from p n top) left ≡ sought → slice_get (passing_from p (n + 1) top) left ≡ sought
found_after p n top left sought below fails at = rw (from_next n top below, fails) at at

pub found_past : (p : ℕ → Bool) (n top left : ℕ) (sought : Option ℕ) → top ≤ n → slice_get (passing_from p n top) left ≡ sought → sought ≡ None
found_past p n top left sought past at = let none : top - n ≡ 0 = omega (arith, past) in sym at ∙ rw none refl

-- ---- the steps, one kind after another

pub at_before : {X Y : Type 0} (f : X → Y) (xs : List X) (ys : List Y) (k : ℕ) (x : X) → slice_get xs k ≡ Some x → slice_get (map f xs ++ ys) k ≡ Some (f x)
at_before f [] ys k x there = absurd (cc (there))
at_before f (z ∷ xs) ys zero x there = ap (λ o. option_map f o) there
at_before f (z ∷ xs) ys (suc k) x there = at_before f xs ys k x there

pub at_after : {X Y : Type 0} (f : X → Y) (xs : List X) (ys : List Y) (k : ℕ) → length xs ≤ k → slice_get (map f xs ++ ys) k ≡ slice_get ys (k - length xs)
at_after f [] ys k past = let same : k - 0 ≡ k = omega arith in rw same refl
at_after f (x ∷ xs) ys zero past = absurd (omega (arith, past))
at_after f (x ∷ xs) ys (suc k) past =
    let less : suc k - suc (length xs) ≡ k - length xs = omega arith in
    rw less (at_after f xs ys k (omega (arith, past)))

pub length-after : {X Y : Type 0} (f : X → Y) (xs : List X) (ys : List Y) → length (map f xs ++ ys) ≡ length xs + length ys
length-after f xs ys = length-append (map f xs) ys ∙ ap (λ n. n + length ys) (length-map xs f)

-- the first that a filter keeps is what a search finds
pub first_kept : {X : Type 0} (p : X → Bool) (xs : List X) → slice_get (filter p xs) 0 ≡ find p xs
first_kept p [] = refl
first_kept p (x ∷ xs) = grind (arith, first_kept p xs)

-- where a search finds nothing a filter keeps nothing
pub none_kept : {X : Type 0} (p : X → Bool) (xs : List X) → find p xs ≡ None → filter p xs ≡ []
none_kept p [] none = refl
none_kept p (x ∷ xs) none = grind (arith, none_kept p xs)

-- ---- the answers that may come

pub first_is_b : (memory : FreeMemory) (id : ℕ) → first_with_b memory ≡ Some id → Some (AnswerB id) ≡ slice_get (answers_enabled memory) 0
first_is_b memory id is =
    sym (at_before AnswerB (ids_with_b memory) (map AnswerR (ids_with_r memory)) 0 id (first_kept (λ i. is_some (b_of memory i)) (range_with_len 0 16) ∙ is))

pub first_is_r : (memory : FreeMemory) → first_with_b memory ≡ None → option_map AnswerR (first_with_r memory) ≡ slice_get (answers_enabled memory) 0
first_is_r memory none =
    let no_b : ids_with_b memory ≡ [] = none_kept (λ i. is_some (b_of memory i)) (range_with_len 0 16) none in
    ap (option_map AnswerR) (sym (first_kept (λ i. is_some (r_of memory i)) (range_with_len 0 16)))
    ∙ sym (slice_get-map AnswerR (ids_with_r memory) 0)
    ∙ ap (λ (ids : List ℕ). slice_get (map AnswerB ids ++ map AnswerR (ids_with_r memory)) 0) (sym no_b)

pub answer_is_b : (memory : FreeMemory) (k id : ℕ) → slice_get (ids_with_b memory) k ≡ Some id → slice_get (answers_enabled memory) k ≡ Some (AnswerB id)
answer_is_b memory k id there = at_before AnswerB (ids_with_b memory) (map AnswerR (ids_with_r memory)) k id there

pub answer_is_r : (memory : FreeMemory) (k id : ℕ) → length (ids_with_b memory) ≤ k → slice_get (ids_with_r memory) (k - length (ids_with_b memory)) ≡ Some id
    → slice_get (answers_enabled memory) k ≡ Some (AnswerR id)
answer_is_r memory k id past there =
    at_after AnswerB (ids_with_b memory) (map AnswerR (ids_with_r memory)) k past
    ∙ slice_get-map AnswerR (ids_with_r memory) (k - length (ids_with_b memory))
    ∙ ap (option_map AnswerR) there

pub answers_counted : (memory : FreeMemory) → length (answers_enabled memory) ≡ length (ids_with_b memory) + length (ids_with_r memory)
answers_counted memory = length-after AnswerB (ids_with_b memory) (map AnswerR (ids_with_r memory)) ∙ ap (λ n. length (ids_with_b memory) + n) (length-map (ids_with_r memory) AnswerR)

-- ---- all steps

-- Pump, the beats that wait, and the answers
abbrev pub all_enabled : Bool → List (ℕ × ℕ) → List Step → List Step
all_enabled pumps waiting answers = (if pumps then Pump ∷ [] else []) ++ (map perform_at waiting ++ answers)

abbrev pub pump_count : Bool → ℕ
pump_count pumps = if pumps then 1 else 0

pub pump_most : (pumps : Bool) → pump_count pumps ≤ 1
pump_most pumps = grind arith

-- as the code counts it
pub pump_byte : (pumps : Bool) → bool_byte pumps ≡ pump_count pumps
pump_byte pumps = grind arith

pub all_counted : (pumps : Bool) (waiting : List (ℕ × ℕ)) (answers : List Step) → length (all_enabled pumps waiting answers) ≡ pump_count pumps + length waiting + length answers
all_counted true waiting answers = ap suc (length-after perform_at waiting answers) ∙ omega arith
all_counted false waiting answers = length-after perform_at waiting answers ∙ omega arith

past_pump : (pumps : Bool) (waiting : List (ℕ × ℕ)) (answers : List Step) (k : ℕ) → pump_count pumps ≤ k
    → slice_get (all_enabled pumps waiting answers) k ≡ slice_get (map perform_at waiting ++ answers) (k - pump_count pumps)
past_pump pumps waiting answers k past = grind (arith, past)

pub answer_found : (pumps : Bool) (waiting : List (ℕ × ℕ)) (answers : List Step) (k : ℕ) → pump_count pumps ≤ k → length waiting ≤ k - pump_count pumps
    → slice_get (all_enabled pumps waiting answers) k ≡ slice_get answers (k - pump_count pumps - length waiting)
answer_found pumps waiting answers k past more = past_pump pumps waiting answers k past ∙ at_after perform_at waiting answers (k - pump_count pumps) more
