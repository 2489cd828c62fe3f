-- A text that is written in parts.
use Rattle.std.proofs.Common.{◌≡◌, ◌++◌, ◌-◌, ◌∷◌, [], ◌<◌, ℕ, zero, suc, List, length, Option, Some, Result, Ok, Err, take, drop, flat_map, get_or, slice_get, take-append-drop, append_assoc, refl, sym, ap, ◌∙◌, arith, rules}
use Rattle.std.proofs.KnownBytes.{Appends-trans}
use Rattle.std.proofs.lemmas.List.{take_rest}
use Rattle.std.specs.Io.KnownBytes.{Appends}
use Rattle.std.specs.Prelude.{OnErr}
use Rattle.line_text.proofs.TraceTexts.{some_before}
use Rattle.line_text.specs.Writing.{StopsShort}

-- what stops short behind a front of a text stops short of it all
pub on_from : {T E : Type 0} (text : List ℕ) (count : ℕ) (old between new : Option (List ℕ)) (result : Result T E) → Appends old between (take count text)
    → OnErr result (StopsShort (take (length text - count) (drop count text)) between new) → OnErr result (StopsShort text old new)
on_from text count old between new (Ok done) wrote short = tt
on_from text count old between new (Err fault) wrote (front, rest, some, is, more) =
    (take count text ++ front, rest, some, sym (take-append-drop count text) ∙ ap (λ xs. take count text ++ xs) (sym (take_rest text count) ∙ is) ∙ sym (append_assoc (take count text) front rest), Appends-trans old between new (take count text) front wrote more)

-- what stops short of a text stops short of one that goes on behind it
pub short_before : (text more : List ℕ) (old new : Option (List ℕ)) → StopsShort text old new → StopsShort (text ++ more) old new
short_before text more old new (front, rest, some, is, wrote) =
    (front, rest ++ more, some_before rest more some, ap (λ xs. xs ++ more) is ∙ append_assoc front rest more, wrote)

pub short_behind : (text more : List ℕ) (old between new : Option (List ℕ)) → Appends old between text → StopsShort more between new → StopsShort (text ++ more) old new
short_behind text more old between new wrote (front, rest, some, is, further) =
    (text ++ front, rest, some, ap (λ xs. text ++ xs) is ∙ sym (append_assoc text front rest), Appends-trans old between new text front wrote further)

-- a text was written, and what follows may stop short
pub on_behind : {T E : Type 0} (text more : List ℕ) (old between new : Option (List ℕ)) (result : Result T E) → Appends old between text → OnErr result (StopsShort more between new)
    → OnErr result (StopsShort (text ++ more) old new)
on_behind text more old between new (Ok done) wrote short = tt
on_behind text more old between new (Err fault) wrote short = short_behind text more old between new wrote short

pub flat_map-parts : {X : Type 0} (f : X → List ℕ) (xs : List X) (k : ℕ) (x : X) → slice_get xs k ≡ Some x → flat_map f xs ≡ (flat_map f (take k xs) ++ f x) ++ flat_map f (drop (suc k) xs)
flat_map-parts f [] k x found = search rules
flat_map-parts f (y ∷ ys) zero x found = search rules
flat_map-parts f (y ∷ ys) (suc k) x found =
    let front = flat_map f (take k ys) in
    let rest = flat_map f (drop (suc k) ys) in
    ap (λ text. f y ++ text) (flat_map-parts f ys k x found) ∙ sym (append_assoc (f y) (front ++ f x) rest) ∙ ap (λ text. text ++ rest) (sym (append_assoc (f y) front (f x)))

-- the texts before one of a list were written, and that one stops short
pub short_at : {X : Type 0} (f : X → List ℕ) (xs : List X) (k : ℕ) (x : X) (old between new : Option (List ℕ)) → slice_get xs k ≡ Some x → Appends old between (flat_map f (take k xs)) → StopsShort (f x) between new
    → StopsShort (flat_map f xs) old new
short_at f xs k x old between new found wrote short =
    rw (flat_map-parts f xs k x found)
    (short_before (flat_map f (take k xs) ++ f x) (flat_map f (drop (suc k) xs)) old new (short_behind (flat_map f (take k xs)) (f x) old between new wrote short))

pub read_at : {X : Type 0} (xs : List X) (k : ℕ) (other : X) → k < length xs → slice_get xs k ≡ Some (get_or xs k other)
read_at [] k other within = absurd (omega (arith, within))
read_at (x ∷ xs) zero other within = refl
read_at (x ∷ xs) (suc k) other within = read_at xs k other (omega (arith, within))

-- the same where the one is read by its place
pub short_at_item : {X : Type 0} (f : X → List ℕ) (xs : List X) (k : ℕ) (other : X) (old between new : Option (List ℕ)) → k < length xs → Appends old between (flat_map f (take k xs))
    → StopsShort (f (get_or xs k other)) between new → StopsShort (flat_map f xs) old new
short_at_item f xs k other old between new within = short_at f xs k (get_or xs k other) old between new (read_at xs k other within)
