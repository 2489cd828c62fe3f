-- Lines that differ in their data alone, and texts that are put among bytes.
use Rattle.std.proofs.Common.{◌≡◌, ◌≤◌, ◌==◌, ℕ, ◌+◌, ◌-◌, ◌<◌, zero, Bool, true, false, List, [], ◌∷◌, ◌++◌, Option, Some, slice_get, ◌/◌, ◌%◌, get_or, drop, flat_map, suc, length, length-append, length-take-le, take, take_all, append_assoc, refl, sym, ap, ap₂, ◌∙◌, arith, subst, rules}
use Rattle.std.proofs.lemmas.Bool.{and_parts}
use Rattle.std.proofs.lemmas.Bool.Decides.{nat_tests}
use Rattle.std.proofs.lemmas.List.{take-append-le, take-take}
use Rattle.std.specs.Bool.{beq}
use Rattle.std.specs.Io.KnownBytes.{Appends}
use Rattle.std.specs.Fmt.{digit_glyph}
use Rattle.std.specs.List.{list_all}
use Rattle.bus_words.proofs.MappedPlaces.{flat_map-take}
use Rattle.bus_words.specs.Text.{flag, hex}
use Rattle.tl_messages.specs.Lines.{d_text}
use Rattle.tl_messages.specs.declared.DBeat.{DBeat}
use Rattle.line_text.proofs.HexLaws.{last_digits-alone}
use Rattle.line_text.proofs.Writings.{flat_map-parts, read_at, short_before, short_behind}
use Rattle.line_text.specs.Traces.{d_front, is_alike}
use Rattle.line_text.specs.Writing.{StopsShort}

take-front : (xs ys : List ℕ) → take (length xs) (xs ++ ys) ≡ xs
take-front xs ys = take-append-le (length xs) xs ys (omega arith) ∙ take_all (length xs) xs (omega arith)

d_front-append : (client : ℕ) (beat : DBeat) (rest : List ℕ) → d_front client beat rest ≡ d_front client beat [] ++ rest
d_front-append client beat rest = simp append_assoc

-- the bytes of a line in front of its line feed
pub front_bytes : (client : ℕ) (beat : DBeat) (line part rest : List ℕ) → line ≡ d_front client beat (10 ∷ []) → part ≡ take (length line - 1) line → take (length line - 1) (part ++ rest) ≡ d_front client beat []
front_bytes client beat line part rest is front =
    let text = d_front client beat [] in
    let whole : line ≡ text ++ 10 ∷ [] = is ∙ d_front-append client beat (10 ∷ []) in
    let count : length line - 1 ≡ length text = omega (arith, ap length whole, length-append text (10 ∷ [])) in
    let same : part ≡ text = front ∙ ap (λ n. take n line) count ∙ ap (take (length text)) whole ∙ take-front text (10 ∷ []) in
    ap (λ n. take n (part ++ rest)) count ∙ ap (λ bytes. take (length text) (bytes ++ rest)) same ∙ take-front text rest

same_flag : (a b : Bool) → beq a b ≡ true → a ≡ b
same_flag true true same = refl
same_flag false false same = refl
same_flag true false same = search rules
same_flag false true same = search rules

-- the line of a beat that is alike
pub line_alike : (client : ℕ) (first beat : DBeat) → is_alike first beat ≡ true → d_text client beat ≡ d_front client first [] ++ (hex 16 beat.payload ++ (32 ∷ (flag beat.corrupt ++ 10 ∷ [])))
line_alike client first beat alike =
    let rest = hex 16 beat.payload ++ (32 ∷ (flag beat.corrupt ++ 10 ∷ [])) in
    let four = and_parts _ (beq first.denied beat.denied) alike in
    let three = and_parts _ (first.source == beat.source) four.0 in
    let two = and_parts _ (first.size == beat.size) three.0 in
    let one = and_parts (first.opcode == beat.opcode) (first.param == beat.param) two.0 in
    let opcode : first.opcode ≡ beat.opcode = grind (arith, nat_tests, one.0) in
    let param : first.param ≡ beat.param = grind (arith, nat_tests, one.1) in
    let size : first.size ≡ beat.size = grind (arith, nat_tests, two.1) in
    let source : first.source ≡ beat.source = grind (arith, nat_tests, three.1) in
    let same : d_front client first rest ≡ d_front client beat rest = rw (opcode, param, size, source, same_flag first.denied beat.denied four.1) refl in
    sym same ∙ d_front-append client first rest

take-past : (xs ys : List ℕ) (n : ℕ) → take (length xs + n) (xs ++ ys) ≡ xs ++ take n ys
take-past [] ys n = ap (λ k. take k ys) (omega arith)
take-past (x ∷ xs) ys n = let less : suc (length xs) + n ≡ suc (length xs + n) = omega arith in rw less (ap (λ rest. x ∷ rest) (take-past xs ys n))

-- a front, digits and an end, put one behind the other among bytes
pub put_behind : (old first second third front digits last : List ℕ) (at n m k : ℕ) → at ≤ length old → n ≤ length front → take (at + length front) first ≡ take at old ++ front
    → take (at + n + m) second ≡ take (at + n) first ++ digits → take (at + n + m + k) third ≡ take (at + n + m) second ++ last → take (at + n + m + k) third ≡ take at old ++ (take n front ++ (digits ++ last))
put_behind old first second third front digits last at n m k within few one two three =
    let long : length (take at old) ≡ at = length-take-le at old within in
    let cut : take (at + n) first ≡ take at old ++ take n front =
    sym (take-take (at + n) (at + length front) first (omega arith)) ∙ ap (take (at + n)) one ∙ ap (λ j. take (j + n) (take at old ++ front)) (sym long) ∙ take-past (take at old) front n in
    three ∙ ap (λ text. text ++ last) two ∙ ap (λ text. (text ++ digits) ++ last) cut ∙ simp append_assoc

-- ---- the lines of the beats so far

all_at : {X : Type 0} (p : X → Bool) (xs : List X) (k : ℕ) (other : X) → list_all p xs ≡ true → k < length xs → p (get_or xs k other) ≡ true
all_at p [] k other all within = absurd (omega (arith, within))
all_at p (x ∷ xs) zero other all within = (and_parts (p x) (list_all p xs) all).0
all_at p (x ∷ xs) (suc k) other all within = all_at p xs k other (and_parts (p x) (list_all p xs) all).1 (omega (arith, within))

-- one line more, behind a text that was written and lines that weren't
pub one_more : (client : ℕ) (first : DBeat) (beats : List DBeat) (k : ℕ) (other : DBeat) (front text lines new : List ℕ) → list_all (is_alike first) beats ≡ true → k < length beats → front ≡ d_front client first []
    → new ≡ lines ++ (front ++ (hex 16 (get_or beats k other).payload ++ (32 ∷ (flag (get_or beats k other).corrupt ++ 10 ∷ [])))) → flat_map (d_text client) (take k beats) ≡ text ++ lines
    → flat_map (d_text client) (take (k + 1) beats) ≡ text ++ new
one_more client first beats k other front text lines new all within is behind far =
    let beat = get_or beats k other in
    let end = hex 16 beat.payload ++ (32 ∷ (flag beat.corrupt ++ 10 ∷ [])) in
    let line : d_text client beat ≡ front ++ end = line_alike client first beat (all_at (is_alike first) beats k other all within) ∙ ap (λ f. f ++ end) (sym is) in
    flat_map-take (d_text client) beats k beat (read_at beats k other within) ∙ ap₂ (λ a b. a ++ b) far line ∙ append_assoc text lines (front ++ end) ∙ ap (λ t. text ++ t) (sym behind)

-- those lines weren't all written
pub short_of_lines : {X : Type 0} (f : X → List ℕ) (xs : List X) (k : ℕ) (x : X) (text lines : List ℕ) (old between new : Option (List ℕ)) → slice_get xs k ≡ Some x → flat_map f (take k xs) ≡ text ++ lines → Appends old between text
    → StopsShort lines between new → StopsShort (flat_map f xs) old new
short_of_lines f xs k x text lines old between new found far wrote short =
    let front = flat_map f (take k xs) in
    rw (flat_map-parts f xs k x found)
    (short_before (front ++ f x) (flat_map f (drop (suc k) xs)) old new (short_before front (f x) old new (subst (λ t. StopsShort t old new) (sym far) (short_behind text lines old between new wrote short))))

-- the two digits of a byte
pub hex-pair : (byte first second : ℕ) → byte < 256 → first ≡ digit_glyph false (byte / 16) → second ≡ digit_glyph false (byte % 16) → first ∷ second ∷ [] ≡ hex 2 byte
hex-pair byte first second small one two = grind (arith, small, one, two, last_digits-alone 2 byte (omega arith) (omega arith) small)
