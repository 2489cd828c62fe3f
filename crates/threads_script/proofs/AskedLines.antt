-- What is known of a line that may stand: there is room for what it adds.
use Rattle.std.proofs.Common.{◌≡◌, ◌∙◌, ◌≤◌, ◌<◌, ℕ, Bool, true, false, ◌&&◌, ◌||◌, List, [], ◌∷◌, length, Option, Some, None, Ok, Result, refl, sym, ap, arith, not, rules, if◌then◌else◌}
use Rattle.std.specs.Prelude.{nat_le}
use Rattle.std.proofs.lemmas.Bool.{false≢true}
use Rattle.std.proofs.lemmas.Grind.{common_steps}
use Rattle.std.specs.Str.Parse.{digits_value}
use Rattle.tl_messages.specs.declared.ABeat.{ABeat}
use Rattle.setups.specs.Setups.{SetupLists, lists_of}
use Rattle.setups.specs.declared.Setup.{Setup}
use Rattle.line_text.specs.Fields.{Field, byte_field, first_wrong, unless_wrong}
use Rattle.line_text.specs.OfferLines.{offer_line}
use Rattle.script_text.proofs.ToldFields.{told_twice}
use Rattle.script_text.specs.Forms.{told_as}
use Rattle.script_text.specs.SetupLines.{config_line, with_config}
use Rattle.script_text.specs.SetupRules.{has_no_room}
use Rattle.script_text.specs.Stages.{is_setup_form}
use Rattle.line_text.specs.Words.{dec_at, is_dec_to, word_at}
use Rattle.script_text.specs.declared.keywords.Form.{Form}
use Rattle.script_text.specs.declared.keywords.Form.TheVariants as form
use Rattle.threads_script.specs.Asked.{AskedLists, asked_with, is_misplaced, is_thread, names_thread, thread_fields, thread_in, word_line}
use Rattle.threads_script.specs.Lists.{list_at}

-- a line that was read has its fields, and says its value
said : {X : Type 0} (value line : X) (wrong : Option ℕ) → unless_wrong value wrong ≡ Ok line → (wrong ≡ None) × (value ≡ line)
said value line None is = search rules
said value line (Some word) is = search rules

first_right : (n : ℕ) (right : Bool) (rest : Option ℕ) → (if right then rest else Some n) ≡ None → (right ≡ true) × (rest ≡ None)
first_right n true rest is = (refl, is)
first_right n false rest is = search rules

neither : (a b : Bool) → (a || b) ≡ false → b ≡ false
neither true b is = absurd (false≢true (sym is))
neither false b is = is

not_both : (a b : Bool) → (a && b) ≡ false → a ≡ true → b ≡ false
not_both true b none holds = none
not_both false b none holds = absurd (false≢true holds)

below : (most n : ℕ) → nat_le most n ≡ false → n < most
below most n is = search rules

-- a client whose beat may stand has fewer than 4,096
pub beat_room : (asked : AskedLists) (setup : Option SetupLists) (words : List (List ℕ)) (offer : ℕ × ABeat) → is_misplaced asked setup form.Offer words ≡ false → offer_line words ≡ Ok offer
    → length (list_at asked.scripts offer.0) < 4096
beat_room asked None words offer placed read = absurd (false≢true (sym placed))
beat_room asked (Some setup) words offer placed read =
    let parts = said _ offer _ read in
    let named : byte_field (word_at words 2) ≡ true = (first_right 2 (byte_field (word_at words 2)) _ parts.0).0 in
    let client : dec_at words 2 ≡ offer.0 = ap (λ o. o.0) parts.1 in
    let room = not_both (byte_field (word_at words 2)) (nat_le 4096 (length (list_at asked.scripts (dec_at words 2)))) (neither _ _ placed) named in
    rw client at (below 4096 (length (list_at asked.scripts (dec_at words 2))) room)

-- a thread that is named is one of the four, and one that isn't is the first
thread_right : (named : Bool) (field : Field) (words : List (List ℕ)) → first_wrong (if named then field ∷ [] else []) words 3 ≡ None → (not named || field (word_at words 3)) ≡ true
thread_right true field words none = (first_right 3 (field (word_at words 3)) _ none).0
thread_right false field words none = refl

to_three : (word : List ℕ) → is_dec_to 3 word ≡ true → digits_value 10 word ≤ 3
to_three word is = grind (arith, common_steps)

thread_few : (named : Bool) (word : List ℕ) → (not named || is_dec_to 3 word) ≡ true → (if named then digits_value 10 word else 0) ≤ 3
thread_few true word right = to_three word right
thread_few false word right = omega arith

pub word_read : (words : List (List ℕ)) (line : ℕ × ℕ) → word_line words ≡ Ok line → (is_thread words ≡ true) × (thread_in words ≡ line.0) × (line.0 ≤ 3)
word_read words line read =
    let parts = said _ line _ read in
    let right = thread_right (names_thread words) (is_dec_to 3) words (first_right 2 (is_dec_to 18446744073709551615 (word_at words 2)) (first_wrong (thread_fields words) words 3) parts.0).1 in
    let thread : thread_in words ≡ line.0 = ap (λ l. l.0) parts.1 in
    (right, thread, rw thread at (thread_few (names_thread words) (word_at words 3) right))

-- a thread whose word may stand has fewer than 65,536
pub word_room : (asked : AskedLists) (setup : Option SetupLists) (words : List (List ℕ)) (line : ℕ × ℕ) → is_misplaced asked setup form.Word words ≡ false → word_line words ≡ Ok line
    → length (list_at asked.words line.0) < 65536
word_room asked None words line placed read = absurd (false≢true (sym placed))
word_room asked (Some setup) words line placed read =
    let thread = word_read words line read in
    let room = not_both (is_thread words) (nat_le 65536 (length (list_at asked.words (thread_in words)))) (neither _ _ placed) thread.0 in
    rw thread.1 at (below 65536 (length (list_at asked.words (thread_in words))) room)

-- a `config` line gives a set-up alone
pub config_asked : (asked : AskedLists) (words : List (List ℕ)) (made : Result Setup ℕ) → told_as lists_of made ≡ told_as with_config (config_line byte_field words)
    → asked_with asked form.Config words ≡ told_as (λ setup. record asked { setup = Some (lists_of setup) }) made
config_asked asked words made gives =
    let set_up : SetupLists → AskedLists = λ setup. record asked { setup = Some setup } in
    sym (told_twice set_up with_config (config_line byte_field words)) ∙ ap (told_as set_up) (sym gives) ∙ told_twice set_up lists_of made

-- a set-up line that may stand has room
pub setup_room : (asked : AskedLists) (setup : SetupLists) (f : Form) (words : List (List ℕ)) → is_setup_form f ≡ true → is_misplaced asked (Some setup) f words ≡ false → has_no_room setup f words ≡ false
setup_room asked setup form.Config words is placed = neither _ _ placed
setup_room asked setup form.Region words is placed = neither _ _ placed
setup_room asked setup form.Page words is placed = neither _ _ placed
setup_room asked setup form.BadWord words is placed = neither _ _ placed
setup_room asked setup _ words is placed = absurd (false≢true is)
