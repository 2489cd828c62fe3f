-- What stands in a table after each call: at the word of the call, and at each other.
use Rattle.std.proofs.Common.{◌≡◌, ◌≢◌, ℕ, zero, suc, ◌<◌, inl, inr, Bool, true, false, List, [], ◌∷◌, None, Some, if◌then◌else◌, ◌||◌, is_none, get_or, is_some, length, map, option_map, unwrap_or, refl, ap, ap₂, sym, ◌∙◌, arith}
use Rattle.std.proofs.Math.ListN.{set}
use Rattle.std.proofs.Math.Seq.{get_or-set_other, get_or-set_same, set_out}
use Rattle.std.proofs.lemmas.Bool.Decides.{eqb_tells, leb_tells}
use Rattle.std.proofs.lemmas.List.{get_or-replicate, get_or_past}
use Rattle.std.specs.List.{list_any}
use Rattle.byte_values.specs.Words.{WordList, begun_word, changed_word}
use Rattle.byte_values.specs.declared.change.Change.TheVariants.{Resets}
use Rattle.byte_values.specs.declared.known.KnownBytes.{KnownBytes}
use Rattle.value_tables.proofs.ShelfLaws as shelf
use Rattle.value_tables.specs.Shelves.{ShelfState, all_changed_on, begun_on, changed_on, empty_shelf, first_list, list_on, released_on, standing_on}
use Rattle.value_tables.specs.Tables.{TableState, begun_at, empty_table, has_room, list_at, list_changed, lost_since, released_at, reset_at, shelf_at, shelf_of, with_shelf}

-- ---- lists of any kind

mapped_at : {X : Type 0} (f : List X → List X) (xs : List (List X)) (k : ℕ) → f [] ≡ [] → get_or (map f xs) k [] ≡ f (get_or xs k [])
mapped_at f [] k none = sym none
mapped_at f (x ∷ xs) zero none = refl
mapped_at f (x ∷ xs) (suc k) none = mapped_at f xs k none

set_same : {X : Type 0} (xs : List X) (k : ℕ) (d : X) → set xs k (get_or xs k d) ≡ xs
set_same [] k d = refl
set_same (x ∷ xs) zero d = refl
set_same (x ∷ xs) (suc k) d = ap (λ (ys : List _). x ∷ ys) (set_same xs k d)

-- ---- a shelf changes

-- the shelf of the word, where a change leaves one without places as it is
here : (change : ShelfState → ShelfState) (word : ℕ) (table : TableState) → change [] ≡ []
    → shelf_at (with_shelf change word table) word ≡ change (shelf_at table word)
here change word table none =
    elim (leb_tells (length table.shelves) (shelf_of word)) [
      | inl past ↦
          let out : shelf_at table word ≡ [] = get_or_past table.shelves (shelf_of word) [] past.1 in
          ap (λ (shelves : List ShelfState). get_or shelves (shelf_of word) []) (set_out table.shelves (shelf_of word) (change (shelf_at table word)) past.1)
          ∙ out ∙ sym none ∙ ap change (sym out)
      | inr within ↦ get_or-set_same table.shelves (shelf_of word) (change (shelf_at table word)) [] within.1
    ]

-- another shelf
elsewhere : (change : ShelfState → ShelfState) (word other : ℕ) (table : TableState) → shelf_of other ≢ shelf_of word
    → shelf_at (with_shelf change word table) other ≡ shelf_at table other
elsewhere change word other table differs =
    get_or-set_other table.shelves (shelf_of word) (shelf_of other) (change (shelf_at table word)) [] differs

-- what stands for another word, on the same shelf or on another
kept_other : (change : ShelfState → ShelfState) (word other : ℕ) (table : TableState) → change [] ≡ []
    → ((places : ShelfState) → list_on other (change places) ≡ list_on other places)
    → list_at (with_shelf change word table) other ≡ list_at table other
kept_other change word other table none keeps =
    elim (eqb_tells (shelf_of other) (shelf_of word)) [
      | inl same ↦
          ap (λ (k : ℕ). list_on other (get_or (with_shelf change word table).shelves k [])) same.1
          ∙ ap (list_on other) (here change word table none)
          ∙ keeps (shelf_at table word)
          ∙ ap (λ (k : ℕ). list_on other (get_or table.shelves k [])) (sym same.1)
      | inr apart ↦ ap (list_on other) (elsewhere change word other table apart.1)
    ]

-- ---- a new table

pub none_at : (word : ℕ) → list_at empty_table word ≡ None
none_at word =
    let within : shelf_of word < 256 = omega arith in
    ap (list_on word) (get_or-replicate 256 (shelf_of word) empty_shelf [] within)

-- ---- the list of a word changes

pub changed_here : (change : WordList → WordList) (word : ℕ) (table : TableState)
    → list_at (list_changed change word table) word ≡ option_map change (list_at table word)
changed_here change word table = ap (list_on word) (here (changed_on change word) word table refl) ∙ shelf.changed_here change word (shelf_at table word)

pub changed_other : (change : WordList → WordList) (word other : ℕ) (table : TableState) → other ≢ word
    → list_at (list_changed change word table) other ≡ list_at table other
changed_other change word other table differs = kept_other (changed_on change word) word other table refl
    (λ places. shelf.changed_other change word other places differs)

-- ---- a request begins

-- the list that stands, or the first one, with it
pub begun_here : (word number lanes : ℕ) (known : KnownBytes) (oldest : ℕ) (table : TableState) → has_room table word ≡ true
    → list_at (begun_at word number lanes known oldest table) word ≡
    Some (begun_word number lanes (unwrap_or (list_at table word) (first_list (lost_since table oldest) known)))
begun_here word number lanes known oldest table room =
    let first = first_list (lost_since table oldest) known in
    ap (list_on word) (here (begun_on first word number lanes) word table refl)
    ∙ shelf.changed_here (begun_word number lanes) word (standing_on first word (shelf_at table word))
    ∙ ap (option_map (begun_word number lanes)) (shelf.standing_here first word (shelf_at table word) room)

pub begun_other : (word other number lanes : ℕ) (known : KnownBytes) (oldest : ℕ) (table : TableState) → other ≢ word
    → list_at (begun_at word number lanes known oldest table) other ≡ list_at table other
begun_other word other number lanes known oldest table differs =
    let first = first_list (lost_since table oldest) known in
    kept_other (begun_on first word number lanes) word other table refl (λ places.
    shelf.changed_other (begun_word number lanes) word other (standing_on first word places) differs ∙ shelf.standing_other first word other places differs)

-- no place: it is lost, and nothing else changes
pub begun_full : (word number lanes : ℕ) (known : KnownBytes) (oldest : ℕ) (table : TableState) → has_room table word ≡ false
    → begun_at word number lanes known oldest table ≡ record table { lost = number }
begun_full word number lanes known oldest table full =
    let first = first_list (lost_since table oldest) known in
    let same : set table.shelves (shelf_of word) (begun_on first word number lanes (shelf_at table word)) ≡ table.shelves =
    ap (set table.shelves (shelf_of word)) (shelf.begun_full first (begun_word number lanes) word (shelf_at table word) full)
    ∙ set_same table.shelves (shelf_of word) [] in
    ap₂ (λ (shelves : List ShelfState) (room : Bool). record { shelves = shelves; lost = if room then table.lost else number }) same full

-- the list that stands has room
pub room_there : (word : ℕ) (table : TableState) (list : WordList) → list_at table word ≡ Some list → has_room table word ≡ true
room_there word table list there = ap (λ (b : Bool). b || list_any is_none (shelf_at table word))
    (shelf.stands_on word (shelf_at table word) ∙ ap is_some there)

-- ---- a list is gone

pub released_here : (word : ℕ) (table : TableState) → list_at (released_at word table) word ≡ None
released_here word table = ap (list_on word) (here (released_on word) word table refl) ∙ shelf.released_here word (shelf_at table word)

pub released_other : (word other : ℕ) (table : TableState) → other ≢ word → list_at (released_at word table) other ≡ list_at table other
released_other word other table differs = kept_other (released_on word) word other table refl (λ places. shelf.released_other word other places differs)

-- ---- a reset

pub reset_each : (now word : ℕ) (table : TableState) → list_at (reset_at now table) word ≡ option_map (changed_word (Resets now)) (list_at table word)
reset_each now word table =
    ap (list_on word) (mapped_at (all_changed_on (changed_word (Resets now))) table.shelves (shelf_of word) refl)
    ∙ shelf.all_changed (changed_word (Resets now)) word (shelf_at table word)
