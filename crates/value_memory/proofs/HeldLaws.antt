-- What is held of a byte, where the list of its word stands or none does.
use Rattle.std.proofs.Common.{◌≡◌, ℕ, ◌+◌, ◌/◌, ◌%◌, ◌<◌, ◌==◌, Bool, true, false, not, ◌&&◌, List, [], ◌∷◌, Option, Some, None, if◌then◌else◌, length, nat_le, nat_lt, option_map, refl, sym, ◌∙◌, ap, arith}
use Rattle.std.specs.Prelude.{filter}
use Rattle.std.proofs.lemmas.Bool.{and_right, eqb-true}
use Rattle.bus_words.specs.Lanes.{has_lane, lane_byte, word_address}
use Rattle.byte_orders.specs.Holdings.{Holding, beginning, crowd, is_open_of, with_change, without}
use Rattle.byte_values.specs.Words.{WordList, changed_in, changed_word, crowd_of, gives_lanes, known_byte, lane_list, lanes_without, lost_word, settled_bytes}
use Rattle.byte_values.specs.declared.change.Change.{Change}
use Rattle.byte_values.specs.declared.change.Change.TheVariants.{Gives, Sure, Fails, Ends, Resets}
use Rattle.byte_values.specs.declared.known.KnownBytes.{KnownBytes}
use Rattle.byte_values.proofs.LaneSets.{has_lane-not}
use Rattle.byte_values.proofs.WordLaws.{lane_alone, lane_changed, lane_lost, lane_new}
use Rattle.sparse_memory.specs.SparseMemory.{bytes_in, doubts_in, flags_in}
use Rattle.sparse_memory.proofs.StateLaws.{lane-flags_in, lane-word_in}
use Rattle.bus_words.proofs.MaskLaws.{mask_of-lt}
use Rattle.value_tables.specs.Shelves.{first_list}
use Rattle.value_tables.specs.Tables.{list_at, lost_since}
use Rattle.value_memory.specs.InsideValues.{IsOfOne, settled_in}
use Rattle.value_memory.specs.ValueMemory.{ValueState, held_by, held_in, settled_holding}

pub held-listed : (m : ValueState) (x : ℕ) (list : WordList) → list_at m.table (x / 8) ≡ Some list → held_in m x ≡ lane_list (x % 8) list
unfolding held_in
held-listed m x list is = ap (held_by m x) is

pub held-unlisted : (m : ValueState) (x : ℕ) → list_at m.table (x / 8) ≡ None
    → held_in m x ≡ settled_holding (lost_since m.table m.oldest) (doubts_in m.settled x) (bytes_in m.settled x) ∷ []
unfolding held_in
held-unlisted m x is = ap (held_by m x) is

-- two states that say the same of a byte's word, and of the byte
pub record IsSameAt (old new : ValueState) (x : ℕ) : Type 0 where
  pub list : list_at new.table (x / 8) ≡ list_at old.table (x / 8)
  pub lost : lost_since new.table new.oldest ≡ lost_since old.table old.oldest
  pub doubt : doubts_in new.settled x ≡ doubts_in old.settled x
  pub byte : bytes_in new.settled x ≡ bytes_in old.settled x

pub held-same : (old new : ValueState) (x : ℕ) → IsSameAt old new x → held_in new x ≡ held_in old x
unfolding held_in
held-same old new x same = ap (held_by new x) same.list ∙ by_list (list_at old.table (x / 8))
  where
    by_list : (o : Option WordList) → held_by new x o ≡ held_by old x o
    by_list (Some list) = refl
    by_list None =
        ap (λ l. settled_holding l (doubts_in new.settled x) (bytes_in new.settled x) ∷ []) same.lost
        ∙ ap (λ d. settled_holding (lost_since old.table old.oldest) d (bytes_in new.settled x) ∷ []) same.doubt
        ∙ ap (λ b. settled_holding (lost_since old.table old.oldest) (doubts_in old.settled x) b ∷ []) same.byte

pub lost-same : (m new : ValueState) → new.table.lost ≡ m.table.lost → new.oldest ≡ m.oldest → lost_since new.table new.oldest ≡ lost_since m.table m.oldest
lost-same m new lost oldest =
    ap (λ n. if nat_lt 0 n && nat_le new.oldest n then Some n else None) lost ∙ ap (λ o. if nat_lt 0 m.table.lost && nat_le o m.table.lost then Some m.table.lost else None) oldest

-- ---- a word without a list, as the list with which its own would begin

below_eight : (x : ℕ) → x % 8 < 8
below_eight x = omega arith

own_lane : (address x : ℕ) → x / 8 ≡ address / 8 → word_address address + x % 8 ≡ x
own_lane address x same = omega (arith, same)

pub known-settled : (m : ValueState) (address x : ℕ) → x / 8 ≡ address / 8 → has_lane (settled_in m address).lanes (x % 8) ≡ not (doubts_in m.settled x)
unfolding settled_in flags_in
known-settled m address x same =
    has_lane-not (flags_in (doubts_in m.settled) address) (x % 8) (mask_of-lt (λ lane. doubts_in m.settled (word_address address + lane))) (below_eight x)
    ∙ ap not (lane-flags_in (doubts_in m.settled) address (x % 8) (below_eight x) ∙ ap (doubts_in m.settled) (own_lane address x same))

pub byte-settled : (m : ValueState) (address x : ℕ) → x / 8 ≡ address / 8 → lane_byte (settled_in m address).value (x % 8) ≡ bytes_in m.settled x
unfolding settled_in
byte-settled m address x same = lane-word_in m.settled address (x % 8) (below_eight x) ∙ ap (bytes_in m.settled) (own_lane address x same)

pub lane-first : (m : ValueState) (address x : ℕ) (lost : Option ℕ) → x / 8 ≡ address / 8
    → lane_list (x % 8) (first_list lost (settled_in m address)) ≡ settled_holding lost (doubts_in m.settled x) (bytes_in m.settled x) ∷ []
lane-first m address x lost same = by_lost lost
  where
    known : KnownBytes
    known = settled_in m address

    value : known_byte (x % 8) (settled_in m address) ≡ (if not (doubts_in m.settled x) then Some (bytes_in m.settled x) else None)
    value =
        ap (λ b. if b then Some (lane_byte (settled_in m address).value (x % 8)) else None) (known-settled m address x same)
        ∙ ap (λ n. if not (doubts_in m.settled x) then Some n else None) (byte-settled m address x same)

    as_new : (doubt : Bool) (byte : ℕ) → beginning (if not doubt then Some byte else None) ∷ [] ≡ settled_holding None doubt byte ∷ []
    as_new true byte = refl
    as_new false byte = refl

    as_lost : (number : ℕ) (doubt : Bool) (byte : ℕ) → (if not doubt then beginning (if not doubt then Some byte else None) else crowd number) ∷ [] ≡ settled_holding (Some number) doubt byte ∷ []
    as_lost number true byte = refl
    as_lost number false byte = refl

    by_lost : (o : Option ℕ) → lane_list (x % 8) (first_list o (settled_in m address)) ≡ settled_holding o (doubts_in m.settled x) (bytes_in m.settled x) ∷ []
    by_lost None = lane_new (x % 8) (below_eight x) (settled_in m address) ∙ ap (λ v. beginning v ∷ []) value ∙ as_new (doubts_in m.settled x) (bytes_in m.settled x)
    by_lost (Some number) =
        lane_lost (x % 8) (below_eight x) (settled_in m address) number
        ∙ ap (λ v. (if has_lane (settled_in m address).lanes (x % 8) then beginning v else crowd number) ∷ []) value
        ∙ ap (λ b. (if b then beginning (if not (doubts_in m.settled x) then Some (bytes_in m.settled x) else None) else crowd number) ∷ []) (known-settled m address x same)
        ∙ as_lost number (doubts_in m.settled x) (bytes_in m.settled x)

-- such a list has room
pub first-roomy : (lost : Option ℕ) (known : KnownBytes) → nat_lt (length (first_list lost known).held) 12 ≡ true
first-roomy None known = refl
first-roomy (Some number) known = by_test (gives_lanes (crowd_of number (lanes_without 255 known.lanes))) refl
  where
    by_test : (b : Bool) → gives_lanes (crowd_of number (lanes_without 255 known.lanes)) ≡ b → nat_lt (length (lost_word known number).held) 12 ≡ true
    by_test true is = rw is refl
    by_test false is = rw is refl

no_items : {X : Type 0} (xs : List X) → length xs ≡ 0 → xs ≡ []
no_items [] none = refl
no_items (x ∷ xs) none = absurd (omega (arith, none))

-- a word that has settled, by its list
pub lane-settled : (list : WordList) (known : KnownBytes) (x : ℕ) → settled_bytes list ≡ Some known → lane_list (x % 8) list ≡ beginning (known_byte (x % 8) known) ∷ []
lane-settled list known x is = by_tests (length list.held == 0) (list.settled.lanes == 255) refl refl is
  where
    by_tests : (empty every : Bool) → (length list.held == 0) ≡ empty → (list.settled.lanes == 255) ≡ every
        → (if empty && every then Some (record { value = list.settled.value; lanes = list.settled.known }) else None) ≡ Some known
        → lane_list (x % 8) list ≡ beginning (known_byte (x % 8) known) ∷ []
    by_tests false every none all found = let never : None ≡ Some known = found in absurd (cc)
    by_tests true false none all found = let never : None ≡ Some known = found in absurd (cc)
    by_tests true true none all found =
        let same : record { value = list.settled.value; lanes = list.settled.known } ≡ known = by_some found in
        let bare : list.held ≡ [] = no_items list.held (eqb-true (length list.held) 0 none) in
        ap (λ hs. lane_list (x % 8) (record { settled = list.settled; held = hs })) bare
        ∙ lane_alone (x % 8) (below_eight x) list.settled (eqb-true list.settled.lanes 255 all)
        ∙ ap (λ k. beginning (known_byte (x % 8) k) ∷ []) same
      where
        by_some : Some (record { value = list.settled.value; lanes = list.settled.known }) ≡ Some known → record { value = list.settled.value; lanes = list.settled.known } ≡ known
        by_some both = cc

-- ---- a list changes

not_open : (number : ℕ) (lost : Option ℕ) (doubt : Bool) (byte : ℕ) → is_open_of number (settled_holding lost doubt byte) ≡ false
not_open number lost false byte = and_right (not false && 0 == number) false refl
not_open number None true byte = and_right (not false && 0 == number) false refl
not_open number (Some n) true byte = refl

with_change-settled : (number : ℕ) (change : Holding → Holding) (lost : Option ℕ) (doubt : Bool) (byte : ℕ)
    → with_change number change (settled_holding lost doubt byte ∷ []) ≡ settled_holding lost doubt byte ∷ []
with_change-settled number change lost doubt byte =
    ap (λ b. (if b then change (settled_holding lost doubt byte) else settled_holding lost doubt byte) ∷ []) (not_open number lost doubt byte)

without-settled : (number : ℕ) (lost : Option ℕ) (doubt : Bool) (byte : ℕ) → without number (settled_holding lost doubt byte ∷ []) ≡ settled_holding lost doubt byte ∷ []
without-settled number lost doubt byte =
    ap (λ b. filter (λ (h : Holding). not b) (settled_holding lost doubt byte ∷ [])) (not_open number lost doubt byte)

settled-stays : (lane : ℕ) (change : Change) (lost : Option ℕ) (doubt : Bool) (byte : ℕ) → IsOfOne change
    → changed_in lane change (settled_holding lost doubt byte ∷ []) ≡ settled_holding lost doubt byte ∷ []
settled-stays lane (Gives number lanes known) lost doubt byte one = by_has (has_lane lanes lane)
  where
    by_has : (b : Bool) → (if b then with_change number (λ h. record h { value = known_byte lane known }) (settled_holding lost doubt byte ∷ []) else without number (settled_holding lost doubt byte ∷ []))
        ≡ settled_holding lost doubt byte ∷ []
    by_has true = with_change-settled number (λ h. record h { value = known_byte lane known }) lost doubt byte
    by_has false = without-settled number lost doubt byte
settled-stays lane (Sure number) lost doubt byte one = with_change-settled number (λ h. record h { sure = true }) lost doubt byte
settled-stays lane (Fails number) lost doubt byte one = with_change-settled number (λ h. record h { value = None; sure = false }) lost doubt byte
settled-stays lane (Ends number now) lost doubt byte one = with_change-settled number (λ h. record h { over = Some now }) lost doubt byte
settled-stays lane (Resets now) lost doubt byte one = absurd one

-- what becomes of a byte of the word
pub held-changed : (m new : ValueState) (change : Change) (x : ℕ) → IsOfOne change → list_at new.table (x / 8) ≡ option_map (changed_word change) (list_at m.table (x / 8))
    → new.table.lost ≡ m.table.lost → new.oldest ≡ m.oldest → new.settled ≡ m.settled → held_in new x ≡ changed_in (x % 8) change (held_in m x)
held-changed m new change x one is lost oldest settled = by_list (list_at m.table (x / 8)) refl
  where
    by_list : (o : Option WordList) → list_at m.table (x / 8) ≡ o → held_in new x ≡ changed_in (x % 8) change (held_in m x)
    by_list (Some list) there =
        held-listed new x (changed_word change list) (is ∙ ap (option_map (changed_word change)) there)
        ∙ lane_changed (x % 8) (below_eight x) change list
        ∙ ap (changed_in (x % 8) change) (sym (held-listed m x list there))
    by_list None there =
        let same : held_in new x ≡ held_in m x =
        held-same m new x (record {
          list = is ∙ ap (option_map (changed_word change)) there ∙ sym there;
          lost = lost-same m new lost oldest;
          doubt = ap (λ s. doubts_in s x) settled;
          byte = ap (λ s. bytes_in s x) settled;
        })
        in
        let as_was = held-unlisted m x there in
        same ∙ as_was
        ∙ sym (settled-stays (x % 8) change (lost_since m.table m.oldest) (doubts_in m.settled x) (bytes_in m.settled x) one)
        ∙ ap (changed_in (x % 8) change) (sym as_was)
