-- What each call is to the runs of each byte.
use Rattle.std.proofs.Common.{◌≡◌, ◌≢◌, ℕ, ◌+◌, ◌-◌, ◌*◌, ◌/◌, ◌%◌, ◌^◌, ◌<◌, ◌≤◌, ◌==◌, Bool, true, false, not, ◌&&◌, List, [], ◌∷◌, Option, Some, None, if◌then◌else◌, eqb, is_some, nat_le, nat_lt, option_map, ◌||◌, Result, Ok, Err, refl, sym, ◌∙◌, ◌⊎◌, inl, inr, ap, subst, arith}
use Rattle.std.specs.Option.{option_flatten}
use Rattle.std.specs.Prelude.{OnErr, OnOk}
use Rattle.std.proofs.lemmas.Bool.{eq-eqb, eqb-true}
use Rattle.std.proofs.lemmas.Bool.Decides.{eqb_tells, nat_tests}
use Rattle.bus_words.specs.Lanes.{has_lane, lane_byte, word_address}
use Rattle.byte_orders.specs.Holdings.{Holding, beginning, crowd, pruned_at as pruned_holdings, with_ended, with_failed, with_reset, with_settled, with_begun, with_sure, with_value, without}
use Rattle.byte_orders.specs.Runs.{Ends, Event, Fails, Gives, LeavesOut, Resets, TakesEffect, Writes}
use Rattle.byte_values.specs.Words.{WordList, changed_in, changed_word, known_byte, lane_list, pruned_word, settled_bytes}
use Rattle.byte_values.specs.declared.change.Change.{Change}
use Rattle.byte_values.specs.declared.change.Change.TheVariants as change
use Rattle.byte_values.specs.declared.known.KnownBytes.{KnownBytes}
use Rattle.byte_values.proofs.LaneSets.{has_lane-every, has_lane-not}
use Rattle.byte_values.proofs.WordLaws.{lane_changed, lane_pruned}
use Rattle.sparse_memory.specs.SparseMemory.{SparseState, bytes_in, doubts_in, faults_in, has_room, is_strobed, put_flags, put_word}
use Rattle.value_tables.specs.Tables.{TableState, begun_at, changed_at, has_room as has_room_at, list_at, list_changed, lost_since, pruned_at, reset_at, settled_at}
use Rattle.value_tables.proofs.TableLaws.{begun_other, changed_here, changed_other, reset_each}
use Rattle.value_memory.specs.ByteEvents.{ByteState, Goes}
use Rattle.value_memory.specs.InsideValues.{IsCrowd, IsOfOne, IsPlaced, IsSoundMemory, KeepsRest, begun_table, held_changed, is_given_up, settled_in, shares_first, with_table}
use Rattle.value_memory.specs.ValueMemory.{AllGo, KeepsCounts, KeepsPages, ValueState, byte_in, given_to, gives_at, held_by, held_in, lane_held, pages_of, rooms_in, settled_holding, shares_word, to_all, to_words}
use Rattle.value_memory.specs.declared.ByteRange.{ByteRange}
use Rattle.value_memory.proofs.Going.{IsQuiet, goes_after, goes_begun, goes_changed, goes_nowhere, goes_older, goes_past_crowd, goes_reset, goes_reset_crowd, goes_tidied}
use Rattle.value_memory.proofs.HeldLaws.{held-changed, held-listed, held-same, held-unlisted, lane-settled, lost-same}

below_eight : (x : ℕ) → x % 8 < 8
below_eight x = omega arith

-- a state of its parts
abbrev pub state_of : TableState → SparseState → ℕ → ℕ → ℕ → ValueState
state_of table settled begun oldest crowds = record { table = table; settled = settled; begun = begun; oldest = oldest; crowds = crowds }

-- ---- one call after another

pub keeps_none : (m : ValueState) → KeepsRest m m
keeps_none m = record { pages = record { pages = refl; rooms = λ page. refl }; counts = record { begun = refl; oldest = refl; crowds = refl } }

pub keeps_then : {old between new : ValueState} → KeepsRest old between → KeepsRest between new → KeepsRest old new
keeps_then first next =
    record {
      pages = record { pages = next.pages.pages ∙ first.pages.pages; rooms = λ page. next.pages.rooms page ∙ first.pages.rooms page };
      counts = record { begun = next.counts.begun ∙ first.counts.begun; oldest = next.counts.oldest ∙ first.counts.oldest; crowds = next.counts.crowds ∙ first.counts.crowds };
    }

-- lists are kept short once more
pub tidied_more : (old between new : ValueState) → AllGo old.oldest false old between (to_all []) × KeepsRest old between → AllGo between.oldest false between new (to_all [])
    → KeepsRest between new → AllGo old.oldest false old new (to_all []) × KeepsRest old new
tidied_more old between new so_far goes rest =
    let P : ℕ → Type 0 = λ oldest. AllGo oldest false between new (to_all []) in
    (λ x. goes_after old.oldest false (byte_in old x) (byte_in between x) (byte_in new x) [] (so_far.0 x) (subst P so_far.1.counts.oldest goes x), keeps_then so_far.1 rest)

pub all_nowhere : (oldest : ℕ) (crowded : Bool) (m : ValueState) → AllGo oldest crowded m m (to_all [])
all_nowhere oldest crowded m x = goes_nowhere oldest crowded (byte_in m x)

-- where nothing has changed of any byte
pub all_held : (oldest : ℕ) (old new : ValueState) → KeepsCounts old new → ((x : ℕ) → held_in new x ≡ held_in old x) → AllGo oldest false old new (to_all [])
all_held oldest old new counts same x = goes_older oldest (byte_in old x) (byte_in new x) (same x) counts.begun (omega (arith, counts.oldest))

pub all_after : (oldest : ℕ) (crowded : Bool) (old between new : ValueState) (events : ℕ → List Event) → AllGo oldest false old between (to_all [])
    → AllGo oldest crowded between new events → AllGo oldest crowded old new events
all_after oldest crowded old between new events first next x = goes_after oldest crowded (byte_in old x) (byte_in between x) (byte_in new x) (events x) (first x) (next x)

abbrev as_state : ℕ → ℕ → List Holding → ByteState
as_state now oldest held = record { now = now; oldest = oldest; held = held }

-- a byte as its runs see it, where only its list has changed
byte_with : (old new : ValueState) (x : ℕ) (hs : List Holding) → KeepsCounts old new → held_in new x ≡ hs → byte_in new x ≡ record (byte_in old x) { held = hs }
byte_with old new x hs counts is =
    ap (λ n. as_state n new.oldest (held_in new x)) counts.begun ∙ ap (λ n. as_state old.begun n (held_in new x)) counts.oldest ∙ ap (λ h. as_state old.begun old.oldest h) is

-- ---- what becomes of a request

pub given_goes : (oldest : ℕ) (old new : ByteState) (number lanes : ℕ) (known : KnownBytes) (lane : ℕ)
    → new ≡ record old { held = changed_in lane (change.Gives number lanes known) old.held } → Goes oldest false old new (given_to number lanes known lane)
given_goes oldest old new number lanes known lane is = by_has (has_lane lanes lane) refl
  where
    by_has : (b : Bool) → has_lane lanes lane ≡ b → Goes oldest false old new (if b then Gives number (known_byte lane known) ∷ [] else LeavesOut number ∷ [])
    by_has true has =
        goes_changed oldest (Gives number (known_byte lane known)) (λ now hs. with_value number (known_byte lane known) hs) old new (λ run. tt) (λ run. record { now = refl; oldest = refl })
        (λ run. refl)
        (is ∙ ap (λ b. record old { held = if b then with_value number (known_byte lane known) old.held else without number old.held }) has)
    by_has false has =
        goes_changed oldest (LeavesOut number) (λ now hs. without number hs) old new (λ run. tt) (λ run. record { now = refl; oldest = refl }) (λ run. refl)
        (is ∙ ap (λ b. record old { held = if b then with_value number (known_byte lane known) old.held else without number old.held }) has)

-- the list of a word changes
pub held-at_word : (m new : ValueState) (word : ℕ) (change : Change) → IsOfOne change → new ≡ with_table m (changed_at word change m.table) → (x : ℕ)
    → held_in new x ≡ held_changed change (x / 8 == word) x (held_in m x)
held-at_word m new word change one is x = by_word (eqb_tells (x / 8) word)
  where
    after : ValueState
    after = with_table m (changed_at word change m.table)

    same_state : held_in new x ≡ held_in (with_table m (changed_at word change m.table)) x
    same_state = ap (λ s. held_in s x) is

    by_word : ((eqb (x / 8) word ≡ true) × (x / 8 ≡ word)) ⊎ ((eqb (x / 8) word ≡ false) × (x / 8 ≢ word)) → held_in new x ≡ held_changed change (x / 8 == word) x (held_in m x)
    by_word (inl (test, same)) =
        same_state
        ∙ held-changed m (with_table m (changed_at word change m.table)) change x one
        (ap (list_at (changed_at word change m.table)) same ∙ changed_here (changed_word change) word m.table ∙ ap (λ w. option_map (changed_word change) (list_at m.table w)) (sym same))
        refl refl refl
        ∙ ap (λ b. held_changed change b x (held_in m x)) (sym test)
    by_word (inr (test, differs)) =
        same_state
        ∙ held-same m (with_table m (changed_at word change m.table)) x
        (record { list = changed_other (changed_word change) word (x / 8) m.table differs; lost = refl; doubt = refl; byte = refl })
        ∙ ap (λ b. held_changed change b x (held_in m x)) (sym test)

pub gives_go : (m new : ValueState) (number address lanes : ℕ) (known : KnownBytes) → KeepsCounts m new
    → ((x : ℕ) → held_in new x ≡ held_changed (change.Gives number lanes known) (x / 8 == address / 8) x (held_in m x))
    → AllGo m.oldest false m new (gives_at number address lanes known)
gives_go m new number address lanes known counts held x = by_test (x / 8 == address / 8) refl
  where
    is : (b : Bool) → (x / 8 == address / 8) ≡ b → held_in new x ≡ held_changed (change.Gives number lanes known) b x (held_in m x)
    is b test = held x ∙ ap (λ t. held_changed (change.Gives number lanes known) t x (held_in m x)) test

    by_test : (b : Bool) → (x / 8 == address / 8) ≡ b → Goes m.oldest false (byte_in m x) (byte_in new x) (if b then given_to number lanes known (x % 8) else [])
    by_test true test = given_goes m.oldest (byte_in m x) (byte_in new x) number lanes known (x % 8) (byte_with m new x _ counts (is true test))
    by_test false test = goes_older m.oldest (byte_in m x) (byte_in new x) (is false test) counts.begun (omega (arith, counts.oldest))

-- one more word of a range
pub changed_more : (range : ByteRange) (place word : ℕ) (change : Change) (old m new : ValueState) → word ≡ range.address / 8 + place
    → ((x : ℕ) → held_in m x ≡ held_changed change (shares_first range place x) x (held_in old x))
    → ((x : ℕ) → held_in new x ≡ held_changed change (x / 8 == word) x (held_in m x))
    → (x : ℕ) → held_in new x ≡ held_changed change (shares_first range (place + 1) x) x (held_in old x)
changed_more range place word change old m new at before step x = by_word (eqb_tells (x / 8) word)
  where
    by_word : ((eqb (x / 8) word ≡ true) × (x / 8 ≡ word)) ⊎ ((eqb (x / 8) word ≡ false) × (x / 8 ≢ word))
        → held_in new x ≡ held_changed change (shares_first range (place + 1) x) x (held_in old x)
    by_word (inl (test, same)) =
        let behind : shares_first range place x ≡ false = grind (arith, nat_tests, same, at) in
        let one : shares_first range (place + 1) x ≡ true = grind (arith, nat_tests, same, at) in
        step x
        ∙ ap (λ b. held_changed change b x (held_in m x)) test
        ∙ ap (changed_in (x % 8) change) (before x ∙ ap (λ b. held_changed change b x (held_in old x)) behind)
        ∙ ap (λ b. held_changed change b x (held_in old x)) (sym one)
    by_word (inr (test, differs)) =
        let level : shares_first range (place + 1) x ≡ shares_first range place x = grind (arith, nat_tests, differs, at) in
        step x ∙ ap (λ b. held_changed change b x (held_in m x)) test ∙ before x ∙ ap (λ b. held_changed change b x (held_in old x)) (sym level)

pub changed_none : (range : ByteRange) (change : Change) (m : ValueState) (x : ℕ) → held_in m x ≡ held_changed change (shares_first range 0 x) x (held_in m x)
changed_none range change m x =
    let none : shares_first range 0 x ≡ false = grind (arith, nat_tests) in
    ap (λ b. held_changed change b x (held_in m x)) (sym none)

-- one event to each byte of some words
words_go : (m new : ValueState) (range : ByteRange) (change : Change) (event : Event) → KeepsCounts m new
    → ((x : ℕ) → held_in new x ≡ held_changed change (shares_word range x) x (held_in m x))
    → ((x : ℕ) (after : ByteState) → after ≡ record (byte_in m x) { held = changed_in (x % 8) change (held_in m x) } → Goes m.oldest false (byte_in m x) after (event ∷ []))
    → AllGo m.oldest false m new (to_words range event)
words_go m new range change event counts held own x = by_test (shares_word range x) refl
  where
    by_test : (b : Bool) → shares_word range x ≡ b → Goes m.oldest false (byte_in m x) (byte_in new x) (if b then event ∷ [] else [])
    by_test true test = own x (byte_in new x) (byte_with m new x _ counts (held x ∙ ap (λ t. held_changed change t x (held_in m x)) test))
    by_test false test =
        goes_older m.oldest (byte_in m x) (byte_in new x) (held x ∙ ap (λ t. held_changed change t x (held_in m x)) test) counts.begun (omega (arith, counts.oldest))

pub sure_go : (m new : ValueState) (range : ByteRange) (number : ℕ) → KeepsCounts m new → ((x : ℕ) → held_in new x ≡ held_changed (change.Sure number) (shares_word range x) x (held_in m x))
    → AllGo m.oldest false m new (to_words range (TakesEffect number))
sure_go m new range number counts held =
    words_go m new range (change.Sure number) (TakesEffect number) counts held
    (λ x after is. goes_changed m.oldest (TakesEffect number) (λ now hs. with_sure number hs) (byte_in m x) after (λ run. tt) (λ run. record { now = refl; oldest = refl }) (λ run. refl) is)

pub fails_go : (m new : ValueState) (range : ByteRange) (number : ℕ) → KeepsCounts m new → ((x : ℕ) → held_in new x ≡ held_changed (change.Fails number) (shares_word range x) x (held_in m x))
    → AllGo m.oldest false m new (to_words range (Fails number))
fails_go m new range number counts held =
    words_go m new range (change.Fails number) (Fails number) counts held
    (λ x after is. goes_changed m.oldest (Fails number) (λ now hs. with_failed number hs) (byte_in m x) after (λ run. tt) (λ run. record { now = refl; oldest = refl }) (λ run. refl) is)

pub ends_go : (m new : ValueState) (range : ByteRange) (number : ℕ) → KeepsCounts m new
    → ((x : ℕ) → held_in new x ≡ held_changed (change.Ends number m.begun) (shares_word range x) x (held_in m x)) → AllGo m.oldest false m new (to_words range (Ends number))
ends_go m new range number counts held =
    words_go m new range (change.Ends number m.begun) (Ends number) counts held
    (λ x after is. goes_changed m.oldest (Ends number) (λ now hs. with_ended number now hs) (byte_in m x) after (λ run. tt) (λ run. record { now = refl; oldest = refl }) (λ run. refl) is)

-- ---- lists are kept short

pub pruned_go : (m new : ValueState) (word : ℕ) → new ≡ with_table m (pruned_at word m.oldest m.begun m.table) → m.oldest ≤ m.begun + 1 → AllGo m.oldest false m new (to_all [])
pruned_go m new word is within x =
    let P : ValueState → Type 0 = λ s. Goes m.oldest false (byte_in m x) (byte_in s x) [] in
    subst P (sym is) (by_word (eqb_tells (x / 8) word))
  where
    after : ValueState
    after = with_table m (pruned_at word m.oldest m.begun m.table)

    keeps : (list_at (pruned_at word m.oldest m.begun m.table) (x / 8) ≡ list_at m.table (x / 8))
        → Goes m.oldest false (byte_in m x) (byte_in (with_table m (pruned_at word m.oldest m.begun m.table)) x) []
    keeps same =
        goes_older m.oldest (byte_in m x) (byte_in (with_table m (pruned_at word m.oldest m.begun m.table)) x)
        (held-same m (with_table m (pruned_at word m.oldest m.begun m.table)) x (record { list = same; lost = refl; doubt = refl; byte = refl })) refl (omega arith)

    by_list : x / 8 ≡ word → (o : Option WordList) → list_at m.table (x / 8) ≡ o
        → Goes m.oldest false (byte_in m x) (byte_in (with_table m (pruned_at word m.oldest m.begun m.table)) x) []
    by_list same o there = by_option o there (here same)
      where
        here : x / 8 ≡ word → list_at (pruned_at word m.oldest m.begun m.table) (x / 8) ≡ option_map (pruned_word m.oldest m.begun) (list_at m.table (x / 8))
        here same =
            ap (list_at (pruned_at word m.oldest m.begun m.table)) same ∙ changed_here (pruned_word m.oldest m.begun) word m.table
            ∙ ap (λ w. option_map (pruned_word m.oldest m.begun) (list_at m.table w)) (sym same)

        by_option : (o : Option WordList) → list_at m.table (x / 8) ≡ o
            → list_at (pruned_at word m.oldest m.begun m.table) (x / 8) ≡ option_map (pruned_word m.oldest m.begun) (list_at m.table (x / 8))
            → Goes m.oldest false (byte_in m x) (byte_in (with_table m (pruned_at word m.oldest m.begun m.table)) x) []
        by_option None there becomes = keeps (becomes ∙ ap (option_map (pruned_word m.oldest m.begun)) there ∙ sym there)
        by_option (Some list) there becomes =
            let P : ByteState → Type 0 = λ s. Goes m.oldest false (byte_in m x) s [] in
            let held : held_in (with_table m (pruned_at word m.oldest m.begun m.table)) x ≡ with_settled (pruned_holdings m.oldest m.begun (held_in m x)) =
            held-listed (with_table m (pruned_at word m.oldest m.begun m.table)) x (pruned_word m.oldest m.begun list) (becomes ∙ ap (option_map (pruned_word m.oldest m.begun)) there)
            ∙ lane_pruned (x % 8) (below_eight x) m.oldest m.begun list
            ∙ ap (λ hs. with_settled (pruned_holdings m.oldest m.begun hs)) (sym (held-listed m x list there))
            in
            subst P (sym (byte_with m (with_table m (pruned_at word m.oldest m.begun m.table)) x _ (record { begun = refl; oldest = refl; crowds = refl }) held)) (goes_tidied (byte_in m x) within)

    by_word : ((eqb (x / 8) word ≡ true) × (x / 8 ≡ word)) ⊎ ((eqb (x / 8) word ≡ false) × (x / 8 ≢ word))
        → Goes m.oldest false (byte_in m x) (byte_in (with_table m (pruned_at word m.oldest m.begun m.table)) x) []
    by_word (inl (test, same)) = by_list same (list_at m.table (x / 8)) refl
    by_word (inr (test, differs)) = keeps (changed_other (pruned_word m.oldest m.begun) word (x / 8) m.table differs)

-- a word that has settled leaves the table
pub record IsReleased (m new : ValueState) (word : ℕ) (known : KnownBytes) : Type 0 where
  pub settled : settled_at m.table word ≡ Some known
  pub gone : list_at new.table word ≡ None
  pub others : (other : ℕ) → other ≢ word → list_at new.table other ≡ list_at m.table other
  pub lost : new.table.lost ≡ m.table.lost
  pub oldest : new.oldest ≡ m.oldest
  pub doubts : doubts_in new.settled ≡ put_flags (word * 8) (255 - known.lanes) 255 (doubts_in m.settled)
  pub bytes : bytes_in new.settled ≡ put_word (word * 8) known.value known.lanes (bytes_in m.settled)
  pub fits : known.lanes < 256
  pub known_or_none : (known.lanes ≡ 255) ⊎ (lost_since m.table m.oldest ≡ None)

pub released-held : (m new : ValueState) (word : ℕ) (known : KnownBytes) → IsReleased m new word known → (x : ℕ) → held_in new x ≡ held_in m x
released-held m new word known is x = by_word (eqb_tells (x / 8) word)
  where
    strobed : (mask : ℕ) → x / 8 ≡ word → is_strobed (word * 8) mask x ≡ has_lane mask (x % 8)
    strobed mask same =
        let at : word_address x ≡ word_address (word * 8) = omega (arith, same) in
        ap (λ b. b && has_lane mask (x % 8)) (eq-eqb (word_address x) (word_address (word * 8)) at)

    apart : (mask : ℕ) → x / 8 ≢ word → is_strobed (word * 8) mask x ≡ false
    apart mask differs = by_test (word_address x == word_address (word * 8)) refl
      where
        by_test : (b : Bool) → (word_address x == word_address (word * 8)) ≡ b → (b && has_lane mask (x % 8)) ≡ false
        by_test false test = refl
        by_test true test = let same : x / 8 ≡ word = omega (arith, eqb-true (word_address x) (word_address (word * 8)) test) in absurd (differs same)

    -- one that the list knows isn't in doubt; one that nobody knows is none that was given up
    as_known : (has : Bool) → has_lane known.lanes (x % 8) ≡ has → settled_holding (lost_since m.table m.oldest) (not has) (if has then lane_byte known.value (x % 8) else bytes_in m.settled x)
        ≡ beginning (if has then Some (lane_byte known.value (x % 8)) else None)
    as_known true has = refl
    as_known false has = elim is.known_or_none [
      | inl every ↦
          let never : true ≡ false = sym (has_lane-every (x % 8) (below_eight x)) ∙ ap (λ mask. has_lane mask (x % 8)) (sym every) ∙ has in
          absurd (cc)
      | inr none ↦ ap (λ l. settled_holding l true (bytes_in m.settled x)) none
    ]

    here : x / 8 ≡ word → held_in new x ≡ beginning (known_byte (x % 8) known) ∷ []
    here same =
        held-unlisted new x (ap (list_at new.table) same ∙ is.gone)
        ∙ ap (λ l. settled_holding l (doubts_in new.settled x) (bytes_in new.settled x) ∷ []) (lost-same m new is.lost is.oldest)
        ∙ ap (λ f. settled_holding (lost_since m.table m.oldest) (f x) (bytes_in new.settled x) ∷ []) is.doubts
        ∙ ap (λ f. settled_holding (lost_since m.table m.oldest) (put_flags (word * 8) (255 - known.lanes) 255 (doubts_in m.settled) x) (f x) ∷ []) is.bytes
        ∙ ap (λ b. settled_holding (lost_since m.table m.oldest) (if b then has_lane (255 - known.lanes) (x % 8) else doubts_in m.settled x) (put_word (word * 8) known.value known.lanes (bytes_in m.settled) x) ∷ [])
        (strobed 255 same ∙ has_lane-every (x % 8) (below_eight x))
        ∙ ap (λ b. settled_holding (lost_since m.table m.oldest) b (put_word (word * 8) known.value known.lanes (bytes_in m.settled) x) ∷ []) (has_lane-not known.lanes (x % 8) is.fits (below_eight x))
        ∙ ap (λ b. settled_holding (lost_since m.table m.oldest) (not (has_lane known.lanes (x % 8))) (if b then lane_byte known.value (x % 8) else bytes_in m.settled x) ∷ []) (strobed known.lanes same)
        ∙ ap (λ h. h ∷ []) (as_known (has_lane known.lanes (x % 8)) refl)

    by_list : x / 8 ≡ word → (o : Option WordList) → list_at m.table word ≡ o → held_in m x ≡ beginning (known_byte (x % 8) known) ∷ []
    by_list same None none =
        let never : None ≡ Some known = sym (ap (λ (o : Option WordList). option_flatten (option_map settled_bytes o)) none) ∙ is.settled in absurd (cc)
    by_list same (Some list) there =
        held-listed m x list (ap (list_at m.table) same ∙ there)
        ∙ lane-settled list known x (sym (ap (λ (o : Option WordList). option_flatten (option_map settled_bytes o)) there) ∙ is.settled)

    by_word : ((eqb (x / 8) word ≡ true) × (x / 8 ≡ word)) ⊎ ((eqb (x / 8) word ≡ false) × (x / 8 ≢ word)) → held_in new x ≡ held_in m x
    by_word (inl (test, same)) = here same ∙ sym (by_list same (list_at m.table word) refl)
    by_word (inr (test, differs)) =
        held-same m new x (record {
          list = is.others (x / 8) differs;
          lost = lost-same m new is.lost is.oldest;
          doubt = ap (λ f. f x) is.doubts ∙ ap (λ b. if b then has_lane (255 - known.lanes) (x % 8) else doubts_in m.settled x) (apart 255 differs);
          byte = ap (λ f. f x) is.bytes ∙ ap (λ b. if b then lane_byte known.value (x % 8) else bytes_in m.settled x) (apart known.lanes differs);
        })

-- ---- a reset

pub reset_go : (m new : ValueState) → new ≡ record m { table = reset_at m.begun m.table; oldest = m.begun + 1 } → m.oldest ≤ m.begun + 1 → m.table.lost ≤ m.begun
    → AllGo m.oldest false m new (to_all (Resets ∷ []))
reset_go m new is within lost x =
    let P : ValueState → Type 0 = λ s. Goes m.oldest false (byte_in m x) (byte_in s x) (Resets ∷ []) in
    subst P (sym is) (by_list (list_at m.table (x / 8)) refl)
  where
    none_left : lost_since (reset_at m.begun m.table) (m.begun + 1) ≡ None
    none_left =
        let late : nat_le (m.begun + 1) m.table.lost ≡ false = grind (arith, nat_tests, lost) in
        ap (λ b. if nat_lt 0 m.table.lost && b then Some m.table.lost else None) late ∙ by_test (nat_lt 0 m.table.lost)
      where
        by_test : (b : Bool) → (if b && false then Some m.table.lost else None) ≡ None
        by_test true = refl
        by_test false = refl

    after : (o : Option WordList) → list_at m.table (x / 8) ≡ o → list_at (reset_at m.begun m.table) (x / 8) ≡ option_map (changed_word (change.Resets m.begun)) o
    after o there = reset_each m.begun (x / 8) m.table ∙ ap (option_map (changed_word (change.Resets m.begun))) there

    unlisted : list_at m.table (x / 8) ≡ None → held_in (record m { table = reset_at m.begun m.table; oldest = m.begun + 1 }) x ≡ settled_holding None (doubts_in m.settled x) (bytes_in m.settled x) ∷ []
    unlisted there =
        held-unlisted (record m { table = reset_at m.begun m.table; oldest = m.begun + 1 }) x (after None there)
        ∙ ap (λ l. settled_holding l (doubts_in m.settled x) (bytes_in m.settled x) ∷ []) none_left

    same : (hs : List Holding) → held_in (record m { table = reset_at m.begun m.table; oldest = m.begun + 1 }) x ≡ hs → hs ≡ with_reset m.begun (held_in m x)
        → Goes m.oldest false (byte_in m x) (byte_in (record m { table = reset_at m.begun m.table; oldest = m.begun + 1 }) x) (Resets ∷ [])
    same hs held resets =
        goes_reset m.oldest (byte_in m x) (byte_in (record m { table = reset_at m.begun m.table; oldest = m.begun + 1 }) x) refl (omega (arith, within)) (held ∙ resets)

    by_doubt : list_at m.table (x / 8) ≡ None → (doubt : Bool) → doubts_in m.settled x ≡ doubt → (since : Option ℕ) → lost_since m.table m.oldest ≡ since
        → Goes m.oldest false (byte_in m x) (byte_in (record m { table = reset_at m.begun m.table; oldest = m.begun + 1 }) x) (Resets ∷ [])
    by_doubt there doubt in_doubt since lost_is = by_cases doubt since held was
      where
        held : held_in (record m { table = reset_at m.begun m.table; oldest = m.begun + 1 }) x ≡ settled_holding None doubt (bytes_in m.settled x) ∷ []
        held = unlisted there ∙ ap (λ b. settled_holding None b (bytes_in m.settled x) ∷ []) in_doubt

        was : held_in m x ≡ settled_holding since doubt (bytes_in m.settled x) ∷ []
        was =
            held-unlisted m x there ∙ ap (λ l. settled_holding l (doubts_in m.settled x) (bytes_in m.settled x) ∷ []) lost_is
            ∙ ap (λ b. settled_holding since b (bytes_in m.settled x) ∷ []) in_doubt

        by_cases : (doubt : Bool) (since : Option ℕ) → held_in (record m { table = reset_at m.begun m.table; oldest = m.begun + 1 }) x ≡ settled_holding None doubt (bytes_in m.settled x) ∷ []
            → held_in m x ≡ settled_holding since doubt (bytes_in m.settled x) ∷ []
            → Goes m.oldest false (byte_in m x) (byte_in (record m { table = reset_at m.begun m.table; oldest = m.begun + 1 }) x) (Resets ∷ [])
        by_cases false since held was = same (beginning (Some (bytes_in m.settled x)) ∷ []) held (sym (ap (with_reset m.begun) was))
        by_cases true None held was = same (beginning None ∷ []) held (sym (ap (with_reset m.begun) was))
        by_cases true (Some number) held was =
            goes_reset_crowd m.oldest number (byte_in m x) (byte_in (record m { table = reset_at m.begun m.table; oldest = m.begun + 1 }) x) refl (omega (arith, within)) was held

    by_list : (o : Option WordList) → list_at m.table (x / 8) ≡ o
        → Goes m.oldest false (byte_in m x) (byte_in (record m { table = reset_at m.begun m.table; oldest = m.begun + 1 }) x) (Resets ∷ [])
    by_list (Some list) there =
        same (lane_list (x % 8) (changed_word (change.Resets m.begun) list))
        (held-listed (record m { table = reset_at m.begun m.table; oldest = m.begun + 1 }) x (changed_word (change.Resets m.begun) list) (after (Some list) there))
        (lane_changed (x % 8) (below_eight x) (change.Resets m.begun) list ∙ ap (with_reset m.begun) (sym (held-listed m x list there)))
    by_list None there = by_doubt there (doubts_in m.settled x) refl (lost_since m.table m.oldest) refl

-- ---- the oldest request in flight is a later one

pub oldest_go : (m new : ValueState) (oldest : ℕ) → new ≡ record m { oldest = oldest } → m.oldest ≤ oldest → oldest ≤ m.begun + 1 → m.table.lost ≤ m.begun
    → AllGo oldest false m new (to_all [])
oldest_go m new oldest is later within past x =
    let P : ValueState → Type 0 = λ s. Goes oldest false (byte_in m x) (byte_in s x) [] in
    subst P (sym is) (by_list (list_at m.table (x / 8)) refl)
  where
    same : held_in (record m { oldest = oldest }) x ≡ held_in m x → Goes oldest false (byte_in m x) (byte_in (record m { oldest = oldest }) x) []
    same held = goes_older oldest (byte_in m x) (byte_in (record m { oldest = oldest }) x) held refl later

    by_doubt : list_at m.table (x / 8) ≡ None → (doubt : Bool) → doubts_in m.settled x ≡ doubt → (some early late : Bool) → nat_lt 0 m.table.lost ≡ some → nat_le m.oldest m.table.lost ≡ early
        → nat_le oldest m.table.lost ≡ late → Goes oldest false (byte_in m x) (byte_in (record m { oldest = oldest }) x) []
    by_doubt there doubt in_doubt some early late some_is early_is late_is = by_cases doubt some early late held was early_is late_is
      where
        held : held_in (record m { oldest = oldest }) x ≡ settled_holding (if some && late then Some m.table.lost else None) doubt (bytes_in m.settled x) ∷ []
        held =
            held-unlisted (record m { oldest = oldest }) x there
            ∙ ap (λ b. settled_holding (if b && nat_le oldest m.table.lost then Some m.table.lost else None) (doubts_in m.settled x) (bytes_in m.settled x) ∷ []) some_is
            ∙ ap (λ b. settled_holding (if some && b then Some m.table.lost else None) (doubts_in m.settled x) (bytes_in m.settled x) ∷ []) late_is
            ∙ ap (λ b. settled_holding (if some && late then Some m.table.lost else None) b (bytes_in m.settled x) ∷ []) in_doubt

        was : held_in m x ≡ settled_holding (if some && early then Some m.table.lost else None) doubt (bytes_in m.settled x) ∷ []
        was =
            held-unlisted m x there
            ∙ ap (λ b. settled_holding (if b && nat_le m.oldest m.table.lost then Some m.table.lost else None) (doubts_in m.settled x) (bytes_in m.settled x) ∷ []) some_is
            ∙ ap (λ b. settled_holding (if some && b then Some m.table.lost else None) (doubts_in m.settled x) (bytes_in m.settled x) ∷ []) early_is
            ∙ ap (λ b. settled_holding (if some && early then Some m.table.lost else None) b (bytes_in m.settled x) ∷ []) in_doubt

        by_cases : (doubt some early late : Bool) → held_in (record m { oldest = oldest }) x ≡ settled_holding (if some && late then Some m.table.lost else None) doubt (bytes_in m.settled x) ∷ []
            → held_in m x ≡ settled_holding (if some && early then Some m.table.lost else None) doubt (bytes_in m.settled x) ∷ []
            → nat_le m.oldest m.table.lost ≡ early → nat_le oldest m.table.lost ≡ late → Goes oldest false (byte_in m x) (byte_in (record m { oldest = oldest }) x) []
        by_cases false some early late held was early_is late_is = same (held ∙ sym was)
        by_cases true false early late held was early_is late_is = same (held ∙ sym was)
        by_cases true true true true held was early_is late_is = same (held ∙ sym was)
        by_cases true true false false held was early_is late_is = same (held ∙ sym was)
        by_cases true true false true held was early_is late_is = let never : false ≡ true = grind (arith, nat_tests, early_is, late_is, later) in absurd (cc)
        by_cases true true true false held was early_is late_is =
            let over : m.table.lost < oldest = grind (arith, nat_tests, late_is) in
            goes_past_crowd m.table.lost (byte_in m x) (byte_in (record m { oldest = oldest }) x) over past within later refl was held

    by_list : (o : Option WordList) → list_at m.table (x / 8) ≡ o → Goes oldest false (byte_in m x) (byte_in (record m { oldest = oldest }) x) []
    by_list (Some list) there = same (held-listed (record m { oldest = oldest }) x list there ∙ sym (held-listed m x list there))
    by_list None there =
        by_doubt there (doubts_in m.settled x) refl (nat_lt 0 m.table.lost) (nat_le m.oldest m.table.lost) (nat_le oldest m.table.lost) refl refl refl

-- ---- a request begins

-- all bytes begin, where lists were kept short before
pub begun_go : (oldest number : ℕ) (crowded : Bool) (other : Event) (old m new : ValueState) (inside : ℕ → Bool) → IsQuiet number other → AllGo oldest false old m (to_all [])
    → m.begun < number → new.begun ≡ number → new.oldest ≡ m.oldest
    → ((x : ℕ) → (held_in new x ≡ (if inside x then with_begun number (held_in m x) else held_in m x)) ⊎ ((crowded ≡ true) × IsCrowd number new x))
    → AllGo oldest crowded old new (λ x. if inside x then Writes number ∷ [] else other ∷ [])
begun_go oldest number crowded other old m new inside quiet tidies later now same begins x =
    goes_after oldest crowded (byte_in old x) (byte_in m x) (byte_in new x) (if inside x then Writes number ∷ [] else other ∷ []) (tidies x)
    (goes_begun oldest number crowded (inside x) other (byte_in m x) (byte_in new x) quiet (record { later = later; now = now; oldest = same }) (as_said (begins x)))
  where
    as_said : (held_in new x ≡ (if inside x then with_begun number (held_in m x) else held_in m x)) ⊎ ((crowded ≡ true) × IsCrowd number new x)
        → (held_in new x ≡ (if inside x then with_begun number (held_in m x) else held_in m x)) ⊎ ((crowded ≡ true) × (held_in new x ≡ crowd number ∷ []))
    as_said (inl is) = inl is
    as_said (inr lost) = inr (lost.0, lost.1.held)

-- ---- what is true of every memory

pub pages-same : (old new : ValueState) → new.settled ≡ old.settled → KeepsPages old new
unfolding pages_of rooms_in
pages-same old new same = record { pages = ap faults_in same; rooms = λ page. ap (λ s. has_room s page) same }

pub pages-put : (old new : ValueState) → faults_in new.settled ≡ faults_in old.settled → ((page : ℕ) → has_room new.settled page ≡ has_room old.settled page) → KeepsPages old new
unfolding pages_of rooms_in
pages-put old new pages rooms = record { pages = pages; rooms = rooms }

-- a word that has settled has a list, so that it lies well
pub placed-settled : (m : ValueState) (word : ℕ) (known : KnownBytes) → IsSoundMemory m → settled_at m.table word ≡ Some known → IsPlaced m word
placed-settled m word known sound is = by_list (list_at m.table word) refl
  where
    by_list : (o : Option WordList) → list_at m.table word ≡ o → IsPlaced m word
    by_list (Some list) there = sound.placed word (ap (λ (o : Option WordList). is_some o) there)
    by_list None none =
        let never : None ≡ Some known = sym (ap (λ (o : Option WordList). option_flatten (option_map settled_bytes o)) none) ∙ is in absurd (cc)

pub room-placed : (m : ValueState) (word : ℕ) → IsPlaced m word → has_room m.settled (word * 8 / 4096) ≡ true
unfolding rooms_in
room-placed m word placed = let page : word * 8 / 4096 ≡ word / 512 = omega arith in ap (has_room m.settled) page ∙ placed.room

pub pages-faults : (m : ValueState) → pages_of m ≡ faults_in m.settled
unfolding pages_of
pages-faults m = refl

-- a page has got room
pub rooms-reserved : {T E : Type 0} (r : Result T E) (old new : ValueState) (number : ℕ) → OnOk r ((page : ℕ) → has_room new.settled page ≡ (has_room old.settled page || page == number))
    → OnOk r ((page : ℕ) → rooms_in new page ≡ (rooms_in old page || page == number))
unfolding rooms_in
rooms-reserved r old new number is = is

or-stays : (a b : Bool) → a ≡ true → (a || b) ≡ true
or-stays true b is = refl
or-stays false b is = let never : false ≡ true = is in absurd (cc)

pub rooms-stay : {T E : Type 0} (r : Result T E) (old new : ValueState) (number : ℕ) → OnOk r ((page : ℕ) → has_room new.settled page ≡ (has_room old.settled page || page == number))
    → OnErr r (new.settled ≡ old.settled) → (page : ℕ) → rooms_in old page ≡ true → rooms_in new page ≡ true
unfolding rooms_in
rooms-stay (Ok value) old new number rooms same page there = rooms page ∙ or-stays (has_room old.settled page) (page == number) there
rooms-stay (Err fault) old new number rooms same page there = ap (λ s. has_room s page) same ∙ there

pub room-of : (m : ValueState) (page : ℕ) → rooms_in m page ≡ true → has_room m.settled page ≡ true
unfolding rooms_in
room-of m page is = is

-- another state is sound where it has no list but of words that had one, or lie well
pub sound_as : (old new : ValueState) → IsSoundMemory old → new.begun ≤ 2 ^ 63 → new.oldest ≤ new.begun + 1 → new.table.lost ≤ new.begun → new.crowds ≤ new.begun
    → old.begun ≤ new.begun → ((page : ℕ) → rooms_in old page ≡ true → rooms_in new page ≡ true)
    → ((word : ℕ) → is_some (list_at new.table word) ≡ true → (is_some (list_at old.table word) ≡ true) ⊎ IsPlaced new word) → IsSoundMemory new
sound_as old new sound few within lost crowds grows rooms lists =
    record {
      few = few;
      within = within;
      lost = lost;
      crowds = crowds;
      placed = λ word there. placed word (lists word there);
    }
  where
    placed : (word : ℕ) → (is_some (list_at old.table word) ≡ true) ⊎ IsPlaced new word → IsPlaced new word
    placed word (inl was) = let at = sound.placed word was in record { below = at.below; some = omega (arith, at.some, grows); room = rooms (word / 512) at.room }
    placed word (inr at) = at

is_some-map : (change : WordList → WordList) (o : Option WordList) → is_some (option_map change o) ≡ is_some o
is_some-map change None = refl
is_some-map change (Some list) = refl

-- a change makes no list, and takes none
pub some-changed : (change : WordList → WordList) (word other : ℕ) (m : ValueState) → is_some (list_at (list_changed change word m.table) other) ≡ is_some (list_at m.table other)
some-changed change word other m = by_word (eqb_tells other word)
  where
    by_word : ((eqb other word ≡ true) × (other ≡ word)) ⊎ ((eqb other word ≡ false) × (other ≢ word)) → is_some (list_at (list_changed change word m.table) other) ≡ is_some (list_at m.table other)
    by_word (inl (test, same)) =
        ap (λ w. is_some (list_at (list_changed change word m.table) w)) same
        ∙ ap (λ (o : Option WordList). is_some o) (changed_here change word m.table)
        ∙ is_some-map change (list_at m.table word)
        ∙ ap (λ w. is_some (list_at m.table w)) (sym same)
    by_word (inr (test, differs)) = ap (λ (o : Option WordList). is_some o) (changed_other change word other m.table differs)

pub sound-changed : (m new : ValueState) (change : WordList → WordList) (word : ℕ) → new ≡ with_table m (list_changed change word m.table) → IsSoundMemory m → IsSoundMemory new
sound-changed m new change word is sound =
    let P : ValueState → Type 0 = λ s. IsSoundMemory s in
    subst P (sym is)
    (sound_as m (with_table m (list_changed change word m.table)) sound sound.few sound.within sound.lost sound.crowds (omega arith)
    (λ page there. (pages-same m (with_table m (list_changed change word m.table)) refl).rooms page ∙ there)
    (λ other there. inl (sym (some-changed change word other m) ∙ there)))

pub sound-reset : (m new : ValueState) → new ≡ record m { table = reset_at m.begun m.table; oldest = m.begun + 1 } → IsSoundMemory m → IsSoundMemory new
sound-reset m new is sound =
    let P : ValueState → Type 0 = λ s. IsSoundMemory s in
    subst P (sym is)
    (sound_as m (record m { table = reset_at m.begun m.table; oldest = m.begun + 1 }) sound sound.few (omega arith) sound.lost sound.crowds (omega arith)
    (λ page there. (pages-same m (record m { table = reset_at m.begun m.table; oldest = m.begun + 1 }) refl).rooms page ∙ there)
    (λ other there. inl (sym (is_some-map (changed_word (change.Resets m.begun)) (list_at m.table other)) ∙ sym (ap (λ (o : Option WordList). is_some o) (reset_each m.begun other m.table)) ∙ there)))

-- a word whose list is gone
pub sound-released : (m new : ValueState) (word : ℕ) (known : KnownBytes) → IsReleased m new word known → KeepsRest m new → IsSoundMemory m → IsSoundMemory new
sound-released m new word known is rest sound =
    sound_as m new sound (omega (arith, rest.counts.begun, sound.few)) (omega (arith, rest.counts.begun, rest.counts.oldest, sound.within)) (omega (arith, rest.counts.begun, is.lost, sound.lost))
    (omega (arith, rest.counts.begun, rest.counts.crowds, sound.crowds)) (omega (arith, rest.counts.begun)) (λ page there. rest.pages.rooms page ∙ there) (λ other there. by_word other there (eqb_tells other word))
  where
    by_word : (other : ℕ) → is_some (list_at new.table other) ≡ true → ((eqb other word ≡ true) × (other ≡ word)) ⊎ ((eqb other word ≡ false) × (other ≢ word))
        → (is_some (list_at m.table other) ≡ true) ⊎ IsPlaced new other
    by_word other there (inl (test, same)) =
        let never : true ≡ false = sym there ∙ ap (λ w. is_some (list_at new.table w)) same ∙ ap (λ (o : Option WordList). is_some o) is.gone in absurd (cc)
    by_word other there (inr (test, differs)) = inl (ap (λ (o : Option WordList). is_some o) (sym (is.others other differs)) ∙ there)

-- a list begins at a word of a page with room
pub sound-begun : (m new : ValueState) (address lanes : ℕ) → new ≡ with_table m (begun_table m (address / 8) lanes (settled_in m address)) → address < 2 ^ 32 → 0 < m.begun
    → rooms_in m (address / 4096) ≡ true → IsSoundMemory m → IsSoundMemory new
sound-begun m new address lanes is below some room sound =
    let P : ValueState → Type 0 = λ s. IsSoundMemory s in
    subst P (sym is)
    (sound_as m (with_table m (begun_table m (address / 8) lanes (settled_in m address))) sound sound.few sound.within lost sound.crowds (omega arith)
    (λ page there. same page ∙ there) (λ other there. by_word other there (eqb_tells other (address / 8))))
  where
    same : (page : ℕ) → rooms_in (with_table m (begun_table m (address / 8) lanes (settled_in m address))) page ≡ rooms_in m page
    same page = (pages-same m (with_table m (begun_table m (address / 8) lanes (settled_in m address))) refl).rooms page

    lost : (begun_table m (address / 8) lanes (settled_in m address)).lost ≤ m.begun
    lost = by_up (is_given_up m (address / 8)) (has_room_at m.table (address / 8))
      where
        by_up : (up room : Bool) → (if up then m.table else record { shelves = (begun_at (address / 8) m.begun lanes (settled_in m address) m.oldest m.table).shelves; lost = if room then m.table.lost else m.begun }).lost ≤ m.begun
        by_up true room = sound.lost
        by_up false true = sound.lost
        by_up false false = omega arith

    others : (other : ℕ) → other ≢ address / 8 → (up : Bool) → list_at (if up then m.table else begun_at (address / 8) m.begun lanes (settled_in m address) m.oldest m.table) other ≡ list_at m.table other
    others other differs true = refl
    others other differs false = begun_other (address / 8) other m.begun lanes (settled_in m address) m.oldest m.table differs

    by_word : (other : ℕ) → is_some (list_at (begun_table m (address / 8) lanes (settled_in m address)) other) ≡ true
        → ((eqb other (address / 8) ≡ true) × (other ≡ address / 8)) ⊎ ((eqb other (address / 8) ≡ false) × (other ≢ address / 8))
        → (is_some (list_at m.table other) ≡ true) ⊎ IsPlaced (with_table m (begun_table m (address / 8) lanes (settled_in m address))) other
    by_word other there (inl (test, equal)) =
        let page : other / 512 ≡ address / 4096 = omega (arith, equal) in
        inr (record { below = omega (arith, equal, below); some = some; room = ap (rooms_in (with_table m (begun_table m (address / 8) lanes (settled_in m address)))) page ∙ same (address / 4096) ∙ room })
    by_word other there (inr (test, differs)) = inl (ap (λ (o : Option WordList). is_some o) (sym (others other differs (is_given_up m (address / 8)))) ∙ there)

-- ---- what is answered of a lane

pub lane-listed : (m : ValueState) (address lane : ℕ) (list : WordList) → lane < 8 → list_at m.table (address / 8) ≡ Some list → lane_list lane list ≡ lane_held m address lane
lane-listed m address lane list below there =
    let word : (address / 8 * 8 + lane) / 8 ≡ address / 8 = omega (arith, below) in
    let own : (address / 8 * 8 + lane) % 8 ≡ lane = omega (arith, below) in
    ap (λ k. lane_list k list) (sym own) ∙ sym (held-listed m (address / 8 * 8 + lane) list (ap (list_at m.table) word ∙ there))

pub lane-unlisted : (m : ValueState) (address lane : ℕ) (list : WordList) → lane < 8 → list_at m.table (address / 8) ≡ None
    → ((x : ℕ) → x / 8 ≡ address / 8 → lane_list (x % 8) list ≡ held_by m x None) → lane_list lane list ≡ lane_held m address lane
lane-unlisted m address lane list below none held =
    let word : (address / 8 * 8 + lane) / 8 ≡ address / 8 = omega (arith, below) in
    let own : (address / 8 * 8 + lane) % 8 ≡ lane = omega (arith, below) in
    ap (λ k. lane_list k list) (sym own) ∙ held (address / 8 * 8 + lane) word ∙ sym (held-unlisted m (address / 8 * 8 + lane) (ap (list_at m.table) word ∙ none))
