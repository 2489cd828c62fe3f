-- A request begins: all of a call, from the lists that are kept short to the count of those that found no room.
use Rattle.std.proofs.Common.{◌≡◌, ℕ, ◌+◌, ◌/◌, ◌^◌, ◌<◌, ◌≤◌, Bool, true, false, List, [], ◌∷◌, Option, Some, None, if◌then◌else◌, is_some, refl, sym, ◌∙◌, ◌⊎◌, inl, inr, ap, subst, arith}
use Rattle.std.proofs.lemmas.Bool.Decides.{nat_tests}
use Rattle.byte_orders.specs.Holdings.{beginning, crowd, with_begun}
use Rattle.byte_orders.specs.Runs.{Event, Writes}
use Rattle.byte_values.specs.Words.{WordList}
use Rattle.sparse_memory.specs.Ranges.{is_unknown}
use Rattle.sparse_memory.specs.SparseMemory.{SparseState, bytes_in, doubts_in, has_room}
use Rattle.sparse_memory.specs.declared.PageRange.{PageRange}
use Rattle.value_tables.specs.Tables.{TableState, empty_table, list_at, lost_since}
use Rattle.value_tables.proofs.TableLaws.{none_at}
use Rattle.value_memory.specs.InsideValues.{HasBegun, IsCrowd, IsSoundMemory, KeepsRest}
use Rattle.value_memory.specs.ValueMemory.{AllGo, KeepsPages, ValueState, byte_in, held_in, is_crowded_since, is_in, pages_of, rooms_in, settled_holding, to_all}
use Rattle.value_memory.specs.declared.ByteRange.{ByteRange}
use Rattle.value_memory.proofs.Going.{IsQuiet, goes_anyhow, goes_quietly}
use Rattle.value_memory.proofs.HeldLaws.{held-same, held-unlisted}
use Rattle.value_memory.proofs.MemoryGoes.{begun_go, keeps_none, pages-same, sound_as, state_of}

-- how many have begun is no part of a list, nor how many found no room
held-counted : (m : ValueState) (begun crowds x : ℕ) → held_in (record m { begun = begun; crowds = crowds }) x ≡ held_in m x
held-counted m begun crowds x = held-same m (record m { begun = begun; crowds = crowds }) x (record { list = refl; lost = refl; doubt = refl; byte = refl })

pub sound-counted : (m new : ValueState) → new ≡ record m { begun = m.begun + 1 } → m.begun < 2 ^ 63 → IsSoundMemory m → IsSoundMemory new
sound-counted m new is few sound =
    let P : ValueState → Type 0 = λ s. IsSoundMemory s in
    let within = sound.within in
    let lost = sound.lost in
    let crowds = sound.crowds in
    subst P (sym is)
    (sound_as m (record m { begun = m.begun + 1 }) sound (omega (arith, few)) (omega (arith, within)) (omega (arith, lost)) (omega (arith, crowds)) (omega arith)
    (λ page there. (pages-same m (record m { begun = m.begun + 1 }) refl).rooms page ∙ there) (λ word there. inl there))

pub sound-crowded : (m new : ValueState) (crowds : ℕ) → new ≡ record m { crowds = crowds } → crowds ≤ m.begun → IsSoundMemory m → IsSoundMemory new
sound-crowded m new crowds is within sound =
    let P : ValueState → Type 0 = λ s. IsSoundMemory s in
    subst P (sym is)
    (sound_as m (record m { crowds = crowds }) sound sound.few sound.within sound.lost within (omega arith)
    (λ page there. (pages-same m (record m { crowds = crowds }) refl).rooms page ∙ there) (λ word there. inl there))

-- a request begins that gives nothing
pub other_go : (m new : ValueState) (crowded : Bool) (other : Event) → new ≡ record m { begun = m.begun + 1 } → IsQuiet (m.begun + 1) other
    → AllGo m.oldest crowded m new (to_all (other ∷ []))
other_go m new crowded other is quiet x =
    let P : ValueState → Type 0 = λ s. AllGo m.oldest crowded m s (to_all (other ∷ [])) in
    subst P (sym is)
    (λ x. goes_anyhow m.oldest crowded (byte_in m x) (byte_in (record m { begun = m.begun + 1 }) x) (other ∷ [])
    (goes_quietly m.oldest (m.begun + 1) other (byte_in m x) (byte_in (record m { begun = m.begun + 1 }) x) quiet
    (record { later = omega arith; now = refl; oldest = refl }) (held-counted m (m.begun + 1) m.crowds x)))
    x

-- a request begins that gives the bytes of a range: lists are kept short, it is counted, it begins at its words, and if there was no room for it that is counted
pub record HasBegunThere (old placed counted listed new : ValueState) (range : ByteRange) (crowded : Bool) : Type 0 where
  pub tidied : AllGo old.oldest false old placed (to_all [])
  pub first : KeepsRest old placed
  pub counted_is : counted ≡ record placed { begun = placed.begun + 1 }
  pub held : (x : ℕ) → HasBegun counted.begun range counted listed crowded x
  pub rest : KeepsRest counted listed
  pub new_is : new ≡ record listed { crowds = listed.crowds + (if crowded then 1 else 0) }

pub writing_go : (old placed counted listed new : ValueState) (range : ByteRange) (crowded : Bool) (other : Event) → HasBegunThere old placed counted listed new range crowded
    → IsQuiet (old.begun + 1) other → AllGo old.oldest (is_crowded_since old new) old new (λ x. if is_in range x then Writes (old.begun + 1) ∷ [] else other ∷ [])
writing_go old placed counted listed new range crowded other has quiet =
    begun_go old.oldest (old.begun + 1) (is_crowded_since old new) other old placed new (is_in range) quiet has.tidied later now oldest begins
  where
    numbered : counted.begun ≡ old.begun + 1
    numbered = ap (λ (s : ValueState). s.begun) has.counted_is ∙ ap (λ n. n + 1) has.first.counts.begun

    later : placed.begun < old.begun + 1
    later = omega (arith, has.first.counts.begun)

    now : new.begun ≡ old.begun + 1
    now = ap (λ (s : ValueState). s.begun) has.new_is ∙ has.rest.counts.begun ∙ numbered

    oldest : new.oldest ≡ placed.oldest
    oldest = ap (λ (s : ValueState). s.oldest) has.new_is ∙ has.rest.counts.oldest ∙ ap (λ (s : ValueState). s.oldest) has.counted_is

    before : (x : ℕ) → held_in counted x ≡ held_in placed x
    before x = ap (λ s. held_in s x) has.counted_is ∙ held-counted placed (placed.begun + 1) placed.crowds x

    after : (x : ℕ) → held_in new x ≡ held_in listed x
    after x = ap (λ s. held_in s x) has.new_is ∙ held-counted listed listed.begun (listed.crowds + (if crowded then 1 else 0)) x

    counts : crowded ≡ true → is_crowded_since old new ≡ true
    counts some =
        let more : new.crowds ≡ old.crowds + 1 =
        ap (λ (s : ValueState). s.crowds) has.new_is
        ∙ ap (λ b. listed.crowds + (if b then 1 else 0)) some
        ∙ ap (λ n. n + 1) (has.rest.counts.crowds ∙ ap (λ (s : ValueState). s.crowds) has.counted_is ∙ has.first.counts.crowds)
        in
        grind (arith, nat_tests, more)

    begins : (x : ℕ) → (held_in new x ≡ (if is_in range x then with_begun (old.begun + 1) (held_in placed x) else held_in placed x)) ⊎ ((is_crowded_since old new ≡ true) × IsCrowd (old.begun + 1) new x)
    begins x = as_said (has.held x)
      where
        as_said : HasBegun counted.begun range counted listed crowded x
            → (held_in new x ≡ (if is_in range x then with_begun (old.begun + 1) (held_in placed x) else held_in placed x)) ⊎ ((is_crowded_since old new ≡ true) × IsCrowd (old.begun + 1) new x)
        as_said (inl is) =
            inl (after x ∙ is
            ∙ ap (λ n. if is_in range x then with_begun n (held_in counted x) else held_in counted x) numbered
            ∙ ap (λ hs. if is_in range x then with_begun (old.begun + 1) hs else hs) (before x))
        as_said (inr lost) = inr (counts lost.0, record { held = after x ∙ lost.1.held ∙ ap (λ n. crowd n ∷ []) numbered })

-- how many found no room then
pub crowds_within : (old placed counted listed : ValueState) (crowded : Bool) → KeepsRest old placed → counted ≡ record placed { begun = placed.begun + 1 } → KeepsRest counted listed → IsSoundMemory old
    → listed.crowds + (if crowded then 1 else 0) ≤ listed.begun
crowds_within old placed counted listed crowded first is rest sound =
    let begun : listed.begun ≡ old.begun + 1 = rest.counts.begun ∙ ap (λ (s : ValueState). s.begun) is ∙ ap (λ n. n + 1) first.counts.begun in
    let crowds : listed.crowds ≡ old.crowds = rest.counts.crowds ∙ ap (λ (s : ValueState). s.crowds) is ∙ first.counts.crowds in
    let before = sound.crowds in
    by_crowded crowded begun crowds before
  where
    by_crowded : (b : Bool) → listed.begun ≡ old.begun + 1 → listed.crowds ≡ old.crowds → old.crowds ≤ old.begun → listed.crowds + (if b then 1 else 0) ≤ listed.begun
    by_crowded true begun crowds before = omega arith
    by_crowded false begun crowds before = omega arith

-- ---- the same of the parts of a call

module _ (now placed m listed n : ValueState) (range : ByteRange) (crowded : Bool) (found_none : ℕ) (tidied : AllGo now.oldest false now placed (to_all [])) (first : KeepsRest now placed)
    (m_is : m ≡ placed) (held : (x : ℕ) → HasBegun (m.begun + 1) range (record m { begun = m.begun + 1 }) listed crowded x) (rest : KeepsRest (record m { begun = m.begun + 1 }) listed)
    (n_is : n ≡ listed) (found_is : found_none ≡ (if crowded then 1 else 0)) where
  writing_there : HasBegunThere now placed (record m { begun = m.begun + 1 }) listed (record n { crowds = n.crowds + found_none }) range crowded
  writing_there =
      record {
        tidied = tidied;
        first = first;
        counted_is = ap (λ (s : ValueState). record s { begun = s.begun + 1 }) m_is;
        held = held;
        rest = rest;
        new_is = ap (λ (s : ValueState). record s { crowds = s.crowds + found_none }) n_is ∙ ap (λ k. record listed { crowds = listed.crowds + k }) found_is;
      }

  pub writing_here : (other : Event) → IsQuiet (now.begun + 1) other
      → AllGo now.oldest (is_crowded_since now (record n { crowds = n.crowds + found_none })) now (record n { crowds = n.crowds + found_none })
      (λ x. if is_in range x then Writes (now.begun + 1) ∷ [] else other ∷ [])
  writing_here other quiet =
      writing_go now placed (record m { begun = m.begun + 1 }) listed (record n { crowds = n.crowds + found_none }) range crowded other writing_there quiet

  pub writing_pages : KeepsPages now (record n { crowds = n.crowds + found_none })
  writing_pages =
      let counted = pages-same m (record m { begun = m.begun + 1 }) refl in
      let last = pages-same n (record n { crowds = n.crowds + found_none }) refl in
      record {
        pages = last.pages ∙ ap pages_of n_is ∙ rest.pages.pages ∙ counted.pages ∙ ap pages_of m_is ∙ first.pages.pages;
        rooms = λ page. last.rooms page ∙ ap (λ s. rooms_in s page) n_is ∙ rest.pages.rooms page ∙ counted.rooms page ∙ ap (λ s. rooms_in s page) m_is ∙ first.pages.rooms page;
      }

  pub writing_within : IsSoundMemory m → n.crowds + found_none ≤ n.begun
  writing_within sound =
      let within : listed.crowds + (if crowded then 1 else 0) ≤ listed.begun = crowds_within m m (record m { begun = m.begun + 1 }) listed crowded (keeps_none m) refl rest sound in
      let P : ℕ → Type 0 = λ k. listed.crowds + k ≤ listed.begun in
      let Q : ValueState → Type 0 = λ s. s.crowds + found_none ≤ s.begun in
      subst Q (sym n_is) (subst P (sym found_is) within)

-- ---- a new memory

pub fresh-held : (table : TableState) (settled : SparseState) (ranges : List PageRange) → table ≡ empty_table → bytes_in settled ≡ (λ address. 0)
    → doubts_in settled ≡ (λ address. is_unknown ranges (address / 4096)) → (x : ℕ) → held_in (state_of table settled 0 0 0) x ≡ beginning (if is_unknown ranges (x / 4096) then None else Some 0) ∷ []
fresh-held table settled ranges empty bytes doubts x =
    held-unlisted (state_of table settled 0 0 0) x (ap (λ t. list_at t (x / 8)) empty ∙ none_at (x / 8))
    ∙ ap (λ t. settled_holding (lost_since t 0) (doubts_in settled x) (bytes_in settled x) ∷ []) empty
    ∙ ap (λ f. settled_holding None (f x) (bytes_in settled x) ∷ []) doubts
    ∙ ap (λ f. settled_holding None (is_unknown ranges (x / 4096)) (f x) ∷ []) bytes
    ∙ by_kind (is_unknown ranges (x / 4096))
  where
    by_kind : (b : Bool) → settled_holding None b 0 ∷ [] ≡ beginning (if b then None else Some 0) ∷ []
    by_kind true = refl
    by_kind false = refl

pub fresh-sound : (table : TableState) (settled : SparseState) → table ≡ empty_table → IsSoundMemory (state_of table settled 0 0 0)
fresh-sound table settled empty =
    let none : table.lost ≡ 0 = ap (λ (t : TableState). t.lost) empty in
    record {
      few = omega arith;
      within = omega arith;
      lost = omega (arith, none);
      crowds = omega arith;
      placed = λ word there.
          let never : true ≡ false = sym there ∙ ap (λ t. is_some (list_at t word)) empty ∙ ap (λ (o : Option WordList). is_some o) (none_at word) in
          absurd (cc);
    }

pub fresh-rooms : (table : TableState) (settled : SparseState) → ((page : ℕ) → has_room settled page ≡ false) → (page : ℕ) → rooms_in (state_of table settled 0 0 0) page ≡ false
unfolding rooms_in
fresh-rooms table settled none page = none page
