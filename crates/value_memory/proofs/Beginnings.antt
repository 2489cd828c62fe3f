-- A request begins at one word, and at the words of a range one after another.
use Rattle.std.proofs.Common.{◌≡◌, ◌≢◌, ℕ, ◌+◌, ◌*◌, ◌/◌, ◌%◌, ◌<◌, ◌≤◌, ◌==◌, Bool, true, false, not, ◌&&◌, ◌||◌, [], ◌∷◌, Option, Some, None, if◌then◌else◌, eqb, is_none, length, nat_le, nat_lt, unwrap_or, subst, refl, sym, ◌∙◌, ◌⊎◌, inl, inr, ap, arith}
use Rattle.std.proofs.lemmas.Bool.{and_parts, eq-eqb, eqb-true}
use Rattle.std.proofs.lemmas.Bool.Decides.{eqb_tells, nat_tests}
use Rattle.bus_words.specs.Lanes.{has_lane, word_address}
use Rattle.byte_orders.specs.Holdings.{crowd, with_begun}
use Rattle.byte_values.specs.Words.{WordList, begun_word, lane_list}
use Rattle.byte_values.proofs.WordLaws.{lane_begun}
use Rattle.sparse_memory.specs.SparseMemory.{bytes_in, doubts_in, is_strobed, put_flags}
use Rattle.value_tables.specs.Shelves.{first_list}
use Rattle.value_tables.specs.Tables.{TableState, begun_at, has_room, list_at, lost_since}
use Rattle.value_tables.proofs.TableLaws.{begun_full, begun_here, begun_other, room_there}
use Rattle.value_memory.specs.InsideValues.{BeginsBeside, BeginsElsewhere, BeginsThere, HasBegun, HasBegunUntil, IsCrowd, IsGivenUp, IsLost, begun_table, finds_place, is_ahead, is_full_list, is_given, is_given_up, settled_in, with_table}
use Rattle.value_memory.specs.ValueMemory.{IsByteRange, ValueState, held_in, is_in, settled_holding, word_count}
use Rattle.value_memory.specs.declared.ByteRange.{ByteRange}
use Rattle.value_memory.proofs.HeldLaws.{first-roomy, held-listed, held-same, held-unlisted, lane-first, lost-same}
use Rattle.value_memory.proofs.RangeWords.{words_share}

below_eight : (x : ℕ) → x % 8 < 8
below_eight x = omega arith

-- ---- the word has a list, or gets one

-- the lists are what they were but at one word, where one has the request
pub record HasList (m new : ValueState) (address lanes : ℕ) (first : WordList) : Type 0 where
  pub here : list_at new.table (address / 8) ≡ Some (begun_word m.begun lanes first)
  pub others : (word : ℕ) → word ≢ address / 8 → list_at new.table word ≡ list_at m.table word
  pub lost : new.table.lost ≡ m.table.lost
  pub oldest : new.oldest ≡ m.oldest
  pub settled : new.settled ≡ m.settled
  pub first_held : (x : ℕ) → x / 8 ≡ address / 8 → lane_list (x % 8) first ≡ held_in m x

-- a byte of another word
elsewhere-listed : (m new : ValueState) (address lanes : ℕ) (first : WordList) (x : ℕ) → HasList m new address lanes first → x / 8 ≢ address / 8 → held_in new x ≡ held_in m x
elsewhere-listed m new address lanes first x has differs =
    held-same m new x (record {
      list = has.others (x / 8) differs;
      lost = lost-same m new has.lost has.oldest;
      doubt = ap (λ s. doubts_in s x) has.settled;
      byte = ap (λ s. bytes_in s x) has.settled;
    })

-- a byte of the word
here-listed : (m new : ValueState) (address lanes : ℕ) (first : WordList) (x : ℕ) → HasList m new address lanes first → x / 8 ≡ address / 8
    → held_in new x ≡ (if nat_lt (length first.held) 12 then (if has_lane lanes (x % 8) then with_begun m.begun (held_in m x) else held_in m x) else crowd m.begun ∷ [])
here-listed m new address lanes first x has same =
    held-listed new x (begun_word m.begun lanes first) (ap (list_at new.table) same ∙ has.here)
    ∙ lane_begun (x % 8) (below_eight x) m.begun lanes first
    ∙ ap (λ hs. if nat_lt (length first.held) 12 then (if has_lane lanes (x % 8) then with_begun m.begun hs else hs) else crowd m.begun ∷ []) (has.first_held x same)

-- what begins there, by whether the list is full
pub record BeginsAll (m new : ValueState) (address lanes : ℕ) (crowded : Bool) : Type 0 where
  pub given : (x : ℕ) → is_given address lanes x ≡ true → BeginsThere m.begun m new crowded x
  pub beside : (x : ℕ) → x / 8 ≡ address / 8 → is_given address lanes x ≡ false → BeginsBeside m.begun m new crowded x
  pub others : (x : ℕ) → (x / 8 ≡ address / 8 → ⊥) → BeginsElsewhere m.begun m new crowded x

given-parts : (address lanes x : ℕ) → is_given address lanes x ≡ true → (x / 8 ≡ address / 8) × (has_lane lanes (x % 8) ≡ true)
given-parts address lanes x is =
    let both = and_parts (x / 8 == address / 8) (has_lane lanes (x % 8)) is in
    (eqb-true (x / 8) (address / 8) both.0, both.1)

beside-lane : (address lanes x : ℕ) → x / 8 ≡ address / 8 → is_given address lanes x ≡ false → has_lane lanes (x % 8) ≡ false
beside-lane address lanes x same is = ap (λ b. b && has_lane lanes (x % 8)) (sym (eq-eqb (x / 8) (address / 8) same)) ∙ is

-- where it has a list, or none was given up for this request
pub begins-listed : (m new : ValueState) (address lanes : ℕ) (first : WordList) (full : Bool) → HasList m new address lanes first → full ≡ not (nat_lt (length first.held) 12)
    → ((list_at m.table (address / 8) ≡ None) → (m.table.lost ≡ m.begun) → ⊥) → BeginsAll m new address lanes full
begins-listed m new address lanes first full has is free =
    record { given = given; beside = beside; others = others }
  where
    never : (x : ℕ) → x / 8 ≡ address / 8 → IsGivenUp m.begun m x → ⊥
    never x same up = free (ap (list_at m.table) (sym same) ∙ up.none) up.lost

    given : (x : ℕ) → is_given address lanes x ≡ true → BeginsThere m.begun m new full x
    given x at = by_room (nat_lt (length first.held) 12) refl
      where
        parts : (x / 8 ≡ address / 8) × (has_lane lanes (x % 8) ≡ true)
        parts = given-parts address lanes x at

        held : held_in new x ≡ (if nat_lt (length first.held) 12 then with_begun m.begun (held_in m x) else crowd m.begun ∷ [])
        held =
            here-listed m new address lanes first x has parts.0
            ∙ ap (λ b. if nat_lt (length first.held) 12 then (if b then with_begun m.begun (held_in m x) else held_in m x) else crowd m.begun ∷ []) parts.1

        by_room : (b : Bool) → nat_lt (length first.held) 12 ≡ b → BeginsThere m.begun m new full x
        by_room true room = inl (held ∙ ap (λ b. if b then with_begun m.begun (held_in m x) else crowd m.begun ∷ []) room, never x parts.0)
        by_room false room = inr (is ∙ ap not room, record { held = held ∙ ap (λ b. if b then with_begun m.begun (held_in m x) else crowd m.begun ∷ []) room })

    beside : (x : ℕ) → x / 8 ≡ address / 8 → is_given address lanes x ≡ false → BeginsBeside m.begun m new full x
    beside x same at = by_room (nat_lt (length first.held) 12) refl
      where
        held : held_in new x ≡ (if nat_lt (length first.held) 12 then held_in m x else crowd m.begun ∷ [])
        held =
            here-listed m new address lanes first x has same
            ∙ ap (λ b. if nat_lt (length first.held) 12 then (if b then with_begun m.begun (held_in m x) else held_in m x) else crowd m.begun ∷ []) (beside-lane address lanes x same at)

        by_room : (b : Bool) → nat_lt (length first.held) 12 ≡ b → BeginsBeside m.begun m new full x
        by_room true room = inl (held ∙ ap (λ b. if b then held_in m x else crowd m.begun ∷ []) room)
        by_room false room = inr (is ∙ ap not room, record { held = held ∙ ap (λ b. if b then held_in m x else crowd m.begun ∷ []) room })

    others : (x : ℕ) → (x / 8 ≡ address / 8 → ⊥) → BeginsElsewhere m.begun m new full x
    others x differs =
        let same = elsewhere-listed m new address lanes first x has differs in
        record { held = inl same; stays = λ up. record { none = has.others (x / 8) differs ∙ up.none; lost = has.lost ∙ up.lost; held = same ∙ up.held } }

-- ---- it finds no place

-- lists are what they were, and the last request is the one that found none
pub record IsLostNow (m new : ValueState) (address lanes : ℕ) : Type 0 where
  pub none : list_at m.table (address / 8) ≡ None
  pub lists : (word : ℕ) → list_at new.table word ≡ list_at m.table word
  pub lost : new.table.lost ≡ m.begun
  pub oldest : new.oldest ≡ m.oldest
  pub doubts : doubts_in new.settled ≡ put_flags address lanes lanes (doubts_in m.settled)
  pub bytes : bytes_in new.settled ≡ bytes_in m.settled
  pub some : 0 < m.begun
  pub young : m.oldest ≤ m.begun

lost_now : (m new : ValueState) (address lanes : ℕ) → IsLostNow m new address lanes → lost_since new.table new.oldest ≡ Some m.begun
lost_now m new address lanes is =
    let some : nat_lt 0 m.begun ≡ true = grind (arith, nat_tests, is.some) in
    let young : nat_le m.oldest m.begun ≡ true = grind (arith, nat_tests, is.young) in
    ap (λ n. if nat_lt 0 n && nat_le new.oldest n then Some n else None) is.lost
    ∙ ap (λ o. if nat_lt 0 m.begun && nat_le o m.begun then Some m.begun else None) is.oldest
    ∙ ap (λ b. if b && nat_le m.oldest m.begun then Some m.begun else None) some
    ∙ ap (λ b. if b then Some m.begun else None) young

-- a byte whose word has no list, by whether it is in doubt now
unlisted-now : (m new : ValueState) (address lanes x : ℕ) → IsLostNow m new address lanes → list_at m.table (x / 8) ≡ None
    → held_in new x ≡ settled_holding (Some m.begun) (put_flags address lanes lanes (doubts_in m.settled) x) (bytes_in m.settled x) ∷ []
unlisted-now m new address lanes x is none =
    held-unlisted new x (is.lists (x / 8) ∙ none)
    ∙ ap (λ l. settled_holding l (doubts_in new.settled x) (bytes_in new.settled x) ∷ []) (lost_now m new address lanes is)
    ∙ ap (λ f. settled_holding (Some m.begun) (f x) (bytes_in new.settled x) ∷ []) is.doubts
    ∙ ap (λ f. settled_holding (Some m.begun) (put_flags address lanes lanes (doubts_in m.settled) x) (f x) ∷ []) is.bytes

-- one in doubt is given up, and one that is known stays
unlisted-kept : (m new : ValueState) (address lanes x : ℕ) → IsLostNow m new address lanes → list_at m.table (x / 8) ≡ None → is_strobed address lanes x ≡ false
    → (held_in new x ≡ held_in m x) ⊎ (held_in new x ≡ crowd m.begun ∷ [])
unlisted-kept m new address lanes x is none apart = by_doubt (doubts_in m.settled x) refl
  where
    now : held_in new x ≡ settled_holding (Some m.begun) (doubts_in m.settled x) (bytes_in m.settled x) ∷ []
    now =
        unlisted-now m new address lanes x is none
        ∙ ap (λ b. settled_holding (Some m.begun) (if b then has_lane lanes (x % 8) else doubts_in m.settled x) (bytes_in m.settled x) ∷ []) apart

    by_doubt : (b : Bool) → doubts_in m.settled x ≡ b → (held_in new x ≡ held_in m x) ⊎ (held_in new x ≡ crowd m.begun ∷ [])
    by_doubt true doubt = inr (now ∙ ap (λ b. settled_holding (Some m.begun) b (bytes_in m.settled x) ∷ []) doubt)
    by_doubt false doubt =
        inl (now ∙ ap (λ b. settled_holding (Some m.begun) b (bytes_in m.settled x) ∷ []) doubt
        ∙ sym (held-unlisted m x none ∙ ap (λ b. settled_holding (lost_since m.table m.oldest) b (bytes_in m.settled x) ∷ []) doubt))

-- and one whose word has a list does too
listed-kept : (m new : ValueState) (address lanes x : ℕ) (list : WordList) → IsLostNow m new address lanes → list_at m.table (x / 8) ≡ Some list → held_in new x ≡ held_in m x
listed-kept m new address lanes x list is there = held-listed new x list (is.lists (x / 8) ∙ there) ∙ sym (held-listed m x list there)

strobed-given : (address lanes x : ℕ) → x / 8 ≡ address / 8 → is_strobed address lanes x ≡ has_lane lanes (x % 8)
strobed-given address lanes x same = ap (λ b. b && has_lane lanes (x % 8)) (eq-eqb (word_address x) (word_address address) (ap (λ w. w * 8) same))

strobed-elsewhere : (address lanes x : ℕ) → (x / 8 ≡ address / 8 → ⊥) → is_strobed address lanes x ≡ false
strobed-elsewhere address lanes x differs = by_test (word_address x == word_address address) refl
  where
    by_test : (b : Bool) → (word_address x == word_address address) ≡ b → (b && has_lane lanes (x % 8)) ≡ false
    by_test false is = refl
    by_test true is = let same : x / 8 ≡ address / 8 = omega (arith, eqb-true (word_address x) (word_address address) is) in absurd (differs same)

pub begins-lost : (m new : ValueState) (address lanes : ℕ) → IsLostNow m new address lanes → BeginsAll m new address lanes true
begins-lost m new address lanes is = record { given = given; beside = beside; others = others }
  where
    here : (x : ℕ) → x / 8 ≡ address / 8 → list_at m.table (x / 8) ≡ None
    here x same = ap (list_at m.table) same ∙ is.none

    given : (x : ℕ) → is_given address lanes x ≡ true → BeginsThere m.begun m new true x
    given x at =
        let parts = given-parts address lanes x at in
        let strobed : is_strobed address lanes x ≡ true = strobed-given address lanes x parts.0 ∙ parts.1 in
        inr (
          refl,
          record {
            held =
                unlisted-now m new address lanes x is (here x parts.0)
                ∙ ap (λ b. settled_holding (Some m.begun) (if b then has_lane lanes (x % 8) else doubts_in m.settled x) (bytes_in m.settled x) ∷ []) strobed
                ∙ ap (λ b. settled_holding (Some m.begun) b (bytes_in m.settled x) ∷ []) parts.1;
          },
        )

    beside : (x : ℕ) → x / 8 ≡ address / 8 → is_given address lanes x ≡ false → BeginsBeside m.begun m new true x
    beside x same at =
        elim (unlisted-kept m new address lanes x is (here x same) (strobed-given address lanes x same ∙ beside-lane address lanes x same at)) [
          | inl kept ↦ inl kept
          | inr crowded ↦ inr (refl, record { held = crowded })
        ]

    others : (x : ℕ) → (x / 8 ≡ address / 8 → ⊥) → BeginsElsewhere m.begun m new true x
    others x differs = by_list (list_at m.table (x / 8)) refl
      where
        apart : is_strobed address lanes x ≡ false
        apart = strobed-elsewhere address lanes x differs

        stays : list_at m.table (x / 8) ≡ None → held_in m x ≡ crowd m.begun ∷ [] → IsGivenUp m.begun new x
        stays none crowded =
            record {
              none = is.lists (x / 8) ∙ none;
              lost = is.lost;
              held = elim (unlisted-kept m new address lanes x is none apart) [ inl kept ↦ kept ∙ crowded | inr up ↦ up ];
            }

        by_list : (o : Option WordList) → list_at m.table (x / 8) ≡ o → BeginsElsewhere m.begun m new true x
        by_list (Some list) there =
            record {
              held = inl (listed-kept m new address lanes x list is there);
              stays = λ up. let never : Some list ≡ None = sym there ∙ up.none in absurd (cc);
            }
        by_list None none =
            record {
              held = elim (unlisted-kept m new address lanes x is none apart) [
                | inl kept ↦ inl kept
                | inr up ↦ inr (refl, record { none = is.lists (x / 8) ∙ none; lost = is.lost; held = up })
              ];
              stays = λ up. stays none up.held;
            }

-- ---- which of both it is

-- a word that finds a place has a list then
pub begins_found : (m new : ValueState) (address lanes : ℕ) (full : Bool) → new ≡ with_table m (begun_table m (address / 8) lanes (settled_in m address))
    → finds_place m (address / 8) ≡ true → full ≡ is_full_list (list_at m.table (address / 8)) → BeginsAll m new address lanes full
begins_found m new address lanes full is found filled = by_list (list_at m.table (address / 8)) refl
  where
    word : ℕ
    word = address / 8

    parts : (not (is_given_up m (address / 8)) ≡ true) × (has_room m.table (address / 8) ≡ true)
    parts = and_parts (not (is_given_up m (address / 8))) (has_room m.table (address / 8)) found

    stays : is_given_up m (address / 8) ≡ false
    stays = by_test (is_given_up m (address / 8)) parts.0
      where
        by_test : (b : Bool) → not b ≡ true → b ≡ false
        by_test true test = let never : false ≡ true = test in absurd (cc)
        by_test false test = refl

    table : new.table ≡ begun_at (address / 8) m.begun lanes (settled_in m address) m.oldest m.table
    table =
        ap (λ (n : ValueState). n.table) is
        ∙ ap (λ b. if b then m.table else begun_at (address / 8) m.begun lanes (settled_in m address) m.oldest m.table) stays

    has : (first : WordList) → unwrap_or (list_at m.table (address / 8)) (first_list (lost_since m.table m.oldest) (settled_in m address)) ≡ first
        → ((x : ℕ) → x / 8 ≡ address / 8 → lane_list (x % 8) first ≡ held_in m x) → HasList m new address lanes first
    has first stood held =
        record {
          here =
              ap (λ t. list_at t (address / 8)) table
              ∙ begun_here (address / 8) m.begun lanes (settled_in m address) m.oldest m.table parts.1
              ∙ ap (λ l. Some (begun_word m.begun lanes l)) stood;
          others = λ other differs. ap (λ t. list_at t other) table ∙ begun_other (address / 8) other m.begun lanes (settled_in m address) m.oldest m.table differs;
          lost = ap (λ (t : TableState). t.lost) table ∙ ap (λ b. if b then m.table.lost else m.begun) parts.1;
          oldest = ap (λ (n : ValueState). n.oldest) is;
          settled = ap (λ (n : ValueState). n.settled) is;
          first_held = held;
        }

    by_list : (o : Option WordList) → list_at m.table (address / 8) ≡ o → BeginsAll m new address lanes full
    by_list (Some list) there =
        begins-listed m new address lanes list full
        (has list (ap (λ o. unwrap_or o (first_list (lost_since m.table m.oldest) (settled_in m address))) there)
        (λ x same. sym (held-listed m x list (ap (list_at m.table) same ∙ there))))
        (filled ∙ ap is_full_list there) (λ none lost. let never : Some list ≡ None = sym there ∙ none in absurd (cc))
    by_list None there =
        begins-listed m new address lanes (first_list (lost_since m.table m.oldest) (settled_in m address)) full
        (has (first_list (lost_since m.table m.oldest) (settled_in m address)) (ap (λ o. unwrap_or o (first_list (lost_since m.table m.oldest) (settled_in m address))) there)
        (λ x same. lane-first m address x (lost_since m.table m.oldest) same ∙ sym (held-unlisted m x (ap (list_at m.table) same ∙ there))))
        (filled ∙ ap is_full_list there ∙ ap not (sym (first-roomy (lost_since m.table m.oldest) (settled_in m address))))
        (λ none lost.
        let up : is_given_up m (address / 8) ≡ true = ap (λ b. b && is_none (list_at m.table (address / 8))) (eq-eqb m.table.lost m.begun lost) ∙ ap (λ o. is_none o) there in
        let never : true ≡ false = sym up ∙ stays in
        absurd (cc))

-- where it finds none it has none
pub begins_missed : (m mid new : ValueState) (address lanes : ℕ) → mid ≡ with_table m (begun_table m (address / 8) lanes (settled_in m address)) → finds_place m (address / 8) ≡ false
    → new.table ≡ mid.table → new.oldest ≡ mid.oldest → doubts_in new.settled ≡ put_flags address lanes lanes (doubts_in mid.settled) → bytes_in new.settled ≡ bytes_in mid.settled
    → 0 < m.begun → m.oldest ≤ m.begun → BeginsAll m new address lanes true
begins_missed m mid new address lanes is missed table oldest doubts bytes some young = by_up (is_given_up m (address / 8)) refl
  where
    lost : (list_at m.table (address / 8) ≡ None) → ((other : ℕ) → list_at mid.table other ≡ list_at m.table other) → mid.table.lost ≡ m.begun → BeginsAll m new address lanes true
    lost none lists at =
        begins-lost m new address lanes (record {
          none = none;
          lists = λ other. ap (λ t. list_at t other) table ∙ lists other;
          lost = ap (λ (t : TableState). t.lost) table ∙ at;
          oldest = oldest ∙ ap (λ (n : ValueState). n.oldest) is;
          doubts = doubts ∙ ap (λ (n : ValueState). put_flags address lanes lanes (doubts_in n.settled)) is;
          bytes = bytes ∙ ap (λ (n : ValueState). bytes_in n.settled) is;
          some = some;
          young = young;
        })

    table_if : (b : Bool) → is_given_up m (address / 8) ≡ b → mid.table ≡ (if b then m.table else begun_at (address / 8) m.begun lanes (settled_in m address) m.oldest m.table)
    table_if b up =
        ap (λ (n : ValueState). n.table) is
        ∙ ap (λ t. if t then m.table else begun_at (address / 8) m.begun lanes (settled_in m address) m.oldest m.table) up

    no_list : has_room m.table (address / 8) ≡ false → (o : Option WordList) → list_at m.table (address / 8) ≡ o → o ≡ None
    no_list full None there = refl
    no_list full (Some list) there = let never : true ≡ false = sym (room_there (address / 8) m.table list there) ∙ full in absurd (cc)

    none_if : (o : Option WordList) → is_none o ≡ true → o ≡ None
    none_if None test = refl
    none_if (Some list) test = let never : false ≡ true = test in absurd (cc)

    by_up : (b : Bool) → is_given_up m (address / 8) ≡ b → BeginsAll m new address lanes true
    by_up true up =
        let both = and_parts (m.table.lost == m.begun) (is_none (list_at m.table (address / 8))) up in
        let same : mid.table ≡ m.table = table_if true up in
        lost (none_if (list_at m.table (address / 8)) both.1) (λ other. ap (λ t. list_at t other) same) (ap (λ (t : TableState). t.lost) same ∙ eqb-true m.table.lost m.begun both.0)
    by_up false up =
        let full : has_room m.table (address / 8) ≡ false = ap (λ b. not b && has_room m.table (address / 8)) (sym up) ∙ missed in
        let same : mid.table ≡ record m.table { lost = m.begun } =
        table_if false up ∙ begun_full (address / 8) m.begun lanes (settled_in m address) m.oldest m.table full
        in
        lost (no_list full (list_at m.table (address / 8)) refl) (λ other. ap (λ t. list_at t other) same) (ap (λ (t : TableState). t.lost) same)

-- ---- the words of a range, one after another

pub begun_none : (number : ℕ) (range : ByteRange) (m : ValueState) (crowded : Bool) (x : ℕ) → ((is_in range x ≡ true) → range.address / 8 ≤ x / 8)
    → HasBegunUntil number range 0 m m crowded x
begun_none number range m crowded x words = inl (by_in (is_in range x) refl)
  where
    by_in : (b : Bool) → is_in range x ≡ b → held_in m x ≡ (if b && is_ahead range 0 x then with_begun number (held_in m x) else held_in m x)
    by_in false is = refl
    by_in true is =
        let behind : is_ahead range 0 x ≡ false = grind (arith, nat_tests, words is) in
        rw behind refl

or-left : (a b : Bool) → a ≡ true → (a || b) ≡ true
or-left true b is = refl
or-left false b is = let never : false ≡ true = is in absurd (cc)

or-right : (a b : Bool) → b ≡ true → (a || b) ≡ true
or-right true b is = refl
or-right false b is = is

-- one that is given up is a crowd
lost-crowd : (number : ℕ) (m : ValueState) (x : ℕ) (open_yet : Bool) → IsLost number m x open_yet → held_in m x ≡ crowd number ∷ []
lost-crowd number m x true lost = lost.held
lost-crowd number m x false lost = lost.held

module _ (range : ByteRange) (place : ℕ) (old m new : ValueState) (before crowded : Bool) (x : ℕ) where
  -- what is held of a byte, by whether the range has it, and whether its word is ahead
  abbrev Until : Bool → Bool → ValueState → Bool → Type 0
  Until inside ahead n some =
      (held_in n x ≡ (if inside && ahead then with_begun m.begun (held_in old x) else held_in old x)) ⊎ ((some ≡ true) × IsLost m.begun n x (inside && not ahead))

  -- a byte of the word, which the range has
  begun_inside : BeginsThere m.begun m new crowded x → Until true false m before → Until true true new (before || crowded)
  begun_inside (inl begins) (inl was) = inl (begins.0 ∙ ap (with_begun m.begun) was)
  begun_inside (inl begins) (inr lost) = absurd (begins.1 lost.1)
  begun_inside (inr lost) was = inr (or-right before crowded lost.0, lost.1)

  -- another byte of the word
  begun_beside : (was_ahead ahead : Bool) → BeginsBeside m.begun m new crowded x → Until false was_ahead m before → Until false ahead new (before || crowded)
  begun_beside was_ahead ahead (inl same) (inl was) = inl (same ∙ was)
  begun_beside was_ahead ahead (inl same) (inr lost) = inr (or-left before crowded lost.0, record { held = same ∙ lost.1.held })
  begun_beside was_ahead ahead (inr lost) was = inr (or-right before crowded lost.0, lost.1)

  stays_lost : (b : Bool) → held_in new x ≡ held_in m x → (IsGivenUp m.begun m x → IsGivenUp m.begun new x) → IsLost m.begun m x b → IsLost m.begun new x b
  stays_lost true same stays lost = stays lost
  stays_lost false same stays lost = record { held = same ∙ lost.held }

  given_up : (b : Bool) → IsGivenUp m.begun new x → IsLost m.begun new x b
  given_up true up = up
  given_up false up = record { held = up.held }

  -- a byte of another word
  begun_elsewhere : (inside ahead : Bool) → BeginsElsewhere m.begun m new crowded x → Until inside ahead m before → Until inside ahead new (before || crowded)
  begun_elsewhere inside ahead begins was = by_held begins.held was
    where
      by_held : (held_in new x ≡ held_in m x) ⊎ ((crowded ≡ true) × IsGivenUp m.begun new x) → Until inside ahead m before → Until inside ahead new (before || crowded)
      by_held (inl same) (inl was) = inl (same ∙ was)
      by_held (inl same) (inr lost) = inr (or-left before crowded lost.0, stays_lost (inside && not ahead) same begins.stays lost.1)
      by_held (inr up) was = inr (or-right before crowded up.0, given_up (inside && not ahead) up.1)

  turned : (inside inside_too ahead ahead_too : Bool) (n : ValueState) (some : Bool) → inside ≡ inside_too → ahead ≡ ahead_too → Until inside ahead n some
      → Until inside_too ahead_too n some
  turned inside inside_too ahead ahead_too n some same level until =
      let P : Bool → Type 0 = λ b. Until b ahead n some in
      let Q : Bool → Type 0 = λ b. Until inside_too b n some in
      subst Q level (subst P same until)

pub begun_more : (range : ByteRange) (place lanes : ℕ) (old m new : ValueState) (before crowded : Bool) → BeginsAll m new (range.address + place * 8) lanes crowded
    → ((x : ℕ) → x / 8 ≡ range.address / 8 + place → has_lane lanes (x % 8) ≡ is_in range x)
    → ((x : ℕ) → HasBegunUntil m.begun range place old m before x) → (x : ℕ) → HasBegunUntil m.begun range (place + 1) old new (before || crowded) x
begun_more range place lanes old m new before crowded begins own until x = by_word (eqb_tells (x / 8) (range.address / 8 + place))
  where
    address : ℕ
    address = range.address + place * 8

    word_is : (range.address + place * 8) / 8 ≡ range.address / 8 + place
    word_is = omega arith

    was : (inside ahead : Bool) → is_in range x ≡ inside → is_ahead range place x ≡ ahead → Until range place old m new before crowded x inside ahead m before
    was inside ahead is level = turned range place old m new before crowded x (is_in range x) inside (is_ahead range place x) ahead m before is level (until x)

    becomes : (inside ahead : Bool) → is_in range x ≡ inside → is_ahead range (place + 1) x ≡ ahead
        → Until range place old m new before crowded x inside ahead new (before || crowded) → HasBegunUntil m.begun range (place + 1) old new (before || crowded) x
    becomes inside ahead is level until_then =
        turned range place old m new before crowded x inside (is_in range x) ahead (is_ahead range (place + 1) x) new (before || crowded) (sym is) (sym level) until_then

    here : x / 8 ≡ range.address / 8 + place → (b : Bool) → is_in range x ≡ b → HasBegunUntil m.begun range (place + 1) old new (before || crowded) x
    here same true is =
        let word : x / 8 ≡ (range.address + place * 8) / 8 = same ∙ sym word_is in
        let given : is_given (range.address + place * 8) lanes x ≡ true =
        ap (λ b. b && has_lane lanes (x % 8)) (eq-eqb (x / 8) ((range.address + place * 8) / 8) word) ∙ own x same ∙ is in
        let behind : is_ahead range place x ≡ false = grind (arith, nat_tests, same) in
        let ahead : is_ahead range (place + 1) x ≡ true = grind (arith, nat_tests, same) in
        becomes true true is ahead (begun_inside range place old m new before crowded x (begins.given x given) (was true false is behind))
    here same false is =
        let word : x / 8 ≡ (range.address + place * 8) / 8 = same ∙ sym word_is in
        let other : is_given (range.address + place * 8) lanes x ≡ false =
        ap (λ b. b && has_lane lanes (x % 8)) (eq-eqb (x / 8) ((range.address + place * 8) / 8) word) ∙ own x same ∙ is in
        becomes false (is_ahead range (place + 1) x) is refl
        (begun_beside range place old m new before crowded x (is_ahead range place x) (is_ahead range (place + 1) x) (begins.beside x word other) (was false (is_ahead range place x) is refl))

    apart : x / 8 ≢ range.address / 8 + place → HasBegunUntil m.begun range (place + 1) old new (before || crowded) x
    apart differs =
        let word : x / 8 ≡ (range.address + place * 8) / 8 → ⊥ = λ same. differs (same ∙ word_is) in
        let level : is_ahead range (place + 1) x ≡ is_ahead range place x = grind (arith, nat_tests, differs) in
        becomes (is_in range x) (is_ahead range place x) refl level
        (begun_elsewhere range place old m new before crowded x (is_in range x) (is_ahead range place x) (begins.others x word) (was (is_in range x) (is_ahead range place x) refl refl))

    by_word : ((eqb (x / 8) (range.address / 8 + place) ≡ true) × (x / 8 ≡ range.address / 8 + place)) ⊎ ((eqb (x / 8) (range.address / 8 + place) ≡ false) × (x / 8 ≢ range.address / 8 + place))
        → HasBegunUntil m.begun range (place + 1) old new (before || crowded) x
    by_word (inl same) = here same.1 (is_in range x) refl
    by_word (inr differs) = apart differs.1

-- when all of its words have come
pub begun_all : (number : ℕ) (range : ByteRange) (old new : ValueState) (crowded : Bool) (x : ℕ) → IsByteRange range → HasBegunUntil number range (word_count range) old new crowded x
    → HasBegun number range old new crowded x
begun_all number range old new crowded x is until = by_in (is_in range x) refl (is_ahead range (word_count range) x) refl until
  where
    by_in : (inside : Bool) → is_in range x ≡ inside → (ahead : Bool) → is_ahead range (word_count range) x ≡ ahead
        → (held_in new x ≡ (if inside && ahead then with_begun number (held_in old x) else held_in old x)) ⊎ ((crowded ≡ true) × IsLost number new x (inside && not ahead))
        → (held_in new x ≡ (if inside then with_begun number (held_in old x) else held_in old x)) ⊎ ((crowded ≡ true) × IsCrowd number new x)
    by_in false is_out ahead level was = was
    by_in true is_within true level was = was
    by_in true is_within false level was =
        let shares : x / 8 < range.address / 8 + word_count range = (words_share range x is is_within).1 in
        let never : true ≡ false = grind (arith, nat_tests, shares, level) in
        absurd (cc)
