-- What a lane settles as, where the lanes of a word settle together.
use Rattle.std.proofs.Common.{◌≡◌, ℕ, ◌<◌, Bool, true, false, not, ◌&&◌, ◌||◌, List, [], ◌∷◌, map, if◌then◌else◌, Option, None, Some, is_some, bit_and, bit_or, refl, sym, ◌∙◌, ap, ap₂, ⊎_elim}
use Rattle.std.specs.Prelude.{filter}
use Rattle.std.specs.List.{cons_option, list_any}
use Rattle.std.proofs.lemmas.Bool.{and_cases, and_parts, and_right}
use Rattle.bus_words.specs.Lanes.{has_lane, lane_byte}
use Rattle.bus_words.proofs.MaskLaws.{has_lane-and, has_lane-mask_of, mask_of-same}
use Rattle.data_unit.proofs.WordLaws.{lane_byte-merged}
use Rattle.byte_orders.specs.Holdings.{Holding, anew, beginning, settled_as, with_settled}
use Rattle.byte_values.specs.declared.known.SettledBytes.{SettledBytes}
use Rattle.byte_values.specs.Parts.{with_all}
use Rattle.byte_values.specs.Words.{WordHolding, WordList, all_joined, beginning_of, byte_if, gives_lanes, holding_in, joined, lane_holding, lane_holdings, lane_list, lanes_without, parted, settled_in, settled_word, settling_lanes}
use Rattle.byte_values.proofs.LaneLists.{any_same, given_any, given_first, given_kept}
use Rattle.byte_values.proofs.LaneSets.{has_lane-none, has_lane-or, has_lane-with_all, has_lane-without}

-- ---- the lanes that settle, by their bits

-- the lanes that one of a list takes that are taken already, where some are
abbrev pub shared_lanes : ℕ → ℕ → List WordHolding → ℕ
shared_lanes taken shared [] = shared
shared_lanes taken shared (w ∷ ws) = shared_lanes (bit_or taken w.lanes) (bit_or shared (bit_and taken w.lanes)) ws

-- the lanes of one, if it is over
abbrev pub over_lanes : WordHolding → ℕ
over_lanes w = if is_some w.over then w.lanes else 0

-- of one lane: whether one is taken that is taken already
abbrev shares : Bool → List Holding → Bool
shares taken [] = false
shares taken (h ∷ hs) = taken || shares true hs

-- what has settled in a lane
abbrev made : Bool → Bool → ℕ → Option Holding
made has knows byte = if has then Some (beginning (if knows then Some byte else None)) else None

module _ (lane : ℕ) (below : lane < 8) where
  shared_in : (taken shared : ℕ) (ws : List WordHolding)
      → has_lane (shared_lanes taken shared ws) lane ≡ (has_lane shared lane || shares (has_lane taken lane) (lane_holdings lane ws))
  unfolding lane_holdings
  shared_in taken shared [] = or_none (has_lane shared lane)
    where
      or_none : (b : Bool) → b ≡ (b || false)
      or_none true = refl
      or_none false = refl
  shared_in taken shared (w ∷ ws) =
      shared_in (bit_or taken w.lanes) (bit_or shared (bit_and taken w.lanes)) ws
      ∙ ap₂ (λ a b. a || shares b (lane_holdings lane ws))
      (has_lane-or shared (bit_and taken w.lanes) lane ∙ ap (λ b. has_lane shared lane || b) (has_lane-and taken w.lanes lane)) (has_lane-or taken w.lanes lane)
      ∙ by_test (has_lane shared lane) (has_lane taken lane) (has_lane w.lanes lane)
    where
      by_test : (s t has : Bool)
          → ((s || t && has) || shares (t || has) (lane_holdings lane ws))
          ≡ (s || shares t (cons_option (if has then Some (holding_in lane w) else None) (lane_holdings lane ws)))
      by_test true true true = refl
      by_test true true false = refl
      by_test true false true = refl
      by_test true false false = refl
      by_test false true true = refl
      by_test false true false = refl
      by_test false false true = refl
      by_test false false false = refl

  over_in : (ws : List WordHolding) → has_lane (with_all over_lanes 0 ws) lane ≡ list_any (λ h. is_some h.over) (lane_holdings lane ws)
  over_in ws =
      has_lane-with_all over_lanes lane 0 ws
      ∙ ap (λ b. b || list_any (λ w. has_lane (over_lanes w) lane) ws) (has_lane-none lane)
      ∙ any_same (λ w. has_lane (over_lanes w) lane) (λ w. has_lane w.lanes lane && is_some w.over)
      (λ w. by_test w (is_some w.over) (has_lane w.lanes lane) refl) ws
      ∙ sym (given_any lane (λ h. is_some h.over) ws)
    where
      by_test : (w : WordHolding) (over has : Bool) → has_lane w.lanes lane ≡ has → has_lane (if over then w.lanes else 0) lane ≡ (has && over)
      by_test w true true is = is
      by_test w true false is = is
      by_test w false true is = has_lane-none lane
      by_test w false false is = has_lane-none lane

  -- one alone that is over
  alone : (taken : Bool) (hs : List Holding) → (list_any (λ h. is_some h.over) hs && not (shares taken hs)) ≡ (is_some (settled_as hs) && not taken)
  alone taken [] = refl
  alone taken (h ∷ []) = by_test (is_some h.over) taken
    where
      by_test : (over b : Bool) → ((over || false) && not (b || false)) ≡ (is_some (if over then Some h.value else None) && not b)
      by_test true true = refl
      by_test true false = refl
      by_test false true = refl
      by_test false false = refl
  alone taken (h ∷ x ∷ rest) = by_test taken
    where
      by_test : (b : Bool) → (list_any (λ o. is_some o.over) (h ∷ x ∷ rest) && not (b || true)) ≡ (false && not b)
      by_test true = and_right (list_any (λ o. is_some o.over) (h ∷ x ∷ rest)) false refl
      by_test false = and_right (list_any (λ o. is_some o.over) (h ∷ x ∷ rest)) false refl

  settling_in : (settled : ℕ) (held : List WordHolding)
      → (has_lane (with_all over_lanes 0 held) lane && not (has_lane (shared_lanes settled 0 held) lane))
      ≡ (is_some (settled_as (lane_holdings lane held)) && not (has_lane settled lane))
  settling_in settled held =
      ap₂ (λ a b. a && not b) (over_in held)
      (shared_in settled 0 held ∙ ap (λ b. b || shares (has_lane settled lane) (lane_holdings lane held)) (has_lane-none lane))
      ∙ alone (has_lane settled lane) (lane_holdings lane held)

  has_lane-settling : (settled : ℕ) (held : List WordHolding)
      → has_lane (settling_lanes settled held) lane ≡ (is_some (settled_as (lane_holdings lane held)) && not (has_lane settled lane))
  unfolding settling_lanes
  has_lane-settling settled held = has_lane-mask_of (λ k. is_some (settled_as (lane_holdings k held)) && not (has_lane settled k)) lane below

  -- ---- what has settled takes over lanes

  module _ (lanes : ℕ) where
    abbrev taken : WordHolding → ℕ
    taken w = bit_and w.lanes lanes

    joined_parts : (s : SettledBytes) (w : WordHolding) (b : Bool) → has_lane (taken w) lane ≡ b
        → lane_holding lane (beginning_of (joined lanes s w))
        ≡ (if b then Some (beginning (byte_if w.known w.value lane)) else lane_holding lane (beginning_of s))
    joined_parts s w b is = by_lanes ∙ by_case b
      where
        in_lanes : has_lane (joined lanes s w).lanes lane ≡ (has_lane s.lanes lane || b)
        in_lanes = has_lane-or s.lanes (taken w) lane ∙ ap (λ x. has_lane s.lanes lane || x) is

        in_known : has_lane (joined lanes s w).known lane ≡ (has_lane s.known lane && not b || has_lane w.known lane && b)
        in_known =
            has_lane-or (lanes_without s.known (taken w)) (bit_and w.known (taken w)) lane
            ∙ ap₂ (λ x y. x || y) (has_lane-without s.known (taken w) lane below ∙ ap (λ x. has_lane s.known lane && not x) is)
            (has_lane-and w.known (taken w) lane ∙ ap (λ x. has_lane w.known lane && x) is)

        in_value : lane_byte (joined lanes s w).value lane ≡ (if b then lane_byte w.value lane else lane_byte s.value lane)
        in_value = lane_byte-merged s.value w.value (taken w) lane below ∙ ap (λ x. if x then lane_byte w.value lane else lane_byte s.value lane) is

        by_lanes : lane_holding lane (beginning_of (joined lanes s w))
            ≡ made (has_lane s.lanes lane || b) (has_lane s.known lane && not b || has_lane w.known lane && b)
            (if b then lane_byte w.value lane else lane_byte s.value lane)
        by_lanes =
            ap (λ x. made x (has_lane (joined lanes s w).known lane) (lane_byte (joined lanes s w).value lane)) in_lanes
            ∙ ap₂ (λ x y. made (has_lane s.lanes lane || b) x y) in_known in_value

        by_both : (x y z : Bool) (m n : ℕ) → made (x || true) (y && false || z && true) m ≡ Some (beginning (if z then Some m else None))
        by_both true true true m n = refl
        by_both true true false m n = refl
        by_both true false true m n = refl
        by_both true false false m n = refl
        by_both false true true m n = refl
        by_both false true false m n = refl
        by_both false false true m n = refl
        by_both false false false m n = refl

        by_none : (x y z : Bool) (n : ℕ) → made (x || false) (y && true || z && false) n ≡ made x y n
        by_none true true true n = refl
        by_none true true false n = refl
        by_none true false true n = refl
        by_none true false false n = refl
        by_none false true true n = refl
        by_none false true false n = refl
        by_none false false true n = refl
        by_none false false false n = refl

        by_case : (c : Bool)
            → made (has_lane s.lanes lane || c) (has_lane s.known lane && not c || has_lane w.known lane && c)
            (if c then lane_byte w.value lane else lane_byte s.value lane)
            ≡ (if c then Some (beginning (byte_if w.known w.value lane)) else lane_holding lane (beginning_of s))
        by_case true = by_both (has_lane s.lanes lane) (has_lane s.known lane) (has_lane w.known lane) (lane_byte w.value lane) (lane_byte s.value lane)
        by_case false = by_none (has_lane s.lanes lane) (has_lane s.known lane) (has_lane w.known lane) (lane_byte s.value lane)

    -- a lane that doesn't settle stays as it is
    others_stay : has_lane lanes lane ≡ false → (s : SettledBytes) (ws : List WordHolding)
        → lane_holding lane (beginning_of (all_joined lanes s ws)) ≡ lane_holding lane (beginning_of s)
    others_stay none s [] = refl
    others_stay none s (w ∷ ws) =
        others_stay none (joined lanes s w) ws
        ∙ joined_parts s w false (has_lane-and w.lanes lanes lane ∙ and_right (has_lane w.lanes lane) (has_lane lanes lane) none)

    -- nor does one that none gives
    not_given : (w : WordHolding) (ws : List WordHolding) → lane_holdings lane (w ∷ ws) ≡ [] → (has_lane w.lanes lane ≡ false) × (lane_holdings lane ws ≡ [])
    unfolding lane_holdings
    not_given w ws none = by_test (has_lane w.lanes lane) none
      where
        by_test : (b : Bool) → cons_option (if b then Some (holding_in lane w) else None) (lane_holdings lane ws) ≡ []
            → (b ≡ false) × (lane_holdings lane ws ≡ [])
        by_test true some = absurd (cc)
        by_test false rest = (refl, rest)

    none_joined : (s : SettledBytes) (ws : List WordHolding) → lane_holdings lane ws ≡ []
        → lane_holding lane (beginning_of (all_joined lanes s ws)) ≡ lane_holding lane (beginning_of s)
    none_joined s [] none = refl
    none_joined s (w ∷ ws) none =
        let parts = not_given w ws none in
        none_joined (joined lanes s w) ws parts.1
        ∙ joined_parts s w false (has_lane-and w.lanes lanes lane ∙ ap (λ b. b && has_lane lanes lane) parts.0)

    -- one that one alone gives takes that over
    one_joined : has_lane lanes lane ≡ true → (s : SettledBytes) (ws : List WordHolding) (h : Holding) → lane_holdings lane ws ≡ h ∷ []
        → lane_holding lane (beginning_of (all_joined lanes s ws)) ≡ Some (beginning h.value)
    unfolding lane_holdings
    one_joined some s [] h is = absurd (cc)
    one_joined some s (w ∷ ws) h is = by_test (has_lane w.lanes lane) refl is (λ later. one_joined some (joined lanes s w) ws h later)
      where
        by_test : (b : Bool) → has_lane w.lanes lane ≡ b → cons_option (if b then Some (holding_in lane w) else None) (lane_holdings lane ws) ≡ h ∷ []
            → (lane_holdings lane ws ≡ h ∷ [] → lane_holding lane (beginning_of (all_joined lanes (joined lanes s w) ws)) ≡ Some (beginning h.value))
            → lane_holding lane (beginning_of (all_joined lanes (joined lanes s w) ws)) ≡ Some (beginning h.value)
        by_test true has same deeper =
            let first : holding_in lane w ≡ h = cc in
            let rest : lane_holdings lane ws ≡ [] = cc in
            none_joined (joined lanes s w) ws rest
            ∙ joined_parts s w true (has_lane-and w.lanes lanes lane ∙ ap₂ (λ a b. a && b) has some)
            ∙ ap (λ (x : Holding). Some (beginning x.value)) first
        by_test false has same deeper = deeper same

    -- what is left of the others
    parted_away : has_lane lanes lane ≡ true → (ws : List WordHolding) → lane_holdings lane (map (parted lanes) ws) ≡ []
    unfolding lane_holdings
    parted_away some [] = refl
    parted_away some (w ∷ ws) =
        let none : has_lane (parted lanes w).lanes lane ≡ false =
        has_lane-without w.lanes lanes lane below ∙ and_right (has_lane w.lanes lane) (not (has_lane lanes lane)) (ap not some) in
        rw none (parted_away some ws)

    parted_none : has_lane lanes lane ≡ false → (ws : List WordHolding) → lane_holdings lane (map (parted lanes) ws) ≡ lane_holdings lane ws
    unfolding lane_holdings
    parted_none none [] = refl
    parted_none none (w ∷ ws) =
        let same : has_lane (parted lanes w).lanes lane ≡ has_lane w.lanes lane =
        has_lane-without w.lanes lanes lane below ∙ ap (λ b. has_lane w.lanes lane && not b) none ∙ and_all (has_lane w.lanes lane) in
        ap (λ b. cons_option (if b then Some (holding_in lane w) else None) (lane_holdings lane (map (parted lanes) ws))) same
        ∙ ap (λ hs. cons_option (lane_holding lane w) hs) (parted_none none ws)
      where
        and_all : (b : Bool) → (b && true) ≡ b
        and_all true = refl
        and_all false = refl

  -- the list of a word in which some lanes settle
  settled_first : (lanes : ℕ) (ws : WordList)
      → lane_list lane (settled_in lanes ws)
      ≡ cons_option (lane_holding lane (beginning_of (all_joined lanes ws.settled ws.held))) (lane_holdings lane (map (parted lanes) ws.held))
  settled_first lanes ws =
      given_first lane (beginning_of (all_joined lanes ws.settled ws.held)) (filter gives_lanes (map (parted lanes) ws.held))
      ∙ ap (λ hs. cons_option (lane_holding lane (beginning_of (all_joined lanes ws.settled ws.held))) hs) (given_kept lane (map (parted lanes) ws.held))

  -- one that has settled, alone
  record IsAlone (hs : List Holding) : Type 0 where
    pub one : Holding
    pub is : hs ≡ one ∷ []
    pub value : settled_as hs ≡ Some one.value

  lone : (hs : List Holding) → is_some (settled_as hs) ≡ true → IsAlone hs
  lone [] some = absurd (cc)
  lone (h ∷ []) some = record { one = h; is = refl; value = by_over h.over some }
    where
      by_over : (over : Option ℕ) → is_some (if is_some over then Some h.value else None) ≡ true → (if is_some over then Some h.value else None) ≡ Some h.value
      by_over None none = absurd (cc)
      by_over (Some time) is = refl
  lone (h ∷ x ∷ rest) some = absurd (cc)

  not_settled : (hs : List Holding) → is_some (settled_as hs) ≡ false → with_settled hs ≡ hs
  not_settled hs none = by_option (settled_as hs) none
    where
      by_option : (o : Option (Option ℕ)) → is_some o ≡ false → anew o hs ≡ hs
      by_option None is = refl
      by_option (Some value) is = absurd (cc)

  -- what has settled before stays
  still_settled : (value : Option ℕ) (hs : List Holding) → with_settled (beginning value ∷ hs) ≡ beginning value ∷ hs
  still_settled value [] = refl
  still_settled value (h ∷ hs) = refl

  abbrev settling : WordList → ℕ
  settling ws = settling_lanes ws.settled.lanes ws.held

  abbrev own : WordList → List Holding
  own ws = lane_holdings lane ws.held

  pub lane_settled : (ws : WordList) → lane_list lane (settled_word ws) ≡ with_settled (lane_list lane ws)
  lane_settled ws = by_test (has_lane (settling ws) lane) refl
    where
      settles : has_lane (settling ws) lane ≡ true → IsAlone (own ws) → has_lane ws.settled.lanes lane ≡ false
          → cons_option (lane_holding lane (beginning_of (all_joined (settling ws) ws.settled ws.held)))
          (lane_holdings lane (map (parted (settling ws)) ws.held))
          ≡ with_settled (lane_list lane ws)
      settles some one none =
          ap₂ (λ o hs. cons_option o hs) (one_joined (settling ws) some ws.settled ws.held one.one one.is) (parted_away (settling ws) some ws.held)
          ∙ sym (ap (λ o. anew o (own ws)) one.value)
          ∙ sym
          (ap with_settled
          (given_first lane (beginning_of ws.settled) ws.held
          ∙ ap (λ b. cons_option (if b then Some (holding_in lane (beginning_of ws.settled)) else None) (own ws)) none))

      stays : (b : Bool) → has_lane ws.settled.lanes lane ≡ b → (is_some (settled_as (own ws)) && not b) ≡ false
          → cons_option (if b then Some (holding_in lane (beginning_of ws.settled)) else None) (own ws)
          ≡ with_settled (cons_option (if b then Some (holding_in lane (beginning_of ws.settled)) else None) (own ws))
      stays true is none = sym (still_settled (byte_if ws.settled.known ws.settled.value lane) (own ws))
      stays false is none =
          sym (not_settled (own ws) (⊎_elim (λ not_one. not_one) (λ wrong. absurd (cc)) (and_cases (is_some (settled_as (own ws))) true none)))

      by_test : (b : Bool) → has_lane (settling ws) lane ≡ b → lane_list lane (settled_word ws) ≡ with_settled (lane_list lane ws)
      by_test true is =
          let parts =
          and_parts (is_some (settled_as (own ws))) (not (has_lane ws.settled.lanes lane)) (sym (has_lane-settling ws.settled.lanes ws.held) ∙ is) in
          settled_first (settling ws) ws ∙ settles is (lone (own ws) parts.0) (turned (has_lane ws.settled.lanes lane) parts.1)
        where
          turned : (b : Bool) → not b ≡ true → b ≡ false
          turned true wrong = absurd (cc)
          turned false right = refl
      by_test false is =
          settled_first (settling ws) ws
          ∙ ap₂ (λ o hs. cons_option o hs) (others_stay (settling ws) is ws.settled ws.held) (parted_none (settling ws) is ws.held)
          ∙ stays (has_lane ws.settled.lanes lane) refl (sym (has_lane-settling ws.settled.lanes ws.held) ∙ is)
          ∙ sym (ap with_settled (given_first lane (beginning_of ws.settled) ws.held))

-- all lanes together
pub settling_without : (settled : ℕ) (held : List WordHolding)
    → lanes_without (with_all over_lanes 0 held) (shared_lanes settled 0 held) ≡ settling_lanes settled held
unfolding lanes_without settling_lanes
settling_without settled held =
    mask_of-same (λ lane. has_lane (with_all over_lanes 0 held) lane && not (has_lane (shared_lanes settled 0 held) lane))
    (λ lane. is_some (settled_as (lane_holdings lane held)) && not (has_lane settled lane))
    (λ lane below. settling_in lane below settled held)
