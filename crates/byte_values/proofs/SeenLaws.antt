-- What is hidden in a lane, and what is told there, where it is asked of all lanes of a word at once.
use Rattle.std.proofs.Common.{◌≡◌, ℕ, ◌-◌, ◌<◌, ◌==◌, Bool, true, false, not, ◌&&◌, ◌||◌, List, ◌∷◌, map, if◌then◌else◌, Option, None, Some, is_none, bit_or, refl, sym, ◌∙◌, ap, ap₂, arith}
use Rattle.std.specs.Prelude.{filter}
use Rattle.std.specs.List.{cons_option, list_any}
use Rattle.std.proofs.lemmas.Bool.{and_right, or_right}
use Rattle.std.proofs.lemmas.Nat.{or_lt}
use Rattle.bus_words.specs.Lanes.{has_lane, lane_byte, mask_of}
use Rattle.bus_words.proofs.MaskLaws.{has_lane-and, has_lane-mask_of, mask_of-lt, mask_of-same, same_lanes}
use Rattle.byte_orders.specs.Accesses.{is_before, may_show}
use Rattle.byte_orders.specs.Holdings.{Holding, hides, is_compared, is_hidden, is_own, may_be_told, may_find, pruned}
use Rattle.byte_values.specs.declared.known.SettledBytes.{SettledBytes}
use Rattle.byte_values.specs.Parts.{found_lanes, hiding_by, showing_lanes, told_by, unknown_by, with_all}
use Rattle.byte_values.specs.Words.{WordHolding, WordList, beginning_of, byte_if, compared_lanes, gives_lanes, holding_in, lane_holding, lane_holdings, lane_list, lanes_without, seen_lanes, seen_of, seen_word, times_of, wrong_lanes}
use Rattle.byte_values.proofs.LaneLists.{any_same, given_any, given_behind, given_filtered, given_first, given_kept, kept_if}
use Rattle.byte_values.proofs.LaneSets.{has_lane-none, has_lane-not, has_lane-or, has_lane-with_all, has_lane-without, or_nothing}

-- what was there before all others began hides nothing
before_none : (over : Option ℕ) → is_before over 0 ≡ false
before_none None = refl
before_none (Some came) = grind arith

module _ (lane : ℕ) (below : lane < 8) where
  pub has_lane-seen : (held : List WordHolding) (reader : ℕ) (w : WordHolding)
      → has_lane (seen_lanes held reader w) lane ≡ (has_lane w.lanes lane && not (is_hidden (lane_holdings lane held) reader (holding_in lane w)))
  unfolding seen_lanes
  has_lane-seen held reader w = has_lane-mask_of (λ k. has_lane w.lanes k && not (is_hidden (lane_holdings k held) reader (holding_in k w))) lane below

  -- the lanes in which some hide one, by their bits
  pub hidden_in : (held : List WordHolding) (reader : ℕ) (w : WordHolding)
      → has_lane (with_all (hiding_by reader w) 0 held) lane ≡ is_hidden (lane_holdings lane held) reader (holding_in lane w)
  hidden_in held reader w =
      has_lane-with_all (hiding_by reader w) lane 0 held
      ∙ ap (λ b. b || list_any (λ o. has_lane (hiding_by reader w o) lane) held) (has_lane-none lane)
      ∙ any_same (λ o. has_lane (hiding_by reader w o) lane) (λ o. has_lane o.lanes lane && hides reader (holding_in lane w) (holding_in lane o))
      (λ o. by_test o (hides reader (times_of w) (times_of o)) (has_lane o.lanes lane) refl) held
      ∙ sym (given_any lane (hides reader (holding_in lane w)) held)
    where
      by_test : (o : WordHolding) (hidden has : Bool) → has_lane o.lanes lane ≡ has → has_lane (if hidden then o.lanes else 0) lane ≡ (has && hidden)
      by_test o true true is = is
      by_test o true false is = is
      by_test o false true is = has_lane-none lane
      by_test o false false is = has_lane-none lane

  -- what has settled hides nothing
  pub hidden_by_held : (s : SettledBytes) (held : List WordHolding) (reader : ℕ) (h : Holding)
      → is_hidden (lane_holdings lane (beginning_of s ∷ held)) reader h ≡ is_hidden (lane_holdings lane held) reader h
  hidden_by_held s held reader h = ap (λ hs. list_any (hides reader h) hs) (given_first lane (beginning_of s) held) ∙ by_test (has_lane s.lanes lane)
    where
      by_test : (b : Bool) → list_any (hides reader h) (cons_option (if b then Some (holding_in lane (beginning_of s)) else None) (lane_holdings lane held))
          ≡ is_hidden (lane_holdings lane held) reader h
      by_test true =
          let none : is_before h.over 0 ≡ false = before_none h.over in
          rw none refl
      by_test false = refl

  -- each is left in the lanes in which it isn't hidden
  seen_there : (ws : WordList) (reader : ℕ) (w : WordHolding)
      → lane_holding lane (seen_of ws.held reader w) ≡ kept_if (λ h. not (is_hidden (lane_list lane ws) reader h)) (lane_holding lane w)
  seen_there ws reader w =
      ap (λ b. if b then Some (holding_in lane w) else None)
      (has_lane-seen ws.held reader w ∙ ap (λ b. has_lane w.lanes lane && not b) (sym (hidden_by_held ws.settled ws.held reader (holding_in lane w))))
      ∙ by_test (has_lane w.lanes lane) (not (is_hidden (lane_list lane ws) reader (holding_in lane w))) refl
    where
      by_test : (has seen : Bool) → not (is_hidden (lane_list lane ws) reader (holding_in lane w)) ≡ seen
          → (if has && seen then Some (holding_in lane w) else None)
          ≡ kept_if (λ h. not (is_hidden (lane_list lane ws) reader h)) (if has then Some (holding_in lane w) else None)
      by_test true true is = rw is refl
      by_test true false is = rw is refl
      by_test false true is = refl
      by_test false false is = refl

  pub lane_seen : (ws : WordList) (oldest : ℕ) → lane_list lane (seen_word oldest ws) ≡ pruned oldest (lane_list lane ws)
  lane_seen ws oldest =
      given_behind lane (seen_of ws.held oldest (beginning_of ws.settled)) (filter gives_lanes (map (seen_of ws.held oldest) ws.held))
      (map (seen_of ws.held oldest) ws.held) (given_kept lane (map (seen_of ws.held oldest) ws.held))
      ∙ given_filtered lane (seen_of ws.held oldest) (λ h. not (is_hidden (lane_list lane ws) oldest h)) (seen_there ws oldest)
      (beginning_of ws.settled ∷ ws.held)

  -- ---- what a request may find

  pub found_in : (ws : WordList) (number : ℕ) (w : WordHolding)
      → has_lane (found_lanes ws.held number w) lane ≡ (has_lane w.lanes lane && may_find (lane_list lane ws) number (holding_in lane w))
  found_in ws number w = by_own (is_own number (times_of w)) refl
    where
      by_own : (b : Bool) → is_own number (times_of w) ≡ b
          → has_lane (if b then 0 else seen_lanes ws.held number w) lane
          ≡ (has_lane w.lanes lane && (not b && not (is_hidden (lane_list lane ws) number (holding_in lane w))))
      by_own true is = has_lane-none lane ∙ sym (and_right (has_lane w.lanes lane) false refl)
      by_own false is =
          has_lane-seen ws.held number w ∙ ap (λ b. has_lane w.lanes lane && not b) (sym (hidden_by_held ws.settled ws.held number (holding_in lane w)))

  both : (a b c : Bool) → ((a && b) && c) ≡ (a && (b && c))
  both true b c = refl
  both false b c = refl

  has_lane-showing : (w : WordHolding) (payload : ℕ)
      → has_lane (showing_lanes w payload) lane ≡ may_show (byte_if w.known w.value lane) (lane_byte payload lane)
  unfolding showing_lanes
  has_lane-showing w payload = has_lane-mask_of (λ k. may_show (byte_if w.known w.value k) (lane_byte payload k)) lane below

  abbrev tells : WordList → ℕ → ℕ → Holding → Bool
  tells ws number payload h = may_find (lane_list lane ws) number h && may_show h.value (lane_byte payload lane)

  abbrev finds : WordList → ℕ → Holding → Bool
  finds ws number h = may_find (lane_list lane ws) number h && is_none h.value

  -- the lanes in which it may be told a payload
  pub told_in : (ws : WordList) (number payload : ℕ)
      → has_lane (with_all (told_by ws.held number payload) 0 (beginning_of ws.settled ∷ ws.held)) lane
      ≡ may_be_told (lane_list lane ws) number (lane_byte payload lane)
  told_in ws number payload =
      has_lane-with_all (told_by ws.held number payload) lane 0 (beginning_of ws.settled ∷ ws.held)
      ∙ ap (λ b. b || list_any (λ w. has_lane (told_by ws.held number payload w) lane) (beginning_of ws.settled ∷ ws.held)) (has_lane-none lane)
      ∙ any_same (λ w. has_lane (told_by ws.held number payload w) lane) (λ w. has_lane w.lanes lane && tells ws number payload (holding_in lane w)) told
      (beginning_of ws.settled ∷ ws.held)
      ∙ sym (given_any lane (tells ws number payload) (beginning_of ws.settled ∷ ws.held))
    where
      told : (w : WordHolding) → has_lane (told_by ws.held number payload w) lane ≡ (has_lane w.lanes lane && tells ws number payload (holding_in lane w))
      told w =
          has_lane-and (found_lanes ws.held number w) (showing_lanes w payload) lane
          ∙ ap₂ (λ a b. a && b) (found_in ws number w) (has_lane-showing w payload)
          ∙ both (has_lane w.lanes lane) (may_find (lane_list lane ws) number (holding_in lane w))
          (may_show (byte_if w.known w.value lane) (lane_byte payload lane))

  -- those in which it may find what nobody knows
  pub unknown_in : (ws : WordList) (number : ℕ)
      → has_lane (with_all (unknown_by ws.held number) 0 (beginning_of ws.settled ∷ ws.held)) lane
      ≡ list_any (λ h. may_find (lane_list lane ws) number h && is_none h.value) (lane_list lane ws)
  unknown_in ws number =
      has_lane-with_all (unknown_by ws.held number) lane 0 (beginning_of ws.settled ∷ ws.held)
      ∙ ap (λ b. b || list_any (λ w. has_lane (unknown_by ws.held number w) lane) (beginning_of ws.settled ∷ ws.held)) (has_lane-none lane)
      ∙ any_same (λ w. has_lane (unknown_by ws.held number w) lane) (λ w. has_lane w.lanes lane && finds ws number (holding_in lane w)) unknown
      (beginning_of ws.settled ∷ ws.held)
      ∙ sym (given_any lane (finds ws number) (beginning_of ws.settled ∷ ws.held))
    where
      nobody_knows : (w : WordHolding) (b : Bool) → not b ≡ is_none (if b then Some (lane_byte w.value lane) else None)
      nobody_knows w true = refl
      nobody_knows w false = refl

      unknown : (w : WordHolding) → has_lane (unknown_by ws.held number w) lane ≡ (has_lane w.lanes lane && finds ws number (holding_in lane w))
      unknown w =
          has_lane-without (found_lanes ws.held number w) w.known lane below
          ∙ ap₂ (λ a b. a && b) (found_in ws number w) (nobody_knows w (has_lane w.known lane))
          ∙ both (has_lane w.lanes lane) (may_find (lane_list lane ws) number (holding_in lane w)) (is_none (byte_if w.known w.value lane))

  pub has_lane-wrong : (ws : WordList) (number payload lanes : ℕ)
      → has_lane (wrong_lanes ws number payload lanes) lane ≡ (has_lane lanes lane && not (may_be_told (lane_list lane ws) number (lane_byte payload lane)))
  unfolding wrong_lanes
  has_lane-wrong ws number payload lanes =
      has_lane-mask_of (λ k. has_lane lanes k && not (may_be_told (lane_list k ws) number (lane_byte payload k))) lane below

  pub has_lane-compared : (ws : WordList) (number lanes : ℕ)
      → has_lane (compared_lanes ws number lanes) lane ≡ (has_lane lanes lane && is_compared (lane_list lane ws) number)
  unfolding compared_lanes
  has_lane-compared ws number lanes = has_lane-mask_of (λ k. has_lane lanes k && is_compared (lane_list k ws) number) lane below

-- ---- all lanes together

-- the lanes in which one may be told as a payload has it, by the bits of those with the same bytes and of those that are known
pub showing-bits : (w : WordHolding) (payload same : ℕ) → same < 256 → w.known < 256
    → ((lane : ℕ) → lane < 8 → has_lane same lane ≡ (lane_byte w.value lane == lane_byte payload lane)) → bit_or same (255 - w.known) ≡ showing_lanes w payload
unfolding showing_lanes
showing-bits w payload same small fits lanes =
    same_lanes (bit_or same (255 - w.known)) (mask_of shown) (or_lt 8 same (255 - w.known) small (omega arith)) (mask_of-lt shown)
    (λ lane below.
    has_lane-or same (255 - w.known) lane
    ∙ ap₂ (λ a b. a || b) (lanes lane below) (has_lane-not w.known lane fits below)
    ∙ shows (has_lane w.known lane) (lane_byte w.value lane) (lane_byte payload lane)
    ∙ sym (has_lane-mask_of shown lane below))
  where
    shown : ℕ → Bool
    shown lane = may_show (byte_if w.known w.value lane) (lane_byte payload lane)

    shows : (knows : Bool) (value byte : ℕ) → ((value == byte) || not knows) ≡ may_show (if knows then Some value else None) byte
    shows true value byte = or_nothing (value == byte)
    shows false value byte = or_right (value == byte) true refl

pub seen_without : (held : List WordHolding) (reader : ℕ) (w : WordHolding)
    → lanes_without w.lanes (with_all (hiding_by reader w) 0 held) ≡ seen_lanes held reader w
unfolding lanes_without seen_lanes
seen_without held reader w =
    mask_of-same (λ lane. has_lane w.lanes lane && not (has_lane (with_all (hiding_by reader w) 0 held) lane))
    (λ lane. has_lane w.lanes lane && not (is_hidden (lane_holdings lane held) reader (holding_in lane w)))
    (λ lane below. ap (λ b. has_lane w.lanes lane && not b) (hidden_in lane below held reader w))

pub wrong_without : (ws : WordList) (number payload lanes : ℕ)
    → lanes_without lanes (with_all (told_by ws.held number payload) 0 (beginning_of ws.settled ∷ ws.held)) ≡ wrong_lanes ws number payload lanes
unfolding lanes_without wrong_lanes
wrong_without ws number payload lanes =
    mask_of-same (λ lane. has_lane lanes lane && not (has_lane (with_all (told_by ws.held number payload) 0 (beginning_of ws.settled ∷ ws.held)) lane))
    (λ lane. has_lane lanes lane && not (may_be_told (lane_list lane ws) number (lane_byte payload lane)))
    (λ lane below. ap (λ b. has_lane lanes lane && not b) (told_in lane below ws number payload))

pub compared_without : (ws : WordList) (number lanes : ℕ)
    → lanes_without lanes (with_all (unknown_by ws.held number) 0 (beginning_of ws.settled ∷ ws.held)) ≡ compared_lanes ws number lanes
unfolding lanes_without compared_lanes
compared_without ws number lanes =
    mask_of-same (λ lane. has_lane lanes lane && not (has_lane (with_all (unknown_by ws.held number) 0 (beginning_of ws.settled ∷ ws.held)) lane))
    (λ lane. has_lane lanes lane && is_compared (lane_list lane ws) number)
    (λ lane below. ap (λ b. has_lane lanes lane && not b) (unknown_in lane below ws number))
