-- What the list of each lane becomes with each call on the list of a word: what `byte_orders` has of it.
use Rattle.std.proofs.Common.{◌≡◌, ℕ, ◌<◌, ◌==◌, Bool, true, false, not, ◌&&◌, [], ◌∷◌, ◌++◌, map, append-nil, length, if◌then◌else◌, Option, None, Some, is_none, bit_and, refl, sym, ◌∙◌, ap, ap₂}
use Rattle.std.specs.Prelude.{filter, nat_lt, option_map}
use Rattle.std.specs.List.{cons_option}
use Rattle.std.proofs.lemmas.Bool.{and_right}
use Rattle.bus_words.specs.Lanes.{has_lane, lane_byte}
use Rattle.bus_words.proofs.MaskLaws.{has_lane-and}
use Rattle.byte_orders.specs.Holdings.{Holding, beginning, changed, closed, crowd, cut_off, is_open_of, just_begun, pruned, pruned_at, with_begun, with_closed, with_settled}
use Rattle.byte_values.specs.declared.change.Change.{Change}
use Rattle.byte_values.specs.declared.change.Change.TheVariants.{Gives, Sure, Fails, Ends, Resets}
use Rattle.byte_values.specs.declared.known.KnownBytes.{KnownBytes}
use Rattle.byte_values.specs.declared.known.SettledBytes.{SettledBytes}
use Rattle.byte_values.specs.Words.{WordHolding, WordList, beginning_of, begun_word, byte_if, changed_by, changed_in, changed_open, changed_word, closed_by, closed_word, crowd_of, gives_lanes, holding_in, just_begun_of, known_byte, lane_holding, lane_holdings, lane_list, lanes_without, lost_word, new_word, nothing_settled, pruned_word, seen_word, times_of}
use Rattle.byte_values.proofs.LaneLists.{given_appended, given_behind, given_filtered, given_first, given_kept, given_mapped, given_nothing, kept_if}
use Rattle.byte_values.proofs.LaneSets.{has_lane-every, has_lane-none, has_lane-without}
use Rattle.byte_values.proofs.SeenLaws.{lane_seen}
use Rattle.byte_values.proofs.SettleLaws.{lane_settled}

and_all : (b : Bool) → (b && true) ≡ b
and_all true = refl
and_all false = refl

-- what has settled is over, and doesn't change
over_stays : (number : ℕ) (change : WordHolding → WordHolding) (s : SettledBytes) → changed_open number change (beginning_of s) ≡ beginning_of s
over_stays number change s =
    let closed : is_open_of number (times_of (beginning_of s)) ≡ false = and_right (not false && 0 == number) false refl in
    rw closed refl

module _ (lane : ℕ) (below : lane < 8) where
  -- one in a lane, where it gives that
  abbrev in_lane : WordHolding → Bool → Option Holding
  in_lane w has = if has then Some (holding_in lane w) else None

  crowd_there : (now lanes : ℕ) → holding_in lane (crowd_of now lanes) ≡ crowd now
  crowd_there now lanes =
      ap (λ b. record { value = if b then Some (lane_byte 0 lane) else None; begun = now; over = None; sure = false; many = true }) (has_lane-none lane)

  begun_there : (number lanes : ℕ) → holding_in lane (just_begun_of number lanes) ≡ just_begun number
  begun_there number lanes =
      ap (λ b. record { value = if b then Some (lane_byte 0 lane) else None; begun = number; over = None; sure = false; many = false }) (has_lane-none lane)

  -- ---- how a list begins

  -- all lanes have settled
  pub lane_alone : (s : SettledBytes) → s.lanes ≡ 255 → lane_list lane (record { settled = s; held = [] }) ≡ beginning (byte_if s.known s.value lane) ∷ []
  lane_alone s every =
      given_first lane (beginning_of s) []
      ∙ ap₂ (λ b hs. cons_option (in_lane (beginning_of s) b) hs) (ap (λ n. has_lane n lane) every ∙ has_lane-every lane below) (given_nothing lane)

  pub lane_new : (k : KnownBytes) → lane_list lane (new_word k) ≡ beginning (known_byte lane k) ∷ []
  lane_new k = lane_alone (record { value = k.value; known = k.lanes; lanes = 255 }) refl

  pub lane_lost : (k : KnownBytes) (lost : ℕ)
      → lane_list lane (lost_word k lost) ≡ (if has_lane k.lanes lane then beginning (known_byte lane k) else crowd lost) ∷ []
  lane_lost k lost =
      given_first lane (beginning_of (lost_word k lost).settled) (filter gives_lanes (others ∷ []))
      ∙ ap (λ hs. cons_option (lane_holding lane (beginning_of (lost_word k lost).settled)) hs)
      (given_kept lane (others ∷ []) ∙ given_first lane others []
      ∙ ap₂ (λ b hs. cons_option (in_lane others b) hs)
      (has_lane-without 255 k.lanes lane below ∙ ap (λ b. b && not (has_lane k.lanes lane)) (has_lane-every lane below))
      (given_nothing lane))
      ∙ by_test (has_lane k.lanes lane) refl
    where
      others : WordHolding
      others = crowd_of lost (lanes_without 255 k.lanes)

      by_test : (b : Bool) → has_lane k.lanes lane ≡ b
          → cons_option (in_lane (beginning_of (lost_word k lost).settled) b)
          (cons_option (in_lane (crowd_of lost (lanes_without 255 k.lanes)) (true && not b)) [])
          ≡ (if b then beginning (known_byte lane k) else crowd lost) ∷ []
      by_test true is = refl
      by_test false is = ap (λ h. h ∷ []) (crowd_there lost (lanes_without 255 k.lanes))

  -- ---- a writer begins

  lane_roomy : (number lanes : ℕ) (ws : WordList) → lane_list lane (record ws { held = ws.held ++ just_begun_of number lanes ∷ [] })
      ≡ (if has_lane lanes lane then with_begun number (lane_list lane ws) else lane_list lane ws)
  lane_roomy number lanes ws =
      given_appended lane (beginning_of ws.settled ∷ ws.held) (just_begun_of number lanes ∷ [])
      ∙ ap (λ hs. lane_list lane ws ++ hs)
      (given_first lane (just_begun_of number lanes) [] ∙ ap (λ hs. cons_option (lane_holding lane (just_begun_of number lanes)) hs) (given_nothing lane))
      ∙ by_test (has_lane lanes lane)
    where
      by_test : (b : Bool) → lane_list lane ws ++ cons_option (in_lane (just_begun_of number lanes) b) []
          ≡ (if b then with_begun number (lane_list lane ws) else lane_list lane ws)
      by_test true = ap (λ h. lane_list lane ws ++ h ∷ []) (begun_there number lanes)
      by_test false = append-nil (lane_list lane ws)

  lane_crowded : (number : ℕ) → lane_list lane (record { settled = nothing_settled; held = crowd_of number 255 ∷ [] }) ≡ crowd number ∷ []
  lane_crowded number =
      given_first lane (beginning_of nothing_settled) (crowd_of number 255 ∷ [])
      ∙ ap₂ (λ b hs. cons_option (in_lane (beginning_of nothing_settled) b) hs) (has_lane-none lane)
      (given_first lane (crowd_of number 255) []
      ∙ ap₂ (λ b hs. cons_option (in_lane (crowd_of number 255) b) hs) (has_lane-every lane below) (given_nothing lane))
      ∙ ap (λ h. h ∷ []) (crowd_there number 255)

  pub lane_begun : (number lanes : ℕ) (ws : WordList) → lane_list lane (begun_word number lanes ws)
      ≡ (if nat_lt (length ws.held) 12
      then (if has_lane lanes lane then with_begun number (lane_list lane ws) else lane_list lane ws)
      else crowd number ∷ [])
  lane_begun number lanes ws = by_test (nat_lt (length ws.held) 12)
    where
      by_test : (b : Bool)
          → lane_list lane
          (if b then record ws { held = ws.held ++ just_begun_of number lanes ∷ [] } else record { settled = nothing_settled; held = crowd_of number 255 ∷ [] })
          ≡ (if b then (if has_lane lanes lane then with_begun number (lane_list lane ws) else lane_list lane ws) else crowd number ∷ [])
      by_test true = lane_roomy number lanes ws
      by_test false = lane_crowded number

  -- ---- what becomes of it

  -- what has settled stays first where all others change
  changed_first : (change : WordHolding → WordHolding) (ws : WordList) → change (beginning_of ws.settled) ≡ beginning_of ws.settled
      → lane_list lane (record ws { held = filter gives_lanes (map change ws.held) }) ≡ lane_holdings lane (map change (beginning_of ws.settled ∷ ws.held))
  changed_first change ws stays =
      given_behind lane (beginning_of ws.settled) (filter gives_lanes (map change ws.held)) (map change ws.held) (given_kept lane (map change ws.held))
      ∙ ap (λ w. lane_holdings lane (w ∷ map change ws.held)) (sym stays)

  -- one that isn't over changes as it does in its lane
  open_changed : (number : ℕ) (change : WordHolding → WordHolding) (there : Holding → Holding)
      → ((w : WordHolding) → lane_holding lane (change w) ≡ option_map there (lane_holding lane w))
      → (w : WordHolding) → lane_holding lane (changed_open number change w) ≡ option_map (changed number there) (lane_holding lane w)
  open_changed number change there same w = by_open (is_open_of number (times_of w)) refl (has_lane w.lanes lane)
    where
      changes : (has : Bool) → is_open_of number (times_of w) ≡ true → option_map there (in_lane w has) ≡ option_map (changed number there) (in_lane w has)
      changes true is = rw is refl
      changes false is = refl

      stays : (has : Bool) → is_open_of number (times_of w) ≡ false → in_lane w has ≡ option_map (changed number there) (in_lane w has)
      stays true is = rw is refl
      stays false is = refl

      by_open : (b : Bool) → is_open_of number (times_of w) ≡ b → (has : Bool)
          → lane_holding lane (if b then change w else w) ≡ option_map (changed number there) (lane_holding lane w)
      by_open true is has = same w ∙ changes (has_lane w.lanes lane) is
      by_open false is has = stays (has_lane w.lanes lane) is

  mapped_open : (number : ℕ) (change : WordHolding → WordHolding) (there : Holding → Holding) (ws : WordList)
      → ((w : WordHolding) → lane_holding lane (change w) ≡ option_map there (lane_holding lane w))
      → lane_list lane (record ws { held = filter gives_lanes (map (changed_open number change) ws.held) }) ≡ map (changed number there) (lane_list lane ws)
  mapped_open number change there ws same =
      changed_first (changed_open number change) ws (over_stays number change ws.settled)
      ∙ given_mapped lane (changed_open number change) (changed number there) (open_changed number change there same) (beginning_of ws.settled ∷ ws.held)

  takes_effect : (w : WordHolding) (has : Bool)
      → in_lane (record w { sure = true }) has ≡ option_map (λ (h : Holding). record h { sure = true }) (in_lane w has)
  takes_effect w true = refl
  takes_effect w false = refl

  ends : (now : ℕ) (w : WordHolding) (has : Bool)
      → in_lane (record w { over = Some now }) has ≡ option_map (λ (h : Holding). record h { over = Some now }) (in_lane w has)
  ends now w true = refl
  ends now w false = refl

  fails : (w : WordHolding) (has : Bool)
      → in_lane (record w { known = 0; sure = false }) has ≡ option_map (λ (h : Holding). record h { value = None; sure = false }) (in_lane w has)
  fails w true =
      ap (λ b. Some (record { value = if b then Some (lane_byte w.value lane) else None; begun = w.begun; over = w.over; sure = false; many = w.many }))
      (has_lane-none lane)
  fails w false = refl

  -- what comes of a beat
  abbrev as_given : KnownBytes → ℕ → WordHolding → WordHolding
  as_given known lanes w = record w { value = known.value; known = known.lanes; lanes = bit_and w.lanes lanes }

  gives : (known : KnownBytes) (lanes : ℕ) → has_lane lanes lane ≡ true → (w : WordHolding)
      → lane_holding lane (as_given known lanes w) ≡ option_map (λ (h : Holding). record h { value = known_byte lane known }) (lane_holding lane w)
  gives known lanes some w =
      ap (λ b. in_lane (as_given known lanes w) b)
      (has_lane-and w.lanes lanes lane ∙ ap (λ b. has_lane w.lanes lane && b) some ∙ and_all (has_lane w.lanes lane))
      ∙ by_has (has_lane w.lanes lane)
    where
      by_has : (has : Bool) → in_lane (as_given known lanes w) has ≡ option_map (λ (h : Holding). record h { value = known_byte lane known }) (in_lane w has)
      by_has true = refl
      by_has false = refl

  gives_nothing : (number : ℕ) (known : KnownBytes) (lanes : ℕ) → has_lane lanes lane ≡ false → (w : WordHolding)
      → lane_holding lane (changed_open number (as_given known lanes) w) ≡ kept_if (λ h. not (is_open_of number h)) (lane_holding lane w)
  gives_nothing number known lanes none w = by_open (is_open_of number (times_of w)) refl
    where
      goes : (has : Bool) → is_open_of number (times_of w) ≡ true → None ≡ kept_if (λ h. not (is_open_of number h)) (in_lane w has)
      goes true is = rw is refl
      goes false is = refl

      stays : (has : Bool) → is_open_of number (times_of w) ≡ false → in_lane w has ≡ kept_if (λ h. not (is_open_of number h)) (in_lane w has)
      stays true is = rw is refl
      stays false is = refl

      by_open : (b : Bool) → is_open_of number (times_of w) ≡ b
          → lane_holding lane (if b then as_given known lanes w else w) ≡ kept_if (λ h. not (is_open_of number h)) (lane_holding lane w)
      by_open true is =
          ap (λ b. in_lane (as_given known lanes w) b) (has_lane-and w.lanes lanes lane ∙ and_right (has_lane w.lanes lane) (has_lane lanes lane) none)
          ∙ goes (has_lane w.lanes lane) is
      by_open false is = stays (has_lane w.lanes lane) is

  cuts_off : (now : ℕ) (w : WordHolding) → lane_holding lane (changed_by (Resets now) w) ≡ option_map (cut_off now) (lane_holding lane w)
  cuts_off now w = by_live (is_none w.over) refl
    where
      cuts : (has : Bool) → is_none w.over ≡ true → in_lane (record w { over = Some now; sure = false }) has ≡ option_map (cut_off now) (in_lane w has)
      cuts true is = rw is refl
      cuts false is = refl

      stays : (has : Bool) → is_none w.over ≡ false → in_lane w has ≡ option_map (cut_off now) (in_lane w has)
      stays true is = rw is refl
      stays false is = refl

      by_live : (b : Bool) → is_none w.over ≡ b
          → lane_holding lane (if b then record w { over = Some now; sure = false } else w) ≡ option_map (cut_off now) (lane_holding lane w)
      by_live true is = cuts (has_lane w.lanes lane) is
      by_live false is = stays (has_lane w.lanes lane) is

  pub lane_changed : (change : Change) (ws : WordList) → lane_list lane (changed_word change ws) ≡ changed_in lane change (lane_list lane ws)
  lane_changed (Gives number lanes known) ws = by_in (has_lane lanes lane) refl
    where
      by_in : (b : Bool) → has_lane lanes lane ≡ b
          → lane_list lane (changed_word (Gives number lanes known) ws)
          ≡ (if b then map (changed number (λ h. record h { value = known_byte lane known })) (lane_list lane ws)
          else filter (λ h. not (is_open_of number h)) (lane_list lane ws))
      by_in true is = mapped_open number (as_given known lanes) (λ h. record h { value = known_byte lane known }) ws (gives known lanes is)
      by_in false is =
          changed_first (changed_open number (as_given known lanes)) ws (over_stays number (as_given known lanes) ws.settled)
          ∙ given_filtered lane (changed_open number (as_given known lanes)) (λ h. not (is_open_of number h))
          (gives_nothing number known lanes is) (beginning_of ws.settled ∷ ws.held)
  lane_changed (Sure number) ws =
      mapped_open number (λ w. record w { sure = true }) (λ h. record h { sure = true }) ws (λ w. takes_effect w (has_lane w.lanes lane))
  lane_changed (Fails number) ws =
      mapped_open number (λ w. record w { known = 0; sure = false }) (λ h. record h { value = None; sure = false }) ws (λ w. fails w (has_lane w.lanes lane))
  lane_changed (Ends number now) ws =
      mapped_open number (λ w. record w { over = Some now }) (λ h. record h { over = Some now }) ws (λ w. ends now w (has_lane w.lanes lane))
  lane_changed (Resets now) ws =
      changed_first (changed_by (Resets now)) ws refl
      ∙ given_mapped lane (changed_by (Resets now)) (cut_off now) (cuts_off now) (beginning_of ws.settled ∷ ws.held)

  -- ---- what keeps it short

  closes : (oldest now : ℕ) (w : WordHolding) → lane_holding lane (closed_by oldest now w) ≡ option_map (closed oldest now) (lane_holding lane w)
  closes oldest now w = by_live (w.many && is_none w.over && nat_lt w.begun oldest) refl
    where
      ends_now : (has : Bool) → (w.many && is_none w.over && nat_lt w.begun oldest) ≡ true
          → in_lane (record w { over = Some now }) has ≡ option_map (closed oldest now) (in_lane w has)
      ends_now true is = rw is refl
      ends_now false is = refl

      stays : (has : Bool) → (w.many && is_none w.over && nat_lt w.begun oldest) ≡ false → in_lane w has ≡ option_map (closed oldest now) (in_lane w has)
      stays true is = rw is refl
      stays false is = refl

      by_live : (b : Bool) → (w.many && is_none w.over && nat_lt w.begun oldest) ≡ b
          → lane_holding lane (if b then record w { over = Some now } else w) ≡ option_map (closed oldest now) (lane_holding lane w)
      by_live true is = ends_now (has_lane w.lanes lane) is
      by_live false is = stays (has_lane w.lanes lane) is

  pub lane_closed : (oldest now : ℕ) (ws : WordList) → lane_list lane (closed_word oldest now ws) ≡ with_closed oldest now (lane_list lane ws)
  lane_closed oldest now ws = given_mapped lane (closed_by oldest now) (closed oldest now) (closes oldest now) (beginning_of ws.settled ∷ ws.held)

  pub lane_pruned : (oldest now : ℕ) (ws : WordList) → lane_list lane (pruned_word oldest now ws) ≡ with_settled (pruned_at oldest now (lane_list lane ws))
  lane_pruned oldest now ws =
      lane_settled lane below (seen_word oldest (closed_word oldest now ws))
      ∙ ap with_settled (lane_seen lane below (closed_word oldest now ws) oldest ∙ ap (pruned oldest) (lane_closed oldest now ws))
