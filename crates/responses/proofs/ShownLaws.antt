-- The beats that are made of the gathered words are those that show the reply.
use Rattle.std.proofs.Common.{◌≡◌, ℕ, zero, suc, min, ◌+◌, ◌-◌, ◌*◌, ◌/◌, ◌^◌, ◌<◌, ◌≤◌, nat_le, nat_lt, Bool, true, false, not, ◌&&◌, List, [], map, length, get_or, Option, Some, None, if◌then◌else◌, refl, sym, subst, ◌∙◌, ap, arith, inl, inr, lit<}
use Rattle.std.specs.Prelude.{unwrap_or, is_none, option_map, slice_get}
use Rattle.std.specs.List.{range_with_len, list_any}
use Rattle.std.specs.Option.{option_flatten}
use Rattle.std.proofs.Math.Pow.{pow_pos}
use Rattle.std.proofs.lemmas.Bool.{cases_lt, leb-true, ne_eqb}
use Rattle.std.proofs.lemmas.Bool.Decides.{nat_tests}
use Rattle.std.proofs.lemmas.List.FromFn.{length-map-range_with_len, get_or-map-range_with_len}
use Rattle.std.proofs.lemmas.Option.{slice_get-get_or, slice_get_past}
use Rattle.bus_words.specs.Lanes.{given_at, has_lane, is_between, lane_byte, payload_of}
use Rattle.bus_words.proofs.BelowEight.{below_eight}
use Rattle.bus_words.proofs.MaskLaws.{has_lane-mask_of}
use Rattle.bus_words.proofs.LaneLaws.{word_of_lanes-same}
use Rattle.bus_words.proofs.Ranges.{one_passes}
use Rattle.tl_messages.specs.Lanes.{in_range, lane_of}
use Rattle.tl_messages.specs.Operations.{reply_has_data, beats_of}
use Rattle.tl_messages.specs.Requests.{WholeRequest}
use Rattle.tl_messages.specs.declared.DBeat.{DBeat}
use Rattle.data_unit.specs.Words.{merged}
use Rattle.data_unit.proofs.ByteLaws.{lane_byte-past}
use Rattle.responses.specs.Gathered.{Gathering, byte_gathered, gathered, outline_of, words_of}
use Rattle.responses.specs.declared.gather.Outline.{Outline}
use Rattle.responses.specs.Inside.{word_lanes, word_beat, word_beat_at}
use Rattle.responses.specs.Shown.{Reply, address_in_word, beat_of_word, lacks_a_byte, shown}
use Rattle.responses.proofs.ReadLaws.{eighths, narrow}

-- ---- the lanes of a range in one of its words

-- a range has a byte in each of its words
first_in_word : (size k : ℕ) → k < beats_of size true → 8 * k < 2 ^ size
first_in_word size k below =
    elim (cases_lt size 3) [
      | inl small ↦ omega (arith, narrow 0 size small, pow_pos size)
      | inr big ↦ omega (arith, eighths size big)
    ]

every_lane : (lane : ℕ) → lane < 8 → has_lane 255 lane ≡ true
every_lane lane below = below_eight (λ k. has_lane 255 k ≡ true) refl refl refl refl refl refl refl refl lane below

-- the lanes of the range in one of its words
lanes_in_word : (q : WholeRequest) (k lane : ℕ) → lane < 8 → k < beats_of q.size true → has_lane (word_lanes (outline_of q) k) lane ≡ in_range q.address q.size (address_in_word q k lane)
lanes_in_word q zero lane below inside =
    has_lane-mask_of (is_between (lane_of q.address) (min (lane_of q.address + 2 ^ q.size - 1) 7)) lane below ∙ grind (arith, nat_tests, pow_pos q.size)
lanes_in_word q (suc k) lane below inside =
    let none : suc k ≡ 0 → ⊥ = λ e. omega arith in
    let last_in_word : (size k : ℕ) → k < beats_of size true → 0 < k → 8 * k + 8 ≤ 2 ^ size = λ size k below some.
    elim (cases_lt size 3) [
      | inl small ↦ absurd (omega (arith, narrow 0 size small))
      | inr big ↦ omega (arith, eighths size big)
    ] in
    let fits = last_in_word q.size (suc k) inside in
    let low : q.address ≤ address_in_word q (suc k) lane = omega arith in
    let high : address_in_word q (suc k) lane < q.address + 2 ^ q.size = omega arith in
    rw (ne_eqb (suc k) 0 none) (every_lane lane below ∙ sym (grind (arith, nat_tests)))

-- ---- the bytes of a word

-- the byte in a lane of a word, where the range has that lane
abbrev byte_in_word : WholeRequest → ℕ → Option ℕ → ℕ → Option ℕ
byte_in_word q k word lane = if in_range q.address q.size (address_in_word q k lane) then option_map (λ w. lane_byte w lane) word else None

bytes_of_reply : WholeRequest → List (Option ℕ) → List (Option ℕ)
bytes_of_reply q words = map (byte_gathered (outline_of q) words) (range_with_len 0 (2 ^ q.size))

given_in_word : (q : WholeRequest) (words : List (Option ℕ)) (k lane : ℕ) (word : Option ℕ) → lane < 8 → slice_get words k ≡ Some word
    → given_at (bytes_of_reply q words) q.address (address_in_word q k lane) ≡ byte_in_word q k word lane
unfolding bytes_of_reply
given_in_word q words k lane word below there = by_start (nat_le q.address x) refl
  where
    x : ℕ
    x = address_in_word q k lane

    byte : ℕ → Option ℕ
    byte = byte_gathered (outline_of q) words

    at_place : q.address ≤ x → byte (x - q.address) ≡ option_map (λ w. lane_byte w lane) word
    at_place low =
        let word_is : (lane_of q.address + (x - q.address)) / 8 ≡ k = omega arith in
        let lane_is : lane_of (q.address + (x - q.address)) ≡ lane = omega arith in
        rw (word_is, lane_is, there) refl

    by_end : q.address ≤ x → (b : Bool) → nat_lt x (q.address + 2 ^ q.size) ≡ b
        → option_flatten (slice_get (map byte (range_with_len 0 (2 ^ q.size))) (x - q.address)) ≡ (if b then option_map (λ w. lane_byte w lane) word else None)
    by_end low true high =
        let inside : x - q.address < 2 ^ q.size = grind (arith, nat_tests) in
        let listed : slice_get (map byte (range_with_len 0 (2 ^ q.size))) (x - q.address) ≡ Some (byte (x - q.address)) =
        slice_get-get_or (map byte (range_with_len 0 (2 ^ q.size))) (x - q.address) None (rw (length-map-range_with_len byte 0 (2 ^ q.size)) inside)
        ∙ ap (λ (o : Option ℕ). Some o) (get_or-map-range_with_len byte 0 (2 ^ q.size) (x - q.address) (x - q.address) None inside (omega arith)) in
        rw (listed, at_place low) refl
    by_end low false high =
        let past : 2 ^ q.size ≤ x - q.address = grind (arith, nat_tests) in
        rw (slice_get_past (map byte (range_with_len 0 (2 ^ q.size))) (x - q.address) (rw (length-map-range_with_len byte 0 (2 ^ q.size)) past)) refl

    by_start : (b : Bool) → nat_le q.address x ≡ b
        → (if b then option_flatten (slice_get (map byte (range_with_len 0 (2 ^ q.size))) (x - q.address)) else None) ≡ (if b && nat_lt x (q.address + 2 ^ q.size) then option_map (λ w. lane_byte w lane) word else None)
    by_start true low = by_end (leb-true _ _ low) (nat_lt x (q.address + 2 ^ q.size)) refl
    by_start false low = refl

-- ---- a beat

any_lane-same : (p r : ℕ → Bool) → ((lane : ℕ) → lane < 8 → p lane ≡ r lane) → list_any p (range_with_len 0 8) ≡ list_any r (range_with_len 0 8)
any_lane-same p r same = cc (same 0 (lit< tt), same 1 (lit< tt), same 2 (lit< tt), same 3 (lit< tt), same 4 (lit< tt), same 5 (lit< tt), same 6 (lit< tt), same 7 (lit< tt))

-- the reply of these words, not denied
abbrev reply_of : WholeRequest → List (Option ℕ) → Reply
reply_of q words = record { denied = false; bytes = bytes_of_reply q words }

given_none : (held : Bool) (byte : ℕ) → (held && is_none (if held then Some byte else None)) ≡ false
given_none held byte = grind arith

-- a word that is given lacks no byte
lacks_none : (q : WholeRequest) (words : List (Option ℕ)) (k word : ℕ) → slice_get words k ≡ Some (Some word) → lacks_a_byte q (reply_of q words) k ≡ false
lacks_none q words k word there =
    any_lane-same (λ lane. in_range q.address q.size (address_in_word q k lane) && is_none (given_at (bytes_of_reply q words) q.address (address_in_word q k lane))) (λ lane. false)
    (λ lane below. rw (given_in_word q words k lane (Some word) below there) (given_none (in_range q.address q.size (address_in_word q k lane)) (lane_byte word lane)))

none_held : (held : Bool) (byte : Option ℕ) → held ≡ true → byte ≡ None → (held && is_none (if held then byte else None)) ≡ true
none_held held byte is none = grind arith

-- a word that isn't given lacks one
lacks_some : (q : WholeRequest) (words : List (Option ℕ)) (k : ℕ) → k < beats_of q.size true → slice_get words k ≡ Some None → lacks_a_byte q (reply_of q words) k ≡ true
lacks_some q words k inside there =
    let from_zero : 0 + lane_of q.address ≡ lane_of q.address = omega arith in
    let below : lane_of q.address < 8 = omega arith in
    let first : address_in_word q k (lane_of q.address) ≡ q.address + 8 * k = omega arith in
    let held : in_range q.address q.size (address_in_word q k (lane_of q.address)) ≡ true = let fits = first_in_word q.size k inside in rw first (grind (arith, nat_tests)) in
    one_passes (λ lane. in_range q.address q.size (address_in_word q k lane) && is_none (given_at (bytes_of_reply q words) q.address (address_in_word q k lane))) 0 8 (lane_of q.address) below
    (rw (from_zero, given_in_word q words k (lane_of q.address) None below there) (none_held (in_range q.address q.size (address_in_word q k (lane_of q.address))) None held refl))

shown_or_zero : (held : Bool) (byte zero_byte : ℕ) → zero_byte ≡ 0 → (if held then byte else zero_byte) ≡ unwrap_or (if held then Some byte else None) 0
shown_or_zero held byte zero_byte none = grind arith

-- the payload of a word that is given
payload_shown : (q : WholeRequest) (words : List (Option ℕ)) (k word : ℕ) → k < beats_of q.size true
    → slice_get words k ≡ Some (Some word) → merged 0 word (word_lanes (outline_of q) k) ≡ payload_of (λ lane. given_at (bytes_of_reply q words) q.address (address_in_word q k lane))
payload_shown q words k word inside there =
    word_of_lanes-same (λ lane. if has_lane (word_lanes (outline_of q) k) lane then lane_byte word lane else lane_byte 0 lane)
    (λ lane. unwrap_or (given_at (bytes_of_reply q words) q.address (address_in_word q k lane)) 0)
    (λ lane below.
    ap (λ b. if b then lane_byte word lane else lane_byte 0 lane) (lanes_in_word q k lane below inside)
    ∙ shown_or_zero (in_range q.address q.size (address_in_word q k lane)) (lane_byte word lane) (lane_byte 0 lane) (lane_byte-past 0 0 lane (lit< tt) (omega arith))
    ∙ ap (λ (o : Option ℕ). unwrap_or o 0) (sym (given_in_word q words k lane (Some word) below there)))

-- the beat of one word
beat_shown : (q : WholeRequest) (words : List (Option ℕ)) (k : ℕ) (word : Option ℕ) → k < beats_of q.size true → slice_get words k ≡ Some word
    → word_beat (outline_of q) false (word_lanes (outline_of q) k) word ≡ beat_of_word q (reply_of q words) k
beat_shown q words k None inside there = rw (lacks_some q words k inside there) refl
beat_shown q words k (Some word) inside there = rw (lacks_none q words k word there, ← payload_shown q words k word inside there) refl

denied_beat : (q : WholeRequest) (bytes : List (Option ℕ)) (k lanes : ℕ) (word : Option ℕ) → word_beat (outline_of q) true lanes word ≡ beat_of_word q (record { denied = true; bytes = bytes }) k
denied_beat q bytes k lanes None = refl
denied_beat q bytes k lanes (Some word) = refl

-- ---- all beats

same_beats : (f g : ℕ → DBeat) (a n : ℕ) → ((k : ℕ) → k < a + n → f k ≡ g k) → map f (range_with_len a n) ≡ map g (range_with_len a n)
same_beats f g a zero same = refl
same_beats f g a (suc n) same = rw (same a (omega arith), same_beats f g (a + 1) n (λ k below. same k (omega arith))) refl

-- the beats of all words, which are as many as the reply has
words_shown : (q : WholeRequest) (gathering : Gathering) → reply_has_data q.operation ≡ true → length gathering.words ≡ beats_of q.size true
    → map (word_beat_at (outline_of q) gathering) (range_with_len 0 (length gathering.words)) ≡ shown q (gathered (outline_of q) gathering)
unfolding bytes_of_reply
words_shown q gathering has many =
    rw (has, many) (same_beats (word_beat_at (outline_of q) gathering) (beat_of_word q (reply gathering.denied)) 0 (beats_of q.size true) (λ k below. each gathering.denied k (omega arith)))
  where
    reply : Bool → Reply
    reply denied = record { denied = denied; bytes = if not denied then bytes_of_reply q gathering.words else [] }

    listed : (k : ℕ) → k < beats_of q.size true → slice_get gathering.words k ≡ Some (get_or gathering.words k None)
    listed k inside = slice_get-get_or gathering.words k None (rw many inside)

    each : (denied : Bool) (k : ℕ) → k < beats_of q.size true
        → word_beat (outline_of q) denied (word_lanes (outline_of q) k) (get_or gathering.words k None) ≡ beat_of_word q (reply denied) k
    each true k inside = denied_beat q [] k (word_lanes (outline_of q) k) (get_or gathering.words k None)
    each false k inside = beat_shown q gathering.words k (get_or gathering.words k None) inside (listed k inside)

-- the same, by a request's outline
pub reply_made : (q : WholeRequest) (outline : Outline) (gathering : Gathering) → outline_of q ≡ outline → reply_has_data outline.operation ≡ true
    → length gathering.words ≡ words_of outline → map (word_beat_at outline gathering) (range_with_len 0 (length gathering.words)) ≡ shown q (gathered outline gathering)
reply_made q outline gathering same has many =
    subst
    (λ (o : Outline).
    reply_has_data o.operation ≡ true → length gathering.words ≡ words_of o
    → map (word_beat_at o gathering) (range_with_len 0 (length gathering.words)) ≡ shown q (gathered o gathering))
    same (λ has many. words_shown q gathering has (rw has at many)) has many
