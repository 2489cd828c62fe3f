-- The beats that show a reply hold each byte that is given in its lane, and zero elsewhere.
use Rattle.std.proofs.Common.{◌≡◌, ℕ, zero, suc, ◌+◌, ◌-◌, ◌*◌, ◌/◌, ◌^◌, ◌<◌, ◌≤◌, nat_le, Bool, true, false, not, ◌&&◌, ◌||◌, List, [], ◌∷◌, map, length, Option, Some, None, true≢false, if◌then◌else◌, refl, sym, subst, ◌∙◌, ap, arith, lit<, inl, inr}
use Rattle.std.specs.Prelude.{unwrap_or, option_map, slice_get}
use Rattle.std.specs.List.{range_with_len}
use Rattle.std.specs.Option.{option_flatten}
use Rattle.std.proofs.lemmas.Bool.{cases_Bool, le-leb}
use Rattle.std.proofs.lemmas.Bool.Decides.{nat_tests}
use Rattle.std.proofs.lemmas.List.FromFn.{length-map-range_with_len, get_or-map-range_with_len}
use Rattle.std.proofs.lemmas.Option.{slice_get_within, slice_get_past, none-some, slice_get-map, get_or_from_slice_get, same_Some}
use Rattle.std.proofs.lemmas.Nat.{mod_below}
use Rattle.bus_words.specs.Lanes.{given_at, lane_byte, payload_of}
use Rattle.bus_words.proofs.LaneLaws.{lane_byte-payload_of}
use Rattle.tl_messages.specs.Lanes.{in_range, lane_of}
use Rattle.tl_messages.specs.Operations.{reply_has_data, beats_of}
use Rattle.tl_messages.specs.Requests.{WholeRequest}
use Rattle.tl_messages.specs.declared.DBeat.{DBeat}
use Rattle.data_unit.proofs.ByteLaws.{lane_byte-past, lane_byte-shr}
use Rattle.responses.specs.Gathered.{Gathering, byte_gathered, gathered, outline_of}
use Rattle.responses.specs.declared.gather.Outline.{Outline}
use Rattle.responses.specs.RightReplies.{ShowsReply}
use Rattle.responses.specs.Shown.{Reply, address_in_word, beat_of_word, beat_without_data, lacks_a_byte, shown}
use Rattle.responses.proofs.ReplyRules.{legal}

-- the bytes of a reply: each below 256, as many as the range has at most, and none where the reply has no data
pub record HasBytes (q : WholeRequest) (reply : Reply) : Type 0 where
  pub small : (x : ℕ) → unwrap_or (given_at reply.bytes q.address x) 0 < 256
  pub few : length reply.bytes ≤ 2 ^ q.size
  pub none : reply_has_data q.operation ≡ false → reply.bytes ≡ []

-- ---- one beat of those with data

-- the beat of a word, by whether it is corrupt
abbrev beat_by : WholeRequest → Reply → ℕ → Bool → DBeat
beat_by q reply j b = if b then record (beat_without_data q reply) { corrupt = true } else record (beat_without_data q reply) { payload = payload_of (λ lane. given_at reply.bytes q.address (address_in_word q j lane)) }

corrupt_by : (q : WholeRequest) (reply : Reply) (j : ℕ) (b : Bool) → (beat_by q reply j b).corrupt ≡ b
corrupt_by q reply j true = refl
corrupt_by q reply j false = refl

corrupt_is : (q : WholeRequest) (reply : Reply) (j : ℕ) → (beat_of_word q reply j).corrupt ≡ (reply.denied || lacks_a_byte q reply j)
corrupt_is q reply j = corrupt_by q reply j (reply.denied || lacks_a_byte q reply j)

lane_shown : (q : WholeRequest) (reply : Reply) (j lane : ℕ) → HasBytes q reply → lane < 8 → (beat_of_word q reply j).corrupt ≡ false
    → lane_byte (beat_of_word q reply j).payload lane ≡ unwrap_or (given_at reply.bytes q.address (address_in_word q j lane)) 0
lane_shown q reply j lane has below good =
    let granted : (reply.denied || lacks_a_byte q reply j) ≡ false = sym (corrupt_is q reply j) ∙ good in
    ap (λ b. lane_byte (beat_by q reply j b).payload lane) granted
    ∙ lane_byte-payload_of (λ k. given_at reply.bytes q.address (address_in_word q j k)) lane (record { at = λ k within. has.small (address_in_word q j k) }) below

empty_where_corrupt : (q : WholeRequest) (reply : Reply) (j : ℕ) → (beat_of_word q reply j).corrupt ≡ true → (beat_of_word q reply j).payload ≡ 0
empty_where_corrupt q reply j bad = ap (λ b. (beat_by q reply j b).payload) (sym (corrupt_is q reply j) ∙ bad)

lane_of_zero : (lane : ℕ) → lane_byte 0 lane ≡ 0
lane_of_zero lane = lane_byte-past 0 0 lane (lit< tt) (omega arith)

-- no byte is given outside the range
none_outside : (q : WholeRequest) (reply : Reply) (x : ℕ) → HasBytes q reply → in_range q.address q.size x ≡ false → given_at reply.bytes q.address x ≡ None
none_outside q reply x has out = grind (arith, nat_tests, has.few, slice_get_past reply.bytes (x - q.address))

outside_zero : (q : WholeRequest) (reply : Reply) (j lane : ℕ) → HasBytes q reply → lane < 8 → in_range q.address q.size (address_in_word q j lane) ≡ false → lane_byte (beat_of_word q reply j).payload lane ≡ 0
outside_zero q reply j lane has below out =
    elim (cases_Bool (beat_of_word q reply j).corrupt) [
      | inl bad ↦ ap (λ n. lane_byte n lane) (empty_where_corrupt q reply j bad) ∙ lane_of_zero lane
      | inr good ↦ lane_shown q reply j lane has below good ∙ ap (λ (o : Option ℕ). unwrap_or o 0) (none_outside q reply (address_in_word q j lane) has out)
    ]

byte_shown : (q : WholeRequest) (reply : Reply) (i byte : ℕ) → HasBytes q reply → slice_get reply.bytes i ≡ Some (Some byte) → (beat_of_word q reply ((lane_of q.address + i) / 8)).corrupt ≡ false
    → lane_byte (beat_of_word q reply ((lane_of q.address + i) / 8)).payload (lane_of (q.address + i)) ≡ byte
byte_shown q reply i byte has given good =
    let place : address_in_word q ((lane_of q.address + i) / 8) (lane_of (q.address + i)) ≡ q.address + i = omega arith in
    let back : q.address + i - q.address ≡ i = omega arith in
    let found : given_at reply.bytes q.address (address_in_word q ((lane_of q.address + i) / 8) (lane_of (q.address + i))) ≡ Some byte =
    rw (place, le-leb q.address (q.address + i) (omega arith), back, given) refl in
    lane_shown q reply ((lane_of q.address + i) / 8) (lane_of (q.address + i)) has (omega arith) good ∙ ap (λ (o : Option ℕ). unwrap_or o 0) found

-- ---- all beats

one_of : (f : ℕ → DBeat) (n j : ℕ) (beat : DBeat) → slice_get (map f (range_with_len 0 n)) j ≡ Some beat → f j ≡ beat
one_of f n j beat there =
    let within : j < n = omega (arith, slice_get_within (map f (range_with_len 0 n)) j beat there, length-map-range_with_len f 0 n) in
    sym (get_or-map-range_with_len f 0 n j j beat within (omega arith)) ∙ get_or_from_slice_get (map f (range_with_len 0 n)) j beat beat there

alone : (x beat : DBeat) (j : ℕ) → slice_get (x ∷ []) j ≡ Some beat → x ≡ beat
alone x beat zero there = same_Some x beat there
alone x beat (suc j) there = absurd (none-some beat there)

pub shows_reply : (q : WholeRequest) (reply : Reply) → HasBytes q reply → ShowsReply q reply (shown q reply)
shows_reply q reply has = by_data (reply_has_data q.operation) refl
  where
    by_data : (b : Bool) → reply_has_data q.operation ≡ b → ShowsReply q reply (shown q reply)
    by_data true data_is =
        let beats : shown q reply ≡ map (beat_of_word q reply) (range_with_len 0 (beats_of q.size true)) = rw data_is refl in
        record {
          legal = legal q reply;
          corrupt = λ j beat there. let is = one_of (beat_of_word q reply) (beats_of q.size true) j beat (rw beats at there) in rw (← is, data_is) (corrupt_is q reply j);
          bytes = λ i byte beat given there good.
              let is = one_of (beat_of_word q reply) (beats_of q.size true) ((lane_of q.address + i) / 8) beat (rw beats at there) in
              rw (← is) (byte_shown q reply i byte has given (ap (λ (b : DBeat). b.corrupt) is ∙ good));
          outside = λ j lane beat there below out. let is = one_of (beat_of_word q reply) (beats_of q.size true) j beat (rw beats at there) in rw (← is) (outside_zero q reply j lane has below out);
          unsaid = λ j beat there bad.
              let is = one_of (beat_of_word q reply) (beats_of q.size true) j beat (rw beats at there) in
              rw (← is) (empty_where_corrupt q reply j (ap (λ (b : DBeat). b.corrupt) is ∙ bad));
        }
    by_data false data_is =
        let beats : shown q reply ≡ beat_without_data q reply ∷ [] = rw data_is refl in
        record {
          legal = legal q reply;
          corrupt = λ j beat there. let is = alone (beat_without_data q reply) beat j (rw beats at there) in rw (← is, data_is) refl;
          bytes = λ i byte beat given there good. absurd (none-some (Some byte) (rw (has.none data_is) at given));
          outside = λ j lane beat there below out. let is = alone (beat_without_data q reply) beat j (rw beats at there) in rw (← is) (lane_of_zero lane);
          unsaid = λ j beat there bad. let is = alone (beat_without_data q reply) beat j (rw beats at there) in rw (← is) refl;
        }

-- ---- what was gathered

gathered_small : (q : WholeRequest) (words : List (Option ℕ)) (n x : ℕ) → unwrap_or (given_at (map (byte_gathered (outline_of q) words) (range_with_len 0 n)) q.address x) 0 < 256
gathered_small q words n x = by_start (nat_le q.address x)
  where
    of_word : (word : Option ℕ) (lane : ℕ) → unwrap_or (option_map (λ w. lane_byte w lane) word) 0 < 256
    of_word None lane = lit< tt
    of_word (Some word) lane = rw (lane_byte-shr word lane) (mod_below (word / 2 ^ (8 * lane)) (2 ^ 8) (lit< tt))

    of_place : (o : Option ℕ) → unwrap_or (option_flatten (option_map (byte_gathered (outline_of q) words) o)) 0 < 256
    of_place None = lit< tt
    of_place (Some i) = of_word (option_flatten (slice_get words ((lane_of q.address + i) / 8))) (lane_of (q.address + i))

    by_start : (b : Bool) → unwrap_or (if b then option_flatten (slice_get (map (byte_gathered (outline_of q) words) (range_with_len 0 n)) (x - q.address)) else None) 0 < 256
    by_start false = lit< tt
    by_start true = rw (slice_get-map (byte_gathered (outline_of q) words) (range_with_len 0 n) (x - q.address)) (of_place (slice_get (range_with_len 0 n) (x - q.address)))

-- no bytes at all
none_given : (start x : ℕ) → unwrap_or (given_at [] start x) 0 < 256
none_given start x = grind (arith, slice_get_past {X = Option ℕ} [] (x - start))

has_bytes-gathered : (q : WholeRequest) (gathering : Gathering) → HasBytes q (gathered (outline_of q) gathering)
has_bytes-gathered q gathering = by_data (reply_has_data q.operation) (not gathering.denied) refl
  where
    bytes : Bool → Bool → List (Option ℕ)
    bytes b c = if b && c then map (byte_gathered (outline_of q) gathering.words) (range_with_len 0 (2 ^ q.size)) else []

    by_data : (b c : Bool) → reply_has_data q.operation ≡ b → HasBytes q (record { denied = gathering.denied; bytes = bytes b c })
    by_data true true is =
        record {
          small = gathered_small q gathering.words (2 ^ q.size);
          few = omega (arith, length-map-range_with_len (byte_gathered (outline_of q) gathering.words) 0 (2 ^ q.size));
          none = λ e. absurd (true≢false (sym is ∙ e));
        }
    by_data true false is = record { small = none_given q.address; few = omega arith; none = λ e. refl }
    by_data false c is = record { small = none_given q.address; few = omega arith; none = λ e. refl }

pub shows_gathered : (q : WholeRequest) (outline : Outline) (gathering : Gathering) (beats : List DBeat) → outline_of q ≡ outline → beats ≡ shown q (gathered outline gathering)
    → ShowsReply q (gathered outline gathering) beats
shows_gathered q outline gathering beats same are =
    subst (ShowsReply q (gathered outline gathering)) (sym are)
    (subst (λ (o : Outline). ShowsReply q (gathered o gathering) (shown q (gathered o gathering))) same (shows_reply q (gathered (outline_of q) gathering) (has_bytes-gathered q gathering)))
