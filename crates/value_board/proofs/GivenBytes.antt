-- What a whole message gives to a byte is what its word is given, in the lane of the byte.
use Rattle.std.proofs.Common.{◌≡◌, ℕ, zero, suc, ◌+◌, ◌-◌, ◌/◌, ◌%◌, ◌^◌, ◌<◌, ◌≤◌, ◌==◌, ◌&&◌, ◌||◌, Bool, true, false, not, nat_le, List, [], ◌∷◌, map, refl, sym, ◌∙◌, ap, arith}
use Rattle.std.specs.Prelude.{Option, Some, None, if◌then◌else◌, is_none, option_and_then, option_map, slice_get, slice_index_or}
use Rattle.std.specs.List.{list_any, range_with_len}
use Rattle.std.specs.Option.{option_flatten}
use Rattle.std.proofs.lemmas.Bool.Decides.{nat_tests}
use Rattle.std.proofs.lemmas.Nat.Bits.{bit_at-zero}
use Rattle.bus_words.specs.Lanes.{given_at, has_lane, lane_byte}
use Rattle.bus_words.proofs.MaskLaws.{has_lane-mask_of}
use Rattle.byte_values.specs.Words.{known_byte}
use Rattle.data_unit.specs.Words.{full_mask}
use Rattle.setups.specs.Setups.{SetupLists, faults_of}
use Rattle.subordinate.specs.Faults.{is_bad}
use Rattle.tl_messages.specs.Lanes.{in_lanes, lane_of}
use Rattle.tl_messages.specs.Operations.{has_data}
use Rattle.tl_messages.specs.Requests.{HeldMessage, beat_at, byte_given, bytes_given, WholeRequest, given_in, request_of}
use Rattle.tl_messages.specs.declared.AtomicOp.{AtomicOp}
use Rattle.tl_messages.specs.declared.MaskedWord.{MaskedWord}
use Rattle.tl_messages.specs.declared.Operation.{Operation}
use Rattle.tl_messages.specs.declared.Operation.TheVariants.{Atomic, Get, Intent, PutFull, PutPartial}
use Rattle.scoreboard.proofs.held.FootprintBytes.{has_lane-not}
use Rattle.scoreboard.specs.declared.Errors.{Errors}
use Rattle.value_memory.specs.ValueMemory.{is_in}
use Rattle.value_memory.specs.declared.ByteRange.{ByteRange}
use Rattle.value_memory.proofs.RangeWords.{lanes_in}
use Rattle.value_orders.specs.Bytes.{given_by, gives_as, gives_at, gives_from, is_failed, is_hidden_at, left_by, made_by, may_write_at}
use Rattle.value_orders.specs.Histories.{Past}
use Rattle.value_orders.specs.Places.{acts_at, covers_from}
use Rattle.value_board.specs.Given.{given_as, given_by_giving, given_word, giving_carried, is_atomic, unknown_bytes}

-- ---- ranges by their size

-- what holds of each size up to 12
each_size : (P : ℕ → Type 0) → P 0 → P 1 → P 2 → P 3 → P 4 → P 5 → P 6 → P 7 → P 8 → P 9 → P 10 → P 11 → P 12 → (s : ℕ) → s ≤ 12 → P s
each_size P p0 p1 p2 p3 p4 p5 p6 p7 p8 p9 p10 p11 p12 zero small = p0
each_size P p0 p1 p2 p3 p4 p5 p6 p7 p8 p9 p10 p11 p12 (suc zero) small = p1
each_size P p0 p1 p2 p3 p4 p5 p6 p7 p8 p9 p10 p11 p12 (suc (suc zero)) small = p2
each_size P p0 p1 p2 p3 p4 p5 p6 p7 p8 p9 p10 p11 p12 (suc (suc (suc zero))) small = p3
each_size P p0 p1 p2 p3 p4 p5 p6 p7 p8 p9 p10 p11 p12 (suc (suc (suc (suc zero)))) small = p4
each_size P p0 p1 p2 p3 p4 p5 p6 p7 p8 p9 p10 p11 p12 (suc (suc (suc (suc (suc zero))))) small = p5
each_size P p0 p1 p2 p3 p4 p5 p6 p7 p8 p9 p10 p11 p12 (suc (suc (suc (suc (suc (suc zero)))))) small = p6
each_size P p0 p1 p2 p3 p4 p5 p6 p7 p8 p9 p10 p11 p12 (suc (suc (suc (suc (suc (suc (suc zero))))))) small = p7
each_size P p0 p1 p2 p3 p4 p5 p6 p7 p8 p9 p10 p11 p12 (suc (suc (suc (suc (suc (suc (suc (suc zero)))))))) small = p8
each_size P p0 p1 p2 p3 p4 p5 p6 p7 p8 p9 p10 p11 p12 (suc (suc (suc (suc (suc (suc (suc (suc (suc zero))))))))) small = p9
each_size P p0 p1 p2 p3 p4 p5 p6 p7 p8 p9 p10 p11 p12 (suc (suc (suc (suc (suc (suc (suc (suc (suc (suc zero)))))))))) small = p10
each_size P p0 p1 p2 p3 p4 p5 p6 p7 p8 p9 p10 p11 p12 (suc (suc (suc (suc (suc (suc (suc (suc (suc (suc (suc zero))))))))))) small = p11
each_size P p0 p1 p2 p3 p4 p5 p6 p7 p8 p9 p10 p11 p12 (suc (suc (suc (suc (suc (suc (suc (suc (suc (suc (suc (suc zero)))))))))))) small = p12
each_size P p0 p1 p2 p3 p4 p5 p6 p7 p8 p9 p10 p11 p12 (suc (suc (suc (suc (suc (suc (suc (suc (suc (suc (suc (suc (suc s))))))))))))) small = absurd (omega (arith, small))

eights : (s : ℕ) → s ≤ 12 → (a : ℕ) → a % 2 ^ s ≡ 0 → 3 ≤ s → a % 8 ≡ 0
eights = each_size (λ s. (a : ℕ) → a % 2 ^ s ≡ 0 → 3 ≤ s → a % 8 ≡ 0) (λ a even big. absurd (omega (arith, big))) (λ a even big. absurd (omega (arith, big))) (λ a even big. absurd (omega (arith, big))) (λ a even big. omega (arith, even)) (λ a even big. omega (arith, even)) (λ a even big. omega (arith, even)) (λ a even big. omega (arith, even)) (λ a even big. omega (arith, even)) (λ a even big. omega (arith, even)) (λ a even big. omega (arith, even)) (λ a even big. omega (arith, even)) (λ a even big. omega (arith, even)) (λ a even big. omega (arith, even))

-- a byte of a range lies as many words behind the first as its place says
record IsPlaced (address x k : ℕ) : Type 0 where
  pub word : (x - address) / 8 ≡ k
  pub hidden : (address % 8 + (x - address)) / 8 - address % 8 / 8 ≡ k
  pub lane : (address % 8 + (x - address)) % 8 ≡ x % 8

placed : (s : ℕ) → s ≤ 12 → (address x k : ℕ) → address % 2 ^ s ≡ 0 → address ≤ x → x < address + 2 ^ s → x / 8 ≡ address / 8 + k → IsPlaced address x k
placed zero small address x k even low high at = record { word = omega (arith, low, high, at); hidden = omega (arith, low, high, at); lane = omega (arith, low, high, at) }
placed (suc zero) small address x k even low high at =
    record { word = omega (arith, even, low, high, at); hidden = omega (arith, even, low, high, at); lane = omega (arith, even, low, high, at) }
placed (suc (suc zero)) small address x k even low high at =
    record { word = omega (arith, even, low, high, at); hidden = omega (arith, even, low, high, at); lane = omega (arith, even, low, high, at) }
placed (suc (suc (suc s))) small address x k even low high at =
    let whole : address % 8 ≡ 0 = eights (suc (suc (suc s))) small address even (omega arith) in
    record { word = omega (arith, whole, low, at); hidden = omega (arith, whole, low, at); lane = omega (arith, whole, low, at) }

-- ---- a Put

-- a list of what a function gives for each number of a range, by its place
at_place : {X : Type 0} (f : ℕ → X) (a n i : ℕ) → i < n → slice_get (map f (range_with_len a n)) i ≡ Some (f (a + i))
at_place f a zero i below = absurd (omega (arith, below))
at_place {X = X} f a (suc n) zero below =
    let same : a ≡ a + 0 = omega arith in
    ap (λ k. Some (f k)) same
at_place {X = X} f a (suc n) (suc i) below =
    let same : a + 1 + i ≡ a + suc i = omega arith in
    at_place f (a + 1) n i (omega (arith, below)) ∙ ap (λ k. Some (f k)) same

no_lane : (lane : ℕ) → has_lane 0 lane ≡ false
no_lane lane = ap (λ n. n == 1) (bit_at-zero lane)

of_beat : (beats : List MaskedWord) (k lane : ℕ) → option_and_then (given_in lane) (slice_get beats k) ≡ given_in lane (slice_index_or beats k (record { word = 0; mask = 0 }))
of_beat [] k lane = ap (λ (b : Bool). if b then Some (lane_byte 0 lane) else None) (sym (no_lane lane))
of_beat (beat ∷ beats) zero lane = refl
of_beat (beat ∷ beats) (suc k) lane = of_beat beats k lane

-- the byte at an address, of a message that acts at another
byte_of : (message : HeldMessage) (address x k : ℕ) → has_data message.operation ≡ true → address ≤ x → x < address + 2 ^ message.size
    → message.address % 4096 ≡ address % 4096 → IsPlaced address x k
    → given_at (bytes_given message) address x ≡ given_in (x % 8) (beat_at message k)
byte_of message address x k carries low high same at =
    let below : x - address < 2 ^ message.size = omega (arith, low, high) in
    let inside : nat_le address x ≡ true = grind (arith, nat_tests, low) in
    let lane : lane_of (message.address + (0 + (x - address))) ≡ x % 8 = omega (arith, same, low) in
    let word : (0 + (x - address)) / 8 ≡ k = omega (arith, at.word) in
    let f : ℕ → Option ℕ = λ i. if has_data message.operation then byte_given message.address message.beats i else None in
    ap (λ (b : Bool). if b then option_flatten (slice_get (bytes_given message) (x - address)) else None) inside
    ∙ ap option_flatten (at_place f 0 (2 ^ message.size) (x - address) below)
    ∙ ap (λ (b : Bool). if b then byte_given message.address message.beats (0 + (x - address)) else None) carries
    ∙ ap (λ l. option_and_then (given_in l) (slice_get message.beats ((0 + (x - address)) / 8))) lane
    ∙ ap (λ j. option_and_then (given_in (x % 8)) (slice_get message.beats j)) word
    ∙ of_beat message.beats k (x % 8)

-- what it gives there, where nobody knows some lanes
hides : (masked hidden shown : Bool) (byte : ℕ) → shown ≡ not hidden
    → option_map (λ b. if hidden then None else Some b) (if masked then Some byte else None) ≡ (if masked then Some (if shown then Some byte else None) else None)
hides false hidden shown byte is = refl
hides true false shown byte is = ap (λ (b : Bool). Some (if b then Some byte else None)) (sym is)
hides true true shown byte is = ap (λ (b : Bool). Some (if b then Some byte else None)) (sym is)

pub put_gives : (message : HeldMessage) (past : Past) (address x k : ℕ) → past.entry.request ≡ request_of message → has_data message.operation ≡ true
    → message.size ≤ 12 → address % 2 ^ message.size ≡ 0 → message.address % 4096 ≡ address % 4096 → slice_index_or past.hidden k 0 < 256
    → address ≤ x → x < address + 2 ^ message.size → x / 8 ≡ address / 8 + k
    → given_by past address x
    ≡ given_as (x % 8) (record { lanes = (beat_at message k).mask; known = record { value = (beat_at message k).word; lanes = 255 - slice_index_or past.hidden k 0 } })
put_gives message past address x k is carries small even same few low high at =
    let there : IsPlaced address x k = placed message.size small address x k even low high at in
    let beat : MaskedWord = beat_at message k in
    let hidden : ℕ = slice_index_or past.hidden k 0 in
    let place : is_hidden_at past address x ≡ has_lane hidden (x % 8) =
    ap (λ j. has_lane (slice_index_or past.hidden j 0) ((address % 8 + (x - address)) % 8)) there.hidden ∙ ap (has_lane hidden) there.lane in
    ap (λ (bytes : List (Option ℕ)). option_map (λ byte. if is_hidden_at past address x then None else Some byte) (given_at bytes address x)) (ap (λ q. q.bytes) is)
    ∙ ap (option_map (λ byte. if is_hidden_at past address x then None else Some byte)) (byte_of message address x k carries low high same there)
    ∙ ap (λ (b : Bool). option_map (λ byte. if b then None else Some byte) (given_in (x % 8) beat)) place
    ∙ hides (has_lane beat.mask (x % 8)) (has_lane hidden (x % 8)) (has_lane (255 - hidden) (x % 8)) (lane_byte beat.word (x % 8)) (has_lane-not hidden (x % 8) few (omega arith))

-- ---- any

-- the lanes of a range of at most a word
pub lane_of_range : (s : ℕ) → s ≤ 3 → (address x k : ℕ) → address % 2 ^ s ≡ 0 → address ≤ x → x < address + 2 ^ s → x / 8 ≡ address / 8 + k
    → has_lane (full_mask address s) (x % 8) ≡ true
lane_of_range s small address x k even low high at =
    let range : ByteRange = record { address = address; size = s } in
    let within : is_in range x ≡ true = grind (arith, nat_tests, low, high) in
    lanes_in range (full_mask address s) 0 x (record { small = omega (arith, small); aligned = even }) (omega arith) (first s small even low high at)
    (λ lane below. has_lane-mask_of (in_lanes address s) lane below)
    ∙ within
  where
    first : (s : ℕ) → s ≤ 3 → address % 2 ^ s ≡ 0 → address ≤ x → x < address + 2 ^ s → x / 8 ≡ address / 8 + k → x / 8 ≡ address / 8 + 0
    first zero small even low high at = omega (arith, low, high)
    first (suc zero) small even low high at = omega (arith, even, low, high)
    first (suc (suc zero)) small even low high at = omega (arith, even, low, high)
    first (suc (suc (suc zero))) small even low high at = omega (arith, even, low, high)
    first (suc (suc (suc (suc s)))) small even low high at = absurd (omega (arith, small))

-- nothing was told of some bytes
untold_range : (told : ℕ → Option ℕ) (hidden : ℕ → Bool) (a n : ℕ) → ((x : ℕ) → told x ≡ None) → 0 < n
    → list_any (λ x. is_none (told x) || hidden x) (range_with_len a n) ≡ true
untold_range told hidden a zero untold some = absurd (omega (arith, some))
untold_range told hidden a (suc n) untold some =
    ap (λ (o : Option ℕ). (is_none o || hidden a) || list_any (λ x. is_none (told x) || hidden x) (range_with_len (a + 1) n)) (untold a)

some_bytes : (s : ℕ) → s ≤ 12 → 0 < 2 ^ s
some_bytes =
    each_size (λ s. 0 < 2 ^ s) (omega arith) (omega arith) (omega arith) (omega arith) (omega arith) (omega arith) (omega arith) (omega arith) (omega arith) (omega arith) (omega arith)
    (omega arith) (omega arith)

-- what is true of a request that is whole, of which nothing was told yet, and of its message
pub record IsWhole (setup : SetupLists) (errors : Errors) (past : Past) (message : HeldMessage) (address : ℕ) : Type 0 where
  pub request : past.entry.request ≡ request_of message
  pub whole : past.entry.whole ≡ true
  pub untold : (x : ℕ) → past.told x ≡ None
  pub place : acts_at setup errors past.entry.request ≡ Some address
  pub carries : has_data message.operation ≡ true
  pub small : message.size ≤ 12
  pub word : is_atomic message.operation ≡ true → message.size ≤ 3
  pub even : address % 2 ^ message.size ≡ 0
  pub same : message.address % 4096 ≡ address % 4096

module _ (setup : SetupLists) (errors : Errors) (past : Past) (message : HeldMessage) (address x k : ℕ) (is : IsWhole setup errors past message address)
    (few : slice_index_or past.hidden k 0 < 256) (low : address ≤ x) (high : x < address + 2 ^ message.size) (at : x / 8 ≡ address / 8 + k) where
  abbrev pub hidden : ℕ
  hidden = slice_index_or past.hidden k 0

  abbrev pub bad : Bool
  bad = is_bad (faults_of setup) address

  size_is : past.entry.request.size ≡ message.size
  size_is = ap (λ q. q.size) is.request

  -- an atomic gives what nobody knows, but nothing where its word is bad
  atomic_left : (op : AtomicOp) (b : Bool) → bad ≡ b → made_by setup op past address x ≡ (if b then None else Some None)
  atomic_left op true there = rw there refl
  atomic_left op false there =
      rw (there, untold_range past.told (is_hidden_at past address) address (2 ^ past.entry.request.size) is.untold (rw size_is (some_bytes message.size is.small))) refl

  abbrev pub by_failed : Bool → Option (Option ℕ) → Option (Option ℕ)
  by_failed false left = left
  by_failed true left = option_map (λ byte. None) left

  -- what the lane of its word is given, by whether its word is bad, whether it has failed, and whether it is an atomic
  abbrev pub as_kind : Bool → Bool → Bool → Option (Option ℕ)
  as_kind refused failed atomic = given_as (x % 8) (given_by_giving (giving_carried atomic refused failed) atomic message address k hidden)

  nobody : known_byte (x % 8) unknown_bytes ≡ None
  nobody = ap (λ (b : Bool). if b then Some (lane_byte 0 (x % 8)) else None) (no_lane (x % 8))

  nothing : None ≡ given_as (x % 8) (record { lanes = 0; known = unknown_bytes })
  nothing = sym (ap (λ (b : Bool). if b then Some (known_byte (x % 8) unknown_bytes) else None) (no_lane (x % 8)))

  atomic_core : (failed refused : Bool) → has_lane (full_mask address message.size) (x % 8) ≡ true
      → by_failed failed (if refused then None else Some None) ≡ as_kind refused failed true
  atomic_core false true lane = nothing
  atomic_core true true lane = nothing
  atomic_core false false lane =
      sym (ap (λ (b : Bool). if b then Some (known_byte (x % 8) unknown_bytes) else None) lane ∙ ap (λ (o : Option ℕ). Some o) nobody)
  atomic_core true false lane =
      sym (ap (λ (b : Bool). if b then Some (known_byte (x % 8) unknown_bytes) else None) lane ∙ ap (λ (o : Option ℕ). Some o) nobody)

  atomic_gives : (op : AtomicOp) (failed refused : Bool) → bad ≡ refused → has_lane (full_mask address message.size) (x % 8) ≡ true
      → by_failed failed (made_by setup op past address x) ≡ as_kind bad failed true
  atomic_gives op failed refused there lane =
      ap (by_failed failed) (atomic_left op refused there) ∙ atomic_core failed refused lane ∙ ap (λ (b : Bool). as_kind b failed true) (sym there)

  put : given_by past address x ≡ given_as (x % 8) (record { lanes = (beat_at message k).mask; known = record { value = (beat_at message k).word; lanes = 255 - hidden } })
  put = put_gives message past address x k is.request is.carries is.small is.even is.same few low high at

  forgotten : (masked : Bool) (known : Option ℕ) → option_map {U = Option ℕ} (λ byte. None) (if masked then Some known else None) ≡ (if masked then Some None else None)
  forgotten true known = refl
  forgotten false known = refl

  put_core : (failed : Bool) → by_failed failed (given_by past address x) ≡ as_kind bad failed false
  put_core false = put
  put_core true =
      ap (option_map {U = Option ℕ} (λ byte. None)) put
      ∙ forgotten (has_lane (beat_at message k).mask (x % 8)) (known_byte (x % 8) (record { value = (beat_at message k).word; lanes = 255 - hidden }))
      ∙ ap (λ (o : Option ℕ). if has_lane (beat_at message k).mask (x % 8) then Some o else None) (sym nobody)

  left_given : (failed : Bool) (op : Operation) → message.operation ≡ op → by_failed failed (left_by setup op past address x) ≡ as_kind bad failed (is_atomic op)
  left_given failed (Atomic op) same =
      atomic_gives op failed bad refl (lane_of_range message.size (is.word (ap is_atomic same)) address x k is.even low high at)
  left_given failed PutFull same = put_core failed
  left_given failed PutPartial same = put_core failed
  left_given failed Get same = absurd (cc (sym is.carries ∙ ap has_data same))
  left_given failed (Intent write) same = absurd (cc (sym is.carries ∙ ap has_data same))

  by_gives : (failed : Bool) → gives_as setup true failed past address x ≡ by_failed failed (left_by setup past.entry.request.operation past address x)
  by_gives true = refl
  by_gives false = refl

  covered : covers_from (Some address) message.size x ≡ true
  covered = grind (arith, nat_tests, low, high)

  may : may_write_at setup errors past x ≡ true
  may =
      rw (is.place, size_is, covered) (ap (λ (b : Bool). b && true) (ap (λ (q : WholeRequest). has_data q.operation) is.request ∙ is.carries))

  -- what a request gives to a byte is what its message gives to the lane of its word
  pub message_gives : (failed : Bool) → is_failed setup errors past ≡ failed
      → gives_at setup errors past x ≡ given_as (x % 8) (given_word (giving_carried (is_atomic message.operation) bad failed) message address k hidden)
  message_gives failed fails =
      ap (λ (b : Bool). if b then gives_from setup errors past (acts_at setup errors past.entry.request) x else None) may
      ∙ ap (λ (o : Option ℕ). gives_from setup errors past o x) is.place
      ∙ ap (λ (w : Bool). gives_as setup w (is_failed setup errors past) past address x) is.whole
      ∙ ap (λ (f : Bool). gives_as setup true f past address x) fails
      ∙ by_gives failed
      ∙ ap (λ (q : WholeRequest). by_failed failed (left_by setup q.operation past address x)) is.request
      ∙ left_given failed message.operation refl
