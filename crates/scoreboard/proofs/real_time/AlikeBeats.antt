-- The beats that are left of a reply made of some bytes, and of one made of others: they are alike, where the bytes are the same where they are determined.
use Rattle.std.proofs.Common.{◌≡◌, ℕ, ◌+◌, ◌-◌, ◌*◌, ◌%◌, ◌^◌, ◌<◌, ◌≤◌, Bool, true, false, ◌&&◌, List, ◌∷◌, map, length, drop, Option, if◌then◌else◌, refl, sym, ◌∙◌, ap, subst, arith}
use Rattle.std.specs.Prelude.{is_none, unwrap_or}
use Rattle.std.specs.List.{list_any, range_with_len}
use Rattle.std.proofs.Math.Path.{fun_ext}
use Rattle.std.proofs.lemmas.Bool.Decides.{nat_tests}
use Rattle.std.proofs.lemmas.List.{drop_more, length-drop}
use Rattle.std.proofs.lemmas.List.FromFn.{get_or-map-range_with_len, length-map-range_with_len}
use Rattle.bus_words.specs.Lanes.{given_at, lane_byte, payload_of, word_address}
use Rattle.bus_words.proofs.LaneLaws.{lane_byte-payload_of}
use Rattle.tl_messages.specs.Lanes.{in_range}
use Rattle.tl_messages.specs.Operations.{beats_of, reply_has_data}
use Rattle.tl_messages.specs.Requests.{WholeRequest}
use Rattle.tl_messages.specs.declared.DBeat.{DBeat}
use Rattle.burst_plan.specs.declared.Region.{Region}
use Rattle.responses.specs.Shown.{Reply, address_in_word, beat_of_word, beat_without_data, lacks_a_byte, shown}
use Rattle.subordinate.specs.Faults.{Faults}
use Rattle.meaning.specs.Meaning.{Bytes, meaning}
use Rattle.scoreboard.specs.Orders.{reply_beats}
use Rattle.scoreboard.specs.Flights.{Footprint}
use Rattle.scoreboard.proofs.real_time.Lengths.{length-shown}
use Rattle.scoreboard.proofs.real_time.ReplyBytes.{Kind, Fixed, Told, kind, told_at, told_bytes}
use Rattle.scoreboard.proofs.real_time.RequestActs.{AreBytes, own}

-- two beats differ at most in their payloads, and there at most where a request isn't determined
pub record Alike (footprint : Footprint) (k : ℕ) (beat other : DBeat) : Type 0 where
  pub rest : other ≡ record beat { payload = other.payload }
  pub payload : (lane : ℕ) → lane < 8 → footprint.determined (word_address footprint.address + 8 * k + lane) ≡ true
      → lane_byte beat.payload lane ≡ lane_byte other.payload lane

-- ---- a word of a reply

told_small : (hidden : ℕ → Bool) (m : Bytes) (a n start x : ℕ) → AreBytes m → unwrap_or (given_at (told_bytes hidden m a n) start x) 0 < 256
told_small hidden m a n start x bytes = rw (told_at hidden m a n start x) (grind (arith, bytes.at (a + (x - start))))

told_same : (hidden : ℕ → Bool) (m n : Bytes) (a count start x : ℕ) → (start ≤ x → m (a + (x - start)) ≡ n (a + (x - start)))
    → unwrap_or (given_at (told_bytes hidden m a count) start x) 0 ≡ unwrap_or (given_at (told_bytes hidden n a count) start x) 0
told_same hidden m n a count start x same = rw (told_at hidden m a count start x, told_at hidden n a count start x) (grind (arith, nat_tests, same))

told_none : (hidden : ℕ → Bool) (m n : Bytes) (a count start x : ℕ)
    → is_none (given_at (told_bytes hidden m a count) start x) ≡ is_none (given_at (told_bytes hidden n a count) start x)
told_none hidden m n a count start x = rw (told_at hidden m a count start x, told_at hidden n a count start x) (grind arith)

abbrev pub reply_of : (ℕ → Bool) → Bytes → ℕ → WholeRequest → Reply
reply_of hidden m a q = record { denied = false; bytes = told_bytes hidden m a (2 ^ q.size) }

pub lacks_same : (hidden : ℕ → Bool) (m n : Bytes) (a : ℕ) (q : WholeRequest) (j : ℕ)
    → lacks_a_byte q (reply_of hidden m a q) j ≡ lacks_a_byte q (reply_of hidden n a q) j
lacks_same hidden m n a q j =
    ap (λ (test : ℕ → Bool). list_any test (range_with_len 0 8))
    (fun_ext (λ lane. ap (λ (b : Bool). in_range q.address q.size (address_in_word q j lane) && b)
    (told_none hidden m n a (2 ^ q.size) q.address (address_in_word q j lane))))

place_in_word : (a address j lane : ℕ) → a % 8 ≡ address % 8 → address ≤ word_address address + 8 * j + lane
    → a + (word_address address + 8 * j + lane - address) ≡ word_address a + 8 * j + lane
place_in_word a address j lane same low = omega (arith, same, low)

words_alike : (footprint : Footprint) (hidden : ℕ → Bool) (m n : Bytes) (a : ℕ) (q : WholeRequest) (j : ℕ) → footprint.address ≡ a → a % 8 ≡ q.address % 8 → AreBytes m
    → AreBytes n
    → ((x : ℕ) → footprint.determined x ≡ true → m x ≡ n x) → Alike footprint j (beat_of_word q (reply_of hidden m a q) j) (beat_of_word q (reply_of hidden n a q) j)
words_alike footprint hidden m n a q j place lanes bytes others agree =
    subst (λ (l : Bool). Alike footprint j (word (lacks_a_byte q (reply_of hidden m a q) j) m) (word l n)) (lacks_same hidden m n a q j)
    (by_lacks (lacks_a_byte q (reply_of hidden m a q) j))
  where
    byte : Bytes → ℕ → Option ℕ
    byte k lane = given_at (told_bytes hidden k a (2 ^ q.size)) q.address (address_in_word q j lane)

    word : Bool → Bytes → DBeat
    word lacks k =
        if lacks
        then record (beat_without_data q (reply_of hidden k a q)) { corrupt = true }
        else record (beat_without_data q (reply_of hidden k a q)) { payload = payload_of (byte k) }

    lane_told : (k : Bytes) (lane : ℕ) → lane < 8 → AreBytes k → lane_byte (payload_of (byte k)) lane ≡ unwrap_or (byte k lane) 0
    lane_told k lane below are =
        lane_byte-payload_of (byte k) lane (record { at = λ l within. told_small hidden k a (2 ^ q.size) q.address (address_in_word q j l) are }) below

    by_lacks : (l : Bool) → Alike footprint j (word l m) (word l n)
    by_lacks true = record { rest = refl; payload = λ lane below determined. refl }
    by_lacks false =
        record {
          rest = refl;
          payload = λ lane below determined.
              lane_told m lane below bytes
              ∙ told_same hidden m n a (2 ^ q.size) q.address (address_in_word q j lane)
              (λ low.
              let there = place_in_word a q.address j lane lanes low in
              ap m there ∙ agree (word_address a + 8 * j + lane) (ap (λ (p : ℕ). footprint.determined (word_address p + 8 * j + lane)) (sym place) ∙ determined)
              ∙ sym (ap n there))
              ∙ sym (lane_told n lane below others);
        }

-- ---- the beats that are left

-- they are the same, or the next ones are alike: those with a number among the beats of a reply with data
pub data LeftAlike (footprint : Footprint) (mine theirs : List DBeat) : Type 0 where
  Same : mine ≡ theirs → LeftAlike footprint mine theirs
  Words : (k : ℕ) (due other : DBeat) (rest others : List DBeat) → mine ≡ due ∷ rest → theirs ≡ other ∷ others → Alike footprint k due other
      → beats_of footprint.size true - length (due ∷ rest) ≡ k
      → LeftAlike footprint mine theirs

-- the beats that are left of a reply with data, the next first
word_left : (q : WholeRequest) (reply : Reply) (came : ℕ) → reply_has_data q.operation ≡ true → came < beats_of q.size true
    → drop came (shown q reply) ≡ beat_of_word q reply came ∷ drop (came + 1) (map (beat_of_word q reply) (range_with_len 0 (beats_of q.size true)))
word_left q reply came carries below =
    let words : shown q reply ≡ map (beat_of_word q reply) (range_with_len 0 (beats_of q.size true)) = rw carries refl in
    let none = beat_without_data q reply in
    let within : came < length (map (beat_of_word q reply) (range_with_len 0 (beats_of q.size true))) =
    omega (arith, below, length-map-range_with_len (beat_of_word q reply) 0 (beats_of q.size true)) in
    ap (drop came) words
    ∙ drop_more (map (beat_of_word q reply) (range_with_len 0 (beats_of q.size true))) came none within
    ∙ ap (λ (first : DBeat). first ∷ drop (came + 1) (map (beat_of_word q reply) (range_with_len 0 (beats_of q.size true))))
    (get_or-map-range_with_len (beat_of_word q reply) 0 (beats_of q.size true) came came none below (omega arith))

module _ (faults : Faults) (regions : List Region) (q : WholeRequest) (footprint : Footprint) (came : ℕ) (m n : Bytes) (below : came < reply_beats q)
    (acting : footprint ≡ record (own faults regions q) { determined = footprint.determined }) (bytes : AreBytes m) (others : AreBytes n)
    (agree : (x : ℕ) → (own faults regions q).reads ≡ true → footprint.determined x ≡ true → m x ≡ n x) where
  -- the beats that are left of the reply made of some bytes
  abbrev left_with : Bytes → List DBeat
  left_with k = drop came (shown q (meaning faults regions q k).reply)

  pub left_alike : LeftAlike footprint (drop came (shown q (meaning faults regions q m).reply)) (drop came (shown q (meaning faults regions q n).reply))
  left_alike = by_kind (kind faults regions q)
    where
      by_kind : Kind faults regions q → LeftAlike footprint (left_with m) (left_with n)
      by_kind (Fixed reply same) = Same (ap (λ (r : Reply). drop came (shown q r)) (same m ∙ sym (same n)))
      by_kind (Told tells) =
          Words came (word m) (word n) (rest m) (rest n) (left m) (left n)
          (words_alike footprint tells.hidden m n tells.place q came address tells.lanes bytes others (λ x determined. agree x reads determined)) place
        where
          word : Bytes → DBeat
          word k = beat_of_word q (reply_of tells.hidden k tells.place q) came

          rest : Bytes → List DBeat
          rest k = drop (came + 1) (map (beat_of_word q (reply_of tells.hidden k tells.place q)) (range_with_len 0 (beats_of q.size true)))

          count : reply_beats q ≡ beats_of q.size true
          count = ap (beats_of q.size) tells.carries

          left : (k : Bytes) → left_with k ≡ word k ∷ rest k
          left k = grind (arith, below, word_left q (reply_of tells.hidden k tells.place q) came tells.carries (omega (arith, below, count)))

          address : footprint.address ≡ tells.place
          address = ap (λ (r : Footprint). r.address) acting ∙ ap (λ (o : Option ℕ). unwrap_or o 0) tells.acts

          reads : (own faults regions q).reads ≡ true
          reads = rw (tells.acts, tells.carries) refl

          place : beats_of footprint.size true - length (word m ∷ rest m) ≡ came
          place =
              let size : footprint.size ≡ q.size = ap (λ (r : Footprint). r.size) acting in
              let long : length (word m ∷ rest m) ≡ reply_beats q - came =
              sym (ap (λ (beats : List DBeat). length beats) (left m))
              ∙ length-drop came (shown q (meaning faults regions q m).reply)
              ∙ ap (λ (k : ℕ). k - came) (length-shown q (meaning faults regions q m).reply) in
              let whole : beats_of footprint.size true ≡ reply_beats q = ap (λ (s : ℕ). beats_of s true) size ∙ sym count in
              omega (arith, long, whole, below)
