-- Lines that are written one after another, where some places of a list have one.
use Rattle.std.proofs.Common.{◌≡◌, ◌≢◌, ◌≤◌, ◌<◌, ◌+◌, ◌++◌, [], ◌∷◌, ℕ, Bool, true, false, ◌||◌, List, Option, None, Some, arith, ap, append-nil, flat_map, length, refl, slice_get, subst, suc, zero, sym, take, ◌∙◌, rules}
use Rattle.std.proofs.KnownBytes.{Appends-trans}
use Rattle.std.specs.Io.KnownBytes.{Appends}
use Rattle.bus_words.proofs.MappedPlaces.{flat_map-take}
use Rattle.line_text.proofs.TraceTexts.{some_after, some_before}
use Rattle.std.specs.List.{range_with_len}
use Rattle.std.specs.Option.{option_to_list}
use Rattle.std.proofs.lemmas.Grind.{flat_map-append}
use Rattle.std.proofs.lemmas.List.{length-append, length-map}
use Rattle.std.proofs.lemmas.List.Sums.{sum_by-cons}
use Rattle.axi_beats.proofs.Ranges.{range_with_len-append-range_with_len}
use Rattle.axi_checker.specs.OpenBursts.{OpenRead, OpenWrite, open_count}
use Rattle.scoreboard.specs.AxiPorts.{PortBoard}
use Rattle.scoreboard.specs.Boards.{ClientBoard, replies_open}
use Rattle.scoreboard.specs.Flights.{InFlight, in_flight, replies_left}
use Rattle.scoreboard.specs.Unanswered.{sources_due}
use Rattle.score_script.specs.FindingTexts.{line_end}
use Rattle.score_script.specs.UnansweredTexts.{burst_text, burst_words, data_text, data_words, ids_open, reply_text, reply_words}
use Rattle.score_script.specs.declared.findings.Line.{Line}
use Rattle.score_script.specs.declared.unanswered.Side.{Side}
use Rattle.score_script.specs.declared.unanswered.Side.TheVariants.{Read, Write}
use Rattle.score_script.proofs.FindingLines.{end_some}

-- a text was written, if there is any
abbrev pub Wrote : List ℕ → Option (List ℕ) → Option (List ℕ) → Bool → Type 0
Wrote text before after wrote = Appends before after text × (wrote ≡ false → text ≡ []) × (wrote ≡ true → text ≢ [])

-- one text behind another
pub wrote_both : (first second : List ℕ) (before between after : Option (List ℕ)) (wrote more : Bool) → Wrote first before between wrote → Wrote second between after more
    → Wrote (first ++ second) before after (wrote || more)
wrote_both first second before between after true more one other =
    (Appends-trans before between after first second one.0 other.0, λ is. search rules, λ is. some_before first second (one.2 refl))
wrote_both first second before between after false more one other =
    let none : first ≡ [] = one.1 refl in
    rw none (Appends-trans before between after [] second (subst (λ text. Appends before between text) none one.0) other.0, other.1, other.2)

take_nil : (k : ℕ) → take {A = ℕ} k [] ≡ []
take_nil zero = refl
take_nil (suc k) = refl

same_take : (k : ℕ) (xs : List ℕ) → slice_get xs k ≡ None → take (k + 1) xs ≡ take k xs
same_take k [] none = take_nil (k + 1) ∙ sym (take_nil k)
same_take zero (x ∷ xs) none = search rules
same_take (suc k) (x ∷ xs) none =
    let next : suc k + 1 ≡ suc (k + 1) = omega arith in
    rw next (ap (λ (rest : List ℕ). x ∷ rest) (same_take k xs none))

take_past : (k : ℕ) (xs : List ℕ) → length xs ≤ k → take k xs ≡ xs
take_past zero [] all = refl
take_past (suc k) [] all = refl
take_past zero (x ∷ xs) all = absurd (omega (arith, all))
take_past (suc k) (x ∷ xs) all = ap (λ (rest : List ℕ). x ∷ rest) (take_past k xs (omega (arith, all)))

some_in : (f : ℕ → List ℕ) (xs : List ℕ) (k x : ℕ) → slice_get xs k ≡ Some x → f x ≢ [] → flat_map f xs ≢ []
some_in f [] k x there some = search rules
some_in f (y ∷ ys) zero x there some = let same : y ≡ x = cc in rw same (some_before (f x) (flat_map f ys) some)
some_in f (y ∷ ys) (suc k) x there some = some_after (f y) (flat_map f ys) (some_in f ys k x there some)

module _ (f : ℕ → List ℕ) (xs : List ℕ) where
  -- the line of the next place
  pub wrote_more : (k x : ℕ) (before between after : Option (List ℕ)) (wrote : Bool) → slice_get xs k ≡ Some x → f x ≢ [] → Wrote (flat_map f (take k xs)) before between wrote → Appends between after (f x)
      → Wrote (flat_map f (take (k + 1) xs)) before after true
  wrote_more k x before between after wrote there some so_far more =
      rw (flat_map-take f xs k x there)
      (Appends-trans before between after (flat_map f (take k xs)) (f x) so_far.0 more, λ is. search rules, λ is. some_after (flat_map f (take k xs)) (f x) some)

  -- there is none behind the last
  pub wrote_same : (k : ℕ) (before after : Option (List ℕ)) (wrote : Bool) → slice_get xs k ≡ None → Wrote (flat_map f (take k xs)) before after wrote → Wrote (flat_map f (take (k + 1) xs)) before after wrote
  wrote_same k before after wrote none so_far = rw (same_take k xs none) so_far

  -- all of them
  pub wrote_all : (k : ℕ) (before after : Option (List ℕ)) (wrote : Bool) → length xs ≤ k → Wrote (flat_map f (take k xs)) before after wrote → Wrote (flat_map f xs) before after wrote
  wrote_all k before after wrote all so_far = subst (λ those. Wrote (flat_map f those) before after wrote) (take_past k xs all) so_far

  -- where a place has a line, there is text
  pub some_text : (k x : ℕ) → slice_get xs k ≡ Some x → f x ≢ [] → flat_map f xs ≢ []
  some_text k x there some = some_in f xs k x there some

-- ---- in order of numbers

pub one_more : (f : ℕ → List ℕ) (n : ℕ) → flat_map f (range_with_len 0 (n + 1)) ≡ flat_map f (range_with_len 0 n) ++ f n
one_more f n =
    let plain : 0 + n ≡ n = omega arith in
    let joined : range_with_len 0 n ++ n ∷ [] ≡ range_with_len 0 (n + 1) = rw plain at (range_with_len-append-range_with_len 0 n 1) in
    ap (flat_map f) (sym joined) ∙ flat_map-append f (range_with_len 0 n) (n ∷ []) ∙ ap (λ text. flat_map f (range_with_len 0 n) ++ text) (append-nil (f n))

-- the text of the next number, where it has some
pub wrote_next : (f : ℕ → List ℕ) (n : ℕ) (before between after : Option (List ℕ)) (wrote : Bool) → f n ≢ [] → Wrote (flat_map f (range_with_len 0 n)) before between wrote → Appends between after (f n)
    → Wrote (flat_map f (range_with_len 0 (n + 1))) before after true
wrote_next f n before between after wrote some so_far more =
    rw (one_more f n)
    (Appends-trans before between after (flat_map f (range_with_len 0 n)) (f n) so_far.0 more, λ is. search rules, λ is. some_after (flat_map f (range_with_len 0 n)) (f n) some)

-- where a number has text, all have some
pub some_of : (f : ℕ → List ℕ) (a n k : ℕ) → k < n → f (a + k) ≢ [] → flat_map f (range_with_len a n) ≢ []
some_of f a zero k below some = absurd (omega (arith, below))
some_of f a (suc n) zero below some = some_before (f a) (flat_map f (range_with_len (a + 1) n)) (let same : a + 0 ≡ a = omega arith in rw same at some)
some_of f a (suc n) (suc k) below some =
    let same : a + suc k ≡ a + 1 + k = omega arith in
    some_after (f a) (flat_map f (range_with_len (a + 1) n)) (some_of f (a + 1) n k (omega (arith, below)) (rw same at some))

-- ---- the lines of what has no answer

pub reply_some : (line : Line) (client source : ℕ) → reply_text line client source ≢ []
reply_some line client source = some_after (reply_words line.number client source) (line_end line.time) (end_some line.time)

pub burst_some : (line : Line) (side : Side) (id : ℕ) → burst_text line side id ≢ []
burst_some line side id = some_after (burst_words line.number side id) (line_end line.time) (end_some line.time)

pub data_some : (line : Line) → data_text line ≢ []
data_some line = some_after (data_words line.number) (line_end line.time) (end_some line.time)

-- as many replies of a client are due as there are at most of all
pub few_due : (clients : List ClientBoard) (k : ℕ) → length (sources_due (slice_get clients k)) ≤ replies_open clients
few_due [] k = omega arith
few_due (client ∷ clients) zero =
    let all : length (sources_due (Some client)) ≡ replies_left client.flights =
    length-map (in_flight client.flights) (λ (flight : InFlight). flight.source) ∙ length-append client.flights.due (option_to_list client.flights.begun) in
    let sum : replies_open (client ∷ clients) ≡ replies_left client.flights + replies_open clients = sum_by-cons (λ (other : ClientBoard). replies_left other.flights) client clients in
    let most : length (sources_due (Some client)) ≤ replies_open (client ∷ clients) = omega (arith, all, sum) in
    most
few_due (client ∷ clients) (suc k) =
    let sum : replies_open (client ∷ clients) ≡ replies_left client.flights + replies_open clients = sum_by-cons (λ (other : ClientBoard). replies_left other.flights) client clients in
    let most : length (sources_due (slice_get clients k)) ≤ replies_open (client ∷ clients) = omega (arith, few_due clients k, sum) in
    most

-- and bursts of a side
pub few_open : (side : Side) (port : PortBoard) → length (ids_open side port) ≤ open_count port.open_bursts
few_open Write port = omega (arith, length-map port.open_bursts.writes (λ (write : OpenWrite). write.aw.id))
few_open Read port = omega (arith, length-map port.open_bursts.reads (λ (read : OpenRead). read.ar.id))
