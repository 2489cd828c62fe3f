-- The request that a beat is due to, in an order of the requests of a whole run: it is the same one as among those since the last reset, and what is left of
-- its reply was made of the bytes that it finds in that order.
use Rattle.std.proofs.Common.{◌≡◌, ℕ, zero, suc, ◌<◌, ◌≤◌, ◌+◌, ◌-◌, ◌==◌, Bool, true, false, List, [], ◌∷◌, ◌++◌, length, Some, if◌then◌else◌, inl, inr, ⊎_elim, refl, sym, ◌∙◌, ap, subst, arith}
use Rattle.std.specs.Prelude.{nat_le, slice_get, slice_index_or}
use Rattle.std.specs.List.{AllByRecursion, list_any}
use Rattle.std.proofs.lemmas.Bool.{both_ways, cases_lt, false_from_ne_true, le-leb}
use Rattle.std.proofs.lemmas.Bool.Decides.{nat_tests}
use Rattle.std.proofs.lemmas.List.{length-append}
use Rattle.byte_orders.specs.Accesses.{IsOneOf}
use Rattle.byte_orders.proofs.Members.{HasOne, all_of, any_from, any_to, from_map, in_map}
use Rattle.meaning.specs.Meaning.{Bytes}
use Rattle.setups.specs.Setups.{SetupLists, faults_of}
use Rattle.tl_messages.specs.Requests.{WholeRequest}
use Rattle.tl_messages.specs.declared.DBeat.{DBeat}
use Rattle.scoreboard.specs.Boards.{ClientBoard, next_to}
use Rattle.scoreboard.specs.Flights.{InFlight}
use Rattle.scoreboard.specs.Orders.{Asked, Entry, Order, begun_to, due_beats, is_due, is_due_in, left_of, meaning_on, shown_to}
use Rattle.scoreboard.specs.RealTime.{numbered}
use Rattle.scoreboard.specs.declared.Errors.{Errors}
use Rattle.scoreboard.specs.declared.Policy.TheVariants.{RealTime}
use Rattle.scoreboard.proofs.real_time.Lengths.{some_beats}
use Rattle.scoreboard.proofs.real_time.RequestActs.{AreBytes, acts}
use Rattle.value_orders.specs.Blames.{IsDueTo, over_now, standing, standing_in}
use Rattle.value_orders.specs.Histories.{History, Past, all_past, begun_by, entries_of}
use Rattle.value_orders.specs.RunOrders.{no_past, IsRunOrder, MayBeAll, bytes_before, past_of}
use Rattle.value_orders.proofs.Effects.{IsWellPast, q_fields, q_well}
use Rattle.value_orders.proofs.Matches.{Fits}
use Rattle.value_orders.proofs.MatchesDue.{IsOnlyDue, due_one, one_due}
use Rattle.value_orders.proofs.RunsBlameLive.{AreLive, IsLive, length_entries}
use Rattle.value_orders.proofs.RunsFind.{left_found}

-- ---- a request by its number, among all and among those since the last reset

past_since : (over since : List Past) (k : ℕ) → slice_index_or (over ++ since) (length over + k) no_past ≡ slice_index_or since k no_past
past_since [] since k =
    let same : 0 + k ≡ k = omega (arith) in
    ap (λ n. slice_index_or since n no_past) same
past_since (past ∷ over) since k =
    let same : suc (length over) + k ≡ suc (length over + k) = omega (arith) in
    ap (λ n. slice_index_or (past ∷ (over ++ since)) n no_past) same ∙ past_since over since k

numbered_at : (pasts : List Past) (k : ℕ) → numbered (entries_of pasts) k ≡ (slice_index_or pasts k no_past).entry
numbered_at [] k = refl
numbered_at (past ∷ pasts) zero = refl
numbered_at (past ∷ pasts) (suc k) = numbered_at pasts k

live_at : (pasts : List Past) (k : ℕ) → AreLive pasts → k < length pasts → IsLive (slice_index_or pasts k no_past)
live_at [] k live small = absurd (omega (arith, small))
live_at (past ∷ pasts) zero live small = live.0
live_at (past ∷ pasts) (suc k) live small = live_at pasts k live.1 (omega (arith, small))

at_place : (pasts : List Past) (k : ℕ) → k < length pasts → IsOneOf (slice_index_or pasts k no_past) pasts
at_place [] k small = absurd (omega (arith, small))
at_place (past ∷ pasts) zero small = inl refl
at_place (past ∷ pasts) (suc k) small = inr (at_place pasts k (omega (arith, small)))

record HasPlace (pasts : List Past) (past : Past) : Type 0 where
  place : ℕ
  small : place < length pasts
  is : past ≡ slice_index_or pasts place no_past

has_place : (pasts : List Past) (past : Past) → IsOneOf past pasts → HasPlace pasts past
has_place [] past at = absurd at
has_place (first ∷ pasts) past at =
    ⊎_elim (λ same. record { place = 0; small = omega (arith); is = same }) (λ later. further (has_place pasts past later)) at
  where
    further : HasPlace pasts past → HasPlace (first ∷ pasts) past
    further found = record { place = suc found.place; small = omega (arith, found.small); is = found.is }

module _ (history : History) where
  abbrev now : Order
  now = entries_of history.since

  abbrev place_of_number : ℕ → ℕ
  place_of_number number = number - (length history.over + 1)

  pub since_at : (number : ℕ) → length history.over < number → past_of history number ≡ slice_index_or history.since (place_of_number number) no_past
  since_at number since =
      let same : number - 1 ≡ length history.over + (number - (length history.over + 1)) = omega (arith, since) in
      ap (λ n. slice_index_or (all_past history) n no_past) same ∙ past_since history.over history.since (place_of_number number)

  pub entry_at : (number : ℕ) → length history.over < number → numbered now (place_of_number number) ≡ (past_of history number).entry
  entry_at number since = numbered_at history.since (place_of_number number) ∙ ap (λ (past : Past). past.entry) (sym (since_at number since))

  pub small_at : (number : ℕ) → length history.over < number → number ≤ begun_by history → place_of_number number < length now
  small_at number since some = omega (arith, since, some, length-append history.over history.since, length_entries history.since)

  pub live_number : AreLive history.since → (number : ℕ) → length history.over < number → number ≤ begun_by history → IsLive (past_of history number)
  live_number live number since some =
      subst IsLive (sym (since_at number since))
      (live_at history.since (place_of_number number) live (omega (arith, small_at number since some, length_entries history.since)))

-- ---- one that is over

over_due : (begun : Bool) (client source : ℕ) (entry : Entry) → is_due begun client source (over_now entry) ≡ false
over_due true client source entry = grind (arith, nat_tests, some_beats entry.request)
over_due false client source entry = grind (arith, nat_tests, some_beats entry.request)

over_begun : (client : ℕ) (entry : Entry) → begun_to client (over_now entry) ≡ false
over_begun client entry = grind (arith, nat_tests, some_beats entry.request)

-- ---- requests in an order

module _ (setup : SetupLists) (errors : Errors) (history : History) (requests : ℕ → WholeRequest)
    (well : (number : ℕ) → 0 < number → number ≤ begun_by history → IsWellPast errors (past_of history number)) (may : MayBeAll history requests) where
  abbrev stands : ℕ → Entry
  stands number = standing history requests number

  own : (number : ℕ) → (stands number).request ≡ requests number
  own number = by_test (nat_le number (length history.over))
    where
      by_test : (b : Bool) → (if b then over_now (record (past_of history number).entry { request = requests number }) else record (past_of history number).entry { request = requests number }).request ≡ requests number
      by_test true = refl
      by_test false = refl

  -- as it is since the last reset
  pub stands_since : (number : ℕ) → length history.over < number → stands number ≡ record (past_of history number).entry { request = requests number }
  stands_since number since =
      ap (λ (b : Bool). if b then over_now (record (past_of history number).entry { request = requests number }) else record (past_of history number).entry { request = requests number })
      (false_from_ne_true (nat_le number (length history.over)) (λ is. absurd (grind (arith, nat_tests, since, is))))

  stands_over : (number : ℕ) → number ≤ length history.over → stands number ≡ over_now (record (past_of history number).entry { request = requests number })
  stands_over number over =
      ap (λ (b : Bool). if b then over_now (record (past_of history number).entry { request = requests number }) else record (past_of history number).entry { request = requests number })
      (le-leb number (length history.over) over)

  pub fields : (number : ℕ) → 0 < number → number ≤ begun_by history
      → requests number ≡ record (past_of history number).entry.request { bytes = (requests number).bytes; corrupt = (requests number).corrupt }
  fields number from_one some =
      q_fields setup errors (past_of history number) (requests number) (well number from_one some) (may number from_one some)

  -- a beat is due to it as it is among those since the last reset
  due_since : (begun : Bool) (client source number : ℕ) → length history.over < number → number ≤ begun_by history
      → is_due begun client source (stands number) ≡ is_due begun client source (past_of history number).entry
  due_since begun client source number since some =
      ap (is_due begun client source) (stands_since number since)
      ∙ ap (λ (q : WholeRequest). is_due begun client source (record (past_of history number).entry { request = q })) (fields number (omega (arith, since)) some)

  begun_since : (client number : ℕ) → length history.over < number → number ≤ begun_by history
      → begun_to client (stands number) ≡ begun_to client (past_of history number).entry
  begun_since client number since some =
      ap (begun_to client) (stands_since number since)
      ∙ ap (λ (q : WholeRequest). begun_to client (record (past_of history number).entry { request = q })) (fields number (omega (arith, since)) some)

  module _ (live : AreLive history.since) (numbers : List ℕ) (order : IsRunOrder history numbers) where
    abbrev ordered : Order
    ordered = standing_in history requests numbers

    pub in_order : (number : ℕ) → length history.over < number → number ≤ begun_by history → IsOneOf number numbers
    in_order number since some = order.all number (omega (arith, since)) some (live_number history live number since some).uncut

    bounds : (number : ℕ) → IsOneOf number numbers → (0 < number) × (number ≤ begun_by history)
    bounds number there = all_of (λ other. (0 < other) × (other ≤ begun_by history)) number numbers order.some there

    -- whether a client's reply has begun
    begun_there : (client : ℕ) → list_any (begun_to client) ordered ≡ true → list_any (begun_to client) (now history) ≡ true
    begun_there client is = by_one (any_to (begun_to client) ordered is)
      where
        by_number : (number : ℕ) → IsOneOf number numbers → begun_to client (stands number) ≡ true → list_any (begun_to client) (now history) ≡ true
        by_number number there has =
            elim (cases_lt (length history.over) number) [
              | inl since ↦
                  let some = (bounds number there).1 in
                  any_from (begun_to client) (slice_index_or history.since (place_of_number history number) no_past).entry (now history)
                  (in_map (λ (past : Past). past.entry) (slice_index_or history.since (place_of_number history number) no_past) history.since
                  (at_place history.since (place_of_number history number) (omega (arith, small_at history number since some, length_entries history.since))))
                  (ap (λ (past : Past). begun_to client past.entry) (sym (since_at history number since)) ∙ sym (begun_since client number since some) ∙ has)
              | inr over ↦
                  absurd (both_ways (begun_to client (stands number)) (ap (begun_to client) (stands_over number over) ∙ over_begun client (record (past_of history number).entry { request = requests number })) has)
            ]

        by_one : HasOne (λ entry. begun_to client entry ≡ true) ordered → list_any (begun_to client) (now history) ≡ true
        by_one found =
            let from = from_map (standing history requests) found.one numbers found.there in
            by_number from.one from.there (ap (begun_to client) (sym from.holds) ∙ found.holds)

    begun_here : (client : ℕ) → list_any (begun_to client) (now history) ≡ true → list_any (begun_to client) ordered ≡ true
    begun_here client is = by_one (any_to (begun_to client) (now history) is)
      where
        by_place : (k : ℕ) → k < length history.since → begun_to client (slice_index_or history.since k no_past).entry ≡ true → list_any (begun_to client) ordered ≡ true
        by_place k small has =
            let number : ℕ = length history.over + 1 + k in
            let since : length history.over < length history.over + 1 + k = omega (arith) in
            let some : length history.over + 1 + k ≤ begun_by history = omega (arith, small, length-append history.over history.since) in
            let place : place_of_number history (length history.over + 1 + k) ≡ k = omega (arith) in
            any_from (begun_to client) (stands (length history.over + 1 + k)) ordered
            (in_map (standing history requests) (length history.over + 1 + k) numbers (in_order (length history.over + 1 + k) since some))
            (begun_since client (length history.over + 1 + k) since some
            ∙ ap (λ (past : Past). begun_to client past.entry) (since_at history (length history.over + 1 + k) since)
            ∙ ap (λ n. begun_to client (slice_index_or history.since n no_past).entry) place ∙ has)

        by_one : HasOne (λ entry. begun_to client entry ≡ true) (now history) → list_any (begun_to client) ordered ≡ true
        by_one found =
            let from = from_map (λ (past : Past). past.entry) found.one history.since found.there in
            let at = has_place history.since from.one from.there in
            by_place at.place at.small (ap (λ (past : Past). begun_to client past.entry) (sym at.is) ∙ ap (begun_to client) (sym from.holds) ∙ found.holds)

    same_begun : (client : ℕ) → list_any (begun_to client) ordered ≡ list_any (begun_to client) (now history)
    same_begun client = by_both (list_any (begun_to client) ordered) (list_any (begun_to client) (now history)) (begun_there client) (begun_here client)
      where
        by_both : (a b : Bool) → (a ≡ true → b ≡ true) → (b ≡ true → a ≡ true) → a ≡ b
        by_both true b to from = sym (to refl)
        by_both false true to from = from refl
        by_both false false to from = refl

    -- a beat is due to it in the order as it is among those since the last reset
    pub same_due : (client source number : ℕ) → length history.over < number → number ≤ begun_by history
        → is_due_in ordered client source (stands number) ≡ is_due_in (now history) client source (past_of history number).entry
    same_due client source number since some =
        ap (λ (b : Bool). is_due b client source (stands number)) (same_begun client)
        ∙ due_since (list_any (begun_to client) (now history)) client source number since some

    none_over : (client source number : ℕ) → number ≤ length history.over → is_due_in ordered client source (stands number) ≡ false
    none_over client source number over =
        ap (λ (entry : Entry). is_due_in ordered client source entry) (stands_over number over)
        ∙ over_due (list_any (begun_to client) ordered) client source (record (past_of history number).entry { request = requests number })

    module _ (clients : List ClientBoard) (fits : Fits setup errors clients (now history)) (client : ℕ) (beat : DBeat) (number : ℕ) (is : IsDueTo history client beat number) where
      due_now : (other : ℕ) → length history.over < other → is_due_in (now history) client beat.source (past_of history other).entry ≡ true
          → is_due_in (now history) client beat.source (numbered (now history) (place_of_number history other)) ≡ true
      due_now other since due = ap (λ (entry : Entry). is_due_in (now history) client beat.source entry) (entry_at history other since) ∙ due

      only : (other : ℕ) → IsOneOf other numbers → is_due_in ordered client beat.source (stands other) ≡ true → other ≡ number
      only other there due =
          elim (cases_lt (length history.over) other) [
            | inl since ↦
                let some = (bounds other there).1 in
                let same = one_due setup errors clients (now history) fits client beat.source (place_of_number history other) (place_of_number history number)
                (small_at history other since some) (small_at history number is.since is.begun)
                (due_now other since (sym (same_due client beat.source other since some) ∙ due)) (due_now number is.since is.due) in
                omega (arith, same, since, is.since)
            | inr over ↦ absurd (both_ways (is_due_in ordered client beat.source (stands other)) (none_over client beat.source other over) due)
          ]

      -- what is left of the reply was made of the bytes that it finds
      pub due_found : (asked : Asked) (m : Bytes) → asked.client ≡ client → asked.beat.source ≡ beat.source
          → due_beats setup m ordered asked ≡ shown_to setup asked (stands number) (bytes_before setup requests m numbers number)
      due_found asked m own_client own_source =
          ap (λ c. left_of_test c asked.beat.source) own_client ∙ ap (λ s. left_of_test client s) own_source
          ∙ left_found setup asked requests (standing history requests) own (is_due_in ordered client beat.source) number
          (same_due client beat.source number is.since is.begun ∙ is.due) numbers m only (in_order number is.since is.begun)
        where
          left_of_test : ℕ → ℕ → List DBeat
          left_of_test c s = left_of setup asked (is_due_in ordered c s) m ordered

  -- ---- bytes stay bytes

  pub small_before : (numbers : List ℕ) (m : Bytes) (number : ℕ) → AllByRecursion (λ other. (0 < other) × (other ≤ begun_by history)) numbers → AreBytes m
      → AreBytes (bytes_before setup requests m numbers number)
  small_before [] m number some bytes = bytes
  small_before (first ∷ numbers) m number some bytes =
      by_test (first == number)
      (small_before numbers (meaning_on setup (requests first) m).after number some.1
      ((acts (faults_of setup) setup.regions (requests first)
      (q_well setup errors (past_of history first) (requests first) (well first some.0.0 some.0.1) (may first some.0.0 some.0.1))).small m bytes))
    where
      by_test : (b : Bool) → AreBytes (bytes_before setup requests (meaning_on setup (requests first) m).after numbers number)
          → AreBytes (if b then m else bytes_before setup requests (meaning_on setup (requests first) m).after numbers number)
      by_test true later = bytes
      by_test false later = later

-- ---- the number of the request to which the next beat of a source is due

-- what the board expects next is due to one request, which has a number
pub record HasNumber (history : History) (client : ℕ) (beat : DBeat) : Type 0 where
  pub number : ℕ
  pub is : IsDueTo history client beat number
  pub only : (other : ℕ) → IsDueTo history client beat other → other ≡ number

pub next_number : (setup : SetupLists) (errors : Errors) (history : History) (clients : List ClientBoard) → Fits setup errors clients (entries_of history.since)
    → (client : ℕ) (beat : DBeat) (found : ClientBoard) (flight : InFlight) → slice_get clients client ≡ Some found → next_to RealTime found beat.source ≡ Some flight
    → HasNumber history client beat
next_number setup errors history clients fits client beat found flight there next =
    record {
      number = length history.over + 1 + one.number;
      is = record {
        since = omega (arith);
        begun = omega (arith, one.small, length-append history.over history.since, length_entries history.since);
        due = ap (λ (entry : Entry). is_due_in (now history) client beat.source entry)
            (sym (entry_at history (length history.over + 1 + one.number) (omega (arith))) ∙ ap (numbered (now history)) place)
            ∙ one.due;
      };
      only = λ other is.
          let same = one.only (place_of_number history other) (small_at history other is.since is.begun)
          (ap (λ (entry : Entry). is_due_in (now history) client beat.source entry) (entry_at history other is.since) ∙ is.due) in
          omega (arith, same, is.since);
    }
  where
    one : IsOnlyDue setup errors clients (now history) client beat.source flight
    one = due_one setup errors clients (now history) fits client beat.source found there flight next

    place : length history.over + 1 + one.number - (length history.over + 1) ≡ one.number
    place = omega (arith)
