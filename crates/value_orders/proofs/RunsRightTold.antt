-- In order of acceptance a right beat tells the bytes that its request found there.
use Rattle.std.proofs.Common.{◌≡◌, ℕ, zero, suc, ◌<◌, ◌≤◌, ◌+◌, ◌-◌, ◌%◌, ◌==◌, Bool, true, false, List, [], ◌∷◌, ◌++◌, map, drop, length, Option, Some, None, inl, inr, refl, sym, ◌∙◌, ap, subst, arith}
use Rattle.std.specs.Prelude.{slice_get}
use Rattle.std.specs.List.{AllByRecursion, list_any}
use Rattle.std.specs.Option.{option_or}
use Rattle.std.proofs.lemmas.Bool.{and_from, and_parts, eq-eqb, eqb-true, false_from_ne_true}
use Rattle.std.proofs.lemmas.Bool.Decides.{nat_tests}
use Rattle.bus_words.specs.Lanes.{lane_byte}
use Rattle.byte_orders.specs.Accesses.{IsOneOf}
use Rattle.byte_orders.proofs.Members.{HasOne, all_of, any_to, from_map, in_append_right, in_append_left}
use Rattle.meaning.specs.Meaning.{Bytes, bytes_after_all, zeros}
use Rattle.responses.specs.Shown.{shown}
use Rattle.setups.specs.Setups.{SetupLists, faults_of}
use Rattle.tl_messages.specs.Requests.{WholeRequest}
use Rattle.tl_messages.specs.declared.DBeat.{DBeat}
use Rattle.scoreboard.specs.Boards.{Board, ClientBoard, early_flight, from_zeros, wrong_beat}
use Rattle.scoreboard.specs.Flights.{InFlight}
use Rattle.scoreboard.specs.Observed.{Observed, requests_in}
use Rattle.scoreboard.specs.Orders.{Asked, Entry, Order, has_ended, has_failed, is_due_in, known_request, meaning_on, shown_to}
use Rattle.scoreboard.specs.RealTime.{numbered}
use Rattle.scoreboard.specs.Right.{is_of}
use Rattle.scoreboard.specs.declared.Errors.{Errors}
use Rattle.scoreboard.proofs.acceptance_order.BoardOf.{IsBoardOf, shown_source}
use Rattle.scoreboard.proofs.acceptance_order.DueLists.{AreOf}
use Rattle.scoreboard.proofs.acceptance_order.Owed.{flying_of}
use Rattle.scoreboard.proofs.real_time.RequestActs.{AreBytes, IsWell, acts}
use Rattle.scoreboard.proofs.real_time.Verdicts.{sure_shown}
use Rattle.scoreboard.proofs.real_time.WiderRuns.{IsOn}
use Rattle.value_orders.specs.Histories.{History, Past, begun_by, entries_of, tells}
use Rattle.value_orders.specs.RunOrders.{bytes_along, past_of}
use Rattle.value_orders.proofs.Effects.{IsWellPast}
use Rattle.value_orders.proofs.Matches.{Fits, IsFlying}
use Rattle.value_orders.proofs.MatchesDue.{IsHad, IsOnlyDue, due_one}
use Rattle.value_orders.proofs.RunsBlame.{IsTelling, finds_told, is_telling}
use Rattle.value_orders.proofs.RunsBlameLive.{length_entries}
use Rattle.value_orders.proofs.RunsBlameOrders.{entry_at}
use Rattle.value_orders.proofs.RunsRightBoards.{IsPair, IsRightNext, flies_there, is_pair, next_flies}
use Rattle.value_orders.proofs.RunsRightOrder.{IsInTurn, as_came, may_be}
use Rattle.value_orders.proofs.RunsRightReplies.{made_in_turn}
use Rattle.value_orders.proofs.RunsRightSeen.{from_start}
use Rattle.value_orders.proofs.RunsRightSteps.{AreAtOne, AreLast}

-- ---- lists

map_split : {X : Type 0} (f : ℕ → X) (front back : List ℕ) (number : ℕ) → map f (front ++ number ∷ back) ≡ map f front ++ f number ∷ map f back
map_split f [] back number = refl
map_split {X = X} f (first ∷ front) back number = ap (λ (rest : List X). f first ∷ rest) (map_split f front back number)

along_all : (setup : SetupLists) (requests : ℕ → WholeRequest) (m : Bytes) (numbers : List ℕ)
    → bytes_along setup requests m numbers ≡ bytes_after_all (faults_of setup) setup.regions (map requests numbers) m
along_all setup requests m [] = refl
along_all setup requests m (number ∷ numbers) = along_all setup requests (meaning_on setup (requests number) m).after numbers

all_small : (setup : SetupLists) (requests : ℕ → WholeRequest) (numbers : List ℕ) (m : Bytes) → ((number : ℕ) → IsOneOf number numbers → IsWell (requests number)) → AreBytes m
    → AreBytes (bytes_along setup requests m numbers)
all_small setup requests [] m well bytes = bytes
all_small setup requests (number ∷ numbers) m well bytes =
    all_small setup requests numbers (meaning_on setup (requests number) m).after (λ other at. well other (inr at))
    ((acts (faults_of setup) setup.regions (requests number) (well number (inl refl))).small m bytes)

all_drop : (source : ℕ) (beats : List DBeat) (n : ℕ) → AreOf source beats → AreOf source (drop n beats)
all_drop source [] zero all = tt
all_drop source [] (suc n) all = tt
all_drop source (beat ∷ beats) zero all = all
all_drop source (beat ∷ beats) (suc n) all = all_drop source beats n all.1

-- what stands behind one that hasn't ended
behind_last : (history : History) (front back : List ℕ) (number : ℕ) → AreLast history (front ++ number ∷ back) → has_ended (past_of history number).entry ≡ false
    → AllByRecursion (λ other. AreAtOne history number other → ⊥) back
behind_last history [] back number last live = last.0 live
behind_last history (first ∷ front) back number last live = behind_last history front back number last.1 live

-- ---- a right beat

module _ (setup : SetupLists) (errors : Errors) (board compared : Board) (observed : Observed) (pasts : List Past) (accepted : List ℕ)
    (on : IsOn compared board) (of : IsBoardOf (from_zeros setup) observed compared) (fits : Fits setup errors board.clients (entries_of pasts))
    (in_turn : IsInTurn setup (from_start pasts) accepted) (requests : requests_in observed ≡ map (as_came (from_start pasts)) accepted)
    (last : AreLast (from_start pasts) accepted)
    (owners : (number : ℕ) → IsOneOf number accepted → (as_came (from_start pasts) number).client ≡ (past_of (from_start pasts) number).entry.client)
    (well : (number : ℕ) → 0 < number → number ≤ begun_by (from_start pasts) → IsWell (as_came (from_start pasts) number))
    (fine : (number : ℕ) → 0 < number → number ≤ begun_by (from_start pasts) → IsWellPast errors (past_of (from_start pasts) number)) where
  abbrev history : History
  history = from_start pasts

  abbrev now : Order
  now = entries_of pasts

  module _ (client : ℕ) (beat : DBeat) (right : IsRightNext board client beat) (number : ℕ) (from_one : 0 < number) (some : number ≤ begun_by history)
      (due : is_due_in now client beat.source (past_of history number).entry ≡ true) where
    abbrev entry : Entry
    entry = (past_of history number).entry

    place : ℕ
    place = number - (0 + 1)

    small : number - (0 + 1) < length now
    small = omega (arith, from_one, some, length_entries pasts)

    own : numbered now (number - (0 + 1)) ≡ entry
    own = entry_at history number (omega (arith, from_one))

    live : has_ended entry ≡ false
    live = grind (arith, nat_tests, due)

    own_client : entry.client ≡ client
    own_client = grind (arith, nat_tests, due)

    one : IsOnlyDue setup errors board.clients now client beat.source right.flight
    one =
        due_one setup errors board.clients now fits client beat.source right.found right.there right.flight
        (ap (λ (o : Option InFlight). option_or o (early_flight right.found right.found.early beat.source)) right.next)

    pub had : IsHad setup errors board.clients entry right.flight
    had =
        subst (λ (e : Entry). IsHad setup errors board.clients e right.flight)
        (sym (ap (numbered now) (one.only (number - (0 + 1)) small (ap (λ (e : Entry). is_due_in now client beat.source e) own ∙ due))) ∙ own) one.had

    module _ (front back : List ℕ) (split : accepted ≡ front ++ number ∷ back) (is : IsFlying setup errors board.clients entry) (same : is.flight ≡ right.flight)
        (whole : entry.whole ≡ true) where
      abbrev r : WholeRequest
      r = as_came history number

      abbrev before : Bytes
      before = bytes_after_all (faults_of setup) setup.regions (map (as_came history) front) zeros

      left : right.flight.beats ≡ drop entry.came (shown r (meaning_on setup r is.made_of).reply)
      left = ap (λ (f : InFlight). f.beats) (sym same) ∙ is.left

      own_source : r.source ≡ beat.source
      own_source =
          sym (subst (AreOf r.source) (sym left ∙ right.beats) (all_drop r.source (shown r (meaning_on setup r is.made_of).reply) entry.came (shown_source r (meaning_on setup r is.made_of).reply))).0

      flies : flying_of right.found.flights beat.source ≡ Some right.flight
      flies = next_flies right.found.flights beat.source right.flight right.next (ap (λ (f : InFlight). f.source) (sym same) ∙ is.source ∙ own_source)

      is_there : (k : ℕ) → IsOneOf k back → IsOneOf k accepted
      is_there k at = subst (λ all. IsOneOf k all) (sym split) (in_append_right k front (number ∷ back) (inr at))

      number_there : IsOneOf number accepted
      number_there = subst (λ all. IsOneOf number all) (sym split) (in_append_right number front (number ∷ back) (inl refl))

      front_there : (k : ℕ) → IsOneOf k front → IsOneOf k accepted
      front_there k at = subst (λ all. IsOneOf k all) (sym split) (in_append_left k front (number ∷ back) at)

      own_of : is_of client beat.source r ≡ true
      own_of = and_from (r.client == client) (r.source == beat.source) (eq-eqb r.client client (owners number number_there ∙ own_client)) (eq-eqb r.source beat.source own_source)

      none_behind : list_any (is_of client beat.source) (map (as_came history) back) ≡ false
      none_behind =
          false_from_ne_true (list_any (is_of client beat.source) (map (as_came history) back)) (λ found. by_one (any_to (is_of client beat.source) (map (as_came history) back) found))
        where
          by_one : HasOne (λ q. is_of client beat.source q ≡ true) (map (as_came history) back) → ⊥
          by_one found =
              let from = from_map (as_came history) found.one back found.there in
              let parts = and_parts (found.one.client == client) (found.one.source == beat.source) found.holds in
              all_of (λ k. AreAtOne history number k → ⊥) from.one back
              (behind_last history front back number (subst (AreLast history) split last) live) from.there (
                sym (owners from.one (is_there from.one from.there)) ∙ ap (λ (q : WholeRequest). q.client) (sym from.holds) ∙ eqb-true found.one.client client parts.0 ∙ sym own_client,
                ap (λ (q : WholeRequest). q.source) (sym from.holds) ∙ eqb-true found.one.source beat.source parts.1 ∙ sym own_source,
              )

      made : drop entry.came (shown r (meaning_on setup r before).reply) ≡ right.flight.beats
      made = by_pair (is_pair board compared client right.found on right.there)
        where
          by_its : (other : ClientBoard) → slice_get compared.clients client ≡ Some other
              → (its : InFlight) × (flying_of other.flights beat.source ≡ Some its) × (its.beats ≡ right.flight.beats)
              → drop entry.came (shown r (meaning_on setup r before).reply) ≡ right.flight.beats
          by_its other there (its, found, beats) =
              sym (made_in_turn setup observed client other beat.source its (map (as_came history) front) (map (as_came history) back) r entry.came is.made_of beat right.rest
              (of.clients client other there) found (requests ∙ ap (map (as_came history)) split ∙ map_split (as_came history) front back number) own_of none_behind
              (beats ∙ right.beats) (beats ∙ left))
              ∙ beats

          by_pair : IsPair board compared client right.found → drop entry.came (shown r (meaning_on setup r before).reply) ≡ right.flight.beats
          by_pair pair = by_its pair.other pair.there (flies_there right.found pair.other beat.source right.flight pair.alone flies)

      small_before : AreBytes (bytes_along setup (as_came history) zeros front)
      small_before =
          all_small setup (as_came history) front zeros
          (λ k at. let bounds = all_of (λ j. (0 < j) × (j ≤ begun_by history)) k accepted in_turn.some (front_there k at) in well k bounds.0 bounds.1)
          (record { at = λ x. omega (arith) })

      abbrev asked : Asked
      asked = record { errors = errors; told = None; client = client; beat = beat }

      pub tells_found : (x : ℕ) → tells setup errors entry beat 0 x ≡ true → bytes_along setup (as_came history) zeros front x ≡ lane_byte beat.payload (x % 8)
      tells_found x tells_it =
          finds_told setup errors (past_of history number) r (fine number from_one some) (may_be (past_of history number) (well number from_one some)) telling.unfailed asked
          (bytes_along setup (as_came history) zeros front) 0 x refl telling small_before none
        where
          telling : IsTelling setup errors entry beat 0 x
          telling = is_telling setup errors entry beat 0 x tells_it

          left_of : WholeRequest → Bytes → List DBeat
          left_of q m = drop entry.came (shown r (meaning_on setup q m).reply)

          none : wrong_beat (shown_to setup asked (record entry { request = r }) (bytes_along setup (as_came history) zeros front)) beat ≡ None
          none =
              sure_shown (has_failed errors setup (record entry { request = r })) None (left_of (known_request entry.whole r) (bytes_along setup (as_came history) zeros front)) beat telling.unfailed
              ∙ ap (λ (b : Bool). wrong_beat (left_of (known_request b r) (bytes_along setup (as_came history) zeros front)) beat) whole
              ∙ ap (λ m. wrong_beat (left_of r m) beat) (along_all setup (as_came history) zeros front)
              ∙ ap (λ beats. wrong_beat beats beat) made ∙ right.none
