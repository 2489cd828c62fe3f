-- A beat on channel A that is right in order of acceptance: which request it begins, goes on with or completes.
use Rattle.std.proofs.Common.{◌≡◌, ℕ, ◌<◌, ◌==◌, ◌||◌, not, Bool, true, false, List, [], ◌∷◌, ◌++◌, map, length, Option, Some, None, Result, Ok, Err, if◌then◌else◌, ◌⊎◌, inl, inr, refl, sym, ◌∙◌, ap, ap₂, subst, arith}
use Rattle.std.specs.Prelude.{slice_get}
use Rattle.std.specs.Option.{option_map}
use Rattle.std.proofs.lemmas.Bool.{and_from, and_parts, both_ways, cases_eq, eq-eqb, eqb-true, not-true, not_from_false}
use Rattle.std.proofs.lemmas.Bool.Decides.{nat_tests}
use Rattle.std.proofs.lemmas.List.{length-append, length-map}
use Rattle.std.proofs.lemmas.Option.{slice_get-map}
use Rattle.config.specs.Configs.{port_of}
use Rattle.setups.specs.Setups.{SetupLists}
use Rattle.tl_checker.specs.Ports.{joined, judged}
use Rattle.tl_checker.specs.RequestRules.{TlPortLimits}
use Rattle.tl_checker.specs.declared.Progress.{Progress}
use Rattle.tl_checker.specs.declared.Progress.TheVariants.{More, Whole}
use Rattle.tl_checker.specs.declared.TlRule.{TlRule}
use Rattle.tl_checker.proofs.BeatRules.{first_none}
use Rattle.tl_checker.proofs.Taking.{answered_parts, held-append}
use Rattle.tl_messages.specs.Requests.{HeldMessage, WholeRequest, held_of, request_of}
use Rattle.tl_messages.specs.declared.ABeat.{ABeat}
use Rattle.scoreboard.specs.Boards.{Board, ClientBoard, a_wrong, answer_to, from_zeros, is_spoiled, wrong_at, wrong_request}
use Rattle.scoreboard.specs.Flights.{is_busy}
use Rattle.scoreboard.specs.Observed.{Observed, requests_in, with_message, with_seen}
use Rattle.scoreboard.specs.Orders.{Entry, Order, has_ended}
use Rattle.scoreboard.specs.RealTime.{begun_next, completed, entry_of, heard, is_open, numbered, with_answered, with_progress, with_request}
use Rattle.scoreboard.specs.Wider.{board_alone, client_alone, tells_busy}
use Rattle.scoreboard.specs.declared.Errors.{Errors}
use Rattle.scoreboard.specs.declared.ObservedBeat.TheVariants.{A}
use Rattle.scoreboard.specs.declared.Policy.TheVariants.{AcceptanceOrder, RealTime}
use Rattle.scoreboard.proofs.acceptance_order.BoardOf.{IsBoardOf, IsClientOf}
use Rattle.scoreboard.proofs.acceptance_order.RequestBeats.{ends_here, goes_on}
use Rattle.scoreboard.proofs.acceptance_order.RequestSteps.{client_of, requests_whole}
use Rattle.scoreboard.proofs.real_time.Becoming.{EachIn, IsFollowed, numbered_first, numbered_last, numbered_map}
use Rattle.scoreboard.proofs.real_time.Entries.{place_of}
use Rattle.scoreboard.proofs.real_time.Fronts.{front_at, front_of}
use Rattle.scoreboard.proofs.real_time.Lengths.{some_beats}
use Rattle.scoreboard.proofs.real_time.WiderRuns.{IsOn}
use Rattle.scoreboard.proofs.real_time.WiderVerdicts.{same_answer}
use Rattle.value_orders.proofs.FineEntries.{IsFine}
use Rattle.value_orders.proofs.Matches.{Fits, HasOne, IsBegun, IsOpenOf}
use Rattle.value_orders.proofs.RunsRightBoards.{IsPair, busy_alone, busy_flying, busy_there, front_free, is_pair}
use Rattle.value_orders.proofs.RunsRightEntries.{Accepts, NoMore, OneMore, NoneWhole, OrderGoes, goes_completed, goes_heard, none_map, order_last, order_map}

-- one that isn't whole hasn't ended
pub open_live : (entry : Entry) → entry.came ≡ 0 → has_ended entry ≡ false
open_live entry none = grind (arith, nat_tests, none, some_beats entry.request)

module _ (setup : SetupLists) (errors : Errors) (board compared : Board) (observed : Observed) (now : Order) (on : IsOn compared board)
    (of : IsBoardOf (from_zeros setup) observed compared) (fits : Fits setup errors board.clients now) (followed : IsFollowed board now) (fine : EachIn (IsFine errors) now)
    (number : ℕ) (beat : ABeat) where
  abbrev new : Observed
  new = with_seen observed (A number beat)

  abbrev port : TlPortLimits
  port = port_of setup.config number

  abbrev begun : List ABeat
  begun = observed.begun number

  module _ (found : ClientBoard) (there : slice_get board.clients number ≡ Some found) (told : Progress) (answer : answer_to AcceptanceOrder (client_alone found) beat ≡ Ok told) where
    abbrev message : HeldMessage
    message = joined found.limits found.front beat

    abbrev q : WholeRequest
    q = request_of message

    pair : IsPair board compared number found
    pair = is_pair board compared number found on there

    client : IsClientOf (from_zeros setup) observed number pair.other
    client = of.clients number pair.other pair.there

    limits_are : found.limits ≡ port
    limits_are = ap (λ (c : ClientBoard). c.limits) pair.alone ∙ client.limits

    front_is : found.front ≡ held_of number begun
    front_is = ap (λ (c : ClientBoard). c.front) pair.alone ∙ client.front

    answer_here : judged port (held_of number begun) beat (is_busy AcceptanceOrder pair.other.flights beat.source) ≡ Ok told
    answer_here =
        sym (ap₂ (λ (l : TlPortLimits) (f : Option HeldMessage). judged l f beat (is_busy AcceptanceOrder pair.other.flights beat.source)) client.limits client.front)
        ∙ sym (ap (judged pair.other.limits pair.other.front beat) (busy_alone pair.other.flights beat.source))
        ∙ sym (ap (λ (c : ClientBoard). answer_to AcceptanceOrder c beat) pair.alone) ∙ answer

    held_is : held_of number (begun ++ beat ∷ []) ≡ Some message
    held_is =
        held-append port begun beat
        ∙ ap₂ (λ (l : TlPortLimits) (f : Option HeldMessage). Some (joined l f beat)) (sym limits_are) (sym front_is)

    own : message.client ≡ number
    own = client_of number begun beat message held_is

    no_more : told ≡ More → requests_in new ≡ requests_in observed
    no_more is =
        ap (λ (b : Bool). requests_in (with_message number (begun ++ beat ∷ []) b observed))
        (goes_on port begun beat (is_busy AcceptanceOrder pair.other.flights beat.source) (of.right.begun number) (answer_here ∙ ap (λ (p : Progress). Ok p) is)).incomplete

    one_more : told ≡ Whole → requests_in new ≡ requests_in observed ++ q ∷ []
    one_more is =
        ap (λ (b : Bool). requests_in (with_message number (begun ++ beat ∷ []) b observed))
        (ends_here port begun beat (is_busy AcceptanceOrder pair.other.flights beat.source) (of.right.begun number) (answer_here ∙ ap (λ (p : Progress). Ok p) is)).complete
        ∙ requests_whole observed number (begun ++ beat ∷ []) message held_is

    free_source : is_busy AcceptanceOrder found.flights q.source ≡ false
    free_source = by_front found.front refl
      where
        by_front : (front : Option HeldMessage) → found.front ≡ front → is_busy AcceptanceOrder found.flights (request_of (joined found.limits front beat)).source ≡ false
        by_front None none =
            sym (busy_alone found.flights beat.source)
            ∙ (first_none found.limits beat (is_busy AcceptanceOrder (client_alone found).flights beat.source)
            (answered_parts _ _ told (sym (ap (λ (f : Option HeldMessage). judged found.limits f beat (is_busy AcceptanceOrder (client_alone found).flights beat.source)) none) ∙ answer)).0).1
        by_front (Some held) some =
            busy_there found pair.other held.source pair.alone
            ∙ front_free setup observed compared number pair.other held of pair.there (sym (ap (λ (c : ClientBoard). c.front) pair.alone) ∙ some)

    none_there : (k : ℕ) → k < length now → (numbered now k).whole ≡ true → has_ended (numbered now k) ≡ false → (numbered now k).client ≡ number
        → (numbered now k).request.source ≡ q.source → ⊥
    none_there k small whole live client_is source_is =
        both_ways (is_busy AcceptanceOrder found.flights q.source) free_source
        (sym (ap (is_busy AcceptanceOrder found.flights) source_is)
        ∙ busy_flying setup errors board.clients (numbered now k) found ((fits.each k small).flies whole live) (ap (slice_get board.clients) client_is ∙ there))

    -- ---- a first beat

    abbrev first : Bool → Entry
    first whole = record (entry_of board.errors number q whole) { number = length now }

    first_more : told ≡ More → Accepts now (now ++ first false ∷ []) observed new
    first_more is = NoMore none (no_more is)
      where
        none : NoneWhole now (now ++ first false ∷ [])
        none k small whole =
            elim (cases_eq k (length now)) [
              | inl same ↦
                  absurd (cc (sym (ap (λ n. (numbered (now ++ first false ∷ []) n).whole) same ∙ ap (λ (e : Entry). e.whole) (numbered_last now (first false))) ∙ whole))
              | inr other ↦
                  let within : k < length now = omega (arith, small, other, length-append now (first false ∷ [])) in
                  (within, ap (λ (e : Entry). e.whole) (sym (numbered_first now (first false) k within)) ∙ whole)
            ]

    first_whole : told ≡ Whole → Accepts now (now ++ first true ∷ []) observed new
    first_whole is =
        OneMore (record {
          place = length now;
          small = omega (arith, length-append now (first true ∷ []));
          whole = ap (λ (e : Entry). e.whole) last;
          was_not = λ small. absurd (omega (arith, small));
          only = λ k small whole.
              elim (cases_eq k (length now)) [
                | inl same ↦ inl same
                | inr other ↦
                    let within : k < length now = omega (arith, small, other, length-append now (first true ∷ [])) in
                    inr (within, ap (λ (e : Entry). e.whole) (sym (numbered_first now (first true) k within)) ∙ whole)
              ];
          requests = one_more is ∙ ap (λ (r : WholeRequest). requests_in observed ++ r ∷ []) (sym (ap (λ (e : Entry). e.request) last));
          own = ap (λ (e : Entry). e.request.client) last ∙ own ∙ sym (ap (λ (e : Entry). e.client) last);
          free = λ k small whole live client_is source_is.
              none_there k small whole live (client_is ∙ ap (λ (e : Entry). e.client) last) (source_is ∙ ap (λ (e : Entry). e.request.source) last);
          no_atomic = λ small. absurd (omega (arith, small));
        })
      where
        last : numbered (now ++ first true ∷ []) (length now) ≡ first true
        last = numbered_last now (first true)

    -- ---- the last of several

    module _ (held : HeldMessage) (front : found.front ≡ Some held) where
      one : HasOne (IsOpenOf number) now
      one = fits.fronts number held (ap front_of there ∙ front)

      abbrev old : Entry
      old = numbered now one.number

      is_open_one : is_open number old ≡ true
      is_open_one = and_from (old.client == number) (not old.whole) (eq-eqb old.client number one.holds.1) (not_from_false old.whole one.holds.0)

      it : numbered (map (completed board.errors number q) now) one.number ≡ completed board.errors number q old
      it = numbered_map (completed board.errors number q) now one.number one.small

      it_whole : (completed board.errors number q old).whole ≡ true
      it_whole = rw is_open_one refl

      it_request : (completed board.errors number q old).request ≡ q
      it_request = rw is_open_one refl

      it_client : (completed board.errors number q old).client ≡ number
      it_client = rw is_open_one one.holds.1

      begun_is : (k : ℕ) → k < length now → (numbered now k).whole ≡ false → IsBegun setup errors board.clients (numbered now k)
      begun_is k small unwhole = (fits.each k small).begun unwhole

      source_of : (k : ℕ) → (small : k < length now) → (unwhole : (numbered now k).whole ≡ false) → (numbered now k).client ≡ number → (numbered now k).request.source ≡ held.source
      source_of k small unwhole own_client =
          let is = begun_is k small unwhole in
          let same : Some is.held ≡ Some held = sym is.front ∙ ap (front_at board.clients) own_client ∙ ap front_of there ∙ front in
          let its : is.held ≡ held = cc (same) in
          sym (ap (λ (r : WholeRequest). r.source) is.fields) ∙ ap (λ (h : HeldMessage). h.source) its

      place_is : (k : ℕ) → k < length now → (numbered now k).whole ≡ false → (numbered now k).client ≡ number
          → place_of (numbered now k) ≡ record { client = number; source = Some held.source }
      place_is k small unwhole own_client =
          ap (λ n. record { client = (numbered now k).client; source = if n == 0 then Some (numbered now k).request.source else None }) (begun_is k small unwhole).none_came
          ∙ ap₂ (λ (c s : ℕ). record { client = c; source = Some s }) own_client (source_of k small unwhole own_client)

      same_place : (k : ℕ) → k < length now → is_open number (numbered now k) ≡ true → k ≡ one.number
      same_place k small open_one =
          let parts = and_parts ((numbered now k).client == number) (not (numbered now k).whole) open_one in
          let unwhole = not-true (numbered now k).whole parts.1 in
          let own_client = eqb-true (numbered now k).client number parts.0 in
          fits.apart k one.number small one.small (open_live (numbered now k) (begun_is k small unwhole).none_came) (open_live old (begun_is one.number one.small one.holds.0).none_came)
          (place_is k small unwhole own_client ∙ sym (place_is one.number one.small one.holds.0 one.holds.1))

      last_whole : told ≡ Whole → Accepts now (map (completed board.errors number q) now) observed new
      last_whole is =
          OneMore (record {
            place = one.number;
            small = omega (arith, one.small, length-map now (completed board.errors number q));
            whole = ap (λ (e : Entry). e.whole) it ∙ it_whole;
            was_not = λ small. one.holds.0;
            only = λ k small whole.
                let within : k < length now = omega (arith, small, length-map now (completed board.errors number q)) in
                by_open k within (is_open number (numbered now k)) refl (ap (λ (e : Entry). e.whole) (sym (numbered_map (completed board.errors number q) now k within)) ∙ whole);
            requests = one_more is ∙ ap (λ (r : WholeRequest). requests_in observed ++ r ∷ []) (sym (ap (λ (e : Entry). e.request) it ∙ it_request));
            own = ap (λ (e : Entry). e.request.client) it ∙ ap (λ (r : WholeRequest). r.client) it_request ∙ own ∙ sym (ap (λ (e : Entry). e.client) it ∙ it_client);
            free = λ k small whole live client_is source_is.
                none_there k small whole live (client_is ∙ ap (λ (e : Entry). e.client) it ∙ it_client)
                (source_is ∙ ap (λ (e : Entry). e.request.source) it ∙ ap (λ (r : WholeRequest). r.source) it_request);
            no_atomic = λ small op atomic.
                (fine one.number one.small).no_atomic one.holds.0 op
                (operation_is ∙ sym (ap (λ (e : Entry). e.request.operation) it ∙ ap (λ (r : WholeRequest). r.operation) it_request) ∙ atomic);
          })
        where
          by_open : (k : ℕ) → k < length now → (b : Bool) → is_open number (numbered now k) ≡ b → (completed board.errors number q (numbered now k)).whole ≡ true
              → (k ≡ one.number) ⊎ ((k < length now) × ((numbered now k).whole ≡ true))
          by_open k within true open_one whole = inl (same_place k within open_one)
          by_open k within false other whole = inr (within, sym (still other) ∙ whole)
            where
              still : is_open number (numbered now k) ≡ false → (completed board.errors number q (numbered now k)).whole ≡ (numbered now k).whole
              still is_not = rw is_not refl

          operation_is : old.request.operation ≡ q.operation
          operation_is =
              let mine = begun_is one.number one.small one.holds.0 in
              let same : Some mine.held ≡ Some held = sym mine.front ∙ ap (front_at board.clients) one.holds.1 ∙ ap front_of there ∙ front in
              let its : mine.held ≡ held = cc (same) in
              sym (ap (λ (r : WholeRequest). r.operation) mine.fields) ∙ ap (λ (h : HeldMessage). h.operation) its
              ∙ sym (ap (λ (f : Option HeldMessage). (request_of (joined found.limits f beat)).operation) front)

      heard_more : told ≡ More → Accepts now (map (heard board.errors number q) now) observed new
      heard_more is = NoMore (none_map (heard board.errors number q) now (λ entry. still entry (is_open number entry))) (no_more is)
        where
          still : (entry : Entry) (b : Bool) → (if b then record entry { spoiled = entry.spoiled || is_spoiled board.errors q } else entry).whole ≡ entry.whole
          still entry true = refl
          still entry false = refl

    -- ---- any

    accepted_by : (front : Option HeldMessage) (p : Progress) → found.front ≡ front → told ≡ p
        → OrderGoes now (with_progress board.errors number front q p now) × Accepts now (with_progress board.errors number front q p now) observed new
    accepted_by None More none is = (order_last now (first false), first_more is)
    accepted_by None Whole none is = (order_last now (first true), first_whole is)
    accepted_by (Some held) More some is = (order_map (heard board.errors number q) now (goes_heard board.errors number q), heard_more held some is)
    accepted_by (Some held) Whole some is = (order_map (completed board.errors number q) now (goes_completed board.errors number q), last_whole held some is)

  abbrev Goes : Order → Type 0
  Goes next = OrderGoes now next × Accepts now next observed new

  pub request_goes : wrong_at AcceptanceOrder (board_alone board) (A number beat) ≡ None → Goes (begun_next board (A number beat) now)
  request_goes none =
      by_client (slice_get board.clients number) refl
      (sym (ap (λ (o : Option ClientBoard). a_wrong AcceptanceOrder o beat) (slice_get-map client_alone board.clients number)) ∙ none)
    where
      by_answer : (found : ClientBoard) → slice_get board.clients number ≡ Some found → (a : Result Progress TlRule) → answer_to AcceptanceOrder (client_alone found) beat ≡ a
          → wrong_request a ≡ None → Goes (with_request board.errors number (Some found) beat now)
      by_answer found there (Err broken) is right = absurd (cc (right))
      by_answer found there (Ok told) is right =
          let same : answer_to RealTime found beat ≡ Ok told =
          same_answer found beat (ap (λ (a : Result Progress TlRule). tells_busy (wrong_request a)) is) ∙ is in
          subst (λ (a : Result Progress TlRule). Goes (with_answered board.errors number found.front (joined found.limits found.front beat) a now)) (sym same)
          (accepted_by found there told is found.front told refl refl)

      by_client : (o : Option ClientBoard) → slice_get board.clients number ≡ o → a_wrong AcceptanceOrder (option_map client_alone o) beat ≡ None
          → Goes (with_request board.errors number o beat now)
      by_client None nobody right = absurd (cc (right))
      by_client (Some found) there right = by_answer found there (answer_to AcceptanceOrder (client_alone found) beat) refl right
