-- A beat on channel A that isn't wrong: what is held then is what was observed then, and it is right.
use Rattle.std.proofs.Common.{◌≡◌, ℕ, ◌==◌, Bool, true, false, ◌&&◌, List, [], ◌∷◌, ◌++◌, length, zip, Some, None, Result, Ok, Err, if◌then◌else◌, ◌⊎◌, inl, inr, refl, sym, ◌∙◌, ap, ap₂, subst, arith}
use Rattle.std.proofs.lemmas.Bool.{eq-eqb, ne_eqb}
use Rattle.std.specs.Prelude.{◌≢◌, is_some, option_map, slice_get, slice_set}
use Rattle.std.proofs.lemmas.List.{length-append, length-set}
use Rattle.std.proofs.lemmas.Option.{slice_get_within}
use Rattle.bus_words.proofs.PlaceChanges.{all-append}
use Rattle.bus_words.proofs.StoredPlaces.{get_set, get_set-other}
use Rattle.tl_messages.specs.Requests.{HeldMessage, WholeRequest, held_of, request_of}
use Rattle.tl_messages.specs.declared.ABeat.{ABeat}
use Rattle.tl_checker.specs.Ports.{joined, judged}
use Rattle.tl_checker.specs.RequestRules.{IsFront, Spells}
use Rattle.tl_checker.specs.declared.Progress.{Progress}
use Rattle.tl_checker.specs.declared.Progress.TheVariants.{More, Whole}
use Rattle.tl_checker.specs.declared.TlRule.{TlRule}
use Rattle.tl_checker.proofs.Fronts.{none_front}
use Rattle.tl_checker.proofs.Taking.{held-append}
use Rattle.axi_checker.specs.OpenBursts.{nothing_open}
use Rattle.axi_checker.specs.Rules.{open_after_all}
use Rattle.responses.specs.Shown.{Reply, shown}
use Rattle.config.specs.Configs.{port_of}
use Rattle.meaning.specs.InTurn.{IsSpelled, AcceptedMessage}
use Rattle.scoreboard.specs.Boards.{Beginning, Board, ClientBoard, accepted_on, answer_to, answered_on, flight_for, with_accepted, with_client, wrong_request}
use Rattle.scoreboard.specs.Flights.{Footprint, InFlight, is_busy, with_flight}
use Rattle.scoreboard.specs.InTurn.{after_turn, unless_fixed}
use Rattle.scoreboard.specs.Races.{alone}
use Rattle.scoreboard.specs.Observed.{Observed, is_complete, requests_in, with_begun, with_message, with_request_beat}
use Rattle.scoreboard.specs.Right.{IsFree, IsRightNow, IsTold, is_of, left_of, replies_to}
use Rattle.scoreboard.specs.declared.Policy.TheVariants.{AcceptanceOrder}
use Rattle.serial_memory.specs.SerialMemory.{Memory, meaning_in, place_in}
use Rattle.scoreboard.proofs.MappedLists.{all_parts}
use Rattle.scoreboard.proofs.acceptance_order.BoardOf.{IsBoardOf, IsClientOf, IsWith, dues_given, given_after, memory_left, memory_with, replies_to-other, replies_to-own, shown_some, shown_source, unknown_left, unknown_with}
use Rattle.scoreboard.proofs.acceptance_order.DueLists.{IsDue}
use Rattle.scoreboard.proofs.acceptance_order.Lasts.{IsWhere, last_request, last_with}
use Rattle.scoreboard.proofs.acceptance_order.Owed.{eqb_same, flying_more, flying_of, flying_other, flying_own, free-left, left-free, none_flying, owed_other, owed_own, same_or_not}
use Rattle.scoreboard.proofs.acceptance_order.RequestBeats.{EndsHere, GoesOn, IsFreeFor, ends_here, goes_on, may_end, may_go_on}
use Rattle.scoreboard.proofs.acceptance_order.SeenLists.{requests_of-append, zip-append}
use Rattle.scoreboard.proofs.acceptance_order.Fixed.{dues_unless_fixed}
use Rattle.scoreboard.proofs.acceptance_order.Told.{left-nothing, told-reply}

-- ---- one client changed

-- what holds of a client's own beats and of those of each other, holds of all
at_client : (P : ℕ → List ABeat → Type 0) (number : ℕ) (beats : List ABeat) (old : ℕ → List ABeat) → P number beats → ((client : ℕ) → client ≢ number → P client (old client))
    → (client : ℕ) → P client (if client == number then beats else old client)
at_client P number beats old own others client = grind (arith, own, others)

-- a client of which the same was observed
pub client_kept : {beginning : Beginning} {old new : Observed} {number : ℕ} {client : ClientBoard} → IsClientOf beginning old number client → new.begun number ≡ old.begun number
    → ((source : ℕ) → replies_to beginning new number source ≡ replies_to beginning old number source) → ((source : ℕ) → new.told number source ≡ old.told number source)
    → ((source : ℕ) → last_request number source (requests_in new) ≡ last_request number source (requests_in old)) → IsClientOf beginning new number client
client_kept {number = number} of begun replies told lasts =
    record {
      limits = of.limits;
      front = of.front ∙ ap (held_of number) (sym begun);
      dues = of.dues;
      owed = λ source. rw (replies source, told source) (of.owed source);
      lasts = λ source flight is. let was = of.lasts source flight is in record { request = was.request; last = lasts source ∙ was.last; where_it_acts = was.where_it_acts };
    }

-- the board where a client's part changed, and the memory
pub board_with : {beginning : Beginning} {old new : Observed} {board : Board} (number : ℕ) (client changed : ClientBoard) (memory : Memory) (unknown : ℕ → Bool) → IsBoardOf beginning old board → slice_get board.clients number ≡ Some client
    → IsClientOf beginning new number changed → ((other : ℕ) (found : ClientBoard) → other ≢ number → IsClientOf beginning old other found → IsClientOf beginning new other found)
    → memory ≡ memory_left beginning (requests_in new) → unknown ≡ unknown_left beginning (requests_in new) → new.axi ≡ old.axi → IsRightNow beginning new
    → IsBoardOf beginning new (record board { clients = slice_set board.clients number changed; memory = memory; indeterminate = unknown })
board_with {beginning = beginning} {new = new} {board = board} number client changed memory unknown of there own others left unknown_is same right =
    record {
      count = length-set board.clients number changed ∙ of.count;
      clients = λ other found is. elim (same_or_not other number) [
        | inl it ↦
            let set : Some changed ≡ Some found = sym (get_set board.clients number changed (slice_get_within board.clients number client there)) ∙ ap (slice_get (slice_set board.clients number changed)) (sym it) ∙ is in
            let found_is : changed ≡ found = cc (set) in
            rw (it, ← found_is) own
        | inr differs ↦ others other found differs (of.clients other found (sym (get_set-other board.clients number other changed differs) ∙ is))
      ];
      memory = left;
      unknown = unknown_is;
      limits = of.limits;
      open_bursts = of.open_bursts ∙ ap (open_after_all nothing_open) (sym same);
      right = right;
    }

-- ---- the beat, as the port sees it

-- the answer to a beat, by what was observed
judged_here : {beginning : Beginning} {observed : Observed} {number : ℕ} {client : ClientBoard} (beat : ABeat) → IsClientOf beginning observed number client
    → answer_to AcceptanceOrder client beat ≡ judged (port_of beginning.lists.config number) (held_of number (observed.begun number)) beat (is_busy AcceptanceOrder client.flights beat.source)
judged_here beat of = rw (of.limits, of.front) refl

-- of the source of a message nothing is left to tell: it was free at the first beat, and nothing was told since
free_with : (beginning : Beginning) (observed : Observed) (number : ℕ) (client : ClientBoard) (beat : ABeat) (begun : List ABeat) → IsClientOf beginning observed number client
    → IsFree beginning observed number begun → IsFreeFor begun (is_busy AcceptanceOrder client.flights beat.source) → IsFree beginning observed number (begun ++ beat ∷ [])
free_with beginning observed number client beat [] of right free =
    free-left (replies_to beginning observed number beat.source) (observed.told number beat.source) client.flights beat.source (of.owed beat.source) (free refl)
free_with beginning observed number client beat (first ∷ rest) of right free = right

-- ---- one beat more of a message

board_more : (beginning : Beginning) (observed : Observed) (board : Board) (number : ℕ) (client : ClientBoard) (beat : ABeat) → IsBoardOf beginning observed board → slice_get board.clients number ≡ Some client
    → GoesOn (port_of beginning.lists.config number) (observed.begun number) beat (is_busy AcceptanceOrder client.flights beat.source)
    → IsBoardOf beginning (with_begun number (observed.begun number ++ beat ∷ []) observed) (with_client number (record client { front = Some (joined client.limits client.front beat) }) board)
board_more beginning observed board number client beat of there goes =
    let own = of.clients number client there in
    board_with number client _ board.memory board.indeterminate of there
    (record { limits = own.limits; front = rw (eqb_same number, own.limits, own.front) (sym (held-append (port_of beginning.lists.config number) (observed.begun number) beat)); dues = own.dues; owed = own.owed; lasts = own.lasts })
    (λ other found differs was. client_kept was (rw (ne_eqb other number differs) refl) (λ source. refl) (λ source. refl) (λ source. refl)) of.memory of.unknown refl
    (record {
      spelled = of.right.spelled;
      as_many = of.right.as_many;
      begun = at_client (λ c beats. IsFront (port_of beginning.lists.config c) beats) number (observed.begun number ++ beat ∷ []) observed.begun goes.front (λ c other. of.right.begun c);
      told = of.right.told;
      free =
          at_client (IsFree beginning observed) number (observed.begun number ++ beat ∷ []) observed.begun
          (free_with beginning observed number client beat (observed.begun number) own (of.right.free number) goes.free) (λ c other. of.right.free c);
      axi = of.right.axi;
    })

-- ---- the last beat of a message

-- the request that it completes is the client's
pub client_of : (number : ℕ) (begun : List ABeat) (beat : ABeat) (message : HeldMessage) → held_of number (begun ++ beat ∷ []) ≡ Some message → message.client ≡ number
client_of number begun beat message is = grind (arith, is)

-- of its source nothing is left to tell
source_free : (beginning : Beginning) (observed : Observed) (number : ℕ) (beats : List ABeat) (message : HeldMessage) → held_of number beats ≡ Some message → IsFree beginning observed number beats
    → left_of (replies_to beginning observed number message.source) (observed.told number message.source) ≡ []
source_free beginning observed number beats message is free = grind (arith, is, free)

-- what was observed with a message more
abbrev pub with_whole : ℕ → List ABeat → Observed → Observed
with_whole number beats observed = record (with_begun number [] observed) { messages = observed.messages ++ record { client = number; beats = beats } ∷ [] }

-- the request, what it does, and its reply
pub record IsCompleted (beginning : Beginning) (observed : Observed) (number : ℕ) (beats : List ABeat) (message : HeldMessage) (given : Footprint × Reply) : Type 0 where
  pub held : held_of number beats ≡ Some message
  pub client : message.client ≡ number
  pub spelled : IsSpelled beginning.lists (record { client = number; beats = beats }, request_of message)
  pub free : left_of (replies_to beginning observed number message.source) (observed.told number message.source) ≡ []
  pub given_is : given ≡ given_after beginning (requests_in observed) (request_of message)

pub requests_whole : (observed : Observed) (number : ℕ) (beats : List ABeat) (message : HeldMessage) → held_of number beats ≡ Some message
    → requests_in (with_whole number beats observed) ≡ requests_in observed ++ request_of message ∷ []
requests_whole observed number beats message held = requests_of-append observed.messages (record { client = number; beats = beats }) (request_of message) (ap (option_map request_of) held)

own_with : (beginning : Beginning) (observed : Observed) (number : ℕ) (beats : List ABeat) (message : HeldMessage) (given : Footprint × Reply) → message.client ≡ number
    → IsWith beginning observed (with_whole number beats observed) (request_of message) given
    → replies_to beginning (with_whole number beats observed) number message.source ≡ replies_to beginning observed number message.source ++ dues_given given (request_of message) ∷ []
own_with beginning observed number beats message given same with_q =
    subst
    (λ n. replies_to beginning (with_whole number beats observed) n message.source ≡ replies_to beginning observed n message.source ++ dues_given given (request_of message) ∷ []) same
    (replies_to-own beginning observed (with_whole number beats observed) (request_of message) given with_q)

-- the replies to a source of a client: one more where they are the request's
pub own_replies : (beginning : Beginning) (observed : Observed) (number : ℕ) (beats : List ABeat) (message : HeldMessage) (given : Footprint × Reply) → IsCompleted beginning observed number beats message given
    → replies_to beginning (with_whole number beats observed) number message.source ≡ replies_to beginning observed number message.source ++ dues_given given (request_of message) ∷ []
own_replies beginning observed number beats message given done =
    own_with beginning observed number beats message given done.client (record { requests = requests_whole observed number beats message done.held; given_is = done.given_is })

-- it isn't of another client, or another source
not_of : (number : ℕ) (message : HeldMessage) (client source : ℕ) → message.client ≡ number → (client ≢ number) ⊎ (source ≢ message.source) → is_of client source (request_of message) ≡ false
not_of number message client source own (inl other) = rw (ne_eqb message.client client (λ same. other (sym same ∙ own))) refl
not_of number message client source own (inr other) = rw (ne_eqb message.source source (λ same. other (sym same))) (and_false (message.client == client))
  where
    and_false : (b : Bool) → (b && false) ≡ false
    and_false true = refl
    and_false false = refl

pub other_replies : (beginning : Beginning) (observed : Observed) (number : ℕ) (beats : List ABeat) (message : HeldMessage) (given : Footprint × Reply) (client source : ℕ) → IsCompleted beginning observed number beats message given
    → (client ≢ number) ⊎ (source ≢ message.source) → replies_to beginning (with_whole number beats observed) client source ≡ replies_to beginning observed client source
other_replies beginning observed number beats message given client source done differs =
    replies_to-other beginning observed (with_whole number beats observed) (request_of message) given client source
    (record { requests = requests_whole observed number beats message done.held; given_is = done.given_is }) (not_of number message client source done.client differs)

-- the last request of a client's source: this, or the one it was
pub own_last : (beginning : Beginning) (observed : Observed) (number : ℕ) (beats : List ABeat) (message : HeldMessage) (given : Footprint × Reply) → IsCompleted beginning observed number beats message given
    → last_request number message.source (requests_in (with_whole number beats observed)) ≡ Some (request_of message)
own_last beginning observed number beats message given done =
    ap (last_request number message.source) (requests_whole observed number beats message done.held) ∙ last_with number message.source (requests_in observed) (request_of message)
    ∙ rw (eq-eqb message.client number done.client, eqb_same message.source) refl

pub other_last : (beginning : Beginning) (observed : Observed) (number : ℕ) (beats : List ABeat) (message : HeldMessage) (given : Footprint × Reply) (client source : ℕ) → IsCompleted beginning observed number beats message given
    → (client ≢ number) ⊎ (source ≢ message.source) → last_request client source (requests_in (with_whole number beats observed)) ≡ last_request client source (requests_in observed)
other_last beginning observed number beats message given client source done differs =
    ap (last_request client source) (requests_whole observed number beats message done.held) ∙ last_with client source (requests_in observed) (request_of message)
    ∙ rw (not_of number message client source done.client differs) refl

pub right_whole : (beginning : Beginning) (observed : Observed) (number : ℕ) (beats : List ABeat) (message : HeldMessage) (given : Footprint × Reply) → IsCompleted beginning observed number beats message given
    → IsRightNow beginning observed → IsRightNow beginning (with_whole number beats observed)
right_whole beginning observed number beats message given done right =
    let accepted : AcceptedMessage = record { client = number; beats = beats } in
    let requests = requests_whole observed number beats message done.held in
    record {
      spelled = rw (requests, zip-append observed.messages (requests_in observed) accepted (request_of message) right.as_many) (all-append (IsSpelled beginning.lists) (zip observed.messages (requests_in observed)) (accepted, request_of message) right.spelled done.spelled);
      as_many = omega (arith, ap length requests, length-append (requests_in observed) (request_of message ∷ []), length-append observed.messages (accepted ∷ []), right.as_many);
      begun = at_client (λ c bs. IsFront (port_of beginning.lists.config c) bs) number [] observed.begun (none_front (port_of beginning.lists.config number)) (λ c other. right.begun c);
      told = λ client source. elim (same_or_not client number) [
        | inl same ↦ elim (same_or_not source message.source) [
          | inl is ↦
              rw (same, is, own_replies beginning observed number beats message given done)
              (told-reply (replies_to beginning observed number message.source) (observed.told number message.source) (dues_given given (request_of message)) (right.told number message.source) done.free).is_told
          | inr other ↦ rw (other_replies beginning observed number beats message given client source done (inr other)) (right.told client source)
        ]
        | inr differs ↦ rw (other_replies beginning observed number beats message given client source done (inl differs)) (right.told client source)
      ];
      free = at_client (IsFree beginning (with_whole number beats observed)) number [] observed.begun tt (λ c other. free_at c (observed.begun c) other (right.free c));
      axi = right.axi;
    }
  where
    free_at : (client : ℕ) (begun : List ABeat) → client ≢ number → IsFree beginning observed client begun → IsFree beginning (with_whole number beats observed) client begun
    free_at client [] differs free = tt
    free_at client (first ∷ rest) differs free = rw (other_replies beginning observed number beats message given client first.source done (inl differs)) free

-- a request in flight that takes effect in its turn
abbrev flight_in_turn : Memory → (ℕ → Bool) → WholeRequest → InFlight
flight_in_turn memory unknown q = flight_for memory (unless_fixed (alone unknown (place_in memory q) q)) q

-- it is where its request acts
where_in_turn : (beginning : Beginning) (requests : List WholeRequest) (memory : Memory) (unknown : ℕ → Bool) (q : WholeRequest) → memory ≡ memory_left beginning requests
    → IsWhere beginning.lists q (flight_in_turn memory unknown q).footprint
where_in_turn beginning requests memory unknown q is = rw is (record { writes = refl; address = refl; size = refl })

client_whole : (beginning : Beginning) (observed : Observed) (number : ℕ) (beats : List ABeat) (message : HeldMessage) (memory : Memory) (unknown : ℕ → Bool) (client : ClientBoard)
    → memory ≡ memory_left beginning (requests_in observed)
    → IsCompleted beginning observed number beats message (alone unknown (place_in memory (request_of message)) (request_of message), (meaning_in memory (request_of message)).reply)
    → IsClientOf beginning observed number client
    → IsClientOf beginning (with_whole number beats observed) number (with_accepted (flight_in_turn memory unknown (request_of message)) client)
client_whole beginning observed number beats message memory unknown client here done of =
    let q = request_of message in
    let reply = (meaning_in memory q).reply in
    let footprint = alone unknown (place_in memory q) q in
    let flight = flight_in_turn memory unknown q in
    let due : IsDue flight = record { some = shown_some q reply; own = shown_source q reply } in
    let none = none_flying (replies_to beginning observed number message.source) (observed.told number message.source) client.flights message.source of.dues (of.owed message.source) done.free in
    record {
      limits = of.limits;
      front = rw (eqb_same number) refl;
      dues = flying_more client.flights flight of.dues due none;
      owed = λ source. elim (same_or_not source message.source) [
        | inl same ↦
            rw (same, own_replies beginning observed number beats message (footprint, reply) done, ← dues_unless_fixed footprint (shown q reply))
            (owed_own client.flights flight (replies_to beginning observed number message.source) (observed.told number message.source) none (of.owed message.source))
        | inr differs ↦
            rw (other_replies beginning observed number beats message (footprint, reply) number source done (inr differs))
            (owed_other client.flights flight source (replies_to beginning observed number source) (observed.told number source) differs (of.owed source))
      ];
      lasts = λ source next is. elim (same_or_not source message.source) [
        | inl same ↦
            let found : Some flight ≡ Some next = sym (flying_own client.flights flight none) ∙ subst (λ n. flying_of (with_flight flight client.flights) n ≡ Some next) same is in
            let it : flight ≡ next = cc (found) in
            let where_is : IsWhere beginning.lists q next.footprint = subst (λ (f : InFlight). IsWhere beginning.lists q f.footprint) it (where_in_turn beginning (requests_in observed) memory unknown q here) in
            record { request = q; last = rw same (own_last beginning observed number beats message (footprint, reply) done); where_it_acts = where_is }
        | inr differs ↦
            let was = of.lasts source next (sym (flying_other client.flights flight source differs) ∙ is) in
            record { request = was.request; last = other_last beginning observed number beats message (footprint, reply) number source done (inr differs) ∙ was.last; where_it_acts = was.where_it_acts }
      ];
    }

board_whole : (beginning : Beginning) (observed : Observed) (old : Board) (number : ℕ) (client : ClientBoard) (beat : ABeat) (begun : Bool) → IsBoardOf beginning observed old
    → slice_get old.clients number ≡ Some client → EndsHere (port_of beginning.lists.config number) (observed.begun number) beat (is_busy AcceptanceOrder client.flights beat.source)
    → IsBoardOf beginning (with_whole number (observed.begun number ++ beat ∷ []) observed) (accepted_on AcceptanceOrder old number client (joined client.limits client.front beat) begun)
board_whole beginning observed old number client beat begun of there ends =
    let own = of.clients number client there in
    let beats = observed.begun number ++ beat ∷ [] in
    let message = joined client.limits client.front beat in
    let same_message : message ≡ joined (port_of beginning.lists.config number) (held_of number (observed.begun number)) beat = rw (own.limits, own.front) refl in
    let held : held_of number beats ≡ Some message = held-append (port_of beginning.lists.config number) (observed.begun number) beat ∙ ap Some (sym same_message) in
    let done : IsCompleted beginning observed number beats message (alone old.indeterminate (place_in old.memory (request_of message)) (request_of message), (meaning_in old.memory (request_of message)).reply) =
    record {
      held = held;
      client = client_of number (observed.begun number) beat message held;
      spelled = record {
        client = omega (arith, slice_get_within old.clients number client there, of.count);
        spells = subst (λ (m : HeldMessage). Spells (port_of beginning.lists.config number) beats (request_of m)) (sym same_message) ends.spells;
      };
      free = source_free beginning observed number beats message held (free_with beginning observed number client beat (observed.begun number) own (of.right.free number) ends.free);
      given_is =
          ap₂ (λ (m : Memory) (unknown : ℕ → Bool). (alone unknown (place_in m (request_of message)) (request_of message), (meaning_in m (request_of message)).reply)) of.memory of.unknown;
    } in
    let unknown_here =
    ap₂ (λ (m : Memory) (unknown : ℕ → Bool). after_turn unknown (alone unknown (place_in m (request_of message)) (request_of message)) (request_of message).bytes) of.memory of.unknown
    ∙ unknown_with beginning (requests_in observed) (request_of message) in
    board_with number client _ _ _ of there (client_whole beginning observed number beats message old.memory old.indeterminate client of.memory done own)
    (λ other found differs was. client_kept was (rw (ne_eqb other number differs) refl) (λ source. other_replies beginning observed number beats message _ other source done (inl differs)) (λ source. refl)
    (λ source. other_last beginning observed number beats message _ other source done (inl differs)))
    (memory_with beginning (requests_in observed) old.memory (request_of message) of.memory ∙ ap (memory_left beginning) (sym (requests_whole observed number beats message held)))
    (unknown_here ∙ ap (unknown_left beginning) (sym (requests_whole observed number beats message held))) refl
    (right_whole beginning observed number beats message _ done of.right)

-- ---- the answer

-- a beat on channel A of a client that is there, which isn't wrong
pub step_request : (beginning : Beginning) (observed : Observed) (old : Board) (number : ℕ) (client : ClientBoard) (beat : ABeat) (answer : Result Progress TlRule) → IsBoardOf beginning observed old
    → slice_get old.clients number ≡ Some client → answer_to AcceptanceOrder client beat ≡ answer → wrong_request answer ≡ None
    → IsBoardOf beginning (with_request_beat number beat observed) (answered_on AcceptanceOrder old number client (joined client.limits client.front beat) answer)
step_request beginning observed old number client beat (Err broken) of there is none = absurd (cc (none))
step_request beginning observed old number client beat (Ok More) of there is none =
    let goes = goes_on (port_of beginning.lists.config number) (observed.begun number) beat (is_busy AcceptanceOrder client.flights beat.source) (of.right.begun number) (sym (judged_here beat (of.clients number client there)) ∙ is) in
    rw (goes.incomplete) (board_more beginning observed old number client beat of there goes)
step_request beginning observed old number client beat (Ok Whole) of there is none =
    let ends = ends_here (port_of beginning.lists.config number) (observed.begun number) beat (is_busy AcceptanceOrder client.flights beat.source) (of.right.begun number) (sym (judged_here beat (of.clients number client there)) ∙ is) in
    rw (ends.complete) (board_whole beginning observed old number client beat (is_some client.front) of there ends)

-- ---- the other way round

-- nothing was left of the source of a request that may be accepted
left_before : (beginning : Beginning) (observed : Observed) (number : ℕ) (beats : List ABeat) (message : HeldMessage) → held_of number beats ≡ Some message → message.client ≡ number
    → IsRightNow beginning observed → IsRightNow beginning (with_whole number beats observed)
    → left_of (replies_to beginning observed number message.source) (observed.told number message.source) ≡ []
left_before beginning observed number beats message held same before now =
    left-nothing (replies_to beginning observed number message.source) (observed.told number message.source) _ (before.told number message.source)
    (subst (λ replies. IsTold replies (observed.told number message.source))
    (own_with beginning observed number beats message _ same (record { requests = requests_whole observed number beats message held; given_is = refl })) (now.told number message.source))

pub own_begun : (observed : Observed) (number : ℕ) (beats : List ABeat) → (with_begun number beats observed).begun number ≡ beats
own_begun observed number beats = rw (eqb_same number) refl

-- a beat that may come isn't wrong
pub request_right : (beginning : Beginning) (observed : Observed) (number : ℕ) (client : ClientBoard) (beat : ABeat) → IsClientOf beginning observed number client → IsRightNow beginning observed
    → IsRightNow beginning (with_request_beat number beat observed) → wrong_request (answer_to AcceptanceOrder client beat) ≡ None
request_right beginning observed number client beat of before after = by_complete (is_complete beats) refl
  where
    beats : List ABeat
    beats = observed.begun number ++ beat ∷ []

    -- the source is free where nothing is left of it
    busy_by : left_of (replies_to beginning observed number beat.source) (observed.told number beat.source) ≡ [] → is_busy AcceptanceOrder client.flights beat.source ≡ false
    busy_by none = left-free (replies_to beginning observed number beat.source) (observed.told number beat.source) client.flights beat.source of.dues (of.owed beat.source) none

    by_complete : (b : Bool) → is_complete beats ≡ b → wrong_request (answer_to AcceptanceOrder client beat) ≡ None
    by_complete false is =
        let now : IsRightNow beginning (with_begun number beats observed) = subst (λ (b : Bool). IsRightNow beginning (with_message number beats b observed)) is after in
        let front = subst (IsFront (port_of beginning.lists.config number)) (own_begun observed number beats) (now.begun number) in
        let free = subst (IsFree beginning (with_begun number beats observed) number) (own_begun observed number beats) (now.free number) in
        ap wrong_request
        (judged_here beat of
        ∙ may_go_on (port_of beginning.lists.config number) (observed.begun number) beat _ (before.begun number) front (λ empty. busy_by (subst (λ (bs : List ABeat). IsFree beginning observed number (bs ++ beat ∷ [])) empty free)))
    by_complete true is =
        let now : IsRightNow beginning (with_whole number beats observed) = subst (λ (b : Bool). IsRightNow beginning (with_message number beats b observed)) is after in
        let message = joined (port_of beginning.lists.config number) (held_of number (observed.begun number)) beat in
        let held : held_of number beats ≡ Some message = held-append (port_of beginning.lists.config number) (observed.begun number) beat in
        let accepted : AcceptedMessage = record { client = number; beats = beats } in
        let pairs = rw (requests_whole observed number beats message held, zip-append observed.messages (requests_in observed) accepted (request_of message) before.as_many) at now.spelled in
        let last = (all_parts (IsSpelled beginning.lists) (zip observed.messages (requests_in observed)) ((accepted, request_of message) ∷ []) pairs).1.0 in
        ap wrong_request (judged_here beat of ∙ may_end (port_of beginning.lists.config number) (observed.begun number) beat _ (request_of message) (before.begun number) last.spells
        (λ empty.
        let source : message.source ≡ beat.source = rw empty refl in
        busy_by (subst (λ n. left_of (replies_to beginning observed number n) (observed.told number n) ≡ []) source
        (left_before beginning observed number beats message held (client_of number (observed.begun number) beat message held) before now))))
