-- What a scoreboard holds, by what was observed: at the start, and what one client's part and the memory become by a request.
use Rattle.std.proofs.Common.{◌≡◌, ℕ, ◌+◌, zero, suc, Bool, true, false, ◌||◌, List, [], ◌∷◌, ◌++◌, map, length, Some, if◌then◌else◌, refl, sym, ◌∙◌, ap, subst, arith}
use Rattle.std.specs.Prelude.{◌≢◌, slice_get}
use Rattle.std.specs.List.{range_with_len}
use Rattle.std.proofs.lemmas.List.{append-nil}
use Rattle.std.proofs.lemmas.List.FromFn.{length-map-range_with_len}
use Rattle.bus_words.specs.Lanes.{given_at, payload_of}
use Rattle.tl_messages.specs.Requests.{WholeRequest, held_of}
use Rattle.tl_messages.specs.Operations.{beats_of}
use Rattle.tl_checker.proofs.Fronts.{none_front}
use Rattle.axi_checker.specs.OpenBursts.{nothing_open}
use Rattle.axi_checker.specs.Rules.{open_after_all}
use Rattle.responses.specs.Shown.{Reply, address_in_word, beat_of_word, beat_without_data, lacks_a_byte, shown}
use Rattle.config.specs.Configs.{axi_port_of, port_of}
use Rattle.meaning.specs.Meaning.{Bytes, bytes_after_all}
use Rattle.setups.specs.Setups.{faults_of}
use Rattle.scoreboard.specs.Boards.{Beginning, Board, ClientBoard, opening_client, opening_from}
use Rattle.scoreboard.specs.Flights.{Footprint, InFlight}
use Rattle.scoreboard.specs.InTurn.{DueBeat, dues_of}
use Rattle.scoreboard.specs.Observed.{Observed, nothing_observed, requests_in}
use Rattle.scoreboard.specs.Right.{IsRightNow, acts, is_of, replies_from, replies_to, unknown_after, unknown_after_all}
use Rattle.scoreboard.specs.declared.Errors.{Errors}
use Rattle.serial_memory.specs.SerialMemory.{Memory, carried_out, meaning_in}
use Rattle.scoreboard.proofs.acceptance_order.DueLists.{AreDues, AreOf}
use Rattle.scoreboard.proofs.acceptance_order.Lasts.{IsOfLast}
use Rattle.scoreboard.proofs.acceptance_order.Owed.{IsOwed, eqb_same, flying, flying_of}
use Rattle.scoreboard.proofs.acceptance_order.SeenLists.{bytes_after_all-append, pairs-append, pairs-count, shown_to-append, unknown_after_all-append}
use Rattle.scoreboard.proofs.acceptance_order.Told.{told_nothing}

-- ---- what is held

-- of a client: what it has begun, and what is left of its replies
pub record IsClientOf (beginning : Beginning) (observed : Observed) (number : ℕ) (client : ClientBoard) : Type 0 where
  pub limits : client.limits ≡ port_of beginning.lists.config number
  pub front : client.front ≡ held_of number (observed.begun number)
  pub dues : AreDues (flying client.flights)
  pub owed : (source : ℕ) → IsOwed (replies_to beginning observed number source) (observed.told number source) client.flights source
  pub lasts : (source : ℕ) (flight : InFlight) → flying_of client.flights source ≡ Some flight → IsOfLast beginning.lists number source (requests_in observed) flight.footprint

-- the memory as the requests leave it
abbrev pub memory_left : Beginning → List WholeRequest → Memory
memory_left beginning requests =
    record {
      regions = beginning.lists.regions;
      faults = faults_of beginning.lists;
      bytes = bytes_after_all (faults_of beginning.lists) beginning.lists.regions requests beginning.bytes;
    }

-- and which bytes aren't known then
abbrev pub unknown_left : Beginning → List WholeRequest → ℕ → Bool
unknown_left beginning requests = unknown_after_all beginning.lists beginning.unknown requests

-- of a right observation
pub record IsBoardOf (beginning : Beginning) (observed : Observed) (board : Board) : Type 0 where
  pub count : length board.clients ≡ beginning.lists.config.clients
  pub clients : (number : ℕ) (client : ClientBoard) → slice_get board.clients number ≡ Some client → IsClientOf beginning observed number client
  pub memory : board.memory ≡ memory_left beginning (requests_in observed)
  pub unknown : board.indeterminate ≡ unknown_left beginning (requests_in observed)
  pub limits : board.axi.limits ≡ axi_port_of beginning.lists.config
  pub open_bursts : board.axi.open_bursts ≡ open_after_all nothing_open observed.axi
  pub right : IsRightNow beginning observed

-- ---- at the start

pub right_opens : (beginning : Beginning) → IsRightNow beginning nothing_observed
right_opens beginning =
    record {
      spelled = tt;
      as_many = refl;
      begun = λ client. none_front (port_of beginning.lists.config client);
      told = λ client source. told_nothing.is_told;
      free = λ client. tt;
      axi = refl;
    }

clients_open : (beginning : Beginning) (from count number : ℕ) (client : ClientBoard) → slice_get (map (opening_client beginning.lists.config) (range_with_len from count)) number ≡ Some client
    → IsClientOf beginning nothing_observed (from + number) client
clients_open beginning from zero number client is = absurd (cc (is))
clients_open beginning from (suc count) zero client is = grind (arith, is, beginning.lists.config)
clients_open beginning from (suc count) (suc number) client is =
    let next : from + suc number ≡ from + 1 + number = omega arith in
    rw next (clients_open beginning (from + 1) count number client is)

pub board_opens : (errors : Errors) (beginning : Beginning) → IsBoardOf beginning nothing_observed (opening_from errors beginning)
board_opens errors beginning =
    record {
      count = length-map-range_with_len (opening_client beginning.lists.config) 0 beginning.lists.config.clients;
      clients = λ number client is. subst (λ n. IsClientOf beginning nothing_observed n client) (omega arith) (clients_open beginning 0 beginning.lists.config.clients number client is);
      memory = refl;
      unknown = refl;
      limits = refl;
      open_bursts = refl;
      right = right_opens beginning;
    }

-- ---- a request that is carried out

pub memory_with : (beginning : Beginning) (requests : List WholeRequest) (memory : Memory) (q : WholeRequest) → memory ≡ memory_left beginning requests
    → carried_out memory q ≡ memory_left beginning (requests ++ q ∷ [])
memory_with beginning requests memory q is =
    ap (λ (m : Memory). carried_out m q) is
    ∙ ap {B = Memory} (λ (bytes : Bytes). record { regions = beginning.lists.regions; faults = faults_of beginning.lists; bytes = bytes }) (sym (bytes_after_all-append (faults_of beginning.lists) beginning.lists.regions requests q beginning.bytes))

pub unknown_with : (beginning : Beginning) (requests : List WholeRequest) (q : WholeRequest)
    → unknown_after beginning.lists (unknown_left beginning requests) q ≡ unknown_left beginning (requests ++ q ∷ [])
unknown_with beginning requests q = sym (unknown_after_all-append beginning.lists beginning.unknown requests q)

-- ---- the beats of a reply

all_words : (q : WholeRequest) (reply : Reply) (places : List ℕ) → AreOf q.source (map (beat_of_word q reply) places)
all_words q reply [] = tt
all_words q reply (place ∷ places) = (by_word (reply.denied || lacks_a_byte q reply place), all_words q reply places)
  where
    by_word : (b : Bool) → (if b then record (beat_without_data q reply) { corrupt = true } else record (beat_without_data q reply) { payload = payload_of (λ lane. given_at reply.bytes q.address (address_in_word q place lane)) }).source ≡ q.source
    by_word true = refl
    by_word false = refl

-- are all of its request's source
pub shown_source : (q : WholeRequest) (reply : Reply) → AreOf q.source (shown q reply)
shown_source q reply = grind (arith, all_words q reply (range_with_len 0 (beats_of q.size true)))

-- and there are some
pub shown_some : (q : WholeRequest) (reply : Reply) → shown q reply ≢ []
shown_some q reply none = grind (arith, none, length-map-range_with_len (beat_of_word q reply) 0 (beats_of q.size true))

-- ---- the replies to a client's requests of a source, after one more request

-- what a request does after others, and its reply
abbrev pub given_after : Beginning → List WholeRequest → WholeRequest → Footprint × Reply
given_after beginning requests q = (acts beginning.lists (unknown_left beginning requests) q, (meaning_in (memory_left beginning requests) q).reply)

-- the beats that show it
abbrev pub dues_given : Footprint × Reply → WholeRequest → List DueBeat
dues_given given q = dues_of given.0 (shown q given.1)

pub record IsWith (beginning : Beginning) (old new : Observed) (q : WholeRequest) (given : Footprint × Reply) : Type 0 where
  pub requests : requests_in new ≡ requests_in old ++ q ∷ []
  pub given_is : given ≡ given_after beginning (requests_in old) q

replies_with : (beginning : Beginning) (old new : Observed) (q : WholeRequest) (given : Footprint × Reply) (client source : ℕ) → IsWith beginning old new q given
    → replies_to beginning new client source ≡ replies_to beginning old client source ++ (if is_of client source q then dues_given given q ∷ [] else [])
replies_with beginning old new q given client source with_q =
    rw (with_q.requests, pairs-append beginning.lists beginning.unknown beginning.bytes (requests_in old) q, with_q.given_is)
    (shown_to-append client source (requests_in old) (replies_from beginning (requests_in old)) q _ _ (pairs-count beginning.lists beginning.unknown beginning.bytes (requests_in old)))

pub replies_to-own : (beginning : Beginning) (old new : Observed) (q : WholeRequest) (given : Footprint × Reply) → IsWith beginning old new q given
    → replies_to beginning new q.client q.source ≡ replies_to beginning old q.client q.source ++ dues_given given q ∷ []
replies_to-own beginning old new q given with_q = replies_with beginning old new q given q.client q.source with_q ∙ rw (eqb_same q.client, eqb_same q.source) refl

pub replies_to-other : (beginning : Beginning) (old new : Observed) (q : WholeRequest) (given : Footprint × Reply) (client source : ℕ) → IsWith beginning old new q given → is_of client source q ≡ false
    → replies_to beginning new client source ≡ replies_to beginning old client source
replies_to-other beginning old new q given client source with_q other = replies_with beginning old new q given client source with_q ∙ rw other (append-nil (replies_to beginning old client source))
