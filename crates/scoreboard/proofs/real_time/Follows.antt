-- A board, its shadow, and an order of what has begun: the shadow explains the order, in which it takes each request to be whole, and the board knows which
-- of them are.
use Rattle.std.proofs.Common.{◌≡◌, ℕ, Bool, true, false, List, [], ◌∷◌, map, length, Option, Some, None, if◌then◌else◌, inl, inr, refl, sym, ◌∙◌, ap, subst}
use Rattle.std.specs.Prelude.{is_none, is_some}
use Rattle.std.specs.List.{AllByRecursion, list_any}
use Rattle.std.proofs.lemmas.Bool.{or_cases}
use Rattle.tl_messages.specs.declared.DBeat.{DBeat}
use Rattle.responses.specs.Shown.{beat_without_data}
use Rattle.meaning.specs.Meaning.{Bytes, acknowledged}
use Rattle.scoreboard.specs.declared.Errors.{Errors}
use Rattle.scoreboard.specs.declared.Errors.TheVariants.{Any, Strict}
use Rattle.burst_plan.specs.PageMap.{address_of}
use Rattle.burst_plan.specs.declared.Region.{Region}
use Rattle.subordinate.specs.Faults.{Faults}
use Rattle.scoreboard.specs.AxiPorts.{PortBoard}
use Rattle.scoreboard.specs.Boards.{Board, ClientBoard, acting, place_on}
use Rattle.scoreboard.specs.Flights.{Footprint, InFlight}
use Rattle.scoreboard.specs.Orders.{Entry, Order, begun_to, has_ended}
use Rattle.scoreboard.specs.Races.{alone, beside}
use Rattle.serial_memory.specs.SerialMemory.{on_good_page}
use Rattle.tl_messages.specs.Requests.{WholeRequest}
use Rattle.scoreboard.proofs.MappedLists.{any_map}
use Rattle.scoreboard.proofs.real_time.Ahead.{IsAhead, IsComing, Shadow, comes, shadow_of}
use Rattle.scoreboard.proofs.real_time.Comings.{early_at}
use Rattle.scoreboard.proofs.real_time.Entries.{carry, place_of, run}
use Rattle.scoreboard.proofs.real_time.Explained.{Explains}
use Rattle.scoreboard.proofs.real_time.Failures.{failed_at}
use Rattle.scoreboard.proofs.real_time.FlightLists.{HaveAllSources}
use Rattle.scoreboard.proofs.real_time.Places.{Place, begun_at, coming_at, due_at, flight_at}
use Rattle.scoreboard.proofs.real_time.ReplySteps.{begun_as}
use Rattle.scoreboard.proofs.real_time.StepOrders.{is_coming}

-- an entry as the shadow has it
abbrev pub settled : Entry → Entry
settled entry = record entry { whole = true; spoiled = false; early = false; replied = false }

abbrev pub settle : Order → Order
settle order = map settled order

-- one whose reply hasn't ended is in flight on the board exactly where it is whole
abbrev pub IsMarked : List ClientBoard → Entry → Type 0
IsMarked clients entry = has_ended entry ≡ false → entry.whole ≡ is_some (flight_at clients (place_of entry))

-- where a request may act, were it not corrupt
abbrev pub may_act : Faults → List Region → WholeRequest → Footprint
may_act faults regions q = alone (λ x. false) (on_good_page faults (address_of regions (record q { corrupt = false }))) q

-- a footprint is that of where a request may act, where errors may be told in any way
abbrev pub ActsAs : Board → WholeRequest → Footprint → Type 0
ActsAs board q footprint =
    board.errors ≡ Any
    → footprint ≡ record (may_act board.memory.faults board.memory.regions q) { failed = footprint.failed; determined = footprint.determined }

-- it is what became of a request with these fields
pub acts_as : (board : Board) (first q : WholeRequest) (footprint : Footprint) → q ≡ record first { bytes = q.bytes; corrupt = q.corrupt }
    → footprint ≡ record (alone (λ x. false) (place_on board first) first) { failed = footprint.failed; determined = footprint.determined } → ActsAs board q footprint
acts_as board first q footprint fields acts any =
    acts
    ∙ ap (λ (e : Errors). record (alone (λ x. false) (on_good_page board.memory.faults (address_of board.memory.regions (acting e first))) first)
    { failed = footprint.failed; determined = footprint.determined }) any
    ∙ ap (λ (x : WholeRequest). record (may_act board.memory.faults board.memory.regions x) { failed = footprint.failed; determined = footprint.determined }) (sym fields)

-- and stays so beside another
pub acts_beside : (board : Board) (q : WholeRequest) (footprint other : Footprint) → ActsAs board q footprint → ActsAs board q (beside footprint other)
acts_beside board q footprint other was any = ap (λ (r : Footprint). record r { determined = (beside footprint other).determined }) (was any)

-- a footprint tells whether an entry has failed, and where it may act
abbrev pub Knows : Board → Entry → Footprint → Type 0
Knows board entry footprint =
    (footprint.failed ≡ failed_at board.errors board.memory.faults board.memory.regions entry) × ActsAs board entry.request footprint

-- and the board knows whether it has failed, and where it may act
abbrev pub IsFailing : Board → Entry → Type 0
IsFailing board entry =
    entry.whole ≡ true → has_ended entry ≡ false → (flight : InFlight) → flight_at board.clients (place_of entry) ≡ Some flight → Knows board entry flight.footprint

-- and the shadow whether it is fated to fail
abbrev pub IsFated : Shadow → Entry → Type 0
IsFated shadow entry = entry.whole ≡ true → has_ended entry ≡ false → shadow.fates (place_of entry) ≡ shadow.fate entry.number

-- whether the reply to what has begun came, by whether it may come
abbrev pub replied_by : Errors → Option DBeat → Bool
replied_by Strict early = false
replied_by Any early = is_none early

-- one that isn't whole is what a message becomes that has begun: the board knows whether it has failed, and whether its reply may come, or came
pub record IsOpen (board : Board) (shadow : Shadow) (entry : Entry) : Type 0 where
  pub begun : comes board.clients entry.client ≡ true
  pub final : entry.request ≡ shadow.finals entry.client
  pub none_came : entry.came ≡ 0
  pub any : entry.early ≡ true → board.errors ≡ Any
  pub early : early_at board.clients entry.client ≡ (if entry.early then Some (beat_without_data entry.request acknowledged) else None)
  pub replied : entry.replied ≡ replied_by board.errors (early_at board.clients entry.client)
  pub failed : (coming_at board.clients entry.client).failed ≡ failed_at board.errors board.memory.faults board.memory.regions entry
  pub acts : ActsAs board entry.request (coming_at board.clients entry.client)

pub record Follows (start : Bytes) (board : Board) (shadow : Shadow) (order : Order) : Type 0 where
  pub explains : Explains start (shadow_of board shadow) (settle order)
  pub ahead : IsAhead board shadow
  pub marked : AllByRecursion (IsMarked board.clients) order
  pub failing : AllByRecursion (IsFailing board) order
  pub fated : AllByRecursion (IsFated shadow) order
  pub any_fated : (number : ℕ) → shadow.fate number ≡ true → board.errors ≡ Any
  pub open_ones : AllByRecursion (λ entry. entry.whole ≡ false → IsOpen board shadow entry) order
  pub known : (client : ℕ) → comes board.clients client ≡ true → list_any (is_coming client) order ≡ true
  pub early : (client : ℕ) (due : DBeat) → early_at board.clients client ≡ Some due → comes board.clients client ≡ true

-- a board that is followed, with some shadow, where these are fated
abbrev pub IsFollowed : Bytes → (ℕ → Bool) → Board → Order → Type 0
IsFollowed start fate board order = (shadow : Shadow) × Follows start board shadow order × (shadow.fate ≡ fate)

-- ---- orders

-- what holds of each holds of each with another fact
pub all_both : (P Q R : Entry → Type 0) (order : Order) → ((entry : Entry) → P entry → Q entry → R entry) → AllByRecursion P order → AllByRecursion Q order
    → AllByRecursion R order
all_both P Q R [] both first second = tt
all_both P Q R (entry ∷ order) both first second = (both entry first.0 second.0, all_both P Q R order both first.1 second.1)

pub all_mapped : (P Q : Entry → Type 0) (change : Entry → Entry) (order : Order) → ((entry : Entry) → P entry → Q (change entry)) → AllByRecursion P order
    → AllByRecursion Q (map change order)
all_mapped P Q change [] one all = tt
all_mapped P Q change (entry ∷ order) one all = (one entry all.0, all_mapped P Q change order one all.1)

-- one of an order that passes a test
pub some_passes : (P : Entry → Type 0) (test : Entry → Bool) (order : Order) → AllByRecursion P order → list_any test order ≡ true
    → (entry : Entry) × P entry × (test entry ≡ true)
some_passes P test [] all some = absurd (cc (some))
some_passes P test (entry ∷ order) all some =
    elim (or_cases (test entry) (list_any test order) some) [ inl is ↦ (entry, all.0, is) | inr later ↦ some_passes P test order all.1 later ]

-- ---- a board on which the same is in flight and comes

module _ (board : Board) (shadow : Shadow) (clients : List ClientBoard) (port : PortBoard) (sources : HaveAllSources clients) (many : length board.clients ≡ length clients)
    (flights : (place : Place) → flight_at clients place ≡ flight_at board.clients place) (same : (client : ℕ) → comes clients client ≡ comes board.clients client)
    (coming : (client : ℕ) → coming_at clients client ≡ coming_at board.clients client) where
  abbrev pub same_board : Board
  same_board = record board { clients = clients; axi = port }

  pub ahead_as : IsAhead board shadow → IsAhead (record board { clients = clients; axi = port }) shadow
  ahead_as ahead =
      record {
        sources = sources;
        small = ahead.small;
        many = ahead.many ∙ many;
        placed = λ place flight is. ahead.placed place flight (sym (flights place) ∙ is);
        begun = λ client some.
            let old = ahead.begun client (sym (same client) ∙ some) in
            record {
              other = old.other;
              there = old.there;
              becomes = subst (λ (r : Footprint). IsComing board.memory.faults board.memory.regions r (shadow.finals client) old.other) (sym (coming client)) old.becomes;
            };
        others = λ place other is none.
            let old = ahead.others place other is (sym (flights place) ∙ none) in record { begun = same place.client ∙ old.begun; there = old.there };
        waits = λ client some. flights (due_at client (shadow.finals client).source) ∙ ahead.waits client (sym (same client) ∙ some);
        known = λ x certain none unfated.
            let old = ahead.known x certain (λ client some. none client (same client ∙ some)) (λ place flight is. unfated place flight (flights place ∙ is)) in
            record { byte = old.byte; certain = old.certain };
        given = λ client x some determined gives_it.
            ahead.given client x (sym (same client) ∙ some) (sym (ap (λ (r : Footprint). r.determined x) (coming client)) ∙ determined) gives_it;
      }

  pub follows_as : {start : Bytes} → ((client : ℕ) → early_at clients client ≡ early_at board.clients client) → (order : Order) → Explains start (shadow_of (record board { clients = clients; axi = port }) shadow) (settle order) → Follows start board shadow order
      → Follows start (record board { clients = clients; axi = port }) shadow order
  follows_as early order explains old =
      record {
        explains = explains;
        ahead = ahead_as old.ahead;
        marked =
            all_both (IsMarked board.clients) (IsMarked board.clients) (IsMarked clients) order
            (λ entry was again alive. was alive ∙ sym (ap (λ (o : Option InFlight). is_some o) (flights (place_of entry)))) old.marked old.marked;
        failing =
            all_both (IsFailing board) (IsFailing board) (IsFailing same_board) order
            (λ entry was again whole alive flight there. was whole alive flight (sym (flights (place_of entry)) ∙ there)) old.failing old.failing;
        fated = old.fated;
        any_fated = old.any_fated;
        open_ones =
            all_both (λ entry. entry.whole ≡ false → IsOpen board shadow entry) (λ entry. entry.whole ≡ false → IsOpen board shadow entry)
            (λ entry. entry.whole ≡ false → IsOpen same_board shadow entry) order
            (λ entry was again unwhole.
            let it = was unwhole in record {
              begun = same entry.client ∙ it.begun;
              final = it.final;
              none_came = it.none_came;
              any = it.any;
              early = early entry.client ∙ it.early;
              replied = it.replied ∙ ap (replied_by board.errors) (sym (early entry.client));
              failed = ap (λ (f : Footprint). f.failed) (coming entry.client) ∙ it.failed;
              acts = subst (ActsAs board entry.request) (sym (coming entry.client)) it.acts;
            }) old.open_ones old.open_ones;
        known = λ client some. old.known client (sym (same client) ∙ some);
        early = λ client due is. same client ∙ old.early client due (sym (early client) ∙ is);
      }

-- ---- a reply that has begun

module _ {start : Bytes} (board : Board) (shadow : Shadow) (order : Order) (follows : Follows start board shadow order) (number : ℕ) where
  -- has begun on both boards
  pub begun_both : is_some (flight_at board.clients (begun_at number)) ≡ is_some (flight_at shadow.clients (begun_at number))
  begun_both = by_both (flight_at board.clients (begun_at number)) (flight_at shadow.clients (begun_at number)) refl refl
    where
      by_both : (mine theirs : Option InFlight) → flight_at board.clients (begun_at number) ≡ mine → flight_at shadow.clients (begun_at number) ≡ theirs
          → is_some mine ≡ is_some theirs
      by_both (Some mine) (Some theirs) is its = refl
      by_both None None is its = refl
      by_both (Some mine) None is its = absurd (cc (sym its ∙ (follows.ahead.placed (begun_at number) mine is).there))
      by_both None (Some theirs) is its =
          let final = follows.ahead.others (begun_at number) theirs its is in
          let source = ap (λ (p : Place). p.source) final.there in absurd (cc (source))

  pub begun_settled : list_any (begun_to number) (settle order) ≡ list_any (begun_to number) order
  begun_settled = any_map (begun_to number) settled order

  pub begun_there : list_any (begun_to number) order ≡ is_some (flight_at shadow.clients (begun_at number))
  begun_there = sym begun_settled ∙ begun_as (shadow_of board shadow) (settle order) follows.explains number 0

  pub begun_here : list_any (begun_to number) order ≡ is_some (flight_at board.clients (begun_at number))
  begun_here = begun_there ∙ sym begun_both

-- the bytes are the same
pub run_settled : (faults : Faults) (regions : List Region) (m : Bytes) (order : Order) → run faults regions m (settle order) ≡ run faults regions m order
run_settled faults regions m [] = refl
run_settled faults regions m (entry ∷ order) = run_settled faults regions (carry faults regions entry.request m) order
