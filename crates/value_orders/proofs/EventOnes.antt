-- Where one request alone passes a test, the events of many are those of that one: so what a beat does to a byte is what becomes of the request that it is of.
use Rattle.std.proofs.Common.{◌≡◌, ℕ, ◌+◌, ◌<◌, ◌%◌, ◌==◌, zero, suc, Bool, true, false, ◌&&◌, not, List, [], ◌∷◌, ◌++◌, append-nil, length, Some, None, if◌then◌else◌, refl, sym, ◌∙◌, ap, arith}
use Rattle.std.specs.Prelude.{nat_lt, slice_index_or}
use Rattle.std.proofs.lemmas.Bool.{and_from, and_parts, eq-eqb, eqb-true, le-leb, not-true}
use Rattle.std.proofs.lemmas.List.{get_or-map, length-map}
use Rattle.bus_words.specs.Lanes.{lane_byte}
use Rattle.byte_orders.specs.Runs.{Event, Ends}
use Rattle.setups.specs.Setups.{SetupLists}
use Rattle.tl_messages.specs.Requests.{HeldMessage, WholeRequest}
use Rattle.tl_messages.specs.declared.DBeat.{DBeat}
use Rattle.scoreboard.specs.Boards.{ClientBoard}
use Rattle.scoreboard.specs.Orders.{Entry, Order, begun_to, ended_early, has_ended, is_due, is_due_in, reply_beats, with_beat}
use Rattle.scoreboard.specs.RealTime.{completed, is_open, numbered}
use Rattle.scoreboard.specs.declared.Errors.{Errors}
use Rattle.scoreboard.proofs.real_time.Becoming.{no_entry}
use Rattle.scoreboard.proofs.real_time.Fronts.{front_at}
use Rattle.value_orders.specs.Events.{completed_as, counted_as, cut_as, each_from, ends_as, ends_with, made_as, shown_as, shown_events, told_as, whole_as}
use Rattle.value_orders.specs.Histories.{Past, entries_of, hear, tells}
use Rattle.value_orders.specs.RunOrders.{no_past}
use Rattle.value_orders.proofs.Matches.{Fits, IsBegun}
use Rattle.value_orders.proofs.MatchesKept.{begun_live}
use Rattle.value_orders.proofs.MatchesTests.{begun_whole}

-- a request by its place among some
abbrev pub at : List Past → ℕ → Past
at pasts place = slice_index_or pasts place no_past

entry_at : (pasts : List Past) (place : ℕ) → place < length pasts → numbered (entries_of pasts) place ≡ (at pasts place).entry
entry_at pasts place small = get_or-map (λ (past : Past). past.entry) pasts place no_past no_entry small

-- ---- one alone passes a test

pub record IsTheOne (test : Entry → Bool) (now : Order) : Type 0 where
  pub place : ℕ
  pub small : place < length now
  pub passes : test (numbered now place) ≡ true
  pub only : (other : ℕ) → other < length now → test (numbered now other) ≡ true → other ≡ place

pub each_nothing : (events : ℕ → Past → List Event) (first : ℕ) (pasts : List Past) → ((k : ℕ) → k < length pasts → (number : ℕ) → events number (at pasts k) ≡ [])
    → each_from events first pasts ≡ []
each_nothing events first [] none = refl
each_nothing events first (past ∷ pasts) none =
    ap (λ (own : List Event). own ++ each_from events (first + 1) pasts) (none 0 (omega arith) first)
    ∙ each_nothing events (first + 1) pasts (λ k small. none (suc k) (omega (arith, small)))

pub each_only : (events : ℕ → Past → List Event) (first place : ℕ) (pasts : List Past) → place < length pasts
    → ((k : ℕ) → k < length pasts → (k ≡ place → ⊥) → (number : ℕ) → events number (at pasts k) ≡ [])
    → each_from events first pasts ≡ events (first + place) (at pasts place)
each_only events first place [] small none = absurd (omega (arith, small))
each_only events first zero (past ∷ pasts) small none =
    ap (λ (rest : List Event). events first past ++ rest)
    (each_nothing events (first + 1) pasts (λ k below. none (suc k) (omega (arith, below)) (λ same. absurd (omega (arith, same)))))
    ∙ append-nil (events first past) ∙ ap (λ n. events n past) (omega arith)
each_only events first (suc place) (past ∷ pasts) small none =
    ap (λ (own : List Event). own ++ each_from events (first + 1) pasts) (none 0 (omega arith) (λ same. absurd (omega (arith, same))) first)
    ∙ each_only events (first + 1) place pasts (omega (arith, small))
    (λ k below differ. none (suc k) (omega (arith, below)) (λ same. differ (omega (arith, same))))
    ∙ ap (λ n. events n (at pasts place)) (omega arith)

module _ (test : Entry → Bool) (events : ℕ → Past → List Event) (nothing : (number : ℕ) (past : Past) → test past.entry ≡ false → events number past ≡ []) (first : ℕ)
    (pasts : List Past) where
  within : (k : ℕ) → k < length (entries_of pasts) → k < length pasts
  within k small = omega (arith, small, length-map pasts (λ (past : Past). past.entry))

  outside : (k : ℕ) → k < length pasts → k < length (entries_of pasts)
  outside k small = omega (arith, small, length-map pasts (λ (past : Past). past.entry))

  at_test : (k : ℕ) → k < length pasts → test (numbered (entries_of pasts) k) ≡ test (at pasts k).entry
  at_test k small = ap test (entry_at pasts k small)

  -- then the events are its own
  pub one_events : (one : IsTheOne test (entries_of pasts)) → each_from events first pasts ≡ events (first + one.place) (at pasts one.place)
  one_events one =
      each_only events first one.place pasts (within one.place one.small)
      (λ k small differ number. by_test k small differ number (test (at pasts k).entry) refl)
    where
      by_test : (k : ℕ) → k < length pasts → (k ≡ one.place → ⊥) → (number : ℕ) (b : Bool) → test (at pasts k).entry ≡ b → events number (at pasts k) ≡ []
      by_test k small differ number false is = nothing number (at pasts k) is
      by_test k small differ number true is = absurd (differ (one.only k (outside k small) (at_test k small ∙ is)))

  -- and where none does there are none
  pub none_events : ((k : ℕ) → k < length pasts → test (at pasts k).entry ≡ false) → each_from events first pasts ≡ []
  none_events none = each_nothing events first pasts (λ k small number. nothing number (at pasts k) (none k small))

  pub passes_at : (one : IsTheOne test (entries_of pasts)) → test (at pasts one.place).entry ≡ true
  passes_at one = sym (at_test one.place (within one.place one.small)) ∙ one.passes

-- ---- to which a reply is due

pub shown_one : (setup : SetupLists) (errors : Errors) (x client : ℕ) (beat : DBeat) (lanes first : ℕ) (pasts : List Past)
    (one : IsTheOne (is_due_in (entries_of pasts) client beat.source) (entries_of pasts))
    → shown_events setup errors x client beat lanes None first pasts
    ≡ told_as (first + one.place) (tells setup errors (at pasts one.place).entry beat lanes x) (lane_byte beat.payload (x % 8))
    ++ made_as setup errors x beat lanes (first + one.place) (at pasts one.place)
shown_one setup errors x client beat lanes first pasts one =
    one_events due events none first pasts one ∙ rw (passes_at due events none first pasts one) refl
  where
    due : Entry → Bool
    due = is_due_in (entries_of pasts) client beat.source

    events : ℕ → Past → List Event
    events = shown_as setup errors x due beat lanes

    none : (number : ℕ) (past : Past) → due past.entry ≡ false → events number past ≡ []
    none number past is = rw is refl

-- one to which a beat isn't due ends with none
same_ends : (entry : Entry) → ends_with entry entry ≡ false
same_ends entry = by_ended (has_ended entry)
  where
    by_ended : (b : Bool) → (not b && b) ≡ false
    by_ended true = refl
    by_ended false = refl

-- a beat is counted for one
pub counted_one : (over begun : Bool) (client source first : ℕ) (pasts : List Past)
    (one : IsTheOne (λ entry. is_due begun client source (ended_early over client entry)) (entries_of pasts))
    → each_from (counted_as over begun client source) first pasts ≡ counted_as over begun client source (first + one.place) (at pasts one.place)
counted_one over begun client source first pasts one =
    one_events (λ entry. is_due begun client source (ended_early over client entry)) (counted_as over begun client source) none first pasts one
  where
    none : (number : ℕ) (past : Past) → is_due begun client source (ended_early over client past.entry) ≡ false → counted_as over begun client source number past ≡ []
    none number past is =
        let entry = ended_early over client past.entry in
        let stays : with_beat begun client source entry ≡ entry = rw is refl in
        ap (λ (e : Entry). ends_as number (ends_with entry e)) stays ∙ ap (ends_as number) (same_ends entry)

-- ---- a reply that is over

-- where none is, none ends so
pub cut_none : (client first : ℕ) (pasts : List Past) → each_from (cut_as false client) first pasts ≡ []
cut_none client first pasts = each_nothing (cut_as false client) first pasts (λ k small number. ap (ends_as number) (same_ends (at pasts k).entry))

-- else the one that has begun
pub cut_one : (client first : ℕ) (pasts : List Past) (one : IsTheOne (begun_to client) (entries_of pasts))
    → each_from (cut_as true client) first pasts ≡ Ends (first + one.place) ∷ []
cut_one client first pasts one =
    one_events (begun_to client) (cut_as true client) none first pasts one ∙ ap (ends_as (first + one.place)) (ends (at pasts one.place).entry (passes_at (begun_to client) (cut_as true client) none first pasts one))
  where
    none : (number : ℕ) (past : Past) → begun_to client past.entry ≡ false → cut_as true client number past ≡ []
    none number past is =
        let stays : ended_early true client past.entry ≡ past.entry = rw is refl in
        ap (λ (e : Entry). ends_as number (ends_with past.entry e)) stays ∙ ap (ends_as number) (same_ends past.entry)

    ends : (entry : Entry) → begun_to client entry ≡ true → ends_with entry (ended_early true client entry) ≡ true
    ends entry has =
        let live : not (has_ended entry) ≡ true = (and_parts (nat_lt 0 entry.came) (not (has_ended entry)) (and_parts (entry.client == client) _ has).1).1 in
        let over : ended_early true client entry ≡ record entry { came = reply_beats entry.request } = rw has refl in
        and_from (not (has_ended entry)) (has_ended (ended_early true client entry)) live
        (ap has_ended over ∙ le-leb (reply_beats entry.request) (reply_beats entry.request) (omega arith))

-- ---- a message that is whole

pub completed_one : (setup : SetupLists) (errors : Errors) (x client given : ℕ) (q : WholeRequest) (first : ℕ) (pasts : List Past)
    (one : IsTheOne (is_open client) (entries_of pasts))
    → each_from (completed_as setup errors x client given q) first pasts
    ≡ whole_as setup errors x (first + one.place) (record (hear given (at pasts one.place)) { entry = completed errors client q (at pasts one.place).entry })
    ++ ends_as (first + one.place) (ends_with (at pasts one.place).entry (completed errors client q (at pasts one.place).entry))
completed_one setup errors x client given q first pasts one =
    one_events (is_open client) events none first pasts one
    ∙ ap (λ (b : Bool). if b
    then whole_as setup errors x (first + one.place) (record (hear given (at pasts one.place)) { entry = completed errors client q (at pasts one.place).entry })
    ++ ends_as (first + one.place) (ends_with (at pasts one.place).entry (completed errors client q (at pasts one.place).entry))
    else []) (passes_at (is_open client) events none first pasts one)
  where
    events : ℕ → Past → List Event
    events = completed_as setup errors x client given q

    none : (number : ℕ) (past : Past) → is_open client past.entry ≡ false → events number past ≡ []
    none number past is =
        ap (λ (b : Bool). if b
        then whole_as setup errors x number (record (hear given past) { entry = completed errors client q past.entry })
        ++ ends_as number (ends_with past.entry (completed errors client q past.entry))
        else []) is

-- ---- as a board has them

module _ (setup : SetupLists) (errors : Errors) (clients : List ClientBoard) (now : Order) (fits : Fits setup errors clients now) (client : ℕ) where
  -- one of a client that isn't whole is at the place of what it has begun
  open_at : (k : ℕ) → k < length now → is_open client (numbered now k) ≡ true → IsBegun setup errors clients (numbered now k)
  open_at k small is = (fits.each k small).begun (not-true (numbered now k).whole (and_parts ((numbered now k).client == client) (not (numbered now k).whole) is).1)

  open_client : (k : ℕ) → is_open client (numbered now k) ≡ true → (numbered now k).client ≡ client
  open_client k is = eqb-true (numbered now k).client client (and_parts ((numbered now k).client == client) (not (numbered now k).whole) is).0

  pub one_open : (i j : ℕ) → i < length now → j < length now → is_open client (numbered now i) ≡ true → is_open client (numbered now j) ≡ true → i ≡ j
  one_open i j small below first second =
      let one = open_at i small first in
      let two = open_at j below second in
      let client_same = open_client i first ∙ sym (open_client j second) in
      let both : Some one.held ≡ Some two.held = sym one.front ∙ ap (front_at clients) client_same ∙ two.front in
      let held : one.held ≡ two.held = cc (both) in
      let source = sym (ap (λ (r : WholeRequest). r.source) one.fields) ∙ ap (λ (h : HeldMessage). h.source) held ∙ ap (λ (r : WholeRequest). r.source) two.fields in
      fits.apart i j small below (begun_live setup errors clients (numbered now i) one) (begun_live setup errors clients (numbered now j) two)
      (grind (arith, one.none_came, two.none_came, client_same, source))

  -- so a message that has begun is of one request alone
  pub the_open : (held : HeldMessage) → front_at clients client ≡ Some held → IsTheOne (is_open client) now
  the_open held front =
      let one = fits.fronts client held front in
      let own = eq-eqb (numbered now one.number).client client one.holds.1 in
      let unwhole = ap not one.holds.0 in
      let passes = and_from ((numbered now one.number).client == client) (not (numbered now one.number).whole) own unwhole in
      record {
        place = one.number;
        small = one.small;
        passes = passes;
        only = λ other small its. one_open other one.number small one.small its passes;
      }

  pub one_begun : (i j : ℕ) → i < length now → j < length now → begun_to client (numbered now i) ≡ true → begun_to client (numbered now j) ≡ true → i ≡ j
  one_begun i j small below first second =
      let one = begun_whole setup errors clients now fits client (numbered now i) (fits.each i small) first in
      let two = begun_whole setup errors clients now fits client (numbered now j) (fits.each j below) second in
      fits.apart i j small below one.1.live two.1.live (one.1.there ∙ sym two.1.there)
