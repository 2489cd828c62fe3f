-- A beat on channel D of a request in flight: the board, its shadow and an order go on together.
use Rattle.std.proofs.Common.{◌≡◌, ℕ, ◌==◌, Bool, true, false, ◌&&◌, List, [], ◌∷◌, map, set, Option, Some, None, ◌⊎◌, inl, inr, if◌then◌else◌, refl, sym, ◌∙◌, ap, subst, arith}
use Rattle.std.specs.Prelude.{is_some, slice_get}
use Rattle.tl_messages.specs.Requests.{WholeRequest}
use Rattle.responses.specs.Shown.{beat_without_data}
use Rattle.std.specs.List.{AllByRecursion, find, list_any}
use Rattle.std.proofs.Math.Path.{fun_ext}
use Rattle.std.proofs.lemmas.Bool.{and_parts, eq-eqb, false_from_ne_true, or_cases, or_right}
use Rattle.std.proofs.lemmas.Bool.Decides.{nat_tests}
use Rattle.bus_words.specs.Places.{without_first}
use Rattle.bus_words.proofs.StoredPlaces.{set_back}
use Rattle.tl_messages.specs.declared.DBeat.{DBeat}
use Rattle.meaning.specs.Meaning.{Bytes, acknowledged}
use Rattle.scoreboard.specs.Boards.{Board, ClientBoard, with_client}
use Rattle.scoreboard.specs.Flights.{Flights, Footprint, InFlight, begun_after, flights_after, is_of_source, next_reply}
use Rattle.scoreboard.specs.Orders.{Entry, Order, with_counted, begun_to, counted, has_ended, is_due, with_beat}
use Rattle.scoreboard.proofs.MappedLists.{any_map}
use Rattle.scoreboard.proofs.real_time.Ahead.{IsAhead, IsFinal, Shadow, comes, fates_other, fates_own, fates_with, shadow_of}
use Rattle.scoreboard.proofs.real_time.Entries.{Each, Stands, carry, place_of}
use Rattle.scoreboard.proofs.real_time.Explained.{Explains}
use Rattle.scoreboard.proofs.real_time.Follows.{ActsAs, Follows, Knows, IsFailing, IsFated, IsFollowed, IsMarked, IsOpen, all_both, begun_here, begun_settled, begun_there, replied_by, settle, settled, some_passes}
use Rattle.scoreboard.proofs.real_time.FollowsChanges.{coming_changed, early_changed, there_too}
use Rattle.scoreboard.proofs.real_time.Comings.{early_at, early_in}
use Rattle.scoreboard.proofs.real_time.Places.{Place, begun_at, cases_place, coming_at, due_at, flight_at}
use Rattle.scoreboard.proofs.real_time.RepliedAhead as replies
use Rattle.scoreboard.proofs.real_time.ReplyBeats.{explains_own}
use Rattle.scoreboard.proofs.real_time.ReplySeen.{are_moved, next_is}
use Rattle.scoreboard.proofs.real_time.ReplyMoves.{AreMoved, goes_on, place_next}
use Rattle.scoreboard.proofs.real_time.Failures.{failed_any, failed_at, failed_by}
use Rattle.scoreboard.proofs.real_time.ReplySteps.{IsAt, due_known, due_place, next_at, place_due}
use Rattle.scoreboard.proofs.real_time.StepOrders.{HasFate, is_coming}

-- ---- where a beat counts for none

without_none : (source : ℕ) (due : List InFlight) → find (is_of_source source) due ≡ None → without_first (is_of_source source) due ≡ due
without_none source [] none = refl
without_none source (flight ∷ due) none = grind (arith, none, without_none source due)

-- a client's where nothing is due
pub flights_none : (source : ℕ) (flights : Flights) → next_reply flights source ≡ None → flights_after flights source ≡ flights
flights_none source flights nothing = by_begun flights.begun refl
  where
    by_begun : (o : Option InFlight) → flights.begun ≡ o → flights_after flights source ≡ flights
    by_begun (Some flight) is = absurd (grind (arith, is, nothing))
    by_begun None is =
        let none : find (is_of_source source) flights.due ≡ None = grind (arith, is, nothing) in
        let due = without_none source flights.due none in
        grind (arith, is, none, due)

-- an entry of the same request, that has failed as well
abbrev IsKept : Board → Entry → Entry → Type 0
IsKept board entry other =
    (failed_at board.errors board.memory.faults board.memory.regions entry ≡ failed_at board.errors board.memory.faults board.memory.regions other)
    × (other.request ≡ entry.request)

-- an order of which none has the beat stays as it is
none_counted : (begun : Bool) (number source : ℕ) (order : Order) → AllByRecursion (λ entry. is_due begun number source entry ≡ false) order
    → map (with_beat begun number source) order ≡ order
none_counted begun number source [] none = refl
none_counted begun number source (entry ∷ order) none =
    let first : with_beat begun number source entry ≡ entry = rw (none.0) refl in
    let rest = none_counted begun number source order none.1 in
    cc (first, rest)

module _ {start : Bytes} (board : Board) (shadow : Shadow) (order : Order) (follows : Follows start board shadow order) (number source : ℕ) where
  abbrev begun : Bool
  begun = list_any (begun_to number) order

  abbrev from : Place
  from = next_at (list_any (begun_to number) order) number source

  -- one to which the beat is due is whole and in flight on the board, or its reply may come before it is whole
  pub data IsDueTo (entry : Entry) : Type 0 where
    WholeDue : entry.whole ≡ true → is_some (flight_at board.clients (next_at (list_any (begun_to number) order) number source)) ≡ true → IsDueTo entry
    EarlyDue : entry.whole ≡ false → entry.early ≡ true → list_any (begun_to number) order ≡ false → entry.client ≡ number → entry.request.source ≡ source → IsDueTo entry

  pub due_cases : (entry : Entry) → IsMarked board.clients entry → (entry.whole ≡ false → IsOpen board shadow entry)
      → is_due (list_any (begun_to number) order) number source entry ≡ true → IsDueTo entry
  due_cases entry marked opened is = grind (arith, marked, opened, is)

  -- what may come early to the client of one that isn't whole
  pub early_there : (entry : Entry) → IsOpen board shadow entry → entry.early ≡ true → entry.client ≡ number
      → early_at board.clients number ≡ Some (beat_without_data entry.request acknowledged)
  early_there entry it early client = grind (arith, it, early, client)

  -- what may come early is due in the order, where nothing in flight has it
  pub early_due_in : flight_at board.clients (next_at (list_any (begun_to number) order) number source) ≡ None → (due : DBeat)
      → early_at board.clients number ≡ Some due → (due.source == source) ≡ true → list_any (is_due (list_any (begun_to number) order) number source) order ≡ true
  early_due_in nothing due early own = any_due order follows.marked follows.open_ones (follows.known number (follows.early number due early))
    where
      none_begun : begun ≡ false
      none_begun = by_begun begun refl
        where
          by_begun : (b : Bool) → begun ≡ b → begun ≡ false
          by_begun false has = has
          by_begun true has =
              absurd (cc (sym (ap (λ (b : Bool). is_some (flight_at board.clients (next_at b number source))) (sym has) ∙ ap (λ (o : Option InFlight). is_some o) nothing)
              ∙ sym (begun_here board shadow order follows number) ∙ has))

      one_due : (one : Entry) → IsOpen board shadow one → one.whole ≡ false → one.client ≡ number → is_due begun number source one ≡ true
      one_due one it unwhole client_is =
          let here : Some due ≡ (if one.early then Some (beat_without_data one.request acknowledged) else None) = sym early ∙ ap (early_at board.clients) (sym client_is) ∙ it.early in
          by_early one.early refl here
        where
          by_early : (b : Bool) → one.early ≡ b → Some due ≡ (if b then Some (beat_without_data one.request acknowledged) else None) → is_due begun number source one ≡ true
          by_early false may none = absurd (cc (none))
          by_early true may some =
              let same : due ≡ beat_without_data one.request acknowledged = cc (some) in
              let its_source : (one.request.source == source) ≡ true = sym (ap (λ (d : DBeat). d.source == source) same) ∙ own in
              let none_came = it.none_came in
              let not_begun = none_begun in
              let client_test = eq-eqb one.client number client_is in
              grind (arith, nat_tests, its_source, none_came, may, not_begun, client_test)

      any_due : (some_order : Order) → AllByRecursion (IsMarked board.clients) some_order → AllByRecursion (λ one. one.whole ≡ false → IsOpen board shadow one) some_order
          → list_any (is_coming number) some_order ≡ true → list_any (is_due begun number source) some_order ≡ true
      any_due [] marked opens some = absurd (cc (some))
      any_due (one ∷ rest) marked opens some =
          elim (or_cases (is_coming number one) (list_any (is_coming number) rest) some) [
            | inl its ↦
                let unwhole : one.whole ≡ false = grind (arith, its) in
                let client_is : one.client ≡ number = grind (arith, nat_tests, its) in
                let due_one = one_due one (opens.0 unwhole) unwhole client_is in rw due_one refl
            | inr later ↦ or_right (is_due begun number source one) (list_any (is_due begun number source) rest) (any_due rest marked.1 opens.1 later)
          ]

  -- where a request in flight has its next beat none has it early
  not_early : (due : InFlight) → flight_at board.clients from ≡ Some due → (entry : Entry) → IsOpen board shadow entry → begun ≡ false → entry.client ≡ number
      → entry.request.source ≡ source → ⊥
  not_early due here entry it has client its_source = grind (arith, here, it, has, client, its_source, follows.ahead.waits)

  -- there it is whole
  pub due_whole : (due : InFlight) → flight_at board.clients (next_at (list_any (begun_to number) order) number source) ≡ Some due → (entry : Entry)
      → IsMarked board.clients entry → (entry.whole ≡ false → IsOpen board shadow entry)
      → is_due (list_any (begun_to number) order) number source entry ≡ true → entry.whole ≡ true
  due_whole due here entry marked opened is = grind (arith, here, marked, opened, is)

  -- nothing may come early that is of the source
  abbrev pub NoneEarly : Type 0
  NoneEarly = (due : DBeat) → early_at board.clients number ≡ Some due → (due.source == source) ≡ false

  -- where nothing is due on the board, nor early, nothing is due in the order
  pub nobody_due : flight_at board.clients (next_at (list_any (begun_to number) order) number source) ≡ None
      → ((due : DBeat) → early_at board.clients number ≡ Some due → (due.source == source) ≡ false)
      → AllByRecursion (λ entry. is_due (list_any (begun_to number) order) number source entry ≡ false) order
  nobody_due nothing no_early =
      all_both (IsMarked board.clients) (λ entry. entry.whole ≡ false → IsOpen board shadow entry) (λ entry. is_due begun number source entry ≡ false) order
      (λ entry marked opened. false_from_ne_true (is_due begun number source entry) (λ is. refuted entry opened (due_cases entry marked opened is))) follows.marked follows.open_ones
    where
      refuted : (entry : Entry) → (entry.whole ≡ false → IsOpen board shadow entry) → IsDueTo entry → ⊥
      refuted entry opened (WholeDue whole some) = absurd (cc (sym (ap (λ (o : Option InFlight). is_some o) nothing) ∙ some))
      refuted entry opened (EarlyDue unwhole early has client its_source) =
          let none = no_early (beat_without_data entry.request acknowledged) (early_there entry (opened unwhole) early client) in
          absurd (cc (sym none ∙ eq-eqb entry.request.source source its_source))

  -- and the beat counts for none
  pub none_due : flight_at board.clients from ≡ None → NoneEarly → with_counted order number source ≡ order
  none_due nothing no_early = none_counted begun number source order (nobody_due nothing no_early)

  -- where something is due it is due on the shadow to the same
  pub due_settled : (due : InFlight) → flight_at board.clients (next_at (list_any (begun_to number) order) number source) ≡ Some due
      → (entry : Entry) → IsMarked board.clients entry → (entry.whole ≡ false → IsOpen board shadow entry)
      → is_due (list_any (begun_to number) order) number source (settled entry) ≡ is_due (list_any (begun_to number) order) number source entry
  due_settled due here entry marked opened = grind (arith, here, marked, opened)

  -- ---- the client is there

  module _ (client : ClientBoard) (there : slice_get board.clients number ≡ Some client)
      (ends : AllByRecursion (HasFate shadow.fate) (with_counted order number source)) where
    abbrev changed : ClientBoard
    changed = record client { flights = flights_after client.flights source }

    abbrev now : Board
    now = with_client number changed board

    next : flight_at board.clients from ≡ next_reply client.flights source
    next = next_is board.clients number source client there begun (begun_here board shadow order follows number)

    -- nothing is due
    quiet : flight_at board.clients from ≡ None → NoneEarly → IsFollowed start shadow.fate now (with_counted order number source)
    quiet nothing no_early =
        let still = flights_none source client.flights (sym next ∙ nothing) in
        let back = set_back board.clients number client there in
        let same : board ≡ now =
        ap {B = Board} (λ clients. record board { clients = clients }) (sym back)
        ∙ ap {B = Board} (λ (flights : Flights). record board { clients = set board.clients number (record client { flights = flights }) }) (sym still) in
        subst (λ b. IsFollowed start shadow.fate b (with_counted order number source)) same
        (subst (IsFollowed start shadow.fate board) (sym (none_due nothing no_early)) (shadow, follows, refl))

    module _ (due : InFlight) (is_due_here : flight_at board.clients from ≡ Some due) where
      abbrev other : ClientBoard
      other = (there_too board shadow order follows number client there).0

      other_there : slice_get shadow.clients number ≡ Some other
      other_there = (there_too board shadow order follows number client there).1

      abbrev now_shadow : Shadow
      now_shadow =
          record shadow {
            clients = set shadow.clients number (record other { flights = flights_after other.flights source });
            fates = fates_with shadow.fates (begun_at number) (shadow.fates from);
          }

      others_now : (place : Place) (its : InFlight) → flight_at now_shadow.clients place ≡ Some its → flight_at now.clients place ≡ None → IsFinal now now_shadow place
      others_now =
          replies.others board shadow follows.ahead number source client other there other_there begun (begun_here board shadow order follows number)
          (begun_there board shadow order follows number) follows.explains.sources due is_due_here

      waits_now : (c : ℕ) → comes now.clients c ≡ true → flight_at now.clients (due_at c (shadow.finals c).source) ≡ None
      waits_now =
          replies.waits board shadow follows.ahead number source client other there other_there begun (begun_here board shadow order follows number)
          (begun_there board shadow order follows number) follows.explains.sources due is_due_here

      comes_now : (c : ℕ) → comes now.clients c ≡ comes board.clients c
      comes_now =
          replies.comes_now board shadow follows.ahead number source client other there other_there begun (begun_here board shadow order follows number)
          (begun_there board shadow order follows number) follows.explains.sources due is_due_here

      early_now : (c : ℕ) → early_at now.clients c ≡ early_at board.clients c
      early_now = early_changed board shadow order follows number client there changed refl

      coming_now : (c : ℕ) → coming_at now.clients c ≡ coming_at board.clients c
      coming_now = coming_changed board shadow order follows number client there changed refl

      -- on the shadow it counts for the same
      beat_same : (entry : Entry) → IsMarked board.clients entry → (entry.whole ≡ false → IsOpen board shadow entry)
          → settled (with_beat begun number source entry) ≡ with_beat begun number source (settled entry)
      beat_same entry marked opened = grind (arith, marked, opened, is_due_here)

      settle_beat : (some_order : Order) → AllByRecursion (IsMarked board.clients) some_order
          → AllByRecursion (λ entry. entry.whole ≡ false → IsOpen board shadow entry) some_order
          → settle (map (with_beat begun number source) some_order) ≡ map (with_beat begun number source) (settle some_order)
      settle_beat [] marked opened = refl
      settle_beat (entry ∷ rest) marked opened =
          let first = beat_same entry marked.0 opened.0 in
          let last = settle_beat rest marked.1 opened.1 in
          cc (first, last)

      now_explains : Explains start (shadow_of now now_shadow) (settle (with_counted order number source))
      now_explains =
          subst (Explains start (shadow_of now now_shadow))
          (ap (λ (b : Bool). map (with_beat b number source) (settle order)) (begun_settled board shadow order follows number) ∙ sym (settle_beat order follows.marked follows.open_ones))
          (explains_own (shadow_of board shadow) (settle order) number source follows.explains other other_there)

      -- ---- entries with the beat

      abbrev step : Entry → Entry
      step entry = with_beat begun number source entry

      -- one that isn't whole gets none
      step_whole : (entry : Entry) → (step entry).whole ≡ entry.whole
      step_whole entry = grind arith

      open_still : (entry : Entry) → IsMarked board.clients entry → (entry.whole ≡ false → IsOpen board shadow entry) → (step entry).whole ≡ false → step entry ≡ entry
      open_still entry marked opened unwhole = grind (arith, marked, opened, unwhole, is_due_here)

      now_open : (entry : Entry) → IsMarked board.clients entry → (entry.whole ≡ false → IsOpen board shadow entry) → (step entry).whole ≡ false
          → IsOpen now now_shadow (step entry)
      now_open entry marked opened unwhole =
          let still = open_still entry marked opened unwhole in
          let it = opened (sym (ap (λ (e : Entry). e.whole) still) ∙ unwhole) in
          subst (IsOpen now now_shadow) (sym still)
          (record {
            begun = comes_now entry.client ∙ it.begun;
            final = it.final;
            none_came = it.none_came;
            any = it.any;
            early = early_now entry.client ∙ it.early;
            replied = it.replied ∙ ap (replied_by board.errors) (sym (early_now entry.client));
            failed = ap (λ (r : Footprint). r.failed) (coming_now entry.client) ∙ it.failed;
            acts = subst (ActsAs board entry.request) (sym (coming_now entry.client)) it.acts;
          })

      -- a whole one is in flight on the board as on the shadow
      now_marked : (entry : Entry) (m : Bytes) → IsMarked board.clients entry → (entry.whole ≡ false → IsOpen board shadow entry)
          → Stands board.memory.faults board.memory.regions (flight_at now_shadow.clients) (settled (step entry)) m → IsMarked now.clients (step entry)
      now_marked entry m marked opened stands alive = by_whole (step entry).whole refl
        where
          whole_same : (step entry).whole ≡ entry.whole
          whole_same = step_whole entry

          by_flight : (step entry).whole ≡ true → (o : Option InFlight) → flight_at now.clients (place_of (step entry)) ≡ o → is_some o ≡ true
          by_flight whole (Some flight) is = refl
          by_flight whole None none =
              let final = others_now (place_of (step entry)) (stands.live alive).flight (stands.live alive).there none in
              let before : comes board.clients (step entry).client ≡ true = sym (comes_now (step entry).client) ∙ final.begun in
              absurd (by_due before final.there (is_due begun number source entry && entry.request.source == source) refl)
            where
              by_due : comes board.clients (step entry).client ≡ true → place_of (step entry) ≡ due_at (step entry).client (shadow.finals (step entry).client).source
                  → (b : Bool) → (is_due begun number source entry && entry.request.source == source) ≡ b → ⊥
              by_due before place true counted =
                  let is = (and_parts (is_due begun number source entry) (entry.request.source == source) counted).0 in
                  let source_is : (place_of (step entry)).source ≡ None =
                  ap (λ (p : Place). p.source) (place_next begun number source entry (due_whole due is_due_here entry marked opened is) counted) in
                  let other_is = ap (λ (p : Place). p.source) place in absurd (cc (sym source_is ∙ other_is))
              by_due before place false counted = grind (arith, before, place, counted, follows.ahead.waits, flight_at board.clients (place_of entry))

          by_whole : (b : Bool) → (step entry).whole ≡ b → b ≡ is_some (flight_at now.clients (place_of (step entry)))
          by_whole true whole = sym (by_flight whole (flight_at now.clients (place_of (step entry))) refl)
          by_whole false unwhole =
              let it = now_open entry marked opened unwhole in
              let place : place_of (step entry) ≡ due_at (step entry).client (shadow.finals (step entry).client).source =
              grind (arith, it.none_came, it.final) in
              sym (ap (λ (p : Place). is_some (flight_at now.clients p)) place
              ∙ ap (λ (o : Option InFlight). is_some o) (waits_now (step entry).client it.begun))

      now_marks : (some_order : Order) (m : Bytes) → AllByRecursion (IsMarked board.clients) some_order
          → AllByRecursion (λ entry. entry.whole ≡ false → IsOpen board shadow entry) some_order
          → Each board.memory.faults board.memory.regions (Stands board.memory.faults board.memory.regions (flight_at now_shadow.clients)) m (settle (map step some_order))
          → AllByRecursion (IsMarked now.clients) (map step some_order)
      now_marks [] m marked opened each = tt
      now_marks (entry ∷ rest) m marked opened each = (
        now_marked entry m marked.0 opened.0 each.0,
        now_marks rest (carry board.memory.faults board.memory.regions (step entry).request m) marked.1 opened.1 each.1,
      )

      now_opens : (some_order : Order) → AllByRecursion (IsMarked board.clients) some_order
          → AllByRecursion (λ entry. entry.whole ≡ false → IsOpen board shadow entry) some_order
          → AllByRecursion (λ entry. entry.whole ≡ false → IsOpen now now_shadow entry) (map step some_order)
      now_opens [] marked opened = tt
      now_opens (entry ∷ rest) marked opened = (now_open entry marked.0 opened.0, now_opens rest marked.1 opened.1)

      are : AreMoved number source from (flight_at board.clients) (flight_at now.clients)
      are = are_moved board.clients number source client there begun (begun_here board shadow order follows number) (follows.ahead.sources number client there)

      -- the footprint of one in flight to which the beat is due is what it was
      begun_kept : (flight after : InFlight) → begun_after (Some flight) source ≡ Some after → after.footprint ≡ flight.footprint
      begun_kept flight after is = grind (arith, is)

      -- one that has begun is the one to which the beat is due
      begun_from : (entry : Entry) → IsMarked board.clients entry → entry.whole ≡ true → has_ended entry ≡ false → place_of entry ≡ begun_at number → begun_at number ≡ from
      begun_from entry marked was_whole live_before here =
          grind (arith, marked, was_whole, live_before, here, follows, begun_here board shadow order follows number)

      -- whether one has failed stays
      now_failing : (entry : Entry) → IsMarked board.clients entry → (entry.whole ≡ false → IsOpen board shadow entry) → IsFailing board entry → IsFailing now (step entry)
      now_failing entry marked opened was whole alive flight there_now = by_counted (is_due begun number source entry && entry.request.source == source) refl
        where
          same_step : IsKept board entry (step entry)
          same_step = by_due (is_due begun number source entry && entry.request.source == source) refl
            where
              by_whole : (b : Bool) → IsKept board entry (counted b entry)
              by_whole true = (failed_by board.errors board.memory.faults board.memory.regions entry (counted true entry) refl refl, refl)
              by_whole false = (failed_by board.errors board.memory.faults board.memory.regions entry (counted false entry) refl refl, refl)

              by_due : (b : Bool) → (is_due begun number source entry && entry.request.source == source) ≡ b → IsKept board entry (step entry)
              by_due false is = rw is (refl, refl)
              by_due true is = rw is (by_whole entry.whole)

          -- it is what was known of one with its footprint
          known_of : (before : InFlight) → flight.footprint ≡ before.footprint
              → Knows board entry before.footprint → Knows board (step entry) flight.footprint
          known_of before same its = (
            ap (λ (f : Footprint). f.failed) same ∙ its.0 ∙ same_step.0,
            subst (λ (q : WholeRequest). ActsAs board q flight.footprint) (sym same_step.1) (subst (ActsAs board entry.request) (sym same) its.1),
          )

          by_counted : (b : Bool) → (is_due begun number source entry && entry.request.source == source) ≡ b → Knows board (step entry) flight.footprint
          by_counted true counted =
              let is = (and_parts (is_due begun number source entry) (entry.request.source == source) counted).0 in
              let at = due_place begun number source entry is in
              let whole_is = due_whole due is_due_here entry marked opened is in
              let place : place_of (step entry) ≡ begun_at number = place_next begun number source entry whole_is counted in
              let after : begun_after (Some due) source ≡ Some flight =
              ap (λ (o : Option InFlight). begun_after o source) (sym is_due_here) ∙ sym are.next ∙ ap (flight_at now.clients) (sym place) ∙ there_now in
              known_of due (begun_kept due flight after) (was whole_is at.live due (ap (flight_at board.clients) at.there ∙ is_due_here))
          by_counted false none =
              let still : step entry ≡ entry = rw none refl in
              let alive_before = sym (ap (λ (e : Entry). has_ended e) still) ∙ alive in
              let whole_before = sym (ap (λ (e : Entry). e.whole) still) ∙ whole in
              by_places still alive_before whole_before (cases_place (place_of entry) from) (cases_place (place_of entry) (begun_at number))
            where
              by_places : step entry ≡ entry → has_ended entry ≡ false → entry.whole ≡ true → (place_of entry ≡ from) ⊎ (place_of entry ≡ from → ⊥)
                  → (place_of entry ≡ begun_at number) ⊎ (place_of entry ≡ begun_at number → ⊥) → Knows board (step entry) flight.footprint
              by_places still live_before was_whole (inr away) (inr apart) =
                  known_of flight refl
                  (was was_whole live_before flight
                  (sym (are.others (place_of entry) away apart) ∙ ap (λ (e : Entry). flight_at now.clients (place_of e)) (sym still) ∙ there_now))
              by_places still live_before was_whole (inl same) other = its_own still live_before was_whole same
                where
                  by_from : step entry ≡ entry → has_ended entry ≡ false → entry.whole ≡ true → place_of entry ≡ from → is_due begun number source entry ≡ true
                      → (from ≡ begun_at number) ⊎ (from ≡ begun_at number → ⊥) → Knows board (step entry) flight.footprint
                  by_from same_entry lives is_whole place due_so (inr away) = grind (arith, same_entry, lives, is_whole, place, due_so)
                  by_from same_entry lives is_whole place due_so (inl here) =
                      let after : begun_after (Some due) source ≡ Some flight =
                      ap (λ (o : Option InFlight). begun_after o source) (sym is_due_here) ∙ sym are.next ∙ ap (flight_at now.clients) (sym (place ∙ here))
                      ∙ ap (λ (e : Entry). flight_at now.clients (place_of e)) (sym same_entry) ∙ there_now in
                      known_of due (begun_kept due flight after) (was is_whole lives due (ap (flight_at board.clients) place ∙ is_due_here))

                  its_own : step entry ≡ entry → has_ended entry ≡ false → entry.whole ≡ true → place_of entry ≡ from → Knows board (step entry) flight.footprint
                  its_own same_entry lives is_whole place =
                      let due_so = place_due begun number source entry is_whole (record { live = lives; there = place }) in
                      by_from same_entry lives is_whole place due_so (cases_place from (begun_at number))
              by_places still live_before was_whole (inr away) (inl here) = absurd (away (here ∙ begun_from entry marked was_whole live_before here))

      -- whether one is fated stays
      now_fated : (entry : Entry) → IsMarked board.clients entry → (entry.whole ≡ false → IsOpen board shadow entry) → IsFated shadow entry → IsFated now_shadow (step entry)
      now_fated entry marked opened was whole alive = by_counted (is_due begun number source entry && entry.request.source == source) refl
        where
          by_counted : (b : Bool) → (is_due begun number source entry && entry.request.source == source) ≡ b
              → now_shadow.fates (place_of (step entry)) ≡ shadow.fate (step entry).number
          by_counted true counted =
              let is = (and_parts (is_due begun number source entry) (entry.request.source == source) counted).0 in
              let at = due_place begun number source entry is in
              let whole_is = due_whole due is_due_here entry marked opened is in
              ap now_shadow.fates (place_next begun number source entry whole_is counted) ∙ fates_own shadow.fates (begun_at number) (shadow.fates from)
              ∙ ap shadow.fates (sym at.there) ∙ was whole_is at.live
              ∙ sym (ap (λ (e : Entry). shadow.fate e.number) (goes_on begun number source entry whole_is counted))
          by_counted false none =
              let still : step entry ≡ entry = rw none refl in
              let alive_before = sym (ap (λ (e : Entry). has_ended e) still) ∙ alive in
              let whole_before = sym (ap (λ (e : Entry). e.whole) still) ∙ whole in
              ap (λ (e : Entry). now_shadow.fates (place_of e)) still
              ∙ elim (cases_place (place_of entry) (begun_at number)) [
                | inl here ↦
                    ap now_shadow.fates here ∙ fates_own shadow.fates (begun_at number) (shadow.fates from)
                    ∙ ap shadow.fates (sym (here ∙ begun_from entry marked whole_before alive_before here)) ∙ was whole_before alive_before
                | inr apart ↦ fates_other shadow.fates (begun_at number) (shadow.fates from) (place_of entry) apart ∙ was whole_before alive_before
              ]
              ∙ sym (ap (λ (e : Entry). shadow.fate e.number) still)

      now_fates : (some_order : Order) → AllByRecursion (IsMarked board.clients) some_order
          → AllByRecursion (λ entry. entry.whole ≡ false → IsOpen board shadow entry) some_order → AllByRecursion (IsFated shadow) some_order
          → AllByRecursion (IsFated now_shadow) (map step some_order)
      now_fates [] marked opened fated = tt
      now_fates (entry ∷ rest) marked opened fated = (now_fated entry marked.0 opened.0 fated.0, now_fates rest marked.1 opened.1 fated.1)

      -- ---- one that ends with the beat

      -- what is known of an entry
      record IsKnown (entry : Entry) : Type 0 where
        marked : IsMarked board.clients entry
        opened : entry.whole ≡ false → IsOpen board shadow entry
        failing : IsFailing board entry
        fated : IsFated shadow entry
        marked_then : IsMarked now.clients (step entry)
        ends_then : HasFate shadow.fate (step entry)

      all_known : (some_order : Order) → AllByRecursion (IsMarked board.clients) some_order → AllByRecursion (λ entry. entry.whole ≡ false → IsOpen board shadow entry) some_order
          → AllByRecursion (IsFailing board) some_order → AllByRecursion (IsFated shadow) some_order → AllByRecursion (IsMarked now.clients) (map step some_order)
          → AllByRecursion (HasFate shadow.fate) (map step some_order) → AllByRecursion IsKnown some_order
      all_known [] marked opened failing fated later ending = tt
      all_known (entry ∷ rest) marked opened failing fated later ending =
          grind (arith, marked, opened, failing, fated, later, ending, all_known rest marked.1 opened.1 failing.1 fated.1 later.1 ending.1)

      -- it is in the order
      due_there : list_any (λ (entry : Entry). is_due begun number source (settled entry)) order ≡ true
      due_there =
          sym (any_map (is_due begun number source) settled order)
          ∙ subst (λ (b : Bool). list_any (is_due b number source) (settle order) ≡ true) (begun_settled board shadow order follows number)
          (due_known (shadow_of board shadow) (settle order) follows.explains number source
          (ap (λ (b : Bool). is_some (flight_at shadow.clients (next_at b number source))) (begun_settled board shadow order follows number)
          ∙ ap (λ (o : Option InFlight). is_some o) (follows.ahead.placed from due is_due_here).there))

      -- where it is fated it has failed
      spent : begun_after (Some due) source ≡ None → shadow.fates (next_at (list_any (begun_to number) order) number source) ≡ true → due.footprint.failed ≡ true
      spent over fated = by_entry found.0 found.1 found.2
        where
          found : (entry : Entry) × IsKnown entry × (is_due begun number source (settled entry) ≡ true)
          found =
              some_passes IsKnown (λ (entry : Entry). is_due begun number source (settled entry)) order
              (all_known order follows.marked follows.open_ones follows.failing follows.fated (now_marks order start follows.marked follows.open_ones now_explains.entries) ends)
              due_there

          gone : flight_at now.clients (begun_at number) ≡ None
          gone = are.next ∙ ap (λ (o : Option InFlight). begun_after o source) is_due_here ∙ over

          by_entry : (entry : Entry) → IsKnown entry → is_due begun number source (settled entry) ≡ true → due.footprint.failed ≡ true
          by_entry entry known test =
              (known.failing whole at.live due (ap (flight_at board.clients) at.there ∙ is_due_here)).0
              ∙ failed_any board.errors board.memory.faults board.memory.regions entry (follows.any_fated entry.number fate) spoiled
            where
              is : is_due begun number source entry ≡ true
              is = sym (due_settled due is_due_here entry known.marked known.opened) ∙ test

              at : IsAt from entry
              at = due_place begun number source entry is

              whole : entry.whole ≡ true
              whole = due_whole due is_due_here entry known.marked known.opened is

              fate : shadow.fate entry.number ≡ true
              fate = sym (known.fated whole at.live) ∙ ap shadow.fates at.there ∙ fated

              same_number : (step entry).number ≡ entry.number
              same_number = grind arith

              same_spoiled : (step entry).spoiled ≡ entry.spoiled
              same_spoiled = grind arith

              -- nothing of it is in flight any more
              nowhere : flight_at now.clients (place_of (step entry)) ≡ None
              nowhere = by_counted (is_due begun number source entry && entry.request.source == source) refl
                where
                  by_counted : (b : Bool) → (is_due begun number source entry && entry.request.source == source) ≡ b → flight_at now.clients (place_of (step entry)) ≡ None
                  by_counted true counted = ap (flight_at now.clients) (place_next begun number source entry whole counted) ∙ gone
                  by_counted false none =
                      let still : step entry ≡ entry = rw none refl in
                      ap (λ (e : Entry). flight_at now.clients (place_of e)) still ∙ ap (flight_at now.clients) at.there
                      ∙ elim (cases_place from (begun_at number)) [
                        | inl here ↦ ap (flight_at now.clients) here ∙ gone
                        | inr away ↦ are.gone away
                      ]

              over_then : has_ended (step entry) ≡ true
              over_then = by_ended (has_ended (step entry)) refl
                where
                  by_ended : (b : Bool) → has_ended (step entry) ≡ b → has_ended (step entry) ≡ true
                  by_ended true ended = ended
                  by_ended false alive =
                      absurd (cc (sym whole ∙ sym (step_whole entry) ∙ known.marked_then alive ∙ ap (λ (o : Option InFlight). is_some o) nowhere))

              spoiled : entry.spoiled ≡ true
              spoiled = sym same_spoiled ∙ known.ends_then over_then (ap shadow.fate same_number ∙ fate)

      now_ahead : IsAhead now now_shadow
      now_ahead =
          replies.replied_ahead board shadow follows.ahead number source client other there other_there begun (begun_here board shadow order follows number)
          (begun_there board shadow order follows number) follows.explains.sources due is_due_here spent

      now_fails : (some_order : Order) → AllByRecursion (IsMarked board.clients) some_order
          → AllByRecursion (λ entry. entry.whole ≡ false → IsOpen board shadow entry) some_order → AllByRecursion (IsFailing board) some_order
          → AllByRecursion (IsFailing now) (map step some_order)
      now_fails [] marked opened failing = tt
      now_fails (entry ∷ rest) marked opened failing = (now_failing entry marked.0 opened.0 failing.0, now_fails rest marked.1 opened.1 failing.1)

      moved : IsFollowed start shadow.fate now (with_counted order number source)
      moved = (
        now_shadow,
        record {
          explains = now_explains;
          ahead = now_ahead;
          marked = now_marks order start follows.marked follows.open_ones now_explains.entries;
          failing = now_fails order follows.marked follows.open_ones follows.failing;
          fated = now_fates order follows.marked follows.open_ones follows.fated;
          any_fated = follows.any_fated;
          open_ones = now_opens order follows.marked follows.open_ones;
          known = λ c some.
              any_map (is_coming c) step order ∙ ap (λ (test : Entry → Bool). list_any test order) (fun_ext (λ entry. coming_same c entry))
              ∙ follows.known c (sym (comes_now c) ∙ some);
          early = λ c due_early is. comes_now c ∙ follows.early c due_early (sym (early_now c) ∙ is);
        },
        refl,
      )
        where
          coming_same : (c : ℕ) (entry : Entry) → is_coming c (step entry) ≡ is_coming c entry
          coming_same c entry = grind arith

    -- one in flight has it
    pub replied : (due : InFlight) → next_reply client.flights source ≡ Some due
        → IsFollowed start shadow.fate (with_client number (record client { flights = flights_after client.flights source }) board) (with_counted order number source)
    replied due is = moved due (next ∙ is)

    -- none in flight has it, and none early
    pub none_replied : next_reply client.flights source ≡ None → ((due : DBeat) → client.early ≡ Some due → (due.source == source) ≡ false)
        → IsFollowed start shadow.fate (with_client number (record client { flights = flights_after client.flights source }) board) (with_counted order number source)
    none_replied nothing no_early = quiet (next ∙ nothing) (λ due is. no_early due (sym (ap early_in there) ∙ is))
