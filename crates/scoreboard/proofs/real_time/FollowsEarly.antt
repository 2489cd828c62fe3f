-- A beat of a reply that comes before its request is whole, and any beat on channel D with which no reply is over: the board, its shadow and an order go on together.
use Rattle.std.proofs.Common.{◌≡◌, ℕ, ◌==◌, Bool, true, false, ◌&&◌, List, [], ◌∷◌, map, set, Option, Some, None, inl, inr, if◌then◌else◌, refl, sym, ◌∙◌, ap, subst, arith}
use Rattle.std.specs.Prelude.{is_none, is_some, slice_get, unwrap_or}
use Rattle.responses.specs.Shown.{beat_without_data}
use Rattle.scoreboard.specs.declared.Errors.{Errors}
use Rattle.std.specs.List.{AllByRecursion, list_any}
use Rattle.std.proofs.Math.Path.{fun_ext}
use Rattle.std.proofs.lemmas.Bool.{cases_eq, eq-eqb}
use Rattle.std.proofs.lemmas.List.{set-set}
use Rattle.std.proofs.lemmas.Option.{slice_get_within}
use Rattle.std.proofs.lemmas.Bool.Decides.{nat_tests}
use Rattle.bus_words.proofs.StoredPlaces.{get_set}
use Rattle.tl_messages.specs.declared.DBeat.{DBeat}
use Rattle.meaning.specs.Meaning.{Bytes, acknowledged}
use Rattle.scoreboard.specs.Boards.{Board, ClientBoard, client_after, early_after, early_left, told_to, with_client}
use Rattle.scoreboard.specs.Flights.{Flights, Footprint, InFlight, flights_after, next_reply}
use Rattle.scoreboard.specs.Orders.{Entry, Order, with_counted, begun_to, counted, is_due, with_beat}
use Rattle.scoreboard.proofs.MappedLists.{any_map}
use Rattle.scoreboard.proofs.real_time.Ahead.{IsAhead, Shadow, comes, shadow_of}
use Rattle.scoreboard.proofs.real_time.Entries.{place_of}
use Rattle.scoreboard.proofs.real_time.Explained.{Explains}
use Rattle.scoreboard.proofs.real_time.Follows.{ActsAs, Follows, IsFailing, IsFated, IsFollowed, IsMarked, IsOpen, begun_here, replied_by, settle, settled}
use Rattle.scoreboard.proofs.real_time.FollowsChanges.{client_ahead, client_follows, coming_changed, comes_changed}
use Rattle.scoreboard.proofs.real_time.Comings.{early_at, early_in, early_other, early_same}
use Rattle.scoreboard.proofs.real_time.Places.{Place, coming_at, flight_at, flight_in, flights_kept}
use Rattle.scoreboard.proofs.real_time.ReplySeen.{next_is}
use Rattle.scoreboard.proofs.real_time.Failures.{failed_by}
use Rattle.scoreboard.proofs.real_time.ReplySteps.{next_at, none_due as none_at}
use Rattle.scoreboard.proofs.real_time.StepOrders.{HasFate, is_coming}
use Rattle.scoreboard.proofs.real_time.FollowsReplies.{flights_none, none_due, none_replied, replied}

module _ {start : Bytes} (board : Board) (shadow : Shadow) (order : Order) (follows : Follows start board shadow order) (number source : ℕ) where
  abbrev begun : Bool
  begun = list_any (begun_to number) order

  abbrev from : Place
  from = next_at (list_any (begun_to number) order) number source

  module _ (client : ClientBoard) (there : slice_get board.clients number ≡ Some client) where
    next : flight_at board.clients from ≡ next_reply client.flights source
    next = next_is board.clients number source client there begun (begun_here board shadow order follows number)

    -- the message that has begun has it, before it is whole
    module _ (nothing : next_reply client.flights source ≡ None) (early : DBeat) (is_early : client.early ≡ Some early) (own : (early.source == source) ≡ true) where
      abbrev told : ClientBoard
      told = record client { early = None }

      abbrev heard : Board
      heard = with_client number told board

      abbrev turn : Entry → Entry
      turn entry = with_beat begun number source entry

      nowhere : flight_at board.clients from ≡ None
      nowhere = next ∙ nothing

      early_is : early_at board.clients number ≡ Some early
      early_is = ap early_in there ∙ is_early

      none_begun : begun ≡ false
      none_begun = grind (arith, follows, begun_here board shadow order follows number)

      -- one that is whole hasn't it
      whole_still : (entry : Entry) → IsMarked board.clients entry → (entry.whole ≡ false → IsOpen board shadow entry) → entry.whole ≡ true → turn entry ≡ entry
      whole_still entry marked opened whole = grind (arith, marked, opened, whole, follows)

      -- of those that aren't, the client's has it
      open_other : (entry : Entry) → (entry.client ≡ number → ⊥) → turn entry ≡ entry
      open_other entry differ = grind (arith, differ)

      open_own : (entry : Entry) → IsOpen board shadow entry → entry.whole ≡ false → entry.client ≡ number → (turn entry ≡ counted false entry) × (entry.early ≡ true)
      open_own entry it unwhole client_is = (turned, may_come)
        where
          here : early_at board.clients number ≡ (if entry.early then Some (beat_without_data entry.request acknowledged) else None)
          here = ap (early_at board.clients) (sym client_is) ∙ it.early

          may_come : entry.early ≡ true
          may_come = grind arith

          its_source : (entry.request.source == source) ≡ true
          its_source = grind (arith, follows, own)

          due : (is_due begun number source entry && entry.request.source == source) ≡ true
          due =
              let none_came = it.none_came in
              let not_begun = none_begun in
              let client_test = eq-eqb entry.client number client_is in
              grind (arith, nat_tests, its_source, none_came, may_come, not_begun, client_test)

          turned : turn entry ≡ counted false entry
          turned = rw (due, unwhole) refl

      settle_same : (some_order : Order) → AllByRecursion (IsMarked board.clients) some_order
          → AllByRecursion (λ entry. entry.whole ≡ false → IsOpen board shadow entry) some_order → settle (map turn some_order) ≡ settle some_order
      settle_same [] marked opened = refl
      settle_same (entry ∷ rest) marked opened =
          let first = one entry.whole refl in
          let last = settle_same rest marked.1 opened.1 in
          cc (first, last)
        where
          one : (b : Bool) → entry.whole ≡ b → settled (turn entry) ≡ settled entry
          one true whole = ap settled (whole_still entry marked.0 opened.0 whole)
          one false unwhole =
              elim (cases_eq entry.client number) [
                | inl client_is ↦ ap settled (open_own entry (opened.0 unwhole) unwhole client_is).0
                | inr differ ↦ ap settled (open_other entry differ)
              ]

      ahead_heard : IsAhead heard shadow
      ahead_heard = client_ahead board shadow order follows number client there told refl refl refl

      flights_heard : (place : Place) → flight_at heard.clients place ≡ flight_at board.clients place
      flights_heard place = ap (λ (f : Flights). flight_in f place.source) (flights_kept board.clients number client told there refl place.client)

      comes_heard : (c : ℕ) → comes heard.clients c ≡ comes board.clients c
      comes_heard = comes_changed board shadow order follows number client there told refl

      coming_heard : (c : ℕ) → coming_at heard.clients c ≡ coming_at board.clients c
      coming_heard = coming_changed board shadow order follows number client there told refl

      -- what becomes of each
      each_turned : (entry : Entry) → IsMarked board.clients entry → IsFailing board entry → (entry.whole ≡ false → IsOpen board shadow entry)
          → IsMarked heard.clients (turn entry) × IsFailing heard (turn entry) × ((turn entry).whole ≡ false → IsOpen heard shadow (turn entry))
      each_turned entry marked failing opened = by_whole entry.whole refl
        where
          still : turn entry ≡ entry → (entry.whole ≡ false → entry.client ≡ number → ⊥)
              → IsMarked heard.clients (turn entry) × IsFailing heard (turn entry) × ((turn entry).whole ≡ false → IsOpen heard shadow (turn entry))
          still same apart =
              subst (λ (e : Entry). IsMarked heard.clients e × IsFailing heard e × (e.whole ≡ false → IsOpen heard shadow e)) (sym same) (
                λ alive. marked alive ∙ sym (ap (λ (o : Option InFlight). is_some o) (flights_heard (place_of entry))),
                λ whole alive flight there_now. failing whole alive flight (sym (flights_heard (place_of entry)) ∙ there_now),
                λ unwhole.
                    let it = opened unwhole in
                    let early_other_is = early_other board.clients number entry.client told (apart unwhole) in
                    record {
                      begun = comes_heard entry.client ∙ it.begun;
                      final = it.final;
                      none_came = it.none_came;
                      any = it.any;
                      early = early_other_is ∙ it.early;
                      replied = it.replied ∙ ap (replied_by board.errors) (sym early_other_is);
                      failed = ap (λ (r : Footprint). r.failed) (coming_heard entry.client) ∙ it.failed;
                      acts = subst (ActsAs board entry.request) (sym (coming_heard entry.client)) it.acts;
                    },
              )

          turned : entry.whole ≡ false → entry.client ≡ number
              → IsMarked heard.clients (turn entry) × IsFailing heard (turn entry) × ((turn entry).whole ≡ false → IsOpen heard shadow (turn entry))
          turned unwhole client_is =
              let it = opened unwhole in
              let its = open_own entry it unwhole client_is in
              let early_none : early_at heard.clients entry.client ≡ None =
              ap (early_at heard.clients) client_is ∙ early_same board.clients number client told there in
              let any = it.any its.1 in
              subst (λ (e : Entry). IsMarked heard.clients e × IsFailing heard e × (e.whole ≡ false → IsOpen heard shadow e)) (sym its.0) (
                λ alive. marked alive ∙ sym (ap (λ (o : Option InFlight). is_some o) (flights_heard (place_of entry))),
                λ whole. absurd (cc (sym unwhole ∙ whole)),
                λ its_unwhole. record {
                  begun = comes_heard entry.client ∙ it.begun;
                  final = it.final;
                  none_came = it.none_came;
                  any = λ its_early. any;
                  early = early_none;
                  replied = sym (ap (λ (e : Errors). replied_by e (early_at heard.clients entry.client)) any ∙ ap (λ (o : Option DBeat). is_none o) early_none);
                  failed = ap (λ (r : Footprint). r.failed) (coming_heard entry.client) ∙ it.failed
                      ∙ failed_by board.errors board.memory.faults board.memory.regions entry (counted false entry) refl refl;
                  acts = subst (ActsAs board entry.request) (sym (coming_heard entry.client)) it.acts;
                },
              )

          by_whole : (b : Bool) → entry.whole ≡ b
              → IsMarked heard.clients (turn entry) × IsFailing heard (turn entry) × ((turn entry).whole ≡ false → IsOpen heard shadow (turn entry))
          by_whole true whole = still (whole_still entry marked opened whole) (λ unwhole. absurd (cc (sym unwhole ∙ whole)))
          by_whole false unwhole =
              elim (cases_eq entry.client number) [
                | inl client_is ↦ turned unwhole client_is
                | inr differ ↦ still (open_other entry differ) (λ its client_is. differ client_is)
              ]

      all_turned : (P Q : Entry → Type 0) → ((entry : Entry) → IsMarked board.clients entry → IsFailing board entry → (entry.whole ≡ false → IsOpen board shadow entry) → Q (turn entry))
          → (some_order : Order) → AllByRecursion (IsMarked board.clients) some_order → AllByRecursion (IsFailing board) some_order
          → AllByRecursion (λ entry. entry.whole ≡ false → IsOpen board shadow entry) some_order → AllByRecursion Q (map turn some_order)
      all_turned P Q one [] marked failing opened = tt
      all_turned P Q one (entry ∷ rest) marked failing opened =
          (one entry marked.0 failing.0 opened.0, all_turned P Q one rest marked.1 failing.1 opened.1)

      -- whether it is fated stays
      fated_turned : (some_order : Order) → AllByRecursion (IsMarked board.clients) some_order
          → AllByRecursion (λ entry. entry.whole ≡ false → IsOpen board shadow entry) some_order → AllByRecursion (IsFated shadow) some_order
          → AllByRecursion (IsFated shadow) (map turn some_order)
      fated_turned [] marked opened fated = tt
      fated_turned (entry ∷ rest) marked opened fated =
          grind (arith, marked, opened, fated, fated_turned rest marked.1 opened.1 fated.1)

      pub early_replied : IsFollowed start shadow.fate (with_client number (record client { early = None }) board) (with_counted order number source)
      early_replied = (
        shadow,
        record {
          explains = subst (Explains start (shadow_of heard shadow)) (sym (settle_same order follows.marked follows.open_ones)) follows.explains;
          ahead = ahead_heard;
          marked = all_turned (IsMarked board.clients) (IsMarked heard.clients) (λ entry marked failing opened. (each_turned entry marked failing opened).0)
              order follows.marked follows.failing follows.open_ones;
          fated = fated_turned order follows.marked follows.open_ones follows.fated;
          any_fated = follows.any_fated;
          failing = all_turned (IsFailing board) (IsFailing heard) (λ entry marked failing opened. (each_turned entry marked failing opened).1)
              order follows.marked follows.failing follows.open_ones;
          open_ones = all_turned (IsFailing board) (λ entry. entry.whole ≡ false → IsOpen heard shadow entry)
              (λ entry marked failing opened. (each_turned entry marked failing opened).2) order follows.marked follows.failing follows.open_ones;
          known = λ c some.
              any_map (is_coming c) turn order ∙ ap (λ (test : Entry → Bool). list_any test order) (fun_ext (λ entry. coming_same c entry))
              ∙ follows.known c (sym (comes_heard c) ∙ some);
          early = λ c due is. elim (cases_eq c number) [
            | inl same ↦ absurd (cc (sym (ap (early_at heard.clients) same ∙ early_same board.clients number client told there) ∙ is))
            | inr differ ↦ comes_heard c ∙ follows.early c due (sym (early_other board.clients number c told differ) ∙ is)
          ];
        },
        refl,
      )
        where
          coming_same : (c : ℕ) (entry : Entry) → is_coming c (turn entry) ≡ is_coming c entry
          coming_same c entry = grind arith

-- a board after a beat on channel D with which no reply is over
abbrev pub after_uncut : Board → ℕ → Option ClientBoard → DBeat → Board
after_uncut board number None beat = board
after_uncut board number (Some client) beat = with_client number (client_after beat client) board

pub follows_counted : {start : Bytes} (fate : ℕ → Bool) (board : Board) (order : Order) (number : ℕ) (beat : DBeat) → IsFollowed start fate board order
    → AllByRecursion (HasFate fate) (with_counted order number beat.source)
    → IsFollowed start fate (after_uncut board number (slice_get board.clients number) beat) (with_counted order number beat.source)
follows_counted {start} fate board order number beat followed ending =
    subst (λ (f : ℕ → Bool). IsFollowed start f (after_uncut board number (slice_get board.clients number) beat) (with_counted order number beat.source)) followed.2
    (by_client (slice_get board.clients number) refl)
  where
    ends : AllByRecursion (HasFate followed.0.fate) (with_counted order number beat.source)
    ends = subst (λ (f : ℕ → Bool). AllByRecursion (HasFate f) (with_counted order number beat.source)) (sym followed.2) ending

    none_of : slice_get board.clients number ≡ None → (due : DBeat) → early_at board.clients number ≡ Some due → (due.source == beat.source) ≡ false
    none_of none due is = absurd (cc (sym (ap early_in none) ∙ is))

    -- what was told plays no part
    module_told : (client : ClientBoard) → slice_get board.clients number ≡ Some client → (changed : ClientBoard) → slice_get (set board.clients number changed) number ≡ Some changed
    module_told client there changed = get_set board.clients number changed (slice_get_within board.clients number client there)

    by_client : (o : Option ClientBoard) → slice_get board.clients number ≡ o → IsFollowed start followed.0.fate (after_uncut board number o beat) (with_counted order number beat.source)
    by_client None none =
        subst (IsFollowed start followed.0.fate board)
        (sym (none_due board followed.0 order followed.1 number beat.source (none_at board.clients (list_any (begun_to number) order) number beat.source none) (none_of none))) (followed.0, followed.1, refl)
    by_client (Some client) there = by_next (next_reply client.flights beat.source) refl
      where
        told : Bool
        told = unwrap_or (told_to client) beat.denied

        heard : ClientBoard
        heard = record client { told = told }

        heard_follows : Follows start (with_client number heard board) followed.0 order
        heard_follows = client_follows board followed.0 order followed.1 number client there heard refl refl refl refl

        heard_there : slice_get (set board.clients number heard) number ≡ Some heard
        heard_there = module_told client there heard

        -- the client as it is then
        as_then : (early : Option DBeat) → early ≡ early_after client beat.source
            → IsFollowed start followed.0.fate (record board { clients = set (set board.clients number heard) number (record heard { flights = flights_after client.flights beat.source; early = early }) })
            (with_counted order number beat.source)
            → IsFollowed start followed.0.fate (after_uncut board number (Some client) beat) (with_counted order number beat.source)
        as_then early is after =
            subst (λ (clients : List ClientBoard). IsFollowed start followed.0.fate (record board { clients = clients }) (with_counted order number beat.source))
            (set-set board.clients number heard (record heard { flights = flights_after client.flights beat.source; early = early })
            ∙ ap (λ (e : Option DBeat). set board.clients number (record heard { flights = flights_after client.flights beat.source; early = e })) is) after

        by_next : (o : Option InFlight) → next_reply client.flights beat.source ≡ o → IsFollowed start followed.0.fate (after_uncut board number (Some client) beat) (with_counted order number beat.source)
        by_next (Some due) is =
            as_then client.early (sym (ap (λ (o : Option InFlight). if is_some o then client.early else early_left client.early beat.source) is))
            (replied (with_client number heard board) followed.0 order heard_follows number beat.source heard heard_there ends due is)
        by_next None nothing = by_early client.early refl
          where
            still : early_after client beat.source ≡ early_left client.early beat.source
            still = ap (λ (o : Option InFlight). if is_some o then client.early else early_left client.early beat.source) nothing

            none_has_it : early_left client.early beat.source ≡ client.early → ((due : DBeat) → client.early ≡ Some due → (due.source == beat.source) ≡ false)
                → IsFollowed start followed.0.fate (after_uncut board number (Some client) beat) (with_counted order number beat.source)
            none_has_it same no_early =
                as_then client.early (sym (still ∙ same))
                (none_replied (with_client number heard board) followed.0 order heard_follows number beat.source heard heard_there ends nothing no_early)

            by_source : (due : DBeat) → client.early ≡ Some due → (b : Bool) → (due.source == beat.source) ≡ b
                → IsFollowed start followed.0.fate (after_uncut board number (Some client) beat) (with_counted order number beat.source)
            by_source due is false other =
                none_has_it (ap (λ (o : Option DBeat). early_left o beat.source) is ∙ rw other (sym is))
                (λ its its_is. let one : Some due ≡ Some its = sym is ∙ its_is in let same : due ≡ its = cc (one) in sym (ap (λ (d : DBeat). d.source == beat.source) same) ∙ other)
            by_source due is true own =
                as_then None (sym (still ∙ ap (λ (o : Option DBeat). early_left o beat.source) is ∙ rw own refl))
                (subst (λ (flights : Flights). IsFollowed start followed.0.fate (record board { clients = set (set board.clients number heard) number (record heard { flights = flights; early = None }) })
                (with_counted order number beat.source)) (sym (flights_none beat.source client.flights nothing))
                (early_replied (with_client number heard board) followed.0 order heard_follows number beat.source heard heard_there nothing due is own))

            by_early : (o : Option DBeat) → client.early ≡ o → IsFollowed start followed.0.fate (after_uncut board number (Some client) beat) (with_counted order number beat.source)
            by_early None is =
                none_has_it (ap (λ (o : Option DBeat). early_left o beat.source) is ∙ sym is) (λ due its. absurd (cc (sym is ∙ its)))
            by_early (Some due) is = by_source due is (due.source == beat.source) refl
