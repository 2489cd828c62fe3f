-- A request begins on channel A, be it with its only beat: the board, its shadow and an order go on together.
use Rattle.std.proofs.Common.{◌≡◌, ℕ, Bool, true, false, List, ◌∷◌, ◌++◌, Option, Some, None, if◌then◌else◌, ◌||◌, ◌⊎◌, inl, inr, refl, sym, ◌∙◌, ap, subst, arith}
use Rattle.std.specs.Prelude.{is_some, slice_get}
use Rattle.std.specs.List.{AllByRecursion, list_any}
use Rattle.std.proofs.lemmas.Bool.{cases_eq}
use Rattle.std.proofs.lemmas.Bool.Decides.{nat_tests}
use Rattle.std.proofs.lemmas.List.{map-append}
use Rattle.bus_words.proofs.PlaceChanges.{all-map}
use Rattle.tl_messages.specs.Requests.{HeldMessage, WholeRequest, request_of}
use Rattle.tl_messages.specs.declared.DBeat.{DBeat}
use Rattle.scoreboard.specs.Boards.{Board, ClientBoard, begun_on, early_due, is_spoiled, joined_on, joining_on, with_client}
use Rattle.scoreboard.specs.Flights.{Footprint, InFlight, is_of_source}
use Rattle.scoreboard.specs.Orders.{Entry, Order, has_ended}
use Rattle.scoreboard.specs.RealTime.{MayBecome, may_reply}
use Rattle.scoreboard.specs.declared.Errors.TheVariants.{Any}
use Rattle.scoreboard.specs.Races.{beside, may_read}
use Rattle.responses.specs.Shown.{beat_without_data}
use Rattle.meaning.specs.Meaning.{Bytes, acknowledged}
use Rattle.scoreboard.specs.declared.Errors.{Errors}
use Rattle.scoreboard.proofs.MappedLists.{any_map}
use Rattle.scoreboard.proofs.real_time.Acceptance.{explains_joined}
use Rattle.scoreboard.proofs.real_time.Ahead.{Shadow, comes, fates_other, fates_own, shadow_of}
use Rattle.scoreboard.proofs.real_time.AheadBeside.{was_beside}
use Rattle.scoreboard.proofs.real_time.BegunAhead as begins
use Rattle.scoreboard.proofs.real_time.Comings.{early_at}
use Rattle.scoreboard.proofs.real_time.Entries.{all_with, any_here, any_with, place_of}
use Rattle.scoreboard.proofs.real_time.Explained.{Explains}
use Rattle.scoreboard.proofs.real_time.Failures.{FatedOf, failed_at, fails_as, well_as}
use Rattle.scoreboard.proofs.real_time.Follows.{ActsAs, Follows, IsFailing, IsFated, IsFollowed, acts_as, acts_beside, IsMarked, IsOpen, all_both, replied_by, settle, settled}
use Rattle.scoreboard.proofs.real_time.FollowsChanges as changes
use Rattle.scoreboard.proofs.real_time.OnceAhead as joins
use Rattle.scoreboard.proofs.real_time.Places.{Place, cases_place, coming_at, due_at, flight_at}
use Rattle.scoreboard.proofs.real_time.ShadowPlaces.{finals_other, finals_own, free_there, none_here}
use Rattle.scoreboard.proofs.real_time.StepOrders.{first_of, is_coming}
use Rattle.scoreboard.proofs.real_time.RequestActs.{IsWell}

module _ {start : Bytes} (board : Board) (shadow : Shadow) (order : Order) (follows : Follows start board shadow order) (number : ℕ) (client : ClientBoard)
    (there : slice_get board.clients number ≡ Some client) where
  -- the same client on the shadow
  there_too : (other : ClientBoard) × (slice_get shadow.clients number ≡ Some other)
  there_too = changes.there_too board shadow order follows number client there

  -- ---- requests that are put in

  -- an order as the shadow has it, with one more
  settle_put : (before after : Order) (entry : Entry) → settle (before ++ entry ∷ after) ≡ settle before ++ settled entry ∷ settle after
  settle_put before after entry = map-append settled before (entry ∷ after)

  module _ (before after : Order) (parts : order ≡ before ++ after) (none : list_any has_ended after ≡ false) (front : client.front ≡ None) where
    explains_parts : Explains start (shadow_of board shadow) (settle before ++ settle after)
    explains_parts = subst (Explains start (shadow_of board shadow)) (ap settle parts ∙ map-append settled before after) follows.explains

    none_settled : list_any has_ended (settle after) ≡ false
    none_settled = any_map has_ended settled after ∙ none

    -- a message begins
    module _ (message : HeldMessage) (bytes : List (Option ℕ)) (spoiled : Bool) (n : ℕ) (fated : Bool)
        (free : list_any (is_of_source message.source) client.flights.due ≡ false)
        (may : MayBecome (record (first_of board.errors number (request_of message) false n) { spoiled = is_spoiled board.errors (request_of message) || fated })
        (record (request_of message) { bytes = bytes; corrupt = spoiled }))
        (any : fated ≡ true → board.errors ≡ Any) (silent : may_read message.operation ≡ false)
        (well : IsWell (record (request_of message) { bytes = bytes; corrupt = spoiled })) where
      abbrev q : WholeRequest
      q = record (request_of message) { bytes = bytes; corrupt = spoiled }

      abbrev other : ClientBoard
      other = there_too.0

      abbrev listening : ClientBoard
      listening = record client { front = Some message }

      abbrev now : Board
      now = begun_on (with_client number listening board) number (record listening { early = early_due board.errors (request_of message) }) (joining_on (with_client number listening board) (request_of message))

      abbrev now_shadow : Shadow
      now_shadow =
          begins.now_shadow board shadow (settle order) follows.explains follows.ahead number client other message bytes spoiled n fated there there_too.1 front free may any silent well

      abbrev entry : Entry
      entry = record (first_of board.errors number (request_of message) false n) { request = q }

      free_too : list_any (is_of_source message.source) other.flights.due ≡ false
      free_too = free_there board shadow follows.ahead number message.source client there front free other there_too.1

      same_flights : (i : Place) → is_some (flight_at now.clients i) ≡ is_some (flight_at board.clients i)
      same_flights i =
          ap (λ (o : Option InFlight). is_some o)
          (begins.now_flight board shadow (settle order) follows.explains follows.ahead number client other message bytes spoiled n fated there there_too.1 front free may any silent well i) ∙ grind arith

      comes_own : comes now.clients number ≡ true
      comes_own =
          begins.comes_own board shadow (settle order) follows.explains follows.ahead number client other message bytes spoiled n fated there there_too.1 front free may any silent well

      comes_others : (c : ℕ) → (c ≡ number → ⊥) → comes now.clients c ≡ comes board.clients c
      comes_others =
          begins.comes_others board shadow (settle order) follows.explains follows.ahead number client other message bytes spoiled n fated there there_too.1 front free may any silent well

      came_before : (c : ℕ) → comes board.clients c ≡ true → c ≡ number → ⊥
      came_before c is holds = grind (arith, is, holds, follows.explains, follows.ahead, there, front, free, any, silent, well)

      early_others : (c : ℕ) → (c ≡ number → ⊥) → early_at now.clients c ≡ early_at board.clients c
      early_others =
          begins.early_others board shadow (settle order) follows.explains follows.ahead number client other message bytes spoiled n fated there there_too.1 front free may any silent well

      coming_others : (c : ℕ) → (c ≡ number → ⊥)
          → coming_at now.clients c ≡ beside (coming_at board.clients c) (joining_on (with_client number listening board) (request_of message))
      coming_others =
          begins.coming_others board shadow (settle order) follows.explains follows.ahead number client other message bytes spoiled n fated there there_too.1 front free may any silent well

      -- its own: its reply may come where errors are told in any way
      own_open : IsOpen now now_shadow entry
      own_open =
          record {
            begun = comes_own;
            final = sym (finals_own shadow.finals number q);
            none_came = refl;
            any = any_early board.errors;
            early = begins.early_own board shadow (settle order) follows.explains follows.ahead number client other message bytes spoiled n fated there there_too.1 front free may any silent well
                ∙ its_early board.errors;
            replied = its_reply board.errors ∙ ap (replied_by board.errors) (sym (begins.early_own board shadow (settle order) follows.explains follows.ahead number client other message bytes spoiled n fated there there_too.1 front free may any silent well));
            failed = ap (λ (r : Footprint). r.failed)
                (begins.coming_own board shadow (settle order) follows.explains follows.ahead number client other message bytes spoiled n fated there there_too.1 front free may any silent well)
                ∙ begins.mine_failed board shadow (settle order) follows.explains follows.ahead number client other message bytes spoiled n fated there there_too.1 front free may any silent well
                ∙ fails_as board.errors number board.memory (request_of message) q false n may.fields;
            acts = subst (ActsAs board q)
                (sym (begins.coming_own board shadow (settle order) follows.explains follows.ahead number client other message bytes spoiled n fated there there_too.1 front free may any silent well))
                (acts_as board (request_of message) q (joining_on (with_client number listening board) (request_of message)) may.fields
                (begins.mine_acts board shadow (settle order) follows.explains follows.ahead number client other message bytes spoiled n fated there there_too.1 front free may any silent well));
          }
        where
          any_early : (e : Errors) → may_reply e false ≡ true → e ≡ Any
          any_early e is = grind (arith, is)

          its_early : (e : Errors) → early_due e (request_of message) ≡ (if may_reply e false then Some (beat_without_data q acknowledged) else None)
          its_early e = grind arith

          its_reply : (e : Errors) → false ≡ replied_by e (early_due e (request_of message))
          its_reply e = grind arith

      still_open : (one : Entry) → IsOpen board shadow one → IsOpen now now_shadow one
      still_open one was =
          let apart = came_before one.client was.begun in
          record {
            begun = comes_others one.client apart ∙ was.begun;
            final = was.final ∙ sym (finals_other shadow.finals number one.client q apart);
            none_came = was.none_came;
            any = was.any;
            early = early_others one.client apart ∙ was.early;
            replied = was.replied ∙ ap (replied_by board.errors) (sym (early_others one.client apart));
            failed = ap (λ (r : Footprint). r.failed) (coming_others one.client apart) ∙ was.failed;
            acts = subst (ActsAs board one.request) (sym (coming_others one.client apart))
                (acts_beside board one.request (coming_at board.clients one.client) (joining_on (with_client number listening board) (request_of message)) was.acts);
          }

      still_failing : (one : Entry) → IsFailing board one → IsFailing now one
      still_failing one was whole alive flight there_now =
          let before_it = was_beside (joining_on (with_client number listening board) (request_of message)) (flight_at board.clients (place_of one)) flight
          (sym (begins.now_flight board shadow (settle order) follows.explains follows.ahead number client other message bytes spoiled n fated there there_too.1 front free may any silent well (place_of one)) ∙ there_now) in
          let known = was whole alive before_it.0 before_it.1 in
          subst (λ (f : InFlight). (f.footprint.failed ≡ failed_at board.errors board.memory.faults board.memory.regions one) × ActsAs board one.request f.footprint) before_it.2
          (known.0, acts_beside board one.request before_it.0.footprint (joining_on (with_client number listening board) (request_of message)) known.1)

      own_marked : IsMarked now.clients entry
      own_marked alive =
          sym (same_flights (due_at number message.source)
          ∙ ap (λ (o : Option InFlight). is_some o) (none_here board shadow follows.ahead number message.source client there front free))

      pub begun_follows : IsFollowed start shadow.fate
          (begun_on (with_client number (record client { front = Some message }) board) number
          (record client { front = Some message; early = early_due board.errors (request_of message) })
          (joining_on (with_client number (record client { front = Some message }) board) (request_of message)))
          (before ++ record (first_of board.errors number (request_of message) false n) { request = record (request_of message) { bytes = bytes; corrupt = spoiled } } ∷ after)
      begun_follows = (
        now_shadow,
        record {
          explains =
              subst (Explains start (shadow_of now now_shadow)) (sym (settle_put before after entry))
              (explains_joined (shadow_of board shadow) number other q there_too.1 free_too n (settle before) (settle after) well none_settled explains_parts);
          ahead =
              begins.begun_ahead board shadow (settle order) follows.explains follows.ahead number client other message bytes spoiled n fated there there_too.1 front free may any silent well;
          marked =
              all_with (IsMarked now.clients) before after entry
              (all-map (IsMarked board.clients) (IsMarked now.clients) (before ++ after)
              (λ one was alive. was alive ∙ sym (same_flights (place_of one))) (subst (AllByRecursion (IsMarked board.clients)) parts follows.marked)) own_marked;
          failing =
              all_with (IsFailing now) before after entry
              (all-map (IsFailing board) (IsFailing now) (before ++ after) still_failing (subst (AllByRecursion (IsFailing board)) parts follows.failing))
              (λ unwhole. absurd (cc (unwhole)));
          fated = all_with (IsFated shadow) before after entry (subst (AllByRecursion (IsFated shadow)) parts follows.fated) (λ unwhole. absurd (cc (unwhole)));
          any_fated = follows.any_fated;
          open_ones =
              all_with (λ one. one.whole ≡ false → IsOpen now now_shadow one) before after entry
              (all-map (λ one. one.whole ≡ false → IsOpen board shadow one) (λ one. one.whole ≡ false → IsOpen now now_shadow one) (before ++ after)
              (λ one was unwhole. still_open one (was unwhole))
              (subst (AllByRecursion (λ one. one.whole ≡ false → IsOpen board shadow one)) parts follows.open_ones))
              (λ unwhole. own_open);
          known = λ c some. known c some (cases_eq c number);
          early = λ c due is. early c due is (cases_eq c number);
        },
        refl,
      )
        where
          early : (c : ℕ) (due : DBeat) → early_at now.clients c ≡ Some due → (c ≡ number) ⊎ (c ≡ number → ⊥) → comes now.clients c ≡ true
          early c due is (inl same) = ap (comes now.clients) same ∙ comes_own
          early c due is (inr differ) = comes_others c differ ∙ follows.early c due (sym (early_others c differ) ∙ is)

          known : (c : ℕ) → comes now.clients c ≡ true → (c ≡ number) ⊎ (c ≡ number → ⊥) → list_any (is_coming c) (before ++ entry ∷ after) ≡ true
          known c some (inl same) = any_here (is_coming c) before after entry (grind (arith, nat_tests, same))
          known c some (inr differ) =
              any_with (is_coming c) before after entry
              (ap (list_any (is_coming c)) (sym parts) ∙ follows.known c (sym (comes_others c differ) ∙ some))

    -- a request of one beat
    module _ (q r : WholeRequest) (n : ℕ) (free : list_any (is_of_source q.source) client.flights.due ≡ false) (well : IsWell q)
        (may : MayBecome (FatedOf board.errors number q n (shadow.fate n)) r) where
      any_fated : shadow.fate n ≡ true → board.errors ≡ Any
      any_fated = follows.any_fated n

      abbrev once_other : ClientBoard
      once_other = there_too.0

      abbrev once_now : Board
      once_now = joined_on board number client q (joining_on board q)

      abbrev once_shadow : Shadow
      once_shadow =
          joins.now_shadow board shadow (settle order) follows.explains follows.ahead number client once_other q r n (shadow.fate n) there there_too.1 front free well may any_fated

      abbrev once_entry : Entry
      once_entry = record (first_of board.errors number q true n) { request = r }

      once_source : q.source ≡ r.source
      once_source = sym (ap (λ (x : WholeRequest). x.source) may.fields)

      once_free : list_any (is_of_source r.source) once_other.flights.due ≡ false
      once_free =
          grind (arith, follows.ahead, there, front, free, free_there board shadow follows.ahead number q.source client there front free once_other there_too.1)

      once_comes : (c : ℕ) → (c ≡ number → ⊥) → comes once_now.clients c ≡ comes board.clients c
      once_comes = joins.comes_others board shadow (settle order) follows.explains follows.ahead number client once_other q r n (shadow.fate n) there there_too.1 front free well may any_fated

      once_before : (c : ℕ) → comes board.clients c ≡ true → c ≡ number → ⊥
      once_before = joins.apart_before board shadow (settle order) follows.explains follows.ahead number client once_other q r n (shadow.fate n) there there_too.1 front free well may any_fated

      once_apart : (c : ℕ) → comes once_now.clients c ≡ true → c ≡ number → ⊥
      once_apart = joins.apart_now board shadow (settle order) follows.explains follows.ahead number client once_other q r n (shadow.fate n) there there_too.1 front free well may any_fated

      once_early : (c : ℕ) → (c ≡ number → ⊥) → early_at once_now.clients c ≡ early_at board.clients c
      once_early = joins.early_others board shadow (settle order) follows.explains follows.ahead number client once_other q r n (shadow.fate n) there there_too.1 front free well may any_fated

      once_coming : (c : ℕ) → (c ≡ number → ⊥) → coming_at once_now.clients c ≡ beside (coming_at board.clients c) (joining_on board q)
      once_coming = joins.coming_others board shadow (settle order) follows.explains follows.ahead number client once_other q r n (shadow.fate n) there there_too.1 front free well may any_fated

      once_own : flight_at once_now.clients (due_at number q.source) ≡ Some (joins.flight board shadow (settle order) follows.explains follows.ahead number client once_other q r n (shadow.fate n) there there_too.1 front free well may any_fated)
      once_own = joins.own_here board shadow (settle order) follows.explains follows.ahead number client once_other q r n (shadow.fate n) there there_too.1 front free well may any_fated

      once_flights : (i : Place) → (i ≡ due_at number q.source → ⊥) → is_some (flight_at once_now.clients i) ≡ is_some (flight_at board.clients i)
      once_flights i differ =
          ap (λ (o : Option InFlight). is_some o)
          (joins.others_here board shadow (settle order) follows.explains follows.ahead number client once_other q r n (shadow.fate n) there there_too.1 front free well may any_fated i differ) ∙ grind arith

      once_marked : (one : Entry) → IsMarked board.clients one → (one.whole ≡ false → IsOpen board shadow one) → IsMarked once_now.clients one
      once_marked one was open_one alive = by_place (cases_place (place_of one) (due_at number q.source))
        where
          by_place : (place_of one ≡ due_at number q.source) ⊎ (place_of one ≡ due_at number q.source → ⊥) → one.whole ≡ is_some (flight_at once_now.clients (place_of one))
          by_place (inr differ) = was alive ∙ sym (once_flights (place_of one) differ)
          by_place (inl same) =
              let unwhole : one.whole ≡ false =
              was alive ∙ ap (λ (p : Place). is_some (flight_at board.clients p)) same
              ∙ ap (λ (o : Option InFlight). is_some o) (none_here board shadow follows.ahead number q.source client there front free) in
              absurd (once_before one.client (open_one unwhole).begun (ap (λ (p : Place). p.client) same))

      once_failing : (one : Entry) → IsFailing board one → IsMarked board.clients one → IsFailing once_now one
      once_failing one was marked whole alive flight there_now = by_place (cases_place (place_of one) (due_at number q.source))
        where
          by_place : (place_of one ≡ due_at number q.source) ⊎ (place_of one ≡ due_at number q.source → ⊥)
              → (flight.footprint.failed ≡ failed_at board.errors board.memory.faults board.memory.regions one) × ActsAs board one.request flight.footprint
          by_place (inr differ) =
              let before_it = was_beside (joining_on board q) (flight_at board.clients (place_of one)) flight
              (sym (joins.others_here board shadow (settle order) follows.explains follows.ahead number client once_other q r n (shadow.fate n) there there_too.1 front free well may any_fated (place_of one) differ)
              ∙ there_now) in
              let known = was whole alive before_it.0 before_it.1 in
              subst (λ (f : InFlight). (f.footprint.failed ≡ failed_at board.errors board.memory.faults board.memory.regions one) × ActsAs board one.request f.footprint) before_it.2
              (known.0, acts_beside board one.request before_it.0.footprint (joining_on board q) known.1)
          by_place (inl same) =
              let unwhole : one.whole ≡ false =
              marked alive ∙ ap (λ (p : Place). is_some (flight_at board.clients p)) same
              ∙ ap (λ (o : Option InFlight). is_some o) (none_here board shadow follows.ahead number q.source client there front free) in
              absurd (cc (sym whole ∙ unwhole))

      own_failing : IsFailing once_now once_entry
      own_failing whole alive flight there_now =
          let own_place : place_of once_entry ≡ due_at number q.source = ap (due_at number) (sym once_source) in
          let one : Some (joins.flight board shadow (settle order) follows.explains follows.ahead number client once_other q r n (shadow.fate n) there there_too.1 front free well may any_fated) ≡ Some flight =
          sym once_own ∙ ap (flight_at once_now.clients) (sym own_place) ∙ there_now in
          let it : joins.flight board shadow (settle order) follows.explains follows.ahead number client once_other q r n (shadow.fate n) there there_too.1 front free well may any_fated ≡ flight = cc (one) in
          subst (λ (f : InFlight). (f.footprint.failed ≡ failed_at board.errors board.memory.faults board.memory.regions once_entry) × ActsAs board r f.footprint) it (
            joins.mine_failed board shadow (settle order) follows.explains follows.ahead number client once_other q r n (shadow.fate n) there there_too.1 front free well may any_fated ∙ fails_as board.errors number board.memory q r true n may.fields,
            acts_as board q r (joining_on board q) may.fields (joins.mine_acts board shadow (settle order) follows.explains follows.ahead number client once_other q r n (shadow.fate n) there there_too.1 front free well may any_fated),
          )

      once_fated : (one : Entry) → IsFated shadow one → IsMarked board.clients one → IsFated once_shadow one
      once_fated one was marked whole alive = by_place (cases_place (place_of one) (due_at number q.source))
        where
          by_place : (place_of one ≡ due_at number q.source) ⊎ (place_of one ≡ due_at number q.source → ⊥) → once_shadow.fates (place_of one) ≡ shadow.fate one.number
          by_place (inr differ) = fates_other shadow.fates (due_at number q.source) (shadow.fate n) (place_of one) differ ∙ was whole alive
          by_place (inl same) =
              let unwhole : one.whole ≡ false =
              marked alive ∙ ap (λ (p : Place). is_some (flight_at board.clients p)) same
              ∙ ap (λ (o : Option InFlight). is_some o) (none_here board shadow follows.ahead number q.source client there front free) in
              absurd (cc (sym whole ∙ unwhole))

      own_fated : IsFated once_shadow once_entry
      own_fated whole alive = ap once_shadow.fates (ap (due_at number) (sym once_source)) ∙ fates_own shadow.fates (due_at number q.source) (shadow.fate n)

      pub once_follows : IsFollowed start shadow.fate (joined_on board number client q (joining_on board q))
          (before ++ record (first_of board.errors number q true n) { request = r } ∷ after)
      once_follows = (
        once_shadow,
        record {
          explains =
              subst (Explains start (shadow_of once_now once_shadow)) (sym (settle_put before after once_entry))
              (explains_joined (shadow_of board shadow) number once_other r there_too.1 once_free n (settle before) (settle after)
              (well_as board.errors number q r n (shadow.fate n) may well) none_settled explains_parts);
          ahead = joins.once_ahead board shadow (settle order) follows.explains follows.ahead number client once_other q r n (shadow.fate n) there there_too.1 front free well may any_fated;
          marked =
              all_with (IsMarked once_now.clients) before after once_entry
              (all_both (IsMarked board.clients) (λ one. one.whole ≡ false → IsOpen board shadow one) (IsMarked once_now.clients) (before ++ after) once_marked
              (subst (AllByRecursion (IsMarked board.clients)) parts follows.marked)
              (subst (AllByRecursion (λ one. one.whole ≡ false → IsOpen board shadow one)) parts follows.open_ones))
              (λ alive. sym (ap (λ (p : Place). is_some (flight_at once_now.clients p)) (ap (due_at number) (sym once_source)) ∙ ap (λ (o : Option InFlight). is_some o) once_own));
          failing =
              all_with (IsFailing once_now) before after once_entry
              (all_both (IsFailing board) (IsMarked board.clients) (IsFailing once_now) (before ++ after) once_failing
              (subst (AllByRecursion (IsFailing board)) parts follows.failing) (subst (AllByRecursion (IsMarked board.clients)) parts follows.marked)) own_failing;
          fated =
              all_with (IsFated once_shadow) before after once_entry
              (all_both (IsFated shadow) (IsMarked board.clients) (IsFated once_shadow) (before ++ after) once_fated
              (subst (AllByRecursion (IsFated shadow)) parts follows.fated) (subst (AllByRecursion (IsMarked board.clients)) parts follows.marked)) own_fated;
          any_fated = follows.any_fated;
          open_ones =
              all_with (λ one. one.whole ≡ false → IsOpen once_now once_shadow one) before after once_entry
              (all-map (λ one. one.whole ≡ false → IsOpen board shadow one) (λ one. one.whole ≡ false → IsOpen once_now once_shadow one) (before ++ after)
              (λ one was unwhole.
              let it = was unwhole in
              let apart = once_before one.client it.begun in
              record {
                begun = once_comes one.client apart ∙ it.begun;
                final = it.final;
                none_came = it.none_came;
                any = it.any;
                early = once_early one.client apart ∙ it.early;
                replied = it.replied ∙ ap (replied_by board.errors) (sym (once_early one.client apart));
                failed = ap (λ (r : Footprint). r.failed) (once_coming one.client apart) ∙ it.failed;
                acts = subst (ActsAs board one.request) (sym (once_coming one.client apart))
                    (acts_beside board one.request (coming_at board.clients one.client) (joining_on board q) it.acts);
              })
              (subst (AllByRecursion (λ one. one.whole ≡ false → IsOpen board shadow one)) parts follows.open_ones))
              (λ unwhole. absurd (cc (unwhole)));
          known = λ c some.
              any_with (is_coming c) before after once_entry
              (ap (list_any (is_coming c)) (sym parts) ∙ follows.known c (sym (once_comes c (once_apart c some)) ∙ some));
          early = λ c due is. elim (cases_eq c number) [
            | inl same ↦
                absurd (cc (sym (ap (early_at once_now.clients) same
                ∙ joins.early_own board shadow (settle order) follows.explains follows.ahead number client once_other q r n (shadow.fate n) there there_too.1 front free well may any_fated) ∙ is))
            | inr differ ↦ once_comes c differ ∙ follows.early c due (sym (once_early c differ) ∙ is)
          ];
        },
        refl,
      )
