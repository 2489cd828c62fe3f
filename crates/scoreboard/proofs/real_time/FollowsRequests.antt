-- A beat on channel A: the board, its shadow and an order go on together.
use Rattle.std.proofs.Common.{◌≡◌, ℕ, Bool, true, false, List, ◌∷◌, ◌++◌, map, set, length, Option, Some, None, Result, Ok, Err, refl, sym, ◌∙◌, ap, subst, subst₂}
use Rattle.std.specs.Prelude.{is_some, slice_get}
use Rattle.std.specs.List.{AllByRecursion}
use Rattle.std.proofs.lemmas.List.{set-set}
use Rattle.bus_words.proofs.StoredPlaces.{get_set}
use Rattle.std.proofs.lemmas.Option.{slice_get_within}
use Rattle.tl_messages.specs.Requests.{HeldMessage, WholeRequest, request_of}
use Rattle.tl_messages.specs.declared.ABeat.{ABeat}
use Rattle.tl_messages.specs.declared.AtomicOp.{AtomicOp}
use Rattle.tl_messages.specs.declared.Operation.TheVariants.{Atomic}
use Rattle.tl_checker.specs.Ports.{joined, judged}
use Rattle.tl_checker.specs.declared.Progress.{Progress}
use Rattle.tl_checker.specs.declared.Progress.TheVariants.{More, Whole}
use Rattle.tl_checker.specs.declared.TlRule.{TlRule}
use Rattle.meaning.specs.Meaning.{Bytes}
use Rattle.scoreboard.specs.Boards.{Board, ClientBoard, after_a, answer_to, answered_on, continued_on, is_spoiled, more_on, whole_on, with_client}
use Rattle.scoreboard.specs.Flights.{is_busy}
use Rattle.scoreboard.specs.Orders.{Order}
use Rattle.scoreboard.specs.RealTime.{GivesBytes, MayBecome, heard}
use Rattle.scoreboard.specs.Races.{may_read, unless_failed}
use Rattle.scoreboard.specs.declared.Policy.TheVariants.{RealTime}
use Rattle.scoreboard.proofs.real_time.Ahead.{Shadow}
use Rattle.scoreboard.proofs.real_time.CheckedRequests.{joined_free, sound_well, whole_sound}
use Rattle.scoreboard.proofs.real_time.FirstBeats.{more_put, more_reads_none}
use Rattle.scoreboard.proofs.real_time.Follows.{Follows, IsFollowed}
use Rattle.scoreboard.proofs.real_time.FollowsChanges.{goes_further, heard_same, spoils}
use Rattle.scoreboard.proofs.real_time.Fronts.{AreFronts}
use Rattle.scoreboard.proofs.real_time.StepOrders.{HasFate, fated_of, first_of, GoesOnAnswered, GoesOnRequest, GoesOnTaken}
use Rattle.scoreboard.proofs.real_time.RequestActs.{well_put}
use Rattle.scoreboard.proofs.real_time.FollowsBegins.{begun_follows, once_follows}
use Rattle.scoreboard.proofs.real_time.FollowsWhole.{given_follows}

-- ---- any beat on channel A

module _ {start : Bytes} (board : Board) (order new : Order) (fronts : AreFronts board.clients) (shadow : Shadow) (follows : Follows start board shadow order) (number : ℕ) (beat : ABeat)
    (ends : AllByRecursion (HasFate shadow.fate) new) where
  by_taken : (client : ClientBoard) (front : Option HeldMessage) (progress : Progress) → slice_get board.clients number ≡ Some client → client.front ≡ front
      → answer_to RealTime client beat ≡ Ok progress → GoesOnTaken shadow.fate board.errors number front (request_of (joined client.limits client.front beat)) progress order new
      → IsFollowed start shadow.fate (answered_on RealTime board number client (joined client.limits client.front beat) (Ok progress)) new
  by_taken client None More there front is goes =
      let message = joined client.limits client.front beat in
      let right = fronts number client there in
      let becomes = goes.0 in
      let may = goes.1 in
      let put = goes.2 in
      let no_atomic : (op : AtomicOp) → message.operation ≡ Atomic op → ⊥ =
      subst (λ (o : Option HeldMessage). (op : AtomicOp) → (joined client.limits o beat).operation ≡ Atomic op → ⊥) (sym front)
      (more_put client.limits beat (is_busy RealTime client.flights beat.source)
      (subst (λ (o : Option HeldMessage). judged client.limits o beat (is_busy RealTime client.flights beat.source) ≡ Ok More) front is)) in
      let silent : may_read message.operation ≡ false =
      subst (λ (o : Option HeldMessage). may_read (joined client.limits o beat).operation ≡ false) (sym front)
      (more_reads_none client.limits beat (is_busy RealTime client.flights beat.source)
      (subst (λ (o : Option HeldMessage). judged client.limits o beat (is_busy RealTime client.flights beat.source) ≡ Ok More) front is)) in
      let well = well_put (record (request_of message) { bytes = becomes.bytes; corrupt = becomes.corrupt }) (subst GivesBytes may.fields (may.bytes refl)) no_atomic in
      let after = begun_follows board shadow order follows number client there put.0 put.1 put.2 put.3 front message becomes.bytes becomes.corrupt
      (length order) (shadow.fate (length order))
      (joined_free client beat More right is)
      (subst (MayBecome (fated_of shadow.fate board.errors number (request_of message) false (length order))) may.fields may) (follows.any_fated (length order)) silent well in
      subst₂ (IsFollowed start shadow.fate) (ap (λ (o : Option HeldMessage). continued_on RealTime (with_client number (record client { front = Some message }) board) number
      (record client { front = Some message }) message (is_some o)) (sym front))
      (ap (λ (r : WholeRequest). put.0 ++ record (first_of board.errors number (request_of message) false (length order)) { request = r } ∷ put.1) (sym may.fields) ∙ sym put.4) after
  by_taken client None Whole there front is goes =
      let message = joined client.limits client.front beat in
      let right = fronts number client there in
      let put = goes.2 in
      let after = once_follows board shadow order follows number client there put.0 put.1 put.2 put.3 front (request_of message) goes.0 (length order)
      (joined_free client beat Whole right is) (sound_well client.limits message (whole_sound client beat right is)) goes.1 in
      subst₂ (IsFollowed start shadow.fate) (ap (λ (o : Option HeldMessage). whole_on board number client (request_of message) (is_some o)) (sym front)) (sym put.4) after
  by_taken client (Some held) More there front is goes =
      let message = joined client.limits client.front beat in
      let some = ap (λ (o : Option HeldMessage). is_some o) front in
      let further = goes_further board shadow order follows number client there message some in
      let heard_client : ClientBoard = record client { front = Some message } in
      let here : slice_get (set board.clients number heard_client) number ≡ Some heard_client =
      get_set board.clients number heard_client (slice_get_within board.clients number client there) in
      subst₂ (IsFollowed start shadow.fate)
      (ap (λ (o : Option HeldMessage). more_on (with_client number heard_client board) number heard_client (request_of message) (is_some o)) (sym front)) (sym goes)
      (by_spoiled heard_client (request_of message) further here (is_spoiled board.errors (request_of message)) refl)
    where
      by_spoiled : (changed : ClientBoard) (q : WholeRequest) → Follows start (with_client number changed board) shadow order
          → slice_get (set board.clients number changed) number ≡ Some changed → (b : Bool) → is_spoiled board.errors q ≡ b
          → IsFollowed start shadow.fate (more_on (with_client number changed board) number changed q true) (map (heard board.errors number q) order)
      by_spoiled changed q further here true corrupt =
          subst (λ (b : Bool). IsFollowed start shadow.fate (with_client number (record changed { coming = unless_failed b changed.coming }) (with_client number changed board)) (map (heard board.errors number q) order))
          (sym corrupt) (shadow, spoils (with_client number changed board) shadow order further number changed here q corrupt, refl)
      by_spoiled changed q further here false sound =
          subst₂ (IsFollowed start shadow.fate)
          (ap {B = Board} (λ (clients : List ClientBoard). record board { clients = clients }) (sym (set-set board.clients number changed changed))
          ∙ ap (λ (b : Bool). with_client number (record changed { coming = unless_failed b changed.coming }) (with_client number changed board)) (sym sound))
          (sym (heard_same board.errors number q order sound)) (shadow, further, refl)
  by_taken client (Some held) Whole there front is goes =
      let message = joined client.limits client.front beat in
      let right = fronts number client there in
      let after = given_follows board shadow order follows number client there (request_of message) (ap (λ (o : Option HeldMessage). is_some o) front)
      (joined_free client beat Whole right is) (sound_well client.limits message (whole_sound client beat right is)) goes.1
      (subst (AllByRecursion (HasFate shadow.fate)) goes.0 ends) in
      subst₂ (IsFollowed start shadow.fate) (ap (λ (o : Option HeldMessage). whole_on board number client (request_of message) (is_some o)) (sym front)) (sym goes.0) after

  by_answer : (client : ClientBoard) (answer : Result Progress TlRule) → slice_get board.clients number ≡ Some client → answer_to RealTime client beat ≡ answer
      → GoesOnAnswered shadow.fate board.errors number client.front (joined client.limits client.front beat) answer order new
      → IsFollowed start shadow.fate (answered_on RealTime board number client (joined client.limits client.front beat) answer) new
  by_answer client (Err rule) there is goes = subst (IsFollowed start shadow.fate board) (sym goes) (shadow, follows, refl)
  by_answer client (Ok progress) there is goes = by_taken client client.front progress there refl is goes

  by_client : (found : Option ClientBoard) → slice_get board.clients number ≡ found → GoesOnRequest shadow.fate board.errors number found beat order new
      → IsFollowed start shadow.fate (after_a RealTime board number found beat) new
  by_client None there goes = subst (IsFollowed start shadow.fate board) (sym goes) (shadow, follows, refl)
  by_client (Some client) there goes = by_answer client (answer_to RealTime client beat) there refl goes

  followed_on : GoesOnRequest shadow.fate board.errors number (slice_get board.clients number) beat order new
      → IsFollowed start shadow.fate (after_a RealTime board number (slice_get board.clients number) beat) new
  followed_on goes = by_client (slice_get board.clients number) refl goes

pub follows_request : {start : Bytes} (fate : ℕ → Bool) (board : Board) (order new : Order) → AreFronts board.clients → IsFollowed start fate board order → (number : ℕ) (beat : ABeat)
    → AllByRecursion (HasFate fate) new → GoesOnRequest fate board.errors number (slice_get board.clients number) beat order new
    → IsFollowed start fate (after_a RealTime board number (slice_get board.clients number) beat) new
follows_request {start} fate board order new fronts followed number beat =
    subst (λ (f : ℕ → Bool). AllByRecursion (HasFate f) new → GoesOnRequest f board.errors number (slice_get board.clients number) beat order new
    → IsFollowed start f (after_a RealTime board number (slice_get board.clients number) beat) new) followed.2
    (λ ends goes. followed_on board order new fronts followed.0 followed.1 number beat ends goes)
