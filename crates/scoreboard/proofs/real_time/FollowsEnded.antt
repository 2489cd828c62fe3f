-- A request that has ended though beats of its reply are missing, or came before it was whole: the board, its shadow and the order go on together.
use Rattle.std.proofs.Common.{◌≡◌, ℕ, Bool, true, false, map, Option, Some, refl, sym, ◌∙◌, ap, subst, arith}
use Rattle.std.specs.Prelude.{is_some, slice_get}
use Rattle.std.specs.List.{list_any}
use Rattle.std.proofs.Math.Path.{fun_ext}
use Rattle.std.proofs.lemmas.Simd.{map-map}
use Rattle.bus_words.proofs.MappedPlaces.{map_same}
use Rattle.meaning.specs.Meaning.{Bytes}
use Rattle.scoreboard.specs.Boards.{Board, ClientBoard, with_client}
use Rattle.scoreboard.specs.Flights.{Footprint, InFlight}
use Rattle.scoreboard.specs.Orders.{Entry, Order, has_ended}
use Rattle.scoreboard.proofs.MappedLists.{any_map}
use Rattle.scoreboard.proofs.real_time.Ahead.{Shadow, comes, shadow_of}
use Rattle.scoreboard.proofs.real_time.Comings.{early_at}
use Rattle.scoreboard.proofs.real_time.Entries.{place_of}
use Rattle.scoreboard.proofs.real_time.Explained.{Explains}
use Rattle.scoreboard.proofs.real_time.Follows.{ActsAs, Follows, IsFailing, IsFated, IsFollowed, IsMarked, IsOpen, all_mapped, replied_by, settle, settled}
use Rattle.scoreboard.proofs.real_time.FollowsChanges as changes
use Rattle.scoreboard.proofs.real_time.Places.{Place, coming_at, due_at, flight_at}
use Rattle.scoreboard.proofs.real_time.Removed.{Ends, Over, Still, away_from, coming_less, comes_less, early_less, ended, ended_ahead, ends, explains_ended, kept_at, place_at, stands_there, without}
use Rattle.scoreboard.proofs.real_time.StepOrders.{is_coming}

module _ {start : Bytes} (board : Board) (shadow : Shadow) (order : Order) (follows : Follows start board shadow order) (number : ℕ) (source : Option ℕ) (client : ClientBoard)
    (there : slice_get board.clients number ≡ Some client)
    (free : (c : ℕ) → comes board.clients c ≡ true → due_at c (shadow.finals c).source ≡ place_at number source → ⊥) where
  -- the same client on the shadow
  there_too : (other : ClientBoard) × (slice_get shadow.clients number ≡ Some other)
  there_too = changes.there_too board shadow order follows number client there

  abbrev other : ClientBoard
  other = there_too.0

  abbrev now : Board
  now = with_client number (without source client) board

  abbrev now_shadow : Shadow
  now_shadow = record shadow { clients = (with_client number (without source other) (shadow_of board shadow)).clients }

  settled_ended : (entry : Entry) → settled (ended number source entry) ≡ ended number source (settled entry)
  settled_ended entry = grind arith

  settle_ended : settle (map (ended number source) order) ≡ map (ended number source) (settle order)
  settle_ended =
      map-map settled (ended number source) order
      ∙ map_same (λ entry. settled (ended number source entry)) (λ entry. ended number source (settled entry)) order settled_ended
      ∙ sym (map-map (ended number source) settled order)

  comes_now : (c : ℕ) → comes now.clients c ≡ comes board.clients c
  comes_now = comes_less board shadow follows.ahead number source client other there there_too.1 (follows.explains.sources number other there_too.1) free

  early_now : (c : ℕ) → early_at now.clients c ≡ early_at board.clients c
  early_now = early_less board shadow follows.ahead number source client other there there_too.1 (follows.explains.sources number other there_too.1) free

  coming_now : (c : ℕ) → coming_at now.clients c ≡ coming_at board.clients c
  coming_now = coming_less board shadow follows.ahead number source client other there there_too.1 (follows.explains.sources number other there_too.1) free

  kept : (place : Place) → (place ≡ place_at number source → ⊥) → flight_at now.clients place ≡ flight_at board.clients place
  kept place away = kept_at board.clients number source client there (follows.ahead.sources number client there) place away

  marked : (entry : Entry) → IsMarked board.clients entry → IsMarked now.clients (ended number source entry)
  marked entry was live =
      let still = away_from number source entry live (ends number source entry) in
      ap (λ (e : Entry). e.whole) still.0 ∙ was (sym (ap (λ (e : Entry). has_ended e) still.0) ∙ live)
      ∙ sym (ap (λ (e : Entry). is_some (flight_at now.clients (place_of e))) still.0 ∙ ap (λ (o : Option InFlight). is_some o) (kept (place_of entry) still.1))

  failing : (entry : Entry) → IsFailing board entry → IsFailing now (ended number source entry)
  failing entry was whole live flight there_now =
      let still = away_from number source entry live (ends number source entry) in
      subst (λ (e : Entry). IsFailing now e) (sym still.0)
      (λ its_whole its_live its_flight here. was its_whole its_live its_flight (sym (kept (place_of entry) still.1) ∙ here)) whole live flight there_now

  opened : (entry : Entry) → (entry.whole ≡ false → IsOpen board shadow entry) → (ended number source entry).whole ≡ false
      → IsOpen now now_shadow (ended number source entry)
  opened entry was unwhole = by_ends (ends number source entry)
    where
      by_ends : Ends number source entry → IsOpen now now_shadow (ended number source entry)
      by_ends (Over stands is) =
          let it = was (sym (ap (λ (e : Entry). e.whole) is) ∙ unwhole) in
          let place : place_of entry ≡ due_at entry.client (shadow.finals entry.client).source = grind (arith, it.none_came, it.final) in
          absurd (free entry.client it.begun (sym place ∙ stands_there number source entry stands))
      by_ends (Still not_waiting is) =
          let it = was (sym (ap (λ (e : Entry). e.whole) is) ∙ unwhole) in
          subst (IsOpen now now_shadow) (sym is)
          (record {
            begun = comes_now entry.client ∙ it.begun;
            final = it.final;
            none_came = it.none_came;
            any = it.any;
            early = early_now entry.client ∙ it.early;
            replied = it.replied ∙ ap (replied_by board.errors) (sym (early_now entry.client));
            failed = ap (λ (r : Footprint). r.failed) (coming_now entry.client) ∙ it.failed;
            acts = subst (ActsAs board entry.request) (sym (coming_now entry.client)) it.acts;
          })

  fated : (entry : Entry) → IsFated shadow entry → IsFated now_shadow (ended number source entry)
  fated entry was whole live =
      let still = away_from number source entry live (ends number source entry) in
      subst (λ (e : Entry). IsFated now_shadow e) (sym still.0) was whole live

  -- where the one that ends has failed, if it is fated
  pub removed_follows : ((flight : InFlight) → flight_at board.clients (place_at number source) ≡ Some flight → shadow.fates (place_at number source) ≡ true
      → flight.footprint.failed ≡ true)
      → IsFollowed start shadow.fate (with_client number (without source client) board) (map (ended number source) order)
  removed_follows spent = (
    now_shadow,
    record {
      explains =
          subst (Explains start (shadow_of now now_shadow)) (sym settle_ended)
          (explains_ended (shadow_of board shadow) (settle order) follows.explains number source other there_too.1);
      ahead = ended_ahead board shadow follows.ahead number source client other there there_too.1 (follows.explains.sources number other there_too.1) free spent;
      marked = all_mapped (IsMarked board.clients) (IsMarked now.clients) (ended number source) order marked follows.marked;
      failing = all_mapped (IsFailing board) (IsFailing now) (ended number source) order failing follows.failing;
      fated = all_mapped (IsFated shadow) (IsFated now_shadow) (ended number source) order fated follows.fated;
      any_fated = follows.any_fated;
      open_ones =
          all_mapped (λ entry. entry.whole ≡ false → IsOpen board shadow entry) (λ entry. entry.whole ≡ false → IsOpen now now_shadow entry) (ended number source) order
          opened follows.open_ones;
      known = λ c some.
          any_map (is_coming c) (ended number source) order
          ∙ ap (λ (test : Entry → Bool). list_any test order) (fun_ext (λ entry. coming_kept c entry))
          ∙ follows.known c (sym (comes_now c) ∙ some);
      early = λ c due is. comes_now c ∙ follows.early c due (sym (early_now c) ∙ is);
    },
    refl,
  )
    where
      coming_kept : (c : ℕ) (entry : Entry) → is_coming c (ended number source entry) ≡ is_coming c entry
      coming_kept c entry = grind arith
