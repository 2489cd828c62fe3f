-- What a beat on channel A changes on the board where no request comes: a client's front, or that its request fails.
use Rattle.std.proofs.Common.{◌≡◌, ℕ, ◌<◌, Bool, true, false, [], ◌∷◌, map, set, Option, Some, ◌||◌, ◌⊎◌, inl, inr, refl, sym, ◌∙◌, ap, subst, arith}
use Rattle.std.specs.Prelude.{is_some, slice_get}
use Rattle.std.specs.List.{list_any}
use Rattle.std.proofs.Math.Path.{fun_ext}
use Rattle.std.proofs.lemmas.Bool.{cases_eq, or_right}
use Rattle.std.proofs.lemmas.Bool.Decides.{nat_tests}
use Rattle.std.proofs.lemmas.List.{length-set}
use Rattle.std.proofs.lemmas.Simd.{map-map}
use Rattle.bus_words.proofs.StoredPlaces.{there_is}
use Rattle.std.proofs.lemmas.Option.{slice_get_within}
use Rattle.tl_messages.specs.Requests.{HeldMessage, WholeRequest}
use Rattle.meaning.specs.Meaning.{Bytes}
use Rattle.scoreboard.specs.Boards.{Board, ClientBoard, is_spoiled, with_client}
use Rattle.scoreboard.specs.Flights.{Flights, Footprint, InFlight}
use Rattle.scoreboard.specs.Orders.{Entry, Order}
use Rattle.scoreboard.specs.RealTime.{heard}
use Rattle.scoreboard.specs.declared.Errors.TheVariants.{Any}
use Rattle.scoreboard.specs.Races.{unless_failed}
use Rattle.scoreboard.specs.declared.Errors.{Errors}
use Rattle.scoreboard.proofs.MappedLists.{any_map}
use Rattle.scoreboard.proofs.real_time.Ahead.{IsAhead, IsComing, Shadow, comes, front_in, shadow_of}
use Rattle.scoreboard.proofs.real_time.Comings.{comes_other, comes_same, early_at, early_in, early_other, early_same}
use Rattle.scoreboard.proofs.real_time.Entries.{place_of}
use Rattle.scoreboard.proofs.real_time.Explained.{Explains, sources_with}
use Rattle.scoreboard.proofs.real_time.Failures.{failed_any}
use Rattle.scoreboard.proofs.real_time.Fates.{spoils_any}
use Rattle.scoreboard.proofs.real_time.FlightPlaces.{coming_other, coming_same}
use Rattle.scoreboard.proofs.real_time.Follows.{ActsAs, Follows, IsFailing, IsFated, IsMarked, IsOpen, ahead_as, all_mapped, follows_as, replied_by, settle, settled}
use Rattle.scoreboard.proofs.real_time.Places.{HaveSources, Place, coming_at, coming_in, due_at, flight_at, flight_in, flights_kept}
use Rattle.scoreboard.proofs.real_time.StepOrders.{is_coming}

-- ---- an entry that isn't whole

pub coming_parts : (client : ℕ) (entry : Entry) → is_coming client entry ≡ true → (entry.client ≡ client) × (entry.whole ≡ false)
coming_parts client entry is = (grind (arith, nat_tests, is), grind (arith, is))

-- ---- a beat between the first and the last

-- where none of its beats was corrupt nothing changes
pub or_none : (b : Bool) → (b || false) ≡ b
or_none true = refl
or_none false = refl

pub heard_same : (errors : Errors) (client : ℕ) (q : WholeRequest) (order : Order) → is_spoiled errors q ≡ false → map (heard errors client q) order ≡ order
heard_same errors client q [] sound = refl
heard_same errors client q (entry ∷ order) sound =
    let first = one (is_coming client entry) refl in
    let rest = heard_same errors client q order sound in
    cc (first, rest)
  where
    one : (b : Bool) → is_coming client entry ≡ b → heard errors client q entry ≡ entry
    one false is = rw is refl
    one true is =
        let same : (entry.spoiled || is_spoiled errors q) ≡ entry.spoiled = ap (λ (b : Bool). entry.spoiled || b) sound ∙ or_none entry.spoiled in
        rw is (ap (λ (b : Bool). record entry { spoiled = b }) same)

-- one that is spoiled with it
pub heard_is : (errors : Errors) (client : ℕ) (q : WholeRequest) (entry : Entry) → is_coming client entry ≡ true
    → heard errors client q entry ≡ record entry { spoiled = entry.spoiled || is_spoiled errors q }
heard_is errors client q entry is = rw is refl

pub heard_not : (errors : Errors) (client : ℕ) (q : WholeRequest) (entry : Entry) → is_coming client entry ≡ false → heard errors client q entry ≡ entry
heard_not errors client q entry is = rw is refl

pub settle_heard : (errors : Errors) (client : ℕ) (q : WholeRequest) (order : Order) → settle (map (heard errors client q) order) ≡ settle order
settle_heard errors client q order = grind (arith, map-map settled (heard errors client q) order)

module _ {start : Bytes} (board : Board) (shadow : Shadow) (order : Order) (follows : Follows start board shadow order) (number : ℕ) (client : ClientBoard)
    (there : slice_get board.clients number ≡ Some client) where
  -- the same client on the shadow
  pub there_too : (other : ClientBoard) × (slice_get shadow.clients number ≡ Some other)
  there_too =
      there_is shadow.clients number
      (subst (λ (n : ℕ). number < n) (sym follows.ahead.many) (slice_get_within board.clients number client there))

  -- ---- the client changes in what plays no part

  pub comes_changed : (changed : ClientBoard) → is_some changed.front ≡ is_some client.front → (c : ℕ) → comes (set board.clients number changed) c ≡ comes board.clients c
  comes_changed changed front c = elim (cases_eq c number) [
    | inl same ↦
        ap (comes (set board.clients number changed)) same ∙ comes_same board.clients number client changed there
        ∙ front ∙ sym (ap (λ (o : Option ClientBoard). is_some (front_in o)) there)
        ∙ ap (comes board.clients) (sym same)
    | inr differ ↦ comes_other board.clients number c changed differ
  ]

  pub coming_changed : (changed : ClientBoard) → changed.coming ≡ client.coming → (c : ℕ) → coming_at (set board.clients number changed) c ≡ coming_at board.clients c
  coming_changed changed coming c = elim (cases_eq c number) [
    | inl same ↦
        ap (coming_at (set board.clients number changed)) same ∙ coming_same board.clients number client changed there ∙ coming ∙ sym (ap coming_in there)
        ∙ ap (coming_at board.clients) (sym same)
    | inr differ ↦ coming_other board.clients number c changed differ
  ]

  pub early_changed : (changed : ClientBoard) → changed.early ≡ client.early → (c : ℕ) → early_at (set board.clients number changed) c ≡ early_at board.clients c
  early_changed changed early c = elim (cases_eq c number) [
    | inl same ↦
        ap (early_at (set board.clients number changed)) same ∙ early_same board.clients number client changed there ∙ early ∙ sym (ap early_in there)
        ∙ ap (early_at board.clients) (sym same)
    | inr differ ↦ early_other board.clients number c changed differ
  ]

  pub client_ahead : (changed : ClientBoard) → changed.flights ≡ client.flights → changed.coming ≡ client.coming → is_some changed.front ≡ is_some client.front
      → IsAhead (with_client number changed board) shadow
  client_ahead changed flights coming front =
      ahead_as board shadow (set board.clients number changed) board.axi
      (sources_with board.clients number client changed there follows.ahead.sources (subst HaveSources (sym flights) (follows.ahead.sources number client there)))
      (sym (length-set board.clients number changed))
      (λ place. ap (λ (f : Flights). flight_in f place.source) (flights_kept board.clients number client changed there flights place.client))
      (comes_changed changed front) (coming_changed changed coming) follows.ahead

  pub client_follows : (heard : ClientBoard) → heard.flights ≡ client.flights → heard.coming ≡ client.coming → is_some heard.front ≡ is_some client.front
      → heard.early ≡ client.early → Follows start (with_client number heard board) shadow order
  client_follows heard flights coming front early =
      follows_as board shadow (set board.clients number heard) board.axi
      (sources_with board.clients number client heard there follows.ahead.sources (subst HaveSources (sym flights) (follows.ahead.sources number client there)))
      (sym (length-set board.clients number heard))
      (λ place. ap (λ (f : Flights). flight_in f place.source) (flights_kept board.clients number client heard there flights place.client))
      (comes_changed heard front) (coming_changed heard coming) (early_changed heard early) order follows.explains follows

  -- a message goes on
  pub goes_further : (message : HeldMessage) → is_some client.front ≡ true → Follows start (with_client number (record client { front = Some message }) board) shadow order
  goes_further message front = client_follows (record client { front = Some message }) refl refl (sym front) refl

  -- with a corrupt beat it fails, where that may be told in any way
  pub spoils : (q : WholeRequest) → is_spoiled board.errors q ≡ true
      → Follows start (with_client number (record client { coming = unless_failed true client.coming }) board) shadow (map (heard board.errors number q) order)
  spoils q is =
      record {
        explains = subst (Explains start (shadow_of board shadow)) (sym (settle_heard board.errors number q order)) follows.explains;
        ahead = record {
          sources = sources_with board.clients number client changed there follows.ahead.sources (follows.ahead.sources number client there);
          small = follows.ahead.small;
          many = follows.ahead.many ∙ sym (length-set board.clients number changed);
          placed = λ place flight its. follows.ahead.placed place flight (sym (flights place) ∙ its);
          begun = λ c some.
              let old = follows.ahead.begun c (sym (comes_now c) ∙ some) in
              record { other = old.other; there = old.there; becomes = its_coming c old.other old.becomes };
          others = λ place its is_there none.
              let old = follows.ahead.others place its is_there (sym (flights place) ∙ none) in record { begun = comes_now place.client ∙ old.begun; there = old.there };
          waits = λ c some. flights (due_at c (shadow.finals c).source) ∙ follows.ahead.waits c (sym (comes_now c) ∙ some);
          known = λ x certain none unfated.
              let old = follows.ahead.known x certain (λ c some. none c (comes_now c ∙ some)) (λ place flight its. unfated place flight (flights place ∙ its)) in
              record { byte = old.byte; certain = old.certain };
          given = λ c x some determined gives_it.
              let old = less c x determined in follows.ahead.given c x (sym (comes_now c) ∙ some) old gives_it;
        };
        marked = all_mapped (IsMarked board.clients) (IsMarked (set board.clients number changed)) (heard board.errors number q) order marked follows.marked;
        failing = all_mapped (IsFailing board) (IsFailing now) (heard board.errors number q) order failing follows.failing;
        fated = all_mapped (IsFated shadow) (IsFated shadow) (heard board.errors number q) order fated follows.fated;
        any_fated = follows.any_fated;
        open_ones =
            all_mapped (λ entry. entry.whole ≡ false → IsOpen board shadow entry) (λ entry. entry.whole ≡ false → IsOpen now shadow entry) (heard board.errors number q) order
            opened follows.open_ones;
        known = λ c some.
            any_map (is_coming c) (heard board.errors number q) order
            ∙ ap (λ (test : Entry → Bool). list_any test order) (fun_ext (λ entry. coming_kept c entry (is_coming number entry) refl))
            ∙ follows.known c (sym (comes_now c) ∙ some);
        early = λ c due its. comes_now c ∙ follows.early c due (sym (early_now c) ∙ its);
      }
    where
      changed : ClientBoard
      changed = record client { coming = unless_failed true client.coming }

      now : Board
      now = with_client number changed board

      flights : (place : Place) → flight_at (set board.clients number changed) place ≡ flight_at board.clients place
      flights place = ap (λ (f : Flights). flight_in f place.source) (flights_kept board.clients number client changed there refl place.client)

      comes_now : (c : ℕ) → comes (set board.clients number changed) c ≡ comes board.clients c
      comes_now = comes_changed changed refl

      early_now : (c : ℕ) → early_at (set board.clients number changed) c ≡ early_at board.clients c
      early_now = early_changed changed refl

      own_coming : coming_at (set board.clients number changed) number ≡ unless_failed true (coming_at board.clients number)
      own_coming = coming_same board.clients number client changed there ∙ ap (λ (o : Option ClientBoard). unless_failed true (coming_in o)) (sym there)

      coming_now : (c : ℕ) → (coming_at (set board.clients number changed) c ≡ coming_at board.clients c)
          ⊎ (coming_at (set board.clients number changed) c ≡ unless_failed true (coming_at board.clients c))
      coming_now c =
          elim (cases_eq c number) [
            | inl same ↦ inr (ap (coming_at (set board.clients number changed)) same ∙ own_coming ∙ ap (λ k. unless_failed true (coming_at board.clients k)) (sym same))
            | inr differ ↦ inl (coming_other board.clients number c changed differ)
          ]

      less : (c x : ℕ) → (coming_at (set board.clients number changed) c).determined x ≡ true → (coming_at board.clients c).determined x ≡ true
      less c x determined =
          elim (coming_now c) [
            | inl same ↦ sym (ap (λ (r : Footprint). r.determined x) same) ∙ determined
            | inr fails_now ↦ absurd (cc (sym (ap (λ (r : Footprint). r.determined x) fails_now) ∙ determined))
          ]

      its_coming : (c : ℕ) (other : InFlight) → IsComing board.memory.faults board.memory.regions (coming_at board.clients c) (shadow.finals c) other
          → IsComing board.memory.faults board.memory.regions (coming_at (set board.clients number changed) c) (shadow.finals c) other
      its_coming c other old =
          elim (coming_now c) [
            | inl same ↦ subst (λ r. IsComing board.memory.faults board.memory.regions r (shadow.finals c) other) (sym same) old
            | inr fails_now ↦ subst (λ r. IsComing board.memory.faults board.memory.regions r (shadow.finals c) other) (sym fails_now)
                (record {
                  source = old.source;
                  well = old.well;
                  silent = old.silent;
                  same = λ writes. ap (λ (r : Footprint). record r { failed = true; determined = λ x. false }) (old.same writes);
                  acts = old.acts;
                  less = λ x writes determined. absurd (cc (determined));
                  beats = old.beats;
                  broken = λ x failed. refl;
                })
          ]

      any : board.errors ≡ Any
      any = spoils_any board.errors q is

      coming_kept : (c : ℕ) (entry : Entry) (b : Bool) → is_coming number entry ≡ b → is_coming c (heard board.errors number q entry) ≡ is_coming c entry
      coming_kept c entry true own = ap (is_coming c) (heard_is board.errors number q entry own)
      coming_kept c entry false own = ap (is_coming c) (heard_not board.errors number q entry own)

      marked : (entry : Entry) → IsMarked board.clients entry → IsMarked (set board.clients number changed) (heard board.errors number q entry)
      marked entry was = by_coming (is_coming number entry) refl
        where
          by_coming : (b : Bool) → is_coming number entry ≡ b → IsMarked (set board.clients number changed) (heard board.errors number q entry)
          by_coming true own =
              subst (IsMarked (set board.clients number changed)) (sym (heard_is board.errors number q entry own))
              (λ alive. was alive ∙ sym (ap (λ (o : Option InFlight). is_some o) (flights (place_of entry))))
          by_coming false own =
              subst (IsMarked (set board.clients number changed)) (sym (heard_not board.errors number q entry own))
              (λ alive. was alive ∙ sym (ap (λ (o : Option InFlight). is_some o) (flights (place_of entry))))

      failing : (entry : Entry) → IsFailing board entry → IsFailing now (heard board.errors number q entry)
      failing entry was = by_coming (is_coming number entry) refl
        where
          by_coming : (b : Bool) → is_coming number entry ≡ b → IsFailing now (heard board.errors number q entry)
          by_coming true own =
              subst (IsFailing now) (sym (heard_is board.errors number q entry own))
              (λ whole alive flight there_now. absurd (cc (sym whole ∙ (coming_parts number entry own).1)))
          by_coming false own =
              subst (IsFailing now) (sym (heard_not board.errors number q entry own))
              (λ whole alive flight there_now. was whole alive flight (sym (flights (place_of entry)) ∙ there_now))

      fated : (entry : Entry) → IsFated shadow entry → IsFated shadow (heard board.errors number q entry)
      fated entry was = grind (arith, was)

      -- it acts where it did
      acting : (c : ℕ) (q : WholeRequest) → ActsAs board q (coming_at board.clients c) → ActsAs board q (coming_at (set board.clients number changed) c)
      acting c q was =
          elim (coming_now c) [
            | inl same ↦ subst (ActsAs board q) (sym same) was
            | inr fails_now ↦ subst (ActsAs board q) (sym fails_now) (λ any. ap (λ (r : Footprint). record r { failed = true; determined = λ x. false }) (was any))
          ]

      opened : (entry : Entry) → (entry.whole ≡ false → IsOpen board shadow entry) → (heard board.errors number q entry).whole ≡ false
          → IsOpen now shadow (heard board.errors number q entry)
      opened entry was unwhole = by_coming (is_coming number entry) refl
        where
          by_coming : (b : Bool) → is_coming number entry ≡ b → IsOpen now shadow (heard board.errors number q entry)
          by_coming true own =
              let parts = coming_parts number entry own in
              let it = was parts.1 in
              subst (IsOpen now shadow) (sym (heard_is board.errors number q entry own))
              (record {
                begun = comes_now entry.client ∙ it.begun;
                final = it.final;
                none_came = it.none_came;
                any = it.any;
                early = early_now entry.client ∙ it.early;
                replied = it.replied ∙ ap (replied_by board.errors) (sym (early_now entry.client));
                acts = acting entry.client entry.request it.acts;
                failed = ap (λ c. (coming_at (set board.clients number changed) c).failed) parts.0 ∙ ap (λ (r : Footprint). r.failed) own_coming
                    ∙ sym (failed_any board.errors board.memory.faults board.memory.regions (record entry { spoiled = entry.spoiled || is_spoiled board.errors q }) any
                    (or_right entry.spoiled (is_spoiled board.errors q) is));
              })
          by_coming false own =
              let still = heard_not board.errors number q entry own in
              let not_whole = sym (ap (λ (e : Entry). e.whole) still) ∙ unwhole in
              let it = was not_whole in
              let differ : entry.client ≡ number → ⊥ = λ same. grind (arith, nat_tests, own, same, not_whole) in
              subst (IsOpen now shadow) (sym still)
              (record {
                begun = comes_now entry.client ∙ it.begun;
                final = it.final;
                none_came = it.none_came;
                any = it.any;
                early = early_now entry.client ∙ it.early;
                replied = it.replied ∙ ap (replied_by board.errors) (sym (early_now entry.client));
                acts = acting entry.client entry.request it.acts;
                failed = ap (λ (r : Footprint). r.failed) (coming_other board.clients number entry.client changed differ) ∙ it.failed;
              })
