-- A beat on channel D, on a board and on its shadow: the shadow goes with the board, and is still ahead.
use Rattle.std.proofs.Common.{◌≡◌, ℕ, ◌+◌, ◌-◌, ◌==◌, Bool, true, false, List, [], ◌∷◌, set, length, drop, Option, Some, None, ◌⊎◌, inl, inr, refl, sym, ◌∙◌, ap, subst, arith}
use Rattle.std.specs.Prelude.{is_some, slice_get}
use Rattle.std.proofs.lemmas.Bool.{cases_eq}
use Rattle.std.proofs.lemmas.List.{drop-drop, drop-map, length-drop, length-set}
use Rattle.tl_messages.specs.declared.DBeat.{DBeat}
use Rattle.scoreboard.specs.Boards.{Board, ClientBoard, with_client}
use Rattle.scoreboard.specs.Flights.{Footprint, InFlight, begun_after, flights_after, with_left}
use Rattle.scoreboard.specs.Races.{may_write}
use Rattle.scoreboard.proofs.real_time.Ahead.{HasBecome, HasBeside, IsAhead, IsBehind, IsFinal, NoneFated, Shadow, comes, fates_other, fates_own, fates_with, front_in}
use Rattle.scoreboard.proofs.real_time.AlikeBeats.{LeftAlike}
use Rattle.scoreboard.proofs.real_time.Comings.{comes_other, comes_same}
use Rattle.scoreboard.proofs.real_time.Explained.{sources_with}
use Rattle.scoreboard.proofs.real_time.Failures.{shape_of}
use Rattle.scoreboard.proofs.real_time.FlightPlaces.{coming_other, coming_same}
use Rattle.scoreboard.proofs.real_time.Places.{HaveSources, Place, begun_at, cases_place, coming_at, coming_in, due_at, flight_at}
use Rattle.scoreboard.proofs.real_time.ReplyMoves.{AreMoved}
use Rattle.scoreboard.proofs.real_time.ReplySeen.{are_moved, sources_after}
use Rattle.scoreboard.proofs.real_time.ReplySteps.{next_at}

-- ---- a beat fewer is left of both

behind_next : (fated : Bool) (mine theirs : InFlight) → IsBehind fated mine theirs
    → IsBehind fated (record mine { beats = drop 1 mine.beats }) (record theirs { beats = drop 1 theirs.beats })
behind_next fated mine theirs is =
    record {
      source = is.source;
      acts = is.acts;
      sound = is.sound;
      less = is.less;
      long = length-drop 1 mine.beats ∙ ap (λ (n : ℕ). n - 1) is.long ∙ sym (length-drop 1 theirs.beats);
      shapes = sym (drop-map shape_of 1 mine.beats) ∙ ap (λ (beats : List DBeat). drop 1 beats) is.shapes ∙ drop-map shape_of 1 theirs.beats;
      alike = λ unfated sound n below.
          subst (λ (beats : List DBeat). LeftAlike mine.footprint beats (drop n (drop 1 theirs.beats))) (sym (drop-drop n 1 mine.beats))
          (subst (λ (beats : List DBeat). LeftAlike mine.footprint (drop (1 + n) mine.beats) beats) (sym (drop-drop n 1 theirs.beats))
          (is.alike unfated sound (1 + n) (omega (arith, below, length-drop 1 theirs.beats))));
    }

-- what is left of one where something is left of the other
record LeftBeside (fated : Bool) (theirs : InFlight) (left : Option InFlight) (mine : InFlight) : Type 0 where
  other : InFlight
  is : left ≡ Some other
  behind : IsBehind fated mine other

left_beside : (fated : Bool) (mine theirs after : InFlight) (beats others : List DBeat) → with_left mine beats ≡ Some after → length beats ≡ length others
    → IsBehind fated (record mine { beats = beats }) (record theirs { beats = others }) → LeftBeside fated theirs (with_left theirs others) after
left_beside fated mine theirs after [] others is long behind = absurd (cc (is))
left_beside fated mine theirs after (beat ∷ beats) [] is long behind = absurd (cc (long))
left_beside fated mine theirs after (beat ∷ beats) (other ∷ others) is long behind = grind (arith, is, long, behind)

-- where nothing is left of one nothing is left of the other
none_left : (mine theirs : InFlight) (beats others : List DBeat) → with_left mine beats ≡ None → length beats ≡ length others → with_left theirs others ≡ None
none_left mine theirs beats others is long = grind (arith, is, long)

same_after : (source : ℕ) (flight after : InFlight) → begun_after (Some flight) source ≡ Some after → after.footprint ≡ flight.footprint
same_after source flight after is = grind (arith, is)

module _ (source : ℕ) (fated : Bool) (mine theirs : InFlight) (is : IsBehind fated mine theirs) where
  after_beside : (after : InFlight) → begun_after (Some mine) source ≡ Some after → LeftBeside fated theirs (begun_after (Some theirs) source) after
  after_beside after some = by_source (mine.source == source) refl
    where
      by_source : (b : Bool) → (mine.source == source) ≡ b → LeftBeside fated theirs (begun_after (Some theirs) source) after
      by_source true own =
          let its : (theirs.source == source) ≡ true = ap (λ (s : ℕ). s == source) (sym is.source) ∙ own in
          let next = behind_next fated mine theirs is in
          rw its (left_beside fated mine theirs after (drop 1 mine.beats) (drop 1 theirs.beats) (rw own at some) next.long next)
      by_source false own =
          let its : (theirs.source == source) ≡ false = ap (λ (s : ℕ). s == source) (sym is.source) ∙ own in
          let same : Some mine ≡ Some after = rw own at some in
          let it : mine ≡ after = cc (same) in
          rw its (record { other = theirs; is = refl; behind = subst (λ (f : InFlight). IsBehind fated f theirs) it is })

  after_none : begun_after (Some mine) source ≡ None → begun_after (Some theirs) source ≡ None
  after_none none = grind (arith, none, is.source, is)

-- ---- both boards

module _ (board : Board) (shadow : Shadow) (ahead : IsAhead board shadow) (number source : ℕ) (client other_client : ClientBoard)
    (there : slice_get board.clients number ≡ Some client) (there_too : slice_get shadow.clients number ≡ Some other_client) (begun : Bool)
    (flag : begun ≡ is_some (flight_at board.clients (begun_at number))) (flag_too : begun ≡ is_some (flight_at shadow.clients (begun_at number)))
    (distinct : (number : ℕ) → (client : ClientBoard) → slice_get shadow.clients number ≡ Some client → HaveSources client.flights)
    (due : InFlight) (is_due : flight_at board.clients (next_at begun number source) ≡ Some due) where
  abbrev pub changed : ClientBoard
  changed = record client { flights = flights_after client.flights source }

  abbrev pub now : Board
  now = with_client number changed board

  abbrev pub now_shadow : Shadow
  now_shadow =
      record shadow {
        clients = set shadow.clients number (record other_client { flights = flights_after other_client.flights source });
        fates = fates_with shadow.fates (begun_at number) (shadow.fates (next_at begun number source));
      }

  abbrev pub from : Place
  from = next_at begun number source

  are : AreMoved number source from (flight_at board.clients) (flight_at now.clients)
  are = are_moved board.clients number source client there begun flag (ahead.sources number client there)

  are_there : AreMoved number source from (flight_at shadow.clients) (flight_at now_shadow.clients)
  are_there = are_moved shadow.clients number source other_client there_too begun flag_too (distinct number other_client there_too)

  beside : HasBeside shadow from due
  beside = ahead.placed from due is_due

  next_here : flight_at now.clients (begun_at number) ≡ begun_after (Some due) source
  next_here = are.next ∙ ap (λ (o : Option InFlight). begun_after o source) is_due

  next_there : flight_at now_shadow.clients (begun_at number) ≡ begun_after (Some beside.other) source
  next_there = are_there.next ∙ ap (λ (o : Option InFlight). begun_after o source) beside.there

  placed : (place : Place) (after : InFlight) → flight_at now.clients place ≡ Some after → HasBeside now_shadow place after
  placed place after is = by_places (cases_place place (begun_at number)) (cases_place place from)
    where
      by_places : (place ≡ begun_at number) ⊎ (place ≡ begun_at number → ⊥) → (place ≡ from) ⊎ (place ≡ from → ⊥) → HasBeside now_shadow place after
      by_places (inl same) other =
          let left = after_beside source (shadow.fates from) due beside.other beside.behind after (sym next_here ∙ ap (flight_at now.clients) (sym same) ∙ is) in
          let fate : now_shadow.fates place ≡ shadow.fates from =
          ap now_shadow.fates same ∙ fates_own shadow.fates (begun_at number) (shadow.fates from) in
          record {
            other = left.other;
            there = ap (flight_at now_shadow.clients) same ∙ next_there ∙ left.is;
            behind = subst (λ (b : Bool). IsBehind b after left.other) (sym fate) left.behind;
          }
      by_places (inr differ) (inl same) =
          absurd (cc (sym (are.gone (λ here. differ (same ∙ here))) ∙ ap (flight_at now.clients) (sym same) ∙ is))
      by_places (inr differ) (inr away) =
          let old = ahead.placed place after (sym (are.others place away differ) ∙ is) in
          record {
            other = old.other;
            there = are_there.others place away differ ∙ old.there;
            behind =
                subst (λ (b : Bool). IsBehind b after old.other) (sym (fates_other shadow.fates (begun_at number) (shadow.fates from) place differ)) old.behind;
          }

  pub comes_now : (c : ℕ) → comes now.clients c ≡ comes board.clients c
  comes_now c =
      elim (cases_eq c number) [
        | inl same ↦
            ap (comes now.clients) same ∙ comes_same board.clients number client changed there
            ∙ sym (ap (λ (o : Option ClientBoard). is_some (front_in o)) there) ∙ ap (comes board.clients) (sym same)
        | inr differ ↦ comes_other board.clients number c changed differ
      ]

  coming_now : (c : ℕ) → coming_at now.clients c ≡ coming_at board.clients c
  coming_now c =
      elim (cases_eq c number) [
        | inl same ↦
            ap (coming_at now.clients) same ∙ coming_same board.clients number client changed there ∙ sym (ap coming_in there) ∙ ap (coming_at board.clients) (sym same)
        | inr differ ↦ coming_other board.clients number c changed differ
      ]

  -- the place of what has begun isn't that to which the beat is due
  away_from : (c : ℕ) → comes board.clients c ≡ true → due_at c (shadow.finals c).source ≡ from → ⊥
  away_from c some same = absurd (cc (sym (ahead.waits c some) ∙ ap (flight_at board.clients) same ∙ is_due))

  not_begun : (c s : ℕ) → due_at c s ≡ begun_at number → ⊥
  not_begun c s same = let is = ap (λ (p : Place). p.source) same in absurd (cc (is))

  become : (c : ℕ) → comes now.clients c ≡ true
      → HasBecome board.memory.faults board.memory.regions now_shadow.clients (coming_at now.clients c) c (shadow.finals c)
  become c some =
      let before = sym (comes_now c) ∙ some in
      let old = ahead.begun c before in
      subst (λ coming. HasBecome board.memory.faults board.memory.regions now_shadow.clients coming c (shadow.finals c)) (sym (coming_now c))
      (record {
        other = old.other;
        there = are_there.others (due_at c (shadow.finals c).source) (away_from c before) (not_begun c (shadow.finals c).source) ∙ old.there;
        becomes = old.becomes;
      })

  pub others : (place : Place) (other : InFlight) → flight_at now_shadow.clients place ≡ Some other → flight_at now.clients place ≡ None → IsFinal now now_shadow place
  others place other is none = by_places (cases_place place (begun_at number)) (cases_place place from)
    where
      by_places : (place ≡ begun_at number) ⊎ (place ≡ begun_at number → ⊥) → (place ≡ from) ⊎ (place ≡ from → ⊥) → IsFinal now now_shadow place
      by_places (inl same) away =
          let gone = after_none source (shadow.fates from) due beside.other beside.behind (sym next_here ∙ ap (flight_at now.clients) (sym same) ∙ none) in
          absurd (cc (sym gone ∙ sym next_there ∙ ap (flight_at now_shadow.clients) (sym same) ∙ is))
      by_places (inr differ) (inl same) =
          absurd (cc (sym (are_there.gone (λ here. differ (same ∙ here))) ∙ ap (flight_at now_shadow.clients) (sym same) ∙ is))
      by_places (inr differ) (inr away) =
          let old = ahead.others place other (sym (are_there.others place away differ) ∙ is) (sym (are.others place away differ) ∙ none) in
          record { begun = comes_now place.client ∙ old.begun; there = old.there }

  pub waits : (c : ℕ) → comes now.clients c ≡ true → flight_at now.clients (due_at c (shadow.finals c).source) ≡ None
  waits c some =
      let before = sym (comes_now c) ∙ some in
      are.others (due_at c (shadow.finals c).source) (away_from c before) (not_begun c (shadow.finals c).source) ∙ ahead.waits c before

  -- the one that goes on is fated as before, and where it has ended it has failed if it was
  unfated_before : (begun_after (Some due) source ≡ None → shadow.fates (next_at begun number source) ≡ true → due.footprint.failed ≡ true) → (x : ℕ)
      → NoneFated now.clients now_shadow.fates x → NoneFated board.clients shadow.fates x
  unfated_before spent x unfated place flight is fated sound = by_places (cases_place place from) (cases_place place (begun_at number))
    where
      by_next : (o : Option InFlight) → begun_after (Some due) source ≡ o → flight ≡ due → shadow.fates from ≡ true → may_write flight.footprint x ≡ false
      by_next None ends it its_fate = absurd (cc (sym sound ∙ ap (λ (f : InFlight). f.footprint.failed) it ∙ spent ends its_fate))
      by_next (Some after) left it its_fate =
          let same : after.footprint ≡ flight.footprint = same_after source due after left ∙ ap (λ (f : InFlight). f.footprint) (sym it) in
          ap (λ (f : Footprint). may_write f x) (sym same)
          ∙ unfated (begun_at number) after (next_here ∙ left) (fates_own shadow.fates (begun_at number) (shadow.fates from) ∙ its_fate)
          (ap (λ (f : Footprint). f.failed) same ∙ sound)

      begun_there : (b : Bool) → begun ≡ b → place ≡ begun_at number → place ≡ next_at b number source
      begun_there true has same = same
      begun_there false none same = grind (arith, none, same, flag)

      by_places : (place ≡ from) ⊎ (place ≡ from → ⊥) → (place ≡ begun_at number) ⊎ (place ≡ begun_at number → ⊥) → may_write flight.footprint x ≡ false
      by_places (inl same) other =
          let one : Some flight ≡ Some due = sym is ∙ ap (flight_at board.clients) same ∙ is_due in
          by_next (begun_after (Some due) source) refl (cc (one)) (ap shadow.fates (sym same) ∙ fated)
      by_places (inr away) (inl same) = grind arith
      by_places (inr away) (inr differ) =
          unfated place flight (are.others place away differ ∙ is)
          (fates_other shadow.fates (begun_at number) (shadow.fates from) place differ ∙ fated) sound

  pub replied_ahead : (begun_after (Some due) source ≡ None → shadow.fates (next_at begun number source) ≡ true → due.footprint.failed ≡ true)
      → IsAhead (with_client number (record client { flights = flights_after client.flights source }) board)
      (record shadow {
        clients = set shadow.clients number (record other_client { flights = flights_after other_client.flights source });
        fates = fates_with shadow.fates (begun_at number) (shadow.fates (next_at begun number source));
      })
  replied_ahead spent =
      record {
        sources = sources_with board.clients number client changed there ahead.sources (sources_after source client.flights (ahead.sources number client there));
        small = ahead.small;
        many = length-set shadow.clients number (record other_client { flights = flights_after other_client.flights source }) ∙ ahead.many
            ∙ sym (length-set board.clients number changed);
        placed = placed;
        begun = become;
        others = others;
        waits = waits;
        known = λ x certain none unfated.
            let same = ahead.known x certain (λ c some. none c (comes_now c ∙ some)) (unfated_before spent x unfated) in record { byte = same.byte; certain = same.certain };
        given = λ c x some determined gives_it.
            ahead.given c x (sym (comes_now c) ∙ some) (sym (ap (λ (r : Footprint). r.determined x) (coming_now c)) ∙ determined) gives_it;
      }
