-- What a scoreboard holds in flight of a client is what is left to tell it, source by source.
use Rattle.std.proofs.Common.{◌≡◌, Bool, ℕ, ◌==◌, true, false, ◌&&◌, not, List, [], ◌∷◌, ◌++◌, length, Option, Some, None, if◌then◌else◌, ◌⊎◌, inl, inr, refl, sym, ◌∙◌, ap, subst, arith}
use Rattle.std.specs.Prelude.{◌≢◌, is_some, nat_lt}
use Rattle.std.specs.List.{find}
use Rattle.std.specs.Option.{option_to_list}
use Rattle.std.proofs.lemmas.Bool.{eq-eqb, eqb-true, ne_eqb}
use Rattle.std.proofs.lemmas.Bool.Decides.{eqb_tells, nat_tests}
use Rattle.std.specs.Cmp.{booleans_Decides}
use Rattle.std.proofs.lemmas.List.{append_assoc}
use Rattle.std.proofs.lemmas.List.Folds.{find-append}
use Rattle.bus_words.specs.Places.{without_first}
use Rattle.bus_words.proofs.FoundChanges.{find-append-fails}
use Rattle.bus_words.proofs.PlaceChanges.{find-passes}
use Rattle.tl_messages.specs.declared.DBeat.{DBeat}
use Rattle.scoreboard.specs.Boards.{wrong_beat, wrong_in_turn, wrong_reply}
use Rattle.scoreboard.specs.Flights.{Flights, Footprint, InFlight, begun_after, begun_is_of, begun_is_other, cut_short, due_after, flights_after, is_busy, is_of_source, next_reply, with_flight, with_left}
use Rattle.scoreboard.specs.InTurn.{DueBeat, agrees_where_known, as_known, dues_of}
use Rattle.scoreboard.specs.Right.{IsPartly, IsTold, left_of}
use Rattle.scoreboard.specs.declared.Policy.TheVariants.{AcceptanceOrder}
use Rattle.scoreboard.proofs.acceptance_order.DueLists.{AreDues, AreOf, IsDue, any_found, beats_in, due_found, dues_with, dues_without_beat, left_without_beat, none_due, other_without_beat, without_beat}
use Rattle.scoreboard.proofs.acceptance_order.SeenLists.{last_of-append}
use Rattle.scoreboard.proofs.acceptance_order.Told.{told-beat, told-reply}

-- ---- what is held

-- a client's requests in flight, that whose reply has begun first
abbrev pub flying : Flights → List InFlight
flying flights = option_to_list flights.begun ++ flights.due

-- that of a source
abbrev pub flying_of : Flights → ℕ → Option InFlight
flying_of flights source = find (is_of_source source) (flying flights)

-- what is left to tell of a source is what is left of the reply in flight, and a part of it was told where that has begun
pub record IsOwed (replies : List (List DueBeat)) (told : List DBeat) (flights : Flights) (source : ℕ) : Type 0 where
  pub is_told : IsTold replies told
  pub left_is : left_of replies told ≡ beats_in (flying_of flights source)
  pub has_begun : IsPartly replies told → begun_is_of source flights.begun ≡ true
  pub partly : begun_is_of source flights.begun ≡ true → IsPartly replies told

-- ---- whether a source is free

pub eqb_same : (n : ℕ) → (n == n) ≡ true
eqb_same n = eq-eqb n n refl

pub same_or_not : (a b : ℕ) → (a ≡ b) ⊎ (a ≢ b)
same_or_not a b = elim (eqb_tells a b) [ inl same ↦ inl same.1 | inr other ↦ inr other.1 ]

-- it is busy exactly where a request of it is in flight
busy_by : (flights : Flights) (source : ℕ) → is_busy AcceptanceOrder flights source ≡ is_some (flying_of flights source)
busy_by flights source = grind (arith, any_found (is_of_source source) flights.due)

-- of a source that isn't busy nothing is left
pub free-left : (replies : List (List DueBeat)) (told : List DBeat) (flights : Flights) (source : ℕ) → IsOwed replies told flights source → is_busy AcceptanceOrder flights source ≡ false
    → left_of replies told ≡ []
free-left replies told flights source owed free = grind (arith, owed.left_is, busy_by flights source, free)

-- and the other way round
pub none_flying : (replies : List (List DueBeat)) (told : List DBeat) (flights : Flights) (source : ℕ) → AreDues (flying flights) → IsOwed replies told flights source → left_of replies told ≡ []
    → flying_of flights source ≡ None
none_flying replies told flights source dues owed none =
    none_due (flying_of flights source) (λ flight found. due_found source (flying flights) flight dues found) (sym owed.left_is ∙ none)

pub left-free : (replies : List (List DueBeat)) (told : List DBeat) (flights : Flights) (source : ℕ) → AreDues (flying flights) → IsOwed replies told flights source → left_of replies told ≡ []
    → is_busy AcceptanceOrder flights source ≡ false
left-free replies told flights source dues owed none = busy_by flights source ∙ ap is_some (none_flying replies told flights source dues owed none)

-- ---- a beat on channel D

-- the one due breaks none
next_right : (beat : DBeat) (rest : List DBeat) → wrong_beat (beat ∷ rest) beat ≡ None
next_right beat rest = grind (arith, nat_tests, booleans_Decides)

-- and one that breaks none is the one due
pub right_next : (beats : List DBeat) (beat : DBeat) → wrong_beat beats beat ≡ None → (rest : List DBeat) × (beats ≡ beat ∷ rest)
right_next [] beat none = absurd (cc (none))
right_next (due ∷ rest) beat none = let same : due ≡ beat = grind (arith, nat_tests, booleans_Decides, none) in (rest, rw same refl)

same_beat : (due beat : DBeat) → wrong_beat (due ∷ []) beat ≡ None → beat ≡ due
same_beat due beat none = let next = right_next (due ∷ []) beat none in cc (next.1)

-- of these beats one is the next
record HasNext (footprint : Footprint) (beats : List DBeat) (beat : DBeat) : Type 0 where
  due : DueBeat
  rest : List DBeat
  beats_are : beats ≡ due.beat ∷ rest
  dues_are : dues_of footprint beats ≡ due ∷ dues_of footprint rest
  same : as_known due beat ≡ due.beat

-- so a beat that isn't wrong shows the next of the reply that may come
next_shown : (footprint : Footprint) (beats : List DBeat) (beat : DBeat) → wrong_in_turn (dues_of footprint beats) beat ≡ None → HasNext footprint beats beat
next_shown footprint [] beat none = absurd (cc (none))
next_shown footprint (due ∷ rest) beat none = record { due = _; rest = rest; beats_are = refl; dues_are = refl; same = same_beat due _ none }

-- which is of its source
known_source : (due : DueBeat) (beat : DBeat) → as_known due beat ≡ due.beat → due.beat.source ≡ beat.source
known_source due beat same = sym (ap (λ (b : DBeat). b.source) same) ∙ by_test (agrees_where_known due beat)
  where
    by_test : (b : Bool) → (if b then record beat { payload = due.beat.payload } else beat).source ≡ beat.source
    by_test true = refl
    by_test false = refl

-- a beat on channel D that isn't wrong: the next of the reply to a request in flight, and what it leaves
pub record Comes (flights : Flights) (beat : DBeat) : Type 0 where
  pub flight : InFlight
  pub due : DueBeat
  pub rest : List DBeat
  pub own : flight.source ≡ beat.source
  pub beats : flight.beats ≡ due.beat ∷ rest
  pub dues : dues_of flight.footprint flight.beats ≡ due ∷ dues_of flight.footprint rest
  pub same : as_known due beat ≡ due.beat
  pub found : flying_of flights beat.source ≡ Some flight
  pub flying_is : flying (flights_after flights beat.source) ≡ without_beat (flying flights) beat.source flight rest
  pub begun_is : (flights_after flights beat.source).begun ≡ with_left flight rest
  pub alone : (source : ℕ) → begun_is_of source flights.begun ≡ true → source ≡ beat.source

-- whether one with these beats left is one of a source that has begun
begun_left : (flight : InFlight) (beats : List DBeat) (source : ℕ) → begun_is_of source (with_left flight beats) ≡ (nat_lt 0 (length beats) && flight.source == source)
begun_left flight beats source = grind (arith, nat_tests)

left_begun : (flight : InFlight) (beat : DBeat) (due : DBeat) (rest : List DBeat) → flight.source ≡ beat.source → flight.beats ≡ due ∷ rest → begun_after (Some flight) beat.source ≡ with_left flight rest
left_begun flight beat due rest own beats = rw (eq-eqb flight.source beat.source own, beats) refl

-- the request in flight whose reply has the next beat, of which it is not wrong
comes : (due : List InFlight) (begun : Option InFlight) (beat : DBeat) (flight : InFlight) → next_reply (record { due = due; begun = begun }) beat.source ≡ Some flight
    → flight.source ≡ beat.source → flying_of (record { due = due; begun = begun }) beat.source ≡ Some flight
    → due_after begun due beat.source ≡ without_first (is_of_source beat.source) (option_to_list begun ++ due) → ((source : ℕ) → begun_is_of source begun ≡ true → source ≡ beat.source)
    → wrong_reply AcceptanceOrder None (Some flight) beat ≡ None → Comes (record { due = due; begun = begun }) beat
comes due begun beat flight next own found others alone none =
    let has = next_shown flight.footprint flight.beats beat none in
    let left = ap (λ (next : Option InFlight). begun_after next beat.source) next ∙ left_begun flight beat has.due.beat has.rest own has.beats_are in
    record { flight = flight; due = has.due; rest = has.rest; own = own; beats = has.beats_are; dues = has.dues_are; same = has.same; found = found; flying_is = rw (left, others) refl; begun_is = left; alone = alone }

pub right_comes : (flights : Flights) (beat : DBeat) → AreDues (flying flights) → wrong_reply AcceptanceOrder None (next_reply flights beat.source) beat ≡ None → Comes flights beat
right_comes flights beat dues none = by_begun flights.due flights.begun dues none
  where
    by_found : (due : List InFlight) (next : Option InFlight) → find (is_of_source beat.source) due ≡ next → wrong_reply AcceptanceOrder None next beat ≡ None → Comes (record { due = due; begun = None }) beat
    by_found due None found right = absurd (cc (right))
    by_found due (Some flight) found right =
        comes due None beat flight found (eqb-true flight.source beat.source (find-passes (is_of_source beat.source) due flight found)) found refl (λ source is. absurd (cc (is))) right

    by_begun : (due : List InFlight) (begun : Option InFlight) → AreDues (option_to_list begun ++ due)
        → wrong_reply AcceptanceOrder None (next_reply (record { due = due; begun = begun }) beat.source) beat ≡ None → Comes (record { due = due; begun = begun }) beat
    by_begun due None are right = by_found due (find (is_of_source beat.source) due) refl right
    by_begun due (Some flight) are right =
        let has = next_shown flight.footprint flight.beats beat right in
        let own : flight.source ≡ beat.source = sym (subst (AreOf flight.source) has.beats_are are.0.own).0 ∙ known_source has.due beat has.same in
        let passes = eq-eqb flight.source beat.source own in
        comes due (Some flight) beat flight refl own (rw passes refl) (rw passes refl) (λ source is. sym (eqb-true flight.source source is) ∙ own) right

-- no reply is over with it
pub none_over : (flights : Flights) (source : ℕ) → begun_is_other source flights.begun ≡ false → cut_short flights source ≡ flights
none_over flights source none = rw none refl

pub uncut : (flights : Flights) (beat : DBeat) → Comes flights beat → cut_short flights beat.source ≡ flights
uncut flights beat come = none_over flights beat.source (by_begun flights.begun refl)
  where
    by_begun : (begun : Option InFlight) → flights.begun ≡ begun → begun_is_other beat.source begun ≡ false
    by_begun None is = refl
    by_begun (Some flight) is =
        let own = come.alone flight.source (ap (begun_is_of flight.source) is ∙ eqb_same flight.source) in
        ap not (eq-eqb flight.source beat.source own)

pub dues_after : (flights : Flights) (beat : DBeat) → AreDues (flying flights) → Comes flights beat → AreDues (flying (flights_after flights beat.source))
dues_after flights beat dues come =
    let are = (due_found beat.source (flying flights) come.flight dues come.found).own in
    rw (come.flying_is, ← come.own) (dues_without_beat (flying flights) come.flight come.rest dues (subst (AreOf come.flight.source) come.beats are).1)

-- what was left of its source
pub left_before : {replies : List (List DueBeat)} {told : List DBeat} (flights : Flights) (beat : DBeat) (come : Comes flights beat) → IsOwed replies told flights beat.source
    → left_of replies told ≡ come.due ∷ dues_of come.flight.footprint come.rest
left_before flights beat come owed = owed.left_is ∙ ap beats_in come.found ∙ come.dues

-- is left without it
pub owed_after : {replies : List (List DueBeat)} {told : List DBeat} (flights : Flights) (beat : DBeat) → AreDues (flying flights) → Comes flights beat → IsOwed replies told flights beat.source
    → IsOwed replies (told ++ beat ∷ []) (flights_after flights beat.source) beat.source
owed_after {replies = replies} {told = told} flights beat dues come owed =
    let left = left_before flights beat come owed in
    let on = told-beat replies told come.due beat (dues_of come.flight.footprint come.rest) owed.is_told left come.same in
    let rest_left : beats_in (flying_of (flights_after flights beat.source) beat.source) ≡ dues_of come.flight.footprint come.rest = rw (come.flying_is, ← come.own) (left_without_beat (flying flights) come.flight come.rest dues) in
    let begun = ap (begun_is_of beat.source) come.begun_is ∙ begun_left come.flight come.rest beat.source in
    record {
      is_told = on.is_told;
      left_is = on.left_is ∙ sym rest_left;
      has_begun = λ partly. grind (arith, nat_tests, begun, come.own, partly.some_left, ap length on.left_is);
      partly = λ is. record {
        some_left = grind (arith, nat_tests, begun, is, ap length on.left_is);
        some_told = omega (arith, ap length on.left_is, owed.is_told.but_last, ap length left);
      };
    }

-- of the others what was left
pub owed_beside : {replies : List (List DueBeat)} {told : List DBeat} (flights : Flights) (beat : DBeat) (source : ℕ) → Comes flights beat → source ≢ beat.source
    → IsOwed replies told flights source → IsOwed replies told (flights_after flights beat.source) source
owed_beside flights beat source come other owed =
    let same : flying_of (flights_after flights beat.source) source ≡ flying_of flights source =
    rw (come.flying_is, ← come.own) (other_without_beat (flying flights) come.flight come.rest source (λ is. other (is ∙ come.own))) in
    let begun = ap (begun_is_of source) come.begun_is ∙ begun_left come.flight come.rest source in
    record {
      is_told = owed.is_told;
      left_is = owed.left_is ∙ ap beats_in (sym same);
      has_begun = λ partly. absurd (other (come.alone source (owed.has_begun partly)));
      partly = λ is. grind (arith, nat_tests, begun, is, come.own, other);
    }

-- a beat isn't wrong that is the next left of its source, where no reply of another source has begun
pub left_comes : (flights : Flights) (due : DueBeat) (beat : DBeat) (rest : List DueBeat) → beats_in (flying_of flights beat.source) ≡ due ∷ rest → as_known due beat ≡ due.beat
    → ((source : ℕ) → begun_is_of source flights.begun ≡ true → source ≡ beat.source) → wrong_reply AcceptanceOrder None (next_reply flights beat.source) beat ≡ None
left_comes flights due beat rest left same alone = by_begun flights.due flights.begun left alone
  where
    of_found : (next : Option InFlight) → beats_in next ≡ due ∷ rest → wrong_reply AcceptanceOrder None next beat ≡ None
    of_found None is = absurd (cc (is))
    of_found (Some flight) is = rw (is, same) (next_right due.beat [])

    by_begun : (dues : List InFlight) (begun : Option InFlight) → beats_in (flying_of (record { due = dues; begun = begun }) beat.source) ≡ due ∷ rest
        → ((source : ℕ) → begun_is_of source begun ≡ true → source ≡ beat.source) → wrong_reply AcceptanceOrder None (next_reply (record { due = dues; begun = begun }) beat.source) beat ≡ None
    by_begun dues None is only = of_found (find (is_of_source beat.source) dues) is
    by_begun dues (Some flight) is only = of_found (Some flight) (sym (rw (eq-eqb flight.source beat.source (only flight.source (eqb_same flight.source))) refl) ∙ is)

-- ---- a request that is in flight from now on

flying_with : (flights : Flights) (flight : InFlight) → flying (with_flight flight flights) ≡ flying flights ++ flight ∷ []
flying_with flights flight = sym (append_assoc (option_to_list flights.begun) flights.due (flight ∷ []))

pub flying_more : (flights : Flights) (flight : InFlight) → AreDues (flying flights) → IsDue flight → flying_of flights flight.source ≡ None → AreDues (flying (with_flight flight flights))
flying_more flights flight dues due none = subst AreDues (sym (flying_with flights flight)) (dues_with (flying flights) flight dues due none)

-- of its own source, of which none was, it is found
pub flying_own : (flights : Flights) (flight : InFlight) → flying_of flights flight.source ≡ None → flying_of (with_flight flight flights) flight.source ≡ Some flight
flying_own flights flight none =
    ap (find (is_of_source flight.source)) (flying_with flights flight) ∙ find-append (is_of_source flight.source) (flying flights) (flight ∷ []) ∙ rw (none, eqb_same flight.source) refl

-- and of another what was
pub flying_other : (flights : Flights) (flight : InFlight) (other : ℕ) → other ≢ flight.source → flying_of (with_flight flight flights) other ≡ flying_of flights other
flying_other flights flight other differs = ap (find (is_of_source other)) (flying_with flights flight) ∙ find-append-fails (is_of_source other) (flying flights) flight (ne_eqb flight.source other (λ same. differs (sym same)))

-- of a source of which nothing was left
pub owed_own : (flights : Flights) (flight : InFlight) (replies : List (List DueBeat)) (told : List DBeat) → flying_of flights flight.source ≡ None → IsOwed replies told flights flight.source
    → IsOwed (replies ++ dues_of flight.footprint flight.beats ∷ []) told (with_flight flight flights) flight.source
owed_own flights flight replies told none owed =
    let left = owed.left_is ∙ ap beats_in none in
    let on = told-reply replies told (dues_of flight.footprint flight.beats) owed.is_told left in
    record {
      is_told = on.is_told;
      left_is = on.left_is ∙ sym (ap beats_in (flying_own flights flight none));
      has_begun = λ partly. absurd (omega (arith, partly.some_told, ap length on.left_is, ap length (last_of-append replies (dues_of flight.footprint flight.beats))));
      partly = λ is. absurd (omega (arith, (owed.partly is).some_left, ap length left));
    }

pub owed_other : (flights : Flights) (flight : InFlight) (other : ℕ) (replies : List (List DueBeat)) (told : List DBeat) → other ≢ flight.source → IsOwed replies told flights other
    → IsOwed replies told (with_flight flight flights) other
owed_other flights flight other replies told differs owed = grind (arith, differs, owed, find-append-fails (is_of_source other) (flying flights) flight)

-- in order of acceptance it plays no part what was told before
pub as_untold : (told : Option Bool) (next : Option InFlight) (beat : DBeat) → wrong_reply AcceptanceOrder None next beat ≡ wrong_reply AcceptanceOrder told next beat
as_untold told next beat = grind arith
