-- A list of requests in flight of which no two are of one source: one of them taken out, and one more.
use Rattle.std.proofs.Common.{◌≡◌, ℕ, ◌==◌, Bool, false, List, [], ◌∷◌, ◌++◌, Option, Some, None, refl, sym, ◌∙◌, ap, arith}
use Rattle.std.specs.Prelude.{◌≢◌, ⊤, is_some}
use Rattle.std.specs.List.{AllByRecursion, find, list_any}
use Rattle.std.specs.Option.{option_to_list}
use Rattle.std.proofs.lemmas.Bool.{eq-eqb, eqb-true, ne_eqb}
use Rattle.bus_words.specs.Places.{without_first}
use Rattle.bus_words.proofs.FoundChanges.{find-append-fails}
use Rattle.bus_words.proofs.PlaceChanges.{find-without_first-none}
use Rattle.tl_messages.specs.declared.DBeat.{DBeat}
use Rattle.scoreboard.specs.Flights.{InFlight, is_of_source, with_left}
use Rattle.scoreboard.specs.InTurn.{DueBeat, dues_of}
use Rattle.scoreboard.proofs.MappedLists.{find_other}

-- beats that are all of a source
abbrev pub AreOf : ℕ → List DBeat → Type 0
AreOf source beats = AllByRecursion (λ (beat : DBeat). beat.source ≡ source) beats

-- some beats are left of a request's reply, and all are of its source
pub record IsDue (flight : InFlight) : Type 0 where
  pub some : flight.beats ≢ []
  pub own : AreOf flight.source flight.beats

abbrev pub AreDues : List InFlight → Type 0
AreDues [] = ⊤
AreDues (flight ∷ flights) = IsDue flight × (find (is_of_source flight.source) flights ≡ None) × AreDues flights

-- the beats that are left of one, if there is one
abbrev pub beats_in : Option InFlight → List DueBeat
beats_in None = []
beats_in (Some flight) = dues_of flight.footprint flight.beats

-- there are none only of none
pub none_due : (next : Option InFlight) → ((flight : InFlight) → next ≡ Some flight → IsDue flight) → beats_in next ≡ [] → next ≡ None
none_due None due none = refl
none_due (Some flight) due none = absurd ((due flight refl).some (no_beats flight.beats none))
  where
    no_beats : (beats : List DBeat) → dues_of flight.footprint beats ≡ [] → beats ≡ []
    no_beats [] is = refl
    no_beats (beat ∷ beats) is = absurd (cc (is))

pub any_found : {X : Type 0} (p : X → Bool) (xs : List X) → list_any p xs ≡ is_some (find p xs)
any_found p [] = refl
any_found p (x ∷ xs) = grind (arith, any_found p xs)

-- one that is found has beats left
pub due_found : (source : ℕ) (flights : List InFlight) (flight : InFlight) → AreDues flights → find (is_of_source source) flights ≡ Some flight → IsDue flight
due_found source [] flight dues found = absurd (cc (found))
due_found source (first ∷ flights) flight dues found = grind (arith, found, dues.0, due_found source flights flight dues.2)

-- ---- one taken out

-- none is left of its source
pub none_more : (source : ℕ) (flights : List InFlight) → AreDues flights → find (is_of_source source) (without_first (is_of_source source) flights) ≡ None
none_more source [] dues = refl
none_more source (flight ∷ flights) dues = grind (arith, dues.1, eqb-true flight.source source, none_more source flights dues.2)

dues_without : (p : InFlight → Bool) (flights : List InFlight) → AreDues flights → AreDues (without_first p flights)
dues_without p [] dues = tt
dues_without p (flight ∷ flights) dues =
    grind (arith, dues.0, dues.1, dues.2, find-without_first-none (is_of_source flight.source) p flights dues.1, dues_without p flights dues.2)

-- ---- a beat of one's reply

-- those without it, and it with the beats that are left
abbrev pub without_beat : List InFlight → ℕ → InFlight → List DBeat → List InFlight
without_beat flights source flight rest = option_to_list (with_left flight rest) ++ without_first (is_of_source source) flights

pub dues_without_beat : (flights : List InFlight) (flight : InFlight) (rest : List DBeat) → AreDues flights → AreOf flight.source rest → AreDues (without_beat flights flight.source flight rest)
dues_without_beat flights flight [] dues own = dues_without (is_of_source flight.source) flights dues
dues_without_beat flights flight (beat ∷ rest) dues own =
    grind (arith, dues, own, none_more flight.source flights dues, dues_without (is_of_source flight.source) flights dues)

pub left_without_beat : (flights : List InFlight) (flight : InFlight) (rest : List DBeat) → AreDues flights → beats_in (find (is_of_source flight.source) (without_beat flights flight.source flight rest)) ≡ dues_of flight.footprint rest
left_without_beat flights flight [] dues = ap beats_in (none_more flight.source flights dues)
left_without_beat flights flight (beat ∷ rest) dues = rw (eq-eqb flight.source flight.source refl) refl

pub other_without_beat : (flights : List InFlight) (flight : InFlight) (rest : List DBeat) (other : ℕ) → other ≢ flight.source
    → find (is_of_source other) (without_beat flights flight.source flight rest) ≡ find (is_of_source other) flights
other_without_beat flights flight [] other differs = find_other flight.source other flights differs
other_without_beat flights flight (beat ∷ rest) other differs = rw (ne_eqb flight.source other (λ same. differs (sym same))) (find_other flight.source other flights differs)

-- ---- one more

pub dues_with : (flights : List InFlight) (flight : InFlight) → AreDues flights → IsDue flight → find (is_of_source flight.source) flights ≡ None → AreDues (flights ++ flight ∷ [])
dues_with [] flight dues due none = (due, refl, tt)
dues_with (first ∷ flights) flight dues due none =
    let fails : (flight.source == first.source) ≡ false = grind (arith, none) in
    let later : find (is_of_source flight.source) flights ≡ None = grind (arith, none) in
    (dues.0, find-append-fails (is_of_source first.source) flights flight fails ∙ dues.1, dues_with flights flight dues.2 due later)
