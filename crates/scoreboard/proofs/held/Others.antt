-- A request beside others: beside the first of them and then the rest.
use Rattle.std.proofs.Common.{◌≡◌, ℕ, ◌+◌, ◌<◌, Bool, ◌&&◌, ◌||◌, List, [], ◌∷◌, ◌++◌, Option, None, Some, get_or, length, map, refl, take, sym, ◌∙◌, ap, arith}
use Rattle.std.specs.Option.{option_map, option_to_list}
use Rattle.std.proofs.Math.Bool.{and-true, or-false}
use Rattle.std.proofs.Math.Path.{fun_ext}
use Rattle.std.proofs.lemmas.List.{append-nil, map_more}
use Rattle.std.proofs.lemmas.List.Folds.{list_any-append}
use Rattle.scoreboard.specs.InsideBoards.{FlightState, FlightsState, flight_of, flights_of}
use Rattle.scoreboard.specs.Flights.{Footprint, InFlight, in_flight}
use Rattle.tl_messages.specs.declared.DBeat.{DBeat}
use Rattle.scoreboard.specs.Replies.{due_flight, due_flights, due_footprint}
use Rattle.scoreboard.specs.declared.flights.Due.{Due}
use Rattle.scoreboard.specs.Races.{beside, beside_all, beside_dependent, covers, depends_on, may_write}

-- ---- what is determined of it

pub beside_all-none : (r : Footprint) → beside_all r [] ≡ r
beside_all-none r = ap (λ (f : ℕ → Bool). record r { determined = f }) (fun_ext (λ x. and-true (r.determined x)))

pub beside_all-append : (r : Footprint) (xs ys : List Footprint) → beside_all (beside_all r xs) ys ≡ beside_all r (xs ++ ys)
beside_all-append r xs ys =
    ap (λ (f : ℕ → Bool). record r { determined = f }) (fun_ext (λ x. rw (list_any-append (λ other. may_write other x) xs ys) (grind arith)))

-- one more
pub beside_all-last : (r : Footprint) (xs : List Footprint) (other : Footprint) → beside (beside_all r xs) other ≡ beside_all r (xs ++ other ∷ [])
beside_all-last r xs other =
    ap (λ (f : ℕ → Bool). record r { determined = f }) (fun_ext (λ x. rw (list_any-append (λ footprint. may_write footprint x) xs (other ∷ [])) (grind arith)))

-- ---- what is indeterminate of them

pub beside_dependent-none : (m : ℕ → Bool) (other : Footprint) → beside_dependent m other [] ≡ m
beside_dependent-none m other = fun_ext (λ x. or-false (m x))

pub beside_dependent-append : (m : ℕ → Bool) (other : Footprint) (xs ys : List Footprint)
    → beside_dependent (beside_dependent m other xs) other ys ≡ beside_dependent m other (xs ++ ys)
beside_dependent-append m other xs ys =
    fun_ext (λ x. rw (list_any-append (λ footprint. depends_on footprint other && covers footprint x) xs ys) (grind arith))

-- one more
pub beside_dependent-last : (m now new : ℕ → Bool) (other : Footprint) (xs : List Footprint) (footprint : Footprint) → now ≡ beside_dependent m other xs
    → ((x : ℕ) → new x ≡ (now x || depends_on footprint other && covers footprint x)) → new ≡ beside_dependent m other (xs ++ footprint ∷ [])
beside_dependent-last m now new other xs footprint before step =
    fun_ext (λ x. step x ∙ rw (before, list_any-append (λ one. depends_on one other && covers one x) xs (footprint ∷ [])) (grind arith))

-- ---- those of requests that are held

abbrev pub footprints_in : List FlightState → List Footprint
footprints_in flights = map (λ flight. flight.footprint) (map flight_of flights)

-- those of requests that are due, with one more of those before a place
pub dues_next : (dues : List Due) (i : ℕ) (due : Due) → i < length dues → due ≡ get_or dues i due → map due_footprint (take (i + 1) dues) ≡ map due_footprint (take i dues) ++ due_footprint due ∷ []
dues_next dues i due below is =
    map_more due_footprint dues i due below ∙ ap (λ (one : Due). map due_footprint (take i dues) ++ due_footprint one ∷ []) (sym is)

-- a client's: those that are due, and then the one that has begun
pub footprints_held : (state : FlightsState) (replies : ℕ → List DBeat) (dues : List Due) → map (due_flight replies) dues ≡ state.due
    → map (λ flight. flight.footprint) (in_flight (flights_of state)) ≡ map due_footprint dues ++ footprints_in (option_to_list state.begun)
footprints_held state replies dues is =
    sym (ap (λ (due : List FlightState). map (λ (flight : InFlight). flight.footprint) (map flight_of due ++ option_to_list (option_map flight_of state.begun))) is) ∙ by_due dues state.begun
  where
    by_due : (dues : List Due) (begun : Option FlightState)
        → map (λ (flight : InFlight). flight.footprint) (due_flights replies dues ++ option_to_list (option_map flight_of begun)) ≡ map due_footprint dues ++ footprints_in (option_to_list begun)
    by_due [] None = refl
    by_due [] (Some flight) = refl
    by_due (first ∷ dues) begun = ap (λ rest. due_footprint first ∷ rest) (by_due dues begun)

-- where none has begun
pub footprints_due : (state : FlightsState) (replies : ℕ → List DBeat) (dues : List Due) → map (due_flight replies) dues ≡ state.due → state.begun ≡ None
    → map (λ flight. flight.footprint) (in_flight (flights_of state)) ≡ map due_footprint dues
footprints_due state replies dues is none =
    footprints_held state replies dues is
    ∙ ap (λ (begun : Option FlightState). map due_footprint dues ++ footprints_in (option_to_list begun)) none
    ∙ append-nil (map due_footprint dues)
