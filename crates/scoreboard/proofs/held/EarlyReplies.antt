-- A beat that is no next one of a reply in flight.
use Rattle.std.proofs.Common.{◌≡◌, ℕ, ◌-◌, ◌==◌, Bool, false, true, [], ◌∷◌, Option, Some, None, if◌then◌else◌, refl, sym, ◌∙◌, ap, ap₂}
use Rattle.std.specs.Prelude.{is_some, option_map}
use Rattle.std.specs.Option.{option_or}
use Rattle.std.proofs.lemmas.Bool.{eq-eqb}
use Rattle.tl_messages.specs.Operations.{beats_of}
use Rattle.tl_messages.specs.declared.DBeat.{DBeat}
use Rattle.scoreboard.specs.Boards.{ClientBoard, early_after, early_flight, early_left, next_to, wrong_reply}
use Rattle.scoreboard.specs.Flights.{Flights, Footprint, InFlight, flights_after, next_reply}
use Rattle.scoreboard.specs.Telling.{due_telling, flight_telling, left_telling}
use Rattle.scoreboard.specs.declared.Policy.{Policy}
use Rattle.scoreboard.specs.declared.Policy.TheVariants.{AcceptanceOrder, RealTime}
use Rattle.scoreboard.proofs.held.Sources.{none_after}

pub nothing : {X : Type 0} (o : Option X) → is_some o ≡ false → o ≡ None
nothing None none = refl
nothing (Some x) none = absurd (cc (none))

-- of its client only what may come early changes, and what its reply told
pub nothing_after : (client : ClientBoard) (source : ℕ) (told : Bool) → is_some (next_reply client.flights source) ≡ false
    → record client { early = early_left client.early source; told = told }
    ≡ record client { flights = flights_after client.flights source; early = early_after client source; told = told }
nothing_after client source told none =
    let stay = none_after client.flights.due client.flights.begun source (nothing (next_reply client.flights source) none) in
    let left = ap (λ (b : Bool). if b then client.early else early_left client.early source) none in
    ap₂ {C = ClientBoard} (λ (flights : Flights) (early : Option DBeat). record client { flights = flights; early = early; told = told }) (sym stay) (sym left)

unmapped : {X Y : Type 0} (f : X → Y) (o : Option X) → option_map f o ≡ None → o ≡ None
unmapped f None none = refl
unmapped f (Some x) none = absurd (cc (none))

-- one that may come early, where it is of the source
abbrev early_if : ℕ → DBeat → Footprint → Bool → Option InFlight
early_if source due footprint b = if b then Some (record { source = source; beats = due ∷ []; footprint = footprint }) else None

same_early : (now old : ClientBoard) (early : Option DBeat) (source : ℕ) → now.coming ≡ old.coming → early_flight now early source ≡ early_flight old early source
same_early now old None source same = refl
same_early now old (Some due) source same = ap (λ (footprint : Footprint). early_if source due footprint (due.source == source)) same

-- what is wrong with it doesn't depend on what its client's last reply told
pub early_wrong : (policy : Policy) (told : Option Bool) (client : ClientBoard) (flights : Flights) (source : ℕ) (now : Bool) (beat : DBeat) → flights ≡ client.flights
    → wrong_reply policy told (next_to policy (record client { flights = flights; told = now }) source) beat ≡ wrong_reply policy told (next_to policy client source) beat
early_wrong AcceptanceOrder told client flights source now beat same = ap (λ (f : Flights). wrong_reply AcceptanceOrder told (next_reply f source) beat) same
early_wrong RealTime told client flights source now beat same =
    ap₂ (λ (f : Flights) (early : Option InFlight). wrong_reply RealTime told (option_or (next_reply f source) early) beat) same
    (same_early (record client { flights = flights; told = now }) client client.early source refl)

-- what it tells is what the beat does that may come early
pub early_telling : (policy : Policy) (client : ClientBoard) (due : DBeat) (source : ℕ) → policy ≡ RealTime
    → option_map (λ (flight : InFlight). left_telling policy flight.footprint flight.beats) (next_reply client.flights source) ≡ None
    → client.early ≡ Some due → due.source ≡ source
    → due_telling policy client.coming (beats_of client.coming.size true - 1) due ≡ flight_telling policy (next_to policy client source)
early_telling AcceptanceOrder client due source real none early same = absurd (cc (real))
early_telling RealTime client due source real none early same =
    sym
    (ap₂ (λ (o : Option InFlight) (e : Option DBeat). flight_telling RealTime (option_or o (early_flight client e source)))
    (unmapped (λ (flight : InFlight). left_telling RealTime flight.footprint flight.beats) (next_reply client.flights source) none) early
    ∙ ap (λ (b : Bool). flight_telling RealTime (early_if source due client.coming b)) (eq-eqb due.source source same))
