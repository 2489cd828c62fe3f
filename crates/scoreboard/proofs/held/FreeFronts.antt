-- A message that has begun is of a source to which no reply is due, and stays so.
use Rattle.std.proofs.Common.{◌≡◌, ℕ, ◌≤◌, Bool, false, List, [], ◌∷◌, Option, Some, None, Result, Ok, refl, sym, ◌∙◌, ap, arith}
use Rattle.std.specs.Prelude.{◌||◌, is_some, option_map}
use Rattle.std.specs.List.{list_any}
use Rattle.std.specs.Option.{option_or}
use Rattle.std.proofs.lemmas.Bool.{or_parts}
use Rattle.bus_words.specs.Places.{without_first}
use Rattle.tl_messages.specs.Requests.{HeldMessage}
use Rattle.tl_messages.specs.Operations.{opcode_of, operation_of, param_of}
use Rattle.tl_messages.specs.declared.ABeat.{ABeat}
use Rattle.tl_messages.specs.declared.Operation.{Operation}
use Rattle.tl_checker.specs.Ports.{PortState, joined, judged, port_after}
use Rattle.tl_checker.specs.RequestRules.{TlPortLimits}
use Rattle.tl_checker.specs.declared.Progress.{Progress}
use Rattle.tl_checker.specs.declared.Progress.TheVariants.{More, Whole}
use Rattle.tl_checker.specs.declared.TlRule.{TlRule}
use Rattle.tl_checker.proofs.BeatRules.{first_none, later_none, later_parts, right_named}
use Rattle.tl_checker.proofs.Taking.{answered_parts}
use Rattle.scoreboard.specs.Flights.{Flights, Footprint, InFlight, begun_for, each_flight, is_busy, is_of_source}
use Rattle.scoreboard.specs.InsideBoards.{IsAskedBy, IsFirstBeat, IsFrontFree, flight_changed, front_corrupt}
use Rattle.scoreboard.specs.declared.Policy.{Policy}
use Rattle.scoreboard.proofs.MappedLists.{any_map}
use Rattle.scoreboard.proofs.real_time.FirstBeats.{more_beats, more_no_data_back}

-- ---- lists

none_without_first : {X : Type 0} (p q : X → Bool) (xs : List X) → list_any p xs ≡ false → list_any p (without_first q xs) ≡ false
none_without_first p q [] none = none
none_without_first p q (x ∷ xs) none = let parts = or_parts (p x) (list_any p xs) none in grind (arith, parts, none_without_first p q xs parts.1)

-- ---- a beat on channel A

not_busy : (policy : Policy) (flights : Flights) (source : ℕ) → is_busy policy flights source ≡ false → list_any (is_of_source source) flights.due ≡ false
not_busy policy flights source free = grind (arith, free)

-- the message with a beat that is taken is of a free source
pub joined_free : (policy : Policy) (limits : TlPortLimits) (front : Option HeldMessage) (beat : ABeat) (flights : Flights) (told : Progress) → IsFrontFree front flights
    → judged limits front beat (is_busy policy flights beat.source) ≡ Ok told → list_any (is_of_source (joined limits front beat).source) flights.due ≡ false
joined_free policy limits None beat flights told free is =
    not_busy policy flights beat.source (first_none limits beat (is_busy policy flights beat.source) (answered_parts _ _ told is).0).1
joined_free policy limits (Some held) beat flights told free is = free

-- a message is corrupt if a beat of it is
corrupt_joined : (limits : TlPortLimits) (front : Option HeldMessage) (beat : ABeat) → (front_corrupt front || beat.corrupt) ≡ (joined limits front beat).corrupt
corrupt_joined limits front beat = grind arith

-- its source is that of the message that had begun, or else the beat's
source_joined : (limits : TlPortLimits) (front : Option HeldMessage) (beat : ABeat) → option_or (option_map (λ (message : HeldMessage). message.source) front) (Some beat.source) ≡ Some (joined limits front beat).source
source_joined limits None beat = refl
source_joined limits (Some held) beat = refl

-- a message has begun where it has a source
pub some_source : (front : Option HeldMessage) → is_some (option_map (λ (message : HeldMessage). message.source) front) ≡ is_some front
some_source None = refl
some_source (Some held) = refl

-- a port that has taken a beat, of a message of which more are to come
pub more_right : (policy : Policy) (port taken : PortState) (beat : ABeat) (flights : Flights) (answer : Result Progress TlRule) (corrupt : Bool) (begun : Option ℕ) → port.whole ≡ None → port.limits.max_size ≤ 12
    → IsFrontFree port.front flights → begun ≡ option_map (λ (message : HeldMessage). message.source) port.front → corrupt ≡ front_corrupt port.front → answer ≡ judged port.limits port.front beat (is_busy policy flights beat.source) → taken ≡ port_after port beat answer
    → answer ≡ Ok More → (taken.whole ≡ None) × (taken.limits.max_size ≤ 12) × IsFrontFree taken.front flights
    × (option_or begun (Some beat.source) ≡ option_map (λ (message : HeldMessage). message.source) taken.front)
    × ((corrupt || beat.corrupt) ≡ front_corrupt taken.front)
more_right policy port taken beat flights answer corrupt begun none small free of told is becomes more =
    let after = becomes ∙ ap (port_after port beat) more in
    let named = ap (λ (source : Option ℕ). option_or source (Some beat.source)) of ∙ source_joined port.limits port.front beat in
    let marked = ap (λ b. b || beat.corrupt) told ∙ corrupt_joined port.limits port.front beat in
    rw after (none, small, joined_free policy port.limits port.front beat flights More free (sym is ∙ more), named, marked)

-- a first beat that is taken, of several, names a Put, and has an aligned range
pub first_taken : (limits : TlPortLimits) (front : Option HeldMessage) (beat : ABeat) (busy : Bool) → limits.max_size ≤ 12 → front ≡ None
    → judged limits front beat busy ≡ Ok More → IsFirstBeat beat
first_taken limits None beat busy small none is =
    let right = (first_none limits beat busy (answered_parts _ _ More is).0).0 in
    record {
      named = (right_named limits beat right).some;
      range = record { small = omega (arith, right.size, small); aligned = right.aligned };
      carries = (more_beats limits beat busy is).0;
      silent = more_no_data_back limits beat busy is;
    }
first_taken limits (Some held) beat busy small begun is = absurd (cc (begun))

-- the request that stands whole is the message with the beat
pub whole_joined : (port taken : PortState) (beat : ABeat) (answer : Result Progress TlRule) (request : HeldMessage) → taken ≡ port_after port beat answer
    → taken.whole ≡ Some request → answer ≡ Ok Whole → request ≡ joined port.limits port.front beat
whole_joined port taken beat answer request becomes stands whole = grind (arith, becomes, stands, whole)

-- ---- what is due gets less, or as it was

pub front_begun : (front : Option HeldMessage) (flights : Flights) (source : ℕ) → IsFrontFree front flights → IsFrontFree front (begun_for flights source)
front_begun None flights source free = tt
front_begun (Some held) flights source free = grind (arith, free, none_without_first (is_of_source held.source) (is_of_source source) flights.due free)

-- whatever has begun
pub front_counted : (front : Option HeldMessage) (flights : Flights) (begun : Option InFlight) → IsFrontFree front flights → IsFrontFree front (record flights { begun = begun })
front_counted None flights begun free = tt
front_counted (Some held) flights begun free = free

pub front_changed : (front : Option HeldMessage) (flights : Flights) (change : Footprint → Footprint) → IsFrontFree front flights
    → IsFrontFree front (each_flight (flight_changed change) flights)
front_changed None flights change free = tt
front_changed (Some held) flights change free = any_map (is_of_source held.source) (flight_changed change) flights.due ∙ free

-- an operation is the one of its opcode and param
named_again : (operation : Operation) → operation_of (opcode_of operation) (param_of operation) ≡ operation
named_again operation = grind arith

-- a request that is whole with a beat asks what the beat asks
pub asked_by : (limits : TlPortLimits) (front : Option HeldMessage) (beat : ABeat) (busy : Bool) (told : Progress) → judged limits front beat busy ≡ Ok told → IsAskedBy (joined limits front beat) beat
asked_by limits None beat busy told is = record { operation = refl; address = refl; corrupt = λ corrupt. corrupt }
asked_by limits (Some held) beat busy told is =
    let parts = answered_parts _ _ told is in
    let control = (later_parts held beat (later_none limits held beat busy parts.0)).0 in
    record { operation = sym (rw (control.opcode, control.param) (named_again held.operation)); address = sym control.address; corrupt = λ corrupt. grind (arith, corrupt) }
