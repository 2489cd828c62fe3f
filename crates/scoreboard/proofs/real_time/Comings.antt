-- Which messages have begun, and with which footprints, as clients change.
use Rattle.std.proofs.Common.{◌≡◌, ℕ, zero, suc, List, [], ◌∷◌, ◌++◌, map, set, Option, Some, None, refl, sym, ap}
use Rattle.std.specs.Prelude.{is_some, slice_get}
use Rattle.std.proofs.lemmas.Option.{slice_get_within}
use Rattle.bus_words.proofs.StoredPlaces.{get_set, get_set-other}
use Rattle.tl_messages.specs.Requests.{HeldMessage}
use Rattle.tl_messages.specs.declared.DBeat.{DBeat}
use Rattle.scoreboard.specs.Boards.{ClientBoard, client_beside, client_footprints, footprints_of}
use Rattle.scoreboard.specs.Flights.{Footprint}
use Rattle.scoreboard.proofs.real_time.Ahead.{comes, front_in}

-- the beat that may come early to a client
abbrev pub early_in : Option ClientBoard → Option DBeat
early_in None = None
early_in (Some client) = client.early

abbrev pub early_at : List ClientBoard → ℕ → Option DBeat
early_at clients number = early_in (slice_get clients number)

-- ---- beside one that joins

pub comes_beside : (footprint : Footprint) (clients : List ClientBoard) (number : ℕ) → comes (map (client_beside footprint) clients) number ≡ comes clients number
comes_beside footprint [] number = refl
comes_beside footprint (client ∷ clients) zero = refl
comes_beside footprint (client ∷ clients) (suc number) = comes_beside footprint clients number

pub early_beside : (footprint : Footprint) (clients : List ClientBoard) (number : ℕ) → early_at (map (client_beside footprint) clients) number ≡ early_at clients number
early_beside footprint [] number = refl
early_beside footprint (client ∷ clients) zero = refl
early_beside footprint (client ∷ clients) (suc number) = early_beside footprint clients number

-- ---- one client changes

pub early_same : (clients : List ClientBoard) (number : ℕ) (client changed : ClientBoard) → slice_get clients number ≡ Some client
    → early_at (set clients number changed) number ≡ changed.early
early_same clients number client changed there = ap early_in (get_set clients number changed (slice_get_within clients number client there))

pub early_other : (clients : List ClientBoard) (number other : ℕ) (changed : ClientBoard) → (other ≡ number → ⊥)
    → early_at (set clients number changed) other ≡ early_at clients other
early_other clients number other changed differ = ap early_in (get_set-other clients number other changed differ)

pub comes_same : (clients : List ClientBoard) (number : ℕ) (client changed : ClientBoard) → slice_get clients number ≡ Some client
    → comes (set clients number changed) number ≡ is_some changed.front
comes_same clients number client changed there =
    ap (λ (o : Option ClientBoard). is_some (front_in o)) (get_set clients number changed (slice_get_within clients number client there))

pub comes_other : (clients : List ClientBoard) (number other : ℕ) (changed : ClientBoard) → (other ≡ number → ⊥)
    → comes (set clients number changed) other ≡ comes clients other
comes_other clients number other changed differ = ap (λ (o : Option ClientBoard). is_some (front_in o)) (get_set-other clients number other changed differ)

-- its footprints are the same where its front alone changes
pub footprints_front : (clients : List ClientBoard) (number : ℕ) (client : ClientBoard) (front : Option HeldMessage) → slice_get clients number ≡ Some client
    → footprints_of (set clients number (record client { front = front })) ≡ footprints_of clients
footprints_front [] number client front there = refl
footprints_front (first ∷ clients) zero client front there =
    let same : first ≡ client = cc (there) in ap (λ (c : ClientBoard). client_footprints c ++ footprints_of clients) (sym same)
footprints_front (first ∷ clients) (suc number) client front there =
    ap (λ rest. client_footprints first ++ rest) (footprints_front clients number client front there)
