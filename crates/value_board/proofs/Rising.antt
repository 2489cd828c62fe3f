-- Numbers of requests in flight, which rise, and the oldest of them.
use Rattle.std.proofs.Common.{◌≡◌, ℕ, ◌+◌, ◌<◌, ◌≤◌, ◌==◌, ◌++◌, Bool, true, false, List, [], ◌∷◌, Option, Some, None, arith, get_or, length, map, refl, subst, sym}
use Rattle.std.specs.Prelude.{if◌then◌else◌, slice_set}
use Rattle.bus_words.proofs.PlaceChanges.{all-at, all-set}
use Rattle.scoreboard.specs.FailedBursts.{Span}
use Rattle.value_memory.specs.declared.ByteRange.{ByteRange}
use Rattle.value_board.specs.AllValues.{AreAllLive}
use Rattle.value_board.specs.ClientValues.{AreLive, ClientNumbers, reset_numbers, without_number}
use Rattle.value_board.specs.Values.{count_started, lesser, oldest_from, started, struck_by}
use Rattle.value_board.specs.declared.client_values.Begun.{Begun}

-- from a lower number on they rise as well
live_lower : (lower low high : ℕ) (live : List Begun) → lower ≤ low → AreLive low high live → AreLive lower high live
live_lower lower low high [] less are = tt
live_lower lower low high (begun ∷ rest) less are = (omega (arith, less, are.0), are.1, are.2)

-- and without one of them
pub live_less : (number low high : ℕ) (live : List Begun) → AreLive low high live → AreLive low high (without_number number live)
live_less number low high [] are = tt
live_less number low high (begun ∷ rest) are = by_test (begun.number == number) (live_less number begun.number high rest are.2)
  where
    by_test : (b : Bool) → AreLive begun.number high (without_number number rest) → AreLive low high (if b then rest else begun ∷ without_number number rest)
    by_test true less = live_lower low begun.number high rest are.0 are.2
    by_test false less = (are.0, are.1, less)

-- and from one on that isn't above the first
live_raised : (number oldest low high : ℕ) (live : List Begun) → oldest ≤ lesser number live → AreLive low high live → AreLive oldest high live
live_raised number oldest low high [] least are = tt
live_raised number oldest low high (begun ∷ rest) least are = (omega (arith, least), are.1, are.2)

lesser_most : (number : ℕ) (live : List Begun) → lesser number live ≤ number
lesser_most number [] = omega arith
lesser_most number (begun ∷ rest) = omega arith

lesser_least : (number low high : ℕ) (live : List Begun) → low ≤ number → AreLive low high live → low ≤ lesser number live
lesser_least number low high [] least are = least
lesser_least number low high (begun ∷ rest) least are = omega (arith, least, are.0)

-- the oldest isn't above the number that it is sought from, nor below what none is below
pub oldest_most : (number : ℕ) (clients : List ClientNumbers) → oldest_from number clients ≤ number
oldest_most number [] = omega arith
oldest_most number (numbers ∷ rest) = omega (arith, oldest_most (lesser number numbers.live) rest, lesser_most number numbers.live)

pub oldest_least : (number low high : ℕ) (clients : List ClientNumbers) → low ≤ number → AreAllLive low high clients → low ≤ oldest_from number clients
oldest_least number low high [] least are = least
oldest_least number low high (numbers ∷ rest) least are =
    oldest_least (lesser number numbers.live) low high rest (lesser_least number low high numbers.live least are.0) are.1

-- and none is below it
pub oldest_live : (number low high : ℕ) (clients : List ClientNumbers) → AreAllLive low high clients → AreAllLive (oldest_from number clients) high clients
oldest_live number low high [] are = tt
oldest_live number low high (numbers ∷ rest) are = (
  live_raised number (oldest_from (lesser number numbers.live) rest) low high numbers.live (oldest_most (lesser number numbers.live) rest) are.0,
  oldest_live (lesser number numbers.live) low high rest are.1,
)

-- a client's request is in flight no more
pub ended_live : (number client low high : ℕ) (clients : List ClientNumbers) (found after : ClientNumbers) → AreAllLive low high clients → client < length clients
    → found ≡ get_or clients client found → after ≡ record found { live = without_number number found.live } → AreAllLive low high (slice_set clients client after)
ended_live number client low high clients found after are within is ends =
    let rises : ClientNumbers → Type 0 = λ numbers. AreLive low high numbers.live in
    let there : AreLive low high found.live = subst rises (sym is) (all-at rises clients client found are within) in
    all-set rises clients client after are (subst rises (sym ends) (live_less number low high found.live there))

-- nothing is in flight
pub reset_live : (low high : ℕ) (clients : List ClientNumbers) → AreAllLive low high (map reset_numbers clients)
reset_live low high [] = tt
reset_live low high (numbers ∷ rest) = (tt, reset_live low high rest)

-- an error response is kept with some messages
pub struck_live : (span : Span) (low high : ℕ) (clients : List ClientNumbers) → AreAllLive low high clients → AreAllLive low high (map (struck_by span) clients)
struck_live span low high [] are = tt
struck_live span low high (numbers ∷ rest) are = (are.0, struck_live span low high rest are.1)

-- ---- a request begins

-- one more, which is the next
live_more : (low high : ℕ) (live : List Begun) (begun : Begun) → begun.number ≡ high + 1 → low ≤ high + 1 → AreLive low high live → AreLive low (high + 1) (live ++ begun ∷ [])
live_more low high [] begun is least are = (omega (arith, is, least), omega (arith, is), tt)
live_more low high (first ∷ rest) begun is least are =
    (are.0, omega (arith, are.1), live_more first.number high rest begun is (omega (arith, are.1)) are.2)

live_wider : (low high higher : ℕ) (live : List Begun) → high ≤ higher → AreLive low high live → AreLive low higher live
live_wider low high higher [] less are = tt
live_wider low high higher (begun ∷ rest) less are = (are.0, omega (arith, less, are.1), live_wider begun.number high higher rest less are.2)

all_wider : (low high higher : ℕ) (clients : List ClientNumbers) → high ≤ higher → AreAllLive low high clients → AreAllLive low higher clients
all_wider low high higher [] less are = tt
all_wider low high higher (numbers ∷ rest) less are = (live_wider low high higher numbers.live less are.0, all_wider low high higher rest less are.1)

count_more : (coming : Option Begun) (high : ℕ) → high ≤ count_started coming high
count_more None high = omega arith
count_more (Some begun) high = omega arith

started_live : (low high : ℕ) (reach : Option ByteRange) (coming : Option Begun) (numbers : ClientNumbers) → low ≤ high + 1 → AreLive low high numbers.live
    → AreLive low (count_started coming high) (started coming (record { number = high + 1; gives = reach }) numbers).live
started_live low high reach None numbers least are = live_more low high numbers.live (record { number = high + 1; gives = reach }) refl least are
started_live low high reach (Some begun) numbers least are = are

pub all_started : (client low high : ℕ) (reach : Option ByteRange) (clients : List ClientNumbers) (found after : ClientNumbers) → AreAllLive low high clients
    → client < length clients → found ≡ get_or clients client found → low ≤ high + 1
    → after ≡ started found.coming (record { number = high + 1; gives = reach }) found
    → AreAllLive low (count_started found.coming high) (slice_set clients client after)
all_started client low high reach clients found after are within is least begins =
    let rises : ClientNumbers → Type 0 = λ numbers. AreLive low high numbers.live in
    let risen : ClientNumbers → Type 0 = λ numbers. AreLive low (count_started found.coming high) numbers.live in
    let there : AreLive low high found.live = subst rises (sym is) (all-at rises clients client found are within) in
    all-set risen clients client after (all_wider low high (count_started found.coming high) clients (count_more found.coming high) are)
    (subst risen (sym begins) (started_live low high reach found.coming found least there))
