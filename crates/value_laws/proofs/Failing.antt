-- Error responses: in whatever order it is told which requests have failed, and of one that gives a byte nothing it needs not be told.
use Rattle.std.proofs.Common.{◌≡◌, ℕ, ◌+◌, ◌<◌, ◌==◌, Bool, true, false, ◌&&◌, ◌||◌, List, [], ◌∷◌, ◌++◌, map, length, Option, Some, None, is_none, if◌then◌else◌, zero, suc, ◌⊎◌, inl, inr, ⊎_elim, refl, sym, ◌∙◌, ap, subst, arith, append-nil}
use Rattle.std.specs.Prelude.{option_map}
use Rattle.std.specs.List.{AllByRecursion, list_any}
use Rattle.std.proofs.lemmas.Bool.{both_ways}
use Rattle.byte_orders.specs.Accesses.{Access, IsOneOf}
use Rattle.byte_orders.specs.Runs.{Event, Fails, NoneBefore, changed_of, failing}
use Rattle.byte_orders.proofs.Members.{any_from, any_to, in_append_left, in_append_right, from_append}
use Rattle.byte_orders.proofs.QuietEvents.{IsSilent}
use Rattle.serial_memory.specs.SerialMemory.{Memory}
use Rattle.scoreboard.specs.FailedBursts.{Span}
use Rattle.scoreboard.specs.RealTime.{numbered}
use Rattle.value_memory.specs.ByteEvents.{ByteState}
use Rattle.value_orders.specs.Events.{failed_events, fails_as, is_struck}
use Rattle.value_orders.specs.Histories.{Past, entries_of}
use Rattle.value_laws.specs.Kept.{GoesAlong, HasRun, Work, work_after, work_next}
use Rattle.value_laws.proofs.Buts.{but_both, but_same, silent_needless, silent_then, then_seen, but_none}
use Rattle.value_laws.proofs.Keeps.{along_kept}
use Rattle.value_laws.proofs.Turns.{IsBut}

-- requests have failed, one after another
abbrev pub fails_all : List ℕ → List Event
fails_all numbers = map (λ n. Fails n) numbers

-- ---- they do the same in each order

-- an access after it, by whether it is of one of them
abbrev failed_as : Bool → Access → Access
failed_as failed a = if failed && is_none a.ended then failing a else a

abbrev is_among : List ℕ → Access → Bool
is_among numbers a = list_any (λ n. a.begun == n) numbers

failed_one : (number : ℕ) (a : Access) → changed_of number failing a ≡ failed_as (a.begun == number) a
failed_one number a = refl

-- once is as often
abbrev forgotten : Option ℕ → Option ℕ
forgotten byte = None

forgot_twice : (o : Option (Option ℕ)) → option_map forgotten (option_map forgotten o) ≡ option_map forgotten o
forgot_twice None = refl
forgot_twice (Some byte) = refl

failed_twice : (first later : Bool) (a : Access) → failed_as later (failed_as first a) ≡ failed_as (first || later) a
failed_twice true later a = by_live (is_none a.ended) refl
  where
    again : failing (failing a) ≡ failing a
    again = ap (λ (g : Option (Option ℕ)). record a { gives = g; sure = false }) (forgot_twice a.gives)

    twice : (b l : Bool) → is_none a.ended ≡ b → failed_as l (failing a) ≡ failing a
    twice true true is = rw is again
    twice true false is = refl
    twice false true is = rw is refl
    twice false false is = refl

    by_live : (b : Bool) → is_none a.ended ≡ b → failed_as later (failed_as true a) ≡ failed_as true a
    by_live true is = rw is (twice true later is)
    by_live false is = let still : failed_as true a ≡ a = rw is refl in ap (failed_as later) still ∙ over later ∙ sym still
      where
        over : (l : Bool) → failed_as l a ≡ a
        over true = rw is refl
        over false = refl
failed_twice false later a = refl

same_begun : (first : Bool) (a : Access) → (failed_as first a).begun ≡ a.begun
same_begun true a = by_test (is_none a.ended)
  where
    by_test : (b : Bool) → (if b then failing a else a).begun ≡ a.begun
    by_test true = refl
    by_test false = refl
same_begun false a = refl

map_failed : (number : ℕ) (numbers : List ℕ) (accesses : List Access)
    → map (λ a. failed_as (is_among numbers a) a) (map (changed_of number failing) accesses) ≡ map (λ a. failed_as (is_among (number ∷ numbers) a) a) accesses
map_failed number numbers [] = refl
map_failed number numbers (a ∷ accesses) = cc (one, map_failed number numbers accesses)
  where
    first : Access
    first = failed_as (a.begun == number) a

    one : failed_as (is_among numbers (changed_of number failing a)) (changed_of number failing a) ≡ failed_as (is_among (number ∷ numbers) a) a
    one =
        ap (λ (k : ℕ). failed_as (list_any (λ n. k == n) numbers) (failed_as (a.begun == number) a)) (same_begun (a.begun == number) a)
        ∙ failed_twice (a.begun == number) (is_among numbers a) a

still_failed : (accesses : List Access) → map (λ a. failed_as (is_among [] a) a) accesses ≡ accesses
still_failed [] = refl
still_failed (a ∷ accesses) = ap (λ (rest : List Access). a ∷ rest) (still_failed accesses)

fails_work : (work : Work) (numbers : List ℕ) → work_after work (fails_all numbers) ≡ record work { accesses = map (λ a. failed_as (is_among numbers a) a) work.accesses }
fails_work work [] = ap (λ (accesses : List Access). record work { accesses = accesses }) (sym (still_failed work.accesses))
fails_work work (number ∷ numbers) =
    fails_work (work_next work (Fails number)) numbers
    ∙ ap (λ (accesses : List Access). record work { accesses = accesses }) (map_failed number numbers work.accesses)

-- lists of the same numbers
pub record AreSame (some others : List ℕ) : Type 0 where
  pub from : (n : ℕ) → IsOneOf n some → IsOneOf n others
  pub to : (n : ℕ) → IsOneOf n others → IsOneOf n some

among_to : (some others : List ℕ) (a : Access) → ((n : ℕ) → IsOneOf n some → IsOneOf n others) → is_among some a ≡ true → is_among others a ≡ true
among_to some others a goes is =
    let found = any_to (λ n. a.begun == n) some is in
    any_from (λ n. a.begun == n) found.one others (goes found.one found.there) found.holds

among_same : (some others : List ℕ) (a : Access) → AreSame some others → is_among some a ≡ is_among others a
among_same some others a same = by_both (is_among some a) refl (is_among others a) refl
  where
    by_both : (b : Bool) → is_among some a ≡ b → (c : Bool) → is_among others a ≡ c → b ≡ c
    by_both true first true second = refl
    by_both false first false second = refl
    by_both true first false second = absurd (both_ways (is_among others a) second (among_to some others a same.from first))
    by_both false first true second = absurd (both_ways (is_among some a) first (among_to others some a same.to second))

all_same : (some others : List ℕ) (accesses : List Access) → AreSame some others
    → map (λ a. failed_as (is_among some a) a) accesses ≡ map (λ a. failed_as (is_among others a) a) accesses
all_same some others [] same = refl
all_same some others (a ∷ accesses) same = cc (ap (λ (b : Bool). failed_as b a) (among_same some others a same), all_same some others accesses same)

pub fails_same : (work : Work) (some others : List ℕ) → AreSame some others → work_after work (fails_all some) ≡ work_after work (fails_all others)
fails_same work some others same =
    fails_work work some ∙ ap (λ (accesses : List Access). record work { accesses = accesses }) (all_same some others work.accesses same)
    ∙ sym (fails_work work others)

-- ---- but for those that give nothing

-- of requests that have failed some are told, and the others give the byte nothing
abbrev pub EachToldOrSilent : Work → List ℕ → List ℕ → Type 0
EachToldOrSilent work told seen = AllByRecursion (λ n. IsOneOf n told ⊎ IsSilent n work.accesses) seen

-- those others
record HasOthers (work : Work) (told seen : List ℕ) : Type 0 where
  others : List ℕ
  silent : AllByRecursion (λ n. IsSilent n work.accesses) others
  from : (n : ℕ) → IsOneOf n others → IsOneOf n seen
  to : (n : ℕ) → IsOneOf n seen → IsOneOf n (told ++ others)

others_of : (work : Work) (told seen : List ℕ) → EachToldOrSilent work told seen → HasOthers work told seen
others_of work told [] each = record { others = []; silent = tt; from = λ n at. absurd at; to = λ n at. absurd at }
others_of work told (number ∷ seen) each = ⊎_elim (was_told (others_of work told seen each.1)) (gives_nothing (others_of work told seen each.1)) each.0
  where
    was_told : HasOthers work told seen → IsOneOf number told → HasOthers work told (number ∷ seen)
    was_told rest at =
        record {
          others = rest.others;
          silent = rest.silent;
          from = λ n there. inr (rest.from n there);
          to = λ n there. ⊎_elim (λ same. in_append_left n told rest.others (subst (λ k. IsOneOf k told) (sym same) at)) (λ later. rest.to n later) there;
        }

    further : (others : List ℕ) (n : ℕ) → IsOneOf n (told ++ others) → IsOneOf n (told ++ number ∷ others)
    further others n there =
        ⊎_elim (λ first. in_append_left n told (number ∷ others) first) (λ later. in_append_right n told (number ∷ others) (inr later))
        (from_append n told others there)

    gives_nothing : HasOthers work told seen → IsSilent number work.accesses → HasOthers work told (number ∷ seen)
    gives_nothing rest silent =
        record {
          others = number ∷ rest.others;
          silent = (silent, rest.silent);
          from = λ n there. ⊎_elim (λ same. inl same) (λ later. inr (rest.from n later)) there;
          to = λ n there. ⊎_elim (λ same. in_append_right n told (number ∷ rest.others) (inl same)) (λ later. further rest.others n (rest.to n later)) there;
        }

all_silent_next : (work : Work) (number : ℕ) (numbers : List ℕ) → AllByRecursion (λ n. IsSilent n work.accesses) numbers
    → AllByRecursion (λ n. IsSilent n (work_next work (Fails number)).accesses) numbers
all_silent_next work number [] silent = tt
all_silent_next work number (n ∷ numbers) silent = (silent_then n work (Fails number) tt silent.0, all_silent_next work number numbers silent.1)

all_silent_after : (work : Work) (told numbers : List ℕ) → AllByRecursion (λ n. IsSilent n work.accesses) numbers
    → AllByRecursion (λ n. IsSilent n (work_after work (fails_all told)).accesses) numbers
all_silent_after work [] numbers silent = silent
all_silent_after work (number ∷ told) numbers silent =
    all_silent_after (work_next work (Fails number)) told numbers (all_silent_next work number numbers silent)

all_needless : (work : Work) (numbers : List ℕ) → AllByRecursion (λ n. IsSilent n work.accesses) numbers → IsBut work [] (fails_all numbers)
all_needless work [] silent = but_none work
all_needless work (number ∷ numbers) silent =
    then_seen work (Fails number) [] (fails_all numbers) (silent_needless number work.accesses (Fails number) silent.0 refl)
    (all_needless (work_next work (Fails number)) numbers (all_silent_next work number numbers silent.1))

pub map_append : (some others : List ℕ) → fails_all (some ++ others) ≡ fails_all some ++ fails_all others
map_append [] others = refl
map_append (number ∷ some) others = ap (λ (es : List Event). Fails number ∷ es) (map_append some others)

-- so a byte is kept along where each that is told has failed, and each other one gives it nothing
pub fails_kept : (start : Option ℕ) (work : Work) (oldest : ℕ) (crowded : Bool) (old new : ByteState) (told seen : List ℕ) → HasRun start work old
    → GoesAlong oldest crowded old new (fails_all told) → NoneBefore oldest work.accesses → ((n : ℕ) → IsOneOf n told → IsOneOf n seen)
    → EachToldOrSilent work told seen → HasRun start (work_after work (fails_all seen)) new
fails_kept start work oldest crowded old new told seen has goes none from each =
    subst (λ (w : Work). HasRun start w new) (fails_same work (told ++ found.others) seen same)
    (along_kept start work oldest crowded old new (fails_all told) (fails_all (told ++ found.others)) has goes none but)
  where
    found : HasOthers work told seen
    found = others_of work told seen each

    same : AreSame (told ++ found.others) seen
    same = record { from = λ n at. ⊎_elim (λ first. from n first) (λ later. found.from n later) (from_append n told found.others at); to = found.to }

    both : IsBut work (fails_all told ++ []) (fails_all told ++ fails_all found.others)
    both =
        but_both work (fails_all told) (fails_all told) [] (fails_all found.others) (but_same work (fails_all told))
        (all_needless (work_after work (fails_all told)) found.others (all_silent_after work told found.others found.silent))

    but : IsBut work (fails_all told) (fails_all (told ++ found.others))
    but =
        subst (λ (es : List Event). IsBut work es (fails_all (told ++ found.others))) (append-nil (fails_all told))
        (subst (λ (es : List Event). IsBut work (fails_all told ++ []) es) (sym (map_append told found.others)) both)

-- ---- those of a history

-- the requests that a burst strikes, by their numbers
abbrev pub struck_from : Memory → Span → ℕ → List Past → List ℕ
struck_from memory span first [] = []
struck_from memory span first (past ∷ pasts) =
    if is_struck memory span past.entry then first ∷ struck_from memory span (first + 1) pasts else struck_from memory span (first + 1) pasts

pub struck_events : (memory : Memory) (span : Span) (first : ℕ) (pasts : List Past) → failed_events memory (Some span) first pasts ≡ fails_all (struck_from memory span first pasts)
struck_events memory span first [] = refl
struck_events memory span first (past ∷ pasts) = by_test (is_struck memory span past.entry) (struck_events memory span (first + 1) pasts)
  where
    by_test : (b : Bool) → failed_events memory (Some span) (first + 1) pasts ≡ fails_all (struck_from memory span (first + 1) pasts)
        → fails_as first b ++ failed_events memory (Some span) (first + 1) pasts
        ≡ fails_all (if b then first ∷ struck_from memory span (first + 1) pasts else struck_from memory span (first + 1) pasts)
    by_test true rest = ap (λ (es : List Event). Fails first ∷ es) rest
    by_test false rest = rest

-- one at a place is struck
pub struck_at : (memory : Memory) (span : Span) (first k : ℕ) (pasts : List Past) → k < length pasts → is_struck memory span (numbered (entries_of pasts) k) ≡ true
    → IsOneOf (first + k) (struck_from memory span first pasts)
struck_at memory span first k [] small is = absurd (omega (arith, small))
struck_at memory span first zero (past ∷ pasts) small is = rw is (inl (omega arith))
struck_at memory span first (suc k) (past ∷ pasts) small is =
    by_test (is_struck memory span past.entry)
    (subst (λ n. IsOneOf n (struck_from memory span (first + 1) pasts)) (omega arith) (struck_at memory span (first + 1) k pasts (omega (arith, small)) is))
  where
    by_test : (b : Bool) → IsOneOf (first + suc k) (struck_from memory span (first + 1) pasts)
        → IsOneOf (first + suc k) (if b then first ∷ struck_from memory span (first + 1) pasts else struck_from memory span (first + 1) pasts)
    by_test true later = inr later
    by_test false later = later

-- and each that is struck is at a place
pub record IsStruckAt (memory : Memory) (span : Span) (first number : ℕ) (pasts : List Past) : Type 0 where
  pub place : ℕ
  pub small : place < length pasts
  pub number_is : number ≡ first + place
  pub struck : is_struck memory span (numbered (entries_of pasts) place) ≡ true

pub struck_place : (memory : Memory) (span : Span) (first number : ℕ) (pasts : List Past) → IsOneOf number (struck_from memory span first pasts)
    → IsStruckAt memory span first number pasts
struck_place memory span first number [] at = absurd at
struck_place memory span first number (past ∷ pasts) at =
    by_test (is_struck memory span past.entry) refl at (λ later. struck_place memory span (first + 1) number pasts later)
  where
    further : IsStruckAt memory span (first + 1) number pasts → IsStruckAt memory span first number (past ∷ pasts)
    further found =
        let is = found.number_is in
        let small = found.small in
        record { place = suc found.place; small = omega (arith, small); number_is = omega (arith, is); struck = found.struck }

    by_test : (b : Bool) → is_struck memory span past.entry ≡ b
        → IsOneOf number (if b then first ∷ struck_from memory span (first + 1) pasts else struck_from memory span (first + 1) pasts)
        → (IsOneOf number (struck_from memory span (first + 1) pasts) → IsStruckAt memory span (first + 1) number pasts)
        → IsStruckAt memory span first number (past ∷ pasts)
    by_test true is here place =
        ⊎_elim (λ same. record { place = 0; small = omega arith; number_is = omega (arith, same); struck = is })
        (λ later. further (place later)) here
    by_test false is here place = further (place here)
