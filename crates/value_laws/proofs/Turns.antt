-- What a memory is told beside what happened: events of both, one after another, and such that leave what is held as it is, which are of one alone. Where a run goes
-- on by the first, it does by the second, to the same list.
use Rattle.std.proofs.Common.{◌≡◌, ℕ, Bool, List, [], ◌∷◌, Option, inl, inr, ⊎_elim, refl, sym, subst}
use Rattle.std.specs.Prelude.{⊤}
use Rattle.byte_orders.specs.Runs.{AllMayCome, Event, MayCome, Run, run_after, run_next}
use Rattle.byte_orders.proofs.RunsRightly.{Holds}
use Rattle.value_memory.specs.ByteEvents.{KeepsShort}
use Rattle.value_laws.specs.Kept.{IsSpread, Work, work_next, work_of}
use Rattle.value_laws.proofs.Beside.{AreBeside, IsNeedless, both_may, both_next, first_next, holds_next, second_may, second_next}
use Rattle.value_laws.proofs.Open.{EndsNone}
use Rattle.value_laws.proofs.Spreads.{next_work, short_work}

-- an event of both; one that a memory is told alone; and one of what happened alone
pub data Turn : Type 0 where
  Both : Event → Turn
  Told : Event → Turn
  Seen : Event → Turn

-- what the memory is told, and what happened
abbrev pub told_in : List Turn → List Event
told_in [] = []
told_in (Both event ∷ turns) = event ∷ told_in turns
told_in (Told event ∷ turns) = event ∷ told_in turns
told_in (Seen event ∷ turns) = told_in turns

abbrev pub seen_in : List Turn → List Event
seen_in [] = []
seen_in (Both event ∷ turns) = event ∷ seen_in turns
seen_in (Told event ∷ turns) = seen_in turns
seen_in (Seen event ∷ turns) = event ∷ seen_in turns

-- each that is of one alone leaves what is held as it is, by what was done till then; and what the memory is told alone ends no request
abbrev pub AllFit : Work → List Turn → Type 0
AllFit work [] = ⊤
AllFit work (Both event ∷ turns) = AllFit (work_next work event) turns
AllFit work (Told event ∷ turns) = IsNeedless work.accesses event × EndsNone event × AllFit work turns
AllFit work (Seen event ∷ turns) = IsNeedless work.accesses event × AllFit (work_next work event) turns

-- what a memory is told is what happened, but for needless events
pub record IsBut (work : Work) (told seen : List Event) : Type 0 where
  pub turns : List Turn
  pub told_is : told_in turns ≡ told
  pub seen_is : seen_in turns ≡ seen
  pub fits : AllFit work turns

-- ---- runs beside each other

-- the second goes on by what happened, as the first does by all that comes
pub record GoesBeside (crowded : Bool) (run other : Run) (all seen : List Event) : Type 0 where
  pub others : List Event
  pub spread : IsSpread crowded others seen
  pub may_come : AllMayCome other others
  pub beside : AreBeside (run_after run all) (run_after other others)

module _ (start : Option ℕ) (crowded : Bool) where
  -- it does by some turns, whichever two runs these are
  abbrev GoBeside : List Turn → Type 0
  GoBeside turns =
      (all : List Event) (run other : Run) → AreBeside run other → Holds ⊥ start other → AllFit (work_of other) turns → IsSpread crowded all (told_in turns)
      → AllMayCome run all → GoesBeside crowded run other all (seen_in turns)

  -- first one keeps lists short
  short_first : (turns : List Turn) (event : Event) (all : List Event) (run other : Run) → KeepsShort crowded event → AreBeside run other → Holds ⊥ start other
      → AllFit (work_of other) turns → MayCome run event
      → (AreBeside (run_next run event) (run_next other event) → Holds ⊥ start (run_next other event) → AllFit (work_of (run_next other event)) turns
      → GoesBeside crowded (run_next run event) (run_next other event) all (seen_in turns))
      → GoesBeside crowded run other (event ∷ all) (seen_in turns)
  short_first turns event all run other short beside holds fits may later =
      let may_too = both_may run other event beside may in
      let fits_next = subst (λ (w : Work). AllFit w turns) (sym (short_work crowded other event short)) fits in
      let rest = later (both_next run other event beside) (holds_next start other event holds may_too) fits_next in
      record { others = event ∷ rest.others; spread = inl (short, rest.spread); may_come = (may_too, rest.may_come); beside = rest.beside }

  none_left : GoBeside []
  none_left [] run other beside holds fits spread may = record { others = []; spread = refl; may_come = tt; beside = beside }
  none_left (event ∷ all) run other beside holds fits spread may =
      ⊎_elim (λ short. short_first [] event all run other short.0 beside holds fits may.0
      (λ next keeps fit. none_left all (run_next run event) (run_next other event) next keeps fit short.1 may.1))
      (λ one. let bad : [] ≡ event ∷ one.0 = one.1 in absurd (cc (bad))) spread

  seen_first : (event : Event) (turns : List Turn) → GoBeside turns → GoBeside (Seen event ∷ turns)
  seen_first event turns goes all run other beside holds fits spread may =
      let may_too = second_may start run other holds event fits.0 beside in
      let fits_next = subst (λ (w : Work). AllFit w turns) (sym (next_work other event)) fits.1 in
      let rest = goes all run (run_next other event) (second_next start run other holds event fits.0 beside) (holds_next start other event holds may_too) fits_next spread may in
      record { others = event ∷ rest.others; spread = inr (seen_in turns, refl, rest.spread); may_come = (may_too, rest.may_come); beside = rest.beside }

  told_first : (event : Event) (turns : List Turn) → GoBeside turns → GoBeside (Told event ∷ turns)
  told_first event turns goes [] run other beside holds fits spread may = let bad : event ∷ told_in turns ≡ [] = spread in absurd (cc (bad))
  told_first event turns goes (first ∷ all) run other beside holds fits spread may =
      ⊎_elim (λ short. short_first (Told event ∷ turns) first all run other short.0 beside holds fits may.0
      (λ next keeps fit. told_first event turns goes all (run_next run first) (run_next other first) next keeps fit short.1 may.1))
      (λ one. by_event first one.0 one.1 one.2 may) spread
    where
      by_event : (first : Event) (rest : List Event) → event ∷ told_in turns ≡ first ∷ rest → IsSpread crowded all rest → AllMayCome run (first ∷ all)
          → GoesBeside crowded run other (first ∷ all) (seen_in turns)
      by_event first rest same spread may =
          let its : event ≡ first = cc (same) in
          let left : told_in turns ≡ rest = cc (same) in
          let beside_next = first_next start run other holds event fits.0 beside fits.1 in
          let goes_on = goes all (run_next run event) other beside_next holds fits.2 (subst (λ (es : List Event). IsSpread crowded all es) (sym left) spread)
          (subst (λ (e : Event). AllMayCome (run_next run e) all) (sym its) may.1) in
          subst (λ (e : Event). GoesBeside crowded run other (e ∷ all) (seen_in turns)) its
          (record { others = goes_on.others; spread = goes_on.spread; may_come = goes_on.may_come; beside = goes_on.beside })

  both_first : (event : Event) (turns : List Turn) → GoBeside turns → GoBeside (Both event ∷ turns)
  both_first event turns goes [] run other beside holds fits spread may = let bad : event ∷ told_in turns ≡ [] = spread in absurd (cc (bad))
  both_first event turns goes (first ∷ all) run other beside holds fits spread may =
      ⊎_elim (λ short. short_first (Both event ∷ turns) first all run other short.0 beside holds fits may.0
      (λ next keeps fit. both_first event turns goes all (run_next run first) (run_next other first) next keeps fit short.1 may.1))
      (λ one. by_event first one.0 one.1 one.2 may) spread
    where
      by_event : (first : Event) (rest : List Event) → event ∷ told_in turns ≡ first ∷ rest → IsSpread crowded all rest → AllMayCome run (first ∷ all)
          → GoesBeside crowded run other (first ∷ all) (event ∷ seen_in turns)
      by_event first rest same spread may =
          let its : event ≡ first = cc (same) in
          let left : told_in turns ≡ rest = cc (same) in
          let may_run : MayCome run event = subst (λ (e : Event). MayCome run e) (sym its) may.0 in
          let may_too = both_may run other event beside may_run in
          let fits_next = subst (λ (w : Work). AllFit w turns) (sym (next_work other event)) fits in
          let goes_on = goes all (run_next run event) (run_next other event) (both_next run other event beside) (holds_next start other event holds may_too) fits_next
          (subst (λ (es : List Event). IsSpread crowded all es) (sym left) spread) (subst (λ (e : Event). AllMayCome (run_next run e) all) (sym its) may.1) in
          subst (λ (e : Event). GoesBeside crowded run other (e ∷ all) (event ∷ seen_in turns)) its
          (record { others = event ∷ goes_on.others; spread = inr (seen_in turns, refl, goes_on.spread); may_come = (may_too, goes_on.may_come); beside = goes_on.beside })

  pub go_beside : (turns : List Turn) → GoBeside turns
  go_beside [] = none_left
  go_beside (Both event ∷ turns) = both_first event turns (go_beside turns)
  go_beside (Told event ∷ turns) = told_first event turns (go_beside turns)
  go_beside (Seen event ∷ turns) = seen_first event turns (go_beside turns)
