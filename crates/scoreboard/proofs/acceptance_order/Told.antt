-- What a client was told of the replies to one of its sources: with a beat more, and with a reply more.
use Rattle.std.proofs.Common.{◌≡◌, List, [], ◌∷◌, ◌++◌, drop, length, refl, ◌∙◌, ap, arith}
use Rattle.std.proofs.lemmas.List.{length-append, nil_from_length}
use Rattle.tl_messages.specs.declared.DBeat.{DBeat}
use Rattle.scoreboard.specs.InTurn.{DueBeat, as_known}
use Rattle.scoreboard.specs.Right.{IsTold, ShowFirst, all_beats, left_of}
use Rattle.scoreboard.proofs.acceptance_order.SeenLists.{all_beats-append, last_of-append}

-- ---- beats that show the first of those that are due

-- with the next one
shows_next : (dues : List DueBeat) (told : List DBeat) (due : DueBeat) (rest : List DueBeat) (beat : DBeat) → ShowFirst dues told → drop (length told) dues ≡ due ∷ rest
    → as_known due beat ≡ due.beat → ShowFirst dues (told ++ beat ∷ [])
shows_next dues [] due rest beat shows left same = rw left (same, tt)
shows_next [] (first ∷ told) due rest beat shows left same = absurd shows
shows_next (next ∷ dues) (first ∷ told) due rest beat shows left same = (shows.0, shows_next dues told due rest beat shows.1 left same)

-- and what is left then
left_next : (dues : List DueBeat) (told : List DBeat) (due : DueBeat) (rest : List DueBeat) (beat : DBeat) → drop (length told) dues ≡ due ∷ rest
    → drop (length (told ++ beat ∷ [])) dues ≡ rest
left_next dues [] due rest beat left = rw left refl
left_next [] (first ∷ told) due rest beat left = absurd (cc (left))
left_next (next ∷ dues) (first ∷ told) due rest beat left = left_next dues told due rest beat left

-- where more are due behind those
shows_longer : (dues more : List DueBeat) (told : List DBeat) → ShowFirst dues told → ShowFirst (dues ++ more) told
shows_longer dues more [] shows = tt
shows_longer [] more (first ∷ told) shows = absurd shows
shows_longer (due ∷ dues) more (first ∷ told) shows = (shows.0, shows_longer dues more told shows.1)

left_longer : (dues more : List DueBeat) (told : List DBeat) → ShowFirst dues told → drop (length told) (dues ++ more) ≡ drop (length told) dues ++ more
left_longer dues more [] shows = refl
left_longer [] more (first ∷ told) shows = absurd shows
left_longer (due ∷ dues) more (first ∷ told) shows = left_longer dues more told shows.1

-- the next that is left of these, which a beat shows
pub record IsNext (dues : List DueBeat) (told : List DBeat) (beat : DBeat) : Type 0 where
  pub due : DueBeat
  pub left : drop (length told) dues ≡ due ∷ drop (length (told ++ beat ∷ [])) dues
  pub same : as_known due beat ≡ due.beat

-- is there for the last that was told
last_shows : (dues : List DueBeat) (told : List DBeat) (beat : DBeat) → ShowFirst dues (told ++ beat ∷ []) → IsNext dues told beat
last_shows [] [] beat shows = absurd shows
last_shows (due ∷ dues) [] beat shows = record { due = due; left = refl; same = shows.0 }
last_shows [] (first ∷ told) beat shows = absurd shows
last_shows (due ∷ dues) (first ∷ told) beat shows = let next = last_shows dues told beat shows.1 in record { due = next.due; left = next.left; same = next.same }

-- ---- what was told

-- told with some beats of a reply of these, and with what is left then
pub record TellsOn (replies : List (List DueBeat)) (told : List DBeat) (left : List DueBeat) : Type 0 where
  pub is_told : IsTold replies told
  pub left_is : left_of replies told ≡ left

-- nothing was asked, and nothing was told
pub told_nothing : TellsOn [] [] []
told_nothing = record { is_told = record { in_order = tt; but_last = omega arith }; left_is = refl }

-- the next beat that was left
pub told-beat : (replies : List (List DueBeat)) (told : List DBeat) (due : DueBeat) (beat : DBeat) (rest : List DueBeat) → IsTold replies told → left_of replies told ≡ due ∷ rest
    → as_known due beat ≡ due.beat → TellsOn replies (told ++ beat ∷ []) rest
told-beat replies told due beat rest is left same =
    let now = left_next (all_beats replies) told due rest beat left in
    record {
      is_told = record { in_order = shows_next (all_beats replies) told due rest beat is.in_order left same; but_last = rw now (omega (arith, is.but_last, ap length left)) };
      left_is = now;
    }

-- a beat that may be told was the next one left
pub left-beat : (replies : List (List DueBeat)) (told : List DBeat) (beat : DBeat) → IsTold replies (told ++ beat ∷ []) → IsNext (all_beats replies) told beat
left-beat replies told beat is = last_shows (all_beats replies) told beat is.in_order

-- with a reply more there is left what was, and this
left_with : (replies : List (List DueBeat)) (told : List DBeat) (beats : List DueBeat) → IsTold replies told → left_of (replies ++ beats ∷ []) told ≡ left_of replies told ++ beats
left_with replies told beats is =
    ap (λ (dues : List DueBeat). drop (length told) dues) (all_beats-append replies beats) ∙ left_longer (all_beats replies) beats told is.in_order

-- a reply more, once nothing is left
pub told-reply : (replies : List (List DueBeat)) (told : List DBeat) (beats : List DueBeat) → IsTold replies told → left_of replies told ≡ [] → TellsOn (replies ++ beats ∷ []) told beats
told-reply replies told beats is none =
    let now : left_of (replies ++ beats ∷ []) told ≡ beats = left_with replies told beats is ∙ ap (λ (left : List DueBeat). left ++ beats) none in
    record {
      is_told = record { in_order = rw (all_beats-append replies beats) (shows_longer (all_beats replies) beats told is.in_order); but_last = rw (now, last_of-append replies beats) (omega (arith)) };
      left_is = now;
    }

-- a reply more can stand only where nothing was left
pub left-nothing : (replies : List (List DueBeat)) (told : List DBeat) (beats : List DueBeat) → IsTold replies told → IsTold (replies ++ beats ∷ []) told → left_of replies told ≡ []
left-nothing replies told beats before after =
    nil_from_length (left_of replies told)
    (omega (arith, after.but_last, ap length (left_with replies told beats before), length-append (left_of replies told) beats, ap length (last_of-append replies beats)))
