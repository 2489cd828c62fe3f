-- The replies that are due, by source.
use Rattle.std.proofs.Common.{◌≡◌, ◌<◌, ◌≤◌, ◌==◌, ℕ, zero, suc, false, List, [], ◌∷◌, ◌++◌, length, map, get_or, set, refl, ap, sym, ◌∙◌, arith}
use Rattle.std.proofs.Math.Path.{fun_ext}
use Rattle.std.proofs.lemmas.List.{get_or-set_other, get_or-set_same}
use Rattle.std.specs.List.{list_any}
use Rattle.std.proofs.lemmas.Bool.{or_parts}
use Rattle.std.proofs.lemmas.Bool.Decides.{nat_tests}
use Rattle.std.proofs.lemmas.List.{map-append}
use Rattle.std.proofs.lemmas.Simd.{map-map}
use Rattle.tl_messages.specs.declared.DBeat.{DBeat}
use Rattle.scoreboard.specs.Flights.{InFlight, is_of_source}
use Rattle.scoreboard.specs.InsideBoards.{FlightState, flight_of}
use Rattle.scoreboard.specs.Replies.{due_flight, due_flights, reply_of, with_reply}
use Rattle.scoreboard.specs.declared.flights.Due.{Due}
use Rattle.scoreboard.proofs.held.Changed.{all_changed, changed_to}

-- ---- by source

more_at : (replies : List (List DBeat)) (source : ℕ) → get_or (replies ++ [] ∷ []) source [] ≡ get_or replies source []
more_at [] zero = refl
more_at [] (suc source) = refl
more_at (reply ∷ replies) zero = refl
more_at (reply ∷ replies) (suc source) = more_at replies source

-- one place more, which is empty
pub reply_of-more : (replies : List (List DBeat)) → reply_of (replies ++ [] ∷ []) ≡ reply_of replies
reply_of-more replies = fun_ext (more_at replies)

-- another reply to a source that has a place
pub reply_of-set : (replies : List (List DBeat)) (source : ℕ) (reply : List DBeat) → source < length replies → reply_of (set replies source reply) ≡ with_reply source reply (reply_of replies)
reply_of-set replies source reply within = fun_ext (λ other. grind (arith, get_or-set_same replies source reply [] within, get_or-set_other replies source other reply []))

-- ---- of those that are due

same_others : (source : ℕ) (reply : List DBeat) (replies : ℕ → List DBeat) (dues : List Due) → list_any (is_of_source source) (due_flights replies dues) ≡ false
    → map (due_flight (with_reply source reply replies)) dues ≡ map (due_flight replies) dues
same_others source reply replies [] none = refl
same_others source reply replies (due ∷ dues) none =
    let parts = or_parts (due.source == source) (list_any (is_of_source source) (due_flights replies dues)) none in
    rw (parts.0, same_others source reply replies dues parts.1) refl

own_reply : (source : ℕ) (reply : List DBeat) (replies : ℕ → List DBeat) → with_reply source reply replies source ≡ reply
own_reply source reply replies = grind (arith, nat_tests)

-- one more, of a source to which none was due
pub joined : (replies : ℕ → List DBeat) (reply : List DBeat) (dues : List Due) (due : Due) → list_any (is_of_source due.source) (due_flights replies dues) ≡ false
    → map (due_flight (with_reply due.source reply replies)) (dues ++ due ∷ []) ≡ map (due_flight replies) dues ++ record { source = due.source; beats = reply; footprint = due.footprint } ∷ []
joined replies reply dues due none =
    map-append (due_flight (with_reply due.source reply replies)) dues (due ∷ [])
    ∙ ap (λ (before : List FlightState). before ++ due_flight (with_reply due.source reply replies) due ∷ []) (same_others due.source reply replies dues none)
    ∙ ap (λ (beats : List DBeat). map (due_flight replies) dues ++ record { source = due.source; beats = beats; footprint = due.footprint } ∷ []) (own_reply due.source reply replies)

-- those before a place changed, whatever their replies are
pub all_due : (replies : ℕ → List DBeat) (change : InFlight → InFlight) (old new : List Due) (i : ℕ) → map (λ due. flight_of (due_flight replies due)) new ≡ changed_to (λ due. flight_of (due_flight replies due)) change old i
    → length old ≤ i → due_flights replies new ≡ map change (due_flights replies old)
all_due replies change old new i now all =
    map-map flight_of (due_flight replies) new ∙ now ∙ all_changed (λ due. flight_of (due_flight replies due)) change old i all ∙ ap (map change) (sym (map-map flight_of (due_flight replies) old))
