-- A run's record with one event more: the record of a run is that of the run with the event at its end. It knows the lists of a record, for
-- the loop of run; what an event does is hidden.
use Rattle.std.proofs.Common.{◌≡◌, ℕ, ◌+◌, ◌≤◌, true, List, [], ◌∷◌, ◌++◌, map, length, take, Option, Some, None, Result, Ok, Err, option_to_list, refl, sym, ap, ◌∙◌, subst, flat_map, if◌then◌else◌, length-append, slice_get, IfSome, OnOk, arith}
use Rattle.std.proofs.lemmas.List.{append-nil, append_assoc, map-append, take_all}
use Rattle.bus_words.proofs.MappedPlaces.{map-take-next}
use Rattle.tl_messages.specs.declared.DBeat.{DBeat}
use Rattle.axi_beats.specs.declared.WBeat.{WBeat}
use Rattle.world.specs.Laws.{IsSoundWorld, AreSoundAlong}
use Rattle.world_run.specs.Runs.{handed_at, piece_of, handed_of, AreCutFrom, recorded_beats, IsRunOf}
use Rattle.setups.specs.Setups.{SetupLists}
use Rattle.world.specs.World.{WorldState, Outcome, next, after, opening_world, leaves_all, is_reply}
use Rattle.world.specs.declared.Answer.{Answer}
use Rattle.world.specs.declared.Answer.TheVariants.{Sent, Reply}
use Rattle.world_run.specs.declared.Handed.{Handed}
use Rattle.world_run.specs.declared.SentBeat.{SentBeat}
use Rattle.world_run.specs.declared.SentBeat.TheVariants.{W}
use Rattle.world.specs.declared.Step.{Step}
use Rattle.world.specs.declared.Step.TheVariants.{Take}
use Rattle.world.proofs.Events.{each_way}
use Rattle.world_run.proofs.RunLemmas.{after-append, answers_of-append, handed_in-append, sent_in-append, AreCutFrom-append, handed_of-append, piece_of-last}

-- ---- W beats, one more

-- where the W beats before one are appended, the next is appended to them
pub data_next : (old all : List SentBeat) (beats : List WBeat) (k : ℕ) (x : WBeat) → all ≡ old ++ map (λ beat. W beat) (take k beats) → slice_get beats k ≡ Some x
    → all ++ W x ∷ [] ≡ old ++ map (λ beat. W beat) (take (k + 1) beats)
data_next old all beats k x so_far there =
    cc (so_far, map-take-next (λ beat. W beat) beats k x there, append_assoc old (map (λ beat. W beat) (take k beats)) (W x ∷ []))

-- ---- clauses of an Ok

-- what follows from two
pub on_ok_both : {T E P Q R : Type 0} (result : Result T E) → OnOk result P → OnOk result Q → (P → Q → R) → OnOk result R
on_ok_both (Ok value) p q follows = follows p q
on_ok_both (Err e) p q follows = tt

-- ---- what an answer tells of one event

-- an event that answers Sent leaves its burst as the last one sent, any other sends none
record TellsBurst (step : Step) (outcome : Outcome) : Type 0 where
  sends : (serial : ℕ) → outcome.answer ≡ Sent serial → outcome.state.last_sent ≡ outcome.burst
  sends_none : ((serial : ℕ) → outcome.answer ≡ Sent serial → ⊥) → outcome.burst ≡ None

quiet_tells : (answer : Answer) (serial : ℕ) → leaves_all answer ≡ true → answer ≡ Sent serial → ⊥
quiet_tells answer serial quiet is = let both : leaves_all (Sent serial) ≡ true = subst (λ told. leaves_all told ≡ true) is quiet in cc

tells_burst : (state : WorldState) (step : Step) → TellsBurst step (next state step)
tells_burst state step =
    each_way TellsBurst state
    (record {
      quiet = λ step answer quiet. record { sends = λ serial is. absurd (quiet_tells answer serial quiet is); sends_none = λ never. refl };
      begins = λ client beat is. record { sends = λ serial told. absurd (cc); sends_none = λ never. refl };
      accepts = λ client beat is. record { sends = λ serial is. absurd (cc); sends_none = λ never. refl };
      sends = λ sending is. record { sends = λ serial told. refl; sends_none = λ never. absurd (never state.memory.sent refl) };
      performs = λ serial beat memory is. record { sends = λ serial is. absurd (cc); sends_none = λ never. refl };
      gives_b = λ id b is. record { sends = λ serial is. absurd (cc); sends_none = λ never. refl };
      gives_r = λ id r is. record { sends = λ serial is. absurd (cc); sends_none = λ never. refl };
      hands_out = λ client request known is. record { sends = λ serial is. absurd (cc); sends_none = λ never. refl };
    })
    step

-- only a Take that answers Reply hands out a reply
handed_none : (step : Step) (answer : Answer) (beats : List DBeat) → ((client number : ℕ) → step ≡ Take client → answer ≡ Reply number → ⊥) → handed_at step answer beats ≡ None
handed_none step answer beats never = grind (arith, never)

-- ---- one event more

module _ {setup : SetupLists} {before : List Step} {answers : List Answer} {replies : List Handed} {d_beats : List DBeat} {sent : List SentBeat} {world : WorldState}
    (step : Step) (ran : IsRunOf setup before answers replies d_beats sent world) where
  -- from what each list becomes
  grows : {new_answers : List Answer} {new_replies : List Handed} {new_d_beats : List DBeat} {new_sent : List SentBeat} {state : WorldState}
      → new_answers ≡ answers ++ (next world step).answer ∷ [] → AreCutFrom 0 new_replies (length new_d_beats)
      → handed_of new_replies new_d_beats ≡ handed_of replies d_beats ++ option_to_list (handed_at step (next world step).answer (next world step).reply)
      → new_sent ≡ sent ++ flat_map recorded_beats (option_to_list (next world step).burst) → state ≡ (next world step).state
      → IsRunOf setup (before ++ step ∷ []) new_answers new_replies new_d_beats new_sent state
  grows told cut handed sends becomes =
      let start = opening_world setup in
      record {
        answers_kept = cc (told, ran.answers_kept, ran.world_kept, answers_of-append start before step);
        cut = cut;
        replies_kept = cc (handed, ran.replies_kept, ran.world_kept, handed_in-append start before step);
        sent_kept = cc (sends, ran.sent_kept, ran.world_kept, sent_in-append start before step);
        world_kept = cc (becomes, ran.world_kept, after-append start before step);
      }

  -- an event that sent a burst
  pub grows_sent : {answer : Answer} {new_answers : List Answer} {new_sent : List SentBeat} {state : WorldState} (serial : ℕ)
      → answer ≡ (next world step).answer → answer ≡ Sent serial → new_answers ≡ answers ++ answer ∷ [] → state ≡ (next world step).state
      → new_sent ≡ sent ++ flat_map recorded_beats (option_to_list state.last_sent)
      → IsRunOf setup (before ++ step ∷ []) new_answers replies d_beats new_sent state
  grows_sent serial gives is told becomes sends =
      let burst = (tells_burst world step).sends serial (sym gives ∙ is) in
      let none = handed_none step (next world step).answer (next world step).reply (λ client number takes replied. let both : Sent serial ≡ Reply number = sym is ∙ gives ∙ replied in cc) in
      let same : handed_of replies d_beats ≡ handed_of replies d_beats ++ option_to_list (handed_at step (next world step).answer (next world step).reply) =
      rw none (sym (append-nil (handed_of replies d_beats))) in
      grows (cc (told, gives)) ran.cut same (cc (sends, becomes, burst)) becomes

  -- an event that neither sent a burst nor handed out a reply
  pub grows_quiet : {answer : Answer} {new_answers : List Answer} {state : WorldState}
      → answer ≡ (next world step).answer → ((serial : ℕ) → answer ≡ Sent serial → ⊥) → ((client number : ℕ) → step ≡ Take client → answer ≡ Reply number → ⊥)
      → new_answers ≡ answers ++ answer ∷ [] → state ≡ (next world step).state
      → IsRunOf setup (before ++ step ∷ []) new_answers replies d_beats sent state
  grows_quiet gives not_sent not_taken told becomes =
      let no_burst = (tells_burst world step).sends_none (λ serial is. not_sent serial (gives ∙ is)) in
      let none = handed_none step (next world step).answer (next world step).reply (λ client number takes replied. not_taken client number takes (gives ∙ replied)) in
      let same : handed_of replies d_beats ≡ handed_of replies d_beats ++ option_to_list (handed_at step (next world step).answer (next world step).reply) =
      rw none (sym (append-nil (handed_of replies d_beats))) in
      grows (cc (told, gives)) ran.cut same (rw no_burst (sym (append-nil sent))) becomes

  -- an event that handed out a reply
  pub grows_taken : {answer : Answer} {new_answers : List Answer} {new_replies : List Handed} {new_d_beats reply : List DBeat} {state : WorldState} (old_reply : List DBeat) (client number : ℕ)
      → answer ≡ (next world step).answer → answer ≡ Reply number → step ≡ Take client → reply ≡ (if is_reply answer then (next world step).reply else old_reply)
      → new_answers ≡ answers ++ answer ∷ [] → state ≡ (next world step).state
      → new_replies ≡ replies ++ record { client = client; number = number; first = length d_beats; beats = length reply } ∷ [] → new_d_beats ≡ d_beats ++ reply
      → IsRunOf setup (before ++ step ∷ []) new_answers new_replies new_d_beats sent state
  grows_taken {reply = reply} old_reply client number gives is takes beats told becomes handed longer =
      let outcome = next world step in
      let last : Handed = record { client = client; number = number; first = length d_beats; beats = length reply } in
      let replied : outcome.answer ≡ Reply number = sym gives ∙ is in
      let given : reply ≡ outcome.reply = beats ∙ ap (λ answered. if is_reply answered then outcome.reply else old_reply) is in
      let no_burst = (tells_burst world step).sends_none (λ serial sent. let both : Sent serial ≡ Reply number = sym sent ∙ replied in cc) in
      let handed_is = ap (λ taken. handed_at taken outcome.answer outcome.reply) takes ∙ ap (λ answered. handed_at (Take client) answered outcome.reply) replied in
      let cut : AreCutFrom 0 (replies ++ last ∷ []) (length (d_beats ++ reply)) = rw (length-append d_beats reply) (AreCutFrom-append 0 replies (length d_beats) last ran.cut refl) in
      let pieces : handed_of (replies ++ last ∷ []) (d_beats ++ reply) ≡ handed_of replies d_beats ++ option_to_list (handed_at step outcome.answer outcome.reply) =
      cc (map-append (piece_of (d_beats ++ reply)) replies (last ∷ []), handed_of-append 0 replies d_beats reply ran.cut, piece_of-last last d_beats reply refl refl, handed_is, given) in
      grows (cc (told, gives)) (rw (handed, longer) cut) (rw (handed, longer) pieces) (rw no_burst (sym (append-nil sent))) becomes

-- ---- the laws along the steps

-- where they hold at each state so far, and at the next one
pub sound_next : (state : WorldState) (steps : List Step) (step : Step) → AreSoundAlong state steps → IsSoundWorld (after state (steps ++ step ∷ [])) → AreSoundAlong state (steps ++ step ∷ [])
sound_next state [] step along last = (along, last)
sound_next state (first ∷ steps) step along last = (along.0, sound_next (next state first).state steps step along.1 last)

-- where the record is that of the steps so far and one more, and they hold of its world
pub sound_after : {setup : SetupLists} (before : List Step) (step : Step) {answers : List Answer} {replies : List Handed} {d_beats : List DBeat} {sent : List SentBeat} {world : WorldState}
    → IsRunOf setup (before ++ step ∷ []) answers replies d_beats sent world → AreSoundAlong (opening_world setup) before → IsSoundWorld world
    → AreSoundAlong (opening_world setup) (before ++ step ∷ [])
sound_after {setup = setup} before step ran along last = sound_next (opening_world setup) before step along (subst IsSoundWorld ran.world_kept last)

-- ---- a set-up that made a world

-- it wasn't refused
pub not_refused : {A E : Type 0} (fault : Option E) (made : A) → IfSome fault (λ e. Ok made ≡ Err e) → fault ≡ None
not_refused fault made refused = grind (arith, refused)

-- so whatever is answered later
pub refused_later : {A B E : Type 0} (fault : Option E) (made : A) (later : Result B E) → IfSome fault (λ e. Ok made ≡ Err e) → IfSome fault (λ e. later ≡ Err e)
refused_later fault made later refused = subst (λ none. IfSome none (λ e. later ≡ Err e)) (sym (not_refused fault made refused)) tt

-- ---- all steps

-- the record of all steps taken is that of the run
pub ran_whole : {setup : SetupLists} (steps : List Step) (n : ℕ) {answers : List Answer} {replies : List Handed} {d_beats : List DBeat} {sent : List SentBeat} {world : WorldState}
    → length steps ≤ n → IsRunOf setup (take n steps) answers replies d_beats sent world → IsRunOf setup steps answers replies d_beats sent world
ran_whole {setup = setup} steps n {answers = answers} {replies = replies} {d_beats = d_beats} {sent = sent} {world = world} over ran =
    subst (λ taken. IsRunOf setup taken answers replies d_beats sent world) (take_all n steps over) ran
