-- What one event shows, as the world tells it: its answer, the burst that it sent last, and the box with the last reply.
use Rattle.std.proofs.Common.{◌≡◌, ℕ, ◌+◌, ◌≤◌, true, List, [], ◌∷◌, ◌++◌, map, length, take, Option, Some, None, if◌then◌else◌, refl, sym, ◌∙◌, subst}
use Rattle.std.specs.Prelude.{slice_get}
use Rattle.std.proofs.lemmas.List.{append-nil, append_assoc, take_all}
use Rattle.bus_words.proofs.MappedPlaces.{map-take-next}
use Rattle.tl_messages.specs.declared.DBeat.{DBeat}
use Rattle.axi_beats.specs.Bursts.{Burst}
use Rattle.world.specs.Laws.{AreSoundAlong, IsSoundWorld}
use Rattle.setups.specs.Setups.{SetupLists}
use Rattle.world.specs.World.{Outcome, WorldState, after, is_reply, leaves_all, next, opening_world}
use Rattle.world.specs.declared.Answer.{Answer}
use Rattle.world.specs.declared.Answer.TheVariants as answer
use Rattle.world.specs.declared.Step.{Step}
use Rattle.world.specs.declared.Step.TheVariants as step
use Rattle.world.proofs.Events.{EachWay, each_way}
use Rattle.world_run.proofs.RunLemmas.{after-append}
use Rattle.world_run.proofs.RunLoop.{sound_next}
use Rattle.observed_run.specs.SeenRuns.{observed, seen_by, seen_from, seen_of}
use Rattle.scoreboard.specs.declared.ObservedBeat.{ObservedBeat}

-- an answer that leaves all as it is shows nothing
pub quiet_seen : (event : Step) (told : Answer) (burst : Option Burst) (reply : List DBeat) → leaves_all told ≡ true → seen_by event told burst reply ≡ []
quiet_seen (step.Offer client beat) answer.More burst reply still = absurd (cc (still))
quiet_seen (step.Offer client beat) (answer.Accepted number) burst reply still = absurd (cc (still))
quiet_seen step.Pump (answer.Sent serial) burst reply still = absurd (cc (still))
quiet_seen (step.AnswerB id) (answer.B b) burst reply still = absurd (cc (still))
quiet_seen (step.AnswerR id) (answer.R r) burst reply still = absurd (cc (still))
quiet_seen (step.Take client) (answer.Reply number) burst reply still = absurd (cc (still))
quiet_seen _ _ burst reply still = refl

-- what a step left in the world and in the box shows the same: the burst that was sent last is the event's own where it sent one, and the box has its
-- reply where it handed one out
pub seen_answered : (state new : WorldState) (event : Step) (told : Answer) (burst : Option Burst) (box reply : List DBeat) → told ≡ (next state event).answer → new ≡ (next state event).state
    → burst ≡ new.last_sent → reply ≡ (if is_reply told then (next state event).reply else box) → seen_by event told burst reply ≡ seen_of event (next state event)
seen_answered state new event told burst box reply answers becomes sent kept = rw (kept, sent, becomes, answers) (each_way Goes state ways event)
  where
    Goes : Step → Outcome → Type 0
    Goes its outcome = seen_by its outcome.answer outcome.state.last_sent (if is_reply outcome.answer then outcome.reply else box) ≡ seen_of its outcome

    ways : EachWay Goes state
    ways =
        record {
          quiet = λ its told still. quiet_seen its told state.last_sent (if is_reply told then [] else box) still ∙ sym (quiet_seen its told None [] still);
          begins = λ client beat taken. refl;
          accepts = λ client beat accepted. refl;
          sends = λ sending sent. refl;
          performs = λ serial beat memory done. refl;
          gives_b = λ id b given. refl;
          gives_r = λ id r given. refl;
          hands_out = λ client request known first. refl;
        }

-- ---- one item more of a list that is shown

pub shown_more : {X Y : Type 0} (f : X → Y) (old all : List Y) (xs : List X) (k : ℕ) (x : X) → all ≡ old ++ map f (take k xs) → slice_get xs k ≡ Some x
    → all ++ f x ∷ [] ≡ old ++ map f (take (k + 1) xs)
shown_more f old all xs k x so_far there =
    cc (so_far, map-take-next f xs k x there, append_assoc old (map f (take k xs)) (f x ∷ []))

-- ---- a list of events, one after another

-- what was seen of events from the opening on, the world after them, and the laws along them
pub record HasSeen (setup : SetupLists) (events : List Step) (seen : List ObservedBeat) (world : WorldState) : Type 0 where
  pub shown : seen ≡ observed setup events
  pub becomes : world ≡ after (opening_world setup) events
  pub along : AreSoundAlong (opening_world setup) events

seen_from-append : (state : WorldState) (events : List Step) (event : Step) → seen_from state (events ++ event ∷ []) ≡ seen_from state events ++ seen_of event (next (after state events) event)
seen_from-append state [] event = append-nil (seen_of event (next state event))
seen_from-append state (first ∷ events) event =
    rw (seen_from-append (next state first).state events event)
    (sym (append_assoc (seen_of first (next state first)) (seen_from (next state first).state events) (seen_of event (next (after (next state first).state events) event))))

pub seen_more : (setup : SetupLists) (before : List Step) (event : Step) (seen new_seen : List ObservedBeat) (world new_world : WorldState) → HasSeen setup before seen world
    → new_seen ≡ seen ++ seen_of event (next world event) → new_world ≡ (next world event).state → IsSoundWorld new_world → HasSeen setup (before ++ event ∷ []) new_seen new_world
seen_more setup before event seen new_seen world new_world has shows becomes sound =
    let now : new_world ≡ after (opening_world setup) (before ++ event ∷ []) = cc (becomes, has.becomes, after-append (opening_world setup) before event) in
    record {
      shown = cc (shows, has.shown, has.becomes, seen_from-append (opening_world setup) before event);
      becomes = now;
      along = sound_next (opening_world setup) before event has.along (subst IsSoundWorld now sound);
    }

-- all of them
pub seen_whole : (setup : SetupLists) (events : List Step) (n : ℕ) (seen : List ObservedBeat) (world : WorldState) → length events ≤ n → HasSeen setup (take n events) seen world → HasSeen setup events seen world
seen_whole setup events n seen world over has = subst (λ (taken : List Step). HasSeen setup taken seen world) (take_all n events over) has
