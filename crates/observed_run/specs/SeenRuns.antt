-- What an observer at the ports sees of a run of the world: each beat that is taken there, in the order of events. It knows an event by its
-- outcome; what a beat means, and whether it is right, is hidden.
use Rattle.std.specs.Prelude.{ℕ, List, [], ◌∷◌, ◌++◌, map, Option, Some, None}
use Rattle.tl_messages.specs.declared.DBeat.{DBeat}
use Rattle.axi_beats.specs.Bursts.{Burst, WriteBurst, ReadBurst}
use Rattle.axi_checker.specs.declared.AxiBeat.TheVariants.{Ar as OnAr, Aw as OnAw, B as OnB, R as OnR, W as OnW}
use Rattle.setups.specs.Setups.{SetupLists}
use Rattle.world.specs.World.{Outcome, WorldState, next, opening_world}
use Rattle.world.specs.declared.Answer.{Answer}
use Rattle.world.specs.declared.Answer.TheVariants as answer
use Rattle.world.specs.declared.Step.{Step}
use Rattle.world.specs.declared.Step.TheVariants as step
use Rattle.scoreboard.specs.declared.ObservedBeat.{ObservedBeat}
use Rattle.scoreboard.specs.declared.ObservedBeat.TheVariants.{A, D, Axi}

-- the beats of a burst as it is sent, if one is
abbrev pub seen_of_burst : Option Burst → List ObservedBeat
seen_of_burst None = []
seen_of_burst (Some (WriteBurst aw data_beats)) = Axi (OnAw aw) ∷ map (λ beat. Axi (OnW beat)) data_beats
seen_of_burst (Some (ReadBurst ar)) = Axi (OnAr ar) ∷ []

-- the beats of a reply on its client's channel D
abbrev pub seen_of_reply : ℕ → List DBeat → List ObservedBeat
seen_of_reply client beats = map (λ beat. D client beat) beats

-- the beats that an event shows, by its answer, the burst that it sent and the reply that it handed out: an offered beat only where it is taken,
-- and nothing of what happens inside
abbrev pub seen_by : Step → Answer → Option Burst → List DBeat → List ObservedBeat
seen_by (step.Offer client beat) answer.More burst reply = A client beat ∷ []
seen_by (step.Offer client beat) (answer.Accepted number) burst reply = A client beat ∷ []
seen_by step.Pump (answer.Sent serial) burst reply = seen_of_burst burst
seen_by (step.AnswerB id) (answer.B b) burst reply = Axi (OnB b) ∷ []
seen_by (step.AnswerR id) (answer.R r) burst reply = Axi (OnR r) ∷ []
seen_by (step.Take client) (answer.Reply number) burst reply = seen_of_reply client reply
seen_by _ _ burst reply = []

-- the same, of an event and what it gives
abbrev pub seen_of : Step → Outcome → List ObservedBeat
seen_of event outcome = seen_by event outcome.answer outcome.burst outcome.reply

-- what a list of events shows, one after another
abbrev pub seen_from : WorldState → List Step → List ObservedBeat
seen_from state [] = []
seen_from state (event ∷ events) = seen_of event (next state event) ++ seen_from (next state event).state events

-- what a run shows
abbrev pub observed : SetupLists → List Step → List ObservedBeat
observed setup events = seen_from (opening_world setup) events
