-- The model as it runs: a world, the reply that was taken last, and the last step's answer (this project's profile).
use Rattle.std.specs.Prelude.{ℕ, ◌≡◌, List, [], length, IsTrue, if◌then◌else◌, slice_get}
use Rattle.axi_beats.specs.Boxes.{w_beats_of}
use Rattle.tl_messages.specs.declared.DBeat.{DBeat}
use Rattle.setups.specs.Setups.{SetupLists}
use Rattle.world.specs.Choices.{LeadsTo}
use Rattle.world.specs.Laws.{IsDrained, IsSoundWorld, TakeAll}
use Rattle.world.specs.World.{Outcome, WorldState, byte_of, drained, enabled, in_flight, is_reply, leaves_all, next, opening_world, work_left}
use Rattle.world.specs.declared.Answer.{Answer}
use Rattle.world.specs.declared.Answer.TheVariants.{Nothing}
use Rattle.world.specs.declared.Step.{Step}
use Rattle.world_run.specs.InOrder.{IsForeseen, KeepsOrder}
use Rattle.world_run.specs.Serial.{Order}
use Rattle.call_words.specs.Answers.{byte_answer}
use Rattle.bridge_calls.specs.Answers.{answer_number, answer_payload, burst_address, burst_head, reply_fields, reply_payload, step_head, step_serial, w_payload, w_strobes}
use Rattle.bridge_calls.specs.declared.kinds.CallKind.{CallKind}
use Rattle.bridge_calls.specs.declared.kinds.CallKind.TheVariants as kind

pub record BridgeState : Type 0 where
  pub world : WorldState
  pub reply : List DBeat
  pub last : Answer

-- before the first step no reply was taken, and nothing answered
abbrev pub opening_bridge : SetupLists → BridgeState
opening_bridge setup = record { world = opening_world setup; reply = []; last = Nothing }

-- ---- steps

-- after an event: the reply changes where one was handed out
abbrev pub stepped_by : BridgeState → Outcome → BridgeState
stepped_by old outcome =
    record { world = outcome.state; reply = if is_reply outcome.answer then outcome.reply else old.reply; last = outcome.answer }

abbrev pub stepped : BridgeState → Step → BridgeState
stepped old step = stepped_by old (next old.world step)

-- what holds of a step
pub record AfterStep (old : BridgeState) (step : Step) (new : BridgeState) : Type 0 where
  pub state : new ≡ stepped old step
  pub kept : IsTrue (leaves_all new.last) → new.world ≡ old.world
  -- bridge and memory agree, before it as after it, and neither refuses what the other hands it
  pub laws_before : IsSoundWorld old.world
  pub laws : IsSoundWorld new.world
  pub take_all : TakeAll old.world
  -- memory, open bursts and gathered replies stay those of the accepted requests carried out one at a time
  pub order : (order : Order) → IsForeseen order old.world step → KeepsOrder order old.world → KeepsOrder order new.world

-- what holds of all steps that bridge and memory can make by themselves: they accept no request and take no reply
pub record AfterDrain (old : BridgeState) (made : ℕ) (new : BridgeState) : Type 0 where
  pub answer : made ≡ (drained old.world).0
  pub state : new ≡ record old { world = (drained old.world).1 }
  pub drains : IsDrained old.world made new.world
  -- each is the first that is enabled, and bridge and memory agree before it
  pub leads : LeadsTo old.world made new.world
  pub laws : IsSoundWorld new.world
  pub order : (order : Order) → KeepsOrder order old.world → KeepsOrder order new.world

-- ---- askings

-- what is asked of it, by the number that the asking has
abbrev pub asked_of : BridgeState → CallKind → ℕ → ℕ
asked_of bridge kind.AnswerNumber number = answer_number bridge.last
asked_of bridge kind.AnswerPayload number = answer_payload bridge.last
asked_of bridge kind.Choices number = length (enabled bridge.world)
asked_of bridge kind.Choice number = step_head (slice_get (enabled bridge.world) number)
asked_of bridge kind.ChoiceSerial number = step_serial (slice_get (enabled bridge.world) number)
asked_of bridge kind.Byte number = byte_answer (byte_of bridge.world number)
asked_of bridge kind.Work number = work_left bridge.world
asked_of bridge kind.InFlight number = in_flight bridge.world
asked_of bridge kind.Burst number = burst_head bridge.world.last_sent
asked_of bridge kind.BurstAddress number = burst_address bridge.world.last_sent
asked_of bridge kind.BurstData number = w_payload (slice_get (w_beats_of bridge.world.last_sent) number)
asked_of bridge kind.BurstStrobes number = w_strobes (slice_get (w_beats_of bridge.world.last_sent) number)
asked_of bridge kind.ReplyBeats number = length bridge.reply
asked_of bridge kind.ReplyFields number = reply_fields (slice_get bridge.reply number)
asked_of bridge kind.ReplyPayload number = reply_payload (slice_get bridge.reply number)
asked_of bridge _ number = 8589934595
