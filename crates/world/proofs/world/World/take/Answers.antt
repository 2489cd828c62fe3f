-- Bridge and memory agree after a reply left; where none leaves, all stays as it was.
use Rattle.std.proofs.Common.{◌≡◌, ◌∙◌, None, Option, ap, refl, subst, sym}
use Rattle.std.specs.Prelude.{IfSome, IsSome}
use Rattle.bridge_core.specs.Bridge.{StockedBridge, taken}
use Rattle.bridge_core.specs.HeldRequests.{BridgedRequest, reply_beats}
use Rattle.bridge_core.specs.declared.Taken.TheVariants.{NoClient, Nothing, Reply}
use Rattle.world.specs.Inside.{ArePaired, world_state}
use Rattle.world.specs.Laws.{Agree, IsSoundWorld}
use Rattle.world.specs.World.{Outcome}
use Rattle.world.proofs.Taking.{none_there, paired_taken, reply_of, take_nothing, take_nowhere, take_reply}
use Rattle.world.proofs.world.World.take.Goals as goal

pub invariant_of-self-in-Reply : goal.invariant_of-self-in-Reply
invariant_of-self-in-Reply c =
    let reply = reply_of c.self.inside.bridge.state c.args.client c.in-Reply.number (sym c.take.ensures.answer ∙ c.in-Reply.is) in
    let left = c.take.ensures.left (subst IsSome (sym reply.found) refl) in
    (paired_taken c.self.inside.bridge c.take.new.self c.self.inside.device c.args.client reply.request c.self.invariant.0 reply.found left c.take.ensures.laws, c.self.invariant.1)

pub returns-in-Reply-clause-laws : goal.returns-in-Reply-clause-laws
returns-in-Reply-clause-laws c =
    let reply = reply_of c.self.inside.bridge.state c.args.client c.in-Reply.number (sym c.take.ensures.answer ∙ c.in-Reply.is) in
    let left = c.take.ensures.left (subst IsSome (sym reply.found) refl) in (
      subst IsSoundWorld c.self.view_is c.self.invariant.0.agree,
      (paired_taken c.self.inside.bridge c.take.new.self c.self.inside.device c.args.client reply.request c.self.invariant.0 reply.found left c.take.ensures.laws).agree,
    )

-- ---- no reply leaves

nowhere : (c : goal.In-NoClient) → taken c.self.inside.bridge.state c.args.client ≡ NoClient
nowhere c = sym c.take.ensures.answer ∙ c.in-NoClient.is

nothing : (c : goal.In-Nothing) → taken c.self.inside.bridge.state c.args.client ≡ Nothing
nothing c = sym c.take.ensures.answer ∙ c.in-Nothing.is

kept_nowhere : (c : goal.In-NoClient) → (c.take.new.self ≡ c.self.inside.bridge) × (c.take.new.reply ≡ c.args.reply.now)
kept_nowhere c = c.take.ensures.kept (none_there c.self.inside.bridge.state c.args.client (λ number is. absurd (cc (is, nowhere c))))

kept_nothing : (c : goal.In-Nothing) → (c.take.new.self ≡ c.self.inside.bridge) × (c.take.new.reply ≡ c.args.reply.now)
kept_nothing c = c.take.ensures.kept (none_there c.self.inside.bridge.state c.args.client (λ number is. absurd (cc (is, nothing c))))

pub invariant_of-self-in-Nothing : goal.invariant_of-self-in-Nothing
invariant_of-self-in-Nothing c = (subst (λ (bridge : StockedBridge). ArePaired bridge c.self.inside.device) (sym (kept_nothing c).0) c.self.invariant.0, c.self.invariant.1)

pub returns-in-NoClient-clause-answer : goal.returns-in-NoClient-clause-answer
returns-in-NoClient-clause-answer c =
    rw (← c.self.view_is)
    (sym (ap (λ (o : Outcome). o.answer) (take_nowhere (world_state c.self.inside.bridge c.self.inside.device c.self.inside.last_sent) c.args.client (nowhere c))))

pub returns-in-NoClient-clause-state : goal.returns-in-NoClient-clause-state
returns-in-NoClient-clause-state c =
    rw (← c.self.view_is)
    (ap (λ (bridge : StockedBridge). world_state bridge c.self.inside.device c.self.inside.last_sent) (kept_nowhere c).0
    ∙ sym (ap (λ (o : Outcome). o.state) (take_nowhere (world_state c.self.inside.bridge c.self.inside.device c.self.inside.last_sent) c.args.client (nowhere c))))

pub returns-in-NoClient-clause-laws : goal.returns-in-NoClient-clause-laws
returns-in-NoClient-clause-laws c = (
  subst IsSoundWorld c.self.view_is c.self.invariant.0.agree,
  subst (λ (bridge : StockedBridge). Agree bridge.state c.self.inside.device.memory) (sym (kept_nowhere c).0) c.self.invariant.0.agree,
)

pub returns-in-NoClient-clause-reply : goal.returns-in-NoClient-clause-reply
returns-in-NoClient-clause-reply c = (kept_nowhere c).1

pub returns-in-Nothing-clause-answer : goal.returns-in-Nothing-clause-answer
returns-in-Nothing-clause-answer c =
    rw (← c.self.view_is)
    (sym (ap (λ (o : Outcome). o.answer) (take_nothing (world_state c.self.inside.bridge c.self.inside.device c.self.inside.last_sent) c.args.client (nothing c))))

pub returns-in-Nothing-clause-state : goal.returns-in-Nothing-clause-state
returns-in-Nothing-clause-state c =
    rw (← c.self.view_is)
    (ap (λ (bridge : StockedBridge). world_state bridge c.self.inside.device c.self.inside.last_sent) (kept_nothing c).0
    ∙ sym (ap (λ (o : Outcome). o.state) (take_nothing (world_state c.self.inside.bridge c.self.inside.device c.self.inside.last_sent) c.args.client (nothing c))))

pub returns-in-Nothing-clause-laws : goal.returns-in-Nothing-clause-laws
returns-in-Nothing-clause-laws c = (
  subst IsSoundWorld c.self.view_is c.self.invariant.0.agree,
  subst (λ (bridge : StockedBridge). Agree bridge.state c.self.inside.device.memory) (sym (kept_nothing c).0) c.self.invariant.0.agree,
)

pub returns-in-Nothing-clause-reply : goal.returns-in-Nothing-clause-reply
returns-in-Nothing-clause-reply c = (kept_nothing c).1

-- ---- a reply leaves

pub returns-in-Reply-clause-answer : goal.returns-in-Reply-clause-answer
returns-in-Reply-clause-answer c =
    let told : taken c.self.inside.bridge.state c.args.client ≡ Reply c.in-Reply.number = sym c.take.ensures.answer ∙ c.in-Reply.is in
    let reply = reply_of c.self.inside.bridge.state c.args.client c.in-Reply.number told in
    rw (← c.self.view_is)
    (sym (ap (λ (o : Outcome). o.answer) (take_reply (world_state c.self.inside.bridge c.self.inside.device c.self.inside.last_sent) c.args.client c.in-Reply.number reply.request told reply.found)))

pub returns-in-Reply-clause-state : goal.returns-in-Reply-clause-state
returns-in-Reply-clause-state c =
    let told : taken c.self.inside.bridge.state c.args.client ≡ Reply c.in-Reply.number = sym c.take.ensures.answer ∙ c.in-Reply.is in
    let reply = reply_of c.self.inside.bridge.state c.args.client c.in-Reply.number told in
    rw (← c.self.view_is)
    (ap (λ (bridge : StockedBridge). world_state bridge c.self.inside.device None) (c.take.ensures.left (subst IsSome (sym reply.found) refl))
    ∙ sym (ap (λ (o : Outcome). o.state) (take_reply (world_state c.self.inside.bridge c.self.inside.device c.self.inside.last_sent) c.args.client c.in-Reply.number reply.request told reply.found)))

pub returns-in-Reply-clause-reply : goal.returns-in-Reply-clause-reply
returns-in-Reply-clause-reply c =
    let told : taken c.self.inside.bridge.state c.args.client ≡ Reply c.in-Reply.number = sym c.take.ensures.answer ∙ c.in-Reply.is in
    let reply = reply_of c.self.inside.bridge.state c.args.client c.in-Reply.number told in
    let shown : c.take.new.reply ≡ reply_beats reply.request = subst (λ (found : Option BridgedRequest). IfSome found (λ request. c.take.new.reply ≡ reply_beats request)) reply.found c.take.ensures.shown in
    rw (← c.self.view_is)
    (shown ∙ sym (ap (λ (o : Outcome). o.reply) (take_reply (world_state c.self.inside.bridge c.self.inside.device c.self.inside.last_sent) c.args.client c.in-Reply.number reply.request told reply.found)))
