-- The answer belongs to the request that holds its ID.
use Rattle.std.proofs.Common.{true, ◌∙◌, ap, set}
use Rattle.std.specs.Prelude.{is_some}
use Rattle.flight_table.specs.Order.{holds_id}
use Rattle.bridge_core.specs.Inside.{AwaitsAnswer, kept_table}
use Rattle.bridge_core.specs.HeldRequests.{RequestTable, after_response, with_response}
use Rattle.bridge_core.proofs.Serving.{holder_apart, response_answers}
use Rattle.bridge_core.proofs.TableSteps.{IsChanged}
use Rattle.bridge_core.proofs.request_table.RequestTable.on_b.Goals as goal

pub serving-key-requires : goal.serving-key-requires
serving-key-requires c =
    let i = c.self.inside in
    holder_apart (kept_table i.config i.map i.flight i.held.items) c.args.self.now c.args.beat.now.id (AwaitsAnswer true) c.self.view_is c.requires

pub answer-requires-clause-live : goal.answer-requires-clause-live
answer-requires-clause-live c =
    (response_answers c.args.beat.now.id c.self.view_is c.self.invariant.1 c.self.invariant.0 c.serving-key.ensures c.slot.ensures.value c.slot.ensures.within c.index_mut-held.ensures.value c.args.beat.now.resp c.requires
    c.on_b.ensures (c.is_some-found.ensures ∙ ap is_some c.old_value.ensures.value)).live

pub answer-requires-clause-unanswered : goal.answer-requires-clause-unanswered
answer-requires-clause-unanswered c =
    (response_answers c.args.beat.now.id c.self.view_is c.self.invariant.1 c.self.invariant.0 c.serving-key.ensures c.slot.ensures.value c.slot.ensures.within c.index_mut-held.ensures.value c.args.beat.now.resp c.requires
    c.on_b.ensures (c.is_some-found.ensures ∙ ap is_some c.old_value.ensures.value)).unanswered

changed : (c : goal.After-answer) → IsChanged (kept_table c.self.inside.config c.self.inside.map c.self.inside.flight c.self.inside.held.items)
    (kept_table c.self.inside.config c.self.inside.map c.answer.new.flight (set c.self.inside.held.items c.slot.result c.on_b.new.self)) (holds_id c.args.beat.now.id) (after_response c.args.beat.now.resp)
changed c =
    (response_answers c.args.beat.now.id c.self.view_is c.self.invariant.1 c.self.invariant.0 c.serving-key.ensures c.slot.ensures.value c.slot.ensures.within c.index_mut-held.ensures.value c.args.beat.now.resp c.requires
    c.on_b.ensures (c.is_some-found.ensures ∙ ap is_some c.old_value.ensures.value)).changes c.answer.new.flight c.answer.ensures.state c.answer.ensures.laws

pub invariant_of-self : goal.invariant_of-self
invariant_of-self c = ((changed c).sound, (changed c).kept)

pub returns-clause-table : goal.returns-clause-table
returns-clause-table c = (changed c).table ∙ ap (λ (t : RequestTable). with_response c.args.beat.now.id c.args.beat.now.resp t) c.self.view_is

pub returns-clause-laws : goal.returns-clause-laws
returns-clause-laws c = (changed c).sound
