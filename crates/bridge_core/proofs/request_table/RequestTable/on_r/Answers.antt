-- The answer belongs to the request that holds its ID.
use Rattle.std.proofs.Common.{◌≡◌, ◌∙◌, ap, refl, set, subst, sym}
use Rattle.std.specs.Prelude.{IsSomeAnd, is_some}
use Rattle.flight_table.specs.Order.{holds_id}
use Rattle.bridge_core.specs.Inside.{AwaitsBeat, kept_table, value_held}
use Rattle.bridge_core.specs.HeldRequests.{RequestTable, after_read, holder, with_read}
use Rattle.bridge_core.proofs.Serving.{beat_reads, holder_apart, read_fits}
use Rattle.bridge_core.proofs.TableSteps.{IsChanged}
use Rattle.bridge_core.proofs.request_table.RequestTable.on_r.Goals as goal

pub serving-key-requires : goal.serving-key-requires
serving-key-requires c =
    let i = c.self.inside in
    let awaits = subst (λ (t : RequestTable). IsSomeAnd (holder c.args.beat.now.id c.args.self.now.live) (AwaitsBeat t.config.axi_bytes c.args.beat.now)) (sym c.self.view_is) c.requires in
    holder_apart (kept_table i.config i.map i.flight i.held.items) c.args.self.now c.args.beat.now.id (AwaitsBeat i.config.axi_bytes c.args.beat.now) c.self.view_is awaits

pub on_r-requires : goal.on_r-requires
on_r-requires c = read_fits c.args.beat.now c.self.view_is c.self.invariant.1 c.self.invariant.0 c.serving-key.ensures c.slot.ensures.value c.slot.ensures.within c.index_mut-held.ensures.value c.requires

pub answer-requires-clause-live : goal.answer-requires-clause-live
answer-requires-clause-live c =
    ((beat_reads c.args.beat.now c.self.view_is c.self.invariant.1 c.self.invariant.0 c.serving-key.ensures c.slot.ensures.value c.slot.ensures.within c.index_mut-held.ensures.value c.requires c.on_r.ensures
    (c.is_some-found.ensures ∙ ap is_some c.old_value.ensures.value)).answers c.if-beat.true).live

pub answer-requires-clause-unanswered : goal.answer-requires-clause-unanswered
answer-requires-clause-unanswered c =
    ((beat_reads c.args.beat.now c.self.view_is c.self.invariant.1 c.self.invariant.0 c.serving-key.ensures c.slot.ensures.value c.slot.ensures.within c.index_mut-held.ensures.value c.requires c.on_r.ensures
    (c.is_some-found.ensures ∙ ap is_some c.old_value.ensures.value)).answers c.if-beat.true).unanswered

changed : (c : goal.After-answer) → IsChanged (kept_table c.self.inside.config c.self.inside.map c.self.inside.flight c.self.inside.held.items)
    (kept_table c.self.inside.config c.self.inside.map c.answer.new.flight (set c.self.inside.held.items c.slot.result c.on_r.new.self)) (holds_id c.args.beat.now.id)
    (after_read c.self.inside.config.axi_bytes c.args.beat.now)
changed c =
    ((beat_reads c.args.beat.now c.self.view_is c.self.invariant.1 c.self.invariant.0 c.serving-key.ensures c.slot.ensures.value c.slot.ensures.within c.index_mut-held.ensures.value c.requires c.on_r.ensures
    (c.is_some-found.ensures ∙ ap is_some c.old_value.ensures.value)).answers c.if-beat.true).changes c.answer.new.flight c.answer.ensures.state c.answer.ensures.laws

counted : (c : goal.After-self-else-beat-1) → IsChanged (kept_table c.self.inside.config c.self.inside.map c.self.inside.flight c.self.inside.held.items)
    (kept_table c.self.inside.config c.self.inside.map c.self.inside.flight (set c.self.inside.held.items c.slot.result c.on_r.new.self)) (holds_id c.args.beat.now.id)
    (after_read c.self.inside.config.axi_bytes c.args.beat.now)
counted c =
    let same : is_some (value_held c.on_r.new.self) ≡ is_some (value_held c.on_r.new.self) = refl in
    (beat_reads c.args.beat.now c.self.view_is c.self.invariant.1 c.self.invariant.0 c.serving-key.ensures c.slot.ensures.value c.slot.ensures.within c.index_mut-held.ensures.value c.requires c.on_r.ensures
    same).more c.if-beat.false

pub invariant_of-self : goal.invariant_of-self
invariant_of-self c = ((changed c).sound, (changed c).kept)

pub invariant_of-self-else-beat : goal.invariant_of-self-else-beat
invariant_of-self-else-beat c = ((counted c).sound, (counted c).kept)

pub returns-then-beat-clause-table : goal.returns-then-beat-clause-table
returns-then-beat-clause-table c = (changed c).table ∙ ap (λ (t : RequestTable). with_read c.args.beat.now t) c.self.view_is

pub returns-then-beat-clause-laws : goal.returns-then-beat-clause-laws
returns-then-beat-clause-laws c = (changed c).sound

pub returns-else-beat-clause-table : goal.returns-else-beat-clause-table
returns-else-beat-clause-table c = (counted c).table ∙ ap (λ (t : RequestTable). with_read c.args.beat.now t) c.self.view_is

pub returns-else-beat-clause-laws : goal.returns-else-beat-clause-laws
returns-else-beat-clause-laws c = (counted c).sound
