-- The request that goes next is found with what is kept of it, and its burst is filled from that.
use Rattle.std.proofs.Common.{◌≡◌, true, Option, None, Some, sym, ◌∙◌, ap, refl, subst}
use Rattle.std.specs.Prelude.{IfSome}
use Rattle.std.proofs.lemmas.Option.{same_Some}
use Rattle.axi_beats.specs.Bursts.{Burst}
use Rattle.burst_plan.specs.Pieces.{PlannedRange}
use Rattle.flight_table.specs.Order.{is_ready}
use Rattle.flight_table.specs.Tables.{request_at, table_of}
use Rattle.bridge_core.specs.Inside.{CanFill, HeldRequest, IsFirstAt, bridged, held_in, kept_table}
use Rattle.bridge_core.specs.Sending.{burst_of_piece, next_sending}
use Rattle.bridge_core.proofs.BurstsToSend.{IsGoing, IsSentTable, can_fill, going, none_ready, sent_table, some_ready}
use Rattle.bridge_core.proofs.TableSteps.{first_at, held_at}
use Rattle.bridge_core.proofs.request_table.RequestTable.send.Goals.{else-is_write, then-is_write}
use Rattle.bridge_core.proofs.request_table.RequestTable.send.Goals as goal

pub unwrap-burst-requires : goal.unwrap-burst-requires
unwrap-burst-requires c =
    let i = c.self.inside in
    let at = first_at (is_ready (table_of i.flight)) i.flight c.in_ok-key.key c.in_ok-key.ensures.laws (sym c.in_ok-key.ensures.key) in
    c.pop.ensures.variant.1 (c.requires (some_ready (kept_table i.config i.map i.flight i.held.items) c.args.self.now c.in_ok-key.key c.self.view_is c.self.invariant.1 at))

pub fill-requires : goal.fill-requires
fill-requires c =
    let i = c.self.inside in
    let kept = kept_table i.config i.map i.flight i.held.items in
    let key = c.in_ok-key.key in
    let at = first_at (is_ready (table_of i.flight)) i.flight key c.in_ok-key.ensures.laws (sym c.in_ok-key.ensures.key) in
    let goes = going kept key c.unwrap-plan.result true c.next_piece-piece.result c.sent-id.result c.self.invariant.1 c.self.invariant.0 at
    (record {
      plan_is = c.plan.ensures ∙ ap (λ (o : Option PlannedRange). Some o) c.unwrap-plan.ensures;
      write_is = subst (λ b. IfSome (request_at key i.flight) (λ r. r.writing ≡ b)) c.if-is_write.true c.next_is_write-is_write.ensures;
      piece_is = c.next_piece-piece.ensures;
      id_is = c.sent-id.ensures.id;
    }) in
    subst (λ (h : HeldRequest). CanFill h c.unwrap-plan.result c.next_piece-piece.result)
    (sym (held_at kept key c.slot-slot.result c.index.result.now c.self.invariant.1 c.slot-slot.ensures.value c.slot-slot.ensures.within c.index.ensures))
    (can_fill kept key c.unwrap-plan.result c.next_piece-piece.result c.sent-id.result goes)

first : (c : goal.Joined-is_write) → IsFirstAt (is_ready (table_of c.self.inside.flight)) c.self.inside.flight c.in_ok-key.key
first c = first_at (is_ready (table_of c.self.inside.flight)) c.self.inside.flight c.in_ok-key.key c.in_ok-key.ensures.laws (sym c.in_ok-key.ensures.key)

goes : (c : goal.Joined-is_write)
    → IsGoing (kept_table c.self.inside.config c.self.inside.map c.self.inside.flight c.self.inside.held.items) c.in_ok-key.key c.unwrap-plan.result c.next_is_write-is_write.result c.next_piece-piece.result c.sent-id.result
goes c =
    going (kept_table c.self.inside.config c.self.inside.map c.self.inside.flight c.self.inside.held.items) c.in_ok-key.key c.unwrap-plan.result c.next_is_write-is_write.result c.next_piece-piece.result c.sent-id.result
    c.self.invariant.1 c.self.invariant.0 (first c)
    (record {
      plan_is = c.plan.ensures ∙ ap (λ (o : Option PlannedRange). Some o) c.unwrap-plan.ensures;
      write_is = c.next_is_write-is_write.ensures;
      piece_is = c.next_piece-piece.ensures;
      id_is = c.sent-id.ensures.id;
    })

sent : (c : goal.Joined-is_write) → IsSentTable (kept_table c.self.inside.config c.self.inside.map c.self.inside.flight c.self.inside.held.items)
    (kept_table c.self.inside.config c.self.inside.map c.sent-id.new.self c.self.inside.held.items) (first c).request.number c.sent-id.result
sent c =
    sent_table (kept_table c.self.inside.config c.self.inside.map c.self.inside.flight c.self.inside.held.items) c.sent-id.new.self c.in_ok-key.key c.sent-id.result c.self.invariant.1 c.self.invariant.0 (first c)
    (rw c.slot-slot.ensures.value at c.slot-slot.ensures.within) c.sent-id.ensures.state c.sent-id.ensures.laws

pub invariant_of-self : goal.invariant_of-self
invariant_of-self c = ((sent c).sound, (sent c).kept)

none_goes : (c : goal.After-from_residual) → next_sending c.args.self.now ≡ None
none_goes c =
    let i = c.self.inside in
    none_ready (kept_table i.config i.map i.flight i.held.items) c.args.self.now c.self.view_is c.self.invariant.1 (sym c.in_err-key.ensures.request)

pub returns-in_err-key-clause-burst : goal.returns-in_err-key-clause-burst
returns-in_err-key-clause-burst c = rw (none_goes c) c.from_residual.ensures

pub returns-in_err-key-clause-table : goal.returns-in_err-key-clause-table
returns-in_err-key-clause-table c = rw (none_goes c) tt

pub returns-clause-burst : goal.returns-clause-burst
returns-clause-burst c = rw (← c.self.view_is, (goes c).sending) (ap (λ (burst : Option Burst). Some burst) by_branch)
  where
    one : HeldRequest
    one = held_in c.self.inside.held.items c.in_ok-key.key

    by_branch : c.if-is_write.burst ≡ Some (burst_of_piece c.sent-id.result (bridged (goes c).request one) c.unwrap-plan.result c.next_piece-piece.result)
    by_branch =
        elim c.if-is_write.branch [
          | then-is_write w ↦
              let i = c.self.inside in
              let there = held_at (kept_table i.config i.map i.flight i.held.items) c.in_ok-key.key c.slot-slot.result w.index.result.now c.self.invariant.1 c.slot-slot.ensures.value c.slot-slot.ensures.within w.index.ensures in
              w.burst-is ∙ w.fill.ensures ∙ rw (there, (goes c).writes, w.if-is_write.true) refl
          | else-is_write w ↦ w.burst-is ∙ w.set_read.ensures ∙ rw ((goes c).writes, w.if-is_write.false) refl
        ]

pub returns-clause-table : goal.returns-clause-table
returns-clause-table c =
    let same : (first c).request ≡ (goes c).request = same_Some (first c).request (goes c).request (sym (first c).named ∙ (goes c).named) in
    rw (← c.self.view_is, (goes c).sending, ← same) (sent c).table

pub returns-clause-laws : goal.returns-clause-laws
returns-clause-laws c = (sent c).sound
