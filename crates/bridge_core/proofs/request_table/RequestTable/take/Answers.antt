-- The first done request of the client leaves.
use Rattle.std.proofs.Common.{◌≡◌, None, Some, ◌∙◌, ap, sym, refl, subst}
use Rattle.flight_table.specs.Tables.{is_done_of}
use Rattle.bridge_core.specs.Inside.{IsFirstAt, bridged, held_in, kept_table}
use Rattle.bridge_core.specs.HeldRequests.{RequestTable, oldest_done, without_done}
use Rattle.bridge_core.proofs.TableSteps.{none_joined, first_at, held_at, shown_at}
use Rattle.bridge_core.proofs.JoinedRequests.{IsTakenOut, taken_out}
use Rattle.bridge_core.proofs.request_table.RequestTable.take.Goals as goal

none_done : (c : goal.After-from_residual) → oldest_done c.args.self.now.live c.args.client ≡ None
none_done c = rw (← c.self.view_is) (none_joined (is_done_of c.args.client) c.self.inside.held.items c.self.inside.flight.entries (sym c.in_err-key.ensures.request))

pub returns-in_err-key-clause-number : goal.returns-in_err-key-clause-number
returns-in_err-key-clause-number c = rw (none_done c) c.from_residual.ensures

pub returns-in_err-key-clause-shown : goal.returns-in_err-key-clause-shown
returns-in_err-key-clause-shown c = rw (none_done c) tt

pub returns-in_err-key-clause-right : goal.returns-in_err-key-clause-right
returns-in_err-key-clause-right c = rw (none_done c) tt

first : (c : goal.After-hand_out) → IsFirstAt (is_done_of c.args.client) c.self.inside.flight c.in_ok-key.key
first c = first_at (is_done_of c.args.client) c.self.inside.flight c.in_ok-key.key c.in_ok-key.ensures.laws (sym c.in_ok-key.ensures.key)

taken : (c : goal.After-hand_out) → IsTakenOut (kept_table c.self.inside.config c.self.inside.map c.self.inside.flight c.self.inside.held.items)
    (kept_table c.self.inside.config c.self.inside.map c.hand_out.new.flight c.self.inside.held.items) c.args.client
taken c =
    let i = c.self.inside in
    taken_out (kept_table i.config i.map i.flight i.held.items) c.hand_out.new.flight c.args.client c.in_ok-key.key c.self.invariant.1 c.self.invariant.0 (first c) c.hand_out.ensures.state c.hand_out.ensures.laws

pub invariant_of-self : goal.invariant_of-self
invariant_of-self c = ((taken c).sound, (taken c).kept)

found : (c : goal.After-hand_out) → oldest_done c.args.self.now.live c.args.client ≡ Some (bridged (first c).request (held_in c.self.inside.held.items c.in_ok-key.key))
found c =
    let i = c.self.inside in
    subst (λ (t : RequestTable). oldest_done t.live c.args.client ≡ Some (bridged (first c).request (held_in i.held.items c.in_ok-key.key))) c.self.view_is
    (shown_at (is_done_of c.args.client) (kept_table i.config i.map i.flight i.held.items) c.in_ok-key.key (first c))

pub returns-clause-number : goal.returns-clause-number
returns-clause-number c = rw (found c) (sym c.hand_out.ensures.number ∙ rw (first c).named refl)

held : (c : goal.After-hand_out) → c.index-held.result.now ≡ held_in c.self.inside.held.items c.in_ok-key.key
held c =
    let i = c.self.inside in
    held_at (kept_table i.config i.map i.flight i.held.items) c.in_ok-key.key c.slot.result c.index-held.result.now c.self.invariant.1 c.slot.ensures.value c.slot.ensures.within c.index-held.ensures

pub returns-clause-shown : goal.returns-clause-shown
returns-clause-shown c = rw (found c, ← held c) c.hand_out.ensures.shown

pub returns-clause-right : goal.returns-clause-right
returns-clause-right c = rw (found c, ← held c) c.hand_out.ensures.right

pub returns-clause-table : goal.returns-clause-table
returns-clause-table c = λ some. (taken c).table ∙ ap (λ (t : RequestTable). without_done c.args.client t) c.self.view_is

pub returns-clause-laws : goal.returns-clause-laws
returns-clause-laws c = (taken c).sound
