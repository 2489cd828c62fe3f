-- What the client's port says of the beat decides.
use Rattle.std.proofs.Common.{arith}
use Rattle.std.proofs.lemmas.Grind.{common_steps}
use Rattle.std.proofs.Common.{◌≡◌, ◌∙◌, ℕ, Bool, List, Option, None, Some, Ok, Err, ap, sym, subst}
use Rattle.std.proofs.lemmas.Option.{IfSome_then}
use Rattle.std.specs.Prelude.{IfSome, Result, slice_get, slice_set}
use Rattle.std.specs.Vec.{vec_len}
use Rattle.tl_messages.specs.declared.ABeat.{ABeat}
use Rattle.tl_checker.specs.Ports.{PortState, judged, port_after}
use Rattle.tl_checker.specs.declared.Progress.{Progress}
use Rattle.tl_checker.specs.declared.Progress.TheVariants.{More, Whole}
use Rattle.tl_checker.specs.declared.TlRule.{TlRule}
use Rattle.bridge_core.specs.Inside.{held_back}
use Rattle.bridge_core.specs.HeldRequests.{RequestTable}
use Rattle.bridge_core.specs.declared.Offered.{Offered}
use Rattle.bridge_core.specs.declared.Offered.TheVariants as offer
use Rattle.bridge_core.proofs.OfferSteps.{refused_kept, IsMade, can_accept, is_empty, made_back, made_more, made_refused, made_whole, offering}
use Rattle.bridge_core.proofs.bridge.Bridge.offer.Goals as goal

-- what its port told of a beat, and what it leaves
abbrev Told : List PortState → ℕ → ABeat → Bool → Result Progress TlRule → Type 0
Told ports client beat busy told = IfSome (slice_get ports client) (λ port. told ≡ judged port.limits port.front beat busy)

abbrev IsLeft : List PortState → ℕ → ABeat → Result Progress TlRule → List PortState → Type 0
IsLeft ports client beat told new_ports = IfSome (slice_get ports client) (λ port. new_ports ≡ slice_set ports client (port_after port beat told))

abbrev taken : Progress → Result Progress TlRule
taken progress = Ok progress

ok_is : (told : Result Progress TlRule) (given progress : Progress) → told ≡ Ok given → given ≡ progress → told ≡ Ok progress
ok_is told given progress is same = is ∙ ap (λ (p : Progress). taken p) same

-- whether it has to wait
backs : (ports : List PortState) (requests : RequestTable) (client : ℕ) (beat : ABeat) (busy : Bool) (told : Result Progress TlRule) (answer : Option Offered)
    → Told ports client beat busy told → answer ≡ held_back requests client told → IfSome (slice_get ports client) (λ port. answer ≡ held_back requests client (judged port.limits port.front beat busy))
backs ports requests client beat busy told answer is back = IfSome_then (slice_get ports client) is (λ port judged_is. back ∙ ap (held_back requests client) judged_is)

pub judge-told-requires : goal.judge-told-requires
judge-told-requires c = rw c.deref.ensures.value (is_empty (offering {beat = c.args.beat.now} c.self.invariant.0 c.self.invariant.1 c.self.view_is c.config.ensures c.if-client-config.false c.busy-busy.ensures c.flight.ensures.table))

pub take_told-requires-clause-whole : goal.take_told-requires-clause-whole
take_told-requires-clause-whole c = is_empty (offering {beat = c.args.beat.now} c.self.invariant.0 c.self.invariant.1 c.self.view_is c.config.ensures c.if-client-config.false c.busy-busy.ensures c.flight.ensures.table)

pub take_told-requires-clause-told : goal.take_told-requires-clause-told
take_told-requires-clause-told c = subst (λ ports. Told ports c.args.client c.args.beat.now c.busy-busy.result c.judge-told.result) c.deref.ensures.value c.judge-told.ensures

-- ---- it has to wait

back : (c : goal.In-Some) → IsMade c.self.inside.requests c.self.inside.monitor.open_bursts c.args.client c.args.beat.now (vec_len c.self.inside.stock) c.args.self.now c.self.inside.ports.items c.self.inside.requests c.in-Some.answer
back c =
    let told : Told c.self.inside.ports.items c.args.client c.args.beat.now c.busy-busy.result c.judge-told.result = subst (λ ports. Told ports c.args.client c.args.beat.now c.busy-busy.result c.judge-told.result) c.deref.ensures.value c.judge-told.ensures in
    made_back (offering {beat = c.args.beat.now} c.self.invariant.0 c.self.invariant.1 c.self.view_is c.config.ensures c.if-client-config.false c.busy-busy.ensures c.flight.ensures.table) c.in-Some.answer
    (backs c.self.inside.ports.items c.self.inside.requests c.args.client c.args.beat.now c.busy-busy.result c.judge-told.result (Some c.in-Some.answer) told (sym c.in-Some.is ∙ c.held_back.ensures))

pub returns-in-Some-clause-answer : goal.returns-in-Some-clause-answer
returns-in-Some-clause-answer c = (back c).answers

pub returns-in-Some-clause-state : goal.returns-in-Some-clause-state
returns-in-Some-clause-state c = sym c.self.view_is ∙ (back c).state

pub returns-in-Some-clause-kept : goal.returns-in-Some-clause-kept
returns-in-Some-clause-kept c = refused_kept c.args.self.now _ c.args.client c.args.beat.now _ (returns-in-Some-clause-answer c) (returns-in-Some-clause-state c)

-- ---- it breaks a rule

refused : (c : goal.In-Err) → IsMade c.self.inside.requests c.self.inside.monitor.open_bursts c.args.client c.args.beat.now (vec_len c.self.inside.stock) c.args.self.now c.take_told.new.ports.items c.self.inside.requests (offer.Refused c.in-Err.rule)
refused c =
    let told : Told c.self.inside.ports.items c.args.client c.args.beat.now c.busy-busy.result c.judge-told.result = subst (λ ports. Told ports c.args.client c.args.beat.now c.busy-busy.result c.judge-told.result) c.deref.ensures.value c.judge-told.ensures in
    let is : c.judge-told.result ≡ Err c.in-Err.rule = c.in-Err.is in
    made_refused (offering {beat = c.args.beat.now} c.self.invariant.0 c.self.invariant.1 c.self.view_is c.config.ensures c.if-client-config.false c.busy-busy.ensures c.flight.ensures.table) c.in-Err.rule
    c.take_told.new.ports.items (subst (Told c.self.inside.ports.items c.args.client c.args.beat.now c.busy-busy.result) is told)
    (subst (λ t. IsLeft c.self.inside.ports.items c.args.client c.args.beat.now t c.take_told.new.ports.items) is c.take_told.ensures)

pub invariant_of-self : goal.invariant_of-self
invariant_of-self c = ((refused c).sound, (refused c).ports_are, c.self.invariant.2, c.self.invariant.3, c.self.invariant.4)

pub returns-in-Err-clause-answer : goal.returns-in-Err-clause-answer
returns-in-Err-clause-answer c = (refused c).answers

pub returns-in-Err-clause-state : goal.returns-in-Err-clause-state
returns-in-Err-clause-state c = (refused c).state

pub returns-in-Err-clause-kept : goal.returns-in-Err-clause-kept
returns-in-Err-clause-kept c = refused_kept c.args.self.now _ c.args.client c.args.beat.now _ (refused c).answers (refused c).state

pub returns-in-Err-clause-laws : goal.returns-in-Err-clause-laws
returns-in-Err-clause-laws c = (refused c).sound

-- ---- more beats are to come

more : (c : goal.In-More) → IsMade c.self.inside.requests c.self.inside.monitor.open_bursts c.args.client c.args.beat.now (vec_len c.self.inside.stock) c.args.self.now c.take_told.new.ports.items c.self.inside.requests offer.More
more c =
    let told : Told c.self.inside.ports.items c.args.client c.args.beat.now c.busy-busy.result c.judge-told.result = subst (λ ports. Told ports c.args.client c.args.beat.now c.busy-busy.result c.judge-told.result) c.deref.ensures.value c.judge-told.ensures in
    let is : c.judge-told.result ≡ Ok More = ok_is c.judge-told.result c.in-Ok.progress More c.in-Ok.is c.in-More.is in
    made_more (offering {beat = c.args.beat.now} c.self.invariant.0 c.self.invariant.1 c.self.view_is c.config.ensures c.if-client-config.false c.busy-busy.ensures c.flight.ensures.table) c.take_told.new.ports.items
    (subst (Told c.self.inside.ports.items c.args.client c.args.beat.now c.busy-busy.result) is told)
    (subst (λ t. IsLeft c.self.inside.ports.items c.args.client c.args.beat.now t c.take_told.new.ports.items) is c.take_told.ensures)

pub invariant_of-self-in-More : goal.invariant_of-self-in-More
invariant_of-self-in-More c = ((more c).sound, (more c).ports_are, c.self.invariant.2, c.self.invariant.3, c.self.invariant.4)

pub returns-in-More-clause-answer : goal.returns-in-More-clause-answer
returns-in-More-clause-answer c = (more c).answers

pub returns-in-More-clause-state : goal.returns-in-More-clause-state
returns-in-More-clause-state c = (more c).state

pub returns-in-More-clause-laws : goal.returns-in-More-clause-laws
returns-in-More-clause-laws c = (more c).sound

-- ---- it completes a request

pub accept-requires : goal.accept-requires
accept-requires c =
    let told : Told c.self.inside.ports.items c.args.client c.args.beat.now c.busy-busy.result c.judge-told.result = subst (λ ports. Told ports c.args.client c.args.beat.now c.busy-busy.result c.judge-told.result) c.deref.ensures.value c.judge-told.ensures in
    let is : c.judge-told.result ≡ Ok Whole = ok_is c.judge-told.result c.in-Ok.progress Whole c.in-Ok.is c.in-Whole.is in
    can_accept (offering {beat = c.args.beat.now} c.self.invariant.0 c.self.invariant.1 c.self.view_is c.config.ensures c.if-client-config.false c.busy-busy.ensures c.flight.ensures.table) c.take_told.new.ports.items
    (backs c.self.inside.ports.items c.self.inside.requests c.args.client c.args.beat.now c.busy-busy.result c.judge-told.result None told (sym c.in_default.is ∙ c.held_back.ensures))
    (subst (Told c.self.inside.ports.items c.args.client c.args.beat.now c.busy-busy.result) is told)
    (subst (λ t. IsLeft c.self.inside.ports.items c.args.client c.args.beat.now t c.take_told.new.ports.items) is c.take_told.ensures)

whole : (c : goal.After-accept) → IsMade c.self.inside.requests c.self.inside.monitor.open_bursts c.args.client c.args.beat.now (vec_len c.self.inside.stock) c.args.self.now c.accept.new.ports.items c.accept.new.requests (offer.Accepted c.accept.result)
whole c =
    let told : Told c.self.inside.ports.items c.args.client c.args.beat.now c.busy-busy.result c.judge-told.result = subst (λ ports. Told ports c.args.client c.args.beat.now c.busy-busy.result c.judge-told.result) c.deref.ensures.value c.judge-told.ensures in
    let is : c.judge-told.result ≡ Ok Whole = ok_is c.judge-told.result c.in-Ok.progress Whole c.in-Ok.is c.in-Whole.is in
    made_whole (offering {beat = c.args.beat.now} c.self.invariant.0 c.self.invariant.1 c.self.view_is c.config.ensures c.if-client-config.false c.busy-busy.ensures c.flight.ensures.table) c.take_told.new.ports.items
    c.accept.new.ports.items c.accept.new.requests c.accept.result
    (backs c.self.inside.ports.items c.self.inside.requests c.args.client c.args.beat.now c.busy-busy.result c.judge-told.result None told (sym c.in_default.is ∙ c.held_back.ensures))
    (subst (Told c.self.inside.ports.items c.args.client c.args.beat.now c.busy-busy.result) is told)
    (subst (λ t. IsLeft c.self.inside.ports.items c.args.client c.args.beat.now t c.take_told.new.ports.items) is c.take_told.ensures)
    c.accept.ensures.number c.accept.ensures.table c.accept.ensures.ports c.accept.ensures.laws

pub invariant_of-self-in-Whole : goal.invariant_of-self-in-Whole
invariant_of-self-in-Whole c =
    let i = c.self.invariant in
    let m = whole c in
    (m.sound, rw m.config m.ports_are, rw m.config i.2, rw m.config i.3, rw m.config i.4)

pub returns-in-Whole-clause-answer : goal.returns-in-Whole-clause-answer
returns-in-Whole-clause-answer c = (whole c).answers

pub returns-in-Whole-clause-state : goal.returns-in-Whole-clause-state
returns-in-Whole-clause-state c = (whole c).state

pub returns-in-Whole-clause-laws : goal.returns-in-Whole-clause-laws
returns-in-Whole-clause-laws c = (whole c).sound

pub returns-then-client-config-clause-answer : goal.returns-then-client-config-clause-answer
returns-then-client-config-clause-answer c = grind (arith, common_steps)

pub returns-then-client-config-clause-state : goal.returns-then-client-config-clause-state
returns-then-client-config-clause-state c = grind (arith, common_steps)
