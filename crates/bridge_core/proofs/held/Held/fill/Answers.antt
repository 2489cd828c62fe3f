-- The bytes to be written are those that the request gives, or those of an atomic's result.
use Rattle.std.proofs.Common.{◌≡◌, ◌≤◌, ◌^◌, ℕ, List, Option, Some, refl, sym, ◌∙◌, ap, map}
use Rattle.std.specs.Prelude.{unwrap_or}
use Rattle.tl_messages.specs.Requests.{HeldMessage, request_of}
use Rattle.tl_messages.specs.declared.Operation.{Operation}
use Rattle.tl_messages.specs.declared.Operation.TheVariants.{Atomic}
use Rattle.data_unit.specs.Atomics.{atomic_result, operand_of}
use Rattle.data_unit.specs.Words.{bytes_of}
use Rattle.burst_plan.specs.PlannedBursts.{write_of}
use Rattle.responses.specs.Gathered.{outline_of}
use Rattle.bridge_core.specs.Inside.{HeldRequest, bytes_held, value_held}
use Rattle.bridge_core.specs.Sending.{bytes_written}
use Rattle.bridge_core.proofs.HeldBytes.{put_bytes}
use Rattle.responses.proofs.OldValues.{old_small}
use Rattle.data_unit.proofs.Operands.{single_beat}
use Rattle.bridge_core.proofs.held.Held.fill.Goals as goal

pub atomic_number-number-requires-clause-beats : goal.atomic_number-number-requires-clause-beats
atomic_number-number-requires-clause-beats c =
    let same : c.self.inside.request ≡ c.args.self.now.message = ap (λ (h : HeldRequest). h.message) c.self.view_is in
    let atomic : c.args.self.now.message.operation ≡ Atomic c.in-Atomic.op = ap (λ (m : HeldMessage). m.operation) (sym same) ∙ sym c.operation.ensures ∙ c.in-Atomic.is in
    let small : c.args.self.now.message.size ≤ 3 = c.requires.atomic_size c.in-Atomic.op atomic in
    rw same (c.requires.beats ∙ single_beat c.args.self.now.message.size small)

pub atomic_number-number-requires-clause-old_fits : goal.atomic_number-number-requires-clause-old_fits
atomic_number-number-requires-clause-old_fits c =
    let same : c.self.inside.request ≡ c.args.self.now.message = ap (λ (h : HeldRequest). h.message) c.self.view_is in
    let atomic : c.args.self.now.message.operation ≡ Atomic c.in-Atomic.op = ap (λ (m : HeldMessage). m.operation) (sym same) ∙ sym c.operation.ensures ∙ c.in-Atomic.is in
    let small : c.args.self.now.message.size ≤ 3 = c.requires.atomic_size c.in-Atomic.op atomic in
    rw (same, c.unwrap_or-old.ensures, c.old_value.ensures.value)
    (old_small (outline_of (request_of c.args.self.now.message)) c.args.self.now.gathering small c.requires.aligned)

pub returns-in-Atomic : goal.returns-in-Atomic
returns-in-Atomic c =
    let same : c.self.inside.request ≡ c.args.self.now.message = ap (λ (h : HeldRequest). h.message) c.self.view_is in
    let atomic : c.args.self.now.message.operation ≡ Atomic c.in-Atomic.op = ap (λ (m : HeldMessage). m.operation) (sym same) ∙ sym c.operation.ensures ∙ c.in-Atomic.is in
    let held = c.args.self.now in
    let q = request_of held.message in
    let old : c.unwrap_or-old.result ≡ unwrap_or (value_held held) 0 = c.unwrap_or-old.ensures ∙ ap (λ (o : Option ℕ). unwrap_or o 0) c.old_value.ensures.value in
    let number : c.atomic_number-number.result ≡ atomic_result c.in-Atomic.op (2 ^ held.message.size) (unwrap_or (value_held held) 0) (operand_of q) =
    c.atomic_number-number.ensures.value ∙ rw (same, old) refl in
    let given : map Some (bytes_of (2 ^ c.args.plan.now.size) c.atomic_number-number.result) ≡ bytes_written q (Atomic c.in-Atomic.op) (unwrap_or (value_held held) 0) = rw (number, ← c.requires.size) refl in
    let bytes : map Some (bytes_of (2 ^ c.args.plan.now.size) c.atomic_number-number.result) ≡ bytes_held held =
    given ∙ ap (λ (o : Operation). bytes_written q o (unwrap_or (value_held held) 0)) (sym atomic) in
    c.set_number.ensures ∙ ap (λ (b : List (Option ℕ)). Some (write_of c.args.plan.now.bus_bytes c.args.id b c.args.plan.now.address c.args.piece)) bytes

pub returns-in_default : goal.returns-in_default
returns-in_default c =
    let same : c.self.inside.request ≡ c.args.self.now.message = ap (λ (h : HeldRequest). h.message) c.self.view_is in
    let held = c.args.self.now in
    let q = request_of held.message in
    let operation : c.operation.result ≡ held.message.operation = c.operation.ensures ∙ ap (λ (m : HeldMessage). m.operation) same in
    let bytes : (request_of c.self.inside.request).bytes ≡ bytes_held held =
    ap (λ (m : HeldMessage). (request_of m).bytes) same ∙ sym (put_bytes q held.message.operation (unwrap_or (value_held held) 0) c.requires.carries (λ op is. c.in_default.not-Atomic op (operation ∙ is))) in
    c.set_put.ensures ∙ ap (λ (b : List (Option ℕ)). Some (write_of c.args.plan.now.bus_bytes c.args.id b c.args.plan.now.address c.args.piece)) bytes
