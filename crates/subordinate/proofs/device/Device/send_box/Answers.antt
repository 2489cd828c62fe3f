-- There is room for a burst that breaks no rule.
use Rattle.std.proofs.Common.{◌≡◌, ◌<◌, ◌+◌, List, [], ◌∷◌, length, arith, refl, sym, ap, subst, rules}
use Rattle.std.specs.Prelude.{Option, IfSome, IsSome}
use Rattle.std.specs.Vec.{vec_len}
use Rattle.std.proofs.lemmas.List.{length-append, length-map}
use Rattle.axi_beats.specs.Bursts.{Burst, IsLegal}
use Rattle.axi_checker.specs.declared.AxiRule.{AxiRule}
use Rattle.axi_checker.specs.Rules.{id_of, outstanding_beside}
use Rattle.subordinate.specs.Device.{DeviceState}
use Rattle.subordinate.specs.FreeMemory.{Pending, open_bursts_of, send_fault, with_burst}
use Rattle.subordinate.specs.Inside.{burst_in, memory_of}
use Rattle.subordinate.specs.Laws.{IsSoundMemory}
use Rattle.subordinate.proofs.OpenQueues.{newly_waits}
use Rattle.subordinate.proofs.OrderLaws.{sent_owed}
use Rattle.subordinate.proofs.SoundDevices.{CanJoin, room-send, sending}
use Rattle.subordinate.proofs.Monitors.{known_beats, known_sent}
use Rattle.subordinate.proofs.device.Device.send_box.Goals as goal

-- a burst that isn't refused has room, and joins the others
joining : (inside now : DeviceState) (held : Option Burst) → inside ≡ now → IsSoundMemory inside.memory → IsSome held → IfSome held (IsLegal now.memory.bus_bytes)
    → IfSome held (λ burst. (id_of burst < 16) × (outstanding_beside (open_bursts_of now.memory) burst < 4))
    → CanJoin inside.memory (burst_in held)
joining inside now held same sound full legal room =
    subst (λ (device : DeviceState). CanJoin device.memory (burst_in held)) (sym same)
    (sending now.memory held full (subst (λ (device : DeviceState). IsSoundMemory device.memory) same sound) legal room)

pub unwrap-beats-requires : goal.unwrap-beats-requires
unwrap-beats-requires c =
    let joined = joining _ _ c.args.burst c.self.view_is c.self.invariant.0 c.requires.full (c.send_fault.ensures.legal c.in_default.is) (c.send_fault.ensures.room c.in_default.is) in
    c.pop.ensures.variant.1 (omega (arith, joined.room, c.self.invariant.1.beats))

pub push-requires-clause-room : goal.push-requires-clause-room
push-requires-clause-room c = (joining _ _ c.args.burst c.self.view_is c.self.invariant.0 c.requires.full (c.send_fault.ensures.legal c.in_default.is) (c.send_fault.ensures.room c.in_default.is)).room

pub push-requires-clause-queue : goal.push-requires-clause-queue
push-requires-clause-queue c =
    rw c.new.ensures (joining _ _ c.args.burst c.self.view_is c.self.invariant.0 c.requires.full (c.send_fault.ensures.legal c.in_default.is) (c.send_fault.ensures.room c.in_default.is)).known

pub push-requires-clause-fewer : goal.push-requires-clause-fewer
push-requires-clause-fewer c =
    rw c.new.ensures (joining _ _ c.args.burst c.self.view_is c.self.invariant.0 c.requires.full (c.send_fault.ensures.legal c.in_default.is) (c.send_fault.ensures.room c.in_default.is)).fewer

pub push-requires-clause-waits : goal.push-requires-clause-waits
push-requires-clause-waits c = rw c.new.ensures (newly_waits c.self.inside.sent (burst_in c.args.burst))

pub invariant_of-self : goal.invariant_of-self
invariant_of-self c =
    let joined = joining _ _ c.args.burst c.self.view_is c.self.invariant.0 c.requires.full (c.send_fault.ensures.legal c.in_default.is) (c.send_fault.ensures.room c.in_default.is) in
    let none_closed : vec_len c.self.inside.closed ≡ 0 =
    omega (arith, c.self.inside.closed.ok, sym (length-map c.self.inside.closed.items burst_in), ap (λ (device : DeviceState). length device.closed) c.self.view_is, ap (λ (closed : List Burst). length closed) c.requires.given)
    in
    let one_less : vec_len c.pop.new.self + 1 ≡ vec_len c.self.inside.spare = rw c.unwrap-beats.ensures at c.pop.ensures.len in (
      rw (c.push.ensures, c.new.ensures) joined.sound,
      room-send (length c.self.inside.«open») (vec_len c.self.inside.closed) (vec_len c.self.inside.spare) (length c.push.new.self) (vec_len c.pop.new.self) _ _ _ c.self.invariant.1 joined.room none_closed
          (omega (arith, ap (λ (bursts : List Pending). length bursts) c.push.ensures, length-append c.self.inside.«open» (c.new.result ∷ []))) one_less (omega (arith, c.pop.ensures.capacity)),
      c.self.invariant.2,
    )

pub returns-clause-order : goal.returns-clause-order
returns-clause-order c = λ taken.
    let items : c.self.inside.«open» ≡ c.args.self.now.memory.pending = ap (λ (device : DeviceState). device.memory.pending) c.self.view_is in
    let sent : c.self.inside.sent ≡ c.args.self.now.memory.sent = ap (λ (device : DeviceState). device.memory.sent) c.self.view_is in
    rw (c.push.ensures, c.new.ensures, items, sent) (sent_owed c.args.burst c.args.self.now.memory.sent c.args.self.now.memory.pending)

-- the open bursts are those before it and the one sent
joined_bursts : (c : goal.After-self-1) → open_bursts_of (memory_of c.self.inside.bus_bytes c.self.inside.pages c.push.new.self (c.self.inside.sent + 1)) ≡ open_bursts_of (with_burst c.args.self.now.memory (burst_in c.args.burst))
joined_bursts c =
    let items : c.self.inside.«open» ≡ c.args.self.now.memory.pending = ap (λ (device : DeviceState). device.memory.pending) c.self.view_is in
    let sent : c.self.inside.sent ≡ c.args.self.now.memory.sent = ap (λ (device : DeviceState). device.memory.sent) c.self.view_is in
    rw (c.push.ensures, c.new.ensures, items, sent) refl

pub returns-clause-monitor : goal.returns-clause-monitor
returns-clause-monitor c = λ taken. rw (joined_bursts c) (known_sent c.args.self.now.memory c.args.burst)

pub returns-clause-beats : goal.returns-clause-beats
returns-clause-beats c = λ taken.
    rw (joined_bursts c)
    (known_beats c.args.self.now.memory c.args.burst (subst (λ (fault : Option AxiRule). IfSome c.args.burst (λ burst. fault ≡ send_fault c.args.self.now.memory burst)) c.in_default.is c.send_fault.ensures.rule))

pub returns-clause-laws : goal.returns-clause-laws
returns-clause-laws c =
    let joined = joining _ _ c.args.burst c.self.view_is c.self.invariant.0 c.requires.full (c.send_fault.ensures.legal c.in_default.is) (c.send_fault.ensures.room c.in_default.is) in
    rw (c.push.ensures, c.new.ensures) joined.sound

pub returns-in-Some-clause-answer : goal.returns-in-Some-clause-answer
returns-in-Some-clause-answer c = search rules

pub returns-clause-answer : goal.returns-clause-answer
returns-clause-answer c = search rules
