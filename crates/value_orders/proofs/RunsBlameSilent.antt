-- A request that isn't whole has several beats, so it is a Put, and its reply has no data.
use Rattle.std.proofs.Common.{◌≡◌, ◌<◌, false, List, [], ◌∷◌, Some, refl, sym, ◌∙◌, ap, arith}
use Rattle.std.specs.Prelude.{nat_le}
use Rattle.std.proofs.lemmas.Bool.Decides.{nat_tests}
use Rattle.tl_messages.specs.Operations.{beats_of, opcode_has_data, reply_has_data}
use Rattle.tl_messages.specs.Requests.{HeldMessage, begun, is_whole, message_of}
use Rattle.tl_messages.specs.declared.ABeat.{ABeat}
use Rattle.tl_checker.specs.Ports.{IsFrontOf}
use Rattle.tl_checker.specs.RequestRules.{IsFront, TlPortLimits}
use Rattle.tl_checker.proofs.BeatRules.{first_none}
use Rattle.tl_checker.proofs.Fronts.{front_part}
use Rattle.tl_checker.proofs.BeatRules.{right_named}
use Rattle.scoreboard.proofs.real_time.CheckedRequests.{IsFrontRight}
use Rattle.scoreboard.proofs.real_time.FirstBeats.{more_reads_none, no_data_back}
use Rattle.scoreboard.specs.Boards.{ClientBoard}

front_silent : (limits : TlPortLimits) (first : ABeat) (rest : List ABeat) → IsFront limits (first ∷ rest) → reply_has_data (begun limits.client first).operation ≡ false
front_silent limits first rest front =
    let part = front_part limits first rest front in
    let named = right_named limits first (first_none limits first false part.begins.right).0 in
    let many : 1 < beats_of first.size (opcode_has_data first.opcode) = omega (arith, part.fewer) in
    let unwhole : is_whole (begun limits.client first) ≡ false =
    ap (λ opcode. nat_le (beats_of first.size (opcode_has_data opcode)) 1) named.same_opcode ∙ grind (arith, nat_tests, many) in
    no_data_back (begun limits.client first).operation (more_reads_none limits first false (rw (part.begins.right, unwhole) refl))

pub held_silent : (client : ClientBoard) (held : HeldMessage) → IsFrontRight client → client.front ≡ Some held → reply_has_data held.operation ≡ false
held_silent client held right is = by_beats right.heard.0 right.heard.1
  where
    by_beats : (beats : List ABeat) → IsFrontOf client.limits beats client.front → reply_has_data held.operation ≡ false
    by_beats [] front = absurd (cc (front.held ∙ is))
    by_beats (first ∷ rest) front =
        let same : Some (message_of client.limits.client first rest) ≡ Some held = front.held ∙ is in
        let own : message_of client.limits.client first rest ≡ held = cc (same) in
        ap (λ (h : HeldMessage). reply_has_data h.operation) (sym own) ∙ front_silent client.limits first rest front.begins
