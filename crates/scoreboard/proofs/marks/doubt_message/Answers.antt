-- Where nobody knows none of its lanes nothing changes.
use Rattle.std.proofs.Common.{◌≡◌, List, ℕ, false, Option, Some, ap, length, refl, sym, ◌∙◌, arith}
use Rattle.std.proofs.lemmas.Grind.{elements}
use Rattle.std.specs.Prelude.{slice_get, unwrap_or, []}
use Rattle.std.proofs.lemmas.Option.{slice_get_read}
use Rattle.serial_memory.specs.SerialMemory.{doubts_of, memory_of, place_in}
use Rattle.tl_messages.specs.Requests.{request_of}
use Rattle.scoreboard.specs.Boards.{acting}
use Rattle.scoreboard.specs.Unknown.{has_unknown, lanes_of}
use Rattle.scoreboard.proofs.held.UnknownBytes.{unknown_none}
use Rattle.scoreboard.proofs.marks.doubt_message.Goals as goal

pub returns-else-has_some-clause-bytes : goal.returns-else-has_some-clause-bytes
returns-else-has_some-clause-bytes c =
    let there : slice_get c.args.unknown.now c.args.client ≡ Some c.in-Some.lanes.now =
    slice_get_read c.args.unknown.now (length c.args.unknown.now) c.args.client c.in-Some.lanes.now refl c.in-Some.ensures.lookup.3.0 c.in-Some.ensures.lookup.1 in
    let none : has_unknown (lanes_of c.args.unknown.now c.args.client) ≡ false =
    ap (λ (o : Option (List ℕ)). has_unknown (unwrap_or o [])) there ∙ sym c.has_some.ensures ∙ c.if-has_some.false in
    unknown_none (doubts_of c.args.marks.now) (lanes_of c.args.unknown.now c.args.client) (place_in (memory_of c.args.marks.now) (acting c.args.errors (request_of c.args.request.now))) (request_of c.args.request.now) none

pub returns-in_default-clause-bytes : goal.returns-in_default-clause-bytes
returns-in_default-clause-bytes c = grind (arith, elements) steps 2000000

pub returns-then-has_some-clause-bytes : goal.returns-then-has_some-clause-bytes
returns-then-has_some-clause-bytes c = grind (arith, elements) steps 2000000
