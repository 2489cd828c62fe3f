-- Outside good pages, and of a bad word, nothing is captured.
use Rattle.std.proofs.Common.{sym, ◌∙◌, arith}
use Rattle.std.proofs.lemmas.Grind.{common_steps}
use Rattle.subordinate.proofs.BytesRead.{captured-absent, read_response-absent}
use Rattle.subordinate.proofs.pages.Pages.read.Goals as goal

pub returns-in_default-clause-captured : goal.returns-in_default-clause-captured
returns-in_default-clause-captured c =
    let now = c.args.self.now in
    let missing = sym c.word_at.ensures.word ∙ c.in_default.is in
    captured-absent c.args.bus_bytes now.faults now.memory c.args.ar c.args.n c.address_of-address.result c.write_response.result c.word_at.result c.requires
    c.address_of-address.ensures (c.write_response.ensures.value ∙ read_response-absent now.faults now.memory c.address_of-address.result c.word_at.ensures.good_pages missing) c.word_at.ensures.word c.in_default.is

pub returns-then-is_bad-clause-captured : goal.returns-then-is_bad-clause-captured
returns-then-is_bad-clause-captured c = grind (arith, common_steps)

pub returns-clause-captured : goal.returns-clause-captured
returns-clause-captured c = grind (arith, common_steps)
