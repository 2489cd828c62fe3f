-- The bytes of a filling are those of its words.
use Rattle.std.proofs.Common.{ap, ◌∙◌}
use Rattle.score_calls.proofs.Fillings.{fill_told}
use Rattle.call_words.specs.CallWords.{bytes_of}
use Rattle.score_calls.proofs.calls.fill_command.Goals as goal

pub returns : goal.returns
returns c =
    fill_told c.args.head c.args.words.now c.as_slice.result.now c.in_ok-held.held c.low_in.result c.in_ok-held.ensures.0 c.in_ok-held.ensures.1 c.in_ok-held.ensures.2
    (c.as_slice.ensures.value ∙ (c.bytes_of-bytes.ensures ∙ ap (bytes_of c.args.words.now) c.byte_in.ensures)) c.low_in.ensures
