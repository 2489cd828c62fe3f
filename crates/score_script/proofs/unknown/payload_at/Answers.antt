use Rattle.std.proofs.Common.{◌∙◌, ap, ap₂, sym}
use Rattle.std.specs.Str.Parse.{digits_value}
use Rattle.line_text.specs.Words.{is_hex_to, number_of, word_at}
use Rattle.score_script.specs.UnknownDigits.{known_word, unknown_lanes}
use Rattle.score_script.proofs.UnknownNumbers.{all-known, known-read}
use Rattle.score_script.proofs.unknown.payload_at.Goals as goal

pub returns-in-Ok : goal.returns-in-Ok
returns-in-Ok c =
    let read = c.in-Ok.ensures.reads in
    let known = all-known 18446744073709551615 (word_at c.args.words.now c.args.n) read.0 in
    (ap (is_hex_to 18446744073709551615) known.0 ∙ read.0, ap₂ (λ payload lanes. (payload, lanes)) (read.1 ∙ ap (digits_value 16) (sym known.0)) (sym known.1))

pub returns-in-Some : goal.returns-in-Some
returns-in-Some c =
    let word = c.at-word.ensures in
    let read = known-read (known_word (word_at c.args.words.now c.args.n)) c.in-Some.payload (c.in-Some.ensures ∙ ap (λ w. number_of 16 16 (known_word w)) word) in
    (read.0, ap₂ (λ payload lanes. (payload, lanes)) read.1 (c.unknown_lanes.ensures ∙ ap unknown_lanes word))
