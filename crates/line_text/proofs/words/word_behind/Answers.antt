use Rattle.std.proofs.Common.{◌≡◌, ◌<◌, ◌-◌, ◌+◌, [], length, slice_get, unwrap_or, sym, ap, ◌∙◌, arith}
use Rattle.line_text.specs.Words.{words_of}
use Rattle.line_text.proofs.WordPlaces.{next_word, not_counted}
use Rattle.line_text.proofs.words.word_behind.Goals as goal

pub loop-preserved : goal.loop-preserved
loop-preserved c =
    let l = c.loop in
    let inside : l.start < length c.args.line.now = not_counted c.args.line.now l.counter l.start l.invariant.rest (omega (arith, c.loop-test.true, c.requires)) in
    let word = next_word c.args.line.now l.counter l.start c.space_from.result l.invariant.rest inside (l.invariant.found inside) c.space_from.ensures.within c.space_from.ensures.before c.space_from.ensures.found in
    record { within = c.word_from-start-in-loop.ensures.within.1; found = c.word_from-start-in-loop.ensures.found; rest = word.rest ∙ c.word_from-start-in-loop.ensures.same }

pub returns : goal.returns
returns c =
    let l = c.loop in
    let all : c.args.others + 1 - 1 ≡ l.counter = omega (arith, c.loop-test.false, c.loop.auto.counter-end) in
    let inside : l.start < length c.args.line.now = not_counted c.args.line.now l.counter l.start l.invariant.rest (omega (arith, all, c.requires)) in
    let word =
    next_word c.args.line.now l.counter l.start c.space_from-2.result l.invariant.rest inside (l.invariant.found inside) c.space_from-2.ensures.within c.space_from-2.ensures.before c.space_from-2.ensures.found in
    sym (ap (λ n. unwrap_or (slice_get (words_of c.args.line.now) n) []) all ∙ ap (λ word. unwrap_or word []) word.is)
