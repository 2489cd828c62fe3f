use Rattle.std.proofs.Common.{ap, drop, length, length-drop, arith}
use Rattle.line_text.proofs.WordParts.{words_of-few}
use Rattle.line_text.proofs.WordPlaces.{word_here}
use Rattle.line_text.proofs.words.words_from.Goals as goal

pub overflow_add-count : goal.overflow_add-count
overflow_add-count c = omega (arith, c.loop-start.invariant.counted, words_of-few (drop c.args.at c.args.line.now), length-drop c.args.at c.args.line.now, c.requires.short)

pub loop-start-preserved : goal.loop-start-preserved
loop-start-preserved c =
    let l = c.loop-start in
    let here =
    word_here c.args.line.now l.start c.space_from.result c.loop-start-test.true (l.invariant.found c.loop-start-test.true) c.space_from.ensures.within c.space_from.ensures.before c.space_from.ensures.found in
    record {
      within = c.word_from-start.ensures.within.1;
      found = c.word_from-start.ensures.found;
      counted = omega (arith, l.invariant.counted, ap length here.1, ap length c.word_from-start.ensures.same);
    }
