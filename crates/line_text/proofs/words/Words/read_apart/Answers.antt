use Rattle.std.proofs.Common.{drop, length-drop, length-set, arith, ◌∙◌}
use Rattle.line_text.proofs.WordParts.{words_of-few}
use Rattle.line_text.proofs.WordPlaces.{all_counted, next_word, places-more}
use Rattle.line_text.proofs.words.Words.read_apart.Goals as goal

pub loop-count-preserved : goal.loop-count-preserved
loop-count-preserved c =
    let l = c.loop-count in
    let word =
    next_word c.args.line.now l.count l.start c.word_end-end.result l.invariant.rest c.if-start-line.false (l.invariant.found c.if-start-line.false) c.word_end-end.ensures.within c.word_end-end.ensures.before
    c.word_end-end.ensures.found in
    record {
      line = l.invariant.line;
      room_s = omega (arith, length-set l.self-inside.starts l.count l.start, l.invariant.room_s);
      room_e = omega (arith, length-set l.self-inside.ends l.count c.word_end-end.result, l.invariant.room_e);
      within = c.word_after-start.ensures.within.1;
      found = c.word_after-start.ensures.found;
      places =
          places-more c.args.line.now l.self-inside.starts l.self-inside.ends l.count l.start c.word_end-end.result (omega (arith, c.loop-count-test.true, l.invariant.room_s)) (omega (arith, c.loop-count-test.true, l.invariant.room_e)) l.invariant.places
          c.word_end-end.ensures.within.0 c.word_end-end.ensures.within.1 word.is;
      rest = word.rest ∙ c.word_after-start.ensures.same;
      counted = omega (arith, word.counted);
    }

pub invariant_of-self : goal.invariant_of-self
invariant_of-self c =
    let all = all_counted c.args.line.now c.loop-count.count c.loop-count.start c.loop-count.invariant.rest c.if-start-line.true in
    rw c.loop-count.invariant.line
    (record {
      places = λ k below held. c.loop-count.invariant.places k below;
      counted = omega (arith, all, c.loop-count.invariant.counted);
    })

pub overflow_add-self : goal.overflow_add-self
overflow_add-self c =
    omega (arith, c.words_from.ensures, words_of-few (drop c.loop-count.start c.args.line.now), length-drop c.loop-count.start c.args.line.now, c.requires)
