use Rattle.std.proofs.Common.{◌<◌, ◌-◌, ◌∙◌, bit_and, drop, length-drop, length-set, refl, w64, arith}
use Rattle.std.specs.Int.{trailing_zeros}
use Rattle.line_text.proofs.EdgePlaces.{ahead_first, ahead_none, ends_too, next_places}
use Rattle.line_text.proofs.WordParts.{words_of-few}
use Rattle.line_text.proofs.WordPlaces.{next_word, places-more}
use Rattle.line_text.proofs.words.Words.read_together.Goals as goal

pub loop-count-init : goal.loop-count-init
loop-count-init c = record {
  line = refl;
  room_s = omega arith;
  room_e = omega arith;
  places = λ k none. absurd (omega (arith, none));
  ahead = ahead_first c.args.line.now c.in_words-mask.result c.in_words-mask.ensures.0 c.in_words-mask.ensures.1;
  counted = omega arith;
}

pub invariant_of-self : goal.invariant_of-self
invariant_of-self c =
    let l = c.loop-count in
    let all = ahead_none c.args.line.now l.count l.end l.edges c.requires.1 l.invariant.ahead c.if-edges-eq0.true in
    rw l.invariant.line
    (record {
      places = λ k below held. l.invariant.places k below;
      counted = omega (arith, all, l.invariant.counted);
    })

pub overflow_sub-edges-in-loop-count : goal.overflow_sub-edges-in-loop-count
overflow_sub-edges-in-loop-count c =
    let l = c.loop-count in
    let more : 0 < l.edges = omega (arith, c.if-edges-eq0.false) in
    omega (arith, ends_too c.args.line.now c.requires.1 l.count l.end l.edges l.invariant.ahead more)

pub loop-count-preserved : goal.loop-count-preserved
loop-count-preserved c =
    let l = c.loop-count in
    let more : 0 < l.edges = omega (arith, c.if-edges-eq0.false) in
    let start = trailing_zeros w64 l.edges in
    let end = trailing_zeros w64 (bit_and l.edges (l.edges - 1)) in
    let next = next_places c.args.line.now c.requires.1 l.count l.end l.edges l.invariant.ahead more in
    let word = next_word c.args.line.now l.count start end next.rest next.inside next.byte next.ends next.lacks next.found in
    record {
      line = l.invariant.line;
      room_s = omega (arith, length-set l.self-inside.starts l.count start, l.invariant.room_s);
      room_e = omega (arith, length-set l.self-inside.ends l.count end, l.invariant.room_e);
      places =
          places-more c.args.line.now l.self-inside.starts l.self-inside.ends l.count start end (omega (arith, c.loop-count-test.true, l.invariant.room_s)) (omega (arith, c.loop-count-test.true, l.invariant.room_e)) l.invariant.places
          next.ends.0 next.ends.1 word.is;
      ahead = record { from = next.from; are = next.are; within = next.ends.1; same = next.same; rest = word.rest ∙ next.same };
      counted = omega (arith, word.counted);
    }

pub overflow_add-self : goal.overflow_add-self
overflow_add-self c = omega (arith, c.words_from.ensures, words_of-few (drop c.word_from.result c.args.line.now), length-drop c.word_from.result c.args.line.now, c.requires.1)
