-- There are as many words as the reply has beats, and each turn appends the beat of one.
use Rattle.std.proofs.Common.{rules, [], ◌∷◌, ◌++◌, List, length, map, arith, ap, sym, ◌∙◌}
use Rattle.std.specs.List.{range_with_len}
use Rattle.std.proofs.lemmas.List.FromFn.{length-map-range_with_len, map-range_with_len_more}
use Rattle.tl_messages.specs.declared.DBeat.{DBeat}
use Rattle.responses.specs.Inside.{word_beat_at}
use Rattle.responses.proofs.ReadLaws.{words_of-le}
use Rattle.responses.proofs.gather.Gather.show_words.Goals as goal

pub loop-k-init : goal.loop-k-init
loop-k-init c = (c.requires, omega (arith, c.deref-word-items.ensures.len, c.self.invariant.1, words_of-le c.self.inside.outline c.self.invariant.2))

pub push-requires : goal.push-requires
push-requires c =
    omega (arith, ap (λ (beats : List DBeat). length beats) c.loop-k.invariant.0, length-map-range_with_len (word_beat_at c.args.self.now.outline c.args.self.now.gathering) 0 c.loop-k.k, c.loop-k-test.true, c.loop-k.invariant.1)

pub loop-k-preserved : goal.loop-k-preserved
loop-k-preserved c = (
  c.push.ensures
      ∙ ap (λ (beats : List DBeat). beats ++ c.word_beat.result ∷ []) c.loop-k.invariant.0
      ∙ ap (λ (beat : DBeat). map (word_beat_at c.args.self.now.outline c.args.self.now.gathering) (range_with_len 0 c.loop-k.k) ++ beat ∷ []) (search rules)
      ∙ sym (map-range_with_len_more (word_beat_at c.args.self.now.outline c.args.self.now.gathering) 0 c.loop-k.k c.loop-k.k (omega arith)),
  c.loop-k.invariant.1,
)
