-- Each turn gathers one word.
use Rattle.std.proofs.Common.{◌≡◌, ◌+◌, ◌*◌, ◌<◌, refl, ap, arith, ◌∙◌}
use Rattle.responses.specs.Gathered.{GatherState, after_r, reads_of}
use Rattle.serial_memory.specs.InsideSerial.{word_answered}
use Rattle.serial_memory.proofs.WordReads.{one_more, word_in_range}
use Rattle.serial_memory.proofs.Words.{word_exists}
use Rattle.serial_memory.proofs.carrying.read_words.Goals as goal

pub overflow_add-address : goal.overflow_add-address
overflow_add-address c =
    let count : c.reads-place-end.result ≡ reads_of 8 c.args.gather.now.outline = c.reads-place-end.ensures ∙ ap (λ b. reads_of b c.args.gather.now.outline) c.requires.bus in
    let below : c.loop-place.place < reads_of 8 c.args.gather.now.outline = omega (arith, c.loop-place-test.true, count, c.loop-place.auto.place-end) in
    let at = word_in_range c.args.gather.now.outline c.args.address c.args.size c.loop-place.place c.requires.range c.requires.outline below in
    omega (arith, word_exists c.args.address c.args.size c.loop-place.place (omega arith) at, c.from.ensures)

pub loop-place-preserved : goal.loop-place-preserved
loop-place-preserved c = (
  ap (λ (s : GatherState). s.bus_bytes) c.on_r.ensures ∙ c.loop-place.invariant.0,
  ap (λ (s : GatherState). s.outline) c.on_r.ensures ∙ c.loop-place.invariant.1,
  one_more c.args.gather.now.outline c.args.pages.now c.args.address c.loop-place.place (reads_of 8 c.args.gather.now.outline) c.loop-place.gather.gathering c.on_r.new.self.gathering below gathered
      ∙ c.loop-place.invariant.2,
)
  where
    below : c.loop-place.place < reads_of 8 c.args.gather.now.outline
    below =
        let count : c.reads-place-end.result ≡ reads_of 8 c.args.gather.now.outline = c.reads-place-end.ensures ∙ ap (λ b. reads_of b c.args.gather.now.outline) c.requires.bus in
        omega (arith, c.loop-place-test.true, count, c.loop-place.auto.place-end)

    gathered : c.on_r.new.self.gathering ≡ after_r 8 c.args.gather.now.outline (word_answered c.args.pages.now (c.args.address + c.loop-place.place * 8)) c.loop-place.place c.loop-place.gather.gathering
    gathered = ap (λ (s : GatherState). s.gathering) c.on_r.ensures ∙ rw (c.loop-place.invariant.0, c.loop-place.invariant.1, c.word_answered-beat.ensures, c.from.ensures) refl
