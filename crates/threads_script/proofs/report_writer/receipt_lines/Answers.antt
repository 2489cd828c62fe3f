-- One reply more: its line, and the beats that stand next.
use Rattle.std.proofs.Common.{◌≡◌, ◌<◌, ◌+◌, ◌∙◌, ap, ap₂, drop, flat_map, length, length-append, refl, take, arith}
use Rattle.std.proofs.KnownBytes.{Appends-trans}
use Rattle.std.proofs.lemmas.List.{drop_at, take_at}
use Rattle.bus_words.proofs.MappedPlaces.{flat_map-take}
use Rattle.threads_script.specs.ReportTexts.{receipt_text}
use Rattle.threads_script.proofs.ReceiptLemmas.{next_reply}
use Rattle.threads_script.proofs.report_writer.receipt_lines.Goals as goal

pub split_at-requires : goal.split_at-requires
split_at-requires g c =
    let inv = c.loop-head.invariant c.requires.0 c.requires.1 in
    let heads = c.as_slice-head-items.result.now in
    let within : c.loop-head.head-index < length heads = omega (arith, c.loop-head-test.true) in
    let next = next_reply heads c.requires.0 c.loop-head.head-index c.loop-head.rest.now (c.as_slice-head-items.ensures.value ∙ c.requires.1.heads) within inv.0 in
    let count : c.from.result ≡ length next.reply.beats = c.from.ensures ∙ ap (λ head. head.1) next.head in
    let size : length c.loop-head.rest.now ≡ length next.reply.beats + length next.after = ap length next.cut ∙ length-append next.reply.beats next.after in
    omega (arith, count, size)

pub loop-head-preserved : goal.loop-head-preserved
loop-head-preserved g c replies are =
    let inv = c.loop-head.invariant replies are in
    let heads = c.as_slice-head-items.result.now in
    let within : c.loop-head.head-index < length heads = omega (arith, c.loop-head-test.true) in
    let next = next_reply heads replies c.loop-head.head-index c.loop-head.rest.now (c.as_slice-head-items.ensures.value ∙ are.heads) within inv.0 in
    let count : c.from.result ≡ length next.reply.beats = c.from.ensures ∙ ap (λ head. head.1) next.head in
    let front : c.split_at.result.0.now ≡ next.reply.beats = c.split_at.ensures.front ∙ ap₂ take count next.cut ∙ take_at next.reply.beats _ (length next.reply.beats) refl in
    let line = rw (ap (λ head. head.0) next.head) at c.in_ok-reply_line.ensures.all in
    let lines = rw front at c.in_ok-reply_lines.ensures.all in (
      c.split_at.ensures.back ∙ ap₂ drop count next.cut ∙ drop_at next.reply.beats _ (length next.reply.beats) refl ∙ next.after_is,
      rw (flat_map-take (receipt_text c.args.client) replies c.loop-head.head-index next.reply next.there)
          (Appends-trans _ _ _ (flat_map (receipt_text c.args.client) (take c.loop-head.head-index replies)) (receipt_text c.args.client next.reply) inv.1 (Appends-trans _ _ _ _ _ line lines)),
    )
