-- One more is free of the word.
use Rattle.std.proofs.Common.{◌≡◌, None, if◌then◌else◌, get_or, arith}
use Rattle.std.proofs.lemmas.List.{get_or_default}
use Rattle.std.proofs.lemmas.List.Edits.{map_over_more}
use Rattle.value_tables.specs.InsideShelves.{is_word}
use Rattle.value_tables.proofs.shelf.free_each.Goals as goal

pub loop-held-preserved : goal.loop-held-preserved
loop-held-preserved c =
    let words = c.loop-held.words in
    let held = get_or words c.loop-held.held-index None in
    let there : held ≡ get_or words c.loop-held.held-index held = get_or_default words c.loop-held.held-index None held
    (omega (arith, c.loop-held-test.true, c.loop-held.auto.words)) in
    rw c.freed.ensures (map_over_more (λ other. if is_word c.args.word other then None else other)
    c.args.words.now words c.loop-held.held-index held c.loop-held-test.true c.loop-held.invariant there)
