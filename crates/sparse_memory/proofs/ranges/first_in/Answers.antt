-- The later of their first pages is the first that they can have in common.
use Rattle.std.proofs.Common.{◌&&◌, max, ap, sym, ◌∙◌}
use Rattle.std.proofs.lemmas.Bool.{and_parts}
use Rattle.sparse_memory.specs.Ranges.{has_page}
use Rattle.sparse_memory.proofs.SharedPages.{shared-first, shared-none}
use Rattle.sparse_memory.proofs.ranges.first_in.Goals as goal

pub returns-then-not-is_shared : goal.returns-then-not-is_shared
returns-then-not-is_shared c =
    let range = c.args.range.now in
    let other = c.args.other.now in
    sym (shared-none range other (ap (λ n. has_page n range && has_page n other) (sym c.max-number.ensures) ∙ sym c.is_shared.ensures ∙ c.if-not-is_shared.true))

pub returns : goal.returns
returns c =
    let range = c.args.range.now in
    let other = c.args.other.now in
    let number = max range.first other.first in
    let both = and_parts (has_page number range) (has_page number other) (ap (λ n. has_page n range && has_page n other) (sym c.max-number.ensures) ∙ sym c.is_shared.ensures ∙ c.if-not-is_shared.false) in
    rw c.max-number.ensures (sym (shared-first range other both.0 both.1))
