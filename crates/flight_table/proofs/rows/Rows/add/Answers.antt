use Rattle.std.proofs.Common.{◌≡◌, ◌+◌, ◌<◌, ◌^◌, ap, arith, length, get_or, ◌∙◌, if◌then◌else◌, ◌==◌}
use Rattle.flight_table.specs.Rows.{bits_of}
use Rattle.flight_table.specs.declared.rows.Row.{Row}
use Rattle.flight_table.proofs.MarkLaws.{unit_is}
use Rattle.flight_table.proofs.RowLaws.{bits_here, bits_more, same_pages}
use Rattle.flight_table.proofs.rows.Rows.add.Goals as goal

own : (c : goal.After-index_mut) → c.index_mut.result.now.page ≡ c.in-Some.page
own c = ap (λ (row : Row). row.page) c.index_mut.ensures.value ∙ ap (λ rows. (get_or rows c.claim-k.result c.index_mut.result.now).page) c.self.view_is ∙ c.claim-k.ensures.page c.index_mut.result.now

within : (c : goal.After-index_mut) → c.claim-k.result < length c.self.inside.rows.items
within c = rw c.self.view_is c.claim-k.ensures.within

pub overflow_add-index_mut : goal.overflow_add-index_mut
overflow_add-index_mut c =
    let page = c.in-Some.page in
    let here = bits_here c.self.inside.rows.items c.claim-k.result page c.index_mut.result.now c.self.invariant.0 (within c) c.index_mut.ensures.value (own c) in
    let known = here ∙ ap (bits_of page) c.self.view_is ∙ c.claim-k.ensures.same page in
    rw (unit_is c.args.slot c.requires.slot) (omega (arith, known, rw c.in-Some.is at c.requires.fits))

pub invariant_of-self : goal.invariant_of-self
invariant_of-self c = (rw (same_pages c.self.inside.rows.items c.claim-k.result _ c.index_mut.result.now c.index_mut.ensures.value) c.self.invariant.0, c.self.invariant.1)

pub returns : goal.returns
returns c =
    let page = c.in-Some.page in
    let rows = c.self.inside.rows.items in
    let k = c.claim-k.result in
    let row = c.index_mut.result.now in
    let is_own = ap (λ (o : Row). o.page) c.index_mut.ensures.value ∙ ap (λ rows. (get_or rows k row).page) c.self.view_is ∙ c.claim-k.ensures.page row in
    let here : k < length rows = rw c.self.view_is c.claim-k.ensures.within in
    λ other. rw (c.in-Some.is, unit_is c.args.slot c.requires.slot)
    (bits_more rows k page (2 ^ c.args.slot) other row c.self.invariant.0 here c.index_mut.ensures.value is_own
    ∙ ap (λ n. n + (if page == other then 2 ^ c.args.slot else 0)) (ap (bits_of other) c.self.view_is ∙ c.claim-k.ensures.same other))
