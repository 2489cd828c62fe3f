use Rattle.std.proofs.lemmas.Grind.{common_steps}
use Rattle.std.proofs.Common.{◌≡◌, ◌<◌, None, sym, true, ap, arith, ◌∙◌}
use Rattle.flight_table.specs.Tables.{requests_of}
use Rattle.flight_table.specs.LiveRequests.{LiveRequest}
use Rattle.flight_table.proofs.ClientLaws.{is_kept, is_listed, kept_removed}
use Rattle.flight_table.proofs.KeyLaws.{request_listed}
use Rattle.flight_table.proofs.HeldIds.{ids_remove}
use Rattle.std.proofs.lemmas.List.Edits.{length-remove}
use Rattle.flight_table.specs.Sums.{IsSmall}
use Rattle.bus_words.proofs.PlaceChanges.{all-remove}
use Rattle.flight_table.proofs.SumLaws.{sums_removed}
use Rattle.flight_table.proofs.Kept.{kept_remove, named_with, placed, requests_without}
use Rattle.flight_table.proofs.Conflicts.{slots_removed}
use Rattle.flight_table.proofs.live.Live.remove.Goals as goal

pub remove-requires-5-clause-client : goal.remove-requires-5-clause-client
remove-requires-5-clause-client c =
    let i = c.self.inside in
    let r = c.get.result.now in
    is_kept 8 _ r.client i.slots i.clients c.self.invariant.4 (ap (λ (q : LiveRequest). q.client) c.behind-self.view_is) (request_listed (λ q. q.client < 8) c.args.key i.slots r c.self.invariant.4.few c.get.ensures.request)

pub remove-requires-5-clause-there : goal.remove-requires-5-clause-there
remove-requires-5-clause-there c =
    let i = c.self.inside in
    is_listed 8 _ c.args.key i.slots i.clients c.get.result.now c.self.invariant.4 c.get.ensures.request (ap (λ (q : LiveRequest). q.client) c.behind-self.view_is)

pub invariant_of-self : goal.invariant_of-self
invariant_of-self c =
    let i = c.self.inside in
    let r = c.get.result.now in
    let done = named_with c.args.key i.slots r (λ q. q.done ≡ true) c.get.ensures.request (rw (← c.self.view_is) at c.requires.done) in
    let no_id = named_with c.args.key i.slots r (λ q. q.id ≡ None) c.get.ensures.request (rw (← c.self.view_is) at c.requires.no_id) in
    let place = c.place_of-place.result in
    let at = placed c.args.key i.slots place r c.place_of-place.ensures.place c.get.ensures.request in
    let after = ap requests_of c.remove-4.ensures.entries ∙ requests_without c.args.key i.slots place r at in (
      rw (after, c.remove.ensures, c.remove-2.ensures, c.remove-3.ensures)
          (kept_remove i.limits.depth (requests_of i.slots) place r i.able i.named i.unheld c.self.invariant.0 at.within (at.there r) done),
      rw c.remove-4.ensures.entries (slots_removed i.slots i.holders i.held i.spans.items i.rows c.args.key r c.self.invariant.1 c.get.ensures.keys c.get.ensures.request done),
      rw c.remove-4.ensures.entries (c.self.invariant.2 ∙ sym (ids_remove i.limits.ids c.args.key i.slots r c.get.ensures.request no_id)),
      rw after
          (record {
            sums_are = c.self.invariant.3.sums_are ∙ sums_removed (requests_of i.slots) place r at.within (at.there r) done;
            small = all-remove IsSmall (requests_of i.slots) place c.self.invariant.3.small;
            few = omega (arith, c.self.invariant.3.few, length-remove (requests_of i.slots) place at.within);
          }),
      kept_removed 8 _ i.slots c.remove-4.new.self i.clients c.remove-5.new.self c.args.key r c.self.invariant.4 c.get.ensures.request
          (request_listed (λ q. q.client < 8) c.args.key i.slots r c.self.invariant.4.few c.get.ensures.request) (ap (λ (q : LiveRequest). q.client) c.behind-self.view_is) c.remove-4.ensures.entries c.remove-5.ensures,
    )

pub remove-requires : goal.remove-requires
remove-requires c = grind (arith, common_steps)

pub remove-requires-2 : goal.remove-requires-2
remove-requires-2 c = grind (arith, common_steps)

pub remove-requires-3 : goal.remove-requires-3
remove-requires-3 c = grind (arith, common_steps)
