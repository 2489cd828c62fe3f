use Rattle.std.proofs.lemmas.Grind.{common_steps}
use Rattle.std.proofs.Common.{◌≡◌, arith, length-set, ◌<◌, ap, ◌∙◌, refl, sym}
use Rattle.bus_words.specs.Places.{change_first}
use Rattle.flight_table.specs.Inside.{MayName}
use Rattle.flight_table.specs.LiveRequests.{LiveRequest}
use Rattle.flight_table.specs.Progress.{stepped}
use Rattle.flight_table.specs.Tables.{change_entry, has_key, requests_of}
use Rattle.flight_table.proofs.ClientLaws.{kept_same}
use Rattle.flight_table.proofs.HeldIds.{ids_set, length_holders, may_rename}
use Rattle.flight_table.specs.Sums.{IsSmall}
use Rattle.bus_words.proofs.PlaceChanges.{all-set}
use Rattle.flight_table.proofs.StepWorth.{goes_on}
use Rattle.flight_table.proofs.SumLaws.{are_part, small_stepped, sums_stepped}
use Rattle.flight_table.proofs.Index.{change-constant, request_changed, request_taken}
use Rattle.flight_table.proofs.KeyLaws.{request_listed}
use Rattle.flight_table.proofs.Kept.{kept_set, named_with, placed, requests_changed}
use Rattle.flight_table.proofs.Conflicts.{slots_kept}
use Rattle.flight_table.proofs.live.Live.take.Goals as goal

pub get-request-requires : goal.get-request-requires
get-request-requires c = rw (c.take.ensures.entries, request_changed (stepped c.args.step) c.args.key c.self.inside.slots c.get-old.result.now c.get-old.ensures.request) refl

pub rename-requires : goal.rename-requires
rename-requires c =
    let i = c.self.inside in
    let r = c.get-old.result.now in
    let found = c.get-old.ensures.request in
    let is = request_taken (stepped c.args.step) c.args.key i.slots c.take.new.self r c.get-request.result.now found c.take.ensures.entries c.get-request.ensures.request in
    rw (c.self.invariant.2, length_holders i.limits.ids i.slots, ap (λ (q : LiveRequest). q.id) c.old.view_is, ap (λ (q : LiveRequest). q.id) (c.request.view_is ∙ is))
    (may_rename i.limits.ids (requests_of i.slots) r.id (stepped c.args.step r).id
    (named_with c.args.key i.slots r (λ old. MayName i.limits.ids (requests_of i.slots) old.id (stepped c.args.step old).id) found (rw (← c.self.view_is) at c.requires.id)))

pub less-self-inside-requires : goal.less-self-inside-requires
less-self-inside-requires c =
    let i = c.self.inside in
    let r = c.get-old.result.now in
    let at = placed c.args.key i.slots c.place_of-place.result r c.place_of-place.ensures.place c.get-old.ensures.request in
    rw c.self.invariant.3.sums_are (are_part (requests_of i.slots) c.place_of-place.result c.args.step r c.worth-worth.result at.within (at.there r) c.worth-worth.ensures)

pub invariant_of-self : goal.invariant_of-self
invariant_of-self c =
    let i = c.self.inside in
    let r = c.get-old.result.now in
    let found = c.get-old.ensures.request in
    let new = stepped c.args.step r in
    let progress = goes_on c.args.step r c.requires.goes_on in
    let place = c.place_of-place.result in
    let at = placed c.args.key i.slots place r c.place_of-place.ensures.place found in
    let is = request_taken (stepped c.args.step) c.args.key i.slots c.take.new.self r c.get-request.result.now found c.take.ensures.entries c.get-request.ensures.request in
    let names = named_with c.args.key i.slots r (λ old. MayName i.limits.ids (requests_of i.slots) old.id (stepped c.args.step old).id) found (rw (← c.self.view_is) at c.requires.id) in
    let same : c.take.new.self ≡ change_first (has_key c.args.key) (change_entry (λ o. new)) i.slots = c.take.ensures.entries ∙ sym (change-constant (stepped c.args.step) c.args.key i.slots r new found refl) in
    let after = ap requests_of c.take.ensures.entries ∙ requests_changed (stepped c.args.step) c.args.key i.slots place r at in (
      rw (after, c.put.ensures, c.put-2.ensures, c.is_named.ensures, c.is_open-able.ensures, is)
          (kept_set i.limits.depth (requests_of i.slots) place r new i.able i.named i.unheld c.self.invariant.0 at.within (at.there r) progress),
      rw c.take.ensures.entries (slots_kept i.slots i.holders i.held i.spans.items i.rows c.args.key (stepped c.args.step) r c.self.invariant.1 found (λ q. goes_on c.args.step q c.requires.goes_on)),
      rw (c.rename.ensures, c.self.invariant.2, same, ap (λ (q : LiveRequest). q.id) c.old.view_is, ap (λ (q : LiveRequest). q.id) (c.request.view_is ∙ is)) (sym (ids_set i.limits.ids c.args.key i.slots r new r.id new.id found refl refl names)),
      rw after
          (record {
            sums_are = sums_stepped (requests_of i.slots) place c.args.step r c.worth-worth.result c.less-self-inside.result at.within (at.there r) c.worth-worth.ensures (c.less-self-inside.ensures ∙ c.self.invariant.3.sums_are);
            small = all-set IsSmall (requests_of i.slots) place new c.self.invariant.3.small (small_stepped c.args.step r c.worth-worth.result c.worth-worth.ensures (request_listed IsSmall c.args.key i.slots r c.self.invariant.3.small found));
            few = omega (arith, c.self.invariant.3.few, length-set (requests_of i.slots) place new);
          }),
      kept_same 8 i.slots c.take.new.self i.clients c.args.key r new c.self.invariant.4 found progress.client progress.source progress.done
          (request_listed (λ q. q.client < 8) c.args.key i.slots r c.self.invariant.4.few found) same,
    )

pub put-requires : goal.put-requires
put-requires c = grind (arith, common_steps)

pub put-requires-2 : goal.put-requires-2
put-requires-2 c = grind (arith, common_steps)
