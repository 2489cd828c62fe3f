use Rattle.std.proofs.lemmas.Grind.{common_steps}
use Rattle.std.proofs.Common.{Some, List, ◌+◌, ◌==◌, ◌^◌, ap₂, false, get_or, length, map, set, length-set, ◌≡◌, ◌<◌, ◌≤◌, ap, arith, ◌∙◌, refl, sym}
use Rattle.std.specs.Prelude.{IfSome, if◌then◌else◌}
use Rattle.bus_words.specs.Places.{change_first}
use Rattle.flight_table.specs.Inside.{HasOneHolder}
use Rattle.flight_table.specs.LiveRequests.{LiveRequest, finished, pieces_planned}
use Rattle.flight_table.specs.Conflicts.{AreInSlots, is_held_by}
use Rattle.flight_table.specs.Marks.{marks_of}
use Rattle.flight_table.specs.Order.{is_held}
use Rattle.flight_table.specs.Rows.{bits_of, lies_in}
use Rattle.flight_table.specs.Tables.{KeyedRequest, change_entry, has_key, requests_of}
use Rattle.flight_table.specs.declared.live_request.Step.TheVariants.{Done}
use Rattle.flight_table.proofs.Index.{change-constant}
use Rattle.flight_table.proofs.ClientLaws.{is_kept, is_listed, kept_finished}
use Rattle.flight_table.proofs.KeyLaws.{request_listed}
use Rattle.flight_table.proofs.HeldIds.{gives_back, ids_finish, length_holders}
use Rattle.flight_table.specs.Sums.{IsSmall}
use Rattle.bus_words.proofs.PlaceChanges.{all-set}
use Rattle.flight_table.proofs.SumLaws.{are_part, small_stepped, sums_stepped}
use Rattle.flight_table.proofs.Kept.{is_unheld, kept_finish, named_with, placed, requests_changed}
use Rattle.flight_table.proofs.Conflicts.{keys_changed, none_holds, row_holds, set_marks, slots_finished, unheld_by_slot}
use Rattle.flight_table.proofs.MarkLaws.{length-marks}
use Rattle.flight_table.proofs.SlotMarks.{marked_live}
use Rattle.flight_table.proofs.live.Live.finish.Goals as goal

pub rename-requires : goal.rename-requires
rename-requires c =
    let i = c.self.inside in
    let r = c.get-request.result.now in
    rw (c.self.invariant.2, length_holders i.limits.ids i.slots, ap (λ (q : LiveRequest). q.id) c.request.view_is)
    (gives_back i.limits.ids (requests_of i.slots) r.id
    (named_with c.args.key i.slots r (λ old. IfSome old.id (HasOneHolder i.limits.ids (requests_of i.slots))) c.get-request.ensures.request (rw (← c.self.view_is) at c.requires.id)))

pub less-self-inside-requires : goal.less-self-inside-requires
less-self-inside-requires c =
    let i = c.self.inside in
    let r = c.get-request.result.now in
    let at = placed c.args.key i.slots c.place_of-place.result r c.place_of-place.ensures.place c.get-request.ensures.request in
    rw c.self.invariant.3.sums_are (are_part (requests_of i.slots) c.place_of-place.result Done r c.worth-worth.result at.within (at.there r) c.worth-worth.ensures)

pub finish-requires-clause-client : goal.finish-requires-clause-client
finish-requires-clause-client c =
    let i = c.self.inside in
    let r = c.get-request.result.now in
    is_kept 8 _ r.client i.slots i.clients c.self.invariant.4 (ap (λ (q : LiveRequest). q.client) c.request.view_is) (request_listed (λ q. q.client < 8) c.args.key i.slots r c.self.invariant.4.few c.get-request.ensures.request)

pub finish-requires-clause-there : goal.finish-requires-clause-there
finish-requires-clause-there c =
    let i = c.self.inside in
    is_listed 8 _ c.args.key i.slots i.clients c.get-request.result.now c.self.invariant.4 c.get-request.ensures.request (ap (λ (q : LiveRequest). q.client) c.request.view_is)

pub remove-requires-clause-there : goal.remove-requires-clause-there
remove-requires-clause-there c =
    let i = c.self.inside in
    rw c.slot-slot.ensures.value (row_holds c.open_page.result c.args.key i.slots i.holders i.held i.spans.items i.rows c.get-request.result.now c.self.invariant.1 c.get-request.ensures.request c.open_page.ensures)

pub lower_counts-requires : goal.lower_counts-requires
lower_counts-requires c =
    let i = c.self.inside in
    let r = c.get-request.result.now in
    let held = c.of-held.ensures ∙ ap (λ slot. marks_of 64 (get_or i.held slot 0)) c.slot-slot.ensures.value ∙ set_marks c.args.key i.slots i.holders i.held i.spans.items i.rows r c.self.invariant.1 c.get-request.ensures.request in
    record {
      slots = rw c.of-held.ensures (length-marks 64 (get_or i.held c.slot-slot.result 0));
      live = λ slot mark. marked_live (is_held_by r) slot i.slots (rw held at mark);
      unheld = c.self.invariant.0.free ∙ unheld_by_slot i.slots i.holders i.held i.spans.items i.rows c.self.invariant.1;
    }

pub invariant_of-self : goal.invariant_of-self
invariant_of-self c =
    let i = c.self.inside in
    let r = c.get-request.result.now in
    let key = c.args.key in
    let found = c.get-request.ensures.request in
    let place = c.place_of-place.result in
    let at = placed key i.slots place r c.place_of-place.ensures.place found in
    let one = named_with key i.slots r (λ old. IfSome old.id (HasOneHolder i.limits.ids (requests_of i.slots))) found (rw (← c.self.view_is) at c.requires.id) in
    let free = named_with key i.slots r (λ old. old.done ≡ false → 1 ≤ length (pieces_planned old.plan) → is_held (requests_of i.slots) old ≡ false) found (rw (← c.self.view_is) at c.requires.free) in
    let same : c.take.new.self ≡ change_first (has_key key) (change_entry (λ o. finished r)) i.slots = c.take.ensures.entries ∙ sym (change-constant finished key i.slots r (finished r) found refl) in
    let after = ap requests_of c.take.ensures.entries ∙ requests_changed finished key i.slots place r at in
    let marks = c.of-held.ensures ∙ ap (λ slot. marks_of 64 (get_or i.held slot 0)) c.slot-slot.ensures.value ∙ set_marks key i.slots i.holders i.held i.spans.items i.rows r c.self.invariant.1 found in
    let slots : AreInSlots c.take.new.self c.lower_counts.new.holders (set i.held c.slot.result 0) i.spans.items c.remove.new.self =
    rw (c.take.ensures.entries, c.lower_counts.ensures.holders, marks, c.slot.ensures.value)
    (slots_finished i.slots i.holders i.held i.spans.items i.rows c.remove.new.self key r c.self.invariant.1 c.get-request.ensures.keys found (none_holds key i.slots i.holders i.held i.spans.items i.rows r c.self.invariant.1 found free)
    (λ other. ap₂ (λ page slot. bits_of other c.remove.new.self + (if lies_in (Some other) page then 2 ^ slot else 0)) (sym c.open_page.ensures) (sym c.slot-slot.ensures.value) ∙ c.remove.ensures other)) in
    let unheld = c.lower_counts.ensures.unheld ∙ sym (ap (map (λ (entry : KeyedRequest). get_or c.lower_counts.new.holders entry.key 0 == 0)) c.take.ensures.entries ∙ keys_changed (λ k. get_or c.lower_counts.new.holders k 0 == 0) finished key i.slots)
    ∙ sym (unheld_by_slot c.take.new.self c.lower_counts.new.holders (set i.held c.slot.result 0) i.spans.items c.remove.new.self slots) in (
      rw (after, c.put.ensures, c.put-2.ensures)
          (kept_finish i.limits.depth (requests_of i.slots) place r i.able i.named i.unheld c.lower_counts.new.unheld c.self.invariant.0 (unheld ∙ ap (λ (live : List LiveRequest). map (is_unheld live) live) after)),
      slots,
      rw (c.rename.ensures, c.self.invariant.2, same, ap (λ (q : LiveRequest). q.id) c.request.view_is) (sym (ids_finish i.limits.ids key place i.slots r (finished r) r.id found at refl refl one)),
      rw after
          (record {
            sums_are = sums_stepped (requests_of i.slots) place Done r c.worth-worth.result c.less-self-inside.result at.within (at.there r) c.worth-worth.ensures (c.less-self-inside.ensures ∙ c.self.invariant.3.sums_are);
            small = all-set IsSmall (requests_of i.slots) place (finished r) c.self.invariant.3.small (small_stepped Done r c.worth-worth.result c.worth-worth.ensures (request_listed IsSmall key i.slots r c.self.invariant.3.small found));
            few = omega (arith, c.self.invariant.3.few, length-set (requests_of i.slots) place (finished r));
          }),
      kept_finished 8 _ i.slots c.take.new.self i.clients c.finish.new.self key r (finished r) c.self.invariant.4 found
          (request_listed (λ q. q.client < 8) key i.slots r c.self.invariant.4.few found) (ap (λ (q : LiveRequest). q.client) c.request.view_is) refl same c.finish.ensures,
    )

pub put-requires : goal.put-requires
put-requires c = grind (arith, common_steps)

pub put-requires-2 : goal.put-requires-2
put-requires-2 c = grind (arith, common_steps)
