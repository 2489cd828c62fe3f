use Rattle.std.proofs.lemmas.Grind.{common_steps}
use Rattle.std.proofs.Common.{Some, ap₂, length-append, sym, ◌≡◌, [], ◌∷◌, ◌++◌, ◌+◌, ◌^◌, List, Bool, if◌then◌else◌, ap, arith, ◌∙◌}
use Rattle.std.proofs.lemmas.List.{map_push}
use Rattle.flight_table.specs.Tables.{KeyedRequest, requests_of}
use Rattle.flight_table.specs.Conflicts.{slot_marks}
use Rattle.flight_table.specs.LiveRequests.{LiveRequest}
use Rattle.flight_table.proofs.ClientLaws.{are_fewer, is_kept, kept_added}
use Rattle.flight_table.proofs.HeldIds.{ids_add}
use Rattle.bus_words.proofs.PlaceChanges.{all-append}
use Rattle.flight_table.specs.Sums.{IsSmall, with_sums}
use Rattle.bus_words.proofs.MappedPlaces.{length_map}
use Rattle.flight_table.proofs.SumLaws.{are_small, sums_pushed}
use Rattle.flight_table.proofs.Kept.{kept_add}
use Rattle.flight_table.proofs.MarkLaws.{length-marks}
use Rattle.flight_table.specs.Rows.{bits_in, bits_of, is_on, lies_in, page_of}
use Rattle.flight_table.specs.Spans.{counted_in}
use Rattle.flight_table.specs.declared.spans.Span.{Span}
use Rattle.flight_table.proofs.Conflicts.{IsNew, new_counted, row_marks, row_room, slots_added}
use Rattle.flight_table.proofs.RowLaws.{few_rows, page_is}
use Rattle.flight_table.proofs.live.Live.add.Goals as goal

pub with-self-inside-requires : goal.with-self-inside-requires
with-self-inside-requires c = rw c.self.invariant.3.sums_are (are_small (requests_of c.self.inside.slots) c.self.invariant.3.few c.self.invariant.3.small)

pub join-holders-requires-clause-spans : goal.join-holders-requires-clause-spans
join-holders-requires-clause-spans c = rw c.as_slice.ensures.value c.self.invariant.1.all_spans

pub join-holders-requires-clause-slots : goal.join-holders-requires-clause-slots
join-holders-requires-clause-slots c = rw c.row-row.ensures.row (length-marks 64 (bits_in c.page-page.result c.self.inside.rows))

pub add-requires-clause-room : goal.add-requires-clause-room
add-requires-clause-room c =
    λ full.
    omega (arith, few_rows c.self.inside.rows c.self.inside.slots c.self.invariant.1.pages c.row-row.ensures.pages full, length_map (λ (entry : KeyedRequest). entry.request) c.self.inside.slots, rw (← c.self.view_is) at c.requires.room)

pub add-requires-clause-fits : goal.add-requires-clause-fits
add-requires-clause-fits c =
    let i = c.self.inside in
    rw c.slot-slot.ensures.value
    (row_room c.page-page.result c.add-key.result i.slots i.holders i.held i.spans.items i.rows c.self.invariant.1 c.add-key.ensures.fresh (rw c.slot-slot.ensures.value at c.slot-slot.ensures.within))

pub add-requires-2-clause-client : goal.add-requires-2-clause-client
add-requires-2-clause-client c =
    let i = c.self.inside in
    is_kept 8 _ c.args.request.client i.slots i.clients c.self.invariant.4 (ap (λ (q : LiveRequest). q.client) c.request.view_is) c.requires.client

pub add-requires-2-clause-room : goal.add-requires-2-clause-room
add-requires-2-clause-room c =
    let i = c.self.inside in
    are_fewer 8 _ c.args.request.client 8 i.slots i.clients c.self.invariant.4 (ap (λ (q : LiveRequest). q.client) c.request.view_is) (rw (← c.self.view_is) at c.requires.quota)

pub invariant_of-self : goal.invariant_of-self
invariant_of-self c =
    let i = c.self.inside in
    let r = c.args.request in
    let key = c.add-key.result in
    let live = requests_of i.slots in
    let after : requests_of c.add-key.new.self ≡ live ++ r ∷ [] = ap requests_of c.add-key.ensures.entries ∙ map_push (λ (entry : KeyedRequest). entry.request) i.slots (record { key = key; request = r }) in
    let new : IsNew i.slots key r = record {
      own = c.add-key.ensures.old_keys;
      fresh = c.add-key.ensures.fresh;
      slot = rw c.slot-slot.ensures.value at c.slot-slot.ensures.within;
      range = c.page-page.ensures.range;
      sends = c.requires.sends;
      latest = rw (← c.self.view_is) at c.requires.latest;
    } in
    let row : c.row-row.result ≡ slot_marks (is_on (page_of r.plan)) i.slots = c.row-row.ensures.row ∙ row_marks c.page-page.result i.slots i.holders i.held i.spans.items i.rows c.self.invariant.1 ∙ ap (λ page. slot_marks (is_on page) i.slots) c.page-page.ensures.page in
    let counted = c.join-holders.ensures.count ∙ ap (counted_in c.row-row.result c.span-span.result) c.as_slice.ensures.value ∙ ap₂ (λ (marks : List Bool) (s : Span). counted_in marks s i.spans.items) row c.span-span.ensures ∙ new_counted i.slots i.holders i.held i.spans.items i.rows key r c.self.invariant.1 new in (
      rw (after, c.push.ensures, c.push-2.ensures, c.push-3.ensures, c.is_named.ensures, c.is_open-able.ensures)
          (kept_add i.limits.depth live r i.able i.named i.unheld c.join-holders.result c.self.invariant.0 new.latest counted),
      rw (c.add-key.ensures.entries, c.join-holders.ensures.held, c.as_slice.ensures.value, c.span-span.ensures, row, c.slot-slot.ensures.value)
          (slots_added i.slots i.holders i.held i.spans.items i.rows c.add.new.self key c.join-holders.result r c.self.invariant.1 new counted
          (λ other. c.add.ensures other ∙ ap₂ (λ page slot. bits_of other i.rows + (if lies_in (Some other) page then 2 ^ slot else 0)) (c.page-page.ensures.page ∙ sym (page_is r c.requires.sends)) c.slot-slot.ensures.value)),
      rw c.add-key.ensures.entries (c.self.invariant.2 ∙ sym (ids_add i.limits.ids i.slots (record { key = key; request = r }) c.requires.no_id)),
      rw after
          (record {
            sums_are = c.with-self-inside.ensures.sums ∙ ap (with_sums r) c.self.invariant.3.sums_are ∙ sums_pushed live r;
            small = all-append IsSmall live r c.self.invariant.3.small c.with-self-inside.ensures.small;
            few = omega (arith, rw (← c.self.view_is) at c.requires.room, length_map (λ (entry : KeyedRequest). entry.request) i.slots, length-append live (r ∷ []));
          }),
      kept_added 8 _ _ _ i.slots c.add-key.new.self i.clients c.add-2.new.self key r c.self.invariant.4 c.requires.client (ap (λ (q : LiveRequest). q.client) c.request.view_is)
          (ap (λ (q : LiveRequest). q.source) c.request.view_is) (ap (λ (q : LiveRequest). q.done) c.request.view_is) c.add-key.ensures.entries c.add-2.ensures,
    )

pub push-requires : goal.push-requires
push-requires c = grind (arith, common_steps)

pub push-requires-2 : goal.push-requires-2
push-requires-2 c = grind (arith, common_steps)

pub push-requires-3 : goal.push-requires-3
push-requires-3 c = grind (arith, common_steps)
