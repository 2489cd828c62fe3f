use Rattle.std.proofs.Common.{◌∙◌}
use Rattle.slab.proofs.SlabLemmas.{Updates-with_value}
use Rattle.slab.specs.Slab.{with_value}
use Rattle.flight_table.specs.Inside.{entries_in}
use Rattle.flight_table.specs.Progress.{MayStep, stepped}
use Rattle.flight_table.proofs.Index.{change-constant, entries-set, index-set, key-there, keys_of, request_held}
use Rattle.flight_table.proofs.Kept.{named_with, some_named}
use Rattle.flight_table.proofs.slots.Slots.take.Goals as goal

pub index_mut-requires : goal.index_mut-requires
index_mut-requires c =
    let s = c.self.inside.requests in
    let ks = c.self.inside.order.items in
    rw c.slot.ensures.value (key-there s c.args.key ks c.self.invariant.0.there (some_named c.args.key (entries_in s ks) (MayStep c.args.step) (rw (← c.self.view_is) at c.requires)))

pub take-requires : goal.take-requires
take-requires c =
    let s = c.self.inside.requests in
    let ks = c.self.inside.order.items in
    let may = rw (← c.self.view_is) at c.requires in
    let r = c.index_mut.result.now in
    named_with c.args.key (entries_in s ks) r (MayStep c.args.step) (request_held s c.args.key ks r (some_named c.args.key (entries_in s ks) (MayStep c.args.step) may) (rw c.slot.ensures.value at c.index_mut.ensures.value)) may

pub invariant_of-self : goal.invariant_of-self
invariant_of-self c =
    let s = c.self.inside.requests in
    let ks = c.self.inside.order.items in
    let there = key-there s c.args.key ks c.self.invariant.0.there (some_named c.args.key (entries_in s ks) (MayStep c.args.step) (rw (← c.self.view_is) at c.requires)) in
    rw c.slot.ensures.value (index-set s ks c.args.key c.take.new.self c.self.invariant.0 there, c.self.invariant.1, c.self.invariant.2, c.self.invariant.3, c.self.invariant.4, c.self.invariant.5)

pub returns-clause-entries : goal.returns-clause-entries
returns-clause-entries c =
    let s = c.self.inside.requests in
    let ks = c.self.inside.order.items in
    let some = some_named c.args.key (entries_in s ks) (MayStep c.args.step) (rw (← c.self.view_is) at c.requires) in
    let r = c.index_mut.result.now in
    let new = c.take.new.self in
    rw (c.slot.ensures.value, ← c.self.view_is)
    (entries-set s (with_value s c.args.key new) c.args.key new ks c.self.invariant.0.distinct (Updates-with_value s c.args.key new (key-there s c.args.key ks c.self.invariant.0.there some))
    ∙ change-constant (stepped c.args.step) c.args.key (entries_in s ks) r new (request_held s c.args.key ks r some (rw c.slot.ensures.value at c.index_mut.ensures.value)) c.take.ensures)

pub returns-clause-keys : goal.returns-clause-keys
returns-clause-keys c = rw (c.slot.ensures.value, keys_of (with_value c.self.inside.requests c.args.key c.take.new.self) c.self.inside.order.items) c.self.invariant.0.distinct
