-- Lists are kept short, the request is counted, and begins at its words.
use Rattle.std.proofs.Common.{◌+◌, ◌/◌, ◌<◌, ◌^◌, ap, arith, refl, ◌∙◌}
use Rattle.byte_orders.specs.Runs.{Others, Reads}
use Rattle.value_memory.specs.ValueMemory.{ValueState, rooms_in}
use Rattle.value_memory.proofs.Counting.{sound-counted, sound-crowded, writing_here, writing_pages, writing_within}
use Rattle.value_memory.proofs.Going.{quiet_others, quiet_reads}
use Rattle.value_memory.proofs.MemoryGoes.{pages-same, state_of}
use Rattle.value_memory.proofs.StateSteps.{writing-contents}
use Rattle.value_memory.proofs.memory.ValueMemory.begin_writing.Goals as goal

pub invariant_of-self : goal.invariant_of-self
invariant_of-self c =
    let m : ValueState = state_of c.self.inside.table c.self.inside.settled c.self.inside.begun c.self.inside.oldest c.self.inside.crowds in
    let same = ap (λ (s : ValueState). s.begun) c.self.view_is in
    let few : c.self.inside.begun < 2 ^ 63 = omega (arith, c.requires.few, same, c.make_places.ensures.rest.counts.begun) in
    sound-counted m (record m { begun = m.begun + 1 }) refl few c.self.invariant

pub begin_each-crowded-requires : goal.begin_each-crowded-requires
begin_each-crowded-requires c =
    let m : ValueState = state_of c.self.inside.table c.self.inside.settled c.self.inside.begun c.self.inside.oldest c.self.inside.crowds in
    let page = c.args.range.address / 4096 in
    record {
      range = c.requires.range;
      some = omega arith;
      oldest = c.self.invariant.within;
      room =
          (pages-same m (record m { begun = m.begun + 1 }) refl).rooms page ∙ ap (λ (s : ValueState). rooms_in s page) c.self.view_is
          ∙ c.make_places.ensures.rest.pages.rooms page ∙ c.requires.room;
    }

pub invariant_of-self-2 : goal.invariant_of-self-2
invariant_of-self-2 c =
    let m : ValueState = state_of c.self.inside.table c.self.inside.settled c.self.inside.begun c.self.inside.oldest c.self.inside.crowds in
    let n : ValueState = state_of c.self-2.inside.table c.self-2.inside.settled c.self-2.inside.begun c.self-2.inside.oldest c.self-2.inside.crowds in
    sound-crowded n (record n { crowds = n.crowds + c.one_if.result }) (n.crowds + c.one_if.result) refl
    (writing_within c.args.self.now c.make_places.new.self m c.begin_each-crowded.new.self n c.args.range c.begin_each-crowded.result c.one_if.result c.make_places.ensures.goes c.make_places.ensures.rest
    c.self.view_is c.begin_each-crowded.ensures.held c.begin_each-crowded.ensures.rest c.self-2.view_is c.one_if.ensures c.self.invariant)
    c.self-2.invariant

pub returns-clause-others : goal.returns-clause-others
returns-clause-others c =
    let m : ValueState = state_of c.self.inside.table c.self.inside.settled c.self.inside.begun c.self.inside.oldest c.self.inside.crowds in
    let n : ValueState = state_of c.self-2.inside.table c.self-2.inside.settled c.self-2.inside.begun c.self-2.inside.oldest c.self-2.inside.crowds in
    let number = c.args.self.now.begun + 1 in
    writing_here c.args.self.now c.make_places.new.self m c.begin_each-crowded.new.self n c.args.range c.begin_each-crowded.result c.one_if.result c.make_places.ensures.goes c.make_places.ensures.rest
    c.self.view_is c.begin_each-crowded.ensures.held c.begin_each-crowded.ensures.rest c.self-2.view_is c.one_if.ensures (Others number) (quiet_others number)

pub returns-clause-reads : goal.returns-clause-reads
returns-clause-reads c =
    let m : ValueState = state_of c.self.inside.table c.self.inside.settled c.self.inside.begun c.self.inside.oldest c.self.inside.crowds in
    let n : ValueState = state_of c.self-2.inside.table c.self-2.inside.settled c.self-2.inside.begun c.self-2.inside.oldest c.self-2.inside.crowds in
    let number = c.args.self.now.begun + 1 in
    writing_here c.args.self.now c.make_places.new.self m c.begin_each-crowded.new.self n c.args.range c.begin_each-crowded.result c.one_if.result c.make_places.ensures.goes c.make_places.ensures.rest
    c.self.view_is c.begin_each-crowded.ensures.held c.begin_each-crowded.ensures.rest c.self-2.view_is c.one_if.ensures (Reads number) (quiet_reads number)

pub returns-clause-pages : goal.returns-clause-pages
returns-clause-pages c =
    let m : ValueState = state_of c.self.inside.table c.self.inside.settled c.self.inside.begun c.self.inside.oldest c.self.inside.crowds in
    let n : ValueState = state_of c.self-2.inside.table c.self-2.inside.settled c.self-2.inside.begun c.self-2.inside.oldest c.self-2.inside.crowds in
    writing_pages c.args.self.now c.make_places.new.self m c.begin_each-crowded.new.self n c.args.range c.begin_each-crowded.result c.one_if.result c.make_places.ensures.goes c.make_places.ensures.rest
    c.self.view_is c.begin_each-crowded.ensures.held c.begin_each-crowded.ensures.rest c.self-2.view_is c.one_if.ensures

pub returns-clause-state : goal.returns-clause-state
returns-clause-state c =
    let m : ValueState = state_of c.self.inside.table c.self.inside.settled c.self.inside.begun c.self.inside.oldest c.self.inside.crowds in
    let n : ValueState = state_of c.self-2.inside.table c.self-2.inside.settled c.self-2.inside.begun c.self-2.inside.oldest c.self-2.inside.crowds in
    writing-contents c.args.self.now c.make_places.new.self m c.begin_each-crowded.new.self n c.args.range c.begin_each-crowded.result c.one_if.result c.make_places.ensures.state c.self.view_is
    c.begin_each-crowded.ensures.state c.begin_each-crowded.ensures.crowded c.self-2.view_is c.one_if.ensures
