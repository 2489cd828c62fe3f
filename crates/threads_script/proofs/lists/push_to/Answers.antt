-- The list at the place has an item more, and its room.
use Rattle.std.proofs.Common.{◌≡◌, ◌<◌, ◌≤◌, ◌∙◌, ◌++◌, ◌∷◌, [], Some, ap, length, refl, sym, arith, rules}
use Rattle.std.specs.Prelude.{option_map, slice_get, slice_set, vec_capacity}
use Rattle.std.proofs.lemmas.List.{map-set}
use Rattle.std.proofs.lemmas.Option.{slice_get-map, slice_get_read}
use Rattle.thread_reports.specs.Reports.{items_of}
use Rattle.threads_script.specs.Lists.{with_item}
use Rattle.threads_script.proofs.ListLemmas.{each_set}
use Rattle.threads_script.proofs.lists.push_to.Goals as goal

pub push_reserved-requires : goal.push_reserved-requires
push_reserved-requires g c =
    let lists = c.args.lists.now.items in
    let list = c.in-Some.list.now in
    let within : c.args.place < length lists = search rules in
    let there : slice_get lists c.args.place ≡ Some list = slice_get_read lists (length lists) c.args.place list refl within c.in-Some.ensures.item.1 in
    let found : slice_get (items_of lists) c.args.place ≡ Some list.items = slice_get-map (λ xs. xs.items) lists c.args.place ∙ ap (option_map (λ xs. xs.items)) there in
    let few : length list.items < c.args.most = rw found at c.requires.few in
    let room = c.requires.room c.args.place list there in
    omega (arith, room, few)

pub returns-in-Some-clause-items : goal.returns-in-Some-clause-items
returns-in-Some-clause-items g c =
    let lists = c.args.lists.now.items in
    let list = c.in-Some.list.now in
    let within : c.args.place < length lists = search rules in
    let there : slice_get lists c.args.place ≡ Some list = slice_get_read lists (length lists) c.args.place list refl within c.in-Some.ensures.item.1 in
    let grown : c.push_reserved.new.self.items ≡ list.items ++ c.args.item ∷ [] = c.push_reserved.ensures.items in
    let found : slice_get (items_of lists) c.args.place ≡ Some list.items = slice_get-map (λ xs. xs.items) lists c.args.place ∙ ap (option_map (λ xs. xs.items)) there in
    map-set (λ xs. xs.items) lists c.args.place c.push_reserved.new.self ∙ ap (slice_set (items_of lists) c.args.place) grown
    ∙ sym (ap (with_item (items_of lists) c.args.place c.args.item) found)

pub returns-in-Some-clause-room : goal.returns-in-Some-clause-room
returns-in-Some-clause-room g c =
    let lists = c.args.lists.now.items in
    let list = c.in-Some.list.now in
    let within : c.args.place < length lists = search rules in
    let there : slice_get lists c.args.place ≡ Some list = slice_get_read lists (length lists) c.args.place list refl within c.in-Some.ensures.item.1 in
    let room = c.requires.room c.args.place list there in
    each_set (λ xs. c.args.most ≤ vec_capacity xs) c.args.lists.now.items c.args.place c.push_reserved.new.self c.requires.room (omega (arith, room, c.push_reserved.ensures.capacity))
