-- One word of the page is changed, in the lanes of the strobes.
use Rattle.std.proofs.Common.{◌≡◌, ◌^◌, ◌<◌, None, Some, get_or, position, arith, sym, subst, ◌∙◌, ap}
use Rattle.std.proofs.Math.ListN.{set, length-set}
use Rattle.subordinate.specs.Effects.{HasGoodPages}
use Rattle.subordinate.specs.FreeMemory.{bytes_written}
use Rattle.subordinate.specs.InsidePages.{PagesState, pages_of, pages_state}
use Rattle.subordinate.specs.Pages.{Memory, word_place}
use Rattle.subordinate.proofs.PageWrites.{bytes_written-store, bytes_written-none, good_pages-written}
use Rattle.subordinate.proofs.PagesOf.{is_page_of}
use Rattle.subordinate.proofs.pages.Pages.write.Goals as goal

pub place_of-requires : goal.place_of-requires
place_of-requires c = rw c.deref.ensures.value c.self.invariant.2

pub returns-in_default-clause-written : goal.returns-in_default-clause-written
returns-in_default-clause-written c =
    sym c.self.view_is
    ∙ ap (λ (memory : Memory). record { faults = record { pages = c.self.inside.listed.items; bad_words = c.self.inside.bad.items }; memory = memory })
    (bytes_written-none c.args.bus_bytes c.address_of-address.result c.self.inside.numbers.items c.self.inside.words.items c.args.aw c.args.n c.args.beat c.self.invariant.0 c.requires.transfer
    c.address_of-address.ensures missing)
    ∙ ap (λ (pages : PagesState). record pages { memory = bytes_written c.args.bus_bytes pages.memory c.args.aw c.args.n c.args.beat }) c.self.view_is
  where
    missing : position (is_page_of c.address_of-address.result) c.self.inside.numbers.items ≡ None
    missing = ap (position (is_page_of c.address_of-address.result)) (sym c.deref.ensures.value) ∙ sym c.place_of.ensures ∙ c.in_default.is

-- the pages with the merged word are the memory after the write
stored : (c : goal.After-self-1)
    → pages_of c.self.inside.numbers.items (set c.self.inside.words.items c.in-Some.page (set c.index_mut-words.result.now (word_place c.address_of-address.result) c.merge.result))
    ≡ bytes_written c.args.bus_bytes (pages_of c.self.inside.numbers.items c.self.inside.words.items) c.args.aw c.args.n c.args.beat
stored c =
    bytes_written-store c.args.bus_bytes c.address_of-address.result c.first_lane-first.result c.self.inside.numbers.items c.self.inside.words.items c.args.aw c.args.n c.args.beat c.in-Some.page
    c.merge.result c.index_mut-words.result.now c.self.invariant.0 c.requires.transfer c.requires.strobes c.address_of-address.ensures c.first_lane-first.ensures.value found
    c.index_mut-words.ensures.value fits c.merge.ensures
  where
    found : position (is_page_of c.address_of-address.result) c.self.inside.numbers.items ≡ Some c.in-Some.page
    found = ap (position (is_page_of c.address_of-address.result)) (sym c.deref.ensures.value) ∙ sym c.place_of.ensures ∙ c.in-Some.is

    fits : get_or c.index_mut-words.result.now (word_place c.address_of-address.result) 0 < 2 ^ 64
    fits = omega arith

pub invariant_of-self : goal.invariant_of-self
invariant_of-self c = (
  length-set c.self.inside.words.items c.in-Some.page _ ∙ c.self.invariant.0,
  subst (λ (memory : Memory). HasGoodPages (record { pages = c.self.inside.listed.items; bad_words = c.self.inside.bad.items }) memory) (sym (stored c))
      (good_pages-written c.args.bus_bytes (pages_state c.self.inside.listed.items c.self.inside.numbers.items c.self.inside.words.items c.self.inside.bad.items) c.args.aw c.args.n c.args.beat
      c.self.invariant.1),
  c.self.invariant.2,
)

pub returns-clause-written : goal.returns-clause-written
returns-clause-written c =
    ap (λ (memory : Memory). record { faults = record { pages = c.self.inside.listed.items; bad_words = c.self.inside.bad.items }; memory = memory }) (stored c)
    ∙ ap (λ (pages : PagesState). record pages { memory = bytes_written c.args.bus_bytes pages.memory c.args.aw c.args.n c.args.beat }) c.self.view_is
