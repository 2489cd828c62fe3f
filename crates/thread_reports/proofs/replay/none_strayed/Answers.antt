-- The offers of one client more begin its script, and then those of all.
use Rattle.std.proofs.Common.{◌≡◌, ◌∙◌, ◌++◌, drop, false, List, Some, ap, subst, arith}
use Rattle.std.specs.Prelude.{slice_get}
use Rattle.std.proofs.lemmas.List.{length-map, take-append-drop}
use Rattle.std.proofs.lemmas.Option.{slice_get_within}
use Rattle.bus_words.proofs.StoredPlaces.{there_is}
use Rattle.tl_messages.specs.declared.ABeat.{ABeat}
use Rattle.thread_reports.specs.Replays.{FoundOffers}
use Rattle.thread_reports.specs.Reports.{items_of, offers_of}
use Rattle.thread_reports.proofs.replay.none_strayed.Goals as goal
use borrow.Author.Count.{below_more}

pub loop-client-preserved : goal.loop-client-preserved
loop-client-preserved c start steps are k script below script_is =
    let n = c.loop-client.client in
    let received = there_is c.args.receipts.now n c.if-client-receipts.false in
    below_more (λ m. (xs : List ABeat) → slice_get (items_of c.args.scripts.now) m ≡ Some xs → (more : List ABeat) × (offers_of m steps ++ more ≡ xs)) n
    (λ m small xs xs_is. c.loop-client.invariant start steps are m xs small xs_is)
    (λ xs xs_is.
    let found = are n xs received.0 c.found_of-its.result xs_is received.1 c.found_of-its.ensures in
    let offers : FoundOffers start steps n xs c.found_of-its.result.offered false = subst (FoundOffers start steps n xs c.found_of-its.result.offered) c.if-its.false found.offers in (
      drop c.found_of-its.result.offered xs,
      ap (λ ys. ys ++ drop c.found_of-its.result.offered xs) offers.0 ∙ take-append-drop c.found_of-its.result.offered xs,
    )) k below script script_is

pub returns : goal.returns
returns c is start steps are client script script_is =
    let within = slice_get_within (items_of c.args.scripts.now) client script script_is in
    c.loop-client.invariant start steps are client script (omega (arith, within, length-map c.args.scripts.now (λ list. list.items), c.loop-client-test.false)) script_is
