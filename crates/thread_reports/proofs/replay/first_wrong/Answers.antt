-- One client more has its part, and then all have.
use Rattle.std.proofs.Common.{◌≡◌, ◌∙◌, List, Some, ap, length, refl, sym, subst, arith}
use Rattle.std.specs.Prelude.{option_map, slice_get}
use Rattle.std.proofs.lemmas.List.{length-map}
use Rattle.std.proofs.lemmas.Option.{same_Some, slice_get-map, slice_get_read, slice_get_within}
use Rattle.tl_messages.specs.declared.ABeat.{ABeat}
use Rattle.thread_reports.specs.Mismatches.{IsWrongClient}
use Rattle.thread_reports.specs.Reports.{items_of, IsClientReport}
use Rattle.thread_reports.specs.declared.receipts.Receipts.{Receipts}
use Rattle.thread_reports.proofs.MismatchLemmas.{ends_at}
use Rattle.thread_reports.proofs.replay.first_wrong.Goals as goal
use borrow.Author.Count.{below_more}

pub loop-client-preserved : goal.loop-client-preserved
loop-client-preserved c start steps are k script received below script_is received_is =
    let n = c.loop-client.client in
    let text = c.as_slice.result.now in
    let its = c.index-receipts-client.result in
    let listed : slice_get (items_of c.args.scripts.now) n ≡ Some text =
    slice_get-map (λ list. list.items) c.args.scripts.now n
    ∙ ap (option_map (λ list. list.items)) (slice_get_read c.args.scripts.now (length c.args.scripts.now) n c.index-scripts-client.result refl c.loop-client-test.true c.index-scripts-client.is)
    ∙ ap (λ items. Some items) (sym c.as_slice.ensures.value) in
    let received_here : slice_get c.args.receipts.now n ≡ Some its = slice_get_read c.args.receipts.now (length c.args.receipts.now) n its refl c.if-client-receipts.false c.index-receipts-client.is in
    let found = are n text its c.found_of-its.result listed received_here c.found_of-its.ensures in
    let right = c.is_right.ensures.right c.if-not-is_right.false start steps n found in
    below_more (λ m. (xs : List ABeat) (r : Receipts) → slice_get (items_of c.args.scripts.now) m ≡ Some xs → slice_get c.args.receipts.now m ≡ Some r → IsClientReport start steps m xs r) n
    (λ m small xs r xs_is r_is. c.loop-client.invariant start steps are m xs r small xs_is r_is)
    (λ xs r xs_is r_is.
    subst (λ ys. IsClientReport start steps n ys r) (same_Some text xs (sym listed ∙ xs_is)) (subst (λ q. IsClientReport start steps n text q) (same_Some its r (sym received_here ∙ r_is)) right)) k below
    script received script_is received_is

pub returns-clause-none : goal.returns-clause-none
returns-clause-none c is start steps are client script received script_is received_is =
    let within = slice_get_within (items_of c.args.scripts.now) client script script_is in
    c.loop-client.invariant start steps are client script received (omega (arith, within, length-map c.args.scripts.now (λ list. list.items), c.loop-client-test.false)) script_is received_is

pub returns-then-not-is_right-clause-some : goal.returns-then-not-is_right-clause-some
returns-then-not-is_right-clause-some c client index start steps is few each are named =
    let n = c.loop-client.client in
    let same : n ≡ client = same_Some n client is in
    let text = c.as_slice.result.now in
    let its = c.index-receipts-client.result in
    let listed : slice_get (items_of c.args.scripts.now) n ≡ Some text =
    slice_get-map (λ list. list.items) c.args.scripts.now n
    ∙ ap (option_map (λ list. list.items)) (slice_get_read c.args.scripts.now (length c.args.scripts.now) n c.index-scripts-client.result refl c.loop-client-test.true c.index-scripts-client.is)
    ∙ ap (λ items. Some items) (sym c.as_slice.ensures.value) in
    let received_here : slice_get c.args.receipts.now n ≡ Some its = slice_get_read c.args.receipts.now (length c.args.receipts.now) n its refl c.if-client-receipts.false c.index-receipts-client.is in
    let found = are n text its c.found_of-its.result listed received_here c.found_of-its.ensures in
    subst (λ k. IsWrongClient start steps (items_of c.args.scripts.now) c.args.receipts.now k index) same
    (record {
      script = text;
      received = its;
      place = c.found_of-its.result.right;
      script_is = listed;
      received_is = received_here;
      wrong = c.is_right.ensures.wrong c.if-not-is_right.true start steps n found;
      first = λ other xs r below xs_is r_is. c.loop-client.invariant start steps are other xs r below xs_is r_is;
      ends = ends_at c.found_of-its.result found;
      index_is = named c.found_of-its.result (subst (λ k. slice_get c.args.found.now k ≡ Some c.found_of-its.result) same c.found_of-its.ensures);
    })
