-- An Offer goes on with what was found of its client.
use Rattle.std.proofs.Common.{◌≡◌, ◌∙◌, ◌++◌, ◌∷◌, [], Some, ap, length, refl, sym, subst, arith}
use Rattle.std.specs.Prelude.{option_map, slice_get}
use Rattle.std.proofs.lemmas.List.{length-map}
use Rattle.std.proofs.lemmas.Option.{same_Some, slice_get-map, slice_get_read, slice_get_within}
use Rattle.world.specs.declared.Step.TheVariants.{Offer}
use Rattle.thread_reports.specs.Replays.{IsFound}
use Rattle.thread_reports.specs.Reports.{items_of}
use Rattle.thread_reports.proofs.ReplaySteps.{IsOfAlone, found_of_absent, found_of_client, offer_of_alone}
use Rattle.thread_reports.proofs.replay.offered.Goals as goal

pub returns-then-client-ge-MOST_CLIENTS : goal.returns-then-client-ge-MOST_CLIENTS
returns-then-client-ge-MOST_CLIENTS c start past receipts are gives =
    found_of_absent (items_of c.args.scripts.now) receipts c.args.found.now (Offer c.args.client c.args.beat.now) are c.args.client (offer_of_alone c.args.client c.args.beat.now)
    (λ script received of script_is received_is of_is.
    let within = slice_get_within c.args.found.now c.args.client of of_is in absurd (omega (arith, within, c.from-client.ensures)))

pub returns-then-client-scripts : goal.returns-then-client-scripts
returns-then-client-scripts c start past receipts are gives =
    found_of_absent (items_of c.args.scripts.now) receipts c.args.found.now (Offer c.args.client c.args.beat.now) are c.args.client (offer_of_alone c.args.client c.args.beat.now)
    (λ script received of script_is received_is of_is.
    let within = slice_get_within (items_of c.args.scripts.now) c.args.client script script_is in absurd (omega (arith, within, length-map c.args.scripts.now (λ list. list.items), c.from-client.ensures)))

pub returns : goal.returns
returns c start past receipts are gives =
    let here : slice_get c.args.scripts.now c.from-client.result ≡ Some c.index-scripts-client.result =
    slice_get_read c.args.scripts.now (length c.args.scripts.now) c.from-client.result c.index-scripts-client.result refl c.if-client-scripts.false c.index-scripts-client.is in
    let alone : IsOfAlone c.from-client.result (Offer c.args.client c.args.beat.now) = rw c.from-client.ensures (offer_of_alone c.args.client c.args.beat.now) in
    found_of_client (items_of c.args.scripts.now) receipts c.args.found.now (Offer c.args.client c.args.beat.now) are c.from-client.result c.after_offer.result alone
    (λ script received of script_is received_is of_is before.
    let same : of ≡ c.found_of-before.result = same_Some of c.found_of-before.result (sym of_is ∙ c.found_of-before.ensures) in
    let listed : slice_get (items_of c.args.scripts.now) c.from-client.result ≡ Some c.index-scripts-client.result.items =
    slice_get-map (λ list. list.items) c.args.scripts.now c.from-client.result ∙ ap (option_map (λ list. list.items)) here in
    let text : script ≡ c.as_slice-script.result.now = same_Some script c.index-scripts-client.result.items (sym script_is ∙ listed) ∙ sym c.as_slice-script.ensures.value in
    let known : IsFound start past c.args.client c.as_slice-script.result.now received c.found_of-before.result =
    subst (λ k. IsFound start past k c.as_slice-script.result.now received c.found_of-before.result) c.from-client.ensures
    (subst (λ xs. IsFound start past c.from-client.result xs received c.found_of-before.result) text (subst (λ f. IsFound start past c.from-client.result script received f) same before)) in
    let goes = c.after_offer.ensures start past c.args.client received known gives in
    subst (λ k. IsFound start (past ++ Offer c.args.client c.args.beat.now ∷ []) k script received c.after_offer.result) (sym c.from-client.ensures)
    (subst (λ xs. IsFound start (past ++ Offer c.args.client c.args.beat.now ∷ []) c.args.client xs received c.after_offer.result) (sym text) goes))
