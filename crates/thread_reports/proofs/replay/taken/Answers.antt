-- A reply goes on with what was found of its client.
use Rattle.std.proofs.Common.{◌≡◌, ◌∙◌, ◌++◌, ◌∷◌, [], Some, length, refl, sym, subst, arith}
use Rattle.std.specs.Prelude.{slice_get}
use Rattle.std.proofs.lemmas.Option.{same_Some, slice_get_read, slice_get_within}
use Rattle.world.specs.declared.Step.TheVariants.{Take}
use Rattle.thread_reports.specs.Replays.{IsFound}
use Rattle.thread_reports.proofs.ReplaySteps.{IsOfAlone, found_of_absent, found_of_client, take_of_alone}
use Rattle.thread_reports.proofs.replay.taken.Goals as goal

pub returns-then-client-ge-MOST_CLIENTS : goal.returns-then-client-ge-MOST_CLIENTS
returns-then-client-ge-MOST_CLIENTS c start past scripts are replied gives =
    found_of_absent scripts c.args.receipts.now c.args.found.now (Take c.args.client) are c.args.client (take_of_alone c.args.client)
    (λ script received of script_is received_is of_is.
    let within = slice_get_within c.args.found.now c.args.client of of_is in absurd (omega (arith, within, c.from-client.ensures)))

pub returns-then-client-receipts : goal.returns-then-client-receipts
returns-then-client-receipts c start past scripts are replied gives =
    found_of_absent scripts c.args.receipts.now c.args.found.now (Take c.args.client) are c.args.client (take_of_alone c.args.client)
    (λ script received of script_is received_is of_is.
    let within = slice_get_within c.args.receipts.now c.args.client received received_is in absurd (omega (arith, within, c.from-client.ensures)))

pub returns : goal.returns
returns c start past scripts are replied gives =
    let here : slice_get c.args.receipts.now c.from-client.result ≡ Some c.index-receipts-client.result =
    slice_get_read c.args.receipts.now (length c.args.receipts.now) c.from-client.result c.index-receipts-client.result refl c.if-client-receipts.false c.index-receipts-client.is in
    let alone : IsOfAlone c.from-client.result (Take c.args.client) = rw c.from-client.ensures (take_of_alone c.args.client) in
    found_of_client scripts c.args.receipts.now c.args.found.now (Take c.args.client) are c.from-client.result c.after_reply.result alone
    (λ script received of script_is received_is of_is before.
    let same : of ≡ c.found_of-before.result = same_Some of c.found_of-before.result (sym of_is ∙ c.found_of-before.ensures) in
    let its : received ≡ c.index-receipts-client.result = same_Some received c.index-receipts-client.result (sym received_is ∙ here) in
    let known : IsFound start past c.args.client script c.index-receipts-client.result c.found_of-before.result =
    subst (λ k. IsFound start past k script c.index-receipts-client.result c.found_of-before.result) c.from-client.ensures
    (subst (λ r. IsFound start past c.from-client.result script r c.found_of-before.result) its (subst (λ f. IsFound start past c.from-client.result script received f) same before)) in
    let goes = c.after_reply.ensures start past c.args.client script known replied gives in
    subst (λ k. IsFound start (past ++ Take c.args.client ∷ []) k script received c.after_reply.result) (sym c.from-client.ensures)
    (subst (λ r. IsFound start (past ++ Take c.args.client ∷ []) c.args.client script r c.after_reply.result) (sym its) goes))
