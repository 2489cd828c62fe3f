-- A replay of which all is right is a report's, and the main theorem holds of it.
use Rattle.std.proofs.Common.{inl, inr, ◌≡◌, ◌∙◌, arith, length, refl, sym, subst}
use Rattle.std.proofs.lemmas.List.{length-map}
use Rattle.std.proofs.lemmas.Option.{slice_get_within}
use Rattle.world_run.specs.Headline.{IsOneAtATime}
use Rattle.world.specs.Laws.{AreSoundAlong}
use Rattle.world_run.specs.Runs.{answers_of, handed_in, sent_in}
use Rattle.world.specs.World.{byte_of, in_flight, opening_world}
use Rattle.thread_reports.specs.Mismatches.{IsMismatch, IsWrongClient}
use Rattle.thread_reports.specs.Replays.{IsReplay}
use Rattle.thread_reports.specs.Reports.{items_of}
use Rattle.thread_reports.proofs.MismatchLemmas.{no_report, unsettled_of}
use Rattle.thread_reports.proofs.ReportLemmas.{carried_out, right_report}
use Rattle.thread_reports.proofs.second_world.SecondWorld.compared.Goals as goal

pub returns-clause-report : goal.returns-clause-report
returns-clause-report c setup opens sound as_many =
    let ran = subst (λ start. IsReplay start c.args.steps.now (items_of c.args.scripts.now) c.args.receipts.now c.replayed-replay.result) opens c.replayed-replay.ensures.replays in
    let along = subst (λ start. AreSoundAlong start c.args.steps.now) opens c.replayed-replay.ensures.laws in
    let settled = c.is_settled.ensures.settled c.if-not-is_settled.false in
    let lists : length (items_of c.args.scripts.now) ≡ length c.args.scripts.now = length-map c.args.scripts.now (λ list. list.items) in
    right_report setup (items_of c.args.scripts.now) c.args.steps.now c.args.receipts.now c.replayed-replay.result sound along ran (lists ∙ as_many) (c.if-receipts-scripts.false ∙ sym lists)
    (c.first_wrong.ensures.none c.in_default.is (opening_world setup) c.args.steps.now ran.clients) settled.0 settled.1 settled.2 settled.3

pub returns-clause-one_at_a_time : goal.returns-clause-one_at_a_time
returns-clause-one_at_a_time c setup opens =
    let ran = subst (λ start. IsReplay start c.args.steps.now (items_of c.args.scripts.now) c.args.receipts.now c.replayed-replay.result) opens c.replayed-replay.ensures.replays in
    let along = subst (λ start. AreSoundAlong start c.args.steps.now) opens c.replayed-replay.ensures.laws in
    let start = opening_world setup in
    subst (λ world. IsOneAtATime setup c.args.steps.now (answers_of start c.args.steps.now) (handed_in start c.args.steps.now) (sent_in start c.args.steps.now) (in_flight world) (byte_of world)) (sym ran.world)
    (carried_out setup c.args.steps.now along)

pub returns-then-receipts-scripts-clause-mismatch : goal.returns-then-receipts-scripts-clause-mismatch
returns-then-receipts-scripts-clause-mismatch c few =
    inl (λ same. c.if-receipts-scripts.true (same ∙ length-map c.args.scripts.now (λ list. list.items)), refl, refl)

pub returns-in-Some-clause-mismatch : goal.returns-in-Some-clause-mismatch
returns-in-Some-clause-mismatch c few =
    let ran = c.replayed-replay.ensures.replays in
    let wrong = c.first_wrong.ensures.some c.in-Some.client c.place_of-index.result c.args.self c.args.steps.now c.in-Some.is few c.if-receipts-scripts.false ran.clients c.place_of-index.ensures in
    let within = slice_get_within (items_of c.args.scripts.now) c.in-Some.client wrong.script wrong.script_is in
    let number : c.numbered.result ≡ c.in-Some.client = c.numbered.ensures (omega (arith, within, few, length-map c.args.scripts.now (λ list. list.items))) in
    inr (inl (subst (λ client. IsWrongClient c.args.self c.args.steps.now (items_of c.args.scripts.now) c.args.receipts.now client c.place_of-index.result) (sym number) wrong))

pub returns-then-not-is_settled-clause-mismatch : goal.returns-then-not-is_settled-clause-mismatch
returns-then-not-is_settled-clause-mismatch c few =
    let ran = c.replayed-replay.ensures.replays in
    let clients = c.first_wrong.ensures.none c.in_default.is c.args.self c.args.steps.now ran.clients in
    inr (inr (clients, unsettled_of c.replayed-replay.result ran (c.is_settled.ensures.unsettled c.if-not-is_settled.true), refl, refl))

pub returns-then-receipts-scripts-clause-exact : goal.returns-then-receipts-scripts-clause-exact
returns-then-receipts-scripts-clause-exact c setup world opens few short report =
    c.if-receipts-scripts.true (report.as_many_receipts ∙ sym report.as_many_scripts ∙ length-map c.args.scripts.now (λ list. list.items))

pub returns-in-Some-clause-exact : goal.returns-in-Some-clause-exact
returns-in-Some-clause-exact c setup world opens few short report =
    let along = subst (λ start. AreSoundAlong start c.args.steps.now) opens c.replayed-replay.ensures.laws in
    no_report setup (items_of c.args.scripts.now) c.args.steps.now c.args.receipts.now world c.numbered.result c.place_of-index.result along short
    (subst (λ start. IsMismatch start c.args.steps.now (items_of c.args.scripts.now) c.args.receipts.now c.numbered.result c.place_of-index.result) opens (returns-in-Some-clause-mismatch c few)) report

pub returns-then-not-is_settled-clause-exact : goal.returns-then-not-is_settled-clause-exact
returns-then-not-is_settled-clause-exact c setup world opens few short report =
    let along = subst (λ start. AreSoundAlong start c.args.steps.now) opens c.replayed-replay.ensures.laws in
    no_report setup (items_of c.args.scripts.now) c.args.steps.now c.args.receipts.now world 0 0 along short
    (subst (λ start. IsMismatch start c.args.steps.now (items_of c.args.scripts.now) c.args.receipts.now 0 0) opens (returns-then-not-is_settled-clause-mismatch c few)) report
