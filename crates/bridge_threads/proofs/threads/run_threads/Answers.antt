-- The report is that of the replay.
use Rattle.std.proofs.Common.{◌≡◌, ◌≤◌, ◌∙◌, Some, ap, arith, length, refl, sym, rules}
use Rattle.std.proofs.lemmas.List.{length-map}
use Rattle.config.specs.Configs.{port_of}
use Rattle.setups.specs.Setups.{lists_of}
use Rattle.thread_reports.specs.Reports.{items_of}
use Rattle.bridge_threads.specs.declared.threads.Fault.TheVariants.{BeatRefused, HistoryFull}
use Rattle.bridge_threads.proofs.FrontLemmas.{never_busy}
use Rattle.bridge_threads.proofs.RefusalLemmas.{apart, apart_from_report, few_clients, not_refused, of_worker_apart}
use Rattle.bridge_threads.proofs.threads.run_threads.Goals as goal

pub prepare-requires : goal.prepare-requires
prepare-requires g c =
    (not_refused (lists_of c.args.setup.now) (items_of c.args.scripts.now) (items_of c.args.words.now) c.args.limits.steps c.args.limits.idle (sym c.is_refused.ensures ∙ c.if-is_refused.false)).0

pub returns-then-met_full_history-clause-full : goal.returns-then-met_full_history-clause-full
returns-then-met_full_history-clause-full g c is =
    let same : c.told_at_full.result ≡ HistoryFull = cc in
    (c.as_slice.result.now, c.fills-full.ensures (c.told_at_full.ensures.full same) (lists_of c.args.setup.now) c.in-Ok.ensures.fresh)

pub returns-in-Ok-compared-clause-report : goal.returns-in-Ok-compared-clause-report
returns-in-Ok-compared-clause-report g c =
    let setup = lists_of c.args.setup.now in
    let sound = not_refused setup (items_of c.args.scripts.now) (items_of c.args.words.now) c.args.limits.steps c.args.limits.idle (sym c.is_refused.ensures ∙ c.if-is_refused.false) in
    let lists : length (items_of c.args.scripts.now) ≡ length c.args.scripts.now = length-map c.args.scripts.now (λ list. list.items) in
    rw (← c.as_slice-2.ensures.value, ← c.as_slice-3.ensures.value)
    (c.in-Ok-compared.ensures.report setup c.in-Ok.ensures.fresh sound.0 (sym lists ∙ sound.1))

pub returns-in-Ok-compared-clause-one_at_a_time : goal.returns-in-Ok-compared-clause-one_at_a_time
returns-in-Ok-compared-clause-one_at_a_time g c =
    rw (← c.as_slice-2.ensures.value) (c.in-Ok-compared.ensures.one_at_a_time (lists_of c.args.setup.now) c.in-Ok.ensures.fresh)

pub returns-then-met_full_history-clause-beat : goal.returns-then-met_full_history-clause-beat
returns-then-met_full_history-clause-beat g c client index rule is =
    let setup = lists_of c.args.setup.now in
    let sound = not_refused setup (items_of c.args.scripts.now) (items_of c.args.words.now) c.args.limits.steps c.args.limits.idle (sym c.is_refused.ensures ∙ c.if-is_refused.false) in
    let lists : length (items_of c.args.scripts.now) ≡ length c.args.scripts.now = length-map c.args.scripts.now (λ list. list.items) in
    let few : length c.args.scripts.now ≤ 256 = omega (arith, lists, sound.1, few_clients setup sound.0) in
    let same : c.told_at_full.result ≡ BeatRefused client index rule = cc in
    let refused = c.told_at_full.ensures.beat setup (length c.args.scripts.now) client index rule (c.in-Ok.ensures.ports few) few same in
    (refused, never_busy (port_of setup.config client) refused.breaks.front refused.breaks.beat rule refused.breaks.broken)

pub returns-in-Some-clause-beat : goal.returns-in-Some-clause-beat
returns-in-Some-clause-beat g c client index rule is =
    let setup = lists_of c.args.setup.now in
    let sound = not_refused setup (items_of c.args.scripts.now) (items_of c.args.words.now) c.args.limits.steps c.args.limits.idle (sym c.is_refused.ensures ∙ c.if-is_refused.false) in
    let lists : length (items_of c.args.scripts.now) ≡ length c.args.scripts.now = length-map c.args.scripts.now (λ list. list.items) in
    let few : length c.args.scripts.now ≤ 256 = omega (arith, lists, sound.1, few_clients setup sound.0) in
    let same : c.in-Some.fault ≡ BeatRefused client index rule = cc in
    let refused = c.told.ensures.beat setup (length c.args.scripts.now) client index rule (c.in-Ok.ensures.ports few) few (c.in-Some.is ∙ ap (λ fault. Some fault) same) in
    (refused, never_busy (port_of setup.config client) refused.breaks.front refused.breaks.beat rule refused.breaks.broken)

pub returns-then-refused-clause-refused : goal.returns-then-refused-clause-refused
returns-then-refused-clause-refused g c = search rules

pub returns-in_default-clause-refused : goal.returns-in_default-clause-refused
returns-in_default-clause-refused g c = apart _ _ (sym c.is_refused.ensures ∙ c.if-is_refused.false) (λ is. cc)

pub returns-then-met_full_history-clause-refused : goal.returns-then-met_full_history-clause-refused
returns-then-met_full_history-clause-refused g c = apart _ _ (sym c.is_refused.ensures ∙ c.if-is_refused.false) (of_worker_apart c.told_at_full.result c.told_at_full.ensures.own)

pub returns-in-Some-clause-refused : goal.returns-in-Some-clause-refused
returns-in-Some-clause-refused g c = apart _ _ (sym c.is_refused.ensures ∙ c.if-is_refused.false) (of_worker_apart c.in-Some.fault c.in-Some.ensures.own)

pub returns-in-Ok-compared-clause-refused : goal.returns-in-Ok-compared-clause-refused
returns-in-Ok-compared-clause-refused g c = apart_from_report _ _ (sym c.is_refused.ensures ∙ c.if-is_refused.false)

pub returns-clause-refused : goal.returns-clause-refused
returns-clause-refused g c = apart _ _ (sym c.is_refused.ensures ∙ c.if-is_refused.false) (of_worker_apart c.mismatched.result (rw c.mismatched.ensures refl))

pub returns-in_default-clause-memory : goal.returns-in_default-clause-memory
returns-in_default-clause-memory g c is = sym c.is_refused.ensures ∙ c.if-is_refused.false

pub returns-then-refused-clause-memory : goal.returns-then-refused-clause-memory
returns-then-refused-clause-memory g c is = sym c.is_refused.ensures ∙ c.if-is_refused.false

pub returns-then-met_full_history-clause-memory : goal.returns-then-met_full_history-clause-memory
returns-then-met_full_history-clause-memory g c is = sym c.is_refused.ensures ∙ c.if-is_refused.false

pub returns-in-Some-clause-memory : goal.returns-in-Some-clause-memory
returns-in-Some-clause-memory g c is = sym c.is_refused.ensures ∙ c.if-is_refused.false

pub returns-in-Ok-compared-clause-memory : goal.returns-in-Ok-compared-clause-memory
returns-in-Ok-compared-clause-memory g c is = sym c.is_refused.ensures ∙ c.if-is_refused.false

pub returns-clause-memory : goal.returns-clause-memory
returns-clause-memory g c is = sym c.is_refused.ensures ∙ c.if-is_refused.false
