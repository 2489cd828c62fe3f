-- The port is the client's, and keeps its limits.
use Rattle.std.proofs.Common.{◌≡◌, ◌∙◌, Some, ap, arith, length, refl, rules, subst, sym}
use Rattle.std.specs.Prelude.{slice_get}
use Rattle.std.proofs.lemmas.Option.{slice_get-map, slice_get_read}
use Rattle.std.specs.Prelude.{option_map}
use Rattle.bridge_threads.specs.RefusedBeats.{BreaksRule}
use Rattle.thread_reports.specs.Reports.{items_of}
use Rattle.bridge_threads.proofs.PortLemmas.{client_at, limits_kept}
use Rattle.bridge_threads.proofs.threads.is_refused_beat.Goals as goal

pub returns-in-Some-clause-refused : goal.returns-in-Some-clause-refused
returns-in-Some-clause-refused c is setup clients same =
    let port : slice_get c.args.ports.now.items c.args.client ≡ Some c.index_mut.result.now =
    slice_get_read c.args.ports.now.items (length c.args.ports.now.items) c.args.client c.index_mut.result.now refl (omega (arith, c.if-client-len.false, c.len.ensures, c.args.ports.now.ok))
    c.index_mut.ensures.value in
    let of = client_at setup.config clients c.args.client c.args.ports.now.items c.index_mut.result.now same port in
    let listed : slice_get (items_of c.args.scripts.now) c.args.client ≡ Some c.as_slice.result.now =
    slice_get-map (λ list. list.items) c.args.scripts.now c.args.client
    ∙ ap (option_map (λ list. list.items)) (slice_get_read c.args.scripts.now (length c.args.scripts.now) c.args.client c.index-scripts-client.result refl c.if-client-scripts.false c.index-scripts-client.is)
    ∙ ap (λ items. Some items) (sym c.as_slice.ensures.value) in
    let rule : c.in-Some.broken ≡ c.args.rule = search rules in (
      record {
        script = c.as_slice.result.now;
        script_is = listed;
        breaks =
            subst (λ limits. BreaksRule limits c.as_slice.result.now c.args.index c.args.rule) of.0 (subst (λ r. BreaksRule c.index_mut.result.now.limits c.as_slice.result.now c.args.index r) rule c.in-Some.ensures.rule);
      },
      of.1,
    )

pub returns-in-Some-clause-limits : goal.returns-in-Some-clause-limits
returns-in-Some-clause-limits c =
    limits_kept c.args.ports.now.items c.args.client c.index_mut.result.now c.refused_at.new.port
    (slice_get_read c.args.ports.now.items (length c.args.ports.now.items) c.args.client c.index_mut.result.now refl (omega (arith, c.if-client-len.false, c.len.ensures, c.args.ports.now.ok))
    c.index_mut.ensures.value) c.refused_at.ensures.limits

pub returns-in-None-clause-limits : goal.returns-in-None-clause-limits
returns-in-None-clause-limits c =
    limits_kept c.args.ports.now.items c.args.client c.index_mut.result.now c.refused_at.new.port
    (slice_get_read c.args.ports.now.items (length c.args.ports.now.items) c.args.client c.index_mut.result.now refl (omega (arith, c.if-client-len.false, c.len.ensures, c.args.ports.now.ok))
    c.index_mut.ensures.value) c.refused_at.ensures.limits
