-- `config` gives a set-up, any other set-up line that may stand has room, and nothing else changes.
use Rattle.std.proofs.Common.{◌≡◌, ◌∙◌, Err, Ok, Some, false, ap, subst, sym, rules}
use Rattle.std.specs.Prelude.{option_map}
use Rattle.setups.specs.Setups.{lists_of}
use Rattle.script_text.proofs.LineRooms.{setup_line-room}
use Rattle.script_text.specs.Forms.{told_as}
use Rattle.script_text.specs.SetupRules.{setup_line}
use Rattle.script_text.specs.declared.keywords.Form.TheVariants as form
use Rattle.threads_script.specs.Asked.{AskedLists, is_misplaced}
use Rattle.threads_script.proofs.AskedLines.{config_asked, setup_room}
use Rattle.threads_script.proofs.asked.Asked.take_setup_line.Goals.{in-Config, in-Some, in_default, in_default-setup}
use Rattle.threads_script.proofs.asked.Asked.take_setup_line.Goals as goal

pub returns-in_err-of_config : goal.returns-in_err-of_config
returns-in_err-of_config c =
    let asked = c.args.self.now in
    let is_config : c.args.form ≡ form.Config = elim c.match-matches.branch [ in-Config w ↦ w.in-Config.is | in_default w ↦ search rules ] in
    let same : c.from_residual.result ≡ Err c.in_err-of_config.field-0.0 = search rules in
    rw (is_config, same)
    (config_asked asked c.args.words.now c.of_config.result c.of_config.ensures ∙ ap (told_as (λ setup. record asked { setup = Some (lists_of setup) })) c.in_err-of_config.was)

pub returns-then-matches : goal.returns-then-matches
returns-then-matches c =
    let asked = c.args.self.now in
    let is_config : c.args.form ≡ form.Config = elim c.match-matches.branch [ in-Config w ↦ w.in-Config.is | in_default w ↦ search rules ] in
    rw is_config
    (config_asked asked c.args.words.now c.of_config.result c.of_config.ensures ∙ ap (told_as (λ setup. record asked { setup = Some (lists_of setup) })) c.in_ok-of_config.was
    ∙ ap (λ (before : AskedLists). Ok (record before { setup = Some (lists_of c.in_ok-of_config.field-0) })) (sym c.self.view_is))

pub add_line-requires : goal.add_line-requires
add_line-requires c =
    let read : setup_line c.args.form c.args.words.now ≡ Ok c.in_ok-line.line = sym c.setup_line.ensures ∙ c.in_ok-line.was in
    let setup_is : c.args.self.now.setup ≡ Some (lists_of c.in-Some.setup) = ap (λ asked. asked.setup) (sym c.self.view_is) ∙ ap (option_map lists_of) c.in-Some.is in
    let placed : is_misplaced c.args.self.now (Some (lists_of c.in-Some.setup)) c.args.form c.args.words.now ≡ false =
    subst (λ setup. is_misplaced c.args.self.now setup c.args.form c.args.words.now ≡ false) setup_is c.requires.place in
    setup_line-room (lists_of c.in-Some.setup) c.args.form c.args.words.now c.in_ok-line.line (setup_room c.args.self.now (lists_of c.in-Some.setup) c.args.form c.args.words.now c.requires.form placed) read

pub invariant_of-self-2 : goal.invariant_of-self-2
invariant_of-self-2 c = elim c.match-self.branch [ in-Some w ↦ rw w.self-inside-is c.self.invariant | in_default-setup w ↦ rw w.self-inside-is c.self.invariant ]
