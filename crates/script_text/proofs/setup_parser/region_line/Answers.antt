use Rattle.std.proofs.Common.{◌≡◌, Err, ap, sym, ◌∙◌, rules}
use Rattle.line_text.specs.Fields.{first_wrong}
use Rattle.script_text.specs.Forms.{told_as}
use Rattle.script_text.specs.SetupLines.{region_fields, region_in}
use Rattle.script_text.specs.declared.setup_parser.SetupLine.TheVariants.{Region}
use Rattle.script_text.proofs.ToldFields.{unless_told}
use Rattle.script_text.proofs.setup_parser.region_line.Goals as goal

pub returns-in_err-region : goal.returns-in_err-region
returns-in_err-region c =
    let same : c.from_residual.result ≡ Err c.in_err-region.field-0.0 = search rules in
    let words = c.args.words.now in
    rw same (sym (unless_told (λ region. Region region) (region_in words) (first_wrong region_fields words 2) ∙ ap (told_as (λ region. Region region)) (sym c.region.ensures ∙ c.in_err-region.was)))

pub returns : goal.returns
returns c =
    let words = c.args.words.now in
    sym (unless_told (λ region. Region region) (region_in words) (first_wrong region_fields words 2) ∙ ap (told_as (λ region. Region region)) (sym c.region.ensures ∙ c.in_ok-region.was))
