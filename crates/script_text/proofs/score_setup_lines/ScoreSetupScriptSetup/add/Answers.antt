use Rattle.std.proofs.Common.{◌≡◌, ◌++◌, [], ◌∷◌, Err, ap, sym, ◌∙◌, rules}
use Rattle.burst_plan.specs.declared.Region.{Region}
use Rattle.line_text.specs.Fields.{first_wrong}
use Rattle.score_setup.specs.ScoreSetups.{RangeLists, ranges_of}
use Rattle.sparse_memory.specs.declared.PageRange.{PageRange}
use Rattle.script_text.specs.Forms.{told_as}
use Rattle.script_text.specs.SetupLines.{region_fields, region_in}
use Rattle.script_text.specs.SetupRules.{range_fields, range_in}
use Rattle.script_text.proofs.ToldFields.{unless_told}
use Rattle.script_text.proofs.score_setup_lines.ScoreSetupScriptSetup.add.Goals as goal

abbrev with_region : RangeLists → Region → RangeLists
with_region setup region = record setup { regions = setup.regions ++ region ∷ [] }

abbrev with_range : RangeLists → PageRange → RangeLists
with_range setup range = record setup { ranges = setup.ranges ++ range ∷ [] }

pub returns-in_err-region-in-Region : goal.returns-in_err-region-in-Region
returns-in_err-region-in-Region c =
    let same : c.from_residual.result ≡ Err c.in_err-region-in-Region.field-0.0 = search rules in
    let words = c.args.words.now in
    let setup = ranges_of c.args.self.now in
    rw (c.in-Region.is, same)
    (unless_told (with_region setup) (region_in words) (first_wrong region_fields words 2) ∙ ap (told_as (with_region setup)) (sym c.region.ensures ∙ c.in_err-region-in-Region.was))

pub returns-in_err-page_range-in-Page : goal.returns-in_err-page_range-in-Page
returns-in_err-page_range-in-Page c =
    let same : c.from_residual-in_err-page_range-in-Page.result ≡ Err c.in_err-page_range-in-Page.field-0.0 = search rules in
    let words = c.args.words.now in
    let setup = ranges_of c.args.self.now in
    rw (c.in-Page.is, same)
    (unless_told (with_range setup) (range_in words) (first_wrong range_fields words 2) ∙ ap (told_as (with_range setup)) (sym c.page_range.ensures ∙ c.in_err-page_range-in-Page.was))

pub returns-in_ok-region-in-Region : goal.returns-in_ok-region-in-Region
returns-in_ok-region-in-Region c =
    let words = c.args.words.now in
    let setup = ranges_of c.args.self.now in
    rw (c.in-Region.is, c.push.ensures.items)
    (unless_told (with_region setup) (region_in words) (first_wrong region_fields words 2) ∙ ap (told_as (with_region setup)) (sym c.region.ensures ∙ c.in_ok-region-in-Region.was))

pub returns-in_ok-page_range-in-Page : goal.returns-in_ok-page_range-in-Page
returns-in_ok-page_range-in-Page c =
    let words = c.args.words.now in
    let setup = ranges_of c.args.self.now in
    rw (c.in-Page.is, c.push-in-Page.ensures.items)
    (unless_told (with_range setup) (range_in words) (first_wrong range_fields words 2) ∙ ap (told_as (with_range setup)) (sym c.page_range.ensures ∙ c.in_ok-page_range-in-Page.was))
