-- The lists are those of the other set-up.
use Rattle.std.proofs.Common.{◌≡◌, None, subst, sym, rules}
use Rattle.sparse_memory.specs.Ranges.{pages_in}
use Rattle.setups.specs.Setups.{SetupLists}
use Rattle.setups.specs.Setups.{lists_of as lists_of_bridge}
use Rattle.score_setup.specs.ScoreSetups.{lists_of, score_setup_fault}
use Rattle.score_setup.specs.declared.ScoreSetup.{ScoreSetup}
use Rattle.score_setup.proofs.PagesAlone.{pages_alone}
use Rattle.score_setup.proofs.ScoreSetupFaults.{sound_of_bridge}
use Rattle.score_setup.proofs.ScoreSetup.of.Goals as goal

pub returns-clause-lists : goal.returns-clause-lists
returns-clause-lists c =
    let pages : pages_in c.alone-copy.result.items ≡ c.args.setup.now.pages.items =
    rw (c.alone-copy.ensures, c.as_slice-2.ensures.value) (pages_alone c.args.setup.now.pages.items) in
    rw pages (search rules)

pub returns-clause-sound : goal.returns-clause-sound
returns-clause-sound c none =
    let copy : ScoreSetup =
    record { config = c.new-copy.result.config; regions = c.try_extend_from_slice.new.self; pages = c.alone-copy.result; bad_words = c.try_extend_from_slice-2.new.self } in
    let pages : pages_in c.alone-copy.result.items ≡ c.args.setup.now.pages.items =
    rw (c.alone-copy.ensures, c.as_slice-2.ensures.value) (pages_alone c.args.setup.now.pages.items) in
    let same : lists_of copy ≡ lists_of_bridge c.args.setup.now = rw pages (search rules) in
    subst (λ (lists : SetupLists). score_setup_fault lists ≡ None) (sym same) (sound_of_bridge (lists_of_bridge c.args.setup.now) none)
