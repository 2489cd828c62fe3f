-- The page of an address is what its range is.
use Rattle.std.proofs.Common.{◌≡◌, ℕ, ◌+◌, ◌<◌, ◌/◌, Bool, true, List, ap, arith, subst, sym, ◌∙◌}
use Rattle.std.specs.Prelude.{nat_lt}
use Rattle.std.proofs.lemmas.Bool.Decides.{nat_tests}
use Rattle.score_setup.specs.ScoreSetups.{lists_of}
use Rattle.serial_memory.specs.SerialMemory.{is_good_byte}
use Rattle.setups.specs.Setups.{faults_of}
use Rattle.sparse_memory.proofs.RangeLaws.{standing-ranges}
use Rattle.sparse_memory.specs.Ranges.{range_of, standing_in}
use Rattle.sparse_memory.specs.Ranges.{faults_of as range_faults}
use Rattle.sparse_memory.specs.declared.PageRange.{PageRange}
use Rattle.subordinate.specs.Faults.{is_good}
use Rattle.scoreboard.proofs.filling.is_good_byte.Goals as goal

good_byte : (ranges : List PageRange) (bad_words : List ℕ) (at : ℕ) (good : Bool) → at < 4294967296 → good ≡ is_good (standing_in (range_of ranges (at / 4096)))
    → good ≡ is_good_byte (range_faults ranges bad_words) at
good_byte ranges bad_words at good low is =
    let small : nat_lt at 4294967296 ≡ true = grind (arith, nat_tests, low) in
    rw small (is ∙ ap is_good (sym (standing-ranges ranges bad_words at)))

pub returns : goal.returns
returns c =
    let setup = c.args.setup.now in
    let at : c.in-Some.address ≡ c.args.address + c.args.k = omega (arith, c.in-Some.ensures, c.in-Ok.ensures) in
    subst (λ (x : ℕ). c.is_good_page.result ≡ is_good_byte (faults_of (lists_of setup)) x) at
    (good_byte setup.pages.items setup.bad_words.items c.in-Some.address c.is_good_page.result (omega (arith, c.in-Some.ensures))
    (c.is_good_page.ensures ∙ ap (λ (ranges : List PageRange). is_good (standing_in (range_of ranges (c.in-Some.address / 4096)))) c.as_slice.ensures.value))
