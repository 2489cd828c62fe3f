use Rattle.std.proofs.Common.{◌≡◌, codes, arith, rules, refl}
use Rattle.std.proofs.lemmas.Grind.{common_steps}
use Rattle.std.proofs.lemmas.Slice.Eq.{text_from_reads}
use Rattle.script_text.proofs.keywords.Form.named.Goals as goal

pub returns-in-config : goal.returns-in-config
returns-in-config c = let is : c.args.word.now ≡ codes "config" = text_from_reads c.args.word.now (codes "config") (omega arith) (search rules) in rw is refl

pub returns-in-region : goal.returns-in-region
returns-in-region c = let is : c.args.word.now ≡ codes "region" = text_from_reads c.args.word.now (codes "region") (omega arith) (search rules) in rw is refl

pub returns-in-do : goal.returns-in-do
returns-in-do c = grind (arith, common_steps)

pub returns-in-page : goal.returns-in-page
returns-in-page c = grind (arith, common_steps)

pub returns-in-pump : goal.returns-in-pump
returns-in-pump c = grind (arith, common_steps)

pub returns-in-take : goal.returns-in-take
returns-in-take c = grind (arith, common_steps)

pub returns-in-work : goal.returns-in-work
returns-in-work c = grind (arith, common_steps)

pub returns-in-word : goal.returns-in-word
returns-in-word c = grind (arith, common_steps)

pub returns-in-free : goal.returns-in-free
returns-in-free c = grind (arith, common_steps)

pub returns-in-drain : goal.returns-in-drain
returns-in-drain c = grind (arith, common_steps)

pub returns-in-a : goal.returns-in-a
returns-in-a c = grind (arith, common_steps)

pub returns-in-b : goal.returns-in-b
returns-in-b c = grind (arith, common_steps)

pub returns-in-r : goal.returns-in-r
returns-in-r c = grind (arith, common_steps)

pub returns-in-bad : goal.returns-in-bad
returns-in-bad c = grind (arith, common_steps)

pub returns-in-mem : goal.returns-in-mem
returns-in-mem c = grind (arith, common_steps)
