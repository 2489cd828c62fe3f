use Rattle.std.proofs.Common.{◌≡◌, ap, ◌∙◌, sym, rules, arith, drop, take}
use Rattle.script_text.proofs.Blocks.{Takes-refl, ahead-some}
use Rattle.script_text.proofs.reader.Block.refill.Goals as goal

pub returns-then-self-clause-input : goal.returns-then-self-clause-input
returns-then-self-clause-input g c =
    let is : c.args.self.now.ahead ≡ drop c.self.inside.taken (take c.self.inside.filled c.self.inside.bytes.items) = sym (ap (λ block. block.ahead) c.self.view_is) in (
      Takes-refl c.args.self.now (g.R.Read.remaining c.args.reader.now),
      λ some none. ahead-some c.self.inside.bytes.items c.self.inside.taken c.self.inside.filled c.if-self.true (omega arith) (sym is ∙ none),
      λ wrong. search rules,
    )
