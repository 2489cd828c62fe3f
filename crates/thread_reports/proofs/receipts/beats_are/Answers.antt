-- Two lists of D beats are compared beat by beat.
use Rattle.std.proofs.Common.{◌≡◌, ◌+◌, ◌-◌, Bool, List, length, take, drop, sym, ◌∙◌, arith, Decides, rules}
use Rattle.std.specs.Cmp.Lexicographic.{pointwise}
use Rattle.std.proofs.lemmas.Bool.{false≢true}
use Rattle.std.proofs.lemmas.Slice.Eq.{slice_eq-Decides}
use Rattle.tl_messages.specs.contracts.DBeatPartialEq.TheImpl as equality
use Rattle.tl_messages.specs.declared.DBeat.{DBeat}
use Rattle.thread_reports.proofs.receipts.beats_are.Goals as goal

decided : {same : DBeat → DBeat → Bool} {xs ys : List DBeat} {result : Bool} → result ≡ pointwise same xs ys → ((a b : DBeat) → Decides (same a b) (a ≡ b)) → Decides result (xs ≡ ys)
decided is each = slice_eq-Decides each _ _ _ is

pub returns-clause-same : goal.returns-clause-same
returns-clause-same c is =
    let size : c.args.start + length c.args.reply.now - c.args.start ≡ length c.args.reply.now = omega arith in
    let decides : Decides c.eq.result (take (c.args.start + length c.args.reply.now - c.args.start) (drop c.args.start c.args.beats.now) ≡ c.args.reply.now) = decided {same = equality.eq-value.it} c.eq.ensures (λ a b. search rules) in
    (rw size at decides.0 is, omega arith)

pub returns-clause-differs : goal.returns-clause-differs
returns-clause-differs c is within same =
    let size : c.args.start + length c.args.reply.now - c.args.start ≡ length c.args.reply.now = omega arith in
    let decides : Decides c.eq.result (take (c.args.start + length c.args.reply.now - c.args.start) (drop c.args.start c.args.beats.now) ≡ c.args.reply.now) = decided {same = equality.eq-value.it} c.eq.ensures (λ a b. search rules) in
    absurd (false≢true (sym is ∙ decides.1 (rw size same)))
