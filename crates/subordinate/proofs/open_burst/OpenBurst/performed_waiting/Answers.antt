-- All beats but those that wait and those that were answered.
use Rattle.std.proofs.Common.{◌≡◌, length, arith, ap, ◌∙◌}
use Rattle.subordinate.specs.FreeMemory.{Pending}
use Rattle.subordinate.specs.Inside.{count_waiting}
use Rattle.subordinate.proofs.BeatStates.{performed_waiting-count}
use Rattle.subordinate.proofs.open_burst.OpenBurst.performed_waiting.Goals as goal

pub overflow_sub-result-2 : goal.overflow_sub-result-2
overflow_sub-result-2 c =
    let p = c.args.self.now in
    let all = performed_waiting-count p c.requires.answered c.requires.most in
    let answered : c.self.inside.answered ≡ p.answered = ap (λ (q : Pending). q.answered) c.self.view_is in
    let len : c.len.result ≡ length p.beats = c.len.ensures.len ∙ ap (λ (q : Pending). length q.beats) c.self.view_is in
    let waiting : c.waiting.result ≡ count_waiting p.beats = c.waiting.ensures.count ∙ ap (λ (q : Pending). count_waiting q.beats) c.self.view_is in
    omega (arith, all, answered, len, waiting)

pub returns-clause-count : goal.returns-clause-count
returns-clause-count c =
    let p = c.args.self.now in
    let all = performed_waiting-count p c.requires.answered c.requires.most in
    let answered : c.self.inside.answered ≡ p.answered = ap (λ (q : Pending). q.answered) c.self.view_is in
    let len : c.len.result ≡ length p.beats = c.len.ensures.len ∙ ap (λ (q : Pending). length q.beats) c.self.view_is in
    let waiting : c.waiting.result ≡ count_waiting p.beats = c.waiting.ensures.count ∙ ap (λ (q : Pending). count_waiting q.beats) c.self.view_is in
    omega (arith, all, answered, len, waiting)
