use Rattle.std.proofs.Common.{◌≤◌, true, sym, subst}
use Rattle.tl_messages.proofs.BeatCounts.{beats_of-le}
use Rattle.responses.proofs.gather.Outline.words.Goals as goal

pub returns-then-reply_has_data-clause-most : goal.returns-then-reply_has_data-clause-most
returns-then-reply_has_data-clause-most c = subst (λ n. n ≤ 512) (sym c.beats_of.ensures) (beats_of-le c.args.self.now.size true c.requires)
