-- The old value is the number of the bytes that the reply gives, and that the memory shows.
use Rattle.std.proofs.Common.{rules, sym, subst}
use Rattle.responses.specs.Gathered.{GatherState}
use Rattle.axi_beats.specs.Transfers.{IsBusWidth}
use Rattle.responses.proofs.AnswerLaws.{number_seen}
use Rattle.responses.proofs.OldValues.{old_bytes}
use Rattle.responses.proofs.gather.Gather.old_value.Goals as goal

pub returns-in-Atomic-Some-Some-clause-value : goal.returns-in-Atomic-Some-Some-clause-value
returns-in-Atomic-Some-Some-clause-value c = search rules

pub returns-in_default-2-clause-value : goal.returns-in_default-2-clause-value
returns-in_default-2-clause-value c = search rules

pub returns-in_default-3-clause-value : goal.returns-in_default-3-clause-value
returns-in_default-3-clause-value c = search rules

pub returns-in-Atomic-Some-Some-clause-bytes : goal.returns-in-Atomic-Some-Some-clause-bytes
returns-in-Atomic-Some-Some-clause-bytes c = old_bytes c.args.self.now.outline c.args.self.now.gathering c.cut.result (sym (returns-in-Atomic-Some-Some-clause-value c))

pub returns-in-Atomic-Some-Some-clause-seen : goal.returns-in-Atomic-Some-Some-clause-seen
returns-in-Atomic-Some-Some-clause-seen c =
    number_seen c.args.self.now _ (subst (λ (s : GatherState). IsBusWidth s.bus_bytes) c.self.view_is c.self.invariant.3) (returns-in-Atomic-Some-Some-clause-value c)

pub returns-in_default-2-clause-seen : goal.returns-in_default-2-clause-seen
returns-in_default-2-clause-seen c =
    number_seen c.args.self.now _ (subst (λ (s : GatherState). IsBusWidth s.bus_bytes) c.self.view_is c.self.invariant.3) (returns-in_default-2-clause-value c)

pub returns-in_default-3-clause-seen : goal.returns-in_default-3-clause-seen
returns-in_default-3-clause-seen c =
    number_seen c.args.self.now _ (subst (λ (s : GatherState). IsBusWidth s.bus_bytes) c.self.view_is c.self.invariant.3) (returns-in_default-3-clause-value c)
