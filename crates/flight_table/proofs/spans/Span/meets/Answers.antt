use Rattle.flight_table.proofs.Ranges.{span_met}
use Rattle.flight_table.proofs.spans.Span.meets.Goals as goal

pub returns-clause-address : goal.returns-clause-address
returns-clause-address c = λ a b is_a is_b. span_met c.args.self.now c.args.other.now a b is_a is_b
