use Rattle.layer_tests.proofs.OpenBursts.{open_at}
use Rattle.layer_tests.proofs.tests.flights.open_of.Goals as goal

pub returns : goal.returns
returns c =
    open_at c.args.flight.now c.in_ok-key.key c.args.id c.is_settled.result c.of_id.ensures.laws c.in_ok-key.ensures.named c.if-is_settled.false c.is_settled.ensures
    (c.is_before_ready.ensures c.if-not-is_before_ready.false)
