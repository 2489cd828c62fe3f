-- Each turn appends the W beat of the next transfer.
use Rattle.std.proofs.Common.{◌+◌, arith}
use Rattle.tl_messages.specs.Requests.{request_of}
use Rattle.burst_plan.specs.PlannedBursts.{given_by_word, w_beat}
use Rattle.burst_plan.proofs.RequestWrites.{w_beat_of_request}
use Rattle.bridge_core.proofs.BurstWrites.{begun-more, begun-room, listed_fits, listed_len}
use Rattle.bridge_core.proofs.bursts.set_put.Goals as goal

pub push_transfer-requires-clause-size : goal.push_transfer-requires-clause-size
push_transfer-requires-clause-size c = rw (c.bus_bytes-bus_bytes.ensures.value) (listed_fits c.args.plan.now c.args.piece c.bus_bytes-bus_bytes.ensures.range c.requires.listed)

pub push_transfer-requires-clause-room : goal.push_transfer-requires-clause-room
push_transfer-requires-clause-room c =
    begun-room _ _ _ _ _ _ _ c.loop-k.invariant (omega (arith, c.loop-k-test.true, c.from-k-end.ensures, listed_len c.args.plan.now c.args.piece c.bus_bytes-bus_bytes.ensures.range c.requires.listed))

pub loop-k-preserved : goal.loop-k-preserved
loop-k-preserved c =
    begun-more c.loop-k.burst c.push_transfer.new.burst c.args.plan.now.bus_bytes c.args.id (request_of c.args.request.now).bytes c.args.plan.now.address c.args.piece c.loop-k.k
    (w_beat c.bus_bytes-bus_bytes.result (given_by_word c.word_given-word.result) c.args.piece (c.loop-k.k + 1)) c.loop-k.invariant c.push_transfer.ensures
    (rw (c.bus_bytes-bus_bytes.ensures.value)
    (w_beat_of_request c.args.plan.now c.args.request.now c.requires.listed.0 (c.loop-k.k + 1) c.args.piece c.word_given-word.result c.bus_bytes-bus_bytes.ensures.range c.requires.data c.requires.size
    c.requires.lanes c.requires.listed.1 (omega arith) (omega (arith, c.loop-k-test.true, c.from-k-end.ensures)) c.word_given-word.ensures))
