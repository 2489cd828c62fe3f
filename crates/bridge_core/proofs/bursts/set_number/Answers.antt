-- Each turn appends the W beat of the next transfer.
use Rattle.std.proofs.Common.{◌+◌, ◌^◌, Some, map, refl, arith}
use Rattle.tl_messages.specs.declared.MaskedWord.{MaskedWord}
use Rattle.data_unit.specs.Words.{bytes_of}
use Rattle.burst_plan.specs.PlannedBursts.{given_by_word, w_beat}
use Rattle.burst_plan.proofs.RequestWrites.{w_beat_of_atomic}
use Rattle.bridge_core.proofs.BurstWrites.{begun-more, begun-room, listed_fits, listed_len}
use Rattle.bridge_core.proofs.bursts.set_number.Goals as goal

pub push_transfer-requires-clause-size : goal.push_transfer-requires-clause-size
push_transfer-requires-clause-size c = rw (c.bus_bytes-bus_bytes.ensures.value) (listed_fits c.args.plan.now c.args.piece c.bus_bytes-bus_bytes.ensures.range c.requires.listed)

pub push_transfer-requires-clause-room : goal.push_transfer-requires-clause-room
push_transfer-requires-clause-room c =
    begun-room _ _ _ _ _ _ _ c.loop-k.invariant (omega (arith, c.loop-k-test.true, c.from-k-end.ensures, listed_len c.args.plan.now c.args.piece c.bus_bytes-bus_bytes.ensures.range c.requires.listed))

pub loop-k-preserved : goal.loop-k-preserved
loop-k-preserved c =
    let word : MaskedWord = record { word = c.place.result; mask = c.full_mask.result } in
    begun-more c.loop-k.burst c.push_transfer.new.burst c.args.plan.now.bus_bytes c.args.id (map Some (bytes_of (2 ^ c.args.plan.now.size) c.args.number)) c.args.plan.now.address c.args.piece c.loop-k.k
    (w_beat c.bus_bytes-bus_bytes.result (given_by_word word) c.args.piece (c.loop-k.k + 1)) c.loop-k.invariant c.push_transfer.ensures
    (rw (c.bus_bytes-bus_bytes.ensures.value, c.place.ensures.value, c.full_mask.ensures.value, c.address.ensures, c.size.ensures.value, c.address-2.ensures, c.size-2.ensures.value)
    (w_beat_of_atomic c.args.plan.now c.args.number c.args.plan.now.address c.requires.listed.0 (c.loop-k.k + 1) c.args.piece c.bus_bytes-bus_bytes.ensures.range c.requires.size
    c.bus_bytes-bus_bytes.ensures.range.aligned refl c.requires.listed.1 (omega arith) (omega (arith, c.loop-k-test.true, c.from-k-end.ensures))))
