-- The law of a burst's transfers, at the byte that the code computes.
use Rattle.std.proofs.Common.{◌≡◌, ◌+◌, ◌-◌, ◌*◌, ◌/◌, ◌%◌, ◌^◌, ap, ◌∙◌, rules}
use Rattle.std.specs.List.{range_with_len}
use Rattle.axi_beats.specs.Transfers.{last_byte}
use Rattle.axi_beats.proofs.TransferLaws.{transfers_cover_once}
use Rattle.axi_beats.proofs.transfers.last_byte.Goals as goal

pub returns-clause-covers : goal.returns-clause-covers
returns-clause-covers c =
    let bytes = 1 * 2 ^ c.args.size % 2 ^ 64 in
    let same : last_byte c.args.start c.args.len c.args.size ≡ c.from.result / bytes * bytes + (c.from-2.result + 1) * bytes - 1 = search rules in
    λ bus_bytes width fits.
    transfers_cover_once bus_bytes c.args.start c.args.len c.args.size width fits ∙ ap (λ last. range_with_len c.args.start (last + 1 - c.args.start)) same
