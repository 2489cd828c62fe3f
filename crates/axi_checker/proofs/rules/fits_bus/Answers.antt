-- No bus has more than 128 bytes, so a transfer of more fits none.
use Rattle.std.proofs.Common.{◌<◌, ◌^◌, arith, sym, ◌∙◌}
use Rattle.std.proofs.lemmas.Bool.{lt-leb}
use Rattle.std.proofs.Math.Pow.{pow_mono}
use Rattle.axi_beats.proofs.Sizes.{port_width-le}
use Rattle.axi_checker.proofs.rules.fits_bus.Goals as goal

pub returns-else-size-le7 : goal.returns-else-size-le7
returns-else-size-le7 c =
    let large : 7 < c.args.size = omega arith in
    lt-leb c.args.size 7 large
    ∙ sym (lt-leb (2 ^ c.args.size) c.args.bus_bytes (omega (arith, pow_mono {i = 8} {j = c.args.size} large, port_width-le c.args.bus_bytes c.requires)))
