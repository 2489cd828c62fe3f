use Rattle.std.proofs.Common.{◌≤◌, ap, drop, length, length-append, arith}
use Rattle.std.proofs.lemmas.Fmt.{length-decimal-le}
use Rattle.line_text.proofs.HexLaws.{room_in}
use Rattle.std.specs.Fmt.{decimal}
use Rattle.line_text.proofs.line.LineText.put_decimal.Goals as goal

pub write_digits-self-inside-requires : goal.write_digits-self-inside-requires
write_digits-self-inside-requires c =
    let short : length (decimal c.args.number) ≤ 20 = length-decimal-le 20 c.args.number (omega arith) (omega arith) (omega arith) in
    let room = room_in c.self.inside.bytes c.args.self.now c.self.inside.start c.self.told c.self.invariant c.self.view_is in
    (omega (arith, short, room), omega (arith, c.self.told, c.self.invariant))

pub returns-clause-short : goal.returns-clause-short
returns-clause-short c =
    let short : length (decimal c.args.number) ≤ 20 = length-decimal-le 20 c.args.number (omega arith) (omega arith) (omega arith) in
    omega (arith, short, ap length c.write_digits-self-inside.ensures.written, length-append (decimal c.args.number) (drop c.self.inside.start c.self.inside.bytes), ap length c.self.view_is)
