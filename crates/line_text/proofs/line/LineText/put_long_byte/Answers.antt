use Rattle.std.proofs.Common.{◌-◌, ◌≤◌, ap, drop, length, length-append, arith, set}
use Rattle.std.proofs.lemmas.Fmt.{length-decimal-le}
use Rattle.std.proofs.lemmas.List.{length-drop, length-set}
use Rattle.line_text.proofs.HexLaws.{room_in}
use Rattle.std.specs.Fmt.{decimal}
use Rattle.line_text.proofs.line.LineText.put_long_byte.Goals as goal

pub write_digits-self-inside-requires : goal.write_digits-self-inside-requires
write_digits-self-inside-requires c =
    let i = c.self.inside in
    let short : length (decimal c.from.result) ≤ 3 = length-decimal-le 3 c.from.result (omega arith) (omega arith) (omega arith) in
    let room = room_in i.bytes c.args.self.now i.start c.self.told c.self.invariant c.self.view_is in
    (omega (arith, short, room, c.requires), omega (arith, c.self.told, c.self.invariant, length-set i.bytes (i.start - 1) 32))

pub returns-clause-short : goal.returns-clause-short
returns-clause-short c =
    let i = c.self.inside in
    let behind = set i.bytes (i.start - 1) 32 in
    let short : length (decimal c.from.result) ≤ 3 = length-decimal-le 3 c.from.result (omega arith) (omega arith) (omega arith) in
    let room = room_in i.bytes c.args.self.now i.start c.self.told c.self.invariant c.self.view_is in
    omega (
      arith,
      short,
      room,
      c.requires,
      c.self.told,
      length-set i.bytes (i.start - 1) 32,
      length-drop (i.start - 1) behind,
      ap length c.write_digits-self-inside.ensures.written,
      length-append (decimal c.from.result) (drop (i.start - 1) behind),
    )
