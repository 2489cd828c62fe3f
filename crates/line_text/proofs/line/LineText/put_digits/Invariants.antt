use Rattle.std.proofs.Common.{◌≡◌, ◌-◌, ◌+◌, ◌*◌, length}
use Rattle.line_text.proofs.HexLaws.{last_digits}
use Rattle.line_text.proofs.line.LineText.put_digits.Given as goal

abbrev pub invariant-loop : goal.invariant-loop
invariant-loop l = (last_digits (l.digits - 2 * l.counter) l.rest l.self ≡ last_digits l.digits l.number l.fn.self) × (length l.self ≡ length l.fn.self + 2 * l.counter)
