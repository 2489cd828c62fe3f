use Rattle.std.proofs.Common.{◌≡◌, ℕ, ◌<◌, ◌≤◌, ◌^◌, List, Bool, arith, length, length-set, set}
use Rattle.flight_table.specs.Marks.{number_of}
use Rattle.flight_table.proofs.MarkLaws.{as_marks, as_number, below, bits_fit, put_bits}
use Rattle.flight_table.proofs.marks.Marks.put.Goals as goal

pub overflow_shr-was : goal.overflow_shr-was
overflow_shr-was c = omega (arith, c.requires, (as_number c.self.inside.count c.self.inside.bits c.args.self.now c.self.view_is c.self.invariant.1).0, c.self.invariant.0)

pub overflow_shl-self : goal.overflow_shl-self
overflow_shl-self c = omega (arith, c.requires, (as_number c.self.inside.count c.self.inside.bits c.args.self.now c.self.view_is c.self.invariant.1).0, c.self.invariant.0)

pub overflow_shl-self-2 : goal.overflow_shl-self-2
overflow_shl-self-2 c = omega (arith, c.requires, (as_number c.self.inside.count c.self.inside.bits c.args.self.now c.self.view_is c.self.invariant.1).0, c.self.invariant.0)

few : (count : ℕ) (marks : List Bool) → count ≡ length marks → count ≤ 64 → length marks ≤ 64
few count marks is small = omega (arith, is, small)

pub overflow_add-self : goal.overflow_add-self
overflow_add-self c =
    let i = c.self.inside in
    let marks = c.args.self.now in
    let known = as_number i.count i.bits marks c.self.view_is c.self.invariant.1 in
    let short = few i.count marks known.0 c.self.invariant.0 in
    rw (known.1, put_bits marks c.args.place c.args.mark c.from.result c.requires short c.from.ensures)
    (omega (arith, bits_fit (set marks c.args.place c.args.mark) (rw (length-set marks c.args.place c.args.mark) short)))

pub invariant_of-self : goal.invariant_of-self
invariant_of-self c =
    let i = c.self.inside in
    let marks = c.args.self.now in
    let known = as_number i.count i.bits marks c.self.view_is c.self.invariant.1 in
    let short = few i.count marks known.0 c.self.invariant.0 in
    let fits : number_of (set marks c.args.place c.args.mark) < 2 ^ i.count = rw (known.0, ← length-set marks c.args.place c.args.mark) (below (set marks c.args.place c.args.mark)) in
    (c.self.invariant.0, rw (known.1, put_bits marks c.args.place c.args.mark c.from.result c.requires short c.from.ensures) fits)

pub returns : goal.returns
returns c =
    let i = c.self.inside in
    let marks = c.args.self.now in
    let known = as_number i.count i.bits marks c.self.view_is c.self.invariant.1 in
    as_marks i.count _ (set marks c.args.place c.args.mark) (rw (length-set marks c.args.place c.args.mark) known.0)
    (rw known.1 (put_bits marks c.args.place c.args.mark c.from.result c.requires (few i.count marks known.0 c.self.invariant.0) c.from.ensures))
