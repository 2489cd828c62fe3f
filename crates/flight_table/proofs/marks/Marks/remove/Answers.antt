use Rattle.std.proofs.Common.{◌≡◌, ℕ, ◌<◌, ◌≤◌, ◌-◌, ◌^◌, List, Bool, arith, length, sym}
use Rattle.std.specs.List.{remove}
use Rattle.std.proofs.lemmas.List.Edits.{length-remove}
use Rattle.flight_table.specs.Marks.{marks_of, number_of}
use Rattle.flight_table.proofs.MarkLaws.{as_marks, as_number, below, removed_is}
use Rattle.flight_table.proofs.marks.Marks.remove.Goals as goal

-- what is known of the place
record Known (count bits place : ℕ) (marks : List Bool) : Type 0 where
  is : bits ≡ number_of marks
  word : place < 64
  less : length (remove marks place) ≡ count - 1

known : (count bits place : ℕ) (marks : List Bool) → marks_of count bits ≡ marks → count ≤ 64 → bits < 2 ^ count → place < length marks → Known count bits place marks
known count bits place marks is small fits within =
    let n = as_number count bits marks is fits in
    record {
      is = n.1;
      word = omega (arith, n.0, small, within);
      less = omega (arith, n.0, length-remove marks place within);
    }

pub without_bit-self-inside-requires : goal.without_bit-self-inside-requires
without_bit-self-inside-requires c = (known c.self.inside.count c.self.inside.bits c.args.place c.args.self.now c.self.view_is c.self.invariant.0 c.self.invariant.1 c.requires).word

pub invariant_of-self : goal.invariant_of-self
invariant_of-self c =
    let k = known c.self.inside.count c.self.inside.bits c.args.place c.args.self.now c.self.view_is c.self.invariant.0 c.self.invariant.1 c.requires in
    (omega (arith, c.self.invariant.0), rw (c.without_bit-self-inside.ensures, k.is, ← removed_is c.args.self.now c.args.place c.requires, ← k.less) (below (remove c.args.self.now c.args.place)))

pub returns : goal.returns
returns c =
    let k = known c.self.inside.count c.self.inside.bits c.args.place c.args.self.now c.self.view_is c.self.invariant.0 c.self.invariant.1 c.requires in
    as_marks (c.self.inside.count - 1) _ (remove c.args.self.now c.args.place) (sym k.less) (rw (c.without_bit-self-inside.ensures, k.is) (sym (removed_is c.args.self.now c.args.place c.requires)))
