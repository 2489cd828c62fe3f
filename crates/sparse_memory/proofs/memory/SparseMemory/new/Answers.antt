-- No page has room.
use Rattle.std.proofs.Common.{◌≡◌, ℕ, ◌/◌, Bool, true, false, not, List, [], None, nat_eq, ap, sym, refl, ◌∙◌}
use Rattle.std.specs.Map.{lookup}
use Rattle.sparse_memory.specs.SparseMemory.{PageState}
use Rattle.sparse_memory.proofs.KnownLaws.{known-ranges}
use Rattle.sparse_memory.proofs.SparseLaws.{bytes-none, doubts-none, sound-none}
use Rattle.sparse_memory.proofs.memory.SparseMemory.new.Goals as goal

none-in : (pages : List (ℕ × PageState)) (number : ℕ) → pages ≡ [] → lookup (nat_eq number) pages ≡ None
none-in pages number empty = ap (λ (entries : List (ℕ × PageState)). lookup (nat_eq number) entries) empty

not-true : (b : Bool) → not b ≡ true → b ≡ false
not-true true is = absurd (cc (is))
not-true false is = refl

pub invariant_of-result : goal.invariant_of-result
invariant_of-result c = (
  rw (c.in_ok-copied.ensures, c.in_ok-copied-2.ensures, c.new.ensures.empty) (sound-none c.args.ranges.now c.args.bad_words.now c.requires.fine),
  λ known x.
      ap (λ doubts. doubts x) (doubts-none _ c.args.ranges.now c.in_ok-copied.ensures (λ number. none-in c.new.result.entries number c.new.ensures.empty))
      ∙ known-ranges c.args.ranges.now (x / 4096) (sym c.has_unknown.ensures ∙ not-true c.has_unknown.result known),
)

pub returns-clause-bytes : goal.returns-clause-bytes
returns-clause-bytes c = bytes-none _ (λ number. none-in c.new.result.entries number c.new.ensures.empty)

pub returns-clause-doubts : goal.returns-clause-doubts
returns-clause-doubts c = doubts-none _ c.args.ranges.now c.in_ok-copied.ensures (λ number. none-in c.new.result.entries number c.new.ensures.empty)

pub returns-clause-sound : goal.returns-clause-sound
returns-clause-sound c = rw (c.in_ok-copied.ensures, c.in_ok-copied-2.ensures, c.new.ensures.empty) (sound-none c.args.ranges.now c.args.bad_words.now c.requires.fine)
