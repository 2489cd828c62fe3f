-- Its bytes, and which of them aren't in doubt.
use Rattle.std.proofs.Common.{ℕ, ◌-◌, ◌∙◌, ap}
use Rattle.byte_values.specs.declared.known.KnownBytes.{KnownBytes}
use Rattle.sparse_memory.specs.SparseMemory.{bytes_in, word_in}
use Rattle.value_memory.specs.InsideValues.{settled_in}
use Rattle.value_memory.specs.ValueMemory.{ValueState}
use Rattle.value_memory.proofs.memory.ValueMemory.settled_word.Goals as goal

abbrev as_known : ℕ → ℕ → KnownBytes
as_known value lanes = record { value = value; lanes = lanes }

pub returns : goal.returns
unfolding settled_in
returns c =
    ap (λ v. as_known v (255 - c.doubts.result)) c.word.ensures.value
    ∙ ap (λ l. as_known (word_in (bytes_in c.self.inside.settled) c.args.address) (255 - l)) c.doubts.ensures.value
    ∙ ap (λ (s : ValueState). settled_in s c.args.address) c.self.view_is
