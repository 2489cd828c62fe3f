-- The list says of each byte what is held of it where its word has none.
use Rattle.std.proofs.Common.{◌%◌, ◌∙◌, ◌∷◌, [], None, Some, ap}
use Rattle.byte_values.specs.Words.{lane_list, lost_word, new_word}
use Rattle.sparse_memory.specs.SparseMemory.{bytes_in, doubts_in}
use Rattle.value_memory.specs.ValueMemory.{settled_holding}
use Rattle.value_memory.proofs.HeldLaws.{lane-first}
use Rattle.value_memory.proofs.memory.ValueMemory.first_list.Goals as goal

pub returns-in-Some : goal.returns-in-Some
returns-in-Some c = λ x same.
    ap (lane_list (x % 8)) (c.with_lost.ensures.word ∙ ap (λ k. lost_word k c.in-Some.lost) c.settled_word-known.ensures)
    ∙ lane-first c.args.self.now c.args.address x (Some c.in-Some.lost) same
    ∙ ap (λ l. settled_holding l (doubts_in c.args.self.now.settled x) (bytes_in c.args.self.now.settled x) ∷ []) c.in-Some.ensures

pub returns-in-None : goal.returns-in-None
returns-in-None c = λ x same.
    ap (lane_list (x % 8)) (c.new.ensures.word ∙ ap new_word c.settled_word-known.ensures)
    ∙ lane-first c.args.self.now c.args.address x None same
    ∙ ap (λ l. settled_holding l (doubts_in c.args.self.now.settled x) (bytes_in c.args.self.now.settled x) ∷ []) c.in-None.ensures
