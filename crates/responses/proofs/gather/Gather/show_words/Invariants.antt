-- The beats so far are those of the words so far, and there is room for the others.
use Rattle.std.proofs.Common.{◌≡◌, ◌≤◌, length, map}
use Rattle.std.specs.List.{range_with_len}
use Rattle.responses.specs.Inside.{word_beat_at}
use Rattle.responses.proofs.gather.Gather.show_words.Given as goal

abbrev pub invariant-loop-k : goal.invariant-loop-k
invariant-loop-k l = (l.reply ≡ map (word_beat_at l.fn.self.outline l.fn.self.gathering) (range_with_len 0 l.k)) × (length l.word-items ≤ 512)
