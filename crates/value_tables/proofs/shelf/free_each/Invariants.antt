-- Those so far are free of the word.
use Rattle.std.proofs.Common.{◌≡◌, ◌++◌, None, drop, if◌then◌else◌, map, take}
use Rattle.value_tables.specs.InsideShelves.{is_word}
use Rattle.value_tables.proofs.shelf.free_each.Given as goal

abbrev pub invariant-loop-held : goal.invariant-loop-held
invariant-loop-held l =
    l.words ≡ map (λ held. if is_word l.word held then None else held) (take l.held-index l.fn.words) ++ drop l.held-index l.fn.words
