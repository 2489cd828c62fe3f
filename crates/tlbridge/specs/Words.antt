-- What a word of the command line asks for.
use Rattle.std.specs.Prelude.{ℕ, List, [], ◌∷◌, Option, find, option_map, codes}
use Rattle.std.specs.Str.{bytes_eq}
use Rattle.tlbridge.specs.declared.modes.Mode.TheVariants.{Run, Check}
use Rattle.tlbridge.specs.declared.modes.Task.{Task}
use Rattle.tlbridge.specs.declared.modes.Task.TheVariants.{Script, Threads}

-- the words, and what each asks for
abbrev pub tasks : List (List ℕ × Task)
tasks = (codes "run", Script Run) ∷ (codes "check", Script Check) ∷ (codes "threads", Threads) ∷ []

abbrev pub task_named : List ℕ → Option Task
task_named word = option_map (λ row. row.1) (find (λ row. bytes_eq word row.0) tasks)
