-- What the words of the command line ask for (this project's profile).
use Rattle.std.specs.Prelude.{ℕ, List, [], ◌∷◌, Option, Some, None, codes, if◌then◌else◌}
use Rattle.std.specs.Str.{bytes_eq}
use Rattle.tlscore.specs.declared.tasks.Task.{Task}
use Rattle.tlscore.specs.declared.tasks.Task.TheVariants.{Judge, Version}

-- what the only word behind the program's name asks for, if anything
abbrev pub task_named : List ℕ → Option Task
task_named word = if bytes_eq word (codes "--version") then Some Version else None

-- what words ask for, the first of which is the program's name: to judge where no word stands behind it; several ask for nothing
abbrev pub task_of : List (List ℕ) → Option Task
task_of [] = Some Judge
task_of (name ∷ []) = Some Judge
task_of (name ∷ word ∷ []) = task_named word
task_of (name ∷ word ∷ another ∷ words) = None
