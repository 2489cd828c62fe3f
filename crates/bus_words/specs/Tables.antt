-- A table of rules: each row says whether its rule is broken, and names the rule. It is read from its top.
use Rattle.std.specs.Prelude.{Bool, List, Option, option_map, find}

-- the first rule of a table that is broken, if there is one
abbrev pub first_broken : {Rule : Type 0} → List (Bool × Rule) → Option Rule
first_broken table = option_map (λ row. row.1) (find (λ row. row.0) table)
