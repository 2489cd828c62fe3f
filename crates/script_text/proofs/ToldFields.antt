-- What is told of what was told, and of fields that are read.
use Rattle.std.proofs.Common.{◌≡◌, ℕ, Option, None, Some, Result, Ok, Err, refl}
use Rattle.line_text.specs.Fields.{unless_wrong}
use Rattle.script_text.specs.Forms.{told_as}

pub told_twice : {X Y Z E : Type 0} (then : Y → Z) (first : X → Y) (result : Result X E) → told_as then (told_as first result) ≡ told_as (λ x. then (first x)) result
told_twice then first (Ok x) = refl
told_twice then first (Err fault) = refl

-- the first wrong field stays what it is
pub unless_told : {X Y : Type 0} (tell : X → Y) (value : X) (fault : Option ℕ) → unless_wrong (tell value) fault ≡ told_as tell (unless_wrong value fault)
unless_told tell value None = refl
unless_told tell value (Some word) = refl
