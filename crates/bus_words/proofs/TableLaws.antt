-- A table of rules of which none is broken.
use Rattle.std.proofs.Common.{◌≡◌, Bool, true, false, List, ◌∷◌, refl}
use Rattle.std.specs.Prelude.{None}
use Rattle.bus_words.specs.Tables.{first_broken}

-- the first rule isn't broken, and none after it is
pub unbroken : {Rule : Type 0} (broken : Bool) (rule : Rule) (table : List (Bool × Rule)) → first_broken ((broken, rule) ∷ table) ≡ None → (broken ≡ false) × (first_broken table ≡ None)
unbroken true rule table none = absurd (cc)
unbroken false rule table none = (refl, none)
