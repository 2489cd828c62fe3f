-- What a function that makes a value on the heap hands out.
use Rattle.std.specs.Prelude.{Bool, true, false}
use Rattle.std.specs.Borrow.{Fml, RattleType, full_share}
use Rattle.std.specs.Ptr.{Ptr, lies_at}
use base.Fml.{feq, fex}

-- with the answer that it was made a value that is as `Is` says lies at the new pointer, and is the caller's; with the answer that it wasn't
-- nothing is handed out, and the pointer is the old one
abbrev pub HandedOut : (R : RattleType) → (R.Denot → Type 0) → Bool → Ptr → Ptr → Fml
HandedOut R Is true old new = fex R.Denot (λ value. fex (Is value) (λ is. lies_at R full_share new value))
HandedOut R Is false old new = feq Ptr new old
