-- What a buffer says of the writer that it is of.
use Rattle.std.proofs.Common.{◌≡◌, ℕ, List, [], ◌∷◌, Option, None, Some, refl}
use Rattle.std.specs.Io.KnownBytes.{append_known}

-- a writer that holds no byte has an empty buffer
pub no_byte : (inner : Option (List ℕ)) (buffer : List ℕ) → append_known inner buffer ≡ Some [] → buffer ≡ []
no_byte None buffer none = cc
no_byte (Some []) [] none = refl
no_byte (Some []) (byte ∷ bytes) none = cc
no_byte (Some (byte ∷ bytes)) buffer none = cc
