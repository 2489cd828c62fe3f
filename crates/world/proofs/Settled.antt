-- A request is settled after an answer: it goes on, plans its write, or is finished. It knows one live request; the answer and the memory are
-- hidden.
use Rattle.std.proofs.Common.{◌≡◌, false, refl, sym, subst, inl, inr, ◌⊎◌}
use Rattle.bridge_core.specs.HeldRequests.{BridgedRequest, settled}
use Rattle.bridge_core.proofs.ResponseLinks.{finished_one, settled_as, with_its_write}

pub settled_has : (P : BridgedRequest → Type 0) (request : BridgedRequest) → P request → (request.flight.writing ≡ false → P (with_its_write request)) → P (finished_one request)
    → P (settled request)
settled_has P request going writing ending =
    elim (settled_as request) [
      | inl goes_on ↦ subst P (sym goes_on.1) going
      | inr at_end ↦ at_the_end at_end.becomes
    ]
  where
    at_the_end : ((request.flight.writing ≡ false) × (settled request ≡ with_its_write request)) ⊎ (settled request ≡ finished_one request) → P (settled request)
    at_the_end (inl writes) = subst P (sym writes.1) (writing writes.0)
    at_the_end (inr ends) = subst P (sym ends) ending

pub settled_number : (request : BridgedRequest) → (settled request).flight.number ≡ request.flight.number
settled_number request = settled_has (λ r. r.flight.number ≡ request.flight.number) request refl (λ reads. refl) refl

pub settled_message : (request : BridgedRequest) → (settled request).message ≡ request.message
settled_message request = settled_has (λ r. r.message ≡ request.message) request refl (λ reads. refl) refl
