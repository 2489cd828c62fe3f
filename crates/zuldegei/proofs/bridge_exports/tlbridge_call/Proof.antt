-- `tlbridge_call` lends what lies at its pointer to `called`.
use Rattle.bridge_calls.specs.Handles.{Called}
use Rattle.bridge_calls.specs.contracts.handle.BridgeHandle.{the_row}
use Rattle.zuldegei.proofs.Lent.{lender_met}
use Rattle.zuldegei.proofs.bridge_exports.tlbridge_call.Statement.{statement}
use Rattle.zuldegei.proofs.bridge_exports.tlbridge_call.Code as code
use Rattle.zuldegei.proofs.bridge_exports.called.Met.{met}

pub tlbridge_call_spec : {M : Type 1} → statement M
tlbridge_call_spec 𝓤 𝓛 𝓜 𝓡 wired =
    lender_met the_row Called 𝓤 𝓛 𝓜 𝓡 _ _ _ _ (code.unfolded 𝓤 𝓛.H 𝓜 𝓡 wired) (met 𝓤 𝓛 𝓜 𝓡 (code.calls-zuldegei::bridge_exports::called 𝓡.env wired))
