-- `tlscore_call` lends what lies at its pointer to `called`.
use Rattle.score_calls.specs.Handles.{Called}
use Rattle.score_calls.specs.contracts.handle.Handle.{the_row}
use Rattle.zuldegei.proofs.Lent.{lender_met}
use Rattle.zuldegei.proofs.score_exports.tlscore_call.Statement.{statement}
use Rattle.zuldegei.proofs.score_exports.tlscore_call.Code as code
use Rattle.zuldegei.proofs.score_exports.called.Met.{met}

pub tlscore_call_spec : {M : Type 1} → statement M
tlscore_call_spec 𝓤 𝓛 𝓜 𝓡 wired =
    lender_met the_row Called 𝓤 𝓛 𝓜 𝓡 _ _ _ _ (code.unfolded 𝓤 𝓛.H 𝓜 𝓡 wired) (met 𝓤 𝓛 𝓜 𝓡 (code.calls-zuldegei::score_exports::called 𝓡.env wired))
