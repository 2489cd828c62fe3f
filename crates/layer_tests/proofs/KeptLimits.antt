-- A beat that is offered leaves the bridge its limits.
use Rattle.std.proofs.Common.{◌≡◌, ◌^◌, ℕ, refl}
use Rattle.std.specs.Prelude.{Result, Ok, Err, nat_le}
use Rattle.std.proofs.lemmas.Bool.{cond_both}
use Rattle.tl_checker.specs.declared.Progress.{Progress}
use Rattle.tl_checker.specs.declared.Progress.TheVariants.{More, Whole}
use Rattle.tl_checker.specs.declared.TlRule.{TlRule}
use Rattle.tl_messages.specs.declared.ABeat.{ABeat}
use Rattle.flight_table.specs.Tables.{has_room}
use Rattle.bridge_core.specs.Bridge.{BridgeState, offered, offered_after, verdict_on}
use Rattle.bridge_core.specs.HeldRequests.{flight_table_of}
use Rattle.bridge_core.specs.declared.Offered.{Offered}

abbrev Keeps : BridgeState → BridgeState × Offered → Type 0
Keeps state result = result.0.requests.config ≡ state.requests.config

told : (state : BridgeState) (client : ℕ) (beat : ABeat) (verdict : Result Progress TlRule) → Keeps state (offered_after verdict state client beat)
told state client beat (Err rule) = refl
told state client beat (Ok More) = refl
told state client beat (Ok Whole) =
    cond_both (has_room (flight_table_of state.requests) client) _ _ (Keeps state) (λ room. cond_both (nat_le (2 ^ 48) state.requests.accepted) _ _ (Keeps state) (λ full. refl) (λ some. refl)) (λ full. refl)

pub offered_keeps : (state : BridgeState) (client : ℕ) (beat : ABeat) → (offered state client beat).0.requests.config ≡ state.requests.config
offered_keeps state client beat =
    cond_both (nat_le state.requests.config.clients client) _ _ (Keeps state) (λ absent. refl) (λ known. told state client beat (verdict_on state client beat))
