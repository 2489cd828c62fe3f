-- An answer that tells that nothing changed is right.
use Rattle.std.proofs.Common.{◌≡◌, true, false, refl, arith}
use Rattle.bridge_core.specs.Bridge.{BridgeState}
use Rattle.bridge_core.specs.declared.Offered.{Offered}
use Rattle.bridge_core.specs.declared.Offered.TheVariants as offer
use Rattle.world.specs.World.{Outcome, WorldState, is_reply, leaves_all, next, offered_to}
use Rattle.world.specs.declared.Step.{Step}
use Rattle.world.proofs.Events.{each_way}

-- what an outcome keeps where its answer says so
abbrev pub IsKept : WorldState → Outcome → Type 0
IsKept state outcome = leaves_all outcome.answer ≡ true → outcome.state ≡ state

pub next_kept : (state : WorldState) (step : Step) → IsKept state (next state step)
next_kept state =
    each_way (λ step outcome. IsKept state outcome) state
    (record {
      quiet = λ step answer leaves still. refl;
      begins = λ client beat is still. absurd (cc (still));
      accepts = λ client beat is still. absurd (cc (still));
      sends = λ sending is still. absurd (cc (still));
      performs = λ serial beat memory is still. absurd (cc (still));
      gives_b = λ id b is still. absurd (cc (still));
      gives_r = λ id r is still. absurd (cc (still));
      hands_out = λ client request known is still. absurd (cc (still));
    })

-- no offer hands out a reply
pub offer_is_no_reply : (state : WorldState) (result : BridgeState × Offered) → is_reply (offered_to state result).answer ≡ false
offer_is_no_reply state result = grind arith
