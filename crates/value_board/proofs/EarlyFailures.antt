-- A request whose reply came before it was whole has failed just where a beat of it was corrupt, or an error response came to a burst that shares a byte with it.
use Rattle.std.proofs.Common.{◌≡◌, ℕ, ◌||◌, Bool, true, false, Option, Some, None, ap, refl, ◌∙◌}
use Rattle.std.specs.Prelude.{if◌then◌else◌, is_none}
use Rattle.burst_plan.specs.PageMap.{translated_address}
use Rattle.meaning.specs.Meaning.{Bytes, effect, effect_at, zeros}
use Rattle.responses.specs.Shown.{Reply, shown}
use Rattle.setups.specs.Setups.{SetupLists, faults_of}
use Rattle.subordinate.specs.Faults.{Faults, IsAbsent, IsGood, IsSlaveError, Standing, is_bad, is_good, standing_at}
use Rattle.tl_messages.specs.Operations.{has_data, reply_has_data}
use Rattle.tl_messages.specs.Requests.{HeldMessage, WholeRequest, request_of}
use Rattle.tl_messages.specs.declared.Operation.{Operation}
use Rattle.tl_messages.specs.declared.Operation.TheVariants.{Atomic, Get, Intent, PutFull, PutPartial}
use Rattle.scoreboard.specs.Boards.{is_spoiled, tells_error}
use Rattle.scoreboard.specs.Orders.{access_fails}
use Rattle.scoreboard.specs.declared.Errors.TheVariants.{Any}
use Rattle.serial_memory.specs.SerialMemory.{on_good_page}
use Rattle.value_orders.specs.Bytes.{is_failed}
use Rattle.value_orders.specs.Histories.{Past}
use Rattle.value_orders.specs.Places.{acts_at}
use Rattle.value_board.specs.Values.{has_failed}

-- a Put to a good page isn't denied
not_denied : (faults : Faults) (q : WholeRequest) (m : Bytes) (address : ℕ) (op : Operation) (standing : Standing) (bad : Bool) → has_data op ≡ true
    → reply_has_data op ≡ false → is_good standing ≡ true → (effect faults q m address op standing bad).reply.denied ≡ false
not_denied faults q m address PutFull IsGood bad carries silent good = refl
not_denied faults q m address PutFull IsSlaveError bad carries silent good = absurd (cc (good))
not_denied faults q m address PutFull IsAbsent bad carries silent good = absurd (cc (good))
not_denied faults q m address PutPartial IsGood bad carries silent good = refl
not_denied faults q m address PutPartial IsSlaveError bad carries silent good = absurd (cc (good))
not_denied faults q m address PutPartial IsAbsent bad carries silent good = absurd (cc (good))
not_denied faults q m address Get standing bad carries silent good = absurd (cc (carries))
not_denied faults q m address (Intent write) standing bad carries silent good = absurd (cc (carries))
not_denied faults q m address (Atomic op) standing bad carries silent good = absurd (cc (silent))

tells_none : (q : WholeRequest) (reply : Reply) → reply_has_data q.operation ≡ false → reply.denied ≡ false → tells_error (shown q reply) ≡ false
tells_none q reply silent fine = rw (silent, fine) refl

put_tells_none : (faults : Faults) (q : WholeRequest) (m : Bytes) (place : Option ℕ) (address : ℕ) → has_data q.operation ≡ true → reply_has_data q.operation ≡ false
    → on_good_page faults place ≡ Some address → tells_error (shown q (effect_at faults q m place).reply) ≡ false
put_tells_none faults q m None address carries silent there = absurd (cc (there))
put_tells_none faults q m (Some place) address carries silent there =
    tells_none q (effect faults q m place q.operation (standing_at faults place) (is_bad faults place)).reply silent
    (not_denied faults q m place q.operation (standing_at faults place) (is_bad faults place) carries silent (good (is_good (standing_at faults place)) there))
  where
    good : (b : Bool) → (if b then Some place else None) ≡ Some address → b ≡ true
    good true there = refl
    good false there = absurd (cc (there))

put_acts : (setup : SetupLists) (q : WholeRequest) (address : ℕ) → has_data q.operation ≡ true → reply_has_data q.operation ≡ false → acts_at setup Any q ≡ Some address
    → access_fails setup q ≡ false
put_acts setup q address carries silent there =
    let sound : WholeRequest = record q { corrupt = false } in
    let told = tells_error (shown sound (effect_at (faults_of setup) sound zeros (translated_address setup.regions sound)).reply) in
    ap (λ (place : Option ℕ). is_none place || told) there
    ∙ put_tells_none (faults_of setup) sound zeros (translated_address setup.regions sound) address carries silent there

or_false : (b : Bool) → (b || false) ≡ b
or_false true = refl
or_false false = refl

-- it has failed as its message and the responses to bursts say
pub early_failed : (setup : SetupLists) (past : Past) (message : HeldMessage) (struck : Bool) (address : ℕ) → past.entry.request ≡ request_of message
    → has_data past.entry.request.operation ≡ true → reply_has_data past.entry.request.operation ≡ false → acts_at setup Any past.entry.request ≡ Some address
    → past.entry.spoiled ≡ (struck || is_spoiled Any (request_of message)) → is_failed setup Any past ≡ has_failed Any struck message None
early_failed setup past message struck address is carries silent there spoiled =
    ap (λ (fails : Bool). past.entry.spoiled || fails) (put_acts setup past.entry.request address carries silent there) ∙ or_false past.entry.spoiled ∙ spoiled
