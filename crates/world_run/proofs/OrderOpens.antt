-- The opening world keeps the order: nothing is written, and every byte is zero. It knows the opening state alone.
use Rattle.std.proofs.Common.{◌≡◌, nat_lt, false, refl, sym, arith}
use Rattle.std.proofs.lemmas.Bool.Decides.{nat_tests}
use Rattle.subordinate.proofs.ZeroBytes.{zero_byte}
use Rattle.world_run.specs.InOrder.{KeepsOrder, is_finished, memory_bytes, started}
use Rattle.world_run.specs.Serial.{Order, bytes_before, writes}
use Rattle.setups.specs.Setups.{SetupLists, faults_of}
use Rattle.world.specs.World.{opening_world}
use Rattle.world_run.proofs.HeldSteps.{held_opening}
use Rattle.world_run.proofs.History.{history_opens}
use Rattle.world_run.proofs.BytesLeft.{left_alone}

-- ---- the opening world

pub keeps_opening : (order : Order) (setup : SetupLists) → order.faults ≡ faults_of setup → order.regions ≡ setup.regions → KeepsOrder order (opening_world setup)
keeps_opening order setup faults regions =
    record {
      wrote = λ i x. false;
      faults = sym faults;
      regions = sym regions;
      history = history_opens (writes order) (bytes_before order) (started (opening_world setup).bridge.requests) (is_finished (opening_world setup).bridge.requests) (memory_bytes (opening_world setup)) (left_alone order)
          (λ j. let none : nat_lt j 0 ≡ false = grind (arith, nat_tests) in rw none refl) (zero_byte setup.pages);
      held = held_opening order setup;
      live = tt;
      bursts = λ id. refl;
    }
