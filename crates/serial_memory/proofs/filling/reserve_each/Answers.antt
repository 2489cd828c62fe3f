-- Each turn makes room for the page of one byte.
use Rattle.std.proofs.Common.{◌≡◌, ◌+◌, ◌/◌, ◌||◌, ◌==◌, Err, false, arith, ap, rules, ◌∙◌}
use Rattle.subordinate.specs.Faults.{Faults, is_good, standing_at}
use Rattle.sparse_memory.specs.SparseMemory.{faults_in, has_room}
use Rattle.serial_memory.specs.InsideSerial.{IsReservedAlone}
use Rattle.serial_memory.proofs.FilledBytes.{good-byte, refused-one, reserved_none, reserved_then, room-more}
use Rattle.serial_memory.proofs.filling.reserve_each.Goals as goal

pub loop-k-init : goal.loop-k-init
loop-k-init c = (reserved_none c.args.pages.now, λ j below. absurd (omega (arith, below)))

pub address_behind-requires : goal.address_behind-requires
address_behind-requires c = (good-byte (faults_in c.args.pages.now) c.args.address c.args.count c.loop-k.k c.requires c.loop-k-test.true).0

pub reserve-requires : goal.reserve-requires
reserve-requires c =
    record {
      good = ap (λ x. is_good (standing_at (faults_in c.loop-k.pages) x)) c.address_behind.ensures
          ∙ ap (λ (faults : Faults). is_good (standing_at faults (c.args.address + c.loop-k.k))) c.loop-k.invariant.0.faults
          ∙ (good-byte (faults_in c.args.pages.now) c.args.address c.args.count c.loop-k.k c.requires c.loop-k-test.true).1;
    }

pub loop-k-preserved : goal.loop-k-preserved
loop-k-preserved c = (
  reserved_then c.loop-k.invariant.0 more,
  room-more c.loop-k.pages c.reserve.new.self c.args.address c.loop-k.k (c.address_behind.result / 4096) (ap (λ a. a / 4096) c.address_behind.ensures) c.in_ok-reserve.ensures.room c.loop-k.invariant.1,
)
  where
    more : IsReservedAlone c.loop-k.pages c.reserve.new.self
    more =
        record {
          faults = c.reserve.ensures.faults;
          bytes = c.reserve.ensures.bytes;
          doubts = c.reserve.ensures.doubts;
          rooms = λ page there. c.in_ok-reserve.ensures.room page ∙ ap (λ b. b || page == c.address_behind.result / 4096) there;
        }

pub returns-in_err-reserve-clause-cause : goal.returns-in_err-reserve-clause-cause
returns-in_err-reserve-clause-cause c =
    let same : c.from_residual.result ≡ Err c.in_err-reserve.field-0.0 = search rules in
    let lacks : has_room c.loop-k.pages (c.address_behind.result / 4096) ≡ false = grind (arith, c.in_err-reserve.ensures.has_room) in
    rw same (refused-one c.args.address c.args.count c.loop-k.k (c.address_behind.result / 4096) c.loop-k.invariant.0 (ap (λ a. a / 4096) c.address_behind.ensures) c.loop-k-test.true lacks)
