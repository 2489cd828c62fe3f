-- What holds of every request that stands whole on a port, whoever sent it.
use Rattle.std.specs.Prelude.{ℕ, ◌%◌, ◌^◌, ◌<◌, ◌≤◌, ◌≡◌, ◌≢◌, true, length}
use Rattle.std.specs.List.{AllByRecursion}
use Rattle.bus_words.specs.Lanes.{has_lane}
use Rattle.tl_messages.specs.Lanes.{in_lanes}
use Rattle.tl_messages.specs.Operations.{has_data, beats_of}
use Rattle.tl_messages.specs.Requests.{HeldMessage}
use Rattle.tl_messages.specs.declared.AtomicOp.{AtomicOp}
use Rattle.tl_messages.specs.declared.MaskedWord.{MaskedWord}
use Rattle.tl_messages.specs.declared.Operation.{Operation}
use Rattle.tl_messages.specs.declared.Operation.TheVariants.{PutPartial, Atomic}
use Rattle.data_unit.specs.Words.{full_mask}
use Rattle.tl_checker.specs.RequestRules.{TlPortLimits}
use Rattle.tl_checker.specs.declared.Level.TheVariants.{Ul}

-- a mask has no lane outside those of address and size, and for every operation but PutPartial it has just these
pub record IsRightMask (operation : Operation) (address size : ℕ) (beat : MaskedWord) : Type 0 where
  pub within : (lane : ℕ) → lane < 8 → has_lane beat.mask lane ≡ true → in_lanes address size lane ≡ true
  pub full : operation ≢ PutPartial → beat.mask ≡ full_mask address size

-- a message is its port's client's, within the port's limits and aligned, has all its beats, and its masks are right; an atomic has at
-- most eight bytes, and on a TL-UL port so has every request
pub record IsSound (limits : TlPortLimits) (message : HeldMessage) : Type 0 where
  pub client : message.client ≡ limits.client
  pub size : message.size ≤ limits.max_size
  pub aligned : message.address % 2 ^ message.size ≡ 0
  pub atomic_size : (op : AtomicOp) → message.operation ≡ Atomic op → message.size ≤ 3
  pub one_beat : limits.level ≡ Ul → message.size ≤ 3
  pub beats : length message.beats ≡ beats_of message.size (has_data message.operation)
  pub masks : AllByRecursion (IsRightMask message.operation message.address message.size) message.beats
