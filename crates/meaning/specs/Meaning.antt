-- What a whole request means on a map from addresses to bytes, and a list of them one at a time.
-- Here are no beats, IDs, bursts, buffers or tables.
use Rattle.std.specs.Prelude.{ℕ, ◌^◌, Bool, true, false, List, [], ◌∷◌, map, replicate, Option, Some, None, if◌then◌else◌, unwrap_or}
use Rattle.std.specs.List.{range_with_len}
use Rattle.bus_words.specs.Lanes.{given_at}
use Rattle.tl_messages.specs.Operations.{reply_has_data}
use Rattle.tl_messages.specs.Requests.{WholeRequest}
use Rattle.tl_messages.specs.declared.AtomicOp.{AtomicOp}
use Rattle.tl_messages.specs.declared.Operation.{Operation}
use Rattle.tl_messages.specs.declared.Operation.TheVariants.{PutFull, PutPartial, Atomic, Get, Intent}
use Rattle.data_unit.specs.Atomics.{atomic_result}
use Rattle.data_unit.specs.Words.{value, bytes_of}
use Rattle.burst_plan.specs.PageMap.{translated_address}
use Rattle.burst_plan.specs.declared.Region.{Region}
use Rattle.responses.specs.Shown.{Reply}
use Rattle.subordinate.specs.Faults.{Faults, Standing, IsGood, IsSlaveError, IsAbsent, standing_at, is_bad}

-- a byte for each address; only those of good pages count
abbrev pub Bytes : Type 0
Bytes = ℕ → ℕ

-- every byte zero
abbrev pub zeros : Bytes
zeros x = 0

-- a request's reply, and the bytes after it
pub record Effect : Type 0 where
  pub reply : Reply
  pub after : Bytes

-- a denied reply, which gives no byte
abbrev pub denied : Reply
denied = record { denied = true; bytes = [] }

-- not denied, and no data in the reply
abbrev pub acknowledged : Reply
acknowledged = record { denied = false; bytes = [] }

-- not denied, and none of the n bytes given
abbrev pub no_byte_given : ℕ → Reply
no_byte_given n = record { denied = false; bytes = replicate n None }

-- the n bytes at an address
abbrev pub bytes_at : Bytes → ℕ → ℕ → List ℕ
bytes_at m address n = map m (range_with_len address n)

-- the bytes with those that are given put at an address
abbrev pub with_bytes : Bytes → ℕ → List (Option ℕ) → Bytes
with_bytes m address bytes x = unwrap_or (given_at bytes address x) (m x)

-- a Get of good bytes: byte for byte, but none of a bad word
abbrev pub good_bytes : Faults → Bytes → ℕ → ℕ → List (Option ℕ)
good_bytes faults m address n = map (λ x. if is_bad faults x then None else Some (m x)) (range_with_len address n)

-- what an atomic puts at its address
abbrev pub atomic_bytes : AtomicOp → Bytes → ℕ → ℕ → List (Option ℕ) → List (Option ℕ)
atomic_bytes op m address n operand =
    map Some (bytes_of n (atomic_result op n (value (bytes_at m address n)) (value (map (λ byte. unwrap_or byte 0) operand))))

-- an operation on 2^size bytes at an AXI address whose page stands as given; `bad` says whether the address's word is bad. What a row above
-- says of every page, no row below says again
abbrev pub effect : Faults → WholeRequest → Bytes → ℕ → Operation → Standing → Bool → Effect
effect faults q m address (Intent write) standing bad = record { reply = acknowledged; after = m }
effect faults q m address operation IsAbsent bad = record { reply = denied; after = m }
effect faults q m address operation IsSlaveError bad =
    record { reply = if reply_has_data operation then no_byte_given (2 ^ q.size) else denied; after = m }
effect faults q m address PutFull IsGood bad = record { reply = acknowledged; after = with_bytes m address q.bytes }
effect faults q m address PutPartial IsGood bad = record { reply = acknowledged; after = with_bytes m address q.bytes }
effect faults q m address Get IsGood bad =
    record { reply = record { denied = false; bytes = good_bytes faults m address (2 ^ q.size) }; after = m }
effect faults q m address (Atomic op) IsGood true = record { reply = no_byte_given (2 ^ q.size); after = m }
effect faults q m address (Atomic op) IsGood false =
    record {
      reply = record { denied = false; bytes = map Some (bytes_at m address (2 ^ q.size)) };
      after = with_bytes m address (atomic_bytes op m address (2 ^ q.size) q.bytes);
    }

-- the effect of a request at its AXI address; it is denied where it has none
abbrev pub effect_at : Faults → WholeRequest → Bytes → Option ℕ → Effect
effect_at faults q m None = record { reply = denied; after = m }
effect_at faults q m (Some address) = effect faults q m address q.operation (standing_at faults address) (is_bad faults address)

-- what a request means: denied where it is corrupt, else its effect at its AXI address
abbrev pub meaning : Faults → List Region → WholeRequest → Bytes → Effect
meaning faults regions q m = if q.corrupt then record { reply = denied; after = m } else effect_at faults q m (translated_address regions q)

-- the replies to a list of requests, carried out one at a time
abbrev pub replies_in_order : Faults → List Region → List WholeRequest → Bytes → List Reply
replies_in_order faults regions [] m = []
replies_in_order faults regions (q ∷ qs) m =
    (meaning faults regions q m).reply ∷ replies_in_order faults regions qs (meaning faults regions q m).after

-- the bytes after all of them
abbrev pub bytes_after_all : Faults → List Region → List WholeRequest → Bytes → Bytes
bytes_after_all faults regions [] m = m
bytes_after_all faults regions (q ∷ qs) m = bytes_after_all faults regions qs (meaning faults regions q m).after
