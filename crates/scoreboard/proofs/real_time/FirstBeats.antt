-- A first beat that a port takes, of a message of several: the message has data and is no atomic, so it reads nothing, and its reply has no data.
use Rattle.std.proofs.Common.{◌≡◌, ℕ, zero, suc, ◌<◌, ◌==◌, Bool, true, false, None, Ok, if◌then◌else◌, refl, sym, ◌∙◌, ap, arith}
use Rattle.std.specs.Prelude.{◌||◌, nat_le, not}
use Rattle.std.proofs.lemmas.Bool.{or_parts}
use Rattle.std.proofs.lemmas.Bool.Decides.{nat_tests}
use Rattle.tl_messages.specs.Operations.{atomic_opcode, beats_of, has_data, opcode_of, reply_has_data}
use Rattle.tl_messages.specs.Requests.{begun, is_whole}
use Rattle.tl_messages.specs.declared.ABeat.{ABeat}
use Rattle.tl_messages.specs.declared.AtomicOp.{AtomicOp}
use Rattle.tl_messages.specs.declared.Operation.{Operation}
use Rattle.tl_messages.specs.declared.Operation.TheVariants.{Atomic}
use Rattle.tl_checker.specs.Ports.{judged, progress_of}
use Rattle.tl_checker.specs.RequestRules.{TlPortLimits, first_fault}
use Rattle.tl_checker.specs.declared.Progress.TheVariants.{More, Whole}
use Rattle.scoreboard.specs.Races.{may_read}
use Rattle.tl_checker.proofs.BeatRules.{first_none, right_named}
use Rattle.tl_checker.proofs.Taking.{answered_parts}

-- a message of more beats than one has data, and more than eight bytes
has_more : (size : ℕ) (carries : Bool) → nat_le (beats_of size carries) 1 ≡ false → (carries ≡ true) × (3 < size)
has_more size false more = absurd (cc (more))
has_more zero true more = absurd (cc (more))
has_more (suc zero) true more = absurd (cc (more))
has_more (suc (suc zero)) true more = absurd (cc (more))
has_more (suc (suc (suc zero))) true more = absurd (cc (more))
has_more (suc (suc (suc (suc size)))) true more = (refl, omega arith)

is_more : (whole : Bool) → (if whole then Whole else More) ≡ More → whole ≡ false
is_more whole same = grind arith

-- a first beat of a message of several
pub more_beats : (limits : TlPortLimits) (beat : ABeat) (busy : Bool) → judged limits None beat busy ≡ Ok More
    → (has_data (begun limits.client beat).operation ≡ true) × (3 < beat.size)
more_beats limits beat busy is =
    let told = (answered_parts (first_fault limits None beat busy) (progress_of (begun limits.client beat)) More is).1 in
    has_more beat.size (has_data (begun limits.client beat).operation) (is_more (is_whole (begun limits.client beat)) told)

atomic_opcodes : (op : AtomicOp) → (atomic_opcode op == 2 || atomic_opcode op == 3) ≡ true
atomic_opcodes op = grind arith

-- it is no atomic
pub more_put : (limits : TlPortLimits) (beat : ABeat) (busy : Bool) → judged limits None beat busy ≡ Ok More
    → (op : AtomicOp) → (begun limits.client beat).operation ≡ Atomic op → ⊥
more_put limits beat busy is op atomic =
    let none = (answered_parts (first_fault limits None beat busy) (progress_of (begun limits.client beat)) More is).0 in
    let right = (first_none limits beat busy none).0 in
    let opcode : beat.opcode ≡ atomic_opcode op = sym (right_named limits beat right).same_opcode ∙ ap opcode_of atomic in
    let test : (beat.opcode == 2 || beat.opcode == 3) ≡ true = rw opcode (atomic_opcodes op) in
    let large = (more_beats limits beat busy is).1 in
    grind (arith, nat_tests, test, large, right.atomic_size)

reads_none : (operation : Operation) → has_data operation ≡ true → ((op : AtomicOp) → operation ≡ Atomic op → ⊥) → may_read operation ≡ false
reads_none operation has other = grind (arith, has, other)

-- one that reads nothing tells nothing
pub no_data_back : (operation : Operation) → may_read operation ≡ false → reply_has_data operation ≡ false
no_data_back operation none = (or_parts (reply_has_data operation) (not (has_data operation)) none).0

-- it reads nothing
pub more_reads_none : (limits : TlPortLimits) (beat : ABeat) (busy : Bool) → judged limits None beat busy ≡ Ok More
    → may_read (begun limits.client beat).operation ≡ false
more_reads_none limits beat busy is = reads_none (begun limits.client beat).operation (more_beats limits beat busy is).0 (more_put limits beat busy is)

-- and its reply has no data
pub more_no_data_back : (limits : TlPortLimits) (beat : ABeat) (busy : Bool) → judged limits None beat busy ≡ Ok More
    → reply_has_data (begun limits.client beat).operation ≡ false
more_no_data_back limits beat busy is = no_data_back (begun limits.client beat).operation (more_reads_none limits beat busy is)
