-- An accepted beat leaves the outstanding bursts within a port's limits.
use Rattle.std.proofs.Common.{◌≡◌, ℕ, ◌+◌, ◌*◌, ◌<◌, ◌≤◌, ◌==◌, Bool, true, false, List, [], ◌∷◌, length, refl, arith}
use Rattle.std.specs.Prelude.{None, if◌then◌else◌}
use Rattle.std.specs.List.{AllByRecursion}
use Rattle.std.proofs.lemmas.Bool.{leb-true, ltb-true}
use Rattle.std.proofs.lemmas.Bool.Decides.{nat_tests}
use Rattle.bus_words.specs.Tables.{first_broken}
use Rattle.bus_words.proofs.PlaceChanges.{all-append, all-change_first, all-without_first}
use Rattle.axi_beats.specs.Transfers.{fits_bus, in_one_page}
use Rattle.axi_beats.specs.declared.AwBeat.{AwBeat}
use Rattle.axi_beats.specs.declared.ArBeat.{ArBeat}
use Rattle.axi_beats.specs.declared.WBeat.{WBeat}
use Rattle.axi_checker.specs.Monitors.{HasFewOfEach, IsSoundRead, IsSoundWrite, IsWithinLimits, id_of_read, id_of_write}
use Rattle.axi_checker.specs.OpenBursts.{OpenBursts, OpenRead, OpenWrite, lacks_data, open_after, read_of_id, reads_after, write_of_id}
use Rattle.axi_checker.specs.declared.AxiBeat.{AxiBeat}
use Rattle.axi_checker.specs.declared.AxiBeat.TheVariants.{Ar as OnAr, Aw as OnAw, B as OnB, R as OnR, W as OnW}
use Rattle.axi_checker.specs.Rules.{AxiPortLimits, BurstAddress, address_of_read, address_of_write, address_rules, axi_fault}
use Rattle.axi_checker.proofs.Few.{few-append, few-change_first, few-without_first, of_id, room_for_one}
use Rattle.axi_checker.proofs.ReadsAfter.{goes_on, one_more}

-- what an address beat keeps to that breaks no rule
pub record IsAllowed (port : AxiPortLimits) (id address len size burst_type open_of_id : ℕ) : Type 0 where
  pub fits : fits_bus port.bus_bytes size ≡ true
  pub incr : (burst_type == 1) ≡ true
  pub page : in_one_page address len size ≡ true
  pub known : id < port.ids
  pub few : open_of_id < port.depth

pub address_allowed : (port : AxiPortLimits) (address : BurstAddress) (open_of_id : ℕ) → first_broken (address_rules port address open_of_id) ≡ None
    → IsAllowed port address.id address.start address.len address.size address.burst open_of_id
address_allowed port address open_of_id none =
    record {
      fits = grind (arith, none);
      incr = grind (arith, none);
      page = grind (arith, none);
      known = grind (arith, nat_tests, none);
      few = grind (arith, nat_tests, none);
    }

pub aw_allowed : (port : AxiPortLimits) (open_bursts : OpenBursts) (aw : AwBeat) → axi_fault port open_bursts (OnAw aw) ≡ None
    → IsAllowed port aw.id aw.address aw.len aw.size aw.burst (of_id id_of_write aw.id open_bursts.writes)
aw_allowed port open_bursts aw none = address_allowed port (address_of_write aw) (of_id id_of_write aw.id open_bursts.writes) none

pub ar_allowed : (port : AxiPortLimits) (open_bursts : OpenBursts) (ar : ArBeat) → axi_fault port open_bursts (OnAr ar) ≡ None
    → IsAllowed port ar.id ar.address ar.len ar.size ar.burst (of_id id_of_read ar.id open_bursts.reads)
ar_allowed port open_bursts ar none = address_allowed port (address_of_read ar) (of_id id_of_read ar.id open_bursts.reads) none

-- there is room for a burst whose address is allowed
pub room_for_write : (port : AxiPortLimits) (open_bursts : OpenBursts) (aw : AwBeat) → axi_fault port open_bursts (OnAw aw) ≡ None → IsWithinLimits port open_bursts
    → length open_bursts.writes < port.ids * port.depth
room_for_write port open_bursts aw none within =
    let allowed = aw_allowed port open_bursts aw none in
    room_for_one id_of_write port.ids port.depth open_bursts.writes (record { aw = aw; came = 0 }) within.writes allowed.known allowed.few

pub room_for_read : (port : AxiPortLimits) (open_bursts : OpenBursts) (ar : ArBeat) → axi_fault port open_bursts (OnAr ar) ≡ None → IsWithinLimits port open_bursts
    → length open_bursts.reads < port.ids * port.depth
room_for_read port open_bursts ar none within =
    let allowed = ar_allowed port open_bursts ar none in
    room_for_one id_of_read port.ids port.depth open_bursts.reads (record { ar = ar; came = 0 }) within.reads allowed.known allowed.few

-- an R beat keeps what holds of each read, and lets no more reads have an ID
all-reads_after : (P : OpenRead → Type 0) (id : ℕ) (reads : List OpenRead) → ((read : OpenRead) → goes_on read ≡ true → P read → P (one_more read)) → AllByRecursion P reads
    → AllByRecursion P (reads_after id reads)
all-reads_after P id [] keeps all = tt
all-reads_after P id (r ∷ rs) keeps all = by_test (read_of_id id r) (goes_on r) (keeps r) (all-reads_after P id rs keeps all.1)
  where
    by_test : (here on : Bool) → (on ≡ true → P r → P (one_more r)) → AllByRecursion P (reads_after id rs)
        → AllByRecursion P (if here then (if on then one_more r ∷ rs else rs) else r ∷ reads_after id rs)
    by_test true true kept rest = (kept refl all.0, all.1)
    by_test true false kept rest = all.1
    by_test false on kept rest = (all.0, rest)

-- a test that an R beat leaves as it was; what the head adds to the count is the same on both sides
of_id-reads_after : (id other : ℕ) (reads : List OpenRead) → of_id id_of_read other (reads_after id reads) ≤ of_id id_of_read other reads
of_id-reads_after id other [] = omega arith
of_id-reads_after id other (r ∷ rs) = grind (arith, of_id-reads_after id other rs)

few-reads_after : (ids depth id : ℕ) (reads : List OpenRead) → HasFewOfEach id_of_read ids depth reads → HasFewOfEach id_of_read ids depth (reads_after id reads)
few-reads_after ids depth id reads few =
    record {
      known = all-reads_after (λ read. read.ar.id < ids) id reads (λ read goes known. known) few.known;
      few = λ other. omega (arith, of_id-reads_after id other reads, few.few other);
    }

sound-fill : (bus_bytes : ℕ) (write : OpenWrite) → lacks_data write ≡ true → IsSoundWrite bus_bytes write → IsSoundWrite bus_bytes (record write { came = write.came + 1 })
sound-fill bus_bytes write lacks sound = record { fits = sound.fits; came = omega (arith, leb-true write.came write.aw.len lacks) }

sound-answer : (bus_bytes : ℕ) (read : OpenRead) → goes_on read ≡ true → IsSoundRead bus_bytes read → IsSoundRead bus_bytes (one_more read)
sound-answer bus_bytes read goes sound = record { fits = sound.fits; came = omega (arith, ltb-true read.came read.ar.len goes) }

-- with a burst more whose transfers fit the bus, of an ID of the port's that has fewer than it may
pub within-write : (port : AxiPortLimits) (open_bursts : OpenBursts) (aw : AwBeat) → fits_bus port.bus_bytes aw.size ≡ true → aw.id < port.ids → of_id id_of_write aw.id open_bursts.writes < port.depth
    → IsWithinLimits port open_bursts → IsWithinLimits port (open_after open_bursts (OnAw aw))
within-write port open_bursts aw fits known few within =
    let write : OpenWrite = record { aw = aw; came = 0 } in
    record {
      writes = few-append id_of_write port.ids port.depth open_bursts.writes write within.writes known few;
      reads = within.reads;
      sound_writes = all-append (IsSoundWrite port.bus_bytes) open_bursts.writes write within.sound_writes (record { fits = fits; came = omega arith });
      sound_reads = within.sound_reads;
    }

pub within-read : (port : AxiPortLimits) (open_bursts : OpenBursts) (ar : ArBeat) → fits_bus port.bus_bytes ar.size ≡ true → ar.id < port.ids → of_id id_of_read ar.id open_bursts.reads < port.depth
    → IsWithinLimits port open_bursts → IsWithinLimits port (open_after open_bursts (OnAr ar))
within-read port open_bursts ar fits known few within =
    let read : OpenRead = record { ar = ar; came = 0 } in
    record {
      writes = within.writes;
      reads = few-append id_of_read port.ids port.depth open_bursts.reads read within.reads known few;
      sound_writes = within.sound_writes;
      sound_reads = all-append (IsSoundRead port.bus_bytes) open_bursts.reads read within.sound_reads (record { fits = fits; came = omega arith });
    }

-- and with data more of the oldest write that lacks some
pub within-data : (port : AxiPortLimits) (open_bursts : OpenBursts) (w : WBeat) → IsWithinLimits port open_bursts → IsWithinLimits port (open_after open_bursts (OnW w))
within-data port open_bursts w within =
    record {
      writes = few-change_first id_of_write port.ids port.depth lacks_data (λ write. record write { came = write.came + 1 }) open_bursts.writes (λ write. refl) within.writes;
      reads = within.reads;
      sound_writes =
          all-change_first (IsSoundWrite port.bus_bytes) lacks_data (λ write. record write { came = write.came + 1 }) open_bursts.writes (sound-fill port.bus_bytes) within.sound_writes;
      sound_reads = within.sound_reads;
    }

pub within-open_after : (port : AxiPortLimits) (open_bursts : OpenBursts) (beat : AxiBeat) → axi_fault port open_bursts beat ≡ None → IsWithinLimits port open_bursts
    → IsWithinLimits port (open_after open_bursts beat)
within-open_after port open_bursts (OnAw aw) none within =
    let allowed = aw_allowed port open_bursts aw none in
    within-write port open_bursts aw allowed.fits allowed.known allowed.few within
within-open_after port open_bursts (OnW w) none within = within-data port open_bursts w within
within-open_after port open_bursts (OnB b) none within =
    record {
      writes = few-without_first id_of_write port.ids port.depth (write_of_id b.id) open_bursts.writes within.writes;
      reads = within.reads;
      sound_writes = all-without_first (IsSoundWrite port.bus_bytes) (write_of_id b.id) open_bursts.writes within.sound_writes;
      sound_reads = within.sound_reads;
    }
within-open_after port open_bursts (OnAr ar) none within =
    let allowed = ar_allowed port open_bursts ar none in
    within-read port open_bursts ar allowed.fits allowed.known allowed.few within
within-open_after port open_bursts (OnR r) none within =
    record {
      writes = within.writes;
      reads = few-reads_after port.ids port.depth r.id open_bursts.reads within.reads;
      sound_writes = within.sound_writes;
      sound_reads = all-reads_after (IsSoundRead port.bus_bytes) r.id open_bursts.reads (sound-answer port.bus_bytes) within.sound_reads;
    }
