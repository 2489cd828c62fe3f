-- What outstanding bursts owe, beat by beat.
use Rattle.std.proofs.Common.{◌≡◌, ℕ, suc, ◌+◌, ◌-◌, ◌<◌, ◌≤◌, ◌==◌, Bool, false, List, [], ◌∷◌, ◌++◌, length, refl, ap, sym, ◌∙◌, arith, append_assoc}
use Rattle.std.specs.Prelude.{Some, filter, find, if◌then◌else◌}
use Rattle.std.proofs.lemmas.Bool.Decides.{nat_tests}
use Rattle.std.proofs.lemmas.List.{append-nil}
use Rattle.bus_words.specs.Places.{change_first, without_first}
use Rattle.axi_checker.specs.OpenBursts.{OpenRead, OpenWrite, lacks_data, read_of_id, reads_after, write_of_id}
use Rattle.axi_checker.specs.Order.{lasts_from, reads_owe, writes_lack}
use Rattle.axi_checker.proofs.Judging.{one_beat_more}

-- the next flag, and those after it
lasts_from-next : (came len : ℕ) → came ≤ len → lasts_from came len ≡ (came == len) ∷ lasts_from (came + 1) len
lasts_from-next came len few =
    let more : len + 1 - came ≡ suc (len - came) = omega arith in
    let rest : len + 1 - (came + 1) ≡ len - came = omega arith in
    rw (more, rest) refl

lasts_from-end : (came len : ℕ) → len < came → lasts_from came len ≡ []
lasts_from-end came len all =
    let none : len + 1 - came ≡ 0 = omega arith in
    rw none refl

-- an R beat gives the flag that its ID's oldest read owed first
pub reads_owe-reads_after : (id : ℕ) (reads : List OpenRead) (read : OpenRead) → find (read_of_id id) reads ≡ Some read → read.came ≤ read.ar.len
    → (read.came == read.ar.len) ∷ reads_owe id (reads_after id reads) ≡ reads_owe id reads
reads_owe-reads_after id [] read found few = absurd (cc)
reads_owe-reads_after id (r ∷ rs) read found few =
    grind (arith, nat_tests, lasts_from-next r.came r.ar.len, lasts_from-end (r.came + 1) r.ar.len, reads_owe-reads_after id rs read)

-- and nothing changes for other IDs
pub reads_owe-other : (id other : ℕ) (reads : List OpenRead) → (other ≡ id → ⊥) → reads_owe id (reads_after other reads) ≡ reads_owe id reads
reads_owe-other id other [] apart = refl
reads_owe-other id other (r ∷ rs) apart = grind (arith, nat_tests, apart, reads_owe-other id other rs apart)

-- a read more owes its flags last
pub reads_owe-append : (id : ℕ) (reads : List OpenRead) (read : OpenRead) → reads_owe id (reads ++ read ∷ []) ≡ reads_owe id reads ++ (if read_of_id id read then lasts_from read.came read.ar.len else [])
reads_owe-append id [] read = grind (arith, append-nil)
reads_owe-append id (r ∷ rs) read = grind (arith, append_assoc, reads_owe-append id rs read)

-- a W beat gives the flag that the oldest write that lacks data lacks first
pub writes_lack-change_first : (writes : List OpenWrite) (write : OpenWrite) → find lacks_data writes ≡ Some write → (write.came == write.aw.len) ∷ writes_lack (change_first lacks_data one_beat_more writes) ≡ writes_lack writes
writes_lack-change_first [] write found = absurd (cc)
writes_lack-change_first (x ∷ xs) write found =
    grind (arith, nat_tests, lasts_from-next x.came x.aw.len, lasts_from-end x.came x.aw.len, writes_lack-change_first xs write)

-- a write that is closed lacked nothing
pub writes_lack-without_first : (p : OpenWrite → Bool) (writes : List OpenWrite) (write : OpenWrite) → find p writes ≡ Some write → lacks_data write ≡ false → writes_lack (without_first p writes) ≡ writes_lack writes
writes_lack-without_first p [] write found full = refl
writes_lack-without_first p (x ∷ xs) write found full = grind (arith, nat_tests, lasts_from-end x.came x.aw.len, writes_lack-without_first p xs write)

-- a write more lacks its data last
pub writes_lack-append : (writes : List OpenWrite) (write : OpenWrite) → writes_lack (writes ++ write ∷ []) ≡ writes_lack writes ++ lasts_from write.came write.aw.len
writes_lack-append [] write = append-nil (lasts_from write.came write.aw.len)
writes_lack-append (x ∷ xs) write =
    ap (λ (lack : List Bool). lasts_from x.came x.aw.len ++ lack) (writes_lack-append xs write)
    ∙ sym (append_assoc (lasts_from x.came x.aw.len) (writes_lack xs) (lasts_from write.came write.aw.len))

-- how many writes of an ID are left where one is closed
pub writes_left : (id : ℕ) (writes : List OpenWrite) (write : OpenWrite) → find (write_of_id id) writes ≡ Some write
    → 1 + length (filter (write_of_id id) (without_first (write_of_id id) writes)) ≡ length (filter (write_of_id id) writes)
writes_left id [] write found = absurd (cc)
writes_left id (x ∷ xs) write found = grind (arith, writes_left id xs write)

pub writes_left-other : (id other : ℕ) (writes : List OpenWrite) → (other ≡ id → ⊥) → length (filter (write_of_id id) (without_first (write_of_id other) writes)) ≡ length (filter (write_of_id id) writes)
writes_left-other id other [] apart = refl
writes_left-other id other (x ∷ xs) apart = grind (arith, nat_tests, apart, writes_left-other id other xs apart)
