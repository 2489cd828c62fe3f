-- A history that breaks no rule is in order.
use Rattle.std.proofs.Common.{◌≡◌, ℕ, ◌+◌, ◌==◌, Bool, true, false, List, [], ◌∷◌, ◌++◌, length, refl, ap, sym, ◌∙◌, arith, append_assoc, inl, inr, subst}
use Rattle.std.specs.Prelude.{None, Option, Some, filter, flat_map, if◌then◌else◌, is_some}
use Rattle.std.proofs.lemmas.Bool.{cases_eq, eq-eqb, ne_eqb, not-true}
use Rattle.std.proofs.lemmas.Bool.Decides.{nat_tests}
use Rattle.std.proofs.lemmas.List.{append-nil, length-append}
use Rattle.std.proofs.lemmas.List.Elements.{filter-append}
use Rattle.bus_words.specs.Tables.{first_broken}
use Rattle.bus_words.proofs.PlaceChanges.{all-find, length-filter-change_first}
use Rattle.axi_beats.specs.declared.WBeat.{WBeat}
use Rattle.axi_beats.specs.declared.BBeat.{BBeat}
use Rattle.axi_beats.specs.declared.RBeat.{RBeat}
use Rattle.axi_checker.specs.Monitors.{IsSoundRead, IsWithinLimits}
use Rattle.axi_checker.specs.OpenBursts.{OpenBursts, OpenRead, OpenWrite, lacks_data, nothing_open, oldest_read, oldest_write, open_after, read_of_id, reads_after, write_of_id, write_to_fill}
use Rattle.axi_checker.specs.declared.AxiBeat.{AxiBeat}
use Rattle.axi_checker.specs.declared.AxiBeat.TheVariants.{Ar as OnAr, Aw as OnAw, B as OnB, R as OnR, W as OnW}
use Rattle.axi_checker.specs.Order.{IsInOrder, closes_write, data_announced, data_given, opens_write, read_given, reads_asked, reads_owe, writes_lack}
use Rattle.axi_checker.specs.Rules.{AxiPortLimits, awaits_response, axi_fault, data_rules, first_axi_fault, open_after_all, right_last}
use Rattle.axi_checker.proofs.Judging.{first_axi_fault-none, one_beat_more}
use Rattle.axi_checker.proofs.Lasts.{reads_owe-append, reads_owe-other, reads_owe-reads_after, writes_lack-append, writes_lack-change_first, writes_lack-without_first, writes_left, writes_left-other}
use Rattle.axi_checker.proofs.LegalBursts.{head_unbroken}
use Rattle.axi_checker.proofs.WithinLimits.{within-open_after}

-- what an accepted W, B or R beat finds
pub record FindsWrite (open_bursts : OpenBursts) (w : WBeat) : Type 0 where
  pub write : OpenWrite
  pub found : write_to_fill open_bursts ≡ Some write
  pub last : w.last ≡ (write.came == write.aw.len)

pub record FindsResponse (open_bursts : OpenBursts) (b : BBeat) : Type 0 where
  pub write : OpenWrite
  pub found : oldest_write b.id open_bursts ≡ Some write
  pub full : lacks_data write ≡ false

pub record FindsRead (open_bursts : OpenBursts) (r : RBeat) : Type 0 where
  pub read : OpenRead
  pub found : oldest_read r.id open_bursts ≡ Some read
  pub last : r.last ≡ (read.came == read.ar.len)

pub finds_write : (port : AxiPortLimits) (open_bursts : OpenBursts) (w : WBeat) → axi_fault port open_bursts (OnW w) ≡ None → FindsWrite open_bursts w
finds_write port open_bursts w none = by_found (write_to_fill open_bursts) refl none
  where
    by_found : (found : Option OpenWrite) → write_to_fill open_bursts ≡ found → first_broken (data_rules port found w) ≡ None → FindsWrite open_bursts w
    by_found None is fine = absurd (cc (fine))
    by_found (Some write) is fine = record { write = write; found = is; last = grind (arith, fine) }

pub finds_response : (port : AxiPortLimits) (open_bursts : OpenBursts) (b : BBeat) → axi_fault port open_bursts (OnB b) ≡ None → FindsResponse open_bursts b
finds_response port open_bursts b none =
    let awaits : awaits_response (oldest_write b.id open_bursts) ≡ true = grind (arith, none) in
    by_found (oldest_write b.id open_bursts) refl awaits
  where
    by_found : (found : Option OpenWrite) → oldest_write b.id open_bursts ≡ found → awaits_response found ≡ true → FindsResponse open_bursts b
    by_found None is awaits = absurd (cc (awaits))
    by_found (Some write) is awaits = record { write = write; found = is; full = not-true (lacks_data write) awaits }

pub finds_read : (port : AxiPortLimits) (open_bursts : OpenBursts) (r : RBeat) → axi_fault port open_bursts (OnR r) ≡ None → FindsRead open_bursts r
finds_read port open_bursts r none =
    let there : is_some (oldest_read r.id open_bursts) ≡ true = grind (arith, none) in
    let last : right_last (oldest_read r.id open_bursts) r.last ≡ true = grind (arith, none) in
    by_found (oldest_read r.id open_bursts) refl there last
  where
    by_found : (found : Option OpenRead) → oldest_read r.id open_bursts ≡ found → is_some found ≡ true → right_last found r.last ≡ true → FindsRead open_bursts r
    by_found None is there last = absurd (cc (there))
    by_found (Some read) is there last = record { read = read; found = is; last = grind (arith, last) }

-- one accepted beat: what it brings and what is owed after it is what was owed before it and what it asks for
pub reads_step : (port : AxiPortLimits) (open_bursts : OpenBursts) (beat : AxiBeat) (id : ℕ) → axi_fault port open_bursts beat ≡ None → IsWithinLimits port open_bursts
    → read_given id beat ++ reads_owe id (open_after open_bursts beat).reads ≡ reads_owe id open_bursts.reads ++ reads_asked id beat
reads_step port open_bursts (OnAw aw) id none within = sym (append-nil (reads_owe id open_bursts.reads))
reads_step port open_bursts (OnW w) id none within = sym (append-nil (reads_owe id open_bursts.reads))
reads_step port open_bursts (OnB b) id none within = sym (append-nil (reads_owe id open_bursts.reads))
reads_step port open_bursts (OnAr ar) id none within = reads_owe-append id open_bursts.reads (record { ar = ar; came = 0 })
reads_step port open_bursts (OnR r) id none within =
    let finds = finds_read port open_bursts r none in
    elim (cases_eq r.id id) [
      | inl same ↦
          let sound = all-find (IsSoundRead port.bus_bytes) (read_of_id r.id) open_bursts.reads finds.read within.sound_reads finds.found in
          let owed = ap (λ (flag : Bool). flag ∷ reads_owe r.id (reads_after r.id open_bursts.reads)) finds.last ∙ reads_owe-reads_after r.id open_bursts.reads finds.read finds.found sound.came in
          rw (eq-eqb r.id id same, append-nil) (subst (λ k. r.last ∷ reads_owe k (reads_after r.id open_bursts.reads) ≡ reads_owe k open_bursts.reads) same owed)
      | inr other ↦ rw (ne_eqb r.id id other, append-nil) (reads_owe-other id r.id open_bursts.reads other)
    ]

pub data_step : (port : AxiPortLimits) (open_bursts : OpenBursts) (beat : AxiBeat) → axi_fault port open_bursts beat ≡ None
    → data_given beat ++ writes_lack (open_after open_bursts beat).writes ≡ writes_lack open_bursts.writes ++ data_announced beat
data_step port open_bursts (OnAw aw) none = writes_lack-append open_bursts.writes (record { aw = aw; came = 0 })
data_step port open_bursts (OnW w) none =
    let finds = finds_write port open_bursts w none in
    rw (finds.last, append-nil) (writes_lack-change_first open_bursts.writes finds.write finds.found)
data_step port open_bursts (OnB b) none =
    let finds = finds_response port open_bursts b none in
    rw append-nil (writes_lack-without_first (write_of_id b.id) open_bursts.writes finds.write finds.found finds.full)
data_step port open_bursts (OnAr ar) none = sym (append-nil (writes_lack open_bursts.writes))
data_step port open_bursts (OnR r) none = sym (append-nil (writes_lack open_bursts.writes))

-- whether a beat is counted
one_if : Bool → ℕ
one_if b = if b then 1 else 0

responses_step : (port : AxiPortLimits) (open_bursts : OpenBursts) (beat : AxiBeat) (id : ℕ) → axi_fault port open_bursts beat ≡ None
    → one_if (closes_write id beat) + length (filter (write_of_id id) (open_after open_bursts beat).writes) ≡ length (filter (write_of_id id) open_bursts.writes) + one_if (opens_write id beat)
unfolding one_if
responses_step port open_bursts (OnAw aw) id none =
    let write : OpenWrite = record { aw = aw; came = 0 } in
    rw (filter-append (write_of_id id) open_bursts.writes (write ∷ []), length-append (filter (write_of_id id) open_bursts.writes) (filter (write_of_id id) (write ∷ [])))
    (grind arith)
responses_step port open_bursts (OnW w) id none =
    omega (arith, length-filter-change_first (write_of_id id) lacks_data one_beat_more open_bursts.writes (λ write. refl))
responses_step port open_bursts (OnB b) id none =
    let finds = finds_response port open_bursts b none in
    grind (arith, nat_tests, writes_left b.id open_bursts.writes finds.write finds.found, writes_left-other id b.id open_bursts.writes)
responses_step port open_bursts (OnAr ar) id none = omega arith
responses_step port open_bursts (OnR r) id none = omega arith

-- a history that breaks no rule from some open bursts on
tail_unbroken : (port : AxiPortLimits) (open_bursts : OpenBursts) (beat : AxiBeat) (beats : List AxiBeat) → first_axi_fault port open_bursts (beat ∷ beats) ≡ None
    → first_axi_fault port (open_after open_bursts beat) beats ≡ None
tail_unbroken port open_bursts beat beats none = sym (first_axi_fault-none port open_bursts beat beats (head_unbroken port open_bursts beat beats none)) ∙ none

-- it leaves the open bursts within the limits
pub within-open_after_all : (port : AxiPortLimits) (open_bursts : OpenBursts) (beats : List AxiBeat) → first_axi_fault port open_bursts beats ≡ None → IsWithinLimits port open_bursts
    → IsWithinLimits port (open_after_all open_bursts beats)
within-open_after_all port open_bursts [] none within = within
within-open_after_all port open_bursts (beat ∷ beats) none within =
    within-open_after_all port (open_after open_bursts beat) beats (tail_unbroken port open_bursts beat beats none)
    (within-open_after port open_bursts beat (head_unbroken port open_bursts beat beats none) within)

-- two steps of a list, one after the other
joined : (a rest given before asked more left : List Bool) → a ++ rest ≡ before ++ asked → given ++ left ≡ rest ++ more → (a ++ given) ++ left ≡ before ++ (asked ++ more)
joined a rest given before asked more left first later =
    append_assoc a given left ∙ ap (λ (xs : List Bool). a ++ xs) later ∙ sym (append_assoc a rest more) ∙ ap (λ (xs : List Bool). xs ++ more) first ∙ append_assoc before asked more

reads_in_order : (port : AxiPortLimits) (open_bursts : OpenBursts) (beats : List AxiBeat) (id : ℕ) → first_axi_fault port open_bursts beats ≡ None → IsWithinLimits port open_bursts
    → flat_map (read_given id) beats ++ reads_owe id (open_after_all open_bursts beats).reads ≡ reads_owe id open_bursts.reads ++ flat_map (reads_asked id) beats
reads_in_order port open_bursts [] id none within = sym (append-nil (reads_owe id open_bursts.reads))
reads_in_order port open_bursts (beat ∷ beats) id none within =
    let fine = head_unbroken port open_bursts beat beats none in
    joined (read_given id beat) (reads_owe id (open_after open_bursts beat).reads) (flat_map (read_given id) beats) (reads_owe id open_bursts.reads) (reads_asked id beat) (flat_map (reads_asked id) beats)
    (reads_owe id (open_after_all open_bursts (beat ∷ beats)).reads) (reads_step port open_bursts beat id fine within)
    (reads_in_order port (open_after open_bursts beat) beats id (tail_unbroken port open_bursts beat beats none) (within-open_after port open_bursts beat fine within))

data_in_order : (port : AxiPortLimits) (open_bursts : OpenBursts) (beats : List AxiBeat) → first_axi_fault port open_bursts beats ≡ None
    → flat_map data_given beats ++ writes_lack (open_after_all open_bursts beats).writes ≡ writes_lack open_bursts.writes ++ flat_map data_announced beats
data_in_order port open_bursts [] none = sym (append-nil (writes_lack open_bursts.writes))
data_in_order port open_bursts (beat ∷ beats) none =
    joined (data_given beat) (writes_lack (open_after open_bursts beat).writes) (flat_map data_given beats) (writes_lack open_bursts.writes) (data_announced beat) (flat_map data_announced beats)
    (writes_lack (open_after_all open_bursts (beat ∷ beats)).writes) (data_step port open_bursts beat (head_unbroken port open_bursts beat beats none))
    (data_in_order port (open_after open_bursts beat) beats (tail_unbroken port open_bursts beat beats none))

count_cons : (p : AxiBeat → Bool) (beat : AxiBeat) (beats : List AxiBeat) → length (filter p (beat ∷ beats)) ≡ one_if (p beat) + length (filter p beats)
unfolding one_if
count_cons p beat beats = grind arith

responses_in_order : (port : AxiPortLimits) (open_bursts : OpenBursts) (beats : List AxiBeat) (id : ℕ) → first_axi_fault port open_bursts beats ≡ None
    → length (filter (closes_write id) beats) + length (filter (write_of_id id) (open_after_all open_bursts beats).writes) ≡ length (filter (write_of_id id) open_bursts.writes) + length (filter (opens_write id) beats)
responses_in_order port open_bursts [] id none = omega arith
responses_in_order port open_bursts (beat ∷ beats) id none =
    omega (
      arith,
      responses_step port open_bursts beat id (head_unbroken port open_bursts beat beats none),
      responses_in_order port (open_after open_bursts beat) beats id (tail_unbroken port open_bursts beat beats none),
      count_cons (closes_write id) beat beats,
      count_cons (opens_write id) beat beats,
    )

-- where nothing is outstanding, nothing passes the limits
pub within-nothing_open : (port : AxiPortLimits) → IsWithinLimits port nothing_open
within-nothing_open port =
    record {
      writes = record { known = tt; few = λ id. omega arith };
      reads = record { known = tt; few = λ id. omega arith };
      sound_writes = tt;
      sound_reads = tt;
    }

-- a history of beats from the start that breaks no rule is in order
pub unbroken_is_in_order : (port : AxiPortLimits) (history : List AxiBeat) → first_axi_fault port nothing_open history ≡ None → IsInOrder history (open_after_all nothing_open history)
unbroken_is_in_order port history none =
    record {
      reads = λ id. reads_in_order port nothing_open history id none (within-nothing_open port);
      write_data = data_in_order port nothing_open history none;
      responses = λ id. omega (arith, responses_in_order port nothing_open history id none);
    }
