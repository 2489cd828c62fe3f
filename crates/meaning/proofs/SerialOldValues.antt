-- The old value that the read of an atomic finds is that of serial execution. It knows a list of reads and the bytes that they tell; which
-- bridge or memory they passed is hidden.
use Rattle.std.proofs.Common.{◌≡◌, ℕ, ◌^◌, ◌≤◌, ◌%◌, Bool, true, false, List, [], length, Option, Some, None, if◌then◌else◌, refl, ◌∙◌, ap, arith, slice_get}
use Rattle.std.proofs.Math.Pow.{pow_pos}
use Rattle.std.proofs.lemmas.Bool.{and_from, eq-eqb, le-leb}
use Rattle.axi_beats.specs.Responses.{is_okay, is_slverr}
use Rattle.axi_beats.specs.declared.RBeat.{RBeat}
use Rattle.data_unit.specs.Words.{value}
use Rattle.responses.specs.Answers.{bytes_seen, denies, number_of, TellsOf}
use Rattle.responses.specs.Gathered.{Gathering, holds_number, is_atomic, old_value, reads_of}
use Rattle.responses.specs.declared.gather.Outline.{Outline}
use Rattle.responses.proofs.AnswerLaws.{number_seen}
use Rattle.responses.proofs.OldValues.{atomic_has_data, number_given, number_none}
use Rattle.subordinate.specs.Faults.{Faults, IsAbsent, IsGood, IsSlaveError, Standing, is_bad, read_response, read_response_on, standing_at}
use Rattle.meaning.specs.Meaning.{Bytes, bytes_at}
use Rattle.meaning.proofs.SerialReplies.{IsAnsweredAs, answers_in_order, gathering_told, good_there, granted, have_answers, inside_of, number_bytes, number_failed, page_response, reads_denied, shown_good, shown_none, slave_there, tells_good, tells_none}

-- a range at a multiple of its bytes, of which there are eight at most, is a number's
number_held : (outline : Outline) → outline.size ≤ 3 → outline.address % 2 ^ outline.size ≡ 0 → holds_number outline ≡ true
number_held outline small aligned = and_from _ _ (le-leb _ _ small) (eq-eqb _ _ aligned)

-- a denied request has none
old_denied : (outline : Outline) (gathering : Gathering) → gathering.denied ≡ true → old_value outline gathering ≡ None
old_denied outline gathering denied = rw denied (grind arith)

module _ (faults : Faults) (bus_bytes : ℕ) (outline : Outline) (address : ℕ) (m : Bytes) (reads : List RBeat) (told : IsAnsweredAs faults bus_bytes outline address m reads [])
    (atomic : is_atomic outline.operation ≡ true) (small : outline.size ≤ 3) (whole : length reads ≡ reads_of bus_bytes outline) where
  -- the number that a memory shows where all reads of an atomic came
  number_shown : (seen : ℕ → Option ℕ) → denies (answers_in_order reads []) ≡ false → ((k : ℕ) (r : RBeat) → slice_get reads k ≡ Some r → TellsOf bus_bytes outline address seen k r)
      → old_value outline (gathering_told bus_bytes outline reads []) ≡ number_of (bytes_seen seen address (2 ^ outline.size))
  number_shown seen fine tell =
      number_seen (record { bus_bytes = bus_bytes; outline = outline; gathering = gathering_told bus_bytes outline reads [] }) (old_value outline (gathering_told bus_bytes outline reads [])) told.width refl
      (answers_in_order reads []) seen address atomic (number_held outline small told.aligned) (have_answers bus_bytes outline address reads [] seen told.aligned told.same_byte whole fine tell)

  no_write : (standing : Standing) → standing_at faults address ≡ standing → (standing ≡ IsAbsent → ⊥) → denies (answers_in_order reads []) ≡ false
  no_write standing at there = granted faults bus_bytes outline address m reads [] told standing at there (λ isnt. refl)

  -- where each read fails there is none
  old_hidden : denies (answers_in_order reads []) ≡ false → ((k : ℕ) (r : RBeat) → slice_get reads k ≡ Some r → is_slverr r.resp ≡ true) → old_value outline (gathering_told bus_bytes outline reads []) ≡ None
  old_hidden fine failed =
      number_shown shown_none fine (λ k r there. tells_none bus_bytes outline address k r (inside_of faults bus_bytes outline address m reads [] told k r there).0 (failed k r there))
      ∙ number_none address (2 ^ outline.size) (pow_pos outline.size)

  -- where the page is good and the word isn't bad it is the number of the bytes that are found
  old_by : (standing : Standing) → standing_at faults address ≡ standing → (bad : Bool) → is_bad faults address ≡ bad
      → old_value outline (gathering_told bus_bytes outline reads []) ≡ (if is_okay (read_response_on standing bad) then Some (value (bytes_at m address (2 ^ outline.size))) else None)
  old_by IsGood at true is = old_hidden (no_write IsGood at good_there) (number_failed faults bus_bytes outline address m reads [] told small at is)
  old_by IsGood at false is =
      number_shown (shown_good faults m) (no_write IsGood at good_there) (tells_good faults bus_bytes outline address m reads [] told at)
      ∙ ap number_of (number_bytes faults bus_bytes outline address m reads [] told small is) ∙ number_given m address (2 ^ outline.size)
  old_by IsSlaveError at bad is = old_hidden (no_write IsSlaveError at slave_there) (λ k r there. ap is_slverr (page_response faults bus_bytes outline address m reads [] told IsSlaveError at k r there))
  old_by IsAbsent at bad is =
      old_denied outline (gathering_told bus_bytes outline reads []) (reads_denied faults bus_bytes outline address m reads [] told at (atomic_has_data outline.operation atomic) whole)

  -- the old value of an atomic whose reads all came: the number that it finds, where its range can be read
  pub old_value_at : old_value outline (gathering_told bus_bytes outline reads []) ≡ (if is_okay (read_response faults address) then Some (value (bytes_at m address (2 ^ outline.size))) else None)
  old_value_at = old_by (standing_at faults address) refl (is_bad faults address) refl
