-- What a transfer of a read captures, from the word of eight bytes that it lies in.
use Rattle.std.proofs.Common.{◌≡◌, ℕ, ◌+◌, ◌*◌, ◌/◌, ◌%◌, ◌^◌, ◌<◌, true, inl, inr, sym, ◌∙◌, ap, arith, lit<}
use Rattle.std.proofs.lemmas.Bool.{leb-true}
use Rattle.std.specs.Prelude.{Option, Some, None, if◌then◌else◌, option_map, unwrap_or}
use Rattle.bus_words.specs.Lanes.{has_lane, lane_byte, payload_of}
use Rattle.bus_words.proofs.LaneLaws.{word_of_lanes-lane_byte, word_of_lanes-same}
use Rattle.data_unit.specs.Words.{merged}
use Rattle.data_unit.proofs.ByteLaws.{lane_byte-down, lane_byte-past}
use Rattle.axi_beats.specs.Transfers.{covers_lane, lane_address, transfer_address}
use Rattle.axi_beats.specs.declared.ArBeat.{ArBeat}
use Rattle.axi_beats.specs.declared.Resp.{Resp}
use Rattle.subordinate.specs.Effects.{HasGoodPages}
use Rattle.subordinate.specs.Faults.{Faults, read_response, standing_at, write_response}
use Rattle.subordinate.specs.FreeMemory.{byte_in_lane, captured}
use Rattle.subordinate.specs.declared.BeatState.TheVariants.{Captured}
use Rattle.subordinate.specs.InsidePages.{IsTransferOf, first_lane}
use Rattle.subordinate.specs.Pages.{Memory, byte_at_address, word_at}
use Rattle.subordinate.proofs.PageLaws.{byte_at_address-lane}
use Rattle.subordinate.proofs.TransferWords.{bus_lane, covered_within}

-- the byte of a lane is that of a lane of the word, so many lanes further up
byte_at_lane : (bus_bytes : ℕ) (memory : Memory) (ar : ArBeat) (n lane : ℕ) (word : Option ℕ) → IsTransferOf bus_bytes ar.address ar.len ar.size n
    → word_at memory (transfer_address ar.address ar.size n) ≡ word → covers_lane bus_bytes ar.address ar.size n lane ≡ true
    → byte_at_address memory (lane_address bus_bytes ar.address ar.size n lane) ≡ option_map (λ w. lane_byte w (first_lane bus_bytes (transfer_address ar.address ar.size n) + lane)) word
byte_at_lane bus_bytes memory ar n lane word is found covered =
    ap (byte_at_address memory) (bus_lane bus_bytes (transfer_address ar.address ar.size n) lane is.width)
    ∙ byte_at_address-lane memory (transfer_address ar.address ar.size n) (first_lane bus_bytes (transfer_address ar.address ar.size n) + lane)
    (covered_within bus_bytes ar.address ar.len ar.size n lane is covered)
    ∙ ap (option_map (λ w. lane_byte w (first_lane bus_bytes (transfer_address ar.address ar.size n) + lane))) found

-- the covered lanes of the word, moved down to the bus's, are what is captured
pub payload_of-read : (bus_bytes : ℕ) (memory : Memory) (ar : ArBeat) (n word lanes : ℕ) → IsTransferOf bus_bytes ar.address ar.len ar.size n
    → word_at memory (transfer_address ar.address ar.size n) ≡ Some word → ((lane : ℕ) → lane < 8 → has_lane lanes lane ≡ covers_lane bus_bytes ar.address ar.size n lane)
    → merged 0 (word / 2 ^ (8 * first_lane bus_bytes (transfer_address ar.address ar.size n))) lanes ≡ payload_of (byte_in_lane bus_bytes memory ar n)
payload_of-read bus_bytes memory ar n word lanes is found between = word_of_lanes-same _ _ at
  where
    at : (lane : ℕ) → lane < 8
        → (if has_lane lanes lane then lane_byte (word / 2 ^ (8 * first_lane bus_bytes (transfer_address ar.address ar.size n))) lane else lane_byte 0 lane)
        ≡ unwrap_or (byte_in_lane bus_bytes memory ar n lane) 0
    at lane below =
        grind (
          arith,
          between lane below,
          lane_byte-down word (first_lane bus_bytes (transfer_address ar.address ar.size n)) lane,
          lane_byte-past 0 0 lane (lit< tt) (omega arith),
          byte_at_lane bus_bytes memory ar n lane (Some word) is found,
        )

-- so what is captured is the word
pub payload_of-whole : (bus_bytes : ℕ) (memory : Memory) (ar : ArBeat) (n word : ℕ) → IsTransferOf bus_bytes ar.address ar.len ar.size n → ar.size ≡ 3 → transfer_address ar.address ar.size n % 8 ≡ 0 → word < 2 ^ 64
    → word_at memory (transfer_address ar.address ar.size n) ≡ Some word → word ≡ payload_of (byte_in_lane bus_bytes memory ar n)
payload_of-whole bus_bytes memory ar n word is whole aligned small found = sym (word_of_lanes-lane_byte word small) ∙ word_of_lanes-same (lane_byte word) _ at
  where
    eight : bus_bytes ≡ 8
    eight = elim is.width [ inl narrow ↦ absurd (omega (arith, narrow, leb-true 8 bus_bytes (rw whole at is.fits))) | inr wide ↦ wide ]

    at : (lane : ℕ) → lane < 8 → lane_byte word lane ≡ unwrap_or (byte_in_lane bus_bytes memory ar n lane) 0
    at lane below = grind (arith, below)

-- ---- its response

-- elsewhere the page does
pub read_response-absent : (faults : Faults) (memory : Memory) (address : ℕ) → HasGoodPages faults memory → word_at memory address ≡ None → write_response (standing_at faults address) ≡ read_response faults address
read_response-absent faults memory address pages missing = grind (arith, pages, missing)

-- ---- what is captured

-- outside good pages nothing is captured
pub payload_of-absent : (bus_bytes : ℕ) (memory : Memory) (ar : ArBeat) (n : ℕ) → IsTransferOf bus_bytes ar.address ar.len ar.size n
    → word_at memory (transfer_address ar.address ar.size n) ≡ None → payload_of (byte_in_lane bus_bytes memory ar n) ≡ 0
payload_of-absent bus_bytes memory ar n is missing = word_of_lanes-same _ (λ lane. 0) at
  where
    at : (lane : ℕ) → lane < 8 → unwrap_or (byte_in_lane bus_bytes memory ar n lane) 0 ≡ 0
    at lane below = grind (arith, byte_at_lane bus_bytes memory ar n lane None is missing)

pub captured-absent : (bus_bytes : ℕ) (faults : Faults) (memory : Memory) (ar : ArBeat) (n address : ℕ) (resp : Resp) (word : Option ℕ) → IsTransferOf bus_bytes ar.address ar.len ar.size n
    → address ≡ transfer_address ar.address ar.size n → resp ≡ read_response faults address → word ≡ word_at memory address → word ≡ None → Captured 0 resp ≡ captured bus_bytes faults memory ar n
captured-absent bus_bytes faults memory ar n address resp word is here answers found missing =
    grind (arith, is, here, answers, found, missing, payload_of-absent bus_bytes memory ar n is (ap (word_at memory) (sym here) ∙ sym found ∙ missing))
