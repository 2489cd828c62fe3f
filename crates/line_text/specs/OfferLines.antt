-- The line of a beat that a client offers (this project's profile).
use Rattle.std.specs.Prelude.{ℕ, List, [], ◌∷◌, Result}
use Rattle.tl_messages.specs.declared.ABeat.{ABeat}
use Rattle.line_text.specs.Fields.{Field, read_as, byte_field, address_field, flag_field, is_set}
use Rattle.line_text.specs.Words.{is_hex_to, word_at, dec_at, hex_at}

-- the beat of an `a` line: a CLIENT OPCODE PARAM SIZE SOURCE ADDRESS MASK PAYLOAD CORRUPT
abbrev pub offer_fields : List Field
offer_fields =
    byte_field ∷ byte_field ∷ byte_field ∷ byte_field ∷ byte_field ∷ address_field ∷ is_hex_to 255 ∷ is_hex_to 18446744073709551615 ∷ flag_field ∷ []

abbrev pub beat_in : List (List ℕ) → ABeat
beat_in words =
    record {
      opcode = dec_at words 3;
      param = dec_at words 4;
      size = dec_at words 5;
      source = dec_at words 6;
      address = hex_at words 7;
      mask = hex_at words 8;
      payload = hex_at words 9;
      corrupt = is_set (word_at words 10);
    }

-- the client and its beat, or the first wrong word
abbrev pub offer_line : List (List ℕ) → Result (ℕ × ABeat) ℕ
offer_line words = read_as offer_fields words (dec_at words 2, beat_in words)
