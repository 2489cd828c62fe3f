-- fill ADDRESS BYTE ..: what the memory began with, from an address on (this project's profile).
use Rattle.std.specs.Prelude.{ℕ, zero, suc, ◌-◌, ◌&&◌, List, [], ◌∷◌, length, map, max, min, nat_le, Result}
use Rattle.std.specs.List.{range_with_len}
use Rattle.line_text.specs.Fields.{Field, address_field, read_as}
use Rattle.line_text.specs.Words.{hex_at, is_hex_to}
use Rattle.score_script.specs.declared.score.Command.{Command}
use Rattle.score_script.specs.declared.score.Command.TheVariants.{Fill}

-- a byte: one or two hexadecimal digits
abbrev pub fill_byte_field : Field
fill_byte_field word = nat_le (length word) 2 && is_hex_to 255 word

-- so many of them
abbrev pub fill_byte_fields : ℕ → List Field
fill_byte_fields zero = []
fill_byte_fields (suc count) = fill_byte_field ∷ fill_byte_fields count

-- how many bytes a line has: as many as there are words behind its address, 1 to 32
abbrev pub fill_count : List (List ℕ) → ℕ
fill_count words = max 1 (min 32 (length words - 2))

-- so many bytes of a line
abbrev pub fill_bytes_in : List (List ℕ) → ℕ → List ℕ
fill_bytes_in words count = map (λ n. hex_at words n) (range_with_len 3 count)

-- the bytes from an address on, or the first wrong word
abbrev pub fill_line : List (List ℕ) → Result Command ℕ
fill_line words = read_as (address_field ∷ fill_byte_fields (fill_count words)) words (Fill (hex_at words 2) (fill_bytes_in words (fill_count words)))
