-- What the formats `{:02x}`, `{:08x}` and `{:016x}` write is a number in so many hexadecimal digits.
use Rattle.std.proofs.Common.{◌≡◌, ℕ, ◌-◌, ◌^◌, false, List, []}
use Rattle.std.proofs.Math.Nat.{sub-zero}
use Rattle.std.proofs.lemmas.List.{append-nil}
use Rattle.std.specs.Fmt.{padded_integral, format_spec, digits, char_count}
use Rattle.bus_words.specs.Text.{zeros_before, hex}

pub padded_integral-zeros : (count : ℕ) (numeral : List ℕ) → padded_integral (format_spec 32 0 4 count (2 ^ 64 - 1)) false [] numeral ≡ zeros_before count numeral
unfolding padded_integral char_count
padded_integral-zeros count numeral = simp (sub-zero, append-nil)

pub padded_integral-hex : (count number : ℕ) → padded_integral (format_spec 32 0 4 count (2 ^ 64 - 1)) false [] (digits 16 false number) ≡ hex count number
unfolding hex
padded_integral-hex count number = padded_integral-zeros count (digits 16 false number)
