-- waited PORT CLOCKS: for how many clocks the next beat of a port stood before it was taken (this project's profile).
use Rattle.std.specs.Prelude.{ℕ, ◌-◌, ◌^◌, ◌==◌, Bool, false, ◌&&◌, ◌||◌, List, [], ◌∷◌, Result, codes, nat_le}
use Rattle.std.specs.Str.{bytes_eq}
use Rattle.line_text.specs.Fields.{Field, read_as}
use Rattle.line_text.specs.Words.{is_dec_to, word_at}
use Rattle.score_script.specs.declared.score.Command.{Command}
use Rattle.score_script.specs.declared.score.Command.TheVariants.{Waited}

-- the number of a client: there are at most eight
abbrev pub is_client_digit : ℕ → Bool
is_client_digit digit = nat_le 48 digit && nat_le digit 55

-- channel A or D of a client: `A0` to `A7`, `D0` to `D7`
abbrev pub client_port_field : Field
client_port_field (channel ∷ client ∷ []) = (channel == 65 || channel == 68) && is_client_digit client
client_port_field _ = false

-- a channel of the AXI4 port
abbrev pub axi_port_field : Field
axi_port_field word =
    bytes_eq word (codes "AW")
    || (bytes_eq word (codes "W") || (bytes_eq word (codes "B") || (bytes_eq word (codes "AR") || bytes_eq word (codes "R"))))

-- a port's name
abbrev pub port_field : Field
port_field word = client_port_field word || axi_port_field word

-- whether a line is one
abbrev pub is_wait : List (List ℕ) → Bool
is_wait words = bytes_eq (word_at words 1) (codes "waited")

-- nothing but that it stands, or the first wrong word
abbrev pub waited_line : List (List ℕ) → Result Command ℕ
waited_line words = read_as (port_field ∷ is_dec_to (2 ^ 64 - 1) ∷ []) words Waited
