-- The lines of AXI beats in a trace: decimal numbers, and addresses, payloads and strobes in hexadecimal of fixed length.
use Rattle.std.specs.Prelude.{List, [], ◌∷◌, ℕ, decimal, codes}
use Rattle.bus_words.specs.Text.{hex, flag, line}
use Rattle.axi_beats.specs.declared.Resp.{Resp}
use Rattle.axi_beats.specs.declared.Resp.TheVariants.{Okay, ExOkay, SlvErr, DecErr}
use Rattle.axi_beats.specs.declared.AwBeat.{AwBeat}
use Rattle.axi_beats.specs.declared.ArBeat.{ArBeat}
use Rattle.axi_beats.specs.declared.WBeat.{WBeat}
use Rattle.axi_beats.specs.declared.BBeat.{BBeat}
use Rattle.axi_beats.specs.declared.RBeat.{RBeat}

-- a response's name
abbrev pub resp_text : Resp → List ℕ
resp_text Okay = codes "OKAY"
resp_text ExOkay = codes "EXOKAY"
resp_text SlvErr = codes "SLVERR"
resp_text DecErr = codes "DECERR"

-- AW ID ADDRESS LEN SIZE BURST
abbrev pub aw_text : AwBeat → List ℕ
aw_text beat =
    line (codes "AW" ∷ decimal beat.id ∷ hex 8 beat.address ∷ decimal beat.len ∷ decimal beat.size ∷ decimal beat.burst ∷ [])

-- AR ID ADDRESS LEN SIZE BURST
abbrev pub ar_text : ArBeat → List ℕ
ar_text beat =
    line (codes "AR" ∷ decimal beat.id ∷ hex 8 beat.address ∷ decimal beat.len ∷ decimal beat.size ∷ decimal beat.burst ∷ [])

-- W PAYLOAD STROBES LAST
abbrev pub w_text : WBeat → List ℕ
w_text beat = line (codes "W" ∷ hex 16 beat.payload ∷ hex 2 beat.strobes ∷ flag beat.last ∷ [])

-- B ID RESP
abbrev pub b_text : BBeat → List ℕ
b_text beat = line (codes "B" ∷ decimal beat.id ∷ resp_text beat.resp ∷ [])

-- R ID PAYLOAD RESP LAST
abbrev pub r_text : RBeat → List ℕ
r_text beat = line (codes "R" ∷ decimal beat.id ∷ hex 16 beat.payload ∷ resp_text beat.resp ∷ flag beat.last ∷ [])
