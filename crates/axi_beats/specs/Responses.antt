-- Tests on responses (AXI4, A3.4.4, read and write response structure).
use Rattle.std.specs.Prelude.{Bool, true, false}
use Rattle.axi_beats.specs.declared.Resp.{Resp}
use Rattle.axi_beats.specs.declared.Resp.TheVariants.{Okay, ExOkay, SlvErr, DecErr}

abbrev pub is_okay : Resp → Bool
is_okay Okay = true
is_okay ExOkay = false
is_okay SlvErr = false
is_okay DecErr = false

-- whether a response is EXOKAY, which only an exclusive access brings
abbrev pub is_exokay : Resp → Bool
is_exokay Okay = false
is_exokay ExOkay = true
is_exokay SlvErr = false
is_exokay DecErr = false

abbrev pub is_slverr : Resp → Bool
is_slverr Okay = false
is_slverr ExOkay = false
is_slverr SlvErr = true
is_slverr DecErr = false

abbrev pub is_decerr : Resp → Bool
is_decerr Okay = false
is_decerr ExOkay = false
is_decerr SlvErr = false
is_decerr DecErr = true
