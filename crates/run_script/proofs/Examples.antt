-- Worked scripts, by the definitions alone.
use Rattle.std.specs.Prelude.{◌≡◌, Bool, false, List, [], ◌∷◌, ◌++◌, ℕ, Ok, Err, refl, codes, flat_map, replicate}
use Rattle.setups.specs.declared.SetupFault.TheVariants.{BadConfig, Map, Device}
use Rattle.burst_plan.specs.declared.MapFault.TheVariants.{RegionOverlap}
use Rattle.subordinate.specs.declared.DeviceFault.TheVariants.{BadWord}
use Rattle.script_text.specs.Stages.{Opening}
use Rattle.run_script.specs.Run.{run_reading}
use Rattle.script_text.specs.Scripts.{TextResult, text_of}
use Rattle.script_text.specs.declared.faults.ScriptFault.TheVariants.{Script, Setup}

abbrev run_result : List ℕ → TextResult Bool
run_result input = text_of run_reading Opening input

-- lines, each with its line feed
abbrev text : List (List ℕ) → List ℕ
text lines = flat_map (λ line. line ++ 10 ∷ []) lines

abbrev set_up : List (List ℕ)
set_up = codes "config 2 4 16 2 16 12 hh" ∷ codes "region 0 4 10 gpah" ∷ codes "page 10 4 good" ∷ []

-- a digit that isn't one
bad_mask : run_result (text (set_up ++ codes "a 0 0 0 3 5 8 zz 0 0" ∷ [])) ≡ record { output = []; result = Err (Script 4 8) }
bad_mask = refl

-- empty input, a lone config, and one out of its limits
ends : run_result [] ∷ run_result (codes "config 1 1 1 1 1 12 h") ∷ run_result (codes "config 1 1 1 1 3 12 h") ∷ []
    ≡ record { output = []; result = Err (Script 1 1) } ∷ record { output = []; result = Ok false } ∷ record { output = []; result = Err (Setup BadConfig) } ∷ []
ends = refl

-- a line of 129 bytes, one of 128 with CR and LF, and a byte out of the range
long_lines : (run_result (replicate 129 32)).result ∷ (run_result (replicate 128 32 ++ 13 ∷ 10 ∷ [])).result ∷ (run_result (0x7f ∷ [])).result ∷ []
    ≡ Err (Script 1 0) ∷ Err (Script 2 1) ∷ Err (Script 1 0) ∷ []
long_lines = refl

-- one line too many
too_many_lines : (run_result (codes "config 1 1 1 1 1 12 h" ++ 10 ∷ replicate 65536 10)).result ≡ Err (Script 65537 0)
too_many_lines = refl

-- the bus: a ninth word that is no number or a width, a tenth word, and a width that `max_len` doesn't allow
bus : run_result (codes "config 1 1 1 1 1 12 h x") ∷ run_result (codes "config 1 1 1 1 1 12 h 256") ∷ run_result (codes "config 1 1 1 1 1 12 h 8 8") ∷ run_result (codes "config 1 1 1 1 1 12 h 4") ∷ run_result (codes "config 1 1 1 1 2 12 h 4") ∷ []
    ≡ record { output = []; result = Err (Script 1 9) } ∷ record { output = []; result = Err (Script 1 9) } ∷ record { output = []; result = Err (Script 1 10) }
    ∷ record { output = []; result = Err (Setup BadConfig) } ∷ record { output = []; result = Ok false } ∷ []
bus = refl

-- a bad word of a page that answers with an error, regions that overlap, and a second field of `bad`
lists : (run_result (text (set_up ++ codes "page 20 1 slverr" ∷ codes "bad 10008" ∷ codes "bad 20000" ∷ []))).result ∷ (run_result (text (set_up ++ codes "region 3 1 20 g---" ∷ []))).result
    ∷ (run_result (text (set_up ++ codes "bad 10008 8" ∷ []))).result ∷ []
    ≡ Err (Setup (Device (BadWord 1))) ∷ Err (Setup (Map (RegionOverlap 1))) ∷ Err (Script 4 3) ∷ []
lists = refl
