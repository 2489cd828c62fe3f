-- How a call ends whose script never asks for memory in mid-run.
use Rattle.std.proofs.Common.{inl, inr, ℕ, List, false, Option, Result, rules}
use Rattle.script_text.specs.Scripts.{EndsAs, EndsOrStops, Reading, text_before_failure, text_of}
use Rattle.script_text.specs.declared.faults.ScriptFault.{ScriptFault}

-- it doesn't stop so
pub EndsAs-fixed : {S A : Type 0} (reading : Reading S A) (start : S) (input rest old new : Option (List ℕ)) (result : Result A ScriptFault) → EndsOrStops false reading start input rest old new result
    → EndsAs reading.most_lines (text_of reading start) (text_before_failure reading start) input rest old new result
EndsAs-fixed reading start input rest old new result (inl ends) = ends
EndsAs-fixed reading start input rest old new result (inr (grows, told, stops)) = search rules
