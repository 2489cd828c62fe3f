-- The numbers and names of the rules (this project's profile).
use Rattle.std.specs.Prelude.{ℕ, List, codes}
use Rattle.axi_checker.specs.declared.AxiRule.{AxiRule}
use Rattle.axi_checker.specs.declared.AxiRule.TheVariants.{Size, BurstKind, Cross4K, IdRange, Depth, WWithoutAw, Strobe, WLast, BWithoutWrite, RWithoutRead, RLast, ExOkay}

abbrev pub rule_number : AxiRule → ℕ
rule_number Size = 1
rule_number BurstKind = 2
rule_number Cross4K = 3
rule_number IdRange = 4
rule_number Depth = 5
rule_number WWithoutAw = 6
rule_number Strobe = 7
rule_number WLast = 8
rule_number BWithoutWrite = 9
rule_number RWithoutRead = 10
rule_number RLast = 11
rule_number ExOkay = 12

abbrev pub rule_name : AxiRule → List ℕ
rule_name Size = codes "SIZE"
rule_name BurstKind = codes "BURST_KIND"
rule_name Cross4K = codes "CROSS_4K"
rule_name IdRange = codes "ID_RANGE"
rule_name Depth = codes "DEPTH"
rule_name WWithoutAw = codes "W_WITHOUT_AW"
rule_name Strobe = codes "STROBE"
rule_name WLast = codes "WLAST"
rule_name BWithoutWrite = codes "B_WITHOUT_WRITE"
rule_name RWithoutRead = codes "R_WITHOUT_READ"
rule_name RLast = codes "RLAST"
rule_name ExOkay = codes "EXOKAY"
