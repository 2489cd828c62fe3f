-- The rules' numbers and names, as they are told to a user.
use Rattle.std.specs.Prelude.{ℕ, List, codes}
use Rattle.tl_checker.specs.declared.TlRule.{TlRule}
use Rattle.tl_checker.specs.declared.TlRule.TheVariants.{Opcode, Level, Size, AtomicSize, Align, Param, Mask, Corrupt, SourceBusy, BurstControl, DOpcode, DSize, DSource, DBeats, DDenied, DCorrupt}

-- the number of a rule
abbrev pub number_of : TlRule → ℕ
number_of Opcode = 1
number_of Level = 2
number_of Size = 3
number_of AtomicSize = 4
number_of Align = 5
number_of Param = 6
number_of Mask = 7
number_of Corrupt = 8
number_of SourceBusy = 9
number_of BurstControl = 10
number_of DOpcode = 11
number_of DSize = 12
number_of DSource = 13
number_of DBeats = 14
number_of DDenied = 15
number_of DCorrupt = 16

-- the name of a rule
abbrev pub name_of : TlRule → List ℕ
name_of Opcode = codes "OPCODE"
name_of Level = codes "LEVEL"
name_of Size = codes "SIZE"
name_of AtomicSize = codes "ATOMIC_SIZE"
name_of Align = codes "ALIGN"
name_of Param = codes "PARAM"
name_of Mask = codes "MASK"
name_of Corrupt = codes "CORRUPT"
name_of SourceBusy = codes "SOURCE_BUSY"
name_of BurstControl = codes "BURST_CONTROL"
name_of DOpcode = codes "D_OPCODE"
name_of DSize = codes "D_SIZE"
name_of DSource = codes "D_SOURCE"
name_of DBeats = codes "D_BEATS"
name_of DDenied = codes "D_DENIED"
name_of DCorrupt = codes "D_CORRUPT"
