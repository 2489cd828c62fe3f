-- A box holds nothing or one burst: it is an optional burst. These words read and change one.
use Rattle.std.specs.Prelude.{List, [], ◌∷◌, ◌++◌, Option, Some, None}
use Rattle.axi_beats.specs.Bursts.{Burst, WriteBurst, ReadBurst}
use Rattle.axi_beats.specs.declared.AwBeat.{AwBeat}
use Rattle.axi_beats.specs.declared.ArBeat.{ArBeat}
use Rattle.axi_beats.specs.declared.WBeat.{WBeat}
use Rattle.axi_beats.specs.declared.burst_box.Head.{Head}
use Rattle.axi_beats.specs.declared.burst_box.Head.TheVariants.{Empty, Write, Read}

-- the address beat of a write
abbrev pub aw_of : Option Burst → Option AwBeat
aw_of None = None
aw_of (Some (WriteBurst aw data_beats)) = Some aw
aw_of (Some (ReadBurst ar)) = None

-- the address beat of a read
abbrev pub ar_of : Option Burst → Option ArBeat
ar_of None = None
ar_of (Some (WriteBurst aw data_beats)) = None
ar_of (Some (ReadBurst ar)) = Some ar

-- the W beats of a write; of nothing and of a read there are none
abbrev pub w_beats_of : Option Burst → List WBeat
w_beats_of None = []
w_beats_of (Some (WriteBurst aw data_beats)) = data_beats
w_beats_of (Some (ReadBurst ar)) = []

-- a write with one more W beat; nothing and a read stay as they are
abbrev pub with_w_beat : WBeat → Option Burst → Option Burst
with_w_beat beat None = None
with_w_beat beat (Some (WriteBurst aw data_beats)) = Some (WriteBurst aw (data_beats ++ beat ∷ []))
with_w_beat beat (Some (ReadBurst ar)) = Some (ReadBurst ar)

-- the burst that a box's head and W beats make
abbrev pub burst_held : Head → List WBeat → Option Burst
burst_held Empty data_beats = None
burst_held (Write aw) data_beats = Some (WriteBurst aw data_beats)
burst_held (Read ar) data_beats = Some (ReadBurst ar)
