-- The beats of a reply, word by word, as they are made.
use Rattle.std.specs.Prelude.{ℕ, ◌+◌, ◌-◌, ◌^◌, ◌==◌, min, Bool, true, false, Option, Some, None, if◌then◌else◌, slice_index_or}
use Rattle.bus_words.specs.Lanes.{is_between, mask_of}
use Rattle.tl_messages.specs.Lanes.{lane_of}
use Rattle.tl_messages.specs.Operations.{reply_opcode}
use Rattle.tl_messages.specs.declared.DBeat.{DBeat}
use Rattle.data_unit.specs.Words.{merged}
use Rattle.responses.specs.Gathered.{Gathering}
use Rattle.responses.specs.declared.gather.Outline.{Outline}

-- a beat that shows no data
abbrev pub bare_beat : Outline → Bool → Bool → DBeat
bare_beat outline denied corrupt =
    record { opcode = reply_opcode outline.operation; param = 0; size = outline.size; source = outline.source; denied = denied; payload = 0; corrupt = corrupt }

-- the beat of a word, of which these lanes are shown
abbrev pub word_beat : Outline → Bool → ℕ → Option ℕ → DBeat
word_beat outline denied lanes None = bare_beat outline denied true
word_beat outline denied lanes (Some word) = if denied then bare_beat outline denied true else record (bare_beat outline denied false) { payload = merged 0 word lanes }

-- the lanes of a range in word k of it: in the first those from the address on, up to the range's last; in each further one all
abbrev pub word_lanes : Outline → ℕ → ℕ
word_lanes outline k =
    if k == 0 then mask_of (is_between (lane_of outline.address) (min (lane_of outline.address + 2 ^ outline.size - 1) 7)) else 255

-- the beat of word k of those that were gathered
abbrev pub word_beat_at : Outline → Gathering → ℕ → DBeat
word_beat_at outline gathering k = word_beat outline gathering.denied (word_lanes outline k) (slice_index_or gathering.words k None)
