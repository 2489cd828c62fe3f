-- The lines of a trace that aren't beats (this project's profile).
use Rattle.std.specs.Prelude.{ℕ, ◌==◌, Bool, ◌&&◌, List, [], ◌∷◌, ◌++◌, Option, Some, None, codes, decimal, flat_map}
use Rattle.std.specs.Bool.{beq}
use Rattle.bus_words.specs.Text.{line, flag, hex}
use Rattle.tl_messages.specs.Lines.{d_text}
use Rattle.tl_messages.specs.declared.DBeat.{DBeat}
use Rattle.tl_checker.specs.Names.{number_of, name_of}
use Rattle.tl_checker.specs.declared.TlRule.{TlRule}
use Rattle.axi_beats.specs.Bursts.{Burst, WriteBurst, ReadBurst}
use Rattle.axi_beats.specs.Lines.{aw_text, ar_text, w_text}

-- the line of an answer: `=` and its words
abbrev pub answer_line : List (List ℕ) → List ℕ
answer_line words = line (codes "=" ∷ words)

-- the line of a refused beat: the rule's number and name
abbrev pub refused_text : TlRule → List ℕ
refused_text rule = answer_line (codes "refused" ∷ decimal (number_of rule) ∷ name_of rule ∷ [])

-- a request was accepted: its number
abbrev pub accepted_text : ℕ → List ℕ
accepted_text number = answer_line (codes "accepted" ∷ decimal number ∷ [])

-- a burst was sent: its serial
abbrev pub sent_text : ℕ → List ℕ
sent_text serial = answer_line (codes "sent" ∷ decimal serial ∷ [])

-- the line of a reply, by its request's number
abbrev pub reply_line_text : ℕ → List ℕ
reply_line_text number = answer_line (codes "reply" ∷ decimal number ∷ [])

-- the line of a run that went well
abbrev pub ok_text : List ℕ
ok_text = answer_line (codes "ok" ∷ [])

-- the line that names a client, whose lines follow
abbrev pub client_text : ℕ → List ℕ
client_text client = line (codes "client" ∷ decimal client ∷ [])

-- the lines of a burst that was sent
abbrev pub burst_text : Burst → List ℕ
burst_text (WriteBurst aw beats) = aw_text aw ++ flat_map w_text beats
burst_text (ReadBurst ar) = ar_text ar

-- the lines of the burst in a box, if it holds one
abbrev pub held_text : Option Burst → List ℕ
held_text None = []
held_text (Some burst) = burst_text burst

-- what the line of a reply's beat has in front of its payload
abbrev pub d_front : ℕ → DBeat → List ℕ → List ℕ
d_front client beat rest =
    codes "D"
    ++ (32 ∷ (decimal client ++ (32 ∷ (decimal beat.opcode ++ (32 ∷ (decimal beat.param ++ (32 ∷ (decimal beat.size ++ (32 ∷ (decimal beat.source ++ (32 ∷ (flag beat.denied ++ (32 ∷ rest)))))))))))))

-- whether the lines of two beats differ in their data alone
abbrev pub is_alike : DBeat → DBeat → Bool
is_alike first beat =
    (((first.opcode == beat.opcode && first.param == beat.param) && first.size == beat.size) && first.source == beat.source) && beq first.denied beat.denied

-- the lines of a reply's beats
abbrev pub reply_text : ℕ → List DBeat → List ℕ
reply_text client beats = flat_map (d_text client) beats

-- the line of a drain, by its number of steps
abbrev pub drained_text : ℕ → List ℕ
drained_text steps = answer_line (codes "drained" ∷ decimal steps ∷ [])

-- the line of the work left
abbrev pub work_text : ℕ → List ℕ
work_text work = answer_line (codes "work" ∷ decimal work ∷ [])

-- the line of a byte of memory
abbrev pub mem_text : Option ℕ → List ℕ
mem_text None = answer_line (codes "mem" ∷ codes "--" ∷ [])
mem_text (Some byte) = answer_line (codes "mem" ∷ hex 2 byte ∷ [])
