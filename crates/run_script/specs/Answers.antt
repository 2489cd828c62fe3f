-- The line of an answer in a trace (this project's profile).
use Rattle.std.specs.Prelude.{ℕ, List, [], ◌∷◌, codes}
use Rattle.axi_beats.specs.Lines.{b_text, r_text}
use Rattle.line_text.specs.Traces.{accepted_text, answer_line, refused_text, reply_line_text, sent_text}
use Rattle.world.specs.declared.Answer.{Answer}
use Rattle.world.specs.declared.Answer.TheVariants.{More, Accepted, NotReady, Exhausted, Refused, NoClient, Sent, Idle, Done, NoSuch, Already, B, R, Nothing, Reply}

-- the line of an answer; a beat of the memory is its own line
abbrev pub answer_text : Answer → List ℕ
answer_text More = answer_line (codes "more" ∷ [])
answer_text (Accepted number) = accepted_text number
answer_text NotReady = answer_line (codes "notready" ∷ [])
answer_text Exhausted = answer_line (codes "exhausted" ∷ [])
answer_text (Refused rule) = refused_text rule
answer_text NoClient = answer_line (codes "noclient" ∷ [])
answer_text (Sent serial) = sent_text serial
answer_text Idle = answer_line (codes "idle" ∷ [])
answer_text Done = answer_line (codes "done" ∷ [])
answer_text NoSuch = answer_line (codes "nosuch" ∷ [])
answer_text Already = answer_line (codes "already" ∷ [])
answer_text (B b) = b_text b
answer_text (R r) = r_text r
answer_text Nothing = answer_line (codes "nothing" ∷ [])
answer_text (Reply number) = reply_line_text number
