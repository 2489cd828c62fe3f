-- The lines of what is wrong, and of what was found at the end (this project's profile).
use Rattle.std.specs.Prelude.{ℕ, ◌≡◌, ◌≢◌, Bool, true, false, Result, Ok, Err, List, [], ◌∷◌, ◌++◌, Option, Some, None, codes, decimal}
use Rattle.std.specs.Io.KnownBytes.{Appends}
use Rattle.axi_checker.specs.Names.{rule_name, rule_number}
use Rattle.score_script.specs.declared.findings.Finding.{Finding}
use Rattle.score_script.specs.declared.findings.Finding.TheVariants.{Beat, Byte}
use Rattle.score_script.specs.declared.findings.Line.{Line}
use Rattle.scoreboard.specs.Names.{reply_rule_name, reply_rule_number}
use Rattle.scoreboard.specs.declared.ReplyRule.{ReplyRule}
use Rattle.scoreboard.specs.declared.Wrong.{Wrong}
use Rattle.scoreboard.specs.declared.Wrong.TheVariants.{NoClient, Request, Reply, Axi, Place, UnknownAxi, UnknownRequest}
use Rattle.line_text.specs.Traces.{mem_text}
use Rattle.bus_words.specs.Text.{line}
use Rattle.tl_checker.specs.Names.{name_of, number_of}
use Rattle.tl_messages.specs.Lines.{d_words, spaced}

-- a line's end: the time that was given before the beat, if one was
abbrev pub line_end : Option ℕ → List ℕ
line_end None = 10 ∷ []
line_end (Some time) = codes " at " ++ (decimal time ++ 10 ∷ [])

-- `wrong`, the number of the input's line, and what is wrong: whose rule, its number and its name
abbrev pub rule_words : ℕ → List ℕ → ℕ → List ℕ → List ℕ
rule_words number whose rule name = spaced (codes "=" ∷ codes "wrong" ∷ decimal number ∷ whose ∷ decimal rule ∷ name ∷ [])

-- the same of a reply, up to the beat that was due
abbrev pub expected_text : ℕ → ReplyRule → List ℕ
expected_text number rule =
    codes "= wrong "
    ++ (decimal number ++ (codes " reply " ++ (decimal (reply_rule_number rule) ++ (codes " " ++ (reply_rule_name rule ++ codes " expected ")))))

-- what is wrong with a beat, by the number of its line and its client
abbrev pub wrong_words : ℕ → ℕ → Wrong → List ℕ
wrong_words number client NoClient = rule_words number (codes "client") 1 (codes "NO_CLIENT")
wrong_words number client (Request rule) = rule_words number (codes "request") (number_of rule) (name_of rule)
wrong_words number client (Reply rule None) = rule_words number (codes "reply") (reply_rule_number rule) (reply_rule_name rule)
wrong_words number client (Reply rule (Some due)) = expected_text number rule ++ d_words client due
wrong_words number client (Axi rule) = rule_words number (codes "axi") (rule_number rule) (rule_name rule)
wrong_words number client UnknownRequest = rule_words number (codes "request") 17 (codes "X")
wrong_words number client UnknownAxi = rule_words number (codes "axi") 13 (codes "X")
wrong_words number client Place = rule_words number (codes "axi") 15 (codes "PLACE")

-- the line of a wrong beat, by its own line and its client
abbrev pub wrong_text : Line → ℕ → Wrong → List ℕ
wrong_text line client wrong = wrong_words line.number client wrong ++ line_end line.time

-- the line of a finding: a wrong beat, or the byte that was asked for
abbrev pub finding_text : Finding → List ℕ
finding_text (Beat line client wrong) = wrong_text line client wrong
finding_text (Byte byte) = mem_text byte

-- the line of a finding, if there is one
abbrev pub optional_text : Option Finding → List ℕ
optional_text None = []
optional_text (Some finding) = finding_text finding

-- a text was written, and `wrote` tells whether there is any; where the writer failed there was
abbrev pub WritesText : {E : Type 0} → List ℕ → Option (List ℕ) → Option (List ℕ) → Result Bool E → Type 0
WritesText text before after (Ok wrote) = Appends before after text × (wrote ≡ false → text ≡ []) × (wrote ≡ true → text ≢ [])
WritesText text before after (Err fault) = text ≢ []

-- the beginning of the last line: how many beats were judged, how many of them are wrong, how many replies weren't seen whole, and how many bursts are
-- open
abbrev pub counts_text : ℕ → ℕ → ℕ → ℕ → List ℕ
counts_text judged wrong outstanding left_open =
    codes "= judged "
    ++ (decimal judged
    ++ (codes " wrong "
    ++ (decimal wrong ++ (codes " outstanding " ++ (decimal outstanding ++ (codes " open " ++ (decimal left_open ++ codes " ")))))))

-- its end: how many of the bytes that replies told were compared
abbrev pub compared_text : ℕ → ℕ → List ℕ
compared_text compared told = line (codes "compared" ∷ decimal compared ∷ codes "of" ∷ decimal told ∷ [])

-- the last line
abbrev pub last_text : ℕ → ℕ → ℕ → ℕ → ℕ → ℕ → List ℕ
last_text judged wrong outstanding left_open compared told =
    counts_text judged wrong outstanding left_open ++ compared_text compared told
