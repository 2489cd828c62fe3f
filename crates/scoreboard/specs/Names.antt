-- The numbers and names of the rules on replies, as they are told to a user.
use Rattle.std.specs.Prelude.{ℕ, List, codes}
use Rattle.scoreboard.specs.declared.ReplyRule.{ReplyRule}
use Rattle.scoreboard.specs.declared.ReplyRule.TheVariants.{Unasked, Interleaved, Opcode, Size, Denied, Corrupt, Payload, Unknown}

-- the number of a rule
abbrev pub reply_rule_number : ReplyRule → ℕ
reply_rule_number Unasked = 1
reply_rule_number Interleaved = 2
reply_rule_number Opcode = 3
reply_rule_number Size = 4
reply_rule_number Denied = 5
reply_rule_number Corrupt = 6
reply_rule_number Payload = 7
reply_rule_number Unknown = 8

-- the name of a rule
abbrev pub reply_rule_name : ReplyRule → List ℕ
reply_rule_name Unasked = codes "UNASKED"
reply_rule_name Interleaved = codes "INTERLEAVED"
reply_rule_name Opcode = codes "OPCODE"
reply_rule_name Size = codes "SIZE"
reply_rule_name Denied = codes "DENIED"
reply_rule_name Corrupt = codes "CORRUPT"
reply_rule_name Payload = codes "PAYLOAD"
reply_rule_name Unknown = codes "X"
