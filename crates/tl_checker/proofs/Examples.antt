-- Worked values of the definitions.
use Rattle.std.proofs.Common.{◌≡◌, ℕ, Bool, true, false, List, [], ◌∷◌, map, Option, Some, None, Ok, Err, refl}
use Rattle.tl_messages.specs.Requests.{HeldMessage, WholeRequest, begun, request_of, message_of}
use Rattle.tl_messages.specs.declared.ABeat.{ABeat}
use Rattle.tl_messages.specs.declared.DBeat.{DBeat}
use Rattle.tl_messages.specs.declared.Operation.TheVariants.{Get}
use Rattle.tl_checker.specs.Names.{number_of}
use Rattle.tl_checker.specs.Ports.{judged}
use Rattle.tl_checker.specs.ReplyRules.{reply_fault, reply_rules}
use Rattle.tl_checker.specs.RequestRules.{TlPortLimits, first_beat_rules, later_beat_rules, first_fault, Spells}
use Rattle.tl_checker.specs.declared.Level.TheVariants.{Ul, Uh}
use Rattle.tl_checker.specs.declared.Progress.TheVariants.{More, Whole}
use Rattle.tl_checker.specs.declared.TlRule.{TlRule}
use Rattle.tl_checker.specs.declared.TlRule.TheVariants.{Opcode, Level as LevelRule, Size, AtomicSize, Align, Param, Mask, Corrupt, SourceBusy, BurstControl, DOpcode, DSize, DSource, DBeats, DDenied, DCorrupt}

abbrev on_uh : TlPortLimits
on_uh = record { client = 0; level = Uh; max_size = 12 }

abbrev on_ul : TlPortLimits
on_ul = record { client = 0; level = Ul; max_size = 12 }

abbrev beat_of : ℕ → ℕ → ℕ → ℕ → ℕ → Bool → ABeat
beat_of opcode param size address mask corrupt =
    record { opcode = opcode; param = param; size = size; source = 0; address = address; mask = mask; payload = 0; corrupt = corrupt }

abbrev fault_on_uh : ABeat → Option TlRule
fault_on_uh beat = first_fault on_uh None beat false

abbrev fault_on_ul : ABeat → Option TlRule
fault_on_ul beat = first_fault on_ul None beat false

-- the rules stand in the order of their numbers
order_of_first_beats : (limits : TlPortLimits) (beat : ABeat) (busy : Bool) → map (λ row. number_of row.1) (first_beat_rules limits beat busy) ≡ 1 ∷ 2 ∷ 3 ∷ 4 ∷ 5 ∷ 6 ∷ 7 ∷ 8 ∷ 9 ∷ []
order_of_first_beats limits beat busy = refl

order_of_later_beats : (held : HeldMessage) (beat : ABeat) → map (λ row. number_of row.1) (later_beat_rules held beat) ≡ 10 ∷ 7 ∷ []
order_of_later_beats held beat = refl

order_of_replies : (q : WholeRequest) (beats : List DBeat) → map (λ row. number_of row.1) (reply_rules q beats) ≡ 11 ∷ 12 ∷ 13 ∷ 14 ∷ 15 ∷ 16 ∷ []
order_of_replies q beats = refl

-- each rule on a first beat, in order
rules_in_order :
    map fault_on_uh
    (beat_of 6 0 3 0 255 false ∷ beat_of 4 0 13 0 255 false ∷ beat_of 2 4 4 0 255 false ∷ beat_of 4 0 3 4 255 false ∷ beat_of 2 5 3 0 255 false
    ∷ beat_of 0 0 0 0x0b 1 false ∷ beat_of 4 0 3 0 255 true ∷ [])
    ≡ Some Opcode ∷ Some Size ∷ Some AtomicSize ∷ Some Align ∷ Some Param ∷ Some Mask ∷ Some Corrupt ∷ []
rules_in_order = refl

-- an atomic too large for the port, a Get that isn't aligned and has a param, and a corrupt one with a wrong mask
earlier_rules_first :
    map fault_on_uh (beat_of 2 0 13 0 255 false ∷ beat_of 4 1 3 4 255 false ∷ beat_of 4 0 3 0 0x7f true ∷ []) ≡ Some Size ∷ Some Align ∷ Some Mask ∷ []
earlier_rules_first = refl

on_a_small_port :
    map fault_on_ul (beat_of 2 0 3 0 255 false ∷ beat_of 4 0 4 0 255 false ∷ beat_of 2 0 13 0 255 false ∷ beat_of 5 0 3 0 255 false ∷ beat_of 4 0 3 0 255 false ∷ [])
    ≡ Some LevelRule ∷ Some LevelRule ∷ Some LevelRule ∷ Some LevelRule ∷ None ∷ []
on_a_small_port = refl

-- a busy source, and a corrupt Get from one
busy_sources : first_fault on_uh None (beat_of 4 0 3 0 255 false) true ∷ first_fault on_uh None (beat_of 4 0 3 0 255 true) true ∷ [] ≡ Some SourceBusy ∷ Some Corrupt ∷ []
busy_sources = refl

-- atomics of 1, 2 and 8 bytes pass, those of 16 don't
sizes_of_atomics :
    map fault_on_uh (beat_of 2 4 0 3 8 false ∷ beat_of 2 4 1 6 0xc0 false ∷ beat_of 3 3 3 0 255 false ∷ beat_of 3 0 4 0 255 false ∷ []) ≡ None ∷ None ∷ None ∷ Some AtomicSize ∷ []
sizes_of_atomics = refl

-- ---- later beats

abbrev put : ABeat
put = beat_of 0 0 4 0 255 false

second_beats :
    judged on_uh None put false ∷ judged on_uh (Some (begun 0 put)) (beat_of 0 0 4 8 255 false) false ∷ judged on_uh (Some (begun 0 put)) (beat_of 0 0 4 0 0x7f false) false
    ∷ judged on_uh (Some (begun 0 put)) (beat_of 0 0 4 0 255 true) true ∷ []
    ≡ Ok More ∷ Err BurstControl ∷ Err Mask ∷ Ok Whole ∷ []
second_beats = refl

abbrev partial : ℕ → ABeat
partial mask = beat_of 1 0 4 0 mask false

partial_puts : judged on_uh None (partial 0) false ∷ judged on_uh (Some (begun 0 (partial 0))) (partial 0x81) false ∷ [] ≡ Ok More ∷ Ok Whole ∷ []
partial_puts = refl

two_beats_spell : Spells on_uh (partial 0 ∷ partial 0x81 ∷ []) (request_of (message_of 0 (partial 0) (partial 0x81 ∷ [])))
two_beats_spell = (refl, refl, refl, refl)

-- ---- replies

abbrev get_of_sixteen : WholeRequest
get_of_sixteen = record { client = 0; source = 2; operation = Get; size = 4; address = 0; bytes = []; corrupt = false }

abbrev reply : Bool → Bool → DBeat
reply denied corrupt = record { opcode = 1; param = 0; size = 4; source = 2; denied = denied; payload = 0; corrupt = corrupt }

counted_beats : map (reply_fault get_of_sixteen) ([] ∷ (reply false false ∷ []) ∷ (reply false false ∷ reply false false ∷ []) ∷ []) ≡ Some DBeats ∷ Some DBeats ∷ None ∷ []
counted_beats = refl

denied_beats :
    map (reply_fault get_of_sixteen)
    ((reply false false ∷ reply true true ∷ []) ∷ (reply true false ∷ reply true false ∷ []) ∷ (reply true true ∷ reply true true ∷ []) ∷ (reply false true ∷ reply false false ∷ []) ∷ [])
    ≡ Some DDenied ∷ Some DCorrupt ∷ None ∷ None ∷ []
denied_beats = refl

other_fields :
    map (λ beat. reply_fault get_of_sixteen (beat ∷ []))
    (record (reply false false) { opcode = 0 } ∷ record (reply false false) { param = 1; size = 3 } ∷ record (reply false false) { size = 3; source = 1 } ∷ record (reply false false) { source = 1 } ∷ [])
    ≡ Some DOpcode ∷ Some DOpcode ∷ Some DSize ∷ Some DSource ∷ []
other_fields = refl
