-- Worked values of the definitions.
use Rattle.std.proofs.Common.{◌≡◌, ◌++◌, ◌∷◌, [], true, false, refl, codes, Some, None}
use Rattle.std.specs.Fmt.{digits}
use Rattle.bus_words.specs.Lanes.{mask_of}
use Rattle.bus_words.specs.Text.{hex}
use Rattle.tl_messages.specs.Lanes.{in_lanes}
use Rattle.tl_messages.specs.Lines.{a_text, d_text}
use Rattle.tl_messages.specs.Operations.{named_operation, beats_of}
use Rattle.tl_messages.specs.Requests.{begun, with_beat, request_of, is_whole}
use Rattle.tl_messages.specs.declared.ABeat.{ABeat}
use Rattle.tl_messages.specs.declared.DBeat.{DBeat}
use Rattle.tl_messages.specs.declared.AtomicOp.TheVariants.{Swap}
use Rattle.tl_messages.specs.declared.Operation.TheVariants.{Atomic, Intent}

-- a Put of 8 bytes at 8
abbrev put_of_eight : ABeat
put_of_eight = record { opcode = 0; param = 0; size = 3; source = 5; address = 8; mask = 0xff; payload = 0x1122334455667788; corrupt = false }

-- its reply
abbrev reply_to_put : DBeat
reply_to_put = record { opcode = 0; param = 0; size = 3; source = 5; denied = false; payload = 0; corrupt = false }

-- a Put of one byte at 0b
abbrev put_of_one : ABeat
put_of_one = record { opcode = 0; param = 0; size = 0; source = 0; address = 0x0b; mask = 0x08; payload = 0x00000000aa000000; corrupt = false }

-- a Get of a whole page
abbrev get_of_page : ABeat
get_of_page = record { opcode = 4; param = 0; size = 12; source = 0; address = 0x1000; mask = 0xff; payload = 0; corrupt = false }

-- a partial Put of 8 bytes that gives none
abbrev put_of_none : ABeat
put_of_none = record { opcode = 1; param = 0; size = 3; source = 0; address = 8; mask = 0; payload = 0xffffffffffffffff; corrupt = false }

-- the first beat of a Put of 16 bytes at 0
abbrev first_of_two : ABeat
first_of_two = record { opcode = 0; param = 0; size = 4; source = 0; address = 0; mask = 0xff; payload = 1; corrupt = false }

line_of_put : a_text 0 put_of_eight ≡ codes "A 0 0 0 3 5 00000008 ff 1122334455667788 0" ++ 10 ∷ []
unfolding hex digits
line_of_put = refl

line_of_reply : d_text 0 reply_to_put ≡ codes "D 0 0 0 3 5 0 0000000000000000 0" ++ 10 ∷ []
unfolding hex digits
line_of_reply = refl

line_of_get : a_text 0 get_of_page ≡ codes "A 0 4 0 12 0 00001000 ff 0000000000000000 0" ++ 10 ∷ []
unfolding hex digits
line_of_get = refl

lanes_of_one_byte : mask_of (in_lanes 0x0b 0) ≡ 0x08
lanes_of_one_byte = refl

lanes_of_page : mask_of (in_lanes 0x1000 12) ≡ 0xff
lanes_of_page = refl

bytes_of_put : (request_of (begun 0 put_of_eight)).bytes ≡ Some 0x88 ∷ Some 0x77 ∷ Some 0x66 ∷ Some 0x55 ∷ Some 0x44 ∷ Some 0x33 ∷ Some 0x22 ∷ Some 0x11 ∷ []
bytes_of_put = refl

byte_of_put_of_one : (request_of (begun 0 put_of_one)).bytes ≡ Some 0xaa ∷ []
byte_of_put_of_one = refl

bytes_of_put_of_none : (request_of (begun 0 put_of_none)).bytes ≡ None ∷ None ∷ None ∷ None ∷ None ∷ None ∷ None ∷ None ∷ []
bytes_of_put_of_none = refl

beats_of_page : beats_of 12 true ≡ 512
beats_of_page = refl

beats_of_get : beats_of 12 false ≡ 1
beats_of_get = refl

half_a_put : is_whole (begun 0 first_of_two) ≡ false
half_a_put = refl

whole_put : is_whole (with_beat (begun 0 first_of_two) first_of_two) ≡ true
whole_put = refl

corrupt_beat_marks_the_request : (with_beat (begun 0 first_of_two) (record first_of_two { corrupt = true })).corrupt ≡ true
corrupt_beat_marks_the_request = refl

swap_is_logical : named_operation 3 3 ≡ Some (Atomic Swap)
swap_is_logical = refl

prefetch_for_writing : named_operation 5 1 ≡ Some (Intent true)
prefetch_for_writing = refl

opcode_six_is_none : named_operation 6 0 ≡ None
opcode_six_is_none = refl
