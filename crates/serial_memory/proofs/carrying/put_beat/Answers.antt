-- The beat is a word of the request, in its page.
use Rattle.std.proofs.Common.{◌≡◌, ◌+◌, ◌*◌, Some, refl, ◌∙◌, ap, arith}
use Rattle.std.specs.Prelude.{slice_get}
use Rattle.std.proofs.Math.Path.{fun_ext}
use Rattle.tl_messages.specs.declared.MaskedWord.{MaskedWord}
use Rattle.sparse_memory.specs.SparseMemory.{has_room, put_word}
use Rattle.serial_memory.proofs.PutWords.{put_more}
use Rattle.serial_memory.proofs.RequestWords.{beat_there, word_at, word_of}
use Rattle.serial_memory.proofs.Words.{word_exists, word_in_page}
use Rattle.serial_memory.proofs.carrying.put_beat.Goals as goal

pub overflow_add-address : goal.overflow_add-address
overflow_add-address c =
    let at = word_at c.args.request.now c.args.address c.args.k c.requires.sound c.requires.data c.requires.same_byte c.requires.beat in
    omega (arith, word_exists c.args.address c.args.request.now.size c.args.k (omega arith) at, c.from.ensures)

pub put_word-requires : goal.put_word-requires
put_word-requires c =
    let at = word_at c.args.request.now c.args.address c.args.k c.requires.sound c.requires.data c.requires.same_byte c.requires.beat in
    record { room = rw c.from.ensures (ap (has_room c.args.pages.now) (word_in_page c.args.address c.args.request.now.size c.args.k at) ∙ c.requires.room) }

pub returns-clause-rest : goal.returns-clause-rest
returns-clause-rest c = record { faults = c.put_word.ensures.faults; doubts = c.put_word.ensures.doubts; rooms = fun_ext (λ page. c.put_word.ensures.room page) }

pub returns-clause-bytes : goal.returns-clause-bytes
returns-clause-bytes c m before =
    let word : MaskedWord = record { word = c.word.result; mask = c.mask.result } in
    let there : slice_get c.args.request.now.beats c.args.k ≡ Some word = beat_there c.args.request.now c.args.k c.requires.beat ∙ rw (c.word.ensures, c.mask.ensures) refl in
    let of = word_of c.args.request.now c.args.address c.args.k word c.requires.sound c.requires.data c.requires.same_byte c.requires.beat there in
    c.put_word.ensures.bytes ∙ rw c.from.ensures (ap (put_word (c.args.address + c.args.k * 8) c.word.result c.mask.result) before ∙ put_more c.args.request.now m c.args.address c.args.k word of)
