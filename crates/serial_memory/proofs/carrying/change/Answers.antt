-- The old value is the number that the memory shows; where it is found the result is put.
use Rattle.std.proofs.Common.{◌≡◌, ◌^◌, ◌<◌, ◌≤◌, ℕ, Option, sym, subst, ◌∙◌, ap}
use Rattle.std.proofs.Math.Path.{fun_ext}
use Rattle.std.specs.Prelude.{unwrap_or}
use Rattle.tl_messages.specs.Lanes.{in_lanes}
use Rattle.tl_messages.specs.Operations.{beats_of, has_data}
use Rattle.tl_messages.specs.Requests.{request_of}
use Rattle.tl_messages.specs.declared.Operation.{Operation}
use Rattle.data_unit.specs.Atomics.{atomic_result, modulus, operand_of}
use Rattle.data_unit.specs.Words.{full_mask, value}
use Rattle.responses.proofs.OldValues.{old_small}
use Rattle.responses.specs.Gathered.{GatherState, old_value, outline_of}
use Rattle.subordinate.specs.Faults.{is_bad, is_good, standing_at}
use Rattle.meaning.specs.Meaning.{bytes_at}
use Rattle.sparse_memory.specs.SparseMemory.{bytes_in, faults_in}
use Rattle.serial_memory.proofs.PutWords.{number_put}
use Rattle.serial_memory.proofs.WordReads.{atomic_beats, found_as, found_there, nothing_left}
use Rattle.serial_memory.proofs.RequestWords.{range}
use Rattle.serial_memory.proofs.carrying.change.Goals as goal

pub read_words-requires-clause-range : goal.read_words-requires-clause-range
read_words-requires-clause-range c = rw c.size.ensures.value (range c.args.request.now c.args.address c.requires.sound c.requires.same_byte)

pub returns-in_default-clause-bytes : goal.returns-in_default-clause-bytes
returns-in_default-clause-bytes c =
    nothing_left (faults_in c.args.pages.now) (request_of c.args.request.now) (bytes_in c.args.pages.now) c.args.op c.args.address _ (standing_at (faults_in c.args.pages.now) c.args.address)
    (is_bad (faults_in c.args.pages.now) c.args.address) (sym c.in_default.is ∙ found_as c.args.pages.now c.args.request.now c.args.op c.args.address c.args.gather.now c.read_words.new.gather c.old_value.result c.requires.sound c.requires.operation c.requires.same_byte c.requires.fresh c.read_words.ensures c.old_value.ensures.value)

pub atomic_number-requires-clause-beats : goal.atomic_number-requires-clause-beats
atomic_number-requires-clause-beats c =
    c.requires.sound.2.beats ∙ ap (λ (o : Operation). beats_of c.args.request.now.size (has_data o)) c.requires.operation ∙ atomic_beats c.args.op c.args.request.now.size (c.requires.sound.2.atomic_size c.args.op c.requires.operation)

pub atomic_number-requires-clause-old_fits : goal.atomic_number-requires-clause-old_fits
atomic_number-requires-clause-old_fits c =
    let outline : c.read_words.new.gather.outline ≡ outline_of (request_of c.args.request.now) = ap (λ (s : GatherState). s.outline) c.read_words.ensures ∙ c.requires.fresh.outline in
    let is : unwrap_or (old_value c.read_words.new.gather.outline c.read_words.new.gather.gathering) 0 ≡ c.in-Some.old = ap (λ (o : Option ℕ). unwrap_or o 0) (sym c.old_value.ensures.value ∙ c.in-Some.is) in
    subst (λ n. n < modulus (2 ^ c.args.request.now.size)) is
    (rw outline (old_small (outline_of (request_of c.args.request.now)) c.read_words.new.gather.gathering (c.requires.sound.2.atomic_size c.args.op c.requires.operation) c.requires.sound.2.aligned))

pub place-word-requires-clause-aligned : goal.place-word-requires-clause-aligned
place-word-requires-clause-aligned c = rw c.size-2.ensures.value (range c.args.request.now c.args.address c.requires.sound c.requires.same_byte).aligned

pub put_word-requires : goal.put_word-requires
put_word-requires c =
    let there = found_there _ c.in-Some.old (standing_at (faults_in c.args.pages.now) c.args.address) (is_bad (faults_in c.args.pages.now) c.args.address)
    (sym c.in-Some.is ∙ found_as c.args.pages.now c.args.request.now c.args.op c.args.address c.args.gather.now c.read_words.new.gather c.old_value.result c.requires.sound c.requires.operation c.requires.same_byte c.requires.fresh c.read_words.ensures c.old_value.ensures.value) in
    record { room = c.requires.room (ap is_good there.0) }

pub returns-clause-rest : goal.returns-clause-rest
returns-clause-rest c = record { faults = c.put_word.ensures.faults; doubts = c.put_word.ensures.doubts; rooms = fun_ext (λ page. c.put_word.ensures.room page) }

pub returns-clause-bytes : goal.returns-clause-bytes
returns-clause-bytes c =
    let there = found_there _ c.in-Some.old (standing_at (faults_in c.args.pages.now) c.args.address) (is_bad (faults_in c.args.pages.now) c.args.address)
    (sym c.in-Some.is ∙ found_as c.args.pages.now c.args.request.now c.args.op c.args.address c.args.gather.now c.read_words.new.gather c.old_value.result c.requires.sound c.requires.operation c.requires.same_byte c.requires.fresh c.read_words.ensures c.old_value.ensures.value) in
    let wide = range c.args.request.now c.args.address c.requires.sound c.requires.same_byte in
    let small : c.args.request.now.size ≤ 3 = c.requires.sound.2.atomic_size c.args.op c.requires.operation in
    let number : c.atomic_number.result ≡ atomic_result c.args.op (2 ^ c.args.request.now.size) (value (bytes_at (bytes_in c.args.pages.now) c.args.address (2 ^ c.args.request.now.size))) (operand_of (request_of c.args.request.now)) =
    c.atomic_number.ensures.value ∙ ap (λ old. atomic_result c.args.op (2 ^ c.args.request.now.size) old (operand_of (request_of c.args.request.now))) there.2 in
    c.put_word.ensures.bytes
    ∙ rw (c.place-word.ensures.value, c.size-2.ensures.value, number, there.0, there.1)
    (number_put (bytes_in c.args.pages.now) c.args.address c.args.request.now.size _ c.full_mask.result small wide.aligned (c.full_mask.ensures.value ∙ ap (full_mask c.args.address) c.size-3.ensures.value)
    (λ lane below has. ap (λ size. in_lanes c.args.address size lane) (sym c.size-3.ensures.value) ∙ sym (c.full_mask.ensures.lanes lane below) ∙ has))
