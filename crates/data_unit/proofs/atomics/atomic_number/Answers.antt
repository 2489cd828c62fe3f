-- The operand is the number of the bytes that the request gives.
use Rattle.std.proofs.Common.{◌≡◌, ◌*◌, ◌%◌, ◌^◌, ◌∙◌, ap, arith}
use Rattle.std.proofs.Math.Pow.{pow_mono}
use Rattle.tl_messages.specs.Requests.{request_of}
use Rattle.data_unit.specs.Atomics.{atomic_result, operand_of}
use Rattle.data_unit.proofs.WordLaws.{operand_bytes-le}
use Rattle.data_unit.proofs.Operands.{operand_made}
use Rattle.data_unit.proofs.atomics.atomic_number.Goals as goal

pub apply-requires-clause-most : goal.apply-requires-clause-most
apply-requires-clause-most c = rw (c.size-2.ensures.value) (operand_bytes-le c.args.request.now.size c.requires.size)

pub returns-clause-value : goal.returns-clause-value
returns-clause-value c =
    let bytes : 1 * 2 ^ c.size-2.result % 256 ≡ 2 ^ c.args.request.now.size = rw (c.size-2.ensures.value) (omega (arith, pow_mono {i = c.args.request.now.size} {j = 3} c.requires.size)) in
    let operand : c.cut-operand.result ≡ operand_of (request_of c.args.request.now) =
    c.cut-operand.ensures.value
    ∙ rw (c.merge-word.ensures, c.word.ensures, c.mask.ensures, c.address.ensures, c.size.ensures.value) (operand_made c.args.request.now c.requires.data c.requires.size c.requires.beats) in
    c.apply.ensures.value
    ∙ ap (λ n. atomic_result c.args.op n c.args.old c.cut-operand.result) bytes
    ∙ ap (λ n. atomic_result c.args.op (2 ^ c.args.request.now.size) c.args.old n) operand
