use Rattle.sparse_memory.proofs.PageLaws.{byte-new, doubt-new}
use Rattle.sparse_memory.proofs.page.Page.new.Goals as goal

pub returns-clause-bytes : goal.returns-clause-bytes
returns-clause-bytes c = λ place below. byte-new c.in_ok-vec.field-0.items place (c.in_ok-vec.ensures.items_if_clones_equal (λ y same. same)) below

pub returns-clause-doubts : goal.returns-clause-doubts
returns-clause-doubts c = λ place below. doubt-new c.args.in_doubt c.every_byte_if.result c.in_ok-vec-2.field-0.items place c.every_byte_if.ensures (c.in_ok-vec-2.ensures.items_if_clones_equal (λ y same. same)) below
