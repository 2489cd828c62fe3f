-- Only pages have got room.
use Rattle.value_memory.proofs.FilledMemory.{alike_held, alike_pages}
use Rattle.value_memory.proofs.memory.ValueMemory.make_room_for.Goals as goal

pub returns-then-is_err-clause-held : goal.returns-then-is_err-clause-held
returns-then-is_err-clause-held c = alike_held c.args.self.now c.make_rooms.new.self c.make_rooms.ensures.rest

pub returns-then-is_err-clause-pages : goal.returns-then-is_err-clause-pages
returns-then-is_err-clause-pages c = alike_pages c.args.self.now c.make_rooms.new.self c.make_rooms.ensures.rest

pub returns-clause-held : goal.returns-clause-held
returns-clause-held c = alike_held c.args.self.now c.make_rooms.new.self c.make_rooms.ensures.rest

pub returns-clause-pages : goal.returns-clause-pages
returns-clause-pages c = alike_pages c.args.self.now c.make_rooms.new.self c.make_rooms.ensures.rest
