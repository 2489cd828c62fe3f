use Rattle.std.proofs.Common.{sym, ◌∙◌}
use Rattle.setups.specs.Setups.{lists_of}
use Rattle.script_text.proofs.LineRooms.{setup_line-room}
use Rattle.script_text.proofs.setup_lines.SetupScriptSetup.add.Goals as goal

pub add_line-requires : goal.add_line-requires
add_line-requires c = setup_line-room (lists_of c.args.self.now) c.args.form c.args.words.now c.in_ok-line.line c.requires (sym c.setup_line.ensures ∙ c.in_ok-line.was)
