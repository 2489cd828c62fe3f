use Rattle.std.proofs.Common.{rules}
use Rattle.script_text.proofs.setup_lines.is_setup_form.Goals as goal

pub returns-in_default : goal.returns-in_default
returns-in_default c = search rules
