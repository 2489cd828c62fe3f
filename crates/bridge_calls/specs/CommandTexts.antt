-- Each command of a set-up alone has text: it has none.
use Rattle.std.proofs.Common.{rules}
use Rattle.script_text.specs.Stages.{GivesSome}
use Rattle.bridge_calls.specs.SetUps.{set_up_kind}

pub set_up_gives : GivesSome set_up_kind
set_up_gives bridge number command given is = search rules
