use Rattle.script_text.proofs.Stopping.{ends_or_stops}
use Rattle.script_text.proofs.driver.read_script.Goals as goal

pub returns : goal.returns
returns g c =
    ends_or_stops g.S.Script.grows g.S.Script.reading (g.S.Script.state c.args.script) c.read_script_with.new.stopped (g.R.Read.remaining c.args.reader.now) (g.R.Read.remaining c.read_script_with.new.reader) (g.W.Write.contents c.args.writer.now)
    (g.W.Write.contents c.read_script_with.new.writer) c.read_script_with.result c.read_script_with.ensures
