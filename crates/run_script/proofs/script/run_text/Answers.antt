use Rattle.std.proofs.Common.{[], inl, refl, arith}
use Rattle.std.proofs.KnownBytes.{Consumes-nil, Keeps-refl}
use Rattle.script_text.proofs.FixedEndings.{EndsAs-fixed}
use Rattle.run_script.proofs.script.run_text.Goals as goal

-- nothing was read yet
pub returns-in_default : goal.returns-in_default
returns-in_default g c =
    record {
      judged = [];
      ahead = [];
      consumed = Consumes-nil (g.R.Read.remaining c.args.reader.now);
      bound = omega arith;
      block = omega arith;
      ends = (Keeps-refl (g.W.Write.contents c.args.writer.now), inl refl);
    }

pub returns : goal.returns
returns g c = EndsAs-fixed _ _ _ _ _ _ _ (rw c.new-script.ensures at c.read_script.ensures)
