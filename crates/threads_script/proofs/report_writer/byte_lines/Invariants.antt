-- The lines of the first addresses.
use Rattle.std.proofs.Common.{flat_map, take}
use Rattle.std.specs.Io.KnownBytes.{Appends}
use Rattle.line_text.specs.Traces.{mem_text}
use Rattle.world.specs.World.{byte_of}
use Rattle.threads_script.proofs.report_writer.byte_lines.Given as goal

abbrev pub invariant-loop-address : goal.invariant-loop-address
invariant-loop-address g l =
    Appends (g.W.Write.contents l.fn.writer) (g.W.Write.contents l.writer) (flat_map (λ address. mem_text (byte_of l.world address)) (take l.address-index l.addresses))
