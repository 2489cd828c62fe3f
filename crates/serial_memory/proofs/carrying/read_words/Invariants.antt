-- The words that are still to come lead to the same end.
use Rattle.std.proofs.Common.{◌≡◌, ◌-◌}
use Rattle.std.specs.List.{enumerate_from}
use Rattle.responses.specs.Answers.{after_reads}
use Rattle.responses.specs.Gathered.{reads_of}
use Rattle.serial_memory.specs.InsideSerial.{words_read}
use Rattle.serial_memory.proofs.carrying.read_words.Given as goal

abbrev pub invariant-loop-place : goal.invariant-loop-place
invariant-loop-place l =
    (l.gather.bus_bytes ≡ 8) × (l.gather.outline ≡ l.fn.gather.outline)
    × (after_reads 8 l.fn.gather.outline (enumerate_from l.place (words_read l.fn.pages l.fn.address l.place (reads_of 8 l.fn.gather.outline - l.place))) l.gather.gathering
    ≡ after_reads 8 l.fn.gather.outline (enumerate_from 0 (words_read l.fn.pages l.fn.address 0 (reads_of 8 l.fn.gather.outline))) l.fn.gather.gathering)
