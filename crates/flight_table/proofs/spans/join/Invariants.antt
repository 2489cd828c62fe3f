use Rattle.std.proofs.Common.{◌≡◌, ◌+◌, length}
use Rattle.flight_table.specs.Spans.{counted_in, joined_in}
use Rattle.flight_table.specs.Marks.{number_of}
use Rattle.flight_table.proofs.spans.join.Given as goal

abbrev pub invariant-loop-earlier : goal.invariant-loop-earlier
invariant-loop-earlier l = record {
  slots : length l.row ≡ 64;
  sets : length l.held ≡ 64;
  counted : l.count + counted_in l.row l.request l.spans ≡ counted_in l.initial.row l.request l.spans;
  joined : joined_in l.row l.request l.spans l.slot l.held ≡ joined_in l.initial.row l.request l.spans l.slot l.initial.held;
}

abbrev pub decreases-loop-earlier : goal.decreases-loop-earlier
decreases-loop-earlier l = number_of l.row
