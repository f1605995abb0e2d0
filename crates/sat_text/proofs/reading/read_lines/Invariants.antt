use Rattle.std.proofs.Common.{◌≡◌, ◌+◌, ◌-◌, ◌≤◌, length, take, drop, Some}
use Rattle.sat_text.specs.Texts.{rows_of}
use Rattle.sat_text.specs.Reading.{start, rows_step}
use Rattle.sat_text.proofs.reading.read_lines.Given as goal

abbrev pub invariant-loop-reader : goal.invariant-loop-reader
invariant-loop-reader l = record {
  first : 1 ≤ l.number;
  short : l.number + length l.rest ≤ length l.text + 1;
  before : rows_step start (take (l.number - 1) (rows_of l.text)) ≡ Some l.reader;
  behind : drop (l.number - 1) (rows_of l.text) ≡ rows_of l.rest;
}

abbrev pub decreases-loop-reader : goal.decreases-loop-reader
decreases-loop-reader l = length l.rest
