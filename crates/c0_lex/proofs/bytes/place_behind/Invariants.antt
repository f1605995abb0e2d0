-- What holds at the loop of `place_behind`.
use Rattle.std.proofs.Common.{◌≡◌, ◌≤◌, ◌+◌, take}
use Rattle.std.specs.Prelude.{fold}
use Rattle.gc0_base.specs.Places.{moved}
use Rattle.c0_lex.proofs.bytes.place_behind.Given as goal

abbrev pub invariant-loop-b : goal.invariant-loop-b
invariant-loop-b l = record {
  moved : l.behind ≡ fold moved l.fn.place (take l.b-index l.bytes);
  lines : l.behind.line ≤ l.fn.place.line + l.b-index;
  columns : l.behind.column ≤ l.fn.place.column + l.b-index;
}
