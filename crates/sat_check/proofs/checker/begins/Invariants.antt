use Rattle.std.proofs.Common.{◌≡◌, take, length}
use Rattle.sat_check.specs.Marks.{Shows, IsSound}
use Rattle.sat_check.proofs.checker.begins.Given as goal

abbrev pub invariant-loop-lit : goal.invariant-loop-lit
invariant-loop-lit l = record {
  shows : Shows l.valuation.round l.valuation.marks.items (take l.lit-index l.lits);
  len : length l.valuation.marks.items ≡ length l.fn.valuation.marks.items;
  sound : IsSound l.valuation.round l.valuation.marks.items;
}
