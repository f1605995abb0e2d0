use Rattle.std.proofs.Common.{◌≡◌, ◌↔◌, true, take, length}
use Rattle.sat_check.specs.Logs.{AllFollow, HasEmpty}
use Rattle.sat_check.specs.Marks.{IsSound}
use Rattle.sat_check.proofs.checker.verdict_of.Given as goal

abbrev pub invariant-loop-index : goal.invariant-loop-index
invariant-loop-index l = record {
  follow : AllFollow l.clauses l.entries l.index;
  empty : (l.empty ≡ true) ↔ HasEmpty (take l.index l.entries);
  len : length l.valuation.marks.items ≡ length l.initial.valuation.marks.items;
  sound : IsSound l.valuation.round l.valuation.marks.items;
}
