use Rattle.std.proofs.Common.{◌≡◌, ◌↔◌, List, drop, length}
use Rattle.sat_check.specs.declared.clause.Lit.{Lit}
use Rattle.sat_check.specs.Logs.{Refutes, known_before}
use Rattle.sat_check.specs.Marks.{Shows, IsSound}
use Rattle.sat_check.proofs.checker.refutes.Given as goal

abbrev pub invariant-loop-i : goal.invariant-loop-i
invariant-loop-i l = record {
  walk :
      (start : List Lit) → Shows l.initial.valuation.round l.initial.valuation.marks.items start
      → (falses : List Lit) × Shows l.valuation.round l.valuation.marks.items falses
      × (Refutes (known_before l.clauses l.earlier) start l.hints ↔ Refutes (known_before l.clauses l.earlier) falses (drop l.i l.hints));
  len : length l.valuation.marks.items ≡ length l.initial.valuation.marks.items;
  sound : IsSound l.valuation.round l.valuation.marks.items;
}
