use Rattle.std.proofs.Common.{◌≡◌, ℕ, ◌<◌, Some, length}
use Rattle.std.specs.List.{slice_get, Contains}
use Rattle.sat_check.specs.declared.clause.Lit.{Lit}
use Rattle.sat_check.specs.declared.clause.Clause.{Clause}
use Rattle.plain_search.specs.Occurrences.{occurrences_of}
use Rattle.plain_search.proofs.solver.all_occurrences.Given as goal

abbrev pub invariant-loop-index : goal.invariant-loop-index
invariant-loop-index l = record {
  positive : length l.occurrences.positive.items ≡ l.variables;
  negative : length l.occurrences.negative.items ≡ l.variables;
  complete :
      (index : ℕ) (clause : Clause) (lit : Lit) → index < l.index → slice_get l.clauses index ≡ Some clause → Contains clause.lits lit
      → Contains (occurrences_of l.occurrences.positive.items l.occurrences.negative.items lit) index;
}
