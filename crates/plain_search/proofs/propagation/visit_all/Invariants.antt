use Rattle.std.proofs.Common.{◌≡◌, ℕ, Some, length, take}
use Rattle.std.specs.List.{slice_get, Contains}
use Rattle.sat_check.specs.declared.clause.Clause.{Clause}
use Rattle.sat_check.specs.Logs.{known_before}
use Rattle.search_base.specs.Trails.{Keeps}
use Rattle.plain_search.specs.Looks.{IsSettled}
use Rattle.search_base.specs.Propagation.{Extends}
use Rattle.plain_search.proofs.propagation.visit_all.Given as goal

abbrev pub invariant-loop-index : goal.invariant-loop-index
invariant-loop-index l = record {
  len : length l.trail.slots.items ≡ length l.initial.trail.slots.items;
  keeps : Keeps (known_before l.clauses l.entries) l.trail.slots.items l.trail.steps.items;
  extends : Extends l.initial.trail.steps.items l.trail.steps.items;
  settled :
      (index : ℕ) (clause : Clause) → Contains (take l.index-index l.indices) index → slice_get (known_before l.clauses l.entries) index ≡ Some clause
      → IsSettled l.trail.steps.items (length l.initial.trail.steps.items) clause.lits;
}
