use Rattle.std.proofs.Common.{◌≡◌, ℕ, Some, true, length, take}
use Rattle.std.specs.List.{slice_get}
use Rattle.search_base.specs.Analysis.{AllMarked}
use Rattle.search_base.proofs.analysis.mark_lits.Given as goal

abbrev pub invariant-loop-lit : goal.invariant-loop-lit
invariant-loop-lit l = record {
  len : length l.marks.items ≡ length l.initial.marks.items;
  kept : (variable : ℕ) → slice_get l.initial.marks.items variable ≡ Some true → slice_get l.marks.items variable ≡ Some true;
  marked : AllMarked l.marks.items (take l.lit-index l.lits);
}
