use Rattle.std.proofs.Common.{◌≡◌, ℕ, true, not, map, take, length, get_or}
use Rattle.gc0_tree.specs.Views.{function_view}
use Rattle.c0_meaning.specs.Precision.{is_open}
use Rattle.plain_functions.specs.Callers.{among}
use Rattle.plain_functions.proofs.marks.Marks.new.Given as goal

abbrev pub invariant-loop-number : goal.invariant-loop-number
invariant-loop-number l = record {
  count : length l.plain ≡ l.number;
  plain : l.plain ≡ map (λ f. not (is_open f)) (map function_view (take l.number l.functions));
  waiting : (f : ℕ) → among f l.waiting ≡ not (get_or l.plain f true);
}
