-- What holds in the loop of `joined`.
use Rattle.std.proofs.Common.{◌≡◌, drop, map}
use Rattle.gc0_tree.specs.Tree.{no_parts}
use Rattle.gc0_tree.specs.Views.{in_front, conjunct_view}
use Rattle.parsed_tree.specs.Views.{formula_view}
use Rattle.c0_value_numbers.specs.Formulas.{all_parts}
use Rattle.c0_value_numbers.proofs.formulas.joined.Given as goal

abbrev pub invariant-loop-formula : goal.invariant-loop-formula
invariant-loop-formula l = in_front (map conjunct_view l.parts) (all_parts l.tables l.frame (map (λ g. formula_view g.now) (drop l.formula-index l.formulas)) no_parts) ≡ all_parts l.tables l.frame (map (λ g. formula_view g.now) l.formulas) no_parts
