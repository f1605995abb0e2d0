-- Laws of what a text without violations is resolved to.
use Rattle.std.specs.Prelude.{◌≡◌, ℕ, List, [], All}
use Rattle.parsed_tree.specs.Tree.{ProgramTree}
use Rattle.c0_grammar.specs.Tokens.{Token}
use Rattle.c0_grammar.specs.Reads.{Reads}
use Rattle.c0_rules.specs.Rules.{violations}
use Rattle.c0_numbers.specs.Resolved.{resolved}
use Rattle.lowering_laws.specs.Ends.{AllEnd}
use Rattle.lowering_laws.specs.Kept.{KeepsParams}
use Rattle.lowering_laws.specs.Formulas.{FormulasFit}
use Rattle.resolved_laws.specs.Operators.{OperatorsGive}

-- no path reaches the end of a function with a result, where the tree is that of a text that was read
abbrev pub ends_law : Type 0
ends_law = (limit : ℕ) (ts : List Token) (t : ProgramTree) → Reads limit ts t → violations t ≡ [] → AllEnd (resolved t)

-- no parameter that `ensures` names is assigned
abbrev pub kept_law : Type 0
kept_law = (t : ProgramTree) → violations t ≡ [] → All KeepsParams (resolved t).functions

-- each operator of `op=` gives an int
abbrev pub operators_law : Type 0
operators_law = (t : ProgramTree) → All OperatorsGive (resolved t).functions

-- no formula calls a function, and each `fold` and `unfold` states one instance
abbrev pub formulas_law : Type 0
formulas_law = (limit : ℕ) (ts : List Token) (t : ProgramTree) → Reads limit ts t → FormulasFit (resolved t)
