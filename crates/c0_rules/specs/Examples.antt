-- The rules on small texts, each worked out by hand from them. The texts stand here as trees.
use Rattle.std.specs.Prelude.{◌≡◌, ℕ, ◌+◌, Bool, true, false, List, [], ◌∷◌, Option, Some, None, refl}
use Rattle.gc0_base.specs.declared.place.Place.{Place}
use Rattle.gc0_base.specs.declared.word.Word.{Word}
use Rattle.parsed_tree.specs.declared.expressions.Spot.{Spot}
use Rattle.parsed_tree.specs.declared.expressions.Named.{Named}
use Rattle.parsed_tree.specs.declared.expressions.Base.{Base}
use Rattle.parsed_tree.specs.declared.expressions.Base.TheVariants as base
use Rattle.parsed_tree.specs.declared.expressions.TypeName.{TypeName}
use Rattle.parsed_tree.specs.declared.expressions.Operator.TheVariants as op
use Rattle.parsed_tree.specs.declared.items.Field.{Field}
use Rattle.parsed_tree.specs.declared.items.Head.{Head}
use Rattle.parsed_tree.specs.declared.items.ResultType.TheVariants as result
use Rattle.parsed_tree.specs.declared.items.Side.TheVariants as side
use Rattle.parsed_tree.specs.Tree.{ExprTree, number, truth, null, local, binary, arrow, call, ExprTrees, no_exprs, expr_and, SimpleTree, declare, assign, stepped, plain, StmtTree, simple_stmt, if_stmt, while_stmt, block_stmt, return_stmt, StmtTrees, no_stmts, stmt_and, ContractTree, ItemTree, struct_item, function_item, ProgramTree}
use Rattle.c0_value_rules.specs.declared.violation.Rule.TheVariants as rule
use Rattle.c0_value_rules.specs.Violations.{violation, least_of}
use Rattle.c0_rules.specs.Rules.{violations}

abbrev at : ℕ → ℕ → Place
at line column = record { line = line; column = column }

abbrev spot : ℕ → ℕ → Spot
spot place first = record { place = at 1 place; first = at 1 first }

abbrev named : List ℕ → ℕ → Named
named n column = record { name = n; place = at 1 column }

abbrev word : ℕ → Word
word n = record { 0 = n }

abbrev typed : Base → ℕ → ℕ → TypeName
typed b stars column = record { place = at 1 column; base = b; stars = stars }

abbrev main : ℕ → List ContractTree → StmtTrees → ℕ → ItemTree
main column cs ss close = function_item (record { result = result.Typed (typed base.Int 0 column); name = named (109 ∷ 97 ∷ 105 ∷ 110 ∷ []) (column + 4); params = [] }) cs ss (at 1 close)

abbrev text : List ItemTree → ProgramTree
text items = record { uses = []; items = items }

abbrev x : List ℕ
x = 120 ∷ []

-- an empty text
row_1 : least_of (violations (text [])) ≡ Some (violation rule.NoMain (at 1 1))
row_1 = refl

-- a local is not in scope in its own declaration
--     int main() { int x = x; return x; }
row_2 : least_of (violations (text (main 1 [] (stmt_and (simple_stmt (declare (typed base.Int 0 14) (named x 18) (Some (at 1 20, local (spot 22 22) x)))) (stmt_and (return_stmt (at 1 25) (Some (local (spot 32 32) x))) no_stmts)) 35 ∷ []))) ≡ Some (violation rule.Unknown (at 1 22))
row_2 = refl

-- a local that no path has assigned
--     int main() { int x; return x; }
row_3 : least_of (violations (text (main 1 [] (stmt_and (simple_stmt (declare (typed base.Int 0 14) (named x 18) None)) (stmt_and (return_stmt (at 1 21) (Some (local (spot 28 28) x))) no_stmts)) 31 ∷ []))) ≡ Some (violation rule.Unassigned (at 1 28))
row_3 = refl

-- one that a branch has not assigned
--     int main() { int x; if (true) x = 1; return x; }
row_4 : least_of (violations (text (main 1 [] (stmt_and (simple_stmt (declare (typed base.Int 0 14) (named x 18) None)) (stmt_and (if_stmt (at 1 21) (truth (spot 25 25) true) (simple_stmt (assign (local (spot 31 31) x) (at 1 33) None (number (spot 35 35) (word 1)))) no_stmts) (stmt_and (return_stmt (at 1 38) (Some (local (spot 45 45) x))) no_stmts))) 48 ∷ []))) ≡ Some (violation rule.Unassigned (at 1 45))
row_4 = refl

-- where the other branch ends the path
--     int main() { int x; if (true) x = 1; else return 2; return x; }
row_5 : violations (text (main 1 [] (stmt_and (simple_stmt (declare (typed base.Int 0 14) (named x 18) None)) (stmt_and (if_stmt (at 1 21) (truth (spot 25 25) true) (simple_stmt (assign (local (spot 31 31) x) (at 1 33) None (number (spot 35 35) (word 1)))) (stmt_and (return_stmt (at 1 43) (Some (number (spot 50 50) (word 2)))) no_stmts)) (stmt_and (return_stmt (at 1 53) (Some (local (spot 60 60) x))) no_stmts))) 63 ∷ [])) ≡ []
row_5 = refl

-- a loop may run no time
--     int main() { while (true) return 1; }
row_6 : least_of (violations (text (main 1 [] (stmt_and (while_stmt (at 1 14) (truth (spot 21 21) true) [] (return_stmt (at 1 27) (Some (number (spot 34 34) (word 1))))) no_stmts) 37 ∷ []))) ≡ Some (violation rule.NoReturn (at 1 37))
row_6 = refl

-- `NULL` has no fields
--     int main() { return NULL->v; }
row_7 : least_of (violations (text (main 1 [] (stmt_and (return_stmt (at 1 14) (Some (arrow (spot 25 21) (null (spot 21 21)) (named (118 ∷ []) 27)))) no_stmts) 30 ∷ []))) ≡ Some (violation rule.WrongType (at 1 25))
row_7 = refl

-- a struct has no such field
--     struct s { int v; }; int main() { struct s* x = NULL; return x->w; }
row_8 : least_of (violations (text (struct_item (at 1 1) (named (115 ∷ []) 8) (record { typed = typed base.Int 0 12; name = named (118 ∷ []) 16 } ∷ []) ∷ main 22 [] (stmt_and (simple_stmt (declare (typed (base.Struct (named (115 ∷ []) 42)) 1 35) (named x 45) (Some (at 1 47, null (spot 49 49))))) (stmt_and (return_stmt (at 1 55) (Some (arrow (spot 63 62) (local (spot 62 62) x) (named (119 ∷ []) 65)))) no_stmts)) 68 ∷ []))) ≡ Some (violation rule.Unknown (at 1 65))
row_8 = refl

-- an argument comes before the called name
--     int main() { return g(1, y); }
row_9 : least_of (violations (text (main 1 [] (stmt_and (return_stmt (at 1 14) (Some (call (spot 21 21) (103 ∷ []) (expr_and (number (spot 23 23) (word 1)) (expr_and (local (spot 26 26) (121 ∷ [])) no_exprs))))) no_stmts) 30 ∷ []))) ≡ Some (violation rule.Unknown (at 1 26))
row_9 = refl
