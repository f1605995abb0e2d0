-- The two faults of a tree: a contract at a head that ends with `;`, and a read of a formula in an
-- operand that may not be evaluated. In reading order, so that the first one comes first in the text.
-- Source: this project's own (the formulas of Gradual C0 read their operands whole).
use Rattle.std.specs.Prelude.{List, [], ◌∷◌, ◌++◌, Option, Some, None}
use Rattle.gc0_base.specs.declared.place.Place.{Place}
use Rattle.parsed_tree.specs.declared.expressions.Operator.TheVariants as op
use Rattle.parsed_tree.specs.Tree.{ExprTree, unary, binary, choose, arrow, call, acc, ExprTrees, no_exprs, expr_and, FormulaTree, NoteForm, assert_note, fold_note, unfold_note, NoteTree, InvariantTree, InvariantsTree, StmtTree, block_stmt, if_stmt, while_stmt, for_stmt, notes_stmt, StmtTrees, no_stmts, stmt_and, ClauseTree, ContractTree, PredicateTree, ItemTree, prototype_item, function_item, predicates_item, ProgramTree}

pub data TreeFault : Type 0 where
  contract_on_prototype : Place → TreeFault
  deep_read : Place → TreeFault

abbrev pub all_of : {A : Type 0} → (A → List TreeFault) → List A → List TreeFault
all_of f [] = []
all_of f (x ∷ xs) = f x ++ all_of f xs

-- the `->` of each read
abbrev mutual
  pub reads_in : ExprTree → List TreeFault
  reads_in (unary s o x) = reads_in x
  reads_in (binary s o x y) = reads_in x ++ reads_in y
  reads_in (choose s x y z) = reads_in x ++ (reads_in y ++ reads_in z)
  reads_in (arrow s x n) = reads_in x ++ deep_read s.place ∷ []
  reads_in (call s n xs) = all_reads_in xs
  reads_in (acc s x p n) = reads_in x
  reads_in e = []

  pub all_reads_in : ExprTrees → List TreeFault
  all_reads_in no_exprs = []
  all_reads_in (expr_and x xs) = reads_in x ++ all_reads_in xs

-- a value, or the condition of a choice: each read in an operand of `&&`, `||` or `?:`
abbrev pub deep_in : ExprTree → List TreeFault
deep_in (unary s o x) = deep_in x
deep_in (binary s op.Both x y) = reads_in x ++ reads_in y
deep_in (binary s op.Either x y) = reads_in x ++ reads_in y
deep_in (binary s o x y) = deep_in x ++ deep_in y
deep_in (choose s x y z) = reads_in x ++ (reads_in y ++ reads_in z)
deep_in (arrow s x n) = deep_in x
deep_in e = []

abbrev pub deep_args : ExprTrees → List TreeFault
deep_args no_exprs = []
deep_args (expr_and x xs) = deep_in x ++ deep_args xs

-- to the left of `||` stand conditions: `(a || b) || c` is taken as `a || (b || c)`
abbrev pub deep_conditions : ExprTree → List TreeFault
deep_conditions (binary s op.Either x y) = deep_conditions x ++ deep_conditions y
deep_conditions e = deep_in e

-- conjuncts
abbrev pub deep_parts : ExprTree → List TreeFault
deep_parts (binary s op.Both x y) = deep_parts x ++ deep_parts y
deep_parts (binary s op.Either x y) = deep_conditions x ++ deep_parts y
deep_parts (choose s x y z) = deep_in x ++ (deep_parts y ++ deep_parts z)
deep_parts (call s n xs) = deep_args xs
deep_parts (acc s x p n) = []
deep_parts e = deep_in e

abbrev pub option_faults : {A : Type 0} → (A → List TreeFault) → Option A → List TreeFault
option_faults f None = []
option_faults f (Some x) = f x

abbrev pub formula_faults : FormulaTree → List TreeFault
formula_faults f = option_faults deep_parts f.parts

abbrev pub note_faults : NoteTree → List TreeFault
note_faults n = form_faults n.form
  where
    form_faults : NoteForm → List TreeFault
    form_faults (assert_note f) = formula_faults f
    form_faults (fold_note i) = deep_args i.arguments
    form_faults (unfold_note i) = deep_args i.arguments

abbrev pub invariant_faults : InvariantTree → List TreeFault
invariant_faults i = formula_faults i.formula

abbrev pub invariants_faults : InvariantsTree → List TreeFault
invariants_faults i = all_of invariant_faults i.clauses

abbrev mutual
  pub stmt_faults : StmtTree → List TreeFault
  stmt_faults (block_stmt p ss) = stmts_faults ss
  stmt_faults (if_stmt p e s os) = stmt_faults s ++ stmts_faults os
  stmt_faults (while_stmt p e is s) = all_of invariants_faults is ++ stmt_faults s
  stmt_faults (for_stmt p a e b is s) = all_of invariants_faults is ++ stmt_faults s
  stmt_faults (notes_stmt p ns) = all_of note_faults ns
  stmt_faults s = []

  pub stmts_faults : StmtTrees → List TreeFault
  stmts_faults no_stmts = []
  stmts_faults (stmt_and s ss) = stmt_faults s ++ stmts_faults ss

abbrev pub clause_faults : ClauseTree → List TreeFault
clause_faults c = formula_faults c.formula

abbrev pub contract_faults : ContractTree → List TreeFault
contract_faults c = all_of clause_faults c.clauses

-- a clause of a prototype, at its word, before the reads in it
abbrev pub prototype_clause : ClauseTree → List TreeFault
prototype_clause c = contract_on_prototype c.place ∷ formula_faults c.formula

abbrev pub prototype_contract : ContractTree → List TreeFault
prototype_contract c = all_of prototype_clause c.clauses

abbrev pub predicate_faults : PredicateTree → List TreeFault
predicate_faults q = deep_parts q.body

abbrev pub item_faults : ItemTree → List TreeFault
item_faults (prototype_item h cs) = all_of prototype_contract cs
item_faults (function_item h cs ss e) = all_of contract_faults cs ++ stmts_faults ss
item_faults (predicates_item p qs) = all_of predicate_faults qs
item_faults i = []

-- all of them, in the order of the text
abbrev pub tree_faults : ProgramTree → List TreeFault
tree_faults p = all_of item_faults p.items
