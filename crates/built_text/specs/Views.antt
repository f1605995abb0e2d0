-- The plain tree that a tree of the program stands for.
use Rattle.std.specs.Prelude.{List, [], ◌∷◌, map}
use Rattle.built_text.specs.declared.tree.Expr.{Expr}
use Rattle.built_text.specs.declared.tree.Expr.TheOpen.{Expr-F}
use Rattle.built_text.specs.declared.tree.Expr.TheFolds.{fold-Expr}
use Rattle.built_text.specs.declared.tree.Call.{Call}
use Rattle.built_text.specs.declared.tree.Right.{Right}
use Rattle.built_text.specs.declared.tree.Right.TheVariants as right
use Rattle.built_text.specs.declared.tree.Formula.{Formula}
use Rattle.built_text.specs.declared.tree.Note.{Note}
use Rattle.built_text.specs.declared.tree.Stmt.{Stmt}
use Rattle.built_text.specs.declared.tree.Stmt.TheOpen.{Stmt-F}
use Rattle.built_text.specs.declared.tree.Stmt.TheFolds.{fold-Stmt}
use Rattle.built_text.specs.declared.tree.Clause.{Clause}
use Rattle.built_text.specs.declared.tree.Function.{Function}
use Rattle.built_text.specs.declared.tree.Program.{Program}
use Rattle.built_text.specs.Tree.{ExprTree, number, truth, local, outcome, unary, binary, CallTree, RightTree, value, call, FormulaTree, NoteTree, StmtTree, declare, assign, call_stmt, print_stmt, return_stmt, if_stmt, while_stmt, assert_stmt, StmtTrees, no_stmts, stmt, ClauseTree, FunctionTree, ProgramTree}

abbrev pub expr_at : Expr-F ExprTree → ExprTree
expr_at (Expr-F.Number s w) = number s w
expr_at (Expr-F.Truth s b) = truth s b
expr_at (Expr-F.Local s n) = local s n
expr_at (Expr-F.Outcome s) = outcome s
expr_at (Expr-F.Unary s o x) = unary s o x
expr_at (Expr-F.Binary s o x y) = binary s o x y

abbrev pub expr_view : Expr → ExprTree
expr_view = fold-Expr ExprTree expr_at

abbrev pub exprs_view : List Expr → List ExprTree
exprs_view es = map expr_view es

abbrev pub call_view : Call → CallTree
call_view c = record { name = c.name; arguments = exprs_view c.arguments }

abbrev pub right_view : Right → RightTree
right_view (right.Value e) = value (expr_view e)
right_view (right.Call c) = call (call_view c)

abbrev pub formula_view : Formula → FormulaTree
formula_view f = record { imprecise = f.imprecise; conjuncts = exprs_view f.conjuncts }

abbrev pub note_view : Note → NoteTree
note_view n = record { place = n.place; formula = formula_view n.formula }

abbrev pub notes_view : List Note → List NoteTree
notes_view ns = map note_view ns

abbrev pub stmts_of : List StmtTree → StmtTrees
stmts_of [] = no_stmts
stmts_of (s ∷ ss) = stmt s (stmts_of ss)

abbrev pub stmt_at : Stmt-F StmtTree → StmtTree
stmt_at (Stmt-F.Declare t n q r) = declare t n q (right_view r)
stmt_at (Stmt-F.Assign n q r) = assign n q (right_view r)
stmt_at (Stmt-F.Call c) = call_stmt (call_view c)
stmt_at (Stmt-F.Print p s e) = print_stmt p s (expr_view e)
stmt_at (Stmt-F.Return p e) = return_stmt p (expr_view e)
stmt_at (Stmt-F.If p e ss os) = if_stmt p (expr_view e) (stmts_of ss) (stmts_of os)
stmt_at (Stmt-F.While p e ns ss) = while_stmt p (expr_view e) (notes_view ns) (stmts_of ss)
stmt_at (Stmt-F.Assert n) = assert_stmt (note_view n)

abbrev pub stmt_view : Stmt → StmtTree
stmt_view = fold-Stmt StmtTree stmt_at

abbrev pub stmts_view : List Stmt → StmtTrees
stmts_view ss = stmts_of (map stmt_view ss)

abbrev pub clause_view : Clause → ClauseTree
clause_view c = record { kind = c.kind; note = note_view c.note }

abbrev pub clauses_view : List Clause → List ClauseTree
clauses_view cs = map clause_view cs

abbrev pub function_view : Function → FunctionTree
function_view f = record { typed = f.typed; name = f.name; parameters = f.parameters; contract = clauses_view f.contract; body = stmts_view f.body; close = f.close }

abbrev pub program_view : Program → ProgramTree
program_view p = record { functions = map function_view p.functions }
