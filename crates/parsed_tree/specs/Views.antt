-- The plain tree that a tree of the code stands for.
use Rattle.std.specs.Prelude.{List, [], ◌∷◌, map, Option, Some, None}
use Rattle.std.specs.Option.{option_map}
use Rattle.gc0_base.specs.declared.place.Place.{Place}
use Rattle.parsed_tree.specs.declared.expressions.Expr.{Expr}
use Rattle.parsed_tree.specs.declared.expressions.Expr.TheOpen.{Expr-F}
use Rattle.parsed_tree.specs.declared.expressions.Expr.TheFolds.{fold-Expr}
use Rattle.parsed_tree.specs.declared.statements.Formula.{Formula}
use Rattle.parsed_tree.specs.declared.statements.Instance.{Instance}
use Rattle.parsed_tree.specs.declared.statements.NoteForm.{NoteForm as Form}
use Rattle.parsed_tree.specs.declared.statements.NoteForm.TheVariants as form
use Rattle.parsed_tree.specs.declared.statements.Note.{Note}
use Rattle.parsed_tree.specs.declared.statements.Invariant.{Invariant}
use Rattle.parsed_tree.specs.declared.statements.Invariants.{Invariants}
use Rattle.parsed_tree.specs.declared.statements.Simple.{Simple}
use Rattle.parsed_tree.specs.declared.statements.Simple.TheVariants as simple
use Rattle.parsed_tree.specs.declared.statements.Stmt.{Stmt}
use Rattle.parsed_tree.specs.declared.statements.Stmt.TheOpen.{Stmt-F}
use Rattle.parsed_tree.specs.declared.statements.Stmt.TheFolds.{fold-Stmt}
use Rattle.parsed_tree.specs.declared.items.Clause.{Clause}
use Rattle.parsed_tree.specs.declared.items.Contract.{Contract}
use Rattle.parsed_tree.specs.declared.items.PredicateText.{PredicateText}
use Rattle.parsed_tree.specs.declared.items.Item.{Item}
use Rattle.parsed_tree.specs.declared.items.Item.TheVariants as item
use Rattle.parsed_tree.specs.declared.items.Parsed.{Parsed}
use Rattle.parsed_tree.specs.Tree.{ExprTree, number, truth, null, local, outcome, unary, binary, choose, arrow, call, call_text, alloc, acc, ExprTrees, no_exprs, expr_and, FormulaTree, InstanceTree, NoteForm, assert_note, fold_note, unfold_note, NoteTree, InvariantTree, InvariantsTree, SimpleTree, declare, assign, stepped, plain, StmtTree, simple_stmt, block_stmt, if_stmt, while_stmt, for_stmt, return_stmt, assert_stmt, error_stmt, notes_stmt, StmtTrees, no_stmts, stmt_and, ClauseTree, ContractTree, PredicateTree, ItemTree, struct_name, struct_item, typedef_item, prototype_item, function_item, predicates_item, ProgramTree}

abbrev pub exprs_of : List ExprTree → ExprTrees
exprs_of [] = no_exprs
exprs_of (t ∷ ts) = expr_and t (exprs_of ts)

abbrev pub expr_at : Expr-F ExprTree → ExprTree
expr_at (Expr-F.Number s w) = number s w
expr_at (Expr-F.Truth s b) = truth s b
expr_at (Expr-F.Null s) = null s
expr_at (Expr-F.Local s n) = local s n
expr_at (Expr-F.Outcome s) = outcome s
expr_at (Expr-F.Unary s o x) = unary s o x
expr_at (Expr-F.Binary s o x y) = binary s o x y
expr_at (Expr-F.Choose s x y z) = choose s x y z
expr_at (Expr-F.Arrow s x n) = arrow s x n
expr_at (Expr-F.Call s n xs) = call s n (exprs_of xs)
expr_at (Expr-F.CallText s n t) = call_text s n t
expr_at (Expr-F.Alloc s t) = alloc s t
expr_at (Expr-F.Acc s x a n) = acc s x a n

abbrev pub expr_view : Expr → ExprTree
expr_view = fold-Expr ExprTree expr_at

abbrev pub exprs_view : List Expr → ExprTrees
exprs_view es = exprs_of (map expr_view es)

abbrev pub formula_view : Formula → FormulaTree
formula_view f = record { imprecise = f.imprecise; parts = option_map expr_view f.parts }

abbrev pub instance_view : Instance → InstanceTree
instance_view i = record { name = i.name; arguments = exprs_view i.arguments }

abbrev pub form_view : Form → NoteForm
form_view (form.Assert f) = assert_note (formula_view f)
form_view (form.Fold i) = fold_note (instance_view i)
form_view (form.Unfold i) = unfold_note (instance_view i)

abbrev pub note_view : Note → NoteTree
note_view n = record { place = n.place; form = form_view n.form }

abbrev pub invariant_view : Invariant → InvariantTree
invariant_view i = record { place = i.place; formula = formula_view i.formula }

abbrev pub invariants_view : Invariants → InvariantsTree
invariants_view i = record { place = i.place; clauses = map invariant_view i.clauses }

-- a value, and the place of the `=` before it
abbrev pub value_view : Place × Expr → Place × ExprTree
value_view v = (v.0, expr_view v.1)

abbrev pub simple_view : Simple → SimpleTree
simple_view (simple.Declare t n v) = declare t n (option_map value_view v)
simple_view (simple.Assign x q o y) = assign (expr_view x) q o (expr_view y)
simple_view (simple.Step x q o) = stepped (expr_view x) q o
simple_view (simple.Plain x) = plain (expr_view x)

abbrev pub stmts_of : List StmtTree → StmtTrees
stmts_of [] = no_stmts
stmts_of (s ∷ ss) = stmt_and s (stmts_of ss)

-- an absent statement is none
abbrev pub stmts_in : Option StmtTree → StmtTrees
stmts_in None = no_stmts
stmts_in (Some s) = stmt_and s no_stmts

abbrev pub stmt_at : Stmt-F StmtTree → StmtTree
stmt_at (Stmt-F.Simple s) = simple_stmt (simple_view s)
stmt_at (Stmt-F.Block p ss) = block_stmt p (stmts_of ss)
stmt_at (Stmt-F.If p e s o) = if_stmt p (expr_view e) s (stmts_in o)
stmt_at (Stmt-F.While p e is s) = while_stmt p (expr_view e) (map invariants_view is) s
stmt_at (Stmt-F.For p a e b is s) = for_stmt p (option_map simple_view a) (expr_view e) (option_map simple_view b) (map invariants_view is) s
stmt_at (Stmt-F.Return p e) = return_stmt p (option_map expr_view e)
stmt_at (Stmt-F.Assert p e) = assert_stmt p (expr_view e)
stmt_at (Stmt-F.Error p t) = error_stmt p t
stmt_at (Stmt-F.Notes p ns) = notes_stmt p (map note_view ns)

abbrev pub stmt_view : Stmt → StmtTree
stmt_view = fold-Stmt StmtTree stmt_at

abbrev pub stmts_view : List Stmt → StmtTrees
stmts_view ss = stmts_of (map stmt_view ss)

abbrev pub clause_view : Clause → ClauseTree
clause_view c = record { place = c.place; side = c.side; formula = formula_view c.formula }

abbrev pub contract_view : Contract → ContractTree
contract_view c = record { place = c.place; clauses = map clause_view c.clauses }

abbrev pub predicate_view : PredicateText → PredicateTree
predicate_view p = record { place = p.place; name = p.name; params = p.params; body = expr_view p.body }

abbrev pub item_view : Item → ItemTree
item_view (item.StructName p n) = struct_name p n
item_view (item.Struct p n fs) = struct_item p n fs
item_view (item.Typedef p t n) = typedef_item p t n
item_view (item.Prototype h cs) = prototype_item h (map contract_view cs)
item_view (item.Function h cs ss e) = function_item h (map contract_view cs) (stmts_view ss) e
item_view (item.Predicates p ps) = predicates_item p (map predicate_view ps)

abbrev pub program_view : Parsed → ProgramTree
program_view p = record { uses = p.uses; items = map item_view p.items }
