-- The trees that values of the code stand for, each by one fold.
use Rattle.std.specs.Prelude.{List, [], ◌∷◌, map, Option, Some, None}
use Rattle.gc0_base.specs.declared.place.Place.{Place}
use Rattle.gc0_tree.specs.declared.Expr.{Expr, Expr-F, fold-Expr}
use Rattle.gc0_tree.specs.declared.ExprForm.{ExprForm, fold-ExprForm}
use Rattle.gc0_tree.specs.declared.ExprForm.TheOpen.{ExprForm-F}
use Rattle.gc0_tree.specs.declared.Conjunct.{Conjunct, fold-Conjunct}
use Rattle.gc0_tree.specs.declared.Conjunct.TheOpen.{Conjunct-F}
use Rattle.gc0_tree.specs.declared.Formula.{Formula}
use Rattle.gc0_tree.specs.declared.Note.{Note}
use Rattle.gc0_tree.specs.declared.Note.TheVariants as note
use Rattle.gc0_tree.specs.declared.Stmt.{Stmt, Stmt-F, fold-Stmt}
use Rattle.gc0_tree.specs.declared.StmtForm.{StmtForm, fold-StmtForm}
use Rattle.gc0_tree.specs.declared.StmtForm.TheOpen.{StmtForm-F}
use Rattle.gc0_tree.specs.declared.Struct.{Struct}
use Rattle.gc0_tree.specs.declared.Predicate.{Predicate}
use Rattle.gc0_tree.specs.declared.Function.{Function}
use Rattle.gc0_tree.specs.declared.Program.{Program}
use Rattle.gc0_tree.specs.Tree as tree
use Rattle.gc0_tree.specs.Tree.{Tree, number_at, truth_at, null_at, local_at, result_at, unary_at, binary_at, both_at, either_at, choose_at, read_at, call_at, library_at, alloc_at, Trees, no_trees, tree_and, Conjuncts, no_parts, value_part, acc_part, instance_part, choice_part}

abbrev pub trees_of : List Tree → Trees
trees_of [] = no_trees
trees_of (t ∷ ts) = tree_and t (trees_of ts)

-- an absent expression is none
abbrev pub trees_in : Option Tree → Trees
trees_in None = no_trees
trees_in (Some t) = tree_and t no_trees

-- a form at a place, with the tree of each part in its stead
abbrev pub form_at : ExprForm-F (Place → Tree) Tree → Place → Tree
form_at (ExprForm-F.Number w) at = number_at at w.0
form_at (ExprForm-F.Truth b) at = truth_at at b
form_at ExprForm-F.Null at = null_at at
form_at (ExprForm-F.Local i) at = local_at at i
form_at ExprForm-F.ResultValue at = result_at at
form_at (ExprForm-F.Unary op a) at = unary_at at op a
form_at (ExprForm-F.Binary op a b) at = binary_at at op a b
form_at (ExprForm-F.Both a b) at = both_at at a b
form_at (ExprForm-F.Either a b) at = either_at at a b
form_at (ExprForm-F.Choose a b c) at = choose_at at a b c
form_at (ExprForm-F.Read base s f) at = read_at at base s f
form_at (ExprForm-F.Call f args) at = call_at at f (trees_of args)
form_at (ExprForm-F.Library c arg text) at = library_at at c (trees_in arg) text
form_at (ExprForm-F.Alloc s) at = alloc_at at s

abbrev pub expr_at : Expr-F (Place → Tree) Tree → Tree
expr_at e = e.form e.place

abbrev pub expr_view : Expr → Tree
expr_view = fold-Expr (Place → Tree) Tree form_at expr_at

-- a form at the place of its expression
abbrev pub form_view : ExprForm → Place → Tree
form_view = fold-ExprForm (Place → Tree) Tree form_at expr_at

abbrev pub exprs_view : List Expr → Trees
exprs_view es = trees_of (map expr_view es)

abbrev pub expr_in : Option Expr → Trees
expr_in None = no_trees
expr_in (Some e) = tree_and (expr_view e) no_trees

-- each conjunct before those that follow it
abbrev pub in_front : List (Conjuncts → Conjuncts) → Conjuncts → Conjuncts
in_front [] rest = rest
in_front (c ∷ cs) rest = c (in_front cs rest)

abbrev pub conjunct_at : Conjunct-F (Conjuncts → Conjuncts) → Conjuncts → Conjuncts
conjunct_at (Conjunct-F.Value e) rest = value_part (expr_view e) rest
conjunct_at (Conjunct-F.Acc e f) rest = acc_part (expr_view e) f rest
conjunct_at (Conjunct-F.Instance at p args) rest = instance_part at p (exprs_view args) rest
conjunct_at (Conjunct-F.Choice at c these those) rest = choice_part at (expr_view c) (in_front these no_parts) (in_front those no_parts) rest

-- a conjunct before others
abbrev pub conjunct_view : Conjunct → Conjuncts → Conjuncts
conjunct_view = fold-Conjunct (Conjuncts → Conjuncts) conjunct_at

abbrev pub conjuncts_view : List Conjunct → Conjuncts
conjuncts_view cs = in_front (map conjunct_view cs) no_parts

abbrev pub formula_view : Formula → tree.Formula
formula_view f = record { imprecise = f.imprecise; parts = conjuncts_view f.parts }

abbrev pub stmts_of : List tree.Stmt → tree.Stmts
stmts_of [] = tree.no_stmts
stmts_of (s ∷ ss) = tree.stmt_and s (stmts_of ss)

-- an absent statement is none
abbrev pub stmts_in : Option tree.Stmt → tree.Stmts
stmts_in None = tree.no_stmts
stmts_in (Some s) = tree.stmt_and s tree.no_stmts

abbrev pub note_form : Note → Place → tree.Stmt
note_form (note.Assert f) at = tree.note_at at tree.assert_note (formula_view f)
note_form (note.Fold f) at = tree.note_at at tree.fold_note (formula_view f)
note_form (note.Unfold f) at = tree.note_at at tree.unfold_note (formula_view f)

abbrev pub stmt_form : StmtForm-F (Place → tree.Stmt) tree.Stmt → Place → tree.Stmt
stmt_form (StmtForm-F.Declare i e) at = tree.declare_at at i (expr_in e)
stmt_form (StmtForm-F.Assign i op op_at e) at = tree.assign_at at i op op_at (expr_view e)
stmt_form (StmtForm-F.Write base k f arrow op op_at e) at = tree.write_at at (expr_view base) k f arrow op op_at (expr_view e)
stmt_form (StmtForm-F.Plain e) at = tree.plain_at at (expr_view e)
stmt_form (StmtForm-F.Block ss) at = tree.block_at at (stmts_of ss)
stmt_form (StmtForm-F.If c a b) at = tree.if_at at (expr_view c) a (stmts_in b)
stmt_form (StmtForm-F.While inv test body) at = tree.while_at at (formula_view inv) (expr_view test) body
stmt_form (StmtForm-F.For first test last inv body) at = tree.for_at at (stmts_in first) (expr_view test) (stmts_in last) (formula_view inv) body
stmt_form (StmtForm-F.Return e) at = tree.return_at at (expr_in e)
stmt_form (StmtForm-F.Assert e) at = tree.assert_at at (expr_view e)
stmt_form (StmtForm-F.Raise text) at = tree.raise_at at text
stmt_form (StmtForm-F.Note n) at = note_form n at

abbrev pub stmt_placed : Stmt-F (Place → tree.Stmt) tree.Stmt → tree.Stmt
stmt_placed s = s.form s.place

abbrev pub stmt_view : Stmt → tree.Stmt
stmt_view = fold-Stmt (Place → tree.Stmt) tree.Stmt stmt_form stmt_placed

-- a form at the place of its statement
abbrev pub stmt_form_view : StmtForm → Place → tree.Stmt
stmt_form_view = fold-StmtForm (Place → tree.Stmt) tree.Stmt stmt_form stmt_placed

abbrev pub stmts_view : List Stmt → tree.Stmts
stmts_view ss = stmts_of (map stmt_view ss)

abbrev pub struct_view : Struct → tree.Struct
struct_view s = record { name = s.name; fields = s.fields }

abbrev pub predicate_view : Predicate → tree.Predicate
predicate_view p = record { name = p.name; params = p.params; body = conjuncts_view p.body }

abbrev pub function_view : Function → tree.Function
function_view f = record { name = f.name; place = f.place; close = f.close; params = f.params; locals = f.locals; result = f.result; before = formula_view f.before; after = formula_view f.after; body = stmts_view f.body }

abbrev pub program_view : Program → tree.Program
program_view p = record { structs = map struct_view p.structs; predicates = map predicate_view p.predicates; functions = map function_view p.functions; main = p.main; texts = p.texts }
