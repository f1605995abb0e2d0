-- Statements with numbers in place of names. `ts` are the texts before. All locals of a function have numbers of their own, those of its
-- blocks among them, in the order of their declarations.
-- Source: C0 Reference, "Statements" and "Scope"; of annotations, Gradual C0. The numbers are this project's own.
use Rattle.std.specs.Prelude.{ℕ, Bool, length, List, [], ◌∷◌, ◌++◌, Option, Some, None}
use Rattle.std.specs.Option.{option_map}
use Rattle.gc0_base.specs.declared.place.Place.{Place}
use Rattle.parsed_tree.specs.declared.expressions.Named.{Named}
use Rattle.parsed_tree.specs.declared.expressions.TypeName.{TypeName}
use Rattle.parsed_tree.specs.declared.statements.UpdateOperator.{UpdateOperator}
use Rattle.parsed_tree.specs.declared.statements.UpdateOperator.TheVariants as update
use Rattle.parsed_tree.specs.declared.statements.StepOperator.{StepOperator}
use Rattle.parsed_tree.specs.declared.statements.StepOperator.TheVariants.{Increment, Decrement}
use Rattle.parsed_tree.specs.Tree.{ExprTree, number, truth, null, local, outcome, unary, binary, choose, arrow, call, call_text, alloc, acc, spot_of, NoteForm, assert_note, fold_note, unfold_note, NoteTree, SimpleTree, declare, assign, stepped, plain, StmtTree, simple_stmt, block_stmt, if_stmt, while_stmt, for_stmt, return_stmt, assert_stmt, error_stmt, notes_stmt, StmtTrees, no_stmts, stmt_and}
use Rattle.gc0_tree.specs.declared.ExprOp.{ExprOp}
use Rattle.gc0_tree.specs.declared.ExprOp.TheVariants as gc0_op
use Rattle.gc0_tree.specs.Tree as gc0
use Rattle.c0_names.specs.declared.tables.Tables.{Tables}
use Rattle.c0_value_numbers.specs.declared.frame.Frame.{Frame}
use Rattle.c0_value_numbers.specs.declared.values.FieldPlace.{FieldPlace}
use Rattle.c0_names.specs.Tables.{with_type, value_type}
use Rattle.c0_value_numbers.specs.Values.{number_in, accessed, type_in_frame}
use Rattle.c0_value_numbers.specs.Texts.{Texts, expr_texts}
use Rattle.c0_numbers.specs.StatementTexts.{simple_texts, part_texts, stmt_texts, stmts_texts}
use Rattle.c0_value_numbers.specs.Expressions.{expr_tree, one_tree}
use Rattle.c0_value_numbers.specs.Formulas.{formula_tree, instance_tree, joined, invariants}

-- ---- the locals declared behind a statement
abbrev pub with_local : Tables → Frame → TypeName → List ℕ → Frame
with_local t f n name = record f { locals = with_type f.locals name (value_type t n) }

abbrev pub simple_frame : Tables → Frame → SimpleTree → Frame
simple_frame t f (declare n name v) = with_local t f n name.name
simple_frame t f (assign x q o y) = f
simple_frame t f (stepped x q o) = f
simple_frame t f (plain x) = f

abbrev pub part_frame : Tables → Frame → Option SimpleTree → Frame
part_frame t f None = f
part_frame t f (Some s) = simple_frame t f s

abbrev mutual
  pub stmt_frame : Tables → Frame → StmtTree → Frame
  stmt_frame t f (simple_stmt s) = simple_frame t f s
  stmt_frame t f (block_stmt p ss) = stmts_frame t f ss
  stmt_frame t f (if_stmt p e s os) = stmts_frame t (stmt_frame t f s) os
  stmt_frame t f (while_stmt p e is s) = stmt_frame t f s
  stmt_frame t f (for_stmt p a e b is s) = stmt_frame t (part_frame t (part_frame t f a) b) s
  stmt_frame t f (return_stmt p e) = f
  stmt_frame t f (assert_stmt p e) = f
  stmt_frame t f (error_stmt p text) = f
  stmt_frame t f (notes_stmt p ns) = f

  pub stmts_frame : Tables → Frame → StmtTrees → Frame
  stmts_frame t f no_stmts = f
  stmts_frame t f (stmt_and s ss) = stmts_frame t (stmt_frame t f s) ss

-- ---- simple statements
abbrev pub update_of : UpdateOperator → ExprOp
update_of update.Add = gc0_op.Add
update_of update.Sub = gc0_op.Sub
update_of update.Mul = gc0_op.Mul
update_of update.Div = gc0_op.Div
update_of update.Rem = gc0_op.Rem
update_of update.And = gc0_op.And
update_of update.Xor = gc0_op.Xor
update_of update.Or = gc0_op.Or
update_of update.Shl = gc0_op.Shl
update_of update.Shr = gc0_op.Shr

-- `x++` is `x += 1`, and `x--` is `x -= 1`
abbrev pub step_of : StepOperator → ExprOp
step_of Increment = gc0_op.Add
step_of Decrement = gc0_op.Sub

abbrev pub optional_tree : Tables → Frame → Texts → Option ExprTree → gc0.Trees
optional_tree t f ts None = gc0.no_trees
optional_tree t f ts (Some e) = one_tree (expr_tree t f ts e)

abbrev pub initial_tree : Tables → Frame → Texts → Option (Place × ExprTree) → gc0.Trees
initial_tree t f ts None = gc0.no_trees
initial_tree t f ts (Some v) = one_tree (expr_tree t f ts v.1)

-- a write of a field behind a base, at the place of its first token and that of its `->`
abbrev pub write_tree : (first arrow_at : Place) → gc0.Tree → FieldPlace → Option ExprOp → (op_at : Place) → gc0.Tree → gc0.Stmt
write_tree first arrow_at base a o q y = gc0.write_at first base a.of_struct a.field arrow_at o q y

-- what is put into a target. The grammar has no other targets than a local and a field; another would be the value alone.
abbrev pub put_tree : Tables → Frame → Texts → (target : ExprTree) → Option ExprOp → (op_at : Place) → gc0.Tree → gc0.Stmt
put_tree t f ts (local s n) o q y = gc0.assign_at s.first (number_in f.locals.names n) o q y
put_tree t f ts (arrow s x n) o q y = write_tree s.first s.place (expr_tree t f ts x) (accessed t (type_in_frame t f x) n.name) o q y
put_tree t f ts x o q y = gc0.plain_at (spot_of x).first y

abbrev pub simple_tree : Tables → Frame → Texts → SimpleTree → gc0.Stmt
simple_tree t f ts (declare n name v) = gc0.declare_at n.place (length f.locals.names) (initial_tree t f ts v)
simple_tree t f ts (assign x q o y) = put_tree t f ts x (option_map update_of o) q (expr_tree t f (expr_texts ts x) y)
simple_tree t f ts (stepped x q o) = put_tree t f ts x (Some (step_of o)) q (gc0.number_at q 1)
simple_tree t f ts (plain x) = gc0.plain_at (spot_of x).first (expr_tree t f ts x)

abbrev pub part_tree : Tables → Frame → Texts → Option SimpleTree → gc0.Stmts
part_tree t f ts None = gc0.no_stmts
part_tree t f ts (Some s) = gc0.stmt_and (simple_tree t f ts s) gc0.no_stmts

-- ---- annotations
abbrev pub note_form : Tables → Frame → Place → NoteForm → gc0.Stmt
note_form t f p (assert_note g) = gc0.note_at p gc0.assert_note (formula_tree t f g)
note_form t f p (fold_note i) = gc0.note_at p gc0.fold_note (instance_tree t f i)
note_form t f p (unfold_note i) = gc0.note_at p gc0.unfold_note (instance_tree t f i)

-- the notes of an annotation before other statements
abbrev pub notes_tree : Tables → Frame → List NoteTree → gc0.Stmts → gc0.Stmts
notes_tree t f [] rest = rest
notes_tree t f (n ∷ ns) rest = gc0.stmt_and (note_form t f n.place n.form) (notes_tree t f ns rest)

-- an annotation alone, as the body of an `if` or a loop: its one note, or a block of them
abbrev pub alone : Place → gc0.Stmts → gc0.Stmt
alone p gc0.no_stmts = gc0.block_at p gc0.no_stmts
alone p (gc0.stmt_and s gc0.no_stmts) = s
alone p (gc0.stmt_and s (gc0.stmt_and r ss)) = gc0.block_at p (gc0.stmt_and s (gc0.stmt_and r ss))

-- ---- statements
-- a statement before others; the notes of an annotation stand among them one by one
abbrev pub before : Tables → Frame → StmtTree → gc0.Stmt → gc0.Stmts → gc0.Stmts
before t f (notes_stmt p ns) s rest = notes_tree t f ns rest
before t f x s rest = gc0.stmt_and s rest

abbrev mutual
  pub stmt_tree : Tables → Frame → Texts → StmtTree → gc0.Stmt
  stmt_tree t f ts (simple_stmt s) = simple_tree t f ts s
  stmt_tree t f ts (block_stmt p ss) = gc0.block_at p (stmts_tree t f ts ss)
  stmt_tree t f ts (if_stmt p e s os) = gc0.if_at p (expr_tree t f ts e) (stmt_tree t f (expr_texts ts e) s) (else_tree t (stmt_frame t f s) (stmt_texts (expr_texts ts e) s) os)
  stmt_tree t f ts (while_stmt p e is s) = gc0.while_at p (joined t f (invariants is)) (expr_tree t f ts e) (stmt_tree t f (expr_texts ts e) s)
  stmt_tree t f ts (for_stmt p a e b is s) =
      let inner = part_frame t f a in
      let before_test = part_texts ts a in
      let behind_test = expr_texts before_test e in
      let behind = part_frame t inner b in
      gc0.for_at p (part_tree t f ts a) (expr_tree t inner before_test e) (part_tree t inner behind_test b) (joined t behind (invariants is)) (stmt_tree t behind (part_texts behind_test b) s)
  stmt_tree t f ts (return_stmt p e) = gc0.return_at p (optional_tree t f ts e)
  stmt_tree t f ts (assert_stmt p e) = gc0.assert_at p (expr_tree t f ts e)
  stmt_tree t f ts (error_stmt p text) = gc0.raise_at p (length ts)
  stmt_tree t f ts (notes_stmt p ns) = alone p (notes_tree t f ns gc0.no_stmts)

  pub stmts_tree : Tables → Frame → Texts → StmtTrees → gc0.Stmts
  stmts_tree t f ts no_stmts = gc0.no_stmts
  stmts_tree t f ts (stmt_and s ss) = before t f s (stmt_tree t f ts s) (stmts_tree t (stmt_frame t f s) (stmt_texts ts s) ss)

  -- no `else`, or its one statement
  pub else_tree : Tables → Frame → Texts → StmtTrees → gc0.Stmts
  else_tree t f ts no_stmts = gc0.no_stmts
  else_tree t f ts (stmt_and s ss) = gc0.stmt_and (stmt_tree t f ts s) gc0.no_stmts
