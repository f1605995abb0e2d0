-- What an operator of `op=` gives in a resolved program.
use Rattle.std.proofs.Common.{◌≡◌, Bool, true, false, ◌&&◌, List, [], ◌∷◌, ◌++◌, Option, Some, None, option_map, refl}
use Rattle.std.specs.Prelude.{All}
use Rattle.std.proofs.lemmas.Bool.{and_from}
use Rattle.std.proofs.lemmas.List.Elements.{All-nil, All-cons}
use Rattle.gc0_base.specs.declared.place.Place.{Place}
use Rattle.gc0_tree.specs.declared.ExprOp.{ExprOp}
use Rattle.gc0_tree.specs.Tree as gc0
use Rattle.parsed_tree.specs.declared.statements.UpdateOperator.{UpdateOperator}
use Rattle.parsed_tree.specs.declared.statements.UpdateOperator.TheVariants as update
use Rattle.parsed_tree.specs.declared.statements.StepOperator.{StepOperator}
use Rattle.parsed_tree.specs.declared.statements.StepOperator.TheVariants.{Increment, Decrement}
use Rattle.parsed_tree.specs.Tree.{ExprTree, number, truth, null, local, outcome, unary, binary, choose, arrow, call, call_text, alloc, acc, NoteTree, NoteForm, assert_note, fold_note, unfold_note, SimpleTree, declare, assign, stepped, plain, StmtTree, simple_stmt, block_stmt, if_stmt, while_stmt, for_stmt, return_stmt, assert_stmt, error_stmt, notes_stmt, StmtTrees, no_stmts, stmt_and, ItemTree, struct_name, struct_item, typedef_item, prototype_item, function_item, predicates_item, ProgramTree}
use Rattle.c0_names.specs.declared.tables.Tables.{Tables}
use Rattle.c0_names.specs.Tables.{tables_of, result_type}
use Rattle.c0_value_numbers.specs.declared.frame.Frame.{Frame}
use Rattle.c0_value_numbers.specs.Texts.{Texts, expr_texts}
use Rattle.c0_numbers.specs.StatementTexts.{part_texts, stmt_texts, item_texts}
use Rattle.c0_numbers.specs.Statements.{update_of, step_of, put_tree, simple_tree, part_tree, part_frame, stmt_frame, note_form, notes_tree, alone, before, stmt_tree, stmts_tree, else_tree}
use Rattle.c0_numbers.specs.Resolved.{params_of, function_tree, item_functions, functions_tree, resolved}
use Rattle.lowering_laws.specs.Words.{gives_int}
use Rattle.resolved_laws.specs.Operators.{stmt_gives, stmts_give, OperatorsGive}

update_int : (o : Option UpdateOperator) → gives_int (option_map update_of o) ≡ true
update_int None = refl
update_int (Some update.Add) = refl
update_int (Some update.Sub) = refl
update_int (Some update.Mul) = refl
update_int (Some update.Div) = refl
update_int (Some update.Rem) = refl
update_int (Some update.And) = refl
update_int (Some update.Xor) = refl
update_int (Some update.Or) = refl
update_int (Some update.Shl) = refl
update_int (Some update.Shr) = refl

step_int : (o : StepOperator) → gives_int (Some (step_of o)) ≡ true
step_int Increment = refl
step_int Decrement = refl

put_gives : (u : Tables) (f : Frame) (ts : Texts) (x : ExprTree) (o : Option ExprOp) (q : Place) (y : gc0.Tree) → gives_int o ≡ true → stmt_gives (put_tree u f ts x o q y) ≡ true
put_gives u f ts (local s n) o q y h = h
put_gives u f ts (arrow s x n) o q y h = h
put_gives u f ts (number s w) o q y h = refl
put_gives u f ts (truth s b) o q y h = refl
put_gives u f ts (null s) o q y h = refl
put_gives u f ts (outcome s) o q y h = refl
put_gives u f ts (unary s p x) o q y h = refl
put_gives u f ts (binary s p x z) o q y h = refl
put_gives u f ts (choose s x z w) o q y h = refl
put_gives u f ts (call s n xs) o q y h = refl
put_gives u f ts (call_text s n t) o q y h = refl
put_gives u f ts (alloc s t) o q y h = refl
put_gives u f ts (acc s x p n) o q y h = refl

simple_gives : (u : Tables) (f : Frame) (ts : Texts) (s : SimpleTree) → stmt_gives (simple_tree u f ts s) ≡ true
simple_gives u f ts (declare n name v) = refl
simple_gives u f ts (assign x q o y) = put_gives u f ts x _ q _ (update_int o)
simple_gives u f ts (stepped x q o) = put_gives u f ts x _ q _ (step_int o)
simple_gives u f ts (plain x) = refl

part_gives : (u : Tables) (f : Frame) (ts : Texts) (s : Option SimpleTree) → stmts_give (part_tree u f ts s) ≡ true
part_gives u f ts None = refl
part_gives u f ts (Some s) = and_from _ true (simple_gives u f ts s) refl

note_gives : (u : Tables) (f : Frame) (p : Place) (n : NoteForm) → stmt_gives (note_form u f p n) ≡ true
note_gives u f p (assert_note g) = refl
note_gives u f p (fold_note i) = refl
note_gives u f p (unfold_note i) = refl

notes_give : (u : Tables) (f : Frame) (ns : List NoteTree) (rest : gc0.Stmts) → stmts_give rest ≡ true → stmts_give (notes_tree u f ns rest) ≡ true
notes_give u f [] rest h = h
notes_give u f (n ∷ ns) rest h = and_from _ _ (note_gives u f n.place n.form) (notes_give u f ns rest h)

alone_gives : (p : Place) (ss : gc0.Stmts) → stmts_give ss ≡ true → stmt_gives (alone p ss) ≡ true
alone_gives p gc0.no_stmts h = refl
alone_gives p (gc0.stmt_and s gc0.no_stmts) h = first (stmt_gives s) h
  where
    first : (b : Bool) → (b && true) ≡ true → b ≡ true
    first true e = refl
    first false e = e
alone_gives p (gc0.stmt_and s (gc0.stmt_and r ss)) h = h

before_gives : (u : Tables) (f : Frame) (s : StmtTree) (x : gc0.Stmt) (rest : gc0.Stmts) → stmt_gives x ≡ true → stmts_give rest ≡ true → stmts_give (before u f s x rest) ≡ true
before_gives u f (notes_stmt p ns) x rest a b = notes_give u f ns rest b
before_gives u f (simple_stmt s) x rest a b = and_from _ _ a b
before_gives u f (block_stmt p ss) x rest a b = and_from _ _ a b
before_gives u f (if_stmt p e s os) x rest a b = and_from _ _ a b
before_gives u f (while_stmt p e is s) x rest a b = and_from _ _ a b
before_gives u f (for_stmt p i e j is s) x rest a b = and_from _ _ a b
before_gives u f (return_stmt p e) x rest a b = and_from _ _ a b
before_gives u f (assert_stmt p e) x rest a b = and_from _ _ a b
before_gives u f (error_stmt p t) x rest a b = and_from _ _ a b

mutual
  stmt_given : (u : Tables) (f : Frame) (ts : Texts) (s : StmtTree) → stmt_gives (stmt_tree u f ts s) ≡ true
  stmt_given u f ts (simple_stmt s) = simple_gives u f ts s
  stmt_given u f ts (block_stmt p ss) = stmts_given u f ts ss
  stmt_given u f ts (if_stmt p e s os) = and_from _ _ (stmt_given u f (expr_texts ts e) s) (else_given u (stmt_frame u f s) (stmt_texts (expr_texts ts e) s) os)
  stmt_given u f ts (while_stmt p e is s) = stmt_given u f (expr_texts ts e) s
  stmt_given u f ts (for_stmt p a e b is s) =
      let inner = part_frame u f a in
      let behind_test = expr_texts (part_texts ts a) e in
      and_from _ _ (part_gives u f ts a) (and_from _ _ (part_gives u inner behind_test b) (stmt_given u (part_frame u inner b) (part_texts behind_test b) s))
  stmt_given u f ts (return_stmt p e) = refl
  stmt_given u f ts (assert_stmt p e) = refl
  stmt_given u f ts (error_stmt p x) = refl
  stmt_given u f ts (notes_stmt p ns) = alone_gives p (notes_tree u f ns gc0.no_stmts) (notes_give u f ns gc0.no_stmts refl)

  stmts_given : (u : Tables) (f : Frame) (ts : Texts) (ss : StmtTrees) → stmts_give (stmts_tree u f ts ss) ≡ true
  stmts_given u f ts no_stmts = refl
  stmts_given u f ts (stmt_and s ss) = before_gives u f s (stmt_tree u f ts s) (stmts_tree u (stmt_frame u f s) (stmt_texts ts s) ss) (stmt_given u f ts s) (stmts_given u (stmt_frame u f s) (stmt_texts ts s) ss)

  else_given : (u : Tables) (f : Frame) (ts : Texts) (os : StmtTrees) → stmts_give (else_tree u f ts os) ≡ true
  else_given u f ts no_stmts = refl
  else_given u f ts (stmt_and s ss) = and_from _ true (stmt_given u f ts s) refl

items_given : (u : Tables) (ts : Texts) (is : List ItemTree) → All OperatorsGive (functions_tree u ts is)
items_given u ts [] = All-nil OperatorsGive
items_given u ts (i ∷ is) = of i (functions_tree u (item_texts ts i) is) (items_given u (item_texts ts i) is)
  where
    of : (j : ItemTree) → (gs : List gc0.Function) → All OperatorsGive gs → All OperatorsGive (item_functions u ts j ++ gs)
    of (struct_name p n) gs k = k
    of (struct_item p n fs) gs k = k
    of (typedef_item p n name) gs k = k
    of (prototype_item h cs) gs k = k
    of (function_item h cs ss e) gs k = All-cons OperatorsGive (function_tree u ts h cs ss e) gs (stmts_given u (record { locals = params_of u h.params; result = result_type u h.result }) ts ss) k
    of (predicates_item p qs) gs k = k

pub all_given : (p : ProgramTree) → All OperatorsGive (resolved p).functions
all_given p = items_given (tables_of p) [] p.items
