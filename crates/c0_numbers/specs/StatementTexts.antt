-- The texts of the string literals of statements and items, in the order of the text: those before a part and its own.
-- The numbers of texts are this project's own.
use Rattle.std.specs.Prelude.{List, [], ◌∷◌, ◌++◌, Option, Some, None}
use Rattle.gc0_base.specs.declared.place.Place.{Place}
use Rattle.parsed_tree.specs.Tree.{ExprTree, SimpleTree, declare, assign, stepped, plain, StmtTree, simple_stmt, block_stmt, if_stmt, while_stmt, for_stmt, return_stmt, assert_stmt, error_stmt, notes_stmt, StmtTrees, no_stmts, stmt_and, ItemTree, struct_name, struct_item, typedef_item, prototype_item, function_item, predicates_item}
use Rattle.c0_value_numbers.specs.Texts.{Texts, expr_texts}

abbrev pub optional_texts : Texts → Option ExprTree → Texts
optional_texts ts None = ts
optional_texts ts (Some e) = expr_texts ts e

abbrev pub value_texts : Texts → Option (Place × ExprTree) → Texts
value_texts ts None = ts
value_texts ts (Some v) = expr_texts ts v.1

abbrev pub simple_texts : Texts → SimpleTree → Texts
simple_texts ts (declare t n v) = value_texts ts v
simple_texts ts (assign x q o y) = expr_texts (expr_texts ts x) y
simple_texts ts (stepped x q o) = expr_texts ts x
simple_texts ts (plain x) = expr_texts ts x

abbrev pub part_texts : Texts → Option SimpleTree → Texts
part_texts ts None = ts
part_texts ts (Some s) = simple_texts ts s

abbrev mutual
  pub stmt_texts : Texts → StmtTree → Texts
  stmt_texts ts (simple_stmt s) = simple_texts ts s
  stmt_texts ts (block_stmt p ss) = stmts_texts ts ss
  stmt_texts ts (if_stmt p e s os) = stmts_texts (stmt_texts (expr_texts ts e) s) os
  stmt_texts ts (while_stmt p e is s) = stmt_texts (expr_texts ts e) s
  stmt_texts ts (for_stmt p a e b is s) = stmt_texts (part_texts (expr_texts (part_texts ts a) e) b) s
  stmt_texts ts (return_stmt p e) = optional_texts ts e
  stmt_texts ts (assert_stmt p e) = expr_texts ts e
  stmt_texts ts (error_stmt p text) = ts ++ text.bytes ∷ []
  stmt_texts ts (notes_stmt p ns) = ts

  pub stmts_texts : Texts → StmtTrees → Texts
  stmts_texts ts no_stmts = ts
  stmts_texts ts (stmt_and s ss) = stmts_texts (stmt_texts ts s) ss

abbrev pub item_texts : Texts → ItemTree → Texts
item_texts ts (struct_name p n) = ts
item_texts ts (struct_item p n fs) = ts
item_texts ts (typedef_item p t n) = ts
item_texts ts (prototype_item h cs) = ts
item_texts ts (function_item h cs ss e) = stmts_texts ts ss
item_texts ts (predicates_item p qs) = ts

abbrev pub items_texts : Texts → List ItemTree → Texts
items_texts ts [] = ts
items_texts ts (i ∷ is) = items_texts (item_texts ts i) is
