-- That an `else` has one statement, as in each tree that was read.
use Rattle.std.specs.Prelude.{Bool, true, false, ◌&&◌, IsTrue, All}
use Rattle.parsed_tree.specs.Tree.{StmtTree, simple_stmt, block_stmt, if_stmt, while_stmt, for_stmt, return_stmt, assert_stmt, error_stmt, notes_stmt, StmtTrees, no_stmts, stmt_and, ItemTree, struct_name, struct_item, typedef_item, prototype_item, function_item, predicates_item, ProgramTree}

abbrev pub at_most_one : StmtTrees → Bool
at_most_one no_stmts = true
at_most_one (stmt_and s no_stmts) = true
at_most_one (stmt_and s (stmt_and r ss)) = false

abbrev mutual
  pub one_else : StmtTree → Bool
  one_else (simple_stmt s) = true
  one_else (block_stmt p ss) = ones_else ss
  one_else (if_stmt p e s os) = one_else s && (at_most_one os && ones_else os)
  one_else (while_stmt p e is s) = one_else s
  one_else (for_stmt p a e b is s) = one_else s
  one_else (return_stmt p e) = true
  one_else (assert_stmt p e) = true
  one_else (error_stmt p x) = true
  one_else (notes_stmt p ns) = true

  pub ones_else : StmtTrees → Bool
  ones_else no_stmts = true
  ones_else (stmt_and s ss) = one_else s && ones_else ss

abbrev pub item_elses : ItemTree → Bool
item_elses (struct_name p n) = true
item_elses (struct_item p n fs) = true
item_elses (typedef_item p n name) = true
item_elses (prototype_item h cs) = true
item_elses (function_item h cs ss e) = ones_else ss
item_elses (predicates_item p qs) = true

abbrev pub OneElse : ProgramTree → Type 0
OneElse p = All (λ i. IsTrue (item_elses i)) p.items
