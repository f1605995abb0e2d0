-- Programs with their places taken away: each place is the first of the text. Two programs are the same, places aside,
-- where the programs without their places are equal.
use Rattle.std.specs.Prelude.{map}
use Rattle.gc0_base.specs.declared.place.Place.{Place}
use Rattle.gc0_tree.specs.Tree.{Tree, number_at, truth_at, null_at, local_at, result_at, unary_at, binary_at, both_at, either_at, choose_at, read_at, call_at, library_at, alloc_at, Trees, no_trees, tree_and, Conjuncts, no_parts, value_part, acc_part, instance_part, choice_part, Formula, Stmt, declare_at, assign_at, write_at, plain_at, block_at, if_at, while_at, for_at, return_at, assert_at, raise_at, note_at, Stmts, no_stmts, stmt_and, Predicate, Function, Program}

abbrev pub first_place : Place
first_place = record { line = 1; column = 1 }

abbrev mutual
  pub bare : Tree → Tree
  bare (number_at at n) = number_at first_place n
  bare (truth_at at b) = truth_at first_place b
  bare (null_at at) = null_at first_place
  bare (local_at at i) = local_at first_place i
  bare (result_at at) = result_at first_place
  bare (unary_at at op a) = unary_at first_place op (bare a)
  bare (binary_at at op a b) = binary_at first_place op (bare a) (bare b)
  bare (both_at at a b) = both_at first_place (bare a) (bare b)
  bare (either_at at a b) = either_at first_place (bare a) (bare b)
  bare (choose_at at a b c) = choose_at first_place (bare a) (bare b) (bare c)
  bare (read_at at base k f) = read_at first_place (bare base) k f
  bare (call_at at g es) = call_at first_place g (all_bare es)
  bare (library_at at l es text) = library_at first_place l (all_bare es) text
  bare (alloc_at at k) = alloc_at first_place k

  pub all_bare : Trees → Trees
  all_bare no_trees = no_trees
  all_bare (tree_and e es) = tree_and (bare e) (all_bare es)

abbrev pub bare_parts : Conjuncts → Conjuncts
bare_parts no_parts = no_parts
bare_parts (value_part e rest) = value_part (bare e) (bare_parts rest)
bare_parts (acc_part base f rest) = acc_part (bare base) f (bare_parts rest)
bare_parts (instance_part at q es rest) = instance_part first_place q (all_bare es) (bare_parts rest)
bare_parts (choice_part at c these those rest) = choice_part first_place (bare c) (bare_parts these) (bare_parts those) (bare_parts rest)

abbrev pub bare_formula : Formula → Formula
bare_formula f = record { imprecise = f.imprecise; parts = bare_parts f.parts }

abbrev mutual
  pub bare_stmt : Stmt → Stmt
  bare_stmt (declare_at at i es) = declare_at first_place i (all_bare es)
  bare_stmt (assign_at at i op op_at e) = assign_at first_place i op first_place (bare e)
  bare_stmt (write_at at base k f arrow op op_at e) = write_at first_place (bare base) k f first_place op first_place (bare e)
  bare_stmt (plain_at at e) = plain_at first_place (bare e)
  bare_stmt (block_at at ss) = block_at first_place (bare_stmts ss)
  bare_stmt (if_at at c a b) = if_at first_place (bare c) (bare_stmt a) (bare_stmts b)
  bare_stmt (while_at at inv c body) = while_at first_place (bare_formula inv) (bare c) (bare_stmt body)
  bare_stmt (for_at at first c last inv body) =
      for_at first_place (bare_stmts first) (bare c) (bare_stmts last) (bare_formula inv) (bare_stmt body)
  bare_stmt (return_at at es) = return_at first_place (all_bare es)
  bare_stmt (assert_at at e) = assert_at first_place (bare e)
  bare_stmt (raise_at at text) = raise_at first_place text
  bare_stmt (note_at at k f) = note_at first_place k (bare_formula f)

  pub bare_stmts : Stmts → Stmts
  bare_stmts no_stmts = no_stmts
  bare_stmts (stmt_and s ss) = stmt_and (bare_stmt s) (bare_stmts ss)

abbrev pub bare_predicate : Predicate → Predicate
bare_predicate p = record { name = p.name; params = p.params; body = bare_parts p.body }

abbrev pub bare_function : Function → Function
bare_function f = record {
  name = f.name;
  place = first_place;
  close = first_place;
  params = f.params;
  locals = f.locals;
  result = f.result;
  before = bare_formula f.before;
  after = bare_formula f.after;
  body = bare_stmts f.body;
}

abbrev pub bare_program : Program → Program
bare_program p = record {
  structs = p.structs;
  predicates = map bare_predicate p.predicates;
  functions = map bare_function p.functions;
  main = p.main;
  texts = p.texts;
}
