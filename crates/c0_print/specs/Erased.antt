-- A tree with its places put aside: each of them is the same.
use Rattle.std.specs.Prelude.{List, map, Option, Some, None}
use Rattle.gc0_base.specs.declared.place.Place.{Place}
use Rattle.parsed_tree.specs.declared.expressions.Named.{Named}
use Rattle.parsed_tree.specs.declared.expressions.Text.{Text}
use Rattle.parsed_tree.specs.declared.expressions.Base.{Base}
use Rattle.parsed_tree.specs.declared.expressions.Base.TheVariants as base
use Rattle.parsed_tree.specs.declared.expressions.TypeName.{TypeName}
use Rattle.parsed_tree.specs.declared.expressions.Spot.{Spot}
use Rattle.parsed_tree.specs.declared.items.Field.{Field}
use Rattle.parsed_tree.specs.declared.items.Param.{Param}
use Rattle.parsed_tree.specs.declared.items.ResultType.{ResultType}
use Rattle.parsed_tree.specs.declared.items.ResultType.TheVariants as result
use Rattle.parsed_tree.specs.declared.items.Head.{Head}
use Rattle.parsed_tree.specs.Tree.{ExprTree, number, truth, null, local, outcome, unary, binary, choose, arrow, call, call_text, alloc, acc, ExprTrees, no_exprs, expr_and, FormulaTree, InstanceTree, NoteForm, assert_note, fold_note, unfold_note, NoteTree, InvariantTree, InvariantsTree, SimpleTree, declare, assign, stepped, plain, StmtTree, simple_stmt, block_stmt, if_stmt, while_stmt, for_stmt, return_stmt, assert_stmt, error_stmt, notes_stmt, StmtTrees, no_stmts, stmt_and, ClauseTree, ContractTree, PredicateTree, ItemTree, struct_name, struct_item, typedef_item, prototype_item, function_item, predicates_item, ProgramTree}
use Rattle.c0_grammar.specs.Texts.{tree_option}
use Rattle.c0_layout.specs.Rounding.{nowhere}

abbrev pub no_spot : Spot
no_spot = record { place = nowhere; first = nowhere }

abbrev pub erased_name : Named → Named
erased_name n = record { name = n.name; place = nowhere }

abbrev pub erased_text : Text → Text
erased_text t = record { bytes = t.bytes; place = nowhere }

abbrev pub erased_base : Base → Base
erased_base base.Int = base.Int
erased_base base.Bool = base.Bool
erased_base (base.Struct n) = base.Struct (erased_name n)
erased_base (base.Alias n) = base.Alias n

abbrev pub erased_type : TypeName → TypeName
erased_type t = record { place = nowhere; base = erased_base t.base; stars = t.stars }

abbrev mutual
  pub erased : ExprTree → ExprTree
  erased (number s w) = number no_spot w
  erased (truth s b) = truth no_spot b
  erased (null s) = null no_spot
  erased (local s n) = local no_spot n
  erased (outcome s) = outcome no_spot
  erased (unary s o x) = unary no_spot o (erased x)
  erased (binary s o x y) = binary no_spot o (erased x) (erased y)
  erased (choose s x y z) = choose no_spot (erased x) (erased y) (erased z)
  erased (arrow s x n) = arrow no_spot (erased x) (erased_name n)
  erased (call s n xs) = call no_spot n (all_erased xs)
  erased (call_text s n t) = call_text no_spot n (erased_text t)
  erased (alloc s t) = alloc no_spot (erased_type t)
  erased (acc s x p n) = acc no_spot (erased x) nowhere (erased_name n)

  pub all_erased : ExprTrees → ExprTrees
  all_erased no_exprs = no_exprs
  all_erased (expr_and x xs) = expr_and (erased x) (all_erased xs)

abbrev pub erased_formula : FormulaTree → FormulaTree
erased_formula f = record { imprecise = f.imprecise; parts = tree_option erased f.parts }

abbrev pub erased_instance : InstanceTree → InstanceTree
erased_instance i = record { name = erased_name i.name; arguments = all_erased i.arguments }

abbrev pub erased_form : NoteForm → NoteForm
erased_form (assert_note f) = assert_note (erased_formula f)
erased_form (fold_note i) = fold_note (erased_instance i)
erased_form (unfold_note i) = unfold_note (erased_instance i)

abbrev pub erased_note : NoteTree → NoteTree
erased_note n = record { place = nowhere; form = erased_form n.form }

abbrev pub erased_invariant : InvariantTree → InvariantTree
erased_invariant i = record { place = nowhere; formula = erased_formula i.formula }

abbrev pub erased_invariants : InvariantsTree → InvariantsTree
erased_invariants i = record { place = nowhere; clauses = map erased_invariant i.clauses }

abbrev pub erased_value : Place × ExprTree → Place × ExprTree
erased_value v = (nowhere, erased v.1)

abbrev pub erased_simple : SimpleTree → SimpleTree
erased_simple (declare t n v) = declare (erased_type t) (erased_name n) (tree_option erased_value v)
erased_simple (assign x p o y) = assign (erased x) nowhere o (erased y)
erased_simple (stepped x p o) = stepped (erased x) nowhere o
erased_simple (plain x) = plain (erased x)

abbrev mutual
  pub erased_stmt : StmtTree → StmtTree
  erased_stmt (simple_stmt s) = simple_stmt (erased_simple s)
  erased_stmt (block_stmt p ss) = block_stmt nowhere (erased_stmts ss)
  erased_stmt (if_stmt p e s os) = if_stmt nowhere (erased e) (erased_stmt s) (erased_stmts os)
  erased_stmt (while_stmt p e is s) =
      while_stmt nowhere (erased e) (map erased_invariants is) (erased_stmt s)
  erased_stmt (for_stmt p a e b is s) = for_stmt nowhere (tree_option erased_simple a) (erased e) (tree_option erased_simple b) (map erased_invariants is) (erased_stmt s)
  erased_stmt (return_stmt p e) = return_stmt nowhere (tree_option erased e)
  erased_stmt (assert_stmt p e) = assert_stmt nowhere (erased e)
  erased_stmt (error_stmt p t) = error_stmt nowhere (erased_text t)
  erased_stmt (notes_stmt p ns) = notes_stmt nowhere (map erased_note ns)

  pub erased_stmts : StmtTrees → StmtTrees
  erased_stmts no_stmts = no_stmts
  erased_stmts (stmt_and s ss) = stmt_and (erased_stmt s) (erased_stmts ss)

abbrev pub erased_clause : ClauseTree → ClauseTree
erased_clause c = record { place = nowhere; side = c.side; formula = erased_formula c.formula }

abbrev pub erased_contract : ContractTree → ContractTree
erased_contract c = record { place = nowhere; clauses = map erased_clause c.clauses }

abbrev pub erased_param : Param → Param
erased_param p = record { typed = erased_type p.typed; name = erased_name p.name }

abbrev pub erased_field : Field → Field
erased_field f = record { typed = erased_type f.typed; name = erased_name f.name }

abbrev pub erased_result : ResultType → ResultType
erased_result (result.Void p) = result.Void nowhere
erased_result (result.Typed t) = result.Typed (erased_type t)

abbrev pub erased_head : Head → Head
erased_head h = record { result = erased_result h.result; name = erased_name h.name; params = map erased_param h.params }

abbrev pub erased_predicate : PredicateTree → PredicateTree
erased_predicate p = record { place = nowhere; name = erased_name p.name; params = map erased_param p.params; body = erased p.body }

abbrev pub erased_item : ItemTree → ItemTree
erased_item (struct_name p n) = struct_name nowhere (erased_name n)
erased_item (struct_item p n fs) = struct_item nowhere (erased_name n) (map erased_field fs)
erased_item (typedef_item p t n) = typedef_item nowhere (erased_type t) (erased_name n)
erased_item (prototype_item h cs) = prototype_item (erased_head h) (map erased_contract cs)
erased_item (function_item h cs ss e) =
    function_item (erased_head h) (map erased_contract cs) (erased_stmts ss) nowhere
erased_item (predicates_item p ps) = predicates_item nowhere (map erased_predicate ps)

abbrev pub erased_program : ProgramTree → ProgramTree
erased_program p = record { uses = p.uses; items = map erased_item p.items }
