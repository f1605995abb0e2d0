-- The resolved trees of small texts, by computation. All places are on one line.
use Rattle.std.specs.Prelude.{◌≡◌, ℕ, true, false, List, [], ◌∷◌, Option, Some, None, refl}
use Rattle.gc0_base.specs.declared.place.Place.{Place}
use Rattle.parsed_tree.specs.declared.expressions.Spot.{Spot}
use Rattle.parsed_tree.specs.declared.expressions.Named.{Named}
use Rattle.parsed_tree.specs.declared.expressions.TypeName.{TypeName}
use Rattle.parsed_tree.specs.declared.expressions.Base.{Base}
use Rattle.parsed_tree.specs.declared.expressions.Base.TheVariants as base
use Rattle.parsed_tree.specs.declared.expressions.Operator.TheVariants as op
use Rattle.parsed_tree.specs.declared.statements.StepOperator.TheVariants.{Increment, Decrement}
use Rattle.parsed_tree.specs.declared.items.ResultType.TheVariants as result
use Rattle.parsed_tree.specs.declared.items.Side.TheVariants.{Requires, Ensures}
use Rattle.parsed_tree.specs.Tree.{ExprTree, number, truth, null, local, outcome, unary, binary, choose, arrow, call, call_text, alloc, acc, ExprTrees, no_exprs, expr_and, NoteForm, assert_note, fold_note, unfold_note, SimpleTree, declare, assign, stepped, plain, StmtTree, simple_stmt, block_stmt, if_stmt, while_stmt, for_stmt, return_stmt, assert_stmt, error_stmt, notes_stmt, StmtTrees, no_stmts, stmt_and, ItemTree, struct_name, struct_item, typedef_item, prototype_item, function_item, predicates_item, ProgramTree}
use Rattle.gc0_tree.specs.declared.Shape.TheVariants as shape
use Rattle.gc0_tree.specs.declared.ExprOp.TheVariants as gc0_op
use Rattle.gc0_tree.specs.declared.LibraryCall.TheVariants as library
use Rattle.gc0_tree.specs.Tree as gc0
use Rattle.c0_numbers.specs.Resolved.{resolved}

abbrev at : ℕ → Place
at c = record { line = 1; column = c }

abbrev spot : ℕ → ℕ → Spot
spot c first = record { place = at c; first = at first }

abbrev named : List ℕ → ℕ → Named
named name c = record { name = name; place = at c }

abbrev typed : Base → ℕ → ℕ → TypeName
typed b c stars = record { place = at c; base = b; stars = stars }

-- a field of a struct, and the place of its `->`
--     struct s { int v; }; int main() { struct s* p = NULL; return p->v; }
row_1 : resolved (record { uses = []; items = ((struct_item (at 1) (named (115 ∷ []) 8) ((record { typed = (typed base.Int 12 0); name = (named (118 ∷ []) 16) }) ∷ [])) ∷ (function_item (record { result = (result.Typed (typed base.Int 22 0)); name = (named (109 ∷ 97 ∷ 105 ∷ 110 ∷ []) 26); params = ([]) }) ([]) (stmt_and (simple_stmt (declare (typed (base.Struct (named (115 ∷ []) 42)) 35 1) (named (112 ∷ []) 45) (Some (at 47, null (spot 49 49))))) (stmt_and (return_stmt (at 55) (Some (arrow (spot 63 62) (local (spot 62 62) (112 ∷ [])) (named (118 ∷ []) 65)))) no_stmts)) (at 68)) ∷ []) }) ≡ (record { structs = ((record { name = (115 ∷ []); fields = (((118 ∷ []), shape.Int) ∷ []) }) ∷ []); predicates = ([]); functions = ((record { name = (109 ∷ 97 ∷ 105 ∷ 110 ∷ []); place = at 26; close = at 68; params = 0; locals = (((112 ∷ []), shape.Pointer 0) ∷ []); result = Some shape.Int; before = (record { imprecise = true; parts = gc0.no_parts }); after = (record { imprecise = true; parts = gc0.no_parts }); body = (gc0.stmt_and (gc0.declare_at (at 35) 0 (gc0.tree_and (gc0.null_at (at 49)) gc0.no_trees)) (gc0.stmt_and (gc0.return_at (at 55) (gc0.tree_and (gc0.read_at (at 63) (gc0.local_at (at 62) 0) 0 0) gc0.no_trees)) gc0.no_stmts)) }) ∷ []); main = 0; texts = ([]) })
row_1 = refl

-- structs in the order in which they first stand, a typedef, a step, and texts over all functions
--     struct b* f(struct a* x);  typedef struct c* t; struct a { bool u; t w; };   void g(t y) { print("hi"); y->z--; }  struct c { int k; int z; };  int main() { error("no"); }
row_2 : resolved (record { uses = []; items = ((prototype_item (record { result = (result.Typed (typed (base.Struct (named (98 ∷ []) 8)) 1 1)); name = (named (102 ∷ []) 11); params = ((record { typed = (typed (base.Struct (named (97 ∷ []) 20)) 13 1); name = (named (120 ∷ []) 23) }) ∷ []) }) []) ∷ (typedef_item (at 27) (typed (base.Struct (named (99 ∷ []) 42)) 35 1) (named (116 ∷ []) 45)) ∷ (struct_item (at 48) (named (97 ∷ []) 55) ((record { typed = (typed base.Bool 59 0); name = (named (117 ∷ []) 64) }) ∷ (record { typed = (typed (base.Alias (116 ∷ [])) 67 0); name = (named (119 ∷ []) 69) }) ∷ [])) ∷ (function_item (record { result = (result.Void (at 75)); name = (named (103 ∷ []) 80); params = ((record { typed = (typed (base.Alias (116 ∷ [])) 82 0); name = (named (121 ∷ []) 84) }) ∷ []) }) ([]) (stmt_and (simple_stmt (plain (call_text (spot 89 89) (112 ∷ 114 ∷ 105 ∷ 110 ∷ 116 ∷ []) (record { bytes = (104 ∷ 105 ∷ []); place = at 95 })))) (stmt_and (simple_stmt (stepped (arrow (spot 102 101) (local (spot 101 101) (121 ∷ [])) (named (122 ∷ []) 104)) (at 105) Decrement)) no_stmts)) (at 109)) ∷ (struct_item (at 111) (named (99 ∷ []) 118) ((record { typed = (typed base.Int 122 0); name = (named (107 ∷ []) 126) }) ∷ (record { typed = (typed base.Int 129 0); name = (named (122 ∷ []) 133) }) ∷ [])) ∷ (function_item (record { result = (result.Typed (typed base.Int 139 0)); name = (named (109 ∷ 97 ∷ 105 ∷ 110 ∷ []) 143); params = ([]) }) ([]) (stmt_and (error_stmt (at 152) (record { bytes = (110 ∷ 111 ∷ []); place = at 158 })) no_stmts) (at 165)) ∷ []) }) ≡ (record { structs = ((record { name = (98 ∷ []); fields = ([]) }) ∷ (record { name = (97 ∷ []); fields = (((117 ∷ []), shape.Bool) ∷ ((119 ∷ []), shape.Pointer 2) ∷ []) }) ∷ (record { name = (99 ∷ []); fields = (((107 ∷ []), shape.Int) ∷ ((122 ∷ []), shape.Int) ∷ []) }) ∷ []); predicates = ([]); functions = ((record { name = (103 ∷ []); place = at 80; close = at 109; params = 1; locals = (((121 ∷ []), shape.Pointer 2) ∷ []); result = None; before = (record { imprecise = true; parts = gc0.no_parts }); after = (record { imprecise = true; parts = gc0.no_parts }); body = (gc0.stmt_and (gc0.plain_at (at 89) (gc0.library_at (at 89) library.Print gc0.no_trees (Some 0))) (gc0.stmt_and (gc0.write_at (at 101) (gc0.local_at (at 101) 0) 2 1 (at 102) (Some gc0_op.Sub) (at 105) (gc0.number_at (at 105) 1)) gc0.no_stmts)) }) ∷ (record { name = (109 ∷ 97 ∷ 105 ∷ 110 ∷ []); place = at 143; close = at 165; params = 0; locals = ([]); result = Some shape.Int; before = (record { imprecise = true; parts = gc0.no_parts }); after = (record { imprecise = true; parts = gc0.no_parts }); body = (gc0.stmt_and (gc0.raise_at (at 152) 1) gc0.no_stmts) }) ∷ []); main = 1; texts = ((104 ∷ 105 ∷ []) ∷ (110 ∷ 111 ∷ []) ∷ []) })
row_2 = refl

-- a block's local keeps its number, and the last of a name is meant; a statement begins at its parenthesis
--     int main() { { int x; } bool x; (x) = true; .. }
row_3 : resolved (record { uses = []; items = ((function_item (record { result = (result.Typed (typed base.Int 1 0)); name = (named (109 ∷ 97 ∷ 105 ∷ 110 ∷ []) 5); params = ([]) }) ([]) (stmt_and (block_stmt (at 14) (stmt_and (simple_stmt (declare (typed base.Int 16 0) (named (120 ∷ []) 20) None)) no_stmts)) (stmt_and (simple_stmt (declare (typed base.Bool 25 0) (named (120 ∷ []) 30) None)) (stmt_and (simple_stmt (assign (local (spot 34 33) (120 ∷ [])) (at 37) None (truth (spot 39 39) true))) no_stmts))) (at 60)) ∷ []) }) ≡ (record { structs = ([]); predicates = ([]); functions = ((record { name = (109 ∷ 97 ∷ 105 ∷ 110 ∷ []); place = at 5; close = at 60; params = 0; locals = (((120 ∷ []), shape.Int) ∷ ((120 ∷ []), shape.Bool) ∷ []); result = Some shape.Int; before = (record { imprecise = true; parts = gc0.no_parts }); after = (record { imprecise = true; parts = gc0.no_parts }); body = (gc0.stmt_and (gc0.block_at (at 14) (gc0.stmt_and (gc0.declare_at (at 16) 0 gc0.no_trees) gc0.no_stmts)) (gc0.stmt_and (gc0.declare_at (at 25) 1 gc0.no_trees) (gc0.stmt_and (gc0.assign_at (at 33) 1 None (at 37) (gc0.truth_at (at 39) true)) gc0.no_stmts))) }) ∷ []); main = 0; texts = ([]) })
row_3 = refl

-- clauses joined; `||` is a choice, taken from the right; the notes of an annotation stand one by one
--     bool f(bool a, bool b, bool c) requires ? && a && b; requires (a || b) || c; ensures b ? a : c && \result; with assert notes
row_4 : resolved (record { uses = []; items = ((function_item (record { result = (result.Typed (typed base.Bool 1 0)); name = (named (102 ∷ []) 6); params = ((record { typed = (typed base.Bool 1 0); name = (named (97 ∷ []) 10) }) ∷ (record { typed = (typed base.Bool 1 0); name = (named (98 ∷ []) 20) }) ∷ (record { typed = (typed base.Bool 1 0); name = (named (99 ∷ []) 30) }) ∷ []) }) ((record { place = at 40; clauses = ((record { place = at 42; side = Requires; formula = (record { imprecise = true; parts = Some (binary (spot 50 48) op.Both (local (spot 48 48) (97 ∷ [])) (local (spot 53 53) (98 ∷ []))) }) }) ∷ (record { place = at 54; side = Requires; formula = (record { imprecise = false; parts = Some (binary (spot 60 56) op.Either (binary (spot 57 56) op.Either (local (spot 56 56) (97 ∷ [])) (local (spot 59 59) (98 ∷ []))) (local (spot 62 62) (99 ∷ []))) }) }) ∷ []) }) ∷ (record { place = at 70; clauses = ((record { place = at 72; side = Ensures; formula = (record { imprecise = false; parts = Some (choose (spot 75 73) (local (spot 73 73) (98 ∷ [])) (local (spot 77 77) (97 ∷ [])) (binary (spot 80 79) op.Both (local (spot 79 79) (99 ∷ [])) (outcome (spot 82 82)))) }) }) ∷ []) }) ∷ []) (stmt_and (notes_stmt (at 90) ((record { place = at 92; form = assert_note (record { imprecise = false; parts = Some (local (spot 95 95) (97 ∷ [])) }) }) ∷ (record { place = at 97; form = assert_note (record { imprecise = true; parts = None }) }) ∷ [])) (stmt_and (if_stmt (at 100) (local (spot 104 104) (97 ∷ [])) (notes_stmt (at 106) ((record { place = at 108; form = assert_note (record { imprecise = true; parts = None }) }) ∷ [])) no_stmts) no_stmts)) (at 120)) ∷ []) }) ≡ (record { structs = ([]); predicates = ([]); functions = ((record { name = (102 ∷ []); place = at 6; close = at 120; params = 3; locals = (((97 ∷ []), shape.Bool) ∷ ((98 ∷ []), shape.Bool) ∷ ((99 ∷ []), shape.Bool) ∷ []); result = Some shape.Bool; before = (record { imprecise = true; parts = gc0.value_part (gc0.local_at (at 48) 0) (gc0.value_part (gc0.local_at (at 53) 1) (gc0.choice_part (at 57) (gc0.local_at (at 56) 0) (gc0.value_part (gc0.truth_at (at 57) true) gc0.no_parts) (gc0.choice_part (at 60) (gc0.local_at (at 59) 1) (gc0.value_part (gc0.truth_at (at 60) true) gc0.no_parts) (gc0.value_part (gc0.local_at (at 62) 2) gc0.no_parts) gc0.no_parts) gc0.no_parts)) }); after = (record { imprecise = false; parts = gc0.choice_part (at 75) (gc0.local_at (at 73) 1) (gc0.value_part (gc0.local_at (at 77) 0) gc0.no_parts) (gc0.value_part (gc0.local_at (at 79) 2) (gc0.value_part (gc0.result_at (at 82)) gc0.no_parts)) gc0.no_parts }); body = (gc0.stmt_and (gc0.note_at (at 92) gc0.assert_note (record { imprecise = false; parts = gc0.value_part (gc0.local_at (at 95) 0) gc0.no_parts })) (gc0.stmt_and (gc0.note_at (at 97) gc0.assert_note (record { imprecise = true; parts = gc0.no_parts })) (gc0.stmt_and (gc0.if_at (at 100) (gc0.local_at (at 104) 0) (gc0.note_at (at 108) gc0.assert_note (record { imprecise = true; parts = gc0.no_parts })) gc0.no_stmts) gc0.no_stmts))) }) ∷ []); main = 0; texts = ([]) })
row_4 = refl

-- a predicate with an instance of itself
--     struct n { int v; struct n* x; }; //@predicate p(struct n* l) = l == NULL ? true : acc(l->x) && p(l->x);
row_5 : resolved (record { uses = []; items = ((struct_item (at 1) (named (110 ∷ []) 8) ((record { typed = (typed base.Int 11 0); name = (named (118 ∷ []) 15) }) ∷ (record { typed = (typed (base.Struct (named (110 ∷ []) 17)) 16 1); name = (named (120 ∷ []) 18) }) ∷ [])) ∷ (predicates_item (at 19) ((record { place = at 19; name = (named (112 ∷ []) 19); params = ((record { typed = (typed (base.Struct (named (110 ∷ []) 27)) 20 1); name = (named (108 ∷ []) 30) }) ∷ []); body = (choose (spot 50 40) (binary (spot 42 40) op.Equal (local (spot 40 40) (108 ∷ [])) (null (spot 45 45))) (truth (spot 52 52) true) (binary (spot 80 60) op.Both (acc (spot 60 60) (local (spot 64 64) (108 ∷ [])) (at 65) (named (120 ∷ []) 67)) (call (spot 83 83) (112 ∷ []) (expr_and (arrow (spot 86 85) (local (spot 85 85) (108 ∷ [])) (named (120 ∷ []) 88)) no_exprs)))) }) ∷ [])) ∷ []) }) ≡ (record { structs = ((record { name = (110 ∷ []); fields = (((118 ∷ []), shape.Int) ∷ ((120 ∷ []), shape.Pointer 0) ∷ []) }) ∷ []); predicates = ((record { name = (112 ∷ []); params = (((108 ∷ []), shape.Pointer 0) ∷ []); body = (gc0.choice_part (at 50) (gc0.binary_at (at 42) gc0_op.Equal (gc0.local_at (at 40) 0) (gc0.null_at (at 45))) (gc0.value_part (gc0.truth_at (at 52) true) gc0.no_parts) (gc0.acc_part (gc0.local_at (at 64) 0) 1 (gc0.instance_part (at 83) 0 (gc0.tree_and (gc0.read_at (at 86) (gc0.local_at (at 85) 0) 0 1) gc0.no_trees) gc0.no_parts)) gc0.no_parts) }) ∷ []); functions = ([]); main = 0; texts = ([]) })
row_5 = refl
