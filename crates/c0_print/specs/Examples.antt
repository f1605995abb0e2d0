-- Worked examples of the layout, each worked out by hand from its rules.
use Rattle.std.specs.Prelude.{◌≡◌, ℕ, List, [], ◌∷◌, codes, Some, None, true, false, refl}
use Rattle.gc0_base.specs.declared.place.Place.{Place}
use Rattle.parsed_tree.specs.declared.expressions.Base.TheVariants as base
use Rattle.parsed_tree.specs.declared.expressions.Named.{Named}
use Rattle.parsed_tree.specs.declared.expressions.TypeName.{TypeName}
use Rattle.parsed_tree.specs.declared.expressions.UnaryOperator.TheVariants as unary_op
use Rattle.parsed_tree.specs.declared.expressions.Operator.TheVariants as op
use Rattle.parsed_tree.specs.declared.items.ResultType.TheVariants as result
use Rattle.parsed_tree.specs.Tree.{ExprTree, truth, null, local, unary, binary, choose, arrow, call, acc, no_exprs, expr_and, simple_stmt, assign, block_stmt, if_stmt, while_stmt, return_stmt, no_stmts, stmt_and, function_item, predicates_item}
use Rattle.c0_layout.specs.Literals.{literal_text}
use Rattle.c0_layout.specs.Layout.{expr_text, line_text, item_text}
use Rattle.c0_layout.specs.Rounding.{nowhere}
use Rattle.c0_print.specs.Printing.{written, line_of, item_of, printed}
use Rattle.c0_print.specs.Erased.{no_spot}

abbrev named : List ℕ → Named
named n = record { name = n; place = nowhere }

abbrev int_type : TypeName
int_type = record { place = nowhere; base = base.Int; stars = 0 }

abbrev node_pointer : TypeName
node_pointer = record { place = nowhere; base = base.Struct (named (codes "node")); stars = 1 }

abbrev a : ExprTree
a = local no_spot (codes "a")

abbrev b : ExprTree
b = local no_spot (codes "b")

abbrev c : ExprTree
c = local no_spot (codes "c")

abbrev both : ExprTree → ExprTree → ExprTree
both x y = binary no_spot op.Both x y

abbrev l : ExprTree
l = local no_spot (codes "l")

abbrev field : List ℕ → ExprTree
field n = arrow no_spot l (named n)

abbrev owned : List ℕ → ExprTree
owned n = acc no_spot l nowhere (named n)

four_lines : printed (record { uses = []; items = function_item (record { result = result.Typed int_type; name = named (codes "main"); params = [] }) [] (stmt_and (return_stmt nowhere (Some a)) no_stmts) nowhere ∷ [] }) ≡ codes "int main()\n{\nreturn a;\n}\n"
four_lines = refl

-- to the left an operator of the same rank needs none, to the right it does
left_first : expr_text (written (binary no_spot op.Sub (binary no_spot op.Sub a b) c)) ≡ codes "a - b - c"
left_first = refl

right_last : expr_text (written (binary no_spot op.Sub a (binary no_spot op.Sub b c))) ≡ codes "a - (b - c)"
right_last = refl

looser : expr_text (written (binary no_spot op.Mul (binary no_spot op.Add a b) c)) ≡ codes "(a + b) * c"
looser = refl

two_minuses : expr_text (written (unary no_spot unary_op.Negate (unary no_spot unary_op.Negate a))) ≡ codes "- -a"
two_minuses = refl

minus_of_sum : expr_text (written (unary no_spot unary_op.Negate (binary no_spot op.Add a b))) ≡ codes "-(a + b)"
minus_of_sum = refl

choices : expr_text (written (choose no_spot (choose no_spot a b c) a (choose no_spot b a c))) ≡ codes "(a ? b : c) ? a : b ? a : c"
choices = refl

base_of_arrow : expr_text (written (arrow no_spot (choose no_spot a b c) (named (codes "f")))) ≡ codes "(a ? b : c)->f"
base_of_arrow = refl

arguments : expr_text (written (call no_spot (codes "f") (expr_and a (expr_and (binary no_spot op.Either b c) no_exprs)))) ≡ codes "f(a, b || c)"
arguments = refl

hexadecimal : literal_text 4294967295 ≡ codes "0xFFFFFFFF"
hexadecimal = refl

-- if (a) { a = b; } else while (b) a++;
statements : line_text (line_of (if_stmt nowhere a (block_stmt nowhere (stmt_and (simple_stmt (assign a nowhere None b)) no_stmts)) (stmt_and (while_stmt nowhere b [] (simple_stmt (assign a nowhere None c))) no_stmts)))
    ≡ codes "if (a)\n{\na = b;\n}\nelse\nwhile (b)\na = c;\n"
statements = refl

predicate : item_text (item_of (predicates_item nowhere (record {
  place = nowhere;
  name = named (codes "list");
  params = record { typed = node_pointer; name = named (codes "l") } ∷ [];
  body = choose no_spot (binary no_spot op.Equal l (null no_spot)) (truth no_spot true) (both (both (owned (codes "val")) (owned (codes "next"))) (call no_spot (codes "list") (expr_and (field (codes "next")) no_exprs)));
} ∷ [])))
    ≡ codes "//@predicate list(struct node* l) = l == NULL ? true : acc(l->val) && acc(l->next) && list(l->next);\n"
predicate = refl
