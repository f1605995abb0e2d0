-- The trees of the small grammar's texts, in the whole grammar, have the forms that are built.
use Rattle.std.proofs.Common.{◌≡◌, inr, ℕ, zero, suc, Bool, true, false, List, [], ◌∷◌, map, refl, sym, ◌∙◌, subst, IsTrue}
use Rattle.gc0_base.specs.declared.place.Place.{Place}
use Rattle.parsed_tree.specs.declared.expressions.Operator.TheVariants as wide_op
use Rattle.parsed_tree.specs.Tree.{ExprTree, number, truth, null, local, outcome, unary, binary, choose, arrow, call, call_text, alloc, acc, from, stmt_and}
use Rattle.c0_grammar.specs.Written as wide
use Rattle.c0_grammar.specs.Texts as whole
use Rattle.built_text.specs.declared.tree.UnaryOperator.{UnaryOperator}
use Rattle.built_text.specs.declared.tree.UnaryOperator.TheVariants as unary_op
use Rattle.built_text.specs.declared.tree.Operator.{Operator}
use Rattle.built_text.specs.declared.tree.Operator.TheVariants as op
use Rattle.built_text.specs.declared.tree.ClauseKind.{ClauseKind}
use Rattle.built_text.specs.declared.tree.ClauseKind.TheVariants as side
use Rattle.built_text.specs.declared.tree.Shape.{Shape}
use Rattle.built_text.specs.declared.tree.Shape.TheVariants as shape
use Rattle.built_text.specs.Grammar as small
use Rattle.built_text.specs.Grammar.{Written, digits, truth_word, word, result_word, before, between, round, Good, GoodExpr, Chain, no_link, link, GoodChain, Args, no_args, some_args, GoodArgs, FormulaText, precise, gradual, GoodFormula, NoteText, GoodNotes, Line, declares, assigns, calls, prints, returns, ifs, whiles, asserts, Otherwise, no_else, elses, Lines, no_lines, line, ParameterText, MoreParameters, no_parameter, parameter, Parameters, no_parameters, parameters, ClauseText, GoodContract}
use Rattle.built_text.specs.Forms.{is_built_unary, is_built_operator, IsBuiltValue, AreBuiltValues, is_printed, is_library, IsBuiltRight, IsBuiltCall, AreBuiltParts, AreAll, IsBuiltFormula, AreBuiltInvariants, IsPlainType, is_return, ends_in_return, is_ensures, IsBuiltContract, IsBuiltParam}
use Rattle.built_text.proofs.Widened.{unary_of, op_of, written_of, more_of, args_of, joined_of, unknown_of, formula_of, type_of, print_name, invariants_of, line_of, lines_of, nexts_of, params_of, side_of, contract_of}

not_true : ◌≡◌ {A = Bool} false true → ⊥
not_true e = cc

-- ---- values
value_begun : (f : Bool) (a : Place) (e : ExprTree) → IsBuiltValue f e → IsBuiltValue f (from a e)
value_begun f a (number s w) v = v
value_begun f a (truth s b) v = v
value_begun f a (null s) v = v
value_begun f a (local s n) v = v
value_begun f a (outcome s) v = v
value_begun f a (unary s o x) v = v
value_begun f a (binary s o x y) v = v
value_begun f a (choose s x y z) v = v
value_begun f a (arrow s x n) v = v
value_begun f a (call s n xs) v = v
value_begun f a (call_text s n t) v = v
value_begun f a (alloc s t) v = v
value_begun f a (acc s x p n) v = v

unary_built : (o : UnaryOperator) → IsTrue (is_built_unary (unary_of o))
unary_built unary_op.Not = refl
unary_built unary_op.Negate = refl

operator_built : (o : Operator) → IsTrue (is_built_operator (op_of o))
operator_built op.Mul = refl
operator_built op.Add = refl
operator_built op.Sub = refl
operator_built op.Less = refl
operator_built op.LessEq = refl
operator_built op.Greater = refl
operator_built op.GreaterEq = refl
operator_built op.Equal = refl
operator_built op.NotEqual = refl

value_built : (f : Bool) (room : ℕ) (x : Written) → Good f room x → IsBuiltValue f (wide.tree_of (written_of x))
value_built f room (digits at w) g = tt
value_built f room (truth_word at b) g = tt
value_built f room (word at n) g = tt
value_built f room (result_word at) g = g
value_built f zero (before at o x) g = absurd g
value_built f (suc room) (before at o x) g = (unary_built o, value_built f room x g.0)
value_built f room (between x at o y) g = (operator_built o, value_built f room x g.0, value_built f room y g.1)
value_built f zero (round a x b) g = absurd g
value_built f (suc room) (round a x b) g = value_begun f a (wide.tree_of (written_of x)) (value_built f room x g)

pub expr_built : (f : Bool) (room : ℕ) (x : Written) → GoodExpr f room x → IsBuiltValue f (wide.tree_of (written_of x))
expr_built f room x g = value_built f room x g.good

more_built : (room : ℕ) (xs : Chain) → GoodChain false room xs → AreBuiltValues (wide.more_trees (more_of xs))
more_built room no_link g = tt
more_built room (link at x xs) g = (expr_built false room x g.0, more_built room xs g.1)

pub args_built : (room : ℕ) (xs : Args) → GoodArgs room xs → AreBuiltValues (wide.args_trees (args_of xs))
args_built room no_args g = tt
args_built room (some_args x xs) g = (expr_built false room x g.0, more_built room xs g.1)

-- ---- a value as a right side, and a call as a statement
pub right_of_value : (e : ExprTree) → IsBuiltValue false e → IsBuiltRight e
right_of_value (call s n xs) v = absurd v
right_of_value e v = v

pub call_built : (s : _) (n : List ℕ) (room : ℕ) (xs : Args) → is_library n ≡ false → GoodArgs room xs → IsBuiltCall (call s n (wide.args_trees (args_of xs)))
call_built s n room no_args h g = (tt, h)
call_built s n room (some_args x no_link) h g = (expr_built false room x g.0, inr h)
call_built s n room (some_args x (link at y ys)) h g = ((expr_built false room x g.0, (expr_built false room y g.1.0, more_built room ys g.1.1)), h)

pub printed : (s : Shape) → is_printed (print_name s) ≡ true
printed shape.Int = refl
printed shape.Bool = refl

-- ---- formulas
parts_of_value : (f : Bool) (e : ExprTree) → IsBuiltValue f e → AreBuiltParts f e
parts_of_value f (binary s wide_op.Both x y) v = absurd (not_true v.0)
parts_of_value f e v = v

joined_built : (f : Bool) (room : ℕ) (x : wide.Written) (xs : Chain) → AreBuiltParts f (wide.tree_of x) → GoodChain f room xs → AreBuiltParts f (wide.tree_of (joined_of x xs))
joined_built f room x no_link v g = v
joined_built f room x (link at y ys) v g = joined_built f room (wide.between x at wide_op.Both (written_of y)) ys (v, expr_built f room y g.0) g.1

parts_built : (f : Bool) (room : ℕ) (x : Written) (xs : Chain) → GoodExpr f room x → GoodChain f room xs → AreBuiltParts f (wide.tree_of (joined_of (written_of x) xs))
parts_built f room x xs g c = joined_built f room (written_of x) xs (parts_of_value f (wide.tree_of (written_of x)) (expr_built f room x g)) c

unknown_built : (f : Bool) (room : ℕ) (at : Place) (xs : Chain) → GoodChain f room xs → IsBuiltFormula f (wide.formula_tree (unknown_of at xs))
unknown_built f room at no_link c = tt
unknown_built f room at (link a x xs) c = parts_built f room x xs c.0 c.1

pub formula_built : (f : Bool) (room : ℕ) (g : FormulaText) → GoodFormula f room g → IsBuiltFormula f (wide.formula_tree (formula_of g))
formula_built f room (precise x xs) c = parts_built f room x xs c.0 c.1
formula_built f room (gradual at xs) c = unknown_built f room at xs c

pub notes_built : (room : ℕ) (ns : List NoteText) → GoodNotes room ns → AreAll AreBuiltInvariants (map whole.invariants_tree (map invariants_of ns))
notes_built room [] g = tt
notes_built room (n ∷ ns) g = ((formula_built false room n.formula g.0, tt), notes_built room ns g.1)

-- ---- types, parameters and contracts
pub type_built : (at : Place) (s : Shape) → IsPlainType (wide.type_tree (type_of at s))
type_built at shape.Int = record { base = tt; stars = refl }
type_built at shape.Bool = record { base = tt; stars = refl }

nexts_built : (ps : MoreParameters) → AreAll IsBuiltParam (map whole.next_tree (nexts_of ps))
nexts_built no_parameter = tt
nexts_built (parameter at p ps) = (type_built p.t p.shape, nexts_built ps)

pub params_built : (ps : Parameters) → AreAll IsBuiltParam (whole.params_trees (params_of ps))
params_built no_parameters = tt
params_built (parameters p ps) = (type_built p.t p.shape, nexts_built ps)

same_side : (k : ClauseKind) → small.is_ensures k ≡ is_ensures (side_of k)
same_side side.Requires = refl
same_side side.Ensures = refl

pub contract_built : (cs : List ClauseText) → GoodContract cs → AreAll IsBuiltContract (map whole.contract_tree (map contract_of cs))
contract_built [] g = tt
contract_built (c ∷ cs) g = ((subst (λ f. IsBuiltFormula f (wide.formula_tree (formula_of c.note.formula))) (same_side c.kind) (formula_built (small.is_ensures c.kind) 100 c.note.formula g.0), tt), contract_built cs g.1)

-- ---- the last statement is a `return`
same_return : (l : Line) → small.is_return (small.line_tree l) ≡ is_return (whole.line_tree (line_of l))
same_return (declares t s n name q r c) = refl
same_return (assigns n name q r c) = refl
same_return (calls k c) = refl
same_return (prints p s a x b c) = refl
same_return (returns r x c) = refl
same_return (ifs i a x b o ls e no_else) = refl
same_return (ifs i a x b o ls e (elses s p ms q)) = refl
same_return (whiles w a x b ns o ls e) = refl
same_return (asserts n) = refl

same_ending : (l : Line) (ls : Lines) → small.last_returns (small.is_return (small.line_tree l)) (small.line_trees ls) ≡ ends_in_return (stmt_and (whole.line_tree (line_of l)) (whole.line_trees (lines_of ls)))
same_ending l no_lines = same_return l
same_ending l (line m ms) = same_ending m ms

pub returned : (ls : Lines) → small.last_returns false (small.line_trees ls) ≡ true → ends_in_return (whole.line_trees (lines_of ls)) ≡ true
returned no_lines e = absurd (not_true e)
returned (line l ls) e = sym (same_ending l ls) ∙ e
