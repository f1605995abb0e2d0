-- A token keeps what has been taken shallow, where it is itself sure to need no more nodes.
use Rattle.std.proofs.Common.{ℕ, zero, suc, ◌+◌, ◌≤◌, max, Bool, true, false, ◌&&◌, not, cond, List, [], ◌∷◌, length, Option, Some, None, arith}
use Rattle.gc0_base.specs.declared.place.Place.{Place}
use Rattle.c0_lex.specs.declared.token.Keyword.{Keyword}
use Rattle.c0_lex.specs.declared.token.Keyword.TheVariants as key
use Rattle.c0_lex.specs.declared.token.Symbol.{Symbol}
use Rattle.c0_lex.specs.declared.token.Symbol.TheVariants as mark
use Rattle.parsed_tree.specs.declared.expressions.Named.{Named}
use Rattle.parsed_tree.specs.declared.expressions.Text.{Text}
use Rattle.parsed_tree.specs.declared.expressions.Base.{Base}
use Rattle.parsed_tree.specs.declared.expressions.Base.TheVariants as base
use Rattle.parsed_tree.specs.declared.expressions.TypeName.{TypeName}
use Rattle.parsed_tree.specs.declared.expressions.UnaryOperator.{UnaryOperator}
use Rattle.parsed_tree.specs.declared.expressions.UnaryOperator.TheVariants as unary_op
use Rattle.parsed_tree.specs.declared.expressions.Operator.{Operator}
use Rattle.parsed_tree.specs.declared.statements.UpdateOperator.{UpdateOperator}
use Rattle.parsed_tree.specs.declared.statements.StepOperator.{StepOperator}
use Rattle.parsed_tree.specs.declared.items.Library.{Library}
use Rattle.parsed_tree.specs.declared.items.Param.{Param}
use Rattle.parsed_tree.specs.declared.items.ResultType.{ResultType}
use Rattle.parsed_tree.specs.declared.items.ResultType.TheVariants as result
use Rattle.parsed_tree.specs.declared.items.Side.{Side}
use Rattle.parsed_tree.specs.declared.items.Side.TheVariants as side
use Rattle.parsed_tree.specs.Tree.{ExprTree, local, outcome, unary, call, alloc, acc, ExprTrees, no_exprs, expr_and, from, FormulaTree, InstanceTree, NoteTree, assert_note, fold_note, unfold_note, InvariantTree, InvariantsTree, SimpleTree, declare, assign, stepped, plain, StmtTree, simple_stmt, if_stmt, while_stmt, for_stmt, return_stmt, assert_stmt, notes_stmt, StmtTrees, no_stmts, stmt_and, ClauseTree, ContractTree, PredicateTree, ItemTree, struct_name, struct_item, typedef_item}
use Rattle.c0_grammar.specs.Tokens.{Fixed, word_mark, sign_mark, use_mark, open_mark, close_mark, end_mark, What, fixed, name_what, number_what, text_what, Token, is_among}
use Rattle.c0_grammar.specs.Written.{spot, joined, chosen, pointed, named_at, text_at}
use Rattle.c0_grammar.specs.Allowed.{Mode, code, conjunct, value, is_code, is_conjunct, right_of, has, left_fits, condition_fits}
use Rattle.c0_grammar.specs.Grammar.{is_place}
use Rattle.c0_grammar.specs.Plan.{is, operator_at, of_rank, update_at, step_at, Loop, star_loop, invariant_loop, note_loop, clause_loop, contract_loop, predicate_loop, field_loop, param_loop, use_loop, Part, Plan, await, peek, name, alias, text, peek_text, library_name_of, operand, arrows, acc_arrows, ops, quest, more_args, simple_end, simple, body, loop_body, lines, many, items, finished, Step, step_if, or_step, stars, struct_type, typed, behind, climb, rest_of, expr, primary, argument, arguments, called_plan, behind_name, alloc_plan, acc_plan, unary_step, round_plan, word_step, sign_step, operand_step, ops_step, quest_plan, more_args_step, formula, stated, instance, note_at, assert_plan, fold_plan, unfold_plan, folding, other_notes, notes_plan, notes_or_none, declared, begun_simple, evaluated_step, type_step, simple_step, assign_step, by_one_step, simple_end_step, condition, block_plan, if_plan, while_plan, optional_simple, for_plan, return_plan, assert_stmt_plan, error_plan, word_line_step, simple_line as simple_line_plan, annotation_plan, compound_step, line_step, after_line, lines_step, invariant_at, invariants_at, invariant_plan, after_invariants, head_annotation, loop_body_step, param_plan, params_plan, clause_at, clause_plan, contract_plan, predicate_plan, field_behind, behind_head, head_plan, typed_head, fields_plan, struct_plan, after_item, typedef_plan, predicates_plan, items_step, note_enter, clause_enter, use_plan, enter_at, enter_name, enter, after_part, name_step, alias_step, text_step, library_of, library_named, library_step, acc_arrows_step, step, start}
use Rattle.c0_grammar.proofs.Viable.{loop_up, Shallow, ShallowNext}

-- what goes on with a part of so many nodes
abbrev Goes : ℕ → ℕ → {A : Type 0} → (A → ℕ → Plan) → Type 0
Goes L up {A} next = (x : A) (d : ℕ) → up + d ≤ L → Shallow L (next x d)

-- one node less above, one more below
deeper : {A B : Type 0} (L up : ℕ) (f : A → B) (next : B → ℕ → Plan) → Goes L up next → Goes L (up + 1) (λ x d. next (f x) (d + 1))
deeper L up f next k x d h = k (f x) (d + 1) (omega (arith, h))

if_shallow : (L : ℕ) (b : Bool) (s : Step) → ShallowNext L s → ShallowNext L (step_if b s)
if_shallow L true s h = h
if_shallow L false s h = tt

or_shallow : (L : ℕ) (s other : Step) → ShallowNext L s → ShallowNext L other → ShallowNext L (or_step s other)
or_shallow L (Some x) other h k = h
or_shallow L None other h k = k

cond_shallow : (L : ℕ) (b : Bool) (s other : Step) → ShallowNext L s → ShallowNext L other → ShallowNext L (cond b s other)
cond_shallow L true s other h k = h
cond_shallow L false s other h k = k

-- ---- types
stars_s : (L : ℕ) (at : Place) (b : Base) (next : TypeName → Plan) → ((t : TypeName) → Shallow L (next t)) → Shallow L (stars at b next)
stars_s L at b next k = (omega arith, λ xs d h. k (record { place = at; base = b; stars = length xs }))

struct_s : (L : ℕ) (next : TypeName → Plan) (at : Place) → ((t : TypeName) → Shallow L (next t)) → Shallow L (struct_type next at)
struct_s L next at k = λ n. stars_s L at (base.Struct n) next k

typed_s : (L : ℕ) (names : List (List ℕ)) (next : TypeName → Plan) → ((t : TypeName) → Shallow L (next t)) → Shallow L (typed names next)
typed_s L names next k = (
  λ r at. stars_s L at base.Bool next k,
  (
    λ r at. struct_s L next at k,
    (
      λ r at n. stars_s L at (base.Alias n) next k,
      (omega arith, λ at. stars_s L at base.Int next k),
    ),
    tt,
  ),
  tt,
)

type_step_s : (L : ℕ) (names : List (List ℕ)) (reach : ℕ) (next : TypeName → Plan) (w : What) (at : Place) → (reach ≤ L → (t : TypeName) → Shallow L (next t)) → ShallowNext L (type_step names reach next w at)
type_step_s L names reach next (fixed (word_mark key.Int)) at k = λ h. stars_s L at base.Int next (k h)
type_step_s L names reach next (fixed (word_mark key.Bool)) at k = λ h. stars_s L at base.Bool next (k h)
type_step_s L names reach next (fixed (word_mark key.Struct)) at k = λ h. struct_s L next at (k h)
type_step_s L names reach next (name_what n) at k = if_shallow L (is_among names n) (Some (reach, stars at (base.Alias n) next)) (λ h. stars_s L at (base.Alias n) next (k h))
type_step_s L names reach next w at k = tt

-- ---- expressions
behind_s : (L r : ℕ) (names : List (List ℕ)) (m : Mode) (up : ℕ) (next : ExprTree → ℕ → Plan) → Goes L up next → Goes L up (behind r names m up next)
behind_s L zero names m up next k = k
behind_s L (suc r) names m up next k = behind_s L r names m up (λ e d. ops r names m up e d next) (λ e d h. (h, k))

climb_s : (L r : ℕ) (names : List (List ℕ)) (m : Mode) (up : ℕ) (next : ExprTree → ℕ → Plan) → up ≤ L → Goes L up next → Shallow L (climb r names m up next)
climb_s L r names m up next u k = (u, behind_s L r names m up next k)

rest_s : (L : ℕ) (names : List (List ℕ)) (m : Mode) (up : ℕ) (next : ExprTree → ℕ → Plan) → Goes L up next → Goes L up (rest_of names m up next)
rest_s L names m up next k = behind_s L 10 names m up (λ e d. quest names m up e d next) (λ e d h. (h, k))

expr_s : (L : ℕ) (names : List (List ℕ)) (m : Mode) (up : ℕ) (next : ExprTree → ℕ → Plan) → up ≤ L → Goes L up next → Shallow L (expr names m up next)
expr_s L names m up next u k = (u, rest_s L names m up next k)

primary_s : (L : ℕ) (m : Mode) (up : ℕ) (next : ExprTree → ℕ → Plan) → Goes L up next → Goes L up (primary m up next)
primary_s L code up next k = λ e d h. (h, k)
primary_s L conjunct up next k = k
primary_s L value up next k = k

argument_s : (L : ℕ) (names : List (List ℕ)) (m : Mode) (up : ℕ) (next : ExprTrees → ℕ → Plan) → Goes L up next → Goes L up (argument names m up next)
argument_s L names m up next k = λ e d h. (omega (arith, h), λ es c g. k (expr_and e es) (max d c) (omega (arith, h, g)))

arguments_s : (L : ℕ) (names : List (List ℕ)) (m : Mode) (up : ℕ) (next : ExprTrees → ℕ → Plan) → up ≤ L → Goes L up next → Shallow L (arguments names m up next)
arguments_s L names m up next u k = (λ r b. k no_exprs 0 (omega (arith, u)), expr_s L names m up (argument names m up next) u (argument_s L names m up next k), tt)

called_s : (L : ℕ) (names : List (List ℕ)) (up : ℕ) (next : ExprTree → ℕ → Plan) (at : Place) (n : List ℕ) → up + 1 ≤ L → Goes L up next → Shallow L (called_plan names up next at n)
called_s L names up next at n u k =
    (λ t. (omega arith, λ b. (u, k)), arguments_s L names code (up + 1) (λ es d. arrows up (call (spot at) n es) (d + 1) next) u (λ es d h. (omega (arith, h), k)))

name_s : (L : ℕ) (names : List (List ℕ)) (m : Mode) (up : ℕ) (next : ExprTree → ℕ → Plan) (at : Place) (n : List ℕ) → up ≤ L → Goes L up next → Shallow L (behind_name names m up next at n)
name_s L names code up next at n u k = (λ r a. called_s L names up next at n r k, (omega (arith, u), k), tt)
name_s L names conjunct up next at n u k = (λ r a. arguments_s L names value (up + 1) (λ es d. next (call (spot at) n es) (d + 1)) r (deeper L up (call (spot at) n) next k), (omega (arith, u), k), tt)
name_s L names value up next at n u k = (omega (arith, u), k)

alloc_s : (L : ℕ) (names : List (List ℕ)) (up : ℕ) (next : ExprTree → ℕ → Plan) (at : Place) → up ≤ L → Goes L up next → Shallow L (alloc_plan names up next at)
alloc_s L names up next at u k = (omega arith, λ a. typed_s L names (λ t. await 0 (sign_mark mark.CloseParen) (λ b. arrows up (alloc (spot at) t) 0 next)) (λ t. (omega arith, λ b. (omega (arith, u), k))))

acc_s : (L : ℕ) (names : List (List ℕ)) (up : ℕ) (next : ExprTree → ℕ → Plan) (at : Place) → up + 2 ≤ L → Goes L up next → Shallow L (acc_plan names up next at)
acc_s L names up next at u k = (omega arith, λ a. (λ r b. began (outcome (spot b)), (λ n. began (local (spot n.place) n.name)), tt))
  where
    began : (x : ExprTree) → Shallow L (await 0 (sign_mark mark.Arrow) (λ p. name [] (λ f. acc_arrows up x 0 p f (λ y d q g. next (acc (spot at) y q g) (d + 2)))))
    began x = (omega arith, λ p f. (omega (arith, u), λ y d q g h. k (acc (spot at) y q g) (d + 2) (omega (arith, h))))

unary_s : (L : ℕ) (names : List (List ℕ)) (m : Mode) (up : ℕ) (next : ExprTree → ℕ → Plan) (o : UnaryOperator) (at : Place) → Goes L up next → ShallowNext L (unary_step names m up next o at)
unary_s L names m up next o at k = λ r. (r, deeper L up (unary (spot at) o) next k)

round_s : (L : ℕ) (names : List (List ℕ)) (m : Mode) (up : ℕ) (next : ExprTree → ℕ → Plan) (at : Place) → up + 1 ≤ L → Goes L up next → Shallow L (round_plan names m up next at)
round_s L names m up next at u k = expr_s L names m (up + 1) (λ e d. await 0 (sign_mark mark.CloseParen) (λ b. primary m up next (from at e) (d + 1))) u (λ e d h. (omega arith, λ b. primary_s L m up next k (from at e) (d + 1) (omega (arith, h))))

word_s : (L : ℕ) (names : List (List ℕ)) (m : Mode) (up : ℕ) (next : ExprTree → ℕ → Plan) (w : Keyword) (at : Place) → Goes L up next → ShallowNext L (word_step names m up next w at)
word_s L names m up next key.True at k = λ u. primary_s L m up next k _ 0 (omega (arith, u))
word_s L names m up next key.False at k = λ u. primary_s L m up next k _ 0 (omega (arith, u))
word_s L names m up next key.Null at k = λ u. primary_s L m up next k _ 0 (omega (arith, u))
word_s L names m up next key.Outcome at k = if_shallow L (not (is_code m)) (Some (up, arrows up (outcome (spot at)) 0 next)) (λ u. (omega (arith, u), k))
word_s L names m up next key.Alloc at k = if_shallow L (is_code m) (Some (up, alloc_plan names up next at)) (λ u. alloc_s L names up next at u k)
word_s L names m up next key.Acc at k = if_shallow L (is_conjunct m) (Some (up + 2, acc_plan names up next at)) (λ u. acc_s L names up next at u k)
word_s L names m up next w at k = tt

sign_s : (L : ℕ) (names : List (List ℕ)) (m : Mode) (up : ℕ) (next : ExprTree → ℕ → Plan) (s : Symbol) (at : Place) → Goes L up next → ShallowNext L (sign_step names m up next s at)
sign_s L names m up next mark.Minus at k = unary_s L names m up next unary_op.Negate at k
sign_s L names m up next mark.Tilde at k = unary_s L names m up next unary_op.Not at k
sign_s L names m up next mark.Not at k = unary_s L names m up next unary_op.Flip at k
sign_s L names m up next mark.OpenParen at k = λ u. round_s L names m up next at u k
sign_s L names m up next s at k = tt

operand_s : (L : ℕ) (names : List (List ℕ)) (m : Mode) (up : ℕ) (next : ExprTree → ℕ → Plan) (w : What) (at : Place) → Goes L up next → ShallowNext L (operand_step names m up next w at)
operand_s L names m up next (number_what v) at k = λ u. primary_s L m up next k _ 0 (omega (arith, u))
operand_s L names m up next (name_what n) at k = if_shallow L (not (is_among names n)) (Some (up, behind_name names m up next at n)) (λ u. name_s L names m up next at n u k)
operand_s L names m up next (fixed (word_mark w)) at k = word_s L names m up next w at k
operand_s L names m up next (fixed (sign_mark s)) at k = sign_s L names m up next s at k
operand_s L names m up next w at k = tt

ops_s : (L r : ℕ) (names : List (List ℕ)) (m : Mode) (up : ℕ) (e : ExprTree) (d : ℕ) (next : ExprTree → ℕ → Plan) (other : Step) (o : Option Operator) (at : Place) → Goes L up next → ShallowNext L other → ShallowNext L (ops_step r names m up e d next other o at)
ops_s L r names m up e d next other None at k h = h
ops_s L r names m up e d next other (Some o) at k h =
    if_shallow L (has m o && left_fits m o e) (Some (up + d + 1, climb r names (right_of m o) (up + 1) (λ e' d'. ops r names m up (joined at o e e') (max d d' + 1) next)))
    (λ u. climb_s L r names (right_of m o) (up + 1) (λ e' d'. ops r names m up (joined at o e e') (max d d' + 1) next) (omega (arith, u)) (λ e' d' g. (omega (arith, u, g), k)))

quest_s : (L : ℕ) (names : List (List ℕ)) (m : Mode) (up : ℕ) (e : ExprTree) (d : ℕ) (next : ExprTree → ℕ → Plan) (at : Place) → up + d + 1 ≤ L → Goes L up next → Shallow L (quest_plan names m up e d next at)
quest_s L names m up e d next at u k =
    expr_s L names m (up + 1) (λ y dy. await 0 (sign_mark mark.Colon) (λ c. expr names m (up + 1) (λ z dz. next (chosen at e y z) (max d (max dy dz) + 1)))) (omega (arith, u))
    (λ y dy g. (omega arith, λ c. expr_s L names m (up + 1) (λ z dz. next (chosen at e y z) (max d (max dy dz) + 1)) (omega (arith, u)) (λ z dz h. k (chosen at e y z) (max d (max dy dz) + 1) (omega (arith, u, g, h)))))

more_args_s : (L : ℕ) (names : List (List ℕ)) (m : Mode) (up : ℕ) (next : ExprTrees → ℕ → Plan) (w : What) → up ≤ L → Goes L up next → ShallowNext L (more_args_step names m up next w)
more_args_s L names m up next (fixed (sign_mark mark.CloseParen)) u k = λ r. k no_exprs 0 (omega (arith, u))
more_args_s L names m up next (fixed (sign_mark mark.Comma)) u k = λ r. expr_s L names m up (argument names m up next) u (argument_s L names m up next k)
more_args_s L names m up next w u k = tt

acc_arrows_s : (L up : ℕ) (x : ExprTree) (d : ℕ) (p : Place) (f : Named) (next : ExprTree → ℕ → Place → Named → Plan) (w : What) (at : Place) → up + d + 2 ≤ L → ((y : ExprTree) (c : ℕ) (q : Place) (g : Named) → up + c + 2 ≤ L → Shallow L (next y c q g)) → ShallowNext L (acc_arrows_step up x d p f next w at)
acc_arrows_s L up x d p f next (fixed (sign_mark mark.CloseParen)) at u k = λ r. k x d p f u
acc_arrows_s L up x d p f next (fixed (sign_mark mark.Arrow)) at u k = λ r g. (omega (arith, r), k)
acc_arrows_s L up x d p f next w at u k = tt

-- ---- formulas and notes
formula_s : (L : ℕ) (names : List (List ℕ)) (up : ℕ) (next : FormulaTree → ℕ → Plan) → up ≤ L → Goes L up next → Shallow L (formula names up next)
formula_s L names up next u k = (
  λ r q. (λ r a. expr_s L names conjunct up (λ e d. next (record { imprecise = true; parts = Some e }) d) u (λ e d h. k (record { imprecise = true; parts = Some e }) d h), k (record { imprecise = true; parts = None }) 0 (omega (arith, u)), tt),
  expr_s L names conjunct up (λ e d. next (record { imprecise = false; parts = Some e }) d) u (λ e d h. k (record { imprecise = false; parts = Some e }) d h),
  tt,
)

stated_s : (L : ℕ) (names : List (List ℕ)) (up : ℕ) (next : FormulaTree → ℕ → Plan) → up ≤ L → Goes L up next → Shallow L (stated names up next)
stated_s L names up next u k = formula_s L names up (λ f d. await 0 (sign_mark mark.Semicolon) (λ c. next f d)) u (λ f d h. (omega arith, λ c. k f d h))

instance_s : (L : ℕ) (names : List (List ℕ)) (up : ℕ) (next : InstanceTree → ℕ → Plan) → up + 1 ≤ L → Goes L up next → Shallow L (instance names up next)
instance_s L names up next u k = λ n. (omega arith, λ a. arguments_s L names value (up + 1) (λ es d. await 0 (sign_mark mark.Semicolon) (λ c. next (record { name = n; arguments = es }) (d + 1))) u (λ es d h. (omega arith, λ c. k (record { name = n; arguments = es }) (d + 1) (omega (arith, h)))))

assert_note_s : (L : ℕ) (names : List (List ℕ)) (up : ℕ) (next : NoteTree → ℕ → Plan) (at : Place) → up ≤ L → Goes L up next → Shallow L (assert_plan names up next at)
assert_note_s L names up next at u k = stated_s L names up (λ f d. next (note_at at (assert_note f)) d) u (λ f d h. k (note_at at (assert_note f)) d h)

fold_note_s : (L : ℕ) (names : List (List ℕ)) (up : ℕ) (next : NoteTree → ℕ → Plan) (at : Place) → up + 1 ≤ L → Goes L up next → Shallow L (fold_plan names up next at)
fold_note_s L names up next at u k = instance_s L names up (λ i d. next (note_at at (fold_note i)) d) u (λ i d h. k (note_at at (fold_note i)) d h)

unfold_note_s : (L : ℕ) (names : List (List ℕ)) (up : ℕ) (next : NoteTree → ℕ → Plan) (at : Place) → up + 1 ≤ L → Goes L up next → Shallow L (unfold_plan names up next at)
unfold_note_s L names up next at u k = instance_s L names up (λ i d. next (note_at at (unfold_note i)) d) u (λ i d h. k (note_at at (unfold_note i)) d h)

other_notes_s : (L : ℕ) (names : List (List ℕ)) (up : ℕ) (next : StmtTree → ℕ → Plan) (at : Place) → up + 1 ≤ L → Goes L up next → Goes L (up + 1) (other_notes names up next at)
other_notes_s L names up next at u k = λ n d h. (u, λ ns c g. (omega arith, λ e. k _ (max d c + 1) (omega (arith, h, g))))

folding_s : (L : ℕ) (names : List (List ℕ)) (up : ℕ) (next : NoteTree → ℕ → Plan) (others : Plan) → (up + 2 ≤ L → Goes L (up + 1) next) → Shallow L others → Shallow L (folding names up next others)
folding_s L names up next others k h =
    (λ r at. fold_note_s L names (up + 1) next at (omega (arith, r)) (k r), (λ r at. unfold_note_s L names (up + 1) next at (omega (arith, r)) (k r), h, tt), tt)

notes_s : (L : ℕ) (names : List (List ℕ)) (up : ℕ) (next : StmtTree → ℕ → Plan) (at : Place) → up + 1 ≤ L → Goes L up next → Shallow L (notes_plan names up next at)
notes_s L names up next at u k =
    folding_s L names up (other_notes names up next at) (await (up + 1) (word_mark key.Assert) (assert_plan names (up + 1) (other_notes names up next at)))
    (λ r. other_notes_s L names up next at u k) (u, λ w. assert_note_s L names (up + 1) (other_notes names up next at) w u (other_notes_s L names up next at u k))

notes_or_none_s : (L : ℕ) (names : List (List ℕ)) (up : ℕ) (next : StmtTree → ℕ → Plan) (at : Place) → up ≤ L → Goes L up next → Shallow L (notes_or_none names up next at)
notes_or_none_s L names up next at u k =
    folding_s L names up (other_notes names up next at) (peek (up + 1) (word_mark key.Assert) (assert_plan names (up + 1) (other_notes names up next at)) (await 0 close_mark (λ e. next (notes_stmt at []) 0)))
    (λ r. other_notes_s L names up next at (omega (arith, r)) k)
    (λ r w. assert_note_s L names (up + 1) (other_notes names up next at) w r (other_notes_s L names up next at r k), (omega arith, λ e. k _ 0 (omega (arith, u))), tt)

-- ---- statements
declared_s : (L : ℕ) (names : List (List ℕ)) (up : ℕ) (next : SimpleTree → ℕ → Plan) (t : TypeName) → up ≤ L → Goes L up next → Shallow L (declared names up next t)
declared_s L names up next t u k = λ n. (λ r q. expr_s L names code up (λ e d. next (declare t n (Some (q, e))) d) u (λ e d h. k (declare t n (Some (q, e))) d h), k (declare t n None) 0 (omega (arith, u)), tt)

begun_simple_s : (L : ℕ) (names : List (List ℕ)) (up : ℕ) (next : SimpleTree → ℕ → Plan) → Goes L up next → Goes L up (begun_simple names up next)
begun_simple_s L names up next k = rest_s L names code up (λ e d. simple_end names up e d next) (λ e d h. (h, k))

simple_step_s : (L : ℕ) (names : List (List ℕ)) (may : Bool) (up : ℕ) (next : SimpleTree → ℕ → Plan) (w : What) (at : Place) → Goes L up next → ShallowNext L (simple_step names may up next w at)
simple_step_s L names may up next w at k =
    or_shallow L (step_if may (type_step names up (declared names up next) w at)) (evaluated_step names up next w at)
    (if_shallow L may (type_step names up (declared names up next) w at) (type_step_s L names up (declared names up next) w at (λ u t. declared_s L names up next t u k)))
    (operand_s L names code up (begun_simple names up next) w at (begun_simple_s L names up next k))

assign_s : (L : ℕ) (names : List (List ℕ)) (up : ℕ) (e : ExprTree) (d : ℕ) (next : SimpleTree → ℕ → Plan) (o : Option (Option UpdateOperator)) (at : Place) → up + d ≤ L → Goes L up next → ShallowNext L (assign_step names up e d next o at)
assign_s L names up e d next None at u k = tt
assign_s L names up e d next (Some o) at u k = λ r. expr_s L names code up (λ y dy. next (assign e at o y) (max d dy)) (omega (arith, u)) (λ y dy h. k (assign e at o y) (max d dy) (omega (arith, u, h)))

by_one_s : (L up : ℕ) (e : ExprTree) (d : ℕ) (next : SimpleTree → ℕ → Plan) (o : Option StepOperator) (at : Place) → up + d ≤ L → Goes L up next → ShallowNext L (by_one_step e d next o at)
by_one_s L up e d next None at u k = tt
by_one_s L up e d next (Some o) at u k = λ r. k (stepped e at o) d u

simple_end_s : (L : ℕ) (names : List (List ℕ)) (up : ℕ) (e : ExprTree) (d : ℕ) (next : SimpleTree → ℕ → Plan) (other : Step) (w : What) (at : Place) → up + d ≤ L → Goes L up next → ShallowNext L other → ShallowNext L (simple_end_step names up e d next other w at)
simple_end_s L names up e d next other w at u k h =
    let a = assign_s L names up e d next (update_at w) at u k in
    let b = by_one_s L up e d next (step_at w) at u k in
    let both = or_step (assign_step names up e d next (update_at w) at) (by_one_step e d next (step_at w) at) in
    or_shallow L (step_if (is_place e) both) other (if_shallow L (is_place e) both (or_shallow L (assign_step names up e d next (update_at w) at) (by_one_step e d next (step_at w) at) a b)) h

condition_s : (L : ℕ) (names : List (List ℕ)) (up : ℕ) (next : ExprTree → ℕ → Plan) → up ≤ L → Goes L up next → Shallow L (condition names up next)
condition_s L names up next u k = (omega arith, λ a. expr_s L names code up (λ e d. await 0 (sign_mark mark.CloseParen) (λ b. next e d)) u (λ e d h. (omega arith, λ b. k e d h)))

block_s : (L : ℕ) (names : List (List ℕ)) (up : ℕ) (next : StmtTree → ℕ → Plan) (at : Place) → up + 1 ≤ L → Goes L up next → Shallow L (block_plan names up next at)
block_s L names up next at u k = (u, λ ss d e h. k _ (d + 1) (omega (arith, h)))

if_s : (L : ℕ) (names : List (List ℕ)) (up : ℕ) (next : StmtTree → ℕ → Plan) (at : Place) → up + 2 ≤ L → Goes L up next → Shallow L (if_plan names up next at)
if_s L names up next at u k = condition_s L names (up + 1) (λ e d. body names (up + 1) (λ s d1.
    peek 0 (word_mark key.Else) (λ w. body names (up + 1) (λ o d2. next (if_stmt at e s (stmt_and o no_stmts)) (max d (max d1 d2) + 1)))
    (next (if_stmt at e s no_stmts) (max d d1 + 1)))) (omega (arith, u)) (λ e d h. (omega (arith, u), λ s c g. (λ r w. (omega (arith, u), λ o b f. k _ (max d (max c b) + 1) (omega (arith, h, g, f))), k _ (max d c + 1) (omega (arith, h, g)), omega arith)))

while_s : (L : ℕ) (names : List (List ℕ)) (up : ℕ) (next : StmtTree → ℕ → Plan) (at : Place) → up + 2 ≤ L → Goes L up next → Shallow L (while_plan names up next at)
while_s L names up next at u k = condition_s L names (up + 1) (λ e d. loop_body names (up + 1) (λ is di s ds. next (while_stmt at e is s) (max d (max di ds) + 1))) (omega (arith, u)) (λ e d h. (omega (arith, u), λ is di s ds g f. k _ (max d (max di ds) + 1) (omega (arith, h, g, f))))

optional_s : (L : ℕ) (names : List (List ℕ)) (may : Bool) (up : ℕ) (s : Symbol) (next : Option SimpleTree → ℕ → Plan) → up ≤ L → Goes L up next → Shallow L (optional_simple names may up s next)
optional_s L names may up s next u k = (λ r c. k None 0 (omega (arith, u)), (u, λ x d h. (omega arith, λ c. k (Some x) d h)), tt)

for_s : (L : ℕ) (names : List (List ℕ)) (up : ℕ) (next : StmtTree → ℕ → Plan) (at : Place) → up + 2 ≤ L → Goes L up next → Shallow L (for_plan names up next at)
for_s L names up next at u k = (
  omega arith,
  λ a. optional_s L names true (up + 1) mark.Semicolon tested (omega (arith, u)) (λ x dx hx.
      expr_s L names code (up + 1) (after_test x dx) (omega (arith, u)) (λ e d h. (
        omega arith,
        λ c.
            optional_s L names false (up + 1) mark.CloseParen (ends x dx e d) (omega (arith, u)) (λ y dy hy.
            (omega (arith, u), λ is di s ds g f. k (for_stmt at x e y is s) (max dx (max d (max dy (max di ds))) + 1) (omega (arith, hx, h, hy, g, f)))),
      ))),
)
  where
    ends : Option SimpleTree → ℕ → ExprTree → ℕ → Option SimpleTree → ℕ → Plan
    ends x dx e d y dy = loop_body names (up + 1) (λ is di s ds. next (for_stmt at x e y is s) (max dx (max d (max dy (max di ds))) + 1))

    after_test : Option SimpleTree → ℕ → ExprTree → ℕ → Plan
    after_test x dx e d = await 0 (sign_mark mark.Semicolon) (λ c. optional_simple names false (up + 1) mark.CloseParen (ends x dx e d))

    tested : Option SimpleTree → ℕ → Plan
    tested x dx = expr names code (up + 1) (after_test x dx)

return_s : (L : ℕ) (names : List (List ℕ)) (up : ℕ) (next : StmtTree → ℕ → Plan) (at : Place) → up + 1 ≤ L → Goes L up next → Shallow L (return_plan names up next at)
return_s L names up next at u k = (λ r c. k (return_stmt at None) 1 u, expr_s L names code (up + 1) (λ e d. await 0 (sign_mark mark.Semicolon) (λ c. next (return_stmt at (Some e)) (d + 1))) u (λ e d h. (omega arith, λ c. k _ (d + 1) (omega (arith, h)))), tt)

assert_s : (L : ℕ) (names : List (List ℕ)) (up : ℕ) (next : StmtTree → ℕ → Plan) (at : Place) → up + 1 ≤ L → Goes L up next → Shallow L (assert_stmt_plan names up next at)
assert_s L names up next at u k = condition_s L names (up + 1) (λ e d. await 0 (sign_mark mark.Semicolon) (λ c. next (assert_stmt at e) (d + 1))) u (λ e d h. (omega arith, λ c. k _ (d + 1) (omega (arith, h))))

error_s : (L up : ℕ) (next : StmtTree → ℕ → Plan) (at : Place) → up + 1 ≤ L → Goes L up next → Shallow L (error_plan next at)
error_s L up next at u k = (omega arith, λ a t. (omega arith, λ b. (omega arith, λ c. k _ 1 u)))

word_line_s : (L : ℕ) (names : List (List ℕ)) (up : ℕ) (next : StmtTree → ℕ → Plan) (w : Keyword) (at : Place) → Goes L up next → ShallowNext L (word_line_step names up next w at)
word_line_s L names up next key.If at k = λ u. if_s L names up next at u k
word_line_s L names up next key.While at k = λ u. while_s L names up next at u k
word_line_s L names up next key.For at k = λ u. for_s L names up next at u k
word_line_s L names up next key.Return at k = λ u. return_s L names up next at u k
word_line_s L names up next key.Assert at k = λ u. assert_s L names up next at u k
word_line_s L names up next key.Error at k = λ u. error_s L up next at u k
word_line_s L names up next w at k = tt

-- an annotation may be empty where one may, and else a statement must have room
Room : Bool → ℕ → ℕ → Type 0
Room true up L = up ≤ L
Room false up L = up + 1 ≤ L

annotation_s : (L : ℕ) (names : List (List ℕ)) (may : Bool) (up : ℕ) (next : StmtTree → ℕ → Plan) (at : Place) → Room may up L → Goes L up next → Shallow L (annotation_plan names may up next at)
unfolding Room
annotation_s L names true up next at u k = notes_or_none_s L names up next at u k
annotation_s L names false up next at u k = notes_s L names up next at u k

compound_s : (L : ℕ) (names : List (List ℕ)) (may : Bool) (up : ℕ) (next : StmtTree → ℕ → Plan) (w : What) (at : Place) → Room may up L → Goes L up next → ShallowNext L (compound_step names may up next w at)
compound_s L names may up next (fixed (word_mark w)) at u k = word_line_s L names up next w at k
compound_s L names may up next (fixed (sign_mark mark.OpenBrace)) at u k = λ r. block_s L names up next at r k
compound_s L names may up next (fixed open_mark) at u k = λ r. annotation_s L names may up next at u k
compound_s L names may up next w at u k = tt

simple_line_s : (L up : ℕ) (next : StmtTree → ℕ → Plan) → Goes L up next → Goes L (up + 1) (simple_line_plan next)
simple_line_s L up next k = λ s d h. (omega arith, λ c. k (simple_stmt s) (d + 1) (omega (arith, h)))

line_s : (L : ℕ) (names : List (List ℕ)) (may : Bool) (up : ℕ) (next : StmtTree → ℕ → Plan) (w : What) (at : Place) → Room may up L → Goes L up next → ShallowNext L (line_step names may up next w at)
line_s L names may up next w at u k =
    or_shallow L (compound_step names may up next w at) (simple_step names may (up + 1) (simple_line_plan next) w at) (compound_s L names may up next w at u k) (simple_step_s L names may (up + 1) (simple_line_plan next) w at (simple_line_s L up next k))

whole_room : (up L : ℕ) → up ≤ L → Room true up L
unfolding Room
whole_room up L h = h

body_room : (up L : ℕ) → up + 1 ≤ L → Room false up L
unfolding Room
body_room up L h = h

lines_s : (L : ℕ) (names : List (List ℕ)) (up : ℕ) (next : StmtTrees → ℕ → Place → Plan) (w : What) (at : Place) → up ≤ L → ((ss : StmtTrees) (d : ℕ) (e : Place) → up + d ≤ L → Shallow L (next ss d e)) → ShallowNext L (lines_step names up next w at)
lines_s L names up next (fixed (sign_mark mark.CloseBrace)) at u k = λ r. k no_stmts 0 at (omega (arith, u))
lines_s L names up next w at u k = line_s L names true up (after_line names up next) w at (whole_room up L u) (λ s d h. (u, λ ss c e g. k _ (max d c) e (omega (arith, h, g))))

-- ---- what stands behind the head of a loop
invariant_s : (L : ℕ) (names : List (List ℕ)) (up : ℕ) (next : InvariantTree → ℕ → Plan) (at : Place) → up ≤ L → Goes L up next → Shallow L (invariant_plan names up next at)
invariant_s L names up next at u k = stated_s L names up (λ f d. next (invariant_at at f) d) u (λ f d h. k (invariant_at at f) d h)

abbrev GoesOn : ℕ → ℕ → (List InvariantsTree → ℕ → StmtTree → ℕ → Plan) → Type 0
GoesOn L up next = (is : List InvariantsTree) (di : ℕ) (s : StmtTree) (ds : ℕ) → up + di ≤ L → up + ds ≤ L → Shallow L (next is di s ds)

after_s : (L : ℕ) (names : List (List ℕ)) (up : ℕ) (next : List InvariantsTree → ℕ → StmtTree → ℕ → Plan) (at : Place) (cs : List InvariantTree) (d : ℕ) → up + 1 ≤ L → up + d ≤ L → GoesOn L up next → Shallow L (after_invariants names up next at cs d)
after_s L names up next at cs d u h k = (u, λ is di s ds g f. k (invariants_at at cs ∷ is) (max d di) s ds (omega (arith, h, g)) f)

head_s : (L : ℕ) (names : List (List ℕ)) (up : ℕ) (next : List InvariantsTree → ℕ → StmtTree → ℕ → Plan) (at : Place) → up + 1 ≤ L → GoesOn L up next → Shallow L (head_annotation names up next at)
head_s L names up next at u k = (
  λ r e. after_s L names up next at [] 0 u (omega (arith, u)) k,
  (
    λ r w. invariant_s L names up (λ c d. many (invariant_loop names up) (λ cs d'. await 0 close_mark (λ e. after_invariants names up next at (c ∷ cs) (max d d')))) w (omega (arith, u)) (λ c d h. (omega (arith, u), λ cs b g. (omega arith, λ e. after_s L names up next at (c ∷ cs) (max d b) u (omega (arith, h, g)) k))),
    notes_s L names up (λ s d. next [] 0 s d) at u (λ s d h. k [] 0 s d (omega (arith, u)) h),
    tt,
  ),
  tt,
)

loop_body_s : (L : ℕ) (names : List (List ℕ)) (up : ℕ) (next : List InvariantsTree → ℕ → StmtTree → ℕ → Plan) (w : What) (at : Place) → up + 1 ≤ L → GoesOn L up next → ShallowNext L (loop_body_step names up next w at)
loop_body_s L names up next (fixed open_mark) at u k = λ r. head_s L names up next at u k
loop_body_s L names up next w at u k = line_s L names false up (λ s d. next [] 0 s d) w at (body_room up L u) (λ s d h. k [] 0 s d (omega (arith, u)) h)

-- ---- heads, contracts and items
param_s : (L : ℕ) (names : List (List ℕ)) (next : Param → Plan) → ((p : Param) → Shallow L (next p)) → Shallow L (param_plan names next)
param_s L names next k = typed_s L names (λ t. name names (λ n. next (record { typed = t; name = n }))) (λ t n. k (record { typed = t; name = n }))

params_s : (L : ℕ) (names : List (List ℕ)) (next : List Param → Plan) → ((ps : List Param) → Shallow L (next ps)) → Shallow L (params_plan names next)
params_s L names next k = (λ r b. k [], param_s L names (λ p. many (param_loop names) (λ ps d. await 0 (sign_mark mark.CloseParen) (λ b. next (p ∷ ps)))) (λ p. (omega arith, λ ps d h. (omega arith, λ b. k (p ∷ ps)))), tt)

clause_s : (L : ℕ) (names : List (List ℕ)) (next : ClauseTree → ℕ → Plan) (s : Side) (at : Place) → Goes L 0 next → Shallow L (clause_plan names next s at)
clause_s L names next s at k = stated_s L names 0 (λ f d. next (clause_at at s f) d) (omega arith) (λ f d h. k (clause_at at s f) d h)

contract_s : (L : ℕ) (names : List (List ℕ)) (next : ContractTree → ℕ → Plan) (at : Place) → Goes L 0 next → Shallow L (contract_plan names next at)
contract_s L names next at k = (omega arith, λ cs d h. (omega arith, λ e. k _ d h))

predicate_s : (L : ℕ) (names : List (List ℕ)) (next : PredicateTree → ℕ → Plan) (at : Place) → Goes L 0 next → Shallow L (predicate_plan names next at)
predicate_s L names next at k = λ n. (omega arith, λ a. params_s L names (λ ps. await 0 (sign_mark mark.Assign) (λ q. expr names conjunct 0 (λ e d. await 0 (sign_mark mark.Semicolon) (λ c. next (record { place = at; name = n; params = ps; body = e }) d)))) (λ ps. (omega arith, λ q. expr_s L names conjunct 0 (λ e d. await 0 (sign_mark mark.Semicolon) (λ c. next (record { place = at; name = n; params = ps; body = e }) d)) (omega arith) (λ e d h. (omega arith, λ c. k _ d h)))))

head_plan_s : (L : ℕ) (names : List (List ℕ)) (next : ItemTree → ℕ → Plan) (r : ResultType) → Goes L 0 next → Shallow L (head_plan names next r)
head_plan_s L names next r k = λ n. (omega arith, λ a. params_s L names (λ ps. behind_head names next (record { result = r; name = n; params = ps })) (λ ps. (omega arith, λ cs dc h. (λ u o. (u, λ ss d e g. k _ (max dc (d + 1)) (omega (arith, h, g))), (omega arith, λ c. k _ dc h), tt))))

fields_s : (L : ℕ) (names : List (List ℕ)) (next : ItemTree → ℕ → Plan) (at : Place) (n : Named) → Goes L 0 next → Shallow L (fields_plan names next at n)
fields_s L names next at n k = (omega arith, λ fs d h. (omega arith, λ b. (omega arith, λ c. k (struct_item at n fs) 0 (omega arith))))

struct_item_s : (L : ℕ) (names : List (List ℕ)) (next : ItemTree → ℕ → Plan) (at : Place) → Goes L 0 next → Shallow L (struct_plan names next at)
struct_item_s L names next at k = λ n.
    (λ r c. k (struct_name at n) 0 (omega arith), (λ r a. fields_s L names next at n k, stars_s L at (base.Struct n) (typed_head names next) (λ t. head_plan_s L names next (result.Typed t) k), tt), tt)

abbrev GoesItems : ℕ → (List ItemTree → ℕ → Plan) → Type 0
GoesItems L next = (is : List ItemTree) (d : ℕ) → d ≤ L → Shallow L (next is d)

after_item_s : (L : ℕ) (names : List (List ℕ)) (next : List ItemTree → ℕ → Plan) → GoesItems L next → Goes L 0 (after_item names next)
after_item_s L names next k = λ i d h is c g. k (i ∷ is) (max d c) (omega (arith, h, g))

typedef_s : (L : ℕ) (names : List (List ℕ)) (next : List ItemTree → ℕ → Plan) (at : Place) → GoesItems L next → Shallow L (typedef_plan names next at)
typedef_s L names next at k = typed_s L names (λ t. name names (λ n. await 0 (sign_mark mark.Semicolon) (λ c. after_item (n.name ∷ names) next (typedef_item at t n) 0))) (λ t n. (omega arith, λ c. after_item_s L (n.name ∷ names) next k (typedef_item at t n) 0 (omega arith)))

predicates_s : (L : ℕ) (names : List (List ℕ)) (next : ItemTree → ℕ → Plan) (at : Place) → Goes L 0 next → Shallow L (predicates_plan names next at)
predicates_s L names next at k = (omega arith, λ ps d h. (omega arith, λ e. k _ d h))

items_s : (L : ℕ) (names : List (List ℕ)) (next : List ItemTree → ℕ → Plan) (w : What) (at : Place) → GoesItems L next → ShallowNext L (items_step names next w at)
items_s L names next (fixed end_mark) at k = λ r. k [] 0 (omega arith)
items_s L names next (fixed open_mark) at k = λ r. predicates_s L names (after_item names next) at (after_item_s L names next k)
items_s L names next (fixed (word_mark key.Struct)) at k = λ r. struct_item_s L names (after_item names next) at (after_item_s L names next k)
items_s L names next (fixed (word_mark key.Typedef)) at k = λ r. typedef_s L names next at k
items_s L names next (fixed (word_mark key.Void)) at k = λ r. head_plan_s L names (after_item names next) (result.Void at) (after_item_s L names next k)
items_s L names next w at k = type_step_s L names 0 (typed_head names (after_item names next)) w at (λ r t. head_plan_s L names (after_item names next) (result.Typed t) (after_item_s L names next k))

-- ---- the parts of lists
note_enter_s : (L : ℕ) (names : List (List ℕ)) (up : ℕ) (next : NoteTree → ℕ → Plan) (w : Keyword) (at : Place) → up ≤ L → Goes L up next → ShallowNext L (note_enter names up next w at)
note_enter_s L names up next key.Assert at u k = λ r. assert_note_s L names up next at u k
note_enter_s L names up next key.Fold at u k = λ r. fold_note_s L names up next at r k
note_enter_s L names up next key.Unfold at u k = λ r. unfold_note_s L names up next at r k
note_enter_s L names up next w at u k = tt

clause_enter_s : (L : ℕ) (names : List (List ℕ)) (next : ClauseTree → ℕ → Plan) (w : Keyword) (at : Place) → Goes L 0 next → ShallowNext L (clause_enter names next w at)
clause_enter_s L names next key.Requires at k = λ r. clause_s L names next side.Requires at k
clause_enter_s L names next key.Ensures at k = λ r. clause_s L names next side.Ensures at k
clause_enter_s L names next w at k = tt

use_s : (L : ℕ) (next : Library → ℕ → Plan) → Goes L 0 next → Shallow L (use_plan next)
use_s L next k = (omega arith, λ a l. (omega arith, λ b. k l 0 (omega arith)))

enter_at_s : (L : ℕ) (l : Loop) (next : Part l → ℕ → Plan) (f : Fixed) (at : Place) → loop_up l ≤ L → Goes L (loop_up l) next → ShallowNext L (enter_at l next f at)
enter_at_s L star_loop next (sign_mark mark.Star) at u k = λ r. k at 0 (omega arith)
enter_at_s L (invariant_loop names up) next (word_mark key.LoopInvariant) at u k = λ r. invariant_s L names up next at u k
enter_at_s L (note_loop names up) next (word_mark w) at u k = note_enter_s L names up next w at u k
enter_at_s L (clause_loop names) next (word_mark w) at u k = clause_enter_s L names next w at k
enter_at_s L (contract_loop names) next open_mark at u k = λ r. contract_s L names next at k
enter_at_s L (predicate_loop names) next (word_mark key.Predicate) at u k = λ r. predicate_s L names next at k
enter_at_s L (field_loop names) next f at u k = type_step_s L names 0 (field_behind next) (fixed f) at (λ r t n. (omega arith, λ c. k _ 0 (omega arith)))
enter_at_s L (param_loop names) next (sign_mark mark.Comma) at u k = λ r. param_s L names (λ p. next p 0) (λ p. k p 0 (omega arith))
enter_at_s L use_loop next use_mark at u k = λ r. use_s L next k
enter_at_s L l next f at u k = tt

enter_name_s : (L : ℕ) (l : Loop) (next : Part l → ℕ → Plan) (n : List ℕ) (at : Place) → Goes L (loop_up l) next → ShallowNext L (enter_name l next n at)
enter_name_s L (field_loop names) next n at k = type_step_s L names 0 (field_behind next) (name_what n) at (λ r t f. (omega arith, λ c. k _ 0 (omega arith)))
enter_name_s L l next n at k = tt

enter_s : (L : ℕ) (l : Loop) (next : Part l → ℕ → Plan) (w : What) (at : Place) → loop_up l ≤ L → Goes L (loop_up l) next → ShallowNext L (enter l next w at)
enter_s L l next (fixed f) at u k = enter_at_s L l next f at u k
enter_s L l next (name_what n) at u k = enter_name_s L l next n at k
enter_s L l next w at u k = tt

after_part_s : (L : ℕ) (l : Loop) (next : List (Part l) → ℕ → Plan) → loop_up l ≤ L → ((xs : List (Part l)) (d : ℕ) → loop_up l + d ≤ L → Shallow L (next xs d)) → Goes L (loop_up l) (after_part l next)
after_part_s L l next u k = λ x d h. (u, λ xs c g. k (x ∷ xs) (max d c) (omega (arith, h, g)))

-- ---- single tokens
name_step_s : (L : ℕ) (names : List (List ℕ)) (next : Named → Plan) (w : What) (at : Place) → ((n : Named) → Shallow L (next n)) → ShallowNext L (name_step names next w at)
name_step_s L names next (name_what n) at k = if_shallow L (not (is_among names n)) (Some (0, next (named_at at n))) (λ r. k (named_at at n))
name_step_s L names next w at k = tt

alias_step_s : (L reach : ℕ) (names : List (List ℕ)) (these : Place → List ℕ → Plan) (other : Step) (w : What) (at : Place) → (reach ≤ L → (at : Place) (n : List ℕ) → Shallow L (these at n)) → ShallowNext L other → ShallowNext L (alias_step reach names these other w at)
alias_step_s L reach names these other (name_what n) at k h = cond_shallow L (is_among names n) (Some (reach, these at n)) other (λ r. k r at n) h
alias_step_s L reach names these other w at k h = h

text_step_s : (L : ℕ) (next : Text → Plan) (other : Step) (w : What) (at : Place) → ((t : Text) → Shallow L (next t)) → ShallowNext L other → ShallowNext L (text_step next other w at)
text_step_s L next other (text_what b) at k h = λ r. k (text_at at b)
text_step_s L next other w at k h = h

library_named_s : (L : ℕ) (next : Library → Plan) (o : Option Library) → ((l : Library) → Shallow L (next l)) → ShallowNext L (library_named next o)
library_named_s L next None k = tt
library_named_s L next (Some l) k = λ r. k l

library_step_s : (L : ℕ) (next : Library → Plan) (w : What) → ((l : Library) → Shallow L (next l)) → ShallowNext L (library_step next w)
library_step_s L next (name_what n) k = library_named_s L next (library_of n) k
library_step_s L next w k = tt

-- ---- each plan
pub shallow_step : (L : ℕ) (plan : Plan) → Shallow L plan → (t : Token) → ShallowNext L (step plan t)
shallow_step L (await reach f next) (u, k) t = cond_shallow L (is f t.what) (Some (reach, next t.place)) None (λ r. k t.place) tt
shallow_step L (peek reach f these others) (a, b, c) t = cond_shallow L (is f t.what) (Some (reach, these t.place)) (step others t) (λ r. a r t.place) (shallow_step L others b t)
shallow_step L (name names next) k t = name_step_s L names next t.what t.place k
shallow_step L (alias reach names these others) (a, b) t = alias_step_s L reach names these (step others t) t.what t.place a (shallow_step L others b t)
shallow_step L (text next) k t = text_step_s L next None t.what t.place k tt
shallow_step L (peek_text these others) (a, b) t = text_step_s L these (step others t) t.what t.place a (shallow_step L others b t)
shallow_step L (library_name_of next) k t = library_step_s L next t.what k
shallow_step L (operand names m up next) (u, k) t = operand_s L names m up next t.what t.place k
shallow_step L (arrows up e d next) (u, k) t = cond_shallow L (is (sign_mark mark.Arrow) t.what) (Some (up + d + 1, name [] (λ n. arrows up (pointed t.place e n) (d + 1) next))) (step (next e d) t) (λ r n. (omega (arith, r), k)) (shallow_step L (next e d) (k e d u) t)
shallow_step L (acc_arrows up x d p f next) (u, k) t = acc_arrows_s L up x d p f next t.what t.place u k
shallow_step L (ops r names m up e d next) (u, k) t = ops_s L r names m up e d next (step (next e d) t) (of_rank r (operator_at t.what)) t.place k (shallow_step L (next e d) (k e d u) t)
shallow_step L (quest names m up e d next) (u, k) t = cond_shallow L (is (sign_mark mark.Question) t.what) (step_if (condition_fits m e) (Some (up + d + 1, quest_plan names m up e d next t.place))) (step (next e d) t) (if_shallow L (condition_fits m e) (Some (up + d + 1, quest_plan names m up e d next t.place)) (λ r. quest_s L names m up e d next t.place r k)) (shallow_step L (next e d) (k e d u) t)
shallow_step L (more_args names m up next) (u, k) t = more_args_s L names m up next t.what u k
shallow_step L (simple_end names up e d next) (u, k) t = simple_end_s L names up e d next (step (next (plain e) d) t) t.what t.place u k (shallow_step L (next (plain e) d) (k (plain e) d u) t)
shallow_step L (simple names may up next) (u, k) t = simple_step_s L names may up next t.what t.place k
shallow_step L (body names up next) (u, k) t = line_s L names false up next t.what t.place (body_room up L u) k
shallow_step L (loop_body names up next) (u, k) t = loop_body_s L names up next t.what t.place u k
shallow_step L (lines names up next) (u, k) t = lines_s L names up next t.what t.place u k
shallow_step L (many l next) (u, k) t = or_shallow L (enter l (after_part l next) t.what t.place) (step (next [] 0) t) (enter_s L l (after_part l next) t.what t.place u (after_part_s L l next u k)) (shallow_step L (next [] 0) (k [] 0 (omega (arith, u))) t)
shallow_step L (items names next) k t = items_s L names next t.what t.place k
shallow_step L (finished p d) h t = tt

pub shallow_start : (L : ℕ) → Shallow L start
shallow_start L = (omega arith, λ us d h is c g. g)
