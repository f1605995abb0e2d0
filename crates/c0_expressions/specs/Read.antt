-- An expression that was read, and what stands so far of a list.
use Rattle.std.specs.Prelude.{◌≡◌, ℕ, ◌+◌, ◌≤◌, max, List, ◌++◌}
use Rattle.gc0_base.specs.declared.place.Place.{Place}
use Rattle.c0_lex.specs.declared.token.Symbol.TheVariants as mark
use Rattle.parsed_tree.specs.declared.expressions.Text.{Text}
use Rattle.parsed_tree.specs.Tree.{ExprTree, call_text, ExprTrees, no_exprs, expr_and}
use Rattle.parsed_tree.specs.Views.{expr_view}
use Rattle.c0_grammar.specs.Allowed.{Mode, is_value}
use Rattle.c0_grammar.specs.Written.{spot}
use Rattle.c0_grammar.specs.Plan.{Plan, arrows, expect_sign, expr}
use Rattle.c0_expressions.specs.declared.built.Found.{Found}
use Rattle.gc0_base.specs.declared.limits.TheConstants.Limits as limits

-- it fits below so many nodes, and is known to be a value or none
pub record IsFound (up : ℕ) (x : Found) : Type 0 where
  pub room : up + x.depth ≤ limits.NESTING
  pub value : x.value ≡ is_value (expr_view x.expr)

-- arguments in front of others
abbrev pub joins_args : ExprTrees → ExprTrees → ExprTrees
joins_args no_exprs others = others
joins_args (expr_and e es) others = expr_and e (joins_args es others)

-- what follows from all arguments, where these are the first of them, and so deep
abbrev pub onto_args : ExprTrees → ℕ → (ExprTrees → ℕ → Plan) → ExprTrees → ℕ → Plan
onto_args es d next others d' = next (joins_args es others) (max d d')

-- behind the string literal of a call
abbrev pub text_called : ℕ → (ExprTree → ℕ → Plan) → Place → List ℕ → Text → Plan
text_called up next at n t = expect_sign mark.CloseParen (λ b. arrows up (call_text (spot at) n t) 1 next)

-- parts so far, in front of others
abbrev pub onto : {A : Type 0} → List A → ℕ → (List A → ℕ → Plan) → List A → ℕ → Plan
onto xs d next others d' = next (xs ++ others) (max d d')

-- behind the `?` of a choice
abbrev pub choices_plan : List (List ℕ) → Mode → ℕ → (ExprTree → ℕ → ExprTree → ℕ → Plan) → Plan
choices_plan names m up next = expr names m up (λ y dy. expect_sign mark.Colon (λ c. expr names m up (λ z dz. next y dy z dz)))
