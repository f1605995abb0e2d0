-- Simple statements by their first token, and what follows their first expression.
use Rattle.std.proofs.Common.{◌+◌, ◌≡◌, ℕ, ◌≤◌, max, Bool, true, false, not, ◌&&◌, List, [], ◌∷◌, Option, Some, None, Err, refl, ap, ◌∙◌}
use Rattle.gc0_base.specs.declared.place.Place.{Place}
use Rattle.c0_lex.specs.declared.token.Token.{Token}
use Rattle.c0_lex.specs.declared.token.Keyword.TheVariants as key
use Rattle.c0_lex.specs.declared.token.Symbol.TheVariants as mark
use Rattle.parsed_tree.specs.declared.expressions.TypeName.{TypeName}
use Rattle.parsed_tree.specs.declared.expressions.Base.TheVariants as base
use Rattle.parsed_tree.specs.declared.statements.UpdateOperator.{UpdateOperator}
use Rattle.parsed_tree.specs.declared.statements.StepOperator.{StepOperator}
use Rattle.parsed_tree.specs.Tree.{ExprTree, SimpleTree, assign, stepped, plain}
use Rattle.c0_grammar.specs.Tokens.{word_mark, sign_mark, What, fixed, name_what, number_what, text_what, is_among, token}
use Rattle.c0_grammar.specs.Allowed.{code}
use Rattle.c0_grammar.specs.Grammar.{is_place}
use Rattle.c0_grammar.specs.Plan.{update_at, step_at, Plan, simple_end, simple, Step, step_if, stars, struct_type, typed, expr, behind_name, operand_step, or_step, declared, begun_simple, evaluated_step, type_step, simple_step, assign_step, by_one_step, syntax_at, deep_at, step}
use Rattle.c0_cursor.specs.Seen.{begins_type, starts_type, reading, stepping}
use Rattle.c0_expressions.specs.Seen.{begins_operand, starts_operand}
use Rattle.c0_grammar.specs.Seen.{what_of, seen}
use Rattle.c0_cursor.specs.Laws.{step_on}
use Rattle.gc0_base.specs.declared.limits.TheConstants.Limits as limits

-- ---- behind the first expression
pub end_plain : (names : List (List ℕ)) (up : ℕ) (e : ExprTree) (d : ℕ) (next : SimpleTree → ℕ → Plan) (ts : List Token) → is_place e ≡ false → reading (simple_end names up e d next) ts ≡ reading (next (plain e) d) ts
end_plain names up e d next [] p = refl
end_plain names up e d next (t ∷ ts) p =
    let w = what_of t.kind t.text.now in
    ap (λ b. stepping (or_step (step_if b (or_step (assign_step names up e d next (update_at w) t.place) (by_one_step e d next (step_at w) t.place))) (step (next (plain e) d) (seen t))) t.place ts) p

abbrev pub assigned_to : List (List ℕ) → ℕ → ExprTree → ℕ → (SimpleTree → ℕ → Plan) → Option UpdateOperator → Place → ExprTree → ℕ → Plan
assigned_to names up e d next o at y dy = next (assign e at o y) (max d dy)

pub end_update : (names : List (List ℕ)) (up : ℕ) (e : ExprTree) (d : ℕ) (next : SimpleTree → ℕ → Plan) (o : Option UpdateOperator) (t : Token) (ts : List Token) → is_place e ≡ true → update_at (what_of t.kind t.text.now) ≡ Some o → reading (simple_end names up e d next) (t ∷ ts) ≡ reading (expr names code up (assigned_to names up e d next o t.place)) ts
end_update names up e d next o t ts p u =
    let w = what_of t.kind t.text.now in
    ap (λ b. stepping (or_step (step_if b (or_step (assign_step names up e d next (update_at w) t.place) (by_one_step e d next (step_at w) t.place))) (step (next (plain e) d) (seen t))) t.place ts) p
    ∙ ap (λ v. stepping (or_step (or_step (assign_step names up e d next v t.place) (by_one_step e d next (step_at w) t.place)) (step (next (plain e) d) (seen t))) t.place ts) u

pub end_step : (names : List (List ℕ)) (up : ℕ) (e : ExprTree) (d : ℕ) (next : SimpleTree → ℕ → Plan) (o : StepOperator) (t : Token) (ts : List Token) → is_place e ≡ true → update_at (what_of t.kind t.text.now) ≡ None → step_at (what_of t.kind t.text.now) ≡ Some o → reading (simple_end names up e d next) (t ∷ ts) ≡ reading (next (stepped e t.place o) d) ts
end_step names up e d next o t ts p u s =
    let w = what_of t.kind t.text.now in
    ap (λ b. stepping (or_step (step_if b (or_step (assign_step names up e d next (update_at w) t.place) (by_one_step e d next (step_at w) t.place))) (step (next (plain e) d) (seen t))) t.place ts) p
    ∙ ap (λ v. stepping (or_step (or_step (assign_step names up e d next v t.place) (by_one_step e d next (step_at w) t.place)) (step (next (plain e) d) (seen t))) t.place ts) u
    ∙ ap (λ v. stepping (or_step (by_one_step e d next v t.place) (step (next (plain e) d) (seen t))) t.place ts) s

pub end_none : (names : List (List ℕ)) (up : ℕ) (e : ExprTree) (d : ℕ) (next : SimpleTree → ℕ → Plan) (t : Token) (ts : List Token) → is_place e ≡ true → update_at (what_of t.kind t.text.now) ≡ None → step_at (what_of t.kind t.text.now) ≡ None → reading (simple_end names up e d next) (t ∷ ts) ≡ reading (next (plain e) d) (t ∷ ts)
end_none names up e d next t ts p u s =
    let w = what_of t.kind t.text.now in
    ap (λ b. stepping (or_step (step_if b (or_step (assign_step names up e d next (update_at w) t.place) (by_one_step e d next (step_at w) t.place))) (step (next (plain e) d) (seen t))) t.place ts) p
    ∙ ap (λ v. stepping (or_step (or_step (assign_step names up e d next v t.place) (by_one_step e d next (step_at w) t.place)) (step (next (plain e) d) (seen t))) t.place ts) u
    ∙ ap (λ v. stepping (or_step (by_one_step e d next v t.place) (step (next (plain e) d) (seen t))) t.place ts) s

-- ---- a declaration, or not
name_typed : (b : Bool) (names : List (List ℕ)) (up : ℕ) (q : Plan) (at : Place) (ts : List Token) (other : Step) → up ≤ limits.NESTING → b ≡ true → stepping (or_step (step_if b (Some (up, q))) other) at ts ≡ stepping (step_if b (Some (0, q))) at ts
name_typed true names up q at ts other h e = step_on up q at ts h
name_typed false names up q at ts other h e = cc

declares_at : (names : List (List ℕ)) (up : ℕ) (next : SimpleTree → ℕ → Plan) (w : What) (at : Place) (ts : List Token) → up ≤ limits.NESTING → begins_type names w ≡ true → stepping (simple_step names true up next w at) at ts ≡ stepping (step (typed names (declared names up next)) (token w at)) at ts
declares_at names up next (fixed (word_mark key.Int)) at ts h e = step_on up (stars at base.Int (declared names up next)) at ts h
declares_at names up next (fixed (word_mark key.Bool)) at ts h e = step_on up (stars at base.Bool (declared names up next)) at ts h
declares_at names up next (fixed (word_mark key.Struct)) at ts h e = step_on up (struct_type (declared names up next) at) at ts h
declares_at names up next (fixed f) at ts h e = cc
declares_at names up next (name_what n) at ts h e = name_typed (is_among names n) names up (stars at (base.Alias n) (declared names up next)) at ts (evaluated_step names up next (name_what n) at) h e
declares_at names up next (number_what w) at ts h e = cc
declares_at names up next (text_what b) at ts h e = cc

pub type_first : (names : List (List ℕ)) (declares : Bool) (up : ℕ) (next : SimpleTree → ℕ → Plan) (ts : List Token) → up ≤ limits.NESTING → (declares && starts_type names ts) ≡ true → reading (simple names declares up next) ts ≡ reading (typed names (declared names up next)) ts
type_first names true up next [] h e = cc
type_first names true up next (t ∷ ts) h e = declares_at names up next (what_of t.kind t.text.now) t.place ts h e
type_first names false up next ts h e = cc

no_type : (names : List (List ℕ)) (reach : ℕ) (next : TypeName → Plan) (w : What) (at : Place) → begins_type names w ≡ false → type_step names reach next w at ≡ None
no_type names reach next (fixed (word_mark key.Int)) at e = cc
no_type names reach next (fixed (word_mark key.Bool)) at e = cc
no_type names reach next (fixed (word_mark key.Struct)) at e = cc
no_type names reach next (fixed f) at e = refl
no_type names reach next (name_what n) at e = ap (λ b. step_if b (Some (reach, stars at (base.Alias n) next))) e
no_type names reach next (number_what w) at e = refl
no_type names reach next (text_what b) at e = refl

abbrev pub begun_by : List (List ℕ) → ℕ → (SimpleTree → ℕ → Plan) → ExprTree → ℕ → Plan
begun_by names up next e d = simple_end names up e d next

pub expression_first : (names : List (List ℕ)) (declares : Bool) (up : ℕ) (next : SimpleTree → ℕ → Plan) (ts : List Token) → (declares && starts_type names ts) ≡ false → reading (simple names declares up next) ts ≡ reading (expr names code up (begun_by names up next)) ts
expression_first names declares up next [] e = refl
expression_first names true up next (t ∷ ts) e =
    let w = what_of t.kind t.text.now in
    ap (λ s. stepping (or_step s (evaluated_step names up next w t.place)) t.place ts) (no_type names up (declared names up next) w t.place e)
expression_first names false up next (t ∷ ts) e = refl

-- ---- where no node may stand
name_deep : (b : Bool) (q : Plan) (at : Place) (ts : List Token) → not b ≡ true → stepping (step_if (not b) (Some (limits.NESTING + 1, q))) at ts ≡ Err (deep_at at)
name_deep false q at ts e = refl
name_deep true q at ts e = cc

declared_deep : (b : Bool) (q : Plan) (other : Step) (at : Place) (ts : List Token) → b ≡ true → stepping (or_step (step_if b (Some (limits.NESTING + 1, q))) other) at ts ≡ Err (deep_at at)
declared_deep true q other at ts e = refl
declared_deep false q other at ts e = cc

type_deep_at : (names : List (List ℕ)) (next : SimpleTree → ℕ → Plan) (w : What) (at : Place) (ts : List Token) → begins_type names w ≡ true → stepping (simple_step names true (limits.NESTING + 1) next w at) at ts ≡ Err (deep_at at)
type_deep_at names next (fixed (word_mark key.Int)) at ts e = refl
type_deep_at names next (fixed (word_mark key.Bool)) at ts e = refl
type_deep_at names next (fixed (word_mark key.Struct)) at ts e = refl
type_deep_at names next (fixed f) at ts e = cc
type_deep_at names next (name_what n) at ts e = declared_deep (is_among names n) (stars at (base.Alias n) (declared names (limits.NESTING + 1) next)) (evaluated_step names (limits.NESTING + 1) next (name_what n) at) at ts e
type_deep_at names next (number_what w) at ts e = cc
type_deep_at names next (text_what b) at ts e = cc

pub type_deep : (names : List (List ℕ)) (declares : Bool) (next : SimpleTree → ℕ → Plan) (t : Token) (ts : List Token) → (declares && starts_type names (t ∷ ts)) ≡ true → reading (simple names declares (limits.NESTING + 1) next) (t ∷ ts) ≡ Err (deep_at t.place)
type_deep names true next t ts e = type_deep_at names next (what_of t.kind t.text.now) t.place ts e
type_deep names false next t ts e = cc

operand_deep_at : (names : List (List ℕ)) (next : ExprTree → ℕ → Plan) (w : What) (at : Place) (ts : List Token) → begins_operand names w ≡ true → stepping (operand_step names code (limits.NESTING + 1) next w at) at ts ≡ Err (deep_at at)
operand_deep_at names next (number_what w) at ts e = refl
operand_deep_at names next (name_what n) at ts e = name_deep (is_among names n) (behind_name names code (limits.NESTING + 1) next at n) at ts e
operand_deep_at names next (fixed (word_mark key.True)) at ts e = refl
operand_deep_at names next (fixed (word_mark key.False)) at ts e = refl
operand_deep_at names next (fixed (word_mark key.Null)) at ts e = refl
operand_deep_at names next (fixed (word_mark key.Alloc)) at ts e = refl
operand_deep_at names next (fixed (sign_mark mark.Minus)) at ts e = refl
operand_deep_at names next (fixed (sign_mark mark.Tilde)) at ts e = refl
operand_deep_at names next (fixed (sign_mark mark.Not)) at ts e = refl
operand_deep_at names next (fixed (sign_mark mark.OpenParen)) at ts e = refl
operand_deep_at names next (fixed f) at ts e = cc
operand_deep_at names next (text_what b) at ts e = cc

pub operand_deep : (names : List (List ℕ)) (declares : Bool) (next : SimpleTree → ℕ → Plan) (t : Token) (ts : List Token) → (declares && starts_type names (t ∷ ts)) ≡ false → starts_operand names (t ∷ ts) ≡ true → reading (simple names declares (limits.NESTING + 1) next) (t ∷ ts) ≡ Err (deep_at t.place)
operand_deep names declares next t ts n e = expression_first names declares (limits.NESTING + 1) next (t ∷ ts) n ∙ operand_deep_at names (begun_simple names (limits.NESTING + 1) next) (what_of t.kind t.text.now) t.place ts e

name_bad : (b : Bool) (q : Plan) (at : Place) → not b ≡ false → step_if (not b) (Some (limits.NESTING + 1, q)) ≡ None
name_bad true q at e = refl
name_bad false q at e = cc

operand_bad_at : (names : List (List ℕ)) (next : ExprTree → ℕ → Plan) (w : What) (at : Place) → begins_operand names w ≡ false → operand_step names code (limits.NESTING + 1) next w at ≡ None
operand_bad_at names next (number_what w) at e = cc
operand_bad_at names next (name_what n) at e = name_bad (is_among names n) (behind_name names code (limits.NESTING + 1) next at n) at e
operand_bad_at names next (fixed (word_mark key.True)) at e = cc
operand_bad_at names next (fixed (word_mark key.False)) at e = cc
operand_bad_at names next (fixed (word_mark key.Null)) at e = cc
operand_bad_at names next (fixed (word_mark key.Alloc)) at e = cc
operand_bad_at names next (fixed (sign_mark mark.Minus)) at e = cc
operand_bad_at names next (fixed (sign_mark mark.Tilde)) at e = cc
operand_bad_at names next (fixed (sign_mark mark.Not)) at e = cc
operand_bad_at names next (fixed (sign_mark mark.OpenParen)) at e = cc
operand_bad_at names next (fixed f) at e = refl
operand_bad_at names next (text_what b) at e = refl

pub operand_bad : (names : List (List ℕ)) (declares : Bool) (next : SimpleTree → ℕ → Plan) (t : Token) (ts : List Token) → (declares && starts_type names (t ∷ ts)) ≡ false → starts_operand names (t ∷ ts) ≡ false → reading (simple names declares (limits.NESTING + 1) next) (t ∷ ts) ≡ Err (syntax_at t.place)
operand_bad names declares next t ts n e =
    expression_first names declares (limits.NESTING + 1) next (t ∷ ts) n
    ∙ ap (λ s. stepping s t.place ts) (operand_bad_at names (begun_simple names (limits.NESTING + 1) next) (what_of t.kind t.text.now) t.place e)
