-- What a plan of an expression does with the tokens that stand first.
use Rattle.std.proofs.Common.{◌≡◌, ℕ, suc, ◌+◌, ◌-◌, ◌≤◌, ◌<◌, max, Bool, true, false, cond, ◌&&◌, List, [], ◌∷◌, ◌++◌, Some, None, Result, Err, refl, sym, ap, ◌∙◌, arith}
use Rattle.gc0_base.specs.declared.place.Place.{Place}
use Rattle.c0_lex.specs.declared.token.Token.{Token}
use Rattle.c0_lex.specs.declared.token.TokenKind.{TokenKind}
use Rattle.c0_lex.specs.declared.token.TokenKind.TheVariants as kind
use Rattle.c0_lex.specs.declared.token.Symbol.TheVariants as mark
use Rattle.parsed_tree.specs.declared.expressions.Named.{Named}
use Rattle.parsed_tree.specs.declared.expressions.Operator.{Operator}
use Rattle.parsed_tree.specs.declared.expressions.Expr.{Expr}
use Rattle.parsed_tree.specs.Tree.{ProgramTree, ExprTree, local, call, ExprTrees, no_exprs, expr_and}
use Rattle.parsed_tree.specs.Views.{expr_view, exprs_view}
use Rattle.c0_grammar.specs.Tokens.{sign_mark, What, fixed, name_what, number_what, text_what}
use Rattle.c0_grammar.specs.Written.{spot, joined, pointed}
use Rattle.c0_grammar.specs.Allowed.{Mode, code, conjunct, value, is_code, has_calls, right_of, has, left_fits, condition_fits}
use Rattle.c0_grammar.specs.Plan.{is, operator_at, of_rank, Plan, await, name, arrows, acc_arrows, operand, ops, quest, more_args, climb, expr, argument, arguments, called_plan, behind_name, quest_plan, operand_step, arrow_step, ops_step, more_args_step, acc_arrows_step, on, node, step_if, Fault, syntax_at, deep_at, step}
use Rattle.c0_cursor.specs.Seen.{starts, reading, stepping}
use Rattle.c0_grammar.specs.Seen.{what_of, seen}
use Rattle.c0_expressions.specs.Read.{joins_args, onto_args}
use Rattle.gc0_base.specs.declared.limits.TheConstants.Limits as limits
use Rattle.c0_cursor.specs.Laws.{step_on, step_deep, not_first}

-- ---- `->`
abbrev pub arrow_to : ℕ → ExprTree → ℕ → (ExprTree → ℕ → Plan) → Place → Plan
arrow_to up e d next at = name [] (λ n. arrows up (pointed at e n) (d + 1) next)

pub arrow_on : (up : ℕ) (e : ExprTree) (d : ℕ) (next : ExprTree → ℕ → Plan) (t : Token) (ts : List Token) → is (sign_mark mark.Arrow) (what_of t.kind t.text.now) ≡ true → up + d + 1 ≤ limits.NESTING → reading (arrows up e d next) (t ∷ ts) ≡ reading (arrow_to up e d next t.place) ts
arrow_on up e d next t ts i h =
    ap (λ b. stepping (arrow_step b (node (up + d + 1) (arrow_to up e d next t.place)) (step (next e d) (seen t))) t.place ts) i
    ∙ step_on (up + d + 1) (arrow_to up e d next t.place) t.place ts h

pub arrow_deep : (up : ℕ) (e : ExprTree) (d : ℕ) (next : ExprTree → ℕ → Plan) (t : Token) (ts : List Token) → is (sign_mark mark.Arrow) (what_of t.kind t.text.now) ≡ true → limits.NESTING < up + d + 1 → reading (arrows up e d next) (t ∷ ts) ≡ Err (deep_at t.place)
arrow_deep up e d next t ts i h =
    ap (λ b. stepping (arrow_step b (node (up + d + 1) (arrow_to up e d next t.place)) (step (next e d) (seen t))) t.place ts) i
    ∙ step_deep (up + d + 1) (arrow_to up e d next t.place) t.place ts h

pub arrow_end : (up : ℕ) (e : ExprTree) (d : ℕ) (next : ExprTree → ℕ → Plan) (ts : List Token) → starts (sign_mark mark.Arrow) ts ≡ false → reading (arrows up e d next) ts ≡ reading (next e d) ts
arrow_end up e d next [] i = refl
arrow_end up e d next (t ∷ ts) i =
    ap (λ b. stepping (arrow_step b (node (up + d + 1) (arrow_to up e d next t.place)) (step (next e d) (seen t))) t.place ts) i

-- behind the `->` and the field of an `acc`
abbrev pub acc_to : ℕ → ExprTree → ℕ → Place → Named → (ExprTree → ℕ → Place → Named → Plan) → Place → Plan
acc_to up x d p f next at = name [] (λ g. acc_arrows up (pointed p x f) (d + 1) at g next)

pub acc_on : (up : ℕ) (x : ExprTree) (d : ℕ) (p : Place) (f : Named) (next : ExprTree → ℕ → Place → Named → Plan) (t : Token) (ts : List Token) → t.kind ≡ kind.Symbol mark.Arrow → up + d + 3 ≤ limits.NESTING → reading (acc_arrows up x d p f next) (t ∷ ts) ≡ reading (acc_to up x d p f next t.place) ts
acc_on up x d p f next t ts i h =
    ap (λ k. stepping (acc_arrows_step up x d p f next (what_of k t.text.now) t.place) t.place ts) i
    ∙ step_on (up + d + 3) (acc_to up x d p f next t.place) t.place ts h

pub acc_deep : (up : ℕ) (x : ExprTree) (d : ℕ) (p : Place) (f : Named) (next : ExprTree → ℕ → Place → Named → Plan) (t : Token) (ts : List Token) → t.kind ≡ kind.Symbol mark.Arrow → limits.NESTING < up + d + 3 → reading (acc_arrows up x d p f next) (t ∷ ts) ≡ Err (deep_at t.place)
acc_deep up x d p f next t ts i h =
    ap (λ k. stepping (acc_arrows_step up x d p f next (what_of k t.text.now) t.place) t.place ts) i
    ∙ step_deep (up + d + 3) (acc_to up x d p f next t.place) t.place ts h

-- ---- operators
-- one rank less
pub climb_less : (r : ℕ) (names : List (List ℕ)) (m : Mode) (up : ℕ) (next : ExprTree → ℕ → Plan) → (r ≡ 0 → ⊥) → climb r names m up next ≡ climb (r - 1) names m up (λ e d. ops (r - 1) names m up e d next)
climb_less r names m up next ne = let less : r ≡ suc (r - 1) = omega (arith, ne) in ap (λ z. climb z names m up next) less

abbrev pub right_side : ℕ → List (List ℕ) → Mode → ℕ → ExprTree → ℕ → (ExprTree → ℕ → Plan) → Operator → Place → Plan
right_side r names m up e d next o at = climb r names (right_of m o) (up + 1) (λ e' d'. ops r names m up (joined at o e e') (max d d' + 1) next)

op_at : (r : ℕ) (names : List (List ℕ)) (m : Mode) (up : ℕ) (e : ExprTree) (d : ℕ) (next : ExprTree → ℕ → Plan) (o : Operator) (fits : Bool) (t : Token) (ts : List Token) → of_rank r (operator_at (what_of t.kind t.text.now)) ≡ Some o → (has m o && left_fits m o e) ≡ fits → reading (ops r names m up e d next) (t ∷ ts) ≡ stepping (step_if fits (node (up + d + 1) (right_side r names m up e d next o t.place))) t.place ts
op_at r names m up e d next o fits t ts i f =
    ap (λ p. stepping (ops_step r names m up e d next (step (next e d) (seen t)) p t.place) t.place ts) i
    ∙ ap (λ b. stepping (step_if b (node (up + d + 1) (right_side r names m up e d next o t.place))) t.place ts) f

pub op_on : (r : ℕ) (names : List (List ℕ)) (m : Mode) (up : ℕ) (e : ExprTree) (d : ℕ) (next : ExprTree → ℕ → Plan) (o : Operator) (t : Token) (ts : List Token) → of_rank r (operator_at (what_of t.kind t.text.now)) ≡ Some o → (has m o && left_fits m o e) ≡ true → up + d + 1 ≤ limits.NESTING → reading (ops r names m up e d next) (t ∷ ts) ≡ reading (right_side r names m up e d next o t.place) ts
op_on r names m up e d next o t ts i f h = op_at r names m up e d next o true t ts i f ∙ step_on (up + d + 1) (right_side r names m up e d next o t.place) t.place ts h

pub op_deep : (r : ℕ) (names : List (List ℕ)) (m : Mode) (up : ℕ) (e : ExprTree) (d : ℕ) (next : ExprTree → ℕ → Plan) (o : Operator) (t : Token) (ts : List Token) → of_rank r (operator_at (what_of t.kind t.text.now)) ≡ Some o → (has m o && left_fits m o e) ≡ true → limits.NESTING < up + d + 1 → reading (ops r names m up e d next) (t ∷ ts) ≡ Err (deep_at t.place)
op_deep r names m up e d next o t ts i f h = op_at r names m up e d next o true t ts i f ∙ step_deep (up + d + 1) (right_side r names m up e d next o t.place) t.place ts h

pub op_bad : (r : ℕ) (names : List (List ℕ)) (m : Mode) (up : ℕ) (e : ExprTree) (d : ℕ) (next : ExprTree → ℕ → Plan) (o : Operator) (t : Token) (ts : List Token) → of_rank r (operator_at (what_of t.kind t.text.now)) ≡ Some o → (has m o && left_fits m o e) ≡ false → reading (ops r names m up e d next) (t ∷ ts) ≡ Err (syntax_at t.place)
op_bad r names m up e d next o t ts i f = op_at r names m up e d next o false t ts i f

pub op_end : (r : ℕ) (names : List (List ℕ)) (m : Mode) (up : ℕ) (e : ExprTree) (d : ℕ) (next : ExprTree → ℕ → Plan) (t : Token) (ts : List Token) → of_rank r (operator_at (what_of t.kind t.text.now)) ≡ None → reading (ops r names m up e d next) (t ∷ ts) ≡ reading (next e d) (t ∷ ts)
op_end r names m up e d next t ts i = ap (λ p. stepping (ops_step r names m up e d next (step (next e d) (seen t)) p t.place) t.place ts) i

-- ---- `?`
quest_at : (names : List (List ℕ)) (m : Mode) (up : ℕ) (e : ExprTree) (d : ℕ) (next : ExprTree → ℕ → Plan) (fits : Bool) (t : Token) (ts : List Token) → is (sign_mark mark.Question) (what_of t.kind t.text.now) ≡ true → condition_fits m e ≡ fits → reading (quest names m up e d next) (t ∷ ts) ≡ stepping (step_if fits (node (up + d + 1) (quest_plan names m up e d next t.place))) t.place ts
quest_at names m up e d next fits t ts i f =
    ap (λ b. stepping (arrow_step b (step_if (condition_fits m e) (node (up + d + 1) (quest_plan names m up e d next t.place))) (step (next e d) (seen t))) t.place ts) i
    ∙ ap (λ b. stepping (step_if b (node (up + d + 1) (quest_plan names m up e d next t.place))) t.place ts) f

pub quest_on : (names : List (List ℕ)) (m : Mode) (up : ℕ) (e : ExprTree) (d : ℕ) (next : ExprTree → ℕ → Plan) (t : Token) (ts : List Token) → is (sign_mark mark.Question) (what_of t.kind t.text.now) ≡ true → condition_fits m e ≡ true → up + d + 1 ≤ limits.NESTING → reading (quest names m up e d next) (t ∷ ts) ≡ reading (quest_plan names m up e d next t.place) ts
quest_on names m up e d next t ts i f h = quest_at names m up e d next true t ts i f ∙ step_on (up + d + 1) (quest_plan names m up e d next t.place) t.place ts h

pub quest_deep : (names : List (List ℕ)) (m : Mode) (up : ℕ) (e : ExprTree) (d : ℕ) (next : ExprTree → ℕ → Plan) (t : Token) (ts : List Token) → is (sign_mark mark.Question) (what_of t.kind t.text.now) ≡ true → condition_fits m e ≡ true → limits.NESTING < up + d + 1 → reading (quest names m up e d next) (t ∷ ts) ≡ Err (deep_at t.place)
quest_deep names m up e d next t ts i f h = quest_at names m up e d next true t ts i f ∙ step_deep (up + d + 1) (quest_plan names m up e d next t.place) t.place ts h

pub quest_bad : (names : List (List ℕ)) (m : Mode) (up : ℕ) (e : ExprTree) (d : ℕ) (next : ExprTree → ℕ → Plan) (t : Token) (ts : List Token) → is (sign_mark mark.Question) (what_of t.kind t.text.now) ≡ true → condition_fits m e ≡ false → reading (quest names m up e d next) (t ∷ ts) ≡ Err (syntax_at t.place)
quest_bad names m up e d next t ts i f = quest_at names m up e d next false t ts i f

pub quest_end : (names : List (List ℕ)) (m : Mode) (up : ℕ) (e : ExprTree) (d : ℕ) (next : ExprTree → ℕ → Plan) (ts : List Token) → starts (sign_mark mark.Question) ts ≡ false → reading (quest names m up e d next) ts ≡ reading (next e d) ts
quest_end names m up e d next [] i = refl
quest_end names m up e d next (t ∷ ts) i =
    ap (λ b. stepping (arrow_step b (step_if (condition_fits m e) (node (up + d + 1) (quest_plan names m up e d next t.place))) (step (next e d) (seen t))) t.place ts) i

-- ---- an operand by its first token
pub operand_at : (names : List (List ℕ)) (m : Mode) (up : ℕ) (next : ExprTree → ℕ → Plan) (t : Token) (ts : List Token) (k : TokenKind) → t.kind ≡ k → reading (operand names m up next) (t ∷ ts) ≡ stepping (operand_step names m up next (what_of k t.text.now) t.place) t.place ts
operand_at names m up next t ts k e = ap (λ z. stepping (operand_step names m up next (what_of z t.text.now) t.place) t.place ts) e

-- ---- arguments
comma_step : (names : List (List ℕ)) (m : Mode) (up : ℕ) (next : ExprTrees → ℕ → Plan) (w : What) → is (sign_mark mark.Comma) w ≡ true → more_args_step names m up next w ≡ on (expr names m up (argument names m up next))
comma_step names m up next (fixed (sign_mark mark.Comma)) e = refl
comma_step names m up next (fixed f) e = cc
comma_step names m up next (name_what n) e = cc
comma_step names m up next (number_what w) e = cc
comma_step names m up next (text_what b) e = cc

close_step : (names : List (List ℕ)) (m : Mode) (up : ℕ) (next : ExprTrees → ℕ → Plan) (w : What) → is (sign_mark mark.Comma) w ≡ false → more_args_step names m up next w ≡ cond (is (sign_mark mark.CloseParen) w) (node 0 (next no_exprs 0)) None
close_step names m up next (fixed (sign_mark mark.Comma)) e = cc
close_step names m up next (fixed f) e = refl
close_step names m up next (name_what n) e = refl
close_step names m up next (number_what w) e = refl
close_step names m up next (text_what b) e = refl

pub args_more : (names : List (List ℕ)) (m : Mode) (up : ℕ) (next : ExprTrees → ℕ → Plan) (ts : List Token) → starts (sign_mark mark.Comma) ts ≡ true → reading (more_args names m up next) ts ≡ reading (await 0 (sign_mark mark.Comma) (λ p. expr names m up (argument names m up next))) ts
args_more names m up next [] e = cc
args_more names m up next (t ∷ ts) e =
    ap (λ s. stepping s t.place ts) (comma_step names m up next (what_of t.kind t.text.now) e)
    ∙ sym (ap (λ b. stepping (cond b (node 0 (expr names m up (argument names m up next))) None) t.place ts) e)

pub args_end : (names : List (List ℕ)) (m : Mode) (up : ℕ) (next : ExprTrees → ℕ → Plan) (ts : List Token) → starts (sign_mark mark.Comma) ts ≡ false → reading (more_args names m up next) ts ≡ reading (await 0 (sign_mark mark.CloseParen) (λ b. next no_exprs 0)) ts
args_end names m up next [] e = refl
args_end names m up next (t ∷ ts) e = ap (λ s. stepping s t.place ts) (close_step names m up next (what_of t.kind t.text.now) e)

joins_none : (es : ExprTrees) → joins_args es no_exprs ≡ es
joins_none no_exprs = refl
joins_none (expr_and e es) = ap (expr_and e) (joins_none es)

joins_push : (es : ExprTrees) (e : ExprTree) (others : ExprTrees) → joins_args es (expr_and e others) ≡ joins_args (joins_args es (expr_and e no_exprs)) others
joins_push no_exprs e others = refl
joins_push (expr_and x es) e others = ap (expr_and x) (joins_push es e others)

max_more : (a b c : ℕ) → max a (max b c) ≡ max (max a b) c
max_more a b c = omega arith

max_none : (a : ℕ) → max a 0 ≡ a
max_none a = omega arith

pub onto_more : (es : ExprTrees) (d : ℕ) (next : ExprTrees → ℕ → Plan) (e : ExprTree) (d' : ℕ) → ◌≡◌ {A = ExprTrees → ℕ → Plan} (λ others c. onto_args es d next (expr_and e others) (max d' c)) (onto_args (joins_args es (expr_and e no_exprs)) (max d d') next)
onto_more es d next e d' = λ i others c. next (joins_push es e others i) (max_more d d' c i)

pub onto_none : (es : ExprTrees) (d : ℕ) (next : ExprTrees → ℕ → Plan) → onto_args es d next no_exprs 0 ≡ next es d
onto_none es d next = λ i. next (joins_none es i) (max_none d i)

exprs_push : (xs : List Expr) (e : Expr) → exprs_view (xs ++ e ∷ []) ≡ joins_args (exprs_view xs) (expr_and (expr_view e) no_exprs)
exprs_push [] e = refl
exprs_push (x ∷ xs) e = ap (expr_and (expr_view x)) (exprs_push xs e)

pub exprs_pushed : (old new : List Expr) (e : Expr) → new ≡ old ++ e ∷ [] → exprs_view new ≡ joins_args (exprs_view old) (expr_and (expr_view e) no_exprs)
exprs_pushed old new e h = ap exprs_view h ∙ exprs_push old e

-- ---- behind a name
pub name_alone : (names : List (List ℕ)) (m : Mode) (up : ℕ) (next : ExprTree → ℕ → Plan) (at : Place) (n : List ℕ) (ts : List Token) → (has_calls m && starts (sign_mark mark.OpenParen) ts) ≡ false → reading (behind_name names m up next at n) ts ≡ reading (arrows up (local (spot at) n) 0 next) ts
name_alone names code up next at n ts e = not_first (up + 1) (sign_mark mark.OpenParen) (λ a. called_plan names up next at n) (arrows up (local (spot at) n) 0 next) ts e
name_alone names conjunct up next at n ts e = not_first (up + 1) (sign_mark mark.OpenParen) (λ a. arguments names value (up + 1) (λ es d. next (call (spot at) n es) (d + 1))) (arrows up (local (spot at) n) 0 next) ts e
name_alone names value up next at n ts e = refl

pub no_call : (m : Mode) → (has_calls m && false) ≡ true → ⊥
no_call code e = cc
no_call conjunct e = cc
no_call value e = cc

abbrev pub instance_behind : List (List ℕ) → ℕ → (ExprTree → ℕ → Plan) → Place → List ℕ → ExprTrees → ℕ → Plan
instance_behind names up next at n es d = next (call (spot at) n es) (d + 1)

pub name_calls : (names : List (List ℕ)) (m : Mode) (up : ℕ) (next : ExprTree → ℕ → Plan) (at : Place) (n : List ℕ) (t : Token) (ts : List Token) → (has_calls m && is (sign_mark mark.OpenParen) (what_of t.kind t.text.now)) ≡ true → is_code m ≡ true → up + 1 ≤ limits.NESTING → reading (behind_name names m up next at n) (t ∷ ts) ≡ reading (called_plan names up next at n) ts
name_calls names code up next at n t ts i c h =
    ap (λ b. stepping (cond b (node (up + 1) (called_plan names up next at n)) (step (arrows up (local (spot at) n) 0 next) (seen t))) t.place ts) i
    ∙ step_on (up + 1) (called_plan names up next at n) t.place ts h
name_calls names conjunct up next at n t ts i c h = cc
name_calls names value up next at n t ts i c h = cc

pub name_instance : (names : List (List ℕ)) (m : Mode) (up : ℕ) (next : ExprTree → ℕ → Plan) (at : Place) (n : List ℕ) (t : Token) (ts : List Token) → (has_calls m && is (sign_mark mark.OpenParen) (what_of t.kind t.text.now)) ≡ true → is_code m ≡ false → up + 1 ≤ limits.NESTING → reading (behind_name names m up next at n) (t ∷ ts) ≡ reading (arguments names value (up + 1) (instance_behind names up next at n)) ts
name_instance names code up next at n t ts i c h = cc
name_instance names conjunct up next at n t ts i c h =
    ap (λ b. stepping (cond b (node (up + 1) (arguments names value (up + 1) (instance_behind names up next at n))) (step (arrows up (local (spot at) n) 0 next) (seen t))) t.place ts) i
    ∙ step_on (up + 1) (arguments names value (up + 1) (instance_behind names up next at n)) t.place ts h
name_instance names value up next at n t ts i c h = cc

pub name_deep : (names : List (List ℕ)) (m : Mode) (up : ℕ) (next : ExprTree → ℕ → Plan) (at : Place) (n : List ℕ) (t : Token) (ts : List Token) → (has_calls m && is (sign_mark mark.OpenParen) (what_of t.kind t.text.now)) ≡ true → limits.NESTING < up + 1 → reading (behind_name names m up next at n) (t ∷ ts) ≡ Err (deep_at t.place)
name_deep names code up next at n t ts i h =
    ap (λ b. stepping (cond b (node (up + 1) (called_plan names up next at n)) (step (arrows up (local (spot at) n) 0 next) (seen t))) t.place ts) i
    ∙ step_deep (up + 1) (called_plan names up next at n) t.place ts h
name_deep names conjunct up next at n t ts i h =
    ap (λ b. stepping (cond b (node (up + 1) (arguments names value (up + 1) (instance_behind names up next at n))) (step (arrows up (local (spot at) n) 0 next) (seen t))) t.place ts) i
    ∙ step_deep (up + 1) (arguments names value (up + 1) (instance_behind names up next at n)) t.place ts h
name_deep names value up next at n t ts i h = cc

-- ---- the same at equal parts
pub both : (F : ExprTree → ℕ → Result ProgramTree Fault) (x y : ExprTree) (c d : ℕ) → x ≡ y → c ≡ d → F x c ≡ F y d
both F x y c d p q = λ i. F (p i) (q i)
