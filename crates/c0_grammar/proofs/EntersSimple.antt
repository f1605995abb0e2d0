-- What the grammar spells for a simple statement, a plan reads, up to the rest.
use Rattle.std.proofs.Common.{◌≡◌, ℕ, ◌+◌, ◌≤◌, max, Bool, true, false, not, ◌||◌, List, [], ◌∷◌, Option, Some, None, is_some, refl, sym, ap, ◌∙◌, arith}
use Rattle.gc0_base.specs.declared.place.Place.{Place}
use Rattle.c0_lex.specs.declared.token.Keyword.TheVariants as key
use Rattle.c0_lex.specs.declared.token.Symbol.{Symbol}
use Rattle.c0_lex.specs.declared.token.Symbol.TheVariants as mark
use Rattle.parsed_tree.specs.declared.expressions.Named.{Named}
use Rattle.parsed_tree.specs.declared.expressions.TypeName.{TypeName}
use Rattle.parsed_tree.specs.declared.statements.UpdateOperator.{UpdateOperator}
use Rattle.parsed_tree.specs.declared.statements.UpdateOperator.TheVariants as update
use Rattle.parsed_tree.specs.declared.statements.StepOperator.{StepOperator}
use Rattle.parsed_tree.specs.declared.statements.StepOperator.TheVariants as by_one
use Rattle.parsed_tree.specs.Tree.{ExprTree, SimpleTree, declare, assign, stepped, plain}
use Rattle.c0_grammar.specs.Tokens.{Fixed, word_mark, sign_mark, What, fixed, name_what, Token, token, symbol, name_token, is_among}
use Rattle.c0_grammar.specs.Lists.{spell_all}
use Rattle.c0_grammar.specs.Written.{BaseText, int_word, bool_word, struct_word, alias_word, TypeText, spell_star, spell_type, named_at, base_place, type_tree, Written, spell, tree_of, depth}
use Rattle.c0_grammar.specs.Allowed.{code, GoodBase, GoodType, Good}
use Rattle.c0_grammar.specs.Texts.{update_symbol, step_symbol, SimpleText, declares, declares_as, assigns, steps, evaluates, spell_simple, simple_tree, depth_simple, spell_option, tree_option, depth_option}
use Rattle.c0_grammar.specs.Grammar.{IsFree, is_place, GoodSimple, is_declaration, GoodOption}
use Rattle.c0_grammar.specs.Plan.{is, operator_of, of_rank, update_of, update_at, step_of, step_at, Plan, simple_end, simple, expect_sign, peek_sign, expr, declared, evaluated_step, type_step, assign_step, by_one_step, optional_simple, or_step, Step, node, step_if, step, go, run}
use Rattle.c0_grammar.proofs.Marks.{update_back, step_back, no_update}
use Rattle.c0_grammar.proofs.EntersTokens.{first, differs, pass, pass_on, eat_on, take_on, skip, eat_name, Ends, ends_semicolon, ends_close}
use Rattle.c0_grammar.proofs.EntersType.{base_first, base_more, behind_base, base_split, type_at, base_enters}
use Rattle.c0_grammar.proofs.EntersExpr.{begins, expr_begins, expr_enters}

-- ---- what a simple statement begins with: an expression, or a type
abbrev pub begins_type : List (List ℕ) → What → Bool
begins_type names (name_what n) = is_among names n
begins_type names (fixed (word_mark key.Int)) = true
begins_type names (fixed (word_mark key.Bool)) = true
begins_type names (fixed (word_mark key.Struct)) = true
begins_type names w = false

abbrev pub begins_simple : List (List ℕ) → What → Bool
begins_simple names w = begins names w || begins_type names w

no_among : (b : Bool) → not b ≡ true → b ≡ false
no_among true e = sym e
no_among false e = refl

begins_no_type : (names : List (List ℕ)) (w : What) → begins names w ≡ true → begins_type names w ≡ false
begins_no_type names (name_what n) e = no_among (is_among names n) e
begins_no_type names (fixed (word_mark key.Int)) e = cc
begins_no_type names (fixed (word_mark key.Bool)) e = cc
begins_no_type names (fixed (word_mark key.Struct)) e = cc
begins_no_type names w e = refl

type_begins : (names : List (List ℕ)) (b : BaseText) (rest : List Token) → GoodBase names b → begins_simple names (base_first b) ≡ true
type_begins names (int_word at) rest g = refl
type_begins names (bool_word at) rest g = refl
type_begins names (struct_word at n v) rest g = refl
type_begins names (alias_word at v) rest g = ap (λ b. not b || b) g

pub declared_begins : (names : List (List ℕ)) (t : TypeText) (rest : List Token) → GoodType names t → begins_simple names (first (spell_type t rest)) ≡ true
declared_begins names t rest g = ap (λ ts. begins_simple names (first ts)) (base_split t.base (spell_all spell_star t.stars rest)) ∙ type_begins names t.base rest g

written_begins : (names : List (List ℕ)) (x : Written) (rest : List Token) → Good names code x → begins_simple names (first (spell x rest)) ≡ true
written_begins names x rest g = ap (λ b. b || begins_type names (first (spell x rest))) (expr_begins names code x rest g)

pub simple_begins : (names : List (List ℕ)) (s : SimpleText) (rest : List Token) → GoodSimple names s → begins_simple names (first (spell_simple s rest)) ≡ true
simple_begins names (declares t n v) rest g = declared_begins names t (name_token v n ∷ rest) g.0
simple_begins names (declares_as t n v q x) rest g = declared_begins names t (name_token v n ∷ symbol mark.Assign q ∷ spell x rest) g.0
simple_begins names (assigns x q o y) rest g = written_begins names x (symbol (update_symbol o) q ∷ spell y rest) g.0
simple_begins names (steps x q o) rest g = written_begins names x (symbol (step_symbol o) q ∷ rest) g.0
simple_begins names (evaluates x) rest g = written_begins names x rest g

-- no simple statement begins with this token
pub not_simple : (names : List (List ℕ)) (f : Fixed) (s : SimpleText) (rest : List Token) → GoodSimple names s → begins_simple names (fixed f) ≡ false → is f (first (spell_simple s rest)) ≡ false
not_simple names f s rest g e = differs (begins_simple names) f (first (spell_simple s rest)) e (simple_begins names s rest g)

-- ---- what may stand behind a simple statement
pub record Stops (w : What) : Type 0 where
  pub ends : Ends w
  pub updates : update_at w ≡ None
  pub steps_on : step_at w ≡ None
  pub assigned : is (sign_mark mark.Assign) w ≡ false

pub stops_semicolon : Stops (fixed (sign_mark mark.Semicolon))
stops_semicolon = record { ends = ends_semicolon; updates = refl; steps_on = refl; assigned = refl }

pub stops_close : Stops (fixed (sign_mark mark.CloseParen))
stops_close = record { ends = ends_close; updates = refl; steps_on = refl; assigned = refl }

abbrev is_update : What → Bool
is_update w = is_some (update_at w)

abbrev is_step : What → Bool
is_step w = is_some (step_at w)

update_no_operator : (o : Option UpdateOperator) → operator_of (update_symbol o) ≡ None
update_no_operator None = refl
update_no_operator (Some update.Add) = refl
update_no_operator (Some update.Sub) = refl
update_no_operator (Some update.Mul) = refl
update_no_operator (Some update.Div) = refl
update_no_operator (Some update.Rem) = refl
update_no_operator (Some update.And) = refl
update_no_operator (Some update.Xor) = refl
update_no_operator (Some update.Or) = refl
update_no_operator (Some update.Shl) = refl
update_no_operator (Some update.Shr) = refl

step_no_operator : (o : StepOperator) → operator_of (step_symbol o) ≡ None
step_no_operator by_one.Increment = refl
step_no_operator by_one.Decrement = refl

ends_update : (o : Option UpdateOperator) → Ends (fixed (sign_mark (update_symbol o)))
ends_update o = record {
  calm = record { call = other mark.OpenParen refl; link = other mark.Arrow refl; free = λ q lt. ap (of_rank q) (update_no_operator o) };
  quest = other mark.Question refl;
}
  where
    other : (s : Symbol) → update_of s ≡ None → is (sign_mark s) (fixed (sign_mark (update_symbol o))) ≡ false
    other s e = differs is_update (sign_mark s) (fixed (sign_mark (update_symbol o))) (ap is_some e) (ap is_some (update_back o))

ends_step : (o : StepOperator) → Ends (fixed (sign_mark (step_symbol o)))
ends_step o = record {
  calm = record { call = other mark.OpenParen refl; link = other mark.Arrow refl; free = λ q lt. ap (of_rank q) (step_no_operator o) };
  quest = other mark.Question refl;
}
  where
    other : (s : Symbol) → step_of s ≡ None → is (sign_mark s) (fixed (sign_mark (step_symbol o))) ≡ false
    other s e = differs is_step (sign_mark s) (fixed (sign_mark (step_symbol o))) (ap is_some e) (ap is_some (step_back o))

-- ---- an expression at the front of a simple statement
type_none : (names : List (List ℕ)) (reach : ℕ) (next : TypeName → Plan) (w : What) (at : Place) → begins_type names w ≡ false → type_step names reach next w at ≡ None
type_none names reach next (name_what n) at e = ap (λ b. step_if b (node reach (behind_base (alias_word at n) next))) e
type_none names reach next (fixed (word_mark key.Int)) at e = cc
type_none names reach next (fixed (word_mark key.Bool)) at e = cc
type_none names reach next (fixed (word_mark key.Struct)) at e = cc
type_none names reach next w at e = refl

if_none : (b : Bool) → step_if b None ≡ None
if_none true = refl
if_none false = refl

abbrev behind_simple : List (List ℕ) → ℕ → (SimpleTree → ℕ → Plan) → ExprTree → ℕ → Plan
behind_simple names up next e d = simple_end names up e d next

evaluated : (limit : ℕ) (names : List (List ℕ)) (may_declare : Bool) (up : ℕ) (next : SimpleTree → ℕ → Plan) (ts : List Token) → begins_type names (first ts) ≡ false → run limit (simple names may_declare up next) ts ≡ run limit (expr names code up (behind_simple names up next)) ts
evaluated limit names may_declare up next [] e = refl
evaluated limit names may_declare up next (t ∷ ts) e =
    let other : Step = evaluated_step names up next t.what t.place in
    ap (λ s. go limit (or_step (step_if may_declare s) other) (λ q. run limit q ts) t.place) (type_none names up (declared names up next) t.what t.place e)
    ∙ ap (λ s. go limit (or_step s other) (λ q. run limit q ts) t.place) (if_none may_declare)

-- the expression, and what may come behind it
front_enters : (limit : ℕ) (names : List (List ℕ)) (may_declare : Bool) (up : ℕ) (next : SimpleTree → ℕ → Plan) (x : Written) (rest : List Token) → Good names code x → up + depth x ≤ limit → Ends (first rest) → run limit (simple names may_declare up next) (spell x rest) ≡ run limit (simple_end names up (tree_of x) (depth x) next) rest
front_enters limit names may_declare up next x rest g h ends =
    evaluated limit names may_declare up next (spell x rest) (begins_no_type names (first (spell x rest)) (expr_begins names code x rest g))
    ∙ expr_enters limit names code up (behind_simple names up next) x rest g h ends

fall_end : (limit : ℕ) (names : List (List ℕ)) (up : ℕ) (e : ExprTree) (d : ℕ) (next : SimpleTree → ℕ → Plan) (ts : List Token) → update_at (first ts) ≡ None → step_at (first ts) ≡ None → run limit (simple_end names up e d next) ts ≡ run limit (next (plain e) d) ts
fall_end limit names up e d next [] u s = refl
fall_end limit names up e d next (t ∷ ts) u s =
    let other : Step = step (next (plain e) d) t in
    ap (λ o. go limit (or_step (step_if (is_place e) (or_step (assign_step names up e d next o t.place) (by_one_step e d next (step_at t.what) t.place))) other) (λ q. run limit q ts) t.place) u
    ∙ ap (λ o. go limit (or_step (step_if (is_place e) (by_one_step e d next o t.place)) other) (λ q. run limit q ts) t.place) s
    ∙ ap (λ z. go limit (or_step z other) (λ q. run limit q ts) t.place) (if_none (is_place e))

take_update : (limit : ℕ) (names : List (List ℕ)) (up : ℕ) (e : ExprTree) (d : ℕ) (next : SimpleTree → ℕ → Plan) (o : Option UpdateOperator) (at : Place) (ts : List Token) → is_place e ≡ true → run limit (simple_end names up e d next) (symbol (update_symbol o) at ∷ ts) ≡ run limit (expr names code up (λ y dy. next (assign e at o y) (max d dy))) ts
take_update limit names up e d next o at ts place =
    let w : What = fixed (sign_mark (update_symbol o)) in
    let other : Step = step (next (plain e) d) (token w at) in
    ap (λ b. go limit (or_step (step_if b (or_step (assign_step names up e d next (update_at w) at) (by_one_step e d next (step_at w) at))) other) (λ q. run limit q ts) at) place
    ∙ ap (λ u. go limit (or_step (or_step (assign_step names up e d next u at) (by_one_step e d next (step_at w) at)) other) (λ q. run limit q ts) at) (update_back o)
    ∙ pass_on limit (expr names code up (λ y dy. next (assign e at o y) (max d dy))) at ts

take_step : (limit : ℕ) (names : List (List ℕ)) (up : ℕ) (e : ExprTree) (d : ℕ) (next : SimpleTree → ℕ → Plan) (o : StepOperator) (at : Place) (ts : List Token) → is_place e ≡ true → run limit (simple_end names up e d next) (symbol (step_symbol o) at ∷ ts) ≡ run limit (next (stepped e at o) d) ts
take_step limit names up e d next o at ts place =
    let w : What = fixed (sign_mark (step_symbol o)) in
    let other : Step = step (next (plain e) d) (token w at) in
    ap (λ b. go limit (or_step (step_if b (or_step (assign_step names up e d next (update_at w) at) (by_one_step e d next (step_at w) at))) other) (λ q. run limit q ts) at) place
    ∙ ap (λ u. go limit (or_step (or_step (assign_step names up e d next u at) (by_one_step e d next (step_at w) at)) other) (λ q. run limit q ts) at) (no_update o)
    ∙ ap (λ s. go limit (or_step (by_one_step e d next s at) other) (λ q. run limit q ts) at) (step_back o)
    ∙ pass_on limit (next (stepped e at o) d) at ts

-- ---- a declaration
declared_enters : (limit : ℕ) (names : List (List ℕ)) (up : ℕ) (next : SimpleTree → ℕ → Plan) (t : TypeText) (v : List ℕ) (n : Place) (rest : List Token) → GoodType names t → IsFree names v → up ≤ limit → run limit (simple names true up next) (spell_type t (name_token v n ∷ rest)) ≡ run limit (peek_sign mark.Assign (λ q. expr names code up (λ e d. next (declare (type_tree t) (named_at n v) (Some (q, e))) d)) (next (declare (type_tree t) (named_at n v) None) 0)) rest
declared_enters limit names up next t v n rest g free h =
    let ts = base_more t.base (spell_all spell_star t.stars (name_token v n ∷ rest)) in
    let w : What = base_first t.base in
    let at : Place = base_place t.base in
    let made : Named → Plan = λ k. peek_sign mark.Assign (λ q. expr names code up (λ e d. next (declare (type_tree t) k (Some (q, e))) d)) (next (declare (type_tree t) k None) 0) in
    ap (run limit (simple names true up next)) (base_split t.base (spell_all spell_star t.stars (name_token v n ∷ rest)))
    ∙ ap (λ s. go limit (or_step s (evaluated_step names up next w at)) (λ q. run limit q ts) at) (type_at names up (declared names up next) t.base g)
    ∙ pass limit up (behind_base t.base (declared names up next)) at ts h
    ∙ base_enters limit (declared names up next) t (name_token v n ∷ rest) (λ k p. refl)
    ∙ eat_name limit names made v n rest free

-- ---- a simple statement
pub simple_enters : (limit : ℕ) (names : List (List ℕ)) (may_declare : Bool) (up : ℕ) (next : SimpleTree → ℕ → Plan) (s : SimpleText) (rest : List Token) → GoodSimple names s → (may_declare || not (is_declaration s)) ≡ true → up + depth_simple s ≤ limit → Stops (first rest) → run limit (simple names may_declare up next) (spell_simple s rest) ≡ run limit (next (simple_tree s) (depth_simple s)) rest
simple_enters limit names false up next (declares t n v) rest g may h stops = cc
simple_enters limit names false up next (declares_as t n v q x) rest g may h stops = cc
simple_enters limit names true up next (declares t n v) rest g may h stops =
    let made : Place → Plan = λ q. expr names code up (λ e d. next (declare (type_tree t) (named_at n v) (Some (q, e))) d) in
    declared_enters limit names up next t v n rest g.0 g.1 (omega (arith, h))
    ∙ skip limit 0 (sign_mark mark.Assign) made (next (declare (type_tree t) (named_at n v) None) 0) rest stops.assigned
simple_enters limit names true up next (declares_as t n v q x) rest g may h stops =
    let made : Place → Plan = λ p. expr names code up (λ e d. next (declare (type_tree t) (named_at n v) (Some (p, e))) d) in
    declared_enters limit names up next t v n (symbol mark.Assign q ∷ spell x rest) g.0 g.1 (omega (arith, h))
    ∙ take_on limit (sign_mark mark.Assign) made (next (declare (type_tree t) (named_at n v) None) 0) q (spell x rest)
    ∙ expr_enters limit names code up (λ e d. next (declare (type_tree t) (named_at n v) (Some (q, e))) d) x rest g.2 h stops.ends
simple_enters limit names may_declare up next (assigns x q o y) rest g may h stops =
    front_enters limit names may_declare up next x (symbol (update_symbol o) q ∷ spell y rest) g.0 (omega (arith, h)) (ends_update o)
    ∙ take_update limit names up (tree_of x) (depth x) next o q (spell y rest) g.1
    ∙ expr_enters limit names code up (λ e d. next (assign (tree_of x) q o e) (max (depth x) d)) y rest g.2 (omega (arith, h)) stops.ends
simple_enters limit names may_declare up next (steps x q o) rest g may h stops =
    front_enters limit names may_declare up next x (symbol (step_symbol o) q ∷ rest) g.0 h (ends_step o)
    ∙ take_step limit names up (tree_of x) (depth x) next o q rest g.1
simple_enters limit names may_declare up next (evaluates x) rest g may h stops =
    front_enters limit names may_declare up next x rest g h stops.ends
    ∙ fall_end limit names up (tree_of x) (depth x) next rest stops.updates stops.steps_on

-- [ simple ] and this symbol
pub optional_enters : (limit : ℕ) (names : List (List ℕ)) (may_declare : Bool) (up : ℕ) (k : Symbol) (next : Option SimpleTree → ℕ → Plan) (s : Option SimpleText) (c : Place) (rest : List Token) → GoodOption (λ x. GoodSimple names x × ((may_declare || not (is_declaration x)) ≡ true)) s → up + depth_option depth_simple s ≤ limit → Stops (fixed (sign_mark k)) → begins_simple names (fixed (sign_mark k)) ≡ false → run limit (optional_simple names may_declare up k next) (spell_option spell_simple s (symbol k c ∷ rest)) ≡ run limit (next (tree_option simple_tree s) (depth_option depth_simple s)) rest
optional_enters limit names may_declare up k next None c rest g h stops e =
    take_on limit (sign_mark k) (λ p. next None 0) (simple names may_declare up (λ x d. expect_sign k (λ p. next (Some x) d))) c rest
optional_enters limit names may_declare up k next (Some s) c rest g h stops e =
    skip limit 0 (sign_mark k) (λ p. next None 0) (simple names may_declare up (λ x d. expect_sign k (λ p. next (Some x) d))) (spell_simple s (symbol k c ∷ rest)) (not_simple names (sign_mark k) s (symbol k c ∷ rest) g.0 e)
    ∙ simple_enters limit names may_declare up (λ x d. expect_sign k (λ p. next (Some x) d)) s (symbol k c ∷ rest) g.0 g.1 h stops
    ∙ eat_on limit (sign_mark k) (λ p. next (Some (simple_tree s)) (depth_simple s)) c rest
