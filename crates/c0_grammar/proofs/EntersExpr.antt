-- What the grammar spells for an expression, a plan reads, up to the rest.
use Rattle.std.proofs.Common.{◌≡◌, ◌≢◌, ℕ, zero, suc, ◌+◌, ◌≤◌, max, Bool, true, false, true≢false, not, ◌==◌, List, [], ◌∷◌, refl, sym, ap, ◌∙◌, arith, eqb→eq, false-eqb, zero-le}
use Rattle.std.proofs.lemmas.Float.{T_from_true}
use Rattle.gc0_base.specs.declared.place.Place.{Place}
use Rattle.c0_lex.specs.declared.token.Keyword.{Keyword}
use Rattle.c0_lex.specs.declared.token.Keyword.TheVariants as key
use Rattle.c0_lex.specs.declared.token.Symbol.{Symbol}
use Rattle.c0_lex.specs.declared.token.Symbol.TheVariants as mark
use Rattle.parsed_tree.specs.declared.expressions.Named.{Named}
use Rattle.parsed_tree.specs.declared.expressions.Text.{Text}
use Rattle.parsed_tree.specs.declared.expressions.TypeName.{TypeName}
use Rattle.parsed_tree.specs.declared.expressions.UnaryOperator.{UnaryOperator}
use Rattle.parsed_tree.specs.declared.expressions.UnaryOperator.TheVariants as unary_op
use Rattle.parsed_tree.specs.declared.expressions.Operator.{Operator}
use Rattle.parsed_tree.specs.Tree.{ExprTree, number, truth, null, local, outcome, unary, call, call_text, alloc, acc, ExprTrees, no_exprs, expr_and, from}
use Rattle.c0_grammar.specs.Tokens.{Fixed, word_mark, sign_mark, What, fixed, name_what, number_what, text_what, Token, symbol, name_token, text_token, is_among}
use Rattle.c0_grammar.specs.Written.{unary_symbol, operator_symbol, TypeText, spell_type, type_tree, named_at, text_at, Written, digits, truth_token, null_token, word, result_word, before, between, choice, round, called, called_text, allocated, arrow_to, permission, Args, no_args, some_args, More, no_more, more_and, spell, spell_args, spell_more, spot, joined, chosen, pointed, tree_of, args_trees, more_trees, depth, depth_args, depth_more}
use Rattle.c0_grammar.specs.Allowed.{rank, ranks, height, is_primary, is_path, Mode, code, conjunct, value, inside, right_of, base_fits, Good, GoodArgs, GoodMore}
use Rattle.c0_grammar.specs.Plan.{is, Plan, name, arrows, acc_arrows, operand, ops, quest, more_args, expect_sign, typed, behind, climb, expr, primary, argument, arguments, called_plan, behind_name, alloc_plan, path_start, acc_plan, round_plan, node, step_if, go, run}
use Rattle.c0_grammar.proofs.Marks.{rank_low}
use Rattle.c0_grammar.proofs.EntersTokens.{first, differs, is_text, pass, pass_on, eat_on, take, take_on, skip, eat_name, eat_any_name, take_text, skip_text, fall_arrow, take_arrow, fall_ops, take_op, fall_quest, take_quest, Calm, Ends, calm_operator, calm_less, calm_quest, ends_comma, ends_close, ends_colon}
use Rattle.c0_grammar.proofs.EntersType.{typed_enters}

-- ---- what an expression begins with
abbrev begins_word : Keyword → Bool
begins_word key.True = true
begins_word key.False = true
begins_word key.Null = true
begins_word key.Alloc = true
begins_word key.Outcome = true
begins_word key.Acc = true
begins_word k = false

abbrev begins_sign : Symbol → Bool
begins_sign mark.Minus = true
begins_sign mark.Tilde = true
begins_sign mark.Not = true
begins_sign mark.OpenParen = true
begins_sign s = false

abbrev pub begins : List (List ℕ) → What → Bool
begins names (number_what w) = true
begins names (name_what n) = not (is_among names n)
begins names (fixed (word_mark k)) = begins_word k
begins names (fixed (sign_mark s)) = begins_sign s
begins names w = false

pub expr_begins : (names : List (List ℕ)) (m : Mode) (w : Written) (rest : List Token) → Good names m w → begins names (first (spell w rest)) ≡ true
expr_begins names m (digits at n) rest g = refl
expr_begins names m (truth_token at true) rest g = refl
expr_begins names m (truth_token at false) rest g = refl
expr_begins names m (null_token at) rest g = refl
expr_begins names m (word at n) rest g = ap not g
expr_begins names m (result_word at) rest g = refl
expr_begins names m (before at unary_op.Negate x) rest g = refl
expr_begins names m (before at unary_op.Not x) rest g = refl
expr_begins names m (before at unary_op.Flip x) rest g = refl
expr_begins names m (between x at o y) rest g = expr_begins names m x (symbol (operator_symbol o) at ∷ spell y rest) g.0
expr_begins names m (choice x q y c z) rest g = expr_begins names m x (symbol mark.Question q ∷ spell y (symbol mark.Colon c ∷ spell z rest)) g.0
expr_begins names m (round a x b) rest g = refl
expr_begins names m (called at n a xs b) rest g = ap not g.0
expr_begins names m (called_text at n a t bytes b) rest g = ap not g.0
expr_begins names m (allocated at a t b) rest g = refl
expr_begins names m (arrow_to x at f n) rest g = expr_begins names m x (symbol mark.Arrow at ∷ name_token n f ∷ rest) g.0
expr_begins names m (permission at a x p f n b) rest g = refl

-- no expression begins with this token
pub not_first : (names : List (List ℕ)) (m : Mode) (f : Fixed) (w : Written) (rest : List Token) → Good names m w → begins names (fixed f) ≡ false → is f (first (spell w rest)) ≡ false
not_first names m f w rest g e = differs (begins names) f (first (spell w rest)) e (expr_begins names m w rest g)

begins_no_text : (names : List (List ℕ)) (w : What) → begins names w ≡ true → is_text w ≡ false
begins_no_text names (text_what b) e = cc
begins_no_text names w e = refl

-- ---- the readings of an expression
-- behind it stands no `(`, which would make a call of its name; it goes on with `->`
abbrev Opens : Written → ℕ → List (List ℕ) → Mode → ℕ → Type 0
Opens w limit names m up = (next : ExprTree → ℕ → Plan) (rest : List Token) → is (sign_mark mark.OpenParen) (first rest) ≡ false → run limit (operand names m up next) (spell w rest) ≡ run limit (arrows up (tree_of w) (depth w) next) rest

abbrev Base : Written → ℕ → List (List ℕ) → Mode → ℕ → Type 0
Base w limit names m up = (next : ExprTree → ℕ → Plan) (rest : List Token) → Calm 0 (first rest) → run limit (operand names m up next) (spell w rest) ≡ run limit (next (tree_of w) (depth w)) rest

abbrev Enters : Written → ℕ → List (List ℕ) → Mode → ℕ → ℕ → Type 0
Enters w limit names m up r = (next : ExprTree → ℕ → Plan) (rest : List Token) → Calm r (first rest) → run limit (climb r names m up next) (spell w rest) ≡ run limit (next (tree_of w) (depth w)) rest

abbrev Extends : Written → ℕ → List (List ℕ) → Mode → ℕ → ℕ → Type 0
Extends w limit names m up r = (next : ExprTree → ℕ → Plan) (rest : List Token) → Calm r (first rest) → run limit (climb (suc r) names m up next) (spell w rest) ≡ run limit (ops r names m up (tree_of w) (depth w) next) rest

abbrev Whole : Written → ℕ → List (List ℕ) → Mode → ℕ → Type 0
Whole w limit names m up = (next : ExprTree → ℕ → Plan) (rest : List Token) → Ends (first rest) → run limit (expr names m up next) (spell w rest) ≡ run limit (next (tree_of w) (depth w)) rest

-- for each place where the expression may stand and is not too deep
abbrev Anywhere : Written → (ℕ → List (List ℕ) → Mode → ℕ → Type 0) → Type 0
Anywhere w P = (limit : ℕ) (names : List (List ℕ)) (m : Mode) (up : ℕ) → Good names m w → up + depth w ≤ limit → P limit names m up

record Reading (w : Written) : Type 0 where
  opens : Anywhere w (λ limit names m up. base_fits m w ≡ true → Opens w limit names m up)
  enters : Anywhere w (λ limit names m up. (r : ℕ) → height w ≤ r → r ≤ ranks → Enters w limit names m up r)
  extends : Anywhere w (λ limit names m up. (r : ℕ) → height w ≤ suc r → suc r ≤ ranks → Extends w limit names m up r)
  whole : Anywhere w (λ limit names m up. Whole w limit names m up)

behind_fall : (limit r : ℕ) (names : List (List ℕ)) (m : Mode) (up : ℕ) (e : ExprTree) (d : ℕ) (next : ExprTree → ℕ → Plan) (ts : List Token) → Calm r (first ts) → run limit (behind r names m up next e d) ts ≡ run limit (next e d) ts
behind_fall limit zero names m up e d next ts c = refl
behind_fall limit (suc r) names m up e d next ts c =
    behind_fall limit r names m up e d (λ e' d'. ops r names m up e' d' next) ts (calm_less (suc r) r (first ts) (omega arith) c)
    ∙ fall_ops limit r names m up e d next ts (c.free r (omega arith))

calm_none : (r : ℕ) (w : What) → Calm r w → Calm 0 w
calm_none r w c = calm_less r 0 w zero-le c

-- where the operators of all ranks read it, so does the whole
whole_from : (w : Written) (limit : ℕ) (names : List (List ℕ)) (m : Mode) (up : ℕ) → Enters w limit names m up 10 → Whole w limit names m up
whole_from w limit names m up enter next rest ends =
    enter (λ e d. quest names m up e d next) rest ends.calm
    ∙ fall_quest limit names m up (tree_of w) (depth w) next rest ends.quest

-- what needs no parentheses behind a unary operator
flat : (w : Written) → Anywhere w (λ limit names m up. base_fits m w ≡ true → Opens w limit names m up) → Anywhere w (λ limit names m up. Base w limit names m up) → Reading w
flat w opens base = record {
  opens = opens;
  enters = λ limit names m up g h r low high. enter limit names m up g h r;
  extends = λ limit names m up g h r low high next rest calm. base limit names m up g h (behind (suc r) names m up next) rest (calm_none r (first rest) calm) ∙ behind_fall limit r names m up (tree_of w) (depth w) (λ e d. ops r names m up e d next) rest calm;
  whole = λ limit names m up g h. whole_from w limit names m up (enter limit names m up g h 10);
}
  where
    enter : Anywhere w (λ limit names m up. (r : ℕ) → Enters w limit names m up r)
    enter limit names m up g h r next rest calm = base limit names m up g h (behind r names m up next) rest (calm_none r (first rest) calm) ∙ behind_fall limit r names m up (tree_of w) (depth w) next rest calm

-- ---- primaries: what may stand before a `->` in the code
abbrev Primary : Written → ℕ → List (List ℕ) → Mode → ℕ → Type 0
Primary w limit names m up = (next : ExprTree → ℕ → Plan) (rest : List Token) → run limit (operand names m up next) (spell w rest) ≡ run limit (primary m up next (tree_of w) (depth w)) rest

fall_primary : (limit : ℕ) (m : Mode) (up : ℕ) (e : ExprTree) (d : ℕ) (next : ExprTree → ℕ → Plan) (ts : List Token) → Calm 0 (first ts) → run limit (primary m up next e d) ts ≡ run limit (next e d) ts
fall_primary limit code up e d next ts c = fall_arrow limit up e d next ts c.link
fall_primary limit conjunct up e d next ts c = refl
fall_primary limit value up e d next ts c = refl

no_path : (w : Written) → is_path w ≡ false → is_path w ≡ true → ⊥
no_path w f t = true≢false (sym t ∙ f)

-- a primary that is no path
from_primary : (w : Written) → is_path w ≡ false → Anywhere w (λ limit names m up. Primary w limit names m up) → Reading w
from_primary w no_start prim = flat w opens (λ limit names m up g h next rest calm. prim limit names m up g h next rest ∙ fall_primary limit m up (tree_of w) (depth w) next rest calm)
  where
    opens : Anywhere w (λ limit names m up. base_fits m w ≡ true → Opens w limit names m up)
    opens limit names code up g h fits next rest free = prim limit names code up g h next rest
    opens limit names conjunct up g h fits next rest free = absurd (no_path w no_start fits)
    opens limit names value up g h fits next rest free = absurd (no_path w no_start fits)

-- a path
from_path : (w : Written) → ((names : List (List ℕ)) (m : Mode) → Good names m w → base_fits m w ≡ true) → Anywhere w (λ limit names m up. Opens w limit names m up) → Reading w
from_path w fits opens = flat w (λ limit names m up g h fit. opens limit names m up g h) (λ limit names m up g h next rest calm. opens limit names m up g h next rest calm.call ∙ fall_arrow limit up (tree_of w) (depth w) next rest calm.link)

-- what is neither
from_base : (w : Written) → is_primary w ≡ false → is_path w ≡ false → Anywhere w (λ limit names m up. Base w limit names m up) → Reading w
from_base w no_primary no_start base = flat w opens base
  where
    opens : Anywhere w (λ limit names m up. base_fits m w ≡ true → Opens w limit names m up)
    opens limit names code up g h fits next rest free = absurd (true≢false (sym fits ∙ no_primary))
    opens limit names conjunct up g h fits next rest free = absurd (no_path w no_start fits)
    opens limit names value up g h fits next rest free = absurd (no_path w no_start fits)

truth_primary : (at : Place) (b : Bool) → Anywhere (truth_token at b) (λ limit names m up. Primary (truth_token at b) limit names m up)
truth_primary at true limit names m up g h next rest = pass limit up (primary m up next (truth (spot at) true) 0) at rest (omega (arith, h))
truth_primary at false limit names m up g h next rest = pass limit up (primary m up next (truth (spot at) false) 0) at rest (omega (arith, h))

-- behind the name of a local
local_behind : (at : Place) (n : List ℕ) (limit : ℕ) (names : List (List ℕ)) (m : Mode) (up : ℕ) (next : ExprTree → ℕ → Plan) (rest : List Token) → is (sign_mark mark.OpenParen) (first rest) ≡ false → run limit (behind_name names m up next at n) rest ≡ run limit (arrows up (local (spot at) n) 0 next) rest
local_behind at n limit names code up next rest free = skip limit (up + 1) (sign_mark mark.OpenParen) (λ a. called_plan names up next at n) (arrows up (local (spot at) n) 0 next) rest free
local_behind at n limit names conjunct up next rest free = skip limit (up + 1) (sign_mark mark.OpenParen) (λ a. arguments names value (up + 1) (λ es d. next (call (spot at) n es) (d + 1))) (arrows up (local (spot at) n) 0 next) rest free
local_behind at n limit names value up next rest free = refl

-- a name that is no typedef's begins an operand
name_begins : (at : Place) (n : List ℕ) (limit : ℕ) (names : List (List ℕ)) (m : Mode) (up : ℕ) (next : ExprTree → ℕ → Plan) (rest : List Token) → is_among names n ≡ false → up ≤ limit → run limit (operand names m up next) (name_token n at ∷ rest) ≡ run limit (behind_name names m up next at n) rest
name_begins at n limit names m up next rest e h =
    ap (λ b. go limit (step_if (not b) (node up (behind_name names m up next at n))) (λ q. run limit q rest) at) e
    ∙ pass limit up (behind_name names m up next at n) at rest h

word_opens : (at : Place) (n : List ℕ) → Anywhere (word at n) (λ limit names m up. Opens (word at n) limit names m up)
word_opens at n limit names m up g h next rest free = name_begins at n limit names m up next rest g (omega (arith, h)) ∙ local_behind at n limit names m up next rest free

word_fits : (at : Place) (n : List ℕ) (names : List (List ℕ)) (m : Mode) → Good names m (word at n) → base_fits m (word at n) ≡ true
word_fits at n names code g = refl
word_fits at n names conjunct g = refl
word_fits at n names value g = refl

result_opens : (at : Place) → Anywhere (result_word at) (λ limit names m up. Opens (result_word at) limit names m up)
result_opens at limit names code up g h next rest free = absurd (true≢false g)
result_opens at limit names conjunct up g h next rest free = pass limit up (arrows up (outcome (spot at)) 0 next) at rest (omega (arith, h))
result_opens at limit names value up g h next rest free = pass limit up (arrows up (outcome (spot at)) 0 next) at rest (omega (arith, h))

result_fits : (at : Place) (names : List (List ℕ)) (m : Mode) → Good names m (result_word at) → base_fits m (result_word at) ≡ true
result_fits at names code g = refl
result_fits at names conjunct g = refl
result_fits at names value g = refl

arrow_fits : (x : Written) (at f : Place) (n : List ℕ) (names : List (List ℕ)) (m : Mode) → Good names m (arrow_to x at f n) → base_fits m (arrow_to x at f n) ≡ true
arrow_fits x at f n names code g = refl
arrow_fits x at f n names conjunct g = g.1
arrow_fits x at f n names value g = g.1

arrow_opens : (x : Written) (at f : Place) (n : List ℕ) → Reading x → Anywhere (arrow_to x at f n) (λ limit names m up. Opens (arrow_to x at f n) limit names m up)
arrow_opens x at f n ix limit names m up g h next rest free =
    ix.opens limit names m up g.0 (omega (arith, h)) g.1 next (symbol mark.Arrow at ∷ name_token n f ∷ rest) refl
    ∙ take_arrow limit up (tree_of x) (depth x) next at f n rest (omega (arith, h))

-- ---- a unary operator
before_base : (at : Place) (o : UnaryOperator) (x : Written) → Reading x → Anywhere (before at o x) (λ limit names m up. Base (before at o x) limit names m up)
before_base at o x ix limit names m up g h next rest calm = begun o ∙ ix.enters limit names (inside m) (up + 1) g.0 (omega (arith, h)) 0 (omega (arith, g.1)) zero-le (λ e d. next (unary (spot at) o e) (d + 1)) rest calm
  where
    begun : (p : UnaryOperator) → run limit (operand names m up next) (symbol (unary_symbol p) at ∷ spell x rest) ≡ run limit (operand names (inside m) (up + 1) (λ e d. next (unary (spot at) p e) (d + 1))) (spell x rest)
    begun unary_op.Negate = pass limit (up + 1) (operand names (inside m) (up + 1) (λ e d. next (unary (spot at) unary_op.Negate e) (d + 1))) at (spell x rest) (omega (arith, h))
    begun unary_op.Not = pass limit (up + 1) (operand names (inside m) (up + 1) (λ e d. next (unary (spot at) unary_op.Not e) (d + 1))) at (spell x rest) (omega (arith, h))
    begun unary_op.Flip = pass limit (up + 1) (operand names (inside m) (up + 1) (λ e d. next (unary (spot at) unary_op.Flip e) (d + 1))) at (spell x rest) (omega (arith, h))

round_primary : (a : Place) (x : Written) (b : Place) → Reading x → Anywhere (round a x b) (λ limit names m up. Primary (round a x b) limit names m up)
round_primary a x b ix limit names m up g h next rest =
    pass limit (up + 1) (round_plan names m up next a) a (spell x (symbol mark.CloseParen b ∷ rest)) (omega (arith, h))
    ∙ ix.whole limit names m (up + 1) g (omega (arith, h)) (λ e d. expect_sign mark.CloseParen (λ c. primary m up next (from a e) (d + 1))) (symbol mark.CloseParen b ∷ rest) ends_close
    ∙ eat_on limit (sign_mark mark.CloseParen) (λ c. primary m up next (from a (tree_of x)) (depth x + 1)) b rest

-- ---- two operands, and three
two_extends : (x : Written) (at : Place) (o : Operator) (y : Written) → Reading x → Reading y → (limit : ℕ) (names : List (List ℕ)) (m : Mode) (up : ℕ) → Good names m (between x at o y) → up + depth (between x at o y) ≤ limit → (r : ℕ) → (suc (rank o) ≤ r → Enters (between x at o y) limit names m up r) → suc (rank o) ≤ suc r → suc r ≤ ranks → Extends (between x at o y) limit names m up r
two_extends x at o y ix iy limit names m up g h r enter low high next rest calm =
    elim (rank o == r) as (λ t. (rank o == r) ≡ t → run limit (climb (suc r) names m up next) (spell (between x at o y) rest) ≡ run limit (ops r names m up (tree_of (between x at o y)) (depth (between x at o y)) next) rest) [
      | true ↦ λ e.
          let same : rank o ≡ r = eqb→eq (rank o) r (T_from_true _ e) in
          let left : height x ≤ suc r = omega (arith, g.2, same) in
          let right : height y ≤ r = omega (arith, g.3, same) in
          ix.extends limit names m up g.0 (omega (arith, h)) r left high next (symbol (operator_symbol o) at ∷ spell y rest) (calm_operator r o same)
          ∙ take_op limit r names m up (tree_of x) (depth x) next o at (spell y rest) same g.4 g.5 (omega (arith, h))
          ∙ iy.enters limit names (right_of m o) (up + 1) g.1 (omega (arith, h)) r right (omega (arith, high)) (λ e' d'. ops r names m up (joined at o (tree_of x) e') (max (depth x) d' + 1) next) rest calm
      | false ↦ λ e.
          let ne : rank o ≢ r = false-eqb (rank o) r (sym e) in
          enter (omega (arith, low, ne)) (λ e' d'. ops r names m up e' d' next) rest calm
    ] refl

two_enters : (x : Written) (at : Place) (o : Operator) (y : Written) → Reading x → Reading y → (limit : ℕ) (names : List (List ℕ)) (m : Mode) (up : ℕ) → Good names m (between x at o y) → up + depth (between x at o y) ≤ limit → (r : ℕ) → suc (rank o) ≤ r → r ≤ ranks → Enters (between x at o y) limit names m up r
two_enters x at o y ix iy limit names m up g h zero low high next rest calm = absurd (omega (arith, low))
two_enters x at o y ix iy limit names m up g h (suc r) low high next rest calm =
    two_extends x at o y ix iy limit names m up g h r (λ l. two_enters x at o y ix iy limit names m up g h r l (omega (arith, high))) low high next rest (calm_less (suc r) r (first rest) (omega arith) calm)
    ∙ fall_ops limit r names m up (tree_of (between x at o y)) (depth (between x at o y)) next rest (calm.free r (omega arith))

two_reading : (x : Written) (at : Place) (o : Operator) (y : Written) → Reading x → Reading y → Reading (between x at o y)
two_reading x at o y ix iy = record {
  opens = opens;
  enters = λ limit names m up g h r low high. two_enters x at o y ix iy limit names m up g h r low high;
  extends = λ limit names m up g h r low high. two_extends x at o y ix iy limit names m up g h r (λ l. two_enters x at o y ix iy limit names m up g h r l (omega (arith, high))) low high;
  whole = λ limit names m up g h. whole_from (between x at o y) limit names m up (two_enters x at o y ix iy limit names m up g h 10 (rank_low o) (omega arith));
}
  where
    opens : Anywhere (between x at o y) (λ limit names m up. base_fits m (between x at o y) ≡ true → Opens (between x at o y) limit names m up)
    opens limit names code up g h fits next rest free = absurd (true≢false (sym fits))
    opens limit names conjunct up g h fits next rest free = absurd (true≢false (sym fits))
    opens limit names value up g h fits next rest free = absurd (true≢false (sym fits))

choice_whole : (x : Written) (q : Place) (y : Written) (c : Place) (z : Written) → Reading x → Reading y → Reading z → Anywhere (choice x q y c z) (λ limit names m up. Whole (choice x q y c z) limit names m up)
choice_whole x q y c z ix iy iz limit names m up g h next rest ends =
    ix.enters limit names m up g.0 (omega (arith, h)) 10 (omega (arith, g.3)) (omega arith) (λ e d. quest names m up e d next) (symbol mark.Question q ∷ spell y (symbol mark.Colon c ∷ spell z rest)) calm_quest
    ∙ take_quest limit names m up (tree_of x) (depth x) next q (spell y (symbol mark.Colon c ∷ spell z rest)) g.4 (omega (arith, h))
    ∙ iy.whole limit names m (up + 1) g.1 (omega (arith, h)) (λ e' d'. expect_sign mark.Colon (λ s. expr names m (up + 1) (λ e'' d''. next (chosen q (tree_of x) e' e'') (max (depth x) (max d' d'') + 1)))) (symbol mark.Colon c ∷ spell z rest) ends_colon
    ∙ eat_on limit (sign_mark mark.Colon) (λ s. expr names m (up + 1) (λ e'' d''. next (chosen q (tree_of x) (tree_of y) e'') (max (depth x) (max (depth y) d'') + 1))) c (spell z rest)
    ∙ iz.whole limit names m (up + 1) g.2 (omega (arith, h)) (λ e'' d''. next (chosen q (tree_of x) (tree_of y) e'') (max (depth x) (max (depth y) d'') + 1)) rest ends

too_high : (r : ℕ) → suc ranks ≤ r → r ≤ ranks → ⊥
too_high r low high = omega (arith, low, high)

choice_reading : (x : Written) (q : Place) (y : Written) (c : Place) (z : Written) → Reading x → Reading y → Reading z → Reading (choice x q y c z)
choice_reading x q y c z ix iy iz = record {
  opens = opens;
  enters = λ limit names m up g h r low high. absurd (too_high r low high);
  extends = λ limit names m up g h r low high. absurd (too_high (suc r) low high);
  whole = choice_whole x q y c z ix iy iz;
}
  where
    opens : Anywhere (choice x q y c z) (λ limit names m up. base_fits m (choice x q y c z) ≡ true → Opens (choice x q y c z) limit names m up)
    opens limit names code up g h fits next rest free = absurd (true≢false (sym fits))
    opens limit names conjunct up g h fits next rest free = absurd (true≢false (sym fits))
    opens limit names value up g h fits next rest free = absurd (true≢false (sym fits))

-- ---- arguments
abbrev ReadsArgs : Args → Type 0
ReadsArgs xs = (limit : ℕ) (names : List (List ℕ)) (m : Mode) (up : ℕ) (next : ExprTrees → ℕ → Plan) (b : Place) (rest : List Token) → GoodArgs names m xs → up + depth_args xs ≤ limit → run limit (arguments names m up next) (spell_args xs (symbol mark.CloseParen b ∷ rest)) ≡ run limit (next (args_trees xs) (depth_args xs)) rest

abbrev ReadsMore : More → Type 0
ReadsMore xs = (limit : ℕ) (names : List (List ℕ)) (m : Mode) (up : ℕ) (next : ExprTrees → ℕ → Plan) (b : Place) (rest : List Token) → GoodMore names m xs → up + depth_more xs ≤ limit → run limit (more_args names m up next) (spell_more xs (symbol mark.CloseParen b ∷ rest)) ≡ run limit (next (more_trees xs) (depth_more xs)) rest

ends_more : (xs : More) (b : Place) (rest : List Token) → Ends (first (spell_more xs (symbol mark.CloseParen b ∷ rest)))
ends_more no_more b rest = ends_close
ends_more (more_and at x xs) b rest = ends_comma

-- an argument, and those behind it
argument_enters : (x : Written) (xs : More) → Reading x → ReadsMore xs → (limit : ℕ) (names : List (List ℕ)) (m : Mode) (up : ℕ) (next : ExprTrees → ℕ → Plan) (b : Place) (rest : List Token) → Good names m x → GoodMore names m xs → up + max (depth x) (depth_more xs) ≤ limit → run limit (expr names m up (argument names m up next)) (spell x (spell_more xs (symbol mark.CloseParen b ∷ rest))) ≡ run limit (next (expr_and (tree_of x) (more_trees xs)) (max (depth x) (depth_more xs))) rest
argument_enters x xs ix ixs limit names m up next b rest g gs h =
    ix.whole limit names m up g (omega (arith, h)) (argument names m up next) (spell_more xs (symbol mark.CloseParen b ∷ rest)) (ends_more xs b rest)
    ∙ ixs limit names m up (λ es d. next (expr_and (tree_of x) es) (max (depth x) d)) b rest gs (omega (arith, h))

some_enters : (x : Written) (xs : More) → Reading x → ReadsMore xs → ReadsArgs (some_args x xs)
some_enters x xs ix ixs limit names m up next b rest g h =
    skip limit 0 (sign_mark mark.CloseParen) (λ c. next no_exprs 0) (expr names m up (argument names m up next)) (spell x (spell_more xs (symbol mark.CloseParen b ∷ rest))) (not_first names m (sign_mark mark.CloseParen) x (spell_more xs (symbol mark.CloseParen b ∷ rest)) g.0 refl)
    ∙ argument_enters x xs ix ixs limit names m up next b rest g.0 g.1 h

more_enters : (at : Place) (x : Written) (xs : More) → Reading x → ReadsMore xs → ReadsMore (more_and at x xs)
more_enters at x xs ix ixs limit names m up next b rest g h =
    pass_on limit (expr names m up (argument names m up next)) at (spell x (spell_more xs (symbol mark.CloseParen b ∷ rest)))
    ∙ argument_enters x xs ix ixs limit names m up next b rest g.0 g.1 h

-- ---- calls and instances
args_no_text : (names : List (List ℕ)) (m : Mode) (xs : Args) (b : Place) (rest : List Token) → GoodArgs names m xs → is_text (first (spell_args xs (symbol mark.CloseParen b ∷ rest))) ≡ false
args_no_text names m no_args b rest g = refl
args_no_text names m (some_args x xs) b rest g = begins_no_text names (first (spell x (spell_more xs (symbol mark.CloseParen b ∷ rest)))) (expr_begins names m x (spell_more xs (symbol mark.CloseParen b ∷ rest)) g.0)

called_primary : (at : Place) (n : List ℕ) (a : Place) (xs : Args) (b : Place) → ReadsArgs xs → Anywhere (called at n a xs b) (λ limit names m up. Primary (called at n a xs b) limit names m up)
called_primary at n a xs b ixs limit names code up g h next rest =
    let ts = spell_args xs (symbol mark.CloseParen b ∷ rest) in
    let made : ExprTrees → ℕ → Plan = λ es d. arrows up (call (spot at) n es) (d + 1) next in
    name_begins at n limit names code up next (symbol mark.OpenParen a ∷ ts) g.0 (omega (arith, h))
    ∙ take limit (up + 1) (sign_mark mark.OpenParen) (λ p. called_plan names up next at n) (arrows up (local (spot at) n) 0 next) a ts (omega (arith, h))
    ∙ skip_text limit (λ t. expect_sign mark.CloseParen (λ p. arrows up (call_text (spot at) n t) 1 next)) (arguments names code (up + 1) made) ts (args_no_text names code xs b rest g.2)
    ∙ ixs limit names code (up + 1) made b rest g.2 (omega (arith, h))
called_primary at n a xs b ixs limit names conjunct up g h next rest =
    let ts = spell_args xs (symbol mark.CloseParen b ∷ rest) in
    let made : ExprTrees → ℕ → Plan = λ es d. next (call (spot at) n es) (d + 1) in
    name_begins at n limit names conjunct up next (symbol mark.OpenParen a ∷ ts) g.0 (omega (arith, h))
    ∙ take limit (up + 1) (sign_mark mark.OpenParen) (λ p. arguments names value (up + 1) made) (arrows up (local (spot at) n) 0 next) a ts (omega (arith, h))
    ∙ ixs limit names value (up + 1) made b rest g.2 (omega (arith, h))
called_primary at n a xs b ixs limit names value up g h next rest = absurd (true≢false (sym g.1))

called_text_primary : (at : Place) (n : List ℕ) (a t : Place) (bytes : List ℕ) (b : Place) → Anywhere (called_text at n a t bytes b) (λ limit names m up. Primary (called_text at n a t bytes b) limit names m up)
called_text_primary at n a t bytes b limit names code up g h next rest =
    let made : Text → Plan = λ x. expect_sign mark.CloseParen (λ p. arrows up (call_text (spot at) n x) 1 next) in
    name_begins at n limit names code up next (symbol mark.OpenParen a ∷ text_token bytes t ∷ symbol mark.CloseParen b ∷ rest) g.0 (omega (arith, h))
    ∙ take limit (up + 1) (sign_mark mark.OpenParen) (λ p. called_plan names up next at n) (arrows up (local (spot at) n) 0 next) a (text_token bytes t ∷ symbol mark.CloseParen b ∷ rest) (omega (arith, h))
    ∙ take_text limit made (arguments names code (up + 1) (λ es d. arrows up (call (spot at) n es) (d + 1) next)) bytes t (symbol mark.CloseParen b ∷ rest)
    ∙ eat_on limit (sign_mark mark.CloseParen) (λ p. arrows up (call_text (spot at) n (text_at t bytes)) 1 next) b rest
called_text_primary at n a t bytes b limit names conjunct up g h next rest = absurd (true≢false (sym g.1))
called_text_primary at n a t bytes b limit names value up g h next rest = absurd (true≢false (sym g.1))

allocated_primary : (at a : Place) (t : TypeText) (b : Place) → Anywhere (allocated at a t b) (λ limit names m up. Primary (allocated at a t b) limit names m up)
allocated_primary at a t b limit names code up g h next rest =
    let made : TypeName → Plan = λ x. expect_sign mark.CloseParen (λ p. arrows up (alloc (spot at) x) 0 next) in
    let ts = spell_type t (symbol mark.CloseParen b ∷ rest) in
    pass limit up (alloc_plan names up next at) at (symbol mark.OpenParen a ∷ ts) (omega (arith, h))
    ∙ eat_on limit (sign_mark mark.OpenParen) (λ p. typed names made) a ts
    ∙ typed_enters limit names made t (symbol mark.CloseParen b ∷ rest) g.1 (λ n p. refl)
    ∙ eat_on limit (sign_mark mark.CloseParen) (λ p. arrows up (alloc (spot at) (type_tree t)) 0 next) b rest
allocated_primary at a t b limit names conjunct up g h next rest = absurd (true≢false (sym g.0))
allocated_primary at a t b limit names value up g h next rest = absurd (true≢false (sym g.0))

-- ---- `acc`: each `->` but the last belongs to the path
abbrev behind_start : ℕ → (ExprTree → ℕ → Place → Named → Plan) → ExprTree → Plan
behind_start up next x = expect_sign mark.Arrow (λ p. name [] (λ f. acc_arrows up x 0 p f next))

start_enters : (limit up : ℕ) (next : ExprTree → ℕ → Place → Named → Plan) (x : ExprTree) (p f : Place) (n : List ℕ) (rest : List Token) → run limit (behind_start up next x) (symbol mark.Arrow p ∷ name_token n f ∷ rest) ≡ run limit (acc_arrows up x 0 p (named_at f n) next) rest
start_enters limit up next x p f n rest =
    eat_on limit (sign_mark mark.Arrow) (λ q. name [] (λ g. acc_arrows up x 0 q g next)) p (name_token n f ∷ rest)
    ∙ eat_any_name limit (λ g. acc_arrows up x 0 p g next) n f rest

path_enters : (x : Written) (limit : ℕ) (names : List (List ℕ)) (up : ℕ) (next : ExprTree → ℕ → Place → Named → Plan) (p f : Place) (n : List ℕ) (rest : List Token) → Good names value x → is_path x ≡ true → up + depth x + 2 ≤ limit → run limit (path_start names (behind_start up next)) (spell x (symbol mark.Arrow p ∷ name_token n f ∷ rest)) ≡ run limit (acc_arrows up (tree_of x) (depth x) p (named_at f n) next) rest
path_enters (word at v) limit names up next p f n rest g path h =
    let ts = symbol mark.Arrow p ∷ name_token n f ∷ rest in
    skip limit 0 (word_mark key.Outcome) (λ o. behind_start up next (outcome (spot o))) (name names (λ x. behind_start up next (local (spot x.place) x.name))) (name_token v at ∷ ts) refl
    ∙ eat_name limit names (λ x. behind_start up next (local (spot x.place) x.name)) v at ts g
    ∙ start_enters limit up next (local (spot at) v) p f n rest
path_enters (result_word at) limit names up next p f n rest g path h =
    take_on limit (word_mark key.Outcome) (λ o. behind_start up next (outcome (spot o))) (name names (λ x. behind_start up next (local (spot x.place) x.name))) at (symbol mark.Arrow p ∷ name_token n f ∷ rest)
    ∙ start_enters limit up next (outcome (spot at)) p f n rest
path_enters (arrow_to x at k v) limit names up next p f n rest g path h =
    path_enters x limit names up next at k v (symbol mark.Arrow p ∷ name_token n f ∷ rest) g.0 path (omega (arith, h))
    ∙ pass limit (up + depth x + 3) (name [] (λ y. acc_arrows up (pointed at (tree_of x) (named_at k v)) (depth x + 1) p y next)) p (name_token n f ∷ rest) (omega (arith, h))
    ∙ eat_any_name limit (λ y. acc_arrows up (pointed at (tree_of x) (named_at k v)) (depth x + 1) p y next) n f rest
path_enters x limit names up next p f n rest g path h = absurd (true≢false (sym path))

permission_primary : (at a : Place) (x : Written) (p f : Place) (n : List ℕ) (b : Place) → Anywhere (permission at a x p f n b) (λ limit names m up. Primary (permission at a x p f n b) limit names m up)
permission_primary at a x p f n b limit names code up g h next rest = absurd (true≢false (sym g.0))
permission_primary at a x p f n b limit names value up g h next rest = absurd (true≢false (sym g.0))
permission_primary at a x p f n b limit names conjunct up g h next rest =
    let made : ExprTree → ℕ → Place → Named → Plan = λ y d q k. next (acc (spot at) y q k) (d + 2) in
    let ts = spell x (symbol mark.Arrow p ∷ name_token n f ∷ symbol mark.CloseParen b ∷ rest) in
    pass limit (up + 2) (acc_plan names up next at) at (symbol mark.OpenParen a ∷ ts) (omega (arith, h))
    ∙ eat_on limit (sign_mark mark.OpenParen) (λ q. path_start names (behind_start up made)) a ts
    ∙ path_enters x limit names up made p f n (symbol mark.CloseParen b ∷ rest) g.1 g.2 (omega (arith, h))
    ∙ pass_on limit (made (tree_of x) (depth x) p (named_at f n)) b rest

-- ---- every expression
mutual
  reading : (w : Written) → Reading w
  reading (digits at n) = from_primary (digits at n) refl (λ limit names m up g h next rest. pass limit up (primary m up next (number (spot at) n) 0) at rest (omega (arith, h)))
  reading (truth_token at b) = from_primary (truth_token at b) refl (truth_primary at b)
  reading (null_token at) = from_primary (null_token at) refl (λ limit names m up g h next rest. pass limit up (primary m up next (null (spot at)) 0) at rest (omega (arith, h)))
  reading (word at n) = from_path (word at n) (word_fits at n) (word_opens at n)
  reading (result_word at) = from_path (result_word at) (result_fits at) (result_opens at)
  reading (before at o x) = from_base (before at o x) refl refl (before_base at o x (reading x))
  reading (between x at o y) = two_reading x at o y (reading x) (reading y)
  reading (choice x q y c z) = choice_reading x q y c z (reading x) (reading y) (reading z)
  reading (round a x b) = from_primary (round a x b) refl (round_primary a x b (reading x))
  reading (called at n a xs b) = from_primary (called at n a xs b) refl (called_primary at n a xs b (args_reading xs))
  reading (called_text at n a t bytes b) = from_primary (called_text at n a t bytes b) refl (called_text_primary at n a t bytes b)
  reading (allocated at a t b) = from_primary (allocated at a t b) refl (allocated_primary at a t b)
  reading (arrow_to x at f n) = from_path (arrow_to x at f n) (arrow_fits x at f n) (arrow_opens x at f n (reading x))
  reading (permission at a x p f n b) = from_primary (permission at a x p f n b) refl (permission_primary at a x p f n b)

  args_reading : (xs : Args) → ReadsArgs xs
  args_reading no_args = λ limit names m up next b rest g h. take_on limit (sign_mark mark.CloseParen) (λ c. next no_exprs 0) (expr names m up (argument names m up next)) b rest
  args_reading (some_args x xs) = some_enters x xs (reading x) (more_reading xs)

  more_reading : (xs : More) → ReadsMore xs
  more_reading no_more = λ limit names m up next b rest g h. pass_on limit (next no_exprs 0) b rest
  more_reading (more_and at x xs) = more_enters at x xs (reading x) (more_reading xs)

-- a whole expression, in front of what doesn't belong to it
pub expr_enters : (limit : ℕ) (names : List (List ℕ)) (m : Mode) (up : ℕ) (next : ExprTree → ℕ → Plan) (w : Written) (rest : List Token) → Good names m w → up + depth w ≤ limit → Ends (first rest) → run limit (expr names m up next) (spell w rest) ≡ run limit (next (tree_of w) (depth w)) rest
expr_enters limit names m up next w rest g h ends = (reading w).whole limit names m up g h next rest ends

pub args_enter : (limit : ℕ) (names : List (List ℕ)) (m : Mode) (up : ℕ) (next : ExprTrees → ℕ → Plan) (xs : Args) (b : Place) (rest : List Token) → GoodArgs names m xs → up + depth_args xs ≤ limit → run limit (arguments names m up next) (spell_args xs (symbol mark.CloseParen b ∷ rest)) ≡ run limit (next (args_trees xs) (depth_args xs)) rest
args_enter limit names m up next xs b rest g h = args_reading xs limit names m up next b rest g h
