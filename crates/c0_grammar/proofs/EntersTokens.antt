-- Single tokens: which one stands first, and what a plan does with it.
use Rattle.std.proofs.Common.{◌≡◌, ℕ, ◌+◌, ◌≤◌, ◌<◌, Bool, true, false, true≢false, not, cond, List, [], ◌∷◌, Some, None, is_some, Err, refl, sym, ap, ◌∙◌, arith, zero-le, max, ◌&&◌}
use Rattle.gc0_base.specs.declared.place.Place.{Place}
use Rattle.c0_lex.specs.declared.token.Symbol.{Symbol}
use Rattle.c0_lex.specs.declared.token.Symbol.TheVariants as mark
use Rattle.parsed_tree.specs.declared.expressions.Named.{Named}
use Rattle.parsed_tree.specs.declared.expressions.Text.{Text}
use Rattle.parsed_tree.specs.declared.expressions.Operator.{Operator}
use Rattle.parsed_tree.specs.declared.items.Library.{Library}
use Rattle.parsed_tree.specs.Tree.{ExprTree}
use Rattle.c0_grammar.specs.Tokens.{Fixed, sign_mark, end_mark, What, fixed, name_what, number_what, text_what, Token, token, name_token, text_token, is_among}
use Rattle.c0_grammar.specs.Written.{named_at, text_at, pointed, operator_symbol, joined}
use Rattle.c0_grammar.specs.Allowed.{rank, Mode, right_of, has, left_fits, condition_fits}
use Rattle.c0_grammar.specs.Texts.{library_name}
use Rattle.c0_grammar.specs.Plan.{is, operator_of, operator_at, of_rank, library_named, Loop, Part, Plan, await, peek, name, alias, text, peek_text, library_name_of, arrows, ops, quest, many, climb, quest_plan, arrow_step, ops_step, or_step, enter, after_part, Step, on, node, step_if, deep_at, step, go, run}
use Rattle.c0_grammar.proofs.Marks.{is_fixed, is_self, rank_at, no_rank, operator_back, library_back, within}

-- ---- what stands first; at the end of all, the end
abbrev pub first : List Token → What
first [] = fixed end_mark
first (t ∷ ts) = t.what

-- what passes a test that a fixed token fails is not that token
pub differs : (test : What → Bool) (f : Fixed) (w : What) → test (fixed f) ≡ false → test w ≡ true → is f w ≡ false
differs test f w fails passes = elim (is f w) as (λ b. is f w ≡ b → b ≡ false) [
  | true ↦ λ e. absurd (true≢false (sym passes ∙ ap test (is_fixed f w e) ∙ fails))
  | false ↦ λ e. refl
] refl

-- ---- one step
pub pass : (limit reach : ℕ) (q : Plan) (at : Place) (ts : List Token) → reach ≤ limit → go limit (Some (reach, q)) (λ r. run limit r ts) at ≡ run limit q ts
pass limit reach q at ts h = ap (λ b. cond b (run limit q ts) (Err (deep_at at))) (within reach limit h)

pub pass_on : (limit : ℕ) (q : Plan) (at : Place) (ts : List Token) → go limit (on q) (λ r. run limit r ts) at ≡ run limit q ts
pass_on limit q at ts = pass limit 0 q at ts zero-le

pub eat : (limit reach : ℕ) (f : Fixed) (next : Place → Plan) (at : Place) (ts : List Token) → reach ≤ limit → run limit (await reach f next) (token (fixed f) at ∷ ts) ≡ run limit (next at) ts
eat limit reach f next at ts h = ap (λ b. go limit (cond b (node reach (next at)) None) (λ q. run limit q ts) at) (is_self f) ∙ pass limit reach (next at) at ts h

pub eat_on : (limit : ℕ) (f : Fixed) (next : Place → Plan) (at : Place) (ts : List Token) → run limit (await 0 f next) (token (fixed f) at ∷ ts) ≡ run limit (next at) ts
eat_on limit f next at ts = eat limit 0 f next at ts zero-le

pub take : (limit reach : ℕ) (f : Fixed) (these : Place → Plan) (others : Plan) (at : Place) (ts : List Token) → reach ≤ limit → run limit (peek reach f these others) (token (fixed f) at ∷ ts) ≡ run limit (these at) ts
take limit reach f these others at ts h = ap (λ b. go limit (cond b (node reach (these at)) (step others (token (fixed f) at))) (λ q. run limit q ts) at) (is_self f) ∙ pass limit reach (these at) at ts h

pub take_on : (limit : ℕ) (f : Fixed) (these : Place → Plan) (others : Plan) (at : Place) (ts : List Token) → run limit (peek 0 f these others) (token (fixed f) at ∷ ts) ≡ run limit (these at) ts
take_on limit f these others at ts = take limit 0 f these others at ts zero-le

pub skip : (limit reach : ℕ) (f : Fixed) (these : Place → Plan) (others : Plan) (ts : List Token) → is f (first ts) ≡ false → run limit (peek reach f these others) ts ≡ run limit others ts
skip limit reach f these others [] e = refl
skip limit reach f these others (t ∷ ts) e = ap (λ b. go limit (cond b (node reach (these t.place)) (step others t)) (λ q. run limit q ts) t.place) e

pub eat_name : (limit : ℕ) (names : List (List ℕ)) (next : Named → Plan) (n : List ℕ) (at : Place) (ts : List Token) → is_among names n ≡ false → run limit (name names next) (name_token n at ∷ ts) ≡ run limit (next (named_at at n)) ts
eat_name limit names next n at ts e = ap (λ b. go limit (step_if (not b) (on (next (named_at at n)))) (λ q. run limit q ts) at) e ∙ pass_on limit (next (named_at at n)) at ts

-- a name that may be a typedef's too
pub eat_any_name : (limit : ℕ) (next : Named → Plan) (n : List ℕ) (at : Place) (ts : List Token) → run limit (name [] next) (name_token n at ∷ ts) ≡ run limit (next (named_at at n)) ts
eat_any_name limit next n at ts = eat_name limit [] next n at ts refl

pub eat_text : (limit : ℕ) (next : Text → Plan) (b : List ℕ) (at : Place) (ts : List Token) → run limit (text next) (text_token b at ∷ ts) ≡ run limit (next (text_at at b)) ts
eat_text limit next b at ts = pass_on limit (next (text_at at b)) at ts

pub take_text : (limit : ℕ) (these : Text → Plan) (others : Plan) (b : List ℕ) (at : Place) (ts : List Token) → run limit (peek_text these others) (text_token b at ∷ ts) ≡ run limit (these (text_at at b)) ts
take_text limit these others b at ts = pass_on limit (these (text_at at b)) at ts

abbrev pub is_text : What → Bool
is_text (text_what b) = true
is_text w = false

skip_text_at : (limit : ℕ) (these : Text → Plan) (others : Plan) (w : What) (at : Place) (ts : List Token) → is_text w ≡ false → run limit (peek_text these others) (token w at ∷ ts) ≡ run limit others (token w at ∷ ts)
skip_text_at limit these others (fixed f) at ts e = refl
skip_text_at limit these others (name_what n) at ts e = refl
skip_text_at limit these others (number_what n) at ts e = refl
skip_text_at limit these others (text_what b) at ts e = cc

pub skip_text : (limit : ℕ) (these : Text → Plan) (others : Plan) (ts : List Token) → is_text (first ts) ≡ false → run limit (peek_text these others) ts ≡ run limit others ts
skip_text limit these others [] e = refl
skip_text limit these others (t ∷ ts) e = skip_text_at limit these others t.what t.place ts e

pub take_alias : (limit reach : ℕ) (names : List (List ℕ)) (these : Place → List ℕ → Plan) (others : Plan) (n : List ℕ) (at : Place) (ts : List Token) → reach ≤ limit → is_among names n ≡ true → run limit (alias reach names these others) (name_token n at ∷ ts) ≡ run limit (these at n) ts
take_alias limit reach names these others n at ts h e = ap (λ b. go limit (cond b (node reach (these at n)) (step others (name_token n at))) (λ q. run limit q ts) at) e ∙ pass limit reach (these at n) at ts h

-- a fixed token is no typedef's name
pub skip_alias : (limit reach : ℕ) (names : List (List ℕ)) (these : Place → List ℕ → Plan) (others : Plan) (f : Fixed) (at : Place) (ts : List Token) → run limit (alias reach names these others) (token (fixed f) at ∷ ts) ≡ run limit others (token (fixed f) at ∷ ts)
skip_alias limit reach names these others f at ts = refl

pub eat_library : (limit : ℕ) (next : Library → Plan) (l : Library) (at : Place) (ts : List Token) → run limit (library_name_of next) (name_token (library_name l) at ∷ ts) ≡ run limit (next l) ts
eat_library limit next l at ts = ap (λ o. go limit (library_named next o) (λ q. run limit q ts) at) (library_back l) ∙ pass_on limit (next l) at ts

-- ---- `->`, operators and `?` behind an expression
pub fall_arrow : (limit up : ℕ) (e : ExprTree) (d : ℕ) (next : ExprTree → ℕ → Plan) (ts : List Token) → is (sign_mark mark.Arrow) (first ts) ≡ false → run limit (arrows up e d next) ts ≡ run limit (next e d) ts
fall_arrow limit up e d next [] h = refl
fall_arrow limit up e d next (t ∷ ts) h = ap (λ b. go limit (arrow_step b (node (up + d + 1) (name [] (λ n. arrows up (pointed t.place e n) (d + 1) next))) (step (next e d) t)) (λ q. run limit q ts) t.place) h

pub take_arrow : (limit up : ℕ) (e : ExprTree) (d : ℕ) (next : ExprTree → ℕ → Plan) (at f : Place) (n : List ℕ) (ts : List Token) → up + d + 1 ≤ limit → run limit (arrows up e d next) (token (fixed (sign_mark mark.Arrow)) at ∷ name_token n f ∷ ts) ≡ run limit (arrows up (pointed at e (named_at f n)) (d + 1) next) ts
take_arrow limit up e d next at f n ts h =
    pass limit (up + d + 1) (name [] (λ n. arrows up (pointed at e n) (d + 1) next)) at (name_token n f ∷ ts) h
    ∙ eat_any_name limit (λ n. arrows up (pointed at e n) (d + 1) next) n f ts

pub fall_ops : (limit r : ℕ) (names : List (List ℕ)) (m : Mode) (up : ℕ) (e : ExprTree) (d : ℕ) (next : ExprTree → ℕ → Plan) (ts : List Token) → of_rank r (operator_at (first ts)) ≡ None → run limit (ops r names m up e d next) ts ≡ run limit (next e d) ts
fall_ops limit r names m up e d next [] h = refl
fall_ops limit r names m up e d next (t ∷ ts) h = ap (λ o. go limit (ops_step r names m up e d next (step (next e d) t) o t.place) (λ q. run limit q ts) t.place) h

pub take_op : (limit r : ℕ) (names : List (List ℕ)) (m : Mode) (up : ℕ) (e : ExprTree) (d : ℕ) (next : ExprTree → ℕ → Plan) (o : Operator) (at : Place) (ts : List Token) → rank o ≡ r → has m o ≡ true → left_fits m o e ≡ true → up + d + 1 ≤ limit → run limit (ops r names m up e d next) (token (fixed (sign_mark (operator_symbol o))) at ∷ ts) ≡ run limit (climb r names (right_of m o) (up + 1) (λ e' d'. ops r names m up (joined at o e e') (max d d' + 1) next)) ts
take_op limit r names m up e d next o at ts same h l reach =
    let q : Plan = climb r names (right_of m o) (up + 1) (λ e' d'. ops r names m up (joined at o e e') (max d d' + 1) next) in
    let other : Step = step (next e d) (token (fixed (sign_mark (operator_symbol o))) at) in
    ap (λ p. go limit (ops_step r names m up e d next other p at) (λ q. run limit q ts) at) (rank_at r o same)
    ∙ ap (λ b. go limit (step_if (b && left_fits m o e) (node (up + d + 1) q)) (λ q. run limit q ts) at) h
    ∙ ap (λ b. go limit (step_if b (node (up + d + 1) q)) (λ q. run limit q ts) at) l
    ∙ pass limit (up + d + 1) q at ts reach

pub fall_quest : (limit : ℕ) (names : List (List ℕ)) (m : Mode) (up : ℕ) (e : ExprTree) (d : ℕ) (next : ExprTree → ℕ → Plan) (ts : List Token) → is (sign_mark mark.Question) (first ts) ≡ false → run limit (quest names m up e d next) ts ≡ run limit (next e d) ts
fall_quest limit names m up e d next [] h = refl
fall_quest limit names m up e d next (t ∷ ts) h = ap (λ b. go limit (arrow_step b (step_if (condition_fits m e) (node (up + d + 1) (quest_plan names m up e d next t.place))) (step (next e d) t)) (λ q. run limit q ts) t.place) h

pub take_quest : (limit : ℕ) (names : List (List ℕ)) (m : Mode) (up : ℕ) (e : ExprTree) (d : ℕ) (next : ExprTree → ℕ → Plan) (at : Place) (ts : List Token) → condition_fits m e ≡ true → up + d + 1 ≤ limit → run limit (quest names m up e d next) (token (fixed (sign_mark mark.Question)) at ∷ ts) ≡ run limit (quest_plan names m up e d next at) ts
take_quest limit names m up e d next at ts fits reach =
    ap (λ b. go limit (step_if b (node (up + d + 1) (quest_plan names m up e d next at))) (λ q. run limit q ts) at) fits
    ∙ pass limit (up + d + 1) (quest_plan names m up e d next at) at ts reach

-- ---- the end of a list
abbrev pub EndsList : Loop → What → Type 0
EndsList l w = (next : Part l → ℕ → Plan) (at : Place) → enter l next w at ≡ None

pub fall_many : (limit : ℕ) (l : Loop) (next : List (Part l) → ℕ → Plan) (ts : List Token) → EndsList l (first ts) → run limit (many l next) ts ≡ run limit (next [] 0) ts
fall_many limit l next [] h = refl
fall_many limit l next (t ∷ ts) h = ap (λ s. go limit (or_step s (step (next [] 0) t)) (λ q. run limit q ts) t.place) (h (after_part l next) t.place)

-- ---- what may stand behind a whole expression
-- behind one that needs operators of the ranks from r on
pub record Calm (r : ℕ) (w : What) : Type 0 where
  pub call : is (sign_mark mark.OpenParen) w ≡ false
  pub link : is (sign_mark mark.Arrow) w ≡ false
  pub free : (q : ℕ) → q < r → of_rank q (operator_at w) ≡ None

pub record Ends (w : What) : Type 0 where
  pub calm : Calm 10 w
  pub quest : is (sign_mark mark.Question) w ≡ false

abbrev is_operator : What → Bool
is_operator w = is_some (operator_at w)

operator_no_sign : (s : Symbol) (o : Operator) → operator_of s ≡ None → is (sign_mark s) (fixed (sign_mark (operator_symbol o))) ≡ false
operator_no_sign s o e = differs is_operator (sign_mark s) (fixed (sign_mark (operator_symbol o))) (ap is_some e) (ap is_some (operator_back o))

pub calm_operator : (r : ℕ) (o : Operator) → rank o ≡ r → Calm r (fixed (sign_mark (operator_symbol o)))
calm_operator r o same = record {
  call = operator_no_sign mark.OpenParen o refl;
  link = operator_no_sign mark.Arrow o refl;
  free = λ q lt. no_rank q o (λ z. let bad : q ≡ r = sym z ∙ same in omega (arith, lt, bad));
}

pub calm_less : (r k : ℕ) (w : What) → k ≤ r → Calm r w → Calm k w
calm_less r k w h c = record { call = c.call; link = c.link; free = λ q lt. c.free q (omega (arith, lt, h)) }

pub calm_quest : Calm 10 (fixed (sign_mark mark.Question))
calm_quest = record { call = refl; link = refl; free = λ q lt. refl }

pub ends_comma : Ends (fixed (sign_mark mark.Comma))
ends_comma = record { calm = record { call = refl; link = refl; free = λ q lt. refl }; quest = refl }

pub ends_close : Ends (fixed (sign_mark mark.CloseParen))
ends_close = record { calm = record { call = refl; link = refl; free = λ q lt. refl }; quest = refl }

pub ends_semicolon : Ends (fixed (sign_mark mark.Semicolon))
ends_semicolon = record { calm = record { call = refl; link = refl; free = λ q lt. refl }; quest = refl }

pub ends_colon : Ends (fixed (sign_mark mark.Colon))
ends_colon = record { calm = record { call = refl; link = refl; free = λ q lt. refl }; quest = refl }
