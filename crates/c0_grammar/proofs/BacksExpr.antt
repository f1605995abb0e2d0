-- One token back in expressions: what a plan's next step takes, the plan takes behind that token.
use Rattle.std.proofs.Common.{◌≡◌, ℕ, zero, suc, ◌+◌, ◌≤◌, max, Bool, true, false, ◌&&◌, not, cond, List, [], ◌∷◌, map, length, Some, None, inl, inr, refl, sym, ap, ◌∙◌, subst, arith}
use Rattle.gc0_base.specs.declared.place.Place.{Place}
use Rattle.c0_lex.specs.declared.token.Keyword.{Keyword}
use Rattle.c0_lex.specs.declared.token.Keyword.TheVariants as key
use Rattle.c0_lex.specs.declared.token.Symbol.{Symbol}
use Rattle.c0_lex.specs.declared.token.Symbol.TheVariants as mark
use Rattle.parsed_tree.specs.declared.expressions.Named.{Named}
use Rattle.parsed_tree.specs.declared.expressions.Base.TheVariants as base
use Rattle.parsed_tree.specs.declared.expressions.TypeName.{TypeName}
use Rattle.parsed_tree.specs.declared.expressions.UnaryOperator.{UnaryOperator}
use Rattle.parsed_tree.specs.declared.expressions.UnaryOperator.TheVariants as unary_op
use Rattle.parsed_tree.specs.Tree.{ExprTree, outcome, call, alloc, acc, ExprTrees, from, FormulaTree, InstanceTree, ProgramTree}
use Rattle.c0_grammar.specs.Tokens.{Fixed, word_mark, sign_mark, What, fixed, name_what, number_what, Token, token, keyword, symbol, name_token, text_token, is_among}
use Rattle.c0_grammar.specs.Written.{unary_symbol, operator_symbol, BaseText, int_word, bool_word, struct_word, alias_word, TypeText, spell_base, spell_type, base_place, base_tree, type_tree, named_at, Written, digits, truth_token, null_token, word, result_word, before, between, choice, round, called, called_text, allocated, arrow_to, permission, Args, no_args, some_args, no_more, more_and, spell, spell_args, spot, joined, chosen, pointed, tree_of, args_trees, depth, depth_args, FormulaText, unknown, unknown_and, known, spell_formula, formula_tree, depth_formula}
use Rattle.c0_grammar.specs.Allowed.{rank, height, is_primary, is_path, Mode, code, conjunct, value, is_code, right_of, has, left_fits, condition_fits, base_fits, GoodBase, GoodType, Good, GoodArgs, GoodFormula}
use Rattle.c0_grammar.specs.Grammar.{IsFree}
use Rattle.c0_grammar.specs.Plan.{is, operator_at, of_rank, star_loop, Plan, await, peek, name, arrows, acc_arrows, ops, quest, more_args, Step, step_if, stars, struct_type, typed, climb, expr, primary, argument, arguments, called_plan, behind_name, alloc_plan, path_start, acc_plan, unary_step, round_plan, word_step, sign_step, operand_step, ops_step, quest_plan, more_args_step, formula, stated, instance, step, arrow_step, acc_arrows_step, type_step}
use Rattle.c0_grammar.proofs.Takes.{Tail, no_tail, tail, spell_tail, tail_tree, tail_depth, GoodTail, Links, no_link, link, spell_links, links_tree, links_depth, EndsAcc, part_tree, AtOperand, is_else, Passes, Takes, TakesNext}
use Rattle.c0_grammar.proofs.Marks.{is_token, operator_is}

-- ---- small facts on tests
pub if_taken : (b : Bool) (s : Step) (ts : List Token) (p : ProgramTree) (n : ℕ) → TakesNext (step_if b s) ts p n → (b ≡ true) × TakesNext s ts p n
if_taken true s ts p n x = (refl, x)
if_taken false s ts p n x = absurd x

pub not_true : (b : Bool) → not b ≡ true → b ≡ false
not_true true e = cc
not_true false e = refl

and_left : (a b : Bool) → (a && b) ≡ true → a ≡ true
and_left true b e = refl
and_left false b e = cc

and_right : (a b : Bool) → (a && b) ≡ true → b ≡ true
and_right true b e = e
and_right false b e = cc

-- ---- types
pub record AtType (names : List (List ℕ)) (K : TypeName → List Token → Type 0) (ts : List Token) : Type 0 where
  pub t : TypeText
  pub rest : List Token
  pub good : GoodType names t
  pub split : ts ≡ spell_type t rest
  pub after : K (type_tree t) rest

count_stars : (xs : List Place) → length (map (part_tree star_loop) xs) ≡ length xs
count_stars [] = refl
count_stars (x ∷ xs) = ap suc (count_stars xs)

pub stars_back : (names : List (List ℕ)) (b : BaseText) (next : TypeName → Plan) (ts rest : List Token) (p : ProgramTree) (n : ℕ) → GoodBase names b → ts ≡ spell_base b rest → Takes (stars (base_place b) (base_tree b) next) rest p n → AtType names (λ t r. Takes (next t) r p n) ts
stars_back names b next ts rest p n g s x = record {
  t = record { base = b; stars = x.xs };
  rest = x.rest;
  good = g;
  split = s ∙ ap (spell_base b) x.split;
  after = subst (λ k. Takes (next (record { place = base_place b; base = base_tree b; stars = k })) x.rest p n) (count_stars x.xs) x.after;
}

pub struct_back : (names : List (List ℕ)) (next : TypeName → Plan) (at : Place) (ts rest : List Token) (p : ProgramTree) (n : ℕ) → ts ≡ keyword key.Struct at ∷ rest → Takes (struct_type next at) rest p n → AtType names (λ t r. Takes (next t) r p n) ts
struct_back names next at ts rest p n s x = stars_back names (struct_word at x.at x.name) next ts x.rest p n tt (s ∙ ap (λ l. keyword key.Struct at ∷ l) x.split) x.after

pub typed_back : (names : List (List ℕ)) (next : TypeName → Plan) (ts : List Token) (p : ProgramTree) (n : ℕ) → Takes (typed names next) ts p n → AtType names (λ t r. Takes (next t) r p n) ts
typed_back names next ts p n (inl m) = stars_back names (bool_word m.at) next ts m.rest p n tt m.split m.after
typed_back names next ts p n (inr (q, inl m)) = struct_back names next m.at ts m.rest p n m.split m.after
typed_back names next ts p n (inr (q, inr (u, inl m))) = stars_back names (alias_word m.at m.name) next ts m.rest p n m.among m.split m.after
typed_back names next ts p n (inr (q, inr (u, inr m))) = stars_back names (int_word m.at) next ts m.rest p n tt m.split m.after

-- a type whose first token was taken by a step of its own
pub type_step_back : (names : List (List ℕ)) (reach : ℕ) (next : TypeName → Plan) (w : What) (at : Place) (ts : List Token) (p : ProgramTree) (n : ℕ) → TakesNext (type_step names reach next w at) ts p n → AtType names (λ t r. Takes (next t) r p n) (token w at ∷ ts)
type_step_back names reach next (fixed (word_mark key.Int)) at ts p n x = stars_back names (int_word at) next (keyword key.Int at ∷ ts) ts p n tt refl x
type_step_back names reach next (fixed (word_mark key.Bool)) at ts p n x = stars_back names (bool_word at) next (keyword key.Bool at ∷ ts) ts p n tt refl x
type_step_back names reach next (fixed (word_mark key.Struct)) at ts p n x = struct_back names next at (keyword key.Struct at ∷ ts) ts p n refl x
type_step_back names reach next (name_what a) at ts p n x =
    let y = if_taken (is_among names a) (Some (reach, stars at (base.Alias a) next)) ts p n x in
    stars_back names (alias_word at a) next (name_token a at ∷ ts) ts p n y.0 refl y.1
type_step_back names reach next w at ts p n x = absurd x

-- ---- expressions
pub record AtExpr (r : ℕ) (names : List (List ℕ)) (m : Mode) (K : ExprTree → ℕ → List Token → Type 0) (ts : List Token) : Type 0 where
  pub w : Written
  pub rest : List Token
  pub good : Good names m w
  pub low : height w ≤ r
  pub split : ts ≡ spell w rest
  pub after : K (tree_of w) (depth w) rest

fold_tail : (r : ℕ) (names : List (List ℕ)) (m : Mode) (K : ExprTree → ℕ → List Token → Type 0) (ts rest : List Token) (tl : Tail) (w : Written) → Good names m w → height w ≤ suc r → GoodTail r names m (tree_of w) tl → ts ≡ spell w (spell_tail tl rest) → K (tail_tree (tree_of w) tl) (tail_depth (depth w) tl) rest → AtExpr (suc r) names m K ts
fold_tail r names m K ts rest no_tail w g h t s k = record { w = w; rest = rest; good = g; low = h; split = s; after = k }
fold_tail r names m K ts rest (tail at o y tl) w g h (e, has_it, fits, gy, hy, more) s k =
    let a : height w ≤ suc (rank o) = omega (arith, h, e) in
    let b : height y ≤ rank o = omega (arith, hy, e) in
    let d : suc (rank o) ≤ suc r = omega (arith, e) in
    fold_tail r names m K ts rest tl (between w at o y) (g, gy, a, b, has_it, fits) d more s k

pub leaves : (r : ℕ) (names : List (List ℕ)) (m : Mode) (up : ℕ) (next : ExprTree → ℕ → Plan) (ts : List Token) (p : ProgramTree) (n : ℕ) → Takes (climb r names m up next) ts p n → AtExpr r names m (λ e d rest. Takes (next e d) rest p n) ts
leaves zero names m up next ts p n x = record { w = x.w; rest = x.rest; good = x.good; low = omega (arith, x.flat); split = x.split; after = x.after }
leaves (suc r) names m up next ts p n x =
    let y = leaves r names m up (λ e d. ops r names m up e d next) ts p n x in
    let o = y.after in
    fold_tail r names m (λ e d rest. Takes (next e d) rest p n) ts o.rest o.tl y.w y.good (omega (arith, y.low)) o.good (y.split ∙ ap (spell y.w) o.split) o.after

pub record AtWhole (names : List (List ℕ)) (m : Mode) (K : ExprTree → ℕ → List Token → Type 0) (ts : List Token) : Type 0 where
  pub w : Written
  pub rest : List Token
  pub good : Good names m w
  pub split : ts ≡ spell w rest
  pub after : K (tree_of w) (depth w) rest

-- behind operators of all ranks, a choice or nothing
chosen_back : (names : List (List ℕ)) (m : Mode) (up : ℕ) (next : ExprTree → ℕ → Plan) (ts : List Token) (p : ProgramTree) (n : ℕ) (w : Written) (rest : List Token) → Good names m w → height w ≤ 10 → ts ≡ spell w rest → Takes (quest names m up (tree_of w) (depth w) next) rest p n → AtWhole names m (λ e d r. Takes (next e d) r p n) ts
chosen_back names m up next ts p n w rest g h s (inl x) = record { w = w; rest = rest; good = g; split = s; after = x }
chosen_back names m up next ts p n w rest g h s (inr x) = record { w = choice w x.q x.y x.c x.z; rest = x.rest; good = (g, x.good_y, x.good_z, h, x.fits); split = s ∙ ap (spell w) x.split; after = x.after }

pub whole : (names : List (List ℕ)) (m : Mode) (up : ℕ) (next : ExprTree → ℕ → Plan) (ts : List Token) (p : ProgramTree) (n : ℕ) → Takes (expr names m up next) ts p n → AtWhole names m (λ e d r. Takes (next e d) r p n) ts
whole names m up next ts p n x =
    let y = leaves 10 names m up (λ e d. quest names m up e d next) ts p n x in
    chosen_back names m up next ts p n y.w y.rest y.good y.low y.split y.after

-- ---- { "->" id }
links_fit : (m : Mode) (w : Written) (at f : Place) (n : List ℕ) → base_fits m w ≡ true → base_fits m (arrow_to w at f n) ≡ true
links_fit code w at f n e = refl
links_fit conjunct w at f n e = e
links_fit value w at f n e = e

fold_links : (names : List (List ℕ)) (m : Mode) (K : ExprTree → ℕ → List Token → Type 0) (ts rest : List Token) (ls : Links) (w : Written) → Good names m w → base_fits m w ≡ true → height w ≡ 0 → ts ≡ spell w (spell_links ls rest) → K (links_tree (tree_of w) ls) (links_depth (depth w) ls) rest → AtOperand names m K ts
fold_links names m K ts rest no_link w g b h s k = record { w = w; rest = rest; good = g; flat = h; split = s; after = k }
fold_links names m K ts rest (link at f n ls) w g b h s k = fold_links names m K ts rest ls (arrow_to w at f n) (g, b) (links_fit m w at f n b) refl s k

arrows_fold : (names : List (List ℕ)) (m : Mode) (up : ℕ) (next : ExprTree → ℕ → Plan) (ts rest : List Token) (p : ProgramTree) (n : ℕ) (w : Written) → Good names m w → base_fits m w ≡ true → height w ≡ 0 → ts ≡ spell w rest → Takes (arrows up (tree_of w) (depth w) next) rest p n → AtOperand names m (λ e d r. Takes (next e d) r p n) ts
arrows_fold names m up next ts rest p n w g b h s x = fold_links names m (λ e d r. Takes (next e d) r p n) ts x.rest x.ls w g b h (s ∙ ap (spell w) x.split) x.after

primary_fold : (names : List (List ℕ)) (m : Mode) (up : ℕ) (next : ExprTree → ℕ → Plan) (ts rest : List Token) (p : ProgramTree) (n : ℕ) (w : Written) → Good names m w → is_primary w ≡ true → height w ≡ 0 → ts ≡ spell w rest → Takes (primary m up next (tree_of w) (depth w)) rest p n → AtOperand names m (λ e d r. Takes (next e d) r p n) ts
primary_fold names code up next ts rest p n w g b h s x = arrows_fold names code up next ts rest p n w g b h s x
primary_fold names conjunct up next ts rest p n w g b h s x = record { w = w; rest = rest; good = g; flat = h; split = s; after = x }
primary_fold names value up next ts rest p n w g b h s x = record { w = w; rest = rest; good = g; flat = h; split = s; after = x }

-- ---- calls and instances
pub record AtArgs (names : List (List ℕ)) (m : Mode) (K : ExprTrees → ℕ → List Token → Type 0) (ts : List Token) : Type 0 where
  pub args : Args
  pub b : Place
  pub rest : List Token
  pub good : GoodArgs names m args
  pub split : ts ≡ spell_args args (symbol mark.CloseParen b ∷ rest)
  pub after : K (args_trees args) (depth_args args) rest

pub args_back : (names : List (List ℕ)) (m : Mode) (up : ℕ) (next : ExprTrees → ℕ → Plan) (ts : List Token) (p : ProgramTree) (n : ℕ) → Takes (arguments names m up next) ts p n → AtArgs names m (λ es d r. Takes (next es d) r p n) ts
args_back names m up next ts p n (inl x) = record { args = no_args; b = x.at; rest = x.rest; good = tt; split = x.split; after = x.after }
args_back names m up next ts p n (inr (q, x)) =
    let z = whole names m up (argument names m up next) ts p n x in
    let c = z.after in
    record { args = some_args z.w c.xs; b = c.b; rest = c.rest; good = (z.good, c.good); split = z.split ∙ ap (spell z.w) c.split; after = c.after }

called_back : (names : List (List ℕ)) (up : ℕ) (next : ExprTree → ℕ → Plan) (at a : Place) (nm : List ℕ) (ts rest : List Token) (p : ProgramTree) (n : ℕ) → IsFree names nm → ts ≡ symbol mark.OpenParen a ∷ rest → Takes (called_plan names up next at nm) rest p n → AtOperand names code (λ e d r. Takes (next e d) r p n) (name_token nm at ∷ ts)
called_back names up next at a nm ts rest p n g s (inl x) =
    let c = x.after in
    arrows_fold names code up next (name_token nm at ∷ ts) c.rest p n (called_text at nm a x.at x.bytes c.at) (g, refl) refl refl (ap (λ l. name_token nm at ∷ l) (s ∙ ap (λ l. symbol mark.OpenParen a ∷ l) (x.split ∙ ap (λ l. text_token x.bytes x.at ∷ l) c.split))) c.after
called_back names up next at a nm ts rest p n g s (inr x) =
    let c = args_back names code (up + 1) (λ es d. arrows up (call (spot at) nm es) (d + 1) next) rest p n x in
    arrows_fold names code up next (name_token nm at ∷ ts) c.rest p n (called at nm a c.args c.b) (g, refl, c.good) refl refl (ap (λ l. name_token nm at ∷ l) (s ∙ ap (λ l. symbol mark.OpenParen a ∷ l) c.split)) c.after

name_back : (names : List (List ℕ)) (m : Mode) (up : ℕ) (next : ExprTree → ℕ → Plan) (at : Place) (nm : List ℕ) (ts : List Token) (p : ProgramTree) (n : ℕ) → IsFree names nm → Takes (behind_name names m up next at nm) ts p n → AtOperand names m (λ e d r. Takes (next e d) r p n) (name_token nm at ∷ ts)
name_back names code up next at nm ts p n g (inl x) = called_back names up next at x.at nm ts x.rest p n g x.split x.after
name_back names code up next at nm ts p n g (inr (q, x)) = arrows_fold names code up next (name_token nm at ∷ ts) ts p n (word at nm) g refl refl refl x
name_back names conjunct up next at nm ts p n g (inl x) =
    let c = args_back names value (up + 1) (λ es d. next (call (spot at) nm es) (d + 1)) x.rest p n x.after in
    record { w = called at nm x.at c.args c.b; rest = c.rest; good = (g, refl, c.good); flat = refl; split = ap (λ l. name_token nm at ∷ l) (x.split ∙ ap (λ l. symbol mark.OpenParen x.at ∷ l) c.split); after = c.after }
name_back names conjunct up next at nm ts p n g (inr (q, x)) = arrows_fold names conjunct up next (name_token nm at ∷ ts) ts p n (word at nm) g refl refl refl x
name_back names value up next at nm ts p n g x = arrows_fold names value up next (name_token nm at ∷ ts) ts p n (word at nm) g refl refl refl x

alloc_back : (names : List (List ℕ)) (up : ℕ) (next : ExprTree → ℕ → Plan) (at : Place) (ts : List Token) (p : ProgramTree) (n : ℕ) → Takes (alloc_plan names up next at) ts p n → AtOperand names code (λ e d r. Takes (next e d) r p n) (keyword key.Alloc at ∷ ts)
alloc_back names up next at ts p n x =
    let t = typed_back names (λ t. await 0 (sign_mark mark.CloseParen) (λ b. arrows up (alloc (spot at) t) 0 next)) x.rest p n x.after in
    let c = t.after in
    arrows_fold names code up next (keyword key.Alloc at ∷ ts) c.rest p n (allocated at x.at t.t c.at) (refl, t.good) refl refl (ap (λ l. keyword key.Alloc at ∷ l) (x.split ∙ ap (λ l. symbol mark.OpenParen x.at ∷ l) (t.split ∙ ap (spell_type t.t) c.split))) c.after

-- ---- acc
record AtPermission (names : List (List ℕ)) (K : ExprTree → ℕ → Place → Named → List Token → Type 0) (ts : List Token) : Type 0 where
  w : Written
  p : Place
  f : Place
  name : List ℕ
  b : Place
  rest : List Token
  good : Good names value w
  path : is_path w ≡ true
  split : ts ≡ spell w (symbol mark.Arrow p ∷ name_token name f ∷ symbol mark.CloseParen b ∷ rest)
  after : K (tree_of w) (depth w) p (named_at f name) rest

fold_acc : (names : List (List ℕ)) (K : ExprTree → ℕ → Place → Named → List Token → Type 0) (ts rest : List Token) (b : Place) (ls : Links) (w : Written) (p f : Place) (nm : List ℕ) → Good names value w → is_path w ≡ true → ts ≡ spell w (symbol mark.Arrow p ∷ name_token nm f ∷ spell_links ls (symbol mark.CloseParen b ∷ rest)) → EndsAcc (λ y c q g. K y c q g rest) (tree_of w) (depth w) p (named_at f nm) ls → AtPermission names K ts
fold_acc names K ts rest b no_link w p f nm g h s k = record { w = w; p = p; f = f; name = nm; b = b; rest = rest; good = g; path = h; split = s; after = k }
fold_acc names K ts rest b (link at f' nm' ls) w p f nm g h s k = fold_acc names K ts rest b ls (arrow_to w p f nm) at f' nm' (g, h) h s k

record AtStart (names : List (List ℕ)) (K : ExprTree → List Token → Type 0) (ts : List Token) : Type 0 where
  w : Written
  rest : List Token
  good : Good names value w
  path : is_path w ≡ true
  flat : depth w ≡ 0
  split : ts ≡ spell w rest
  after : K (tree_of w) rest

start_back : (names : List (List ℕ)) (next : ExprTree → Plan) (ts : List Token) (p : ProgramTree) (n : ℕ) → Takes (path_start names next) ts p n → AtStart names (λ e r. Takes (next e) r p n) ts
start_back names next ts p n (inl x) = record { w = result_word x.at; rest = x.rest; good = refl; path = refl; flat = refl; split = x.split; after = x.after }
start_back names next ts p n (inr (q, x)) = record { w = word x.at x.name; rest = x.rest; good = x.free; path = refl; flat = refl; split = x.split; after = x.after }

acc_back : (names : List (List ℕ)) (up : ℕ) (next : ExprTree → ℕ → Plan) (at : Place) (ts : List Token) (p : ProgramTree) (n : ℕ) → Takes (acc_plan names up next at) ts p n → AtOperand names conjunct (λ e d r. Takes (next e d) r p n) (keyword key.Acc at ∷ ts)
acc_back names up next at ts p n x =
    let more : ExprTree → ℕ → Place → Named → Plan = λ y d q g. next (acc (spot at) y q g) (d + 2) in
    let s = start_back names (λ x. await 0 (sign_mark mark.Arrow) (λ p. name [] (λ f. acc_arrows up x 0 p f more))) x.rest p n x.after in
    let a = s.after in
    let f = a.after in
    let l = f.after in
    let e = ap (spell s.w) (a.split ∙ ap (λ l. symbol mark.Arrow a.at ∷ l) (f.split ∙ ap (λ l. name_token f.name f.at ∷ l) l.split)) in
    let z = fold_acc names (λ y d q g r. Takes (more y d q g) r p n) x.rest l.rest l.b l.ls s.w a.at f.at f.name s.good s.path (s.split ∙ e) (subst (λ d. EndsAcc (λ y c q g. Takes (more y c q g) l.rest p n) (tree_of s.w) d a.at (named_at f.at f.name) l.ls) (sym s.flat) l.after) in
    record { w = permission at x.at z.w z.p z.f z.name z.b; rest = z.rest; good = (refl, z.good, z.path); flat = refl; split = ap (λ l. keyword key.Acc at ∷ l) (x.split ∙ ap (λ l. symbol mark.OpenParen x.at ∷ l) z.split); after = z.after }

-- ---- the front of an operand
unary_back : (o : UnaryOperator) (names : List (List ℕ)) (m : Mode) (up : ℕ) (next : ExprTree → ℕ → Plan) (at : Place) (ts : List Token) (p : ProgramTree) (n : ℕ) → TakesNext (unary_step names m up next o at) ts p n → AtOperand names m (λ e d r. Takes (next e d) r p n) (symbol (unary_symbol o) at ∷ ts)
unary_back o names m up next at ts p n x = record { w = before at o x.w; rest = x.rest; good = (x.good, x.flat); flat = refl; split = ap (λ l. symbol (unary_symbol o) at ∷ l) x.split; after = x.after }

from_depth : (a : Place) (w : Written) (b : Place) → tree_of (round a w b) ≡ from a (tree_of w)
from_depth a w b = refl

round_back : (names : List (List ℕ)) (m : Mode) (up : ℕ) (next : ExprTree → ℕ → Plan) (at : Place) (ts : List Token) (p : ProgramTree) (n : ℕ) → Takes (round_plan names m up next at) ts p n → AtOperand names m (λ e d r. Takes (next e d) r p n) (symbol mark.OpenParen at ∷ ts)
round_back names m up next at ts p n x =
    let y = whole names m (up + 1) (λ e d. await 0 (sign_mark mark.CloseParen) (λ b. primary m up next (from at e) (d + 1))) ts p n x in
    let c = y.after in
    primary_fold names m up next (symbol mark.OpenParen at ∷ ts) c.rest p n (round at y.w c.at) y.good refl refl (ap (λ l. symbol mark.OpenParen at ∷ l) (y.split ∙ ap (spell y.w) c.split)) c.after

formula_mode : (m : Mode) → is_code m ≡ false → base_fits m (result_word (record { line = 0; column = 0 })) ≡ true
formula_mode code e = cc
formula_mode conjunct e = refl
formula_mode value e = refl

outcome_fits : (m : Mode) (at : Place) → is_code m ≡ false → base_fits m (result_word at) ≡ true
outcome_fits code at e = cc
outcome_fits conjunct at e = refl
outcome_fits value at e = refl

word_back : (names : List (List ℕ)) (m : Mode) (up : ℕ) (next : ExprTree → ℕ → Plan) (k : Keyword) (at : Place) (ts : List Token) (p : ProgramTree) (n : ℕ) → TakesNext (word_step names m up next k at) ts p n → AtOperand names m (λ e d r. Takes (next e d) r p n) (keyword k at ∷ ts)
word_back names m up next key.True at ts p n x = primary_fold names m up next (keyword key.True at ∷ ts) ts p n (truth_token at true) tt refl refl refl x
word_back names m up next key.False at ts p n x = primary_fold names m up next (keyword key.False at ∷ ts) ts p n (truth_token at false) tt refl refl refl x
word_back names m up next key.Null at ts p n x = primary_fold names m up next (keyword key.Null at ∷ ts) ts p n (null_token at) tt refl refl refl x
word_back names m up next key.Outcome at ts p n x =
    let y = if_taken (not (is_code m)) (Some (up, arrows up (outcome (spot at)) 0 next)) ts p n x in
    let e = not_true (is_code m) y.0 in
    arrows_fold names m up next (keyword key.Outcome at ∷ ts) ts p n (result_word at) e (outcome_fits m at e) refl refl y.1
word_back names code up next key.Alloc at ts p n x = alloc_back names up next at ts p n x
word_back names conjunct up next key.Acc at ts p n x = acc_back names up next at ts p n x
word_back names m up next k at ts p n x = absurd x

sign_back : (names : List (List ℕ)) (m : Mode) (up : ℕ) (next : ExprTree → ℕ → Plan) (s : Symbol) (at : Place) (ts : List Token) (p : ProgramTree) (n : ℕ) → TakesNext (sign_step names m up next s at) ts p n → AtOperand names m (λ e d r. Takes (next e d) r p n) (symbol s at ∷ ts)
sign_back names m up next mark.Minus at ts p n x = unary_back unary_op.Negate names m up next at ts p n x
sign_back names m up next mark.Tilde at ts p n x = unary_back unary_op.Not names m up next at ts p n x
sign_back names m up next mark.Not at ts p n x = unary_back unary_op.Flip names m up next at ts p n x
sign_back names m up next mark.OpenParen at ts p n x = round_back names m up next at ts p n x
sign_back names m up next s at ts p n x = absurd x

pub operand_back : (names : List (List ℕ)) (m : Mode) (up : ℕ) (next : ExprTree → ℕ → Plan) (w : What) (at : Place) (ts : List Token) (p : ProgramTree) (n : ℕ) → TakesNext (operand_step names m up next w at) ts p n → AtOperand names m (λ e d r. Takes (next e d) r p n) (token w at ∷ ts)
operand_back names m up next (number_what v) at ts p n x = primary_fold names m up next (token (number_what v) at ∷ ts) ts p n (digits at v) tt refl refl refl x
operand_back names m up next (name_what nm) at ts p n x =
    let y = if_taken (not (is_among names nm)) (Some (up, behind_name names m up next at nm)) ts p n x in
    name_back names m up next at nm ts p n (not_true (is_among names nm) y.0) y.1
operand_back names m up next (fixed (word_mark k)) at ts p n x = word_back names m up next k at ts p n x
operand_back names m up next (fixed (sign_mark s)) at ts p n x = sign_back names m up next s at ts p n x
operand_back names m up next w at ts p n x = absurd x

-- ---- plans that may pass a token on
abbrev pub Back : Plan → Token → List Token → ProgramTree → ℕ → Type 0
Back plan t ts p n = TakesNext (step plan t) ts p n → Takes plan (t ∷ ts) p n

not_else : (w : What) → is (word_mark key.Else) w ≡ false → is_else w ≡ false
not_else (fixed (word_mark key.Else)) e = cc
not_else (fixed f) e = is_other f e
  where
    is_other : (f : Fixed) → is (word_mark key.Else) (fixed f) ≡ false → is_else (fixed f) ≡ false
    is_other (word_mark key.Else) e = cc
    is_other f e = refl
not_else w e = refl

passes : (f : Fixed) (t : Token) (ts : List Token) → is f t.what ≡ false → Passes f (t ∷ ts)
passes (word_mark key.Else) t ts e = not_else t.what e
passes f t ts e = tt

pub peek_back : (reach : ℕ) (f : Fixed) (these : Place → Plan) (others : Plan) (t : Token) (ts : List Token) (p : ProgramTree) (n : ℕ) → Back others t ts p n → Back (peek reach f these others) t ts p n
peek_back reach f these others t ts p n ih x =
    elim (is f t.what) as (λ b. is f t.what ≡ b → TakesNext (cond b (Some (reach, these t.place)) (step others t)) ts p n → Takes (peek reach f these others) (t ∷ ts) p n) [
      | true ↦ λ i y. inl (record { at = t.place; rest = ts; split = is_token f t ts i; after = y })
      | false ↦ λ i y. inr (passes f t ts i, ih y)
    ] refl x

pub arrows_back : (up : ℕ) (e : ExprTree) (d : ℕ) (next : ExprTree → ℕ → Plan) (t : Token) (ts : List Token) (p : ProgramTree) (n : ℕ) → Back (next e d) t ts p n → Back (arrows up e d next) t ts p n
arrows_back up e d next t ts p n ih x =
    elim (is (sign_mark mark.Arrow) t.what) as (λ b. is (sign_mark mark.Arrow) t.what ≡ b → TakesNext (arrow_step b (Some (up + d + 1, name [] (λ f. arrows up (pointed t.place e f) (d + 1) next))) (step (next e d) t)) ts p n → Takes (arrows up e d next) (t ∷ ts) p n) [
      | true ↦ λ i y. let l = y.after in record { ls = link t.place y.at y.name l.ls; rest = l.rest; split = is_token (sign_mark mark.Arrow) t ts i ∙ ap (λ k. symbol mark.Arrow t.place ∷ k) (y.split ∙ ap (λ k. name_token y.name y.at ∷ k) l.split); after = l.after }
      | false ↦ λ i y. record { ls = no_link; rest = t ∷ ts; split = refl; after = ih y }
    ] refl x

pub acc_arrows_back : (up : ℕ) (e : ExprTree) (d : ℕ) (q : Place) (f : Named) (next : ExprTree → ℕ → Place → Named → Plan) (w : What) (at : Place) (ts : List Token) (p : ProgramTree) (n : ℕ) → TakesNext (acc_arrows_step up e d q f next w at) ts p n → Takes (acc_arrows up e d q f next) (token w at ∷ ts) p n
acc_arrows_back up e d q f next (fixed (sign_mark mark.CloseParen)) at ts p n x = record { ls = no_link; b = at; rest = ts; split = refl; after = x }
acc_arrows_back up e d q f next (fixed (sign_mark mark.Arrow)) at ts p n x = let l = x.after in record { ls = link at x.at x.name l.ls; b = l.b; rest = l.rest; split = ap (λ k. symbol mark.Arrow at ∷ k) (x.split ∙ ap (λ k. name_token x.name x.at ∷ k) l.split); after = l.after }
acc_arrows_back up e d q f next w at ts p n x = absurd x

pub ops_back : (r : ℕ) (names : List (List ℕ)) (m : Mode) (up : ℕ) (e : ExprTree) (d : ℕ) (next : ExprTree → ℕ → Plan) (t : Token) (ts : List Token) (p : ProgramTree) (n : ℕ) → Back (next e d) t ts p n → Back (ops r names m up e d next) t ts p n
ops_back r names m up e d next t ts p n ih x =
    elim (of_rank r (operator_at t.what)) as (λ o. of_rank r (operator_at t.what) ≡ o → TakesNext (ops_step r names m up e d next (step (next e d) t) o t.place) ts p n → Takes (ops r names m up e d next) (t ∷ ts) p n) [
      | None ↦ λ i y. record { tl = no_tail; rest = t ∷ ts; good = tt; split = refl; after = ih y }
      | Some o ↦ λ i y.
          let f = if_taken (has m o && left_fits m o e) (Some (up + d + 1, climb r names (right_of m o) (up + 1) (λ e' d'. ops r names m up (joined t.place o e e') (max d d' + 1) next))) ts p n y in
          let z = leaves r names (right_of m o) (up + 1) (λ e' d'. ops r names m up (joined t.place o e e') (max d d' + 1) next) ts p n f.1 in
          let tl = z.after in
          let k = operator_is r t.what o i in
          record {
            tl = tail t.place o z.w tl.tl;
            rest = tl.rest;
            good = (k.1, and_left (has m o) (left_fits m o e) f.0, and_right (has m o) (left_fits m o e) f.0, z.good, z.low, tl.good);
            split = ap (λ k. token k t.place ∷ ts) k.0 ∙ ap (λ l. symbol (operator_symbol o) t.place ∷ l) (z.split ∙ ap (spell z.w) tl.split);
            after = tl.after;
          }
    ] refl x

pub quest_back : (names : List (List ℕ)) (m : Mode) (up : ℕ) (e : ExprTree) (d : ℕ) (next : ExprTree → ℕ → Plan) (t : Token) (ts : List Token) (p : ProgramTree) (n : ℕ) → Back (next e d) t ts p n → Back (quest names m up e d next) t ts p n
quest_back names m up e d next t ts p n ih x =
    elim (is (sign_mark mark.Question) t.what) as (λ b. is (sign_mark mark.Question) t.what ≡ b → TakesNext (arrow_step b (step_if (condition_fits m e) (Some (up + d + 1, quest_plan names m up e d next t.place))) (step (next e d) t)) ts p n → Takes (quest names m up e d next) (t ∷ ts) p n) [
      | true ↦ λ i y.
          let f = if_taken (condition_fits m e) (Some (up + d + 1, quest_plan names m up e d next t.place)) ts p n y in
          let a = whole names m (up + 1) (λ y dy. await 0 (sign_mark mark.Colon) (λ c. expr names m (up + 1) (λ z dz. next (chosen t.place e y z) (max d (max dy dz) + 1)))) ts p n f.1 in
          let c = a.after in
          let z = whole names m (up + 1) (λ z dz. next (chosen t.place e (tree_of a.w) z) (max d (max (depth a.w) dz) + 1)) c.rest p n c.after in
          inr (record { q = t.place; y = a.w; c = c.at; z = z.w; rest = z.rest; fits = f.0; good_y = a.good; good_z = z.good; split = is_token (sign_mark mark.Question) t ts i ∙ ap (λ l. symbol mark.Question t.place ∷ l) (a.split ∙ ap (spell a.w) (c.split ∙ ap (λ l. symbol mark.Colon c.at ∷ l) z.split)); after = z.after })
      | false ↦ λ i y. inl (ih y)
    ] refl x

pub more_args_back : (names : List (List ℕ)) (m : Mode) (up : ℕ) (next : ExprTrees → ℕ → Plan) (w : What) (at : Place) (ts : List Token) (p : ProgramTree) (n : ℕ) → TakesNext (more_args_step names m up next w) ts p n → Takes (more_args names m up next) (token w at ∷ ts) p n
more_args_back names m up next (fixed (sign_mark mark.CloseParen)) at ts p n x = record { xs = no_more; b = at; rest = ts; good = tt; split = refl; after = x }
more_args_back names m up next (fixed (sign_mark mark.Comma)) at ts p n x =
    let z = whole names m up (argument names m up next) ts p n x in
    let c = z.after in
    record { xs = more_and at z.w c.xs; b = c.b; rest = c.rest; good = (z.good, c.good); split = ap (λ l. symbol mark.Comma at ∷ l) (z.split ∙ ap (spell z.w) c.split); after = c.after }
more_args_back names m up next w at ts p n x = absurd x

-- ---- formulas
pub record AtFormula (names : List (List ℕ)) (K : FormulaTree → ℕ → List Token → Type 0) (ts : List Token) : Type 0 where
  pub f : FormulaText
  pub rest : List Token
  pub good : GoodFormula names f
  pub split : ts ≡ spell_formula f rest
  pub after : K (formula_tree f) (depth_formula f) rest

pub formula_back : (names : List (List ℕ)) (up : ℕ) (next : FormulaTree → ℕ → Plan) (ts : List Token) (p : ProgramTree) (n : ℕ) → Takes (formula names up next) ts p n → AtFormula names (λ f d r. Takes (next f d) r p n) ts
formula_back names up next ts p n (inl x) = by x.after
  where
    by : Takes (peek 0 (sign_mark mark.Both) (λ a. expr names conjunct up (λ e d. next (record { imprecise = true; parts = Some e }) d)) (next (record { imprecise = true; parts = None }) 0)) x.rest p n → AtFormula names (λ f d r. Takes (next f d) r p n) ts
    by (inl a) =
        let z = whole names conjunct up (λ e d. next (record { imprecise = true; parts = Some e }) d) a.rest p n a.after in
        record { f = unknown_and x.at a.at z.w; rest = z.rest; good = z.good; split = x.split ∙ ap (λ l. symbol mark.Question x.at ∷ l) (a.split ∙ ap (λ l. symbol mark.Both a.at ∷ l) z.split); after = z.after }
    by (inr (q, y)) = record { f = unknown x.at; rest = x.rest; good = tt; split = x.split; after = y }
formula_back names up next ts p n (inr (q, x)) =
    let z = whole names conjunct up (λ e d. next (record { imprecise = false; parts = Some e }) d) ts p n x in
    record { f = known z.w; rest = z.rest; good = z.good; split = z.split; after = z.after }

-- a formula and its `;`
pub record AtStated (names : List (List ℕ)) (K : FormulaTree → ℕ → List Token → Type 0) (ts : List Token) : Type 0 where
  pub f : FormulaText
  pub c : Place
  pub rest : List Token
  pub good : GoodFormula names f
  pub split : ts ≡ spell_formula f (symbol mark.Semicolon c ∷ rest)
  pub after : K (formula_tree f) (depth_formula f) rest

pub stated_back : (names : List (List ℕ)) (up : ℕ) (next : FormulaTree → ℕ → Plan) (ts : List Token) (p : ProgramTree) (n : ℕ) → Takes (stated names up next) ts p n → AtStated names (λ f d r. Takes (next f d) r p n) ts
stated_back names up next ts p n x =
    let y = formula_back names up (λ f d. await 0 (sign_mark mark.Semicolon) (λ c. next f d)) ts p n x in
    let c = y.after in
    record { f = y.f; c = c.at; rest = c.rest; good = y.good; split = y.split ∙ ap (spell_formula y.f) c.split; after = c.after }

-- an instance and its `;`
pub record AtInstance (names : List (List ℕ)) (K : InstanceTree → ℕ → List Token → Type 0) (ts : List Token) : Type 0 where
  pub n : Place
  pub name : List ℕ
  pub a : Place
  pub args : Args
  pub b : Place
  pub c : Place
  pub rest : List Token
  pub free : IsFree names name
  pub good : GoodArgs names value args
  pub split : ts ≡ name_token name n ∷ symbol mark.OpenParen a ∷ spell_args args (symbol mark.CloseParen b ∷ symbol mark.Semicolon c ∷ rest)
  pub after : K (record { name = named_at n name; arguments = args_trees args }) (depth_args args + 1) rest

pub instance_back : (names : List (List ℕ)) (up : ℕ) (next : InstanceTree → ℕ → Plan) (ts : List Token) (p : ProgramTree) (n : ℕ) → Takes (instance names up next) ts p n → AtInstance names (λ i d r. Takes (next i d) r p n) ts
instance_back names up next ts p n x =
    let a = x.after in
    let y = args_back names value (up + 1) (λ es d. await 0 (sign_mark mark.Semicolon) (λ c. next (record { name = named_at x.at x.name; arguments = es }) (d + 1))) a.rest p n a.after in
    let c = y.after in
    record { n = x.at; name = x.name; a = a.at; args = y.args; b = y.b; c = c.at; rest = c.rest; free = x.free; good = y.good; split = x.split ∙ ap (λ l. name_token x.name x.at ∷ l) (a.split ∙ ap (λ l. symbol mark.OpenParen a.at ∷ l) (y.split ∙ ap (λ l. spell_args y.args (symbol mark.CloseParen y.b ∷ l)) c.split)); after = c.after }
