-- What the small grammar allows, the whole grammar allows in its forms.
use Rattle.std.proofs.Common.{◌≡◌, ℕ, zero, suc, ◌+◌, ◌≤◌, Bool, true, false, ◌&&◌, List, [], ◌∷◌, map, refl, ◌∙◌, subst, arith}
use Rattle.gc0_base.specs.declared.place.Place.{Place}
use Rattle.parsed_tree.specs.declared.expressions.Operator.TheVariants as wide_op
use Rattle.parsed_tree.specs.Tree.{ExprTree, number, truth, null, local, outcome, unary, binary, choose, arrow, call, call_text, alloc, acc, from}
use Rattle.c0_grammar.specs.Lists.{Each}
use Rattle.c0_grammar.specs.Written as wide
use Rattle.c0_grammar.specs.Allowed as allowed
use Rattle.c0_grammar.specs.Allowed.{Mode, code, conjunct, value, is_code, is_value, has, inside, left_fits}
use Rattle.c0_grammar.specs.Texts as whole
use Rattle.c0_grammar.specs.Grammar as grammar
use Rattle.built_text.specs.declared.tree.Operator.{Operator}
use Rattle.built_text.specs.declared.tree.Operator.TheVariants as op
use Rattle.built_text.specs.Grammar.{Written, digits, truth_word, word, result_word, before, between, round, rank, height, Good, GoodExpr, Chain, no_link, link, GoodChain, Args, no_args, some_args, GoodArgs, RightText, plain, invoked, GoodRight, FormulaText, precise, gradual, GoodFormula, NoteText, GoodNotes, Line, declares, assigns, calls, prints, returns, ifs, whiles, asserts, GoodLine, Otherwise, no_else, elses, GoodOtherwise, Lines, no_lines, line, GoodLines, MoreParameters, no_parameter, parameter, Parameters, no_parameters, parameters, ClauseText, is_ensures, GoodContract, FunctionText, GoodFunction, GoodFunctions}
use Rattle.built_text.specs.declared.tree.Shape.{Shape}
use Rattle.built_text.specs.declared.tree.Shape.TheVariants as shape
use Rattle.built_text.proofs.Widened.{op_of, written_of, more_of, args_of, right_of, joined_of, unknown_of, formula_of, type_of, invariants_of, line_of, if_of, lines_of, nexts_of, params_of, contract_of, item_of}

-- ---- ranks and heights: the whole grammar has one more rank, of shifts, between sums and orders
data Ranks (small large : ℕ) : Type 0 where
  low : small ≤ 2 → large ≡ small → Ranks small large
  high : 3 ≤ small → large ≡ small + 1 → Ranks small large

ranks : (o : Operator) → Ranks (suc (rank o)) (suc (allowed.rank (op_of o)))
ranks op.Mul = low (omega arith) refl
ranks op.Add = low (omega arith) refl
ranks op.Sub = low (omega arith) refl
ranks op.Less = high (omega arith) refl
ranks op.LessEq = high (omega arith) refl
ranks op.Greater = high (omega arith) refl
ranks op.GreaterEq = high (omega arith) refl
ranks op.Equal = high (omega arith) refl
ranks op.NotEqual = high (omega arith) refl

flat : Ranks 0 0
flat = low (omega arith) refl

heights : (x : Written) → Ranks (height x) (allowed.height (written_of x))
heights (digits at w) = flat
heights (truth_word at b) = flat
heights (word at n) = flat
heights (result_word at) = flat
heights (before at o x) = flat
heights (between x at o y) = ranks o
heights (round a x b) = flat

highest : (o : Operator) → suc (rank o) ≤ 4
highest op.Mul = omega arith
highest op.Add = omega arith
highest op.Sub = omega arith
highest op.Less = omega arith
highest op.LessEq = omega arith
highest op.Greater = omega arith
highest op.GreaterEq = omega arith
highest op.Equal = omega arith
highest op.NotEqual = omega arith

most : (x : Written) → height x ≤ 4
most (digits at w) = omega arith
most (truth_word at b) = omega arith
most (word at n) = omega arith
most (result_word at) = omega arith
most (before at o x) = omega arith
most (between x at o y) = highest o
most (round a x b) = omega arith

none_lifted : (a b : ℕ) → Ranks a b → a ≡ 0 → b ≡ 0
none_lifted a b (low p q) h = omega arith
none_lifted a b (high p q) h = omega arith

left_lifted : (a b r s : ℕ) → Ranks a b → Ranks (suc r) (suc s) → a ≤ suc r → b ≤ suc s
left_lifted a b r s (low p q) (low u v) h = omega arith
left_lifted a b r s (low p q) (high u v) h = omega arith
left_lifted a b r s (high p q) (low u v) h = omega arith
left_lifted a b r s (high p q) (high u v) h = omega arith

right_lifted : (a b r s : ℕ) → Ranks a b → Ranks (suc r) (suc s) → a ≤ r → b ≤ s
right_lifted a b r s (low p q) (low u v) h = omega arith
right_lifted a b r s (low p q) (high u v) h = omega arith
right_lifted a b r s (high p q) (low u v) h = omega arith
right_lifted a b r s (high p q) (high u v) h = omega arith

most_lifted : (a b : ℕ) → Ranks a b → a ≤ 4 → b ≤ 8
most_lifted a b (low p q) h = omega arith
most_lifted a b (high p q) h = omega arith

below_both : (x : Written) → allowed.height (written_of x) ≤ 8
below_both x = most_lifted (height x) (allowed.height (written_of x)) (heights x) (most x)

-- ---- values
both_true : (a b : Bool) → a ≡ true → b ≡ true → (a && b) ≡ true
both_true true b h k = k
both_true false b h k = h

value_begun : (a : Place) (e : ExprTree) → is_value (from a e) ≡ is_value e
value_begun a (number s w) = refl
value_begun a (truth s b) = refl
value_begun a (null s) = refl
value_begun a (local s n) = refl
value_begun a (outcome s) = refl
value_begun a (unary s o x) = refl
value_begun a (binary s o x y) = refl
value_begun a (choose s x y z) = refl
value_begun a (arrow s x n) = refl
value_begun a (call s n xs) = refl
value_begun a (call_text s n t) = refl
value_begun a (alloc s t) = refl
value_begun a (acc s x p n) = refl

values : (x : Written) → is_value (wide.tree_of (written_of x)) ≡ true
values (digits at w) = refl
values (truth_word at b) = refl
values (word at n) = refl
values (result_word at) = refl
values (before at o x) = values x
values (between x at o y) = both_true (is_value (wide.tree_of (written_of x))) (is_value (wide.tree_of (written_of y))) (values x) (values y)
values (round a x b) = value_begun a (wide.tree_of (written_of x)) ∙ values x

-- ---- operators in each mode
has_operator : (m : Mode) (o : Operator) → has m (op_of o) ≡ true
has_operator code o = refl
has_operator conjunct op.Mul = refl
has_operator conjunct op.Add = refl
has_operator conjunct op.Sub = refl
has_operator conjunct op.Less = refl
has_operator conjunct op.LessEq = refl
has_operator conjunct op.Greater = refl
has_operator conjunct op.GreaterEq = refl
has_operator conjunct op.Equal = refl
has_operator conjunct op.NotEqual = refl
has_operator value op.Mul = refl
has_operator value op.Add = refl
has_operator value op.Sub = refl
has_operator value op.Less = refl
has_operator value op.LessEq = refl
has_operator value op.Greater = refl
has_operator value op.GreaterEq = refl
has_operator value op.Equal = refl
has_operator value op.NotEqual = refl

left_operator : (m : Mode) (o : Operator) (e : ExprTree) → is_value e ≡ true → left_fits m (op_of o) e ≡ true
left_operator code o e h = refl
left_operator conjunct op.Mul e h = h
left_operator conjunct op.Add e h = h
left_operator conjunct op.Sub e h = h
left_operator conjunct op.Less e h = h
left_operator conjunct op.LessEq e h = h
left_operator conjunct op.Greater e h = h
left_operator conjunct op.GreaterEq e h = h
left_operator conjunct op.Equal e h = h
left_operator conjunct op.NotEqual e h = h
left_operator value o e h = refl

-- to the right of each of these operators stands what may stand behind a unary one
right_inside : (m : Mode) (o : Operator) → inside m ≡ allowed.right_of m (op_of o)
right_inside code o = refl
right_inside conjunct op.Mul = refl
right_inside conjunct op.Add = refl
right_inside conjunct op.Sub = refl
right_inside conjunct op.Less = refl
right_inside conjunct op.LessEq = refl
right_inside conjunct op.Greater = refl
right_inside conjunct op.GreaterEq = refl
right_inside conjunct op.Equal = refl
right_inside conjunct op.NotEqual = refl
right_inside value o = refl

-- `\result` may stand in annotations
abbrev Fits : Bool → Mode → Type 0
Fits f m = f ≡ true → is_code m ≡ false

fits_inside : (f : Bool) (m : Mode) → Fits f m → Fits f (inside m)
fits_inside f code h = h
fits_inside f conjunct h = λ e. refl
fits_inside f value h = λ e. refl

no_result : (m : Mode) → Fits false m
no_result m e = cc

-- ---- expressions
pub allows : (f : Bool) (m : Mode) (room : ℕ) (x : Written) → Fits f m → Good f room x → allowed.Good [] m (written_of x)
allows f m room (digits at w) h g = tt
allows f m room (truth_word at b) h g = tt
allows f m room (word at n) h g = refl
allows f m room (result_word at) h g = h g
allows f m zero (before at o x) h g = absurd g
allows f m (suc room) (before at o x) h g = (allows f (inside m) room x (fits_inside f m h) g.0, none_lifted (height x) (allowed.height (written_of x)) (heights x) g.1)
allows f m room (between x at o y) h g = (
  allows f m room x h g.0,
  subst (λ n. allowed.Good [] n (written_of y)) (right_inside m o) (allows f (inside m) room y (fits_inside f m h) g.1),
  left_lifted (height x) (allowed.height (written_of x)) (rank o) (allowed.rank (op_of o)) (heights x) (ranks o) g.2,
  right_lifted (height y) (allowed.height (written_of y)) (rank o) (allowed.rank (op_of o)) (heights y) (ranks o) g.3,
  has_operator m o,
  left_operator m o (wide.tree_of (written_of x)) (values x),
)
allows f m zero (round a x b) h g = absurd g
allows f m (suc room) (round a x b) h g = allows f m room x h g

in_code : (room : ℕ) (x : Written) → GoodExpr false room x → allowed.Good [] code (written_of x)
in_code room x g = allows false code room x (no_result code) g.good

more_allowed : (room : ℕ) (xs : Chain) → GoodChain false room xs → allowed.GoodMore [] code (more_of xs)
more_allowed room no_link g = tt
more_allowed room (link at x xs) g = (in_code room x g.0, more_allowed room xs g.1)

args_allowed : (room : ℕ) (xs : Args) → GoodArgs room xs → allowed.GoodArgs [] code (args_of xs)
args_allowed room no_args g = tt
args_allowed room (some_args x xs) g = (in_code room x g.0, more_allowed room xs g.1)

right_allowed : (room : ℕ) (r : RightText) → GoodRight room r → allowed.Good [] code (right_of r)
right_allowed room (plain x) g = in_code room x g
right_allowed room (invoked c) g = (refl, refl, args_allowed room c.args g)

-- ---- formulas
in_formula : (f : Bool) (room : ℕ) (x : Written) → GoodExpr f room x → allowed.Good [] conjunct (written_of x)
in_formula f room x g = allows f conjunct room x (λ e. refl) g.good

joined_allowed : (f : Bool) (room : ℕ) (x : wide.Written) (xs : Chain) → allowed.Good [] conjunct x → allowed.height x ≤ 9 → GoodChain f room xs → allowed.Good [] conjunct (joined_of x xs)
joined_allowed f room x no_link g h c = g
joined_allowed f room x (link at y ys) g h c =
    joined_allowed f room (wide.between x at wide_op.Both (written_of y)) ys (g, in_formula f room y c.0, h, below_both y, refl, refl) (omega arith) c.1

parts_allowed : (f : Bool) (room : ℕ) (x : Written) (xs : Chain) → GoodExpr f room x → GoodChain f room xs → allowed.Good [] conjunct (joined_of (written_of x) xs)
parts_allowed f room x xs g c = joined_allowed f room (written_of x) xs (in_formula f room x g) (let h = below_both x in omega arith) c

unknown_allowed : (f : Bool) (room : ℕ) (at : Place) (xs : Chain) → GoodChain f room xs → allowed.GoodFormula [] (unknown_of at xs)
unknown_allowed f room at no_link c = tt
unknown_allowed f room at (link a x xs) c = parts_allowed f room x xs c.0 c.1

formula_allowed : (f : Bool) (room : ℕ) (g : FormulaText) → GoodFormula f room g → allowed.GoodFormula [] (formula_of g)
formula_allowed f room (precise x xs) c = parts_allowed f room x xs c.0 c.1
formula_allowed f room (gradual at xs) c = unknown_allowed f room at xs c

notes_allowed : (room : ℕ) (ns : List NoteText) → GoodNotes room ns → Each (grammar.GoodInvariants []) (map invariants_of ns)
notes_allowed room [] g = tt
notes_allowed room (n ∷ ns) g = ((formula_allowed false room n.formula g.0, tt), notes_allowed room ns g.1)

-- ---- statements
type_allowed : (at : Place) (s : Shape) → allowed.GoodType [] (type_of at s)
type_allowed at shape.Int = tt
type_allowed at shape.Bool = tt

mutual
  line_allowed : (room : ℕ) (l : Line) → GoodLine room l → grammar.GoodLine [] (line_of l)
  line_allowed room (declares t s n name q r c) g = (type_allowed t s, refl, right_allowed room r g)
  line_allowed room (assigns n name q r c) g = (refl, refl, right_allowed room r g)
  line_allowed room (calls k c) g = (refl, refl, args_allowed room k.args g)
  line_allowed room (prints p s a x b c) g = (refl, refl, (in_code room x g, tt))
  line_allowed room (returns r x c) g = in_code room x g
  line_allowed zero (ifs i a x b o ls e m) g = absurd g.1
  line_allowed (suc room) (ifs i a x b o ls e m) g = if_allowed room m i a (written_of x) b o (lines_of ls) e (in_code (suc room) x g.0) (lines_allowed room ls g.1.0) g.1.1
  line_allowed zero (whiles w a x b ns o ls e) g = absurd g.2
  line_allowed (suc room) (whiles w a x b ns o ls e) g = (in_code (suc room) x g.0, notes_allowed (suc room) ns g.1, lines_allowed room ls g.2, refl)
  line_allowed room (asserts n) g = (formula_allowed false room n.formula g, tt)

  if_allowed : (room : ℕ) (m : Otherwise) (i a : Place) (x : wide.Written) (b o : Place) (ls : whole.Lines) (e : Place) → allowed.Good [] code x → grammar.GoodLines [] ls → GoodOtherwise room m → grammar.GoodLine [] (if_of m i a x b (whole.braces o ls e))
  if_allowed room no_else i a x b o ls e g h k = (g, h, refl)
  if_allowed room (elses s p ms q) i a x b o ls e g h k = (g, h, refl, refl, lines_allowed room ms k, refl)

  lines_allowed : (room : ℕ) (ls : Lines) → GoodLines room ls → grammar.GoodLines [] (lines_of ls)
  lines_allowed room no_lines g = tt
  lines_allowed room (line l ls) g = (line_allowed room l g.0, lines_allowed room ls g.1)

-- ---- functions
nexts_allowed : (ps : MoreParameters) → Each (grammar.GoodNext []) (nexts_of ps)
nexts_allowed no_parameter = tt
nexts_allowed (parameter at p ps) = ((type_allowed p.t p.shape, refl), nexts_allowed ps)

params_allowed : (ps : Parameters) → grammar.GoodParams [] (params_of ps)
params_allowed no_parameters = tt
params_allowed (parameters p ps) = ((type_allowed p.t p.shape, refl), nexts_allowed ps)

contract_allowed : (cs : List ClauseText) → GoodContract cs → Each (grammar.GoodContract []) (map contract_of cs)
contract_allowed [] g = tt
contract_allowed (c ∷ cs) g = ((formula_allowed (is_ensures c.kind) 100 c.note.formula g.0, tt), contract_allowed cs g.1)

item_allowed : (f : FunctionText) → GoodFunction f → grammar.GoodItem [] (item_of f)
item_allowed f g = (record { gives_what = type_allowed f.t f.shape; name = refl; params = params_allowed f.parameters }, contract_allowed f.contract g.contract, lines_allowed 99 f.lines g.lines)

pub items_allowed : (fs : List FunctionText) → GoodFunctions fs → grammar.GoodItems [] (map item_of fs)
items_allowed [] g = tt
items_allowed (f ∷ fs) g = (item_allowed f g.0, items_allowed fs g.1)
