-- A text of the small grammar as one of the whole grammar: the same tokens in the forms that the whole grammar has for them.
use Rattle.std.proofs.Common.{List, [], ◌∷◌, map, Some, None, ℕ, codes}
use Rattle.gc0_base.specs.declared.place.Place.{Place}
use Rattle.parsed_tree.specs.declared.expressions.UnaryOperator.{UnaryOperator as WideUnary}
use Rattle.parsed_tree.specs.declared.expressions.UnaryOperator.TheVariants as wide_unary
use Rattle.parsed_tree.specs.declared.expressions.Operator.{Operator as WideOperator}
use Rattle.parsed_tree.specs.declared.expressions.Operator.TheVariants as wide_op
use Rattle.parsed_tree.specs.declared.items.Side.{Side}
use Rattle.parsed_tree.specs.declared.items.Side.TheVariants as wide_side
use Rattle.c0_grammar.specs.Written as wide
use Rattle.c0_grammar.specs.Texts as whole
use Rattle.built_text.specs.declared.tree.Shape.{Shape}
use Rattle.built_text.specs.declared.tree.Shape.TheVariants as shape
use Rattle.built_text.specs.declared.tree.UnaryOperator.{UnaryOperator}
use Rattle.built_text.specs.declared.tree.UnaryOperator.TheVariants as unary_op
use Rattle.built_text.specs.declared.tree.Operator.{Operator}
use Rattle.built_text.specs.declared.tree.Operator.TheVariants as op
use Rattle.built_text.specs.declared.tree.ClauseKind.{ClauseKind}
use Rattle.built_text.specs.declared.tree.ClauseKind.TheVariants as side
use Rattle.built_text.specs.Grammar.{Written, digits, truth_word, word, result_word, before, between, round, Chain, no_link, link, Args, no_args, some_args, CallText, RightText, plain, invoked, FormulaText, precise, gradual, NoteText, Line, declares, assigns, calls, prints, returns, ifs, whiles, asserts, Otherwise, no_else, elses, Lines, no_lines, line, ParameterText, MoreParameters, no_parameter, parameter, Parameters, no_parameters, parameters, ClauseText, FunctionText}

abbrev pub unary_of : UnaryOperator → WideUnary
unary_of unary_op.Not = wide_unary.Flip
unary_of unary_op.Negate = wide_unary.Negate

abbrev pub op_of : Operator → WideOperator
op_of op.Mul = wide_op.Mul
op_of op.Add = wide_op.Add
op_of op.Sub = wide_op.Sub
op_of op.Less = wide_op.Less
op_of op.LessEq = wide_op.LessEq
op_of op.Greater = wide_op.Greater
op_of op.GreaterEq = wide_op.GreaterEq
op_of op.Equal = wide_op.Equal
op_of op.NotEqual = wide_op.NotEqual

abbrev pub written_of : Written → wide.Written
written_of (digits at w) = wide.digits at w
written_of (truth_word at b) = wide.truth_token at b
written_of (word at n) = wide.word at n
written_of (result_word at) = wide.result_word at
written_of (before at o x) = wide.before at (unary_of o) (written_of x)
written_of (between x at o y) = wide.between (written_of x) at (op_of o) (written_of y)
written_of (round a x b) = wide.round a (written_of x) b

-- arguments
abbrev pub more_of : Chain → wide.More
more_of no_link = wide.no_more
more_of (link at x xs) = wide.more_and at (written_of x) (more_of xs)

abbrev pub args_of : Args → wide.Args
args_of no_args = wide.no_args
args_of (some_args x xs) = wide.some_args (written_of x) (more_of xs)

abbrev pub call_of : CallText → wide.Written
call_of c = wide.called c.at c.name c.a (args_of c.args) c.b

abbrev pub right_of : RightText → wide.Written
right_of (plain x) = written_of x
right_of (invoked c) = call_of c

-- parts between `&&`, behind what is already joined
abbrev pub joined_of : wide.Written → Chain → wide.Written
joined_of x no_link = x
joined_of x (link at y ys) = joined_of (wide.between x at wide_op.Both (written_of y)) ys

abbrev pub unknown_of : Place → Chain → wide.FormulaText
unknown_of at no_link = wide.unknown at
unknown_of at (link a x xs) = wide.unknown_and at a (joined_of (written_of x) xs)

abbrev pub formula_of : FormulaText → wide.FormulaText
formula_of (precise x xs) = wide.known (joined_of (written_of x) xs)
formula_of (gradual at xs) = unknown_of at xs

abbrev pub base_of : Place → Shape → wide.BaseText
base_of at shape.Int = wide.int_word at
base_of at shape.Bool = wide.bool_word at

abbrev pub type_of : Place → Shape → wide.TypeText
type_of at s = record { base = base_of at s; stars = [] }

-- the library's name of what prints
abbrev pub print_name : Shape → List ℕ
print_name shape.Int = codes "printint"
print_name shape.Bool = codes "printbool"

abbrev pub printed_of : Place → Shape → Place → Written → Place → wide.Written
printed_of p s a x b = wide.called p (print_name s) a (wide.some_args (written_of x) wide.no_more) b

-- an annotation with one clause
abbrev pub invariant_of : NoteText → whole.InvariantText
invariant_of n = record { at = n.at; formula = formula_of n.formula; c = n.c }

abbrev pub invariants_of : NoteText → whole.InvariantsText
invariants_of n = record { o = n.a; clauses = invariant_of n ∷ []; e = n.l }

abbrev pub assert_of : NoteText → whole.NoteText
assert_of n = whole.asserts_note n.at (formula_of n.formula) n.c

abbrev mutual
  pub line_of : Line → whole.Line
  line_of (declares t s n name q r c) = whole.simple_line (whole.declares_as (type_of t s) n name q (right_of r)) c
  line_of (assigns n name q r c) = whole.simple_line (whole.assigns (wide.word n name) q None (right_of r)) c
  line_of (calls k c) = whole.simple_line (whole.evaluates (call_of k)) c
  line_of (prints p s a x b c) = whole.simple_line (whole.evaluates (printed_of p s a x b)) c
  line_of (returns r x c) = whole.returns r (Some (written_of x)) c
  line_of (ifs i a x b o ls e m) = if_of m i a (written_of x) b (whole.braces o (lines_of ls) e)
  line_of (whiles w a x b ns o ls e) = whole.whiles w a (written_of x) b (map invariants_of ns) (whole.braces o (lines_of ls) e)
  line_of (asserts n) = whole.notes n.a (assert_of n ∷ []) n.l

  pub if_of : Otherwise → (i a : Place) → wide.Written → (b : Place) → whole.Line → whole.Line
  if_of no_else i a x b l = whole.ifs i a x b l
  if_of (elses s o ls e) i a x b l = whole.ifs_else i a x b l s (whole.braces o (lines_of ls) e)

  pub lines_of : Lines → whole.Lines
  lines_of no_lines = whole.no_lines
  lines_of (line l ls) = whole.line_and (line_of l) (lines_of ls)

-- functions
abbrev pub param_of : ParameterText → whole.ParamText
param_of p = record { typed = type_of p.t p.shape; n = p.n; name = p.name }

abbrev pub next_of : Place → ParameterText → whole.NextParam
next_of at p = record { comma = at; param = param_of p }

abbrev pub nexts_of : MoreParameters → List whole.NextParam
nexts_of no_parameter = []
nexts_of (parameter at p ps) = next_of at p ∷ nexts_of ps

abbrev pub params_of : Parameters → whole.Params
params_of no_parameters = whole.no_params
params_of (parameters p ps) = whole.some_params (param_of p) (nexts_of ps)

abbrev pub side_of : ClauseKind → Side
side_of side.Requires = wide_side.Requires
side_of side.Ensures = wide_side.Ensures

abbrev pub clause_of : ClauseText → whole.ClauseText
clause_of c = record { at = c.note.at; side = side_of c.kind; formula = formula_of c.note.formula; c = c.note.c }

abbrev pub contract_of : ClauseText → whole.ContractText
contract_of c = record { o = c.note.a; clauses = clause_of c ∷ []; e = c.note.l }

abbrev pub head_of : FunctionText → whole.HeadText
head_of f = record { gives_what = whole.gives (type_of f.t f.shape); n = f.n; name = f.name; a = f.a; params = params_of f.parameters; b = f.b }

abbrev pub item_of : FunctionText → whole.ItemText
item_of f = whole.defines_function (head_of f) (map contract_of f.contract) f.o (lines_of f.lines) f.e

abbrev pub program_of : List FunctionText → Place → whole.ProgramText
program_of fs last = record { uses = []; items = map item_of fs; last = last }
