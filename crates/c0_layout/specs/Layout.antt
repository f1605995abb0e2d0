-- The layout of what is written: its bytes, wherever its tokens stood.
--
-- Operators between two operands, `?` and `:` have one space on both sides, arguments and parameters
-- are joined by a comma and a space, and one space stands between two unary minuses. A word before an
-- operand, a name or a type has one space behind it. Nothing else is spaced. Items, heads,
-- annotations, braces, statements, `if (..)`, `else`, `while (..)` and `for (..)` have a line each,
-- without indentation.
use Rattle.std.specs.Prelude.{ℕ, Bool, true, false, List, [], ◌∷◌, ◌++◌, Option, Some, None, codes}
use Rattle.gc0_base.specs.declared.place.Place.{Place}
use Rattle.c0_lex.specs.declared.token.Keyword.TheVariants as key
use Rattle.c0_lex.specs.declared.token.Symbol.{Symbol}
use Rattle.c0_lex.specs.declared.token.Symbol.TheVariants as mark
use Rattle.c0_lex.specs.Words.{keyword_bytes, symbol_bytes}
use Rattle.parsed_tree.specs.declared.expressions.UnaryOperator.{UnaryOperator}
use Rattle.parsed_tree.specs.declared.expressions.UnaryOperator.TheVariants as unary_op
use Rattle.c0_grammar.specs.Written.{truth_word, unary_symbol, operator_symbol, BaseText, int_word, bool_word, struct_word, alias_word, TypeText, Written, digits, truth_token, null_token, word, result_word, before, between, choice, round, called, called_text, allocated, arrow_to, permission, Args, no_args, some_args, More, no_more, more_and, FormulaText, unknown, unknown_and, known}
use Rattle.c0_grammar.specs.Texts.{NoteText, asserts_note, folds_note, unfolds_note, InvariantText, InvariantsText, update_symbol, step_symbol, SimpleText, declares, declares_as, assigns, steps, evaluates, Line, simple_line, braces, ifs, ifs_else, whiles, fors, returns, asserts, raises, notes, Lines, no_lines, line_and, side_word, ClauseText, ContractText, ParamText, NextParam, Params, no_params, some_params, ResultText, void_word, gives, HeadText, PredicateWritten, FieldText, ItemText, names_struct, defines_struct, defines_type, declares_function, defines_function, defines_predicates, library_name, UseText, ProgramText}
use Rattle.c0_layout.specs.Lists.{all_text, joined_text, option_text}
use Rattle.c0_layout.specs.Literals.{literal_text, string_text}

-- a symbol with one space on both sides
abbrev pub spaced : Symbol → List ℕ
spaced s = codes " " ++ (symbol_bytes s ++ codes " ")

-- ---- types
abbrev pub base_text : BaseText → List ℕ
base_text (int_word at) = keyword_bytes key.Int
base_text (bool_word at) = keyword_bytes key.Bool
base_text (struct_word at n name) = codes "struct " ++ name
base_text (alias_word at name) = name

abbrev pub star_text : Place → List ℕ
star_text at = codes "*"

abbrev pub type_text : TypeText → List ℕ
type_text t = base_text t.base ++ all_text star_text t.stars

-- a type and a name
abbrev pub typed_text : TypeText → List ℕ → List ℕ
typed_text t name = type_text t ++ (codes " " ++ name)

-- ---- expressions and formulas
abbrev pub is_minus : UnaryOperator → Bool
is_minus unary_op.Negate = true
is_minus unary_op.Not = false
is_minus unary_op.Flip = false

abbrev pub begins_minus : Written → Bool
begins_minus (before at o x) = is_minus o
begins_minus x = false

-- what stands between a unary operator and its operand
abbrev pub unary_gap : UnaryOperator → Bool → List ℕ
unary_gap unary_op.Negate true = codes " "
unary_gap o b = []

-- a call with a string literal
abbrev pub text_call : List ℕ → List ℕ → List ℕ
text_call name bytes = name ++ (codes "(" ++ (string_text bytes ++ codes ")"))

abbrev pub alloc_text : TypeText → List ℕ
alloc_text t = codes "alloc(" ++ (type_text t ++ codes ")")

abbrev mutual
  pub expr_text : Written → List ℕ
  expr_text (digits at w) = literal_text w.0
  expr_text (truth_token at b) = keyword_bytes (truth_word b)
  expr_text (null_token at) = keyword_bytes key.Null
  expr_text (word at n) = n
  expr_text (result_word at) = keyword_bytes key.Outcome
  expr_text (before at o x) =
      symbol_bytes (unary_symbol o) ++ (unary_gap o (begins_minus x) ++ expr_text x)
  expr_text (between x at o y) = expr_text x ++ (spaced (operator_symbol o) ++ expr_text y)
  expr_text (choice x q y c z) =
      expr_text x ++ (spaced mark.Question ++ (expr_text y ++ (spaced mark.Colon ++ expr_text z)))
  expr_text (round a x b) = codes "(" ++ (expr_text x ++ codes ")")
  expr_text (called at n a xs b) = n ++ (codes "(" ++ (args_text xs ++ codes ")"))
  expr_text (called_text at n a t bytes b) = text_call n bytes
  expr_text (allocated at a t b) = alloc_text t
  expr_text (arrow_to x at f n) = expr_text x ++ (codes "->" ++ n)
  expr_text (permission at a x p f n b) =
      codes "acc(" ++ (expr_text x ++ (codes "->" ++ (n ++ codes ")")))

  pub args_text : Args → List ℕ
  args_text no_args = []
  args_text (some_args x xs) = expr_text x ++ more_text xs

  pub more_text : More → List ℕ
  more_text no_more = []
  more_text (more_and at x xs) = codes ", " ++ (expr_text x ++ more_text xs)

abbrev pub formula_text : FormulaText → List ℕ
formula_text (unknown at) = codes "?"
formula_text (unknown_and at a x) = codes "? && " ++ expr_text x
formula_text (known x) = expr_text x

-- ---- annotations: `//@` and then the clauses, joined by one space, on a line
abbrev pub annotation_text : {A : Type 0} → (A → List ℕ) → List A → List ℕ
annotation_text f clauses = codes "//@" ++ (joined_text f clauses ++ codes "\n")

-- p(a, b);
abbrev pub instance_text : List ℕ → Args → List ℕ
instance_text name xs = name ++ (codes "(" ++ (args_text xs ++ codes ");"))

abbrev pub note_text : NoteText → List ℕ
note_text (asserts_note at f c) = codes "assert " ++ (formula_text f ++ codes ";")
note_text (folds_note at n name a xs b c) = codes "fold " ++ instance_text name xs
note_text (unfolds_note at n name a xs b c) = codes "unfold " ++ instance_text name xs

abbrev pub invariant_text : InvariantText → List ℕ
invariant_text i = codes "loop_invariant " ++ (formula_text i.formula ++ codes ";")

abbrev pub invariants_text : InvariantsText → List ℕ
invariants_text i = annotation_text invariant_text i.clauses

-- ---- statements
abbrev pub simple_text : SimpleText → List ℕ
simple_text (declares t n name) = typed_text t name
simple_text (declares_as t n name q x) = typed_text t name ++ (codes " = " ++ expr_text x)
simple_text (assigns x q o y) = expr_text x ++ (spaced (update_symbol o) ++ expr_text y)
simple_text (steps x q o) = expr_text x ++ symbol_bytes (step_symbol o)
simple_text (evaluates x) = expr_text x

-- what a `return` gives
abbrev pub value_text : Option Written → List ℕ
value_text None = []
value_text (Some x) = codes " " ++ expr_text x

-- the head of an `if` or a `while`
abbrev pub test_text : List ℕ → Written → List ℕ
test_text head x = head ++ (codes " (" ++ (expr_text x ++ codes ")\n"))

-- for (first;test;last)
abbrev pub for_text : Option SimpleText → Written → Option SimpleText → List ℕ
for_text s x t = codes "for (" ++ (option_text simple_text s ++ (codes ";" ++ (expr_text x ++ (codes ";" ++ (option_text simple_text t ++ codes ")\n")))))

abbrev pub return_text : Option Written → List ℕ
return_text x = codes "return" ++ (value_text x ++ codes ";\n")

abbrev pub assert_text : Written → List ℕ
assert_text x = codes "assert(" ++ (expr_text x ++ codes ");\n")

abbrev pub error_text : List ℕ → List ℕ
error_text bytes = codes "error(" ++ (string_text bytes ++ codes ");\n")

abbrev mutual
  pub line_text : Line → List ℕ
  line_text (simple_line s c) = simple_text s ++ codes ";\n"
  line_text (braces a ls b) = codes "{\n" ++ (lines_text ls ++ codes "}\n")
  line_text (ifs at a x b l) = test_text (codes "if") x ++ line_text l
  line_text (ifs_else at a x b l e m) =
      test_text (codes "if") x ++ (line_text l ++ (codes "else\n" ++ line_text m))
  line_text (whiles at a x b is l) =
      test_text (codes "while") x ++ (all_text invariants_text is ++ line_text l)
  line_text (fors at a s c x d t b is l) =
      for_text s x t ++ (all_text invariants_text is ++ line_text l)
  line_text (returns at x c) = return_text x
  line_text (asserts at a x b c) = assert_text x
  line_text (raises at a t bytes b c) = error_text bytes
  line_text (notes o ns e) = annotation_text note_text ns

  pub lines_text : Lines → List ℕ
  lines_text no_lines = []
  lines_text (line_and l ls) = line_text l ++ lines_text ls

-- ---- heads and contracts
abbrev pub clause_text : ClauseText → List ℕ
clause_text i =
    keyword_bytes (side_word i.side) ++ (codes " " ++ (formula_text i.formula ++ codes ";"))

abbrev pub contract_text : ContractText → List ℕ
contract_text i = annotation_text clause_text i.clauses

abbrev pub param_text : ParamText → List ℕ
param_text p = typed_text p.typed p.name

abbrev pub next_text : NextParam → List ℕ
next_text p = codes ", " ++ param_text p.param

abbrev pub params_text : Params → List ℕ
params_text no_params = []
params_text (some_params p ps) = param_text p ++ all_text next_text ps

abbrev pub result_text : ResultText → List ℕ
result_text (void_word at) = keyword_bytes key.Void
result_text (gives t) = type_text t

-- name(int a, int b)
abbrev pub signature_text : List ℕ → Params → List ℕ
signature_text name ps = name ++ (codes "(" ++ (params_text ps ++ codes ")"))

abbrev pub head_text : HeadText → List ℕ
head_text h = result_text h.gives_what ++ (codes " " ++ signature_text h.name h.params)

-- ---- items
abbrev pub predicate_text : PredicateWritten → List ℕ
predicate_text p =
    codes "predicate "
    ++ (signature_text p.name p.params ++ (codes " = " ++ (expr_text p.body ++ codes ";")))

abbrev pub field_text : FieldText → List ℕ
field_text f = typed_text f.typed f.name ++ codes ";"

-- the `;` of a prototype stands on its line, and behind annotations on one of its own
abbrev pub prototype_text : HeadText → List ContractText → List ℕ
prototype_text h [] = head_text h ++ codes ";\n"
prototype_text h (i ∷ is) =
    head_text h ++ (codes "\n" ++ (all_text contract_text (i ∷ is) ++ codes ";\n"))

abbrev pub struct_name_text : List ℕ → List ℕ
struct_name_text name = codes "struct " ++ (name ++ codes ";\n")

abbrev pub struct_text : List ℕ → List FieldText → List ℕ
struct_text name fs =
    codes "struct " ++ (name ++ (codes "{" ++ (all_text field_text fs ++ codes "};\n")))

abbrev pub typedef_text : TypeText → List ℕ → List ℕ
typedef_text t name = codes "typedef " ++ (typed_text t name ++ codes ";\n")

abbrev pub function_text : HeadText → List ContractText → Lines → List ℕ
function_text h is ls = head_text h ++ (codes "\n" ++ (all_text contract_text is ++ (codes "{\n" ++ (lines_text ls ++ codes "}\n"))))

abbrev pub item_text : ItemText → List ℕ
item_text (names_struct at n name c) = struct_name_text name
item_text (defines_struct at n name a fs b c) = struct_text name fs
item_text (defines_type at t n name c) = typedef_text t name
item_text (declares_function h is c) = prototype_text h is
item_text (defines_function h is a ls b) = function_text h is ls
item_text (defines_predicates o ps e) = annotation_text predicate_text ps

abbrev pub use_text : UseText → List ℕ
use_text u = codes "#use <" ++ (library_name u.library ++ codes ">\n")

abbrev pub program_text : ProgramText → List ℕ
program_text p = all_text use_text p.uses ++ all_text item_text p.items
