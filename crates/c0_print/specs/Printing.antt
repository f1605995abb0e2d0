-- How a tree is written: with parentheses where precedence needs them, and no place of its own.
use Rattle.std.specs.Prelude.{ℕ, zero, suc, ◌+◌, Bool, true, false, List, [], ◌∷◌, ◌++◌, map, Option, Some, None, codes}
use Rattle.gc0_base.specs.declared.place.Place.{Place}
use Rattle.parsed_tree.specs.declared.expressions.Named.{Named}
use Rattle.parsed_tree.specs.declared.expressions.Base.{Base}
use Rattle.parsed_tree.specs.declared.expressions.Base.TheVariants as base
use Rattle.parsed_tree.specs.declared.expressions.TypeName.{TypeName}
use Rattle.parsed_tree.specs.declared.expressions.Operator.{Operator}
use Rattle.parsed_tree.specs.declared.items.Library.{Library}
use Rattle.parsed_tree.specs.declared.items.Field.{Field}
use Rattle.parsed_tree.specs.declared.items.Param.{Param}
use Rattle.parsed_tree.specs.declared.items.ResultType.{ResultType}
use Rattle.parsed_tree.specs.declared.items.ResultType.TheVariants as result
use Rattle.parsed_tree.specs.declared.items.Head.{Head}
use Rattle.parsed_tree.specs.Tree.{ExprTree, number, truth, null, local, outcome, unary, binary, choose, arrow, call, call_text, alloc, acc, ExprTrees, no_exprs, expr_and, FormulaTree, InstanceTree, NoteForm, assert_note, fold_note, unfold_note, NoteTree, InvariantTree, InvariantsTree, SimpleTree, declare, assign, stepped, plain, StmtTree, simple_stmt, block_stmt, if_stmt, while_stmt, for_stmt, return_stmt, assert_stmt, error_stmt, notes_stmt, StmtTrees, no_stmts, stmt_and, ClauseTree, ContractTree, PredicateTree, ItemTree, struct_name, struct_item, typedef_item, prototype_item, function_item, predicates_item, ProgramTree}
use Rattle.c0_grammar.specs.Written.{BaseText, int_word, bool_word, struct_word, alias_word, TypeText, Written, digits, truth_token, null_token, word, result_word, before, between, choice, called, called_text, allocated, arrow_to, permission, Args, no_args, some_args, More, no_more, more_and, FormulaText, unknown, unknown_and, known}
use Rattle.c0_grammar.specs.Allowed.{rank, ranks}
use Rattle.c0_grammar.specs.Texts.{NoteText, asserts_note, folds_note, unfolds_note, InvariantText, InvariantsText, SimpleText, declares, declares_as, assigns, steps, evaluates, Line, simple_line, braces, ifs, ifs_else, whiles, fors, returns, asserts, raises, notes, Lines, no_lines, line_and, ClauseText, ContractText, ParamText, NextParam, Params, no_params, some_params, ResultText, void_word, gives, HeadText, PredicateWritten, FieldText, ItemText, names_struct, defines_struct, defines_type, declares_function, defines_function, defines_predicates, UseText, ProgramText, tree_option}
use Rattle.c0_layout.specs.Layout.{expr_text, line_text, program_text}
use Rattle.c0_layout.specs.Rounding.{nowhere, closed, based}

abbrev pub nowheres : ℕ → List Place
nowheres zero = []
nowheres (suc n) = nowhere ∷ nowheres n

-- ---- types
abbrev pub base_of : Base → BaseText
base_of base.Int = int_word nowhere
base_of base.Bool = bool_word nowhere
base_of (base.Struct n) = struct_word nowhere nowhere n.name
base_of (base.Alias n) = alias_word nowhere n

abbrev pub type_of : TypeName → TypeText
type_of t = record { base = base_of t.base; stars = nowheres t.stars }

-- ---- expressions
abbrev mutual
  pub written : ExprTree → Written
  written (number s w) = digits nowhere w
  written (truth s b) = truth_token nowhere b
  written (null s) = null_token nowhere
  written (local s n) = word nowhere n
  written (outcome s) = result_word nowhere
  written (unary s o x) = before nowhere o (closed 0 (written x))
  written (binary s o x y) =
      between (closed (rank o + 1) (written x)) nowhere o (closed (rank o) (written y))
  written (choose s x y z) =
      choice (closed ranks (written x)) nowhere (written y) nowhere (written z)
  written (arrow s x n) = arrow_to (based (written x)) nowhere nowhere n.name
  written (call s n xs) = called nowhere n nowhere (args_of xs) nowhere
  written (call_text s n t) = called_text nowhere n nowhere nowhere t.bytes nowhere
  written (alloc s t) = allocated nowhere nowhere (type_of t) nowhere
  written (acc s x p n) = permission nowhere nowhere (written x) nowhere nowhere n.name nowhere

  pub args_of : ExprTrees → Args
  args_of no_exprs = no_args
  args_of (expr_and x xs) = some_args (written x) (more_of xs)

  pub more_of : ExprTrees → More
  more_of no_exprs = no_more
  more_of (expr_and x xs) = more_and nowhere (written x) (more_of xs)

-- ---- formulas: `?` and what stands behind it, or what stands alone; nothing at all says `true`
abbrev pub parts_of : Bool → Option ExprTree → FormulaText
parts_of true None = unknown nowhere
parts_of true (Some x) = unknown_and nowhere nowhere (written x)
parts_of false None = known (truth_token nowhere true)
parts_of false (Some x) = known (written x)

abbrev pub formula_of : FormulaTree → FormulaText
formula_of f = parts_of f.imprecise f.parts

-- ---- annotations
abbrev pub form_of : NoteForm → NoteText
form_of (assert_note f) = asserts_note nowhere (formula_of f) nowhere
form_of (fold_note i) =
    folds_note nowhere nowhere i.name.name nowhere (args_of i.arguments) nowhere nowhere
form_of (unfold_note i) =
    unfolds_note nowhere nowhere i.name.name nowhere (args_of i.arguments) nowhere nowhere

abbrev pub note_of : NoteTree → NoteText
note_of n = form_of n.form

abbrev pub invariant_of : InvariantTree → InvariantText
invariant_of i = record { at = nowhere; formula = formula_of i.formula; c = nowhere }

abbrev pub invariants_of : InvariantsTree → InvariantsText
invariants_of i = record { o = nowhere; clauses = map invariant_of i.clauses; e = nowhere }

-- ---- statements
abbrev pub simple_of : SimpleTree → SimpleText
simple_of (declare t n None) = declares (type_of t) nowhere n.name
simple_of (declare t n (Some v)) = declares_as (type_of t) nowhere n.name nowhere (written v.1)
simple_of (assign x p o y) = assigns (written x) nowhere o (written y)
simple_of (stepped x p o) = steps (written x) nowhere o
simple_of (plain x) = evaluates (written x)

abbrev mutual
  pub line_of : StmtTree → Line
  line_of (simple_stmt s) = simple_line (simple_of s) nowhere
  line_of (block_stmt p ss) = braces nowhere (lines_of ss) nowhere
  line_of (if_stmt p e s no_stmts) = ifs nowhere nowhere (written e) nowhere (line_of s)
  line_of (if_stmt p e s (stmt_and m ms)) =
      ifs_else nowhere nowhere (written e) nowhere (line_of s) nowhere (line_of m)
  line_of (while_stmt p e is s) =
      whiles nowhere nowhere (written e) nowhere (map invariants_of is) (line_of s)
  line_of (for_stmt p a e b is s) = fors nowhere nowhere (tree_option simple_of a) nowhere (written e) nowhere (tree_option simple_of b) nowhere (map invariants_of is) (line_of s)
  line_of (return_stmt p e) = returns nowhere (tree_option written e) nowhere
  line_of (assert_stmt p e) = asserts nowhere nowhere (written e) nowhere nowhere
  line_of (error_stmt p t) = raises nowhere nowhere nowhere t.bytes nowhere nowhere
  line_of (notes_stmt p ns) = notes nowhere (map note_of ns) nowhere

  pub lines_of : StmtTrees → Lines
  lines_of no_stmts = no_lines
  lines_of (stmt_and s ss) = line_and (line_of s) (lines_of ss)

-- what a declaration sets its local to
abbrev pub initial_text : Option (Place × ExprTree) → List ℕ
initial_text None = []
initial_text (Some v) = codes " = " ++ expr_text (written v.1)

-- what stands behind the first statement of an `if`
abbrev pub else_text : StmtTrees → List ℕ
else_text no_stmts = []
else_text (stmt_and m ms) = codes "else\n" ++ line_text (line_of m)

-- ---- items
abbrev pub clause_of : ClauseTree → ClauseText
clause_of c = record { at = nowhere; side = c.side; formula = formula_of c.formula; c = nowhere }

abbrev pub contract_of : ContractTree → ContractText
contract_of c = record { o = nowhere; clauses = map clause_of c.clauses; e = nowhere }

abbrev pub param_of : Param → ParamText
param_of p = record { typed = type_of p.typed; n = nowhere; name = p.name.name }

abbrev pub next_of : Param → NextParam
next_of p = record { comma = nowhere; param = param_of p }

abbrev pub params_of : List Param → Params
params_of [] = no_params
params_of (p ∷ ps) = some_params (param_of p) (map next_of ps)

abbrev pub result_of : ResultType → ResultText
result_of (result.Void p) = void_word nowhere
result_of (result.Typed t) = gives (type_of t)

abbrev pub head_of : Head → HeadText
head_of h = record { gives_what = result_of h.result; n = nowhere; name = h.name.name; a = nowhere; params = params_of h.params; b = nowhere }

abbrev pub predicate_of : PredicateTree → PredicateWritten
predicate_of p = record { at = nowhere; n = nowhere; name = p.name.name; a = nowhere; params = params_of p.params; b = nowhere; q = nowhere; body = written p.body; c = nowhere }

abbrev pub field_of : Field → FieldText
field_of f = record { typed = type_of f.typed; n = nowhere; name = f.name.name; c = nowhere }

abbrev pub item_of : ItemTree → ItemText
item_of (struct_name p n) = names_struct nowhere nowhere n.name nowhere
item_of (struct_item p n fs) =
    defines_struct nowhere nowhere n.name nowhere (map field_of fs) nowhere nowhere
item_of (typedef_item p t n) = defines_type nowhere (type_of t) nowhere n.name nowhere
item_of (prototype_item h cs) = declares_function (head_of h) (map contract_of cs) nowhere
item_of (function_item h cs ss e) =
    defines_function (head_of h) (map contract_of cs) nowhere (lines_of ss) nowhere
item_of (predicates_item p ps) = defines_predicates nowhere (map predicate_of ps) nowhere

abbrev pub use_of : Library → UseText
use_of l = record { at = nowhere; a = nowhere; n = nowhere; library = l; b = nowhere }

-- ---- a whole text
abbrev pub text_of : ProgramTree → ProgramText
text_of p = record { uses = map use_of p.uses; items = map item_of p.items; last = nowhere }

-- the bytes of a tree
abbrev pub printed : ProgramTree → List ℕ
printed p = program_text (text_of p)
