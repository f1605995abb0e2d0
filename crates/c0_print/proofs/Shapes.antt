-- What is written, without where its tokens stand.
use Rattle.std.proofs.Common.{map}
use Rattle.gc0_base.specs.declared.place.Place.{Place}
use Rattle.c0_grammar.specs.Written.{BaseText, int_word, bool_word, struct_word, alias_word, TypeText, Written, digits, truth_token, null_token, word, result_word, before, between, choice, round, called, called_text, allocated, arrow_to, permission, Args, no_args, some_args, More, no_more, more_and, FormulaText, unknown, unknown_and, known}
use Rattle.c0_grammar.specs.Texts.{NoteText, asserts_note, folds_note, unfolds_note, InvariantText, InvariantsText, SimpleText, declares, declares_as, assigns, steps, evaluates, tree_option, Line, simple_line, braces, ifs, ifs_else, whiles, fors, returns, asserts, raises, notes, Lines, no_lines, line_and, ClauseText, ContractText, ParamText, NextParam, Params, no_params, some_params, ResultText, void_word, gives, HeadText, PredicateWritten, FieldText, ItemText, names_struct, defines_struct, defines_type, declares_function, defines_function, defines_predicates, UseText, ProgramText}
use Rattle.c0_layout.specs.Rounding.{nowhere}

abbrev pub shape_star : Place → Place
shape_star at = nowhere

abbrev pub shape_base : BaseText → BaseText
shape_base (int_word at) = int_word nowhere
shape_base (bool_word at) = bool_word nowhere
shape_base (struct_word at n name) = struct_word nowhere nowhere name
shape_base (alias_word at name) = alias_word nowhere name

abbrev pub shape_type : TypeText → TypeText
shape_type r = record { base = shape_base r.base; stars = map shape_star r.stars }

abbrev mutual
  pub shape_expr : Written → Written
  shape_expr (digits at w) = digits nowhere w
  shape_expr (truth_token at b) = truth_token nowhere b
  shape_expr (null_token at) = null_token nowhere
  shape_expr (word at n) = word nowhere n
  shape_expr (result_word at) = result_word nowhere
  shape_expr (before at o x) = before nowhere o (shape_expr x)
  shape_expr (between x at o y) = between (shape_expr x) nowhere o (shape_expr y)
  shape_expr (choice x q y c z) = choice (shape_expr x) nowhere (shape_expr y) nowhere (shape_expr z)
  shape_expr (round a x b) = round nowhere (shape_expr x) nowhere
  shape_expr (called at n a xs b) = called nowhere n nowhere (shape_args xs) nowhere
  shape_expr (called_text at n a t bytes b) = called_text nowhere n nowhere nowhere bytes nowhere
  shape_expr (allocated at a t b) = allocated nowhere nowhere (shape_type t) nowhere
  shape_expr (arrow_to x at f n) = arrow_to (shape_expr x) nowhere nowhere n
  shape_expr (permission at a x p f n b) = permission nowhere nowhere (shape_expr x) nowhere nowhere n nowhere

  pub shape_args : Args → Args
  shape_args no_args = no_args
  shape_args (some_args x xs) = some_args (shape_expr x) (shape_more xs)

  pub shape_more : More → More
  shape_more no_more = no_more
  shape_more (more_and at x xs) = more_and nowhere (shape_expr x) (shape_more xs)

abbrev pub shape_formula : FormulaText → FormulaText
shape_formula (unknown at) = unknown nowhere
shape_formula (unknown_and at a x) = unknown_and nowhere nowhere (shape_expr x)
shape_formula (known x) = known (shape_expr x)

abbrev pub shape_note : NoteText → NoteText
shape_note (asserts_note at f c) = asserts_note nowhere (shape_formula f) nowhere
shape_note (folds_note at n name a xs b c) = folds_note nowhere nowhere name nowhere (shape_args xs) nowhere nowhere
shape_note (unfolds_note at n name a xs b c) = unfolds_note nowhere nowhere name nowhere (shape_args xs) nowhere nowhere

abbrev pub shape_invariant : InvariantText → InvariantText
shape_invariant r = record { at = nowhere; formula = shape_formula r.formula; c = nowhere }

abbrev pub shape_invariants : InvariantsText → InvariantsText
shape_invariants r = record { o = nowhere; clauses = map shape_invariant r.clauses; e = nowhere }

abbrev pub shape_simple : SimpleText → SimpleText
shape_simple (declares t n name) = declares (shape_type t) nowhere name
shape_simple (declares_as t n name q x) = declares_as (shape_type t) nowhere name nowhere (shape_expr x)
shape_simple (assigns x q o y) = assigns (shape_expr x) nowhere o (shape_expr y)
shape_simple (steps x q o) = steps (shape_expr x) nowhere o
shape_simple (evaluates x) = evaluates (shape_expr x)

abbrev mutual
  pub shape_line : Line → Line
  shape_line (simple_line s c) = simple_line (shape_simple s) nowhere
  shape_line (braces a ls b) = braces nowhere (shape_lines ls) nowhere
  shape_line (ifs at a x b l) = ifs nowhere nowhere (shape_expr x) nowhere (shape_line l)
  shape_line (ifs_else at a x b l e m) = ifs_else nowhere nowhere (shape_expr x) nowhere (shape_line l) nowhere (shape_line m)
  shape_line (whiles at a x b is l) = whiles nowhere nowhere (shape_expr x) nowhere (map shape_invariants is) (shape_line l)
  shape_line (fors at a s c x d t b is l) = fors nowhere nowhere (tree_option shape_simple s) nowhere (shape_expr x) nowhere (tree_option shape_simple t) nowhere (map shape_invariants is) (shape_line l)
  shape_line (returns at x c) = returns nowhere (tree_option shape_expr x) nowhere
  shape_line (asserts at a x b c) = asserts nowhere nowhere (shape_expr x) nowhere nowhere
  shape_line (raises at a t bytes b c) = raises nowhere nowhere nowhere bytes nowhere nowhere
  shape_line (notes o ns e) = notes nowhere (map shape_note ns) nowhere

  pub shape_lines : Lines → Lines
  shape_lines no_lines = no_lines
  shape_lines (line_and l ls) = line_and (shape_line l) (shape_lines ls)

abbrev pub shape_clause : ClauseText → ClauseText
shape_clause r = record { at = nowhere; side = r.side; formula = shape_formula r.formula; c = nowhere }

abbrev pub shape_contract : ContractText → ContractText
shape_contract r = record { o = nowhere; clauses = map shape_clause r.clauses; e = nowhere }

abbrev pub shape_param : ParamText → ParamText
shape_param r = record { typed = shape_type r.typed; n = nowhere; name = r.name }

abbrev pub shape_next : NextParam → NextParam
shape_next r = record { comma = nowhere; param = shape_param r.param }

abbrev pub shape_params : Params → Params
shape_params no_params = no_params
shape_params (some_params p ps) = some_params (shape_param p) (map shape_next ps)

abbrev pub shape_result : ResultText → ResultText
shape_result (void_word at) = void_word nowhere
shape_result (gives t) = gives (shape_type t)

abbrev pub shape_head : HeadText → HeadText
shape_head r = record { gives_what = shape_result r.gives_what; n = nowhere; name = r.name; a = nowhere; params = shape_params r.params; b = nowhere }

abbrev pub shape_predicate : PredicateWritten → PredicateWritten
shape_predicate r = record { at = nowhere; n = nowhere; name = r.name; a = nowhere; params = shape_params r.params; b = nowhere; q = nowhere; body = shape_expr r.body; c = nowhere }

abbrev pub shape_field : FieldText → FieldText
shape_field r = record { typed = shape_type r.typed; n = nowhere; name = r.name; c = nowhere }

abbrev pub shape_item : ItemText → ItemText
shape_item (names_struct at n name c) = names_struct nowhere nowhere name nowhere
shape_item (defines_struct at n name a fs b c) = defines_struct nowhere nowhere name nowhere (map shape_field fs) nowhere nowhere
shape_item (defines_type at t n name c) = defines_type nowhere (shape_type t) nowhere name nowhere
shape_item (declares_function h cs c) = declares_function (shape_head h) (map shape_contract cs) nowhere
shape_item (defines_function h cs a ls b) = defines_function (shape_head h) (map shape_contract cs) nowhere (shape_lines ls) nowhere
shape_item (defines_predicates o ps e) = defines_predicates nowhere (map shape_predicate ps) nowhere

abbrev pub shape_use : UseText → UseText
shape_use r = record { at = nowhere; a = nowhere; n = nowhere; library = r.library; b = nowhere }

abbrev pub shape_program : ProgramText → ProgramText
shape_program p = record { uses = map shape_use p.uses; items = map shape_item p.items; last = nowhere }
