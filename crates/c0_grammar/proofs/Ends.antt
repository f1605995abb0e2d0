-- The end of a text stands last in a program, so that nothing stands behind it.
use Rattle.std.proofs.Common.{◌≡◌, List, [], ◌∷◌, ◌++◌, Option, Some, None, refl, sym, ap, ◌∙◌}
use Rattle.gc0_base.specs.declared.place.Place.{Place}
use Rattle.c0_lex.specs.declared.token.Keyword.TheVariants as key
use Rattle.c0_lex.specs.declared.token.Symbol.TheVariants as mark
use Rattle.parsed_tree.specs.Tree.{ProgramTree}
use Rattle.std.proofs.Common.{ℕ}
use Rattle.c0_grammar.specs.Tokens.{end_mark, What, fixed, Token, keyword, symbol, name_token, ends_annotation, end_token}
use Rattle.c0_grammar.specs.Lists.{spell_all}
use Rattle.c0_grammar.specs.Written.{operator_symbol, BaseText, int_word, bool_word, struct_word, alias_word, TypeText, spell_base, spell_star, spell_type, Written, digits, truth_token, null_token, word, result_word, before, between, choice, round, called, called_text, allocated, arrow_to, permission, Args, no_args, some_args, More, no_more, more_and, spell, spell_args, spell_more, FormulaText, unknown, unknown_and, known, spell_formula}
use Rattle.c0_grammar.specs.Texts.{NoteText, asserts_note, folds_note, unfolds_note, spell_note, InvariantText, spell_invariant, InvariantsText, spell_invariants, update_symbol, step_symbol, SimpleText, declares, declares_as, assigns, steps, evaluates, spell_simple, spell_option, Line, simple_line, braces, ifs, ifs_else, whiles, fors, returns, asserts, raises, notes, Lines, no_lines, line_and, spell_line, spell_lines, ClauseText, spell_clause, ContractText, spell_contract, ParamText, spell_param, NextParam, spell_next, Params, no_params, some_params, spell_params, ResultText, void_word, gives, spell_result, HeadText, spell_head, PredicateWritten, spell_predicate, FieldText, spell_field, ItemText, names_struct, defines_struct, defines_type, declares_function, defines_function, defines_predicates, spell_item, UseText, spell_use}
use Rattle.c0_grammar.specs.Grammar.{IsProgram}

-- ---- the end stands last in a program
abbrev pub behind_what : What → List Token → List Token → List Token
behind_what (fixed end_mark) ts more = ts
behind_what w ts more = more

-- what stands behind the first end
abbrev pub behind_end : List Token → List Token
behind_end [] = []
behind_end (t ∷ ts) = behind_what t.what ts (behind_end ts)

abbrev Passed : (List Token → List Token) → Type 0
Passed f = (rest : List Token) → behind_end (f rest) ≡ behind_end rest

pass_all : {A : Type 0} (f : A → List Token → List Token) → ((x : A) → Passed (f x)) → (xs : List A) → Passed (spell_all f xs)
pass_all f k [] rest = refl
pass_all f k (x ∷ xs) rest = k x (spell_all f xs rest) ∙ pass_all f k xs rest

pass_star : (at : Place) → Passed (spell_star at)
pass_star at rest = refl

pass_type : (t : TypeText) → Passed (spell_type t)
pass_type t rest = by t.base (spell_all spell_star t.stars rest) ∙ pass_all spell_star pass_star t.stars rest
  where
    by : (b : BaseText) → Passed (spell_base b)
    by (int_word at) rest = refl
    by (bool_word at) rest = refl
    by (struct_word at n name) rest = refl
    by (alias_word at name) rest = refl

mutual
  pass_expr : (w : Written) → Passed (spell w)
  pass_expr (digits at w) rest = refl
  pass_expr (truth_token at b) rest = refl
  pass_expr (null_token at) rest = refl
  pass_expr (word at n) rest = refl
  pass_expr (result_word at) rest = refl
  pass_expr (before at o x) rest = pass_expr x rest
  pass_expr (between x at o y) rest = pass_expr x (symbol (operator_symbol o) at ∷ spell y rest) ∙ pass_expr y rest
  pass_expr (choice x q y c z) rest = pass_expr x (symbol mark.Question q ∷ spell y (symbol mark.Colon c ∷ spell z rest)) ∙ pass_expr y (symbol mark.Colon c ∷ spell z rest) ∙ pass_expr z rest
  pass_expr (round a x b) rest = pass_expr x (symbol mark.CloseParen b ∷ rest)
  pass_expr (called at n a xs b) rest = pass_args xs (symbol mark.CloseParen b ∷ rest)
  pass_expr (called_text at n a t bytes b) rest = refl
  pass_expr (allocated at a t b) rest = pass_type t (symbol mark.CloseParen b ∷ rest)
  pass_expr (arrow_to x at f n) rest = pass_expr x (symbol mark.Arrow at ∷ name_token n f ∷ rest)
  pass_expr (permission at a x p f n b) rest = pass_expr x (symbol mark.Arrow p ∷ name_token n f ∷ symbol mark.CloseParen b ∷ rest)

  pass_args : (xs : Args) → Passed (spell_args xs)
  pass_args no_args rest = refl
  pass_args (some_args x xs) rest = pass_expr x (spell_more xs rest) ∙ pass_more xs rest

  pass_more : (xs : More) → Passed (spell_more xs)
  pass_more no_more rest = refl
  pass_more (more_and at x xs) rest = pass_expr x (spell_more xs rest) ∙ pass_more xs rest

pass_formula : (f : FormulaText) → Passed (spell_formula f)
pass_formula (unknown at) rest = refl
pass_formula (unknown_and at a x) rest = pass_expr x rest
pass_formula (known x) rest = pass_expr x rest

pass_note : (n : NoteText) → Passed (spell_note n)
pass_note (asserts_note at f c) rest = pass_formula f (symbol mark.Semicolon c ∷ rest)
pass_note (folds_note at n name a xs b c) rest = pass_args xs (symbol mark.CloseParen b ∷ symbol mark.Semicolon c ∷ rest)
pass_note (unfolds_note at n name a xs b c) rest = pass_args xs (symbol mark.CloseParen b ∷ symbol mark.Semicolon c ∷ rest)

pass_invariant : (i : InvariantText) → Passed (spell_invariant i)
pass_invariant i rest = pass_formula i.formula (symbol mark.Semicolon i.c ∷ rest)

pass_invariants : (i : InvariantsText) → Passed (spell_invariants i)
pass_invariants i rest = pass_all spell_invariant pass_invariant i.clauses (ends_annotation i.e ∷ rest)

pass_simple : (s : SimpleText) → Passed (spell_simple s)
pass_simple (declares t n name) rest = pass_type t (name_token name n ∷ rest)
pass_simple (declares_as t n name q x) rest = pass_type t (name_token name n ∷ symbol mark.Assign q ∷ spell x rest) ∙ pass_expr x rest
pass_simple (assigns x q o y) rest = pass_expr x (symbol (update_symbol o) q ∷ spell y rest) ∙ pass_expr y rest
pass_simple (steps x q o) rest = pass_expr x (symbol (step_symbol o) q ∷ rest)
pass_simple (evaluates x) rest = pass_expr x rest

pass_option : {A : Type 0} (f : A → List Token → List Token) → ((x : A) → Passed (f x)) → (o : Option A) → Passed (spell_option f o)
pass_option f k None rest = refl
pass_option f k (Some x) rest = k x rest

mutual
  pass_line : (l : Line) → Passed (spell_line l)
  pass_line (simple_line s c) rest = pass_simple s (symbol mark.Semicolon c ∷ rest)
  pass_line (braces a ls b) rest = pass_lines ls (symbol mark.CloseBrace b ∷ rest)
  pass_line (ifs at a x b l) rest = pass_expr x (symbol mark.CloseParen b ∷ spell_line l rest) ∙ pass_line l rest
  pass_line (ifs_else at a x b l e m) rest = pass_expr x (symbol mark.CloseParen b ∷ spell_line l (keyword key.Else e ∷ spell_line m rest)) ∙ pass_line l (keyword key.Else e ∷ spell_line m rest) ∙ pass_line m rest
  pass_line (whiles at a x b is l) rest = pass_expr x (symbol mark.CloseParen b ∷ spell_all spell_invariants is (spell_line l rest)) ∙ pass_all spell_invariants pass_invariants is (spell_line l rest) ∙ pass_line l rest
  pass_line (fors at a s c x d t b is l) rest =
      pass_option spell_simple pass_simple s (symbol mark.Semicolon c ∷ spell x (symbol mark.Semicolon d ∷ spell_option spell_simple t (symbol mark.CloseParen b ∷ spell_all spell_invariants is (spell_line l rest))))
      ∙ pass_expr x (symbol mark.Semicolon d ∷ spell_option spell_simple t (symbol mark.CloseParen b ∷ spell_all spell_invariants is (spell_line l rest)))
      ∙ pass_option spell_simple pass_simple t (symbol mark.CloseParen b ∷ spell_all spell_invariants is (spell_line l rest))
      ∙ pass_all spell_invariants pass_invariants is (spell_line l rest)
      ∙ pass_line l rest
  pass_line (returns at x c) rest = pass_option spell pass_expr x (symbol mark.Semicolon c ∷ rest)
  pass_line (asserts at a x b c) rest = pass_expr x (symbol mark.CloseParen b ∷ symbol mark.Semicolon c ∷ rest)
  pass_line (raises at a t bytes b c) rest = refl
  pass_line (notes o ns e) rest = pass_all spell_note pass_note ns (ends_annotation e ∷ rest)

  pass_lines : (ls : Lines) → Passed (spell_lines ls)
  pass_lines no_lines rest = refl
  pass_lines (line_and l ls) rest = pass_line l (spell_lines ls rest) ∙ pass_lines ls rest

pass_clause : (c : ClauseText) → Passed (spell_clause c)
pass_clause c rest = pass_formula c.formula (symbol mark.Semicolon c.c ∷ rest)

pass_contract : (c : ContractText) → Passed (spell_contract c)
pass_contract c rest = pass_all spell_clause pass_clause c.clauses (ends_annotation c.e ∷ rest)

pass_param : (q : ParamText) → Passed (spell_param q)
pass_param q rest = pass_type q.typed (name_token q.name q.n ∷ rest)

pass_next : (q : NextParam) → Passed (spell_next q)
pass_next q rest = pass_param q.param rest

pass_params : (ps : Params) → Passed (spell_params ps)
pass_params no_params rest = refl
pass_params (some_params q qs) rest = pass_param q (spell_all spell_next qs rest) ∙ pass_all spell_next pass_next qs rest

pass_result : (r : ResultText) → Passed (spell_result r)
pass_result (void_word at) rest = refl
pass_result (gives t) rest = pass_type t rest

pass_head : (h : HeadText) → Passed (spell_head h)
pass_head h rest = pass_result h.gives_what (name_token h.name h.n ∷ symbol mark.OpenParen h.a ∷ spell_params h.params (symbol mark.CloseParen h.b ∷ rest)) ∙ pass_params h.params (symbol mark.CloseParen h.b ∷ rest)

pass_predicate : (q : PredicateWritten) → Passed (spell_predicate q)
pass_predicate q rest = pass_params q.params (symbol mark.CloseParen q.b ∷ symbol mark.Assign q.q ∷ spell q.body (symbol mark.Semicolon q.c ∷ rest)) ∙ pass_expr q.body (symbol mark.Semicolon q.c ∷ rest)

pass_field : (f : FieldText) → Passed (spell_field f)
pass_field f rest = pass_type f.typed (name_token f.name f.n ∷ symbol mark.Semicolon f.c ∷ rest)

pass_item : (i : ItemText) → Passed (spell_item i)
pass_item (names_struct at n name c) rest = refl
pass_item (defines_struct at n name a fs b c) rest = pass_all spell_field pass_field fs (symbol mark.CloseBrace b ∷ symbol mark.Semicolon c ∷ rest)
pass_item (defines_type at t n name c) rest = pass_type t (name_token name n ∷ symbol mark.Semicolon c ∷ rest)
pass_item (declares_function h cs c) rest = pass_head h (spell_all spell_contract cs (symbol mark.Semicolon c ∷ rest)) ∙ pass_all spell_contract pass_contract cs (symbol mark.Semicolon c ∷ rest)
pass_item (defines_function h cs a ls b) rest =
    pass_head h (spell_all spell_contract cs (symbol mark.OpenBrace a ∷ spell_lines ls (symbol mark.CloseBrace b ∷ rest)))
    ∙ pass_all spell_contract pass_contract cs (symbol mark.OpenBrace a ∷ spell_lines ls (symbol mark.CloseBrace b ∷ rest))
    ∙ pass_lines ls (symbol mark.CloseBrace b ∷ rest)
pass_item (defines_predicates o ps e) rest = pass_all spell_predicate pass_predicate ps (ends_annotation e ∷ rest)

pass_use : (u : UseText) → Passed (spell_use u)
pass_use u rest = refl

pub behind_program : (ts : List Token) (p : ProgramTree) (n : ℕ) → IsProgram ts p n → behind_end ts ≡ []
behind_program ts p n x =
    ap behind_end (sym x.tokens)
    ∙ pass_all spell_use pass_use x.text.uses (spell_all spell_item x.text.items (end_token x.text.last ∷ []))
    ∙ pass_all spell_item pass_item x.text.items (end_token x.text.last ∷ [])

some_no_end : (front : List Token) (e : Token) (more : List Token) → (front ++ e ∷ []) ++ more ≡ [] → ⊥
some_no_end [] e more h = cc
some_no_end (t ∷ front) e more h = cc

-- nothing stands behind an end with which a program's tokens begin
pub nothing_more : (front : List Token) (last : Place) (more : List Token) → behind_end ((front ++ end_token last ∷ []) ++ more) ≡ [] → more ≡ []
nothing_more [] last more h = h
nothing_more (t ∷ front) last more h = by t.what h (λ g. nothing_more front last more g)
  where
    by : (w : What) → behind_what w ((front ++ end_token last ∷ []) ++ more) (behind_end ((front ++ end_token last ∷ []) ++ more)) ≡ [] → (behind_end ((front ++ end_token last ∷ []) ++ more) ≡ [] → more ≡ []) → more ≡ []
    by (fixed end_mark) g ih = absurd (some_no_end front (end_token last) more g)
    by w g ih = ih g
