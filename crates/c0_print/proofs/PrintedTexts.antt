-- What is written for the tree of a text can be shown: annotations, statements and items.
use Rattle.std.proofs.Common.{Bool, true, false, List, [], ◌∷◌, Option, Some, None}
use Rattle.c0_grammar.specs.Tokens.{Token, ends_annotation, end_token}
use Rattle.c0_grammar.specs.Lists.{spell_all}
use Rattle.c0_grammar.specs.Written.{spell, tree_of}
use Rattle.c0_grammar.specs.Texts.{NoteText, asserts_note, folds_note, unfolds_note, spell_note, note_tree, InvariantText, spell_invariant, invariant_tree, InvariantsText, spell_invariants, invariants_tree, SimpleText, declares, declares_as, assigns, steps, evaluates, spell_simple, simple_tree, tree_option, spell_option, Line, simple_line, braces, ifs, ifs_else, whiles, fors, returns, asserts, raises, notes, Lines, no_lines, line_and, spell_line, spell_lines, line_tree, line_trees, ClauseText, spell_clause, clause_tree, ContractText, spell_contract, contract_tree, ParamText, spell_param, param_tree, NextParam, spell_next, next_tree, Params, no_params, some_params, spell_params, params_trees, ResultText, void_word, gives, spell_result, result_tree, HeadText, spell_head, head_tree, PredicateWritten, spell_predicate, predicate_tree, FieldText, spell_field, field_tree, ItemText, names_struct, defines_struct, defines_type, declares_function, defines_function, defines_predicates, spell_item, item_tree, UseText, spell_use, ProgramText, spell_program, program_tree}
use Rattle.c0_grammar.specs.Grammar.{GoodOption}
use Rattle.c0_print.specs.Laws.{whats}
use Rattle.c0_print.specs.Printing.{written, note_of, invariant_of, invariants_of, simple_of, line_of, lines_of, clause_of, contract_of, param_of, next_of, params_of, result_of, head_of, predicate_of, field_of, item_of, text_of}
use Rattle.c0_print.proofs.Legible.{Legible, LegibleNote, LegibleInvariant, LegibleInvariants, LegibleSimple, LegibleLine, LegibleLines, LegibleClause, LegibleContract, LegibleParam, LegibleNext, LegibleParams, LegibleResult, LegibleHead, LegiblePredicate, LegibleField, LegibleItem, LegibleProgram}
use Rattle.c0_print.proofs.Sources.{CanAll}
use Rattle.c0_print.proofs.PrintedExprs.{all_shown, type_shown, expr_shown, args_shown, formula_shown}

-- ---- annotations
note_shown : (n : NoteText) (ts : List Token) → CanAll true (whats (spell_note n ts)) → LegibleNote (note_of (note_tree n)) × CanAll true (whats ts)
note_shown (asserts_note at f c) ts h = let r = formula_shown f _ h.1 in (r.0, r.1.1)
note_shown (folds_note at n name a xs b c) ts h = let r = args_shown true xs _ h.1.1.1 in ((h.1.0, r.0), r.1.1.1)
note_shown (unfolds_note at n name a xs b c) ts h = let r = args_shown true xs _ h.1.1.1 in ((h.1.0, r.0), r.1.1.1)

invariant_shown : (i : InvariantText) (ts : List Token) → CanAll true (whats (spell_invariant i ts)) → LegibleInvariant (invariant_of (invariant_tree i)) × CanAll true (whats ts)
invariant_shown i ts h = let r = formula_shown i.formula _ h.1 in (r.0, r.1.1)

invariants_shown : (i : InvariantsText) (ts : List Token) → CanAll false (whats (spell_invariants i ts)) → LegibleInvariants (invariants_of (invariants_tree i)) × CanAll false (whats ts)
invariants_shown i ts h =
    let r = all_shown true spell_invariant invariant_tree invariant_of LegibleInvariant invariant_shown i.clauses (ends_annotation i.e ∷ ts) h.1 in
    (r.0, r.1.1)

clause_shown : (i : ClauseText) (ts : List Token) → CanAll true (whats (spell_clause i ts)) → LegibleClause (clause_of (clause_tree i)) × CanAll true (whats ts)
clause_shown i ts h = let r = formula_shown i.formula _ h.1 in (r.0, r.1.1)

contract_shown : (i : ContractText) (ts : List Token) → CanAll false (whats (spell_contract i ts)) → LegibleContract (contract_of (contract_tree i)) × CanAll false (whats ts)
contract_shown i ts h =
    let r = all_shown true spell_clause clause_tree clause_of LegibleClause clause_shown i.clauses (ends_annotation i.e ∷ ts) h.1 in
    (r.0, r.1.1)

-- ---- statements
simple_shown : (s : SimpleText) (ts : List Token) → CanAll false (whats (spell_simple s ts)) → LegibleSimple (simple_of (simple_tree s)) × CanAll false (whats ts)
simple_shown (declares t n name) ts h = let r = type_shown false t _ h in ((r.0, r.1.0), r.1.1)
simple_shown (declares_as t n name q x) ts h =
    let r = type_shown false t _ h in
    let e = expr_shown false x ts r.1.1.1 in
    ((r.0, r.1.0, e.0), e.1)
simple_shown (assigns x q o y) ts h =
    let r = expr_shown false x _ h in
    let e = expr_shown false y ts r.1.1 in
    ((r.0, e.0), e.1)
simple_shown (steps x q o) ts h = let r = expr_shown false x _ h in (r.0, r.1.1)
simple_shown (evaluates x) ts h = expr_shown false x ts h

option_shown : {A B C : Type 0} (s : A → List Token → List Token) (g : A → B) (f : B → C) (P : C → Type 0) → ((x : A) (ts : List Token) → CanAll false (whats (s x ts)) → P (f (g x)) × CanAll false (whats ts))
    → (x : Option A) (ts : List Token) → CanAll false (whats (spell_option s x ts)) → GoodOption P (tree_option f (tree_option g x)) × CanAll false (whats ts)
option_shown s g f P one None ts h = (tt, h)
option_shown s g f P one (Some x) ts h = one x ts h

mutual
  line_shown : (i : Line) (ts : List Token) → CanAll false (whats (spell_line i ts)) → LegibleLine (line_of (line_tree i)) × CanAll false (whats ts)
  line_shown (simple_line s c) ts h = let r = simple_shown s _ h in (r.0, r.1.1)
  line_shown (braces a ls b) ts h = let r = lines_shown ls _ h.1 in (r.0, r.1.1)
  line_shown (ifs at a x b i) ts h =
      let r = expr_shown false x _ h.1.1 in
      let l = line_shown i ts r.1.1 in
      ((r.0, l.0), l.1)
  line_shown (ifs_else at a x b i e j) ts h =
      let r = expr_shown false x _ h.1.1 in
      let l = line_shown i _ r.1.1 in
      let m = line_shown j ts l.1.1 in
      ((r.0, l.0, m.0), m.1)
  line_shown (whiles at a x b is i) ts h =
      let r = expr_shown false x _ h.1.1 in
      let k = all_shown false spell_invariants invariants_tree invariants_of LegibleInvariants invariants_shown is (spell_line i ts) r.1.1 in
      let l = line_shown i ts k.1 in
      ((r.0, k.0, l.0), l.1)
  line_shown (fors at a s c x d t b is i) ts h =
      let first = option_shown spell_simple simple_tree simple_of LegibleSimple simple_shown s _ h.1.1 in
      let r = expr_shown false x _ first.1.1 in
      let last = option_shown spell_simple simple_tree simple_of LegibleSimple simple_shown t _ r.1.1 in
      let k = all_shown false spell_invariants invariants_tree invariants_of LegibleInvariants invariants_shown is (spell_line i ts) last.1.1 in
      let l = line_shown i ts k.1 in
      ((first.0, r.0, last.0, k.0, l.0), l.1)
  line_shown (returns at x c) ts h = let r = option_shown spell tree_of written (Legible false) (expr_shown false) x _ h.1 in (r.0, r.1.1)
  line_shown (asserts at a x b c) ts h = let r = expr_shown false x _ h.1.1 in (r.0, r.1.1.1)
  line_shown (raises at a t bytes b c) ts h = (h.1.1.0, h.1.1.1.1.1)
  line_shown (notes o ns e) ts h =
      let r = all_shown true spell_note note_tree note_of LegibleNote note_shown ns (ends_annotation e ∷ ts) h.1 in
      (r.0, r.1.1)

  lines_shown : (is : Lines) (ts : List Token) → CanAll false (whats (spell_lines is ts)) → LegibleLines (lines_of (line_trees is)) × CanAll false (whats ts)
  lines_shown no_lines ts h = (tt, h)
  lines_shown (line_and i is) ts h =
      let l = line_shown i (spell_lines is ts) h in
      let k = lines_shown is ts l.1 in
      ((l.0, k.0), k.1)

-- ---- items
param_shown : (inside : Bool) (p : ParamText) (ts : List Token) → CanAll inside (whats (spell_param p ts)) → LegibleParam inside (param_of (param_tree p)) × CanAll inside (whats ts)
param_shown inside p ts h = let r = type_shown inside p.typed _ h in ((r.0, r.1.0), r.1.1)

next_shown : (inside : Bool) (p : NextParam) (ts : List Token) → CanAll inside (whats (spell_next p ts)) → LegibleNext inside (next_of (next_tree p)) × CanAll inside (whats ts)
next_shown inside p ts h = param_shown inside p.param ts h.1

params_shown : (inside : Bool) (ps : Params) (ts : List Token) → CanAll inside (whats (spell_params ps ts)) → LegibleParams inside (params_of (params_trees ps)) × CanAll inside (whats ts)
params_shown inside no_params ts h = (tt, h)
params_shown inside (some_params p ps) ts h =
    let r = param_shown inside p (spell_all spell_next ps ts) h in
    let k = all_shown inside spell_next next_tree next_of (LegibleNext inside) (next_shown inside) ps ts r.1 in
    ((r.0, k.0), k.1)

result_shown : (r : ResultText) (ts : List Token) → CanAll false (whats (spell_result r ts)) → LegibleResult (result_of (result_tree r)) × CanAll false (whats ts)
result_shown (void_word at) ts h = (tt, h.1)
result_shown (gives t) ts h = type_shown false t ts h

head_shown : (i : HeadText) (ts : List Token) → CanAll false (whats (spell_head i ts)) → LegibleHead (head_of (head_tree i)) × CanAll false (whats ts)
head_shown i ts h =
    let r = result_shown i.gives_what _ h in
    let k = params_shown false i.params _ r.1.1.1 in
    (record { gives_what = r.0; name = r.1.0; params = k.0 }, k.1.1)

predicate_shown : (p : PredicateWritten) (ts : List Token) → CanAll true (whats (spell_predicate p ts)) → LegiblePredicate (predicate_of (predicate_tree p)) × CanAll true (whats ts)
predicate_shown p ts h =
    let k = params_shown true p.params _ h.1.1.1 in
    let r = expr_shown true p.body _ k.1.1.1 in
    (record { name = h.1.0; params = k.0; body = r.0 }, r.1.1)

field_shown : (f : FieldText) (ts : List Token) → CanAll false (whats (spell_field f ts)) → LegibleField (field_of (field_tree f)) × CanAll false (whats ts)
field_shown f ts h = let r = type_shown false f.typed _ h in ((r.0, r.1.0), r.1.1.1)

item_shown : (i : ItemText) (ts : List Token) → CanAll false (whats (spell_item i ts)) → LegibleItem (item_of (item_tree i)) × CanAll false (whats ts)
item_shown (names_struct at n name c) ts h = (h.1.0, h.1.1.1)
item_shown (defines_struct at n name a fs b c) ts h =
    let r = all_shown false spell_field field_tree field_of LegibleField field_shown fs _ h.1.1.1 in
    ((h.1.0, r.0), r.1.1.1)
item_shown (defines_type at t n name c) ts h = let r = type_shown false t _ h.1 in ((r.0, r.1.0), r.1.1.1)
item_shown (declares_function i cs c) ts h =
    let r = head_shown i _ h in
    let k = all_shown false spell_contract contract_tree contract_of LegibleContract contract_shown cs _ r.1 in
    ((r.0, k.0), k.1.1)
item_shown (defines_function i cs a ls b) ts h =
    let r = head_shown i _ h in
    let k = all_shown false spell_contract contract_tree contract_of LegibleContract contract_shown cs _ r.1 in
    let l = lines_shown ls _ k.1.1 in
    ((r.0, k.0, l.0), l.1.1)
item_shown (defines_predicates o ps e) ts h =
    let r = all_shown true spell_predicate predicate_tree predicate_of LegiblePredicate predicate_shown ps (ends_annotation e ∷ ts) h.1 in
    (r.0, r.1.1)

uses_shown : (us : List UseText) (ts : List Token) → CanAll false (whats (spell_all spell_use us ts)) → CanAll false (whats ts)
uses_shown [] ts h = h
uses_shown (u ∷ us) ts h = uses_shown us ts h.1.1.1.1

pub program_shown : (p : ProgramText) → CanAll false (whats (spell_program p)) → LegibleProgram (text_of (program_tree p))
program_shown p h =
    let behind = spell_all spell_item p.items (end_token p.last ∷ []) in
    (all_shown false spell_item item_tree item_of LegibleItem item_shown p.items (end_token p.last ∷ []) (uses_shown p.uses behind h)).0
