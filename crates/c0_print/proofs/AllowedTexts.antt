-- What is written for the statements and items of a text that the grammar allows is allowed.
use Rattle.std.proofs.Common.{◌≡◌, ℕ, Bool, true, false, not, List, [], ◌∷◌, map, Option, Some, None, refl, sym, ap, ◌∙◌}
use Rattle.c0_grammar.specs.Lists.{Each}
use Rattle.c0_grammar.specs.Written.{TypeText, Written, tree_of, args_trees}
use Rattle.c0_grammar.specs.Allowed.{code, conjunct, value, Good}
use Rattle.c0_grammar.specs.Texts.{NoteText, asserts_note, folds_note, unfolds_note, note_tree, InvariantText, invariant_tree, InvariantsText, invariants_tree, SimpleText, declares, declares_as, assigns, steps, evaluates, simple_tree, tree_option, Line, simple_line, braces, ifs, ifs_else, whiles, fors, returns, asserts, raises, notes, Lines, no_lines, line_and, line_tree, line_trees, ClauseText, clause_tree, ContractText, contract_tree, ParamText, param_tree, NextParam, next_tree, Params, no_params, some_params, params_trees, ResultText, void_word, gives, result_tree, HeadText, head_tree, PredicateWritten, predicate_tree, FieldText, field_tree, ItemText, names_struct, defines_struct, defines_type, declares_function, defines_function, defines_predicates, item_tree, ProgramText, program_tree}
use Rattle.c0_grammar.specs.Grammar.{GoodNote, GoodInvariant, GoodInvariants, is_place, GoodSimple, is_declaration, GoodOption, GoodLast, is_open, is_body, GoodLine, GoodLines, GoodClause, GoodContract, GoodParam, GoodNext, GoodParams, GoodResult, GoodHead, GoodPredicate, GoodField, GoodItem, names_behind, GoodItems}
use Rattle.c0_print.specs.Printing.{written, note_of, invariant_of, invariants_of, simple_of, line_of, lines_of, clause_of, contract_of, param_of, next_of, params_of, result_of, head_of, predicate_of, field_of, item_of, text_of}
use Rattle.c0_print.proofs.Trees.{expr_again}
use Rattle.c0_print.proofs.Allowed.{place_same, type_good, expr_good, args_good, formula_good}

-- of each part, where it is so of one
each_good : {A B : Type 0} (P : A → Type 0) (tree : A → B) (of : B → A) → ((x : A) → P x → P (of (tree x))) → (xs : List A) → Each P xs → Each P (map of (map tree xs))
each_good P tree of one [] g = g
each_good P tree of one (x ∷ xs) g = (one x g.0, each_good P tree of one xs g.1)

option_good : {A B : Type 0} (P : A → Type 0) (tree : A → B) (of : B → A) → ((x : A) → P x → P (of (tree x))) → (x : Option A) → GoodOption P x → GoodOption P (tree_option of (tree_option tree x))
option_good P tree of one None g = g
option_good P tree of one (Some x) g = one x g

place_again : (x : Written) → is_place (tree_of x) ≡ true → is_place (tree_of (written (tree_of x))) ≡ true
place_again x h = ap is_place (expr_again (tree_of x)) ∙ place_same (tree_of x) ∙ h

pub declaration_same : (s : SimpleText) → is_declaration (simple_of (simple_tree s)) ≡ is_declaration s
declaration_same (declares t n name) = refl
declaration_same (declares_as t n name q x) = refl
declaration_same (assigns x q o y) = refl
declaration_same (steps x q o) = refl
declaration_same (evaluates x) = refl

open_same : (l : Line) → is_open (line_of (line_tree l)) ≡ is_open l
open_same (simple_line s c) = refl
open_same (braces a ls b) = refl
open_same (ifs at a x b l) = refl
open_same (ifs_else at a x b l e m) = open_same m
open_same (whiles at a x b is l) = open_same l
open_same (fors at a s c x d t b is l) = open_same l
open_same (returns at x c) = refl
open_same (asserts at a x b c) = refl
open_same (raises at a t bytes b c) = refl
open_same (notes o ns e) = refl

body_same : (l : Line) → is_body (line_of (line_tree l)) ≡ is_body l
body_same (simple_line s c) = ap not (declaration_same s)
body_same (braces a ls b) = refl
body_same (ifs at a x b l) = refl
body_same (ifs_else at a x b l e m) = refl
body_same (whiles at a x b is l) = refl
body_same (fors at a s c x d t b is l) = refl
body_same (returns at x c) = refl
body_same (asserts at a x b c) = refl
body_same (raises at a t bytes b c) = refl
body_same (notes o [] e) = refl
body_same (notes o (n ∷ ns) e) = refl

module _ (names : List (List ℕ)) where
  note_good : (n : NoteText) → GoodNote names n → GoodNote names (note_of (note_tree n))
  note_good (asserts_note at f c) g = formula_good names f g
  note_good (folds_note at n name a xs b c) g = (g.0, args_good names value xs g.1)
  note_good (unfolds_note at n name a xs b c) g = (g.0, args_good names value xs g.1)

  invariant_good : (i : InvariantText) → GoodInvariant names i → GoodInvariant names (invariant_of (invariant_tree i))
  invariant_good i g = formula_good names i.formula g

  invariants_good : (i : InvariantsText) → GoodInvariants names i → GoodInvariants names (invariants_of (invariants_tree i))
  invariants_good i g = each_good (GoodInvariant names) invariant_tree invariant_of invariant_good i.clauses g

  all_invariants_good : (is : List InvariantsText) → Each (GoodInvariants names) is → Each (GoodInvariants names) (map invariants_of (map invariants_tree is))
  all_invariants_good is g = each_good (GoodInvariants names) invariants_tree invariants_of invariants_good is g

  simple_good : (s : SimpleText) → GoodSimple names s → GoodSimple names (simple_of (simple_tree s))
  simple_good (declares t n name) g = (type_good names t g.0, g.1)
  simple_good (declares_as t n name q x) g = (type_good names t g.0, g.1, expr_good names code x g.2)
  simple_good (assigns x q o y) g = (expr_good names code x g.0, place_again x g.1, expr_good names code y g.2)
  simple_good (steps x q o) g = (expr_good names code x g.0, place_again x g.1)
  simple_good (evaluates x) g = expr_good names code x g

  last_good : (s : SimpleText) → GoodLast names s → GoodLast names (simple_of (simple_tree s))
  last_good s g = (simple_good s g.0, declaration_same s ∙ g.1)

  mutual
    line_good : (l : Line) → GoodLine names l → GoodLine names (line_of (line_tree l))
    line_good (simple_line s c) g = simple_good s g
    line_good (braces a ls b) g = lines_good ls g
    line_good (ifs at a x b l) g = (expr_good names code x g.0, line_good l g.1, body_same l ∙ g.2)
    line_good (ifs_else at a x b l e m) g = (expr_good names code x g.0, line_good l g.1, body_same l ∙ g.2, open_same l ∙ g.3, line_good m g.4, body_same m ∙ g.5)
    line_good (whiles at a x b is l) g = (expr_good names code x g.0, all_invariants_good is g.1, line_good l g.2, body_same l ∙ g.3)
    line_good (fors at a s c x d t b is l) g = (
      option_good (GoodSimple names) simple_tree simple_of simple_good s g.0,
      expr_good names code x g.1,
      option_good (GoodLast names) simple_tree simple_of last_good t g.2,
      all_invariants_good is g.3,
      line_good l g.4,
      body_same l ∙ g.5,
    )
    line_good (returns at x c) g = option_good (Good names code) tree_of written (expr_good names code) x g
    line_good (asserts at a x b c) g = expr_good names code x g
    line_good (raises at a t bytes b c) g = g
    line_good (notes o ns e) g = each_good (GoodNote names) note_tree note_of note_good ns g

    lines_good : (ls : Lines) → GoodLines names ls → GoodLines names (lines_of (line_trees ls))
    lines_good no_lines g = g
    lines_good (line_and l ls) g = (line_good l g.0, lines_good ls g.1)

  clause_good : (i : ClauseText) → GoodClause names i → GoodClause names (clause_of (clause_tree i))
  clause_good i g = formula_good names i.formula g

  contract_good : (i : ContractText) → GoodContract names i → GoodContract names (contract_of (contract_tree i))
  contract_good i g = each_good (GoodClause names) clause_tree clause_of clause_good i.clauses g

  contracts_good : (is : List ContractText) → Each (GoodContract names) is → Each (GoodContract names) (map contract_of (map contract_tree is))
  contracts_good is g = each_good (GoodContract names) contract_tree contract_of contract_good is g

  param_good : (p : ParamText) → GoodParam names p → GoodParam names (param_of (param_tree p))
  param_good p g = (type_good names p.typed g.0, g.1)

  next_good : (p : NextParam) → GoodNext names p → GoodNext names (next_of (next_tree p))
  next_good p g = param_good p.param g

  params_good : (ps : Params) → GoodParams names ps → GoodParams names (params_of (params_trees ps))
  params_good no_params g = g
  params_good (some_params p ps) g = (param_good p g.0, each_good (GoodNext names) next_tree next_of next_good ps g.1)

  result_good : (r : ResultText) → GoodResult names r → GoodResult names (result_of (result_tree r))
  result_good (void_word at) g = g
  result_good (gives t) g = type_good names t g

  head_good : (h : HeadText) → GoodHead names h → GoodHead names (head_of (head_tree h))
  head_good h g = record { gives_what = result_good h.gives_what g.gives_what; name = g.name; params = params_good h.params g.params }

  predicate_good : (p : PredicateWritten) → GoodPredicate names p → GoodPredicate names (predicate_of (predicate_tree p))
  predicate_good p g = record { name = g.name; params = params_good p.params g.params; body = expr_good names conjunct p.body g.body }

  field_good : (f : FieldText) → GoodField names f → GoodField names (field_of (field_tree f))
  field_good f g = type_good names f.typed g

  item_good : (i : ItemText) → GoodItem names i → GoodItem names (item_of (item_tree i))
  item_good (names_struct at n name c) g = g
  item_good (defines_struct at n name a fs b c) g = each_good (GoodField names) field_tree field_of field_good fs g
  item_good (defines_type at t n name c) g = (type_good names t g.0, g.1)
  item_good (declares_function h cs c) g = (head_good h g.0, contracts_good cs g.1)
  item_good (defines_function h cs a ls b) g = (head_good h g.0, contracts_good cs g.1, lines_good ls g.2)
  item_good (defines_predicates o ps e) g = each_good (GoodPredicate names) predicate_tree predicate_of predicate_good ps g

items_good : (names : List (List ℕ)) (is : List ItemText) → GoodItems names is → GoodItems names (map item_of (map item_tree is))
items_good names [] g = g
items_good names (names_struct at n name c ∷ is) g = (item_good names (names_struct at n name c) g.0, items_good names is g.1)
items_good names (defines_struct at n name a fs b c ∷ is) g = (item_good names (defines_struct at n name a fs b c) g.0, items_good names is g.1)
items_good names (defines_type at t n name c ∷ is) g = (item_good names (defines_type at t n name c) g.0, items_good (name ∷ names) is g.1)
items_good names (declares_function h cs c ∷ is) g = (item_good names (declares_function h cs c) g.0, items_good names is g.1)
items_good names (defines_function h cs a ls b ∷ is) g = (item_good names (defines_function h cs a ls b) g.0, items_good names is g.1)
items_good names (defines_predicates o ps e ∷ is) g = (item_good names (defines_predicates o ps e) g.0, items_good names is g.1)

pub program_good : (p : ProgramText) → GoodItems [] p.items → GoodItems [] (text_of (program_tree p)).items
program_good p g = items_good [] p.items g
