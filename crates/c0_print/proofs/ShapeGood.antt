-- Where the tokens stand counts for nothing in what the grammar allows.
use Rattle.std.proofs.Common.{◌≡◌, ℕ, suc, ◌≤◌, Bool, true, false, not, List, [], ◌∷◌, map, Option, Some, None, refl, sym, ap, ◌∙◌, ◌↔◌, subst, arith}
use Rattle.parsed_tree.specs.Tree.{ExprTree}
use Rattle.c0_grammar.specs.Lists.{Each}
use Rattle.c0_grammar.specs.Written.{BaseText, int_word, bool_word, struct_word, alias_word, TypeText, Written, digits, truth_token, null_token, word, result_word, before, between, choice, round, called, called_text, allocated, arrow_to, permission, Args, no_args, some_args, More, no_more, more_and, tree_of, FormulaText, unknown, unknown_and, known}
use Rattle.c0_grammar.specs.Allowed.{rank, ranks, height, is_primary, is_path, Mode, code, conjunct, value, inside, right_of, is_value, left_fits, condition_fits, base_fits, GoodBase, GoodType, Good, GoodArgs, GoodMore, GoodFormula}
use Rattle.c0_grammar.specs.Texts.{NoteText, asserts_note, folds_note, unfolds_note, InvariantText, InvariantsText, SimpleText, declares, declares_as, assigns, steps, evaluates, tree_option, Line, simple_line, braces, ifs, ifs_else, whiles, fors, returns, asserts, raises, notes, Lines, no_lines, line_and, ClauseText, ContractText, ParamText, NextParam, Params, no_params, some_params, ResultText, void_word, gives, HeadText, PredicateWritten, FieldText, ItemText, names_struct, defines_struct, defines_type, declares_function, defines_function, defines_predicates, ProgramText}
use Rattle.c0_grammar.specs.Grammar.{GoodNote, GoodInvariant, GoodInvariants, is_place, GoodSimple, is_declaration, GoodOption, GoodLast, is_open, is_body, GoodLine, GoodLines, GoodClause, GoodContract, GoodParam, GoodNext, GoodParams, GoodResult, GoodHead, GoodPredicate, GoodField, GoodItem, names_behind, GoodItems}
use Rattle.c0_print.proofs.Allowed.{value_same, place_same, left_same, condition_same}
use Rattle.c0_print.proofs.Shapes.{shape_base, shape_type, shape_expr, shape_args, shape_more, shape_formula, shape_note, shape_invariant, shape_invariants, shape_simple, shape_line, shape_lines, shape_clause, shape_contract, shape_param, shape_next, shape_params, shape_result, shape_head, shape_predicate, shape_field, shape_item}
use Rattle.c0_print.proofs.ShapeTrees.{tree_shape}

height_shape : (w : Written) → height (shape_expr w) ≡ height w
height_shape (digits at w) = refl
height_shape (truth_token at b) = refl
height_shape (null_token at) = refl
height_shape (word at n) = refl
height_shape (result_word at) = refl
height_shape (before at o x) = refl
height_shape (between x at o y) = refl
height_shape (choice x q y c z) = refl
height_shape (round a x b) = refl
height_shape (called at n a xs b) = refl
height_shape (called_text at n a t bytes b) = refl
height_shape (allocated at a t b) = refl
height_shape (arrow_to x at f n) = refl
height_shape (permission at a x p f n b) = refl

primary_shape : (w : Written) → is_primary (shape_expr w) ≡ is_primary w
primary_shape (digits at w) = refl
primary_shape (truth_token at b) = refl
primary_shape (null_token at) = refl
primary_shape (word at n) = refl
primary_shape (result_word at) = refl
primary_shape (before at o x) = refl
primary_shape (between x at o y) = refl
primary_shape (choice x q y c z) = refl
primary_shape (round a x b) = refl
primary_shape (called at n a xs b) = refl
primary_shape (called_text at n a t bytes b) = refl
primary_shape (allocated at a t b) = refl
primary_shape (arrow_to x at f n) = refl
primary_shape (permission at a x p f n b) = refl

path_shape : (w : Written) → is_path (shape_expr w) ≡ is_path w
path_shape (digits at w) = refl
path_shape (truth_token at b) = refl
path_shape (null_token at) = refl
path_shape (word at n) = refl
path_shape (result_word at) = refl
path_shape (before at o x) = refl
path_shape (between x at o y) = refl
path_shape (choice x q y c z) = refl
path_shape (round a x b) = refl
path_shape (called at n a xs b) = refl
path_shape (called_text at n a t bytes b) = refl
path_shape (allocated at a t b) = refl
path_shape (arrow_to x at f n) = path_shape x
path_shape (permission at a x p f n b) = refl

base_shape : (m : Mode) (w : Written) → base_fits m (shape_expr w) ≡ base_fits m w
base_shape code w = primary_shape w
base_shape conjunct w = path_shape w
base_shape value w = path_shape w

value_shape : (w : Written) → is_value (tree_of (shape_expr w)) ≡ is_value (tree_of w)
value_shape w = ap is_value (tree_shape w) ∙ value_same (tree_of w)

pub place_shape : (w : Written) → is_place (tree_of (shape_expr w)) ≡ is_place (tree_of w)
place_shape w = ap is_place (tree_shape w) ∙ place_same (tree_of w)

le_by : (a b k : ℕ) → a ≡ b → b ≤ k → a ≤ k
le_by a b k e h = omega arith

-- one as the other
to : {A B : Type 0} → A ↔ B → A → B
to e = e.0

fro : {A B : Type 0} → A ↔ B → B → A
fro e = e.1

module _ (names : List (List ℕ)) where
  base_two : (b : BaseText) → GoodBase names (shape_base b) ↔ GoodBase names b
  base_two (int_word at) = (λ g. g, λ g. g)
  base_two (bool_word at) = (λ g. g, λ g. g)
  base_two (struct_word at n name) = (λ g. g, λ g. g)
  base_two (alias_word at name) = (λ g. g, λ g. g)

  type_two : (t : TypeText) → GoodType names (shape_type t) ↔ GoodType names t
  type_two t = base_two t.base

  mutual
    expr_two : (m : Mode) (w : Written) → Good names m (shape_expr w) ↔ Good names m w
    expr_two m (digits at w) = (λ g. g, λ g. g)
    expr_two m (truth_token at b) = (λ g. g, λ g. g)
    expr_two m (null_token at) = (λ g. g, λ g. g)
    expr_two m (word at n) = (λ g. g, λ g. g)
    expr_two m (result_word at) = (λ g. g, λ g. g)
    expr_two m (before at o x) = (
      λ g. (to (expr_two (inside m) x) g.0, sym (height_shape x) ∙ g.1),
      λ g. (fro (expr_two (inside m) x) g.0, height_shape x ∙ g.1),
    )
    expr_two m (between x at o y) =
        let f = left_same m o (tree_of (shape_expr x)) (tree_of x) (value_shape x) in (
          λ g. (to (expr_two m x) g.0, to (expr_two (right_of m o) y) g.1, le_by (height x) (height (shape_expr x)) (suc (rank o)) (sym (height_shape x)) g.2, le_by (height y) (height (shape_expr y)) (rank o) (sym (height_shape y)) g.3, g.4, sym f ∙ g.5),
          λ g. (fro (expr_two m x) g.0, fro (expr_two (right_of m o) y) g.1, le_by (height (shape_expr x)) (height x) (suc (rank o)) (height_shape x) g.2, le_by (height (shape_expr y)) (height y) (rank o) (height_shape y) g.3, g.4, f ∙ g.5),
        )
    expr_two m (choice x q y c z) =
        let f = condition_same m (tree_of (shape_expr x)) (tree_of x) (value_shape x) in (
          λ g. (to (expr_two m x) g.0, to (expr_two m y) g.1, to (expr_two m z) g.2, le_by (height x) (height (shape_expr x)) ranks (sym (height_shape x)) g.3, sym f ∙ g.4),
          λ g. (fro (expr_two m x) g.0, fro (expr_two m y) g.1, fro (expr_two m z) g.2, le_by (height (shape_expr x)) (height x) ranks (height_shape x) g.3, f ∙ g.4),
        )
    expr_two m (round a x b) = expr_two m x
    expr_two m (called at n a xs b) = (λ g. (g.0, g.1, to (args_two (inside m) xs) g.2), λ g. (g.0, g.1, fro (args_two (inside m) xs) g.2))
    expr_two m (called_text at n a t bytes b) = (λ g. g, λ g. g)
    expr_two m (allocated at a t b) = (λ g. (g.0, to (type_two t) g.1), λ g. (g.0, fro (type_two t) g.1))
    expr_two m (arrow_to x at f n) = (λ g. (to (expr_two m x) g.0, sym (base_shape m x) ∙ g.1), λ g. (fro (expr_two m x) g.0, base_shape m x ∙ g.1))
    expr_two m (permission at a x p f n b) = (λ g. (g.0, to (expr_two value x) g.1, sym (path_shape x) ∙ g.2), λ g. (g.0, fro (expr_two value x) g.1, path_shape x ∙ g.2))

    args_two : (m : Mode) (xs : Args) → GoodArgs names m (shape_args xs) ↔ GoodArgs names m xs
    args_two m no_args = (λ g. g, λ g. g)
    args_two m (some_args x xs) = (λ g. (to (expr_two m x) g.0, to (more_two m xs) g.1), λ g. (fro (expr_two m x) g.0, fro (more_two m xs) g.1))

    more_two : (m : Mode) (xs : More) → GoodMore names m (shape_more xs) ↔ GoodMore names m xs
    more_two m no_more = (λ g. g, λ g. g)
    more_two m (more_and at x xs) = (λ g. (to (expr_two m x) g.0, to (more_two m xs) g.1), λ g. (fro (expr_two m x) g.0, fro (more_two m xs) g.1))

  formula_two : (f : FormulaText) → GoodFormula names (shape_formula f) ↔ GoodFormula names f
  formula_two (unknown at) = (λ g. g, λ g. g)
  formula_two (unknown_and at a x) = expr_two conjunct x
  formula_two (known x) = expr_two conjunct x

-- ---- of each part, where it is so of one
each_two : {A : Type 0} (P : A → Type 0) (s : A → A) → ((x : A) → P (s x) ↔ P x) → (xs : List A) → Each P (map s xs) ↔ Each P xs
each_two P s one [] = (λ g. g, λ g. g)
each_two P s one (x ∷ xs) = (λ g. (to (one x) g.0, to (each_two P s one xs) g.1), λ g. (fro (one x) g.0, fro (each_two P s one xs) g.1))

option_two : {A : Type 0} (P : A → Type 0) (s : A → A) → ((x : A) → P (s x) ↔ P x) → (x : Option A) → GoodOption P (tree_option s x) ↔ GoodOption P x
option_two P s one None = (λ g. g, λ g. g)
option_two P s one (Some x) = one x

declaration_shape : (s : SimpleText) → is_declaration (shape_simple s) ≡ is_declaration s
declaration_shape (declares t n name) = refl
declaration_shape (declares_as t n name q x) = refl
declaration_shape (assigns x q o y) = refl
declaration_shape (steps x q o) = refl
declaration_shape (evaluates x) = refl

open_shape : (l : Line) → is_open (shape_line l) ≡ is_open l
open_shape (simple_line s c) = refl
open_shape (braces a ls b) = refl
open_shape (ifs at a x b l) = refl
open_shape (ifs_else at a x b l e m) = open_shape m
open_shape (whiles at a x b is l) = open_shape l
open_shape (fors at a s c x d t b is l) = open_shape l
open_shape (returns at x c) = refl
open_shape (asserts at a x b c) = refl
open_shape (raises at a t bytes b c) = refl
open_shape (notes o ns e) = refl

body_shape : (l : Line) → is_body (shape_line l) ≡ is_body l
body_shape (simple_line s c) = ap not (declaration_shape s)
body_shape (braces a ls b) = refl
body_shape (ifs at a x b l) = refl
body_shape (ifs_else at a x b l e m) = refl
body_shape (whiles at a x b is l) = refl
body_shape (fors at a s c x d t b is l) = refl
body_shape (returns at x c) = refl
body_shape (asserts at a x b c) = refl
body_shape (raises at a t bytes b c) = refl
body_shape (notes o [] e) = refl
body_shape (notes o (n ∷ ns) e) = refl

module _ (names : List (List ℕ)) where
  note_two : (n : NoteText) → GoodNote names (shape_note n) ↔ GoodNote names n
  note_two (asserts_note at f c) = formula_two names f
  note_two (folds_note at n name a xs b c) = (λ g. (g.0, to (args_two names value xs) g.1), λ g. (g.0, fro (args_two names value xs) g.1))
  note_two (unfolds_note at n name a xs b c) = (λ g. (g.0, to (args_two names value xs) g.1), λ g. (g.0, fro (args_two names value xs) g.1))

  invariant_two : (i : InvariantText) → GoodInvariant names (shape_invariant i) ↔ GoodInvariant names i
  invariant_two i = formula_two names i.formula

  invariants_two : (i : InvariantsText) → GoodInvariants names (shape_invariants i) ↔ GoodInvariants names i
  invariants_two i = each_two (GoodInvariant names) shape_invariant invariant_two i.clauses

  all_two : (is : List InvariantsText) → Each (GoodInvariants names) (map shape_invariants is) ↔ Each (GoodInvariants names) is
  all_two is = each_two (GoodInvariants names) shape_invariants invariants_two is

  simple_two : (s : SimpleText) → GoodSimple names (shape_simple s) ↔ GoodSimple names s
  simple_two (declares t n name) = (λ g. (to (type_two names t) g.0, g.1), λ g. (fro (type_two names t) g.0, g.1))
  simple_two (declares_as t n name q x) =
      (λ g. (to (type_two names t) g.0, g.1, to (expr_two names code x) g.2), λ g. (fro (type_two names t) g.0, g.1, fro (expr_two names code x) g.2))
  simple_two (assigns x q o y) = (
    λ g. (to (expr_two names code x) g.0, sym (place_shape x) ∙ g.1, to (expr_two names code y) g.2),
    λ g. (fro (expr_two names code x) g.0, place_shape x ∙ g.1, fro (expr_two names code y) g.2),
  )
  simple_two (steps x q o) = (λ g. (to (expr_two names code x) g.0, sym (place_shape x) ∙ g.1), λ g. (fro (expr_two names code x) g.0, place_shape x ∙ g.1))
  simple_two (evaluates x) = expr_two names code x

  last_two : (s : SimpleText) → GoodLast names (shape_simple s) ↔ GoodLast names s
  last_two s = (λ g. (to (simple_two s) g.0, sym (declaration_shape s) ∙ g.1), λ g. (fro (simple_two s) g.0, declaration_shape s ∙ g.1))

  mutual
    line_two : (l : Line) → GoodLine names (shape_line l) ↔ GoodLine names l
    line_two (simple_line s c) = simple_two s
    line_two (braces a ls b) = lines_two ls
    line_two (ifs at a x b l) = (
      λ g. (to (expr_two names code x) g.0, to (line_two l) g.1, sym (body_shape l) ∙ g.2),
      λ g. (fro (expr_two names code x) g.0, fro (line_two l) g.1, body_shape l ∙ g.2),
    )
    line_two (ifs_else at a x b l e m) = (
      λ g. (to (expr_two names code x) g.0, to (line_two l) g.1, sym (body_shape l) ∙ g.2, sym (open_shape l) ∙ g.3, to (line_two m) g.4, sym (body_shape m) ∙ g.5),
      λ g. (fro (expr_two names code x) g.0, fro (line_two l) g.1, body_shape l ∙ g.2, open_shape l ∙ g.3, fro (line_two m) g.4, body_shape m ∙ g.5),
    )
    line_two (whiles at a x b is l) = (
      λ g. (to (expr_two names code x) g.0, to (all_two is) g.1, to (line_two l) g.2, sym (body_shape l) ∙ g.3),
      λ g. (fro (expr_two names code x) g.0, fro (all_two is) g.1, fro (line_two l) g.2, body_shape l ∙ g.3),
    )
    line_two (fors at a s c x d t b is l) =
        let u = option_two (GoodSimple names) shape_simple simple_two s in
        let v = option_two (GoodLast names) shape_simple last_two t in (
          λ g. (to u g.0, to (expr_two names code x) g.1, to v g.2, to (all_two is) g.3, to (line_two l) g.4, sym (body_shape l) ∙ g.5),
          λ g. (fro u g.0, fro (expr_two names code x) g.1, fro v g.2, fro (all_two is) g.3, fro (line_two l) g.4, body_shape l ∙ g.5),
        )
    line_two (returns at x c) = option_two (Good names code) shape_expr (expr_two names code) x
    line_two (asserts at a x b c) = expr_two names code x
    line_two (raises at a t bytes b c) = (λ g. g, λ g. g)
    line_two (notes o ns e) = each_two (GoodNote names) shape_note note_two ns

    lines_two : (ls : Lines) → GoodLines names (shape_lines ls) ↔ GoodLines names ls
    lines_two no_lines = (λ g. g, λ g. g)
    lines_two (line_and l ls) = (λ g. (to (line_two l) g.0, to (lines_two ls) g.1), λ g. (fro (line_two l) g.0, fro (lines_two ls) g.1))

  clause_two : (i : ClauseText) → GoodClause names (shape_clause i) ↔ GoodClause names i
  clause_two i = formula_two names i.formula

  contract_two : (i : ContractText) → GoodContract names (shape_contract i) ↔ GoodContract names i
  contract_two i = each_two (GoodClause names) shape_clause clause_two i.clauses

  contracts_two : (is : List ContractText) → Each (GoodContract names) (map shape_contract is) ↔ Each (GoodContract names) is
  contracts_two is = each_two (GoodContract names) shape_contract contract_two is

  param_two : (p : ParamText) → GoodParam names (shape_param p) ↔ GoodParam names p
  param_two p = (λ g. (to (type_two names p.typed) g.0, g.1), λ g. (fro (type_two names p.typed) g.0, g.1))

  next_two : (p : NextParam) → GoodNext names (shape_next p) ↔ GoodNext names p
  next_two p = param_two p.param

  params_two : (ps : Params) → GoodParams names (shape_params ps) ↔ GoodParams names ps
  params_two no_params = (λ g. g, λ g. g)
  params_two (some_params p ps) =
      let u = each_two (GoodNext names) shape_next next_two ps in
      (λ g. (to (param_two p) g.0, to u g.1), λ g. (fro (param_two p) g.0, fro u g.1))

  result_two : (r : ResultText) → GoodResult names (shape_result r) ↔ GoodResult names r
  result_two (void_word at) = (λ g. g, λ g. g)
  result_two (gives t) = type_two names t

  head_two : (h : HeadText) → GoodHead names (shape_head h) ↔ GoodHead names h
  head_two h = (
    λ g. record { gives_what = to (result_two h.gives_what) g.gives_what; name = g.name; params = to (params_two h.params) g.params },
    λ g. record { gives_what = fro (result_two h.gives_what) g.gives_what; name = g.name; params = fro (params_two h.params) g.params },
  )

  predicate_two : (p : PredicateWritten) → GoodPredicate names (shape_predicate p) ↔ GoodPredicate names p
  predicate_two p = (
    λ g. record { name = g.name; params = to (params_two p.params) g.params; body = to (expr_two names conjunct p.body) g.body },
    λ g. record { name = g.name; params = fro (params_two p.params) g.params; body = fro (expr_two names conjunct p.body) g.body },
  )

  field_two : (f : FieldText) → GoodField names (shape_field f) ↔ GoodField names f
  field_two f = type_two names f.typed

  item_two : (i : ItemText) → GoodItem names (shape_item i) ↔ GoodItem names i
  item_two (names_struct at n name c) = (λ g. g, λ g. g)
  item_two (defines_struct at n name a fs b c) = each_two (GoodField names) shape_field field_two fs
  item_two (defines_type at t n name c) = (λ g. (to (type_two names t) g.0, g.1), λ g. (fro (type_two names t) g.0, g.1))
  item_two (declares_function h cs c) = (λ g. (to (head_two h) g.0, to (contracts_two cs) g.1), λ g. (fro (head_two h) g.0, fro (contracts_two cs) g.1))
  item_two (defines_function h cs a ls b) =
      (λ g. (to (head_two h) g.0, to (contracts_two cs) g.1, to (lines_two ls) g.2), λ g. (fro (head_two h) g.0, fro (contracts_two cs) g.1, fro (lines_two ls) g.2))
  item_two (defines_predicates o ps e) = each_two (GoodPredicate names) shape_predicate predicate_two ps

behind_shape : (names : List (List ℕ)) (i : ItemText) → names_behind names (shape_item i) ≡ names_behind names i
behind_shape names (names_struct at n name c) = refl
behind_shape names (defines_struct at n name a fs b c) = refl
behind_shape names (defines_type at t n name c) = refl
behind_shape names (declares_function h cs c) = refl
behind_shape names (defines_function h cs a ls b) = refl
behind_shape names (defines_predicates o ps e) = refl

items_along : (a b : List (List ℕ)) (is : List ItemText) → a ≡ b → GoodItems a is → GoodItems b is
items_along a b is e g = let P : List (List ℕ) → Type 0 = λ names. GoodItems names is in subst P e g

pub items_two : (names : List (List ℕ)) (is : List ItemText) → GoodItems names (map shape_item is) ↔ GoodItems names is
items_two names [] = (λ g. g, λ g. g)
items_two names (i ∷ is) =
    let u = items_two (names_behind names i) is in (
      λ g. (to (item_two names i) g.0, to u (items_along (names_behind names (shape_item i)) (names_behind names i) (map shape_item is) (behind_shape names i) g.1)),
      λ g. (fro (item_two names i) g.0, items_along (names_behind names i) (names_behind names (shape_item i)) (map shape_item is) (sym (behind_shape names i)) (fro u g.1)),
    )
