-- Where the tokens stand counts for nothing: neither for the tree, places aside, nor for its depth.
use Rattle.std.proofs.Common.{◌≡◌, ℕ, suc, ◌+◌, max, true, false, List, [], ◌∷◌, map, length, Option, Some, None, refl, sym, ap, ◌∙◌}
use Rattle.gc0_base.specs.declared.place.Place.{Place}
use Rattle.parsed_tree.specs.declared.expressions.TypeName.{TypeName}
use Rattle.parsed_tree.specs.declared.expressions.Operator.{Operator}
use Rattle.parsed_tree.specs.declared.items.Param.{Param}
use Rattle.parsed_tree.specs.declared.items.Field.{Field}
use Rattle.parsed_tree.specs.declared.items.Head.{Head}
use Rattle.parsed_tree.specs.declared.items.ResultType.TheVariants as result
use Rattle.parsed_tree.specs.Tree.{ExprTree, number, truth, null, local, outcome, unary, binary, choose, arrow, call, call_text, alloc, acc, ExprTrees, no_exprs, expr_and, from, FormulaTree, InstanceTree, NoteTree, assert_note, fold_note, unfold_note, InvariantTree, InvariantsTree, declare, assign, stepped, plain, ClauseTree, ContractTree, PredicateTree, ProgramTree}
use Rattle.c0_grammar.specs.Lists.{depth_all}
use Rattle.c0_grammar.specs.Written.{BaseText, int_word, bool_word, struct_word, alias_word, TypeText, type_tree, base_tree, named_at, joined, chosen, pointed, Written, digits, truth_token, null_token, word, result_word, before, between, choice, round, called, called_text, allocated, arrow_to, permission, Args, no_args, some_args, More, no_more, more_and, tree_of, args_trees, more_trees, depth, depth_args, depth_more, FormulaText, unknown, unknown_and, known, formula_tree, depth_formula}
use Rattle.c0_grammar.specs.Texts.{NoteText, asserts_note, folds_note, unfolds_note, note_tree, depth_note, InvariantText, invariant_tree, depth_invariant, InvariantsText, invariants_tree, depth_invariants, SimpleText, declares, declares_as, assigns, steps, evaluates, simple_tree, depth_simple, tree_option, depth_option, Line, simple_line, braces, ifs, ifs_else, whiles, fors, returns, asserts, raises, notes, Lines, no_lines, line_and, line_tree, line_trees, depth_notes, depth_line, depth_lines, ClauseText, clause_tree, depth_clause, ContractText, contract_tree, depth_contract, ParamText, param_tree, NextParam, next_tree, Params, no_params, some_params, params_trees, ResultText, void_word, gives, result_tree, HeadText, head_tree, PredicateWritten, predicate_tree, depth_predicate, FieldText, field_tree, ItemText, names_struct, defines_struct, defines_type, declares_function, defines_function, defines_predicates, item_tree, depth_item, UseText, use_tree, ProgramText, program_tree, depth_program}
use Rattle.c0_layout.specs.Rounding.{nowhere}
use Rattle.c0_print.specs.Erased.{no_spot, erased_name, erased_base, erased_type, erased, all_erased, erased_formula, erased_note, erased_invariant, erased_invariants, erased_simple, erased_stmt, erased_stmts, erased_clause, erased_contract, erased_param, erased_field, erased_result, erased_head, erased_predicate, erased_item, erased_program}
use Rattle.c0_print.proofs.Trees.{from_nowhere, joined_nowhere, chosen_nowhere, pointed_nowhere}
use Rattle.c0_print.proofs.Shapes.{shape_star, shape_base, shape_type, shape_expr, shape_args, shape_more, shape_formula, shape_note, shape_invariant, shape_invariants, shape_simple, shape_line, shape_lines, shape_clause, shape_contract, shape_param, shape_next, shape_params, shape_result, shape_head, shape_predicate, shape_field, shape_item, shape_use, shape_program}

many_same : {A : Type 0} (s : A → A) (xs : List A) → length (map s xs) ≡ length xs
many_same s [] = refl
many_same s (x ∷ xs) = ap (λ n. suc n) (many_same s xs)

pub type_shape : (t : TypeText) → type_tree (shape_type t) ≡ erased_type (type_tree t)
type_shape t = by t.base t.stars
  where
    of : (stars : List Place) (b : BaseText) → (let u : TypeName = record { place = nowhere; base = base_tree (shape_base b); stars = length (map shape_star stars) } in let v : TypeName = record { place = nowhere; base = base_tree (shape_base b); stars = length stars } in u ≡ v)
    of stars b = ap (λ n. let u : TypeName = record { place = nowhere; base = base_tree (shape_base b); stars = n } in u) (many_same shape_star stars)

    by : (b : BaseText) (stars : List Place) → (let t : TypeText = record { base = b; stars = stars } in type_tree (shape_type t) ≡ erased_type (type_tree t))
    by (int_word at) stars = of stars (int_word at)
    by (bool_word at) stars = of stars (bool_word at)
    by (struct_word at n name) stars = of stars (struct_word at n name)
    by (alias_word at name) stars = of stars (alias_word at name)

erased_from : (a : Place) (e : ExprTree) → erased (from a e) ≡ erased e
erased_from a (number s w) = refl
erased_from a (truth s b) = refl
erased_from a (null s) = refl
erased_from a (local s n) = refl
erased_from a (outcome s) = refl
erased_from a (unary s o x) = refl
erased_from a (binary s o x y) = refl
erased_from a (choose s x y z) = refl
erased_from a (arrow s x n) = refl
erased_from a (call s n xs) = refl
erased_from a (call_text s n t) = refl
erased_from a (alloc s t) = refl
erased_from a (acc s x p n) = refl

mutual
  pub tree_shape : (w : Written) → tree_of (shape_expr w) ≡ erased (tree_of w)
  tree_shape (digits at w) = refl
  tree_shape (truth_token at b) = refl
  tree_shape (null_token at) = refl
  tree_shape (word at n) = refl
  tree_shape (result_word at) = refl
  tree_shape (before at o x) = ap (λ t. unary no_spot o t) (tree_shape x)
  tree_shape (between x at o y) =
      ap (λ t. joined nowhere o t (tree_of (shape_expr y))) (tree_shape x)
      ∙ ap (λ t. joined nowhere o (erased (tree_of x)) t) (tree_shape y)
      ∙ joined_nowhere o (tree_of x) (tree_of y)
  tree_shape (choice x q y c z) =
      ap (λ t. chosen nowhere t (tree_of (shape_expr y)) (tree_of (shape_expr z))) (tree_shape x)
      ∙ ap (λ t. chosen nowhere (erased (tree_of x)) t (tree_of (shape_expr z))) (tree_shape y)
      ∙ ap (λ t. chosen nowhere (erased (tree_of x)) (erased (tree_of y)) t) (tree_shape z)
      ∙ chosen_nowhere (tree_of x) (tree_of y) (tree_of z)
  tree_shape (round a x b) = ap (from nowhere) (tree_shape x) ∙ from_nowhere (tree_of x) ∙ sym (erased_from a (tree_of x))
  tree_shape (called at n a xs b) = ap (λ t. call no_spot n t) (args_shape xs)
  tree_shape (called_text at n a t bytes b) = refl
  tree_shape (allocated at a t b) = ap (λ u. alloc no_spot u) (type_shape t)
  tree_shape (arrow_to x at f n) = ap (λ t. pointed nowhere t (named_at nowhere n)) (tree_shape x) ∙ pointed_nowhere (tree_of x) n
  tree_shape (permission at a x p f n b) = ap (λ t. acc no_spot t nowhere (named_at nowhere n)) (tree_shape x)

  pub args_shape : (xs : Args) → args_trees (shape_args xs) ≡ all_erased (args_trees xs)
  args_shape no_args = refl
  args_shape (some_args x xs) = ap (λ t. expr_and t (more_trees (shape_more xs))) (tree_shape x) ∙ ap (λ t. expr_and (erased (tree_of x)) t) (more_shape xs)

  pub more_shape : (xs : More) → more_trees (shape_more xs) ≡ all_erased (more_trees xs)
  more_shape no_more = refl
  more_shape (more_and at x xs) = ap (λ t. expr_and t (more_trees (shape_more xs))) (tree_shape x) ∙ ap (λ t. expr_and (erased (tree_of x)) t) (more_shape xs)

-- ---- of each part, where it is so of one
each_shape : {A B : Type 0} (tree : A → B) (s : A → A) (aside : B → B) → ((x : A) → tree (s x) ≡ aside (tree x)) → (xs : List A) → map tree (map s xs) ≡ map aside (map tree xs)
each_shape tree s aside one [] = refl
each_shape tree s aside one (x ∷ xs) = ap (λ y. y ∷ map tree (map s xs)) (one x) ∙ ap (λ ys. aside (tree x) ∷ ys) (each_shape tree s aside one xs)

option_shape : {A B : Type 0} (tree : A → B) (s : A → A) (aside : B → B) → ((x : A) → tree (s x) ≡ aside (tree x)) → (x : Option A) → tree_option tree (tree_option s x) ≡ tree_option aside (tree_option tree x)
option_shape tree s aside one None = refl
option_shape tree s aside one (Some x) = ap Some (one x)

formula_shape : (f : FormulaText) → formula_tree (shape_formula f) ≡ erased_formula (formula_tree f)
formula_shape (unknown at) = refl
formula_shape (unknown_and at a x) = ap (λ t. let f : FormulaTree = record { imprecise = true; parts = Some t } in f) (tree_shape x)
formula_shape (known x) = ap (λ t. let f : FormulaTree = record { imprecise = false; parts = Some t } in f) (tree_shape x)

note_shape : (n : NoteText) → note_tree (shape_note n) ≡ erased_note (note_tree n)
note_shape (asserts_note at f c) = ap (λ t. let n : NoteTree = record { place = nowhere; form = assert_note t } in n) (formula_shape f)
note_shape (folds_note at n name a xs b c) = ap (λ t. let i : InstanceTree = record { name = named_at nowhere name; arguments = t } in let m : NoteTree = record { place = nowhere; form = fold_note i } in m) (args_shape xs)
note_shape (unfolds_note at n name a xs b c) = ap (λ t. let i : InstanceTree = record { name = named_at nowhere name; arguments = t } in let m : NoteTree = record { place = nowhere; form = unfold_note i } in m) (args_shape xs)

invariant_shape : (i : InvariantText) → invariant_tree (shape_invariant i) ≡ erased_invariant (invariant_tree i)
invariant_shape i = ap (λ t. let j : InvariantTree = record { place = nowhere; formula = t } in j) (formula_shape i.formula)

invariants_shape : (i : InvariantsText) → invariants_tree (shape_invariants i) ≡ erased_invariants (invariants_tree i)
invariants_shape i = ap (λ t. let j : InvariantsTree = record { place = nowhere; clauses = t } in j) (each_shape invariant_tree shape_invariant erased_invariant invariant_shape i.clauses)

simple_shape : (s : SimpleText) → simple_tree (shape_simple s) ≡ erased_simple (simple_tree s)
simple_shape (declares t n name) = ap (λ u. declare u (named_at nowhere name) None) (type_shape t)
simple_shape (declares_as t n name q x) =
    ap (λ u. declare u (named_at nowhere name) (Some (nowhere, tree_of (shape_expr x)))) (type_shape t)
    ∙ ap (λ u. declare (erased_type (type_tree t)) (named_at nowhere name) (Some (nowhere, u))) (tree_shape x)
simple_shape (assigns x q o y) = ap (λ u. assign u nowhere o (tree_of (shape_expr y))) (tree_shape x) ∙ ap (λ u. assign (erased (tree_of x)) nowhere o u) (tree_shape y)
simple_shape (steps x q o) = ap (λ u. stepped u nowhere o) (tree_shape x)
simple_shape (evaluates x) = ap plain (tree_shape x)

mutual
  line_shape : (l : Line) → line_tree (shape_line l) ≡ erased_stmt (line_tree l)
  line_shape (simple_line s c) = cc (simple_shape s)
  line_shape (braces a ls b) = cc (lines_shape ls)
  line_shape (ifs at a x b l) = cc (tree_shape x, line_shape l)
  line_shape (ifs_else at a x b l e m) = cc (tree_shape x, line_shape l, line_shape m)
  line_shape (whiles at a x b is l) = cc (tree_shape x, each_shape invariants_tree shape_invariants erased_invariants invariants_shape is, line_shape l)
  line_shape (fors at a s c x d t b is l) = cc (option_shape simple_tree shape_simple erased_simple simple_shape s, tree_shape x, option_shape simple_tree shape_simple erased_simple simple_shape t, each_shape invariants_tree shape_invariants erased_invariants invariants_shape is, line_shape l)
  line_shape (returns at x c) = cc (option_shape tree_of shape_expr erased tree_shape x)
  line_shape (asserts at a x b c) = cc (tree_shape x)
  line_shape (raises at a t bytes b c) = refl
  line_shape (notes o ns e) = cc (each_shape note_tree shape_note erased_note note_shape ns)

  lines_shape : (ls : Lines) → line_trees (shape_lines ls) ≡ erased_stmts (line_trees ls)
  lines_shape no_lines = refl
  lines_shape (line_and l ls) = cc (line_shape l, lines_shape ls)

clause_shape : (i : ClauseText) → clause_tree (shape_clause i) ≡ erased_clause (clause_tree i)
clause_shape i = ap (λ t. let j : ClauseTree = record { place = nowhere; side = i.side; formula = t } in j) (formula_shape i.formula)

contract_shape : (i : ContractText) → contract_tree (shape_contract i) ≡ erased_contract (contract_tree i)
contract_shape i = ap (λ t. let j : ContractTree = record { place = nowhere; clauses = t } in j) (each_shape clause_tree shape_clause erased_clause clause_shape i.clauses)

param_shape : (p : ParamText) → param_tree (shape_param p) ≡ erased_param (param_tree p)
param_shape p = ap (λ t. let q : Param = record { typed = t; name = named_at nowhere p.name } in q) (type_shape p.typed)

next_shape : (p : NextParam) → next_tree (shape_next p) ≡ erased_param (next_tree p)
next_shape p = param_shape p.param

params_shape : (ps : Params) → params_trees (shape_params ps) ≡ map erased_param (params_trees ps)
params_shape no_params = refl
params_shape (some_params p ps) = cc (param_shape p, each_shape next_tree shape_next erased_param next_shape ps)

result_shape : (r : ResultText) → result_tree (shape_result r) ≡ erased_result (result_tree r)
result_shape (void_word at) = refl
result_shape (gives t) = ap result.Typed (type_shape t)

head_shape : (h : HeadText) → head_tree (shape_head h) ≡ erased_head (head_tree h)
head_shape h =
    ap (λ r. let g : Head = record { result = r; name = named_at nowhere h.name; params = params_trees (shape_params h.params) } in g) (result_shape h.gives_what)
    ∙ ap (λ ps. let g : Head = record { result = erased_result (result_tree h.gives_what); name = named_at nowhere h.name; params = ps } in g) (params_shape h.params)

predicate_shape : (p : PredicateWritten) → predicate_tree (shape_predicate p) ≡ erased_predicate (predicate_tree p)
predicate_shape p =
    ap (λ qs. let q : PredicateTree = record { place = nowhere; name = named_at nowhere p.name; params = qs; body = tree_of (shape_expr p.body) } in q) (params_shape p.params)
    ∙ ap (λ b. let q : PredicateTree = record { place = nowhere; name = named_at nowhere p.name; params = map erased_param (params_trees p.params); body = b } in q) (tree_shape p.body)

field_shape : (f : FieldText) → field_tree (shape_field f) ≡ erased_field (field_tree f)
field_shape f = ap (λ t. let g : Field = record { typed = t; name = named_at nowhere f.name } in g) (type_shape f.typed)

item_shape : (i : ItemText) → item_tree (shape_item i) ≡ erased_item (item_tree i)
item_shape (names_struct at n name c) = refl
item_shape (defines_struct at n name a fs b c) = cc (each_shape field_tree shape_field erased_field field_shape fs)
item_shape (defines_type at t n name c) = cc (type_shape t)
item_shape (declares_function h cs c) = cc (head_shape h, each_shape contract_tree shape_contract erased_contract contract_shape cs)
item_shape (defines_function h cs a ls b) = cc (head_shape h, each_shape contract_tree shape_contract erased_contract contract_shape cs, lines_shape ls)
item_shape (defines_predicates o ps e) = cc (each_shape predicate_tree shape_predicate erased_predicate predicate_shape ps)

uses_shape : (us : List UseText) → map use_tree (map shape_use us) ≡ map use_tree us
uses_shape [] = refl
uses_shape (u ∷ us) = ap (λ ls. u.library ∷ ls) (uses_shape us)

pub program_shape : (p : ProgramText) → program_tree (shape_program p) ≡ erased_program (program_tree p)
program_shape p =
    ap (λ ls. let q : ProgramTree = record { uses = ls; items = map item_tree (map shape_item p.items) } in q) (uses_shape p.uses)
    ∙ ap (λ is. let q : ProgramTree = record { uses = map use_tree p.uses; items = is } in q) (each_shape item_tree shape_item erased_item item_shape p.items)

-- ---- depths
mutual
  pub depth_shape : (w : Written) → depth (shape_expr w) ≡ depth w
  depth_shape (digits at w) = refl
  depth_shape (truth_token at b) = refl
  depth_shape (null_token at) = refl
  depth_shape (word at n) = refl
  depth_shape (result_word at) = refl
  depth_shape (before at o x) = ap (λ n. n + 1) (depth_shape x)
  depth_shape (between x at o y) = ap (λ n. max n (depth (shape_expr y)) + 1) (depth_shape x) ∙ ap (λ n. max (depth x) n + 1) (depth_shape y)
  depth_shape (choice x q y c z) =
      ap (λ n. max n (max (depth (shape_expr y)) (depth (shape_expr z))) + 1) (depth_shape x)
      ∙ ap (λ n. max (depth x) (max n (depth (shape_expr z))) + 1) (depth_shape y)
      ∙ ap (λ n. max (depth x) (max (depth y) n) + 1) (depth_shape z)
  depth_shape (round a x b) = ap (λ n. n + 1) (depth_shape x)
  depth_shape (called at n a xs b) = ap (λ n. n + 1) (args_depth xs)
  depth_shape (called_text at n a t bytes b) = refl
  depth_shape (allocated at a t b) = refl
  depth_shape (arrow_to x at f n) = ap (λ n. n + 1) (depth_shape x)
  depth_shape (permission at a x p f n b) = ap (λ n. n + 2) (depth_shape x)

  args_depth : (xs : Args) → depth_args (shape_args xs) ≡ depth_args xs
  args_depth no_args = refl
  args_depth (some_args x xs) = ap (λ n. max n (depth_more (shape_more xs))) (depth_shape x) ∙ ap (λ n. max (depth x) n) (more_depth xs)

  more_depth : (xs : More) → depth_more (shape_more xs) ≡ depth_more xs
  more_depth no_more = refl
  more_depth (more_and at x xs) = ap (λ n. max n (depth_more (shape_more xs))) (depth_shape x) ∙ ap (λ n. max (depth x) n) (more_depth xs)

each_depth : {A : Type 0} (s : A → A) (d : A → ℕ) → ((x : A) → d (s x) ≡ d x) → (xs : List A) → depth_all d (map s xs) ≡ depth_all d xs
each_depth s d one [] = refl
each_depth s d one (x ∷ xs) = ap (λ n. max n (depth_all d (map s xs))) (one x) ∙ ap (λ n. max (d x) n) (each_depth s d one xs)

option_depth : {A : Type 0} (s : A → A) (d : A → ℕ) → ((x : A) → d (s x) ≡ d x) → (x : Option A) → depth_option d (tree_option s x) ≡ depth_option d x
option_depth s d one None = refl
option_depth s d one (Some x) = one x

formula_depth : (f : FormulaText) → depth_formula (shape_formula f) ≡ depth_formula f
formula_depth (unknown at) = refl
formula_depth (unknown_and at a x) = depth_shape x
formula_depth (known x) = depth_shape x

note_depth : (n : NoteText) → depth_note (shape_note n) ≡ depth_note n
note_depth (asserts_note at f c) = formula_depth f
note_depth (folds_note at n name a xs b c) = ap (λ n. n + 1) (args_depth xs)
note_depth (unfolds_note at n name a xs b c) = ap (λ n. n + 1) (args_depth xs)

notes_depth : (ns : List NoteText) → depth_notes (map shape_note ns) ≡ depth_notes ns
notes_depth [] = refl
notes_depth (n ∷ ns) = ap (λ k. max k (depth_all depth_note (map shape_note ns)) + 1) (note_depth n) ∙ ap (λ k. max (depth_note n) k + 1) (each_depth shape_note depth_note note_depth ns)

invariant_depth : (i : InvariantText) → depth_invariant (shape_invariant i) ≡ depth_invariant i
invariant_depth i = formula_depth i.formula

invariants_depth : (i : InvariantsText) → depth_invariants (shape_invariants i) ≡ depth_invariants i
invariants_depth i = each_depth shape_invariant depth_invariant invariant_depth i.clauses

simple_depth : (s : SimpleText) → depth_simple (shape_simple s) ≡ depth_simple s
simple_depth (declares t n name) = refl
simple_depth (declares_as t n name q x) = depth_shape x
simple_depth (assigns x q o y) = ap (λ n. max n (depth (shape_expr y))) (depth_shape x) ∙ ap (λ n. max (depth x) n) (depth_shape y)
simple_depth (steps x q o) = depth_shape x
simple_depth (evaluates x) = depth_shape x

mutual
  line_depth : (l : Line) → depth_line (shape_line l) ≡ depth_line l
  line_depth (simple_line s c) = ap (λ n. n + 1) (simple_depth s)
  line_depth (braces a ls b) = ap (λ n. n + 1) (lines_depth ls)
  line_depth (ifs at a x b l) = ap (λ n. max n (depth_line (shape_line l)) + 1) (depth_shape x) ∙ ap (λ n. max (depth x) n + 1) (line_depth l)
  line_depth (ifs_else at a x b l e m) =
      ap (λ n. max n (max (depth_line (shape_line l)) (depth_line (shape_line m))) + 1) (depth_shape x)
      ∙ ap (λ n. max (depth x) (max n (depth_line (shape_line m))) + 1) (line_depth l)
      ∙ ap (λ n. max (depth x) (max (depth_line l) n) + 1) (line_depth m)
  line_depth (whiles at a x b is l) =
      ap (λ n. max n (max (depth_all depth_invariants (map shape_invariants is)) (depth_line (shape_line l))) + 1) (depth_shape x)
      ∙ ap (λ n. max (depth x) (max n (depth_line (shape_line l))) + 1) (each_depth shape_invariants depth_invariants invariants_depth is)
      ∙ ap (λ n. max (depth x) (max (depth_all depth_invariants is) n) + 1) (line_depth l)
  line_depth (fors at a s c x d t b is l) =
      let p = depth_option depth_simple s in
      let r = depth_option depth_simple t in
      let u = depth_all depth_invariants is in
      let q' = depth (shape_expr x) in
      let r' = depth_option depth_simple (tree_option shape_simple t) in
      let u' = depth_all depth_invariants (map shape_invariants is) in
      let v' = depth_line (shape_line l) in
      ap (λ n. max n (max q' (max r' (max u' v'))) + 1) (option_depth shape_simple depth_simple simple_depth s)
      ∙ ap (λ n. max p (max n (max r' (max u' v'))) + 1) (depth_shape x)
      ∙ ap (λ n. max p (max (depth x) (max n (max u' v'))) + 1) (option_depth shape_simple depth_simple simple_depth t)
      ∙ ap (λ n. max p (max (depth x) (max r (max n v'))) + 1) (each_depth shape_invariants depth_invariants invariants_depth is)
      ∙ ap (λ n. max p (max (depth x) (max r (max u n))) + 1) (line_depth l)
  line_depth (returns at x c) = ap (λ n. n + 1) (option_depth shape_expr depth depth_shape x)
  line_depth (asserts at a x b c) = ap (λ n. n + 1) (depth_shape x)
  line_depth (raises at a t bytes b c) = refl
  line_depth (notes o ns e) = notes_depth ns

  lines_depth : (ls : Lines) → depth_lines (shape_lines ls) ≡ depth_lines ls
  lines_depth no_lines = refl
  lines_depth (line_and l ls) = ap (λ n. max n (depth_lines (shape_lines ls))) (line_depth l) ∙ ap (λ n. max (depth_line l) n) (lines_depth ls)

clause_depth : (i : ClauseText) → depth_clause (shape_clause i) ≡ depth_clause i
clause_depth i = formula_depth i.formula

contract_depth : (i : ContractText) → depth_contract (shape_contract i) ≡ depth_contract i
contract_depth i = each_depth shape_clause depth_clause clause_depth i.clauses

predicate_depth : (p : PredicateWritten) → depth_predicate (shape_predicate p) ≡ depth_predicate p
predicate_depth p = depth_shape p.body

item_depth : (i : ItemText) → depth_item (shape_item i) ≡ depth_item i
item_depth (names_struct at n name c) = refl
item_depth (defines_struct at n name a fs b c) = refl
item_depth (defines_type at t n name c) = refl
item_depth (declares_function h cs c) = each_depth shape_contract depth_contract contract_depth cs
item_depth (defines_function h cs a ls b) =
    ap (λ n. max n (depth_lines (shape_lines ls) + 1)) (each_depth shape_contract depth_contract contract_depth cs)
    ∙ ap (λ n. max (depth_all depth_contract cs) (n + 1)) (lines_depth ls)
item_depth (defines_predicates o ps e) = each_depth shape_predicate depth_predicate predicate_depth ps

pub program_depth : (p : ProgramText) → depth_program (shape_program p) ≡ depth_program p
program_depth p = each_depth shape_item depth_item item_depth p.items
