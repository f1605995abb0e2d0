-- What is written for the statements and items of a text is their tree, places aside.
use Rattle.std.proofs.Common.{◌≡◌, ℕ, List, [], ◌∷◌, map, Option, Some, None, refl, sym, ap, ◌∙◌}
use Rattle.gc0_base.specs.declared.place.Place.{Place}
use Rattle.parsed_tree.specs.declared.expressions.TypeName.{TypeName}
use Rattle.parsed_tree.specs.declared.expressions.Named.{Named}
use Rattle.parsed_tree.specs.declared.items.Library.{Library}
use Rattle.parsed_tree.specs.declared.items.Param.{Param}
use Rattle.parsed_tree.specs.declared.items.Field.{Field}
use Rattle.parsed_tree.specs.declared.items.ResultType.{ResultType}
use Rattle.parsed_tree.specs.declared.items.ResultType.TheVariants as result
use Rattle.parsed_tree.specs.declared.items.Head.{Head}
use Rattle.parsed_tree.specs.declared.items.Side.{Side}
use Rattle.parsed_tree.specs.Tree.{ExprTree, FormulaTree, InstanceTree, NoteForm, assert_note, fold_note, unfold_note, NoteTree, InvariantTree, InvariantsTree, SimpleTree, declare, assign, stepped, plain, StmtTree, StmtTrees, ClauseTree, ContractTree, PredicateTree, ItemTree, ProgramTree}
use Rattle.c0_grammar.specs.Written.{TypeText, type_tree, named_at, Written, tree_of, Args, args_trees, FormulaText, formula_tree}
use Rattle.c0_grammar.specs.Texts.{NoteText, asserts_note, folds_note, unfolds_note, note_tree, InvariantText, invariant_tree, InvariantsText, invariants_tree, SimpleText, declares, declares_as, assigns, steps, evaluates, simple_tree, tree_option, Line, simple_line, braces, ifs, ifs_else, whiles, fors, returns, asserts, raises, notes, Lines, no_lines, line_and, line_tree, line_trees, ClauseText, clause_tree, ContractText, contract_tree, ParamText, param_tree, NextParam, next_tree, params_trees, result_tree, HeadText, head_tree, PredicateWritten, predicate_tree, FieldText, field_tree, ItemText, names_struct, defines_struct, defines_type, declares_function, defines_function, defines_predicates, item_tree, UseText, use_tree, ProgramText, program_tree}
use Rattle.c0_layout.specs.Rounding.{nowhere}
use Rattle.c0_print.specs.Printing.{type_of, written, args_of, formula_of, note_of, invariant_of, invariants_of, simple_of, line_of, lines_of, clause_of, contract_of, param_of, next_of, params_of, result_of, head_of, predicate_of, field_of, item_of, use_of, text_of}
use Rattle.c0_print.specs.Erased.{erased_type, erased_name, erased, all_erased, erased_formula, erased_note, erased_invariant, erased_invariants, erased_value, erased_simple, erased_stmt, erased_stmts, erased_clause, erased_contract, erased_param, erased_field, erased_result, erased_head, erased_predicate, erased_item, erased_program}
use Rattle.c0_print.proofs.Trees.{type_again, expr_again, args_again, formula_again}

-- of each part, where it is so of one
pub each_again : {A B : Type 0} (tree : A → B) (of : B → A) (aside : B → B) → ((x : A) → tree (of (tree x)) ≡ aside (tree x)) → (xs : List A) → map tree (map of (map tree xs)) ≡ map aside (map tree xs)
each_again tree of aside one [] = refl
each_again tree of aside one (x ∷ xs) = ap (λ y. y ∷ map tree (map of (map tree xs))) (one x) ∙ ap (λ ys. aside (tree x) ∷ ys) (each_again tree of aside one xs)

pub option_again : {A B : Type 0} (tree : A → B) (of : B → A) (aside : B → B) → ((x : A) → tree (of (tree x)) ≡ aside (tree x)) → (x : Option A) → tree_option tree (tree_option of (tree_option tree x)) ≡ tree_option aside (tree_option tree x)
option_again tree of aside one None = refl
option_again tree of aside one (Some x) = ap Some (one x)

pub expr_read_again : (x : Written) → tree_of (written (tree_of x)) ≡ erased (tree_of x)
expr_read_again x = expr_again (tree_of x)

instance_by : (n : Named) (xs : Args) → (let i : InstanceTree = record { name = n; arguments = args_trees (args_of (args_trees xs)) } in let j : InstanceTree = record { name = n; arguments = all_erased (args_trees xs) } in i ≡ j)
instance_by n xs = ap (λ t. let i : InstanceTree = record { name = n; arguments = t } in i) (args_again (args_trees xs))

pub note_again : (n : NoteText) → note_tree (note_of (note_tree n)) ≡ erased_note (note_tree n)
note_again (asserts_note at f c) = ap (λ t. let n : NoteTree = record { place = nowhere; form = assert_note t } in n) (formula_again f)
note_again (folds_note at n name a xs b c) = ap (λ t. let m : NoteTree = record { place = nowhere; form = fold_note t } in m) (instance_by (named_at nowhere name) xs)
note_again (unfolds_note at n name a xs b c) = ap (λ t. let m : NoteTree = record { place = nowhere; form = unfold_note t } in m) (instance_by (named_at nowhere name) xs)

pub invariant_again : (i : InvariantText) → invariant_tree (invariant_of (invariant_tree i)) ≡ erased_invariant (invariant_tree i)
invariant_again i = ap (λ t. let j : InvariantTree = record { place = nowhere; formula = t } in j) (formula_again i.formula)

pub invariants_again : (i : InvariantsText) → invariants_tree (invariants_of (invariants_tree i)) ≡ erased_invariants (invariants_tree i)
invariants_again i = ap (λ t. let j : InvariantsTree = record { place = nowhere; clauses = t } in j) (each_again invariant_tree invariant_of erased_invariant invariant_again i.clauses)

pub simple_again : (s : SimpleText) → simple_tree (simple_of (simple_tree s)) ≡ erased_simple (simple_tree s)
simple_again (declares t n name) = ap (λ u. declare u (named_at nowhere name) None) (type_again (type_tree t))
simple_again (declares_as t n name q x) =
    ap (λ u. declare u (named_at nowhere name) (Some (nowhere, tree_of (written (tree_of x))))) (type_again (type_tree t))
    ∙ ap (λ u. declare (erased_type (type_tree t)) (named_at nowhere name) (Some (nowhere, u))) (expr_read_again x)
simple_again (assigns x q o y) = ap (λ u. assign u nowhere o (tree_of (written (tree_of y)))) (expr_read_again x) ∙ ap (λ u. assign (erased (tree_of x)) nowhere o u) (expr_read_again y)
simple_again (steps x q o) = ap (λ u. stepped u nowhere o) (expr_read_again x)
simple_again (evaluates x) = ap plain (expr_read_again x)

mutual
  pub line_again : (l : Line) → line_tree (line_of (line_tree l)) ≡ erased_stmt (line_tree l)
  line_again (simple_line s c) = cc (simple_again s)
  line_again (braces a ls b) = cc (lines_again ls)
  line_again (ifs at a x b l) = cc (expr_read_again x, line_again l)
  line_again (ifs_else at a x b l e m) = cc (expr_read_again x, line_again l, line_again m)
  line_again (whiles at a x b is l) = cc (expr_read_again x, each_again invariants_tree invariants_of erased_invariants invariants_again is, line_again l)
  line_again (fors at a s c x d t b is l) = cc (option_again simple_tree simple_of erased_simple simple_again s, expr_read_again x, option_again simple_tree simple_of erased_simple simple_again t, each_again invariants_tree invariants_of erased_invariants invariants_again is, line_again l)
  line_again (returns at x c) = cc (option_again tree_of written erased expr_read_again x)
  line_again (asserts at a x b c) = cc (expr_read_again x)
  line_again (raises at a t bytes b c) = refl
  line_again (notes o ns e) = cc (each_again note_tree note_of erased_note note_again ns)

  pub lines_again : (ls : Lines) → line_trees (lines_of (line_trees ls)) ≡ erased_stmts (line_trees ls)
  lines_again no_lines = refl
  lines_again (line_and l ls) = cc (line_again l, lines_again ls)

pub clause_again : (i : ClauseText) → clause_tree (clause_of (clause_tree i)) ≡ erased_clause (clause_tree i)
clause_again i = ap (λ t. let j : ClauseTree = record { place = nowhere; side = i.side; formula = t } in j) (formula_again i.formula)

pub contract_again : (i : ContractText) → contract_tree (contract_of (contract_tree i)) ≡ erased_contract (contract_tree i)
contract_again i = ap (λ t. let j : ContractTree = record { place = nowhere; clauses = t } in j) (each_again clause_tree clause_of erased_clause clause_again i.clauses)

pub param_again : (p : Param) → param_tree (param_of p) ≡ erased_param p
param_again p = ap (λ t. let q : Param = record { typed = t; name = named_at nowhere p.name.name } in q) (type_again p.typed)

nexts_again : (ps : List Param) → map next_tree (map next_of ps) ≡ map erased_param ps
nexts_again [] = refl
nexts_again (p ∷ ps) = cc (param_again p, nexts_again ps)

pub params_again : (ps : List Param) → params_trees (params_of ps) ≡ map erased_param ps
params_again [] = refl
params_again (p ∷ ps) = cc (param_again p, nexts_again ps)

pub result_again : (r : ResultType) → result_tree (result_of r) ≡ erased_result r
result_again (result.Void p) = refl
result_again (result.Typed t) = ap result.Typed (type_again t)

pub head_again : (h : Head) → head_tree (head_of h) ≡ erased_head h
head_again h =
    ap (λ r. let g : Head = record { result = r; name = named_at nowhere h.name.name; params = params_trees (params_of h.params) } in g) (result_again h.result)
    ∙ ap (λ ps. let g : Head = record { result = erased_result h.result; name = named_at nowhere h.name.name; params = ps } in g) (params_again h.params)

pub predicate_again : (p : PredicateWritten) → predicate_tree (predicate_of (predicate_tree p)) ≡ erased_predicate (predicate_tree p)
predicate_again p =
    let ps = params_trees p.params in
    ap (λ qs. let q : PredicateTree = record { place = nowhere; name = named_at nowhere p.name; params = qs; body = tree_of (written (tree_of p.body)) } in q) (params_again ps)
    ∙ ap (λ b. let q : PredicateTree = record { place = nowhere; name = named_at nowhere p.name; params = map erased_param ps; body = b } in q) (expr_read_again p.body)

field_again : (f : Field) → field_tree (field_of f) ≡ erased_field f
field_again f = ap (λ t. let g : Field = record { typed = t; name = named_at nowhere f.name.name } in g) (type_again f.typed)

pub fields_again : (fs : List Field) → map field_tree (map field_of fs) ≡ map erased_field fs
fields_again [] = refl
fields_again (f ∷ fs) = cc (field_again f, fields_again fs)

pub item_again : (i : ItemText) → item_tree (item_of (item_tree i)) ≡ erased_item (item_tree i)
item_again (names_struct at n name c) = refl
item_again (defines_struct at n name a fs b c) = cc (fields_again (map field_tree fs))
item_again (defines_type at t n name c) = cc (type_again (type_tree t))
item_again (declares_function h cs c) = cc (head_again (head_tree h), each_again contract_tree contract_of erased_contract contract_again cs)
item_again (defines_function h cs a ls b) = cc (head_again (head_tree h), each_again contract_tree contract_of erased_contract contract_again cs, lines_again ls)
item_again (defines_predicates o ps e) = cc (each_again predicate_tree predicate_of erased_predicate predicate_again ps)

uses_again : (ls : List Library) → map use_tree (map use_of ls) ≡ ls
uses_again [] = refl
uses_again (l ∷ ls) = ap (λ ms. l ∷ ms) (uses_again ls)

pub program_again : (p : ProgramText) → program_tree (text_of (program_tree p)) ≡ erased_program (program_tree p)
program_again p =
    let us = map use_tree p.uses in
    ap (λ ls. let q : ProgramTree = record { uses = ls; items = map item_tree (map item_of (map item_tree p.items)) } in q) (uses_again us)
    ∙ ap (λ is. let q : ProgramTree = record { uses = us; items = is } in q) (each_again item_tree item_of erased_item item_again p.items)
