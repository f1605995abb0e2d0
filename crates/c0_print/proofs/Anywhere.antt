-- Tokens that are those which are written for a tree, wherever they stand, are a program with that tree.
use Rattle.std.proofs.Common.{◌≡◌, ℕ, ◌≤◌, List, [], ◌∷◌, map, Option, Some, None, refl, sym, ap, ◌∙◌, subst, arith}
use Rattle.gc0_base.specs.declared.place.Place.{Place}
use Rattle.parsed_tree.specs.declared.expressions.Base.{Base}
use Rattle.parsed_tree.specs.declared.expressions.Base.TheVariants as base
use Rattle.parsed_tree.specs.declared.expressions.TypeName.{TypeName}
use Rattle.parsed_tree.specs.declared.items.Param.{Param}
use Rattle.parsed_tree.specs.declared.items.Field.{Field}
use Rattle.parsed_tree.specs.declared.items.Head.{Head}
use Rattle.parsed_tree.specs.declared.items.ResultType.{ResultType}
use Rattle.parsed_tree.specs.declared.items.ResultType.TheVariants as result
use Rattle.parsed_tree.specs.Tree.{ExprTree, number, truth, null, local, outcome, unary, binary, choose, arrow, call, call_text, alloc, acc, ExprTrees, no_exprs, expr_and, FormulaTree, InstanceTree, NoteForm, assert_note, fold_note, unfold_note, NoteTree, InvariantTree, InvariantsTree, SimpleTree, declare, assign, stepped, plain, StmtTree, simple_stmt, block_stmt, if_stmt, while_stmt, for_stmt, return_stmt, assert_stmt, error_stmt, notes_stmt, StmtTrees, no_stmts, stmt_and, ClauseTree, ContractTree, PredicateTree, ItemTree, struct_name, struct_item, typedef_item, prototype_item, function_item, predicates_item, ProgramTree}
use Rattle.c0_grammar.specs.Tokens.{end_mark, What, fixed, Token, token, end_token}
use Rattle.c0_grammar.specs.Lists.{spell_all}
use Rattle.c0_grammar.specs.Texts.{tree_option, ItemText, spell_item, spell_use, ProgramText, spell_program, program_tree, depth_program}
use Rattle.c0_grammar.specs.Grammar.{GoodItems, IsProgram}
use Rattle.c0_layout.specs.Rounding.{nowhere}
use Rattle.c0_print.specs.Printing.{text_of}
use Rattle.c0_print.specs.Erased.{no_spot, erased_name, erased_base, erased_type, erased, all_erased, erased_formula, erased_instance, erased_form, erased_note, erased_invariant, erased_invariants, erased_value, erased_simple, erased_stmt, erased_stmts, erased_clause, erased_contract, erased_param, erased_field, erased_result, erased_head, erased_predicate, erased_item, erased_program}
use Rattle.c0_print.specs.Laws.{whats, IsSame}
use Rattle.c0_print.proofs.StatementTrees.{program_again}
use Rattle.c0_print.proofs.AllowedTexts.{program_good}
use Rattle.c0_print.proofs.DepthTexts.{program_thin}
use Rattle.c0_print.proofs.Shapes.{shape_item, shape_use, shape_program}
use Rattle.c0_print.proofs.Moving.{front, move_all}
use Rattle.c0_print.proofs.MovingTexts.{move_item, move_use}
use Rattle.c0_print.proofs.ShapeTrees.{program_shape, program_depth}
use Rattle.c0_print.proofs.ShapeGood.{items_two}

-- ---- places put aside twice
type_twice : (t : TypeName) → erased_type (erased_type t) ≡ erased_type t
type_twice t = by t.base
  where
    by : (b : Base) → (let u : TypeName = record { place = nowhere; base = erased_base (erased_base b); stars = t.stars } in let v : TypeName = record { place = nowhere; base = erased_base b; stars = t.stars } in u ≡ v)
    by base.Int = refl
    by base.Bool = refl
    by (base.Struct n) = refl
    by (base.Alias n) = refl

mutual
  twice : (e : ExprTree) → erased (erased e) ≡ erased e
  twice (number s w) = refl
  twice (truth s b) = refl
  twice (null s) = refl
  twice (local s n) = refl
  twice (outcome s) = refl
  twice (unary s o x) = ap (λ t. unary no_spot o t) (twice x)
  twice (binary s o x y) = ap (λ t. binary no_spot o t (erased (erased y))) (twice x) ∙ ap (λ t. binary no_spot o (erased x) t) (twice y)
  twice (choose s x y z) =
      ap (λ t. choose no_spot t (erased (erased y)) (erased (erased z))) (twice x)
      ∙ ap (λ t. choose no_spot (erased x) t (erased (erased z))) (twice y)
      ∙ ap (λ t. choose no_spot (erased x) (erased y) t) (twice z)
  twice (arrow s x n) = ap (λ t. arrow no_spot t (erased_name n)) (twice x)
  twice (call s n xs) = ap (λ t. call no_spot n t) (all_twice xs)
  twice (call_text s n t) = refl
  twice (alloc s t) = ap (λ u. alloc no_spot u) (type_twice t)
  twice (acc s x p n) = ap (λ t. acc no_spot t nowhere (erased_name n)) (twice x)

  all_twice : (xs : ExprTrees) → all_erased (all_erased xs) ≡ all_erased xs
  all_twice no_exprs = refl
  all_twice (expr_and x xs) = ap (λ t. expr_and t (all_erased (all_erased xs))) (twice x) ∙ ap (λ t. expr_and (erased x) t) (all_twice xs)

each_twice : {B : Type 0} (aside : B → B) → ((x : B) → aside (aside x) ≡ aside x) → (xs : List B) → map aside (map aside xs) ≡ map aside xs
each_twice aside one [] = refl
each_twice aside one (x ∷ xs) = ap (λ y. y ∷ map aside (map aside xs)) (one x) ∙ ap (λ ys. aside x ∷ ys) (each_twice aside one xs)

option_twice : {B : Type 0} (aside : B → B) → ((x : B) → aside (aside x) ≡ aside x) → (x : Option B) → tree_option aside (tree_option aside x) ≡ tree_option aside x
option_twice aside one None = refl
option_twice aside one (Some x) = ap Some (one x)

formula_twice : (f : FormulaTree) → erased_formula (erased_formula f) ≡ erased_formula f
formula_twice f = ap (λ t. let g : FormulaTree = record { imprecise = f.imprecise; parts = t } in g) (option_twice erased twice f.parts)

instance_twice : (i : InstanceTree) → erased_instance (erased_instance i) ≡ erased_instance i
instance_twice i = ap (λ t. let j : InstanceTree = record { name = erased_name i.name; arguments = t } in j) (all_twice i.arguments)

form_twice : (f : NoteForm) → erased_form (erased_form f) ≡ erased_form f
form_twice (assert_note f) = ap assert_note (formula_twice f)
form_twice (fold_note i) = ap fold_note (instance_twice i)
form_twice (unfold_note i) = ap unfold_note (instance_twice i)

note_twice : (n : NoteTree) → erased_note (erased_note n) ≡ erased_note n
note_twice n = ap (λ t. let m : NoteTree = record { place = nowhere; form = t } in m) (form_twice n.form)

invariant_twice : (i : InvariantTree) → erased_invariant (erased_invariant i) ≡ erased_invariant i
invariant_twice i = ap (λ t. let j : InvariantTree = record { place = nowhere; formula = t } in j) (formula_twice i.formula)

invariants_twice : (i : InvariantsTree) → erased_invariants (erased_invariants i) ≡ erased_invariants i
invariants_twice i = ap (λ t. let j : InvariantsTree = record { place = nowhere; clauses = t } in j) (each_twice erased_invariant invariant_twice i.clauses)

value_twice : (v : Place × ExprTree) → erased_value (erased_value v) ≡ erased_value v
value_twice v = ap (λ (e : ExprTree). let w : Place × ExprTree = (nowhere, e) in w) (twice v.1)

simple_twice : (s : SimpleTree) → erased_simple (erased_simple s) ≡ erased_simple s
simple_twice (declare t n v) = ap (λ u. declare u (erased_name n) (tree_option erased_value (tree_option erased_value v))) (type_twice t) ∙ ap (λ u. declare (erased_type t) (erased_name n) u) (option_twice erased_value value_twice v)
simple_twice (assign x p o y) = ap (λ u. assign u nowhere o (erased (erased y))) (twice x) ∙ ap (λ u. assign (erased x) nowhere o u) (twice y)
simple_twice (stepped x p o) = ap (λ u. stepped u nowhere o) (twice x)
simple_twice (plain x) = ap plain (twice x)

mutual
  stmt_twice : (s : StmtTree) → erased_stmt (erased_stmt s) ≡ erased_stmt s
  stmt_twice (simple_stmt s) = ap simple_stmt (simple_twice s)
  stmt_twice (block_stmt p ss) = ap (block_stmt nowhere) (stmts_twice ss)
  stmt_twice (if_stmt p e s os) = cc (twice e, stmt_twice s, stmts_twice os)
  stmt_twice (while_stmt p e is s) = cc (twice e, each_twice erased_invariants invariants_twice is, stmt_twice s)
  stmt_twice (for_stmt p a e b is s) = cc (option_twice erased_simple simple_twice a, twice e, option_twice erased_simple simple_twice b, each_twice erased_invariants invariants_twice is, stmt_twice s)
  stmt_twice (return_stmt p e) = ap (return_stmt nowhere) (option_twice erased twice e)
  stmt_twice (assert_stmt p e) = ap (assert_stmt nowhere) (twice e)
  stmt_twice (error_stmt p t) = refl
  stmt_twice (notes_stmt p ns) = ap (notes_stmt nowhere) (each_twice erased_note note_twice ns)

  stmts_twice : (ss : StmtTrees) → erased_stmts (erased_stmts ss) ≡ erased_stmts ss
  stmts_twice no_stmts = refl
  stmts_twice (stmt_and s ss) = cc (stmt_twice s, stmts_twice ss)

clause_twice : (c : ClauseTree) → erased_clause (erased_clause c) ≡ erased_clause c
clause_twice c = ap (λ t. let d : ClauseTree = record { place = nowhere; side = c.side; formula = t } in d) (formula_twice c.formula)

contract_twice : (c : ContractTree) → erased_contract (erased_contract c) ≡ erased_contract c
contract_twice c = ap (λ t. let d : ContractTree = record { place = nowhere; clauses = t } in d) (each_twice erased_clause clause_twice c.clauses)

param_twice : (p : Param) → erased_param (erased_param p) ≡ erased_param p
param_twice p = ap (λ t. let q : Param = record { typed = t; name = erased_name p.name } in q) (type_twice p.typed)

field_twice : (f : Field) → erased_field (erased_field f) ≡ erased_field f
field_twice f = ap (λ t. let g : Field = record { typed = t; name = erased_name f.name } in g) (type_twice f.typed)

result_twice : (r : ResultType) → erased_result (erased_result r) ≡ erased_result r
result_twice (result.Void p) = refl
result_twice (result.Typed t) = ap result.Typed (type_twice t)

head_twice : (h : Head) → erased_head (erased_head h) ≡ erased_head h
head_twice h =
    ap (λ r. let g : Head = record { result = r; name = erased_name h.name; params = map erased_param (map erased_param h.params) } in g) (result_twice h.result)
    ∙ ap (λ ps. let g : Head = record { result = erased_result h.result; name = erased_name h.name; params = ps } in g) (each_twice erased_param param_twice h.params)

predicate_twice : (p : PredicateTree) → erased_predicate (erased_predicate p) ≡ erased_predicate p
predicate_twice p =
    ap (λ qs. let q : PredicateTree = record { place = nowhere; name = erased_name p.name; params = qs; body = erased (erased p.body) } in q) (each_twice erased_param param_twice p.params)
    ∙ ap (λ b. let q : PredicateTree = record { place = nowhere; name = erased_name p.name; params = map erased_param p.params; body = b } in q) (twice p.body)

item_twice : (i : ItemTree) → erased_item (erased_item i) ≡ erased_item i
item_twice (struct_name p n) = refl
item_twice (struct_item p n fs) = ap (struct_item nowhere (erased_name n)) (each_twice erased_field field_twice fs)
item_twice (typedef_item p t n) = ap (λ u. typedef_item nowhere u (erased_name n)) (type_twice t)
item_twice (prototype_item h cs) = cc (head_twice h, each_twice erased_contract contract_twice cs)
item_twice (function_item h cs ss e) = cc (head_twice h, each_twice erased_contract contract_twice cs, stmts_twice ss)
item_twice (predicates_item p ps) = ap (predicates_item nowhere) (each_twice erased_predicate predicate_twice ps)

program_twice : (p : ProgramTree) → erased_program (erased_program p) ≡ erased_program p
program_twice p = ap (λ is. let q : ProgramTree = record { uses = p.uses; items = is } in q) (each_twice erased_item item_twice p.items)

-- ---- a whole text, standing elsewhere
record Elsewhere (t : ProgramText) (us : List Token) : Type 0 where
  y : ProgramText
  tokens : spell_program y ≡ us
  alike : shape_program y ≡ shape_program t

nothing : (ts : List Token) → whats ts ≡ [] → ts ≡ []
nothing [] h = refl
nothing (t ∷ ts) h = let n : ⊥ = cc in absurd n

elsewhere : (t : ProgramText) (us : List Token) → whats us ≡ whats (spell_program t) → Elsewhere t us
elsewhere t us eq0 =
    let m0 = move_all spell_use shape_use move_use t.uses (spell_all spell_item t.items (end_token t.last ∷ [])) us eq0 in
    let m1 = move_all spell_item shape_item move_item t.items (end_token t.last ∷ []) m0.behind m0.same in
    let m2 = front (fixed end_mark) [] m1.behind m1.same in
    let e = nothing m2.more m2.same in
    let split : us ≡ spell_all spell_use m0.y (spell_all spell_item m1.y (end_token m2.at ∷ [])) =
    m0.split ∙ ap (spell_all spell_use m0.y) (m1.split ∙ ap (spell_all spell_item m1.y) (m2.split ∙ ap (λ l. token (fixed end_mark) m2.at ∷ l) e)) in
    record {
      y = record { uses = m0.y; items = m1.y; last = m2.at };
      tokens = sym split;
      alike =
          ap (λ u. let p : ProgramText = record { uses = u; items = map shape_item m1.y; last = nowhere } in p) m0.alike
          ∙ ap (λ i. let p : ProgramText = record { uses = map shape_use t.uses; items = i; last = nowhere } in p) m1.alike;
    }

within : (a b c d : ℕ) → a ≡ b → b ≤ c → c ≡ d → a ≤ d
within a b c d e h f = omega arith

of_text : (t : ProgramText) (nodes : ℕ) → GoodItems [] t.items → depth_program t ≡ nodes → (us : List Token) → whats us ≡ whats (spell_program (text_of (program_tree t))) → IsSame us (program_tree t) nodes
of_text t nodes g d us h =
    let w = text_of (program_tree t) in
    let x = elsewhere w us h in
    let shaped : GoodItems [] (map shape_item w.items) = (items_two [] w.items).1 (program_good t g) in
    let alike_items : map shape_item w.items ≡ map shape_item x.y.items = ap (λ (p : ProgramText). p.items) (sym x.alike) in
    let P : List ItemText → Type 0 = λ is. GoodItems [] is in
    let good : GoodItems [] x.y.items = (items_two [] x.y.items).0 (subst P alike_items shaped) in
    let same : erased_program (program_tree x.y) ≡ erased_program (program_tree w) = sym (program_shape x.y) ∙ ap program_tree x.alike ∙ program_shape w in
    let depths : depth_program x.y ≡ depth_program w = sym (program_depth x.y) ∙ ap depth_program x.alike ∙ program_depth w in
    record {
      tree = program_tree x.y;
      depth = depth_program x.y;
      program = record { text = x.y; good = good; tokens = x.tokens; tree = refl; depth = refl };
      same = same ∙ ap erased_program (program_again t) ∙ program_twice (program_tree t);
      within = within (depth_program x.y) (depth_program w) (depth_program t) nodes depths (program_thin t g) d;
    }

pub anywhere : (ts : List Token) (p : ProgramTree) (nodes : ℕ) → IsProgram ts p nodes → (us : List Token) → whats us ≡ whats (spell_program (text_of p)) → IsSame us p nodes
anywhere ts p nodes h =
    let P : ProgramTree → Type 0 = λ q. (us : List Token) → whats us ≡ whats (spell_program (text_of q)) → IsSame us q nodes in
    subst P h.tree (of_text h.text nodes h.good h.depth)
