-- A function with a result and without violations ends each path, in the program of a text that was read.
use Rattle.std.proofs.Common.{◌≡◌, ℕ, Bool, true, false, not, ◌||◌, ◌&&◌, List, [], ◌∷◌, ◌++◌, is_some, refl, ap, ◌∙◌}
use Rattle.std.specs.Prelude.{IsTrue, All}
use Rattle.std.proofs.lemmas.List.Elements.{All-nil, All-cons, All-head, All-tail}
use Rattle.gc0_base.specs.declared.place.Place.{Place}
use Rattle.gc0_tree.specs.Tree as gc0
use Rattle.parsed_tree.specs.declared.items.Param.{Param}
use Rattle.parsed_tree.specs.declared.items.ResultType.{ResultType}
use Rattle.parsed_tree.specs.declared.items.ResultType.TheVariants as result
use Rattle.parsed_tree.specs.declared.items.Head.{Head}
use Rattle.parsed_tree.specs.Tree.{StmtTrees, ContractTree, ItemTree, struct_name, struct_item, typedef_item, prototype_item, function_item, predicates_item, ProgramTree}
use Rattle.c0_names.specs.declared.types.ValueType.{ValueType}
use Rattle.c0_names.specs.declared.types.ValueType.TheVariants.{Written, Null, Void, Text}
use Rattle.c0_names.specs.declared.tables.Tables.{Tables}
use Rattle.c0_names.specs.Types.{is_held, is_void}
use Rattle.c0_names.specs.Tables.{value_type, result_type, with_item, with_alias, tables_of, tables_above, struct_names}
use Rattle.c0_value_rules.specs.declared.violation.Rule.TheVariants as rule
use Rattle.c0_value_rules.specs.declared.scope.Scope.{Scope}
use Rattle.c0_value_rules.specs.Scopes.{no_scope}
use Rattle.c0_rules.specs.Behind.{stmts_behind}
use Rattle.c0_rules.specs.Statements.{stmts_violations}
use Rattle.c0_rules.specs.Rules.{param_behind, params_scope, params_violations, result_violations, head_violations, ensured, contract_violations, end_violations, function_violations, library_violations, second_violations, item_violations, items_violations, tables_before, violations}
use Rattle.c0_value_numbers.specs.declared.frame.Frame.{Frame}
use Rattle.c0_value_numbers.specs.Texts.{Texts}
use Rattle.c0_numbers.specs.StatementTexts.{item_texts}
use Rattle.c0_numbers.specs.Statements.{stmts_tree}
use Rattle.c0_numbers.specs.Resolved.{params_of, result_shape, function_tree, item_functions, functions_tree, resolved}
use Rattle.lowering_laws.specs.Ends.{stmts_end, Ends, AllEnd}
use Rattle.resolved_laws.specs.Laws.{ends_law}
use Rattle.resolved_laws.proofs.Elses.{ones_else, item_elses, OneElse}
use Rattle.resolved_laws.proofs.Clean.{left_none, right_none, kept, first_none}
use Rattle.resolved_laws.proofs.WrittenElses.{read_elses}
use Rattle.resolved_laws.proofs.Live.{stmts_live}

held_no_void : (v : ValueType) → is_held v ≡ true → is_void v ≡ false
held_no_void (Written b n) e = refl
held_no_void Null e = refl
held_no_void Void e = let n : ⊥ = cc in absurd n
held_no_void Text e = refl

params_live : (t : Tables) (fixed : List (List ℕ)) (scope : Scope) (ps : List Param) → (params_scope t fixed scope ps).flow.live ≡ scope.flow.live
params_live t fixed scope [] = refl
params_live t fixed scope (p ∷ ps) = params_live t fixed (param_behind t fixed scope p) ps

-- no path leads to the end
ended : (v l e : Bool) → v ≡ false → (v || not l) ≡ true → l ≡ (true && not e) → e ≡ true
ended v true e n h k = let m : ⊥ = cc (ap (λ b. b || false) n) in absurd m
ended v false true n h k = refl
ended v false false n h k = let m : ⊥ = cc in absurd m

function_ends : (t above u : Tables) (ts : Texts) (h : Head) (cs : List ContractTree) (ss : StmtTrees) (close : Place) → ones_else ss ≡ true → item_violations t above (function_item h cs ss close) ≡ [] → Ends (function_tree u ts h cs ss close)
function_ends t above u ts h cs ss close one clean =
    let r = result_type t h.result in
    let scope = params_scope t (ensured cs) no_scope h.params in
    let f : Frame = record { locals = params_of u h.params; result = result_type u h.result } in
    let a = library_violations h.name in
    let b = second_violations above.functions.names h.name in
    let c = head_violations t (ensured cs) h in
    let d = function_violations t scope r cs ss close in
    let behind_names = right_none b (c ++ d) (right_none a (b ++ (c ++ d)) clean) in
    let x = contract_violations t scope r cs in
    let y = stmts_violations t r scope ss in
    let flow = (stmts_behind t scope ss).flow in
    let z = end_violations close r flow in
    let at_end = kept (is_void r || not flow.live) rule.NoReturn close (right_none y z (right_none x (y ++ z) (right_none c d behind_names))) in
    let typed = left_none (result_violations t h.result) (params_violations t (ensured cs) no_scope h.params) (left_none c d behind_names) in
    let e = stmts_end (stmts_tree u f ts ss) in
    let live : flow.live ≡ (true && not e) = stmts_live t u scope f ts ss one ∙ ap (λ l. l && not e) (params_live t (ensured cs) no_scope h.params) in
    of h.result typed (λ v. ended (is_void r) flow.live e v at_end live)
  where
    of : (n : ResultType) → result_violations t n ≡ [] → {e : Bool} → (is_void (result_type t n) ≡ false → e ≡ true) → IsTrue (is_some (result_shape u n)) → e ≡ true
    of (result.Void p) v k s = let m : ⊥ = cc in absurd m
    of (result.Typed n) v k s = k (held_no_void (value_type t n) (kept (is_held (value_type t n)) rule.WrongType n.place v))

items_end : (t above u : Tables) (ts : Texts) (is : List ItemTree) → All (λ i. IsTrue (item_elses i)) is → items_violations t above is ≡ [] → All Ends (functions_tree u ts is)
items_end t above u ts [] one clean = All-nil Ends
items_end t above u ts (i ∷ is) one clean =
    let a = item_violations t above i in
    let b = items_violations (with_alias t i) (with_item above i) is in
    let rest = items_end (with_alias t i) (with_item above i) u (item_texts ts i) is (All-tail (λ j. IsTrue (item_elses j)) i is one) (right_none a b clean) in
    of i (All-head (λ j. IsTrue (item_elses j)) i is one) (left_none a b clean) (functions_tree u (item_texts ts i) is) rest
  where
    of : (j : ItemTree) → IsTrue (item_elses j) → item_violations t above j ≡ [] → (gs : List gc0.Function) → All Ends gs → All Ends (item_functions u ts j ++ gs)
    of (struct_name p n) o c gs k = k
    of (struct_item p n fs) o c gs k = k
    of (typedef_item p n name) o c gs k = k
    of (prototype_item h cs) o c gs k = k
    of (function_item h cs ss e) o c gs k = All-cons Ends (function_tree u ts h cs ss e) gs (function_ends t above u ts h cs ss e o c) k
    of (predicates_item p qs) o c gs k = k

all_end : (p : ProgramTree) → OneElse p → violations p ≡ [] → AllEnd (resolved p)
all_end p one clean = items_end (tables_before p) (tables_above (struct_names p)) (tables_of p) [] p.items one (first_none (items_violations (tables_before p) (tables_above (struct_names p)) p.items) _ clean)

pub read_ends : ends_law
read_ends limit ts t reads clean = all_end t (read_elses limit ts t reads) clean
