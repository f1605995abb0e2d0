-- No function of a resolved program without violations assigns a parameter that its `ensures` names.
use Rattle.std.proofs.Common.{◌≡◌, ℕ, Bool, true, not, List, [], ◌∷◌, ◌++◌, Some, is_some, slice_get, unwrap_or, refl, sym, subst, ap}
use Rattle.std.specs.Prelude.{All}
use Rattle.std.proofs.lemmas.List.Elements.{All-nil, All-cons}
use Rattle.gc0_base.specs.declared.place.Place.{Place}
use Rattle.gc0_tree.specs.Tree as gc0
use Rattle.parsed_tree.specs.declared.items.Head.{Head}
use Rattle.parsed_tree.specs.Tree.{StmtTrees, ContractTree, ItemTree, struct_name, struct_item, typedef_item, prototype_item, function_item, predicates_item}
use Rattle.c0_names.specs.declared.tables.Tables.{Tables}
use Rattle.c0_names.specs.Names.{last_place}
use Rattle.c0_names.specs.Tables.{no_types, result_type, with_item, with_alias, tables_of, tables_above, struct_names}
use Rattle.c0_value_rules.specs.Scopes.{no_scope}
use Rattle.c0_rules.specs.Behind.{stmts_behind}
use Rattle.c0_rules.specs.Statements.{stmts_violations}
use Rattle.c0_rules.specs.Rules.{params_scope, head_violations, contract_locals, ensured, contract_violations, end_violations, function_violations, library_violations, second_violations, item_violations, items_violations, tables_before}
use Rattle.c0_value_numbers.specs.declared.frame.Frame.{Frame}
use Rattle.c0_value_numbers.specs.Texts.{Texts}
use Rattle.c0_value_numbers.specs.Values.{number_in}
use Rattle.c0_numbers.specs.StatementTexts.{item_texts}
use Rattle.c0_numbers.specs.Statements.{stmts_tree}
use Rattle.c0_numbers.specs.Resolved.{params_of, function_tree, item_functions, functions_tree}
use Rattle.lowering_laws.specs.Kept.{stmts_set, KeepsParams}
use Rattle.resolved_laws.specs.Laws.{kept_law}
use Rattle.resolved_laws.proofs.Clean.{left_none, right_none, first_none}
use Rattle.resolved_laws.proofs.Looks.{place_some, last_named}
use Rattle.resolved_laws.proofs.FormulaNames.{passes, ensures_pass}
use Rattle.resolved_laws.proofs.KnownNames.{known, contract_known, has, all_ensured, all_both}
use Rattle.resolved_laws.proofs.Keeps.{Keeps, params_names, params_fixed, none_fixed}
use Rattle.resolved_laws.proofs.KeptBodies.{stmts_keep}

-- a parameter that `ensures` names, where the body begins
begins : (t u : Tables) (h : Head) (cs : List ContractTree) (n : List ℕ) → has (ensured cs) n ≡ true → known (params_scope t (ensured cs) no_scope h.params) n ≡ true →
    (let f : Frame = record { locals = params_of u h.params; result = result_type u h.result } in Keeps n (number_in f.locals.names n) (params_scope t (ensured cs) no_scope h.params) f)
begins t u h cs n a b =
    let scope = params_scope t (ensured cs) no_scope h.params in
    let names = (params_of u h.params).names in
    let same : scope.names ≡ names = params_names t u (ensured cs) no_scope no_types h.params refl in
    let all = params_fixed t (ensured cs) no_scope h.params (none_fixed (ensured cs)) in
    let there : is_some (last_place names n) ≡ true = subst (λ l. is_some (last_place l n) ≡ true) same b in
    let j = place_some (last_place names n) there in
    let number : number_in names n ≡ j.0 = ap (λ o. unwrap_or o 0) j.1 in
    record {
      fixed = all.each n a b;
      place = subst (λ l. slice_get names l ≡ Some n) (sym number) (last_named names n j.0 j.1);
      known = λ m k. subst (λ l. is_some (last_place l m) ≡ true) same k;
    }

function_keeps : (t above u : Tables) (ts : Texts) (h : Head) (cs : List ContractTree) (ss : StmtTrees) (close : Place) →
    item_violations t above (function_item h cs ss close) ≡ [] → KeepsParams (function_tree u ts h cs ss close)
function_keeps t above u ts h cs ss close clean =
    let r = result_type t h.result in
    let scope = params_scope t (ensured cs) no_scope h.params in
    let f : Frame = record { locals = params_of u h.params; result = result_type u h.result } in
    let a = library_violations h.name in
    let b = second_violations above.functions.names h.name in
    let c = head_violations t (ensured cs) h in
    let d = function_violations t scope r cs ss close in
    let inside = right_none c d (right_none b (c ++ d) (right_none a (b ++ (c ++ d)) clean)) in
    let x = contract_violations t scope r cs in
    let y = stmts_violations t r scope ss in
    let z = end_violations close r (stmts_behind t scope ss).flow in
    let contract = left_none x (y ++ z) inside in
    let body = left_none y z (right_none x (y ++ z) inside) in
    let test : ℕ → Bool = λ i. not (stmts_set i (stmts_tree u f ts ss)) in
    let each : (n : List ℕ) → has (ensured cs) n ≡ true → known scope n ≡ true → passes f test n ≡ true =
    λ n k l. ap not (stmts_keep t u n (number_in f.locals.names n) r scope f ts ss (begins t u h cs n k l) body) in
    ensures_pass u f test cs (all_both (has (ensured cs)) (known scope) (passes f test) each (contract_locals cs) (all_ensured cs) (contract_known t scope r cs contract))

items_keep : (t above u : Tables) (ts : Texts) (is : List ItemTree) → items_violations t above is ≡ [] → All KeepsParams (functions_tree u ts is)
items_keep t above u ts [] clean = All-nil KeepsParams
items_keep t above u ts (i ∷ is) clean =
    let a = item_violations t above i in
    let b = items_violations (with_alias t i) (with_item above i) is in
    let rest = items_keep (with_alias t i) (with_item above i) u (item_texts ts i) is (right_none a b clean) in
    of i (left_none a b clean) (functions_tree u (item_texts ts i) is) rest
  where
    of : (j : ItemTree) → item_violations t above j ≡ [] → (gs : List gc0.Function) → All KeepsParams gs → All KeepsParams (item_functions u ts j ++ gs)
    of (struct_name p n) c gs k = k
    of (struct_item p n fs) c gs k = k
    of (typedef_item p n name) c gs k = k
    of (prototype_item h cs) c gs k = k
    of (function_item h cs ss e) c gs k = All-cons KeepsParams (function_tree u ts h cs ss e) gs (function_keeps t above u ts h cs ss e c) k
    of (predicates_item p qs) c gs k = k

pub all_keep : kept_law
all_keep p clean =
    items_keep (tables_before p) (tables_above (struct_names p)) (tables_of p) [] p.items (first_none (items_violations (tables_before p) (tables_above (struct_names p)) p.items) _ clean)
