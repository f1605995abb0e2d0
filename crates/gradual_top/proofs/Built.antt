-- A program of the built forms that violates no typing rule resolves to one that has code.
use Rattle.std.proofs.Common.{◌≡◌, ℕ, zero, suc, Bool, true, false, ◌&&◌, if◌then◌else◌, not, eqb, length, List, [], ◌∷◌, ◌++◌, fold, Option, Some, None, is_some, slice_get, option_and_then, IsTrue, refl, sym, subst, ap, ◌∙◌, append_assoc, append-nil, unwrap_or, eqb-true}
use Rattle.gc0_base.specs.declared.place.Place.{Place}
use Rattle.parsed_tree.specs.declared.items.Param.{Param}
use Rattle.parsed_tree.specs.declared.items.Side.TheVariants.{Requires, Ensures}
use Rattle.parsed_tree.specs.declared.items.ResultType.{ResultType}
use Rattle.parsed_tree.specs.declared.items.ResultType.TheVariants as result
use Rattle.parsed_tree.specs.declared.items.Head.{Head}
use Rattle.parsed_tree.specs.Tree.{local, NoteForm, assert_note, fold_note, unfold_note, NoteTree, SimpleTree, declare, assign, plain, StmtTree, simple_stmt, block_stmt, if_stmt, while_stmt, return_stmt, notes_stmt, StmtTrees, no_stmts, stmt_and, ContractTree, ItemTree, function_item, ProgramTree}
use Rattle.c0_names.specs.declared.types.ValueType.{ValueType}
use Rattle.c0_names.specs.declared.tables.Signature.{Signature}
use Rattle.c0_names.specs.declared.tables.Callables.{Callables}
use Rattle.c0_names.specs.declared.tables.Tables.{Tables}
use Rattle.c0_names.specs.Names.{last_place}
use Rattle.c0_names.specs.Tables.{signature_in, with_signature, value_type, param_types, result_type, head_signature, with_item, struct_names, tables_above, tables_of}
use Rattle.c0_names.specs.Types.{int, bool, same_type}
use Rattle.c0_value_rules.specs.declared.violation.Rule.TheVariants as rule
use Rattle.c0_value_rules.specs.declared.violation.Violation.{Violation}
use Rattle.c0_value_rules.specs.declared.scope.Standing.{Standing}
use Rattle.c0_value_rules.specs.declared.scope.Scope.{Scope}
use Rattle.c0_value_rules.specs.Violations.{unless}
use Rattle.c0_value_rules.specs.Scopes.{no_scope}
use Rattle.c0_rules.specs.Behind.{simple_behind, stmt_behind}
use Rattle.c0_names.specs.Typing.{takes}
use Rattle.c0_value_rules.specs.Expressions.{expr_violations, value_violations}
use Rattle.c0_value_rules.specs.Formulas.{invariants_violations}
use Rattle.c0_rules.specs.Statements.{held_violations, declared_violations, right_violations, target_violations, simple_violations, stmt_violations, stmts_violations}
use Rattle.c0_rules.specs.Rules.{param_behind, params_scope, head_violations, ensured, contract_violations, function_violations, library_violations, second_violations, item_violations, items_violations, main_name, start, is_main, or_others, tables_before, violations}
use Rattle.gc0_tree.specs.Tree as gc0
use Rattle.c0_value_numbers.specs.declared.frame.Frame.{Frame}
use Rattle.c0_value_numbers.specs.Texts.{Texts, expr_texts}
use Rattle.c0_numbers.specs.StatementTexts.{stmt_texts, item_texts}
use Rattle.c0_value_numbers.specs.Formulas.{side_contracts, invariants}
use Rattle.c0_numbers.specs.Statements.{stmt_frame, simple_tree, note_form, notes_tree, before, stmt_tree, stmts_tree}
use Rattle.c0_numbers.specs.Resolved.{params_of, result_shape, function_tree, functions_tree, resolved}
use Rattle.stack_code.specs.Built.{Takes, IsBuiltTree, AreBuiltTrees, IsBuiltFunction, AreBuiltFunctions, IsBuilt}
use Rattle.stack_code.specs.Built as code
use Rattle.built_text.specs.Forms.{AreAll, IsBuiltNote, IsBuiltSimple, IsBuiltStmt, AreBuiltStmts, is_return, ends_in_return, IsBuiltResult, IsBuiltItem, IsBuiltProgram}
use Rattle.gradual_top.proofs.BuiltForms.{left_none, right_none, kept, Beside, IsEven, value_built, optional_built, joined_built, contracts_built, invariants_built, Known, right_built, plain_built}

-- ---- there stay as many standings as names
one_more : (ns : List (List ℕ)) (ss : List Standing) (n : List ℕ) (s : Standing) → Beside ns ss → Beside (ns ++ n ∷ []) (ss ++ s ∷ [])
one_more [] [] n s b = tt
one_more [] (u ∷ ss) n s b = absurd b
one_more (m ∷ ns) [] n s b = absurd b
one_more (m ∷ ns) (u ∷ ss) n s b = one_more ns ss n s b

params_even : (t : Tables) (fixed : List (List ℕ)) (scope : Scope) (ps : List Param) → IsEven scope → IsEven (params_scope t fixed scope ps)
params_even t fixed scope [] v = v
params_even t fixed scope (p ∷ ps) v = params_even t fixed (param_behind t fixed scope p) ps (one_more scope.names scope.standings _ _ v)

simple_even : (t : Tables) (scope : Scope) (s : SimpleTree) → IsBuiltSimple s → IsEven scope → IsEven (simple_behind t scope s)
simple_even t scope (declare ty n (Some x)) g v = one_more scope.names scope.standings _ _ v
simple_even t scope (assign (local s n) q None y) g v = v
simple_even t scope (plain e) g v = v
simple_even t scope s g v = absurd g

stmt_even : (t : Tables) (scope : Scope) (s : StmtTree) → IsBuiltStmt s → IsEven scope → IsEven (stmt_behind t scope s)
stmt_even t scope (simple_stmt s) g v = simple_even t scope s g v
stmt_even t scope (if_stmt p e s os) g v = v
stmt_even t scope (while_stmt p e is s) g v = v
stmt_even t scope (return_stmt p e) g v = v
stmt_even t scope (notes_stmt p ns) g v = v
stmt_even t scope s g v = absurd g

-- ---- statements
note_built : (fs : List gc0.Function) (u : Tables) (f : Frame) (p : Place) (n : NoteForm) → IsBuiltNote (record { place = p; form = n }) → code.IsBuiltStmt fs (note_form u f p n)
note_built fs u f p (assert_note g) b = optional_built u f false g b gc0.no_parts tt
note_built fs u f p (fold_note i) b = absurd b
note_built fs u f p (unfold_note i) b = absurd b

before_built : (fs : List gc0.Function) (u : Tables) (f : Frame) (s : StmtTree) → IsBuiltStmt s → (x : gc0.Stmt) → code.IsBuiltStmt fs x → (rest : gc0.Stmts) → code.AreBuiltStmts fs rest → code.AreBuiltStmts fs (before u f s x rest)
before_built fs u f (notes_stmt p []) g x b rest c = absurd g
before_built fs u f (notes_stmt p (n ∷ [])) g x b rest c = (note_built fs u f n.place n.form g, c)
before_built fs u f (notes_stmt p (n ∷ m ∷ ns)) g x b rest c = absurd g
before_built fs u f s g x b rest c = (b, c)

simple_built : (fs : List gc0.Function) (t u : Tables) → Known fs t u → (scope : Scope) → IsEven scope → (f : Frame) (ts : Texts) (s : SimpleTree) → IsBuiltSimple s → simple_violations t scope s ≡ [] → code.IsBuiltStmt fs (simple_tree u f ts s)
simple_built fs t u known scope v f ts (declare ty n (Some x)) g h =
    let a = held_violations t ty in
    let b = declared_violations scope n in
    let c = right_violations t scope (value_type t ty) (Some x) in
    let e = expr_violations t scope None x.1 in
    (refl, (right_built fs t u known scope v f ts x.1 g.1 (left_none e _ (right_none b c (right_none a (b ++ c) h))), tt))
simple_built fs t u known scope v f ts (assign (local s n) q None y) g h =
    let e = expr_violations t scope None y in
    right_built fs t u known scope v f ts y g (left_none e _ (right_none (target_violations t scope false (local s n)) _ h))
simple_built fs t u known scope v f ts (plain e) g h = plain_built fs t u known scope v f ts e g h
simple_built fs t u known scope v f ts s g h = absurd g

mutual
  stmt_built : (fs : List gc0.Function) (t u : Tables) → Known fs t u → (r : ValueType) (scope : Scope) → IsEven scope → (f : Frame) (ts : Texts) (s : StmtTree) → IsBuiltStmt s → stmt_violations t r scope s ≡ [] → code.IsBuiltStmt fs (stmt_tree u f ts s)
  stmt_built fs t u known r scope v f ts (simple_stmt s) g h = simple_built fs t u known scope v f ts s g h
  stmt_built fs t u known r scope v f ts (if_stmt p e (block_stmt q ss) no_stmts) g h =
      let a = value_violations t scope None bool e in
      let b = stmts_violations t r scope ss in
      (value_built fs u f ts e g.0, stmts_built fs t u known r scope v f (expr_texts ts e) ss g.1 (left_none b [] (right_none a (b ++ []) h)), tt)
  stmt_built fs t u known r scope v f ts (if_stmt p e (block_stmt q ss) (stmt_and (block_stmt w os) no_stmts)) g h =
      let a = value_violations t scope None bool e in
      let b = stmts_violations t r scope ss in
      let c = stmts_violations t r scope os in
      let k = right_none a (b ++ (c ++ [])) h in
      let body = block_stmt q ss in
      (value_built fs u f ts e g.0, stmts_built fs t u known r scope v f (expr_texts ts e) ss g.1 (left_none b (c ++ []) k), (stmts_built fs t u known r scope v (stmt_frame u f body) (stmt_texts (expr_texts ts e) body) os g.2 (left_none c [] (right_none b (c ++ []) k)), tt))
  stmt_built fs t u known r scope v f ts (while_stmt p e is (block_stmt q ss)) g h =
      let a = value_violations t scope None bool e in
      let b = invariants_violations t scope is in
      let c = stmts_violations t r scope ss in
      (joined_built u f (invariants is) (invariants_built is g.1), value_built fs u f ts e g.0, stmts_built fs t u known r scope v f (expr_texts ts e) ss g.2 (right_none b c (right_none a (b ++ c) h)))
  stmt_built fs t u known r scope v f ts (return_stmt p (Some e)) g h = (refl, (value_built fs u f ts e g, tt))
  stmt_built fs t u known r scope v f ts (notes_stmt p (n ∷ [])) g h = note_built fs u f n.place n.form g
  stmt_built fs t u known r scope v f ts s g h = absurd g

  stmts_built : (fs : List gc0.Function) (t u : Tables) → Known fs t u → (r : ValueType) (scope : Scope) → IsEven scope → (f : Frame) (ts : Texts) (ss : StmtTrees) → AreBuiltStmts ss → stmts_violations t r scope ss ≡ [] → code.AreBuiltStmts fs (stmts_tree u f ts ss)
  stmts_built fs t u known r scope v f ts no_stmts g h = tt
  stmts_built fs t u known r scope v f ts (stmt_and s ss) g h =
      let a = stmt_violations t r scope s in
      let b = stmts_violations t r (stmt_behind t scope s) ss in
      before_built fs u f s g.0 (stmt_tree u f ts s) (stmt_built fs t u known r scope v f ts s g.0 (left_none a b h)) (stmts_tree u (stmt_frame u f s) (stmt_texts ts s) ss) (stmts_built fs t u known r (stmt_behind t scope s) (stmt_even t scope s g.0 v) (stmt_frame u f s) (stmt_texts ts s) ss g.1 (right_none a b h))

-- ---- a body ends in a `return`
abbrev Ends : gc0.Stmts → Type 0
Ends ss = IsTrue (code.ends_in_return ss)

last_ends : (u : Tables) (f : Frame) (ts : Texts) (s : StmtTree) → is_return s ≡ true → Ends (before u f s (stmt_tree u f ts s) gc0.no_stmts)
last_ends u f ts (return_stmt p e) h = refl
last_ends u f ts s h = let n : ⊥ = cc in absurd n

behind_ends : (x : gc0.Stmt) (rest : gc0.Stmts) → Ends rest → Ends (gc0.stmt_and x rest)
behind_ends x gc0.no_stmts h = let n : ⊥ = cc in absurd n
behind_ends x (gc0.stmt_and y ss) h = h

notes_end : (u : Tables) (f : Frame) (ns : List NoteTree) (rest : gc0.Stmts) → Ends rest → Ends (notes_tree u f ns rest)
notes_end u f [] rest h = h
notes_end u f (n ∷ ns) rest h = behind_ends (note_form u f n.place n.form) (notes_tree u f ns rest) (notes_end u f ns rest h)

before_ends : (u : Tables) (f : Frame) (s : StmtTree) (x : gc0.Stmt) (rest : gc0.Stmts) → Ends rest → Ends (before u f s x rest)
before_ends u f (notes_stmt p ns) x rest h = notes_end u f ns rest h
before_ends u f s x rest h = behind_ends x rest h

body_ends : (u : Tables) (f : Frame) (ts : Texts) (ss : StmtTrees) → ends_in_return ss ≡ true → Ends (stmts_tree u f ts ss)
body_ends u f ts no_stmts h = let n : ⊥ = cc in absurd n
body_ends u f ts (stmt_and s no_stmts) h = last_ends u f ts s h
body_ends u f ts (stmt_and s (stmt_and r ss)) h = before_ends u f s (stmt_tree u f ts s) (stmts_tree u (stmt_frame u f s) (stmt_texts ts s) (stmt_and r ss)) (body_ends u (stmt_frame u f s) (stmt_texts ts s) (stmt_and r ss) h)

-- ---- functions
result_some : (u : Tables) (r : ResultType) → IsBuiltResult r → IsTrue (is_some (result_shape u r))
result_some u (result.Void p) g = absurd g
result_some u (result.Typed t) g = refl

-- what stands in the violations of a function
statements_none : (t above : Tables) (h : Head) (cs : List ContractTree) (ss : StmtTrees) (e : Place) → item_violations t above (function_item h cs ss e) ≡ [] → stmts_violations t (result_type t h.result) (params_scope t (ensured cs) no_scope h.params) ss ≡ []
statements_none t above h cs ss e n =
    let r = result_type t h.result in
    let scope = params_scope t (ensured cs) no_scope h.params in
    let a = library_violations h.name in
    let b = second_violations above.functions.names h.name in
    let c = head_violations t (ensured cs) h in
    let d = function_violations t scope r cs ss e in
    let k = right_none (contract_violations t scope r cs) _ (right_none c d (right_none b (c ++ d) (right_none a (b ++ (c ++ d)) n))) in
    left_none (stmts_violations t r scope ss) _ k

second_none : (t above : Tables) (h : Head) (cs : List ContractTree) (ss : StmtTrees) (e : Place) → item_violations t above (function_item h cs ss e) ≡ [] → not (is_some (last_place above.functions.names h.name.name)) ≡ true
second_none t above h cs ss e n =
    let a = library_violations h.name in
    let b = second_violations above.functions.names h.name in
    kept (not (is_some (last_place above.functions.names h.name.name))) rule.Twice h.name.place (left_none b _ (right_none a _ n))

functions_built : (fs : List gc0.Function) (t u : Tables) → Known fs t u → (above : Tables) (ts : Texts) (is : List ItemTree) → AreAll IsBuiltItem is → items_violations t above is ≡ [] → AreBuiltFunctions fs (functions_tree u ts is)
functions_built fs t u known above ts [] g n = tt
functions_built fs t u known above ts (function_item h cs ss e ∷ is) g n =
    let i = g.0 in
    let item = function_item h cs ss e in
    let a = item_violations t above item in
    let b = items_violations t (with_item above item) is in
    let scope = params_scope t (ensured cs) no_scope h.params in
    let frame : Frame = record { locals = params_of u h.params; result = result_type u h.result } in (
      record {
        has_result = result_some u h.result i.0;
        before = joined_built u frame (side_contracts Requires cs) (contracts_built Requires cs i.2);
        after = joined_built u frame (side_contracts Ensures cs) (contracts_built Ensures cs i.2);
        body = stmts_built fs t u known (result_type t h.result) scope (params_even t (ensured cs) no_scope h.params tt) frame ts ss i.3 (statements_none t above h cs ss e (left_none a b n));
        returns = body_ends u frame ts ss i.4;
      },
      functions_built fs t u known (with_item above item) (item_texts ts item) is g.1 (right_none a b n),
    )
functions_built fs t u known above ts (i ∷ is) g n = absurd g.0

-- ---- the functions of the tables stand at their numbers, since no name is defined twice: for each signature a function with as many parameters
abbrev Aligned : List Signature → List gc0.Function → Type 0
Aligned [] [] = Unit {0}
Aligned [] (f ∷ fs) = ⊥
Aligned (s ∷ ss) [] = ⊥
Aligned (s ∷ ss) (f ∷ fs) = (f.params ≡ length s.params) × Aligned ss fs

one_aligned : (ss : List Signature) (fs : List gc0.Function) (s : Signature) (f : gc0.Function) → Aligned ss fs → f.params ≡ length s.params → Aligned (ss ++ s ∷ []) (fs ++ f ∷ [])
one_aligned [] [] s f a e = (e, tt)
one_aligned [] (g ∷ fs) s f a e = absurd a
one_aligned (r ∷ ss) [] s f a e = absurd a
one_aligned (r ∷ ss) (g ∷ fs) s f a e = (a.0, one_aligned ss fs s f a.1 e)

params_counted : (t : Tables) (ps : List Param) → length ps ≡ length (param_types t ps)
params_counted t [] = refl
params_counted t (p ∷ ps) = ap suc (params_counted t ps)

otherwise : {A : Type 0} (b : Bool) (x y : A) → not b ≡ true → (if b then x else y) ≡ y
otherwise true x y h = let n : ⊥ = cc in absurd n
otherwise false x y h = refl

signed : (c : Callables) (name : List ℕ) (s : Signature) → not (is_some (last_place c.names name)) ≡ true → (with_signature c name s).signatures ≡ c.signatures ++ s ∷ []
signed c name s h = ap (λ d. d.signatures) (otherwise (is_some (last_place c.names name)) c (record { names = c.names ++ name ∷ []; signatures = c.signatures ++ s ∷ [] }) h)

all_aligned : (t u above : Tables) (ts : Texts) (is : List ItemTree) (fs : List gc0.Function) → AreAll IsBuiltItem is → items_violations t above is ≡ [] → Aligned above.functions.signatures fs → Aligned (fold with_item above is).functions.signatures (fs ++ functions_tree u ts is)
all_aligned t u above ts [] fs g n a = subst (Aligned above.functions.signatures) (sym (append-nil fs)) a
all_aligned t u above ts (function_item h cs ss e ∷ is) fs g n a =
    let item = function_item h cs ss e in
    let next = with_item above item in
    let f = function_tree u ts h cs ss e in
    let s = head_signature above h in
    let b = item_violations t above item in
    let c = items_violations t next is in
    let new = signed above.functions h.name.name s (second_none t above h cs ss e (left_none b c n)) in
    let more : Aligned next.functions.signatures (fs ++ f ∷ []) = subst (λ l. Aligned l (fs ++ f ∷ [])) (sym new) (one_aligned above.functions.signatures fs s f a (params_counted above h.params)) in
    subst (Aligned (fold with_item next is).functions.signatures) (append_assoc fs (f ∷ []) (functions_tree u (item_texts ts item) is)) (all_aligned t u next (item_texts ts item) is (fs ++ f ∷ []) g.1 (right_none b c n) more)
all_aligned t u above ts (i ∷ is) fs g n a = absurd g.0

at_number : (ss : List Signature) (fs : List gc0.Function) → Aligned ss fs → (i n : ℕ) → takes (slice_get ss i) n ≡ true → Takes (slice_get fs i) n
at_number [] [] a i n h = let x : ⊥ = cc in absurd x
at_number [] (f ∷ fs) a i n h = absurd a
at_number (s ∷ ss) [] a i n h = absurd a
at_number (s ∷ ss) (f ∷ fs) a zero n h = a.0 ∙ eqb-true (length s.params) n h
at_number (s ∷ ss) (f ∷ fs) a (suc i) n h = at_number ss fs a.1 i n h

at_place : (ss : List Signature) (fs : List gc0.Function) → Aligned ss fs → (i : Option ℕ) (n : ℕ) → takes (option_and_then (slice_get ss) i) n ≡ true → Takes (slice_get fs (unwrap_or i 0)) n
at_place ss fs a None n h = let x : ⊥ = cc in absurd x
at_place ss fs a (Some i) n h = at_number ss fs a i n h

all_known : (fs : List gc0.Function) (u : Tables) → Aligned u.functions.signatures fs → Known fs u u
all_known fs u a name n h = at_place u.functions.signatures fs a (last_place u.functions.names name) n h

-- ---- programs
first_of_both : (a b : List Violation) → or_others a b ≡ [] → a ≡ []
first_of_both [] b e = refl
first_of_both (v ∷ a) b e = let n : ⊥ = cc in absurd n

second_of_both : (a b : List Violation) → or_others a b ≡ [] → b ≡ []
second_of_both [] b e = e
second_of_both (v ∷ a) b e = let n : ⊥ = cc in absurd n

second_true : (a b : Bool) → a && b ≡ true → b ≡ true
second_true true b e = e
second_true false b e = let n : ⊥ = cc in absurd n

main_takes : (s : Option Signature) → is_main s ≡ true → takes s 0 ≡ true
main_takes None e = let n : ⊥ = cc in absurd n
main_takes (Some s) e = second_true (same_type s.result int) (eqb (length s.params) 0) e

-- a program of the built forms
pub program_built : (p : ProgramTree) → IsBuiltProgram p → violations p ≡ [] → IsBuilt (resolved p)
program_built p g h =
    let t = tables_before p in
    let u = tables_of p in
    let start_tables = tables_above (struct_names p) in
    let fs = functions_tree u [] p.items in
    let m = is_main (signature_in u.functions main_name) in
    let a = items_violations t start_tables p.items in
    let b = unless m rule.NoMain start in
    let items = first_of_both a b h in
    let main = kept m rule.NoMain start (second_of_both a b h) in
    let known = all_known fs u (all_aligned t u start_tables [] p.items [] g items tt) in
    record {
      functions = functions_built fs t u known start_tables [] p.items g items;
      main = known main_name 0 (main_takes (signature_in u.functions main_name) main);
    }
