-- The resolved program of a text without violations fits.
use Rattle.std.proofs.Common.{◌≡◌, ℕ, zero, suc, ◌≤◌, true, eqb, List, [], ◌∷◌, ◌++◌, length, map, Option, Some, None, is_some, slice_get, option_and_then, option_map, unwrap_or, if◌then◌else◌, refl, sym, subst, ap, ◌∙◌, inl, inr, arith, eqb-true, length-take, Result, Ok, Err}
use Rattle.std.specs.Prelude.{◌⊎◌, fold, zip, IfSome, IfOk}
use Rattle.std.proofs.lemmas.Option.{slice_get-map}
use Rattle.gc0_base.specs.declared.place.Place.{Place}
use Rattle.parsed_tree.specs.declared.items.Side.{Side}
use Rattle.parsed_tree.specs.declared.items.Side.TheVariants.{Requires, Ensures}
use Rattle.parsed_tree.specs.declared.items.ResultType.{ResultType}
use Rattle.parsed_tree.specs.declared.items.ResultType.TheVariants as result
use Rattle.parsed_tree.specs.declared.items.Head.{Head}
use Rattle.parsed_tree.specs.Tree.{ClauseTree, ContractTree, StmtTrees, PredicateTree, ItemTree, function_item, predicates_item, ProgramTree}
use Rattle.gc0_tree.specs.declared.Shape.{Shape}
use Rattle.gc0_tree.specs.Tree as tree
use Rattle.gc0_tree.specs.Views.{program_view}
use Rattle.gc0_tree.specs.declared.Program.{Program}
use Rattle.gc0_tree.specs.Fits.{Room, StmtsFit, IsHeld, StructFits, PredicateFits, FunctionFits, IsMain, Fits, params_in, shapes_in, field_shape}
use Rattle.c0_names.specs.declared.types.ValueType.{ValueType}
use Rattle.c0_names.specs.declared.types.ValueType.TheVariants.{Void}
use Rattle.c0_names.specs.declared.tables.TypedNames.{TypedNames}
use Rattle.c0_names.specs.declared.tables.Signature.{Signature}
use Rattle.c0_names.specs.declared.tables.Tables.{Tables}
use Rattle.c0_names.specs.Names.{last_place}
use Rattle.c0_names.specs.Tables.{struct_names, struct_number, type_in, signature_in, value_type, result_type, param_types, no_types, fields_of, with_predicate, with_item, tables_above, tables_of, params_structs, result_structs, head_structs, stmts_structs, predicates_structs, item_structs, items_structs}
use Rattle.c0_names.specs.Types.{is_int}
use Rattle.c0_value_rules.specs.declared.violation.Rule.TheVariants as rule
use Rattle.c0_value_rules.specs.declared.violation.Violation.{Violation}
use Rattle.c0_value_rules.specs.declared.violation.TypeFault.{TypeFault}
use Rattle.c0_value_rules.specs.Violations.{unless}
use Rattle.c0_value_rules.specs.Scopes.{no_scope}
use Rattle.c0_value_rules.specs.Formulas.{formula_violations, parts_violations}
use Rattle.c0_rules.specs.Rules.{params_scope, params_violations, result_violations, ensured, outcome_in, sides_violations, contract_violations, second_violations, predicate_violations, predicates_violations, items_violations, is_main, main_name, start, or_others, tables_before, violations}
use Rattle.c0_value_numbers.specs.declared.frame.Frame.{Frame}
use Rattle.c0_value_numbers.specs.Values.{number_in, shape_of}
use Rattle.c0_value_numbers.specs.Texts.{Texts}
use Rattle.c0_numbers.specs.StatementTexts.{item_texts}
use Rattle.c0_value_numbers.specs.Formulas.{is_of, side_clauses, side_contracts}
use Rattle.c0_numbers.specs.Resolved.{shapes_of, struct_tree, structs_tree, params_of, predicate_tree, result_shape, function_tree, predicates_tree, functions_tree, resolved}
use Rattle.c0_types.proofs.Looks.{Even, look_some, placed, number_is}
use Rattle.c0_types.proofs.Shapes.{Held, held_value, int_of, both_left, both_right}
use Rattle.c0_types.proofs.Raised.{Below}
use Rattle.c0_types.proofs.World.{given, AllHeld, Means, Stands, World}
use Rattle.c0_types.proofs.Clean.{left_none, right_none, kept}
use Rattle.c0_types.proofs.Formulas.{Spot, parts_fit, AllClean, all_fit, clean_both}
use Rattle.c0_types.proofs.Frames.{kept_type, held_here}
use Rattle.c0_types.proofs.Bodies.{Front, sees_in, no_outcome, held_given, stmts_fit}
use Rattle.c0_types.proofs.Walk.{structs_left, Walk, One, Trace, trace, GoodFields, good_none, even_none, good_at, fields_stand, result_held}
use Rattle.c0_types.proofs.Callables.{zip_at, zip_shapes, zip_length, params_types, params_agree, start_agrees, FunctionHas, head_parts, start_frame, end_frame, starts, ends, in_front, params_shapes, Stood, functions_stood, PredicateHas, Spoken, predicates_spoken, result_given}
use Rattle.c0_types.proofs.Known.{Each, each_all, each_at, each_both, each_left, each_right, Known, known_held, held_shapes, IsIn, all_in, Knows, type_known, params_known, KnownFields, none_known, KnowsAll, items_known, stmts_known}

-- ---- structs
zip_get : (ns : List (List ℕ)) (l : List (Option TypedNames)) (k : ℕ) (x : Option TypedNames) →
    Even ns l → slice_get l k ≡ Some x → (n : List ℕ) × (slice_get (zip ns l) k ≡ Some (n, x))
zip_get [] [] k x e q = let n : ⊥ = cc in absurd n
zip_get [] (y ∷ l) k x e q = absurd e
zip_get (n ∷ ns) [] k x e q = absurd e
zip_get (n ∷ ns) (y ∷ l) zero x e q = let s : y ≡ x = cc in (n, ap (λ z. Some (n, z)) s)
zip_get (n ∷ ns) (y ∷ l) (suc k) x e q = zip_get ns l k x e q

struct_at : (ns : List (List ℕ)) (l : List (Option TypedNames)) (k : ℕ) (x : Option TypedNames) →
    Even ns l → slice_get l k ≡ Some x →
    (n : List ℕ) × (slice_get (structs_tree ns l) k ≡ Some (struct_tree (n, x)))
struct_at ns l k x e q =
    let z = zip_get ns l k x e q in
    (z.0, slice_get-map struct_tree (zip ns l) k ∙ ap (option_map struct_tree) z.1)

even_structs : (ns : List (List ℕ)) (l : List (Option TypedNames)) → Even ns l →
    Even ns (structs_tree ns l)
even_structs [] [] e = tt
even_structs [] (y ∷ l) e = absurd e
even_structs (n ∷ ns) [] e = absurd e
even_structs (n ∷ ns) (y ∷ l) e = even_structs ns l e

held_at : (vs : List ValueType) (i : ℕ) (v : ValueType) → AllHeld vs → slice_get vs i ≡ Some v →
    Held v
held_at [] i v h e = let n : ⊥ = cc in absurd n
held_at (w ∷ vs) zero v h e = let q : w ≡ v = cc in subst Held q h.0
held_at (w ∷ vs) (suc i) v h e = held_at vs i v h.1 e

fields_at : (o : Option (Option TypedNames)) (fs : TypedNames) →
    option_and_then (λ f. f) o ≡ Some fs → o ≡ Some (Some fs)
fields_at None fs e = let n : ⊥ = cc in absurd n
fields_at (Some None) fs e = let n : ⊥ = cc in absurd n
fields_at (Some (Some x)) fs e = ap Some e

-- a struct's number is that of a struct of the program
struct_known : (ns : List (List ℕ)) (l : List (Option TypedNames)) → Even ns l → (n : List ℕ) →
    IsIn ns n → is_some (slice_get (structs_tree ns l) (struct_number ns n)) ≡ true
struct_known ns l e n h = of (last_place ns n) refl
  where
    of : (o : Option ℕ) → last_place ns n ≡ o →
        is_some (slice_get (structs_tree ns l) (struct_number ns n)) ≡ true
    of None q = let m : ⊥ = cc in absurd m
    of (Some i) q =
        let a = look_some ns (structs_tree ns l) n (even_structs ns l e) h in
        let b : is_some (slice_get (structs_tree ns l) i) ≡ true = subst
        (λ o. is_some (option_and_then (slice_get (structs_tree ns l)) o) ≡ true) q a in
        subst (λ o. is_some (slice_get (structs_tree ns l) (unwrap_or o (length ns))) ≡ true)
        (sym q) b

structs_fit : (p : tree.Program) (ns : List (List ℕ)) (l : List (Option TypedNames)) → Even ns l →
    GoodFields l → Each (KnownFields p) l → Each (StructFits p) (structs_tree ns l)
structs_fit p [] [] e g k = tt
structs_fit p [] (y ∷ l) e g k = absurd e
structs_fit p (n ∷ ns) [] e g k = absurd e
structs_fit p (n ∷ ns) (None ∷ l) e g k = (each_all (IsHeld p) [] tt, structs_fit p ns l e g k.1)
structs_fit p (n ∷ ns) (Some fs ∷ l) e g k = (
  each_all (IsHeld p) (shapes_in (shapes_of fs))
      (subst (Each (IsHeld p)) (sym (zip_shapes fs.names fs.types g.0.0))
      (held_shapes p fs.types g.0.1 k.0)),
  structs_fit p ns l e g.1 k.1,
)

-- ---- the world of a text
world_of : (u : Tables) (p : tree.Program) → Even u.structs u.fields → GoodFields u.fields →
    p.structs ≡ structs_tree u.structs u.fields → Stood p.functions u.functions →
    Spoken p.predicates u.predicates → World u p
world_of u p even good is fs ds =
    record { functions = functions; predicates = predicates; fields = fields; structs = structs }
  where
    functions : (n : List ℕ) (s : Signature) → signature_in u.functions n ≡ Some s →
        Means p (number_in u.functions.names n) s
    functions n s e =
        let q = placed u.functions.names u.functions.signatures n s e in
        let z = zip_at FunctionHas p.functions u.functions.signatures q.0 s fs.each q.2 in
        record {
          one = z.0;
          here = subst (λ i. slice_get p.functions i ≡ Some z.0)
              (sym (number_is u.functions.names n q.0 q.1)) z.1;
          params =
              z.2.params;
          result = z.2.result;
          held = z.2.held;
        }

    predicates : (n : List ℕ) (s : Signature) → signature_in u.predicates n ≡ Some s →
        Stands p (number_in u.predicates.names n) s
    predicates n s e =
        let q = placed u.predicates.names u.predicates.signatures n s e in
        let z = zip_at PredicateHas p.predicates u.predicates.signatures q.0 s ds.each q.2 in
        record {
          one = z.0;
          here = subst (λ i. slice_get p.predicates i ≡ Some z.0)
              (sym (number_is u.predicates.names n q.0 q.1)) z.1;
          params =
              z.2.params;
          held = z.2.held;
        }

    at : (k : ℕ) (fs : TypedNames) → fields_of u k ≡ Some fs →
        (n : List ℕ) × (slice_get p.structs k ≡ Some (struct_tree (n, Some fs)))
    at k fs e =
        let z = struct_at u.structs u.fields k (Some fs) even
        (fields_at (slice_get u.fields k) fs e) in
        (z.0, ap (λ l. slice_get l k) is ∙ z.1)

    structs : (k : ℕ) (fs : TypedNames) → fields_of u k ≡ Some fs →
        is_some (slice_get p.structs k) ≡ true
    structs k fs e = ap is_some (at k fs e).1

    fields : (k : ℕ) (fs : TypedNames) (n : List ℕ) (v : ValueType) → fields_of u k ≡ Some fs →
        type_in fs n ≡ Some v →
        (field_shape p k (number_in fs.names n) ≡ Some (shape_of v)) × Held v
    fields k fs n v e t =
        let g = good_at u.fields k fs good (fields_at (slice_get u.fields k) fs e) in
        let q = placed fs.names fs.types n v t in
        let i = number_in fs.names n in
        let shapes = ap (λ l. slice_get l i) (zip_shapes fs.names fs.types g.0) ∙ slice_get-map
        shape_of fs.types i ∙ ap (λ j. option_map shape_of (slice_get fs.types j))
        (number_is fs.names n q.0 q.1) ∙ ap (option_map shape_of) q.2 in (
          ap (option_and_then (λ s. slice_get (shapes_in s.fields) i)) (at k fs e).1 ∙ shapes,
          held_at fs.types q.0 v g.1 q.2,
        )

-- ---- contracts
sides_clean : (t u : Tables) (p : tree.Program) (c : Spot t u p) (r : ValueType) (side : Side) →
    c.outcome ≡ outcome_in r side → (cs : List ClauseTree) → sides_violations t c.scope r cs ≡ [] →
    AllClean t u p c (side_clauses side cs)
sides_clean t u p c r side e [] h = tt
sides_clean t u p c r side e (d ∷ cs) h =
    let a = formula_violations t c.scope (outcome_in r d.side) d.formula in
    let b = sides_violations t c.scope r cs in
    of side d.side e (left_none a b h) (sides_clean t u p c r side e cs (right_none a b h))
  where
    of : (x y : Side) → c.outcome ≡ outcome_in r x →
        formula_violations t c.scope (outcome_in r y) d.formula ≡ [] →
        AllClean t u p c (side_clauses side cs) →
        AllClean t u p c (if is_of x y then d.formula ∷ side_clauses side cs else side_clauses side
        cs)
    of Requires Requires e h k =
        (subst (λ o. formula_violations t c.scope o d.formula ≡ []) (sym e) h, k)
    of Requires Ensures e h k = k
    of Ensures Requires e h k = k
    of Ensures Ensures e h k =
        (subst (λ o. formula_violations t c.scope o d.formula ≡ []) (sym e) h, k)

contracts_clean : (t u : Tables) (p : tree.Program) (c : Spot t u p) (r : ValueType) (side : Side) →
    c.outcome ≡ outcome_in r side → (cs : List ContractTree) →
    contract_violations t c.scope r cs ≡ [] → AllClean t u p c (side_contracts side cs)
contracts_clean t u p c r side e [] h = tt
contracts_clean t u p c r side e (d ∷ cs) h =
    let a = sides_violations t c.scope r d.clauses in
    let b = contract_violations t c.scope r cs in
    clean_both t u p c (side_clauses side d.clauses) (side_contracts side cs)
    (sides_clean t u p c r side e d.clauses (left_none a b h))
    (contracts_clean t u p c r side e cs (right_none a b h))

-- ---- a room whose locals are these
front_of : (room : Room) (f : Frame) (vs : List ValueType) → room.locals ≡ map shape_of vs →
    f.locals.types ≡ vs → Front room f
front_of room f vs a b i v e =
    ap (λ l. slice_get l i) a ∙ slice_get-map shape_of vs i ∙ ap (option_map shape_of)
    (subst (λ l. slice_get l i ≡ Some v) b e)

result_same : (t u : Tables) → Below t u → (n : ResultType) → result_violations t n ≡ [] →
    result_type u n ≡ result_type t n
result_same t u below (result.Void p) h = refl
result_same t u below (result.Typed n) h = kept_type t u below n (held_here t n h)

result_fits : (p : tree.Program) (s : List (List ℕ)) (t u : Tables) → Below t u → Knows p s u →
    (n : ResultType) → result_violations t n ≡ [] → Each (IsIn s) (result_structs n) →
    IfSome (result_shape u n) (IsHeld p)
result_fits p s t u below k (result.Void at) h m = tt
result_fits p s t u below k (result.Typed n) h m =
    let held = held_here t n h in
    known_held p (value_type u n) (subst Held (sym (kept_type t u below n held)) held)
    (type_known p s u k n m)

-- `\result` in the `ensures` of a function with a result
outcome_seen : (r w : ValueType) (o : Option Shape) → (r ≡ Void) ⊎ Held r → w ≡ r → o ≡ given r →
    (v : ValueType) → outcome_in r Ensures ≡ Some v → (v ≡ w) × Held v × (o ≡ Some (shape_of v))
outcome_seen r w o (inl q) a b v e = let k = ap (λ z. outcome_in z Ensures) q in
    let n : ⊥ = cc in absurd n
outcome_seen r w o (inr held) a b v e =
    let k : outcome_in r Ensures ≡ Some r = ap (λ c. if c then None else Some r)
    (held_value r held) in
    let q : r ≡ v = cc in
    (sym q ∙ sym a, subst Held q held, b ∙ held_given r held ∙ ap (λ z. Some (shape_of z)) q)

-- ---- functions
function_fits : (u above : Tables) (p : tree.Program) (s : List (List ℕ)) → World u p →
    Knows p s u → (ts : Texts) (h : Head) (cs : List ContractTree) (ss : StmtTrees) (close :
    Place) → Each (IsIn s) (head_structs h ++ stmts_structs ss) →
    One u above (function_item h cs ss close) → FunctionFits p (function_tree u ts h cs ss close)
function_fits u above p s world knows ts h cs ss close names one =
    let t = one.ours in
    let below = one.below in
    let q = (head_parts t above h cs ss close one.clean).1 in
    let g = function_tree u ts h cs ss close in
    let r = result_type t h.result in
    let l = (end_frame u h ss).locals in
    let f = start_frame u h in
    let scope = params_scope t (ensured cs) no_scope h.params in
    let begins = starts t u below h cs ss q in
    let at_end = ends t u below h cs ss q in
    let shapes = zip_shapes l.names l.types at_end.locals in
    let params = params_shapes t u below ts h cs ss close q in
    let types = params_types u no_types h.params in
    let in_head = each_left (IsIn s) (head_structs h) (stmts_structs ss) names in
    let in_params = each_right (IsIn s) (result_structs h.result) (params_structs h.params)
    in_head in
    let known = stmts_known p s u knows f ss (each_right (IsIn s) (head_structs h)
    (stmts_structs ss) names) (subst (Each (Known p)) (sym types)
    (params_known p s u knows h.params in_params)) in
    let gives = result_given t u below h.result q.result in
    let held = result_held t h.result q.result in
    let before_room : Room = record { locals = params_in g; outcome = None } in
    let after_room : Room = record { locals = params_in g; outcome = g.result } in
    let body_room : Room = record { locals = shapes_in g.locals; outcome = None } in
    let before_front : Front before_room f = front_of before_room f (param_types u h.params) params
    types in
    let after_front : Front after_room f = front_of after_room f (param_types u h.params) params
    types in
    let body_front : Front body_room (end_frame u h ss) = front_of body_room (end_frame u h ss)
    l.types shapes refl in
    let before_spot : Spot t u p = record {
      below = below;
      world = world;
      room = before_room;
      frame =
          f;
      scope = scope;
      outcome = None;
      even = begins.even;
      sees = sees_in before_room f scope
          begins before_front None (no_outcome f before_room);
    } in
    let after_spot : Spot t u p = record {
      below = below;
      world = world;
      room = after_room;
      frame =
          f;
      scope =
          scope;
      outcome = outcome_in r Ensures;
      even = begins.even;
      sees = sees_in after_room f scope
          begins after_front (outcome_in r Ensures) (outcome_seen r (result_type u h.result) g.result
          held (result_same t u below h.result q.result) gives);
    } in
    record {
      params =
          subst (λ n. length h.params ≤ n) (sym (zip_length l.names l.types at_end.locals))
          (in_front u h ss).1;
      locals =
          each_all (IsHeld p) (shapes_in g.locals)
          (subst (Each (IsHeld p)) (sym shapes) (held_shapes p l.types at_end.types known));
      result =
          result_fits p s t u below knows h.result q.result
          (each_left (IsIn s) (result_structs h.result) (params_structs h.params) in_head);
      before =
          all_fit t u p before_spot (side_contracts Requires cs)
          (contracts_clean t u p before_spot r Requires refl cs q.contract);
      after =
          all_fit t u p after_spot (side_contracts Ensures cs)
          (contracts_clean t u p after_spot r Ensures refl cs q.contract);
      body =
          subst (λ d. StmtsFit p body_room d g.body) (sym gives)
          (stmts_fit t u p below world body_room r held scope f ts ss begins body_front q.body);
    }

functions_fit : (u above : Tables) (p : tree.Program) (s : List (List ℕ)) → World u p →
    Knows p s u → (ts : Texts) (is : List ItemTree) → Each (IsIn s) (items_structs is) →
    Trace u above is → Each (FunctionFits p) (functions_tree u ts is)
functions_fit u above p s world knows ts [] names h = tt
functions_fit u above p s world knows ts (function_item d cs ss close ∷ is) names h =
    let i = function_item d cs ss close in (
      function_fits u above p s world knows ts d cs ss close
          (each_left (IsIn s) (item_structs i) (items_structs is) names) h.0,
      functions_fit u
          (with_item above i) p s world knows (item_texts ts i) is
          (each_right (IsIn s) (item_structs i) (items_structs is) names) h.1,
    )
functions_fit u above p s world knows ts (i ∷ is) names h =
    functions_fit u (with_item above i) p s world knows ts is
    (each_right (IsIn s) (item_structs i) (items_structs is) names) h.1

-- ---- predicates
predicate_fits : (t u : Tables) (p : tree.Program) (s : List (List ℕ)) → Below t u → World u p →
    Knows p s u → (q : PredicateTree) → Each (IsIn s) (params_structs q.params) →
    predicate_violations t q ≡ [] → PredicateFits p (predicate_tree u q)
predicate_fits t u p s below world knows q names h =
    let l = params_of u q.params in
    let f : Frame = record { locals = l; result = Void } in
    let scope = params_scope t [] no_scope q.params in
    let a = params_violations t [] no_scope q.params in
    let b = parts_violations t scope None q.body in
    let begins = params_agree t u below [] no_scope no_types Void q.params (start_agrees Void)
    (left_none a b h) in
    let types = params_types u no_types q.params in
    let shapes = zip_shapes l.names l.types begins.locals in
    let room : Room = record { locals = shapes_in (shapes_of l); outcome = None } in
    let front : Front room f = front_of room f l.types shapes refl in
    let spot : Spot t u p = record {
      below = below;
      world = world;
      room = room;
      frame = f;
      scope =
          scope;
      outcome =
          None;
      even = begins.even;
      sees = sees_in room f scope begins front None (no_outcome f room);
    } in
    record {
      params =
          each_all (IsHeld p) (shapes_in (shapes_of l))
          (subst (Each (IsHeld p)) (sym shapes) (held_shapes p l.types begins.types
          (subst (Each (Known p)) (sym types) (params_known p s u knows q.params names))));
      body = parts_fit t u p spot q.body tree.no_parts (right_none a b h) tt;
    }

some_fit : (t above u : Tables) (p : tree.Program) (s : List (List ℕ)) → Below t u → World u p →
    Knows p s u → (qs : List PredicateTree) → Each (IsIn s) (predicates_structs qs) →
    predicates_violations t above qs ≡ [] → Each (PredicateFits p) (map (predicate_tree u) qs)
some_fit t above u p s below world knows [] names h = tt
some_fit t above u p s below world knows (q ∷ qs) names h =
    let a = second_violations above.predicates.names q.name in
    let b = predicate_violations t q in
    let c = predicates_violations t (with_predicate above q) qs in (
      predicate_fits t u p s below world knows q (each_left (IsIn s) (params_structs q.params)
          (predicates_structs qs) names) (right_none a b (left_none (a ++ b) c h)),
      some_fit t
          (with_predicate above q) u p s below world knows qs
          (each_right (IsIn s) (params_structs q.params) (predicates_structs qs) names)
          (right_none (a ++ b) c h),
    )

predicates_fit : (u above : Tables) (p : tree.Program) (s : List (List ℕ)) → World u p →
    Knows p s u → (is : List ItemTree) → Each (IsIn s) (items_structs is) → Trace u above is →
    Each (PredicateFits p) (predicates_tree u is)
predicates_fit u above p s world knows [] names h = tt
predicates_fit u above p s world knows (predicates_item at qs ∷ is) names h =
    let i = predicates_item at qs in
    each_both (PredicateFits p) (map (predicate_tree u) qs) (predicates_tree u is)
    (some_fit h.0.ours above u p s h.0.below world knows qs
    (each_left (IsIn s) (item_structs i) (items_structs is) names) h.0.clean)
    (predicates_fit u (with_item above i) p s world knows is
    (each_right (IsIn s) (item_structs i) (items_structs is) names) h.1)
predicates_fit u above p s world knows (i ∷ is) names h =
    predicates_fit u (with_item above i) p s world knows is
    (each_right (IsIn s) (item_structs i) (items_structs is) names) h.1

-- ---- `main`
none_taken : (g : tree.Function) → params_in g ≡ [] → g.params ≤ length g.locals → g.params ≡ 0
none_taken g e h =
    let a = ap length e in
    let b = map_length g.locals in
    let c = length-take g.params (shapes_in g.locals) in
    omega arith
  where
    map_length : (xs : List (List ℕ × Shape)) → length (shapes_in xs) ≡ length xs
    map_length [] = refl
    map_length (x ∷ xs) = ap suc (map_length xs)

no_params : (vs : List ValueType) → length vs ≡ 0 → map shape_of vs ≡ []
no_params [] e = refl
no_params (v ∷ vs) e = absurd (omega arith)

main_fits : (u : Tables) (p : tree.Program) → World u p →
    p.main ≡ number_in u.functions.names main_name → Each (FunctionFits p) p.functions →
    is_main (signature_in u.functions main_name) ≡ true →
    (g : tree.Function) × (slice_get p.functions p.main ≡ Some g) × IsMain g
main_fits u p world at all h = of (signature_in u.functions main_name) refl h
  where
    of : (o : Option Signature) → signature_in u.functions main_name ≡ o → is_main o ≡ true →
        (g : tree.Function) × (slice_get p.functions p.main ≡ Some g) × IsMain g
    of None e h = let n : ⊥ = cc in absurd n
    of (Some s) e h =
        let m = world.functions main_name s e in
        let a = int_of s.result (both_left (is_int s.result) (eqb (length s.params) 0) h) in
        let b = eqb-true (length s.params) 0 (both_right (is_int s.result) (eqb (length s.params) 0)
        h) in
        let f = each_at (FunctionFits p) p.functions (number_in u.functions.names main_name) m.one
        all m.here in (
          m.one,
          ap (slice_get p.functions) at ∙ m.here,
          record {
            params = none_taken m.one (m.params ∙ no_params s.params b) f.params;
            result =
                m.result ∙ ap given a;
          },
        )

-- ---- the text
none_first : (a b : List Violation) → or_others a b ≡ [] → a ≡ []
none_first [] b h = refl
none_first (v ∷ a) b h = h

none_others : (a b : List Violation) → or_others a b ≡ [] → b ≡ []
none_others [] b h = h
none_others (v ∷ a) b h = let n : ⊥ = cc in absurd n

structs_stay : (t : Tables) (is : List ItemTree) → (fold with_item t is).structs ≡ t.structs
structs_stay t [] = refl
structs_stay t (i ∷ is) = structs_stay (with_item t i) is ∙ structs_left t i

-- each part of a program that was resolved has the shape of its place
pub fits_where_clean : (x : ProgramTree) → violations x ≡ [] → Fits (resolved x)
fits_where_clean x h =
    let s = struct_names x in
    let above = tables_above s in
    let u = tables_of x in
    let t = tables_before x in
    let p = resolved x in
    let a = items_violations t above x.items in
    let b = unless (is_main (signature_in u.functions main_name)) rule.NoMain start in
    let same : u.structs ≡ s = structs_stay above x.items in
    let walk : Walk t above u = record {
      ours = refl;
      structs = sym same;
      aliases = refl;
      fields =
          refl;
      functions = refl;
      predicates = refl;
    } in
    let way = trace u t above walk x.items refl (none_first a b h) in
    let stand = fields_stand s u above x.items way (even_none s, good_none s) in
    let even : Even u.structs u.fields = subst (λ l. Even l u.fields) (sym same) stand.0 in
    let stood : Stood p.functions u.functions = functions_stood u above [] [] x.items way
    (record { even = tt; each = tt }) in
    let spoken : Spoken p.predicates u.predicates = predicates_spoken u above [] x.items way
    (record { even = tt; each = tt }) in
    let world = world_of u p even stand.1 refl stood spoken in
    let names = all_in (items_structs x.items) [] in
    let numbers = λ (n : List ℕ) (e : IsIn s n). subst
    (λ l. is_some (slice_get (structs_tree l u.fields) (struct_number s n)) ≡ true) (sym same)
    (struct_known s u.fields stand.0 n e) in
    let begin : KnowsAll p s above = record {
      knows = record
          { same = refl; numbers = numbers; aliases = tt };
      fields = none_known p s;
    } in
    let known = items_known p s above x.items names begin in
    let fit = functions_fit u above p s world known.knows [] x.items names way in
    record {
      structs =
          each_all (StructFits p) p.structs (structs_fit p u.structs u.fields even stand.1
          known.fields);
      predicates =
          each_all (PredicateFits p) p.predicates (predicates_fit u above p s world known.knows
          x.items names way);
      functions = each_all (FunctionFits p) p.functions fit;
      main =
          main_fits u p world refl fit (kept (is_main (signature_in u.functions main_name))
          rule.NoMain start (none_others a b h));
    }

-- the program that was resolved fits, where it is that of a text without violations
pub if_resolved : (x : ProgramTree) (r : Result Program TypeFault) →
    IfOk r (λ q. violations x ≡ []) → IfOk r (λ q. program_view q ≡ resolved x) →
    IfOk r (λ q. Fits (program_view q))
if_resolved x (Ok q) h e = subst Fits (sym e) (fits_where_clean x h)
if_resolved x (Err f) h e = tt
