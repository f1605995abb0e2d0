-- Functions and predicates stand in the resolved program by the numbers of their names, with the shapes of their signatures.
use Rattle.std.proofs.Common.{◌≡◌, ℕ, zero, suc, ◌≤◌, true, not, List, [], ◌∷◌, ◌++◌, length, map, take, Option, Some, None, is_some, slice_get, if◌then◌else◌, refl, sym, subst, ap, ◌∙◌, append_assoc, append-nil, arith}
use Rattle.std.specs.Prelude.{fold, zip, slice_set}
use Rattle.std.specs.List.{AllZip}
use Rattle.std.proofs.lemmas.List.{take-map}
use Rattle.parsed_tree.specs.declared.expressions.Named.{Named}
use Rattle.parsed_tree.specs.declared.items.Field.{Field}
use Rattle.parsed_tree.specs.declared.items.Param.{Param}
use Rattle.parsed_tree.specs.declared.items.ResultType.{ResultType}
use Rattle.parsed_tree.specs.declared.items.ResultType.TheVariants as result
use Rattle.parsed_tree.specs.declared.items.Head.{Head}
use Rattle.parsed_tree.specs.Tree.{StmtTrees, ContractTree, PredicateTree, ItemTree, struct_name, struct_item, typedef_item, prototype_item, function_item, predicates_item}
use Rattle.gc0_base.specs.declared.place.Place.{Place}
use Rattle.gc0_tree.specs.Tree as tree
use Rattle.gc0_tree.specs.Fits.{params_in, shapes_in}
use Rattle.c0_names.specs.declared.types.ValueType.{ValueType}
use Rattle.c0_names.specs.declared.types.ValueType.TheVariants.{Void}
use Rattle.c0_names.specs.declared.tables.TypedNames.{TypedNames}
use Rattle.c0_names.specs.declared.tables.Signature.{Signature}
use Rattle.c0_names.specs.declared.tables.Callables.{Callables}
use Rattle.c0_names.specs.declared.tables.Tables.{Tables}
use Rattle.c0_names.specs.Names.{last_place}
use Rattle.c0_names.specs.Tables.{with_type, with_signature, value_type, result_type, param_types, head_signature, no_types, with_predicate, with_item, fields_of, fields_behind, struct_number}
use Rattle.c0_value_rules.specs.declared.violation.Rule.TheVariants as rule
use Rattle.c0_value_rules.specs.declared.scope.Scope.{Scope}
use Rattle.c0_value_rules.specs.Scopes.{no_scope}
use Rattle.c0_rules.specs.Behind.{stmts_behind}
use Rattle.c0_rules.specs.Statements.{held_violations, declared_violations, stmts_violations}
use Rattle.c0_value_rules.specs.Formulas.{parts_violations}
use Rattle.c0_rules.specs.Rules.{param_behind, params_scope, params_violations, result_violations, ensured, contract_violations, end_violations, library_violations, second_violations, predicates_violations, item_violations}
use Rattle.c0_value_numbers.specs.declared.frame.Frame.{Frame}
use Rattle.c0_value_numbers.specs.Values.{shape_of}
use Rattle.c0_value_numbers.specs.Texts.{Texts}
use Rattle.c0_numbers.specs.StatementTexts.{item_texts}
use Rattle.c0_numbers.specs.Statements.{stmts_frame}
use Rattle.c0_numbers.specs.Resolved.{named_shape, params_behind, params_of, predicate_tree, result_shape, function_tree, predicates_tree, functions_tree}
use Rattle.c0_types.proofs.Looks.{Even, even_more}
use Rattle.c0_types.proofs.Raised.{Below}
use Rattle.c0_types.proofs.World.{given, AllHeld}
use Rattle.c0_types.proofs.Clean.{left_none, right_none, kept}
use Rattle.c0_types.proofs.Frames.{Agrees, declared_step, kept_type, held_here, stmts_step, stmts_more, no_name}
use Rattle.c0_types.proofs.Bodies.{held_given}
use Rattle.c0_types.proofs.Walk.{predicates_leave, either_way, params_above, result_above, is_new, One, Trace, params_held, params_kept}

-- ---- lists side by side
pub zip_more : {A B : Type 0} (R : A → B → Type 0) (xs : List A) (ys : List B) (x : A) (y : B) →
    AllZip R xs ys → R x y → AllZip R (xs ++ x ∷ []) (ys ++ y ∷ [])
zip_more R [] [] x y h r = (r, tt)
zip_more R [] (b ∷ ys) x y h r = absurd h
zip_more R (a ∷ xs) [] x y h r = absurd h
zip_more R (a ∷ xs) (b ∷ ys) x y h r = (h.0, zip_more R xs ys x y h.1 r)

pub zip_at : {A B : Type 0} (R : A → B → Type 0) (xs : List A) (ys : List B) (i : ℕ) (y : B) →
    AllZip R xs ys → slice_get ys i ≡ Some y → (x : A) × (slice_get xs i ≡ Some x) × R x y
zip_at R [] [] i y h e = let n : ⊥ = cc in absurd n
zip_at R [] (b ∷ ys) i y h e = absurd h
zip_at R (a ∷ xs) [] i y h e = absurd h
zip_at R (a ∷ xs) (b ∷ ys) zero y h e = let q : b ≡ y = cc in (a, refl, subst (R a) q h.0)
zip_at R (a ∷ xs) (b ∷ ys) (suc i) y h e = zip_at R xs ys i y h.1 e

-- ---- the shapes of names with types
pub zip_shapes : (ns : List (List ℕ)) (vs : List ValueType) → Even ns vs →
    shapes_in (map named_shape (zip ns vs)) ≡ map shape_of vs
zip_shapes [] [] e = refl
zip_shapes [] (v ∷ vs) e = absurd e
zip_shapes (n ∷ ns) [] e = absurd e
zip_shapes (n ∷ ns) (v ∷ vs) e = ap (λ l. shape_of v ∷ l) (zip_shapes ns vs e)

pub zip_length : (ns : List (List ℕ)) (vs : List ValueType) → Even ns vs →
    length (map named_shape (zip ns vs)) ≡ length vs
zip_length [] [] e = refl
zip_length [] (v ∷ vs) e = absurd e
zip_length (n ∷ ns) [] e = absurd e
zip_length (n ∷ ns) (v ∷ vs) e = ap suc (zip_length ns vs e)

-- ---- parameters
pub params_types : (u : Tables) (made : TypedNames) (ps : List Param) →
    (params_behind u made ps).types ≡ made.types ++ param_types u ps
params_types u made [] = sym (append-nil made.types)
params_types u made (p ∷ ps) =
    params_types u (with_type made p.name.name (value_type u p.typed)) ps ∙ append_assoc made.types
    (value_type u p.typed ∷ []) (param_types u ps)

pub params_even : (u : Tables) (made : TypedNames) (ps : List Param) → Even made.names made.types →
    Even (params_behind u made ps).names (params_behind u made ps).types
params_even u made [] e = e
params_even u made (p ∷ ps) e =
    params_even u (with_type made p.name.name (value_type u p.typed)) ps
    (even_more made.names made.types p.name.name (value_type u p.typed) e)

is_fresh : (scope : Scope) (n : Named) → declared_violations scope n ≡ [] →
    last_place scope.names n.name ≡ None
is_fresh scope n h =
    no_name (last_place scope.names n.name) (kept (not (is_some (last_place scope.names n.name)))
    rule.Twice n.place h)

pub params_agree : (t u : Tables) → Below t u → (fixed : List (List ℕ)) (scope : Scope) (made :
    TypedNames) (r : ValueType) (ps : List Param) →
    (let f : Frame = record { locals = made; result = r } in Agrees scope f) →
    params_violations t fixed scope ps ≡ [] → (let g :
    Frame = record { locals = params_behind u made ps; result = r } in Agrees
    (params_scope t fixed scope ps) g)
params_agree t u below fixed scope made r [] g h = g
params_agree t u below fixed scope made r (p ∷ ps) g h =
    let a = held_violations t p.typed in
    let b = declared_violations scope p.name in
    let c = params_violations t fixed (param_behind t fixed scope p) ps in
    let k = left_none (a ++ b) c h in
    let held = held_here t p.typed (left_none a b k) in
    let f : Frame = record { locals = made; result = r } in
    let s = declared_step scope f p.name.name (record
    { holds = value_type t p.typed; fixed = is_some (last_place fixed p.name.name) })
    (value_type u p.typed) true g held (kept_type t u below p.typed held)
    (is_fresh scope p.name (right_none a b k)) in
    params_agree t u below fixed (param_behind t fixed scope p)
    (with_type made p.name.name (value_type u p.typed)) r ps s.agrees (right_none (a ++ b) c h)

pub start_agrees : (r : ValueType) →
    (let f : Frame = record { locals = no_types; result = r } in Agrees no_scope f)
start_agrees r =
    record { even = tt; locals = tt; types = tt; same = λ n v e. let q : ⊥ = cc in absurd q }

-- ---- the front of a list
pub front_take : {A : Type 0} (xs ys : List A) → ((i : ℕ) (x : A) → slice_get xs i ≡ Some x →
    slice_get ys i ≡ Some x) → (take (length xs) ys ≡ xs) × (length xs ≤ length ys)
front_take [] ys h = (refl, omega arith)
front_take (x ∷ xs) [] h = let e = h 0 x refl in let n : ⊥ = cc in absurd n
front_take (x ∷ xs) (y ∷ ys) h =
    let e = h 0 x refl in
    let q : y ≡ x = cc in
    let r = front_take xs ys (λ i z k. h (suc i) z k) in
    (ap (λ l. y ∷ l) r.0 ∙ ap (λ z. z ∷ xs) q, let k = r.1 in omega arith)

-- ---- functions
pub record FunctionHas (g : tree.Function) (s : Signature) : Type 0 where
  pub params : params_in g ≡ map shape_of s.params
  pub result : g.result ≡ given s.result
  pub held : AllHeld s.params

-- what holds of the parts of a function without violations
pub record HeadParts (t : Tables) (h : Head) (cs : List ContractTree) (ss : StmtTrees) : Type 0
  where
    pub result : result_violations t h.result ≡ []
    pub params : params_violations t (ensured cs) no_scope h.params ≡ []
    pub contract :
        contract_violations t (params_scope t (ensured cs) no_scope h.params) (result_type t h.result)
        cs ≡ []
    pub body :
        stmts_violations t (result_type t h.result) (params_scope t (ensured cs) no_scope h.params) ss
        ≡ []

pub head_parts : (t above : Tables) (h : Head) (cs : List ContractTree) (ss : StmtTrees) (close :
    Place) → item_violations t above (function_item h cs ss close) ≡ [] →
    (second_violations above.functions.names h.name ≡ []) × HeadParts t h cs ss
head_parts t above h cs ss close e =
    let r = result_type t h.result in
    let scope = params_scope t (ensured cs) no_scope h.params in
    let a = library_violations h.name in
    let b = second_violations above.functions.names h.name in
    let c1 = result_violations t h.result in
    let c2 = params_violations t (ensured cs) no_scope h.params in
    let d1 = contract_violations t scope r cs in
    let d2 = stmts_violations t r scope ss in
    let d3 = end_violations close r (stmts_behind t scope ss).flow in
    let k = right_none a (b ++ ((c1 ++ c2) ++ (d1 ++ (d2 ++ d3)))) e in
    let l = right_none b ((c1 ++ c2) ++ (d1 ++ (d2 ++ d3))) k in
    let m = left_none (c1 ++ c2) (d1 ++ (d2 ++ d3)) l in
    let n = right_none (c1 ++ c2) (d1 ++ (d2 ++ d3)) l in (
      left_none b ((c1 ++ c2) ++ (d1 ++ (d2 ++ d3))) k,
      record {
        result = left_none c1 c2 m;
        params = right_none c1 c2 m;
        contract = left_none d1
            (d2 ++ d3) n;
        body = left_none d2 d3 (right_none d1 (d2 ++ d3) n);
      },
    )

abbrev pub start_frame : (u : Tables) → Head → Frame
start_frame u h = record { locals = params_of u h.params; result = result_type u h.result }

abbrev pub end_frame : (u : Tables) → Head → StmtTrees → Frame
end_frame u h ss = stmts_frame u (start_frame u h) ss

pub starts : (t u : Tables) → Below t u → (h : Head) (cs : List ContractTree) (ss : StmtTrees) →
    HeadParts t h cs ss → Agrees (params_scope t (ensured cs) no_scope h.params) (start_frame u h)
starts t u below h cs ss q =
    params_agree t u below (ensured cs) no_scope no_types (result_type u h.result) h.params
    (start_agrees (result_type u h.result)) q.params

pub ends : (t u : Tables) → Below t u → (h : Head) (cs : List ContractTree) (ss : StmtTrees) →
    HeadParts t h cs ss →
    Agrees (stmts_behind t (params_scope t (ensured cs) no_scope h.params) ss) (end_frame u h ss)
ends t u below h cs ss q =
    (stmts_step t u below (result_type t h.result) (params_scope t (ensured cs) no_scope h.params)
    (start_frame u h) ss (starts t u below h cs ss q) q.body).agrees

types_length : (u : Tables) (ps : List Param) → length (param_types u ps) ≡ length ps
types_length u [] = refl
types_length u (p ∷ ps) = ap suc (types_length u ps)

-- a function's locals begin with its parameters
pub in_front : (u : Tables) (h : Head) (ss : StmtTrees) →
    (take (length h.params) (end_frame u h ss).locals.types ≡ param_types u h.params) ×
    (length h.params ≤ length (end_frame u h ss).locals.types)
in_front u h ss =
    let e = params_types u no_types h.params in
    let q = front_take (param_types u h.params) (end_frame u h ss).locals.types
    (λ i v k. stmts_more u (start_frame u h) ss i v
    (subst (λ l. slice_get l i ≡ Some v) (sym e) k)) in
    let n = types_length u h.params in (
      subst (λ k. take k (end_frame u h ss).locals.types ≡ param_types u h.params) n q.0,
      subst
          (λ k. k ≤ length (end_frame u h ss).locals.types) n q.1,
    )

pub result_given : (t u : Tables) → Below t u → (n : ResultType) → result_violations t n ≡ [] →
    result_shape u n ≡ given (result_type t n)
result_given t u below (result.Void p) h = refl
result_given t u below (result.Typed n) h =
    let held = held_here t n h in
    ap (λ v. Some (shape_of v)) (kept_type t u below n held) ∙ sym
    (held_given (value_type t n) held)

pub params_shapes : (t u : Tables) → Below t u → (ts : Texts) (h : Head) (cs :
    List ContractTree) (ss : StmtTrees) (close : Place) → HeadParts t h cs ss →
    params_in (function_tree u ts h cs ss close) ≡ map shape_of (param_types u h.params)
params_shapes t u below ts h cs ss close q =
    let l = (end_frame u h ss).locals in
    ap (take (length h.params)) (zip_shapes l.names l.types (ends t u below h cs ss q).locals) ∙
    take-map shape_of (length h.params) l.types ∙ ap (map shape_of) (in_front u h ss).0

function_has : (u above : Tables) (ts : Texts) (h : Head) (cs : List ContractTree) (ss :
    StmtTrees) (close : Place) → One u above (function_item h cs ss close) →
    FunctionHas (function_tree u ts h cs ss close) (head_signature above h)
function_has u above ts h cs ss close one =
    let t = one.ours in
    let q = (head_parts t above h cs ss close one.clean).1 in
    let held = params_held t (ensured cs) no_scope h.params q.params in
    let e = params_above above t one.walk.structs one.walk.aliases h.params in
    record {
      params =
          params_shapes t u one.below ts h cs ss close q ∙ ap (map shape_of)
          (params_kept t u one.below h.params held ∙ sym e);
      result =
          result_given t u one.below h.result q.result ∙ ap given
          (sym (result_above above t one.walk.structs one.walk.aliases h.result));
      held = subst AllHeld (sym e) held;
    }

-- the signatures of a table and what stands in the tree, as far as the items have come
pub record Stood (fs : List tree.Function) (c : Callables) : Type 0 where
  pub even : Even c.names c.signatures
  pub each : AllZip FunctionHas fs c.signatures

signed : (c : Callables) (n : List ℕ) (s : Signature) → last_place c.names n ≡ None →
    with_signature c n s ≡ (let made :
    Callables = record { names = c.names ++ n ∷ []; signatures = c.signatures ++ s ∷ [] } in made)
signed c n s e =
    ap (λ o. if is_some o then c else (let made : Callables = record
    { names = c.names ++ n ∷ []; signatures = c.signatures ++ s ∷ [] } in made)) e

stood_more : (fs : List tree.Function) (c : Callables) (g : tree.Function) (n : List ℕ) (s :
    Signature) → last_place c.names n ≡ None → FunctionHas g s → Stood fs c →
    Stood (fs ++ g ∷ []) (with_signature c n s)
stood_more fs c g n s e h w =
    subst (Stood (fs ++ g ∷ [])) (sym (signed c n s e))
    (record {
      even = even_more c.names c.signatures n s w.even;
      each = zip_more FunctionHas fs
          c.signatures g s w.each h;
    })

struct_either : {A : Type 0} (g : Tables → A) → ((t : Tables) (l : List (Option TypedNames)) →
    g (record t { fields = l }) ≡ g t) → (t : Tables) (p : Place) (n : Named) (ms : List Field) →
    g (with_item t (struct_item p n ms)) ≡ g t
struct_either g h t p n ms =
    let k = struct_number t.structs n.name in
    let l = slice_set t.fields k (Some (fields_behind t no_types ms)) in
    either_way g (is_some (fields_of t k)) t (record t { fields = l }) (h t l)

struct_functions : (t : Tables) (p : Place) (n : Named) (ms : List Field) →
    (with_item t (struct_item p n ms)).functions ≡ t.functions
struct_functions = struct_either (λ a. a.functions) (λ a l. refl)

struct_predicates : (t : Tables) (p : Place) (n : Named) (ms : List Field) →
    (with_item t (struct_item p n ms)).predicates ≡ t.predicates
struct_predicates = struct_either (λ a. a.predicates) (λ a l. refl)

pub functions_stood : (u above : Tables) (ts : Texts) (fs : List tree.Function) (is :
    List ItemTree) → Trace u above is → Stood fs above.functions →
    Stood (fs ++ functions_tree u ts is) u.functions
functions_stood u above ts fs [] h w =
    subst (λ l. Stood l u.functions) (sym (append-nil fs)) (subst (λ a. Stood fs a.functions) h w)
functions_stood u above ts fs (function_item d cs ss close ∷ is) h w =
    let g = function_tree u ts d cs ss close in
    let q = head_parts h.0.ours above d cs ss close h.0.clean in
    let rest = functions_tree u (item_texts ts (function_item d cs ss close)) is in
    subst (λ l. Stood l u.functions) (append_assoc fs (g ∷ []) rest)
    (functions_stood u (with_item above (function_item d cs ss close))
    (item_texts ts (function_item d cs ss close)) (fs ++ g ∷ []) is h.1
    (stood_more fs above.functions g d.name.name (head_signature above d)
    (is_new above.functions.names d.name q.0) (function_has u above ts d cs ss close h.0) w))
functions_stood u above ts fs (struct_name p n ∷ is) h w =
    functions_stood u (with_item above (struct_name p n)) ts fs is h.1 w
functions_stood u above ts fs (struct_item p n ms ∷ is) h w =
    functions_stood u (with_item above (struct_item p n ms)) ts fs is h.1
    (subst (Stood fs) (sym (struct_functions above p n ms)) w)
functions_stood u above ts fs (typedef_item p n name ∷ is) h w =
    functions_stood u (with_item above (typedef_item p n name)) ts fs is h.1 w
functions_stood u above ts fs (prototype_item d cs ∷ is) h w =
    functions_stood u (with_item above (prototype_item d cs)) ts fs is h.1 w
functions_stood u above ts fs (predicates_item p qs ∷ is) h w =
    functions_stood u (with_item above (predicates_item p qs)) ts fs is h.1
    (subst (Stood fs) (sym (predicates_leave (λ a. a.functions) (λ a q. refl) above qs)) w)

-- ---- predicates
pub record PredicateHas (d : tree.Predicate) (s : Signature) : Type 0 where
  pub params : shapes_in d.params ≡ map shape_of s.params
  pub held : AllHeld s.params

pub record Spoken (ds : List tree.Predicate) (c : Callables) : Type 0 where
  pub even : Even c.names c.signatures
  pub each : AllZip PredicateHas ds c.signatures

predicate_has : (t above u : Tables) → Below t u → above.structs ≡ t.structs →
    above.aliases ≡ t.aliases → (q : PredicateTree) →
    params_violations t [] no_scope q.params ≡ [] →
    (let s : Signature = record { params = param_types above q.params; result = Void } in
    PredicateHas (predicate_tree u q) s)
predicate_has t above u below s a q h =
    let l = params_of u q.params in
    let held = params_held t [] no_scope q.params h in
    let e = params_above above t s a q.params in
    record {
      params =
          zip_shapes l.names l.types (params_even u no_types q.params tt) ∙ ap (map shape_of)
          (params_types u no_types q.params ∙ params_kept t u below q.params held ∙ sym e);
      held = subst AllHeld (sym e) held;
    }

spoken_more : (ds : List tree.Predicate) (c : Callables) (d : tree.Predicate) (n : List ℕ) (s :
    Signature) → last_place c.names n ≡ None → PredicateHas d s → Spoken ds c →
    Spoken (ds ++ d ∷ []) (with_signature c n s)
spoken_more ds c d n s e h w =
    subst (Spoken (ds ++ d ∷ [])) (sym (signed c n s e))
    (record {
      even = even_more c.names c.signatures n s w.even;
      each = zip_more PredicateHas ds
          c.signatures d s w.each h;
    })

some_spoken : (t above u : Tables) → Below t u → above.structs ≡ t.structs →
    above.aliases ≡ t.aliases → (ds : List tree.Predicate) (qs : List PredicateTree) →
    predicates_violations t above qs ≡ [] → Spoken ds above.predicates →
    Spoken (ds ++ map (predicate_tree u) qs) (fold with_predicate above qs).predicates
some_spoken t above u below s a ds [] h w =
    subst (λ l. Spoken l above.predicates) (sym (append-nil ds)) w
some_spoken t above u below s a ds (q ∷ qs) h w =
    let x = second_violations above.predicates.names q.name in
    let y1 = params_violations t [] no_scope q.params in
    let y2 = parts_violations t (params_scope t [] no_scope q.params) None q.body in
    let z = predicates_violations t (with_predicate above q) qs in
    let k = left_none (x ++ (y1 ++ y2)) z h in
    let l = left_none y1 y2 (right_none x (y1 ++ y2) k) in
    let d = predicate_tree u q in
    let n = is_new above.predicates.names q.name (left_none x (y1 ++ y2) k) in
    subst (λ l. Spoken l (fold with_predicate (with_predicate above q) qs).predicates)
    (append_assoc ds (d ∷ []) (map (predicate_tree u) qs))
    (some_spoken t (with_predicate above q) u below s a (ds ++ d ∷ []) qs
    (right_none (x ++ (y1 ++ y2)) z h) (spoken_more ds above.predicates d q.name.name
    (record { params = param_types above q.params; result = Void }) n
    (predicate_has t above u below s a q l) w))

pub predicates_spoken : (u above : Tables) (ds : List tree.Predicate) (is : List ItemTree) →
    Trace u above is → Spoken ds above.predicates → Spoken (ds ++ predicates_tree u is) u.predicates
predicates_spoken u above ds [] h w =
    subst (λ l. Spoken l u.predicates) (sym (append-nil ds))
    (subst (λ a. Spoken ds a.predicates) h w)
predicates_spoken u above ds (predicates_item p qs ∷ is) h w =
    let t = h.0.ours in
    let made = map (predicate_tree u) qs in
    subst (λ l. Spoken l u.predicates) (append_assoc ds made (predicates_tree u is))
    (predicates_spoken u (with_item above (predicates_item p qs)) (ds ++ made) is h.1
    (some_spoken t above u h.0.below h.0.walk.structs h.0.walk.aliases ds qs h.0.clean w))
predicates_spoken u above ds (struct_name p n ∷ is) h w =
    predicates_spoken u (with_item above (struct_name p n)) ds is h.1 w
predicates_spoken u above ds (struct_item p n ms ∷ is) h w =
    predicates_spoken u (with_item above (struct_item p n ms)) ds is h.1
    (subst (Spoken ds) (sym (struct_predicates above p n ms)) w)
predicates_spoken u above ds (typedef_item p n name ∷ is) h w =
    predicates_spoken u (with_item above (typedef_item p n name)) ds is h.1 w
predicates_spoken u above ds (prototype_item d cs ∷ is) h w =
    predicates_spoken u (with_item above (prototype_item d cs)) ds is h.1 w
predicates_spoken u above ds (function_item d cs ss close ∷ is) h w =
    predicates_spoken u (with_item above (function_item d cs ss close)) ds is h.1 w
