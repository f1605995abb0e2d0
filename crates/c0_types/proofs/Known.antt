-- Each struct that a text names has a number in the resolved program.
use Rattle.std.proofs.Common.{◌≡◌, ℕ, zero, suc, Bool, true, false, List, [], ◌∷◌, ◌++◌, map, Option, Some, None, is_some, slice_get, unwrap_or, if◌then◌else◌, refl, sym, subst, ap, ◌∙◌, arith}
use Rattle.std.specs.Prelude.{slice_set, fold, All}
use Rattle.std.proofs.lemmas.Slice.Eq.{bytes_eq-Decides}
use Rattle.std.specs.Str.{bytes_eq}
use Rattle.parsed_tree.specs.declared.expressions.Base.{Base}
use Rattle.parsed_tree.specs.declared.expressions.Base.TheVariants as base
use Rattle.parsed_tree.specs.declared.expressions.TypeName.{TypeName}
use Rattle.parsed_tree.specs.declared.items.Field.{Field}
use Rattle.parsed_tree.specs.declared.items.Param.{Param}
use Rattle.parsed_tree.specs.Tree.{SimpleTree, declare, assign, stepped, plain, StmtTree, simple_stmt, block_stmt, if_stmt, while_stmt, for_stmt, return_stmt, assert_stmt, error_stmt, notes_stmt, StmtTrees, no_stmts, stmt_and, PredicateTree, ItemTree, struct_name, struct_item, typedef_item, prototype_item, function_item, predicates_item}
use Rattle.gc0_tree.specs.Tree as tree
use Rattle.gc0_tree.specs.Fits.{IsHeld}
use Rattle.c0_names.specs.declared.types.BaseType.{BaseType}
use Rattle.c0_names.specs.declared.types.BaseType.TheVariants.{Int, Bool as Truth, Struct}
use Rattle.c0_names.specs.declared.types.ValueType.{ValueType}
use Rattle.c0_names.specs.declared.types.ValueType.TheVariants.{Written, Null, Void, Text}
use Rattle.c0_names.specs.declared.tables.TypedNames.{TypedNames}
use Rattle.c0_names.specs.declared.tables.Tables.{Tables}
use Rattle.c0_names.specs.Names.{last_place, names_with}
use Rattle.c0_names.specs.Tables.{struct_number, with_type, with_first_type, stars, base_type, value_type, param_types, no_types, fields_behind, fields_of, with_predicate, with_item, base_structs, type_structs, expr_structs, value_structs, simple_structs, part_structs, stmt_structs, stmts_structs, fields_structs, params_structs, item_structs, items_structs}
use Rattle.c0_value_numbers.specs.declared.frame.Frame.{Frame}
use Rattle.c0_value_numbers.specs.Values.{shape_of}
use Rattle.c0_numbers.specs.Statements.{simple_frame, part_frame, stmt_frame, stmts_frame}
use Rattle.c0_types.proofs.Looks.{look, placed, last_here, last_other}
use Rattle.c0_types.proofs.Shapes.{Held, held_int, held_truth, held_pointer}
use Rattle.c0_types.proofs.World.{AllHeld}
use Rattle.c0_types.proofs.Walk.{predicates_leave, either_way, structs_left}

-- ---- each element
abbrev pub Each : {A : Type 0} → (A → Type 0) → List A → Type 0
Each P [] = Unit {0}
Each P (x ∷ xs) = P x × Each P xs

pub each_all : {A : Type 0} (P : A → Type 0) (xs : List A) → Each P xs → All P xs
each_all P [] e k d h = absurd (omega arith)
each_all P (x ∷ xs) e zero d h = e.0
each_all P (x ∷ xs) e (suc k) d h = each_all P xs e.1 k d (omega arith)

pub each_at : {A : Type 0} (P : A → Type 0) (xs : List A) (i : ℕ) (x : A) → Each P xs →
    slice_get xs i ≡ Some x → P x
each_at P [] i x e q = let n : ⊥ = cc in absurd n
each_at P (y ∷ xs) zero x e q = let s : y ≡ x = cc in subst P s e.0
each_at P (y ∷ xs) (suc i) x e q = each_at P xs i x e.1 q

pub each_both : {A : Type 0} (P : A → Type 0) (xs ys : List A) → Each P xs → Each P ys →
    Each P (xs ++ ys)
each_both P [] ys e f = f
each_both P (x ∷ xs) ys e f = (e.0, each_both P xs ys e.1 f)

pub each_left : {A : Type 0} (P : A → Type 0) (xs ys : List A) → Each P (xs ++ ys) → Each P xs
each_left P [] ys e = tt
each_left P (x ∷ xs) ys e = (e.0, each_left P xs ys e.1)

pub each_right : {A : Type 0} (P : A → Type 0) (xs ys : List A) → Each P (xs ++ ys) → Each P ys
each_right P [] ys e = e
each_right P (x ∷ xs) ys e = each_right P xs ys e.1

-- ---- a type whose struct is one of the program
abbrev pub KnownBase : tree.Program → BaseType → Type 0
KnownBase p Int = Unit {0}
KnownBase p Truth = Unit {0}
KnownBase p (Struct k) = is_some (slice_get p.structs k) ≡ true

abbrev pub Known : tree.Program → ValueType → Type 0
Known p (Written b m) = KnownBase p b
Known p Null = Unit {0}
Known p Void = Unit {0}
Known p Text = Unit {0}

pub known_held : (p : tree.Program) (v : ValueType) → Held v → Known p v → IsHeld p (shape_of v)
known_held p v held_int k = tt
known_held p v held_truth k = tt
known_held p v (held_pointer j) k = k

pub held_shapes : (p : tree.Program) (vs : List ValueType) → AllHeld vs → Each (Known p) vs →
    Each (IsHeld p) (map shape_of vs)
held_shapes p [] h k = tt
held_shapes p (v ∷ vs) h k = (known_held p v h.0 k.0, held_shapes p vs h.1 k.1)

-- ---- the names of structs
abbrev pub IsIn : List (List ℕ) → List ℕ → Type 0
IsIn ns n = is_some (last_place ns n) ≡ true

in_more : (ns : List (List ℕ)) (m n : List ℕ) → IsIn ns n → IsIn (ns ++ m ∷ []) n
in_more ns m n h = of (bytes_eq m n) refl
  where
    of : (b : Bool) → bytes_eq m n ≡ b → IsIn (ns ++ m ∷ []) n
    of true q = ap is_some (last_here ns m n q)
    of false q = ap is_some (last_other ns m n q) ∙ h

in_with : (ns : List (List ℕ)) (m n : List ℕ) → IsIn ns n → IsIn (names_with ns m) n
in_with ns m n h = of (is_some (last_place ns m))
  where
    of : (b : Bool) → IsIn (if b then ns else ns ++ m ∷ []) n
    of true = h
    of false = in_more ns m n h

itself_in : (ns : List (List ℕ)) (m : List ℕ) → IsIn (names_with ns m) m
itself_in ns m = of (is_some (last_place ns m)) refl
  where
    of : (b : Bool) → is_some (last_place ns m) ≡ b → IsIn (if b then ns else ns ++ m ∷ []) m
    of true q = q
    of false q = ap is_some (last_here ns m m ((bytes_eq-Decides m m).1 refl))

in_fold : (ns made : List (List ℕ)) (n : List ℕ) → IsIn made n → IsIn (fold names_with made ns) n
in_fold [] made n h = h
in_fold (m ∷ ns) made n h = in_fold ns (names_with made m) n (in_with made m n h)

pub all_in : (ns made : List (List ℕ)) → Each (IsIn (fold names_with made ns)) ns
all_in [] made = tt
all_in (n ∷ ns) made =
    (in_fold ns (names_with made n) n (itself_in made n), all_in ns (names_with made n))

-- ---- by these tables, written types are known
pub record Knows (p : tree.Program) (s : List (List ℕ)) (t : Tables) : Type 0 where
  pub same : t.structs ≡ s
  pub numbers : (n : List ℕ) → IsIn s n → is_some (slice_get p.structs (struct_number s n)) ≡ true
  pub aliases : Each (Known p) t.aliases.types

known_at : (p : tree.Program) (vs : List ValueType) (i : ℕ) (v : ValueType) → Each (Known p) vs →
    slice_get vs i ≡ Some v → Known p v
known_at p = each_at (Known p)

alias_known : (p : tree.Program) (ns : List (List ℕ)) (vs : List ValueType) (n : List ℕ) →
    Each (Known p) vs → Known p (unwrap_or (look ns vs n) Void)
alias_known p ns vs n h = of (look ns vs n) refl
  where
    of : (o : Option ValueType) → look ns vs n ≡ o → Known p (unwrap_or o Void)
    of None e = tt
    of (Some v) e = let q = placed ns vs n v e in known_at p vs q.0 v h q.2

base_known : (p : tree.Program) (s : List (List ℕ)) (t : Tables) → Knows p s t → (b : Base) →
    Each (IsIn s) (base_structs b) → Known p (base_type t b)
base_known p s t k base.Int h = tt
base_known p s t k base.Bool h = tt
base_known p s t k (base.Struct n) h =
    subst (λ l. is_some (slice_get p.structs (struct_number l n.name)) ≡ true) (sym k.same)
    (k.numbers n.name h.0)
base_known p s t k (base.Alias n) h = alias_known p t.aliases.names t.aliases.types n k.aliases

stars_known : (p : tree.Program) (v : ValueType) (n : ℕ) → Known p v → Known p (stars v n)
stars_known p (Written b m) n k = k
stars_known p Null n k = tt
stars_known p Void n k = tt
stars_known p Text n k = tt

pub type_known : (p : tree.Program) (s : List (List ℕ)) (t : Tables) → Knows p s t →
    (n : TypeName) → Each (IsIn s) (type_structs n) → Known p (value_type t n)
type_known p s t k n h = stars_known p (base_type t n.base) n.stars (base_known p s t k n.base h)

pub params_known : (p : tree.Program) (s : List (List ℕ)) (t : Tables) → Knows p s t →
    (ps : List Param) → Each (IsIn s) (params_structs ps) → Each (Known p) (param_types t ps)
params_known p s t k [] h = tt
params_known p s t k (q ∷ ps) h = (
  type_known p s t k q.typed (each_left (IsIn s) (type_structs q.typed) (params_structs ps) h),
  params_known p s t k ps (each_right (IsIn s) (type_structs q.typed) (params_structs ps) h),
)

-- ---- fields
abbrev pub KnownFields : tree.Program → Option TypedNames → Type 0
KnownFields p None = Unit {0}
KnownFields p (Some fs) = Each (Known p) fs.types

first_known : (p : tree.Program) (b : Bool) (made : TypedNames) (n : List ℕ) (v : ValueType) →
    Each (Known p) made.types → Known p v →
    Each (Known p) (if b then made else with_type made n v).types
first_known p true made n v h k = h
first_known p false made n v h k = each_both (Known p) made.types (v ∷ []) h (k, tt)

fields_known : (p : tree.Program) (s : List (List ℕ)) (t : Tables) → Knows p s t →
    (fs : List Field) (made : TypedNames) → Each (IsIn s) (fields_structs fs) →
    Each (Known p) made.types → Each (Known p) (fields_behind t made fs).types
fields_known p s t k [] made h g = g
fields_known p s t k (f ∷ fs) made h g =
    let v = type_known p s t k f.typed (each_left (IsIn s) (type_structs f.typed)
    (fields_structs fs) h) in
    fields_known p s t k fs (with_first_type made f.name.name (value_type t f.typed))
    (each_right (IsIn s) (type_structs f.typed) (fields_structs fs) h)
    (first_known p (is_some (last_place made.names f.name.name)) made f.name.name
    (value_type t f.typed) g v)

set_each : {A : Type 0} (P : A → Type 0) (xs : List A) (i : ℕ) (x : A) → Each P xs → P x →
    Each P (slice_set xs i x)
set_each P [] i x e h = tt
set_each P (y ∷ xs) zero x e h = (h, e.1)
set_each P (y ∷ xs) (suc i) x e h = (e.0, set_each P xs i x e.1 h)

pub none_known : (p : tree.Program) (ns : List (List ℕ)) → Each (KnownFields p) (map (λ n. None) ns)
none_known p [] = tt
none_known p (n ∷ ns) = (tt, none_known p ns)

either_each : (p : tree.Program) (b : Bool) (t : Tables) (k : ℕ) (fs : TypedNames) →
    Each (KnownFields p) t.fields → Each (Known p) fs.types →
    Each (KnownFields p) (if b then t else record t
    { fields = slice_set t.fields k (Some fs) }).fields
either_each p true t k fs h g = h
either_each p false t k fs h g = set_each (KnownFields p) t.fields k (Some fs) h g

-- tables that know, with known fields
pub record KnowsAll (p : tree.Program) (s : List (List ℕ)) (t : Tables) : Type 0 where
  pub knows : Knows p s t
  pub fields : Each (KnownFields p) t.fields

on_from : (p : tree.Program) (s : List (List ℕ)) (t next : Tables) → KnowsAll p s t →
    next.structs ≡ t.structs → next.aliases ≡ t.aliases → Each (KnownFields p) next.fields →
    KnowsAll p s next
on_from p s t next k a b f =
    record {
      knows = record {
        same = a ∙ k.knows.same;
        numbers = k.knows.numbers;
        aliases = subst
            (λ l. Each (Known p) l.types) (sym b) k.knows.aliases;
      };
      fields = f;
    }

item_known : (p : tree.Program) (s : List (List ℕ)) (t : Tables) (i : ItemTree) →
    Each (IsIn s) (item_structs i) → KnowsAll p s t → KnowsAll p s (with_item t i)
item_known p s t (struct_name at n) h k = k
item_known p s t (struct_item at n fs) h k =
    let j = struct_number t.structs n.name in
    let l = slice_set t.fields j (Some (fields_behind t no_types fs)) in
    on_from p s t (with_item t (struct_item at n fs)) k (structs_left t (struct_item at n fs))
    (either_way (λ a. a.aliases) (is_some (fields_of t j)) t (record t { fields = l }) refl)
    (either_each p (is_some (fields_of t j)) t j (fields_behind t no_types fs) k.fields
    (fields_known p s t k.knows fs no_types h.1 tt))
item_known p s t (typedef_item at n name) h k =
    record {
      knows = record {
        same = k.knows.same;
        numbers = k.knows.numbers;
        aliases = each_both
            (Known p) t.aliases.types (value_type t n ∷ []) k.knows.aliases
            (type_known p s t k.knows n h, tt);
      };
      fields = k.fields;
    }
item_known p s t (prototype_item d cs) h k =
    on_from p s t (with_item t (prototype_item d cs)) k refl refl k.fields
item_known p s t (function_item d cs ss e) h k =
    on_from p s t (with_item t (function_item d cs ss e)) k refl refl k.fields
item_known p s t (predicates_item at qs) h k =
    on_from p s t (with_item t (predicates_item at qs)) k (structs_left t (predicates_item at qs))
    (predicates_leave (λ a. a.aliases) (λ a q. refl) t qs)
    (subst (Each (KnownFields p)) (sym (predicates_leave (λ a. a.fields) (λ a q. refl) t qs))
    k.fields)

pub items_known : (p : tree.Program) (s : List (List ℕ)) (t : Tables) (is : List ItemTree) →
    Each (IsIn s) (items_structs is) → KnowsAll p s t → KnowsAll p s (fold with_item t is)
items_known p s t [] h k = k
items_known p s t (i ∷ is) h k =
    items_known p s (with_item t i) is (each_right (IsIn s) (item_structs i) (items_structs is) h)
    (item_known p s t i (each_left (IsIn s) (item_structs i) (items_structs is) h) k)

-- ---- locals
module _ (p : tree.Program) (s : List (List ℕ)) (u : Tables) (k : Knows p s u) where
  simple_known : (f : Frame) (x : SimpleTree) → Each (IsIn s) (simple_structs x) →
      Each (Known p) f.locals.types → Each (Known p) (simple_frame u f x).locals.types
  simple_known f (declare n name v) h g =
      each_both (Known p) f.locals.types (value_type u n ∷ []) g
      (type_known p s u k n (each_left (IsIn s) (type_structs n) (value_structs v) h), tt)
  simple_known f (assign x q o y) h g = g
  simple_known f (stepped x q o) h g = g
  simple_known f (plain x) h g = g

  part_known : (f : Frame) (x : Option SimpleTree) → Each (IsIn s) (part_structs x) →
      Each (Known p) f.locals.types → Each (Known p) (part_frame u f x).locals.types
  part_known f None h g = g
  part_known f (Some x) h g = simple_known f x h g

  mutual
    stmt_known : (f : Frame) (x : StmtTree) → Each (IsIn s) (stmt_structs x) →
        Each (Known p) f.locals.types → Each (Known p) (stmt_frame u f x).locals.types
    stmt_known f (simple_stmt x) h g = simple_known f x h g
    stmt_known f (block_stmt at ss) h g = stmts_known f ss h g
    stmt_known f (if_stmt at e x os) h g =
        let m = each_right (IsIn s) (expr_structs e) (stmt_structs x ++ stmts_structs os) h in
        stmts_known (stmt_frame u f x) os (each_right (IsIn s) (stmt_structs x) (stmts_structs os)
        m) (stmt_known f x (each_left (IsIn s) (stmt_structs x) (stmts_structs os) m) g)
    stmt_known f (while_stmt at e is x) h g =
        stmt_known f x (each_right (IsIn s) (expr_structs e) (stmt_structs x) h) g
    stmt_known f (for_stmt at a e b is x) h g =
        let h1 = each_right (IsIn s) (part_structs a)
        (expr_structs e ++ (part_structs b ++ stmt_structs x)) h in
        let h2 = each_right (IsIn s) (expr_structs e) (part_structs b ++ stmt_structs x) h1 in
        let f1 = part_frame u f a in
        let g1 = part_known f a (each_left (IsIn s) (part_structs a)
        (expr_structs e ++ (part_structs b ++ stmt_structs x)) h) g in
        stmt_known (part_frame u f1 b) x (each_right (IsIn s) (part_structs b) (stmt_structs x) h2)
        (part_known f1 b (each_left (IsIn s) (part_structs b) (stmt_structs x) h2) g1)
    stmt_known f (return_stmt at e) h g = g
    stmt_known f (assert_stmt at e) h g = g
    stmt_known f (error_stmt at x) h g = g
    stmt_known f (notes_stmt at ns) h g = g

    pub stmts_known : (f : Frame) (ss : StmtTrees) → Each (IsIn s) (stmts_structs ss) →
        Each (Known p) f.locals.types → Each (Known p) (stmts_frame u f ss).locals.types
    stmts_known f no_stmts h g = g
    stmts_known f (stmt_and x ss) h g =
        stmts_known (stmt_frame u f x) ss (each_right (IsIn s) (stmt_structs x) (stmts_structs ss)
        h) (stmt_known f x (each_left (IsIn s) (stmt_structs x) (stmts_structs ss) h) g)
