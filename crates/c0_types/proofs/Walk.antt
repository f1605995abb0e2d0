-- The tables above each item of a text without violations, beside those of the whole text.
use Rattle.std.proofs.Common.{◌≡◌, ℕ, zero, suc, Bool, true, false, not, List, [], ◌∷◌, ◌++◌, map, Option, Some, None, is_some, slice_get, unwrap_or, if◌then◌else◌, refl, sym, subst, ap, ◌∙◌, inl, inr}
use Rattle.std.specs.Prelude.{◌⊎◌, slice_set, fold}
use Rattle.parsed_tree.specs.declared.expressions.Base.{Base}
use Rattle.parsed_tree.specs.declared.expressions.Base.TheVariants as base
use Rattle.parsed_tree.specs.declared.expressions.TypeName.{TypeName}
use Rattle.parsed_tree.specs.declared.expressions.Named.{Named}
use Rattle.parsed_tree.specs.declared.items.Field.{Field}
use Rattle.parsed_tree.specs.declared.items.Param.{Param}
use Rattle.parsed_tree.specs.declared.items.ResultType.{ResultType}
use Rattle.parsed_tree.specs.declared.items.ResultType.TheVariants as result
use Rattle.parsed_tree.specs.Tree.{PredicateTree, ItemTree, struct_name, struct_item, typedef_item, prototype_item, function_item, predicates_item}
use Rattle.c0_names.specs.declared.types.BaseType.TheVariants.{Struct}
use Rattle.c0_names.specs.declared.types.ValueType.{ValueType}
use Rattle.c0_names.specs.declared.types.ValueType.TheVariants.{Written, Void}
use Rattle.c0_names.specs.declared.tables.TypedNames.{TypedNames}
use Rattle.c0_names.specs.declared.tables.Tables.{Tables}
use Rattle.c0_names.specs.Names.{last_place}
use Rattle.c0_names.specs.Tables.{struct_number, type_in, with_type, with_first_type, stars, base_type, value_type, result_type, param_types, no_types, fields_behind, fields_of, with_predicate, with_item, with_alias}
use Rattle.c0_value_rules.specs.declared.violation.Rule.TheVariants as rule
use Rattle.c0_value_rules.specs.declared.scope.Scope.{Scope}
use Rattle.c0_value_rules.specs.Violations.{unless}
use Rattle.c0_rules.specs.Statements.{held_violations, declared_violations}
use Rattle.c0_rules.specs.Rules.{param_behind, params_violations, result_violations, second_violations, fields_violations, item_violations, items_violations}
use Rattle.c0_types.proofs.Looks.{Even, even_more, differs, found_place, look_other}
use Rattle.c0_types.proofs.Shapes.{Held}
use Rattle.c0_types.proofs.Raised.{Below}
use Rattle.c0_types.proofs.World.{AllHeld, held_more}
use Rattle.c0_types.proofs.Clean.{left_none, right_none}
use Rattle.c0_types.proofs.Frames.{kept_type, held_here}

-- ---- what a step of the tables leaves
pub either_way : {A B : Type 0} (g : A → B) (b : Bool) (x y : A) → g y ≡ g x →
    g (if b then x else y) ≡ g x
either_way g true x y e = refl
either_way g false x y e = e

pub predicates_leave : {A : Type 0} (g : Tables → A) →
    ((t : Tables) (q : PredicateTree) → g (with_predicate t q) ≡ g t) →
    (t : Tables) (qs : List PredicateTree) → g (fold with_predicate t qs) ≡ g t
predicates_leave g h t [] = refl
predicates_leave g h t (q ∷ qs) = predicates_leave g h (with_predicate t q) qs ∙ h t q

pub structs_left : (t : Tables) (i : ItemTree) → (with_item t i).structs ≡ t.structs
structs_left t (struct_name p n) = refl
structs_left t (struct_item p n fs) =
    let k = struct_number t.structs n.name in
    either_way (λ a. a.structs) (is_some (fields_of t k)) t
    (record t { fields = slice_set t.fields k (Some (fields_behind t no_types fs)) }) refl
structs_left t (typedef_item p n name) = refl
structs_left t (prototype_item h cs) = refl
structs_left t (function_item h cs ss e) = refl
structs_left t (predicates_item p qs) = predicates_leave (λ a. a.structs) (λ a q. refl) t qs

-- ---- types by the tables above
base_above : (a b : Tables) → a.structs ≡ b.structs → a.aliases ≡ b.aliases → (n : Base) →
    base_type a n ≡ base_type b n
base_above a b s e base.Int = refl
base_above a b s e base.Bool = refl
base_above a b s e (base.Struct n) = ap (λ k. Written (Struct (struct_number k n.name)) 0) s
base_above a b s e (base.Alias n) = ap (λ k. unwrap_or (type_in k n) Void) e

pub type_above : (a b : Tables) → a.structs ≡ b.structs → a.aliases ≡ b.aliases → (n : TypeName) →
    value_type a n ≡ value_type b n
type_above a b s e n = ap (λ v. stars v n.stars) (base_above a b s e n.base)

pub params_above : (a b : Tables) → a.structs ≡ b.structs → a.aliases ≡ b.aliases →
    (ps : List Param) → param_types a ps ≡ param_types b ps
params_above a b s e [] = refl
params_above a b s e (p ∷ ps) =
    ap (λ v. v ∷ param_types a ps) (type_above a b s e p.typed) ∙ ap
    (λ vs. value_type b p.typed ∷ vs) (params_above a b s e ps)

pub result_above : (a b : Tables) → a.structs ≡ b.structs → a.aliases ≡ b.aliases →
    (n : ResultType) → result_type a n ≡ result_type b n
result_above a b s e (result.Void p) = refl
result_above a b s e (result.Typed n) = type_above a b s e n

-- ---- the tables by which an item is checked, those above it, and those of the text
pub record Walk (t above u : Tables) : Type 0 where
  pub ours : t.structs ≡ u.structs
  pub structs : above.structs ≡ t.structs
  pub aliases : above.aliases ≡ t.aliases
  pub fields : t.fields ≡ u.fields
  pub functions : t.functions ≡ u.functions
  pub predicates : t.predicates ≡ u.predicates

walk_on : (t above u next : Tables) → Walk t above u → next.structs ≡ above.structs →
    next.aliases ≡ above.aliases → Walk t next u
walk_on t above u next w s a =
    record {
      ours = w.ours;
      structs = s ∙ w.structs;
      aliases = a ∙ w.aliases;
      fields = w.fields;
      functions = w.functions;
      predicates = w.predicates;
    }

walk_next : (t above u : Tables) (i : ItemTree) → Walk t above u →
    Walk (with_alias t i) (with_item above i) u
walk_next t above u (struct_name p n) w = w
walk_next t above u (struct_item p n fs) w =
    let k = struct_number above.structs n.name in
    walk_on t above u (with_item above (struct_item p n fs)) w
    (structs_left above (struct_item p n fs)) (either_way (λ a. a.aliases)
    (is_some (fields_of above k)) above (record above
    { fields = slice_set above.fields k (Some (fields_behind above no_types fs)) }) refl)
walk_next t above u (typedef_item p n name) w =
    let v = type_above above t w.structs w.aliases n in
    record {
      ours = w.ours;
      structs = w.structs;
      aliases = ap
          (λ a. with_type a name.name (value_type above n)) w.aliases ∙ ap
          (with_type t.aliases name.name) v;
      fields =
          w.fields;
      functions = w.functions;
      predicates = w.predicates;
    }
walk_next t above u (prototype_item h cs) w =
    walk_on t above u (with_item above (prototype_item h cs)) w refl refl
walk_next t above u (function_item h cs ss e) w =
    walk_on t above u (with_item above (function_item h cs ss e)) w refl refl
walk_next t above u (predicates_item p qs) w =
    walk_on t above u (with_item above (predicates_item p qs)) w
    (structs_left above (predicates_item p qs)) (predicates_leave (λ a. a.aliases) (λ a q. refl)
    above qs)

-- ---- a name that is not defined above
pub is_new : (above : List (List ℕ)) (n : Named) → second_violations above n ≡ [] →
    last_place above n.name ≡ None
is_new above n h = of (last_place above n.name) h
  where
    of : (o : Option ℕ) → unless (not (is_some o)) rule.Twice n.place ≡ [] → o ≡ None
    of None e = refl
    of (Some i) e = let q : ⊥ = cc in absurd q

-- a typedef stays what it is
alias_kept : (t above u : Tables) → Walk t above u → (i : ItemTree) →
    item_violations t above i ≡ [] → (n : List ℕ) (v : ValueType) →
    type_in above.aliases n ≡ Some v → type_in (with_item above i).aliases n ≡ Some v
alias_kept t above u w (typedef_item p ty name) h n v e =
    let fresh = subst (λ a. last_place a.names name.name ≡ None) (sym w.aliases)
    (is_new t.aliases.names name h) in
    look_other above.aliases.names above.aliases.types name.name (value_type above ty) n v
    (differs above.aliases.names name.name n fresh
    (found_place above.aliases.names above.aliases.types n v e)) e
alias_kept t above u w (struct_name p m) h n v e = e
alias_kept t above u w (struct_item p m fs) h n v e =
    ap (λ a. type_in a n) (either_way (λ a. a.aliases)
    (is_some (fields_of above (struct_number above.structs m.name))) above
    (record above {
      fields = slice_set above.fields (struct_number above.structs m.name)
          (Some (fields_behind above no_types fs));
    }) refl) ∙ e
alias_kept t above u w (prototype_item d cs) h n v e = e
alias_kept t above u w (function_item d cs ss q) h n v e = e
alias_kept t above u w (predicates_item p qs) h n v e =
    ap (λ a. type_in a n) (predicates_leave (λ a. a.aliases) (λ a q. refl) above qs) ∙ e

later : (t above u : Tables) → Walk t above u → (is : List ItemTree) →
    items_violations t above is ≡ [] → (n : List ℕ) (v : ValueType) →
    type_in above.aliases n ≡ Some v → type_in (fold with_item above is).aliases n ≡ Some v
later t above u w [] h n v e = e
later t above u w (i ∷ is) h n v e =
    let a = item_violations t above i in
    let b = items_violations (with_alias t i) (with_item above i) is in
    later (with_alias t i) (with_item above i) u (walk_next t above u i w) is (right_none a b h) n v
    (alias_kept t above u w i (left_none a b h) n v e)

-- what is known at an item of a text without violations
pub record One (u above : Tables) (i : ItemTree) : Type 0 where
  pub ours : Tables
  pub walk : Walk ours above u
  pub below : Below ours u
  pub clean : item_violations ours above i ≡ []

abbrev pub Trace : (u above : Tables) → List ItemTree → Type 0
Trace u above [] = above ≡ u
Trace u above (i ∷ is) = One u above i × Trace u (with_item above i) is

pub trace : (u t above : Tables) → Walk t above u → (is : List ItemTree) →
    fold with_item above is ≡ u → items_violations t above is ≡ [] → Trace u above is
trace u t above w [] e h = e
trace u t above w (i ∷ is) e h =
    let a = item_violations t above i in
    let b = items_violations (with_alias t i) (with_item above i) is in
    let below : Below t u = record {
      structs = w.ours;
      fields = w.fields;
      functions = w.functions;
      predicates =
          w.predicates;
      aliases = λ n v q. subst (λ k. type_in k.aliases n ≡ Some v) e
          (later t above u w (i ∷ is) h n v (ap (λ k. type_in k n) w.aliases ∙ q));
    } in (
      record { ours = t; walk = w; below = below; clean = left_none a b h },
      trace u (with_alias t i)
          (with_item above i) (walk_next t above u i w) is e (right_none a b h),
    )

-- ---- fields
abbrev pub IsGood : TypedNames → Type 0
IsGood fs = Even fs.names fs.types × AllHeld fs.types

abbrev pub GoodFields : List (Option TypedNames) → Type 0
GoodFields [] = Unit {0}
GoodFields (None ∷ l) = GoodFields l
GoodFields (Some fs ∷ l) = IsGood fs × GoodFields l

pub good_none : (ns : List (List ℕ)) → GoodFields (map (λ n. None) ns)
good_none [] = tt
good_none (n ∷ ns) = good_none ns

pub even_none : (ns : List (List ℕ)) → Even {A = Option TypedNames} ns (map (λ n. None) ns)
even_none [] = tt
even_none (n ∷ ns) = even_none ns

good_set : (l : List (Option TypedNames)) (k : ℕ) (fs : TypedNames) → GoodFields l → IsGood fs →
    GoodFields (slice_set l k (Some fs))
good_set [] k fs g h = tt
good_set (None ∷ l) zero fs g h = (h, g)
good_set (Some x ∷ l) zero fs g h = (h, g.1)
good_set (None ∷ l) (suc k) fs g h = good_set l k fs g h
good_set (Some x ∷ l) (suc k) fs g h = (g.0, good_set l k fs g.1 h)

even_set : {A : Type 0} (ns : List (List ℕ)) (l : List A) (k : ℕ) (x : A) → Even ns l →
    Even ns (slice_set l k x)
even_set [] [] k x e = e
even_set [] (y ∷ l) k x e = absurd e
even_set (n ∷ ns) [] k x e = absurd e
even_set (n ∷ ns) (y ∷ l) zero x e = e
even_set (n ∷ ns) (y ∷ l) (suc k) x e = even_set ns l k x e

pub good_at : (l : List (Option TypedNames)) (k : ℕ) (fs : TypedNames) → GoodFields l →
    slice_get l k ≡ Some (Some fs) → IsGood fs
good_at [] k fs g e = let n : ⊥ = cc in absurd n
good_at (None ∷ l) zero fs g e = let n : ⊥ = cc in absurd n
good_at (Some x ∷ l) zero fs g e = let q : x ≡ fs = cc in subst IsGood q g.0
good_at (None ∷ l) (suc k) fs g e = good_at l k fs g e
good_at (Some x ∷ l) (suc k) fs g e = good_at l k fs g.1 e

good_first : (b : Bool) (made : TypedNames) (n : List ℕ) (v : ValueType) → IsGood made → Held v →
    IsGood (if b then made else with_type made n v)
good_first true made n v g h = g
good_first false made n v g h =
    (even_more made.names made.types n v g.0, held_more made.types v g.1 h)

fields_good : (t above : Tables) → above.structs ≡ t.structs → above.aliases ≡ t.aliases →
    (fs : List Field) (made : TypedNames) → IsGood made → fields_violations t made fs ≡ [] →
    IsGood (fields_behind above made fs)
fields_good t above s a [] made g h = g
fields_good t above s a (f ∷ fs) made g h =
    let x = held_violations t f.typed in
    let y = second_violations made.names f.name in
    let next = with_first_type made f.name.name (value_type t f.typed) in
    let z = fields_violations t next fs in
    let held = held_here t f.typed (left_none x y (left_none (x ++ y) z h)) in
    let rest = fields_good t above s a fs next (good_first
    (is_some (last_place made.names f.name.name)) made f.name.name (value_type t f.typed) g
    held) (right_none (x ++ y) z h) in
    subst (λ v. IsGood (fields_behind above (with_first_type made f.name.name v) fs))
    (sym (type_above above t s a f.typed)) rest

abbrev pub FieldsStand : List (List ℕ) → Tables → Type 0
FieldsStand ns t = Even ns t.fields × GoodFields t.fields

fields_either : (ns : List (List ℕ)) (b : Bool) (t : Tables) (k : ℕ) (fs : TypedNames) →
    FieldsStand ns t → IsGood fs →
    FieldsStand ns (if b then t else record t { fields = slice_set t.fields k (Some fs) })
fields_either ns true t k fs g h = g
fields_either ns false t k fs g h =
    (even_set ns t.fields k (Some fs) g.0, good_set t.fields k fs g.1 h)

fields_step : (ns : List (List ℕ)) (u above : Tables) (i : ItemTree) → One u above i →
    FieldsStand ns above → FieldsStand ns (with_item above i)
fields_step ns u above (struct_item p n fs) one g =
    let k = struct_number above.structs n.name in
    let a = unless (not (is_some (fields_of above k))) rule.Twice n.place in
    let b = fields_violations one.ours no_types fs in
    fields_either ns (is_some (fields_of above k)) above k (fields_behind above no_types fs) g
    (fields_good one.ours above one.walk.structs one.walk.aliases fs no_types (tt, tt)
    (right_none a b one.clean))
fields_step ns u above (struct_name p n) one g = g
fields_step ns u above (typedef_item p n name) one g = g
fields_step ns u above (prototype_item h cs) one g = g
fields_step ns u above (function_item h cs ss e) one g = g
fields_step ns u above (predicates_item p qs) one g =
    subst (λ l. Even ns l × GoodFields l) (sym (predicates_leave (λ a. a.fields) (λ a q. refl) above
    qs)) g

pub fields_stand : (ns : List (List ℕ)) (u above : Tables) (is : List ItemTree) → Trace u above is →
    FieldsStand ns above → FieldsStand ns u
fields_stand ns u above [] e g = subst (FieldsStand ns) e g
fields_stand ns u above (i ∷ is) h g =
    fields_stand ns u (with_item above i) is h.1 (fields_step ns u above i h.0 g)

-- ---- parameters and results
pub params_held : (t : Tables) (fixed : List (List ℕ)) (scope : Scope) (ps : List Param) →
    params_violations t fixed scope ps ≡ [] → AllHeld (param_types t ps)
params_held t fixed scope [] h = tt
params_held t fixed scope (p ∷ ps) h =
    let a = held_violations t p.typed in
    let b = declared_violations scope p.name in
    let c = params_violations t fixed (param_behind t fixed scope p) ps in (
      held_here t p.typed (left_none a b (left_none (a ++ b) c h)),
      params_held t fixed
          (param_behind t fixed scope p) ps (right_none (a ++ b) c h),
    )

pub params_kept : (t u : Tables) → Below t u → (ps : List Param) → AllHeld (param_types t ps) →
    param_types u ps ≡ param_types t ps
params_kept t u below [] h = refl
params_kept t u below (p ∷ ps) h =
    ap (λ v. v ∷ param_types u ps) (kept_type t u below p.typed h.0) ∙ ap
    (λ vs. value_type t p.typed ∷ vs) (params_kept t u below ps h.1)

pub result_held : (t : Tables) (n : ResultType) → result_violations t n ≡ [] →
    (result_type t n ≡ Void) ⊎ Held (result_type t n)
result_held t (result.Void p) h = inl refl
result_held t (result.Typed n) h = inr (held_here t n h)
