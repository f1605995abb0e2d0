-- An expression keeps its type where more names may be read, and where more typedefs stand.
use Rattle.std.proofs.Common.{◌≡◌, ℕ, ◌+◌, Bool, true, false, ◌&&◌, List, Option, Some, None, is_some, slice_get, option_and_then, option_map, unwrap_or, if◌then◌else◌, refl, sym, subst, ap, ◌∙◌, inl, inr}
use Rattle.std.specs.Prelude.{◌⊎◌}
use Rattle.parsed_tree.specs.declared.expressions.Base.{Base}
use Rattle.parsed_tree.specs.declared.expressions.Base.TheVariants as base
use Rattle.parsed_tree.specs.declared.expressions.TypeName.{TypeName}
use Rattle.parsed_tree.specs.declared.expressions.UnaryOperator.{UnaryOperator}
use Rattle.parsed_tree.specs.declared.expressions.Operator.{Operator}
use Rattle.parsed_tree.specs.Tree.{ExprTree, number, truth, null, local, outcome, unary, binary, choose, arrow, call, call_text, alloc, acc, ExprTrees, no_exprs, expr_and}
use Rattle.c0_names.specs.declared.types.BaseType.TheVariants.{Bool as Truth, Struct}
use Rattle.c0_names.specs.declared.types.ValueType.{ValueType}
use Rattle.c0_names.specs.declared.types.ValueType.TheVariants.{Written, Void}
use Rattle.c0_names.specs.declared.tables.Signature.{Signature}
use Rattle.c0_names.specs.declared.tables.Tables.{Tables}
use Rattle.c0_names.specs.Tables.{type_in, value_type, base_type, stars, struct_number}
use Rattle.c0_names.specs.Types.{struct_behind, pointed, callee}
use Rattle.c0_names.specs.Typing.{Look, unary_typed, binary_typed, choice_typed, field_in, arrow_typed, allocated, argument_fits, params_of, called, count_of, type_of, arguments_fit}
use Rattle.c0_types.proofs.Shapes.{both_left, both_right}

-- the same tables, with the typedefs of the first among those of the second
pub record Below (t u : Tables) : Type 0 where
  pub structs : t.structs ≡ u.structs
  pub fields : t.fields ≡ u.fields
  pub functions : t.functions ≡ u.functions
  pub predicates : t.predicates ≡ u.predicates
  pub aliases : (n : List ℕ) (v : ValueType) → type_in t.aliases n ≡ Some v →
      type_in u.aliases n ≡ Some v

-- ---- written types
stars_void : (v : ValueType) (n : ℕ) → v ≡ Void → stars v n ≡ Void
stars_void v n e = ap (λ w. stars w n) e

alias_raised : (a b : Option ValueType) → ((v : ValueType) → a ≡ Some v → b ≡ Some v) →
    (unwrap_or a Void ≡ Void) ⊎ (unwrap_or b Void ≡ unwrap_or a Void)
alias_raised None b h = inl refl
alias_raised (Some v) b h = inr (ap (λ o. unwrap_or o Void) (h v refl))

base_raised : (t u : Tables) → Below t u → (b : Base) →
    (base_type t b ≡ Void) ⊎ (base_type u b ≡ base_type t b)
base_raised t u w base.Int = inr refl
base_raised t u w base.Bool = inr refl
base_raised t u w (base.Struct n) =
    inr (ap (λ s. Written (Struct (struct_number s n.name)) 0) (sym w.structs))
base_raised t u w (base.Alias n) =
    alias_raised (type_in t.aliases n) (type_in u.aliases n) (w.aliases n)

pub type_raised : (t u : Tables) → Below t u → (n : TypeName) →
    (value_type t n ≡ Void) ⊎ (value_type u n ≡ value_type t n)
type_raised t u w n =
    (elim (base_raised t u w n.base) as (λ k. (value_type t n ≡ Void) ⊎
    (value_type u n ≡ value_type t n)) [
      | inl e ↦ inl (stars_void (base_type t n.base) n.stars e)
      | inr e ↦ inr (ap (λ v. stars v n.stars) e)
    ])

-- ---- parts of expressions
abbrev pub Rises : Option ValueType → Option ValueType → Type 0
Rises a b = (v : ValueType) → a ≡ Some v → b ≡ Some v

unary_raised : (o : UnaryOperator) (a b : Option ValueType) → Rises a b →
    Rises (unary_typed o a) (unary_typed o b)
unary_raised o None b h v e = let n : ⊥ = cc in absurd n
unary_raised o (Some w) b h v e = ap (unary_typed o) (h w refl) ∙ e

binary_raised : (o : Operator) (a b c d : Option ValueType) → Rises a b → Rises c d →
    Rises (binary_typed o a c) (binary_typed o b d)
binary_raised o None b c d h k v e = let n : ⊥ = cc in absurd n
binary_raised o (Some w) b None d h k v e = let n : ⊥ = cc in absurd n
binary_raised o (Some w) b (Some z) d h k v e =
    ap (λ q. binary_typed o q d) (h w refl) ∙ ap (binary_typed o (Some w)) (k z refl) ∙ e

choice_raised : (a b c d e f : Option ValueType) → Rises a b → Rises c d → Rises e f →
    Rises (choice_typed a c e) (choice_typed b d f)
choice_raised None b c d e f h k l v q = let n : ⊥ = cc in absurd n
choice_raised (Some x) b None d e f h k l v q = let n : ⊥ = cc in absurd n
choice_raised (Some x) b (Some y) d None f h k l v q = let n : ⊥ = cc in absurd n
choice_raised (Some x) b (Some y) d (Some z) f h k l v q =
    ap (λ i. choice_typed i d f) (h x refl) ∙ ap (λ i. choice_typed (Some x) i f) (k y refl) ∙ ap
    (choice_typed (Some x) (Some y)) (l z refl) ∙ q

pub field_same : (t u : Tables) → Below t u → (k : Option ℕ) (n : List ℕ) →
    field_in u k n ≡ field_in t k n
field_same t u w None n = refl
field_same t u w (Some k) n =
    ap (λ fs. option_and_then (λ f. type_in f n) (option_and_then (λ f. f) (slice_get fs k)))
    (sym w.fields)

arrow_raised : (t u : Tables) → Below t u → (a b : Option ValueType) (n : List ℕ) → Rises a b →
    Rises (arrow_typed t a n) (arrow_typed u b n)
arrow_raised t u w None b n h v e = let q : ⊥ = cc in absurd q
arrow_raised t u w (Some x) b n h v e =
    ap (λ i. arrow_typed u i n) (h x refl) ∙ field_same t u w (pointed x) n ∙ e

mapped : (a b : Option ValueType) (x : ValueType) → Rises a b →
    Rises (option_map (λ v. x) a) (option_map (λ v. x) b)
mapped None b x h v e = let q : ⊥ = cc in absurd q
mapped (Some y) b x h v e = ap (option_map (λ v. x)) (h y refl) ∙ e

allocated_same : (t u : Tables) → Below t u → (k : Option ℕ) → allocated u k ≡ allocated t k
allocated_same t u w None = refl
allocated_same t u w (Some k) =
    ap (λ fs. if is_some (option_and_then (λ f. f) (slice_get fs k)) then Some
    (Written (Struct k) 1) else None) (sym w.fields)

alloc_raised : (t u : Tables) → Below t u → (n : TypeName) →
    Rises (allocated t (struct_behind 0 (value_type t n)))
    (allocated u (struct_behind 0 (value_type u n)))
alloc_raised t u w n v e =
    (elim (type_raised t u w n) as (λ k. allocated u (struct_behind 0 (value_type u n)) ≡ Some v) [
      | inl z ↦ let a = ap (λ i. allocated t (struct_behind 0 i)) z in let q : ⊥ = cc in absurd q
      | inr z ↦ ap (λ i. allocated u (struct_behind 0 i)) z ∙ allocated_same t u w
          (struct_behind 0 (value_type t n)) ∙ e
    ])

argument_raised : (due a b : Option ValueType) → Rises a b → argument_fits due a ≡ true →
    argument_fits due b ≡ true
argument_raised due None b h e = let q : ⊥ = cc in absurd q
argument_raised due (Some x) b h e = ap (argument_fits due) (h x refl) ∙ e

pub both : (a b : Bool) → a ≡ true → b ≡ true → (a && b) ≡ true
both a b p q = ap (λ c. c && b) p ∙ q

called_raised : (s : Option Signature) (a b : Bool) (n : ℕ) → (a ≡ true → b ≡ true) →
    Rises (called s a n) (called s b n)
called_raised s false b n h v e = let q : ⊥ = cc in absurd q
called_raised s true b n h v e = ap (λ c. called s c n) (h refl) ∙ e

-- ---- expressions
mutual
  pub raised : (t u : Tables) → Below t u → (a b : Look) → ((n : List ℕ) → Rises (a n) (b n)) →
      (r s : Option ValueType) → Rises r s → (e : ExprTree) →
      Rises (type_of t a r e) (type_of u b s e)
  raised t u w a b l r s m (number p k) v e = e
  raised t u w a b l r s m (truth p k) v e = e
  raised t u w a b l r s m (null p) v e = e
  raised t u w a b l r s m (local p n) v e = l n v e
  raised t u w a b l r s m (outcome p) v e = m v e
  raised t u w a b l r s m (unary p o x) v e =
      unary_raised o (type_of t a r x) (type_of u b s x) (raised t u w a b l r s m x) v e
  raised t u w a b l r s m (binary p o x y) v e =
      binary_raised o (type_of t a r x) (type_of u b s x) (type_of t a r y) (type_of u b s y)
      (raised t u w a b l r s m x) (raised t u w a b l r s m y) v e
  raised t u w a b l r s m (choose p c x y) v e =
      choice_raised (type_of t a r c) (type_of u b s c) (type_of t a r x) (type_of u b s x)
      (type_of t a r y) (type_of u b s y) (raised t u w a b l r s m c) (raised t u w a b l r s m x)
      (raised t u w a b l r s m y) v e
  raised t u w a b l r s m (arrow p x n) v e =
      arrow_raised t u w (type_of t a r x) (type_of u b s x) n.name (raised t u w a b l r s m x) v e
  raised t u w a b l r s m (call p n es) v e =
      let f = callee t.functions n in
      let g = callee u.functions n in
      let q : f ≡ g = ap (λ k. callee k n) w.functions in
      subst (λ k. called k (arguments_fit u b s (params_of k) 0 es) (count_of es) ≡ Some v) q
      (called_raised f (arguments_fit t a r (params_of f) 0 es)
      (arguments_fit u b s (params_of f) 0 es) (count_of es)
      (arguments_raised t u w a b l r s m (params_of f) 0 es) v e)
  raised t u w a b l r s m (call_text p n x) v e = e
  raised t u w a b l r s m (alloc p n) v e = alloc_raised t u w n v e
  raised t u w a b l r s m (acc p x q n) v e =
      mapped (arrow_typed t (type_of t a r x) n.name) (arrow_typed u (type_of u b s x) n.name)
      (Written Truth 0) (arrow_raised t u w (type_of t a r x) (type_of u b s x) n.name
      (raised t u w a b l r s m x)) v e

  arguments_raised : (t u : Tables) → Below t u → (a b : Look) →
      ((n : List ℕ) → Rises (a n) (b n)) → (r s : Option ValueType) → Rises r s →
      (ps : List ValueType) (i : ℕ) (es : ExprTrees) → arguments_fit t a r ps i es ≡ true →
      arguments_fit u b s ps i es ≡ true
  arguments_raised t u w a b l r s m ps i no_exprs e = refl
  arguments_raised t u w a b l r s m ps i (expr_and x es) e =
      let c = argument_fits (slice_get ps i) (type_of t a r x) in
      let d = arguments_fit t a r ps (i + 1) es in
      both (argument_fits (slice_get ps i) (type_of u b s x)) (arguments_fit u b s ps (i + 1) es)
      (argument_raised (slice_get ps i) (type_of t a r x) (type_of u b s x)
      (raised t u w a b l r s m x) (both_left c d e))
      (arguments_raised t u w a b l r s m ps (i + 1) es (both_right c d e))
