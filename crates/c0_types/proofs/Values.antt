-- An expression that has a type gives a value of its shape.
use Rattle.std.proofs.Common.{◌≡◌, ℕ, ◌+◌, Bool, true, false, ◌&&◌, eqb, List, [], ◌∷◌, map, length, Option, Some, None, is_some, slice_get, option_and_then, option_map, unwrap_or, if◌then◌else◌, refl, sym, subst, ap, ◌∙◌, inl, inr, arith, eqb-true}
use Rattle.gc0_base.specs.declared.place.Place.{Place}
use Rattle.parsed_tree.specs.declared.expressions.TypeName.{TypeName}
use Rattle.parsed_tree.specs.declared.expressions.UnaryOperator.{UnaryOperator}
use Rattle.parsed_tree.specs.declared.expressions.UnaryOperator.TheVariants as sign
use Rattle.parsed_tree.specs.declared.expressions.Operator.{Operator}
use Rattle.parsed_tree.specs.declared.expressions.Operator.TheVariants as op
use Rattle.parsed_tree.specs.Tree.{ExprTrees, no_exprs, expr_and}
use Rattle.gc0_tree.specs.declared.Shape.{Shape}
use Rattle.gc0_tree.specs.declared.Shape.TheVariants as shape
use Rattle.gc0_tree.specs.declared.ExprOp.{ExprOp}
use Rattle.gc0_tree.specs.declared.ExprOp.TheVariants as expr_op
use Rattle.gc0_tree.specs.declared.LibraryCall.{LibraryCall}
use Rattle.gc0_tree.specs.declared.LibraryCall.TheVariants as library_call
use Rattle.gc0_tree.specs.Calls.{takes_text}
use Rattle.gc0_tree.specs.Tree as tree
use Rattle.gc0_tree.specs.Fits as fit
use Rattle.gc0_tree.specs.Fits.{HasShape, AreGiven, IsVoidCall, Room, params_in, library_params, library_gives, field_shape, gives}
use Rattle.c0_names.specs.declared.types.BaseType.TheVariants.{Int, Bool as Truth, Struct}
use Rattle.c0_names.specs.declared.types.ValueType.{ValueType}
use Rattle.c0_names.specs.declared.types.ValueType.TheVariants.{Written, Null, Void, Text}
use Rattle.c0_names.specs.declared.tables.TypedNames.{TypedNames}
use Rattle.c0_names.specs.declared.tables.Signature.{Signature}
use Rattle.c0_names.specs.declared.tables.Tables.{Tables}
use Rattle.c0_names.specs.Tables.{type_in, signature_in, fields_of, value_type}
use Rattle.c0_names.specs.Types.{int, bool, is_int, is_truth, is_void, struct_behind, pointed, fits, common, unary_type, binary_type, choice_type, of_ints, of_truths, of_equals, library_signature, or_else}
use Rattle.c0_names.specs.Typing.{Look, unary_typed, binary_typed, choice_typed, field_in, arrow_typed, allocated, argument_fits, called, count_of, type_of, arguments_fit}
use Rattle.c0_value_numbers.specs.declared.values.FieldPlace.{FieldPlace}
use Rattle.c0_value_numbers.specs.Values.{number_in, shape_of, field_of, accessed}
use Rattle.c0_value_numbers.specs.Expressions.{unary_of, binary_tree, first_tree, call_tree, made_struct}
use Rattle.c0_types.proofs.Shapes.{held_int, held_truth, int_of, truth_of, pointed_of, both_left, both_right, if_some, in_common}
use Rattle.c0_types.proofs.Raised.{Below, type_raised}
use Rattle.c0_types.proofs.World.{given, Gives, gives_value, value_gives, AllHeld, Means, World}

-- ---- the parts of what has a type
pub unary_parts : (o : UnaryOperator) (a : Option ValueType) (v : ValueType) →
    unary_typed o a ≡ Some v → (w : ValueType) × (a ≡ Some w) × (unary_type o w ≡ Some v)
unary_parts o None v e = let n : ⊥ = cc in absurd n
unary_parts o (Some w) v e = (w, refl, e)

pub binary_parts : (o : Operator) (a b : Option ValueType) (v : ValueType) →
    binary_typed o a b ≡ Some v → (w : ValueType) × (z :
    ValueType) × (a ≡ Some w) × (b ≡ Some z) × (binary_type o w z ≡ Some v)
binary_parts o None b v e = let n : ⊥ = cc in absurd n
binary_parts o (Some w) None v e = let n : ⊥ = cc in absurd n
binary_parts o (Some w) (Some z) v e = (w, z, refl, refl, e)

pub choice_parts : (c a b : Option ValueType) (v : ValueType) → choice_typed c a b ≡ Some v →
    (x : ValueType) × (w : ValueType) × (z :
    ValueType) × (c ≡ Some x) × (a ≡ Some w) × (b ≡ Some z) × (choice_type x w z ≡ Some v)
choice_parts None a b v e = let n : ⊥ = cc in absurd n
choice_parts (Some x) None b v e = let n : ⊥ = cc in absurd n
choice_parts (Some x) (Some w) None v e = let n : ⊥ = cc in absurd n
choice_parts (Some x) (Some w) (Some z) v e = (x, w, z, refl, refl, refl, e)

field_parts : (t : Tables) (k : Option ℕ) (n : List ℕ) (v : ValueType) → field_in t k n ≡ Some v →
    (j : ℕ) × (fs : TypedNames) × (k ≡ Some j) × (fields_of t j ≡ Some fs) × (type_in fs n ≡ Some v)
field_parts t None n v e = let q : ⊥ = cc in absurd q
field_parts t (Some j) n v e = let q = of (fields_of t j) e in (j, q.0, refl, q.1, q.2)
  where
    of : (o : Option TypedNames) → option_and_then (λ fs. type_in fs n) o ≡ Some v →
        (fs : TypedNames) × (o ≡ Some fs) × (type_in fs n ≡ Some v)
    of None e = let q : ⊥ = cc in absurd q
    of (Some fs) e = (fs, refl, e)

-- the pointer, the struct and the field
pub record Reached (t : Tables) (a : Option ValueType) (n : List ℕ) (v : ValueType) : Type 0 where
  pub of_struct : ℕ
  pub fields : TypedNames
  pub base : a ≡ Some (Written (Struct of_struct) 1)
  pub defined : fields_of t of_struct ≡ Some fields
  pub typed : type_in fields n ≡ Some v

pub arrow_parts : (t : Tables) (a : Option ValueType) (n : List ℕ) (v : ValueType) →
    arrow_typed t a n ≡ Some v → Reached t a n v
arrow_parts t None n v e = let q : ⊥ = cc in absurd q
arrow_parts t (Some w) n v e =
    let k = field_parts t (pointed w) n v e in
    record {
      of_struct = k.0;
      fields = k.1;
      base = ap Some (pointed_of w k.0 k.2);
      defined = k.3;
      typed = k.4;
    }

pub argument_parts : (due : ValueType) (a : Option ValueType) → argument_fits (Some due) a ≡ true →
    (w : ValueType) × (a ≡ Some w) × (fits due w ≡ true)
argument_parts due None e = let n : ⊥ = cc in absurd n
argument_parts due (Some w) e = (w, refl, e)

pub called_parts : (f : Option Signature) (fit : Bool) (n : ℕ) (v : ValueType) →
    called f fit n ≡ Some v →
    (s : Signature) × (f ≡ Some s) × (fit ≡ true) × (length s.params ≡ n) × (s.result ≡ v)
called_parts None true n v e = let q : ⊥ = cc in absurd q
called_parts None false n v e = let q : ⊥ = cc in absurd q
called_parts (Some s) false n v e = let q : ⊥ = cc in absurd q
called_parts (Some s) true n v e = let q = if_some (eqb (length s.params) n) s.result v e in
    (s, refl, refl, eqb-true (length s.params) n q.0, q.1)

-- ---- operators
pub unary_gives : (p : tree.Program) (r : Room) (at : Place) (o : UnaryOperator) (x :
    tree.Tree) (w v : ValueType) → unary_type o w ≡ Some v → Gives p r x w →
    Gives p r (tree.unary_at at (unary_of o) x) v
unary_gives p r at sign.Negate x w v e h = let q = if_some (is_int w) int v e in
    subst (Gives p r (tree.unary_at at (unary_of sign.Negate) x)) q.1
    (refl, subst (Gives p r x) (int_of w q.0) h)
unary_gives p r at sign.Not x w v e h = let q = if_some (is_int w) int v e in
    subst (Gives p r (tree.unary_at at (unary_of sign.Not) x)) q.1
    (refl, subst (Gives p r x) (int_of w q.0) h)
unary_gives p r at sign.Flip x w v e h = let q = if_some (is_truth w) bool v e in
    subst (Gives p r (tree.unary_at at (unary_of sign.Flip) x)) q.1
    (refl, subst (Gives p r x) (truth_of w q.0) h)

ints_give : (p : tree.Program) (r : Room) (at : Place) (o : ExprOp) (made : ValueType) →
    is_void made ≡ false → shape_of made ≡ gives o → fit.takes o shape.Int shape.Int ≡ true →
    (x y : tree.Tree) (w z v : ValueType) → of_ints made w z ≡ Some v → Gives p r x w →
    Gives p r y z → Gives p r (tree.binary_at at o x y) v
ints_give p r at o made n g k x y w z v e h i =
    let q = if_some (is_int w && is_int z) made v e in
    subst (Gives p r (tree.binary_at at o x y)) q.1
    (value_gives p r (tree.binary_at at o x y) made n (
      g,
      shape.Int,
      shape.Int,
      subst (Gives p r x)
          (int_of w (both_left (is_int w) (is_int z) q.0)) h,
      subst (Gives p r y)
          (int_of z (both_right (is_int w) (is_int z) q.0)) i,
      k,
    ))

some_common : (w z : ValueType) (o : Option ValueType) → common w z ≡ o → is_some o ≡ true →
    (u : ValueType) × (common w z ≡ Some u)
some_common w z None q e = let n : ⊥ = cc in absurd n
some_common w z (Some u) q e = (u, q)

equals_give : (p : tree.Program) (r : Room) (at : Place) (o : ExprOp) → gives o ≡ shape.Bool →
    ((a b : Shape) → fit.takes o a b ≡ is_some (fit.common a b)) →
    (x y : tree.Tree) (w z v : ValueType) → of_equals w z ≡ Some v → Gives p r x w → Gives p r y z →
    Gives p r (tree.binary_at at o x y) v
equals_give p r at o g k x y w z v e h i =
    let q = if_some (is_some (common w z)) bool v e in
    let c = some_common w z (common w z) refl q.0 in
    let m = in_common w z c.0 c.1 in
    subst (Gives p r (tree.binary_at at o x y)) q.1 (
      sym g,
      shape_of w,
      shape_of z,
      gives_value p r x w m.left h,
      gives_value p r y z m.right i,
      k (shape_of w) (shape_of z) ∙ ap is_some m.shapes,
    )

truths_parts : (w z v : ValueType) → of_truths w z ≡ Some v → (w ≡ bool) × (z ≡ bool) × (bool ≡ v)
truths_parts w z v e =
    let q = if_some (is_truth w && is_truth z) bool v e in (
      truth_of w (both_left (is_truth w) (is_truth z) q.0),
      truth_of z
          (both_right (is_truth w) (is_truth z) q.0),
      q.1,
    )

pub binary_gives : (p : tree.Program) (r : Room) (at : Place) (o : Operator) (x y :
    tree.Tree) (w z v : ValueType) → binary_type o w z ≡ Some v → Gives p r x w → Gives p r y z →
    Gives p r (binary_tree at o x y) v
binary_gives p r at op.Mul x y w z v e h i =
    ints_give p r at expr_op.Mul int refl refl refl x y w z v e h i
binary_gives p r at op.Div x y w z v e h i =
    ints_give p r at expr_op.Div int refl refl refl x y w z v e h i
binary_gives p r at op.Rem x y w z v e h i =
    ints_give p r at expr_op.Rem int refl refl refl x y w z v e h i
binary_gives p r at op.Add x y w z v e h i =
    ints_give p r at expr_op.Add int refl refl refl x y w z v e h i
binary_gives p r at op.Sub x y w z v e h i =
    ints_give p r at expr_op.Sub int refl refl refl x y w z v e h i
binary_gives p r at op.Shl x y w z v e h i =
    ints_give p r at expr_op.Shl int refl refl refl x y w z v e h i
binary_gives p r at op.Shr x y w z v e h i =
    ints_give p r at expr_op.Shr int refl refl refl x y w z v e h i
binary_gives p r at op.Less x y w z v e h i =
    ints_give p r at expr_op.Less bool refl refl refl x y w z v e h i
binary_gives p r at op.LessEq x y w z v e h i =
    ints_give p r at expr_op.LessEq bool refl refl refl x y w z v e h i
binary_gives p r at op.Greater x y w z v e h i =
    ints_give p r at expr_op.Greater bool refl refl refl x y w z v e h i
binary_gives p r at op.GreaterEq x y w z v e h i =
    ints_give p r at expr_op.GreaterEq bool refl refl refl x y w z v e h i
binary_gives p r at op.Equal x y w z v e h i =
    equals_give p r at expr_op.Equal refl (λ a b. refl) x y w z v e h i
binary_gives p r at op.NotEqual x y w z v e h i =
    equals_give p r at expr_op.NotEqual refl (λ a b. refl) x y w z v e h i
binary_gives p r at op.And x y w z v e h i =
    ints_give p r at expr_op.And int refl refl refl x y w z v e h i
binary_gives p r at op.Xor x y w z v e h i =
    ints_give p r at expr_op.Xor int refl refl refl x y w z v e h i
binary_gives p r at op.Or x y w z v e h i =
    ints_give p r at expr_op.Or int refl refl refl x y w z v e h i
binary_gives p r at op.Both x y w z v e h i =
    let q = truths_parts w z v e in
    subst (Gives p r (tree.both_at at x y)) q.2 (
      refl,
      subst (Gives p r x) q.0 h,
      subst
          (Gives p r y) q.1 i,
    )
binary_gives p r at op.Either x y w z v e h i =
    let q = truths_parts w z v e in
    subst (Gives p r (tree.either_at at x y)) q.2 (
      refl,
      subst (Gives p r x) q.0 h,
      subst
          (Gives p r y) q.1 i,
    )

pub choice_gives : (p : tree.Program) (r : Room) (at : Place) (c x y : tree.Tree) (b w z v :
    ValueType) → choice_type b w z ≡ Some v → Gives p r c b → Gives p r x w → Gives p r y z →
    Gives p r (tree.choose_at at c x y) v
choice_gives p r at c x y b w z v e g h i = of (is_truth b) refl e
  where
    of : (k : Bool) → is_truth b ≡ k → (if k then common w z else None) ≡ Some v →
        Gives p r (tree.choose_at at c x y) v
    of false q e = let n : ⊥ = cc in absurd n
    of true q e =
        let m = in_common w z v e in
        value_gives p r (tree.choose_at at c x y) v m.both (
          subst (Gives p r c) (truth_of b q) g,
          shape_of w,
          shape_of z,
          gives_value p r x w
              m.left h,
          gives_value p r y z m.right i,
          m.shapes,
        )

-- ---- fields
pub accessed_is : (u : Tables) (a : Option ValueType) (n : List ℕ) (v : ValueType) →
    (q : Reached u a n v) → accessed u a n ≡ (let made :
    FieldPlace = record { of_struct = q.of_struct; field = number_in q.fields.names n } in made)
accessed_is u a n v q =
    ap (λ o. accessed u o n) q.base ∙ ap (λ o. field_of q.of_struct o n) q.defined

-- ---- calls
means_gives : (p : tree.Program) (r : Room) (at : Place) (i : ℕ) (s : Signature) (xs : tree.Trees) →
    (m : Means p i s) → AreGiven p r (map shape_of s.params) xs →
    Gives p r (tree.call_at at i xs) s.result
means_gives p r at i s xs m h = of s.result m.result
  where
    args : AreGiven p r (params_in m.one) xs
    args = subst (λ ss. AreGiven p r ss xs) (sym m.params) h

    of : (v : ValueType) → m.one.result ≡ given v → Gives p r (tree.call_at at i xs) v
    of (Written b k) e = (m.one, m.here, args, e)
    of Null e = (m.one, m.here, args, e)
    of Void e = (m.one, m.here, args, e)
    of Text e = (m.one, m.here, args, e)

first_none : (p : tree.Program) (r : Room) (xs : tree.Trees) → AreGiven p r [] xs →
    AreGiven p r [] (first_tree xs)
first_none p r tree.no_trees h = tt
first_none p r (tree.tree_and x xs) h = absurd h

first_one : (p : tree.Program) (r : Room) (s : Shape) (xs : tree.Trees) → AreGiven p r (s ∷ []) xs →
    AreGiven p r (s ∷ []) (first_tree xs)
first_one p r s tree.no_trees h = absurd h
first_one p r s (tree.tree_and x tree.no_trees) h = h
first_one p r s (tree.tree_and x (tree.tree_and y ys)) h = absurd h.1

text_fits_none : (v : ValueType) → fits Text v ≡ true → ⊥
text_fits_none (Written b m) e = let n : ⊥ = cc in n
text_fits_none Null e = let n : ⊥ = cc in n
text_fits_none Void e = let n : ⊥ = cc in n
text_fits_none Text e = let n : ⊥ = cc in n

pub no_text : (t : Tables) (look : Look) (r : Option ValueType) (es : ExprTrees) → 1 ≡ count_of es →
    arguments_fit t look r (Text ∷ []) 0 es ≡ true → ⊥
no_text t look r no_exprs n e = absurd (omega arith)
no_text t look r (expr_and x es) n e =
    let q = argument_parts Text (type_of t look r x)
    (both_left (argument_fits (Some Text) (type_of t look r x))
    (arguments_fit t look r (Text ∷ []) (0 + 1) es) e) in
    text_fits_none q.0 q.2

library_give : (p : tree.Program) (r : Room) (at : Place) (c : LibraryCall) (xs : tree.Trees) →
    ((library_signature c).params ≡ Text ∷ [] → ⊥) →
    (AllHeld (library_signature c).params →
    AreGiven p r (map shape_of (library_signature c).params) xs) →
    Gives p r (tree.library_at at c (first_tree xs) None) (library_signature c).result
library_give p r at library_call.PrintInt xs n h =
    (refl, first_one p r shape.Int xs (h (held_int, tt)), refl)
library_give p r at library_call.PrintBool xs n h =
    (refl, first_one p r shape.Bool xs (h (held_truth, tt)), refl)
library_give p r at library_call.Print xs n h = absurd (n refl)
library_give p r at library_call.PrintLine xs n h = absurd (n refl)
library_give p r at library_call.ReadInt xs n h = (refl, first_none p r xs (h tt), refl)
library_give p r at library_call.MoreInt xs n h = (refl, first_none p r xs (h tt), refl)

pub text_gives : (p : tree.Program) (r : Room) (at : Place) (i : ℕ) (c : Option LibraryCall) →
    unwrap_or (option_map takes_text c) false ≡ true →
    IsVoidCall p r (tree.library_at at (unwrap_or c library_call.Print) tree.no_trees (Some i))
text_gives p r at i None e = let n : ⊥ = cc in absurd n
text_gives p r at i (Some library_call.PrintInt) e = let n : ⊥ = cc in absurd n
text_gives p r at i (Some library_call.PrintBool) e = let n : ⊥ = cc in absurd n
text_gives p r at i (Some library_call.Print) e = (refl, tt, refl)
text_gives p r at i (Some library_call.PrintLine) e = (refl, tt, refl)
text_gives p r at i (Some library_call.ReadInt) e = let n : ⊥ = cc in absurd n
text_gives p r at i (Some library_call.MoreInt) e = let n : ⊥ = cc in absurd n

pub call_gives : (u : Tables) (p : tree.Program) → World u p →
    (r : Room) (at : Place) (n : List ℕ) (c : Option LibraryCall) (s : Signature) (xs :
    tree.Trees) → or_else (option_map library_signature c) (signature_in u.functions n) ≡ Some s →
    (s.params ≡ Text ∷ [] → ⊥) → (AllHeld s.params → AreGiven p r (map shape_of s.params) xs) →
    Gives p r (call_tree u at n c xs) s.result
call_gives u p world r at n None s xs e k h = let m = world.functions n s e in
    means_gives p r at (number_in u.functions.names n) s xs m (h m.held)
call_gives u p world r at n (Some c) s xs e k h = same (library_signature c) refl
  where
    same : (z : Signature) → library_signature c ≡ z →
        Gives p r (call_tree u at n (Some c) xs) s.result
    same z q =
        let d : library_signature c ≡ s = cc in
        subst (λ w. Gives p r (tree.library_at at c (first_tree xs) None) w.result) d
        (library_give p r at c xs (λ g. k (ap (λ w. w.params) (sym d) ∙ g))
        (subst (λ w. AllHeld w.params → AreGiven p r (map shape_of w.params) xs) (sym d) h))

-- ---- `alloc`
behind_of : (v : ValueType) (k : ℕ) → struct_behind 0 v ≡ Some k → v ≡ Written (Struct k) 0
behind_of (Written Int m) k e = absurd (none (eqb m 0) e)
  where
    none : (b : Bool) → ◌≡◌ {A = Option ℕ} (if b then None else None) (Some k) → ⊥
    none true e = let n : ⊥ = cc in n
    none false e = let n : ⊥ = cc in n
behind_of (Written Truth m) k e = absurd (none (eqb m 0) e)
  where
    none : (b : Bool) → ◌≡◌ {A = Option ℕ} (if b then None else None) (Some k) → ⊥
    none true e = let n : ⊥ = cc in n
    none false e = let n : ⊥ = cc in n
behind_of (Written (Struct j) m) k e =
    let q = if_some (eqb m 0) j k e in
    ap (λ i. Written (Struct j) i) (eqb-true m 0 q.0) ∙ ap (λ i. Written (Struct i) 0) q.1
behind_of Null k e = let n : ⊥ = cc in absurd n
behind_of Void k e = let n : ⊥ = cc in absurd n
behind_of Text k e = let n : ⊥ = cc in absurd n

allocated_parts : (t : Tables) (o : Option ℕ) (v : ValueType) → allocated t o ≡ Some v →
    (k : ℕ) × (fs :
    TypedNames) × (o ≡ Some k) × (fields_of t k ≡ Some fs) × (Written (Struct k) 1 ≡ v)
allocated_parts t None v e = let n : ⊥ = cc in absurd n
allocated_parts t (Some k) v e = let q = of (fields_of t k) e in (k, q.0, refl, q.1, q.2)
  where
    of : (o : Option TypedNames) →
        (if is_some o then Some (Written (Struct k) 1) else None) ≡ Some v →
        (fs : TypedNames) × (o ≡ Some fs) × (Written (Struct k) 1 ≡ v)
    of None e = let n : ⊥ = cc in absurd n
    of (Some fs) e = (fs, refl, cc)

pub fields_same : (t u : Tables) → Below t u → (k : ℕ) (fs : TypedNames) → fields_of t k ≡ Some fs →
    fields_of u k ≡ Some fs
fields_same t u w k fs e =
    subst (λ l. option_and_then (λ f. f) (slice_get l k) ≡ Some fs) w.fields e

pub alloc_gives : (t u : Tables) (p : tree.Program) → Below t u → World u p →
    (r : Room) (at : Place) (n : TypeName) (v : ValueType) →
    allocated t (struct_behind 0 (value_type t n)) ≡ Some v →
    Gives p r (tree.alloc_at at (made_struct (value_type u n))) v
alloc_gives t u p below world r at n v e =
    let q = allocated_parts t (struct_behind 0 (value_type t n)) v e in
    let b = behind_of (value_type t n) q.0 q.2 in
    (elim (type_raised t u below n) as (λ k. Gives p r
    (tree.alloc_at at (made_struct (value_type u n))) v) [
      | inl z ↦ let m : ⊥ = cc in absurd m
      | inr z ↦
          let m : made_struct (value_type u n) ≡ q.0 = ap made_struct (z ∙ b) in
          subst (λ k. Gives p r (tree.alloc_at at k) v) (sym m)
          (subst (Gives p r (tree.alloc_at at q.0)) q.4
          (refl, world.structs q.0 q.1 (fields_same t u below q.0 q.1 q.3)))
    ])

pub mapped_is : (a : Option ValueType) (x v : ValueType) → option_map (λ y. x) a ≡ Some v → x ≡ v
mapped_is None x v e = let n : ⊥ = cc in absurd n
mapped_is (Some y) x v e = cc
