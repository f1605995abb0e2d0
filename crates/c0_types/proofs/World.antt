-- What the tables of a text say of its resolved program, and what a frame says of a scope.
use Rattle.std.proofs.Common.{◌≡◌, ℕ, true, false, List, [], ◌∷◌, ◌++◌, map, Option, Some, None, is_some, slice_get}
use Rattle.gc0_tree.specs.declared.Shape.{Shape}
use Rattle.gc0_tree.specs.declared.Shape.TheVariants as shape
use Rattle.gc0_tree.specs.Tree as tree
use Rattle.gc0_tree.specs.Fits.{HasShape, IsVoidCall, Room, params_in, shapes_in, field_shape}
use Rattle.c0_names.specs.declared.types.ValueType.{ValueType}
use Rattle.c0_names.specs.declared.types.ValueType.TheVariants.{Written, Null, Void, Text}
use Rattle.c0_names.specs.declared.tables.TypedNames.{TypedNames}
use Rattle.c0_names.specs.declared.tables.Signature.{Signature}
use Rattle.c0_names.specs.declared.tables.Tables.{Tables}
use Rattle.c0_names.specs.Tables.{type_in, signature_in, fields_of}
use Rattle.c0_names.specs.Types.{is_void}
use Rattle.c0_names.specs.Typing.{Look}
use Rattle.c0_value_numbers.specs.declared.frame.Frame.{Frame}
use Rattle.c0_value_numbers.specs.Values.{number_in, shape_of}
use Rattle.c0_types.proofs.Shapes.{Held}

-- ---- what a value of a type is in a tree: one of its shape, or the call of a function without a result
abbrev pub given : ValueType → Option Shape
given (Written b m) = Some (shape_of (Written b m))
given Null = Some shape.Null
given Void = None
given Text = Some shape.Null

abbrev pub Gives : tree.Program → Room → tree.Tree → ValueType → Type 0
Gives p r x (Written b m) = HasShape p r x (shape_of (Written b m))
Gives p r x Null = HasShape p r x shape.Null
Gives p r x Void = IsVoidCall p r x
Gives p r x Text = HasShape p r x shape.Null

pub gives_value : (p : tree.Program) (r : Room) (x : tree.Tree) (v : ValueType) →
    is_void v ≡ false → Gives p r x v → HasShape p r x (shape_of v)
gives_value p r x (Written b m) e h = h
gives_value p r x Null e h = h
gives_value p r x Void e h = let n : ⊥ = cc in absurd n
gives_value p r x Text e h = h

pub value_gives : (p : tree.Program) (r : Room) (x : tree.Tree) (v : ValueType) →
    is_void v ≡ false → HasShape p r x (shape_of v) → Gives p r x v
value_gives p r x (Written b m) e h = h
value_gives p r x Null e h = h
value_gives p r x Void e h = let n : ⊥ = cc in absurd n
value_gives p r x Text e h = h

-- ---- types that are all held
abbrev pub AllHeld : List ValueType → Type 0
AllHeld [] = Unit {0}
AllHeld (v ∷ vs) = Held v × AllHeld vs

pub held_more : (vs : List ValueType) (v : ValueType) → AllHeld vs → Held v → AllHeld (vs ++ v ∷ [])
held_more [] v h k = (k, tt)
held_more (w ∷ vs) v h k = (h.0, held_more vs v h.1 k)

-- ---- the function and the predicate of a number
pub record Means (p : tree.Program) (i : ℕ) (s : Signature) : Type 0 where
  pub one : tree.Function
  pub here : slice_get p.functions i ≡ Some one
  pub params : params_in one ≡ map shape_of s.params
  pub result : one.result ≡ given s.result
  pub held : AllHeld s.params

pub record Stands (p : tree.Program) (i : ℕ) (s : Signature) : Type 0 where
  pub one : tree.Predicate
  pub here : slice_get p.predicates i ≡ Some one
  pub params : shapes_in one.params ≡ map shape_of s.params
  pub held : AllHeld s.params

pub record World (u : Tables) (p : tree.Program) : Type 0 where
  pub functions : (n : List ℕ) (s : Signature) → signature_in u.functions n ≡ Some s →
      Means p (number_in u.functions.names n) s
  pub predicates : (n : List ℕ) (s : Signature) → signature_in u.predicates n ≡ Some s →
      Stands p (number_in u.predicates.names n) s
  pub fields : (k : ℕ) (fs : TypedNames) (n : List ℕ) (v : ValueType) → fields_of u k ≡ Some fs →
      type_in fs n ≡ Some v → (field_shape p k (number_in fs.names n) ≡ Some (shape_of v)) × Held v
  pub structs : (k : ℕ) (fs : TypedNames) → fields_of u k ≡ Some fs →
      is_some (slice_get p.structs k) ≡ true

-- ---- what is read has its number and its shape in the room
pub record Sees (room : Room) (f : Frame) (look : Look) (r : Option ValueType) : Type 0 where
  pub reads : (n : List ℕ) (v : ValueType) → look n ≡ Some v →
      (type_in f.locals n ≡ Some v) × Held v
  pub places : (n : List ℕ) (v : ValueType) → type_in f.locals n ≡ Some v →
      slice_get room.locals (number_in f.locals.names n) ≡ Some (shape_of v)
  pub outcome : (v : ValueType) → r ≡ Some v →
      (v ≡ f.result) × Held v × (room.outcome ≡ Some (shape_of v))
