-- That each part of a program has the shape of its place, pointers with their struct: what the typing rules leave.
-- Source: C0 Reference, "Types", "Expressions" and "Statements"; of formulas, the Gradual C0 paper.
use Rattle.std.specs.Prelude.{◌≡◌, ◌⊎◌, ℕ, ◌≤◌, Bool, true, false, eqb, List, [], ◌∷◌, map, take, length, All, Option, Some, None, IfSome, is_some, slice_get, if◌then◌else◌}
use Rattle.std.specs.Option.{option_and_then}
use Rattle.gc0_tree.specs.declared.Shape.{Shape}
use Rattle.gc0_tree.specs.declared.Shape.TheVariants.{Int, Bool as Truth, Pointer, Null}
use Rattle.gc0_tree.specs.declared.UnaryOp.{UnaryOp}
use Rattle.gc0_tree.specs.declared.UnaryOp.TheVariants as sign
use Rattle.gc0_tree.specs.declared.ExprOp.{ExprOp}
use Rattle.gc0_tree.specs.declared.ExprOp.TheVariants as op
use Rattle.gc0_tree.specs.declared.LibraryCall.{LibraryCall}
use Rattle.gc0_tree.specs.declared.LibraryCall.TheVariants.{PrintInt, PrintBool, Print, PrintLine, ReadInt, MoreInt}
use Rattle.gc0_tree.specs.Calls.{takes_text}
use Rattle.gc0_tree.specs.Tree.{Tree, number_at, truth_at, null_at, local_at, result_at, unary_at, binary_at, both_at, either_at, choose_at, read_at, call_at, library_at, alloc_at, Trees, no_trees, tree_and, Conjuncts, no_parts, value_part, acc_part, instance_part, choice_part, Stmt, declare_at, assign_at, write_at, plain_at, block_at, if_at, while_at, for_at, return_at, assert_at, raise_at, note_at, Stmts, no_stmts, stmt_and, Struct, Predicate, Function, Program}

-- ---- shapes
-- a value of the shape `given` may stand where `due` is: `NULL` fits every pointer
abbrev pub suits : (due given : Shape) → Bool
suits Int Int = true
suits Int Truth = false
suits Int (Pointer k) = false
suits Int Null = false
suits Truth Int = false
suits Truth Truth = true
suits Truth (Pointer k) = false
suits Truth Null = false
suits (Pointer j) Int = false
suits (Pointer j) Truth = false
suits (Pointer j) (Pointer k) = eqb j k
suits (Pointer j) Null = true
suits Null given = false

-- what two values have in common that are compared or chosen between
abbrev pub common : Shape → Shape → Option Shape
common Int Int = Some Int
common Int Truth = None
common Int (Pointer k) = None
common Int Null = None
common Truth Int = None
common Truth Truth = Some Truth
common Truth (Pointer k) = None
common Truth Null = None
common (Pointer j) Int = None
common (Pointer j) Truth = None
common (Pointer j) (Pointer k) = if eqb j k then Some (Pointer j) else None
common (Pointer j) Null = Some (Pointer j)
common Null Int = None
common Null Truth = None
common Null (Pointer k) = Some (Pointer k)
common Null Null = Some Null

-- ---- operators
-- what an operator of one operand takes and gives: `- ~` an int, `!` a truth
abbrev pub unary_shape : UnaryOp → Shape
unary_shape sign.Neg = Int
unary_shape sign.Not = Int
unary_shape sign.Flip = Truth

abbrev pub are_ints : Shape → Shape → Bool
are_ints Int Int = true
are_ints Int Truth = false
are_ints Int (Pointer k) = false
are_ints Int Null = false
are_ints Truth s = false
are_ints (Pointer j) s = false
are_ints Null s = false

-- `== !=` take two of a common shape, the others two ints
abbrev pub takes : ExprOp → Shape → Shape → Bool
takes op.Equal s u = is_some (common s u)
takes op.NotEqual s u = is_some (common s u)
takes o s u = are_ints s u

-- comparisons give a truth, the others an int
abbrev pub gives : ExprOp → Shape
gives op.Less = Truth
gives op.LessEq = Truth
gives op.Greater = Truth
gives op.GreaterEq = Truth
gives op.Equal = Truth
gives op.NotEqual = Truth
gives o = Int

-- ---- what numbers stand for
abbrev pub shapes_in : List (List ℕ × Shape) → List Shape
shapes_in = map (λ p. p.1)

abbrev pub field_shape : Program → (of_struct field : ℕ) → Option Shape
field_shape p k f = option_and_then (λ s. slice_get (shapes_in s.fields) f) (slice_get p.structs k)

abbrev pub params_in : Function → List Shape
params_in g = take g.params (shapes_in g.locals)

-- a library call takes these values; `print` and `println` take a text beside
abbrev pub library_params : LibraryCall → List Shape
library_params PrintInt = Int ∷ []
library_params PrintBool = Truth ∷ []
library_params Print = []
library_params PrintLine = []
library_params ReadInt = []
library_params MoreInt = []

abbrev pub library_gives : LibraryCall → Option Shape
library_gives PrintInt = None
library_gives PrintBool = None
library_gives Print = None
library_gives PrintLine = None
library_gives ReadInt = Some Int
library_gives MoreInt = Some Truth

-- the locals that a value may name, and the shape of `\result` where it may stand
pub record Room : Type 0 where
  pub locals : List Shape
  pub outcome : Option Shape

-- ---- values
abbrev mutual
  pub HasShape : Program → Room → Tree → Shape → Type 0
  HasShape p r (number_at at w) s = s ≡ Int
  HasShape p r (truth_at at b) s = s ≡ Truth
  HasShape p r (null_at at) s = s ≡ Null
  HasShape p r (local_at at i) s = slice_get r.locals i ≡ Some s
  HasShape p r (result_at at) s = r.outcome ≡ Some s
  HasShape p r (unary_at at o x) s = (s ≡ unary_shape o) × HasShape p r x (unary_shape o)
  HasShape p r (binary_at at o x y) s =
      (s ≡ gives o) × (u : Shape) × (v : Shape) × HasShape p r x u × HasShape p r y v × (takes o u v ≡ true)
  HasShape p r (both_at at x y) s = (s ≡ Truth) × HasShape p r x Truth × HasShape p r y Truth
  HasShape p r (either_at at x y) s = (s ≡ Truth) × HasShape p r x Truth × HasShape p r y Truth
  HasShape p r (choose_at at c x y) s =
      HasShape p r c Truth × (u : Shape) × (v : Shape) × HasShape p r x u × HasShape p r y v × (common u v ≡ Some s)
  HasShape p r (read_at at x k f) s = HasShape p r x (Pointer k) × (field_shape p k f ≡ Some s)
  HasShape p r (call_at at f xs) s =
      (g : Function) × (slice_get p.functions f ≡ Some g) × AreGiven p r (params_in g) xs × (g.result ≡ Some s)
  HasShape p r (library_at at c xs text) s =
      (library_gives c ≡ Some s) × AreGiven p r (library_params c) xs × (is_some text ≡ takes_text c)
  HasShape p r (alloc_at at k) s = (s ≡ Pointer k) × (is_some (slice_get p.structs k) ≡ true)

  -- one value for each shape that is due
  pub AreGiven : Program → Room → (due : List Shape) → Trees → Type 0
  AreGiven p r [] no_trees = Unit {0}
  AreGiven p r [] (tree_and x xs) = ⊥
  AreGiven p r (s ∷ ss) no_trees = ⊥
  AreGiven p r (s ∷ ss) (tree_and x xs) = ((u : Shape) × HasShape p r x u × (suits s u ≡ true)) × AreGiven p r ss xs

-- a value that may stand where this shape is due
abbrev pub IsGiven : Program → Room → (due : Shape) → Tree → Type 0
IsGiven p r s x = (u : Shape) × HasShape p r x u × (suits s u ≡ true)

-- the call of a function without a result
abbrev pub IsVoidCall : Program → Room → Tree → Type 0
IsVoidCall p r (call_at at f xs) =
    (g : Function) × (slice_get p.functions f ≡ Some g) × AreGiven p r (params_in g) xs × (g.result ≡ None)
IsVoidCall p r (library_at at c xs text) =
    (library_gives c ≡ None) × AreGiven p r (library_params c) xs × (is_some text ≡ takes_text c)
IsVoidCall p r x = ⊥

-- ---- formulas
abbrev pub PartsFit : Program → Room → Conjuncts → Type 0
PartsFit p r no_parts = Unit {0}
PartsFit p r (value_part x rest) = HasShape p r x Truth × PartsFit p r rest
PartsFit p r (acc_part x f rest) =
    ((k : ℕ) × HasShape p r x (Pointer k) × (is_some (field_shape p k f) ≡ true)) × PartsFit p r rest
PartsFit p r (instance_part at q xs rest) =
    ((d : Predicate) × (slice_get p.predicates q ≡ Some d) × AreGiven p r (shapes_in d.params) xs) × PartsFit p r rest
PartsFit p r (choice_part at c these those rest) =
    HasShape p r c Truth × PartsFit p r these × PartsFit p r those × PartsFit p r rest

-- ---- statements, where a `return` gives `due`
-- an absent value, or the one that is given
abbrev pub InitialFits : Program → Room → Shape → Trees → Type 0
InitialFits p r s no_trees = Unit {0}
InitialFits p r s (tree_and x no_trees) = IsGiven p r s x
InitialFits p r s (tree_and x (tree_and y ys)) = ⊥

abbrev pub ReturnFits : Program → Room → (due : Option Shape) → Trees → Type 0
ReturnFits p r None no_trees = Unit {0}
ReturnFits p r None (tree_and x xs) = ⊥
ReturnFits p r (Some s) no_trees = ⊥
ReturnFits p r (Some s) (tree_and x no_trees) = IsGiven p r s x
ReturnFits p r (Some s) (tree_and x (tree_and y ys)) = ⊥

-- `=` puts a value that fits into a place of this shape; `op=` an int into an int
abbrev pub PutFits : Program → Room → Shape → Option ExprOp → Tree → Type 0
PutFits p r s None x = IsGiven p r s x
PutFits p r s (Some o) x = (s ≡ Int) × HasShape p r x Int

abbrev mutual
  pub StmtFits : Program → Room → (due : Option Shape) → Stmt → Type 0
  StmtFits p r due (declare_at at i xs) = (s : Shape) × (slice_get r.locals i ≡ Some s) × InitialFits p r s xs
  StmtFits p r due (assign_at at i o q x) = (s : Shape) × (slice_get r.locals i ≡ Some s) × PutFits p r s o x
  StmtFits p r due (write_at at y k f arrow o q x) =
      HasShape p r y (Pointer k) × (s : Shape) × (field_shape p k f ≡ Some s) × PutFits p r s o x
  StmtFits p r due (plain_at at x) = ((s : Shape) × HasShape p r x s) ⊎ IsVoidCall p r x
  StmtFits p r due (block_at at ss) = StmtsFit p r due ss
  StmtFits p r due (if_at at c s ss) = HasShape p r c Truth × StmtFits p r due s × StmtsFit p r due ss
  StmtFits p r due (while_at at i c s) = PartsFit p r i.parts × HasShape p r c Truth × StmtFits p r due s
  StmtFits p r due (for_at at a c b i s) =
      StmtsFit p r due a × HasShape p r c Truth × StmtsFit p r due b × PartsFit p r i.parts × StmtFits p r due s
  StmtFits p r due (return_at at xs) = ReturnFits p r due xs
  StmtFits p r due (assert_at at x) = HasShape p r x Truth
  StmtFits p r due (raise_at at text) = Unit {0}
  StmtFits p r due (note_at at kind g) = PartsFit p r g.parts

  pub StmtsFit : Program → Room → (due : Option Shape) → Stmts → Type 0
  StmtsFit p r due no_stmts = Unit {0}
  StmtsFit p r due (stmt_and s ss) = StmtFits p r due s × StmtsFit p r due ss

-- ---- programs
-- what a local, a field, a parameter and a result may be: an int, a truth, or a pointer to a struct of the program
abbrev pub IsHeld : Program → Shape → Type 0
IsHeld p Int = Unit {0}
IsHeld p Truth = Unit {0}
IsHeld p (Pointer k) = is_some (slice_get p.structs k) ≡ true
IsHeld p Null = ⊥

abbrev pub StructFits : Program → Struct → Type 0
StructFits p s = All (IsHeld p) (shapes_in s.fields)

pub record PredicateFits (p : Program) (q : Predicate) : Type 0 where
  pub params : All (IsHeld p) (shapes_in q.params)
  pub body : PartsFit p (record { locals = shapes_in q.params; outcome = None }) q.body

-- contracts speak of the parameters, `ensures` of the result too
pub record FunctionFits (p : Program) (g : Function) : Type 0 where
  pub params : g.params ≤ length g.locals
  pub locals : All (IsHeld p) (shapes_in g.locals)
  pub result : IfSome g.result (IsHeld p)
  pub before : PartsFit p (record { locals = params_in g; outcome = None }) g.before.parts
  pub after : PartsFit p (record { locals = params_in g; outcome = g.result }) g.after.parts
  pub body : StmtsFit p (record { locals = shapes_in g.locals; outcome = None }) g.result g.body

-- `int main()`
pub record IsMain (g : Function) : Type 0 where
  pub params : g.params ≡ 0
  pub result : g.result ≡ Some Int

-- each part of a program has the shape of its place
pub record Fits (p : Program) : Type 0 where
  pub structs : All (StructFits p) p.structs
  pub predicates : All (PredicateFits p) p.predicates
  pub functions : All (FunctionFits p) p.functions
  pub main : (g : Function) × (slice_get p.functions p.main ≡ Some g) × IsMain g
