-- That each part of a core has the shape of its place. Source: C0 Reference, "Types"; the words are those for programs.
use Rattle.std.specs.Prelude.{◌≡◌, ℕ, ◌≤◌, ◌<◌, ◌^◌, Bool, true, false, List, [], ◌∷◌, ◌++◌, take, length, All, Option, Some, None, IfSome, is_some, slice_get}
use Rattle.gc0_tree.specs.declared.Shape.{Shape}
use Rattle.gc0_tree.specs.declared.Shape.TheVariants.{Int, Bool as Truth, Pointer, Null}
use Rattle.gc0_tree.specs.Calls.{takes_text}
use Rattle.gc0_tree.specs.Tree.{Conjuncts, no_parts, instance_part, Formula, NoteKind, assert_note, fold_note, unfold_note, Program}
use Rattle.gc0_tree.specs.Fits.{suits, gives, unary_shape, shapes_in, field_shape, library_params, library_gives, Room, PartsFit, IsHeld, StructFits, PredicateFits}
use Rattle.core_tree.specs.declared.BinaryOp.{BinaryOp}
use Rattle.core_tree.specs.declared.BinaryOp.TheVariants as binary
use Rattle.core_tree.specs.declared.Simple.{Simple}
use Rattle.core_tree.specs.declared.Simple.TheVariants as simple
use Rattle.core_tree.specs.CoreTree.{CoreStmt, do_step, do_set, do_unary, do_binary, do_load, do_store, do_new, do_call, do_library, do_if, do_loop, do_return, do_assert, do_raise, do_note, Code, no_code, code_and, CoreFunction, Core}
use Rattle.core_meaning.specs.CoreRunning.{op_of}

-- what formulas speak of beside locals: the structs and predicates
abbrev pub around : Core → Program
around c = record { structs = c.structs; predicates = c.predicates; functions = []; main = c.main; texts = c.texts }

-- ---- words
-- a word that may stand for a value of this shape
abbrev pub WordFits : Shape → ℕ → Type 0
WordFits Int w = w < 2 ^ 32
WordFits Truth w = w < 2
WordFits (Pointer k) w = w ≡ 0
WordFits Null w = w ≡ 0

-- a temporary may have the shape of `NULL` alone
abbrev pub may_hold : (due given : Shape) → Bool
may_hold Null Null = true
may_hold due given = suits due given

-- a value that may stand where this shape is due, by the shapes of locals and temporaries
abbrev pub SimpleFits : List Shape → (due : Shape) → Simple → Type 0
SimpleFits words due (simple.Const w) = WordFits due w.0
SimpleFits words due (simple.Local i) = (s : Shape) × (slice_get words i ≡ Some s) × (may_hold due s ≡ true)

-- a local or temporary that may be set to a value of this shape
abbrev pub Takes : List Shape → (given : Shape) → (to : ℕ) → Type 0
Takes words given to = (s : Shape) × (slice_get words to ≡ Some s) × (may_hold s given ≡ true)

-- a result is written where there is one
abbrev pub TakesResult : List Shape → (given : Option Shape) → (to : Option ℕ) → Type 0
TakesResult words given None = Unit {0}
TakesResult words given (Some to) = (s : Shape) × (given ≡ Some s) × Takes words s to

-- `==` takes two values of one shape, the others two ints
abbrev pub OperandsFit : List Shape → BinaryOp → Simple → Simple → Type 0
OperandsFit words binary.Equal a b = (s : Shape) × SimpleFits words s a × SimpleFits words s b
OperandsFit words o a b = SimpleFits words Int a × SimpleFits words Int b

-- one local for each parameter
abbrev pub ArgumentsFit : List Shape → (due : List Shape) → (arguments : List ℕ) → Type 0
ArgumentsFit words [] [] = Unit {0}
ArgumentsFit words [] (i ∷ is) = ⊥
ArgumentsFit words (s ∷ ss) [] = ⊥
ArgumentsFit words (s ∷ ss) (i ∷ is) = SimpleFits words s (simple.Local i) × ArgumentsFit words ss is

-- an argument, or none where none is due
abbrev pub ArgumentFits : List Shape → (due : List Shape) → Option Simple → Type 0
ArgumentFits words [] None = Unit {0}
ArgumentFits words (s ∷ []) (Some a) = SimpleFits words s a
ArgumentFits words due a = ⊥

-- a `return` has a value exactly where the function has a result
abbrev pub ReturnFits : List Shape → (due : Option Shape) → Option Simple → Type 0
ReturnFits words None None = Unit {0}
ReturnFits words None (Some a) = ⊥
ReturnFits words (Some s) None = ⊥
ReturnFits words (Some s) (Some a) = SimpleFits words s a

-- the formula of a `fold` or an `unfold` is the one instance
abbrev pub is_instance : Conjuncts → Bool
is_instance (instance_part at q args no_parts) = true
is_instance parts = false

abbrev pub note_fits : NoteKind → Formula → Bool
note_fits assert_note formula = true
note_fits fold_note formula = is_instance formula.parts
note_fits unfold_note formula = is_instance formula.parts

-- ---- functions
abbrev pub core_params : CoreFunction → List Shape
core_params f = take f.params (shapes_in f.locals)

-- the shapes of the locals, and behind them those of the temporaries
abbrev pub word_shapes : CoreFunction → List Shape
word_shapes f = shapes_in f.locals ++ f.temps

-- what the formulas among the statements may speak of
abbrev pub room_of : CoreFunction → Room
room_of f = record { locals = shapes_in f.locals; outcome = None }

abbrev mutual
  pub CoreStmtFits : Core → CoreFunction → CoreStmt → Type 0
  CoreStmtFits c f do_step = Unit {0}
  CoreStmtFits c f (do_set to a) = (s : Shape) × (slice_get (word_shapes f) to ≡ Some s) × SimpleFits (word_shapes f) s a
  CoreStmtFits c f (do_unary to o a) = Takes (word_shapes f) (unary_shape o) to × SimpleFits (word_shapes f) (unary_shape o) a
  CoreStmtFits c f (do_binary to o a b site) = Takes (word_shapes f) (gives (op_of o)) to × OperandsFit (word_shapes f) o a b
  CoreStmtFits c f (do_load to base k field site) =
      SimpleFits (word_shapes f) (Pointer k) base × (s : Shape) × (field_shape (around c) k field ≡ Some s) × Takes (word_shapes f) s to
  CoreStmtFits c f (do_store base k field value site) =
      SimpleFits (word_shapes f) (Pointer k) base × (s : Shape) × (field_shape (around c) k field ≡ Some s) × SimpleFits (word_shapes f) s value
  CoreStmtFits c f (do_new to k) = Takes (word_shapes f) (Pointer k) to × (is_some (slice_get c.structs k) ≡ true)
  CoreStmtFits c f (do_call to g args site) =
      (h : CoreFunction) × (slice_get c.functions g ≡ Some h) × ArgumentsFit (word_shapes f) (core_params h) args × TakesResult (word_shapes f) h.result to
  CoreStmtFits c f (do_library to l a t site) =
      ArgumentFits (word_shapes f) (library_params l) a × TakesResult (word_shapes f) (library_gives l) to × (is_some t ≡ takes_text l)
  CoreStmtFits c f (do_if d a these those) = SimpleFits (word_shapes f) Truth a × CodeFits c f these × CodeFits c f those
  CoreStmtFits c f (do_loop entry again inv d test a body) =
      PartsFit (around c) (room_of f) inv.parts × CodeFits c f test × SimpleFits (word_shapes f) Truth a × CodeFits c f body
  CoreStmtFits c f (do_return a site) = ReturnFits (word_shapes f) f.result a
  CoreStmtFits c f (do_assert a site) = SimpleFits (word_shapes f) Truth a
  CoreStmtFits c f (do_raise t site) = Unit {0}
  CoreStmtFits c f (do_note k formula site) = PartsFit (around c) (room_of f) formula.parts × (note_fits k formula ≡ true)

  pub CodeFits : Core → CoreFunction → Code → Type 0
  CodeFits c f no_code = Unit {0}
  CodeFits c f (code_and s rest) = CoreStmtFits c f s × CodeFits c f rest

-- a temporary has a shape that a local may have, or that of `NULL`
abbrev pub IsTemporary : Core → Shape → Type 0
IsTemporary c Null = Unit {0}
IsTemporary c s = IsHeld (around c) s

-- contracts speak of the parameters, `ensures` of the result too
pub record CoreFunctionFits (c : Core) (f : CoreFunction) : Type 0 where
  pub params : f.params ≤ length f.locals
  pub locals : All (IsHeld (around c)) (shapes_in f.locals)
  pub temps : All (IsTemporary c) f.temps
  pub result : IfSome f.result (IsHeld (around c))
  pub before : PartsFit (around c) (record { locals = core_params f; outcome = None }) f.before.parts
  pub after : PartsFit (around c) (record { locals = core_params f; outcome = f.result }) f.after.parts
  pub body : CodeFits c f f.body

-- each part of a core has the shape of its place
pub record CoreFits (c : Core) : Type 0 where
  pub structs : All (StructFits (around c)) c.structs
  pub predicates : All (PredicateFits (around c)) c.predicates
  pub functions : All (CoreFunctionFits c) c.functions
