-- Which of two programs is less precise. Source: Gradual C0, where a `?` stands for what a contract leaves out.
use Rattle.std.specs.Prelude.{◌≡◌, ℕ, true, List, [], ◌∷◌, Option}
use Rattle.gc0_base.specs.declared.place.Place.{Place}
use Rattle.gc0_tree.specs.declared.ExprOp.{ExprOp}
use Rattle.gc0_tree.specs.Tree.{Tree, Trees, Conjuncts, no_parts, value_part, acc_part, instance_part, choice_part, Formula, NoteKind, assert_note, fold_note, unfold_note, Stmt, declare_at, assign_at, write_at, plain_at, block_at, if_at, while_at, for_at, return_at, assert_at, raise_at, note_at, Stmts, no_stmts, stmt_and, Function, Program}
use Rattle.precision_order.specs.Bare.{bare_program}

-- The second is the first with conjuncts left out. A choice that is kept may have conjuncts left out in both branches, and
-- a choice may be left out whole.
pub data Leaves : Conjuncts → Conjuncts → Type 0 where
  leaves_none : Leaves no_parts no_parts
  keep_value : (e : Tree) {cs ds : Conjuncts} → Leaves cs ds → Leaves (value_part e cs) (value_part e ds)
  drop_value : (e : Tree) {cs ds : Conjuncts} → Leaves cs ds → Leaves (value_part e cs) ds
  keep_acc : (base : Tree) (field : ℕ) {cs ds : Conjuncts} → Leaves cs ds → Leaves (acc_part base field cs) (acc_part base field ds)
  drop_acc : (base : Tree) (field : ℕ) {cs ds : Conjuncts} → Leaves cs ds → Leaves (acc_part base field cs) ds
  keep_instance : (at : Place) (q : ℕ) (args : Trees) {cs ds : Conjuncts} → Leaves cs ds → Leaves (instance_part at q args cs) (instance_part at q args ds)
  drop_instance : (at : Place) (q : ℕ) (args : Trees) {cs ds : Conjuncts} → Leaves cs ds → Leaves (instance_part at q args cs) ds
  keep_choice : (at : Place) (c : Tree) {us bs xs ys cs ds : Conjuncts} →
      Leaves us xs → Leaves bs ys → Leaves cs ds → Leaves (choice_part at c us bs cs) (choice_part at c xs ys ds)
  drop_choice : (at : Place) (c : Tree) (us bs : Conjuncts) {cs ds : Conjuncts} → Leaves cs ds → Leaves (choice_part at c us bs cs) ds

-- A formula stays, or the second has a `?` and conjuncts left out. So a `?` of the first is one of the second.
pub data LessFormula : Formula → Formula → Type 0 where
  same_formula : (f : Formula) → LessFormula f f
  opened : {more less : Formula} → less.imprecise ≡ true → Leaves more.parts less.parts → LessFormula more less

-- What is asserted may be less precise. What is folded or unfolded is one instance, which stays.
pub data LessNote : NoteKind → Formula → Formula → Type 0 where
  less_asserted : {f g : Formula} → LessFormula f g → LessNote assert_note f g
  same_folded : (f : Formula) → LessNote fold_note f f
  same_unfolded : (f : Formula) → LessNote unfold_note f f

mutual
  pub data LessStmt : Stmt → Stmt → Type 0 where
    less_declare : (at : Place) (i : ℕ) (es : Trees) → LessStmt (declare_at at i es) (declare_at at i es)
    less_assign : (at : Place) (i : ℕ) (op : Option ExprOp) (op_at : Place) (e : Tree) → LessStmt (assign_at at i op op_at e) (assign_at at i op op_at e)
    less_write : (at : Place) (base : Tree) (k f : ℕ) (arrow : Place) (op : Option ExprOp) (op_at : Place) (e : Tree) →
        LessStmt (write_at at base k f arrow op op_at e) (write_at at base k f arrow op op_at e)
    less_plain : (at : Place) (e : Tree) → LessStmt (plain_at at e) (plain_at at e)
    less_block : (at : Place) {ss ts : Stmts} → LessStmts ss ts → LessStmt (block_at at ss) (block_at at ts)
    less_if : (at : Place) (c : Tree) {a x : Stmt} {b y : Stmts} → LessStmt a x → LessStmts b y → LessStmt (if_at at c a b) (if_at at c x y)
    less_while : (at : Place) {f g : Formula} (c : Tree) {a x : Stmt} →
        LessFormula f g → LessStmt a x → LessStmt (while_at at f c a) (while_at at g c x)
    less_for : (at : Place) {p q : Stmts} (c : Tree) {r s : Stmts} {f g : Formula} {a x : Stmt} →
        LessStmts p q → LessStmts r s → LessFormula f g → LessStmt a x → LessStmt (for_at at p c r f a) (for_at at q c s g x)
    less_return : (at : Place) (es : Trees) → LessStmt (return_at at es) (return_at at es)
    less_assert : (at : Place) (e : Tree) → LessStmt (assert_at at e) (assert_at at e)
    less_raise : (at : Place) (text : ℕ) → LessStmt (raise_at at text) (raise_at at text)
    less_note : (at : Place) (k : NoteKind) {f g : Formula} → LessNote k f g → LessStmt (note_at at k f) (note_at at k g)

  pub data LessStmts : Stmts → Stmts → Type 0 where
    less_end : LessStmts no_stmts no_stmts
    less_and : {a x : Stmt} {ss ts : Stmts} → LessStmt a x → LessStmts ss ts → LessStmts (stmt_and a ss) (stmt_and x ts)

-- Functions differ in formulas alone; the names of locals and parameters are equal too.
pub record LessFunction (more less : Function) : Type 0 where
  pub name : more.name ≡ less.name
  pub place : more.place ≡ less.place
  pub close : more.close ≡ less.close
  pub params : more.params ≡ less.params
  pub locals : more.locals ≡ less.locals
  pub result : more.result ≡ less.result
  pub before : LessFormula more.before less.before
  pub after : LessFormula more.after less.after
  pub body : LessStmts more.body less.body

pub data LessFunctions : List Function → List Function → Type 0 where
  no_functions : LessFunctions [] []
  function_and : {f g : Function} {fs gs : List Function} → LessFunction f g → LessFunctions fs gs → LessFunctions (f ∷ fs) (g ∷ gs)

-- with the same places
pub record LessProgram (more less : Program) : Type 0 where
  pub structs : more.structs ≡ less.structs
  pub predicates : more.predicates ≡ less.predicates
  pub functions : LessFunctions more.functions less.functions
  pub main : more.main ≡ less.main
  pub texts : more.texts ≡ less.texts

-- Places don't count.
abbrev pub LessPrecise : (more less : Program) → Type 0
LessPrecise more less = LessProgram (bare_program more) (bare_program less)

-- Precision is an order: each program is less precise than itself, and what is less precise than a less precise one is so.
pub record IsOrder : Type 0 where
  pub reflexive : (p : Program) → LessPrecise p p
  pub transitive : (p q r : Program) → LessPrecise p q → LessPrecise q r → LessPrecise p r

-- Where the first of these conjuncts can stand for the first of those, no later one stands better for it: the others can
-- always be left down to those others. So taking the first that can stand decides what is left out, from left to right.
pub record FirstIsBest : Type 0 where
  pub value : (e d : Tree) (cs ds : Conjuncts) → Leaves (value_part e cs) (value_part d ds) → Leaves cs ds
  pub acc : (a b : Tree) (f g : ℕ) (cs ds : Conjuncts) → Leaves (acc_part a f cs) (acc_part b g ds) → Leaves cs ds
  pub instance : (at to : Place) (p q : ℕ) (es ts : Trees) (cs ds : Conjuncts) → Leaves (instance_part at p es cs) (instance_part to q ts ds) → Leaves cs ds
  pub choice : (at to : Place) (c d : Tree) (us bs xs ys cs ds : Conjuncts) → Leaves (choice_part at c us bs cs) (choice_part to d xs ys ds) → Leaves cs ds
