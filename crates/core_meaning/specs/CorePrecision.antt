-- Which functions of a core are plain. Source: Gradual C0.
use Rattle.std.specs.Prelude.{◌≡◌, ℕ, Bool, false, ◌||◌, eqb, IsTrue, IsFalse, Some, slice_get}
use Rattle.core_tree.specs.CoreTree.{CoreStmt, do_step, do_set, do_unary, do_binary, do_load, do_store, do_new, do_call, do_library, do_if, do_loop, do_return, do_assert, do_raise, do_note, Code, no_code, code_and, CoreFunction, Core}
use Rattle.c0_meaning.specs.Precision.{imprecise, note_open}

-- an invariant or an assert with a `?` in statements
abbrev mutual
  pub stmt_open : CoreStmt → Bool
  stmt_open do_step = false
  stmt_open (do_set to a) = false
  stmt_open (do_unary to o a) = false
  stmt_open (do_binary to o a b site) = false
  stmt_open (do_load to base k field site) = false
  stmt_open (do_store base k field value site) = false
  stmt_open (do_new to k) = false
  stmt_open (do_call to g args site) = false
  stmt_open (do_library to l a t site) = false
  stmt_open (do_if d a these those) = code_open these || code_open those
  stmt_open (do_loop entry again inv d test a body) = imprecise inv || (code_open test || code_open body)
  stmt_open (do_return a site) = false
  stmt_open (do_assert a site) = false
  stmt_open (do_raise t site) = false
  stmt_open (do_note k formula site) = note_open k formula

  pub code_open : Code → Bool
  code_open no_code = false
  code_open (code_and s rest) = stmt_open s || code_open rest

-- a `?` in the clauses, invariants or asserts of a function
abbrev pub is_open : CoreFunction → Bool
is_open f = imprecise f.before || (imprecise f.after || code_open f.body)

-- a call of a function in statements
abbrev mutual
  pub stmt_calls : ℕ → CoreStmt → Bool
  stmt_calls g do_step = false
  stmt_calls g (do_set to a) = false
  stmt_calls g (do_unary to o a) = false
  stmt_calls g (do_binary to o a b site) = false
  stmt_calls g (do_load to base k field site) = false
  stmt_calls g (do_store base k field value site) = false
  stmt_calls g (do_new to k) = false
  stmt_calls g (do_call to h args site) = eqb h g
  stmt_calls g (do_library to l a t site) = false
  stmt_calls g (do_if d a these those) = code_calls g these || code_calls g those
  stmt_calls g (do_loop entry again inv d test a body) = code_calls g test || code_calls g body
  stmt_calls g (do_return a site) = false
  stmt_calls g (do_assert a site) = false
  stmt_calls g (do_raise t site) = false
  stmt_calls g (do_note k formula site) = false

  pub code_calls : ℕ → Code → Bool
  code_calls g no_code = false
  code_calls g (code_and s rest) = stmt_calls g s || code_calls g rest

-- one function reaches another by calls
pub data Reaches (c : Core) : ℕ → ℕ → Type 0 where
  itself : (f : ℕ) → Reaches c f f
  through : (f g h : ℕ) (fn : CoreFunction) → slice_get c.functions f ≡ Some fn → IsTrue (code_calls g fn.body) → Reaches c g h → Reaches c f h

-- no `?` stands in a function, nor in one that it reaches
abbrev pub IsPlain : Core → ℕ → Type 0
IsPlain c f = (g : ℕ) (fn : CoreFunction) → Reaches c f g → slice_get c.functions g ≡ Some fn → IsFalse (is_open fn)
