-- Which functions are tracked: those that aren't plain or have an entry, and all that reach one of them.
use Rattle.std.specs.Prelude.{◌≡◌, ◌↔◌, ◌≤◌, ◌+◌, ℕ, zero, suc, Bool, true, false, not, ◌||◌, eqb, IsTrue, List, [], ◌∷◌, length, Option, Some, None, if◌then◌else◌, slice_get}
use Rattle.core_tree.specs.CoreTree.{CoreStmt, do_step, do_set, do_unary, do_binary, do_load, do_store, do_new, do_call, do_library, do_if, do_loop, do_return, do_assert, do_raise, do_note, Code, no_code, code_and, CoreFunction, Core}
use Rattle.core_meaning.specs.CorePrecision.{Reaches}
use Rattle.core_checks.specs.Entries.{Entry}
use Rattle.core_checks.specs.Placements.{is_so_marked}

-- whether a function has a mark
abbrev pub marked : List Bool → ℕ → Bool
marked marks g = is_so_marked (slice_get marks g)

-- a call of a function with a mark in statements
abbrev mutual
  pub stmt_reaches : List Bool → CoreStmt → Bool
  stmt_reaches marks do_step = false
  stmt_reaches marks (do_set to a) = false
  stmt_reaches marks (do_unary to o a) = false
  stmt_reaches marks (do_binary to o a b site) = false
  stmt_reaches marks (do_load to base k field site) = false
  stmt_reaches marks (do_store base k field value site) = false
  stmt_reaches marks (do_new to k) = false
  stmt_reaches marks (do_call to g args site) = marked marks g
  stmt_reaches marks (do_library to l a t site) = false
  stmt_reaches marks (do_if d a these those) = code_reaches marks these || code_reaches marks those
  stmt_reaches marks (do_loop entry again inv d test a body) = code_reaches marks test || code_reaches marks body
  stmt_reaches marks (do_return a site) = false
  stmt_reaches marks (do_assert a site) = false
  stmt_reaches marks (do_raise t site) = false
  stmt_reaches marks (do_note k formula site) = false

  pub code_reaches : List Bool → Code → Bool
  code_reaches marks no_code = false
  code_reaches marks (code_and s rest) = stmt_reaches marks s || code_reaches marks rest

-- an entry of a function
abbrev pub has_entry : ℕ → List Entry → Bool
has_entry g [] = false
has_entry g (e ∷ es) = eqb e.site.function g || has_entry g es

-- a function that isn't plain or has an entry
abbrev pub start_of : List Entry → ℕ → Option CoreFunction → Bool
start_of es g None = false
start_of es g (Some f) = not f.plain || has_entry g es

abbrev pub starts : Core → List Entry → ℕ → Bool
starts c es g = start_of es g (slice_get c.functions g)

-- the first marks
pub record AreFirst (c : Core) (es : List Entry) (marks : List Bool) : Type 0 where
  pub count : length marks ≡ length c.functions
  pub right : (g : ℕ) → marked marks g ≡ starts c es g

-- each function with a mark reaches one that starts
abbrev pub AreSound : Core → List Entry → List Bool → Type 0
AreSound c es marks = (g : ℕ) → marked marks g ≡ true → (h : ℕ) × Reaches c g h × (starts c es h ≡ true)

-- each of the first functions that calls one with a mark has a mark
abbrev pub AreClosed : Core → ℕ → List Bool → Type 0
AreClosed c n marks = (g : ℕ) (f : CoreFunction) → suc g ≤ n → slice_get c.functions g ≡ Some f → code_reaches marks f.body ≡ true → marked marks g ≡ true

-- how many have no mark
abbrev pub unmarked : List Bool → ℕ
unmarked [] = zero
unmarked (true ∷ bs) = unmarked bs
unmarked (false ∷ bs) = suc (unmarked bs)

-- one walk over the functions: marks come where one with a mark is called
pub record Passes (c : Core) (old : List Bool) (changed : Bool) (new : List Bool) : Type 0 where
  pub count : length new ≡ length old
  pub sound : (es : List Entry) → AreSound c es old → AreSound c es new
  pub grows : (g : ℕ) → marked old g ≡ true → marked new g ≡ true
  pub fewer : unmarked new + (if changed then 1 else 0) ≤ unmarked old
  pub closed : changed ≡ false → AreClosed c (length c.functions) new

-- a function has a mark exactly where it reaches one that starts
abbrev pub AreTracked : Core → List Entry → List Bool → Type 0
AreTracked c es marks = (g : ℕ) → IsTrue (marked marks g) ↔ ((h : ℕ) × Reaches c g h × IsTrue (starts c es h))
