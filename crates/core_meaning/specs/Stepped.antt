-- Which cores are stepped: what each core keeps that is lowered from a program. This project's own.
use Rattle.std.specs.Prelude.{◌≡◌, ◌↔◌, ℕ, suc, ◌<◌, ◌^◌, length, Bool, true, false, not, ◌&&◌, ◌||◌, IsTrue, List, [], ◌∷◌, ◌++◌, flat_map, Some, slice_get}
use Rattle.std.specs.List.{list_all, AllByRecursion}
use Rattle.gc0_base.specs.declared.site.Site.{Site}
use Rattle.core_tree.specs.declared.Phase.{Phase}
use Rattle.core_tree.specs.declared.Origin.TheVariants.{Choice}
use Rattle.core_tree.specs.CoreSites.{HasChoice}
use Rattle.gc0_base.specs.declared.place.Place.{Place}
use Rattle.gc0_tree.specs.declared.Shape.TheVariants.{Int}
use Rattle.core_tree.specs.CoreTree.{CoreStmt, do_step, do_set, do_unary, do_binary, do_load, do_store, do_new, do_call, do_library, do_if, do_loop, do_return, do_assert, do_raise, do_note, Code, no_code, code_and, CoreFunction, Core}
use Rattle.c0_meaning.specs.Framing.{formula_unframed, predicate_unframed, predicates_unguarded}
use Rattle.core_meaning.specs.CorePrecision.{IsPlain}
use Rattle.core_meaning.specs.CoreFits.{CoreFits}
use Rattle.core_meaning.specs.CoreSited.{code_sites, is_of, are_distinct, has_row, code_sited}
use Rattle.core_meaning.specs.Deciding.{Due, function_due, AreNumbered}
use Rattle.core_meaning.specs.Assigned.{parts_names, code_sets}

-- a point that each function meets, with its number, from a number on
abbrev pub EachFrom : ℕ → List CoreFunction → (ℕ → CoreFunction → Type 0) → Type 0
EachFrom g [] P = Unit {0}
EachFrom g (f ∷ fs) P = P g f × EachFrom (suc g) fs P

abbrev pub EachFunction : Core → (ℕ → CoreFunction → Type 0) → Type 0
EachFunction c P = EachFrom 0 c.functions P

-- ---- steps
abbrev pub is_step : CoreStmt → Bool
is_step do_step = true
is_step s = false

-- A step stands directly before each call and each `alloc`, and first in the test of each loop. None serves two: the one
-- that a test begins with is the test's own.
abbrev mutual
  pub stmt_stepped : (behind_step : Bool) → CoreStmt → Bool
  stmt_stepped behind do_step = true
  stmt_stepped behind (do_set to a) = true
  stmt_stepped behind (do_unary to o a) = true
  stmt_stepped behind (do_binary to o a b site) = true
  stmt_stepped behind (do_load to base k field site) = true
  stmt_stepped behind (do_store base k field value site) = true
  stmt_stepped behind (do_new to k) = behind
  stmt_stepped behind (do_call to g args site) = behind
  stmt_stepped behind (do_library to l a t site) = true
  stmt_stepped behind (do_if d a these those) = code_stepped false these && code_stepped false those
  stmt_stepped behind (do_loop entry again inv d test a body) = test_stepped test && code_stepped false body
  stmt_stepped behind (do_return a site) = true
  stmt_stepped behind (do_assert a site) = true
  stmt_stepped behind (do_raise t site) = true
  stmt_stepped behind (do_note k formula site) = true

  pub code_stepped : (behind_step : Bool) → Code → Bool
  code_stepped behind no_code = true
  code_stepped behind (code_and s rest) = stmt_stepped behind s && code_stepped (is_step s) rest

  pub test_stepped : Code → Bool
  test_stepped no_code = false
  test_stepped (code_and s rest) = is_step s && code_stepped false rest

-- ---- ends
-- Whether no path reaches the end: a `return` and an `error` end a path, and a loop may run no time.
abbrev mutual
  pub stmt_ends : CoreStmt → Bool
  stmt_ends (do_if d a these those) = code_ends these && code_ends those
  stmt_ends (do_return a site) = true
  stmt_ends (do_raise t site) = true
  stmt_ends s = false

  pub code_ends : Code → Bool
  code_ends no_code = false
  code_ends (code_and s rest) = stmt_ends s || code_ends rest

-- a `return` in statements, in loops too
abbrev mutual
  pub stmt_returns : CoreStmt → Bool
  stmt_returns (do_if d a these those) = code_returns these || code_returns those
  stmt_returns (do_loop entry again inv d test a body) = code_returns test || code_returns body
  stmt_returns (do_return a site) = true
  stmt_returns s = false

  pub code_returns : Code → Bool
  code_returns no_code = false
  code_returns (code_and s rest) = stmt_returns s || code_returns rest

-- the test of a loop computes its condition and doesn't return
abbrev mutual
  pub stmt_tests : CoreStmt → Bool
  stmt_tests (do_if d a these those) = code_tests these && code_tests those
  stmt_tests (do_loop entry again inv d test a body) = not (code_returns test) && (code_tests test && code_tests body)
  stmt_tests s = true

  pub code_tests : Code → Bool
  code_tests no_code = true
  code_tests (code_and s rest) = stmt_tests s && code_tests rest

-- ---- framing
-- the reads of invariants without their permission
abbrev mutual
  pub stmt_unframed : CoreStmt → List Place
  stmt_unframed (do_if d a these those) = code_unframed these ++ code_unframed those
  stmt_unframed (do_loop entry again inv d test a body) = formula_unframed inv ++ (code_unframed test ++ code_unframed body)
  stmt_unframed s = []

  pub code_unframed : Code → List Place
  code_unframed no_code = []
  code_unframed (code_and s rest) = stmt_unframed s ++ code_unframed rest

abbrev pub core_function_unframed : CoreFunction → List Place
core_function_unframed f = formula_unframed f.before ++ (formula_unframed f.after ++ code_unframed f.body)

abbrev pub core_unframed : Core → List Place
core_unframed c = flat_map predicate_unframed c.predicates ++ flat_map core_function_unframed c.functions

-- ---- the points
-- Each site of the code is of its function and of the kind of its statement, and no two statements share one. An operator
-- has one exactly where it may fault, a library call exactly where it reads input, and both heads of a loop have one
-- ordinal. Each has a row in the function's table, which names the callee, the predicate or the text.
pub record AreSited (c : Core) (g : ℕ) (f : CoreFunction) : Type 0 where
  pub kinds : IsTrue (list_all (is_of g) (code_sites f.body))
  pub distinct : IsTrue (are_distinct (code_sites f.body))
  pub due : IsTrue (code_sited f.body)
  pub rows : IsTrue (list_all (has_row c) (code_sites f.body))

-- the decisions in the order of the text, with their origins, and few enough to have a number
pub record AreDecided (c : Core) (g : ℕ) (f : CoreFunction) : Type 0 where
  pub numbered : AreNumbered g 0 (function_due c g f) f.decisions
  pub few : length f.decisions < 2 ^ 32

-- `int main()`
pub record IsCoreMain (f : CoreFunction) : Type 0 where
  pub params : f.params ≡ 0
  pub result : f.result ≡ Some Int

-- A lowered core. That a `return` has a value exactly where its function has a result is part of the shapes. Whether a
-- formula is imprecise is a field of it, in the core as in the program.
pub record IsStepped (c : Core) : Type 0 where
  -- each call, each `alloc` and each test of a loop has a step of its own
  pub steps : EachFunction c (λ g f. IsTrue (code_stepped false f.body))
  -- each read of a precise clause or invariant, and of a predicate, has its `acc` to its left
  pub framed : core_unframed c ≡ []
  -- before a predicate comes again in itself, a cell was taken
  pub guarded : predicates_unguarded 0 c.predicates ≡ []
  -- each part has the shape of its place
  pub shapes : CoreFits c
  -- the marks of plain functions are right
  pub plain : EachFunction c (λ g f. IsTrue f.plain ↔ IsPlain c g)
  pub sites : EachFunction c (AreSited c)
  pub decisions : EachFunction c (AreDecided c)
  pub main : (f : CoreFunction) × (slice_get c.functions c.main ≡ Some f) × IsCoreMain f
  -- no path reaches the end of a body
  pub ends : EachFunction c (λ g f. IsTrue (code_ends f.body))
  -- no test of a loop returns
  pub tests : EachFunction c (λ g f. IsTrue (code_tests f.body))
  -- no parameter that `ensures` names is set in the body
  pub kept : EachFunction c (λ g f. IsTrue (list_all (λ i. not (code_sets i f.body)) (parts_names f.after.parts)))

-- ---- what follows
-- a choice that is due somewhere: it can be asked for its decision
abbrev pub CanBeAsked : Core → Due → Type 0
CanBeAsked c x = (site : Site) (phase : Phase) (k : ℕ) → x.origin ≡ Choice site phase k → HasChoice c site phase k

-- in a stepped core the decision of each choice at each point of the code is found
abbrev pub choice_law : Type 0
choice_law = (c : Core) → IsStepped c → (g : ℕ) (f : CoreFunction) → slice_get c.functions g ≡ Some f → AllByRecursion (CanBeAsked c) (function_due c g f)
