use Rattle.std.proofs.Common.{◌≡◌, ℕ, ◌+◌, ◌-◌, ◌<◌, List, Some, length, arith, refl, sym, ap, subst, inl, inr}
use Rattle.std.specs.List.{slice_get}
use Rattle.std.proofs.lemmas.Bool.{cases_eq}
use Rattle.std.proofs.lemmas.Option.{slice_get_within}
use Rattle.sat_check.specs.Literals.{at_within}
use Rattle.sat_check.specs.declared.clause.Lit.{Lit}
use Rattle.search_base.specs.declared.trail.Step.{Step}
use Rattle.sat_search.proofs.Keeping.{Asserts}
use Rattle.sat_search.proofs.solver.Solver.jump.Goals as goal

earlier_all :
    (levels : List ℕ) (level keep : ℕ) → ((i k a b : ℕ) → i < k → slice_get levels i ≡ Some a → slice_get levels k ≡ Some b → a < b) → level < length levels
    → ((i place : ℕ) → i + 1 ≡ level → slice_get levels i ≡ Some place → place < keep) → (i a : ℕ) → i < level → slice_get levels i ≡ Some a → a < keep
earlier_all levels level keep rising within first i a less at =
    elim (cases_eq (i + 1) level) [
      | inl same ↦ first i a same at
      | inr differs ↦
          let (b, there) = at_within levels (level - 1) (omega arith) in
          omega (arith, rising i (level - 1) a b (omega (arith, less, differs)) at there, first (level - 1) b (omega (arith, less)) there)
    ]

pub unreachable-requires : goal.unreachable-requires
unreachable-requires c =
    let levels = c.args.self.now.levels.items in
    let it = c.in_default.ensures.none c.args.start (subst (λ (l : List ℕ). slice_get l (length l - 1) ≡ Some c.args.start) (sym c.as_slice.ensures.value) c.requires.start) in
    omega (arith, it, c.requires.learns.keep_le)

pub keep_entry-requires-clause-level : goal.keep_entry-requires-clause-level
keep_entry-requires-clause-level c = subst (λ (l : List ℕ). slice_get l c.in-Some.level ≡ Some c.in-Some.place) c.as_slice.ensures.value c.in-Some.ensures.found.0

pub keep_entry-requires-clause-earlier : goal.keep_entry-requires-clause-earlier
keep_entry-requires-clause-earlier c =
    let levels = c.args.self.now.levels.items in
    let at : slice_get levels c.in-Some.level ≡ Some c.in-Some.place = subst (λ (l : List ℕ). slice_get l c.in-Some.level ≡ Some c.in-Some.place) c.as_slice.ensures.value c.in-Some.ensures.found.0 in
    earlier_all levels c.in-Some.level c.args.keep c.requires.state.state.levels_are.rising (slice_get_within levels c.in-Some.level c.in-Some.place at)
    (λ i place e there. c.in-Some.ensures.first i place e (subst (λ (l : List ℕ). slice_get l i ≡ Some place) (sym c.as_slice.ensures.value) there))

pub assign-requires-clause-below : goal.assign-requires-clause-below
assign-requires-clause-below c =
    let variable : c.opposite.result.variable ≡ c.args.asserting.variable = ap (λ (l : Lit). l.variable) c.opposite.ensures in
    let kept = c.in_ok-index.ensures in
    omega (arith, variable, kept.below, kept.len)

pub assign-requires-clause-places : goal.assign-requires-clause-places
assign-requires-clause-places c = c.in_ok-index.ensures.holds.state.trail.places_len

pub returns-clause-learned : goal.returns-clause-learned
returns-clause-learned c =
    let mid = c.keep_entry.new.self in
    let made = c.in_ok-assign.ensures in
    let step : Step = record { falsified = c.opposite.result; reason = Some c.in_ok-index.index } in
    Asserts c.args.clauses.now c.args.self.now mid
    (record { placed = c.assign.new.self; levels = mid.levels; watches = mid.watches; entries = mid.entries; shelf = mid.shelf; analysis = mid.analysis; order = mid.order; restarts = mid.restarts; stock = mid.stock })
    c.args.asserting c.args.keep c.in-Some.place c.in_ok-index.index step c.in_ok-index.ensures c.in-Some.ensures.found.1 c.opposite.ensures refl refl refl refl refl refl made.slots made.steps made.places
