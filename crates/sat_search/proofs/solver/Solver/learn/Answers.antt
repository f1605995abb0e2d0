use Rattle.std.proofs.Common.{◌≡◌, ◌∙◌, ℕ, List, Some, arith, sym, subst, inl, inr}
use Rattle.std.specs.List.{slice_get}
use Rattle.sat_check.specs.declared.log.Entry.{Entry}
use Rattle.sat_check.specs.Logs.{known_before}
use Rattle.sat_search.specs.declared.solver.Solver.{Solver}
use Rattle.sat_search.specs.Learning.{Learns}
use Rattle.search_base.specs.Levels.{IsStart}
use Rattle.sat_search.proofs.Keeping.{Holds-same}
use Rattle.sat_search.proofs.Turning.{LearnedIs-same}
use Rattle.sat_search.proofs.solver.Solver.learn.Goals as goal

pub settle-requires-clause-state : goal.settle-requires-clause-state
settle-requires-clause-state c =
    let own = c.args.self.now in
    let mid : Solver =
    record { placed = own.placed; levels = own.levels; watches = own.watches; entries = own.entries; shelf = own.shelf; analysis = c.analyze.new.self; order = own.order; restarts = own.restarts; stock = own.stock } in
    let r = c.reorder.ensures in
    let state = c.requires.state in
    Holds-same c.args.clauses.now mid c.reorder.new.self r.placed r.levels r.watches r.entries r.shelf r.analysis
    (record { state = state.state; ready = c.in_ok-learned.ensures.ready; shelf = state.shelf; carded = state.carded })

pub settle-requires-clause-start : goal.settle-requires-clause-start
settle-requires-clause-start c =
    rw c.reorder.ensures.levels (subst (λ (l : List ℕ). IsStart l c.levels_of-levels.result.start) c.as_slice.ensures.value c.levels_of-levels.ensures.start)

pub settle-requires-clause-base : goal.settle-requires-clause-base
settle-requires-clause-base c =
    let own = c.args.self.now in
    let base = c.levels_of-levels.result.base in
    rw (c.reorder.ensures.levels, c.reorder.ensures.placed)
    (elim c.levels_of-levels.ensures.base [
      | inl it ↦ inl (sym c.as_slice.ensures.value ∙ it.0, omega (arith, it.1, c.len.ensures, own.placed.trail.steps.ok.0))
      | inr at ↦ inr (subst (λ (l : List ℕ). slice_get l 0 ≡ Some base) c.as_slice.ensures.value at)
    ])

pub settle-requires-clause-leveled : goal.settle-requires-clause-leveled
settle-requires-clause-leveled c some = rw c.reorder.ensures.placed (c.in_ok-learned.ensures.leveled some)

pub settle-requires-clause-learns : goal.settle-requires-clause-learns
settle-requires-clause-learns c =
    let l = c.in_ok-learned.learned in
    let start = c.levels_of-levels.result.start in
    let clauses = c.args.clauses.now in
    let learns = subst (λ (es : List Entry). Learns (known_before clauses es) c.args.self.now.placed.trail.steps.items start l.entry.clause.lits l.entry.hints l.asserting l.keep) c.as_slice-2.ensures c.in_ok-learned.ensures.learns in
    rw (c.reorder.ensures.entries, c.reorder.ensures.placed) learns

pub returns : goal.returns
returns c =
    let r = c.reorder.ensures in
    LearnedIs-same c.args.clauses.now c.args.self.now c.reorder.new.self c.settle.new.self c.in_ok-learning.learning r.entries r.placed r.watches c.in_ok-learning.ensures
