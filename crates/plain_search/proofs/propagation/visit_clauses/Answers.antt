use Rattle.std.proofs.Common.{◌≡◌, ◌∙◌, ℕ, ◌<◌, Bool, List, [], Some, length, arith, refl, sym, subst, inl, inr, append-nil}
use Rattle.std.specs.List.{slice_get}
use Rattle.std.proofs.lemmas.Bool.{cases_order}
use Rattle.std.proofs.lemmas.Option.{none-some, same_Some, slice_get_within}
use Rattle.sat_check.specs.declared.clause.Clause.{Clause}
use Rattle.sat_check.specs.Logs.{known_before}
use Rattle.search_base.specs.Trails.{falses_of}
use Rattle.plain_search.specs.Looks.{Visits}
use Rattle.search_base.specs.Propagation.{IsConflict}
use Rattle.plain_search.proofs.Settling.{IsSettled-grow, settled_by}
use Rattle.search_base.specs.Settling.{Extends-both}
use Rattle.plain_search.proofs.propagation.visit_clauses.Goals as goal

pub loop-index-preserved : goal.loop-index-preserved
loop-index-preserved c =
    let known = known_before c.args.clauses.now [] in
    let old = c.loop-index.trail.steps.items in
    let new = c.visit.new.trail.steps.items in
    let i = c.loop-index.index in
    let before = c.loop-index.invariant in
    let visits = subst (λ (b : Bool). Visits known old c.visit.new.trail.slots.items new i b) c.if-branch.false c.in_ok-visit.ensures.visits in
    record {
      len = c.in_ok-visit.ensures.len ∙ before.len;
      keeps = visits.keeps;
      extends = Extends-both c.args.trail.now.steps.items old new before.extends visits.extends;
      settled = λ index clause within named.
          elim (cases_order index i) [
            | inl same ↦ settled_by known old new c.visit.new.trail.slots.items i 0 clause visits (subst (λ (n : ℕ). slice_get known n ≡ Some clause) same named)
            | inr apart ↦
                elim apart [
                  | inl sooner ↦ IsSettled-grow old new 0 clause.lits visits.extends (omega arith) (before.settled index clause sooner named)
                  | inr later ↦ absurd (omega arith)
                ]
          ];
    }

pub returns-clause-begins : goal.returns-clause-begins
returns-clause-begins c =
    let clauses = c.args.clauses.now in
    let before = c.loop-index.invariant in
    record {
      keeps = before.keeps;
      extends = before.extends;
      found = λ index e. absurd (none-some index e);
      settled = λ _ index clause named.
          let within : index < length clauses = slice_get_within clauses index clause (subst (λ (cs : List Clause). slice_get cs index ≡ Some clause) (append-nil clauses) named) in
          before.settled index clause (omega arith) named;
    }

pub returns-then-branch-clause-begins : goal.returns-then-branch-clause-begins
returns-then-branch-clause-begins c =
    let known = known_before c.args.clauses.now [] in
    let first = c.args.trail.now.steps.items in
    let old = c.loop-index.trail.steps.items in
    let new = c.visit.new.trail.steps.items in
    let number = c.loop-index.index in
    let visits = subst (λ (b : Bool). Visits known old c.visit.new.trail.slots.items new number b) c.if-branch.true c.in_ok-visit.ensures.visits in
    record {
      keeps = visits.keeps;
      extends = Extends-both first old new c.loop-index.invariant.extends visits.extends;
      found = λ index e. subst (λ (n : ℕ). IsConflict known (falses_of new) n) (same_Some number index e) (visits.found refl);
      settled = λ e. absurd (none-some number (sym e));
    }
