use Rattle.std.proofs.Common.{◌∙◌, ℕ, Bool, List, length, get_or, take, refl, sym, subst, inl, inr}
use Rattle.std.specs.List.{Contains}
use Rattle.std.proofs.lemmas.Option.{none-some, same_Some}
use Rattle.std.proofs.lemmas.List.{take_more, take_all}
use Rattle.std.proofs.lemmas.List.Elements.{Contains-push_cases}
use Rattle.sat_check.specs.Logs.{known_before}
use Rattle.search_base.specs.Trails.{falses_of}
use Rattle.plain_search.specs.Looks.{Visits}
use Rattle.search_base.specs.Propagation.{IsConflict}
use Rattle.plain_search.proofs.Settling.{IsSettled-grow, settled_by}
use Rattle.search_base.specs.Settling.{Extends-both, Extends-length}
use Rattle.plain_search.proofs.propagation.visit_all.Goals as goal

pub loop-index-preserved : goal.loop-index-preserved
loop-index-preserved c =
    let known = known_before c.args.clauses.now c.args.entries.now in
    let first = c.args.trail.now.steps.items in
    let old = c.loop-index.trail.steps.items in
    let new = c.visit.new.trail.steps.items in
    let indices = c.args.indices.now in
    let i = c.loop-index.index-index in
    let number = get_or indices i 0 in
    let before = c.loop-index.invariant in
    let visits = subst (λ (b : Bool). Visits known old c.visit.new.trail.slots.items new number b) c.if-branch.false c.in_ok-visit.ensures.visits in
    let more = take_more indices i 0 c.loop-index-test.true in
    record {
      len = c.in_ok-visit.ensures.len ∙ before.len;
      keeps = visits.keeps;
      extends = Extends-both first old new before.extends visits.extends;
      settled = λ index clause among named.
          elim (Contains-push_cases (take i indices) number index (subst (λ (xs : List ℕ). Contains xs index) more among)) [
            | inl sooner ↦ IsSettled-grow old new (length first) clause.lits visits.extends (Extends-length first old before.extends) (before.settled index clause sooner named)
            | inr same ↦ settled_by known old new c.visit.new.trail.slots.items number (length first) clause visits (rw same named)
          ];
    }

pub returns-clause-visits : goal.returns-clause-visits
returns-clause-visits c =
    let before = c.loop-index.invariant in
    let whole = take_all c.loop-index.index-index c.args.indices.now c.loop-index-test.false in
    record {
      keeps = before.keeps;
      extends = before.extends;
      found = λ index e. absurd (none-some index e);
      settled = λ _ index clause among named. before.settled index clause (rw whole among) named;
    }

pub returns-then-branch-clause-visits : goal.returns-then-branch-clause-visits
returns-then-branch-clause-visits c =
    let known = known_before c.args.clauses.now c.args.entries.now in
    let first = c.args.trail.now.steps.items in
    let old = c.loop-index.trail.steps.items in
    let new = c.visit.new.trail.steps.items in
    let number = get_or c.args.indices.now c.loop-index.index-index 0 in
    let visits = subst (λ (b : Bool). Visits known old c.visit.new.trail.slots.items new number b) c.if-branch.true c.in_ok-visit.ensures.visits in
    record {
      keeps = visits.keeps;
      extends = Extends-both first old new c.loop-index.invariant.extends visits.extends;
      found = λ index e. subst (λ (n : ℕ). IsConflict known (falses_of new) n) (same_Some number index e) (visits.found refl);
      settled = λ e. absurd (none-some number (sym e));
    }
