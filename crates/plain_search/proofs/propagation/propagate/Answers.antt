use Rattle.std.proofs.Common.{◌≡◌, ◌∙◌, ℕ, ◌<◌, List, Option, Some, None, length, arith, sym, ap, subst}
use Rattle.std.specs.List.{slice_get, Contains}
use Rattle.std.proofs.lemmas.Option.{none-some, slice_get-get_or}
use Rattle.sat_check.specs.Logs.{known_before}
use Rattle.search_base.specs.declared.trail.Step.{Step}
use Rattle.plain_search.specs.Looks.{VisitsAll}
use Rattle.plain_search.proofs.Settling.{AllSettled-next, AllStuck-from_settled}
use Rattle.search_base.specs.Settling.{Extends-both, Extends-length}
use Rattle.plain_search.proofs.propagation.propagate.Goals as goal

pub loop-head-preserved : goal.loop-head-preserved
loop-head-preserved c =
    let known = known_before c.args.clauses.now c.args.entries.now in
    let first = c.args.trail.now.steps.items in
    let old = c.loop-head.trail.steps.items in
    let new = c.visit_all.new.trail.steps.items in
    let slots = c.visit_all.new.trail.slots.items in
    let head = c.loop-head.head in
    let step = c.index.result.now in
    let before = c.loop-head.invariant in
    let within : head < length old = omega arith in
    let here : slice_get old head ≡ Some step = slice_get-get_or old head step within ∙ ap (λ (s : Step). Some s) (sym c.index.ensures) in
    let indices = c.of-indices.result.now in
    let visits : VisitsAll known old slots new indices None = subst (λ (o : Option ℕ). VisitsAll known old slots new indices o) c.in_default.is c.in_ok-conflict.ensures.visits in
    record {
      len = c.in_ok-conflict.ensures.len ∙ before.len;
      keeps = visits.keeps;
      extends = Extends-both first old new before.extends visits.extends;
      within = omega (arith, Extends-length old new visits.extends);
      settled =
          AllSettled-next known old new slots head step indices here before.settled visits
          (λ index clause named stands. subst (λ (xs : List ℕ). Contains xs index) (sym c.of-indices.ensures) (c.requires.complete index clause step.falsified named stands));
    }

pub returns-clause-propagates : goal.returns-clause-propagates
returns-clause-propagates c =
    let known = known_before c.args.clauses.now c.args.entries.now in
    let steps = c.loop-head.trail.steps.items in
    let before = c.loop-head.invariant in
    record {
      keeps = before.keeps;
      extends = before.extends;
      found = λ index e. absurd (none-some index e);
      stuck = λ _. AllStuck-from_settled known steps c.loop-head.head (omega arith) before.settled;
    }

pub returns-in-Some-clause-propagates : goal.returns-in-Some-clause-propagates
returns-in-Some-clause-propagates c =
    let first = c.args.trail.now.steps.items in
    let old = c.loop-head.trail.steps.items in
    let new = c.visit_all.new.trail.steps.items in
    let visits = c.in_ok-conflict.ensures.visits in
    record {
      keeps = visits.keeps;
      extends = Extends-both first old new c.loop-head.invariant.extends visits.extends;
      found = λ index e. visits.found index (c.in-Some.is ∙ e);
      stuck = λ e. absurd (none-some c.in-Some.conflict (sym e));
    }
