use Rattle.std.proofs.Common.{◌≡◌, ◌∙◌, ℕ, suc, ◌+◌, ◌<◌, ◌∷◌, ◌++◌, [], List, Option, Some, length, take, arith, sym, ap, subst, add-one}
use Rattle.std.specs.List.{slice_get}
use Rattle.std.proofs.lemmas.Option.{none-some, same_Some, slice_get-get_or}
use Rattle.sat_check.specs.declared.clause.Lit.{Lit}
use Rattle.sat_check.specs.Logs.{known_before}
use Rattle.search_base.specs.declared.trail.Step.{Step}
use Rattle.search_base.specs.Trails.{falses_of}
use Rattle.search_base.specs.Propagation.{IsConflict}
use Rattle.search_state.specs.Watches.{AllGuarded}
use Rattle.search_state.specs.Looks.{PassIs}
use Rattle.search_base.specs.Lists.{take_suc, take_within}
use Rattle.search_base.specs.Places.{falses-take}
use Rattle.search_base.specs.Steps.{falses-push}
use Rattle.search_base.specs.Settling.{Extends-length}
use Rattle.search_state.proofs.Looking.{Advances-both}
use Rattle.search_state.proofs.watches.Watches.propagate.Goals as goal

pub loop-head-preserved : goal.loop-head-preserved
loop-head-preserved c =
    let known = known_before c.args.clauses.now c.args.entries.now in
    let first = c.args.placed.now in
    let old = c.loop-head.placed in
    let new = c.pass.new.placed in
    let head = c.loop-head.head in
    let before = c.loop-head.invariant in
    let steps = old.trail.steps.items in
    let step = c.index.result.now in
    let inside : head < length steps = omega (arith, c.len.ensures, c.loop-head-test.true, old.trail.steps.ok.0) in
    let here : slice_get steps head ≡ Some step = slice_get-get_or steps head step inside ∙ ap (λ (s : Step). Some s) (sym c.index.ensures) in
    let it = subst (λ (o : Option ℕ). PassIs known old new c.loop-head.self c.pass.new.self step.falsified o) c.in_default.is c.in_ok-conflict.ensures in
    let longer = Extends-length steps new.trail.steps.items it.0.extends in
    let more : falses_of (take (head + 1) new.trail.steps.items) ≡ falses_of (take head steps) ++ step.falsified ∷ [] =
    ap (λ (n : ℕ). falses_of (take n new.trail.steps.items)) (add-one head) ∙ ap (λ (s : List Step). falses_of (take (suc head) s)) it.0.extends.1
    ∙ ap falses_of (take_within (suc head) steps it.0.extends.0 (omega arith)) ∙ ap falses_of (take_suc head steps step here) ∙ falses-push (take head steps) step in
    record {
      advances = Advances-both known first old new c.args.self.now c.loop-head.self c.pass.new.self before.advances it.0;
      within = omega (arith, longer, inside);
      guarded =
          subst (λ (l : List Lit). AllGuarded known c.pass.new.self.pairs.items (falses_of new.trail.steps.items) l) (sym more)
          (it.1 (falses_of (take head steps)) (λ lit h. falses-take head steps lit h) before.guarded);
    }

pub returns-in-Some : goal.returns-in-Some
returns-in-Some c =
    let known = known_before c.args.clauses.now c.args.entries.now in
    let first = c.args.placed.now in
    let old = c.loop-head.placed in
    let new = c.pass.new.placed in
    let it = subst (λ (o : Option ℕ). PassIs known old new c.loop-head.self c.pass.new.self c.index.result.now.falsified o) c.in-Some.is c.in_ok-conflict.ensures in
    record {
      advances = Advances-both known first old new c.args.self.now c.loop-head.self c.pass.new.self c.loop-head.invariant.advances it.0;
      found = λ index e. subst (λ (o : ℕ). IsConflict known (falses_of new.trail.steps.items) o) (same_Some c.in-Some.conflict index e) it.1;
      guarded = λ e. absurd {A = AllGuarded known c.pass.new.self.pairs.items (falses_of new.trail.steps.items) (falses_of new.trail.steps.items)} (none-some c.in-Some.conflict (sym e));
    }
