use Rattle.std.proofs.Common.{◌≡◌, ◌∙◌, List, [], ◌∷◌, ◌++◌, None, false, get_or, take, sym, ap}
use Rattle.std.proofs.lemmas.List.{take_more, take_all}
use Rattle.sat_check.specs.declared.clause.Lit.{Lit}
use Rattle.search_base.specs.declared.trail.Step.{Step}
use Rattle.search_base.specs.Trails.{falses_of}
use Rattle.search_base.specs.Steps.{falses-push}
use Rattle.search_base.proofs.Walking.{Keeps-other, Keeps-taken}
use Rattle.search_base.proofs.trail.Trail.take_all.Goals as goal

pub loop-lit-init : goal.loop-lit-init
loop-lit-init c =
    let cut = c.cut.ensures in
    record {
      len = cut.len;
      keeps = λ known. Keeps-other c.requires.0 known c.cut.new.self.slots.items c.cut.new.self.steps.items cut.steps (cut.keeps c.requires.0 c.requires.1);
      falses = ap falses_of cut.steps;
    }

pub loop-lit-preserved : goal.loop-lit-preserved
loop-lit-preserved c =
    let lits = c.args.lits.now in
    let i = c.loop-lit.lit-index in
    let none : Lit = record { variable = 0; positive = false } in
    let lit = get_or lits i none in
    let slots = c.loop-lit.self.slots.items in
    let steps = c.loop-lit.self.steps.items in
    let before = c.loop-lit.invariant in
    let (slot, at, is_open) = c.is_open.ensures c.if-not-is_open.false in
    let made = c.in_ok-assign.ensures in
    let step : Step = record { falsified = lit; reason = None } in
    let falses : falses_of c.assign.new.self.steps.items ≡ take i lits ++ lit ∷ [] =
    ap falses_of made.steps ∙ falses-push steps step ∙ ap (λ (l : List Lit). l ++ lit ∷ []) before.falses in
    record {
      len = made.len ∙ before.len;
      keeps = λ known. Keeps-taken known slots c.assign.new.self.slots.items steps c.assign.new.self.steps.items lit slot at is_open made.steps made.slots (before.keeps known);
      falses = falses ∙ sym (take_more lits i none c.loop-lit-test.true);
    }

pub returns-clause-falses : goal.returns-clause-falses
returns-clause-falses c _ = c.loop-lit.invariant.falses ∙ take_all c.loop-lit.lit-index c.args.lits.now c.loop-lit-test.false
