use Rattle.std.proofs.Common.{◌≡◌, ◌∙◌, ℕ, ◌-◌, length, take, List, arith, ap, sym}
use Rattle.std.proofs.lemmas.List.{length-take}
use Rattle.search_base.specs.declared.trail.Step.{Step}
use Rattle.search_base.specs.Lists.{take-take}
use Rattle.search_base.proofs.trail.Trail.cut.Goals as goal

pub take_back-requires-clause-keeps : goal.take_back-requires-clause-keeps
take_back-requires-clause-keeps c = (c.requires.keeps.0, c.loop-self.invariant.keeps c.requires.keeps.0 c.requires.keeps.1)

pub loop-self-preserved : goal.loop-self-preserved
loop-self-preserved c =
    let old = c.loop-self.self.steps.items in
    let new = c.take_back.new.self.steps.items in
    let first = c.args.self.now.steps.items in
    let is = c.take_back.ensures.steps in
    let count : length new ≡ length old - 1 = omega (arith, ap length is, length-take (length old - 1) old) in
    record {
      within = omega (arith, count);
      len = c.take_back.ensures.len ∙ c.loop-self.invariant.len;
      steps =
          is ∙ ap (λ (steps : List Step). take (length old - 1) steps) c.loop-self.invariant.steps ∙ take-take (length old - 1) (length old) first (omega arith)
          ∙ ap (λ (n : ℕ). take n first) (sym count);
      keeps = λ known k. c.take_back.ensures.keeps known (c.loop-self.invariant.keeps known k);
    }
