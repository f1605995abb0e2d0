use Rattle.std.proofs.Common.{List, subst}
use Rattle.search_base.specs.declared.trail.Step.{Step}
use Rattle.search_base.specs.Trails.{Keeps}
use Rattle.search_base.specs.Steps.{Keeps-pop}
use Rattle.search_base.proofs.trail.Trail.take_back.Goals as goal

pub returns-clause-keeps : goal.returns-clause-keeps
returns-clause-keeps c known keeps =
    let slots = c.args.self.now.slots.items in
    Keeps-pop known slots c.pop.new.self.items c.in-Some.step c.index_mut.result.now.positive
    (subst (λ (steps : List Step). Keeps known slots steps) c.in-Some.ensures.items keeps)
