use Rattle.std.proofs.Common.{◌≡◌, ◌∙◌, List, Some, sym, subst}
use Rattle.std.specs.List.{slice_get}
use Rattle.search_base.specs.declared.trail.Step.{Step}
use Rattle.search_base.specs.Lists.{take_slice_get}
use Rattle.search_state.proofs.placed.PlacedTrail.cut.Goals as goal

pub returns-clause-trail : goal.returns-clause-trail
returns-clause-trail c known trail =
    let old = c.args.self.now in
    record {
      keeps = c.cut.ensures.keeps known trail.keeps;
      located = λ place step at.
          let there = subst (λ (s : List Step). slice_get s place ≡ Some step) c.cut.ensures.steps at in
          trail.located place step (take_slice_get c.args.count old.trail.steps.items place step there).1;
      places_len = trail.places_len ∙ sym c.cut.ensures.len;
    }
