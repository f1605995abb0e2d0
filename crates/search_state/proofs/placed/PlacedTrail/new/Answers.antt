use Rattle.std.proofs.Common.{◌≡◌, List, Some, arith, subst}
use Rattle.std.specs.List.{slice_get}
use Rattle.std.proofs.lemmas.Option.{none-some}
use Rattle.search_base.specs.declared.trail.Step.{Step}
use Rattle.search_state.proofs.placed.PlacedTrail.new.Goals as goal

pub returns-clause-trail : goal.returns-clause-trail
returns-clause-trail c known =
    record {
      keeps = c.in_ok-trail.ensures.keeps known;
      located = λ place step at. absurd (none-some step (subst (λ (s : List Step). slice_get s place ≡ Some step) c.in_ok-trail.ensures.steps at));
      places_len = omega (arith, c.in_ok-places.ensures.len, c.in_ok-trail.ensures.len, c.in_ok-places.places.ok.0);
    }
