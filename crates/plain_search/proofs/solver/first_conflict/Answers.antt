use Rattle.std.proofs.Common.{◌≡◌, ◌∙◌, false, Option, None, Some, refl, sym}
use Rattle.std.specs.Option.{is_some}
use Rattle.search_base.specs.Settling.{Extends-both}
use Rattle.plain_search.proofs.solver.first_conflict.Goals as goal

none_of : {X : Type 0} (o : Option X) → is_some o ≡ false → o ≡ None
none_of None e = refl
none_of (Some x) e = absurd (cc)

pub propagate-requires-clause-settled : goal.propagate-requires-clause-settled
propagate-requires-clause-settled c = c.in_ok-begun.ensures.begins.settled (none_of c.in_ok-begun.begun (sym c.is_some.ensures ∙ c.if-is_some.false))

pub returns-clause-propagates : goal.returns-clause-propagates
returns-clause-propagates c =
    let begins = c.in_ok-begun.ensures.begins in
    let it = c.in_ok-conflict.ensures.propagates in
    record {
      keeps = it.keeps;
      extends = Extends-both c.args.trail.now.steps.items c.visit_clauses.new.trail.steps.items c.propagate.new.trail.steps.items begins.extends it.extends;
      found = it.found;
      stuck = it.stuck;
    }
