use Rattle.std.proofs.Common.{true}
use Rattle.search_base.specs.Steps.{Keeps-fresh}
use Rattle.search_base.proofs.trail.Trail.new.Goals as goal

pub returns-clause-keeps : goal.returns-clause-keeps
returns-clause-keeps c known =
    Keeps-fresh known c.in_ok-slots.slots.items c.new.result.items c.args.variables true (c.in_ok-slots.ensures.items_if_clones_equal (λ y e. e)) c.new.ensures.items
