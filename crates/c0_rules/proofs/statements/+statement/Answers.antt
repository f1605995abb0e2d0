-- What the search leaves of the proofs of the calls around `statement`.
use Rattle.std.specs.Option.{option_map}
use Rattle.parsed_tree.specs.Views.{stmt_view, simple_view}
use Rattle.c0_rules.proofs.Kept.{apart_scope, turns_scope}
use Rattle.c0_rules.proofs.statements.+statement.Goals as goal

pub apart-returns-clause-scope : goal.apart-returns-clause-scope
apart-returns-clause-scope t c = apart_scope c.args.tables.now c.args.scope.now _ _ (stmt_view c.args.part.now) _ c.in_ok-before.ensures c.in_ok-enclosed.ensures.scope c.turn.ensures.scope

pub turns-returns-clause-scope : goal.turns-returns-clause-scope
turns-returns-clause-scope t c = turns_scope c.args.tables.now c.args.scope.now _ _ _ (stmt_view c.args.body.now) (option_map simple_view c.args.last.now) _ c.in_ok-entered.ensures c.in_ok-enclosed.ensures.scope c.in_ok-last_part.ensures.scope c.turn.ensures.scope
