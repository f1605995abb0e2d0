-- What holds at each turn of `predicates_behind`, and what gets less.
use Rattle.std.proofs.Common.{List, length, map, ℕ, ◌≡◌, ◌≤◌}
use Rattle.gc0_base.specs.declared.place.Place.{Place}
use Rattle.parsed_tree.specs.Tree.{ItemTree, PredicateTree, predicates_item}
use Rattle.parsed_tree.specs.Views.{predicate_view}
use Rattle.c0_grammar.specs.Plan.{Plan, many, predicate_loop, predicates_plan}
use Rattle.c0_cursor.specs.Seen.{reading}
use Rattle.c0_expressions.specs.Read.{onto}
use Rattle.c0_expressions.specs.Laws.{closing}
use Rattle.c0_parse.proofs.items.predicates_behind.Given as goal
use Rattle.gc0_base.specs.declared.limits.TheConstants.Limits as limits

abbrev pub framed : (ItemTree → ℕ → Plan) → Place → List PredicateTree → ℕ → Plan
framed next at ps d = next (predicates_item at ps) d

abbrev pub invariant-predicates : goal.invariant-predicates
invariant-predicates l = record {
  reads : (next : ItemTree → ℕ → Plan) → reading (predicates_plan l.names next l.place) l.tokens ≡ reading (many (predicate_loop l.names) (onto (map predicate_view l.predicates) l.deepest (closing (framed next l.place)))) l.rest;
  room : l.deepest ≤ limits.NESTING;
  shorter : length l.rest ≤ length l.tokens;
}

abbrev pub decreases-predicates : goal.decreases-predicates
decreases-predicates l = length l.rest
