-- What holds at each turn of `items_of`, and what gets less.
use Rattle.std.proofs.Common.{List, [], length, map, ℕ, ◌≡◌, ◌≤◌}
use Rattle.parsed_tree.specs.Tree.{ItemTree}
use Rattle.parsed_tree.specs.Views.{item_view}
use Rattle.c0_grammar.specs.Plan.{Plan, items}
use Rattle.c0_cursor.specs.Seen.{reading}
use Rattle.c0_expressions.specs.Read.{onto}
use Rattle.c0_parse.proofs.items.items_of.Given as goal
use Rattle.gc0_base.specs.declared.limits.TheConstants.Limits as limits

abbrev pub invariant-items : goal.invariant-items
invariant-items l = record {
  reads : (next : List ItemTree → ℕ → Plan) → reading (items [] next) l.tokens ≡ reading (items l.names (onto (map item_view l.found) l.deepest next)) l.rest;
  room : l.deepest ≤ limits.NESTING;
}

abbrev pub decreases-items : goal.decreases-items
decreases-items l = length l.rest
