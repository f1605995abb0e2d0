-- What holds at each turn of `contracts_of`, and what gets less.
use Rattle.std.proofs.Common.{List, length, map, ℕ, ◌≡◌, ◌≤◌}
use Rattle.parsed_tree.specs.Tree.{ContractTree}
use Rattle.parsed_tree.specs.Views.{contract_view}
use Rattle.c0_grammar.specs.Plan.{Plan, contract_loop, many}
use Rattle.c0_cursor.specs.Seen.{reading}
use Rattle.c0_expressions.specs.Read.{onto}
use Rattle.c0_parse.proofs.items.contracts_of.Given as goal
use Rattle.gc0_base.specs.declared.limits.TheConstants.Limits as limits

abbrev pub invariant-contracts : goal.invariant-contracts
invariant-contracts l = record {
  reads : (next : List ContractTree → ℕ → Plan) → reading (many (contract_loop l.names) next) l.tokens ≡ reading (many (contract_loop l.names) (onto (map contract_view l.found) l.deepest next)) l.rest;
  room : l.deepest ≤ limits.NESTING;
  shorter : length l.rest ≤ length l.tokens;
}

abbrev pub decreases-contracts : goal.decreases-contracts
decreases-contracts l = length l.rest
