-- What holds at each turn of `contract_behind`, and what gets less.
use Rattle.std.proofs.Common.{List, length, map, ℕ, ◌≡◌, ◌≤◌}
use Rattle.gc0_base.specs.declared.place.Place.{Place}
use Rattle.parsed_tree.specs.Tree.{ClauseTree, ContractTree}
use Rattle.parsed_tree.specs.Views.{clause_view}
use Rattle.c0_grammar.specs.Plan.{Plan, clause_loop, contract_plan, many}
use Rattle.c0_cursor.specs.Seen.{reading}
use Rattle.c0_expressions.specs.Read.{onto}
use Rattle.c0_expressions.specs.Laws.{closing}
use Rattle.c0_parse.proofs.items.contract_behind.Given as goal
use Rattle.gc0_base.specs.declared.limits.TheConstants.Limits as limits

abbrev pub framed : (ContractTree → ℕ → Plan) → Place → List ClauseTree → ℕ → Plan
framed next at cs d = next (record { place = at; clauses = cs }) d

abbrev pub invariant-clauses : goal.invariant-clauses
invariant-clauses l = record {
  reads : (next : ContractTree → ℕ → Plan) → reading (contract_plan l.names next l.place) l.tokens ≡ reading (many (clause_loop l.names) (onto (map clause_view l.clauses) l.deepest (closing (framed next l.place)))) l.rest;
  room : l.deepest ≤ limits.NESTING;
  shorter : length l.rest ≤ length l.tokens;
}

abbrev pub decreases-clauses : goal.decreases-clauses
decreases-clauses l = length l.rest
