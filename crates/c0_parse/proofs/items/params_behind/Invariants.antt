-- What holds at each turn of `params_behind`, and what gets less.
use Rattle.std.proofs.Common.{List, length, ◌≡◌, ◌≤◌}
use Rattle.parsed_tree.specs.declared.items.Param.{Param}
use Rattle.c0_grammar.specs.Plan.{Plan, many, param_loop}
use Rattle.c0_cursor.specs.Seen.{reading}
use Rattle.c0_parse.specs.Read.{params_then}
use Rattle.c0_parse.proofs.items.params_behind.Given as goal

abbrev pub invariant-params : goal.invariant-params
invariant-params l = record {
  reads : (next : List Param → Plan) → reading (many (param_loop l.names) (params_then l.fn.so_far next)) l.tokens ≡ reading (many (param_loop l.names) (params_then l.found next)) l.rest;
  shorter : length l.rest ≤ length l.tokens;
}

abbrev pub decreases-params : goal.decreases-params
decreases-params l = length l.rest
