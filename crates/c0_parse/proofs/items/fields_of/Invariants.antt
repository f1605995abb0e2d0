-- What holds at each turn of `fields_of`, and what gets less.
use Rattle.std.proofs.Common.{List, [], length, ◌≡◌, ◌≤◌}
use Rattle.parsed_tree.specs.declared.items.Field.{Field}
use Rattle.c0_grammar.specs.Plan.{Plan, field_loop, many}
use Rattle.c0_cursor.specs.Seen.{reading}
use Rattle.c0_parse.specs.Read.{fields_then}
use Rattle.c0_parse.proofs.items.fields_of.Given as goal

abbrev pub invariant-fields : goal.invariant-fields
invariant-fields l = record {
  reads : (next : List Field → Plan) → reading (many (field_loop l.names) (fields_then [] next)) l.tokens ≡ reading (many (field_loop l.names) (fields_then l.found next)) l.rest;
  shorter : length l.rest ≤ length l.tokens;
}

abbrev pub decreases-fields : goal.decreases-fields
decreases-fields l = length l.rest
