-- What holds at each turn of `stars_behind`, and what gets less.
use Rattle.std.proofs.Common.{◌≡◌, ◌≤◌, length}
use Rattle.gc0_base.specs.declared.place.Place.{Place}
use Rattle.parsed_tree.specs.declared.expressions.Base.{Base}
use Rattle.parsed_tree.specs.declared.expressions.TypeName.{TypeName}
use Rattle.c0_grammar.specs.Plan.{Plan, stars}
use Rattle.c0_cursor.specs.Seen.{reading}
use Rattle.c0_cursor.proofs.Stars.{starred}
use Rattle.c0_cursor.proofs.types.stars_behind.Given as goal

abbrev pub invariant-loop-rest : goal.invariant-loop-rest
invariant-loop-rest l = record {
  reads : (at : Place) → (base : Base) → (next : TypeName → Plan) → reading (stars at base next) l.tokens ≡ reading (starred at base l.stars next) l.rest;
  shorter : length l.rest ≤ length l.tokens;
}

abbrev pub decreases-loop-rest : goal.decreases-loop-rest
decreases-loop-rest l = length l.rest
