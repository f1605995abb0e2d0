-- What the search leaves of the proof of `place_row`.
use Rattle.std.proofs.Common.{◌∙◌, sym, rules, []}
use Rattle.core_tables.proofs.Steps.{place_set, place_past}
use Rattle.core_tables.proofs.rows.place_row.Goals as goal

pub returns-in-Some : goal.returns-in-Some
returns-in-Some c = λ start behind number count before.
    place_set start c.args.x behind number [] c.args.function c.args.kind count c.args.rows.now c.set.new.self c.in-Some.row (sym c.is_of.ensures ∙ c.if-is_of.true) (search rules) c.set.ensures before

pub returns-in_default : goal.returns-in_default
returns-in_default c = λ start behind number count before.
    place_past start c.args.x behind number [] c.args.function c.args.kind count c.args.rows.now (search rules) before
