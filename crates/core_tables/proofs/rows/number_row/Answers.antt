-- What the search leaves of the proof of `number_row`.
use Rattle.std.proofs.Common.{◌∙◌, sym, ap, set, rules, arith}
use Rattle.core_tables.proofs.Steps.{not_nil_later, other_later, number_past, number_set}
use Rattle.core_tables.proofs.rows.number_row.Goals.{else-choice-eq0-via-then-choice-eq0+else-is_of, else-choice-eq0-via-else-choice-eq0}
use Rattle.core_tables.proofs.rows.number_row.Goals as goal

pub returns-in-Some : goal.returns-in-Some
returns-in-Some c = λ start placed behind count before.
    let site = c.in-Choice.site in
    number_set start placed c.args.number c.args.d behind c.args.function c.args.kind count c.args.rows.now site c.in-Choice.phase c.in-Choice.choice c.in-Choice.is c.set.new.self c.in-Some.row (omega arith) (sym c.is_of.ensures ∙ c.if-is_of.true) (search rules)
    (c.set.ensures ∙ ap (set c.args.rows.now site.ordinal) c.numbered.ensures) before

pub returns-in_default : goal.returns-in_default
returns-in_default c = λ start placed behind count before.
    number_past start placed c.args.number c.args.d behind c.args.function c.args.kind count c.args.rows.now c.in-Choice.site c.in-Choice.phase c.in-Choice.choice c.in-Choice.is (search rules) before

pub returns-else-choice-eq0 : goal.returns-else-choice-eq0
returns-else-choice-eq0 c = λ start placed behind count before.
    elim c.else-choice-eq0.branch [
      | else-choice-eq0-via-then-choice-eq0+else-is_of w ↦ other_later start placed c.args.number c.args.d behind c.args.function c.args.kind count c.args.rows.now c.in-Choice.site c.in-Choice.phase c.in-Choice.choice c.in-Choice.is (sym w.is_of.ensures ∙ w.if-is_of.false) before
      | else-choice-eq0-via-else-choice-eq0 w ↦ not_nil_later start placed c.args.number c.args.d behind c.args.function c.args.kind count c.args.rows.now c.in-Choice.site c.in-Choice.phase c.in-Choice.choice c.in-Choice.is (λ nil. omega (arith, w.if-choice-eq0.false)) before
    ]
