-- `head_behind`: what is left to show of its clauses.
use Rattle.std.proofs.Common.{ap, sym, ◌∙◌}
use Rattle.parsed_tree.specs.declared.items.Head.{Head}
use Rattle.c0_cursor.specs.Seen.{reading}
use Rattle.c0_cursor.specs.Laws.{fails_as}
use Rattle.c0_parse.proofs.items.head_behind.Goals as goal

pub returns-in-Err-clause-reads : goal.returns-in-Err-clause-reads
returns-in-Err-clause-reads c = λ next. c.in-Err.ensures.reads c.args.returned next

pub returns-in-Err-tail_of-clause-reads : goal.returns-in-Err-tail_of-clause-reads
returns-in-Err-tail_of-clause-reads c = λ next.
    let h : Head = record { result = c.args.returned; name = c.in-Ok.value.0; params = c.in-Ok.value.1 } in
    fails_as _ _ _ (c.in-Ok.ensures.reads c.args.returned next)
    (c.in-Err-tail_of.ensures.reads h next)

pub returns-clause-reads : goal.returns-clause-reads
returns-clause-reads c = λ next.
    let h : Head = record { result = c.args.returned; name = c.in-Ok.value.0; params = c.in-Ok.value.1 } in
    let x = c.in-Ok-tail_of.value in
    c.in-Ok.ensures.reads c.args.returned next
    ∙ c.in-Ok-tail_of.ensures.reads h next
    ∙ ap (λ i. reading (next i x.1) x.2.now) (sym c.item_made.ensures)
