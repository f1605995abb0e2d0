use Rattle.std.proofs.Common.{List, length, sym, subst}
use Rattle.sat_check.specs.declared.log.Entry.{Entry}
use Rattle.sat_check.specs.Logs.{known_before, IsRefutation, EntriesAreBelow}
use Rattle.search_base.specs.Replacing.{Learns}
use Rattle.plain_search.proofs.Jumps.{refuted_push}
use Rattle.plain_search.proofs.solver.Solver.learn.Goals as goal

pub returns-then-is_empty-clause-refuted : goal.returns-then-is_empty-clause-refuted
returns-then-is_empty-clause-refuted c _ =
    let own = c.args.self.now in
    let clauses = c.args.clauses.now in
    let slots = own.trail.slots.items in
    let steps = own.trail.steps.items in
    let entry = c.in_ok-entry.field-0.entry in
    let keep = c.in_ok-entry.field-0.keep in
    let start = c.start_of-start.result in
    let learns = subst (λ (es : List Entry). Learns (known_before clauses es) steps start entry.clause.lits entry.hints keep) c.as_slice-3.ensures c.in_ok-entry.ensures in
    subst (λ (es : List Entry). IsRefutation clauses es × EntriesAreBelow (length slots) es) (sym c.in_ok-push.ensures.ok)
    (refuted_push clauses own.entries slots steps start entry keep c.requires.state.keeps learns (c.is_empty.ensures.0 c.if-is_empty.true) c.requires.state.entries_are)
