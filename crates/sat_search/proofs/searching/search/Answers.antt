use Rattle.std.proofs.Common.{◌≡◌, ◌∙◌, ℕ, Bool, List, length, arith, sym, ap, subst}
use Rattle.sat_check.specs.declared.log.Entry.{Entry}
use Rattle.sat_check.specs.Logs.{EntriesAreBelow}
use Rattle.search_base.specs.declared.trail.Slot.{Slot}
use Rattle.sat_search.specs.declared.running.Ending.{Ending}
use Rattle.search_base.specs.Trails.{values_of}
use Rattle.sat_search.specs.Turns.{EndingIs, IsWhole, IsAtEnd}
use Rattle.search_base.specs.Searches.{IsSolution, IsSpent}
use Rattle.sat_search.proofs.searching.search.Goals as goal

pub returns-in_ok-values-in-Satisfied-clause-assignment : goal.returns-in_ok-values-in-Satisfied-clause-assignment
returns-in_ok-values-in-Satisfied-clause-assignment c =
    let clauses = c.args.clauses.now in
    let end = c.run.new.self in
    let whole : IsWhole clauses end = subst (λ (e : Ending). EndingIs clauses c.args.conflicts end e) c.in-Satisfied.is c.in_ok-run.ensures.ending in
    let len : length end.placed.trail.slots.items ≡ c.args.variables = c.in_ok-run.ensures.len ∙ c.in_ok-solver.ensures.len in
    let values : c.in_ok-values-in-Satisfied.values ≡ values_of end.placed.trail.slots.items =
    c.in_ok-values-in-Satisfied.ensures ∙ ap (λ (s : List Slot). values_of s) c.as_slice.ensures.value in
    subst (λ (vs : List Bool). IsSolution c.args.variables clauses vs) (sym values)
    (c.stuck_is_solved.ensures c.args.variables clauses end.entries end.placed.trail.slots.items end.placed.trail.steps.items len c.requires whole.keeps whole.assigned whole.stuck)

pub returns-in-Spent-clause-spent : goal.returns-in-Spent-clause-spent
returns-in-Spent-clause-spent c =
    let clauses = c.args.clauses.now in
    let end = c.run.new.self in
    let at_end : IsAtEnd clauses c.args.conflicts end = subst (λ (e : Ending). EndingIs clauses c.args.conflicts end e) c.in-Spent.is c.in_ok-run.ensures.ending in
    let len : length end.placed.trail.slots.items ≡ c.args.variables = c.in_ok-run.ensures.len ∙ c.in_ok-solver.ensures.len in
    let spent : IsSpent c.args.variables clauses c.args.conflicts end.entries =
    record {
      all = at_end.all;
      follow = at_end.entries_are.follow;
      new = at_end.entries_are.new;
      below = subst (λ (n : ℕ). EntriesAreBelow n end.entries) len at_end.entries_are.below;
    } in
    subst (λ (es : List Entry). IsSpent c.args.variables clauses c.args.conflicts es) (sym c.log_of-in-Spent.ensures) spent

pub returns-in-Spent-clause-never_spent : goal.returns-in-Spent-clause-never_spent
returns-in-Spent-clause-never_spent c =
    let clauses = c.args.clauses.now in
    let end = c.run.new.self in
    let at_end : IsAtEnd clauses c.args.conflicts end = subst (λ (e : Ending). EndingIs clauses c.args.conflicts end e) c.in-Spent.is c.in_ok-run.ensures.ending in
    let len : length end.placed.trail.slots.items ≡ c.args.variables = c.in_ok-run.ensures.len ∙ c.in_ok-solver.ensures.len in
    let few = c.new_entries_are_few.ensures c.args.variables clauses end.entries (subst (λ (n : ℕ). EntriesAreBelow n end.entries) len at_end.entries_are.below) at_end.entries_are.new in
    omega (arith, few, at_end.all)
