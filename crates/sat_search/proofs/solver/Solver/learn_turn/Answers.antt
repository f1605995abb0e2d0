use Rattle.std.proofs.Common.{◌∙◌, ℕ, Some, None, arith, sym, subst}
use Rattle.std.proofs.lemmas.Option.{same_Some, none-some}
use Rattle.sat_check.specs.Logs.{known_before}
use Rattle.sat_search.specs.declared.solver.Learning.{Learning}
use Rattle.search_base.specs.Trails.{falses_of}
use Rattle.search_base.specs.Propagation.{IsConflict}
use Rattle.sat_search.specs.Turns.{LearnedIs, IsLearned}
use Rattle.sat_search.proofs.Measures.{Goes, IsNearer-flags}
use Rattle.sat_search.proofs.solver.Solver.learn_turn.Goals as goal

pub returns-in-Cleared-clause-turn : goal.returns-in-Cleared-clause-turn
returns-in-Cleared-clause-turn c =
    let clauses = c.args.clauses.now in
    let old = c.args.self.now in
    let new = c.learn.new.self in
    let it = subst (λ (l : Learning). LearnedIs clauses old new l) c.in-Cleared.is c.in_ok-learn.ensures in
    Goes clauses c.args.conflicts old new None it.0 (omega (arith, c.if-len-conflicts.false, c.len.ensures)) (record { found = λ index e. absurd (none-some index e); guarded = λ _. it.1 })

pub returns-in-Conflict-clause-turn : goal.returns-in-Conflict-clause-turn
returns-in-Conflict-clause-turn c =
    let clauses = c.args.clauses.now in
    let old = c.args.self.now in
    let new = c.learn.new.self in
    let number = c.in-Conflict.index in
    let it = subst (λ (l : Learning). LearnedIs clauses old new l) c.in-Conflict.is c.in_ok-learn.ensures in
    Goes clauses c.args.conflicts old new (Some number) it.0 (omega (arith, c.if-len-conflicts.false, c.len.ensures))
    (record {
      found = λ index e. subst (λ (n : ℕ). IsConflict (known_before clauses new.entries) (falses_of new.placed.trail.steps.items) n) (same_Some number index e) it.1;
      guarded = λ e. absurd (none-some number (sym e));
    })

pub returns-in_ok-next-in-Asserted-clause-turn : goal.returns-in_ok-next-in-Asserted-clause-turn
returns-in_ok-next-in-Asserted-clause-turn c =
    let clauses = c.args.clauses.now in
    let old = c.args.self.now in
    let mid = c.learn.new.self in
    let new = c.propagate.new.self in
    let it = subst (λ (l : Learning). LearnedIs clauses old mid l) c.in-Asserted.is c.in_ok-learn.ensures in
    let made = c.in_ok-next-in-Asserted.ensures in
    let learned : IsLearned clauses old new = record { holds = made.state; len = made.len ∙ it.0.len; nearer = IsNearer-flags old mid new made.entries made.flags it.0.nearer } in
    Goes clauses c.args.conflicts old new c.in_ok-next-in-Asserted.next learned (omega (arith, c.if-len-conflicts.false, c.len.ensures)) made.answers
