use Rattle.std.proofs.Common.{◌≡◌, ◌∙◌, List, length, map, take, arith, sym, ap, subst}
use Rattle.sat_check.specs.declared.log.Entry.{Entry}
use Rattle.sat_check.specs.Logs.{known_before}
use Rattle.search_base.specs.declared.trail.Step.{Step}
use Rattle.search_base.specs.Trails.{falses_of, AllStuck}
use Rattle.search_state.specs.Watches.{AllGuarded}
use Rattle.search_base.specs.Lists.{take_whole}
use Rattle.search_base.specs.Settling.{steps_within}
use Rattle.sat_search.proofs.Measures.{decided_less}
use Rattle.search_state.specs.Guarding.{AllStuck-guarded}
use Rattle.sat_search.proofs.solver.Solver.decide_turn.Goals as goal

pub returns-then-not-branch-clause-turn : goal.returns-then-not-branch-clause-turn
returns-then-not-branch-clause-turn c =
    let (assigned, placed, watches) = c.in_ok-decide.ensures.whole c.if-not-branch.true in
    let new = c.decide.new.self in
    let known = known_before c.args.clauses.now new.entries in
    let steps = new.placed.trail.steps.items in
    let state = c.in_ok-decide.ensures.state.state in
    let whole : take (length steps) steps ≡ steps = take_whole (length steps) steps (omega arith) in
    let guarded : AllGuarded known new.watches.pairs.items (falses_of steps) (falses_of steps) = rw (placed, watches, c.in_ok-decide.ensures.entries) c.requires.guarded in
    let clauses = c.args.clauses.now in
    let stuck : AllStuck clauses (falses_of (take (length steps) steps)) =
    AllStuck-guarded (length new.placed.trail.slots.items) clauses (map (λ (e : Entry). e.clause) new.entries) new.watches new.placed.trail.slots.items steps (length steps) state.trail.keeps state.watched state.firm
    (subst (λ (s : List Step). AllGuarded known new.watches.pairs.items (falses_of s) (falses_of s)) (sym whole) guarded) in
    record { assigned = assigned; keeps = state.trail.keeps; stuck = subst (λ (s : List Step). AllStuck clauses (falses_of s)) whole stuck }

pub returns-clause-turn : goal.returns-clause-turn
returns-clause-turn c =
    let clauses = c.args.clauses.now in
    let old = c.args.self.now in
    let new = c.propagate.new.self in
    let decided = c.in_ok-decide.ensures in
    let made = c.in_ok-next.ensures in
    let one_more = (decided.decided c.if-not-branch.false).1 in
    let state = made.state.state in
    record {
      state = made.state;
      answers = made.answers;
      within = omega (arith, c.requires.within, ap (λ (es : List Entry). length es) made.entries, ap (λ (es : List Entry). length es) decided.entries);
      less = decided_less clauses c.args.conflicts old new (made.len ∙ decided.len) (made.entries ∙ decided.entries) (made.flags ∙ decided.flags) (omega (arith, one_more, made.longer))
          (steps_within (known_before clauses new.entries) new.placed.trail.slots.items new.placed.trail.steps.items state.trail.keeps);
    }
