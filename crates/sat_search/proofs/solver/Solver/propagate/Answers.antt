use Rattle.std.proofs.Common.{ℕ, List, sym, subst}
use Rattle.sat_check.specs.declared.log.Entry.{Entry}
use Rattle.sat_check.specs.Logs.{known_before}
use Rattle.search_state.specs.Looks.{Propagates}
use Rattle.sat_search.specs.Marks.{IsReady}
use Rattle.search_state.specs.Shelves.{IsShelf}
use Rattle.sat_search.proofs.Keeping.{State-advance, AreCarded-flags}
use Rattle.sat_search.proofs.solver.Solver.propagate.Goals as goal

pub returns-clause-state : goal.returns-clause-state
returns-clause-state c =
    let own = c.args.self.now in
    let placed = c.propagate.new.placed in
    let it =
    subst (λ (es : List Entry). Propagates (known_before c.args.clauses.now es) own.placed placed own.watches c.propagate.new.self c.in_ok-conflict.conflict) c.as_slice.ensures c.in_ok-conflict.ensures in
    record {
      state = State-advance c.args.clauses.now own.placed placed own.levels.items own.watches c.propagate.new.self own.entries c.requires.state.state it.advances;
      ready = subst (λ (n : ℕ). IsReady n own.analysis) (sym it.advances.len) c.requires.state.ready;
      shelf = subst (λ (n : ℕ). IsShelf n own.shelf) (sym it.advances.len) c.requires.state.shelf;
      carded = AreCarded-flags (known_before c.args.clauses.now own.entries) own.watches.pairs.items c.propagate.new.self.pairs.items own.shelf it.advances.flags c.requires.state.carded;
    }
