use Rattle.std.proofs.Common.{refl}
use Rattle.sat_search.specs.declared.solver.Solver.{Solver}
use Rattle.sat_search.proofs.Reducing.{Reduced-same, Reduced-both}
use Rattle.sat_search.proofs.solver.Solver.reduce.Goals as goal

pub loop-number-init : goal.loop-number-init
loop-number-init c =
    let old = c.args.self.now in
    let new : Solver =
    record {
      placed = old.placed;
      levels = old.levels;
      watches = old.watches;
      entries = old.entries;
      shelf = old.shelf;
      analysis = old.analysis;
      order = old.order;
      restarts = old.restarts;
      stock = c.choose.new.self;
    } in
    Reduced-same c.args.clauses.now old new refl refl refl refl refl refl c.requires

pub set_aside-requires : goal.set_aside-requires
set_aside-requires c = c.loop-number.invariant.holds

pub loop-number-preserved : goal.loop-number-preserved
loop-number-preserved c = Reduced-both c.args.clauses.now c.args.self.now c.loop-number.self c.set_aside.new.self c.loop-number.invariant c.in_ok-set_aside.ensures

pub returns : goal.returns
returns c = c.loop-number.invariant
