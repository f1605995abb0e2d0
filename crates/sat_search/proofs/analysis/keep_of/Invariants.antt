use Rattle.std.proofs.Common.{take}
use Rattle.sat_search.specs.Learning.{KeepIs}
use Rattle.sat_search.proofs.analysis.keep_of.Given as goal

abbrev pub invariant-loop-lit : goal.invariant-loop-lit
invariant-loop-lit l = KeepIs l.placed.trail.steps.items (take l.lit-index l.lits) l.start l.keep
