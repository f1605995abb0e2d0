use Rattle.std.proofs.Common.{◌≡◌, ◌+◌, length}
use Rattle.word_terms.specs.Tables.{term}
use Rattle.solver_bench.specs.Families.{chain, IsKnown}
use Rattle.solver_bench.proofs.query.chain.Given as goal

abbrev pub invariant-loop-place : goal.invariant-loop-place
invariant-loop-place l = record {
  known : IsKnown l.terms.nodes l.sort l.whole.0;
  made : term l.terms.nodes l.whole.0 ≡ chain l.links l.sort l.place;
  symbols : length l.terms.sorts ≡ l.place + 1;
}
