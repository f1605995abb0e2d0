use Rattle.std.proofs.Common.{◌≡◌, ◌+◌, length, map, All}
use Rattle.word_terms.specs.declared.node.Sort.TheVariants.{Word32, Truth}
use Rattle.word_terms.specs.Terms.{symbol}
use Rattle.word_terms.specs.Tables.{term}
use Rattle.solver_bench.specs.Families.{pairs, IsKnown}
use Rattle.solver_bench.proofs.query.pairs.Given as goal

abbrev pub invariant-loop : goal.invariant-loop
invariant-loop l = record {
  known : IsKnown l.terms.nodes Word32 l.left.0;
  last : term l.terms.nodes l.left.0 ≡ symbol l.counter Word32;
  symbols : length l.terms.sorts ≡ l.counter + 1;
  truths : All (λ r. IsKnown l.terms.nodes Truth r.0) l.roots.items;
  made : map (λ r. term l.terms.nodes r.0) l.roots.items ≡ pairs l.pair l.counter;
}
