-- What is left begins behind what is there.
use Rattle.std.proofs.Common.{◌≡◌, ◌+◌, ◌++◌, drop}
use Rattle.std.specs.Prelude.{sum}
use Rattle.temp_counts.specs.Used.{starts_from}
use Rattle.temp_counts.proofs.numbering.starts_of.Given as goal

abbrev pub invariant-loop-count : goal.invariant-loop-count
invariant-loop-count l = record {
  starts : l.starts ++ starts_from l.at (drop l.count-index l.counts) ≡ starts_from l.first l.counts;
  behind : l.at + sum (drop l.count-index l.counts) ≡ l.first + sum l.counts;
}
