use Rattle.std.proofs.Common.{◌≡◌, take, length}
use Rattle.plain_search.specs.Occurrences.{Adds}
use Rattle.plain_search.proofs.occurrences.Occurrences.add.Given as goal

abbrev pub invariant-loop-lit : goal.invariant-loop-lit
invariant-loop-lit l = record {
  positive_len : length l.self.positive.items ≡ length l.initial.self.positive.items;
  negative_len : length l.self.negative.items ≡ length l.initial.self.negative.items;
  adds : Adds l.initial.self.positive.items l.initial.self.negative.items l.self.positive.items l.self.negative.items l.index (take l.lit-index l.lits);
}
