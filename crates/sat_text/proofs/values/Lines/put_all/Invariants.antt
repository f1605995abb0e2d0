use Rattle.std.proofs.Common.{◌≡◌, ◌≤◌, ◌++◌, drop}
use Rattle.sat_text.specs.Values.{filled, value_words}
use Rattle.sat_text.proofs.values.Lines.put_all.Given as goal

abbrev pub invariant-loop-index : goal.invariant-loop-index
invariant-loop-index l = record {
  column : l.self.column ≤ 78;
  text : l.self.text.items ++ filled l.self.column (value_words l.index (drop l.index l.values)) ≡ l.fn.self.text.items ++ filled l.fn.self.column (value_words 0 l.values);
}
