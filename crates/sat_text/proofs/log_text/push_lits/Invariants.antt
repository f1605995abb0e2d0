use Rattle.std.proofs.Common.{◌≡◌, ◌++◌, take}
use Rattle.std.specs.List.{flat_map}
use Rattle.sat_text.specs.LogTexts.{lit_piece}
use Rattle.sat_text.proofs.log_text.push_lits.Given as goal

abbrev pub invariant-loop-lit : goal.invariant-loop-lit
invariant-loop-lit l = l.text.items ≡ l.fn.text.items ++ flat_map lit_piece (take l.lit-index l.lits)
