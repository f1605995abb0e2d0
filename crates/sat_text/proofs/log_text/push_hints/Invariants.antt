use Rattle.std.proofs.Common.{◌≡◌, ◌++◌, take}
use Rattle.std.specs.List.{flat_map}
use Rattle.sat_text.specs.LogTexts.{hint_piece}
use Rattle.sat_text.proofs.log_text.push_hints.Given as goal

abbrev pub invariant-loop-hint : goal.invariant-loop-hint
invariant-loop-hint l = l.text.items ≡ l.fn.text.items ++ flat_map hint_piece (take l.hint-index l.hints)
