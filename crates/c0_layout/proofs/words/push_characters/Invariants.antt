-- What holds at the loop of `push_characters`.
use Rattle.std.proofs.Common.{◌≡◌, ◌++◌, drop}
use Rattle.c0_layout.specs.Lists.{all_text}
use Rattle.c0_layout.specs.Literals.{character_text}
use Rattle.c0_layout.proofs.words.push_characters.Given as goal

abbrev pub invariant-loop-byte : goal.invariant-loop-byte
invariant-loop-byte l = l.text.items ++ all_text character_text (drop l.byte-index l.bytes) ≡ l.initial.text.items ++ all_text character_text l.bytes
