-- What the reader answers for tokens that have a tree.
use Rattle.std.specs.Prelude.{◌≡◌, Result, Ok, Err}
use Rattle.built_text.specs.declared.tree.Program.{Program}
use Rattle.built_text.specs.declared.tree.ReadFault.{ReadFault}
use Rattle.built_text.specs.declared.tree.ReadFault.TheVariants.{NotBuilt, Memory}
use Rattle.built_text.specs.Tree.{ProgramTree}
use Rattle.built_text.specs.Views.{program_view}

abbrev pub IsMemory : ReadFault → Type 0
IsMemory (NotBuilt place) = ⊥
IsMemory Memory = Unit {0}

-- exactly this tree, or want of memory
abbrev pub GivesOrMemory : ProgramTree → Result Program ReadFault → Type 0
GivesOrMemory p (Ok q) = program_view q ≡ p
GivesOrMemory p (Err e) = IsMemory e
