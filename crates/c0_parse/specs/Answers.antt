-- What the parser answers.
use Rattle.std.specs.Prelude.{◌≡◌, [], Option, Some, None, Result, Ok, Err}
use Rattle.parsed_tree.specs.declared.items.Parsed.{Parsed}
use Rattle.parsed_tree.specs.Tree.{ProgramTree}
use Rattle.parsed_tree.specs.Views.{program_view}
use Rattle.parse_faults.specs.declared.fault.ParseFault.{ParseFault}
use Rattle.parse_faults.specs.declared.fault.ParseFault.TheVariants as fault
use Rattle.c0_cursor.specs.declared.fault.Stop.{Stop}
use Rattle.c0_cursor.specs.declared.fault.Stop.TheVariants as stop
use Rattle.parse_faults.specs.TreeFaults.{contract_on_prototype, deep_read, tree_faults}
use Rattle.parse_faults.specs.First.{first_of}
use Rattle.c0_parse.specs.Causes.{ComesFirst}

-- a program that is not too deep is answered with its tree, or with the first fault of the tree
abbrev pub AnswersTree : ProgramTree → Result Parsed ParseFault → Type 0
AnswersTree p (Ok q) = (program_view q ≡ p) × (tree_faults p ≡ [])
AnswersTree p (Err (fault.ContractOnPrototype at)) = ComesFirst (contract_on_prototype at) (tree_faults p)
AnswersTree p (Err (fault.DeepRead at)) = ComesFirst (deep_read at) (tree_faults p)
AnswersTree p (Err fault.Memory) = Unit {0}
AnswersTree p (Err f) = ⊥

-- a tree without a fault, or its fault
abbrev pub unless_fault : Parsed → Option ParseFault → Result Parsed ParseFault
unless_fault q None = Ok q
unless_fault q (Some e) = Err e

-- what the parser answers, from what the reading answered
abbrev pub answer_of : Result Parsed Stop → Result Parsed ParseFault
answer_of (Ok q) = unless_fault q (first_of (tree_faults (program_view q)))
answer_of (Err (stop.Syntax at)) = Err (fault.Syntax at)
answer_of (Err (stop.TooDeep at)) = Err (fault.TooDeep at)
answer_of (Err stop.Memory) = Err fault.Memory
