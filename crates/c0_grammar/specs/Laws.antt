-- What is proved of the plans, by which tokens are taken one by one.
use Rattle.std.specs.Prelude.{◌≡◌, ℕ, List, Ok}
use Rattle.parsed_tree.specs.Tree.{ProgramTree}
use Rattle.c0_grammar.specs.Tokens.{Token}
use Rattle.c0_grammar.specs.Plan.{run, start}
use Rattle.c0_grammar.specs.Reads.{Reads, EndsLast, Answers}

-- the plans take exactly the programs of the grammar, and stop at the first fault
abbrev pub RunIsExact : Type 0
RunIsExact = (limit : ℕ) (ts : List Token) → EndsLast ts → Answers limit ts (run limit start ts)

-- each program that is not too deep is read as its tree
abbrev pub RunIsComplete : Type 0
RunIsComplete = (limit : ℕ) (ts : List Token) (p : ProgramTree) → Reads limit ts p → run limit start ts ≡ Ok p
