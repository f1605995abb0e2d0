-- When tokens have each of the parser's faults.
use Rattle.std.specs.Prelude.{◌≡◌, List, ◌∷◌}
use Rattle.parsed_tree.specs.Tree.{ProgramTree}
use Rattle.c0_grammar.specs.Tokens.{Token}
use Rattle.c0_grammar.specs.Faults.{syntax_at, deep_at}
use Rattle.c0_grammar.specs.Reads.{Reads, HasFault}
use Rattle.parse_faults.specs.declared.fault.ParseFault.{ParseFault}
use Rattle.parse_faults.specs.declared.fault.ParseFault.TheVariants as fault
use Rattle.parse_faults.specs.TreeFaults.{TreeFault, contract_on_prototype, deep_read, tree_faults}
use Rattle.gc0_base.specs.declared.limits.TheConstants.Limits as limits

-- this fault of the tree comes first
abbrev pub ComesFirst : TreeFault → List TreeFault → Type 0
ComesFirst f fs = (rest : List TreeFault) × (fs ≡ f ∷ rest)

abbrev pub TreeHas : List Token → TreeFault → Type 0
TreeHas ts f = (p : ProgramTree) × Reads limits.NESTING ts p × ComesFirst f (tree_faults p)

abbrev pub HasCause : List Token → ParseFault → Type 0
HasCause ts (fault.Syntax at) = HasFault limits.NESTING ts (syntax_at at)
HasCause ts (fault.TooDeep at) = HasFault limits.NESTING ts (deep_at at)
HasCause ts (fault.ContractOnPrototype at) = TreeHas ts (contract_on_prototype at)
HasCause ts (fault.DeepRead at) = TreeHas ts (deep_read at)
HasCause ts fault.Memory = Unit {0}
