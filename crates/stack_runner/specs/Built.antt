-- Code whose checks are of values: the formulas that need no heap.
use Rattle.std.specs.Prelude.{ℕ, List, slice_get, IfSome}
use Rattle.stack_code.specs.Instrs as instr
use Rattle.stack_code.specs.Instrs.{Instr, Body, Code}
use Rattle.gc0_tree.specs.Tree.{Program}
use Rattle.stack_code.specs.Coding.{code_of}
use Rattle.stack_code.specs.Built.{IsBuiltFormula, IsBuilt}

-- a check of a built formula, or another instruction
abbrev pub IsBuiltInstr : Instr → Type 0
IsBuiltInstr (instr.checkwhole site formula words) = IsBuiltFormula formula
IsBuiltInstr i = Unit {0}

abbrev pub AreBuiltInstrs : List Instr → Type 0
AreBuiltInstrs instrs = (at : ℕ) → IfSome (slice_get instrs at) IsBuiltInstr

abbrev pub HasBuiltInstrs : Body → Type 0
HasBuiltInstrs body = AreBuiltInstrs body.instrs

pub record IsBuiltCode (code : Code) : Type 0 where
  pub start : HasBuiltInstrs code.start
  pub functions : (number : ℕ) → IfSome (slice_get code.functions number) HasBuiltInstrs

-- the code of a built program has checks of values alone
abbrev pub IsBuiltWhole : Type 0
IsBuiltWhole = (p : Program) → IsBuilt p → IsBuiltCode (code_of p)
