-- The instructions of the stack machine, by the words of its listing, and the code of a program. A target of a jump is the
-- number of an instruction within its function, from 0.
use Rattle.std.specs.Prelude.{ℕ, ◌+◌, List, [], ◌∷◌, length}
use Rattle.gc0_base.specs.declared.site.Site.{Site}
use Rattle.gc0_tree.specs.Tree.{Formula, Predicate}

-- the words that a checked formula speaks of
pub data Words : Type 0 where
  -- the locals of the frame
  locals : Words
  -- so many operands, the top one last
  arguments : (count : ℕ) → Words
  -- so many locals of the frame, and the top operand
  with_result : (params : ℕ) → Words

pub data Instr : Type 0 where
  push : (word : ℕ) → Instr
  load : (local : ℕ) → Instr
  save : (local : ℕ) → Instr
  drop : Instr
  neg : Instr
  flip : Instr
  add : Instr
  sub : Instr
  mul : Instr
  less : Instr
  lesseq : Instr
  equal : Instr
  jump : (target : ℕ) → Instr
  jumpfalse : (target : ℕ) → Instr
  step : Instr
  call : (function : ℕ) → Instr
  return : Instr
  printint : Instr
  printbool : Instr
  checkwhole : Site → Formula → Words → Instr

-- the code of a function, with the numbers of its parameters and of its locals, parameters included
pub record Body : Type 0 where
  pub params : ℕ
  pub locals : ℕ
  pub instrs : List Instr

-- the code of a program: that of its functions by number, and that with which a run starts
pub record Code : Type 0 where
  pub predicates : List Predicate
  pub functions : List Body
  pub start : Body

abbrev pub instrs_in : List Body → ℕ
instrs_in [] = 0
instrs_in (b ∷ bs) = length b.instrs + instrs_in bs

-- how many instructions a code has
abbrev pub size : Code → ℕ
size code = length code.start.instrs + instrs_in code.functions
