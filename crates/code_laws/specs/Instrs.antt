-- The instructions of the stack machine, by the words of its listing, and the code of a core. A jump names how many
-- instructions it passes over.
use Rattle.std.specs.Prelude.{ℕ, ◌+◌, Bool, true, false, List, [], ◌∷◌, length, Option}
use Rattle.gc0_base.specs.declared.site.Site.{Site}
use Rattle.gc0_base.specs.declared.site.Part.{Part}
use Rattle.gc0_tree.specs.declared.UnaryOp.{UnaryOp}
use Rattle.gc0_tree.specs.declared.LibraryCall.{LibraryCall}
use Rattle.gc0_tree.specs.Tree.{Tree, Formula, Predicate}
use Rattle.core_tree.specs.declared.BinaryOp.{BinaryOp}

-- the words that a formula speaks of
pub data Words : Type 0 where
  -- so many locals of the frame
  first : (count : ℕ) → Words
  -- so many operands, the top one last
  operands : (count : ℕ) → Words
  -- so many locals of the frame, and then the top operand where there is a result
  returning : (count : ℕ) → (result : Bool) → Words
  -- the locals with these numbers, and then the top operand where there is a result
  behind_call : (arguments : List ℕ) → (result : Bool) → Words

-- what a choice is decided over: some words, or the values of the arguments of the one instance of a formula
pub data Over : Type 0 where
  the_words : Words → Over
  the_arguments : Formula → Words → Over

pub data Instr : Type 0 where
  push : (word : ℕ) → Instr
  load : (local : ℕ) → Instr
  save : (local : ℕ) → Instr
  drop : Instr
  unary : UnaryOp → Instr
  -- the fault at the trap where the operator has no value
  binary : BinaryOp → (trap : Option Site) → Instr
  -- passes over so many
  jump : (over : ℕ) → Instr
  -- where the operand is false
  jumpfalse : (over : ℕ) → Instr
  -- goes back over so many, itself not counted
  jumpback : (over : ℕ) → Instr
  step : Instr
  -- a new object of a struct with so many fields
  new : (of_struct fields : ℕ) → Instr
  get : (field : ℕ) → (access : Site) → Instr
  put : (field : ℕ) → (access : Site) → Instr
  call : (function : ℕ) → Instr
  -- with the top operand where there is a result
  return : (result : Bool) → Instr
  library : LibraryCall → (text : Option ℕ) → (trap : Option Site) → Instr
  assert : (trap : Site) → Instr
  raise : (trap : Site) → Instr
  -- stops at the site where the part says no; it is a part of a fold's formula or not
  check : Site → (folded : Bool) → Formula → Words → Part → Instr
  -- stops where the base isn't `NULL` and its cell isn't owned; a store has its value on the base
  checkaccess : Site → (field : ℕ) → (under : Bool) → Instr
  -- keeps the truth on top of the operands as the outcome of a decision
  markbranch : (decision : ℕ) → Instr
  -- keeps what the condition of a choice decides
  markchoice : (decision : ℕ) → (condition : Tree) → Over → Instr
  -- passes over so many where a decision hadn't this outcome last
  guard : (decision : ℕ) → Bool → (over : ℕ) → Instr
  -- a level with the footprint of the formula, and with nothing where it has none
  ownopen : Formula → Words → Instr
  ownall : Instr
  ownclose : Instr
  -- the object on top of the operands
  ownnew : Instr
  -- all objects made since the call began
  ownadopt : Instr

-- the code of a function
pub record Body : Type 0 where
  pub params : ℕ
  -- of a frame: its locals and temporaries, parameters included
  pub words : ℕ
  -- how many outcomes a frame keeps
  pub marks : ℕ
  pub instrs : List Instr

-- the code of a core: that of its functions by number, and that with which a run starts
pub record Code : Type 0 where
  pub predicates : List Predicate
  pub texts : List (List ℕ)
  pub functions : List Body
  pub start : Body

abbrev pub instrs_in : List Body → ℕ
instrs_in [] = 0
instrs_in (b ∷ bs) = length b.instrs + instrs_in bs

-- how many instructions a code has
abbrev pub size : Code → ℕ
size code = length code.start.instrs + instrs_in code.functions

-- the kinds that check or track
abbrev pub is_bare : Instr → Bool
is_bare (check site folded formula words part) = false
is_bare (checkaccess site field under) = false
is_bare (markbranch d) = false
is_bare (markchoice d condition over) = false
is_bare (guard d b n) = false
is_bare (ownopen formula words) = false
is_bare ownall = false
is_bare ownclose = false
is_bare ownnew = false
is_bare ownadopt = false
is_bare i = true
