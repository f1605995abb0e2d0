-- The machine of the definition that a state of the runner stands for. The words of all frames lie in one store: those of
-- a frame from its base on, its locals below its floor, and its operands from there on with the top one last.
use Rattle.std.specs.Prelude.{◌≡◌, ℕ, ◌<◌, ◌≤◌, List, [], ◌∷◌, ◌++◌, length, map, reverse, take, drop, Option, Some, None, slice_range}
use Rattle.gc0_base.specs.declared.site.Ending.{Ending}
use Rattle.c0_meaning.specs.Operators.{number_text, truth_text}
use Rattle.stack_code.specs.Instrs as instr
use Rattle.stack_code.specs.Instrs.{Instr, Code}
use Rattle.stack_code.specs.Views.{instr_view}
use Rattle.stack_code.specs.Machine as machine
use Rattle.stack_code.specs.Machine.{Machine, Move, on, over, does}
use Rattle.stack_runner.specs.declared.state.Frame.{Frame}
use Rattle.stack_runner.specs.declared.state.State.{State}
use Rattle.stack_runner.specs.Built.{AreBuiltInstrs}

unfoldable pub operands_at : ℕ → List ℕ → List ℕ
operands_at floor values = reverse (drop floor values)

-- a frame whose words are on top of the store
abbrev pub shown : List ℕ → Frame → machine.Frame
shown values f = record { instrs = map instr_view f.instrs.now; next = f.next; operands = operands_at f.floor values; locals = slice_range values f.base f.floor }

-- frames that lie on one another, the topmost first
unfoldable pub waiting : List Frame → List ℕ → List machine.Frame
waiting [] values = []
waiting (f ∷ fs) values = shown values f ∷ waiting fs (take f.base values)

abbrev pub callers_of : State → List machine.Frame
callers_of s = waiting (reverse s.callers.items) (take s.frame.base s.values.items)

abbrev pub machine_of : (input output : List ℕ) → State → Machine
machine_of input output s = record { frame = shown s.values.items s.frame; callers = callers_of s; input = input; output = output; steps = s.steps }

pub record IsFineFrame (instrs : List Instr) (base floor : ℕ) (values : List ℕ) : Type 0 where
  pub order : base ≤ floor
  pub within : floor ≤ length values
  pub built : AreBuiltInstrs instrs

-- each frame's words lie on those of its caller
abbrev pub AreFine : List Frame → List ℕ → Type 0
AreFine [] values = Unit {0}
AreFine (f ∷ fs) values = IsFineFrame (map instr_view f.instrs.now) f.base f.floor values × AreFine fs (take f.base values)

abbrev pub IsFine : State → Type 0
IsFine s = AreFine (s.frame ∷ reverse s.callers.items) s.values.items

-- the running frame has another next instruction and other operands, and nothing else differs
pub record Differs (old new : State) (to : ℕ) (left : List ℕ) : Type 0 where
  pub instrs : new.frame.instrs ≡ old.frame.instrs
  pub next : new.frame.next ≡ to
  pub operands : operands_at new.frame.floor new.values.items ≡ left
  pub locals : slice_range new.values.items new.frame.base new.frame.floor ≡ slice_range old.values.items old.frame.base old.frame.floor
  pub callers : callers_of new ≡ callers_of old
  pub steps : new.steps ≡ old.steps

-- fewer than two operands
abbrev pub IsShort : List ℕ → Type 0
IsShort [] = Unit {0}
IsShort (x ∷ []) = Unit {0}
IsShort (x ∷ y ∷ operands) = ⊥

-- where an instruction that has an answer leads to
abbrev pub move_of : Option Ending → Machine → Move
move_of None m = on m
move_of (Some e) m = over e

-- what an instruction writes, by the operands
abbrev pub text_of : Instr → List ℕ → List ℕ
text_of instr.printint (x ∷ operands) = number_text x
text_of instr.printbool (x ∷ operands) = truth_text x
text_of i operands = []

-- the output once an instruction has written
abbrev pub output_after : Instr → List ℕ → List ℕ → List ℕ
output_after instr.printint operands output = output ++ text_of instr.printint operands
output_after instr.printbool operands output = output ++ text_of instr.printbool operands
output_after i operands output = output

-- a state does what the definition says that an instruction does
abbrev pub Does : Code → Instr → State → State → Option Ending → Type 0
Does code i old new end =
    (input output : List ℕ) → does code i (machine_of input output old) ≡ move_of end (machine_of input (output_after i (operands_at old.frame.floor old.values.items) output) new)

-- an instruction that any code may have
abbrev pub DoesAnyhow : Instr → State → State → Option Ending → Type 0
DoesAnyhow i old new end = (code : Code) → Does code i old new end
