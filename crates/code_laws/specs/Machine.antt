-- The stack machine: one row for each instruction. This project's own.
use Rattle.std.specs.Prelude.{ℕ, zero, suc, ◌+◌, ◌-◌, ◌*◌, Bool, true, false, not, eqb, List, [], ◌∷◌, ◌++◌, length, map, take, reverse, replicate, Option, Some, None, if◌then◌else◌, slice_get, slice_index, slice_set}
use Rattle.std.specs.Prelude as prelude
use Rattle.gc0_base.specs.declared.site.Site.{Site}
use Rattle.gc0_base.specs.declared.site.TrapKind.{TrapKind}
use Rattle.gc0_base.specs.declared.site.TrapKind.TheVariants as trap
use Rattle.gc0_base.specs.declared.site.Ending.{Ending}
use Rattle.gc0_base.specs.declared.site.Ending.TheVariants.{Returned, Stop, Fault, StepsUsed}
use Rattle.gc0_tree.specs.declared.LibraryCall.{LibraryCall}
use Rattle.gc0_tree.specs.declared.LibraryCall.TheVariants as library
use Rattle.gc0_tree.specs.Tree.{Tree}
use Rattle.c0_meaning.specs.Operators.{truth_word, unary_word, binary_word, pick, fault_of, number_text, truth_text}
use Rattle.c0_meaning.specs.Heaps.{Object, Cells, Heap, cells_of, cell_value, set_cell}
use Rattle.c0_meaning.specs.Holds.{holds}
use Rattle.c0_meaning.specs.Running.{or_0, has_more, text_at}
use Rattle.core_meaning.specs.CoreRuns.{Outcomes}
use Rattle.core_meaning.specs.Choices.{is_so, instance_words}
use Rattle.core_meaning.specs.CoreRunning.{op_of}
use Rattle.c0_meaning.specs.Holds.{value_in}
use Rattle.core_checks.specs.Parts.{part_says, access_says}
use Rattle.core_checks.specs.Entries.{is_last}
use Rattle.watched_core.specs.WatchRuns.{View, top_of, closed, added, cells_since}
use Rattle.watched_core.specs.Watching.{found_or_none}
use Rattle.code_laws.specs.Instrs as instr
use Rattle.code_laws.specs.Instrs.{Words, Over, Instr, Body, Code, size}

-- a call that runs or waits
pub record Frame : Type 0 where
  pub instrs : List Instr
  -- the number of its next instruction
  pub next : ℕ
  -- the top one first
  pub operands : List ℕ
  pub locals : List ℕ
  -- the last outcome of each decision that is marked
  pub marks : Outcomes
  -- how many objects there were when the call began that it waits for
  pub since : ℕ

pub record Machine : Type 0 where
  pub frame : Frame
  -- the frames that wait, the caller first
  pub callers : List Frame
  pub heap : Heap
  -- what each level owns, the running one first
  pub levels : List Cells
  pub input : List ℕ
  pub output : List ℕ
  pub steps : ℕ

-- What an instruction leads to. A machine is stuck where an operand, a function or an instruction is missing; the code of a
-- stepped core never comes there.
pub data Move : Type 0 where
  on : Machine → Move
  over : Ending → Option View → Move
  stuck : Move

-- ---- moves
-- the next instruction, with other operands
abbrev pub onward : Machine → List ℕ → Machine
onward m operands = record m { frame = record m.frame { next = m.frame.next + 1; operands = operands } }

-- passes over some instructions
abbrev pub past : Machine → ℕ → List ℕ → Machine
past m n operands = record m { frame = record m.frame { next = m.frame.next + 1 + n; operands = operands } }

abbrev pub back_over : Machine → ℕ → Machine
back_over m n = record m { frame = record m.frame { next = m.frame.next - n } }

-- takes the top operand
abbrev pub with_top : List ℕ → (ℕ → List ℕ → Move) → Move
with_top [] f = stuck
with_top (x ∷ operands) f = f x operands

-- takes two operands, the right one of which is on top
abbrev pub with_two : List ℕ → (ℕ → ℕ → List ℕ → Move) → Move
with_two operands f = with_top operands (λ y rest. with_top rest (λ x rest. f x y rest))

abbrev pub written : Machine → List ℕ → List ℕ → Move
written m text operands = on record (onward m operands) { output = m.output ++ text }

abbrev pub saved : Machine → ℕ → ℕ → List ℕ → Move
saved m local x operands = on record m { frame = record m.frame { next = m.frame.next + 1; operands = operands; locals = slice_set m.frame.locals local x } }

abbrev pub stepped : Machine → ℕ → Move
stepped m zero = over StepsUsed None
stepped m (suc n) = on record (onward m m.frame.operands) { steps = n }

-- a fault where there is a site for it
abbrev pub faulted : TrapKind → Option Site → Move
faulted kind None = stuck
faulted kind (Some site) = over (Fault kind site) None

abbrev pub or_fault : Machine → TrapKind → Option Site → List ℕ → Option ℕ → Move
or_fault m kind site operands None = faulted kind site
or_fault m kind site operands (Some x) = on (onward m (x ∷ operands))

-- ---- words of formulas
abbrev pub tops : Bool → List ℕ → List ℕ
tops result operands = if result then take 1 operands else []

abbrev pub words_at : Words → Frame → List ℕ
words_at (instr.first n) f = take n f.locals
words_at (instr.operands n) f = reverse (take n f.operands)
words_at (instr.returning n result) f = take n f.locals ++ tops result f.operands
words_at (instr.behind_call args result) f = map (slice_index f.locals) args ++ tops result f.operands

abbrev pub words_over : Over → Machine → Option (List ℕ)
words_over (instr.the_words words) m = Some (words_at words m.frame)
words_over (instr.the_arguments formula words) m = instance_words m.heap (top_of m.levels) (words_at words m.frame) formula.parts

-- ---- the heap
abbrev pub at_object : Site → ℕ → (ℕ → Move) → Move
at_object site zero f = over (Fault trap.Null site) None
at_object site (suc n) f = f (suc n)

abbrev pub made : Machine → (of_struct fields : ℕ) → Move
made m k fields = on record (onward m (suc (length m.heap) ∷ m.frame.operands)) { heap = m.heap ++ record { of_struct = k; fields = replicate fields 0 } ∷ [] }

-- how many fields an object of the heap has, by its number from 1
abbrev pub fields_in : Option Object → ℕ
fields_in None = 0
fields_in (Some o) = length o.fields

abbrev pub fields_at : Heap → (object : ℕ) → ℕ
fields_at heap zero = 0
fields_at heap (suc k) = fields_in (slice_get heap k)

-- ---- calls
-- a frame in which a function begins on its arguments
abbrev pub frame_of : Body → List ℕ → Frame
frame_of body args = record { instrs = body.instrs; next = 0; operands = []; locals = args ++ replicate (body.words - length args) 0; marks = replicate body.marks None; since = 0 }

-- the arguments are the callee's first locals, and leave the operands of the caller
abbrev pub entered : Machine → Option Body → Move
entered m None = stuck
entered m (Some body) = on record m {
  frame = frame_of body (reverse (take body.params m.frame.operands));
  callers = record m.frame { next = m.frame.next + 1; operands = prelude.drop body.params m.frame.operands; since = length m.heap } ∷ m.callers;
}

-- a waiting frame goes on, with the result on its operands; with no frame the run is over
abbrev pub resumed : Machine → List Frame → Bool → ℕ → Move
resumed m [] result x = over (Returned record { 0 = x }) None
resumed m (f ∷ fs) result x = on record m { frame = record f { operands = if result then x ∷ f.operands else f.operands }; callers = fs }

abbrev pub returned : Machine → Bool → List ℕ → Move
returned m true operands = with_top operands (λ x rest. resumed m m.callers true x)
returned m false operands = resumed m m.callers false 0

-- ---- library calls
abbrev pub next_of : Machine → Option Site → List ℕ → Move
next_of m site [] = faulted trap.InputEnd site
next_of m site (x ∷ xs) = on record (onward m (x ∷ m.frame.operands)) { input = xs }

abbrev pub text_in : Code → Option ℕ → List ℕ
text_in code None = []
text_in code (Some k) = text_at (slice_get code.texts k)

abbrev pub library_does : Code → Machine → LibraryCall → Option ℕ → Option Site → Move
library_does code m library.PrintInt t site = with_top m.frame.operands (λ x rest. written m (number_text x) rest)
library_does code m library.PrintBool t site = with_top m.frame.operands (λ x rest. written m (truth_text x) rest)
library_does code m library.Print t site = written m (text_in code t) m.frame.operands
library_does code m library.PrintLine t site = written m (text_in code t ++ 10 ∷ []) m.frame.operands
library_does code m library.ReadInt t site = next_of m site m.input
library_does code m library.MoreInt t site = on (onward m (truth_word (has_more m.input) ∷ m.frame.operands))

-- ---- checks, marks and levels
abbrev pub viewed : Machine → Site → List ℕ → View
viewed m site words = record { site = site; words = words; heap = m.heap; owned = top_of m.levels }

-- goes on where a check passes, and else stops
abbrev pub or_stop : Machine → Site → List ℕ → Bool → Move
or_stop m site words passes = if passes then on (onward m m.frame.operands) else over (Stop site) (Some (viewed m site words))

-- the operands from the base on: a store has its value on it
abbrev pub from_base : Bool → List ℕ → List ℕ
from_base under operands = if under then prelude.drop 1 operands else operands

abbrev pub marked : Machine → ℕ → Bool → Move
marked m d b = on record m { frame = record m.frame { next = m.frame.next + 1; marks = slice_set m.frame.marks d (Some b) } }

abbrev pub with_levels : Machine → List Cells → Move
with_levels m levels = on record (onward m m.frame.operands) { levels = levels }

abbrev pub chosen : Heap → Cells → Option (List ℕ) → Tree → Bool
chosen heap owned None condition = false
chosen heap owned (Some words) condition = is_so (value_in heap owned words condition)

-- ---- one instruction
abbrev pub does : Code → Instr → Machine → Move
does code (instr.push w) m = on (onward m (w ∷ m.frame.operands))
does code (instr.load i) m = on (onward m (slice_index m.frame.locals i ∷ m.frame.operands))
does code (instr.save i) m = with_top m.frame.operands (saved m i)
does code instr.drop m = with_top m.frame.operands (λ x rest. on (onward m rest))
does code (instr.unary o) m = with_top m.frame.operands (λ x rest. on (onward m (unary_word o x ∷ rest)))
does code (instr.binary o site) m = with_two m.frame.operands (λ x y rest. or_fault m (fault_of (op_of o)) site rest (binary_word (op_of o) x y))
does code (instr.jump n) m = on (past m n m.frame.operands)
does code (instr.jumpfalse n) m = with_top m.frame.operands (λ x rest. pick x (on (past m n rest)) (on (onward m rest)))
does code (instr.jumpback n) m = on (back_over m n)
does code instr.step m = stepped m m.steps
does code (instr.new k fields) m = made m k fields
does code (instr.get field site) m = with_top m.frame.operands (λ b rest. at_object site b (λ n. on (onward m (or_0 (cell_value m.heap record { object = n; field = field }) ∷ rest))))
does code (instr.put field site) m = with_two m.frame.operands (λ b x rest. at_object site b (λ n. on record (onward m rest) { heap = set_cell m.heap record { object = n; field = field } x }))
does code (instr.call g) m = entered m (slice_get code.functions g)
does code (instr.return result) m = returned m result m.frame.operands
does code (instr.library l t site) m = library_does code m l t site
does code (instr.assert site) m = with_top m.frame.operands (λ x rest. pick x (over (Fault trap.Assertion site) None) (on (onward m rest)))
does code (instr.raise site) m = over (Fault trap.Raised site) None
does code (instr.check site folded formula words part) m =
    or_stop m site (words_at words m.frame) (part_says code.predicates folded formula part (words_at words m.frame) m.heap (top_of m.levels))
does code (instr.checkaccess site field under) m =
    with_top (from_base under m.frame.operands) (λ b rest. or_stop m site (b ∷ field ∷ []) (access_says (top_of m.levels) (b ∷ field ∷ [])))
does code (instr.markbranch d) m = with_top m.frame.operands (λ x rest. marked m d (not (eqb x 0)))
does code (instr.markchoice d condition subject) m = marked m d (chosen m.heap (top_of m.levels) (words_over subject m) condition)
does code (instr.guard d b n) m = if is_last (slice_get m.frame.marks d) b then on (onward m m.frame.operands) else on (past m n m.frame.operands)
does code (instr.ownopen formula words) m =
    with_levels m (found_or_none (holds code.predicates formula (words_at words m.frame) m.heap (top_of m.levels)) ∷ m.levels)
does code instr.ownall m = with_levels m (top_of m.levels ∷ m.levels)
does code instr.ownclose m = with_levels m (closed m.levels)
does code instr.ownnew m = with_top m.frame.operands (λ object rest. with_levels m (added (cells_of object (fields_at m.heap object)) m.levels))
does code instr.ownadopt m = with_levels m (added (cells_since m.frame.since m.heap) m.levels)

abbrev pub does_next : Code → Option Instr → Machine → Move
does_next code None m = stuck
does_next code (Some i) m = does code i m

-- one instruction of a machine
abbrev pub moves : Code → Machine → Move
moves code m = does_next code (slice_get m.frame.instrs m.frame.next) m

-- ---- runs
-- how a run ended: an ending with a view where it stops, or stuck
pub data Result : Type 0 where
  ended : Ending → Option View → Result
  is_stuck : Result

pub record End : Type 0 where
  pub output : List ℕ
  pub result : Result

abbrev pub end_with : List ℕ → Result → End
end_with output result = record { output = output; result = result }

abbrev pub after : (Machine → End) → List ℕ → Move → End
after go output (on m) = go m
after go output (over e v) = end_with output (ended e v)
after go output stuck = end_with output is_stuck

-- at most so many instructions
abbrev pub run : Code → ℕ → Machine → End
run code zero m = end_with m.output (ended StepsUsed None)
run code (suc k) m = after (run code k) m.output (moves code m)

-- at the start one level owns nothing
abbrev pub first : Code → List ℕ → ℕ → Machine
first code input n = record { frame = frame_of code.start []; callers = []; heap = []; levels = [] ∷ []; input = input; output = []; steps = n }

-- so many instructions are enough for a run of so many steps
abbrev pub enough : Code → ℕ → ℕ
enough code n = (n + 2) * (n + 2) * (size code + 1)

abbrev pub run_code : Code → (input : List ℕ) → (steps : ℕ) → End
run_code code input n = run code (enough code n) (first code input n)
