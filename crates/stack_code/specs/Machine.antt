-- The stack machine: one row for each instruction. This project's own.
use Rattle.std.specs.Prelude.{ℕ, zero, suc, ◌+◌, ◌-◌, ◌*◌, Bool, true, false, eqb, not, List, [], ◌∷◌, ◌++◌, take, drop, reverse, replicate, Option, Some, None, is_some, slice_get, slice_index, slice_set}
use Rattle.gc0_base.specs.declared.site.Site.{Site}
use Rattle.gc0_base.specs.declared.site.Ending.{Ending}
use Rattle.gc0_base.specs.declared.site.Ending.TheVariants.{Returned, Stop, StepsUsed}
use Rattle.gc0_base.specs.Words.{word_sum, word_difference, word_product, word_negation, word_less}
use Rattle.c0_meaning.specs.Operators.{truth_word, pick, number_text, truth_text}
use Rattle.c0_meaning.specs.Running.{Seen}
use Rattle.c0_meaning.specs.Holds.{holds}
use Rattle.stack_code.specs.Instrs as instr
use Rattle.stack_code.specs.Instrs.{Words, Instr, Body, Code, size}

-- a call that runs or waits: its code, the number of its next instruction, its operands with the top first, and its locals
pub record Frame : Type 0 where
  pub instrs : List Instr
  pub next : ℕ
  pub operands : List ℕ
  pub locals : List ℕ

pub record Machine : Type 0 where
  pub frame : Frame
  -- the frames that wait, the caller first
  pub callers : List Frame
  pub input : List ℕ
  pub output : List ℕ
  pub steps : ℕ

-- what an instruction leads to
pub data Move : Type 0 where
  on : Machine → Move
  over : Ending → Move

-- Where an operand, a function or an instruction is missing the run is over. The code of a program never comes there.
abbrev pub stuck : Move
stuck = over StepsUsed

-- the next instruction, with other operands
abbrev pub onward : Machine → List ℕ → Move
onward m operands = on record m { frame = record { instrs = m.frame.instrs; next = m.frame.next + 1; operands = operands; locals = m.frame.locals } }

abbrev pub to_target : Machine → ℕ → List ℕ → Move
to_target m target operands = on record m { frame = record { instrs = m.frame.instrs; next = target; operands = operands; locals = m.frame.locals } }

-- takes the top operand
abbrev pub with_top : List ℕ → (ℕ → List ℕ → Move) → Move
with_top [] f = stuck
with_top (x ∷ operands) f = f x operands

-- one operand in place of one
abbrev pub one_to_one : Machine → (ℕ → ℕ) → Move
one_to_one m f = with_top m.frame.operands (λ x rest. onward m (f x ∷ rest))

-- one operand in place of two, of which the right one is on top
abbrev pub two_to_one : Machine → (ℕ → ℕ → ℕ) → Move
two_to_one m f = with_top m.frame.operands (λ y rest. with_top rest (λ x rest. onward m (f x y ∷ rest)))

abbrev pub saved : Machine → ℕ → ℕ → List ℕ → Move
saved m local x operands = on record m { frame = record { instrs = m.frame.instrs; next = m.frame.next + 1; operands = operands; locals = slice_set m.frame.locals local x } }

abbrev pub written : Machine → List ℕ → List ℕ → Move
written m text operands = on record m { frame = record { instrs = m.frame.instrs; next = m.frame.next + 1; operands = operands; locals = m.frame.locals }; output = m.output ++ text }

abbrev pub stepped : Machine → ℕ → Move
stepped m zero = over StepsUsed
stepped m (suc n) = on record m { frame = record { instrs = m.frame.instrs; next = m.frame.next + 1; operands = m.frame.operands; locals = m.frame.locals }; steps = n }

-- a frame in which a function begins on its arguments
abbrev pub frame_of : Body → List ℕ → Frame
frame_of body arguments = record { instrs = body.instrs; next = 0; operands = []; locals = arguments ++ replicate (body.locals - body.params) 0 }

-- the arguments are the callee's first locals, and leave the operands of the caller
abbrev pub entered : Machine → Option Body → Move
entered m None = stuck
entered m (Some body) = on record m {
  frame = frame_of body (reverse (take body.params m.frame.operands));
  callers = record { instrs = m.frame.instrs; next = m.frame.next + 1; operands = drop body.params m.frame.operands; locals = m.frame.locals } ∷ m.callers;
}

-- the caller goes on with the result among its operands
abbrev pub resumed : Machine → List Frame → ℕ → Move
resumed m [] x = over (Returned record { 0 = x })
resumed m (f ∷ callers) x = on record m { frame = record { instrs = f.instrs; next = f.next; operands = x ∷ f.operands; locals = f.locals }; callers = callers }

abbrev pub words_of : Words → Frame → List ℕ
words_of instr.locals f = f.locals
words_of (instr.arguments n) f = reverse (take n f.operands)
words_of (instr.with_result n) f = take n f.locals ++ take 1 f.operands

abbrev pub checked : Machine → Site → Bool → Move
checked m site true = onward m m.frame.operands
checked m site false = over (Stop site)

-- what each instruction does; no heap exists yet, so a formula is decided over words alone
abbrev pub does : Code → Instr → Machine → Move
does code (instr.push w) m = onward m (w ∷ m.frame.operands)
does code (instr.load i) m = onward m (slice_index m.frame.locals i ∷ m.frame.operands)
does code (instr.save i) m = with_top m.frame.operands (λ x rest. saved m i x rest)
does code instr.drop m = with_top m.frame.operands (λ x rest. onward m rest)
does code instr.neg m = one_to_one m word_negation
does code instr.flip m = one_to_one m (λ x. truth_word (eqb x 0))
does code instr.add m = two_to_one m word_sum
does code instr.sub m = two_to_one m word_difference
does code instr.mul m = two_to_one m word_product
does code instr.less m = two_to_one m (λ x y. truth_word (word_less x y))
does code instr.lesseq m = two_to_one m (λ x y. truth_word (not (word_less y x)))
does code instr.equal m = two_to_one m (λ x y. truth_word (eqb x y))
does code (instr.jump t) m = to_target m t m.frame.operands
does code (instr.jumpfalse t) m = with_top m.frame.operands (λ x rest. pick x (to_target m t rest) (onward m rest))
does code instr.step m = stepped m m.steps
does code (instr.call f) m = entered m (slice_get code.functions f)
does code instr.return m = with_top m.frame.operands (λ x rest. resumed m m.callers x)
does code instr.printint m = with_top m.frame.operands (λ x rest. written m (number_text x) rest)
does code instr.printbool m = with_top m.frame.operands (λ x rest. written m (truth_text x) rest)
does code (instr.checkwhole site formula words) m = checked m site (is_some (holds code.predicates formula (words_of words m.frame) [] []))

abbrev pub does_next : Code → Option Instr → Machine → Move
does_next code None m = stuck
does_next code (Some i) m = does code i m

abbrev pub after : Move → List ℕ → (Machine → Seen) → Seen
after (on m) output further = further m
after (over e) output further = (output, e)

-- a run of at most so many instructions
abbrev pub runs : ℕ → Code → Machine → Seen
runs zero code m = (m.output, StepsUsed)
runs (suc k) code m = after (does_next code (slice_get m.frame.instrs m.frame.next) m) m.output (runs k code)

abbrev pub first : Code → List ℕ → ℕ → Machine
first code input n = record { frame = frame_of code.start []; callers = []; input = input; output = []; steps = n }

-- how many instructions a run with so many steps is given; the code of a program ends before
abbrev pub bound : ℕ → ℕ → ℕ
bound n length = (n + 2) * (n + 2) * (length + 1)

-- the output and the ending of a run with n steps
abbrev pub run_code : Code → (input : List ℕ) → (steps : ℕ) → Seen
run_code code input n = runs (bound n (size code)) code (first code input n)
