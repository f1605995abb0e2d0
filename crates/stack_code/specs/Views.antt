-- The code that values of the program stand for.
use Rattle.std.specs.Prelude.{map}
use Rattle.gc0_tree.specs.Views.{formula_view, predicate_view}
use Rattle.stack_code.specs.declared.instr.Words.{Words}
use Rattle.stack_code.specs.declared.instr.Words.TheVariants as words
use Rattle.stack_code.specs.declared.instr.Instr.{Instr}
use Rattle.stack_code.specs.declared.instr.Instr.TheVariants as variant
use Rattle.stack_code.specs.declared.instr.FunctionCode.{FunctionCode}
use Rattle.stack_code.specs.declared.instr.Code.{Code}
use Rattle.stack_code.specs.Instrs as instr

abbrev pub words_view : Words → instr.Words
words_view words.Locals = instr.locals
words_view (words.Arguments n) = instr.arguments n
words_view (words.WithResult n) = instr.with_result n

abbrev pub instr_view : Instr → instr.Instr
instr_view (variant.Push w) = instr.push w.0
instr_view (variant.Load i) = instr.load i
instr_view (variant.Save i) = instr.save i
instr_view variant.Drop = instr.drop
instr_view variant.Neg = instr.neg
instr_view variant.Flip = instr.flip
instr_view variant.Add = instr.add
instr_view variant.Sub = instr.sub
instr_view variant.Mul = instr.mul
instr_view variant.Less = instr.less
instr_view variant.LessEq = instr.lesseq
instr_view variant.Equal = instr.equal
instr_view (variant.Jump t) = instr.jump t
instr_view (variant.JumpFalse t) = instr.jumpfalse t
instr_view variant.Step = instr.step
instr_view (variant.Call f) = instr.call f
instr_view variant.Return = instr.return
instr_view variant.PrintInt = instr.printint
instr_view variant.PrintBool = instr.printbool
instr_view (variant.CheckWhole site formula words) = instr.checkwhole site (formula_view formula.now) (words_view words)

abbrev pub body_view : FunctionCode → instr.Body
body_view f = record { params = f.params; locals = f.locals; instrs = map instr_view f.instrs }

abbrev pub code_view : Code → instr.Code
code_view c = record { predicates = map predicate_view c.program.now.predicates; functions = map body_view c.functions; start = body_view c.start }
