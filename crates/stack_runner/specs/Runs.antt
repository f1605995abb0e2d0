-- What a machine is to do.
use Rattle.std.specs.Prelude.{ℕ, List, map}
use Rattle.gc0_base.specs.declared.word.Word.{Word}
use Rattle.c0_meaning.specs.Running.{Seen}
use Rattle.stack_code.specs.Views.{code_view}
use Rattle.stack_code.specs.Machine.{run_code}
use Rattle.stack_runner.specs.declared.machine.Machine.{Machine}
use Rattle.stack_runner.specs.Built.{IsBuiltCode}

-- the numbers that a machine may read
abbrev pub words_in : Machine → List ℕ
words_in m = map (λ (w : Word). w.0) m.input.now

-- the output and the ending of the code of a machine, on its input and with its steps
abbrev pub seen_of : Machine → Seen
seen_of m = run_code (code_view m.code.now) (words_in m) m.steps

abbrev pub IsBuilt : Machine → Type 0
IsBuilt m = IsBuiltCode (code_view m.code.now)
