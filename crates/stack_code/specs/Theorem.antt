-- The code of a program means what the program means.
use Rattle.std.specs.Prelude.{◌≡◌, ℕ, List}
use Rattle.gc0_tree.specs.Tree.{Program}
use Rattle.c0_meaning.specs.Running.{meaning}
use Rattle.stack_code.specs.Instrs.{Code}
use Rattle.stack_code.specs.Machine.{run_code}

-- for every input and every number of steps: the same output, and the same ending
abbrev pub Means : Code → Program → Type 0
Means code p = (input : List ℕ) (n : ℕ) → run_code code input n ≡ meaning p input n
