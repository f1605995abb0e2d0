-- The core of a program means what the program means.
use Rattle.std.specs.Prelude.{◌≡◌, ℕ, List}
use Rattle.gc0_tree.specs.Tree.{Program}
use Rattle.gc0_tree.specs.Fits.{Fits}
use Rattle.c0_meaning.specs.Running.{meaning, sites}
use Rattle.core_meaning.specs.CoreRunning.{core_meaning, core_sites}
use Rattle.lowering_laws.specs.Lowering.{Beside, lowered}
use Rattle.lowering_laws.specs.Ends.{AllEnd}

-- for every input and every number of steps: the same output, and the same ending
abbrev pub meaning_law : Type 0
meaning_law = (p : Program) → Fits p → AllEnd p → (b : Beside) (input : List ℕ) (n : ℕ) → core_meaning (lowered b p) input n ≡ meaning p input n

-- and the same sites are decided, in the same order
abbrev pub sites_law : Type 0
sites_law = (p : Program) → Fits p → AllEnd p → (b : Beside) (input : List ℕ) (n : ℕ) → core_sites (lowered b p) input n ≡ sites p input n
