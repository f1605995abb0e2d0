-- What the code of a core promises.
use Rattle.std.specs.Prelude.{◌≡◌, ℕ, List}
use Rattle.core_tree.specs.CoreTree.{Core}
use Rattle.core_meaning.specs.Stepped.{IsStepped}
use Rattle.core_checks.specs.Placements.{Placement}
use Rattle.watched_core.specs.Watching.{Shown, watched}
use Rattle.code_laws.specs.Machine.{End, ended, run_code}
use Rattle.code_laws.specs.Coding.{code}

-- what is seen of a watched run, as an end of the machine
abbrev pub end_of : Shown → End
end_of s = record { output = s.output; result = ended s.ending s.view }

-- The code of a core with the parts of any placement does what the watched core does, for every input and number of steps.
abbrev pub code_law : Type 0
code_law = (c : Core) (p : Placement) → IsStepped c → (input : List ℕ) (n : ℕ) → run_code (code c p) input n ≡ end_of (watched c p input n)
