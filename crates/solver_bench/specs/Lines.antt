-- What is printed of a query.
use Rattle.std.specs.Prelude.{◌≡◌, ℕ, List, [], ◌++◌, length, map, codes}
use Rattle.std.specs.Fmt.{decimal}
use Rattle.word_terms.specs.Tables.{Table, IsTable, term}
use Rattle.word_terms.specs.Weights.{weight_of}
use Rattle.word_blast.specs.Circuits.{Whole, circuit}
use Rattle.solver_bench.specs.declared.family.Family.{Family}
use Rattle.solver_bench.specs.Families.{roots}

-- the numbers of terms, of their weight, of variables and of clauses
abbrev pub line_of : ℕ → ℕ → ℕ → ℕ → List ℕ
line_of terms weight variables clauses = decimal terms ++ (codes " " ++ (decimal weight ++ (codes " " ++ (decimal variables ++ (codes " " ++ decimal clauses)))))

-- the line of the roots of a table
abbrev pub line_at : Table → List ℕ → List ℕ
line_at table ts = let whole : Whole = circuit table ts [] in line_of (length table.nodes) (weight_of table.nodes ts) whole.variables (length whole.clauses)

-- a line of a table that has the terms of a family's query as roots
pub record IsLine (family : Family) (size : ℕ) (line : List ℕ) : Type 0 where
  pub table : Table
  pub formed : IsTable table
  pub ids : List ℕ
  pub asked : map (term table.nodes) ids ≡ roots family size
  pub said : line ≡ line_at table ids
