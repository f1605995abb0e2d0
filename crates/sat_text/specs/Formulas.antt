-- What a text in the DIMACS CNF format says: its formula, or the first line that is none of the format.
use Rattle.std.specs.Prelude.{◌≡◌, ℕ, ◌+◌, ◌-◌, ◌<◌, ◌≤◌, List, [], ◌∷◌, ◌++◌, length, map, take, codes, if◌then◌else◌}
use Rattle.std.specs.List.{flat_map, AllByRecursion}
use Rattle.std.specs.Fmt.{decimal}
use Rattle.sat_check.specs.declared.clause.Lit.{Lit}
use Rattle.sat_check.specs.declared.clause.Clause.{Clause}
use Rattle.sat_check.specs.Clauses.{ClausesAreBelow}
use Rattle.sat_text.specs.declared.formula.Formula.{Formula}
use Rattle.sat_text.specs.declared.limits.TheConstants.FormulaLimits as limits

-- a literal: the number of its variable, counted from 1, behind a minus where it is negated
abbrev pub lit_word : Lit → List ℕ
lit_word lit = if lit.positive then decimal (lit.variable + 1) else 45 ∷ decimal (lit.variable + 1)

-- the literals of a clause, and a 0
abbrev pub clause_words : Clause → List (List ℕ)
clause_words clause = map lit_word clause.lits ++ codes "0" ∷ []

-- `p cnf`, the number of variables and that of clauses
abbrev pub header_words : ℕ → ℕ → List (List ℕ)
header_words variables count = codes "p" ∷ codes "cnf" ∷ decimal variables ∷ decimal count ∷ []

-- The words of the lines say this formula: on the first line that has words stands its header, and on
-- all others its clauses one after another, however they are cut into lines.
pub record Denotes (rows : List (List (List ℕ))) (f : Formula) : Type 0 where
  pub before : List (List (List ℕ))
  pub rest : List (List (List ℕ))
  pub split : rows ≡ before ++ header_words f.variables (length f.clauses) ∷ rest
  pub blank : AllByRecursion (λ row. row ≡ []) before
  pub clauses : flat_map (λ row. row) rest ≡ flat_map clause_words f.clauses
  pub below : ClausesAreBelow f.variables f.clauses
  pub few_variables : f.variables ≤ limits.VARIABLES
  pub few_clauses : length f.clauses ≤ limits.CLAUSES

-- with some more lines these say a formula
abbrev pub Begins : List (List (List ℕ)) → Type 0
Begins rows = (more : List (List (List ℕ))) × (f : Formula) × Denotes (rows ++ more) f

-- The lines before this one, counted from 1, begin a formula. With it they don't; and where it is the
-- last, they may begin one, but say none.
pub record FirstFault (rows : List (List (List ℕ))) (line : ℕ) : Type 0 where
  pub within : line ≤ length rows
  pub first : 1 ≤ line
  pub before : Begins (take (line - 1) rows)
  pub fault : line < length rows → ¬ Begins (take line rows)
  pub none : (f : Formula) → ¬ Denotes rows f

-- the law of texts: no rows say two formulas
abbrev pub OneFormula : Type 0
OneFormula = (rows : List (List (List ℕ))) (f g : Formula) → Denotes rows f → Denotes rows g → f ≡ g
