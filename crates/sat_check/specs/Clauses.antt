-- Literals, clauses and the assignments that satisfy them: the DIMACS CNF format.
use Rattle.std.specs.Prelude.{◌≡◌, ℕ, ◌<◌, Bool, not, List}
use Rattle.std.specs.List.{All, Any}
use Rattle.sat_check.specs.declared.clause.Lit.{Lit}
use Rattle.sat_check.specs.declared.clause.Clause.{Clause}

-- the literal that is true exactly where this one is false
abbrev pub opposite_of : Lit → Lit
opposite_of lit = record { variable = lit.variable; positive = not lit.positive }

-- a literal is true where the assignment gives its variable its sign
abbrev pub IsTrueUnder : (ℕ → Bool) → Lit → Type 0
IsTrueUnder assignment lit = assignment lit.variable ≡ lit.positive

-- each clause has a true literal
abbrev pub Satisfies : (ℕ → Bool) → List Clause → Type 0
Satisfies assignment clauses = All (λ clause. Any (IsTrueUnder assignment) clause.lits) clauses

abbrev pub IsUnsatisfiable : List Clause → Type 0
IsUnsatisfiable clauses = (assignment : ℕ → Bool) → ¬ Satisfies assignment clauses

-- each variable of a literal is below this number
abbrev pub AreBelow : ℕ → List Lit → Type 0
AreBelow variables lits = All (λ lit. lit.variable < variables) lits

abbrev pub ClausesAreBelow : ℕ → List Clause → Type 0
ClausesAreBelow variables clauses = All (λ clause. AreBelow variables clause.lits) clauses
