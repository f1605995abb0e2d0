-- What propagation does to a trail.
use Rattle.std.specs.Prelude.{◌≡◌, ℕ, List, ◌++◌, slice_get, Some, IsSome}
use Rattle.std.specs.List.{All, Contains}
use Rattle.sat_check.specs.declared.clause.Lit.{Lit}
use Rattle.sat_check.specs.declared.clause.Clause.{Clause}
use Rattle.search_base.specs.declared.trail.Step.{Step}

-- so many steps more, none of them a decision
abbrev pub Extends : List Step → List Step → Type 0
Extends old new = (more : List Step) × (new ≡ old ++ more) × All (λ step. IsSome step.reason) more

-- each literal of the clause of that number is false
abbrev pub IsConflict : List Clause → List Lit → ℕ → Type 0
IsConflict known falses index = (clause : Clause) × (slice_get known index ≡ Some clause) × All (Contains falses) clause.lits
