-- How a conflict is gone over.
use Rattle.std.specs.Prelude.{◌≡◌, ℕ, ◌<◌, Bool, true, List, slice_get, Some, IsSome}
use Rattle.std.specs.List.{All}
use Rattle.sat_check.specs.declared.clause.Lit.{Lit}
use Rattle.search_base.specs.declared.trail.Step.{Step}

abbrev pub AllMarked : List Bool → List Lit → Type 0
AllMarked marks lits = All (λ lit. slice_get marks lit.variable ≡ Some true) lits

-- all decisions after this place have a reason, so that they are none
abbrev pub IsLastLevel : List Step → ℕ → Type 0
IsLastLevel steps start = (place : ℕ) (step : Step) → start < place → slice_get steps place ≡ Some step → IsSome step.reason
