-- Where in a trail a literal became false.
use Rattle.std.proofs.Common.{◌≡◌, ℕ, ◌<◌, ◌≤◌, List, Some, take, map, arith, subst}
use Rattle.std.specs.List.{slice_get, Contains}
use Rattle.sat_check.specs.declared.clause.Lit.{Lit}
use Rattle.sat_check.specs.Literals.{Contains-at, Contains-index}
use Rattle.search_base.specs.declared.trail.Step.{Step}
use Rattle.search_base.specs.Trails.{falses_of}
use Rattle.search_base.specs.Lists.{slice_get-map, map_slice_get, slice_get-take, take_slice_get}

-- the step at which a literal became false
pub record IsAt (steps : List Step) (place : ℕ) (lit : Lit) : Type 0 where
  pub step : Step
  pub at : slice_get steps place ≡ Some step
  pub same : step.falsified ≡ lit

pub place_of : (steps : List Step) (lit : Lit) → Contains (falses_of steps) lit → (place : ℕ) × IsAt steps place lit
place_of steps lit h =
    let f : Step → Lit = λ s. s.falsified in
    let (place, at) = Contains-index (map f steps) lit h in
    let (step, here, same) = map_slice_get f steps place lit at in
    (place, record { step = step; at = here; same = same })

pub false_at : (steps : List Step) (place : ℕ) (step : Step) → slice_get steps place ≡ Some step → Contains (falses_of steps) step.falsified
false_at steps place step at =
    let f : Step → Lit = λ s. s.falsified in
    Contains-at (map f steps) place step.falsified (slice_get-map f steps place step at)

-- what was false before is false
pub false_before : (count : ℕ) (steps : List Step) (lit : Lit) → Contains (falses_of (take count steps)) lit → (place : ℕ) × (place < count) × IsAt steps place lit
false_before count steps lit h =
    let (place, it) = place_of (take count steps) lit h in
    let (within, at) = take_slice_get count steps place it.step it.at in
    (place, within, record { step = it.step; at = at; same = it.same })

pub false_by : (count : ℕ) (steps : List Step) (place : ℕ) (step : Step) → place < count → slice_get steps place ≡ Some step → Contains (falses_of (take count steps)) step.falsified
false_by count steps place step within at = false_at (take count steps) place step (slice_get-take count steps place step within at)

pub falses-take : (count : ℕ) (steps : List Step) (lit : Lit) → Contains (falses_of (take count steps)) lit → Contains (falses_of steps) lit
falses-take count steps lit h =
    let (place, within, it) = false_before count steps lit h in
    subst (Contains (falses_of steps)) it.same (false_at steps place it.step it.at)

pub falses_more : (m n : ℕ) (steps : List Step) (lit : Lit) → m ≤ n → Contains (falses_of (take m steps)) lit → Contains (falses_of (take n steps)) lit
falses_more m n steps lit le h =
    let (place, within, it) = false_before m steps lit h in
    subst (Contains (falses_of (take n steps))) it.same (false_by n steps place it.step (omega arith) it.at)
