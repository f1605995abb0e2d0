-- What the analysis of conflicts keeps from one to the next.
use Rattle.std.specs.Prelude.{◌≡◌, ℕ, List, length}
use Rattle.sat_check.specs.declared.clause.Clause.{Clause}
use Rattle.sat_search.specs.declared.analysis.Analysis.{Analysis}
use Rattle.search_base.specs.Trails.{Keeps}

-- its own trail is one over so many variables
pub record IsReady (variables : ℕ) (a : Analysis) : Type 0 where
  pub len : length a.walk.slots.items ≡ variables
  pub known : List Clause
  pub keeps : Keeps known a.walk.slots.items a.walk.steps.items
