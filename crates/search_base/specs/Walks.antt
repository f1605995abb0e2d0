-- A walk by hints, from literals that are false to a clause that is false.
use Rattle.std.specs.Prelude.{◌≡◌, ℕ, List, [], ◌∷◌, ◌++◌}
use Rattle.sat_check.specs.declared.clause.Lit.{Lit}
use Rattle.sat_check.specs.declared.clause.Clause.{Clause}
use Rattle.sat_check.specs.Logs.{Refutes}
use Rattle.search_base.specs.declared.walk.Follow.{Follow}
use Rattle.search_base.specs.declared.walk.Follow.TheVariants.{Ends, Leads, Skips}

-- The hint ends a refutation of what is false, or what refutes all that is false then does so after it, or
-- it changes nothing.
abbrev pub FollowIs : List Clause → List Lit → List Lit → ℕ → Follow → Type 0
FollowIs known old new hint Ends = Refutes known old (hint ∷ [])
FollowIs known old new hint Leads = (rest : List ℕ) → Refutes known new rest → Refutes known old (hint ∷ rest)
FollowIs known old new hint Skips = new ≡ old

-- what refutes all that is false refutes this start once these hints stand before it
abbrev pub LeadsFrom : List Clause → List Lit → List Lit → List ℕ → Type 0
LeadsFrom known start falses taken = (rest : List ℕ) → Refutes known falses rest → Refutes known start (taken ++ rest)
