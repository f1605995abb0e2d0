-- How the checker keeps the literals that are false: a mark for each variable, with the round that wrote it.
use Rattle.std.specs.Prelude.{◌≡◌, ℕ, ◌<◌, ◌≤◌, ◌↔◌, List, length, slice_get, Some}
use Rattle.std.specs.List.{All, Contains}
use Rattle.sat_check.specs.declared.clause.Lit.{Lit}
use Rattle.sat_check.specs.declared.valuation.Mark.{Mark}
use Rattle.sat_check.specs.declared.valuation.Value.{Value}
use Rattle.sat_check.specs.declared.valuation.Value.TheVariants.{Open, True, False}
use Rattle.sat_check.specs.declared.checker.Found.{Found}
use Rattle.sat_check.specs.declared.checker.Found.TheVariants.{AllFalse, Single, Neither}
use Rattle.sat_check.specs.Clauses.{opposite_of}
use Rattle.sat_check.specs.declared.checker.Verdict.{Verdict}
use Rattle.sat_check.specs.declared.checker.Verdict.TheVariants.{Refuted, Derived, Fault}
use Rattle.sat_check.specs.declared.clause.Clause.{Clause}
use Rattle.sat_check.specs.declared.log.Entry.{Entry}
use Rattle.sat_check.specs.Logs.{IsUnit, IsRefutation, IsDerivation, IsFirstFault}

-- the round has marked the literal as false
abbrev pub IsMarked : ℕ → List Mark → Lit → Type 0
IsMarked round marks lit = slice_get marks lit.variable ≡ Some (record { round = round; positive = lit.positive })

-- the literals of this list, and no others, are marked as false
abbrev pub Shows : ℕ → List Mark → List Lit → Type 0
Shows round marks falses = (lit : Lit) → lit.variable < length marks → Contains falses lit ↔ IsMarked round marks lit

-- no mark is of a later round
abbrev pub IsSound : ℕ → List Mark → Type 0
IsSound round marks = All (λ mark. mark.round ≤ round) marks

-- what a round's marks say of a literal
abbrev pub ValueIs : ℕ → List Mark → Lit → Value → Type 0
ValueIs round marks lit Open = (¬ IsMarked round marks lit) × (¬ IsMarked round marks (opposite_of lit))
ValueIs round marks lit True = IsMarked round marks (opposite_of lit)
ValueIs round marks lit False = IsMarked round marks lit

-- what a clause is on a walk
abbrev pub FoundIs : List Lit → List Lit → Found → Type 0
FoundIs falses lits AllFalse = All (Contains falses) lits
FoundIs falses lits (Single lit) = IsUnit falses lits lit
FoundIs falses lits Neither = (¬ All (Contains falses) lits) × ((lit : Lit) → ¬ IsUnit falses lits lit)

abbrev pub SingleIsBelow : ℕ → Found → Type 0
SingleIsBelow variables AllFalse = Unit {0}
SingleIsBelow variables (Single lit) = lit.variable < variables
SingleIsBelow variables Neither = Unit {0}

-- what a verdict says
abbrev pub VerdictIs : List Clause → List Entry → Verdict → Type 0
VerdictIs clauses entries Refuted = IsRefutation clauses entries
VerdictIs clauses entries (Derived count) = IsDerivation clauses entries count
VerdictIs clauses entries (Fault index) = IsFirstFault clauses entries index
