-- When an entry of a log follows: the LRAT format, without its RAT steps and its deletions.
-- Clauses are taken as sets of literals, so a literal that is repeated counts once.
use Rattle.std.specs.Prelude.{◌≡◌, ℕ, ◌<◌, ◌⊎◌, List, [], ◌∷◌, ◌++◌, length, map, take, slice_get, Option, Some, None, ◌≢◌}
use Rattle.std.specs.List.{All, Any, Contains}
use Rattle.sat_check.specs.declared.clause.Lit.{Lit}
use Rattle.sat_check.specs.declared.clause.Clause.{Clause}
use Rattle.sat_check.specs.declared.log.Entry.{Entry}
use Rattle.sat_check.specs.Clauses.{opposite_of, IsUnsatisfiable, AreBelow}

-- a literal stands together with its opposite
abbrev pub IsTautology : List Lit → Type 0
IsTautology lits = (lit : Lit) × Contains lits lit × Contains lits (opposite_of lit)

-- A walk is at a list of literals that are false. Their opposites are true, and all else has no value.
pub record HasNoValue (falses : List Lit) (lit : Lit) : Type 0 where
  pub not_false : ¬ Contains falses lit
  pub not_true : ¬ Contains falses (opposite_of lit)

-- all literals but this one are false, and this one has no value
pub record IsUnit (falses lits : List Lit) (lit : Lit) : Type 0 where
  pub stands : Contains lits lit
  pub without_value : HasNoValue falses lit
  pub others : All (λ other. (other ≡ lit) ⊎ Contains falses other) lits

-- The hints are taken in turn. At each but the last, one literal has no value and becomes true, and the
-- others are false. At the last, all are false.
abbrev pub Refutes : List Clause → List Lit → List ℕ → Type 0
Refutes known falses [] = ⊥
Refutes known falses (hint ∷ []) = (clause : Clause) × (slice_get known hint ≡ Some clause) × All (Contains falses) clause.lits
Refutes known falses (hint ∷ next ∷ rest) =
    (clause : Clause) × (lit : Lit) × (slice_get known hint ≡ Some clause) × IsUnit falses clause.lits lit × Refutes known (opposite_of lit ∷ falses) (next ∷ rest)

-- no literal together with its opposite, and from the entry's literals as false the hints lead to a
-- clause that is false
pub record Follows (known : List Clause) (entry : Entry) : Type 0 where
  pub no_tautology : ¬ IsTautology entry.clause.lits
  pub refutes : Refutes known entry.clause.lits entry.hints

-- what the next entry may name: the clauses, and then the clauses of the entries before it
abbrev pub known_before : List Clause → List Entry → List Clause
known_before clauses earlier = clauses ++ map (λ entry. entry.clause) earlier

-- the literals that a hint names, if it names a clause
abbrev pub NamesLits : List Clause → ℕ → Option (List Lit) → Type 0
NamesLits known hint None = slice_get known hint ≡ None
NamesLits known hint (Some lits) = slice_get known hint ≡ Some (record { lits = lits })

-- what entry number `index` may name
abbrev pub known_at : List Clause → List Entry → ℕ → List Clause
known_at clauses entries index = known_before clauses (take index entries)

-- each of the first entries, so many as this number, follows
abbrev pub AllFollow : List Clause → List Entry → ℕ → Type 0
AllFollow clauses entries count =
    (index : ℕ) (entry : Entry) → index < count → slice_get entries index ≡ Some entry → Follows (known_at clauses entries index) entry

pub record IsFirstFault (clauses : List Clause) (entries : List Entry) (index : ℕ) : Type 0 where
  pub within : index < length entries
  pub before : AllFollow clauses entries index
  pub fault : (entry : Entry) → slice_get entries index ≡ Some entry → ¬ Follows (known_at clauses entries index) entry

-- the empty clause is among the entries
abbrev pub HasEmpty : List Entry → Type 0
HasEmpty entries = Any (λ entry. entry.clause.lits ≡ []) entries

-- a log of which every entry follows, and one of them is the empty clause
pub record IsRefutation (clauses : List Clause) (entries : List Entry) : Type 0 where
  pub follow : AllFollow clauses entries (length entries)
  pub empty : HasEmpty entries

-- a log of which every entry follows, so many entries and none of them the empty clause
pub record IsDerivation (clauses : List Clause) (entries : List Entry) (count : ℕ) : Type 0 where
  pub follow : AllFollow clauses entries (length entries)
  pub not_empty : ¬ HasEmpty entries
  pub all : count ≡ length entries

-- An entry is new where it isn't empty, has no literal together with its opposite, and no clause that is
-- known has all its literals among those of the entry.
pub record IsNew (known : List Clause) (entry : Entry) : Type 0 where
  pub not_empty : entry.clause.lits ≢ []
  pub no_tautology : ¬ IsTautology entry.clause.lits
  pub not_known : All (λ clause. ¬ All (Contains entry.clause.lits) clause.lits) known

-- each entry is new
abbrev pub AllNew : List Clause → List Entry → Type 0
AllNew clauses entries =
    (index : ℕ) (entry : Entry) → slice_get entries index ≡ Some entry → IsNew (known_at clauses entries index) entry

-- each variable of an entry's literal is below this number
abbrev pub EntriesAreBelow : ℕ → List Entry → Type 0
EntriesAreBelow variables entries = All (λ entry. AreBelow variables entry.clause.lits) entries

-- the law of logs: what has a refutation has no assignment that satisfies it
abbrev pub RefutationIsSound : Type 0
RefutationIsSound = (clauses : List Clause) (entries : List Entry) → IsRefutation clauses entries → IsUnsatisfiable clauses
