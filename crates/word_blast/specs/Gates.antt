-- Gates as clauses (Tseitin's encoding): each gate has a variable of its own, which its clauses make
-- equal to the gate's value. Which gates there are is this project's own choice.
use Rattle.std.specs.Prelude.{◌≡◌, ℕ, suc, Bool, true, false, not, ◌&&◌, ◌||◌, List, [], ◌∷◌, ◌++◌, map, if◌then◌else◌}
use Rattle.std.specs.List.{list_any, list_all}
use Rattle.sat_check.specs.declared.clause.Lit.{Lit}
use Rattle.sat_check.specs.declared.clause.Clause.{Clause}
use Rattle.sat_check.specs.Clauses.{opposite_of as opp}
use Rattle.word_blast.specs.declared.gate.Gate.{Gate}
use Rattle.word_blast.specs.declared.gate.Gate.TheVariants as gate

-- the variables that are in use, and the clauses so far
pub record Circuit : Type 0 where
  pub variables : ℕ
  pub clauses : List Clause

-- a circuit in which a bit stands, and one in which a list of bits stands, least first
pub record Made : Type 0 where
  pub lit : Lit
  pub circuit : Circuit

pub record Row : Type 0 where
  pub bits : List Lit
  pub circuit : Circuit

-- the literal of a variable
abbrev pub lit_of : ℕ → Lit
lit_of v = record { variable = v; positive = true }

-- variable 0 is true
abbrev pub constant_lit : Bool → Lit
constant_lit b = record { variable = 0; positive = b }

abbrev pub clause_of : List Lit → Clause
clause_of lits = record { lits = lits }

-- the clause of the variable 0
abbrev pub first_circuit : Circuit
first_circuit = record { variables = 1; clauses = clause_of (constant_lit true ∷ []) ∷ [] }

abbrev pub differ : Bool → Bool → Bool
differ true b = not b
differ false b = b

-- `Sum` and `Carry` are the two bits of a sum of three, and `Pick` is the first where the third is true
abbrev pub gate_value : Gate → Bool → Bool → Bool → Bool
gate_value gate.And x y z = x && y
gate_value gate.Xor x y z = differ x y
gate_value gate.Sum x y z = differ x (differ y z)
gate_value gate.Carry x y z = if x then y || z else y && z
gate_value gate.Pick x y z = if z then x else y

-- the literals of the clauses that make o true where an even number of the others is
abbrev pub even_lits : Lit → Lit → Lit → Lit → List (List Lit)
even_lits o x y z = (o ∷ x ∷ y ∷ z ∷ []) ∷ (o ∷ x ∷ opp y ∷ opp z ∷ []) ∷ (o ∷ opp x ∷ y ∷ opp z ∷ []) ∷ (o ∷ opp x ∷ opp y ∷ z ∷ []) ∷ []

-- the literals of the clauses that make o equal to a gate's value
abbrev pub gate_lits : Gate → Lit → Lit → Lit → Lit → List (List Lit)
gate_lits gate.And o x y z = (opp o ∷ x ∷ []) ∷ (opp o ∷ y ∷ []) ∷ (o ∷ opp x ∷ opp y ∷ []) ∷ []
gate_lits gate.Xor o x y z = (opp o ∷ x ∷ y ∷ []) ∷ (opp o ∷ opp x ∷ opp y ∷ []) ∷ (o ∷ opp x ∷ y ∷ []) ∷ (o ∷ x ∷ opp y ∷ []) ∷ []
gate_lits gate.Sum o x y z = even_lits (opp o) x y z ++ even_lits o (opp x) y z
gate_lits gate.Carry o x y z =
    (opp o ∷ x ∷ y ∷ []) ∷ (opp o ∷ x ∷ z ∷ []) ∷ (opp o ∷ y ∷ z ∷ []) ∷ (o ∷ opp x ∷ opp y ∷ []) ∷ (o ∷ opp x ∷ opp z ∷ []) ∷ (o ∷ opp y ∷ opp z ∷ []) ∷ []
gate_lits gate.Pick o x y z = (opp o ∷ opp z ∷ x ∷ []) ∷ (o ∷ opp z ∷ opp x ∷ []) ∷ (opp o ∷ z ∷ y ∷ []) ∷ (o ∷ z ∷ opp y ∷ []) ∷ []

-- a circuit with one gate more, whose bit is a new variable
unfoldable pub emit : Gate → Lit → Lit → Lit → Circuit → Made
emit g x y z k = record {
  lit = lit_of k.variables;
  circuit = record { variables = suc k.variables; clauses = k.clauses ++ map clause_of (gate_lits g (lit_of k.variables) x y z) };
}

-- what a literal is worth under an assignment, and whether clauses are true
unfoldable pub bit : (ℕ → Bool) → Lit → Bool
bit a l = if l.positive then a l.variable else not (a l.variable)

abbrev pub bits : (ℕ → Bool) → List Lit → List Bool
bits a ls = map (bit a) ls

abbrev pub clause_true : (ℕ → Bool) → List Lit → Bool
clause_true a ls = list_any (bit a) ls

abbrev pub all_true : (ℕ → Bool) → List Clause → Bool
all_true a cs = list_all (λ c. clause_true a c.lits) cs

abbrev pub Holds : (ℕ → Bool) → Circuit → Type 0
Holds a k = all_true a k.clauses ≡ true
