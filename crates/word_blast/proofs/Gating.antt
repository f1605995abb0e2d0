-- One gate: its clauses make its variable equal to its value.
use Rattle.std.proofs.Common.{◌≡◌, ℕ, Bool, true, false, not, ◌&&◌, ◌||◌, if◌then◌else◌, List, [], ◌∷◌, ◌++◌, map, refl, sym, ◌∙◌, ap, true≢false}
use Rattle.std.specs.List.{list_any, list_all}
use Rattle.sat_check.specs.declared.clause.Lit.{Lit}
use Rattle.sat_check.specs.declared.clause.Clause.{Clause}
use Rattle.sat_check.specs.Clauses.{opposite_of}
use Rattle.word_blast.specs.declared.gate.Gate.{Gate}
use Rattle.word_blast.specs.declared.gate.Gate.TheVariants as gate
use Rattle.word_blast.specs.Gates.{Circuit, lit_of, clause_of, differ, gate_value, gate_lits, emit, bit, bits, clause_true, all_true, Holds}

-- the opposite of a literal is worth the opposite
pub bit-opposite : (a : ℕ → Bool) (l : Lit) → bit a (opposite_of l) ≡ not (bit a l)
unfolding bit
bit-opposite a l = by l.positive (a l.variable)
  where
    by : (p b : Bool) → (if not p then b else not b) ≡ not (if p then b else not b)
    by true b = refl
    by false true = refl
    by false false = refl

-- whether two truths are the same
abbrev pub same : Bool → Bool → Bool
same x y = not (differ x y)

pub same-true : (x y : Bool) → same x y ≡ true → x ≡ y
same-true true true h = refl
same-true true false h = absurd (true≢false (sym h))
same-true false true h = absurd (true≢false (sym h))
same-true false false h = refl

pub same-itself : (x : Bool) → same x x ≡ true
same-itself true = refl
same-itself false = refl

pub and-true : (x y : Bool) → (x && y) ≡ true → (x ≡ true) × (y ≡ true)
and-true true y h = (refl, h)
and-true false y h = absurd (true≢false (sym h))

-- two tests of four truths agree where they agree at each of the sixteen
abbrev pub agree : (Bool → Bool) → (Bool → Bool) → Bool
agree f g = same (f true) (g true) && same (f false) (g false)

pub agree-at : (f g : Bool → Bool) → agree f g ≡ true → (x : Bool) → f x ≡ g x
agree-at f g h true = same-true (f true) (g true) (and-true (same (f true) (g true)) (same (f false) (g false)) h).0
agree-at f g h false = same-true (f false) (g false) (and-true (same (f true) (g true)) (same (f false) (g false)) h).1

abbrev pub agree2 : (Bool → Bool → Bool) → (Bool → Bool → Bool) → Bool
agree2 f g = agree (f true) (g true) && agree (f false) (g false)

pub agree2-at : (f g : Bool → Bool → Bool) → agree2 f g ≡ true → (x y : Bool) → f x y ≡ g x y
agree2-at f g h true = agree-at (f true) (g true) (and-true (agree (f true) (g true)) (agree (f false) (g false)) h).0
agree2-at f g h false = agree-at (f false) (g false) (and-true (agree (f true) (g true)) (agree (f false) (g false)) h).1

abbrev pub agree3 : (Bool → Bool → Bool → Bool) → (Bool → Bool → Bool → Bool) → Bool
agree3 f g = agree2 (f true) (g true) && agree2 (f false) (g false)

pub agree3-at : (f g : Bool → Bool → Bool → Bool) → agree3 f g ≡ true → (x y z : Bool) → f x y z ≡ g x y z
agree3-at f g h true = agree2-at (f true) (g true) (and-true (agree2 (f true) (g true)) (agree2 (f false) (g false)) h).0
agree3-at f g h false = agree2-at (f false) (g false) (and-true (agree2 (f true) (g true)) (agree2 (f false) (g false)) h).1

abbrev pub agree4 : (Bool → Bool → Bool → Bool → Bool) → (Bool → Bool → Bool → Bool → Bool) → Bool
agree4 f g = agree3 (f true) (g true) && agree3 (f false) (g false)

pub agree4-at : (f g : Bool → Bool → Bool → Bool → Bool) → agree4 f g ≡ true → (w x y z : Bool) → f w x y z ≡ g w x y z
agree4-at f g h true = agree3-at (f true) (g true) (and-true (agree3 (f true) (g true)) (agree3 (f false) (g false)) h).0
agree4-at f g h false = agree3-at (f false) (g false) (and-true (agree3 (f true) (g true)) (agree3 (f false) (g false)) h).1

abbrev pub even_bits : Bool → Bool → Bool → Bool → List (List Bool)
even_bits o x y z = (o ∷ x ∷ y ∷ z ∷ []) ∷ (o ∷ x ∷ not y ∷ not z ∷ []) ∷ (o ∷ not x ∷ y ∷ not z ∷ []) ∷ (o ∷ not x ∷ not y ∷ z ∷ []) ∷ []

-- the clauses of a gate over truths in place of literals
abbrev pub gate_bits : Gate → Bool → Bool → Bool → Bool → List (List Bool)
gate_bits gate.And o x y z = (not o ∷ x ∷ []) ∷ (not o ∷ y ∷ []) ∷ (o ∷ not x ∷ not y ∷ []) ∷ []
gate_bits gate.Xor o x y z = (not o ∷ x ∷ y ∷ []) ∷ (not o ∷ not x ∷ not y ∷ []) ∷ (o ∷ not x ∷ y ∷ []) ∷ (o ∷ x ∷ not y ∷ []) ∷ []
gate_bits gate.Sum o x y z = even_bits (not o) x y z ++ even_bits o (not x) y z
gate_bits gate.Carry o x y z =
    (not o ∷ x ∷ y ∷ []) ∷ (not o ∷ x ∷ z ∷ []) ∷ (not o ∷ y ∷ z ∷ []) ∷ (o ∷ not x ∷ not y ∷ []) ∷ (o ∷ not x ∷ not z ∷ []) ∷ (o ∷ not y ∷ not z ∷ []) ∷ []
gate_bits gate.Pick o x y z = (not o ∷ not z ∷ x ∷ []) ∷ (o ∷ not z ∷ not x ∷ []) ∷ (not o ∷ z ∷ y ∷ []) ∷ (o ∷ z ∷ not y ∷ []) ∷ []

abbrev pub table : List (List Bool) → Bool
table rows = list_all (λ row. list_any (λ b. b) row) rows

pub gate_bits-table : (g : Gate) (o x y z : Bool) → table (gate_bits g o x y z) ≡ same o (gate_value g x y z)
gate_bits-table gate.And = agree4-at (λ o x y z. table (gate_bits gate.And o x y z)) (λ o x y z. same o (gate_value gate.And x y z)) refl
gate_bits-table gate.Xor = agree4-at (λ o x y z. table (gate_bits gate.Xor o x y z)) (λ o x y z. same o (gate_value gate.Xor x y z)) refl
gate_bits-table gate.Sum = agree4-at (λ o x y z. table (gate_bits gate.Sum o x y z)) (λ o x y z. same o (gate_value gate.Sum x y z)) refl
gate_bits-table gate.Carry = agree4-at (λ o x y z. table (gate_bits gate.Carry o x y z)) (λ o x y z. same o (gate_value gate.Carry x y z)) refl
gate_bits-table gate.Pick = agree4-at (λ o x y z. table (gate_bits gate.Pick o x y z)) (λ o x y z. same o (gate_value gate.Pick x y z)) refl

pub bits-gate_lits : (a : ℕ → Bool) (g : Gate) (o x y z : Lit) → map (bits a) (gate_lits g o x y z) ≡ gate_bits g (bit a o) (bit a x) (bit a y) (bit a z)
bits-gate_lits a gate.And o x y z = simp bit-opposite
bits-gate_lits a gate.Xor o x y z = simp bit-opposite
bits-gate_lits a gate.Sum o x y z = simp bit-opposite
bits-gate_lits a gate.Carry o x y z = simp bit-opposite
bits-gate_lits a gate.Pick o x y z = simp bit-opposite

pub list_any-bits : (a : ℕ → Bool) (ls : List Lit) → list_any (bit a) ls ≡ list_any (λ b. b) (bits a ls)
list_any-bits a [] = refl
list_any-bits a (l ∷ ls) = ap (λ b. bit a l || b) (list_any-bits a ls)

pub all_true-table : (a : ℕ → Bool) (lss : List (List Lit)) → all_true a (map clause_of lss) ≡ table (map (bits a) lss)
all_true-table a [] = refl
all_true-table a (ls ∷ lss) = ap (λ b. b && all_true a (map clause_of lss)) (list_any-bits a ls) ∙ ap (λ b. list_any (λ c. c) (bits a ls) && b) (all_true-table a lss)

-- the clauses of a gate hold exactly where its variable has its value
pub all_true-gate : (a : ℕ → Bool) (g : Gate) (o x y z : Lit) → all_true a (map clause_of (gate_lits g o x y z)) ≡ same (bit a o) (gate_value g (bit a x) (bit a y) (bit a z))
all_true-gate a g o x y z = all_true-table a (gate_lits g o x y z) ∙ ap table (bits-gate_lits a g o x y z) ∙ gate_bits-table g (bit a o) (bit a x) (bit a y) (bit a z)

pub all_true-append : (a : ℕ → Bool) (cs ds : List Clause) → all_true a (cs ++ ds) ≡ (all_true a cs && all_true a ds)
all_true-append a [] ds = refl
all_true-append a (c ∷ cs) ds = ap (λ b. clause_true a c.lits && b) (all_true-append a cs ds) ∙ sym (assoc (clause_true a c.lits) (all_true a cs) (all_true a ds))
  where
    assoc : (x y z : Bool) → ((x && y) && z) ≡ (x && (y && z))
    assoc true y z = refl
    assoc false y z = refl

-- where a circuit with one gate more holds, it holds without the gate, and the bit has the gate's value
pub emit-keeps : (a : ℕ → Bool) (g : Gate) (x y z : Lit) (k : Circuit) → Holds a (emit g x y z k).circuit → Holds a k
unfolding emit
emit-keeps a g x y z k h = (and-true (all_true a k.clauses) (all_true a (map clause_of (gate_lits g (lit_of k.variables) x y z))) (sym (all_true-append a k.clauses (map clause_of (gate_lits g (lit_of k.variables) x y z))) ∙ h)).0

pub emit-worth : (a : ℕ → Bool) (g : Gate) (x y z : Lit) (k : Circuit) → Holds a (emit g x y z k).circuit → bit a (emit g x y z k).lit ≡ gate_value g (bit a x) (bit a y) (bit a z)
unfolding emit
emit-worth a g x y z k h =
    let more : all_true a (map clause_of (gate_lits g (lit_of k.variables) x y z)) ≡ true =
    (and-true (all_true a k.clauses) (all_true a (map clause_of (gate_lits g (lit_of k.variables) x y z))) (sym (all_true-append a k.clauses (map clause_of (gate_lits g (lit_of k.variables) x y z))) ∙ h)).1 in
    same-true (bit a (lit_of k.variables)) (gate_value g (bit a x) (bit a y) (bit a z)) (sym (all_true-gate a g (lit_of k.variables) x y z) ∙ more)
