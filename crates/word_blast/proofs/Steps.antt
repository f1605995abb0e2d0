-- The loops over words, one place at a time.
use Rattle.std.proofs.Common.{◌≡◌, ℕ, suc, ◌+◌, ◌<◌, ◌≤◌, min, List, [], ◌∷◌, ◌++◌, length, get_or, drop, map, refl, sym, ◌∙◌, ap, arith, append_assoc, add-one, ◌⊎◌, inl, inr}
use Rattle.std.proofs.lemmas.List.{drop_all}
use Rattle.std.proofs.Math.Seq.{drop-cons}
use Rattle.sat_check.specs.declared.clause.Lit.{Lit}
use Rattle.sat_check.specs.declared.clause.Clause.{Clause}
use Rattle.word_blast.specs.declared.gate.Gate.{Gate}
use Rattle.word_blast.specs.declared.gate.Gate.TheVariants as gate
use Rattle.word_blast.specs.Gates.{Circuit, Made, Row, lit_of, clause_of, gate_lits, emit}
use Rattle.word_blast.specs.Groups.{each, Added, add, carry, all}

add_nil : (xs : List Lit) → xs ++ [] ≡ xs
add_nil [] = refl
add_nil (x ∷ xs) = ap (λ ys. x ∷ ys) (add_nil xs)

-- one of two lists is at its end
past : (xs ys : List Lit) (i : ℕ) → min (length xs) (length ys) ≤ i → (length xs ≤ i) ⊎ (length ys ≤ i)
past xs ys i h = grind arith

module _ (g : Gate) (xs ys : List Lit) (z : Lit) where
  each-at : (i : ℕ) (d : Lit) (k : Circuit) → i < min (length xs) (length ys)
      → each g (drop i xs) (drop i ys) z k ≡ each g (get_or xs i d ∷ drop (suc i) xs) (get_or ys i d ∷ drop (suc i) ys) z k
  each-at i d k h =
      let hx : i < length xs = omega arith in
      let hy : i < length ys = omega arith in
      ap (λ us. each g us (drop i ys) z k) (drop-cons xs i d hx) ∙ ap (λ us. each g (get_or xs i d ∷ drop (suc i) xs) us z k) (drop-cons ys i d hy)

  -- the rest of the places give the rest of the bits
  pub each-step : (i : ℕ) (d : Lit) (k next : Circuit) (out more bits : List Lit) (bit : Lit) (last : Circuit) → i < min (length xs) (length ys)
      → bit ≡ (emit g (get_or xs i d) (get_or ys i d) z k).lit → next ≡ (emit g (get_or xs i d) (get_or ys i d) z k).circuit → more ≡ out ++ bit ∷ []
      → (out ++ (each g (drop i xs) (drop i ys) z k).bits ≡ bits) × ((each g (drop i xs) (drop i ys) z k).circuit ≡ last)
      → (more ++ (each g (drop (i + 1) xs) (drop (i + 1) ys) z next).bits ≡ bits) × ((each g (drop (i + 1) xs) (drop (i + 1) ys) z next).circuit ≡ last)
  unfolding each
  each-step i d k next out more bits bit last h b n m e =
      let m1 : Made = emit g (get_or xs i d) (get_or ys i d) z k in
      let rest : Row = each g (drop (suc i) xs) (drop (suc i) ys) z m1.circuit in
      let at : each g (drop i xs) (drop i ys) z k ≡ record { bits = m1.lit ∷ rest.bits; circuit = rest.circuit } = each-at i d k h in
      let there : each g (drop (i + 1) xs) (drop (i + 1) ys) z next ≡ rest =
      ap (λ j. each g (drop j xs) (drop j ys) z next) (add-one i) ∙ ap (each g (drop (suc i) xs) (drop (suc i) ys) z) n in (
        ap (λ us. us ++ (each g (drop (i + 1) xs) (drop (i + 1) ys) z next).bits) (m ∙ ap (λ l. out ++ l ∷ []) b)
            ∙ ap (λ r. (out ++ m1.lit ∷ []) ++ r.bits) there
            ∙ append_assoc out (m1.lit ∷ []) rest.bits
            ∙ ap (λ r. out ++ r.bits) (sym at) ∙ e.0,
        ap (λ r. r.circuit) there ∙ ap (λ r. r.circuit) (sym at) ∙ e.1,
      )

  each-none : (i : ℕ) (k : Circuit) → min (length xs) (length ys) ≤ i → each g (drop i xs) (drop i ys) z k ≡ record { bits = []; circuit = k }
  unfolding each
  each-none i k h = elim (past xs ys i h) as (λ _. each g (drop i xs) (drop i ys) z k ≡ record { bits = []; circuit = k }) [
    | inl e ↦ ap (λ us. each g us (drop i ys) z k) (drop_all i xs e)
    | inr e ↦ ap (λ us. each g (drop i xs) us z k) (drop_all i ys e) ∙ none (drop i xs)
  ]
    where
      none : (us : List Lit) → each g us [] z k ≡ record { bits = []; circuit = k }
      none [] = refl
      none (u ∷ us) = refl

  pub each-end : (i : ℕ) (k : Circuit) (out bits : List Lit) (last : Circuit) → min (length xs) (length ys) ≤ i
      → (out ++ (each g (drop i xs) (drop i ys) z k).bits ≡ bits) × ((each g (drop i xs) (drop i ys) z k).circuit ≡ last) → (out ≡ bits) × (k ≡ last)
  each-end i k out bits last h e =
      let n : each g (drop i xs) (drop i ys) z k ≡ record { bits = []; circuit = k } = each-none i k h in
      (sym (add_nil out) ∙ ap (λ r. out ++ r.bits) (sym n) ∙ e.0, ap (λ r. r.circuit) (sym n) ∙ e.1)

module _ (xs ys : List Lit) where
  add-at : (i : ℕ) (d c : Lit) (k : Circuit) → i < min (length xs) (length ys) → add (drop i xs) (drop i ys) c k ≡ add (get_or xs i d ∷ drop (suc i) xs) (get_or ys i d ∷ drop (suc i) ys) c k
  add-at i d c k h =
      let hx : i < length xs = omega arith in
      let hy : i < length ys = omega arith in
      ap (λ us. add us (drop i ys) c k) (drop-cons xs i d hx) ∙ ap (λ us. add (get_or xs i d ∷ drop (suc i) xs) us c k) (drop-cons ys i d hy)

  pub add-step : (i : ℕ) (d c : Lit) (k mid next : Circuit) (out more bits : List Lit) (bit over final : Lit) (last : Circuit) → i < min (length xs) (length ys)
      → bit ≡ (emit gate.Sum (get_or xs i d) (get_or ys i d) c k).lit → mid ≡ (emit gate.Sum (get_or xs i d) (get_or ys i d) c k).circuit
      → over ≡ (emit gate.Carry (get_or xs i d) (get_or ys i d) c mid).lit → next ≡ (emit gate.Carry (get_or xs i d) (get_or ys i d) c mid).circuit → more ≡ out ++ bit ∷ []
      → (out ++ (add (drop i xs) (drop i ys) c k).bits ≡ bits) × ((add (drop i xs) (drop i ys) c k).carry ≡ final) × ((add (drop i xs) (drop i ys) c k).circuit ≡ last)
      → (more ++ (add (drop (i + 1) xs) (drop (i + 1) ys) over next).bits ≡ bits) × ((add (drop (i + 1) xs) (drop (i + 1) ys) over next).carry ≡ final) × ((add (drop (i + 1) xs) (drop (i + 1) ys) over next).circuit ≡ last)
  unfolding add
  add-step i d c k mid next out more bits bit over final last h b me o n m e =
      let s : Made = emit gate.Sum (get_or xs i d) (get_or ys i d) c k in
      let t : Made = emit gate.Carry (get_or xs i d) (get_or ys i d) c s.circuit in
      let rest : Added = add (drop (suc i) xs) (drop (suc i) ys) t.lit t.circuit in
      let at : add (drop i xs) (drop i ys) c k ≡ record { bits = s.lit ∷ rest.bits; carry = rest.carry; circuit = rest.circuit } = add-at i d c k h in
      let mt : emit gate.Carry (get_or xs i d) (get_or ys i d) c mid ≡ t = ap (emit gate.Carry (get_or xs i d) (get_or ys i d) c) me in
      let there : add (drop (i + 1) xs) (drop (i + 1) ys) over next ≡ rest =
      ap (λ j. add (drop j xs) (drop j ys) over next) (add-one i) ∙ ap (λ l. add (drop (suc i) xs) (drop (suc i) ys) l next) (o ∙ ap (λ x. x.lit) mt)
      ∙ ap (add (drop (suc i) xs) (drop (suc i) ys) t.lit) (n ∙ ap (λ x. x.circuit) mt) in (
        ap (λ us. us ++ (add (drop (i + 1) xs) (drop (i + 1) ys) over next).bits) (m ∙ ap (λ l. out ++ l ∷ []) b)
            ∙ ap (λ r. (out ++ s.lit ∷ []) ++ r.bits) there
            ∙ append_assoc out (s.lit ∷ []) rest.bits
            ∙ ap (λ r. out ++ r.bits) (sym at) ∙ e.0,
        ap (λ r. r.carry) there ∙ ap (λ r. r.carry) (sym at) ∙ e.1,
        ap (λ r. r.circuit) there ∙ ap (λ r. r.circuit) (sym at) ∙ e.2,
      )

  add-none : (i : ℕ) (c : Lit) (k : Circuit) → min (length xs) (length ys) ≤ i → add (drop i xs) (drop i ys) c k ≡ record { bits = []; carry = c; circuit = k }
  unfolding add
  add-none i c k h = elim (past xs ys i h) as (λ _. add (drop i xs) (drop i ys) c k ≡ record { bits = []; carry = c; circuit = k }) [
    | inl e ↦ ap (λ us. add us (drop i ys) c k) (drop_all i xs e)
    | inr e ↦ ap (λ us. add (drop i xs) us c k) (drop_all i ys e) ∙ none (drop i xs)
  ]
    where
      none : (us : List Lit) → add us [] c k ≡ record { bits = []; carry = c; circuit = k }
      none [] = refl
      none (u ∷ us) = refl

  pub add-end : (i : ℕ) (c : Lit) (k : Circuit) (out bits : List Lit) (final : Lit) (last : Circuit) → min (length xs) (length ys) ≤ i
      → (out ++ (add (drop i xs) (drop i ys) c k).bits ≡ bits) × ((add (drop i xs) (drop i ys) c k).carry ≡ final) × ((add (drop i xs) (drop i ys) c k).circuit ≡ last)
      → (out ≡ bits) × (c ≡ final) × (k ≡ last)
  add-end i c k out bits final last h e =
      let n : add (drop i xs) (drop i ys) c k ≡ record { bits = []; carry = c; circuit = k } = add-none i c k h in
      (sym (add_nil out) ∙ ap (λ r. out ++ r.bits) (sym n) ∙ e.0, ap (λ r. r.carry) (sym n) ∙ e.1, ap (λ r. r.circuit) (sym n) ∙ e.2)

  pub carry-step : (i : ℕ) (d c : Lit) (k next : Circuit) (over : Lit) (made : Made) → i < min (length xs) (length ys)
      → over ≡ (emit gate.Carry (get_or xs i d) (get_or ys i d) c k).lit → next ≡ (emit gate.Carry (get_or xs i d) (get_or ys i d) c k).circuit
      → carry (drop i xs) (drop i ys) c k ≡ made → carry (drop (i + 1) xs) (drop (i + 1) ys) over next ≡ made
  unfolding carry
  carry-step i d c k next over made h o n e =
      let t : Made = emit gate.Carry (get_or xs i d) (get_or ys i d) c k in
      let hx : i < length xs = omega arith in
      let hy : i < length ys = omega arith in
      ap (λ j. carry (drop j xs) (drop j ys) over next) (add-one i) ∙ ap (λ l. carry (drop (suc i) xs) (drop (suc i) ys) l next) o ∙ ap (carry (drop (suc i) xs) (drop (suc i) ys) t.lit) n
      ∙ sym (ap (λ us. carry us (drop i ys) c k) (drop-cons xs i d hx) ∙ ap (λ us. carry (get_or xs i d ∷ drop (suc i) xs) us c k) (drop-cons ys i d hy)) ∙ e

  pub carry-end : (i : ℕ) (c : Lit) (k : Circuit) (made : Made) → min (length xs) (length ys) ≤ i → carry (drop i xs) (drop i ys) c k ≡ made → (c ≡ made.lit) × (k ≡ made.circuit)
  unfolding carry
  carry-end i c k made h e =
      let n : carry (drop i xs) (drop i ys) c k ≡ record { lit = c; circuit = k } = elim (past xs ys i h) as (λ _. carry (drop i xs) (drop i ys) c k ≡ record { lit = c; circuit = k }) [
        | inl p ↦ ap (λ us. carry us (drop i ys) c k) (drop_all i xs p)
        | inr p ↦ ap (λ us. carry (drop i xs) us c k) (drop_all i ys p) ∙ none (drop i xs)
      ] in
      (ap (λ m. m.lit) (sym n ∙ e), ap (λ m. m.circuit) (sym n ∙ e))
    where
      none : (us : List Lit) → carry us [] c k ≡ record { lit = c; circuit = k }
      none [] = refl
      none (u ∷ us) = refl

pub all-step : (xs : List Lit) (i : ℕ) (d b : Lit) (k next : Circuit) (bit : Lit) (made : Made) → i < length xs
    → bit ≡ (emit gate.And b (get_or xs i d) (get_or xs i d) k).lit → next ≡ (emit gate.And b (get_or xs i d) (get_or xs i d) k).circuit
    → all b (drop i xs) k ≡ made → all bit (drop (i + 1) xs) next ≡ made
unfolding all
all-step xs i d b k next bit made h o n e =
    let t : Made = emit gate.And b (get_or xs i d) (get_or xs i d) k in
    ap (λ j. all bit (drop j xs) next) (add-one i) ∙ ap (λ l. all l (drop (suc i) xs) next) o ∙ ap (all t.lit (drop (suc i) xs)) n
    ∙ sym (ap (λ us. all b us k) (drop-cons xs i d h)) ∙ e

pub all-end : (xs : List Lit) (i : ℕ) (b : Lit) (k : Circuit) (made : Made) → length xs ≤ i → all b (drop i xs) k ≡ made → (b ≡ made.lit) × (k ≡ made.circuit)
unfolding all
all-end xs i b k made h e =
    let n : all b (drop i xs) k ≡ record { lit = b; circuit = k } = ap (λ us. all b us k) (drop_all i xs h) in
    (ap (λ m. m.lit) (sym n ∙ e), ap (λ m. m.circuit) (sym n ∙ e))

-- a gate, from a new variable and its clauses
pub emit-from : (g : Gate) (x y z : Lit) (k mid new : Circuit) (v : ℕ) → v ≡ k.variables → mid ≡ record { variables = k.variables + 1; clauses = k.clauses }
    → new ≡ record { variables = mid.variables; clauses = mid.clauses ++ map clause_of (gate_lits g (lit_of v) x y z) }
    → new ≡ (emit g x y z k).circuit
unfolding emit
emit-from g x y z k mid new v e m n =
    n ∙ ap (λ j. let c : Circuit = record { variables = j.variables; clauses = j.clauses ++ map clause_of (gate_lits g (lit_of v) x y z) } in c) m
    ∙ ap (λ u. let c : Circuit = record { variables = k.variables + 1; clauses = k.clauses ++ map clause_of (gate_lits g (lit_of u) x y z) } in c) e
    ∙ ap (λ u. let c : Circuit = record { variables = u; clauses = k.clauses ++ map clause_of (gate_lits g (lit_of k.variables) x y z) } in c) (add-one k.variables)

pub emit-lit : (g : Gate) (x y z : Lit) (k : Circuit) (v : ℕ) → v ≡ k.variables → lit_of v ≡ (emit g x y z k).lit
unfolding emit
emit-lit g x y z k v e = ap lit_of e

-- clauses added twice
pub clauses-twice : (k mid new : Circuit) (cs ds : List Clause) → mid ≡ record { variables = k.variables; clauses = k.clauses ++ cs } → new ≡ record { variables = mid.variables; clauses = mid.clauses ++ ds }
    → new ≡ record { variables = k.variables; clauses = k.clauses ++ (cs ++ ds) }
clauses-twice k mid new cs ds m n =
    n ∙ ap (λ j. let c : Circuit = record { variables = j.variables; clauses = j.clauses ++ ds } in c) m
    ∙ ap (λ es. let c : Circuit = record { variables = k.variables; clauses = es } in c) (append_assoc k.clauses cs ds)
