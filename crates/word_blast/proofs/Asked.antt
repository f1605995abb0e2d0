-- A query from its parts.
use Rattle.std.proofs.Common.{◌≡◌, ℕ, zero, suc, ◌<◌, List, [], ◌∷◌, ◌++◌, length, map, sym, ◌∙◌, ap, subst, arith, All}
use Rattle.std.proofs.lemmas.List.{map-append}
use Rattle.sat_check.specs.declared.clause.Clause.{Clause}
use Rattle.word_terms.specs.declared.node.TermId.{TermId}
use Rattle.word_terms.specs.Tables.{Table}
use Rattle.word_terms.specs.Weights.{is_under, weight_of}
use Rattle.word_blast.specs.declared.blasted.Input.{Input}
use Rattle.word_blast.specs.Circuits.{Blasted, Whole, blasted, nothing_blasted, true_clauses, false_clauses, circuit}
use Rattle.word_blast.specs.Valuations.{AreTruths}

module _ (t : Table) (truths falsehoods roots : List TermId) (e : roots ≡ truths ++ falsehoods) where
  numbers : map (λ (r : TermId). r.0) roots ≡ map (λ (r : TermId). r.0) truths ++ map (λ (r : TermId). r.0) falsehoods
  numbers = ap (map (λ (r : TermId). r.0)) e ∙ map-append (λ (r : TermId). r.0) truths falsehoods

  pub whole-is : (b : Blasted) (v : ℕ) (cs : List Clause) (ins : List Input)
      → b ≡ blasted (is_under t.nodes (map (λ (r : TermId). r.0) roots)) 0 t.nodes (nothing_blasted (length t.sorts)) → v ≡ b.circuit.variables
      → cs ≡ b.circuit.clauses ++ true_clauses b.rows (map (λ (r : TermId). r.0) truths) ++ false_clauses b.rows (map (λ (r : TermId). r.0) falsehoods) → ins ≡ b.inputs
      → (let w : Whole = record { variables = v; clauses = cs; inputs = ins } in w) ≡ circuit t (map (λ (r : TermId). r.0) truths) (map (λ (r : TermId). r.0) falsehoods)
  unfolding circuit
  whole-is b v cs ins be ve ce ie =
      ap (λ n. let w : Whole = record { variables = n; clauses = cs; inputs = ins } in w) ve
      ∙ ap (λ c. let w : Whole = record { variables = b.circuit.variables; clauses = c; inputs = ins } in w) ce
      ∙ ap (λ i. let w : Whole = record { variables = b.circuit.variables; clauses = b.circuit.clauses ++ true_clauses b.rows (map (λ (r : TermId). r.0) truths) ++ false_clauses b.rows (map (λ (r : TermId). r.0) falsehoods); inputs = i } in w) ie
      ∙ ap (λ x. let w : Whole = record { variables = x.circuit.variables; clauses = x.circuit.clauses ++ true_clauses x.rows (map (λ (r : TermId). r.0) truths) ++ false_clauses x.rows (map (λ (r : TermId). r.0) falsehoods); inputs = x.inputs } in w)
      (be ∙ ap (λ ns. blasted (is_under t.nodes ns) 0 t.nodes (nothing_blasted (length t.sorts))) numbers)

  pub weight-is : (w : ℕ) → w ≡ weight_of t.nodes (map (λ (r : TermId). r.0) roots) → w ≡ weight_of t.nodes (map (λ (r : TermId). r.0) truths ++ map (λ (r : TermId). r.0) falsehoods)
  weight-is w h = h ∙ ap (weight_of t.nodes) numbers

  -- the roots are terms of the table
  pub in-range : AreTruths t.nodes (map (λ (r : TermId). r.0) truths) → AreTruths t.nodes (map (λ (r : TermId). r.0) falsehoods) → All (λ r. r.0 < length t.nodes) roots
  in-range ht hf = subst (All (λ r. r.0 < length t.nodes)) (sym e) (both truths ht)
    where
      one : (ts : List TermId) → AreTruths t.nodes (map (λ (r : TermId). r.0) ts) → All (λ r. r.0 < length t.nodes) ts
      one [] h k d l = absurd (omega arith)
      one (x ∷ xs) h zero d l = (h 0 0 (omega arith)).0
      one (x ∷ xs) h (suc k) d l = one xs (λ j z m. h (suc j) z (omega arith)) k d (omega arith)

      both : (ts : List TermId) → AreTruths t.nodes (map (λ (r : TermId). r.0) ts) → All (λ r. r.0 < length t.nodes) (ts ++ falsehoods)
      both [] h k d l = one falsehoods hf k d l
      both (x ∷ xs) h zero d l = (h 0 0 (omega arith)).0
      both (x ∷ xs) h (suc k) d l = both xs (λ j z m. h (suc j) z (omega arith)) k d (omega arith)
