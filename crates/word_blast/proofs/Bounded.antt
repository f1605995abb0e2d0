-- The clauses of a circuit speak of its variables alone.
use Rattle.std.proofs.Common.{◌≡◌, ℕ, zero, suc, ◌+◌, ◌<◌, List, [], ◌∷◌, ◌++◌, length, get_or, subst, arith, All}
use Rattle.sat_check.specs.declared.clause.Lit.{Lit}
use Rattle.sat_check.specs.declared.clause.Clause.{Clause}
use Rattle.sat_check.specs.Clauses.{AreBelow, ClausesAreBelow}
use Rattle.word_terms.specs.Tables.{Table}
use Rattle.word_terms.specs.Weights.{is_under}
use Rattle.word_blast.specs.Bits.{least}
use Rattle.word_blast.specs.Groups.{zero_lit}
use Rattle.word_blast.specs.Circuits.{row_at, Blasted, blasted_terms, true_clauses, false_clauses, circuit}
use Rattle.word_blast.specs.Bounds.{CircuitsAreBelow}
use Rattle.word_blast.proofs.Building.{LitsBelow, ClausesBelow, ClausesBelow-append}
use Rattle.word_blast.proofs.Rows.{Stands}
use Rattle.word_blast.proofs.Exact.{terms-end}

AreBelow-lits : (v : ℕ) (ls : List Lit) → LitsBelow v ls → AreBelow v ls
AreBelow-lits v [] h k d l = absurd (omega arith)
AreBelow-lits v (x ∷ xs) h zero d l = h.0
AreBelow-lits v (x ∷ xs) h (suc k) d l = AreBelow-lits v xs h.1 k d (omega arith)

ClausesAreBelow-clauses : (v : ℕ) (cs : List Clause) → ClausesBelow v cs → ClausesAreBelow v cs
ClausesAreBelow-clauses v [] h k d l = absurd (omega arith)
ClausesAreBelow-clauses v (c ∷ cs) h zero d l = AreBelow-lits v c.lits h.0
ClausesAreBelow-clauses v (c ∷ cs) h (suc k) d l = ClausesAreBelow-clauses v cs h.1 k d (omega arith)

-- the literal of a root
least-below : (v : ℕ) (row : List Lit) → 0 < v → LitsBelow v row → (least zero_lit row).variable < v
least-below v [] some h = some
least-below v (l ∷ ls) some h = h.0

-- the clauses of roots
module _ (v : ℕ) (rows : List (List Lit)) where
  true-below : (ts : List ℕ) → All (λ t. (least zero_lit (row_at rows t)).variable < v) ts → ClausesBelow v (true_clauses rows ts)
  true-below [] h = tt
  true-below (t ∷ ts) h = ((h 0 t (omega arith), tt), true-below ts (λ k d l. h (suc k) d (omega arith)))

  false-below : (ts : List ℕ) → All (λ t. (least zero_lit (row_at rows t)).variable < v) ts → ClausesBelow v (false_clauses rows ts)
  false-below [] h = tt
  false-below (t ∷ ts) h = ((h 0 t (omega arith), tt), false-below ts (λ k d l. h (suc k) d (omega arith)))

pub circuit-below : CircuitsAreBelow
unfolding circuit
circuit-below t truths falsehoods ok ts fs =
    ClausesAreBelow-clauses v (b.circuit.clauses ++ true_clauses b.rows truths ++ false_clauses b.rows falsehoods)
    (ClausesBelow-append v (b.circuit.clauses ++ true_clauses b.rows truths) (false_clauses b.rows falsehoods)
    (ClausesBelow-append v b.circuit.clauses (true_clauses b.rows truths) s.formed.below (true-below v b.rows truths (λ k d l. below (get_or truths k d) (ts k d l).0)))
    (false-below v b.rows falsehoods (λ k d l. below (get_or falsehoods k d) (fs k d l).0)))
  where
    b : Blasted
    b = blasted_terms t truths falsehoods

    v : ℕ
    v = b.circuit.variables

    s : Stands t (is_under t.nodes (truths ++ falsehoods)) b (length t.nodes)
    s = subst (Stands t (is_under t.nodes (truths ++ falsehoods)) b) (let e : 0 + length t.nodes ≡ length t.nodes = omega arith in e) (terms-end t ok truths falsehoods).stands

    below : (r : ℕ) → r < length t.nodes → (least zero_lit (row_at b.rows r)).variable < v
    below r h = least-below v (row_at b.rows r) s.formed.some (s.inside r h)
