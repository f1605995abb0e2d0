-- Places of a trail, and hints that refute.
use Rattle.std.proofs.Common.{◌≡◌, ℕ, ◌<◌, List, [], ◌∷◌, Option, Some, None, length, take, sym, subst, inl, inr}
use Rattle.std.specs.Option.{IsSome}
use Rattle.std.specs.List.{slice_get, Contains}
use Rattle.std.proofs.lemmas.Bool.{cases_order, false≢true}
use Rattle.std.proofs.lemmas.Option.{none-some}
use Rattle.sat_check.specs.declared.clause.Lit.{Lit}
use Rattle.sat_check.specs.declared.clause.Clause.{Clause}
use Rattle.sat_check.specs.Clauses.{opposite_of}
use Rattle.sat_check.specs.Logs.{IsUnit, Refutes}
use Rattle.sat_check.specs.Literals.{same_lit, cases_sign, opposite-opposite}
use Rattle.search_base.specs.declared.trail.Slot.{Slot}
use Rattle.search_base.specs.declared.trail.Step.{Step}
use Rattle.search_base.specs.Trails.{falses_of, Keeps}
use Rattle.search_base.specs.Places.{place_of, false_by}

-- a step and an earlier one have different variables
pub earlier_apart :
    (known : List Clause) (slots : List Slot) (steps : List Step) → Keeps known slots steps
    → (i k : ℕ) (a b : Step) → i < k → slice_get steps i ≡ Some a → slice_get steps k ≡ Some b → a.falsified.variable ≡ b.falsified.variable → ⊥
earlier_apart known slots steps keeps i k a b less at_a at_b same =
    let is = keeps.each k b at_b in
    let before : Contains (falses_of (take k steps)) a.falsified = false_by k steps i a less at_a in
    elim (cases_sign a.falsified.positive b.falsified.positive) [
      | inl sign ↦ is.without_value.not_false (subst (Contains (falses_of (take k steps))) (same_lit a.falsified b.falsified same sign) before)
      | inr sign ↦ is.without_value.not_true (subst (Contains (falses_of (take k steps))) (same_lit a.falsified (opposite_of b.falsified) same sign) before)
    ]

-- no two steps have one variable
pub one_place :
    (known : List Clause) (slots : List Slot) (steps : List Step) → Keeps known slots steps
    → (i k : ℕ) (a b : Step) → slice_get steps i ≡ Some a → slice_get steps k ≡ Some b → a.falsified.variable ≡ b.falsified.variable → i ≡ k
one_place known slots steps keeps i k a b at_a at_b same =
    elim (cases_order i k) [
      | inl it ↦ it
      | inr apart ↦
          elim apart [
            | inl less ↦ absurd (earlier_apart known slots steps keeps i k a b less at_a at_b same)
            | inr more ↦ absurd (earlier_apart known slots steps keeps k i b a more at_b at_a (sym same))
          ]
    ]

pub no_some : {X : Type 0} (o : Option X) → o ≡ None → IsSome o → ⊥
no_some None e h = false≢true h
no_some (Some x) e h = none-some x (sym e)

-- one hint more at the front
pub Refutes-cons :
    (known : List Clause) (falses : List Lit) (hint : ℕ) (hints : List ℕ) (clause : Clause) (f : Lit)
    → slice_get known hint ≡ Some clause → IsUnit falses clause.lits (opposite_of f) → Refutes known (f ∷ falses) hints → Refutes known falses (hint ∷ hints)
Refutes-cons known falses hint [] clause f named unit then = absurd then
Refutes-cons known falses hint (next ∷ rest) clause f named unit then =
    (clause, opposite_of f, named, unit, subst (λ (l : Lit). Refutes known (l ∷ falses) (next ∷ rest)) (sym (opposite-opposite f)) then)

-- what is false is below
pub false_below : (known : List Clause) (slots : List Slot) (steps : List Step) (lit : Lit) → Keeps known slots steps → Contains (falses_of steps) lit → lit.variable < length slots
false_below known slots steps lit keeps h =
    let (place, it) = place_of steps lit h in
    subst (λ (l : Lit). l.variable < length slots) it.same (keeps.each place it.step it.at).below
