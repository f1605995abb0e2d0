-- Laws of literals, and of lists that contain a value.
use Rattle.std.proofs.Common.{◌≡◌, ◌⊎◌, ◌∙◌, ℕ, zero, suc, ◌<◌, Bool, true, false, not, List, [], ◌∷◌, ◌++◌, Some, length, set, take, drop, eqb, arith, refl, ap, subst, inl, inr}
use mathlib.Core.Bool.{beq, ◌&&◌}
use Rattle.std.specs.List.{Contains, slice_get}
use Rattle.std.proofs.lemmas.Bool.{and_parts, and_from, eqb-true, eq-eqb}
use Rattle.std.proofs.lemmas.Option.{slice_get-get_or, get_or_from_slice_get, slice_get_within}
use Rattle.std.proofs.lemmas.List.{take-append-drop}
use Rattle.std.proofs.lemmas.List.Elements.{Contains-push, Contains-append_left, Contains-push_cases}
use Rattle.sat_check.specs.declared.clause.Lit.{Lit}
use Rattle.sat_check.specs.Clauses.{opposite_of}

pub same_lit : (a b : Lit) → a.variable ≡ b.variable → a.positive ≡ b.positive → a ≡ b
same_lit a b p q =
    let by_variable : a ≡ record { variable = b.variable; positive = a.positive } = ap (λ (v : ℕ). let lit : Lit = record { variable = v; positive = a.positive } in lit) p in
    let by_sign : record { variable = b.variable; positive = a.positive } ≡ b = ap (λ (s : Bool). let lit : Lit = record { variable = b.variable; positive = s } in lit) q in
    by_variable ∙ by_sign

pub not-not : (s : Bool) → not (not s) ≡ s
not-not true = refl
not-not false = refl

pub not-same : (s : Bool) → s ≡ not s → ⊥
not-same true h = cc
not-same false h = cc

pub cases_sign : (s t : Bool) → (s ≡ t) ⊎ (s ≡ not t)
cases_sign true true = inl refl
cases_sign true false = inr refl
cases_sign false true = inr refl
cases_sign false false = inl refl

pub opposite-opposite : (lit : Lit) → opposite_of (opposite_of lit) ≡ lit
opposite-opposite lit = same_lit (opposite_of (opposite_of lit)) lit refl (not-not lit.positive)

beq-true : (s t : Bool) → beq s t ≡ true → s ≡ t
beq-true true true h = refl
beq-true false false h = refl
beq-true true false h = cc
beq-true false true h = cc

-- the test of a derived `==`
pub lit_test-true : (a b : Lit) → (eqb a.variable b.variable && beq a.positive b.positive) ≡ true → a ≡ b
lit_test-true a b h =
    let parts = and_parts (eqb a.variable b.variable) (beq a.positive b.positive) h in
    same_lit a b (eqb-true a.variable b.variable parts.0) (beq-true a.positive b.positive parts.1)

beq-same : (s : Bool) → beq s s ≡ true
beq-same true = refl
beq-same false = refl

pub lit_test-same : (a b : Lit) → a ≡ b → (eqb a.variable b.variable && beq a.positive b.positive) ≡ true
lit_test-same a b h =
    subst (λ (c : Lit). (eqb a.variable c.variable && beq a.positive c.positive) ≡ true) h
    (and_from (eqb a.variable a.variable) (beq a.positive a.positive) (eq-eqb a.variable a.variable refl) (beq-same a.positive))

module _ {X : Type 0} where
  pub Contains-here : (xs : List X) (x : X) → Contains (x ∷ xs) x
  Contains-here xs x = (0, omega arith, refl)

  pub Contains-there : (xs : List X) (x y : X) → Contains xs y → Contains (x ∷ xs) y
  Contains-there xs x y (k, within, at) = (suc k, omega arith, at)

  pub Contains-cons_cases : (xs : List X) (x y : X) → Contains (x ∷ xs) y → (x ≡ y) ⊎ Contains xs y
  Contains-cons_cases xs x y (zero, within, at) = inl at
  Contains-cons_cases xs x y (suc k, within, at) = inr (k, omega arith, at)

  pub Contains-nil : (x : X) → Contains [] x → ⊥
  Contains-nil x (k, within, at) = omega arith

  pub slice_get-set_same : (xs : List X) (i : ℕ) (x : X) → i < length xs → slice_get (set xs i x) i ≡ Some x
  slice_get-set_same (y ∷ xs) zero x h = refl
  slice_get-set_same (y ∷ xs) (suc i) x h = slice_get-set_same xs i x (omega arith)
  slice_get-set_same [] i x h = absurd (omega arith)

  pub slice_get-set_other : (xs : List X) (i j : ℕ) (x : X) → (j ≡ i → ⊥) → slice_get (set xs i x) j ≡ slice_get xs j
  slice_get-set_other [] i j x h = refl
  slice_get-set_other (y ∷ xs) zero zero x h = absurd (h refl)
  slice_get-set_other (y ∷ xs) zero (suc j) x h = refl
  slice_get-set_other (y ∷ xs) (suc i) zero x h = refl
  slice_get-set_other (y ∷ xs) (suc i) (suc j) x h = slice_get-set_other xs i j x (λ e. h (ap suc e))

  pub at_within : (xs : List X) (i : ℕ) → i < length xs → (x : X) × (slice_get xs i ≡ Some x)
  at_within (x ∷ xs) zero h = (x, refl)
  at_within (x ∷ xs) (suc i) h = at_within xs i (omega arith)
  at_within [] i h = absurd (omega arith)

  pub Contains-at : (xs : List X) (i : ℕ) (x : X) → slice_get xs i ≡ Some x → Contains xs x
  Contains-at xs i x at = (i, slice_get_within xs i x at, get_or_from_slice_get xs i x x at)

  pub Contains-index : (xs : List X) (x : X) → Contains xs x → (i : ℕ) × (slice_get xs i ≡ Some x)
  Contains-index xs x (k, within, at) = (k, slice_get-get_or xs k x within ∙ ap Some at)

  pub Contains-push_from_cons : (xs : List X) (x y : X) → Contains (x ∷ xs) y → Contains (xs ++ x ∷ []) y
  Contains-push_from_cons xs x y h =
      elim (Contains-cons_cases xs x y h) [ inl same ↦ subst (Contains (xs ++ x ∷ [])) same (Contains-push xs x) | inr in_xs ↦ Contains-append_left xs (x ∷ []) y in_xs ]

  pub Contains-cons_from_push : (xs : List X) (x y : X) → Contains (xs ++ x ∷ []) y → Contains (x ∷ xs) y
  Contains-cons_from_push xs x y h =
      elim (Contains-push_cases xs x y h) [ inl in_xs ↦ Contains-there xs x y in_xs | inr same ↦ subst (Contains (x ∷ xs)) same (Contains-here xs x) ]

  pub Contains-take : (n : ℕ) (xs : List X) (x : X) → Contains (take n xs) x → Contains xs x
  Contains-take n xs x h = subst (λ (ys : List X). Contains ys x) (take-append-drop n xs) (Contains-append_left (take n xs) (drop n xs) x h)
