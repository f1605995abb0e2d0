-- Laws of clauses that are read literal by literal, and of the clauses that are known.
use Rattle.std.proofs.Common.{◌≡◌, ◌⊎◌, ◌∙◌, ℕ, List, [], ◌∷◌, ◌++◌, Option, Some, None, map, refl, sym, subst, inl, inr}
use Rattle.std.specs.Option.{unwrap_or}
use Rattle.std.specs.List.{All, Contains, slice_get}
use Rattle.std.proofs.lemmas.List.Elements.{All-push, All-contains, All-append, All-map, All-weaker, Contains-push, Contains-append_left}
use Rattle.std.proofs.lemmas.List.Quantifiers.{Any-push}
use Rattle.sat_check.specs.declared.clause.Lit.{Lit}
use Rattle.sat_check.specs.declared.clause.Clause.{Clause}
use Rattle.sat_check.specs.declared.log.Entry.{Entry}
use Rattle.sat_check.specs.Clauses.{opposite_of, AreBelow, ClausesAreBelow}
use Rattle.sat_check.specs.Logs.{HasNoValue, IsUnit, EntriesAreBelow, HasEmpty, known_before}
use Rattle.sat_check.specs.Literals.{Contains-at}

-- of the literals so far all are false, or all but this one
abbrev pub SoFar : List Lit → List Lit → Option Lit → Type 0
SoFar falses lits None = All (Contains falses) lits
SoFar falses lits (Some lit) = IsUnit falses lits lit

-- the literals are not all false, and none is the one that is left
abbrev pub IsNeither : List Lit → List Lit → Type 0
IsNeither falses lits = (¬ All (Contains falses) lits) × ((lit : Lit) → ¬ IsUnit falses lits lit)

pub SoFar-false : (falses lits : List Lit) (single : Option Lit) (lit : Lit) → SoFar falses lits single → Contains falses lit → SoFar falses (lits ++ lit ∷ []) single
SoFar-false falses lits None lit h c = All-push (Contains falses) lits lit h c
SoFar-false falses lits (Some first) lit h c =
    record {
      stands = Contains-append_left lits (lit ∷ []) first h.stands;
      without_value = h.without_value;
      others = All-push (λ (o : Lit). (o ≡ first) ⊎ Contains falses o) lits lit h.others (inr c);
    }

pub SoFar-open : (falses lits : List Lit) (single : Option Lit) (lit : Lit) → SoFar falses lits single → HasNoValue falses lit → unwrap_or single lit ≡ lit → SoFar falses (lits ++ lit ∷ []) (Some lit)
SoFar-open falses lits None lit h open' same =
    record {
      stands = Contains-push lits lit;
      without_value = open';
      others =
          All-push (λ (o : Lit). (o ≡ lit) ⊎ Contains falses o) lits lit
          (All-weaker (Contains falses) (λ (o : Lit). (o ≡ lit) ⊎ Contains falses o) (λ (o : Lit) c. inr c) lits h) (inl refl);
    }
SoFar-open falses lits (Some first) lit h open' same =
    let at_lit = subst (IsUnit falses lits) same h in
    record {
      stands = Contains-append_left lits (lit ∷ []) lit at_lit.stands;
      without_value = open';
      others = All-push (λ (o : Lit). (o ≡ lit) ⊎ Contains falses o) lits lit at_lit.others (inl refl);
    }

pub Neither-true :
    (falses lits : List Lit) (lit : Lit) → (Contains falses lit → ⊥) → Contains lits lit → Contains falses (opposite_of lit) → IsNeither falses lits
Neither-true falses lits lit not_false stands true' = (
  λ all. not_false (All-contains (Contains falses) lits lit all stands),
  λ unit h. elim (All-contains (λ (o : Lit). (o ≡ unit) ⊎ Contains falses o) lits lit h.others stands)
      [ inl same ↦ h.without_value.not_true (subst (λ (l : Lit). Contains falses (opposite_of l)) same true') | inr c ↦ not_false c ],
)

pub Neither-two :
    (falses before lits : List Lit) (single : Option Lit) (lit : Lit) → ((o : Lit) → Contains before o → Contains lits o)
    → SoFar falses before single → HasNoValue falses lit → (unwrap_or single lit ≡ lit → ⊥) → Contains lits lit → IsNeither falses lits
Neither-two falses before lits None lit within h open' differ stands = absurd (differ refl)
Neither-two falses before lits (Some first) lit within h open' differ stands = (
  λ all. open'.not_false (All-contains (Contains falses) lits lit all stands),
  λ unit u.
      let at_lit = All-contains (λ (o : Lit). (o ≡ unit) ⊎ Contains falses o) lits lit u.others stands in
      let at_first = All-contains (λ (o : Lit). (o ≡ unit) ⊎ Contains falses o) lits first u.others (within first h.stands) in
      elim at_lit [
        | inl p ↦ elim at_first [ inl q ↦ differ (q ∙ sym p) | inr c ↦ h.without_value.not_false c ]
        | inr c ↦ open'.not_false c
      ],
)

pub known_below :
    (variables : ℕ) (clauses : List Clause) (earlier : List Entry)
    → ClausesAreBelow variables clauses → EntriesAreBelow variables earlier → ClausesAreBelow variables (known_before clauses earlier)
known_below variables clauses earlier h e =
    let clause_of : Entry → Clause = λ entry. entry.clause in
    All-append (λ (c : Clause). AreBelow variables c.lits) clauses (map clause_of earlier) h
    (All-map (λ (c : Clause). AreBelow variables c.lits) clause_of earlier e)

pub below_at : (variables : ℕ) (known : List Clause) (hint : ℕ) (clause : Clause) → ClausesAreBelow variables known → slice_get known hint ≡ Some clause → AreBelow variables clause.lits
below_at variables known hint clause h at = All-contains (λ (c : Clause). AreBelow variables c.lits) known clause h (Contains-at known hint clause at)

pub HasEmpty-push : (entries : List Entry) (entry : Entry) → entry.clause.lits ≡ [] → HasEmpty (entries ++ entry ∷ [])
HasEmpty-push entries entry h = Any-push (λ (e : Entry). e.clause.lits ≡ []) entries entry h
