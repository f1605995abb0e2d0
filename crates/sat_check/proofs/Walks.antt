-- Marks and what they show, and the steps of a walk over hints.
use Rattle.std.proofs.Common.{◌≡◌, ◌⊎◌, ◌∙◌, ◌↔◌, ℕ, ◌<◌, Bool, false, not, List, [], ◌∷◌, ◌++◌, Option, Some, None, length, map, set, arith, refl, sym, ap, subst, inl, inr}
use Rattle.std.specs.Option.{unwrap_or}
use Rattle.std.specs.List.{All, Contains, slice_get}
use Rattle.std.proofs.lemmas.Option.{same_Some, none-some}
use Rattle.std.proofs.lemmas.List.{length-set}
use Rattle.std.proofs.lemmas.Bool.{cases_eq}
use Rattle.std.proofs.lemmas.List.Elements.{All-push, All-contains, All-append, All-map, All-weaker, Contains-push, Contains-append_left}
use Rattle.sat_check.specs.declared.clause.Lit.{Lit}
use Rattle.sat_check.specs.declared.clause.Clause.{Clause}
use Rattle.sat_check.specs.declared.log.Entry.{Entry}
use Rattle.sat_check.specs.declared.valuation.Mark.{Mark}
use Rattle.sat_check.specs.declared.checker.Found.TheVariants.{Neither}
use Rattle.sat_check.specs.Clauses.{opposite_of, AreBelow, ClausesAreBelow}
use Rattle.sat_check.specs.Logs.{HasNoValue, IsUnit, Refutes, EntriesAreBelow, known_before}
use Rattle.sat_check.specs.Marks.{IsMarked, Shows, FoundIs}
use Rattle.sat_check.specs.Laws.{SoFar}
use Rattle.sat_check.specs.Literals.{same_lit, not-same, not-not, cases_sign, Contains-here, Contains-there, Contains-cons_cases, Contains-nil, Contains-at, Contains-push_from_cons, Contains-cons_from_push, slice_get-set_same, slice_get-set_other}

-- ---- marks

same_mark_sign : (r : ℕ) (s t : Bool) → ◌≡◌ {A = Option Mark} (Some (record { round = r; positive = s })) (Some (record { round = r; positive = t })) → s ≡ t
same_mark_sign r s t h = ap (λ (o : Option Mark). (unwrap_or o (record { round = 0; positive = false })).positive) h

-- no literal is marked together with its opposite
pub marked_once : (round : ℕ) (marks : List Mark) (lit : Lit) → IsMarked round marks lit → IsMarked round marks (opposite_of lit) → ⊥
marked_once round marks lit m o = not-same lit.positive (same_mark_sign round lit.positive (not lit.positive) (sym m ∙ o))

pub shown_once : (round : ℕ) (marks : List Mark) (falses : List Lit) (lit : Lit) → Shows round marks falses → lit.variable < length marks → Contains falses lit → Contains falses (opposite_of lit) → ⊥
shown_once round marks falses lit shows below c o = marked_once round marks lit ((shows lit below).0 c) ((shows (opposite_of lit) below).0 o)

-- what the marks show after one more is written
pub Shows-set :
    (round : ℕ) (marks : List Mark) (lit : Lit) → lit.variable < length marks
    → (falses : List Lit) → Shows round marks falses → ¬ Contains falses (opposite_of lit)
    → Shows round (set marks lit.variable (record { round = round; positive = lit.positive })) (lit ∷ falses)
Shows-set round marks lit below falses shows free other within =
    let mark : Mark = record { round = round; positive = lit.positive } in
    let written : List Mark = set marks lit.variable mark in
    let in_old : other.variable < length marks = omega (arith, length-set marks lit.variable mark) in
    elim (cases_eq other.variable lit.variable) [
      | inl same ↦
          let reads : slice_get written other.variable ≡ Some mark =
          subst (λ (n : ℕ). slice_get written n ≡ Some mark) (sym same) (slice_get-set_same marks lit.variable mark below) in
          let to : Contains (lit ∷ falses) other → IsMarked round written other =
          λ c.
          let sign : lit.positive ≡ other.positive =
          elim (Contains-cons_cases falses lit other c) [
            | inl is ↦ ap (λ (l : Lit). l.positive) is
            | inr in_falses ↦
                elim (cases_sign lit.positive other.positive) [
                  | inl s ↦ s
                  | inr s ↦
                      let turned : not lit.positive ≡ other.positive = ap not s ∙ not-not other.positive in
                      absurd (free (subst (Contains falses) (same_lit other (opposite_of lit) same (sym turned)) in_falses))
                ]
          ] in
          reads ∙ ap (λ (s : Bool). let m : Mark = record { round = round; positive = s } in Some m) sign in
          let from : IsMarked round written other → Contains (lit ∷ falses) other =
          λ m.
          let sign : lit.positive ≡ other.positive = same_mark_sign round lit.positive other.positive (sym reads ∙ m) in
          subst (Contains (lit ∷ falses)) (same_lit lit other (sym same) sign) (Contains-here falses lit) in
          (to, from)
      | inr differs ↦
          let reads : slice_get written other.variable ≡ slice_get marks other.variable = slice_get-set_other marks lit.variable other.variable mark differs in
          let to : Contains (lit ∷ falses) other → IsMarked round written other =
          λ c. elim (Contains-cons_cases falses lit other c) [
            | inl is ↦ absurd (differs (ap (λ (l : Lit). l.variable) (sym is)))
            | inr in_falses ↦ reads ∙ (shows other in_old).0 in_falses
          ] in
          let from : IsMarked round written other → Contains (lit ∷ falses) other =
          λ m. Contains-there falses lit other ((shows other in_old).1 (sym reads ∙ m)) in
          (to, from)
    ]

-- marks of earlier rounds show nothing
pub Shows-none : (round : ℕ) (marks : List Mark) → All (λ mark. mark.round < round) marks → Shows round marks []
Shows-none round marks earlier lit below =
    let to : Contains [] lit → IsMarked round marks lit = λ c. absurd (Contains-nil lit c) in
    let from : IsMarked round marks lit → Contains [] lit =
    λ m.
    let mark : Mark = record { round = round; positive = lit.positive } in
    let sooner : mark.round < round = All-contains (λ (k : Mark). k.round < round) marks mark earlier (Contains-at marks lit.variable mark m) in
    absurd (omega (arith, sooner)) in
    (to, from)

pub Shows-push : (round : ℕ) (marks : List Mark) (falses : List Lit) (lit : Lit) → Shows round marks (lit ∷ falses) → Shows round marks (falses ++ lit ∷ [])
Shows-push round marks falses lit shows other below =
    (λ c. (shows other below).0 (Contains-cons_from_push falses lit other c), λ m. Contains-push_from_cons falses lit other ((shows other below).1 m))

-- a literal that stands there already adds nothing
pub Shows-again : (round : ℕ) (marks : List Mark) (falses : List Lit) (lit : Lit) → Shows round marks falses → Contains falses lit → Shows round marks (falses ++ lit ∷ [])
Shows-again round marks falses lit shows again other below =
    let to : Contains (falses ++ lit ∷ []) other → IsMarked round marks other =
    λ c. elim (Contains-cons_cases falses lit other (Contains-cons_from_push falses lit other c))
    [ inl is ↦ (shows other below).0 (subst (Contains falses) is again) | inr in_falses ↦ (shows other below).0 in_falses ] in
    (to, λ m. Contains-append_left falses (lit ∷ []) other ((shows other below).1 m))

-- ---- the literals of a clause, one after another

pub SoFar-none : (falses : List Lit) → SoFar falses [] None
SoFar-none falses k d h = absurd (omega arith)

-- ---- the hints, one after another

same_clause : (known : List Clause) (hint : ℕ) (a b : Clause) → slice_get known hint ≡ Some a → slice_get known hint ≡ Some b → a ≡ b
same_clause known hint a b p q = same_Some a b (sym p ∙ q)

pub unit_once : (falses lits : List Lit) (a b : Lit) → IsUnit falses lits a → IsUnit falses lits b → a ≡ b
unit_once falses lits a b p q =
    elim (All-contains (λ (o : Lit). (o ≡ b) ⊎ Contains falses o) lits a q.others p.stands)
    [ inl same ↦ same | inr c ↦ absurd (p.without_value.not_false c) ]

-- what a hint that names nothing leads to
pub Refutes-unnamed : (known : List Clause) (falses : List Lit) (hint : ℕ) (rest : List ℕ) → slice_get known hint ≡ None → Refutes known falses (hint ∷ rest) → ⊥
Refutes-unnamed known falses hint [] none (clause, at, all) = none-some clause (sym none ∙ at)
Refutes-unnamed known falses hint (next ∷ rest) none (clause, lit, at, unit, then) = none-some clause (sym none ∙ at)

pub Refutes-neither :
    (known : List Clause) (falses : List Lit) (hint : ℕ) (rest : List ℕ) (clause : Clause)
    → slice_get known hint ≡ Some clause → FoundIs falses clause.lits Neither → Refutes known falses (hint ∷ rest) → ⊥
Refutes-neither known falses hint [] clause at' neither (other, at, all) =
    neither.0 (subst (λ (c : Clause). All (Contains falses) c.lits) (same_clause known hint other clause at at') all)
Refutes-neither known falses hint (next ∷ rest) clause at' neither (other, lit, at, unit, then) =
    neither.1 lit (subst (λ (c : Clause). IsUnit falses c.lits lit) (same_clause known hint other clause at at') unit)

pub Refutes-all_false :
    (known : List Clause) (falses : List Lit) (hint : ℕ) (rest : List ℕ) (clause : Clause)
    → slice_get known hint ≡ Some clause → All (Contains falses) clause.lits → Refutes known falses (hint ∷ rest) ↔ (rest ≡ [])
Refutes-all_false known falses hint [] clause at' all = (λ _. refl, λ _. (clause, at', all))
Refutes-all_false known falses hint (next ∷ rest) clause at' all =
    let to : Refutes known falses (hint ∷ next ∷ rest) → (next ∷ rest) ≡ [] =
    λ (other, lit, at, unit, then).
    let unit' = subst (λ (c : Clause). IsUnit falses c.lits lit) (same_clause known hint other clause at at') unit in
    absurd (unit'.without_value.not_false (All-contains (Contains falses) clause.lits lit all unit'.stands)) in
    (to, λ e. absurd (omega (arith, ap length e)))

pub Refutes-single :
    (known : List Clause) (falses : List Lit) (hint : ℕ) (rest : List ℕ) (clause : Clause) (lit : Lit)
    → slice_get known hint ≡ Some clause → IsUnit falses clause.lits lit → Refutes known falses (hint ∷ rest) ↔ Refutes known (opposite_of lit ∷ falses) rest
Refutes-single known falses hint [] clause lit at' unit = (
  λ (other, at, all).
      let all' = subst (λ (c : Clause). All (Contains falses) c.lits) (same_clause known hint other clause at at') all in
      unit.without_value.not_false (All-contains (Contains falses) clause.lits lit all' unit.stands),
  λ h. absurd h,
)
Refutes-single known falses hint (next ∷ rest) clause lit at' unit =
    let to : Refutes known falses (hint ∷ next ∷ rest) → Refutes known (opposite_of lit ∷ falses) (next ∷ rest) =
    λ (other, lit', at, unit', then).
    let unit'' = subst (λ (c : Clause). IsUnit falses c.lits lit') (same_clause known hint other clause at at') unit' in
    subst (λ (l : Lit). Refutes known (opposite_of l ∷ falses) (next ∷ rest)) (unit_once falses clause.lits lit' lit unit'' unit) then in
    (to, λ then. (clause, lit, at', unit, then))
