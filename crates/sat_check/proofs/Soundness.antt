-- A refutation means that no assignment satisfies the clauses.
use Rattle.std.proofs.Common.{◌≡◌, ◌⊎◌, ◌∙◌, ℕ, zero, suc, ◌+◌, ◌<◌, ◌≤◌, Bool, List, [], ◌∷◌, ◌++◌, Some, length, map, take, get_or, arith, refl, sym, ap, subst, inl, inr, append_assoc, append-nil, add-one}
use Rattle.std.specs.List.{Any, Contains, slice_get}
use Rattle.std.proofs.lemmas.Option.{slice_get-get_or, get_or_from_slice_get, slice_get_within}
use Rattle.std.proofs.lemmas.List.{map_more}
use Rattle.std.proofs.lemmas.List.Elements.{All-push, All-contains}
use Rattle.sat_check.specs.declared.clause.Lit.{Lit}
use Rattle.sat_check.specs.declared.clause.Clause.{Clause}
use Rattle.sat_check.specs.declared.log.Entry.{Entry}
use Rattle.sat_check.specs.Clauses.{opposite_of, IsTrueUnder, Satisfies}
use Rattle.sat_check.specs.Logs.{IsUnit, Refutes, Follows, known_at, AllFollow, RefutationIsSound}
use Rattle.sat_check.specs.Literals.{not-same, cases_sign, at_within, Contains-here, Contains-there, Contains-cons_cases, Contains-at}

-- no literal of the list is true
AllUntrue : (ℕ → Bool) → List Lit → Type 0
AllUntrue assignment falses = (lit : Lit) → Contains falses lit → ¬ IsTrueUnder assignment lit

-- a clause that is satisfied has a true literal, which the list contains
record HasTrue (assignment : ℕ → Bool) (lits : List Lit) : Type 0 where
  lit : Lit
  stands : Contains lits lit
  holds : IsTrueUnder assignment lit

HasTrue-from_any : (assignment : ℕ → Bool) (lits : List Lit) → Any (IsTrueUnder assignment) lits → HasTrue assignment lits
HasTrue-from_any assignment lits (k, lit, within, at, holds) = record { lit = lit; stands = (k, within, at); holds = holds }

any_from_HasTrue : (assignment : ℕ → Bool) (lits : List Lit) → HasTrue assignment lits → Any (IsTrueUnder assignment) lits
any_from_HasTrue assignment lits h = (h.stands.0, h.lit, h.stands.1, h.stands.2, h.holds)

satisfied : (assignment : ℕ → Bool) (known : List Clause) (hint : ℕ) (clause : Clause) → Satisfies assignment known → slice_get known hint ≡ Some clause → HasTrue assignment clause.lits
satisfied assignment known hint clause sat at =
    HasTrue-from_any assignment clause.lits
    (All-contains (λ (c : Clause). Any (IsTrueUnder assignment) c.lits) known clause sat (Contains-at known hint clause at))

-- the literal that becomes true is true under each assignment that satisfies the clauses
AllUntrue-step :
    (assignment : ℕ → Bool) (falses lits : List Lit) (lit : Lit)
    → HasTrue assignment lits → AllUntrue assignment falses → IsUnit falses lits lit → AllUntrue assignment (opposite_of lit ∷ falses)
unfolding AllUntrue
AllUntrue-step assignment falses lits lit true' untrue unit other in_list holds =
    let at_true : (true'.lit ≡ lit) ⊎ Contains falses true'.lit = All-contains (λ (o : Lit). (o ≡ lit) ⊎ Contains falses o) lits true'.lit unit.others true'.stands in
    let lit_holds : IsTrueUnder assignment lit =
    elim at_true [ inl same ↦ subst (IsTrueUnder assignment) same true'.holds | inr in_falses ↦ absurd (untrue true'.lit in_falses true'.holds) ] in
    elim (Contains-cons_cases falses (opposite_of lit) other in_list) [
      | inl same ↦ not-same lit.positive (sym lit_holds ∙ subst (IsTrueUnder assignment) (sym same) holds)
      | inr in_falses ↦ untrue other in_falses holds
    ]

refutes_none :
    (assignment : ℕ → Bool) (known : List Clause) → Satisfies assignment known
    → (falses : List Lit) (hints : List ℕ) → AllUntrue assignment falses → Refutes known falses hints → ⊥
unfolding AllUntrue
refutes_none assignment known sat falses [] untrue h = h
refutes_none assignment known sat falses (hint ∷ []) untrue (clause, at, all) =
    let true' = satisfied assignment known hint clause sat at in
    untrue true'.lit (All-contains (Contains falses) clause.lits true'.lit all true'.stands) true'.holds
refutes_none assignment known sat falses (hint ∷ next ∷ rest) untrue (clause, lit, at, unit, then) =
    refutes_none assignment known sat (opposite_of lit ∷ falses) (next ∷ rest)
    (AllUntrue-step assignment falses clause.lits lit (satisfied assignment known hint clause sat at) untrue unit) then

-- a literal of the list is true, or none is
cases_true : (assignment : ℕ → Bool) (lits : List Lit) → HasTrue assignment lits ⊎ AllUntrue assignment lits
unfolding AllUntrue
cases_true assignment [] = inr (λ lit h _. absurd (omega (arith, h.1)))
cases_true assignment (lit ∷ lits) =
    elim (cases_sign (assignment lit.variable) lit.positive) [
      | inl same ↦ inl (record { lit = lit; stands = Contains-here lits lit; holds = same })
      | inr other ↦
          elim (cases_true assignment lits) [
            | inl found ↦ inl (record { lit = found.lit; stands = Contains-there lits lit found.lit found.stands; holds = found.holds })
            | inr none ↦ inr (λ o h holds. elim (Contains-cons_cases lits lit o h) [
              | inl same ↦ not-same lit.positive (sym (subst (IsTrueUnder assignment) (sym same) holds) ∙ other)
              | inr in_lits ↦ none o in_lits holds
            ])
          ]
    ]

follows_holds :
    (assignment : ℕ → Bool) (known : List Clause) (entry : Entry) → Satisfies assignment known → Follows known entry → Any (IsTrueUnder assignment) entry.clause.lits
follows_holds assignment known entry sat follows =
    elim (cases_true assignment entry.clause.lits) [
      | inl found ↦ any_from_HasTrue assignment entry.clause.lits found
      | inr none ↦ absurd (refutes_none assignment known sat entry.clause.lits entry.hints none follows.refutes)
    ]

-- one entry more is known
pub known_at_more : (clauses : List Clause) (entries : List Entry) (index : ℕ) (entry : Entry) → slice_get entries index ≡ Some entry → known_at clauses entries (index + 1) ≡ known_at clauses entries index ++ entry.clause ∷ []
known_at_more clauses entries index entry at =
    let f : Entry → Clause = λ e. e.clause in
    let within : index < length entries = slice_get_within entries index entry at in
    let read : get_or entries index entry ≡ entry = get_or_from_slice_get entries index entry entry at in
    let more : map f (take (index + 1) entries) ≡ map f (take index entries) ++ f (get_or entries index entry) ∷ [] = map_more f entries index entry within in
    rw (more, read, append_assoc) refl

known_holds :
    (assignment : ℕ → Bool) (clauses : List Clause) (entries : List Entry) → Satisfies assignment clauses → AllFollow clauses entries (length entries)
    → (index : ℕ) → index ≤ length entries → Satisfies assignment (known_at clauses entries index)
known_holds assignment clauses entries sat follow zero h = rw append-nil sat
known_holds assignment clauses entries sat follow (suc index) h =
    let before = known_holds assignment clauses entries sat follow index (omega arith) in
    let here = at_within entries index (omega arith) in
    let follows = follow index here.0 (omega arith) here.1 in
    let more : known_at clauses entries (suc index) ≡ known_at clauses entries index ++ here.0.clause ∷ [] =
    subst (λ (n : ℕ). known_at clauses entries n ≡ known_at clauses entries index ++ here.0.clause ∷ []) (add-one index) (known_at_more clauses entries index here.0 here.1) in
    rw more
    (All-push (λ (c : Clause). Any (IsTrueUnder assignment) c.lits) (known_at clauses entries index) here.0.clause before
    (follows_holds assignment (known_at clauses entries index) here.0 before follows))

pub sound : RefutationIsSound
sound clauses entries refutation assignment sat =
    let (index, entry, within, at, is_empty) = refutation.empty in
    let here : slice_get entries index ≡ Some entry = slice_get-get_or entries index entry within ∙ ap Some at in
    let known = known_at clauses entries index in
    let holds = follows_holds assignment known entry (known_holds assignment clauses entries sat refutation.follow index (omega arith)) (refutation.follow index entry within here) in
    let in_nothing : Any (IsTrueUnder assignment) [] = subst (Any (IsTrueUnder assignment)) is_empty holds in
    omega (arith, in_nothing.2)
