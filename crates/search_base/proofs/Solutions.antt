-- Where every variable has a value and every clause is stuck, the values satisfy the clauses.
use Rattle.std.proofs.Common.{◌≡◌, ◌⊎◌, ◌∙◌, ℕ, ◌<◌, Bool, true, false, not, List, [], ◌∷◌, length, get_or, arith, refl, ap, subst, inl, inr}
use Rattle.std.specs.List.{All, Contains}
use Rattle.std.proofs.lemmas.Option.{slice_get-get_or, get_or_from_slice_get}
use Rattle.std.proofs.lemmas.List.{length-map, get_or-map}
use Rattle.std.proofs.lemmas.List.Elements.{All-cons, All-contains}
use Rattle.sat_check.specs.declared.clause.Lit.{Lit}
use Rattle.sat_check.specs.declared.clause.Clause.{Clause}
use Rattle.sat_check.specs.declared.log.Entry.{Entry}
use Rattle.sat_check.specs.Clauses.{ClausesAreBelow}
use Rattle.sat_check.specs.Logs.{known_before}
use Rattle.sat_check.specs.Literals.{same_lit, not-not, cases_sign, at_within, Contains-here, Contains-there, Contains-at}
use Rattle.search_base.specs.declared.trail.Slot.{Slot}
use Rattle.search_base.specs.declared.trail.Step.{Step}
use Rattle.search_base.specs.Trails.{falses_of, Keeps, IsStuck, AllStuck, values_of}
use Rattle.search_base.specs.Searches.{IsSolution}
use Rattle.search_base.specs.Steps.{told_false}
use Rattle.search_base.specs.Settling.{cases_Contains}

-- all literals are false, or one isn't
cases_false : (falses lits : List Lit) → All (Contains falses) lits ⊎ ((lit : Lit) × Contains lits lit × (Contains falses lit → ⊥))
cases_false falses [] = inl (λ k d h. absurd (omega (arith, h)))
cases_false falses (lit ∷ lits) =
    elim (cases_Contains falses lit) [
      | inl it ↦
          elim (cases_false falses lits) [
            | inl all ↦ inl (All-cons (Contains falses) lit lits it all)
            | inr some ↦ inr (some.0, Contains-there lits lit some.0 some.1, some.2)
          ]
      | inr not_it ↦ inr (lit, Contains-here lits lit, not_it)
    ]

pub solution :
    (variables : ℕ) (clauses : List Clause) (entries : List Entry) (slots : List Slot) (steps : List Step) → length slots ≡ variables → ClausesAreBelow variables clauses
    → Keeps (known_before clauses entries) slots steps → All (λ slot. slot.assigned ≡ true) slots → AllStuck clauses (falses_of steps)
    → IsSolution variables clauses (values_of slots)
solution variables clauses entries slots steps len below keeps assigned stuck =
    let value : Slot → Bool = λ slot. not slot.positive in
    record {
      all = length-map slots value ∙ len;
      satisfies = λ index d within.
          let clause = get_or clauses index d in
          let is : IsStuck (falses_of steps) clause.lits = stuck index clause (slice_get-get_or clauses index d within) in
          elim (cases_false (falses_of steps) clause.lits) [
            | inl all ↦ absurd (is.not_false all)
            | inr some ↦
                let lit = some.0 in
                let lit_below : lit.variable < variables = All-contains (λ (l : Lit). l.variable < variables) clause.lits lit (below index d within) some.1 in
                let inside : lit.variable < length slots = omega (arith, lit_below, len) in
                let (slot, at) = at_within slots lit.variable inside in
                let told = told_false slots (falses_of steps) lit.variable slot keeps.shows at (All-contains (λ (s : Slot). s.assigned ≡ true) slots slot assigned (Contains-at slots lit.variable slot at)) in
                let turned : not slot.positive ≡ lit.positive =
                elim (cases_sign slot.positive lit.positive) [
                  | inl same ↦
                      absurd (some.2 (subst (Contains (falses_of steps)) (same_lit (record { variable = lit.variable; positive = slot.positive }) lit refl same) told))
                  | inr other ↦ ap not other ∙ not-not lit.positive
                ] in
                let reads : get_or (values_of slots) lit.variable false ≡ not slot.positive =
                get_or-map value slots lit.variable slot false inside ∙ ap value (get_or_from_slice_get slots lit.variable slot slot at) in
                (some.1.0, lit, some.1.1, some.1.2, reads ∙ turned)
          ];
    }
