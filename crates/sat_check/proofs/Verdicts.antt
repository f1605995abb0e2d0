-- What a verdict says, and that it says it of no other verdict.
use Rattle.std.proofs.Common.{◌≡◌, ◌⊎◌, ◌∙◌, ◌↔◌, ℕ, ◌+◌, ◌≤◌, List, [], ◌∷◌, ◌++◌, length, Some, arith, refl, sym, ap, subst, inl, inr}
use Rattle.std.specs.List.{slice_get}
use Rattle.std.proofs.lemmas.Bool.{cases_order}
use Rattle.std.proofs.lemmas.Option.{same_Some}
use Rattle.std.proofs.lemmas.List.{length-append, get_or_append_left}
use Rattle.std.proofs.lemmas.List.Elements.{Contains-push_cases}
use Rattle.std.proofs.lemmas.List.Quantifiers.{Any-push}
use Rattle.sat_check.specs.declared.clause.Clause.{Clause}
use Rattle.sat_check.specs.declared.log.Entry.{Entry}
use Rattle.sat_check.specs.declared.checker.Verdict.{Verdict}
use Rattle.sat_check.specs.declared.checker.Verdict.TheVariants.{Refuted, Derived, Fault}
use Rattle.sat_check.specs.Logs.{AllFollow, Follows, IsFirstFault, IsRefutation, IsDerivation, HasEmpty, known_at}
use Rattle.sat_check.specs.Marks.{VerdictIs}
use Rattle.sat_check.specs.Literals.{at_within}

-- where so many entries follow, the fault is a later one
fault_later : (clauses : List Clause) (entries : List Entry) (count index : ℕ) → AllFollow clauses entries count → IsFirstFault clauses entries index → count ≤ index
fault_later clauses entries count index follow fault =
    elim (cases_order count index) [
      | inl same ↦ omega arith
      | inr apart ↦ elim apart [
        | inl less ↦ omega arith
        | inr more ↦ let here = at_within entries index fault.within in absurd (fault.fault here.0 here.1 (follow index here.0 more here.1))
      ]
    ]

one_fault : (clauses : List Clause) (entries : List Entry) (i j : ℕ) → IsFirstFault clauses entries i → IsFirstFault clauses entries j → i ≡ j
one_fault clauses entries i j a b = omega (arith, fault_later clauses entries i j a.before b, fault_later clauses entries j i b.before a)

no_fault : (clauses : List Clause) (entries : List Entry) (index : ℕ) → AllFollow clauses entries (length entries) → IsFirstFault clauses entries index → ⊥
no_fault clauses entries index follow fault = omega (arith, fault_later clauses entries (length entries) index follow fault, fault.within)

pub fault_iff : (clauses : List Clause) (entries : List Entry) (verdict : Verdict) → VerdictIs clauses entries verdict → (index : ℕ) → (verdict ≡ Fault index) ↔ IsFirstFault clauses entries index
fault_iff clauses entries Refuted h index = (λ e. absurd (cc), λ f. absurd (no_fault clauses entries index h.follow f))
fault_iff clauses entries (Derived count) h index = (λ e. absurd (cc), λ f. absurd (no_fault clauses entries index h.follow f))
fault_iff clauses entries (Fault first) h index =
    (λ e. let same : first ≡ index = cc in subst (IsFirstFault clauses entries) same h, λ f. ap (λ (i : ℕ). Fault i) (one_fault clauses entries first index h f))

pub refuted_iff : (clauses : List Clause) (entries : List Entry) (verdict : Verdict) → VerdictIs clauses entries verdict → (verdict ≡ Refuted) ↔ IsRefutation clauses entries
refuted_iff clauses entries Refuted h = (λ _. h, λ _. refl)
refuted_iff clauses entries (Derived count) h = (λ e. absurd (cc), λ r. absurd (h.not_empty r.empty))
refuted_iff clauses entries (Fault first) h = (λ e. absurd (cc), λ r. absurd (no_fault clauses entries first r.follow h))

pub derived_iff : (clauses : List Clause) (entries : List Entry) (verdict : Verdict) → VerdictIs clauses entries verdict → (count : ℕ) → (verdict ≡ Derived count) ↔ IsDerivation clauses entries count
derived_iff clauses entries Refuted h count = (λ e. absurd (cc), λ d. absurd (d.not_empty h.empty))
derived_iff clauses entries (Derived all) h count =
    (λ e. let same : all ≡ count = cc in subst (IsDerivation clauses entries) same h, λ d. ap (λ (n : ℕ). Derived n) (h.all ∙ sym d.all))
derived_iff clauses entries (Fault first) h count = (λ e. absurd (cc), λ d. absurd (no_fault clauses entries first d.follow h))

-- one entry more follows
pub AllFollow-more :
    (clauses : List Clause) (entries : List Entry) (index : ℕ) (entry : Entry)
    → AllFollow clauses entries index → slice_get entries index ≡ Some entry → Follows (known_at clauses entries index) entry → AllFollow clauses entries (index + 1)
AllFollow-more clauses entries index entry before at follows k other h at' =
    elim (cases_order k index) [
      | inl same ↦
          let is : entry ≡ other = same_Some entry other (sym at ∙ subst (λ (n : ℕ). slice_get entries n ≡ Some other) same at') in
          subst (λ (n : ℕ). Follows (known_at clauses entries n) other) (sym same) (subst (Follows (known_at clauses entries index)) is follows)
      | inr apart ↦ elim apart [ inl less ↦ before k other less at' | inr more ↦ absurd (omega arith) ]
    ]

pub HasEmpty-left : (entries : List Entry) (entry : Entry) → HasEmpty entries → HasEmpty (entries ++ entry ∷ [])
HasEmpty-left entries entry (k, e, within, at, empty) =
    (k, e, omega (arith, length-append entries (entry ∷ [])), get_or_append_left entries (entry ∷ []) e k within ∙ at, empty)

pub HasEmpty-push_cases : (entries : List Entry) (entry : Entry) → HasEmpty (entries ++ entry ∷ []) → HasEmpty entries ⊎ (entry.clause.lits ≡ [])
HasEmpty-push_cases entries entry (k, e, within, at, empty) =
    elim (Contains-push_cases entries entry e (k, within, at)) [
      | inl before ↦ inl (before.0, e, before.1, before.2, empty)
      | inr same ↦ inr (subst (λ (o : Entry). o.clause.lits ≡ []) (sym same) empty)
    ]
