-- One entry more.
use Rattle.std.proofs.Common.{◌≡◌, ◌≢◌, ◌∙◌, ℕ, ◌+◌, ◌-◌, ◌<◌, ◌≤◌, List, [], ◌∷◌, ◌++◌, Some, length, map, arith, refl, sym, ap, subst, inl, inr, append_assoc}
use Rattle.std.specs.List.{slice_get, Contains}
use Rattle.std.proofs.lemmas.Bool.{cases_eq}
use Rattle.std.proofs.lemmas.Option.{same_Some, slice_get_within}
use Rattle.std.proofs.lemmas.List.{length-append, length-map, take_at, map_push}
use Rattle.sat_check.specs.declared.clause.Lit.{Lit}
use Rattle.sat_check.specs.declared.clause.Clause.{Clause}
use Rattle.sat_check.specs.declared.log.Entry.{Entry}
use Rattle.sat_check.specs.Logs.{Follows, IsNew, known_before, AllFollow, AllNew}
use Rattle.search_base.specs.declared.trail.Step.{Step}
use Rattle.search_base.specs.Levels.{LevelsAre}
use Rattle.search_base.specs.Lists.{slice_get-push_cases, take_within}

pub some_lit : (lits : List Lit) → lits ≢ [] → (lit : Lit) × Contains lits lit
some_lit [] ne = absurd (ne refl)
some_lit (lit ∷ lits) ne = (lit, (0, omega arith, refl))

pub known_push : (clauses : List Clause) (entries : List Entry) (entry : Entry) → known_before clauses (entries ++ entry ∷ []) ≡ known_before clauses entries ++ entry.clause ∷ []
known_push clauses entries entry =
    let f : Entry → Clause = λ e. e.clause in
    ap (λ (more : List Clause). clauses ++ more) (map_push f entries entry) ∙ sym (append_assoc clauses (map f entries) (entry.clause ∷ []))

pub length-known : (clauses : List Clause) (entries : List Entry) → length (known_before clauses entries) ≡ length clauses + length entries
length-known clauses entries =
    let f : Entry → Clause = λ e. e.clause in
    length-append clauses (map f entries) ∙ ap (λ (n : ℕ). length clauses + n) (length-map entries f)

pub AllFollow-push : (clauses : List Clause) (entries : List Entry) (entry : Entry) → AllFollow clauses entries (length entries) → Follows (known_before clauses entries) entry → AllFollow clauses (entries ++ entry ∷ []) (length (entries ++ entry ∷ []))
AllFollow-push clauses entries entry follow follows index other within at =
    elim (slice_get-push_cases entries entry index other at) [
      | inl before ↦
          let less : index < length entries = slice_get_within entries index other before in
          rw (take_within index entries (entry ∷ []) (omega arith)) (follow index other less before)
      | inr last ↦ rw (take_at entries (entry ∷ []) index (sym last.0)) (subst (Follows (known_before clauses entries)) last.1 follows)
    ]

pub AllNew-push : (clauses : List Clause) (entries : List Entry) (entry : Entry) → AllNew clauses entries → IsNew (known_before clauses entries) entry → AllNew clauses (entries ++ entry ∷ [])
AllNew-push clauses entries entry new is_new index other at =
    elim (slice_get-push_cases entries entry index other at) [
      | inl before ↦
          let less : index < length entries = slice_get_within entries index other before in
          rw (take_within index entries (entry ∷ []) (omega arith)) (new index other before)
      | inr last ↦ rw (take_at entries (entry ∷ []) index (sym last.0)) (subst (IsNew (known_before clauses entries)) last.1 is_new)
    ]

-- a level begins no later than the last
pub place_le :
    (known : List Clause) (steps : List Step) (levels : List ℕ) (start level place : ℕ) → LevelsAre known steps levels → slice_get levels (length levels - 1) ≡ Some start
    → slice_get levels level ≡ Some place → place ≤ start
place_le known steps levels start level place are last at =
    let within : level < length levels = slice_get_within levels level place at in
    elim (cases_eq level (length levels - 1)) [
      | inl same ↦ let e : place ≡ start = same_Some place start (sym at ∙ subst (λ (n : ℕ). slice_get levels n ≡ Some start) (sym same) last) in omega (arith, e)
      | inr differ ↦ omega (arith, are.rising level (length levels - 1) place start (omega (arith, within, differ)) at last)
    ]
