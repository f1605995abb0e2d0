-- What is learned, of the literals that were gathered.
use Rattle.std.proofs.Common.{◌≡◌, ◌∙◌, ℕ, ◌+◌, ◌-◌, ◌<◌, ◌≤◌, true, false, List, [], ◌∷◌, ◌++◌, Option, Some, None, length, take, set, get_or, option_to_list, arith, refl, sym, ap, subst, inl, inr}
use Rattle.std.specs.Option.{IsSome}
use Rattle.std.specs.List.{slice_get, Contains}
use Rattle.std.proofs.lemmas.Option.{none-some, same_Some, slice_get_within}
use Rattle.std.proofs.lemmas.List.{append-nil}
use Rattle.std.proofs.lemmas.List.Elements.{Contains-push, Contains-append_left, Contains-push_cases}
use Rattle.sat_check.specs.declared.clause.Lit.{Lit}
use Rattle.sat_check.specs.declared.clause.Clause.{Clause}
use Rattle.sat_check.specs.Clauses.{opposite_of}
use Rattle.sat_check.specs.Logs.{HasNoValue, IsUnit, Refutes}
use Rattle.sat_check.specs.Literals.{opposite-opposite, Contains-nil, Contains-there, Contains-here, Contains-cons_cases}
use Rattle.search_base.specs.declared.trail.Slot.{Slot}
use Rattle.search_base.specs.declared.trail.Step.{Step}
use Rattle.search_base.specs.Trails.{falses_of, Keeps, IsStep}
use Rattle.sat_search.specs.Learning.{Learns, IsLate, IsFalseAt, KeepIs}
use Rattle.search_base.specs.Places.{false_at, false_by, falses_more, falses-take}
use Rattle.search_base.specs.Refuting.{Refutes-cons, no_some}
use Rattle.search_base.specs.Steps.{Keeps-push, open_value}

-- ---- how much of the trail the literals speak of

pub KeepIs-none : (steps : List Step) (start : ℕ) → KeepIs steps [] start 0
KeepIs-none steps start =
    record { before = λ lit h. absurd (Contains-nil lit h); keep_le = omega arith; last = λ h. absurd (omega (arith, h)) }

pub KeepIs-later :
    (steps : List Step) (lits : List Lit) (start keep place : ℕ) (lit : Lit) → IsFalseAt steps lit place → place < start → keep ≤ place
    → KeepIs steps lits start keep → KeepIs steps (lits ++ lit ∷ []) start (place + 1)
KeepIs-later steps lits start keep place lit (step, at, same) less late keeps =
    record {
      before = λ l h.
          elim (Contains-push_cases lits lit l h) [
            | inl it ↦ falses_more keep (place + 1) steps l (omega (arith, late)) (keeps.before l it)
            | inr e ↦ subst (Contains (falses_of (take (place + 1) steps))) (same ∙ e) (false_by (place + 1) steps place step (omega arith) at)
          ];
      keep_le = omega (arith, less);
      last = λ _.
          let is : (place + 1) - 1 ≡ place = omega arith in
          (step, subst (λ (n : ℕ). slice_get steps n ≡ Some step) (sym is) at, subst (Contains (lits ++ lit ∷ [])) (sym same) (Contains-push lits lit));
    }

pub KeepIs-sooner :
    (steps : List Step) (lits : List Lit) (start keep place : ℕ) (lit : Lit) → IsFalseAt steps lit place → place < keep
    → KeepIs steps lits start keep → KeepIs steps (lits ++ lit ∷ []) start keep
KeepIs-sooner steps lits start keep place lit (step, at, same) sooner keeps =
    record {
      before = λ l h.
          elim (Contains-push_cases lits lit l h) [
            | inl it ↦ keeps.before l it
            | inr e ↦ subst (Contains (falses_of (take keep steps))) (same ∙ e) (false_by keep steps place step sooner at)
          ];
      keep_le = keeps.keep_le;
      last = λ h. let (last', at', stands) = keeps.last h in (last', at', Contains-append_left lits (lit ∷ []) last'.falsified stands);
    }

-- ---- what is learned

pub Learns-of :
    (known : List Clause) (steps : List Step) (start : ℕ) (kept : List Lit) (hints : List ℕ) (asserting : Option Lit) (keep : ℕ)
    → KeepIs steps kept start keep → ((lit : Lit) → asserting ≡ Some lit → IsLate steps start lit) → Refutes known (kept ++ option_to_list asserting) hints
    → Learns known steps start (kept ++ option_to_list asserting) hints asserting keep
Learns-of known steps start kept hints None keep keeps late refutes =
    let same : kept ++ [] ≡ kept = append-nil kept in
    let in_kept : (lit : Lit) → Contains (kept ++ []) lit → Contains kept lit = λ lit h. subst (λ (l : List Lit). Contains l lit) same h in
    record {
      refutes = refutes;
      among = λ lit h. falses-take keep steps lit (keeps.before lit (in_kept lit h));
      others = λ lit h. inr (keeps.before lit (in_kept lit h));
      late = λ lit e. absurd (none-some lit e);
      stands = λ lit e. absurd (none-some lit e);
      keep_le = keeps.keep_le;
      last = λ h. let (step, at, stands) = keeps.last h in (step, at, Contains-append_left kept [] step.falsified stands);
    }
Learns-of known steps start kept hints (Some it) keep keeps late refutes =
    let is = late it refl in
    record {
      refutes = refutes;
      among = λ lit h.
          elim (Contains-push_cases kept it lit h) [
            | inl before ↦ falses-take keep steps lit (keeps.before lit before)
            | inr same ↦ subst (Contains (falses_of steps)) (is.same ∙ same) (false_at steps is.place is.step is.at)
          ];
      others = λ lit h. elim (Contains-push_cases kept it lit h) [ inl before ↦ inr (keeps.before lit before) | inr same ↦ inl (ap (λ (l : Lit). Some l) same) ];
      late = late;
      stands = λ lit e. subst (Contains (kept ++ it ∷ [])) (same_Some it lit e) (Contains-push kept it);
      keep_le = keeps.keep_le;
      last = λ h. let (step, at, stands) = keeps.last h in (step, at, Contains-append_left kept (it ∷ []) step.falsified stands);
    }

pub with_some : (P : Type 0) (o : Option Lit) → IsSome o → ((lit : Lit) → o ≡ Some lit → P) → P
with_some P None some from = absurd (no_some {X = Lit} None refl some)
with_some P (Some lit) some from = from lit refl
