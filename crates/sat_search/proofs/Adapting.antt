-- What the plain analysis learns.
use Rattle.std.proofs.Common.{◌≡◌, ◌∙◌, ℕ, ◌<◌, ◌≤◌, List, Option, Some, None, length, arith, sym, ap, subst, inl, inr}
use Rattle.std.specs.Option.{IsSome, IfSome, IfNone}
use Rattle.std.specs.List.{slice_get, Contains}
use Rattle.std.proofs.lemmas.Bool.{cases_order, false≢true}
use Rattle.std.proofs.lemmas.Option.{same_Some, none-some, slice_get_within}
use Rattle.sat_check.specs.declared.clause.Lit.{Lit}
use Rattle.sat_check.specs.declared.clause.Clause.{Clause}
use Rattle.search_base.specs.declared.trail.Step.{Step}
use Rattle.search_base.specs.Replacing as plain
use Rattle.sat_search.specs.Learning.{Learns, IsBase, IsFalseAt}
use Rattle.search_base.specs.Refuting.{no_some}

-- the decision of the last level is the asserting literal, if the clause has it
pub Learns-some :
    (known : List Clause) (steps : List Step) (start : ℕ) (lits : List Lit) (hints : List ℕ) (keep : ℕ) (asserting : Lit) → plain.Learns known steps start lits hints keep
    → Contains lits asserting → IsFalseAt steps asserting start → Learns known steps start lits hints (Some asserting) keep
Learns-some known steps start lits hints keep asserting learns stands (step, at, is) =
    record {
      refutes = learns.refutes;
      among = learns.among;
      others = λ lit h.
          elim (learns.decided lit h) [
            | inl (decision, there, none, same) ↦
                let e : step ≡ decision = same_Some step decision (sym at ∙ there) in
                inl (ap (λ (l : Lit). Some l) (sym is ∙ ap (λ (s : Step). s.falsified) e ∙ same))
            | inr before ↦ inr before
          ];
      late = λ lit e. record { place = start; step = step; late = omega arith; at = at; same = is ∙ same_Some asserting lit e };
      stands = λ lit e. subst (Contains lits) (same_Some asserting lit e) stands;
      keep_le = learns.keep_le;
      last = learns.last;
    }

-- else all its literals were false before that level
pub Learns-none :
    (known : List Clause) (steps : List Step) (start base : ℕ) (lits : List Lit) (hints : List ℕ) (keep : ℕ) → plain.Learns known steps start lits hints keep → IsBase steps base
    → ((step : Step) → slice_get steps start ≡ Some step → base ≤ start → ¬ Contains lits step.falsified) → Learns known steps start lits hints None keep
Learns-none known steps start base lits hints keep learns is_base none =
    record {
      refutes = learns.refutes;
      among = learns.among;
      others = λ lit h.
          elim (learns.decided lit h) [
            | inl (decision, there, no_reason, same) ↦
                let here : base ≤ start → ⊥ = λ le. none decision there le (subst (Contains lits) (sym same) h) in
                absurd (elim (cases_order start base) [
                  | inl e ↦ here (omega (arith, e))
                  | inr apart ↦ elim apart [ inl less ↦ no_some decision.reason no_reason (is_base start decision less there) | inr more ↦ here (omega (arith, more)) ]
                ])
            | inr before ↦ inr before
          ];
      late = λ lit e. absurd (none-some lit e);
      stands = λ lit e. absurd (none-some lit e);
      keep_le = learns.keep_le;
      last = learns.last;
    }

pub Learns-adapted :
    (known : List Clause) (steps : List Step) (start base : ℕ) (lits given : List Lit) (hints : List ℕ) (keep : ℕ) (asserting : Option Lit) → plain.Learns known steps start lits hints keep → IsBase steps base → given ≡ lits
    → IfSome asserting (λ lit. Contains given lit × IsFalseAt steps lit start × (base ≤ start))
    → IfNone asserting ((step : Step) → slice_get steps start ≡ Some step → base ≤ start → ¬ Contains given step.falsified) → Learns known steps start lits hints asserting keep
Learns-adapted known steps start base lits given hints keep None learns is_base same some none =
    Learns-none known steps start base lits hints keep learns is_base (λ step at le h. none step at le (subst (λ (l : List Lit). Contains l step.falsified) (sym same) h))
Learns-adapted known steps start base lits given hints keep (Some lit) learns is_base same some none =
    Learns-some known steps start lits hints keep lit learns (subst (λ (l : List Lit). Contains l lit) same some.0) some.1

pub leveled :
    (steps : List Step) (start base : ℕ) (lits : List Lit) (asserting : Option Lit) → IfSome asserting (λ lit. Contains lits lit × IsFalseAt steps lit start × (base ≤ start)) → IsSome asserting → base < length steps
leveled steps start base lits None some is = absurd (false≢true is)
leveled steps start base lits (Some lit) (stands, (step, at, same), le) is = omega (arith, le, slice_get_within steps start step at)
