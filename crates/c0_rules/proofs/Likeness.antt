-- Lists of types that differ in length.
use Rattle.std.proofs.Common.{◌≡◌, suc, Bool, true, false, ◌&&◌, List, [], ◌∷◌, length, refl, ap, ◌∙◌}
use Rattle.c0_names.specs.declared.types.ValueType.{ValueType}
use Rattle.c0_names.specs.Types.{same_type}
use Rattle.c0_rules.specs.Rules.{same_types}

and_false : (b : Bool) → b && false ≡ false
and_false true = refl
and_false false = refl

pub types_differ : (vs ws : List ValueType) → (length vs ≡ length ws → ⊥) → same_types vs ws ≡ false
types_differ [] [] h = absurd (h refl)
types_differ [] (w ∷ ws) h = refl
types_differ (v ∷ vs) [] h = refl
types_differ (v ∷ vs) (w ∷ ws) h = ap (λ b. same_type v w && b) (types_differ vs ws (λ e. h (ap (λ n. suc n) e))) ∙ and_false (same_type v w)
