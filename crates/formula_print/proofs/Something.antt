-- A conjunct is something: no `true` stands for it.
use Rattle.std.proofs.Common.{◌≡◌, ◌≤◌, List, [], ◌∷◌, length, refl, ap, ◌∙◌, arith}
use Rattle.gc0_tree.specs.declared.Conjunct.{Conjunct}
use Rattle.gc0_tree.specs.declared.Conjunct.TheOpen.{Conjunct-F}
use Rattle.gc0_tree.specs.declared.Conjunct.TheFolds.{fold_out-Conjunct}
use Rattle.gc0_tree.specs.Tree.{Conjuncts}
use Rattle.gc0_tree.specs.Views.{conjunct_at, conjunct_view, conjuncts_view}
use Rattle.formula_print.specs.Numbered.{or_true}

layer : (y : Conjunct-F (Conjuncts → Conjuncts)) (rest : Conjuncts) → or_true (conjunct_at y rest) ≡ []
layer (Conjunct-F.Value e) rest = refl
layer (Conjunct-F.Acc e f) rest = refl
layer (Conjunct-F.Instance at p args) rest = refl
layer (Conjunct-F.Choice at c these those) rest = refl

along : (f : Conjuncts → Conjuncts) (y : Conjunct-F (Conjuncts → Conjuncts)) → f ≡ conjunct_at y → (rest : Conjuncts) → or_true (f rest) ≡ []
along f y e rest = ap (λ (g : Conjuncts → Conjuncts). or_true (g rest)) e ∙ layer y rest

something : (c : Conjunct) (rest : Conjuncts) → or_true (conjunct_view c rest) ≡ []
something c = along (conjunct_view c) _ (fold_out-Conjunct (Conjuncts → Conjuncts) conjunct_at c)

pub at_least_one : (cs : List Conjunct) → 1 ≤ length cs → or_true (conjuncts_view cs) ≡ []
at_least_one [] h = let n : ⊥ = omega arith in absurd n
at_least_one (c ∷ cs) h = something c (conjuncts_view cs)
