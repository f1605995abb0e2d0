-- Formulas with conjuncts, and entries with their reasons.
use Rattle.std.proofs.Common.{◌≡◌, Bool, true, false, not, List, [], ◌∷◌, refl, sym, ap, ◌∙◌}
use Rattle.std.specs.Prelude.{◌↔◌, IsTrue}
use Rattle.std.proofs.lemmas.Bool.{false≢true}
use Rattle.gc0_tree.specs.declared.Conjunct.{Conjunct}
use Rattle.gc0_tree.specs.declared.Conjunct.TheOpen.{Conjunct-F}
use Rattle.gc0_tree.specs.declared.Conjunct.TheFolds.{fold_out-Conjunct}
use Rattle.gc0_tree.specs.Tree.{Conjuncts}
use Rattle.gc0_tree.specs.Views.{conjunct_at, conjunct_view, conjuncts_view}
use Rattle.assumption_log.specs.AllKept.{has_parts}

layer : (y : Conjunct-F (Conjuncts → Conjuncts)) (rest : Conjuncts) → has_parts (conjunct_at y rest) ≡ true
layer (Conjunct-F.Value e) rest = refl
layer (Conjunct-F.Acc e f) rest = refl
layer (Conjunct-F.Instance at p args) rest = refl
layer (Conjunct-F.Choice at c these those) rest = refl

along : (f : Conjuncts → Conjuncts) (y : Conjunct-F (Conjuncts → Conjuncts)) → f ≡ conjunct_at y → (rest : Conjuncts) → has_parts (f rest) ≡ true
along f y e rest = ap (λ (g : Conjuncts → Conjuncts). has_parts (g rest)) e ∙ layer y rest

something : (c : Conjunct) (rest : Conjuncts) → has_parts (conjunct_view c rest) ≡ true
something c = along (conjunct_view c) _ (fold_out-Conjunct (Conjuncts → Conjuncts) conjunct_at c)

-- a formula has a conjunct exactly where its list isn't empty
pub parts_told : (cs : List Conjunct) (empty : Bool) → IsTrue empty ↔ (cs ≡ []) → not empty ≡ has_parts (conjuncts_view cs)
parts_told [] true told = refl
parts_told [] false told = absurd (false≢true (told.1 refl))
parts_told (c ∷ cs) true told = absurd (nil_cons c cs (told.0 refl))
  where
    nil_cons : (x : Conjunct) (xs : List Conjunct) → x ∷ xs ≡ [] → ⊥
    nil_cons x xs e = cc
parts_told (c ∷ cs) false told = sym (something c (conjuncts_view cs))
