-- What is permitted behind conjuncts, one after the other.
use Rattle.std.proofs.Common.{◌≡◌, ℕ, ◌<◌, ◌+◌, List, [], ◌∷◌, ◌++◌, Option, fold, map, length, get_or, drop, add-one, drop-cons, refl, sym, ap, ◌∙◌}
use Rattle.gc0_tree.specs.declared.Conjunct.{Conjunct}
use Rattle.gc0_tree.specs.declared.Conjunct.TheOpen.{Conjunct-F}
use Rattle.gc0_tree.specs.declared.Conjunct.TheFolds.{fold_out-Conjunct}
use Rattle.gc0_tree.specs.Tree.{Conjuncts, no_parts}
use Rattle.gc0_tree.specs.Views.{conjunct_at, conjunct_view, conjuncts_view}
use Rattle.c0_meaning.specs.Framing.{Permission, parts_unframed}
use Rattle.self_framing.specs.declared.fault.FrameFault.{FrameFault}
use Rattle.self_framing.specs.declared.fault.FrameFault.TheVariants as fault
use Rattle.self_framing.specs.FrameFaults.{earlier}
use Rattle.self_framing.specs.Left.{behind}

layer : (y : Conjunct-F (Conjuncts → Conjuncts)) (left : List Permission) (rest : Conjuncts) → behind left (conjunct_at y rest) ≡ behind (behind left (conjunct_at y no_parts)) rest
layer (Conjunct-F.Value e) left rest = refl
layer (Conjunct-F.Acc e f) left rest = refl
layer (Conjunct-F.Instance at p args) left rest = refl
layer (Conjunct-F.Choice at c these those) left rest = refl

along : (f : Conjuncts → Conjuncts) (y : Conjunct-F (Conjuncts → Conjuncts)) → f ≡ conjunct_at y → (left : List Permission) (rest : Conjuncts) → behind left (f rest) ≡ behind (behind left (f no_parts)) rest
along f y e left rest =
    ap (λ (g : Conjuncts → Conjuncts). behind left (g rest)) e
    ∙ layer y left rest
    ∙ sym (ap (λ (g : Conjuncts → Conjuncts). behind (behind left (g no_parts)) rest) e)

behind_one : (c : Conjunct) (left : List Permission) (rest : Conjuncts) → behind left (conjunct_view c rest) ≡ behind (behind left (conjunct_view c no_parts)) rest
behind_one c = along (conjunct_view c) _ (fold_out-Conjunct (Conjuncts → Conjuncts) conjunct_at c)

behind_more : (cs : List Conjunct) (c : Conjunct) (left : List Permission) → behind left (conjuncts_view (cs ++ c ∷ [])) ≡ behind (behind left (conjuncts_view cs)) (conjunct_view c no_parts)
behind_more [] c left = refl
behind_more (x ∷ cs) c left =
    behind_one x left (conjuncts_view (cs ++ c ∷ []))
    ∙ behind_more cs c (behind left (conjunct_view x no_parts))
    ∙ ap (λ l. behind l (conjunct_view c no_parts)) (sym (behind_one x left (conjuncts_view cs)))

-- the faults of conjuncts, of which those before were judged
abbrev pub with_parts : Option FrameFault → List Permission → Conjuncts → Option FrameFault
with_parts least left cs = fold earlier least (map fault.NotFramed (parts_unframed left cs))

-- one more is judged
pub one_more : (old new first : Option FrameFault) (left here : List Permission) (taken more : List Conjunct) (c : Conjunct) (dropped less : List Conjunct)
    → more ≡ taken ++ c ∷ [] → dropped ≡ c ∷ less
    → ((rest : Conjuncts) → with_parts new (behind here (conjunct_view c no_parts)) rest ≡ with_parts old here (conjunct_view c rest))
    → here ≡ behind left (conjuncts_view taken)
    → with_parts old (behind left (conjuncts_view taken)) (conjuncts_view dropped) ≡ first
    → with_parts new (behind left (conjuncts_view more)) (conjuncts_view less) ≡ first
one_more old new first left here taken more c dropped less front back step at before =
    ap (λ l. with_parts new (behind left (conjuncts_view l)) (conjuncts_view less)) front
    ∙ ap (λ l. with_parts new l (conjuncts_view less)) (behind_more taken c left)
    ∙ ap (λ l. with_parts new (behind l (conjunct_view c no_parts)) (conjuncts_view less)) (sym at)
    ∙ step (conjuncts_view less)
    ∙ ap (λ l. with_parts old l (conjunct_view c (conjuncts_view less))) at
    ∙ ap (λ l. with_parts old (behind left (conjuncts_view taken)) (conjuncts_view l)) (sym back)
    ∙ before

drop_more : (xs : List Conjunct) (i : ℕ) (d : Conjunct) → i < length xs → drop i xs ≡ get_or xs i d ∷ drop (i + 1) xs
drop_more xs i d lt = rw add-one (drop-cons xs i d lt)

-- what is left begins with the next
pub next_of : (xs : List Conjunct) (i : ℕ) (c : Conjunct) → i < length xs → c ≡ get_or xs i c → drop i xs ≡ c ∷ drop (i + 1) xs
next_of xs i c lt is = drop_more xs i c lt ∙ ap (λ x. x ∷ drop (i + 1) xs) (sym is)
