-- What a set of nodes has after an insertion.
use Rattle.std.proofs.Common.{◌≡◌, ◌+◌, ◌<◌, ◌^◌, Bool, true, false, if◌then◌else◌, List, [], ◌∷◌, ◌++◌, length, refl, sym, ◌∙◌, true≢false}
use Rattle.std.specs.List.{list_any}
use Rattle.std.proofs.lemmas.Map.Keys.{any_passes_from_place}
use Rattle.indexmap.specs.IndexSet.{insert_key}
use Rattle.word_terms.specs.declared.node.Sort.{Sort}
use Rattle.word_terms.specs.declared.node.Node.{Node}
use Rattle.word_terms.specs.Tables.{IsTable, IsWhole, terms_of}
use Rattle.word_terms.specs.Laws.{IsTable-node}

module _ (eq : Node → Node → Bool) (same : (n : Node) → eq n n ≡ true) where
  pub IsTable-insert_key : (nodes : List Node) (sorts : List Sort) (n : Node) → IsTable (record { nodes = nodes; sorts = sorts })
      → IsWhole sorts (terms_of nodes) (length nodes) n → length nodes + 1 < 2 ^ 32
      → IsTable (record { nodes = insert_key eq nodes n; sorts = sorts })
  IsTable-insert_key nodes sorts n t w few = by (list_any (eq n) nodes) refl
    where
      by : (b : Bool) → list_any (eq n) nodes ≡ b → IsTable (record { nodes = if b then nodes else nodes ++ n ∷ []; sorts = sorts })
      by true e = t
      by false e = IsTable-node nodes sorts n t w (λ i at. true≢false (sym (any_passes_from_place (eq n) nodes i n at (same n)) ∙ e)) few
