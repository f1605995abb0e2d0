-- Roots keep their terms as a table grows.
use Rattle.std.proofs.Common.{◌≡◌, ◌+◌, ℕ, zero, suc, ◌<◌, List, [], ◌∷◌, ◌++◌, length, map, All, refl, sym, ◌∙◌, ap, subst, add-one, arith}
use Rattle.std.specs.List.{slice_index_or}
use Rattle.std.proofs.lemmas.List.{map-append}
use Rattle.std.proofs.lemmas.List.Elements.{All-append}
use Rattle.word_terms.specs.declared.node.Sort.{Sort}
use Rattle.word_terms.specs.declared.node.Sort.TheVariants.{Word32, Truth}
use Rattle.word_terms.specs.declared.node.Node.{Node}
use Rattle.word_terms.specs.declared.node.TermId.{TermId}
use Rattle.word_terms.specs.Terms.{symbol, sort_of}
use Rattle.word_terms.specs.Tables.{term}
use Rattle.word_terms.specs.Laws.{Keeps}
use Rattle.word_blast.specs.Queries.{ids}
use Rattle.solver_bench.specs.declared.family.Pair.{Pair}
use Rattle.solver_bench.specs.Families.{pairs, pair_term, IsKnown}

pub known_kept : (old new : List Node) → Keeps old new → (s : Sort) (t : ℕ) → IsKnown old s t → IsKnown new s t
known_kept old new k s t h = (omega (arith, k.more), ap sort_of (k.same t h.0) ∙ h.1)

all_kept : (old new : List Node) → Keeps old new → (rs : List TermId) → All (λ r. IsKnown old Truth r.0) rs → All (λ r. IsKnown new Truth r.0) rs
all_kept old new k rs h = λ i d below. known_kept old new k Truth (slice_index_or rs i d).0 (h i d below)

terms_kept : (old new : List Node) → Keeps old new → (rs : List TermId) → All (λ r. IsKnown old Truth r.0) rs → map (λ (r : TermId). term new r.0) rs ≡ map (λ (r : TermId). term old r.0) rs
terms_kept old new k [] h = refl
terms_kept old new k (r ∷ rs) h =
    let first : term new r.0 ≡ term old r.0 = k.same r.0 (h 0 r (omega arith)).0 in
    let rest : map (λ (r : TermId). term new r.0) rs ≡ map (λ (r : TermId). term old r.0) rs = terms_kept old new k rs (λ i d below. h (suc i) d (omega arith)) in
    cc

-- with one root more, which the grown table has
pub roots_kept : (old new : List Node) (rs : List TermId) (root : TermId) → Keeps old new → All (λ r. IsKnown old Truth r.0) rs → IsKnown new Truth root.0
    → All (λ r. IsKnown new Truth r.0) (rs ++ root ∷ [])
roots_kept old new rs root k h one = All-append (λ (r : TermId). IsKnown new Truth r.0) rs (root ∷ []) (all_kept old new k rs h) single
  where
    single : All (λ (r : TermId). IsKnown new Truth r.0) (root ∷ [])
    single zero d below = one
    single (suc i) d below = absurd (omega arith)

pub pairs_kept : (p : Pair) (n : ℕ) (old new : List Node) (rs : List TermId) (root : TermId) → Keeps old new → All (λ r. IsKnown old Truth r.0) rs
    → map (λ (r : TermId). term old r.0) rs ≡ pairs p n → term new root.0 ≡ pair_term p (symbol n Word32) (symbol (n + 1) Word32)
    → map (λ (r : TermId). term new r.0) (rs ++ root ∷ []) ≡ pairs p (n + 1)
pairs_kept p n old new rs root k h made one =
    map-append (λ (r : TermId). term new r.0) rs (root ∷ [])
    ∙ ap (λ ts. ts ++ term new root.0 ∷ []) (terms_kept old new k rs h ∙ made)
    ∙ ap (λ t. pairs p n ++ t ∷ []) one
    ∙ more
  where
    more : pairs p n ++ pair_term p (symbol n Word32) (symbol (n + 1) Word32) ∷ [] ≡ pairs p (n + 1)
    more = subst (λ m. pairs p n ++ pair_term p (symbol n Word32) (symbol m Word32) ∷ [] ≡ pairs p m) (sym (add-one n)) refl

-- a table that grows twice keeps its terms
pub keeps_twice : (old mid new : List Node) → Keeps old mid → Keeps mid new → Keeps old new
keeps_twice old mid new j k = record {
  more = omega (arith, j.more, k.more);
  same = λ t h. k.same t (omega (arith, j.more)) ∙ j.same t h;
}

-- roots as a query takes them, by their numbers
pub are_truths : (nodes : List Node) (rs : List TermId) → All (λ r. IsKnown nodes Truth r.0) rs
    → (k d : ℕ) → k < length (ids rs) → IsKnown nodes Truth (slice_index_or (ids rs) k d)
are_truths nodes [] h k d below = absurd (omega arith)
are_truths nodes (r ∷ rs) h zero d below = h 0 r (omega arith)
are_truths nodes (r ∷ rs) h (suc k) d below = are_truths nodes rs (λ i e within. h (suc i) e (omega arith)) k d (omega arith)

pub terms_of_ids : (nodes : List Node) (rs : List TermId) → map (term nodes) (ids rs) ≡ map (λ (r : TermId). term nodes r.0) rs
terms_of_ids nodes [] = refl
terms_of_ids nodes (r ∷ rs) = ap (λ ts. term nodes r.0 ∷ ts) (terms_of_ids nodes rs)
