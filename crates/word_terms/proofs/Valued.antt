-- What `evaluate` writes, node by node.
use Rattle.std.proofs.Common.{◌≡◌, ◌≢◌, ℕ, zero, suc, ◌+◌, ◌<◌, ◌≤◌, List, [], ◌∷◌, length, get_or, slice_get, Some, refl, sym, ◌∙◌, ap, subst, below_more, arith, set}
use Rattle.std.proofs.lemmas.Option.{slice_get-get_or, slice_get_within}
use Rattle.std.proofs.lemmas.List.{get_or-set_same, get_or-set_other, length-set}
use Rattle.gc0_base.specs.declared.word.Word.{Word}
use Rattle.word_terms.specs.declared.node.Sort.{Sort}
use Rattle.word_terms.specs.declared.node.Node.{Node}
use Rattle.word_terms.specs.declared.node.Node.TheVariants as node
use Rattle.word_terms.specs.Terms.{Term, value, unary_value}
use Rattle.word_terms.specs.Tables.{Table, nth, term, term_of, terms_of, IsTable, IsWhole}
use Rattle.word_terms.specs.Worth.{word_of, worths, number_at, node_worth, HasParts}
use Rattle.word_terms.specs.Laws.{length-terms_of, term-node}

-- the places of a node's parts are below its own
pub HasParts-IsWhole : (sorts : List Sort) (ts : List Term) (at words done : ℕ) → words ≡ length sorts → at ≤ done → (n : Node) → IsWhole sorts ts at n → HasParts words done n
HasParts-IsWhole sorts ts at words done e h (node.Symbol i s) w = let within : i < length sorts = slice_get_within sorts i s w in omega arith
HasParts-IsWhole sorts ts at words done e h (node.Constant x) w = tt
HasParts-IsWhole sorts ts at words done e h (node.Truth b) w = tt
HasParts-IsWhole sorts ts at words done e h (node.Unary op a) w = omega arith
HasParts-IsWhole sorts ts at words done e h (node.Binary op a b) w = (omega arith, omega arith)
HasParts-IsWhole sorts ts at words done e h (node.Choose c a b) w = (omega arith, omega arith, omega arith)

-- a node is worth what its term is, where its parts are
pub node_worth-term : (sorts : List Sort) (words done : List Word) (ts : List Term) (at : ℕ) → ((k : ℕ) → k < at → number_at done k ≡ value words (nth ts k))
    → (n : Node) → IsWhole sorts ts at n → node_worth words done n ≡ value words (term_of ts n)
node_worth-term sorts words done ts at same (node.Symbol i s) w = refl
node_worth-term sorts words done ts at same (node.Constant x) w = refl
node_worth-term sorts words done ts at same (node.Truth b) w = refl
node_worth-term sorts words done ts at same (node.Unary op a) w = ap (unary_value op) (same a.0 w.0)
node_worth-term sorts words done ts at same (node.Binary op a b) w = let e = same a.0 w.0 in let f = same b.0 w.1 in cc
node_worth-term sorts words done ts at same (node.Choose c a b) w = let d = same c.0 w.0 in let e = same a.0 w.1 in let f = same b.0 w.2 in cc

-- the number of the word at a place that is there
pub number_at-word : (ws : List Word) (i : ℕ) (d : Word) → i < length ws → number_at ws i ≡ (get_or ws i d).0
number_at-word [] i d h = absurd (omega arith)
number_at-word (w ∷ ws) zero d h = refl
number_at-word (w ∷ ws) (suc i) d h = number_at-word ws i d (omega arith)

module _ (t : Table) (ok : IsTable t) (words out : List Word) where
  -- after a node's worth is written, one more place is right
  pub number_at-set : (i : ℕ) (w : Word) (d : Node) → i < length out → length out ≡ length t.nodes → w.0 ≡ node_worth words out (get_or t.nodes i d)
      → ((k : ℕ) → k < i → number_at out k ≡ value words (term t.nodes k))
      → (k : ℕ) → k < i + 1 → number_at (set out i w) k ≡ value words (term t.nodes k)
  number_at-set i w d within long e same = below_more (λ k. number_at (set out i w) k ≡ value words (term t.nodes k)) i before here
    where
      before : (k : ℕ) → k < i → number_at (set out i w) k ≡ value words (term t.nodes k)
      before k h =
          let ne : k ≢ i = omega arith in
          number_at-word (set out i w) k w (omega (arith, length-set out i w)) ∙ ap (λ x. x.0) (get_or-set_other out i k w w ne) ∙ sym (number_at-word out k w (omega arith)) ∙ same k h

      here : number_at (set out i w) i ≡ value words (term t.nodes i)
      here =
          let n : Node = get_or t.nodes i d in
          let at : slice_get t.nodes i ≡ Some n = slice_get-get_or t.nodes i d (omega arith) in
          number_at-word (set out i w) i w (omega (arith, length-set out i w)) ∙ ap (λ x. x.0) (get_or-set_same out i w w within) ∙ e
          ∙ node_worth-term t.sorts words out (terms_of t.nodes) i same n (ok.whole i n at) ∙ ap (value words) (sym (term-node t ok i n at))

-- words that are right at each place are right
pub worths-from : (words out : List Word) (nodes : List Node) → length out ≡ length nodes → ((k : ℕ) → k < length nodes → number_at out k ≡ value words (term nodes k))
    → out ≡ worths words (terms_of nodes)
worths-from words out nodes long same = by out (terms_of nodes) (omega (arith, length-terms_of nodes)) (λ k h. same k (omega (arith, length-terms_of nodes)))
  where
    by : (ws : List Word) (ts : List Term) → length ws ≡ length ts → ((k : ℕ) → k < length ts → number_at ws k ≡ value words (nth ts k)) → ws ≡ worths words ts
    by [] [] e h = refl
    by [] (t ∷ ts) e h = absurd (omega arith)
    by (w ∷ ws) [] e h = absurd (omega arith)
    by (w ∷ ws) (t ∷ ts) e h =
        let first : w ≡ word_of (value words t) = ap word_of (h 0 (omega arith)) in
        let rest : ws ≡ worths words ts = by ws ts (omega arith) (λ k below. h (suc k) (omega arith)) in
        ap (λ x. x ∷ ws) first ∙ ap (λ xs. word_of (value words t) ∷ xs) rest

-- what the worth of a node asks for
pub HasParts-node : (t : Table) → IsTable t → (nodes : List Node) → nodes ≡ t.nodes → (words done at : ℕ) (d : Node) → at < length nodes → words ≡ length t.sorts → at ≤ done
    → HasParts words done (get_or nodes at d)
HasParts-node t ok nodes e words done at d within same h =
    let inside : at < length t.nodes = omega (arith, ap length e) in
    subst (λ ns. HasParts words done (get_or ns at d)) (sym e)
    (HasParts-IsWhole t.sorts (terms_of t.nodes) at words done same h (get_or t.nodes at d) (ok.whole at (get_or t.nodes at d) (slice_get-get_or t.nodes at d inside)))
