-- Terms of a table: each stands at one number, and a truth is worth 0 or 1.
use Rattle.std.proofs.Common.{◌≡◌, ℕ, zero, suc, ◌<◌, Bool, true, false, if◌then◌else◌, eqb, List, length, get_or, slice_get, Some, sym, ◌∙◌, ap, subst, arith}
use Rattle.std.proofs.lemmas.Option.{slice_get-get_or}
use Rattle.gc0_base.specs.declared.word.Word.{Word}
use Rattle.word_terms.specs.declared.node.Sort.{Sort}
use Rattle.word_terms.specs.declared.node.Sort.TheVariants.{Truth}
use Rattle.word_terms.specs.declared.node.Op1.TheVariants as op1
use Rattle.word_terms.specs.declared.node.Op2.{Op2}
use Rattle.word_terms.specs.declared.node.Op2.TheVariants as op2
use Rattle.word_terms.specs.declared.node.TermId.{TermId}
use Rattle.word_terms.specs.declared.node.Node.{Node}
use Rattle.word_terms.specs.declared.node.Node.TheVariants as node
use Rattle.word_terms.specs.Terms.{Term, symbol, binary, sort_of, truth_word, value, bound_of, IsValuation}
use Rattle.word_terms.specs.Tables.{Table, IsTable, IsWhole, nth, term_of, terms_of, term}
use Rattle.word_terms.specs.Laws.{term-node}

pub same_id : (a b : TermId) → a.0 ≡ b.0 → a ≡ b
same_id a b e = let f : ℕ → TermId = λ n. record { 0 = n } in ap f e

same_word : (a b : Word) → a.0 ≡ b.0 → a ≡ b
same_word a b e = let f : ℕ → Word = λ n. record { 0 = n } in ap f e

-- nodes of one term are one, where the terms of their parts stand at one number
module _ (sorts : List Sort) (ts : List Term) (i j : ℕ) (same : (a b : ℕ) → a < i → b < j → nth ts a ≡ nth ts b → a ≡ b) where
  same-node : (n m : Node) → IsWhole sorts ts i n → IsWhole sorts ts j m → term_of ts n ≡ term_of ts m → n ≡ m
  same-node (node.Symbol k s) (node.Symbol l t) w v e = cc
  same-node (node.Constant x) (node.Constant y) w v e = ap node.Constant (same_word x y (cc))
  same-node (node.Truth x) (node.Truth y) w v e = cc
  same-node (node.Unary o a) (node.Unary p b) w v e =
      let x : a ≡ b = same_id a b (same a.0 b.0 w.0 v.0 (cc)) in
      let q : o ≡ p = cc in
      cc
  same-node (node.Binary o a b) (node.Binary p c d) w v e =
      let x : a ≡ c = same_id a c (same a.0 c.0 w.0 v.0 (cc)) in
      let y : b ≡ d = same_id b d (same b.0 d.0 w.1 v.1 (cc)) in
      let q : o ≡ p = cc in
      cc
  same-node (node.Choose c a b) (node.Choose f d g) w v e =
      let x : c ≡ f = same_id c f (same c.0 f.0 w.0 v.0 (cc)) in
      let y : a ≡ d = same_id a d (same a.0 d.0 w.1 v.1 (cc)) in
      let z : b ≡ g = same_id b g (same b.0 g.0 w.2 v.2 (cc)) in
      cc
  same-node n m w v e = absurd (cc)

truth-small : (b : Bool) → truth_word b < 2
truth-small true = omega arith
truth-small false = omega arith

picked-small : (b : Bool) (x y : ℕ) → x < 2 → y < 2 → (if b then x else y) < 2
picked-small true x y h k = h
picked-small false x y h k = k

-- a truth's node is worth 0 or 1, where its parts are
module _ (sorts : List Sort) (words : List Word) (val : IsValuation sorts words) (ts : List Term) (i : ℕ) (small : (a : ℕ) → a < i → sort_of (nth ts a) ≡ Truth → value words (nth ts a) < 2) where
  small-two : (o : Op2) (a b : Term) → sort_of (binary o a b) ≡ Truth → value words (binary o a b) < 2
  small-two op2.Less a b e = truth-small _
  small-two op2.Equal a b e = truth-small _
  small-two op2.Both a b e = truth-small _
  small-two op2.Either a b e = truth-small _
  small-two o a b e = absurd (cc)

  small-node : (n : Node) → IsWhole sorts ts i n → sort_of (term_of ts n) ≡ Truth → value words (term_of ts n) < 2
  small-node (node.Symbol k s) w e = subst (λ (q : Sort). value words (symbol k q) < bound_of q) e (val.1 k s w)
  small-node (node.Constant x) w e = absurd (cc)
  small-node (node.Truth b) w e = truth-small b
  small-node (node.Unary op1.Flip a) w e = truth-small _
  small-node (node.Unary op1.Neg a) w e = absurd (cc)
  small-node (node.Unary op1.Not a) w e = absurd (cc)
  small-node (node.Binary o a b) w e = small-two o (nth ts a.0) (nth ts b.0) e
  small-node (node.Choose c a b) w e =
      picked-small (eqb (value words (nth ts c.0)) 0) (value words (nth ts b.0)) (value words (nth ts a.0)) (small b.0 w.2 (sym w.3.1 ∙ e)) (small a.0 w.1 e)

module _ (t : Table) (ok : IsTable t) where
  pub node_at : ℕ → Node
  node_at i = get_or t.nodes i (node.Truth false)

  pub stands-at : (i : ℕ) → i < length t.nodes → slice_get t.nodes i ≡ Some (node_at i)
  unfolding node_at
  stands-at i h = slice_get-get_or t.nodes i (node.Truth false) h

  pub term-at : (i : ℕ) → i < length t.nodes → term t.nodes i ≡ term_of (terms_of t.nodes) (node_at i)
  term-at i h = term-node t ok i (node_at i) (stands-at i h)

  unique-below : (n i j : ℕ) → i < n → i < length t.nodes → j < length t.nodes → term t.nodes i ≡ term t.nodes j → i ≡ j
  unique-below zero i j h p q e = absurd (omega arith)
  unique-below (suc n) i j h p q e =
      let one : node_at i ≡ node_at j =
      same-node t.sorts (terms_of t.nodes) i j (λ a b x y f. unique-below n a b (omega arith) (omega arith) (omega arith) f) (node_at i) (node_at j)
      (ok.whole i (node_at i) (stands-at i p)) (ok.whole j (node_at j) (stands-at j q)) (sym (term-at i p) ∙ e ∙ term-at j q) in
      ok.once i j (node_at i) (stands-at i p) (stands-at j q ∙ ap Some (sym one))

  -- each term stands at one number
  pub unique : (i j : ℕ) → i < length t.nodes → j < length t.nodes → term t.nodes i ≡ term t.nodes j → i ≡ j
  unique i j p q e = unique-below (suc i) i j (omega arith) p q e

  module _ (words : List Word) (val : IsValuation t.sorts words) where
    small-below : (n i : ℕ) → i < n → i < length t.nodes → sort_of (term t.nodes i) ≡ Truth → value words (term t.nodes i) < 2
    small-below zero i h p e = absurd (omega arith)
    small-below (suc n) i h p e =
        subst (λ x. value words x < 2) (sym (term-at i p))
        (small-node t.sorts words val (terms_of t.nodes) i (λ a x f. small-below n a (omega arith) (omega arith) f) (node_at i) (ok.whole i (node_at i) (stands-at i p)) (ap sort_of (sym (term-at i p)) ∙ e))

    -- a truth is worth 0 or 1
    pub small : (i : ℕ) → i < length t.nodes → sort_of (term t.nodes i) ≡ Truth → value words (term t.nodes i) < 2
    small i p e = small-below (suc i) i (omega arith) p e
