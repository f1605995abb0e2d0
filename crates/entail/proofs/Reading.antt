-- Answers that can be read off.
use Rattle.std.proofs.Common.{◌≡◌, ℕ, zero, suc, ◌<◌, Bool, true, false, eqb, List, [], ◌∷◌, map, length, get_or, slice_get, Some, ◌⊎◌, inl, inr, refl, sym, ◌∙◌, ap, subst, arith}
use Rattle.std.specs.List.{Any, Contains}
use Rattle.std.proofs.lemmas.List.{length-map, get_or-map}
use Rattle.word_terms.specs.declared.node.Op2.TheVariants as op2
use Rattle.word_terms.specs.declared.node.TermId.{TermId}
use Rattle.word_terms.specs.declared.node.Node.{Node}
use Rattle.word_terms.specs.declared.node.Node.TheVariants as node
use Rattle.word_terms.specs.Terms.{Term, truth, binary, truth_word, value}
use Rattle.word_terms.specs.Tables.{Table, IsTable, nth, term_of, terms_of, term}
use Rattle.word_terms.specs.Laws.{term-node}
use Rattle.word_blast.specs.Queries.{ids}
use Rattle.word_blast.specs.Valuations.{AreTruths}
use Rattle.entail.specs.Questions.{Question, question_of, IsTrivial, claim_is_true, claim_is_fact, fact_is_false, claim_equates, IsEntailed}
use Rattle.entail.specs.Settling.{IsEvident, Settles}
use Rattle.entail.proofs.Trees.{same_id, unique, node_at, stands-at, term-at}

eqb-same : (n : ℕ) → eqb n n ≡ true
eqb-same n = grind arith

-- what is read off follows
pub trivial-entailed : (q : Question) → IsTrivial q → IsEntailed q
trivial-entailed q (claim_is_true e) words val facts = ap (value words) e
trivial-entailed q (claim_is_fact h) words val facts = ap (value words) (sym h.2) ∙ facts h.0 q.claim h.1
trivial-entailed q (fact_is_false h) words val facts =
    let one : value words (get_or q.facts h.0 (truth false)) ≡ 1 = facts h.0 (truth false) h.1 in
    let none : value words (get_or q.facts h.0 (truth false)) ≡ 0 = ap (value words) h.2 in
    absurd (omega arith)
trivial-entailed q (claim_equates t e) words val facts = ap (value words) e ∙ ap truth_word (eqb-same (value words t))

get_or-within : {A : Type 0} (xs : List A) (k : ℕ) (d e : A) → k < length xs → get_or xs k d ≡ get_or xs k e
get_or-within [] k d e h = absurd (omega arith)
get_or-within (x ∷ xs) zero d e h = refl
get_or-within (x ∷ xs) (suc k) d e h = get_or-within xs k d e (omega arith)

-- nodes by their terms
truth-node : (ts : List Term) (b : Bool) (n : Node) → term_of ts n ≡ truth b → n ≡ node.Truth b
truth-node ts b (node.Truth c) e = cc
truth-node ts b n e = absurd (cc)

equal-node : (ts : List Term) (x : Term) (n : Node) → term_of ts n ≡ binary op2.Equal x x → (a : TermId) × (b : TermId) × (n ≡ node.Binary op2.Equal a b) × (nth ts a.0 ≡ x) × (nth ts b.0 ≡ x)
equal-node ts x (node.Binary o a b) e = let q : o ≡ op2.Equal = cc in (a, b, cc, cc, cc)
equal-node ts x n e = absurd (cc)

-- a fact's number
pub fact-within : (nodes : List Node) (facts : List TermId) → AreTruths nodes (ids facts) → (k : ℕ) (d : TermId) → k < length facts → (get_or facts k d).0 < length nodes
fact-within nodes facts fs k d h =
    subst (λ n. n < length nodes) (get_or-map (λ (x : TermId). x.0) facts k d 0 h) (fs k 0 (omega (arith, length-map facts (λ (x : TermId). x.0)))).0

module _ (t : Table) (ok : IsTable t) (facts : List TermId) (claim : TermId) (fs : AreTruths t.nodes (ids facts)) (within : claim.0 < length t.nodes) where
  -- a fact's term in the question
  fact-term : (k : ℕ) (d : TermId) (e : Term) → k < length facts → get_or (map (term t.nodes) (ids facts)) k e ≡ term t.nodes (get_or facts k d).0
  fact-term k d e h =
      get_or-map (term t.nodes) (ids facts) k 0 e (omega (arith, length-map facts (λ (x : TermId). x.0))) ∙ ap (term t.nodes) (get_or-map (λ (x : TermId). x.0) facts k d 0 h)

  facts-long : length (map (term t.nodes) (ids facts)) ≡ length facts
  facts-long = length-map (ids facts) (term t.nodes) ∙ length-map facts (λ (x : TermId). x.0)

  fact-stands : (x : TermId) (y : Term) → Contains facts x → term t.nodes x.0 ≡ y → Contains (map (term t.nodes) (ids facts)) y
  fact-stands x y h e = (h.0, (let p : h.0 < length facts = h.1 in omega (arith, facts-long)), fact-term h.0 x y h.1 ∙ ap (λ (z : TermId). term t.nodes z.0) h.2 ∙ e)

  pub settled-trivial : Any (Settles t.nodes claim) facts → IsTrivial (question_of t (ids facts) claim.0)
  settled-trivial (k, x, h, e, s) = elim s as (λ _. IsTrivial (question_of t (ids facts) claim.0)) [
    | inl p ↦ claim_is_fact (fact-stands x (term t.nodes claim.0) (k, h, e) (ap (λ (z : TermId). term t.nodes z.0) p))
    | inr p ↦ fact_is_false (fact-stands x (truth false) (k, h, e) (term-node t ok x.0 (node.Truth false) p))
  ]

  pub evident-trivial : (n : Node) → slice_get t.nodes claim.0 ≡ Some n → IsEvident n → IsTrivial (question_of t (ids facts) claim.0)
  evident-trivial n at (inl e) = claim_is_true (term-node t ok claim.0 n at ∙ ap (term_of (terms_of t.nodes)) e)
  evident-trivial n at (inr (part, e)) = claim_equates (term t.nodes part.0) (term-node t ok claim.0 n at ∙ ap (term_of (terms_of t.nodes)) e)

  claim-node : (n : Node) → slice_get t.nodes claim.0 ≡ Some n → (x : Term) → term t.nodes claim.0 ≡ x → term_of (terms_of t.nodes) n ≡ x
  claim-node n at x e = sym (term-node t ok claim.0 n at) ∙ e

  pub trivial-read : (n : Node) → slice_get t.nodes claim.0 ≡ Some n → IsTrivial (question_of t (ids facts) claim.0) → IsEvident n ⊎ Any (Settles t.nodes claim) facts
  trivial-read n at (claim_is_true e) = inl (inl (truth-node (terms_of t.nodes) true n (claim-node n at (truth true) e)))
  trivial-read n at (claim_is_fact h) =
      let p : h.0 < length facts = let q = h.1 in omega (arith, facts-long) in
      let same : (get_or facts h.0 claim).0 ≡ claim.0 = unique t ok (get_or facts h.0 claim).0 claim.0 (fact-within t.nodes facts fs h.0 claim p) within (sym (fact-term h.0 claim (term t.nodes claim.0) p) ∙ h.2) in
      inr (h.0, claim, p, same_id (get_or facts h.0 claim) claim same, inl refl)
  trivial-read n at (fact_is_false h) =
      let p : h.0 < length facts = let q = h.1 in omega (arith, facts-long) in
      let x : TermId = get_or facts h.0 claim in
      let inside : x.0 < length t.nodes = fact-within t.nodes facts fs h.0 claim p in
      let e : node_at t ok x.0 ≡ node.Truth false =
      truth-node (terms_of t.nodes) false (node_at t ok x.0) (sym (term-at t ok x.0 inside) ∙ sym (fact-term h.0 claim (truth false) p) ∙ h.2) in
      inr (h.0, x, p, get_or-within facts h.0 x claim p, inr (stands-at t ok x.0 inside ∙ ap Some e))
  trivial-read n at (claim_equates x e) =
      let parts = equal-node (terms_of t.nodes) x n (claim-node n at (binary op2.Equal x x) e) in
      let a : TermId = parts.0 in
      let b : TermId = parts.1 in
      let whole = ok.whole claim.0 (node.Binary op2.Equal a b) (at ∙ ap Some parts.2) in
      let same : a.0 ≡ b.0 = unique t ok a.0 b.0 (let h : a.0 < claim.0 = whole.0 in omega arith) (let h : b.0 < claim.0 = whole.1 in omega arith) (parts.3 ∙ sym parts.4) in
      inl (inr (a, parts.2 ∙ ap (node.Binary op2.Equal a) (sym (same_id a b same))))
