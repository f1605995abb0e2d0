-- Laws of tables of terms: what a node behind the last leaves as it was.
use Rattle.std.specs.Prelude.{◌≡◌, ℕ, zero, suc, ◌+◌, ◌<◌, ◌≤◌, ◌^◌, false, List, [], ◌∷◌, ◌++◌, length, slice_get, Some, ◌⊎◌, refl}
use Rattle.std.proofs.Common.{sym, ◌∙◌, ap, subst, inl, inr, arith, length-append}
use Rattle.std.proofs.lemmas.Option.{slice_get_within}
use Rattle.std.proofs.Math.ListN.{get_or-append}
use Rattle.std.proofs.Math.Seq.{get_or-append_seam}
use Rattle.word_terms.specs.declared.node.Sort.{Sort}
use Rattle.word_terms.specs.declared.node.Node.{Node}
use Rattle.word_terms.specs.declared.node.Node.TheVariants as node
use Rattle.word_terms.specs.Terms.{Term, truth, sort_of, TakesOne, TakesTwo, TakesThree}
use Rattle.word_terms.specs.Tables.{Table, nth, term_of, terms_behind, terms_of, term, IsWhole, IsTable, Gives}

module _ {X : Type 0} where
  -- what stands in a list stands there when more follow
  pub slice_get-append : (xs ys : List X) (i : ℕ) → i < length xs → slice_get (xs ++ ys) i ≡ slice_get xs i
  slice_get-append [] ys i h = absurd (omega arith)
  slice_get-append (x ∷ xs) ys zero h = refl
  slice_get-append (x ∷ xs) ys (suc i) h = slice_get-append xs ys i (omega arith)

  -- and the item behind the last is the next
  pub slice_get-end : (xs : List X) (x : X) → slice_get (xs ++ x ∷ []) (length xs) ≡ Some x
  slice_get-end [] x = refl
  slice_get-end (y ∷ xs) x = slice_get-end xs x

  -- each place of a list with one more item is a place of the list, or the next
  pub slice_get-cases : (xs : List X) (x : X) (i : ℕ) (y : X) → slice_get (xs ++ x ∷ []) i ≡ Some y
      → ((i < length xs) × (slice_get xs i ≡ Some y)) ⊎ ((i ≡ length xs) × (y ≡ x))
  slice_get-cases [] x zero y h = inr (refl, cc)
  slice_get-cases [] x (suc i) y h = absurd (cc)
  slice_get-cases (z ∷ xs) x zero y h = inl (omega arith, h)
  slice_get-cases (z ∷ xs) x (suc i) y h =
      elim (slice_get-cases xs x i y h) as (λ _. ((suc i < length (z ∷ xs)) × (slice_get xs i ≡ Some y)) ⊎ ((suc i ≡ length (z ∷ xs)) × (y ≡ x))) [ inl w ↦ inl (omega arith, w.1) | inr w ↦ inr (omega arith, w.1) ]

-- the terms of nodes one after another
pub terms_behind-append : (ts : List Term) (xs ys : List Node) → terms_behind ts (xs ++ ys) ≡ terms_behind (terms_behind ts xs) ys
unfolding terms_behind
terms_behind-append ts [] ys = refl
terms_behind-append ts (x ∷ xs) ys = terms_behind-append (ts ++ term_of ts x ∷ []) xs ys

pub length-terms_behind : (ts : List Term) (ns : List Node) → length (terms_behind ts ns) ≡ length ts + length ns
unfolding terms_behind
length-terms_behind ts [] = omega arith
length-terms_behind ts (n ∷ ns) = omega (arith, length-terms_behind (ts ++ term_of ts n ∷ []) ns, length-append ts (term_of ts n ∷ []))

pub length-terms_of : (ns : List Node) → length (terms_of ns) ≡ length ns
length-terms_of ns = omega (arith, length-terms_behind [] ns)

-- the terms before stay
pub nth-terms_behind : (ts : List Term) (ns : List Node) (k : ℕ) → k < length ts → nth (terms_behind ts ns) k ≡ nth ts k
unfolding terms_behind
nth-terms_behind ts [] k h = refl
nth-terms_behind ts (n ∷ ns) k h =
    let longer : k < length (ts ++ term_of ts n ∷ []) = omega (arith, length-append ts (term_of ts n ∷ [])) in
    nth-terms_behind (ts ++ term_of ts n ∷ []) ns k longer ∙ get_or-append ts (term_of ts n ∷ []) (truth false) k h

-- the term of a number stays when nodes follow
pub term-append : (xs ys : List Node) (k : ℕ) → k < length xs → term (xs ++ ys) k ≡ term xs k
term-append xs ys k h =
    let within : k < length (terms_of xs) = omega (arith, length-terms_of xs) in
    ap (λ ts. nth ts k) (terms_behind-append [] xs ys) ∙ nth-terms_behind (terms_of xs) ys k within

-- the term of the node behind the last
pub term-end : (xs : List Node) (n : Node) → term (xs ++ n ∷ []) (length xs) ≡ term_of (terms_of xs) n
unfolding terms_behind
term-end xs n =
    ap (λ ts. nth ts (length xs)) (terms_behind-append [] xs (n ∷ []))
    ∙ subst (λ k. nth (terms_of xs ++ term_of (terms_of xs) n ∷ []) k ≡ term_of (terms_of xs) n) (length-terms_of xs)
    (get_or-append_seam (terms_of xs) (term_of (terms_of xs) n) [] (truth false))

-- terms agree below a number
abbrev pub Agree : ℕ → List Term → List Term → Type 0
Agree at ts us = (k : ℕ) → k < at → nth ts k ≡ nth us k

pub Agree-append : (xs ys : List Node) → Agree (length xs) (terms_of xs) (terms_of (xs ++ ys))
Agree-append xs ys k h = sym (term-append xs ys k h)

-- a node's term depends on the terms of its parts alone
pub term_of-Agree : (sorts : List Sort) (ts us : List Term) (at : ℕ) → Agree at ts us → (n : Node) → IsWhole sorts ts at n → term_of ts n ≡ term_of us n
term_of-Agree sorts ts us at same (node.Symbol i s) w = refl
term_of-Agree sorts ts us at same (node.Constant x) w = refl
term_of-Agree sorts ts us at same (node.Truth b) w = refl
term_of-Agree sorts ts us at same (node.Unary op a) w = let e = same a.0 w.0 in cc
term_of-Agree sorts ts us at same (node.Binary op a b) w = let e = same a.0 w.0 in let f = same b.0 w.1 in cc
term_of-Agree sorts ts us at same (node.Choose c a b) w = let d = same c.0 w.0 in let e = same a.0 w.1 in let f = same b.0 w.2 in cc

-- and so does what a node asks for
pub IsWhole-Agree : (sorts : List Sort) (ts us : List Term) (at : ℕ) → Agree at ts us → (n : Node) → IsWhole sorts ts at n → IsWhole sorts us at n
IsWhole-Agree sorts ts us at same (node.Symbol i s) w = w
IsWhole-Agree sorts ts us at same (node.Constant x) w = w
IsWhole-Agree sorts ts us at same (node.Truth b) w = w
IsWhole-Agree sorts ts us at same (node.Unary op a) w = (w.0, subst (λ t. TakesOne op (sort_of t)) (same a.0 w.0) w.1)
IsWhole-Agree sorts ts us at same (node.Binary op a b) w =
    (w.0, w.1, subst (λ t. TakesTwo op (sort_of t) (sort_of (nth us b.0))) (same a.0 w.0) (subst (λ t. TakesTwo op (sort_of (nth ts a.0)) (sort_of t)) (same b.0 w.1) w.2))
IsWhole-Agree sorts ts us at same (node.Choose c a b) w = (
  w.0,
  w.1,
  w.2,
  subst (λ t. TakesThree (sort_of t) (sort_of (nth us a.0)) (sort_of (nth us b.0))) (same c.0 w.0)
      (subst (λ t. TakesThree (sort_of (nth ts c.0)) (sort_of t) (sort_of (nth us b.0))) (same a.0 w.1)
      (subst (λ t. TakesThree (sort_of (nth ts c.0)) (sort_of (nth ts a.0)) (sort_of t)) (same b.0 w.2) w.3)),
)

-- more symbols leave what a node asks for
pub IsWhole-sorts : (sorts : List Sort) (s : Sort) (ts : List Term) (at : ℕ) (n : Node) → IsWhole sorts ts at n → IsWhole (sorts ++ s ∷ []) ts at n
IsWhole-sorts sorts s ts at (node.Symbol i t) w = slice_get-append sorts (s ∷ []) i (slice_get_within sorts i t w) ∙ w
IsWhole-sorts sorts s ts at (node.Constant x) w = w
IsWhole-sorts sorts s ts at (node.Truth b) w = w
IsWhole-sorts sorts s ts at (node.Unary op a) w = w
IsWhole-sorts sorts s ts at (node.Binary op a b) w = w
IsWhole-sorts sorts s ts at (node.Choose c a b) w = w

-- a table with one more symbol
pub IsTable-sorts : (nodes : List Node) (sorts : List Sort) (s : Sort) → IsTable (record { nodes = nodes; sorts = sorts })
    → length sorts + 1 < 2 ^ 32 → IsTable (record { nodes = nodes; sorts = sorts ++ s ∷ [] })
IsTable-sorts nodes sorts s t few = record {
  whole = λ i n at. IsWhole-sorts sorts s (terms_of nodes) i n (t.whole i n at);
  once = t.once;
  few_nodes = t.few_nodes;
  few_sorts = omega (arith, length-append sorts (s ∷ []));
}

-- a table with one more node, which stands nowhere in it
pub IsTable-node : (nodes : List Node) (sorts : List Sort) (n : Node) → IsTable (record { nodes = nodes; sorts = sorts })
    → IsWhole sorts (terms_of nodes) (length nodes) n → ((i : ℕ) → slice_get nodes i ≡ Some n → ⊥) → length nodes + 1 < 2 ^ 32
    → IsTable (record { nodes = nodes ++ n ∷ []; sorts = sorts })
IsTable-node nodes sorts n t w absent few = record {
  whole = whole;
  once = once;
  few_nodes = omega (arith, length-append nodes (n ∷ []));
  few_sorts = t.few_sorts;
}
  where
    more : List Node
    more = n ∷ []

    whole : (i : ℕ) (m : Node) → slice_get (nodes ++ n ∷ []) i ≡ Some m → IsWhole sorts (terms_of (nodes ++ n ∷ [])) i m
    whole i m at = elim (slice_get-cases nodes n i m at) as (λ _. IsWhole sorts (terms_of (nodes ++ n ∷ [])) i m) [
      | inl h ↦ IsWhole-Agree sorts (terms_of nodes) (terms_of (nodes ++ n ∷ [])) i (λ k below. Agree-append nodes (n ∷ []) k (omega arith)) m (t.whole i m h.1)
      | inr h ↦ subst (λ k. IsWhole sorts (terms_of (nodes ++ n ∷ [])) k m) (sym h.0) (subst (λ x. IsWhole sorts (terms_of (nodes ++ n ∷ [])) (length nodes) x) (sym h.1)
          (IsWhole-Agree sorts (terms_of nodes) (terms_of (nodes ++ n ∷ [])) (length nodes) (Agree-append nodes (n ∷ [])) n w))
    ]

    once : (i j : ℕ) (m : Node) → slice_get (nodes ++ n ∷ []) i ≡ Some m → slice_get (nodes ++ n ∷ []) j ≡ Some m → i ≡ j
    once i j m at bt = elim (slice_get-cases nodes n i m at) as (λ _. i ≡ j) [
      | inl h ↦ elim (slice_get-cases nodes n j m bt) as (λ _. i ≡ j) [
        | inl k ↦ t.once i j m h.1 k.1
        | inr k ↦ absurd (absent i (h.1 ∙ ap Some k.1))
      ]
      | inr h ↦ elim (slice_get-cases nodes n j m bt) as (λ _. i ≡ j) [
        | inl k ↦ absurd (absent j (k.1 ∙ ap Some h.1))
        | inr k ↦ h.0 ∙ sym k.0
      ]
    ]

-- the term of a node among the terms of the nodes
pub nth-node : (sorts : List Sort) (ts : List Term) (ns : List Node) (i : ℕ) (n : Node) → slice_get ns i ≡ Some n
    → IsWhole sorts (terms_behind ts ns) (length ts + i) n → nth (terms_behind ts ns) (length ts + i) ≡ term_of (terms_behind ts ns) n
unfolding terms_behind
nth-node sorts ts [] i n at w = absurd (cc)
nth-node sorts ts (m ∷ ns) zero n at w =
    let all : List Term = terms_behind (ts ++ term_of ts m ∷ []) ns in
    let same : m ≡ n = cc in
    let grown : length ts < length (ts ++ term_of ts m ∷ []) = omega (arith, length-append ts (term_of ts m ∷ [])) in
    let agree : Agree (length ts) all ts = λ k h. nth-terms_behind ts (m ∷ ns) k h in
    let whole : IsWhole sorts all (length ts) n = subst (λ k. IsWhole sorts all k n) (omega arith) w in
    subst (λ k. nth all k ≡ term_of all n) (let e : length ts ≡ length ts + 0 = omega arith in e)
    (nth-terms_behind (ts ++ term_of ts m ∷ []) ns (length ts) grown
    ∙ get_or-append_seam ts (term_of ts m) [] (truth false)
    ∙ ap (term_of ts) same
    ∙ sym (term_of-Agree sorts all ts (length ts) agree n whole))
nth-node sorts ts (m ∷ ns) (suc i) n at w =
    let e : length (ts ++ term_of ts m ∷ []) + i ≡ length ts + suc i = omega (arith, length-append ts (term_of ts m ∷ [])) in
    let all : List Term = terms_behind (ts ++ term_of ts m ∷ []) ns in
    subst (λ k. nth all k ≡ term_of all n) e (nth-node sorts (ts ++ term_of ts m ∷ []) ns i n at (subst (λ k. IsWhole sorts all k n) (sym e) w))

-- in a table a term is the operator of its node with the terms of the parts
pub term-node : (t : Table) → IsTable t → (i : ℕ) (n : Node) → slice_get t.nodes i ≡ Some n → term t.nodes i ≡ term_of (terms_of t.nodes) n
term-node t ok i n at =
    let e : 0 + i ≡ i = omega arith in
    subst (λ k. nth (terms_of t.nodes) k ≡ term_of (terms_of t.nodes) n) e
    (nth-node t.sorts [] t.nodes i n at (subst (λ k. IsWhole t.sorts (terms_of t.nodes) k n) (sym e) (ok.whole i n at)))

-- the terms of a table stay in one that has more
pub record Keeps (old new : List Node) : Type 0 where
  pub more : length old ≤ length new
  pub same : (k : ℕ) → k < length old → term new k ≡ term old k

pub Gives-Keeps : (old new : Table) (n : Node) (at : ℕ) → Gives old new n at → Keeps old.nodes new.nodes
Gives-Keeps old new n at g = elim g.nodes as (λ _. Keeps old.nodes new.nodes) [
  | inl e ↦ record { more = omega (arith, ap length e); same = λ k h. ap (λ ns. term ns k) e }
  | inr e ↦ record { more = omega (arith, ap length e, length-append old.nodes (n ∷ [])); same = λ k h. ap (λ ns. term ns k) e ∙ term-append old.nodes (n ∷ []) k h }
]

-- the term that a table gives for a node
pub Gives-term : (old new : Table) (n : Node) (at : ℕ) → IsWhole old.sorts (terms_of old.nodes) (length old.nodes) n → IsTable new → Gives old new n at
    → term new.nodes at ≡ term_of (terms_of old.nodes) n
Gives-term old new n at w ok g =
    let keeps : Keeps old.nodes new.nodes = Gives-Keeps old new n at g in
    term-node new ok at n g.stands ∙ sym (term_of-Agree old.sorts (terms_of old.nodes) (terms_of new.nodes) (length old.nodes) (λ k h. sym (keeps.same k h)) n w)

-- a new symbol stands behind the last node
pub Gives-symbol : (nodes : List Node) (sorts : List Sort) (s : Sort) (new : Table) (at : ℕ) → IsTable (record { nodes = nodes; sorts = sorts })
    → Gives (record { nodes = nodes; sorts = sorts ++ s ∷ [] }) new (node.Symbol (length sorts) s) at
    → (at ≡ length nodes) × (new.nodes ≡ nodes ++ node.Symbol (length sorts) s ∷ [])
Gives-symbol nodes sorts s new at ok g = elim g.nodes as (λ _. (at ≡ length nodes) × (new.nodes ≡ nodes ++ node.Symbol (length sorts) s ∷ [])) [
  | inl e ↦ absurd (absent at (subst (λ ns. slice_get ns at ≡ Some (node.Symbol (length sorts) s)) e g.stands))
  | inr e ↦ (behind (subst (λ ns. slice_get ns at ≡ Some (node.Symbol (length sorts) s)) e g.stands), e)
]
  where
    absent : (k : ℕ) → slice_get nodes k ≡ Some (node.Symbol (length sorts) s) → ⊥
    absent k h = let within : length sorts < length sorts = slice_get_within sorts (length sorts) s (ok.whole k (node.Symbol (length sorts) s) h) in omega arith

    behind : slice_get (nodes ++ node.Symbol (length sorts) s ∷ []) at ≡ Some (node.Symbol (length sorts) s) → at ≡ length nodes
    behind h = elim (slice_get-cases nodes (node.Symbol (length sorts) s) at (node.Symbol (length sorts) s) h) as (λ _. at ≡ length nodes) [
      | inl w ↦ absurd (absent at w.1)
      | inr w ↦ w.0
    ]
