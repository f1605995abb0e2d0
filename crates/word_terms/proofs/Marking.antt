-- Marks of terms, and sums of weights.
use Rattle.std.proofs.Common.{◌≡◌, ℕ, suc, zero, ◌+◌, ◌-◌, ◌<◌, ◌≤◌, Bool, true, false, ◌||◌, if◌then◌else◌, List, [], ◌∷◌, ◌++◌, length, get_or, map, take, drop, refl, sym, ◌∙◌, ap, subst, arith, set, eqb, inl, inr, add-one, add-zero, replicate, length-take}
use Rattle.std.proofs.lemmas.List.Folds.{list_any-append}
use Rattle.std.proofs.lemmas.List.{get_or-set_same, get_or-set_other, map-append, drop_all, get_or-replicate, length-replicate}
use Rattle.std.proofs.Math.Seq.{take-suc, drop-cons}
use Rattle.std.proofs.lemmas.Bool.Decides.{eqb_tells}
use Rattle.word_terms.specs.declared.node.TermId.{TermId}
use Rattle.word_terms.specs.declared.node.Node.{Node}
use Rattle.word_terms.specs.Weights.{has, mark_at, Marks, Adds, parts, wanted_from, weight_from, node_weight}

has-append : (xs ys : List ℕ) (t : ℕ) → has (xs ++ ys) t ≡ (has xs t || has ys t)
has-append xs ys t = list_any-append (eqb t) xs ys

-- one more mark
pub Adds-set : (start marks : List Bool) (ids : List ℕ) (x t : ℕ) → length marks ≡ length start → t < length start → x < length start
    → mark_at marks t ≡ (has ids t || mark_at start t) → mark_at (set marks x true) t ≡ (has (ids ++ x ∷ []) t || mark_at start t)
Adds-set start marks ids x t long h k same = elim (eqb_tells t x) as (λ _. mark_at (set marks x true) t ≡ (has (ids ++ x ∷ []) t || mark_at start t)) [
  | inl e ↦
      let within : x < length marks = omega arith in
      ap (mark_at (set marks x true)) e.1 ∙ get_or-set_same marks x true false within
      ∙ sym (ap (λ b. b || mark_at start t) (has-append ids (x ∷ []) t ∙ ap (λ b. has ids t || (b || false)) e.0) ∙ yes (has ids t) (mark_at start t))
  | inr e ↦
      get_or-set_other marks x t true false e.1 ∙ same
      ∙ sym (ap (λ b. b || mark_at start t) (has-append ids (x ∷ []) t ∙ ap (λ b. has ids t || (b || false)) e.0) ∙ no (has ids t) (mark_at start t))
]
  where
    yes : (a b : Bool) → ((a || (true || false)) || b) ≡ true
    yes true b = refl
    yes false b = refl

    no : (a b : Bool) → ((a || (false || false)) || b) ≡ (a || b)
    no true b = refl
    no false b = refl

-- the ids of one term more
pub ids-suc : (ts : List TermId) (i : ℕ) (d : TermId) → i < length ts → map (λ t. t.0) (take (i + 1) ts) ≡ map (λ t. t.0) (take i ts) ++ (get_or ts i d).0 ∷ []
ids-suc ts i d h = rw add-one (ap (map (λ t. t.0)) (take-suc ts i d h) ∙ map-append (λ t. t.0) (take i ts) (get_or ts i d ∷ []))

-- marks to which more are added
pub Marks-Adds : (wanted ts : List ℕ) (n : ℕ) (old new : List Bool) → Marks wanted n old → Adds ts old new → Marks (ts ++ wanted) n new
Marks-Adds wanted ts n old new m a =
    (omega (arith, m.0, a.0), λ t h. a.1 t (omega (arith, m.0)) ∙ ap (λ b. has ts t || b) (m.1 t h) ∙ sym (has-append ts wanted t))

-- the wanted, one node down
pub wanted_from-drop : (nodes : List Node) (roots : List ℕ) (i : ℕ) (d : Node) → i < length nodes
    → wanted_from i (drop i nodes) roots ≡ (if has (wanted_from (suc i) (drop (suc i) nodes) roots) i
    then parts (get_or nodes i d) ++ wanted_from (suc i) (drop (suc i) nodes) roots
    else wanted_from (suc i) (drop (suc i) nodes) roots)
wanted_from-drop nodes roots i d h = ap (λ ns. wanted_from i ns roots) (drop-cons nodes i d h)

-- a sum of weights, one node on
pub weight_from-append : (test : ℕ → Bool) (at : ℕ) (xs ys : List Node) → weight_from test at (xs ++ ys) ≡ weight_from test at xs + weight_from test (at + length xs) ys
weight_from-append test at [] ys = subst (λ k. weight_from test at ys ≡ 0 + weight_from test k ys) (let e : at ≡ at + 0 = omega arith in e) (omega arith)
weight_from-append test at (x ∷ xs) ys =
    let e : suc at + length xs ≡ at + length (x ∷ xs) = omega arith in
    let ih : weight_from test (suc at) (xs ++ ys) ≡ weight_from test (suc at) xs + weight_from test (at + length (x ∷ xs)) ys =
    weight_from-append test (suc at) xs ys ∙ ap (λ k. weight_from test (suc at) xs + weight_from test k ys) e in
    omega (arith, ih)

-- blank marks to which those of the roots are added
pub Marks-blank : (ids : List ℕ) (n : ℕ) (old new : List Bool) → old ≡ replicate n false → Adds ids old new → Marks ids n new
Marks-blank ids n old new blank a =
    let long : length old ≡ n = ap length blank ∙ length-replicate n false in
    (omega (arith, a.0), λ t h. a.1 t (omega arith) ∙ ap (λ b. has ids t || b) (ap (λ l. mark_at l t) blank ∙ get_or-replicate n t false false h) ∙ or-false (has ids t))
  where
    or-false : (b : Bool) → (b || false) ≡ b
    or-false true = refl
    or-false false = refl

-- behind the last node only the roots are wanted
pub wanted_from-end : (nodes : List Node) (roots : List ℕ) → wanted_from (length nodes) (drop (length nodes) nodes) roots ≡ roots
wanted_from-end nodes roots = ap (λ ns. wanted_from (length nodes) ns roots) (drop_all (length nodes) nodes (omega arith))

module _ (nodes : List Node) (roots : List ℕ) (marks : List Bool) (i : ℕ) (d : Node) (h : i < length nodes)
    (m : Marks (wanted_from (suc i) (drop (suc i) nodes) roots) (length nodes) marks) where
  -- one node down, where it is not wanted
  pub Marks-unwanted : mark_at marks i ≡ false → Marks (wanted_from i (drop i nodes) roots) (length nodes) marks
  Marks-unwanted e =
      subst (λ ws. Marks ws (length nodes) marks)
      (sym (wanted_from-drop nodes roots i d h ∙ ap (λ b. if b then parts (get_or nodes i d) ++ wanted_from (suc i) (drop (suc i) nodes) roots else wanted_from (suc i) (drop (suc i) nodes) roots) (sym (m.1 i h) ∙ e)))
      m

  -- and where it is wanted, and its parts are marked
  pub Marks-wanted : (new : List Bool) → mark_at marks i ≡ true → Adds (parts (get_or nodes i d)) marks new → Marks (wanted_from i (drop i nodes) roots) (length nodes) new
  Marks-wanted new e a =
      subst (λ ws. Marks ws (length nodes) new)
      (sym (wanted_from-drop nodes roots i d h ∙ ap (λ b. if b then parts (get_or nodes i d) ++ wanted_from (suc i) (drop (suc i) nodes) roots else wanted_from (suc i) (drop (suc i) nodes) roots) (sym (m.1 i h) ∙ e)))
      (Marks-Adds (wanted_from (suc i) (drop (suc i) nodes) roots) (parts (get_or nodes i d)) (length nodes) marks new m a)

-- a sum of weights, one node on
pub weight_from-take : (test : ℕ → Bool) (nodes : List Node) (i : ℕ) (d : Node) → i < length nodes
    → weight_from test 0 (take (i + 1) nodes) ≡ weight_from test 0 (take i nodes) + (if test i then node_weight (get_or nodes i d) else 0)
weight_from-take test nodes i d h =
    let short : 0 + length (take i nodes) ≡ i = omega (arith, length-take i nodes) in
    rw (add-one, take-suc nodes i d h)
    (weight_from-append test 0 (take i nodes) (get_or nodes i d ∷ []) ∙ ap (λ k. weight_from test 0 (take i nodes) + weight_from test k (get_or nodes i d ∷ [])) short
    ∙ ap (λ n. weight_from test 0 (take i nodes) + n) (add-zero (if test i then node_weight (get_or nodes i d) else 0)))

-- tests that agree on the nodes weigh them alike
pub weight_from-same : (p q : ℕ → Bool) (at : ℕ) (nodes : List Node) → ((t : ℕ) → at ≤ t → t < at + length nodes → p t ≡ q t) → weight_from p at nodes ≡ weight_from q at nodes
weight_from-same p q at [] h = refl
weight_from-same p q at (n ∷ ns) h =
    let first : p at ≡ q at = h at (omega arith) (omega arith) in
    let rest : weight_from p (suc at) ns ≡ weight_from q (suc at) ns = weight_from-same p q (suc at) ns (λ t l u. h t (omega arith) (omega arith)) in
    ap (λ b. (if b then node_weight n else 0) + weight_from p (suc at) ns) first ∙ ap (λ k. (if q at then node_weight n else 0) + k) rest

-- what is right from a place on, as it reads one node down
pub wanted-lower : (nodes : List Node) (roots : List ℕ) (marks : List Bool) (i : ℕ) → 0 < i → Marks (wanted_from i (drop i nodes) roots) (length nodes) marks
    → Marks (wanted_from (suc (i - 1)) (drop (suc (i - 1)) nodes) roots) (length nodes) marks
wanted-lower nodes roots marks i h m =
    let e : i ≡ suc (i - 1) = omega arith in
    subst (λ k. Marks (wanted_from k (drop k nodes) roots) (length nodes) marks) e m
