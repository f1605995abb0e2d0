-- The loops over a table's terms and over roots.
use Rattle.std.proofs.Common.{◌≡◌, ℕ, suc, ◌+◌, ◌-◌, ◌/◌, ◌%◌, ◌<◌, ◌≤◌, Bool, if◌then◌else◌, eqb, List, [], ◌∷◌, ◌++◌, length, get_or, take, drop, map, refl, sym, ◌∙◌, ap, arith, add-one, append_assoc}
use Rattle.std.proofs.lemmas.List.{drop_all, take_all, map-append}
use Rattle.std.proofs.Math.Seq.{drop-cons, take-suc}
use Rattle.sat_check.specs.declared.clause.Lit.{Lit}
use Rattle.sat_check.specs.declared.clause.Clause.{Clause}
use Rattle.word_terms.specs.declared.node.TermId.{TermId}
use Rattle.word_terms.specs.declared.node.Node.{Node}
use Rattle.word_blast.specs.Bits.{bits_of}
use Rattle.word_blast.specs.Gates.{Circuit, constant_lit, lit_of}
use Rattle.word_blast.specs.Groups.{lits_from}
use Rattle.word_blast.specs.Circuits.{Blasted, with_node, without_node, blasted}

add_nil : {A : Type 0} (xs : List A) → xs ++ [] ≡ xs
add_nil [] = refl
add_nil (x ∷ xs) = ap (λ ys. x ∷ ys) (add_nil xs)

-- one term more
pub blasted-step : (test : ℕ → Bool) (nodes : List Node) (b next end : Blasted) (i : ℕ) (asked : Bool) (d : Node) → i < length nodes → asked ≡ test i
    → next ≡ (if asked then with_node (get_or nodes i d) b else without_node b) → blasted test i (drop i nodes) b ≡ end → blasted test (i + 1) (drop (i + 1) nodes) next ≡ end
unfolding blasted
blasted-step test nodes b next end i asked d h a n e =
    ap (λ j. blasted test j (drop j nodes) next) (add-one i)
    ∙ ap (blasted test (suc i) (drop (suc i) nodes)) (n ∙ ap (λ c. if c then with_node (get_or nodes i d) b else without_node b) a)
    ∙ sym (ap (λ ns. blasted test i ns b) (drop-cons nodes i d h)) ∙ e

pub blasted-end : (test : ℕ → Bool) (nodes : List Node) (b end : Blasted) (i : ℕ) → length nodes ≤ i → blasted test i (drop i nodes) b ≡ end → b ≡ end
unfolding blasted
blasted-end test nodes b end i h e = sym (ap (λ ns. blasted test i ns b) (drop_all i nodes h)) ∙ e

-- one root more
pub roots-step : (f : ℕ → Clause) (ts : List TermId) (i : ℕ) (d : TermId) (k mid next : Circuit) (c : Clause) → i < length ts → c ≡ f (get_or ts i d).0
    → mid ≡ record { variables = k.variables; clauses = k.clauses ++ map f (map (λ t. t.0) (take i ts)) }
    → next ≡ record { variables = mid.variables; clauses = mid.clauses ++ c ∷ [] }
    → next ≡ record { variables = k.variables; clauses = k.clauses ++ map f (map (λ t. t.0) (take (i + 1) ts)) }
roots-step f ts i d k mid next c h e m n =
    let more : map f (map (λ t. t.0) (take (i + 1) ts)) ≡ map f (map (λ t. t.0) (take i ts)) ++ c ∷ [] =
    ap (λ j. map f (map (λ (t : TermId). t.0) (take j ts))) (add-one i)
    ∙ ap (λ us. map f (map (λ (t : TermId). t.0) us)) (take-suc ts i d h)
    ∙ ap (map f) (map-append (λ (t : TermId). t.0) (take i ts) (get_or ts i d ∷ []))
    ∙ map-append f (map (λ t. t.0) (take i ts)) ((get_or ts i d).0 ∷ [])
    ∙ ap (λ x. map f (map (λ (t : TermId). t.0) (take i ts)) ++ x ∷ []) (sym e) in
    n ∙ ap (λ j. let x : Circuit = record { variables = j.variables; clauses = j.clauses ++ c ∷ [] } in x) m
    ∙ ap (λ cs. let x : Circuit = record { variables = k.variables; clauses = cs } in x) (append_assoc k.clauses (map f (map (λ t. t.0) (take i ts))) (c ∷ []) ∙ ap (λ us. k.clauses ++ us) (sym more))

pub roots-start : (f : ℕ → Clause) (k : Circuit) → k ≡ record { variables = k.variables; clauses = k.clauses ++ map f [] }
roots-start f k = ap (λ cs. let x : Circuit = record { variables = k.variables; clauses = cs } in x) (sym (add_nil k.clauses))

pub roots-end : (f : ℕ → Clause) (ts : List TermId) (i : ℕ) (k mid : Circuit) → length ts ≤ i → mid ≡ record { variables = k.variables; clauses = k.clauses ++ map f (map (λ t. t.0) (take i ts)) }
    → mid ≡ record { variables = k.variables; clauses = k.clauses ++ map f (map (λ t. t.0) ts) }
roots-end f ts i k mid h m = m ∙ ap (λ us. let x : Circuit = record { variables = k.variables; clauses = k.clauses ++ map f (map (λ (t : TermId). t.0) us) } in x) (take_all i ts h)

-- one new variable more
pub lits-step : (out more all : List Lit) (l : Lit) (v end : ℕ) → v < end → l ≡ lit_of v → more ≡ out ++ l ∷ [] → out ++ lits_from v (end - v) ≡ all → more ++ lits_from (v + 1) (end - (v + 1)) ≡ all
lits-step out more all l v end h e m i =
    let n : end - v ≡ suc (end - suc v) = omega arith in
    let rest : lits_from v (end - v) ≡ lit_of v ∷ lits_from (suc v) (end - suc v) = ap (lits_from v) n in
    ap (λ us. us ++ lits_from (v + 1) (end - (v + 1))) (m ∙ ap (λ x. out ++ x ∷ []) e)
    ∙ ap (λ j. (out ++ lit_of v ∷ []) ++ lits_from j (end - j)) (add-one v)
    ∙ append_assoc out (lit_of v ∷ []) (lits_from (suc v) (end - suc v))
    ∙ ap (λ us. out ++ us) (sym rest) ∙ i

pub lits-end : (out all : List Lit) (v end : ℕ) → end ≤ v → out ++ lits_from v (end - v) ≡ all → out ≡ all
lits-end out all v end h i =
    let n : end - v ≡ 0 = omega arith in
    sym (add_nil out) ∙ ap (λ k. out ++ lits_from v k) (sym n) ∙ i

-- one bit of a word more
pub constants-step : (out more all : List Lit) (l : Lit) (i rest next : ℕ) → i < 32 → l ≡ constant_lit (eqb (rest % 2) 1) → next ≡ rest / 2 → more ≡ out ++ l ∷ []
    → out ++ map constant_lit (bits_of (32 - i) rest) ≡ all → more ++ map constant_lit (bits_of (32 - (i + 1)) next) ≡ all
constants-step out more all l i rest next h e n m j =
    let k : 32 - i ≡ suc (32 - (i + 1)) = omega arith in
    let tail : List Lit = map constant_lit (bits_of (32 - (i + 1)) (rest / 2)) in
    let at : map constant_lit (bits_of (32 - i) rest) ≡ constant_lit (eqb (rest % 2) 1) ∷ tail = ap (λ w. map constant_lit (bits_of w rest)) k in
    ap (λ us. us ++ map constant_lit (bits_of (32 - (i + 1)) next)) (m ∙ ap (λ x. out ++ x ∷ []) e)
    ∙ ap (λ r. (out ++ constant_lit (eqb (rest % 2) 1) ∷ []) ++ map constant_lit (bits_of (32 - (i + 1)) r)) n
    ∙ append_assoc out (constant_lit (eqb (rest % 2) 1) ∷ []) tail
    ∙ ap (λ us. out ++ us) (sym at) ∙ j

pub constants-end : (out all : List Lit) (i rest : ℕ) → 32 ≤ i → out ++ map constant_lit (bits_of (32 - i) rest) ≡ all → out ≡ all
constants-end out all i rest h j =
    let n : 32 - i ≡ 0 = omega arith in
    sym (add_nil out) ∙ ap (λ k. out ++ map constant_lit (bits_of k rest)) (sym n) ∙ j
