-- What is under the roots: the roots, and the parts of what is under them.
use Rattle.std.proofs.Common.{◌≡◌, ℕ, zero, suc, ◌+◌, ◌<◌, ◌≤◌, Bool, true, false, ◌||◌, if◌then◌else◌, List, [], ◌∷◌, ◌++◌, slice_get, Some, get_or, refl, sym, ◌∙◌, ap, subst, arith, eqb, inl, inr}
use Rattle.std.proofs.lemmas.List.Folds.{list_any-append}
use Rattle.std.proofs.lemmas.Bool.Decides.{eqb_tells}
use Rattle.std.specs.List.{All}
use Rattle.word_terms.specs.declared.node.Node.{Node}
use Rattle.word_terms.specs.Weights.{has, parts, wanted_from, is_under, HavePartsBefore}

has-append : (xs ys : List ℕ) (t : ℕ) → has (xs ++ ys) t ≡ (has xs t || has ys t)
has-append xs ys t = list_any-append (eqb t) xs ys

or-right : (a b : Bool) → b ≡ true → (a || b) ≡ true
or-right true b h = refl
or-right false b h = h

or-left : (a b : Bool) → a ≡ true → (a || b) ≡ true
or-left a b h = ap (λ c. c || b) h

or-second : (a b : Bool) → a ≡ false → (a || b) ≡ true → b ≡ true
or-second a b e h = sym (ap (λ c. c || b) e) ∙ h

-- what numbers below a bound have
has-below : (xs : List ℕ) (at t : ℕ) → All (λ x. x < at) xs → at ≤ t → has xs t ≡ false
has-below [] at t h l = refl
has-below (x ∷ xs) at t h l =
    let low : x < at = h 0 0 (omega arith) in
    let first : eqb t x ≡ false = elim (eqb_tells t x) as (λ _. eqb t x ≡ false) [
      | inl e ↦ absurd (let same : t ≡ x = e.1 in omega arith)
      | inr e ↦ e.0
    ] in
    ap (λ c. c || has xs t) first ∙ has-below xs at t (λ k d below. h (suc k) d (omega arith)) l

-- one node: with its parts where it is wanted
with_parts : Bool → Node → List ℕ → List ℕ
with_parts b n later = if b then parts n ++ later else later

keeps : (b : Bool) (n : Node) (later : List ℕ) (t : ℕ) → has later t ≡ true → has (with_parts b n later) t ≡ true
unfolding with_parts
keeps true n later t h = has-append (parts n) later t ∙ or-right (has (parts n) t) (has later t) h
keeps false n later t h = h

brings : (n : Node) (later : List ℕ) (t : ℕ) → has (parts n) t ≡ true → has (with_parts true n later) t ≡ true
unfolding with_parts
brings n later t h = has-append (parts n) later t ∙ or-left (has (parts n) t) (has later t) h

came : (b : Bool) (n : Node) (later : List ℕ) (at t : ℕ) → All (λ x. x < at) (parts n) → at ≤ t → has (with_parts b n later) t ≡ true → has later t ≡ true
unfolding with_parts
came true n later at t below h e = or-second (has (parts n) t) (has later t) (has-below (parts n) at t below h) (sym (has-append (parts n) later t) ∙ e)
came false n later at t below h e = e

-- the roots are wanted
pub roots-wanted : (at : ℕ) (ns : List Node) (roots : List ℕ) (t : ℕ) → has roots t ≡ true → has (wanted_from at ns roots) t ≡ true
unfolding with_parts
roots-wanted at [] roots t h = h
roots-wanted at (n ∷ ns) roots t h = keeps (has (wanted_from (suc at) ns roots) at) n (wanted_from (suc at) ns roots) t (roots-wanted (suc at) ns roots t h)

-- nodes whose parts stand before them, from a number on
PartsBeforeFrom : ℕ → List Node → Type 0
PartsBeforeFrom at ns = (i : ℕ) (n : Node) → slice_get ns i ≡ Some n → All (λ t. t < at + i) (parts n)

-- the parts of a wanted node are wanted
pub parts-wanted : (at : ℕ) (ns : List Node) (roots : List ℕ) → ((i : ℕ) (n : Node) → slice_get ns i ≡ Some n → All (λ t. t < at + i) (parts n))
    → (i : ℕ) (n : Node) → slice_get ns i ≡ Some n → has (wanted_from at ns roots) (at + i) ≡ true → (t : ℕ) → has (parts n) t ≡ true → has (wanted_from at ns roots) t ≡ true
unfolding with_parts
parts-wanted at [] roots before i n s w t h = absurd (cc)
parts-wanted at (m ∷ ms) roots before zero n s w t h =
    let later : List ℕ = wanted_from (suc at) ms roots in
    let same : m ≡ n = cc in
    let here : has (with_parts (has later at) m later) at ≡ true = subst (λ k. has (with_parts (has later at) m later) k ≡ true) (let e : at + 0 ≡ at = omega arith in e) w in
    let low : All (λ x. x < at) (parts m) = λ k d l. (λ (p : get_or (parts m) k d < at + 0). let q : get_or (parts m) k d < at = omega arith in q) (before 0 m refl k d l) in
    let wanted : has later at ≡ true = came (has later at) m later at at low (omega arith) here in
    subst (λ b. has (with_parts b m later) t ≡ true) (sym wanted) (brings m later t (subst (λ x. has (parts x) t ≡ true) (sym same) h))
parts-wanted at (m ∷ ms) roots before (suc i) n s w t h =
    let later : List ℕ = wanted_from (suc at) ms roots in
    let e : at + suc i ≡ suc at + i = omega arith in
    let low : All (λ x. x < at) (parts m) = λ k d l. (λ (p : get_or (parts m) k d < at + 0). let q : get_or (parts m) k d < at = omega arith in q) (before 0 m refl k d l) in
    let there : has later (at + suc i) ≡ true = came (has later at) m later at (at + suc i) low (omega arith) w in
    let next : (j : ℕ) (x : Node) → slice_get ms j ≡ Some x → All (λ y. y < suc at + j) (parts x) =
    λ j x sx k d l. (λ (p : get_or (parts x) k d < at + suc j). let q : get_or (parts x) k d < suc at + j = omega arith in q) (before (suc j) x sx k d l) in
    keeps (has later at) m later t (parts-wanted (suc at) ms roots next i n s (subst (λ k. has later k ≡ true) e there) t h)

-- so it is with what is under the roots
pub roots-under : (nodes : List Node) (roots : List ℕ) (t : ℕ) → has roots t ≡ true → is_under nodes roots t ≡ true
roots-under nodes roots t h = roots-wanted 0 nodes roots t h

pub parts-under : (nodes : List Node) (roots : List ℕ) → HavePartsBefore nodes → (i : ℕ) (n : Node) → slice_get nodes i ≡ Some n → is_under nodes roots i ≡ true → (t : ℕ) → has (parts n) t ≡ true
    → is_under nodes roots t ≡ true
parts-under nodes roots before i n s w t h =
    let next : (j : ℕ) (x : Node) → slice_get nodes j ≡ Some x → All (λ y. y < 0 + j) (parts x) =
    λ j x sx k d l. (λ (p : get_or (parts x) k d < j). let q : get_or (parts x) k d < 0 + j = omega arith in q) (before j x sx k d l) in
    let e : i ≡ 0 + i = omega arith in
    parts-wanted 0 nodes roots next i n s (subst (λ k. has (wanted_from 0 nodes roots) k ≡ true) e w) t h
