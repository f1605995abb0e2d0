-- What is among the numbers of a list, and the truths of several walks one after the other.
use Rattle.std.proofs.Common.{◌≡◌, ℕ, Bool, true, false, not, ◌||◌, ◌&&◌, eqb, List, [], ◌∷◌, ◌++◌, refl, sym, ap, ◌∙◌}
use Rattle.plain_functions.specs.Callers.{among}

or_grouped : (x y z : Bool) → ((x || y) || z) ≡ (x || (y || z))
or_grouped true y z = refl
or_grouped false y z = refl

pub or_none : (x : Bool) → (x || false) ≡ x
or_none true = refl
or_none false = refl

pub and_all : (x : Bool) → (x && true) ≡ x
and_all true = refl
and_all false = refl

pub and_none : (x : Bool) → (x && false) ≡ false
and_none true = refl
and_none false = refl

pub joined_2 : (old mid new a b all : Bool) → mid ≡ (old || a) → new ≡ (mid || b) → all ≡ (a || b) → new ≡ (old || all)
joined_2 old mid new a b all m n e = n ∙ ap (λ x. x || b) m ∙ or_grouped old a b ∙ ap (λ x. old || x) (sym e)

pub joined_3 : (old m n new a b c all : Bool) → m ≡ (old || a) → n ≡ (m || b) → new ≡ (n || c) → all ≡ (a || (b || c)) → new ≡ (old || all)
joined_3 old m n new a b c all h1 h2 h3 e = joined_2 old n new (a || b) c all (joined_2 old m n a b (a || b) h1 h2 refl) h3 (e ∙ sym (or_grouped a b c))

pub joined_4 : (old m n o new a b c d all : Bool) → m ≡ (old || a) → n ≡ (m || b) → o ≡ (n || c) → new ≡ (o || d) → all ≡ (a || (b || (c || d))) → new ≡ (old || all)
joined_4 old m n o new a b c d all h1 h2 h3 h4 e = joined_3 old n o new (a || b) c d all (joined_2 old m n a b (a || b) h1 h2 refl) h3 h4 (e ∙ sym (or_grouped a b (c || d)))

-- one more at the end
pub among_more : (g n : ℕ) (ns : List ℕ) → among g (ns ++ n ∷ []) ≡ (among g ns || eqb n g)
among_more g n [] = or_none (eqb n g)
among_more g n (m ∷ ns) = ap (λ x. eqb m g || x) (among_more g n ns) ∙ sym (or_grouped (eqb m g) (among g ns) (eqb n g))

pub among_then : (g n : ℕ) (ns ms : List ℕ) → ms ≡ ns ++ n ∷ [] → among g ms ≡ (among g ns || eqb n g)
among_then g n ns ms e = ap (among g) e ∙ among_more g n ns

-- marks, where one of the functions to be marked is taken first
pub marks_more : (p e r : Bool) → ((p && not (e || false)) && not r) ≡ (p && not (e || r))
marks_more false e r = refl
marks_more true true r = refl
marks_more true false r = refl

pub waits_more : (w p e r : Bool) → ((w || (p && (e || false))) || ((p && not (e || false)) && r)) ≡ (w || (p && (e || r)))
waits_more true p e r = refl
waits_more false false e r = refl
waits_more false true true r = refl
waits_more false true false r = refl

-- callers, where one of the callees is taken first
pub calls_more : (a c e r : Bool) → ((a || (c && (e || false))) || (c && r)) ≡ (a || (c && (e || r)))
calls_more true c e r = refl
calls_more false false e r = refl
calls_more false true true r = refl
calls_more false true false r = refl

-- one function more: it waits if it is open
pub wait_open : (p e : Bool) → (not p || e) ≡ not (p && not e)
wait_open true e = again e
  where
    again : (b : Bool) → b ≡ not (not b)
    again true = refl
    again false = refl
wait_open false e = refl
