-- Look-ups by name, in lists of names that grow.
use Rattle.std.proofs.Common.{◌≡◌, ℕ, zero, suc, Bool, true, false, List, [], ◌∷◌, ◌++◌, length, Option, Some, None, is_some, slice_get, refl, subst, ap, bytes_eq, eqb, arith}
use Rattle.std.proofs.lemmas.Bool.{ne_eqb}
use Rattle.std.proofs.lemmas.Option.{slice_get_within}
use Rattle.std.proofs.lemmas.Slice.Eq.{bytes_eq-Decides}
use Rattle.c0_names.specs.Names.{last_place, or_here}

pub slice_more : {A : Type 0} (xs ys : List A) (i : ℕ) (v : A) → slice_get xs i ≡ Some v → slice_get (xs ++ ys) i ≡ Some v
slice_more [] ys i v e = let n : ⊥ = cc in absurd n
slice_more (x ∷ xs) ys zero v e = e
slice_more (x ∷ xs) ys (suc i) v e = slice_more xs ys i v e

pub slice_end : {A : Type 0} (xs : List A) (y : A) → slice_get (xs ++ y ∷ []) (length xs) ≡ Some y
slice_end [] y = refl
slice_end (x ∷ xs) y = slice_end xs y

-- the place behind a list is none of its places
pub place_behind : {A : Type 0} (xs : List A) (i : ℕ) (x : A) → slice_get xs i ≡ Some x → eqb (length xs) i ≡ false
place_behind xs i x e = let within = slice_get_within xs i x e in ne_eqb (length xs) i (λ same. omega (arith, within, same))

pub last_here : (ns : List (List ℕ)) (n m : List ℕ) → bytes_eq n m ≡ true → last_place (ns ++ n ∷ []) m ≡ Some (length ns)
last_here [] n m e = ap (λ b. or_here b None) e
last_here (a ∷ ns) n m e = ap (or_here (bytes_eq a m)) (last_here ns n m e)

pub last_other : (ns : List (List ℕ)) (n m : List ℕ) → bytes_eq n m ≡ false → last_place (ns ++ n ∷ []) m ≡ last_place ns m
last_other [] n m e = ap (λ b. or_here b None) e
last_other (a ∷ ns) n m e = ap (or_here (bytes_eq a m)) (last_other ns n m e)

pub bytes_same : (n m : List ℕ) → bytes_eq n m ≡ true → n ≡ m
bytes_same n m e = (bytes_eq-Decides n m).0 e

-- a name that is not there is none of those that are
pub differs : (ns : List (List ℕ)) (n m : List ℕ) → last_place ns n ≡ None → is_some (last_place ns m) ≡ true → bytes_eq n m ≡ false
differs ns n m a b = split (bytes_eq n m) refl
  where
    split : (c : Bool) → bytes_eq n m ≡ c → c ≡ false
    split false q = refl
    split true q = let s = ap (last_place ns) (bytes_same n m q) in let w : ⊥ = cc in absurd w

pub place_some : (o : Option ℕ) → is_some o ≡ true → (i : ℕ) × (o ≡ Some i)
place_some None e = let n : ⊥ = cc in absurd n
place_some (Some i) e = (i, refl)

-- what is found has the name
pub last_named : (ns : List (List ℕ)) (n : List ℕ) (i : ℕ) → last_place ns n ≡ Some i → slice_get ns i ≡ Some n
last_named [] n i e = let w : ⊥ = cc in absurd w
last_named (x ∷ ns) n i e = of (bytes_eq x n) refl (last_place ns n) (last_named ns n) e
  where
    of : (b : Bool) → bytes_eq x n ≡ b → (o : Option ℕ) → ((j : ℕ) → o ≡ Some j → slice_get ns j ≡ Some n) → or_here b o ≡ Some i → slice_get (x ∷ ns) i ≡ Some n
    of b q (Some j) below k =
        let z : suc j ≡ i = cc in
        subst (λ l. slice_get (x ∷ ns) l ≡ Some n) z (below j refl)
    of true q None below k =
        let z : zero ≡ i = cc in
        subst (λ l. slice_get (x ∷ ns) l ≡ Some n) z (ap Some (bytes_same x n q))
    of false q None below k = let w : ⊥ = cc in absurd w

still_there : (b : Bool) (o p : Option ℕ) → is_some (or_here b o) ≡ true → (is_some o ≡ true → is_some p ≡ true) → is_some (or_here b p) ≡ true
still_there b o (Some j) h k = refl
still_there true o None h k = refl
still_there false None None h k = h
still_there false (Some i) None h k = k refl

pub last_more : (ns more : List (List ℕ)) (n : List ℕ) → is_some (last_place ns n) ≡ true → is_some (last_place (ns ++ more) n) ≡ true
last_more [] more n h = let w : ⊥ = cc in absurd w
last_more (x ∷ ns) more n h = still_there (bytes_eq x n) (last_place ns n) (last_place (ns ++ more) n) h (last_more ns more n)
