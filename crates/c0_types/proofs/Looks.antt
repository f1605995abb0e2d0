-- Look-ups by name, in lists of values beside their names.
use Rattle.std.proofs.Common.{◌≡◌, ℕ, zero, suc, Bool, true, false, List, [], ◌∷◌, ◌++◌, length, Option, Some, None, is_some, slice_get, option_and_then, unwrap_or, refl, sym, subst, ap, ◌∙◌, bytes_eq}
use Rattle.std.proofs.lemmas.Slice.Eq.{bytes_eq-Decides}
use Rattle.c0_names.specs.Names.{last_place, or_here}

-- as many values as names
abbrev pub Even : {A : Type 0} → List (List ℕ) → List A → Type 0
Even [] [] = Unit {0}
Even [] (x ∷ xs) = ⊥
Even (n ∷ ns) [] = ⊥
Even (n ∷ ns) (x ∷ xs) = Even ns xs

abbrev pub look : {A : Type 0} → List (List ℕ) → List A → List ℕ → Option A
look ns xs m = option_and_then (slice_get xs) (last_place ns m)

pub even_more : {A : Type 0} (ns : List (List ℕ)) (xs : List A) (n : List ℕ) (x : A) → Even ns xs →
    Even (ns ++ n ∷ []) (xs ++ x ∷ [])
even_more [] [] n x e = tt
even_more [] (y ∷ xs) n x e = absurd e
even_more (m ∷ ns) [] n x e = absurd e
even_more (m ∷ ns) (y ∷ xs) n x e = even_more ns xs n x e

pub even_length : {A : Type 0} (ns : List (List ℕ)) (xs : List A) → Even ns xs →
    length xs ≡ length ns
even_length [] [] e = refl
even_length [] (y ∷ xs) e = absurd e
even_length (m ∷ ns) [] e = absurd e
even_length (m ∷ ns) (y ∷ xs) e = ap suc (even_length ns xs e)

pub slice_more : {A : Type 0} (xs ys : List A) (i : ℕ) (v : A) → slice_get xs i ≡ Some v →
    slice_get (xs ++ ys) i ≡ Some v
slice_more [] ys i v e = let n : ⊥ = cc in absurd n
slice_more (x ∷ xs) ys zero v e = e
slice_more (x ∷ xs) ys (suc i) v e = slice_more xs ys i v e

pub slice_end : {A : Type 0} (xs : List A) (y : A) (ys : List A) →
    slice_get (xs ++ y ∷ ys) (length xs) ≡ Some y
slice_end [] y ys = refl
slice_end (x ∷ xs) y ys = slice_end xs y ys

pub last_here : (ns : List (List ℕ)) (n m : List ℕ) → bytes_eq n m ≡ true →
    last_place (ns ++ n ∷ []) m ≡ Some (length ns)
last_here [] n m e = ap (λ b. or_here b None) e
last_here (a ∷ ns) n m e = ap (or_here (bytes_eq a m)) (last_here ns n m e)

pub last_other : (ns : List (List ℕ)) (n m : List ℕ) → bytes_eq n m ≡ false →
    last_place (ns ++ n ∷ []) m ≡ last_place ns m
last_other [] n m e = ap (λ b. or_here b None) e
last_other (a ∷ ns) n m e = ap (or_here (bytes_eq a m)) (last_other ns n m e)

pub bytes_same : (n m : List ℕ) → bytes_eq n m ≡ true → n ≡ m
bytes_same n m e = (bytes_eq-Decides n m).0 e

-- a name that is not there is none of those that are
pub differs : (ns : List (List ℕ)) (n m : List ℕ) → last_place ns n ≡ None →
    is_some (last_place ns m) ≡ true → bytes_eq n m ≡ false
differs ns n m a b = split (bytes_eq n m) refl
  where
    split : (c : Bool) → bytes_eq n m ≡ c → c ≡ false
    split false q = refl
    split true q = let s = ap (last_place ns) (bytes_same n m q) in let w : ⊥ = cc in absurd w

and_more : {A : Type 0} (xs ys : List A) (i : Option ℕ) (v : A) →
    option_and_then (slice_get xs) i ≡ Some v → option_and_then (slice_get (xs ++ ys)) i ≡ Some v
and_more xs ys None v e = let n : ⊥ = cc in absurd n
and_more xs ys (Some i) v e = slice_more xs ys i v e

pub look_other : {A : Type 0} (ns : List (List ℕ)) (xs : List A) (n : List ℕ) (x : A) (m :
    List ℕ) (v : A) → bytes_eq n m ≡ false → look ns xs m ≡ Some v →
    look (ns ++ n ∷ []) (xs ++ x ∷ []) m ≡ Some v
look_other ns xs n x m v o e =
    ap (option_and_then (slice_get (xs ++ x ∷ []))) (last_other ns n m o) ∙ and_more xs (x ∷ [])
    (last_place ns m) v e

pub look_here : {A : Type 0} (ns : List (List ℕ)) (xs : List A) (n : List ℕ) (x : A) (m : List ℕ) →
    Even ns xs → bytes_eq n m ≡ true → look (ns ++ n ∷ []) (xs ++ x ∷ []) m ≡ Some x
look_here ns xs n x m even e =
    ap (option_and_then (slice_get (xs ++ x ∷ []))) (last_here ns n m e) ∙ subst
    (λ k. slice_get (xs ++ x ∷ []) k ≡ Some x) (even_length ns xs even) (slice_end xs x [])

here_or_below : {A : Type 0} (x : A) (xs : List A) (b : Bool) (i : Option ℕ) →
    is_some (or_here b i) ≡ true → (is_some i ≡ true →
    is_some (option_and_then (slice_get xs) i) ≡ true) →
    is_some (option_and_then (slice_get (x ∷ xs)) (or_here b i)) ≡ true
here_or_below x xs true None h below = refl
here_or_below x xs false None h below = let n : ⊥ = cc in absurd n
here_or_below x xs b (Some i) h below = below refl

pub look_some : {A : Type 0} (ns : List (List ℕ)) (xs : List A) (m : List ℕ) → Even ns xs →
    is_some (last_place ns m) ≡ true → is_some (look ns xs m) ≡ true
look_some [] xs m b h = let n : ⊥ = cc in absurd n
look_some (n ∷ ns) [] m b h = absurd b
look_some (n ∷ ns) (x ∷ xs) m b h =
    here_or_below x xs (bytes_eq n m) (last_place ns m) h (look_some ns xs m b)

-- what is found has a place
pub placed : {A : Type 0} (ns : List (List ℕ)) (xs : List A) (m : List ℕ) (v : A) →
    look ns xs m ≡ Some v → (i : ℕ) × (last_place ns m ≡ Some i) × (slice_get xs i ≡ Some v)
placed {A} ns xs m v = of (last_place ns m)
  where
    of : (i : Option ℕ) → option_and_then (slice_get xs) i ≡ Some v →
        (j : ℕ) × (i ≡ Some j) × (slice_get xs j ≡ Some v)
    of None e = let n : ⊥ = cc in absurd n
    of (Some j) e = (j, refl, e)

pub found_place : {A : Type 0} (ns : List (List ℕ)) (xs : List A) (m : List ℕ) (v : A) →
    look ns xs m ≡ Some v → is_some (last_place ns m) ≡ true
found_place ns xs m v e = ap is_some (placed ns xs m v e).1

pub look_back : {A : Type 0} (ns : List (List ℕ)) (xs : List A) (n : List ℕ) (x : A) (m :
    List ℕ) (v : A) → Even ns xs → bytes_eq n m ≡ false →
    look (ns ++ n ∷ []) (xs ++ x ∷ []) m ≡ Some v → look ns xs m ≡ Some v
look_back {A} ns xs n x m v even o e = split (look ns xs m) refl
  where
    split : (w : Option A) → look ns xs m ≡ w → w ≡ Some v
    split (Some u) q = sym (look_other ns xs n x m u o q) ∙ e
    split None q =
        let h : is_some (last_place ns m) ≡ true = subst (λ i. is_some i ≡ true)
        (last_other ns n m o) (found_place (ns ++ n ∷ []) (xs ++ x ∷ []) m v e) in
        let s = look_some ns xs m even h in
        let w : ⊥ = cc in absurd w

-- a name's number, where it has a place
pub number_is : (names : List (List ℕ)) (m : List ℕ) (i : ℕ) → last_place names m ≡ Some i →
    unwrap_or (last_place names m) 0 ≡ i
number_is names m i e = ap (λ o. unwrap_or o 0) e
